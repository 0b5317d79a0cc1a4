-- What a walk over the nodes gathers: what is built, and the run that isn't put yet.
use Rattle.std.specs.Prelude.{ℕ, true, not, List, [], ◌∷◌, ◌++◌}
use Rattle.boxes.specs.Tree.{takes_leaf}
use Rattle.bk_num.specs.declared.values.Pseudo.TheVariants as pseudo
use Rattle.style.specs.declared.style.Style.{Style}
use Rattle.box_gen.specs.Items.{InlineItem}
use Rattle.box_gen.specs.Items as item
use Rattle.box_gen.specs.Trees.{Source}
use Rattle.box_gen.specs.Flow.{Built, closed, first_items, generated_items, opened, with_run}

-- what is built, and the run that isn't put yet
pub record Gathered : Type 0 where
  pub built : Built
  pub run : List InlineItem

-- the same from its parts
abbrev pub make : Built → List InlineItem → Gathered
make b items = record { built = b; run = items }

-- more items at the end of the run
abbrev pub adds : List InlineItem → Gathered → Gathered
adds items g = make g.built (g.run ++ items)

-- the run put at the end of a block, and the block closed
abbrev pub ended : Source → Style → Gathered → Gathered
ended src s g = make (closed (with_run src s (not (takes_leaf g.built.tree.events)) g.built g.run)) []

-- a block begins in a block of a style
abbrev pub begun : Source → Style → ℕ → Style → Gathered → Gathered
begun src b n u g = make (opened src n u (with_run src b true g.built g.run)) (first_items src u n)

-- a note element is called
abbrev pub called : Source → ℕ → Gathered → Gathered
called src n g = adds (generated_items src n pseudo.Call) (adds (item.Start (record { 0 = n }) ∷ []) g)
