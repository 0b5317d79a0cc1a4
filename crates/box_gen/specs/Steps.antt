-- What each step of a walk asks of what is gathered before it.
use Rattle.std.specs.Prelude.{ℕ, true, not, List, Option, None, Some, IsTrue, IsSome, map, reverse, option_map}
use Rattle.std.specs.List.{All}
use Rattle.bk_num.specs.declared.ids.NodeId.{NodeId}
use Rattle.bk_num.specs.declared.values.Pseudo.TheVariants as pseudo
use Rattle.boxes.specs.Contents.{IsGoodSpan}
use Rattle.boxes.specs.Tree.{HaveOwners, takes_box, takes_leaf, innermost_of}
use Rattle.dom.specs.declared.walk.Step.{Step}
use Rattle.dom.specs.declared.walk.Step.TheVariants.{Enter, Leave}
use Rattle.style.specs.declared.style.Style.{Style}
use Rattle.style.specs.Nodes.{NodeStyles, style_at}
use Rattle.box_gen.specs.declared.builder.FlowBuilder.{FlowBuilder}
use Rattle.box_gen.specs.Flow.{last_items, with_run}
use Rattle.box_gen.specs.Gather.{Gathered, adds, make}
use Rattle.box_gen.specs.Runs.{AreGoodTexts}
use Rattle.box_gen.specs.Sites.{built_in}
use Rattle.box_gen.specs.Trees.{Source, Role, text, hidden, inline, block, note, role_of}
use Rattle.box_gen.specs.Walk.{Walk, innermost, style_or_initial, walk}

-- the styles of open blocks, the outermost first, from the innermost on
abbrev pub styles_of : List NodeStyles → List NodeId → List Style
styles_of styles ns = map (λ n. style_or_initial (style_at styles n.0 pseudo.Element)) (reverse ns)

-- the walk that a builder has come to
abbrev pub walk_in : List NodeStyles → FlowBuilder → Walk
walk_in styles b = walk (make (built_in b.site) b.run) (styles_of styles b.blocks.items)
    (option_map (λ n. n.0) b.unshown)

-- a run may be put: a box may open, the markers that wait are those of open boxes, and no size is negative
pub record CanPut (g : Gathered) : Type 0 where
  pub place : IsTrue (takes_box g.built.tree.events)
  pub owners : HaveOwners g.built.tree.events g.built.pending
  pub leads : All (λ lead. IsGoodSpan lead.span) g.built.pending
  pub texts : AreGoodTexts g.run

-- a block may begin in a block of a style
pub record CanBegin (src : Source) (s : Style) (g : Gathered) : Type 0 where
  pub run : CanPut g
  pub box : IsTrue (takes_box (with_run src s true g.built g.run).tree.events)

-- a block of a style may end
pub record CanEnd (src : Source) (s : Style) (g : Gathered) : Type 0 where
  pub run : CanPut g
  pub box : IsSome (innermost_of (with_run src s (not (takes_leaf g.built.tree.events)) g.built g.run).tree.events)

-- a node of this role may be entered
abbrev pub CanEnterNode : Source → Role → Walk → Type 0
CanEnterNode src hidden w = Unit {0}
CanEnterNode src (text t) w = Unit {0}
CanEnterNode src (inline u) w = Unit {0}
CanEnterNode src (block u) w = CanBegin src (innermost w.blocks) w.gathered
CanEnterNode src (note u) w = Unit {0}

-- a node of this role may be left
abbrev pub CanLeaveNode : Source → ℕ → Role → Walk → Type 0
CanLeaveNode src n hidden w = Unit {0}
CanLeaveNode src n (text t) w = Unit {0}
CanLeaveNode src n (inline u) w = Unit {0}
CanLeaveNode src n (block u) w = CanEnd src u (adds (last_items src n) w.gathered)
CanLeaveNode src n (note u) w = Unit {0}

-- a node may be entered, where the walk passes over an element or not
abbrev pub CanEnter : Source → ℕ → Option ℕ → Walk → Type 0
CanEnter src n None w = CanEnterNode src (role_of src n) w
CanEnter src n (Some h) w = Unit {0}

-- a node may be left, where the walk passes over an element or not
abbrev pub CanLeave : Source → ℕ → Option ℕ → Walk → Type 0
CanLeave src n None w = CanLeaveNode src n (role_of src n) w
CanLeave src n (Some h) w = Unit {0}

-- a step may be taken
abbrev pub CanStep : Source → Walk → Step → Type 0
CanStep src w (Enter n) = CanEnter src n.0 w.unshown w
CanStep src w (Leave n) = CanLeave src n.0 w.unshown w
