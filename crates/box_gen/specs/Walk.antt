-- A walk over the nodes of a document, step by step.
use Rattle.std.specs.Prelude.{ℕ, ◌==◌, List, [], ◌∷◌, Option, None, Some, if◌then◌else◌}
use Rattle.bk_num.specs.declared.values.Pseudo.TheVariants as pseudo
use Rattle.dom.specs.Nodes.{parents_of, parent_at}
use Rattle.dom.specs.Walk.{steps_of}
use Rattle.dom.specs.declared.walk.Step.{Step}
use Rattle.dom.specs.declared.walk.Step.TheVariants.{Enter, Leave}
use Rattle.style.specs.declared.style.Style.{Style}
use Rattle.style.specs.Nodes.{style_at}
use Rattle.style.specs.Styles.{initial_style}
use Rattle.box_gen.specs.Items as item
use Rattle.box_gen.specs.Trees.{Source, Role, text, hidden, inline, block, note, role_of}
use Rattle.box_gen.specs.Flow.{first_items, last_items, nothing, text_item}
use Rattle.box_gen.specs.Gather.{Gathered, adds, begun, called, ended, make}

-- what the walk keeps: what is gathered, the styles of the open blocks, the innermost first, and the element that it
-- passes over, which isn't shown or is a note
pub record Walk : Type 0 where
  pub gathered : Gathered
  pub blocks : List Style
  pub unshown : Option ℕ

-- the same from its parts
abbrev pub walk : Gathered → List Style → Option ℕ → Walk
walk g blocks o = record { gathered = g; blocks = blocks; unshown = o }

-- a style, or the initial one
abbrev pub style_or_initial : Option Style → Style
style_or_initial None = initial_style
style_or_initial (Some s) = s

-- the style of an element, or the initial one
abbrev pub element_style : Source → Option ℕ → Style
element_style src None = initial_style
element_style src (Some p) = style_or_initial (style_at src.styles p pseudo.Element)

-- the style of the element around a node
abbrev pub style_around : Source → ℕ → Style
style_around src n = element_style src (parent_at (parents_of src.nodes) n)

-- the style of the innermost open block, or the initial one
abbrev pub innermost : List Style → Style
innermost [] = initial_style
innermost (b ∷ bs) = b

-- the styles of the blocks around the innermost one
abbrev pub outer : List Style → List Style
outer [] = []
outer (b ∷ bs) = bs

-- the walk after a node of a role is entered
abbrev pub enter_node : Source → ℕ → Role → Walk → Walk
enter_node src n hidden w = walk w.gathered w.blocks (Some n)
enter_node src n (text t) w = walk (adds (text_item src (style_around src n) t ∷ []) w.gathered) w.blocks None
enter_node src n (inline u) w =
    walk (adds (first_items src u n) (adds (item.Start (record { 0 = n }) ∷ []) w.gathered)) w.blocks None
enter_node src n (block u) w = walk (begun src (innermost w.blocks) n u w.gathered) (u ∷ w.blocks) None
enter_node src n (note u) w = walk (called src n w.gathered) w.blocks (Some n)

-- the walk after a node of a role is left
abbrev pub leave_node : Source → ℕ → Role → Walk → Walk
leave_node src n hidden w = walk w.gathered w.blocks None
leave_node src n (text t) w = walk w.gathered w.blocks None
leave_node src n (inline u) w = walk (adds (last_items src n) w.gathered) w.blocks None
leave_node src n (block u) w = walk (ended src u (adds (last_items src n) w.gathered)) (outer w.blocks) None
leave_node src n (note u) w = walk w.gathered w.blocks None

-- nothing is gathered in an element that is passed over, up to the step out of it
abbrev pub enter_by : Source → ℕ → Option ℕ → Walk → Walk
enter_by src n None w = enter_node src n (role_of src n) w
enter_by src n (Some h) w = w

-- the walk out of a node, which ends where it passes over this one
abbrev pub leave_by : Source → ℕ → Option ℕ → Walk → Walk
leave_by src n None w = leave_node src n (role_of src n) w
leave_by src n (Some h) w = if h == n then walk w.gathered w.blocks None else w

-- the walk after a step
abbrev pub after_step : Source → Walk → Step → Walk
after_step src w (Enter n) = enter_by src n.0 w.unshown w
after_step src w (Leave n) = leave_by src n.0 w.unshown w

-- the walk after some steps
abbrev pub after_steps : Source → Walk → List Step → Walk
after_steps src w [] = w
after_steps src w (s ∷ steps) = after_steps src (after_step src w s) steps

-- the walk over a whole document
abbrev pub walked : Source → Walk
walked src = after_steps src (walk (make nothing []) [] None) (steps_of src.nodes)
