-- What the nodes of a tree gather, as a recursion over it.
use Rattle.std.specs.Prelude.{ℕ, [], ◌∷◌}
use Rattle.style.specs.declared.style.Style.{Style}
use Rattle.box_gen.specs.Items as item
use Rattle.box_gen.specs.Trees.{Source, Forest, none, node, Role, text, hidden, inline, block, note, role_of}
use Rattle.box_gen.specs.Flow.{first_items, last_items, text_item}
use Rattle.box_gen.specs.Gather.{Gathered, adds, begun, called, ended}

-- what a node in an element of one style and a block of another gathers, where its children do so by `inside`
abbrev pub gather_node : Source → Style → Style → ℕ → Role → (Style → Style → Gathered → Gathered) → Gathered → Gathered
gather_node src s b n hidden inside g = g
gather_node src s b n (text t) inside g = adds (text_item src s t ∷ []) g
gather_node src s b n (inline u) inside g =
    adds (last_items src n) (inside u b (adds (first_items src u n) (adds (item.Start (record { 0 = n }) ∷ []) g)))
gather_node src s b n (block u) inside g = ended src u (adds (last_items src n) (inside u u (begun src b n u g)))
gather_node src s b n (note u) inside g = called src n g

-- what nodes gather, one after another
unfoldable pub gathered : Source → Style → Style → Forest → Gathered → Gathered
gathered src s b none g = g
gathered src s b (node n kids more) g =
    gathered src s b more (gather_node src s b n (role_of src n) (λ u c h. gathered src u c kids h) g)
