-- The tree of a document whose root is shown is whole.
use Rattle.std.proofs.Common.{◌≡◌, ◌∙◌, ℕ, ◌-◌, Bool, true, false, cond, not, IsTrue, List, [], ◌∷◌, Option, None, Some, length, slice_get, refl, sym, ap, subst, arith}
use Rattle.std.proofs.lemmas.Option.{slice_get_within}
use Rattle.bk_num.specs.declared.values.Pseudo.TheVariants as pseudo
use Rattle.boxes.specs.declared.place.Event.TheVariants.{Closes}
use Rattle.boxes.specs.Tree.{IsWhole, takes_leaf}
use Rattle.dom.specs.Nodes.{Node, NodeData, Element, Text, IsTree, is_element, is_element_node, parents_of, part_of, text_in}
use Rattle.dom.proofs.WalkLemmas.{root-element}
use Rattle.style.specs.declared.style.Style.{Style}
use Rattle.style.specs.Nodes.{NodeStyles, is_shown_in, style_of}
use Rattle.style.specs.Styles.{initial_style}
use Rattle.box_gen.specs.Flow.{Built, built_of, closed, nothing, shut, with_run, last_items}
use Rattle.box_gen.specs.Gather.{Gathered, adds, begun, make}
use Rattle.box_gen.specs.Sources.{IsRootShown}
use Rattle.box_gen.specs.Trees.{Source, Forest, below, Role, hidden, block, element_role, role_by, role_of, shown_role}
use Rattle.box_gen.proofs.DepthLemmas.{built-gathered}
use Rattle.box_gen.proofs.FlowLemmas.{opens-gathered, run-none}
use Rattle.box_gen.proofs.TreeLemmas.{opens, opens-opened, opens-run, opens-shut, shut-ends}
use Rattle.box_gen.proofs.Gathering.{gather_node, gathered}

-- a root that is shown is a block
root-block : (src : Source) → IsTree src.nodes → (r : IsRootShown src.styles) → role_of src 0 ≡ block r.style
root-block src t r = ap (role_by false true (slice_get src.styles 0)) (no-text (slice_get src.nodes 0) (root-element src.nodes t)) ∙ by (slice_get src.styles 0) r.own r.shown
  where
    no-text : (o : Option Node) → is_element_node o ≡ true → part_of text_in o ≡ None
    no-text None e = cc
    no-text (Some n) e = of n.what e
      where
        of : (w : NodeData) → is_element w ≡ true → text_in w ≡ None
        of (Element name attrs) h = refl
        of (Text y) h = cc

    by : (o : Option NodeStyles) → style_of o pseudo.Element ≡ Some r.style → IsTrue (is_shown_in o) → element_role false true o ≡ block r.style
    by None own shown = cc
    by (Some x) own shown = ap (λ (b : Bool). cond b (shown_role false true x.own) hidden) shown ∙ ap (shown_role false true) own

pub whole : (src : Source) → IsTree src.nodes → IsRootShown src.styles → IsWhole (built_of src).tree.events
unfolding gathered
whole src t r = subst (λ (b : Built). IsWhole b.tree.events) (sym all) (record {
  some = (let last = shut-ends put.tree owner [] alone in let w = slice_get_within (shut put.tree).events (length (shut put.tree).events - 1) (Closes last.0) last.1 in omega (arith, w));
  closed = opens-shut put.tree owner [] alone;
})
  where
    u : Style
    u = r.style

    kids : Forest
    kids = below (parents_of src.nodes) (length src.nodes - 1) 0

    before : Built
    before = with_run src initial_style true nothing []

    owner : ℕ
    owner = length before.tree.boxes

    g1 : Gathered
    g1 = begun src initial_style 0 u (make nothing [])

    g2 : Gathered
    g2 = adds (last_items src 0) (gathered src u u kids g1)

    put : Built
    put = with_run src u (not (takes_leaf g2.built.tree.events)) g2.built g2.run

    alone : opens put.tree ≡ owner ∷ []
    alone = opens-run src u (not (takes_leaf g2.built.tree.events)) g2.built g2.run ∙ opens-gathered src u u kids g1 ∙ opens-opened src 0 u before ∙ ap (λ (l : List ℕ). owner ∷ l) (opens-run src initial_style true nothing [])

    all : built_of src ≡ closed put
    all = built-gathered src
        ∙ ap (λ (q : Role). with_run src initial_style true (gather_node src initial_style initial_style 0 q (λ v c h. gathered src v c kids h) (make nothing [])).built (gather_node src initial_style initial_style 0 q (λ v c h. gathered src v c kids h) (make nothing [])).run) (root-block src t r)
        ∙ run-none src initial_style true (closed put)
