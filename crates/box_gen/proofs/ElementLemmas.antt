-- The elements of a main tree begin in tree order, and as many note elements are called as there are bodies.
use Rattle.std.proofs.Common.{◌≡◌, ◌∙◌, ℕ, suc, ◌+◌, ◌==◌, Bool, true, false, cond, not, List, [], ◌∷◌, ◌++◌, append-nil, append_assoc, Option, None, Some, filter, length, map, refl, sym, ap, arith}
use Rattle.std.specs.Prelude.{slice_get}
use Rattle.std.proofs.lemmas.List.{length-map, map-append}
use Rattle.bk_num.specs.declared.values.Pseudo.{Pseudo}
use Rattle.bk_num.specs.declared.values.Pseudo.TheVariants as pseudo
use Rattle.boxes.specs.declared.flow.Start.{Start}
use Rattle.boxes.specs.Tree.{takes_leaf}
use Rattle.dom.specs.Nodes.{text_at}
use Rattle.inline_text.specs.declared.space.TextPart.{TextPart}
use Rattle.style.specs.declared.style.Style.{Style}
use Rattle.style.specs.Nodes.{NodeStyles, style_at}
use Rattle.style.specs.Styles.{initial_style}
use Rattle.soft_hyphens.specs.Words.{Points}
use Rattle.box_gen.specs.Items.{InlineItem}
use Rattle.box_gen.specs.Items as item
use Rattle.box_gen.specs.Flow.{Built, bodies_in, bodies_of, built_of, calls_of, first_items, generated_by, generated_items, last_items, node_bodies, nothing, put_by, represented_items, starts_by, text_item, with_run}
use Rattle.box_gen.specs.Gather.{Gathered, adds, begun, called, ended, make}
use Rattle.box_gen.specs.Leaves.{leaf_style_of}
use Rattle.box_gen.specs.Notes.{NoteElement, node_notes, note_built, note_elements, note_places, notes_in}
use Rattle.box_gen.specs.Props.{anonymous_props}
use Rattle.box_gen.specs.Represented.{represented_text}
use Rattle.box_gen.specs.Runs.{marks_in, printed_in, starts_from, starts_of, text_of}
use Rattle.box_gen.specs.Trees.{Source, Forest, none, node, forest_of, is_block, is_note_element, Role, text, hidden, inline, block, note, role_by, role_of, shown_role}
use Rattle.box_gen.proofs.DepthLemmas.{built-gathered}
use Rattle.box_gen.proofs.Gathering.{gather_node, gathered}

-- ---- the elements that begin in a run

abbrev pub run_nodes : List InlineItem → List ℕ
run_nodes [] = []
run_nodes (item.Text t ∷ items) = run_nodes items
run_nodes (item.Start n ∷ items) = n.0 ∷ run_nodes items

abbrev pub nodes_in : List Start → List ℕ
nodes_in starts = map (λ (a : Start). a.node.0) starts

pub nodes-append : (xs ys : List InlineItem) → run_nodes (xs ++ ys) ≡ run_nodes xs ++ run_nodes ys
nodes-append [] ys = refl
nodes-append (item.Text t ∷ xs) ys = nodes-append xs ys
nodes-append (item.Start n ∷ xs) ys = ap (λ (l : List ℕ). n.0 ∷ l) (nodes-append xs ys)

from-nodes : (event at : ℕ) (items : List InlineItem) (ts : List (List ℕ)) → nodes_in (starts_by event (starts_from at (marks_in items) ts)) ≡ run_nodes items
from-nodes event at [] ts = refl
from-nodes event at (item.Text t ∷ items) [] = from-nodes event at items []
from-nodes event at (item.Text t ∷ items) (x ∷ ts) = from-nodes event (at + length x) items ts
from-nodes event at (item.Start n ∷ items) ts = ap (λ (l : List ℕ). n.0 ∷ l) (from-nodes event at items ts)

starts-nodes : (points : Option Points) (starts : List Start) (event : ℕ) (items : List InlineItem) → nodes_in (starts ++ starts_by event (starts_of points items)) ≡ nodes_in starts ++ run_nodes items
unfolding starts_of
starts-nodes points starts event items = map-append (λ (a : Start). a.node.0) starts (starts_by event (starts_of points items)) ∙ ap (λ (l : List ℕ). nodes_in starts ++ l) (from-nodes event 0 items (printed_in points items))

pub run-nodes : (src : Source) (s : Style) (wrap : Bool) (b : Built) (items : List InlineItem) → nodes_in (with_run src s wrap b items).starts ≡ nodes_in b.starts ++ run_nodes items
run-nodes src s wrap b items = by (length (text_of src.points items) == 0) wrap
  where
    by : (e w : Bool) → nodes_in (put_by e w src.points (leaf_style_of s (src.face s)) (anonymous_props s) b items).starts ≡ nodes_in b.starts ++ run_nodes items
    by true w = starts-nodes src.points b.starts (length b.tree.events) items
    by false true = starts-nodes src.points b.starts (suc (length b.tree.events)) items
    by false false = starts-nodes src.points b.starts (length b.tree.events) items

-- generated texts hold no element
pub no-generated : (src : Source) (n : ℕ) (p : Pseudo) → run_nodes (generated_items src n p) ≡ []
no-generated src n p = by (style_at src.styles n p)
  where
    by : (o : Option Style) → run_nodes (generated_by src n p o) ≡ []
    by None = refl
    by (Some s) = refl

pub no-first : (src : Source) (s : Style) (n : ℕ) → run_nodes (first_items src s n) ≡ []
no-first src s n = nodes-append (generated_items src n pseudo.Before) (represented_items src s (represented_text src.nodes n s.white_space)) ∙ ap (λ (l : List ℕ). l ++ run_nodes (represented_items src s (represented_text src.nodes n s.white_space))) (no-generated src n pseudo.Before) ∙ by (represented_text src.nodes n s.white_space)
  where
    by : (o : Option TextPart) → run_nodes (represented_items src s o) ≡ []
    by None = refl
    by (Some p) = refl

-- ---- what is gathered

-- the elements that have begun
abbrev pub known : Gathered → List ℕ
known g = nodes_in g.built.starts ++ run_nodes g.run

known-adds : (g : Gathered) (items : List InlineItem) → known (adds items g) ≡ known g ++ run_nodes items
known-adds g items = ap (λ (l : List ℕ). nodes_in g.built.starts ++ l) (nodes-append g.run items) ∙ sym (append_assoc (nodes_in g.built.starts) (run_nodes g.run) (run_nodes items))

-- texts without elements
pub known-texts : (g : Gathered) (items : List InlineItem) → run_nodes items ≡ [] → known (adds items g) ≡ known g
known-texts g items e = known-adds g items ∙ ap (λ (l : List ℕ). known g ++ l) e ∙ append-nil (known g)

known-begun : (src : Source) (b : Style) (n : ℕ) (u : Style) (g : Gathered) → known (begun src b n u g) ≡ known g ++ n ∷ []
known-begun src b n u g =
    let before : Built = with_run src b true g.built g.run in
    ap (λ (l : List ℕ). nodes_in (begun src b n u g).built.starts ++ l) (no-first src u n) ∙ append-nil (nodes_in (begun src b n u g).built.starts)
    ∙ map-append (λ (a : Start). a.node.0) before.starts (record { node = record { 0 = n }; note = None; at = record { event = length before.tree.events; offset = 0 } } ∷ []) ∙ ap (λ (l : List ℕ). l ++ n ∷ []) (run-nodes src b true g.built g.run)

known-ended : (src : Source) (u : Style) (g : Gathered) → known (ended src u g) ≡ known g
known-ended src u g = append-nil (nodes_in (ended src u g).built.starts) ∙ run-nodes src u (not (takes_leaf g.built.tree.events)) g.built g.run

known-called : (src : Source) (n : ℕ) (g : Gathered) → known (called src n g) ≡ known g ++ n ∷ []
known-called src n g = known-texts (adds (item.Start (record { 0 = n }) ∷ []) g) (generated_items src n pseudo.Call) (no-generated src n pseudo.Call) ∙ known-adds g (item.Start (record { 0 = n }) ∷ [])

abbrev pub node_elements : ℕ → Role → List ℕ → List ℕ
node_elements n hidden inside = []
node_elements n (text t) inside = []
node_elements n (inline u) inside = n ∷ inside
node_elements n (block u) inside = n ∷ inside
node_elements n (note u) inside = n ∷ []

-- the shown elements among nodes, but those in notes
unfoldable pub elements_in : Source → Forest → List ℕ
elements_in src none = []
elements_in src (node n kids more) = node_elements n (role_of src n) (elements_in src kids) ++ elements_in src more

pub known-gathered : (src : Source) (s b : Style) (f : Forest) (g : Gathered) → known (gathered src s b f g) ≡ known g ++ elements_in src f
unfolding gathered elements_in
known-gathered src s b none g = sym (append-nil (known g))
known-gathered src s b (node n kids more) g =
    let after : Gathered = gather_node src s b n (role_of src n) (λ u c h. gathered src u c kids h) g in
    known-gathered src s b more after ∙ ap (λ (l : List ℕ). l ++ elements_in src more) (by (role_of src n) (λ u c h. known-gathered src u c kids h)) ∙ append_assoc (known g) (node_elements n (role_of src n) (elements_in src kids)) (elements_in src more)
  where
    by : (r : Role) → ((u c : Style) (h : Gathered) → known (gathered src u c kids h) ≡ known h ++ elements_in src kids) → known (gather_node src s b n r (λ u c h. gathered src u c kids h) g) ≡ known g ++ node_elements n r (elements_in src kids)
    by hidden k = sym (append-nil (known g))
    by (text t) k = known-adds g (text_item src s t ∷ [])
    by (inline u) k =
        let g1 : Gathered = adds (item.Start (record { 0 = n }) ∷ []) g in
        let h : Gathered = adds (first_items src u n) g1 in
        known-texts (gathered src u b kids h) (last_items src n) (no-generated src n pseudo.After) ∙ k u b h
        ∙ ap (λ (l : List ℕ). l ++ elements_in src kids) (known-texts g1 (first_items src u n) (no-first src u n) ∙ known-adds g (item.Start (record { 0 = n }) ∷ [])) ∙ append_assoc (known g) (n ∷ []) (elements_in src kids)
    by (block u) k =
        let h : Gathered = begun src b n u g in
        known-ended src u (adds (last_items src n) (gathered src u u kids h)) ∙ known-texts (gathered src u u kids h) (last_items src n) (no-generated src n pseudo.After) ∙ k u u h
        ∙ ap (λ (l : List ℕ). l ++ elements_in src kids) (known-begun src b n u g) ∙ append_assoc (known g) (n ∷ []) (elements_in src kids)
    by (note u) k = known-called src n g

-- where elements begin in a main tree, in tree order
pub main-elements : (src : Source) → nodes_in (built_of src).starts ≡ elements_in src (forest_of src.nodes)
main-elements src =
    let g : Gathered = gathered src initial_style initial_style (forest_of src.nodes) (make nothing []) in
    ap (λ (b : Built). nodes_in b.starts) (built-gathered src) ∙ run-nodes src initial_style true g.built g.run ∙ known-gathered src initial_style initial_style (forest_of src.nodes) (make nothing [])

-- ---- note elements

-- a note is an element that floats to the notes, and inline elements and blocks aren't
abbrev pub IsFloat : Bool → Role → Type 0
IsFloat f hidden = Unit {0}
IsFloat f (text t) = Unit {0}
IsFloat f (inline u) = f ≡ false
IsFloat f (block u) = f ≡ false
IsFloat f (note u) = f ≡ true

pub role-floats : (src : Source) (n : ℕ) → IsFloat (is_note_element src n) (role_of src n)
role-floats src n = by (text_at src.nodes n) (slice_get src.styles n)
  where
    has : (s : Style) (b : Bool) → IsFloat false (cond b (block s) (inline s))
    has s true = refl
    has s false = refl

    shows : (f b : Bool) (o : Option Style) → IsFloat f (cond b (shown_role f (n == 0) o) hidden)
    shows f false o = tt
    shows f true None = tt
    shows true true (Some s) = refl
    shows false true (Some s) = has s (is_block (n == 0) s)

    by : (t : Option (List ℕ)) (o : Option NodeStyles) → IsFloat (is_note_element src n) (role_by (is_note_element src n) (n == 0) o t)
    by (Some t) o = tt
    by None None = tt
    by None (Some r) = shows (is_note_element src n) r.shown r.own

noted_in : Source → List ℕ → List ℕ
noted_in src ns = filter (is_note_element src) ns

noted-append : (src : Source) (xs ys : List ℕ) → noted_in src (xs ++ ys) ≡ noted_in src xs ++ noted_in src ys
unfolding noted_in
noted-append src [] ys = refl
noted-append src (x ∷ xs) ys = by (is_note_element src x) (noted-append src xs ys)
  where
    by : (b : Bool) → noted_in src (xs ++ ys) ≡ noted_in src xs ++ noted_in src ys → cond b (x ∷ noted_in src (xs ++ ys)) (noted_in src (xs ++ ys)) ≡ cond b (x ∷ noted_in src xs) (noted_in src xs) ++ noted_in src ys
    by true e = ap (λ (l : List ℕ). x ∷ l) e
    by false e = e

-- the note elements among those that begin outside notes are those that are shown
noted-are : (src : Source) (f : Forest) → noted_in src (elements_in src f) ≡ map (λ (e : NoteElement). e.number) (notes_in src f)
unfolding elements_in notes_in noted_in
noted-are src none = refl
noted-are src (node n kids more) =
    let here : List ℕ = node_elements n (role_of src n) (elements_in src kids) in
    let own : List NoteElement = node_notes n (role_of src n) kids (notes_in src kids) in
    noted-append src here (elements_in src more)
    ∙ ap (λ (l : List ℕ). l ++ noted_in src (elements_in src more)) (by (role_of src n) (role-floats src n) (noted-are src kids))
    ∙ ap (λ (l : List ℕ). map (λ (e : NoteElement). e.number) own ++ l) (noted-are src more)
    ∙ sym (map-append (λ (e : NoteElement). e.number) own (notes_in src more))
  where
    passes : (b : Bool) (xs : List ℕ) → b ≡ false → cond b (n ∷ xs) xs ≡ xs
    passes true xs e = cc
    passes false xs e = refl

    takes : (b : Bool) → b ≡ true → cond b (n ∷ []) [] ≡ n ∷ []
    takes true e = refl
    takes false e = cc

    by : (r : Role) → IsFloat (is_note_element src n) r → noted_in src (elements_in src kids) ≡ map (λ (e : NoteElement). e.number) (notes_in src kids) → noted_in src (node_elements n r (elements_in src kids)) ≡ map (λ (e : NoteElement). e.number) (node_notes n r kids (notes_in src kids))
    by hidden f k = refl
    by (text t) f k = refl
    by (inline u) f k = passes (is_note_element src n) (noted_in src (elements_in src kids)) f ∙ k
    by (block u) f k = passes (is_note_element src n) (noted_in src (elements_in src kids)) f ∙ k
    by (note u) f k = takes (is_note_element src n) f

places-noted : (src : Source) (starts : List Start) → nodes_in (filter (λ a. is_note_element src a.node.0) starts) ≡ noted_in src (nodes_in starts)
unfolding noted_in
places-noted src [] = refl
places-noted src (a ∷ starts) = by (is_note_element src a.node.0) (places-noted src starts)
  where
    by : (b : Bool) → nodes_in (filter (λ x. is_note_element src x.node.0) starts) ≡ noted_in src (nodes_in starts) → nodes_in (cond b (a ∷ filter (λ x. is_note_element src x.node.0) starts) (filter (λ x. is_note_element src x.node.0) starts)) ≡ cond b (a.node.0 ∷ noted_in src (nodes_in starts)) (noted_in src (nodes_in starts))
    by true e = ap (λ (l : List ℕ). a.node.0 ∷ l) e
    by false e = e

-- the note elements that begin in a main tree are those that are shown
pub places-are : (src : Source) → nodes_in (note_places src) ≡ map (λ (e : NoteElement). e.number) (note_elements src)
places-are src = places-noted src (built_of src).starts ∙ ap (λ (l : List ℕ). noted_in src l) (main-elements src) ∙ noted-are src (forest_of src.nodes)

bodies-in : (src : Source) (f : Forest) → bodies_in src f ≡ map (note_built src) (notes_in src f)
unfolding bodies_in notes_in
bodies-in src none = refl
bodies-in src (node n kids more) =
    let own : List NoteElement = node_notes n (role_of src n) kids (notes_in src kids) in
    ap (λ (l : List Built). l ++ bodies_in src more) (by (role_of src n) (bodies-in src kids))
    ∙ ap (λ (l : List Built). map (note_built src) own ++ l) (bodies-in src more)
    ∙ sym (map-append (note_built src) own (notes_in src more))
  where
    by : (r : Role) → bodies_in src kids ≡ map (note_built src) (notes_in src kids) → node_bodies src n r kids (bodies_in src kids) ≡ map (note_built src) (node_notes n r kids (notes_in src kids))
    by hidden e = refl
    by (text t) e = refl
    by (inline u) e = e
    by (block u) e = e
    by (note u) e = refl

-- what the note elements that are shown build
pub bodies-are : (src : Source) → bodies_of src ≡ map (note_built src) (note_elements src)
bodies-are src = bodies-in src (forest_of src.nodes)

-- each call has its body
pub calls-bodies : (src : Source) → length (calls_of src (built_of src).starts) ≡ length (bodies_of src)
calls-bodies src =
    let a = length-map (note_places src) (λ (x : Start). x.at) in
    let b = length-map (note_places src) (λ (x : Start). x.node.0) in
    let c = ap (λ (l : List ℕ). length l) (places-are src) in
    let d = length-map (note_elements src) (λ (e : NoteElement). e.number) in
    let e = ap (λ (l : List Built). length l) (bodies-are src) in
    let f = length-map (note_elements src) (note_built src) in
    omega (arith, a, b, c, d, e, f)
