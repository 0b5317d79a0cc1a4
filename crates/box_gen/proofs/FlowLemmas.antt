-- What the nodes gather one after the other is the content put into what is built.
use Rattle.std.proofs.Common.{◌≡◌, ◌∙◌, ℕ, Bool, true, false, not, ◌||◌, List, [], ◌∷◌, ◌++◌, append-nil, length, refl, sym, ap, subst, ◌⊎◌, inl, inr, Option, None, Some}
use Rattle.boxes.specs.declared.flow.Start.{Start}
use Rattle.boxes.specs.Tree.{takes_leaf}
use Rattle.bk_num.specs.declared.values.Pseudo.TheVariants as pseudo
use Rattle.boxes.specs.declared.props.BoxProps.{BoxProps}
use Rattle.soft_hyphens.specs.Hyphenated.{hyphenated}
use Rattle.soft_hyphens.specs.Words.{Points}
use Rattle.style.specs.declared.style.Style.{Style}
use Rattle.box_gen.specs.declared.leaf.LeafStyle.{LeafStyle}
use Rattle.box_gen.specs.Items.{InlineItem}
use Rattle.box_gen.specs.Items as item
use Rattle.box_gen.specs.Leaves.{leaf_style_of}
use Rattle.box_gen.specs.Props.{anonymous_props, props_of}
use Rattle.box_gen.specs.Runs.{text_of, starts_of}
use Rattle.box_gen.specs.Trees.{Source, Forest, none, node, Role, text, hidden, inline, block, note, role_of}
use Rattle.box_gen.specs.Flow.{Content, end, run, box, with_item, with_items, with_node, content_of, has_block, Built, built, grown, put, with_run, closed, opened, text_item, first_items, generated_items, last_items}
use Rattle.box_gen.specs.Gather.{Gathered, make, adds, begun}
use Rattle.box_gen.proofs.TreeLemmas.{opens, opens-opened, opens-run, opens-shut, EndsClosed, shut-ends, ends-takes, box-takes}
use Rattle.box_gen.proofs.Gathering.{gather_node, gathered}

-- whether a node puts a block into the block around it, and whether one of some nodes does
abbrev pub node_blocks : Role → Bool → Bool
node_blocks hidden kids = false
node_blocks (text t) kids = false
node_blocks (inline u) kids = kids
node_blocks (block u) kids = true
node_blocks (note u) kids = false

unfoldable pub forest_blocks : Source → Forest → Bool
forest_blocks src none = false
forest_blocks src (node n kids more) = node_blocks (role_of src n) (forest_blocks src kids) || forest_blocks src more

-- ---- items before some content

pub items-more : (r items : List InlineItem) (c : Content) → with_items r (with_items items c) ≡ with_items (r ++ items) c
items-more [] items c = refl
items-more (x ∷ r) items c = ap (with_item x) (items-more r items c)

items-end : (x : InlineItem) (r : List InlineItem) → with_items (x ∷ r) end ≡ run (x ∷ r) end
items-end x [] = refl
items-end x (y ∷ r) = ap (with_item x) (items-end y r)

items-box : (x : InlineItem) (r : List InlineItem) (n : ℕ) (s : Style) (i c : Content) → with_items (x ∷ r) (box n s i c) ≡ run (x ∷ r) (box n s i c)
items-box x [] n s i c = refl
items-box x (y ∷ r) n s i c = ap (with_item x) (items-box y r n s i c)

-- a run without items does nothing
put-none : (points : Option Points) (look : LeafStyle) (anonymous : BoxProps) (w : Bool) (b : Built) → put points look anonymous w b [] ≡ b
unfolding text_of starts_of hyphenated
put-none None look anonymous w b = ap (λ (l : List Start). built b.tree l b.pending) (append-nil b.starts)
put-none (Some p) look anonymous w b = ap (λ (l : List Start). built b.tree l b.pending) (append-nil b.starts)

pub run-none : (src : Source) (s : Style) (w : Bool) (b : Built) → with_run src s w b [] ≡ b
run-none src s w b = put-none src.points (leaf_style_of s (src.face s)) (anonymous_props s) w b

pub grown-end : (src : Source) (s : Style) (w : Bool) (b : Built) (r : List InlineItem) → grown src s w b (with_items r end) ≡ with_run src s w b r
grown-end src s w b [] = sym (run-none src s w b)
grown-end src s w b (x ∷ r) = ap (grown src s w b) (items-end x r)

grown-box : (src : Source) (s : Style) (w : Bool) (t : Built) (r : List InlineItem) (n : ℕ) (u : Style) (i c : Content) → grown src s w t (with_items r (box n u i c)) ≡ grown src s w (with_run src s w t r) (box n u i c)
grown-box src s w t [] n u i c = ap (λ (x : Built). grown src s w x (box n u i c)) (sym (run-none src s w t))
grown-box src s w t (x ∷ r) n u i c = ap (grown src s w t) (items-box x r n u i c)

has-item : (x : InlineItem) (c : Content) → has_block (with_item x c) ≡ has_block c
has-item x end = refl
has-item x (run items c) = refl
has-item x (box n s i c) = refl

has-items : (r : List InlineItem) (c : Content) → has_block (with_items r c) ≡ has_block c
has-items [] c = refl
has-items (x ∷ r) c = has-item x (with_items r c) ∙ has-items r c

-- ---- blocks among nodes

or_assoc : (a b c : Bool) → (a || (b || c)) ≡ ((a || b) || c)
or_assoc true b c = refl
or_assoc false b c = refl

or_false : (b : Bool) → (b || false) ≡ b
or_false true = refl
or_false false = refl

or_left : (a b w : Bool) → ((a || b) ≡ true → w ≡ true) → a ≡ true → w ≡ true
or_left a b w h e = h (ap (λ (q : Bool). q || b) e)

or_right : (a b w : Bool) → ((a || b) ≡ true → w ≡ true) → b ≡ true → w ≡ true
or_right true b w h e = h refl
or_right false b w h e = h e

has-content : (src : Source) (s : Style) (f : Forest) (c : Content) → has_block (content_of src s f c) ≡ (forest_blocks src f || has_block c)
unfolding forest_blocks
has-content src s none c = refl
has-content src s (node n kids more) c = by (role_of src n) (has-content src s more c) (λ u d. has-content src u kids d)
  where
    by : (r : Role) → has_block (content_of src s more c) ≡ (forest_blocks src more || has_block c) →
        ((u : Style) (d : Content) → has_block (content_of src u kids d) ≡ (forest_blocks src kids || has_block d)) →
        has_block (with_node src s n r (λ u d. content_of src u kids d) (content_of src s more c)) ≡ ((node_blocks r (forest_blocks src kids) || forest_blocks src more) || has_block c)
    by hidden m k = m
    by (text t) m k = has-item (text_item src s t) (content_of src s more c) ∙ m
    by (inline u) m k = has-item (item.Start (record { 0 = n })) (with_items (first_items src u n) (content_of src u kids (with_items (last_items src n) (content_of src s more c)))) ∙ has-items (first_items src u n) (content_of src u kids (with_items (last_items src n) (content_of src s more c))) ∙ k u (with_items (last_items src n) (content_of src s more c)) ∙ ap (λ (q : Bool). forest_blocks src kids || q) (has-items (last_items src n) (content_of src s more c) ∙ m) ∙ or_assoc (forest_blocks src kids) (forest_blocks src more) (has_block c)
    by (block u) m k = refl
    by (note u) m k = has-item (item.Start (record { 0 = n })) (with_items (generated_items src n pseudo.Call) (content_of src s more c)) ∙ has-items (generated_items src n pseudo.Call) (content_of src s more c) ∙ m

-- ---- open boxes

-- nodes leave the boxes open that were open
pub opens-gathered : (src : Source) (s b : Style) (f : Forest) (g : Gathered) → opens (gathered src s b f g).built.tree ≡ opens g.built.tree
unfolding gathered
opens-gathered src s b none g = refl
opens-gathered src s b (node n kids more) g = opens-gathered src s b more (gather_node src s b n (role_of src n) (λ u c h. gathered src u c kids h) g) ∙ by (role_of src n) (λ u c h. opens-gathered src u c kids h)
  where
    by : (r : Role) → ((u c : Style) (h : Gathered) → opens (gathered src u c kids h).built.tree ≡ opens h.built.tree) → opens (gather_node src s b n r (λ u c h. gathered src u c kids h) g).built.tree ≡ opens g.built.tree
    by hidden k = refl
    by (text t) k = refl
    by (inline u) k = k u b (adds (first_items src u n) (adds (item.Start (record { 0 = n }) ∷ []) g))
    by (block u) k =
        let g1 : Gathered = begun src b n u g in
        let g2 : Gathered = adds (last_items src n) (gathered src u u kids g1) in
        let before : Built = with_run src b true g.built g.run in
        opens-shut (with_run src u (not (takes_leaf g2.built.tree.events)) g2.built g2.run).tree (length before.tree.boxes) (opens g.built.tree)
        (opens-run src u (not (takes_leaf g2.built.tree.events)) g2.built g2.run ∙ k u u g1 ∙ opens-opened src n u before ∙ ap (λ (l : List ℕ). length before.tree.boxes ∷ l) (opens-run src b true g.built g.run))
    by (note u) k = refl

-- blocks end in a closed box, and other nodes leave what is built as it is
abbrev Leaves : Bool → Built → Built → Type 0
Leaves b t u = ((b ≡ false) × (u ≡ t)) ⊎ ((b ≡ true) × EndsClosed u.tree)

leaves-both : (a b : Bool) (t u v : Built) → Leaves a t u → Leaves b u v → Leaves (a || b) t v
leaves-both a b t u v (inl (x, e)) (inl (y, f)) = inl (ap (λ (q : Bool). q || b) x ∙ y, f ∙ e)
leaves-both a b t u v (inl (x, e)) (inr (y, f)) = inr (ap (λ (q : Bool). q || b) x ∙ y, f)
leaves-both a b t u v (inr (x, e)) (inl (y, f)) = inr (ap (λ (q : Bool). q || b) x, subst (λ (z : Built). EndsClosed z.tree) (sym f) e)
leaves-both a b t u v (inr (x, e)) (inr (y, f)) = inr (ap (λ (q : Bool). q || b) x, f)

pub leaves : (src : Source) (s b : Style) (f : Forest) (g : Gathered) → Leaves (forest_blocks src f) g.built (gathered src s b f g).built
unfolding gathered forest_blocks
leaves src s b none g = inl (refl, refl)
leaves src s b (node n kids more) g = leaves-both (node_blocks (role_of src n) (forest_blocks src kids)) (forest_blocks src more) g.built (gather_node src s b n (role_of src n) (λ u c h. gathered src u c kids h) g).built (gathered src s b more (gather_node src s b n (role_of src n) (λ u c h. gathered src u c kids h) g)).built
    (by (role_of src n) (λ u c h. leaves src u c kids h))
    (leaves src s b more (gather_node src s b n (role_of src n) (λ u c h. gathered src u c kids h) g))
  where
    by : (r : Role) → ((u c : Style) (h : Gathered) → Leaves (forest_blocks src kids) h.built (gathered src u c kids h).built) → Leaves (node_blocks r (forest_blocks src kids)) g.built (gather_node src s b n r (λ u c h. gathered src u c kids h) g).built
    by hidden k = inl (refl, refl)
    by (text t) k = inl (refl, refl)
    by (inline u) k = k u b (adds (first_items src u n) (adds (item.Start (record { 0 = n }) ∷ []) g))
    by (block u) k =
        let g1 : Gathered = begun src b n u g in
        let g2 : Gathered = adds (last_items src n) (gathered src u u kids g1) in
        let before : Built = with_run src b true g.built g.run in
        inr (refl, shut-ends (with_run src u (not (takes_leaf g2.built.tree.events)) g2.built g2.run).tree (length before.tree.boxes) (opens before.tree) (opens-run src u (not (takes_leaf g2.built.tree.events)) g2.built g2.run ∙ opens-gathered src u u kids g1 ∙ opens-opened src n u before))
    by (note u) k = inl (refl, refl)

-- a box is wrapped in exactly where a block was put into it
wraps : (src : Source) (s b : Style) (f : Forest) (g : Gathered) (last : List InlineItem) → takes_leaf g.built.tree.events ≡ true → has_block (content_of src s f (with_items last end)) ≡ not (takes_leaf (gathered src s b f g).built.tree.events)
wraps src s b f g last fresh = has-content src s f (with_items last end) ∙ ap (λ (q : Bool). forest_blocks src f || q) (has-items last end) ∙ or_false (forest_blocks src f) ∙ by (leaves src s b f g)
  where
    by : Leaves (forest_blocks src f) g.built (gathered src s b f g).built → forest_blocks src f ≡ not (takes_leaf (gathered src s b f g).built.tree.events)
    by (inl (x, e)) = x ∙ sym (ap (λ (t : Built). not (takes_leaf t.tree.events)) e ∙ ap not fresh)
    by (inr (x, e)) = x ∙ sym (ap not (ends-takes (gathered src s b f g).built.tree e))

-- nodes put into a box whose runs are wrapped if there is a block among them
pub grows : (src : Source) (s b : Style) (f : Forest) (w : Bool) (t : Built) (r : List InlineItem) (rest : Content) → (forest_blocks src f ≡ true → w ≡ true) → grown src b w t (with_items r (content_of src s f rest)) ≡ grown src b w (gathered src s b f (make t r)).built (with_items (gathered src s b f (make t r)).run rest)
unfolding gathered forest_blocks
grows src s b none w t r rest h = refl
grows src s b (node n kids more) w t r rest h = by (role_of src n) h
    (λ v q k. grows src s b more w v q rest k)
    (λ u c x v q d k. grows src u c kids x v q d k)
  where
    by : (role : Role) → ((node_blocks role (forest_blocks src kids) || forest_blocks src more) ≡ true → w ≡ true) →
        ((v : Built) (q : List InlineItem) → (forest_blocks src more ≡ true → w ≡ true) → grown src b w v (with_items q (content_of src s more rest)) ≡ grown src b w (gathered src s b more (make v q)).built (with_items (gathered src s b more (make v q)).run rest)) →
        ((u c : Style) (x : Bool) (v : Built) (q : List InlineItem) (d : Content) → (forest_blocks src kids ≡ true → x ≡ true) → grown src c x v (with_items q (content_of src u kids d)) ≡ grown src c x (gathered src u c kids (make v q)).built (with_items (gathered src u c kids (make v q)).run d)) →
        grown src b w t (with_items r (with_node src s n role (λ u d. content_of src u kids d) (content_of src s more rest)))
        ≡ grown src b w (gathered src s b more (gather_node src s b n role (λ u c g. gathered src u c kids g) (make t r))).built (with_items (gathered src s b more (gather_node src s b n role (λ u c g. gathered src u c kids g) (make t r))).run rest)
    by hidden h m k = m t r h
    by (text x) h m k = ap (grown src b w t) (items-more r (text_item src s x ∷ []) (content_of src s more rest)) ∙ m t (r ++ text_item src s x ∷ []) h
    by (inline u) h m k =
        let begins : InlineItem = item.Start (record { 0 = n }) in
        let first : List InlineItem = first_items src u n in
        let last : List InlineItem = last_items src n in
        let after : Content = with_items last (content_of src s more rest) in
        let q : List InlineItem = (r ++ begins ∷ []) ++ first in
        let g : Gathered = gathered src u b kids (make t q) in
        ap (grown src b w t) (items-more r (begins ∷ []) (with_items first (content_of src u kids after)) ∙ items-more (r ++ begins ∷ []) first (content_of src u kids after))
        ∙ k u b w t q after (or_left (forest_blocks src kids) (forest_blocks src more) w h)
        ∙ ap (grown src b w g.built) (items-more g.run last (content_of src s more rest))
        ∙ m g.built (g.run ++ last) (or_right (forest_blocks src kids) (forest_blocks src more) w h)
    by (block u) h m k =
        let first : List InlineItem = first_items src u n in
        let last : List InlineItem = last_items src n in
        let inner : Content = content_of src u kids (with_items last end) in
        let inside : Content = with_items first inner in
        let wrap : w ≡ true = h refl in
        let v : Built = opened src n u (with_run src b true t r) in
        let g : Gathered = gathered src u u kids (make v first) in
        let hb : Bool = has_block inner in
        let same : has_block inside ≡ hb = has-items first inner in
        let put : Built = with_run src u (not (takes_leaf g.built.tree.events)) g.built (g.run ++ last) in
        let full : grown src u hb v inside ≡ put =
        k u u hb v first (with_items last end) (λ e. has-content src u kids (with_items last end) ∙ ap (λ (q : Bool). q || has_block (with_items last end)) e)
        ∙ ap (grown src u hb g.built) (items-more g.run last end) ∙ grown-end src u hb g.built (g.run ++ last)
        ∙ ap (λ (q : Bool). with_run src u q g.built (g.run ++ last)) (wraps src u u kids (make v first) last (box-takes (with_run src b true t r).tree (props_of src.clones u n))) in
        grown-box src b w t r n u inside (content_of src s more rest)
        ∙ ap (λ (q : Bool). grown src b w (closed (grown src u (has_block inside) (opened src n u (with_run src b q t r)) inside)) (content_of src s more rest)) wrap
        ∙ ap (λ (q : Bool). grown src b w (closed (grown src u q v inside)) (content_of src s more rest)) same
        ∙ ap (λ (x : Built). grown src b w (closed x) (content_of src s more rest)) full
        ∙ m (closed put) [] (λ e. wrap)
    by (note u) h m k =
        let begins : InlineItem = item.Start (record { 0 = n }) in
        let call : List InlineItem = generated_items src n pseudo.Call in
        ap (grown src b w t) (items-more r (begins ∷ []) (with_items call (content_of src s more rest)) ∙ items-more (r ++ begins ∷ []) call (content_of src s more rest))
        ∙ m t ((r ++ begins ∷ []) ++ call) h

-- what is put into a box that is new, at whose end a run waits
pub grows-full : (src : Source) (u : Style) (kids : Forest) (v : Built) (first last : List InlineItem) → takes_leaf v.tree.events ≡ true →
    let inside : Content = with_items first (content_of src u kids (with_items last end)) in
    let g : Gathered = gathered src u u kids (make v first) in
    grown src u (has_block inside) v inside ≡ with_run src u (not (takes_leaf g.built.tree.events)) g.built (g.run ++ last)
grows-full src u kids v first last fresh =
    let inner : Content = content_of src u kids (with_items last end) in
    let hb : Bool = has_block inner in
    let g : Gathered = gathered src u u kids (make v first) in
    ap (λ (q : Bool). grown src u q v (with_items first inner)) (has-items first inner)
    ∙ grows src u u kids hb v first (with_items last end) (λ e. has-content src u kids (with_items last end) ∙ ap (λ (q : Bool). q || has_block (with_items last end)) e)
    ∙ ap (grown src u hb g.built) (items-more g.run last end) ∙ grown-end src u hb g.built (g.run ++ last)
    ∙ ap (λ (q : Bool). with_run src u q g.built (g.run ++ last)) (wraps src u u kids (make v first) last fresh)
