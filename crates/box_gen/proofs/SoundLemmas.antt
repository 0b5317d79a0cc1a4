-- Each step of the walk over a document may be taken.
use Rattle.std.proofs.Common.{◌≡◌, ◌∙◌, ℕ, ◌-◌, ◌==◌, Bool, true, false, cond, not, ◌&&◌, ◌||◌, is_some, IsTrue, List, [], ◌∷◌, ◌++◌, Option, None, Some, length, map, refl, sym, ap, subst, arith, append_assoc, inl, inr}
use Rattle.std.specs.Prelude.{slice_get}
use Rattle.std.specs.List.{All}
use Rattle.std.proofs.lemmas.Bool.{eq-eqb}
use Rattle.std.proofs.lemmas.Map.Views.{exact_unsigned_eq}
use Rattle.std.proofs.lemmas.List.Elements.{All-nil, All-cons}
use Rattle.bk_num.specs.declared.ids.FaceId.{FaceId}
use Rattle.bk_num.specs.declared.values.WhiteSpace.{WhiteSpace}
use Rattle.bk_num.specs.declared.values.Pseudo.{Pseudo}
use Rattle.bk_num.specs.declared.values.Pseudo.TheVariants as pseudo
use Rattle.boxes.specs.declared.leaf.Lead.{Lead}
use Rattle.boxes.specs.declared.leaf.Leaf.{Leaf as LeafData}
use Rattle.boxes.specs.declared.place.Event.TheVariants.{Opens}
use Rattle.boxes.specs.Tree.{Tree, first_of, innermost_of, is_leaf, last_event, takes_box, takes_leaf, with_box, with_leaf}
use Rattle.dom.specs.Nodes.{IsTree, parents_of, text_at}
use Rattle.dom.proofs.WalkLemmas.{root-element}
use Rattle.dom.specs.Walk.{steps_of}
use Rattle.dom.specs.declared.walk.Step.{Step}
use Rattle.dom.specs.declared.walk.Step.TheVariants.{Enter, Leave}
use Rattle.inline_text.specs.declared.space.TextPart.{TextPart}
use Rattle.style.specs.declared.style.Style.{Style}
use Rattle.style.specs.Nodes.{NodeStyles, style_at}
use Rattle.style.specs.Styles.{initial_style}
use Rattle.box_gen.specs.Items.{InlineItem}
use Rattle.box_gen.specs.Items as item
use Rattle.box_gen.specs.declared.text_style.TextStyle.{TextStyle}
use Rattle.box_gen.specs.Flow.{Built, built_of, nothing, without, with_run, put_by, leads_of, first_items, last_items, generated_by, generated_items, leads_by, represented_items, styled, text_item}
use Rattle.box_gen.specs.Gather.{Gathered, make, adds, begun, called, ended}
use Rattle.box_gen.specs.Leaves.{leaf_by, leaf_style_of}
use Rattle.counters.specs.Markers.{has_marker}
use Rattle.box_gen.specs.Markers.{lead_by, marker_text}
use Rattle.box_gen.specs.Props.{anonymous_props}
use Rattle.box_gen.specs.Represented.{represented_text}
use Rattle.box_gen.specs.Runs.{AreGoodTexts, marks_in, spans_of, styles_in, text_of}
use Rattle.box_gen.specs.Sources.{AreInRange, IsInRange}
use Rattle.std.proofs.lemmas.List.{reverse-append}
use Rattle.std.proofs.Math.Bool.{or-true}
use Rattle.bk_num.specs.declared.ids.NodeId.{NodeId}
use Rattle.box_gen.specs.Steps.{CanBegin, CanEnd, CanEnterNode, CanLeaveNode, CanPut, styles_of}
use Rattle.box_gen.specs.TextStyles.{IsGoodTextStyle, text_style_of}
use Rattle.computed_values.proofs.RangeLemmas.{used_least}
use Rattle.box_gen.specs.Trees.{Source, Forest, none, node, below, Role, text, hidden, inline, block, note, role_by, role_of, shown_role}
use Rattle.box_gen.specs.Walk.{Walk, after_step, after_steps, enter_node, leave_node, innermost, style_around, style_or_initial, walk, walked}
use Rattle.box_gen.proofs.TreeLemmas.{opens, opens-opened, opens-run, opens-shut, last-push, shut-ends}
use Rattle.box_gen.proofs.FlowLemmas.{run-none}
use Rattle.box_gen.proofs.PutLemmas.{filled}
use Rattle.box_gen.proofs.OwnerLemmas.{IsGoodLead, IsOwned, OwnedBy, all-append, all-shut, owned-more, owned-shut}
use Rattle.box_gen.proofs.WalkLemmas.{Greater, Placed, PlacedIn, all-steps, own-of, placed-in, steps_in, text-only, walk-main}
use Rattle.box_gen.proofs.Gathering.{gather_node, gathered}
use Rattle.box_gen.proofs.Walkable.{CanTo, CanWalk, EndsPut}

-- ---- sizes of texts

-- a style in range sets texts whose sizes aren't negative
pub style-good : (s : Style) (space : WhiteSpace) (face : FaceId) → IsInRange s → IsGoodTextStyle (text_style_of s space face)
style-good s space face r = record { size = r.size; line_height = used_least s.font_size s.line_height r.size r.height }

pub good-append : (xs ys : List InlineItem) → AreGoodTexts xs → AreGoodTexts ys → AreGoodTexts (xs ++ ys)
good-append xs ys a b = subst (All IsGoodTextStyle) (sym (styles-append xs ys)) (all-append IsGoodTextStyle (styles_in (marks_in xs)) (styles_in (marks_in ys)) a b)
  where
    styles-append : (xs ys : List InlineItem) → styles_in (marks_in (xs ++ ys)) ≡ styles_in (marks_in xs) ++ styles_in (marks_in ys)
    styles-append [] ys = refl
    styles-append (item.Text t ∷ xs) ys = ap (λ (l : List TextStyle). t.style ∷ l) (styles-append xs ys)
    styles-append (item.Start n ∷ xs) ys = styles-append xs ys

good-styled : (src : Source) (s : Style) (p : TextPart) → IsInRange s → AreGoodTexts (styled src s p ∷ [])
good-styled src s p r = All-cons IsGoodTextStyle (text_style_of s p.space (src.face s)) [] (style-good s p.space (src.face s) r) (All-nil IsGoodTextStyle)

pub good-generated : (src : Source) (n : ℕ) (p : Pseudo) → AreInRange src.styles → AreGoodTexts (generated_items src n p)
good-generated src n p all = by (style_at src.styles n p) refl
  where
    by : (o : Option Style) → style_at src.styles n p ≡ o → AreGoodTexts (generated_by src n p o)
    by None e = All-nil IsGoodTextStyle
    by (Some s) e = good-styled src s (record { text = src.generated n p; space = s.white_space }) (all n p s e)

pub good-first : (src : Source) (s : Style) (n : ℕ) → AreInRange src.styles → IsInRange s → AreGoodTexts (first_items src s n)
good-first src s n all r = good-append (generated_items src n pseudo.Before) (represented_items src s (represented_text src.nodes n s.white_space)) (good-generated src n pseudo.Before all) (by (represented_text src.nodes n s.white_space))
  where
    by : (o : Option TextPart) → AreGoodTexts (represented_items src s o)
    by None = All-nil IsGoodTextStyle
    by (Some p) = good-styled src s p r

-- ---- what is gathered

-- the open boxes, and what holds at each step: no leaf stands last, the markers that wait are those of open boxes, and no size is negative
pub record Fine (os : List ℕ) (g : Gathered) : Type 0 where
  pub opened : opens g.built.tree ≡ os
  pub last : is_leaf (last_event g.built.tree.events) ≡ false
  pub owners : OwnedBy os g.built.pending
  pub leads : All IsGoodLead g.built.pending
  pub texts : AreGoodTexts g.run

pub fine-adds : (os : List ℕ) (g : Gathered) (items : List InlineItem) → AreGoodTexts items → Fine os g → Fine os (adds items g)
fine-adds os g items good f = record { opened = f.opened; last = f.last; owners = f.owners; leads = f.leads; texts = good-append g.run items f.texts good }

pub pending-run : (P : Lead → Type 0) (src : Source) (s : Style) (wrap : Bool) (b : Built) (items : List InlineItem) → All P b.pending → All P (with_run src s wrap b items).pending
pending-run P src s wrap b items h = by (length (text_of src.points items) == 0) wrap
  where
    by : (e w : Bool) → All P (put_by e w src.points (leaf_style_of s (src.face s)) (anonymous_props s) b items).pending
    by true w = h
    by false true = All-nil P
    by false false = All-nil P

-- a run that is put is no last event, where it is wrapped
run-last : (src : Source) (s : Style) (b : Built) (items : List InlineItem) → is_leaf (last_event b.tree.events) ≡ false → is_leaf (last_event (with_run src s true b items).tree.events) ≡ false
run-last src s b items last = by (length (text_of src.points items) == 0)
  where
    leaf : LeafData
    leaf = leaf_by (text_of src.points items) (spans_of src.points items) (leaf_style_of s (src.face s)) b.pending

    by : (e : Bool) → is_leaf (last_event (put_by e true src.points (leaf_style_of s (src.face s)) (anonymous_props s) b items).tree.events) ≡ false
    by true = last
    by false = let x = shut-ends (with_leaf (with_box b.tree (anonymous_props s)) leaf) (length b.tree.boxes) (opens b.tree) (filled b.tree (anonymous_props s) leaf) in ap is_leaf x.1

pub leads-all : (P : Lead → Type 0) (src : Source) (n : ℕ) (s : Style) (owner : ℕ) → ((t : List ℕ) → P (lead_by t (text_style_of s s.white_space (src.face s)) owner)) → All P (leads_of src n s owner)
leads-all P src n s owner h = by (has_marker (n == 0) s) (marker_text s.list_style_type (src.items n))
  where
    by : (b : Bool) (o : Option (List ℕ)) → All P (cond b (leads_by src s owner o) [])
    by true None = All-nil P
    by true (Some t) = All-cons P (lead_by t (text_style_of s s.white_space (src.face s)) owner) [] (h t) (All-nil P)
    by false o = All-nil P

fine-begun : (src : Source) (b : Style) (n : ℕ) (u : Style) (os : List ℕ) (g : Gathered) → AreInRange src.styles → IsInRange u → Fine os g → Fine (length (with_run src b true g.built g.run).tree.boxes ∷ os) (begun src b n u g)
fine-begun src b n u os g all r f = record {
  opened = opens-opened src n u before ∙ ap (λ (l : List ℕ). owner ∷ l) (opens-run src b true g.built g.run ∙ f.opened);
  last = ap is_leaf (last-push before.tree.events (Opens owner));
  owners = all-append (IsOwned (owner ∷ os)) before.pending (leads_of src n u owner) (owned-more owner os before.pending (pending-run (IsOwned os) src b true g.built g.run f.owners)) (leads-all (IsOwned (owner ∷ os)) src n u owner (λ t. (0, omega arith, refl)));
  leads = all-append IsGoodLead before.pending (leads_of src n u owner) (pending-run IsGoodLead src b true g.built g.run f.leads) (leads-all IsGoodLead src n u owner (λ t. record { size = (style-good u u.white_space (src.face u) r).size; line_height = (style-good u u.white_space (src.face u) r).line_height }));
  texts = good-first src u n all r;
}
  where
    before : Built
    before = with_run src b true g.built g.run

    owner : ℕ
    owner = length before.tree.boxes

fine-ended : (src : Source) (u : Style) (x : ℕ) (os : List ℕ) (g : Gathered) → Fine (x ∷ os) g → Fine os (ended src u g)
fine-ended src u x os g f = record {
  opened = opens-shut put.tree x os e;
  last = (let q = shut-ends put.tree x os e in ap is_leaf q.1);
  owners = subst (λ o. OwnedBy os (without o put.pending)) (sym inner) (owned-shut x os put.pending (pending-run (IsOwned (x ∷ os)) src u w g.built g.run f.owners));
  leads = subst (λ o. All IsGoodLead (without o put.pending)) (sym inner) (all-shut IsGoodLead x put.pending (pending-run IsGoodLead src u w g.built g.run f.leads));
  texts = All-nil IsGoodTextStyle;
}
  where
    w : Bool
    w = not (takes_leaf g.built.tree.events)

    put : Built
    put = with_run src u w g.built g.run

    e : opens put.tree ≡ x ∷ os
    e = opens-run src u w g.built g.run ∙ f.opened

    inner : innermost_of put.tree.events ≡ Some x
    inner = ap first_of e

fine-called : (src : Source) (n : ℕ) (os : List ℕ) (g : Gathered) → AreInRange src.styles → Fine os g → Fine os (called src n g)
fine-called src n os g all f = fine-adds os (adds (item.Start (record { 0 = n }) ∷ []) g) (generated_items src n pseudo.Call) (good-generated src n pseudo.Call all) (fine-adds os g (item.Start (record { 0 = n }) ∷ []) (All-nil IsGoodTextStyle) f)

fine-node : (src : Source) (s b : Style) (n : ℕ) (kids : Forest) (os : List ℕ) (g : Gathered) → AreInRange src.styles → IsInRange s → Fine os g → (r : Role) → role_of src n ≡ r →
    ((u c : Style) (qs : List ℕ) (h : Gathered) → IsInRange u → Fine qs h → Fine qs (gathered src u c kids h)) →
    Fine os (gather_node src s b n r (λ u c h. gathered src u c kids h) g)
fine-node src s b n kids os g all r f hidden e k = f
fine-node src s b n kids os g all r f (text t) e k = fine-adds os g (text_item src s t ∷ []) (good-styled src s (record { text = t; space = s.white_space }) r) f
fine-node src s b n kids os g all r f (inline u) e k =
    let q : IsInRange u = all n pseudo.Element u (own-of src n u (inl e)) in
    let g1 : Gathered = adds (item.Start (record { 0 = n }) ∷ []) g in
    let g2 : Gathered = adds (first_items src u n) g1 in
    fine-adds os (gathered src u b kids g2) (last_items src n) (good-generated src n pseudo.After all) (k u b os g2 q (fine-adds os g1 (first_items src u n) (good-first src u n all q) (fine-adds os g (item.Start (record { 0 = n }) ∷ []) (All-nil IsGoodTextStyle) f)))
fine-node src s b n kids os g all r f (block u) e k =
    let q : IsInRange u = all n pseudo.Element u (own-of src n u (inr e)) in
    let x : ℕ = length (with_run src b true g.built g.run).tree.boxes in
    let g1 : Gathered = begun src b n u g in
    fine-ended src u x os (adds (last_items src n) (gathered src u u kids g1)) (fine-adds (x ∷ os) (gathered src u u kids g1) (last_items src n) (good-generated src n pseudo.After all) (k u u (x ∷ os) g1 q (fine-begun src b n u os g all q f)))
fine-node src s b n kids os g all r f (note u) e k = fine-called src n os g all f

pub fine-gathered : (src : Source) (s b : Style) (f : Forest) (os : List ℕ) (g : Gathered) → AreInRange src.styles → IsInRange s → Fine os g → Fine os (gathered src s b f g)
unfolding gathered
fine-gathered src s b none os g all r h = h
fine-gathered src s b (node n kids more) os g all r h =
    fine-gathered src s b more os (gather_node src s b n (role_of src n) (λ u c g. gathered src u c kids g) g) all r
    (fine-node src s b n kids os g all r h (role_of src n) refl (λ u c qs g q k. fine-gathered src u c kids qs g all q k))

-- ---- what a step asks

-- a box may open where the last event is no leaf and a box is open
takes-box : (t : Tree) (x : ℕ) (os : List ℕ) → is_leaf (last_event t.events) ≡ false → opens t ≡ x ∷ os → IsTrue (takes_box t.events)
takes-box t x os last some =
    let test : Bool → Bool → Bool = λ a b. not a && (not (is_some (slice_get t.events 0)) || b) in
    let is : test (is_leaf (last_event t.events)) (is_some (first_of (opens t))) ≡ true = ap (λ (a : Bool). test a (is_some (first_of (opens t)))) last ∙ ap (λ (l : List ℕ). test false (is_some (first_of l))) some ∙ or-true (not (is_some (slice_get t.events 0))) in
    is

can-put : (x : ℕ) (os : List ℕ) (g : Gathered) → Fine (x ∷ os) g → CanPut g
can-put x os g f = record {
  place = takes-box g.built.tree x os f.last f.opened;
  owners = subst (λ l. OwnedBy l g.built.pending) (sym f.opened) f.owners;
  leads = f.leads;
  texts = f.texts;
}

can-begin : (src : Source) (s : Style) (x : ℕ) (os : List ℕ) (g : Gathered) → Fine (x ∷ os) g → CanBegin src s g
can-begin src s x os g f = record {
  run = can-put x os g f;
  box = takes-box (with_run src s true g.built g.run).tree x os (run-last src s g.built g.run f.last) (opens-run src s true g.built g.run ∙ f.opened);
}

pub can-end : (src : Source) (s : Style) (x : ℕ) (os : List ℕ) (g : Gathered) → Fine (x ∷ os) g → CanEnd src s g
can-end src s x os g f = record {
  run = can-put x os g f;
  box = ap (λ (l : List ℕ). is_some (first_of l)) (opens-run src s (not (takes_leaf g.built.tree.events)) g.built g.run ∙ f.opened);
}

-- ---- along the steps

pub steps-more : (n : ℕ) (kids more : Forest) (rest : List Step) → steps_in (node n kids more) ++ rest ≡ Enter (record { 0 = n }) ∷ steps_in kids ++ Leave (record { 0 = n }) ∷ (steps_in more ++ rest)
unfolding steps_in
steps-more n kids more rest = ap (λ (l : List Step). Enter (record { 0 = n }) ∷ l) (append_assoc (steps_in kids) (Leave (record { 0 = n }) ∷ steps_in more) rest)

can-skip : (src : Source) (E : Walk → Type 0) (h : ℕ) (f : Forest) (g : Gathered) (bs : List Style) (rest : List Step) → Greater h f → CanTo src E (walk g bs (Some h)) rest → CanTo src E (walk g bs (Some h)) (steps_in f ++ rest)
unfolding steps_in Greater
can-skip src E h none g bs rest far c = c
can-skip src E h (node n kids more) g bs rest far c =
    let w : Walk = walk g bs (Some h) in
    subst (CanTo src E w) (sym (steps-more n kids more rest))
    (tt, can-skip src E h kids g bs (Leave (record { 0 = n }) ∷ (steps_in more ++ rest)) far.1 (tt, subst (λ (v : Walk). CanTo src E v (steps_in more ++ rest)) (sym (by (h == n) refl)) (can-skip src E h more g bs rest far.2 c)))
  where
    by : (b : Bool) → (h == n) ≡ b → cond b (walk g bs None) (walk g bs (Some h)) ≡ walk g bs (Some h)
    by true e = let same : h ≡ n = exact_unsigned_eq h n e in let less = far.0 in absurd (omega (arith, same, less))
    by false e = refl

-- the step out of a node
goes : (src : Source) (E : Walk → Type 0) (n : ℕ) (tail : List Step) (r : Role) → role_of src n ≡ r → (h : Gathered) (cs : List Style) → CanLeaveNode src n r (walk h cs None) → CanTo src E (leave_node src n r (walk h cs None)) tail → CanTo src E (walk h cs None) (Leave (record { 0 = n }) ∷ tail)
goes src E n tail r e h cs a b = subst (λ (q : Role). CanLeaveNode src n q (walk h cs None) × CanTo src E (leave_node src n q (walk h cs None)) tail) (sym e) (a, b)

-- the step out of an element that isn't shown
leaves-hidden : (src : Source) (E : Walk → Type 0) (n : ℕ) (tail : List Step) (g : Gathered) (bs : List Style) → CanTo src E (walk g bs None) tail → CanTo src E (walk g bs (Some n)) (Leave (record { 0 = n }) ∷ tail)
leaves-hidden src E n tail g bs m = (tt, subst (λ (b : Bool). CanTo src E (cond b (walk g bs None) (walk g bs (Some n))) tail) (sym (eq-eqb n n refl)) m)

-- what children may do, the nodes may
IsWalkable : Source → (Walk → Type 0) → Forest → Type 0
IsWalkable src E kids = (u : Style) (h : Gathered) (cs : List Style) (x : ℕ) (os : List ℕ) (rest : List Step) → IsInRange u → Placed src u kids → Fine (x ∷ os) h → CanTo src E (walk (gathered src u (innermost cs) kids h) cs None) rest → CanTo src E (walk h cs None) (steps_in kids ++ rest)

can-node : (src : Source) (E : Walk → Type 0) (s : Style) (n : ℕ) (kids : Forest) (g : Gathered) (bs : List Style) (x : ℕ) (os : List ℕ) (tail : List Step) → AreInRange src.styles → style_around src n ≡ s → Fine (x ∷ os) g → IsWalkable src E kids →
    (r : Role) → role_of src n ≡ r → PlacedIn n r kids (λ u. Placed src u kids) →
    CanTo src E (walk (gather_node src s (innermost bs) n r (λ u c h. gathered src u c kids h) g) bs None) tail →
    CanEnterNode src r (walk g bs None) × CanTo src E (enter_node src n r (walk g bs None)) (steps_in kids ++ Leave (record { 0 = n }) ∷ tail)
unfolding IsWalkable steps_in
can-node src E s n kids g bs x os tail all around f k hidden e q m = (tt, can-skip src E n kids g bs (Leave (record { 0 = n }) ∷ tail) q (leaves-hidden src E n tail g bs m))
can-node src E s n kids g bs x os tail all around f k (text t) e q m =
    let v : Gathered = adds (text_item src (style_around src n) t ∷ []) g in (
      tt,
      subst (λ (f : Forest). CanTo src E (walk v bs None) (steps_in f ++ Leave (record { 0 = n }) ∷ tail)) (sym q)
          (goes src E n tail (text t) e v bs tt (subst (λ (u : Style). CanTo src E (walk (adds (text_item src u t ∷ []) g) bs None) tail) (sym around) m)),
    )
can-node src E s n kids g bs x os tail all around f k (inline u) e q m =
    let r : IsInRange u = all n pseudo.Element u (own-of src n u (inl e)) in
    let g1 : Gathered = adds (item.Start (record { 0 = n }) ∷ []) g in
    let h : Gathered = adds (first_items src u n) g1 in
    let good : Fine (x ∷ os) h = fine-adds (x ∷ os) g1 (first_items src u n) (good-first src u n all r) (fine-adds (x ∷ os) g (item.Start (record { 0 = n }) ∷ []) (All-nil IsGoodTextStyle) f) in
    (tt, k u h bs x os (Leave (record { 0 = n }) ∷ tail) r q good (goes src E n tail (inline u) e (gathered src u (innermost bs) kids h) bs tt m))
can-node src E s n kids g bs x os tail all around f k (block u) e q m =
    let r : IsInRange u = all n pseudo.Element u (own-of src n u (inr e)) in
    let y : ℕ = length (with_run src (innermost bs) true g.built g.run).tree.boxes in
    let h : Gathered = begun src (innermost bs) n u g in
    let good : Fine (y ∷ x ∷ os) h = fine-begun src (innermost bs) n u (x ∷ os) g all r f in
    let kept : Fine (y ∷ x ∷ os) (adds (last_items src n) (gathered src u u kids h)) = fine-adds (y ∷ x ∷ os) (gathered src u u kids h) (last_items src n) (good-generated src n pseudo.After all) (fine-gathered src u u kids (y ∷ x ∷ os) h all r good) in
    (can-begin src (innermost bs) x os g f, k u h (u ∷ bs) y (x ∷ os) (Leave (record { 0 = n }) ∷ tail) r q good (goes src E n tail (block u) e (gathered src u u kids h) (u ∷ bs) (can-end src u y (x ∷ os) (adds (last_items src n) (gathered src u u kids h)) kept) m))
can-node src E s n kids g bs x os tail all around f k (note u) e q m =
    let h : Gathered = called src n g in
    (tt, can-skip src E n kids h bs (Leave (record { 0 = n }) ∷ tail) q (leaves-hidden src E n tail h bs m))

pub can-walk : (src : Source) (E : Walk → Type 0) (s : Style) (f : Forest) (g : Gathered) (bs : List Style) (x : ℕ) (os : List ℕ) (rest : List Step) → AreInRange src.styles → IsInRange s → Placed src s f → Fine (x ∷ os) g → CanTo src E (walk (gathered src s (innermost bs) f g) bs None) rest → CanTo src E (walk g bs None) (steps_in f ++ rest)
unfolding steps_in Placed gathered IsWalkable
can-walk src E s none g bs x os rest all r p h c = c
can-walk src E s (node n kids more) g bs x os rest all r p h c =
    let inside : Style → Style → Gathered → Gathered = λ u c h. gathered src u c kids h in
    let after : Gathered = gather_node src s (innermost bs) n (role_of src n) inside g in
    let k : IsWalkable src E kids = λ u h cs y qs tail q place good e. can-walk src E u kids h cs y qs tail all q place good e in
    let kept : Fine (x ∷ os) after = fine-node src s (innermost bs) n kids (x ∷ os) g all r h (role_of src n) refl (λ u c qs g q k. fine-gathered src u c kids qs g all q k) in
    let m : CanTo src E (walk after bs None) (steps_in more ++ rest) = can-walk src E s more after bs x os rest all r p.2 kept c in
    subst (CanTo src E (walk g bs None)) (sym (steps-more n kids more rest)) (can-node src E s n kids g bs x os (steps_in more ++ rest) all p.0 h k (role_of src n) refl p.1 m)

-- ---- a whole document

no-inline : (src : Source) (u : Style) → role_of src 0 ≡ inline u → ⊥
no-inline src u e = by (slice_get src.styles 0) (text_at src.nodes 0) e
  where
    shown : (b : Bool) (o : Option Style) → cond b (shown_role false true o) hidden ≡ inline u → ⊥
    shown false o h = cc
    shown true None h = cc
    shown true (Some s) h = cc

    by : (o : Option NodeStyles) (t : Option (List ℕ)) → role_by false true o t ≡ inline u → ⊥
    by o (Some t) h = cc
    by None None h = cc
    by (Some r) None h = shown r.shown r.own h

no-note : (src : Source) (u : Style) → role_of src 0 ≡ note u → ⊥
no-note src u e = by (slice_get src.styles 0) (text_at src.nodes 0) e
  where
    shown : (b : Bool) (o : Option Style) → cond b (shown_role false true o) hidden ≡ note u → ⊥
    shown false o h = cc
    shown true None h = cc
    shown true (Some s) h = cc

    by : (o : Option NodeStyles) (t : Option (List ℕ)) → role_by false true o t ≡ note u → ⊥
    by o (Some t) h = cc
    by None None h = cc
    by (Some r) None h = shown r.shown r.own h

fine-nothing : Fine [] (make nothing [])
fine-nothing = record { opened = refl; last = refl; owners = All-nil (IsOwned []); leads = All-nil IsGoodLead; texts = All-nil IsGoodTextStyle }

can-start : (src : Source) → CanBegin src initial_style (make nothing [])
can-start src = record {
  run = record { place = refl; owners = All-nil (IsOwned []); leads = All-nil IsGoodLead; texts = All-nil IsGoodTextStyle };
  box = ap (λ (b : Built). takes_box b.tree.events) (run-none src initial_style true nothing);
}

-- each step of the walk over a document may be taken
pub can-all : (src : Source) → AreInRange src.styles → IsTree src.nodes → CanWalk src (walk (make nothing []) [] None) (steps_of src.nodes)
unfolding steps_in
can-all src all t = subst (CanWalk src (walk g [] None)) (sym (all-steps src.nodes t.some)) (by (role_of src 0) refl (placed-in src t (length src.nodes - 1) 0))
  where
    g : Gathered
    g = make nothing []

    kids : Forest
    kids = below (parents_of src.nodes) (length src.nodes - 1) 0

    out : List Step
    out = Leave (record { 0 = 0 }) ∷ []

    by : (r : Role) → role_of src 0 ≡ r → PlacedIn 0 r kids (λ u. Placed src u kids) → CanEnterNode src r (walk g [] None) × CanWalk src (enter_node src 0 r (walk g [] None)) (steps_in kids ++ out)
    by hidden e q = (tt, can-skip src EndsPut 0 kids g [] out q (leaves-hidden src EndsPut 0 [] g [] refl))
    by (text x) e q = absurd (let no = text-only src 0 x e in let yes = root-element src.nodes t in cc)
    by (note u) e q = absurd (no-note src u e)
    by (inline u) e q = absurd (no-inline src u e)
    by (block u) e q =
        let r : IsInRange u = all 0 pseudo.Element u (own-of src 0 u (inr e)) in
        let y : ℕ = length (with_run src initial_style true g.built g.run).tree.boxes in
        let h : Gathered = begun src initial_style 0 u g in
        let good : Fine (y ∷ []) h = fine-begun src initial_style 0 u [] g all r fine-nothing in
        let kept : Fine (y ∷ []) (adds (last_items src 0) (gathered src u u kids h)) = fine-adds (y ∷ []) (gathered src u u kids h) (last_items src 0) (good-generated src 0 pseudo.After all) (fine-gathered src u u kids (y ∷ []) h all r good) in
        (can-start src, can-walk src EndsPut u kids h (u ∷ []) y [] out all r q good (goes src EndsPut 0 [] (block u) e (gathered src u u kids h) (u ∷ []) (can-end src u y [] (adds (last_items src 0) (gathered src u u kids h)) kept) refl))

-- after the last step no run waits
ends-empty : (src : Source) (w : Walk) (steps : List Step) → CanWalk src w steps → (after_steps src w steps).gathered.run ≡ []
ends-empty src w [] c = c
ends-empty src w (s ∷ steps) c = ends-empty src (after_step src w s) steps c.1

-- so what the walk has built is the flow
pub built-is : (src : Source) → AreInRange src.styles → IsTree src.nodes → built_of src ≡ (walked src).gathered.built
built-is src all t = walk-main src t ∙ ap (with_run src initial_style true (walked src).gathered.built) (ends-empty src (walk (make nothing []) [] None) (steps_of src.nodes) (can-all src all t)) ∙ run-none src initial_style true (walked src).gathered.built

-- an open block comes first of the styles
pub styles-push : (styles : List NodeStyles) (ns : List NodeId) (n : NodeId) (u : Style) → style_at styles n.0 pseudo.Element ≡ Some u → styles_of styles (ns ++ n ∷ []) ≡ u ∷ styles_of styles ns
styles-push styles ns n u e =
    let style : NodeId → Style = λ k. style_or_initial (style_at styles k.0 pseudo.Element) in
    ap (map style) (reverse-append ns (n ∷ [])) ∙ ap (λ (o : Option Style). style_or_initial o ∷ styles_of styles ns) e
