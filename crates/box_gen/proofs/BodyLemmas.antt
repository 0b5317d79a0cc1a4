-- The walk over the notes of a document builds their bodies.
use Rattle.std.proofs.Common.{◌≡◌, ◌∙◌, ℕ, zero, suc, ◌-◌, ◌<◌, ◌==◌, Bool, true, false, cond, List, [], ◌∷◌, ◌++◌, append-nil, append_assoc, Option, None, Some, length, option_map, refl, sym, ap, subst, arith}
use Rattle.std.specs.Prelude.{IsSome}
use Rattle.std.proofs.lemmas.Bool.{eq-eqb}
use Rattle.std.proofs.lemmas.Map.Views.{exact_unsigned_eq}
use Rattle.std.proofs.lemmas.List.Elements.{All-nil}
use Rattle.bk_num.specs.declared.ids.NodeId.{NodeId}
use Rattle.bk_num.specs.declared.values.Pseudo.TheVariants as pseudo
use Rattle.dom.specs.Nodes.{IsTree, parents_of}
use Rattle.dom.specs.Walk.{children_of, node_of, steps_of}
use Rattle.dom.specs.declared.walk.Step.{Step}
use Rattle.dom.specs.declared.walk.Step.TheVariants.{Enter, Leave}
use Rattle.dom.proofs.WalkLemmas.{root-parent}
use Rattle.style.specs.declared.style.Style.{Style}
use Rattle.style.specs.Styles.{initial_style}
use Rattle.box_gen.specs.Items as item
use Rattle.box_gen.specs.Bodies.{Noted, noted, Walks, walks, CanInNote, WalkBuildsFlow, after_all, after_both, body_at, is_end, note_begun, note_ended, notes_after, outside, walks_start}
use Rattle.box_gen.specs.Flow.{Built, bodies_in, bodies_of, body_in, closed, first_items, generated_items, last_items, node_bodies, note_first_items, note_root, nothing, text_item}
use Rattle.box_gen.specs.Gather.{Gathered, adds, begun, called, make}
use Rattle.box_gen.specs.Sources.{AreInRange, IsInRange}
use Rattle.box_gen.specs.Steps.{CanEnd}
use Rattle.box_gen.specs.Trees.{Source, Forest, none, node, side_by_side, below, forest_of, in_note, Role, text, hidden, inline, block, note, role_of}
use Rattle.box_gen.specs.Walk.{Walk, after_step, after_steps, element_style, enter_by, enter_node, innermost, leave_by, leave_node, style_around, walk}
use Rattle.box_gen.proofs.FlowLemmas.{grows-full}
use Rattle.box_gen.proofs.OwnerLemmas.{IsGoodLead, IsOwned}
use Rattle.box_gen.proofs.SoundLemmas.{Fine, can-end, can-walk, fine-adds, fine-gathered, good-append, good-first, good-generated, steps-more}
use Rattle.box_gen.proofs.WalkLemmas.{Greater, Placed, PlacedIn, all-steps, own-note, placed-in, placed-kids, steps_in, walk-main, walks-in}
use Rattle.box_gen.proofs.Gathering.{gather_node, gathered}
use Rattle.box_gen.proofs.Walkable.{CanAll, CanTo}

-- ---- steps below a node

-- steps through nodes after one
unfoldable FarSteps : ℕ → List Step → Type 0
FarSteps n [] = Unit {0}
FarSteps n (s ∷ steps) = (n < node_of s) × FarSteps n steps

far-append : (n : ℕ) (xs ys : List Step) → FarSteps n xs → FarSteps n ys → FarSteps n (xs ++ ys)
unfolding FarSteps
far-append n [] ys f g = g
far-append n (x ∷ xs) ys f g = (f.0, far-append n xs ys f.1 g)

far-in : (n : ℕ) (f : Forest) → Greater n f → FarSteps n (steps_in f)
unfolding FarSteps Greater steps_in
far-in n none g = tt
far-in n (node m kids more) g = (g.0, far-append n (steps_in kids) (Leave (record { 0 = m }) ∷ steps_in more) (far-in n kids g.1) (g.0, far-in n more g.2))

no-end : (n : ℕ) (s : Step) → n < node_of s → is_end (Some n) s ≡ false
no-end n (Enter m) l = refl
no-end n (Leave m) l = by (n == m.0) refl
  where
    by : (b : Bool) → (n == m.0) ≡ b → b ≡ false
    by true e = let same : n ≡ m.0 = exact_unsigned_eq n m.0 e in absurd (omega (arith, same, l))
    by false e = refl

-- below an element that is passed over the main tree stays
stays : (src : Source) (g : Gathered) (bs : List Style) (n : ℕ) (s : Step) → n < node_of s → after_step src (walk g bs (Some n)) s ≡ walk g bs (Some n)
stays src g bs n (Enter m) l = refl
stays src g bs n (Leave m) l = ap (λ (b : Bool). cond b (walk g bs None) (walk g bs (Some n))) (no-end n (Leave m) l)

outside-none : (src : Source) (n : ℕ) (s : Step) → outside src (Some n) s ≡ None
outside-none src n (Enter m) = refl
outside-none src n (Leave m) = refl

-- below an element that isn't shown there are no notes
skip-all : (src : Source) (end : Noted) (n : ℕ) (g : Gathered) (bs : List Style) (bodies : List Built) (steps tail : List Step) → FarSteps n steps → CanAll src end (walks (walk g bs (Some n)) (noted None bodies)) tail → CanAll src end (walks (walk g bs (Some n)) (noted None bodies)) (steps ++ tail)
unfolding FarSteps
skip-all src end n g bs bodies [] tail far c = c
skip-all src end n g bs bodies (s ∷ steps) tail far c = (λ r. tt, subst (λ (v : Walks). CanAll src end v (steps ++ tail)) (sym same) (skip-all src end n g bs bodies steps tail far.1 c))
  where
    same : after_both src (walks (walk g bs (Some n)) (noted None bodies)) s ≡ walks (walk g bs (Some n)) (noted None bodies)
    same = ap (λ (w : Walk). walks w (noted (outside src (Some n) s) bodies)) (stays src g bs n s far.0) ∙ ap (λ (o : Option Walk). walks (walk g bs (Some n)) (noted o bodies)) (outside-none src n s)

abbrev Any : Walk → Type 0
Any w = Unit {0}

-- steps below a note element are those of its body
body-all : (src : Source) (end : Noted) (n : ℕ) (g : Gathered) (bs : List Style) (bodies : List Built) (b : Walk) (steps tail : List Step) → FarSteps n steps → (AreInRange src.styles → CanTo (in_note src) Any b steps) → CanAll src end (walks (walk g bs (Some n)) (noted (Some (after_steps (in_note src) b steps)) bodies)) tail → CanAll src end (walks (walk g bs (Some n)) (noted (Some b) bodies)) (steps ++ tail)
unfolding FarSteps
body-all src end n g bs bodies b [] tail far can c = c
body-all src end n g bs bodies b (s ∷ steps) tail far can c = (λ r. subst (CanInNote (in_note src) b s) (sym (no-end n s far.0)) (can r).0, subst (λ (v : Walks). CanAll src end v (steps ++ tail)) (sym same) (body-all src end n g bs bodies (after_step (in_note src) b s) steps tail far.1 (λ r. (can r).1) c))
  where
    same : after_both src (walks (walk g bs (Some n)) (noted (Some b) bodies)) s ≡ walks (walk g bs (Some n)) (noted (Some (after_step (in_note src) b s)) bodies)
    same =
        ap (λ (w : Walk). walks w (notes_after src (Some n) (Some b) bodies s)) (stays src g bs n s far.0)
        ∙ ap (λ (e : Bool). walks (walk g bs (Some n)) (cond e (noted None (bodies ++ note_ended (in_note src) (node_of s) b ∷ [])) (noted (Some (after_step (in_note src) b s)) bodies))) (no-end n s far.0)

-- ---- a note

-- what a note gathers before its children, and all of it
abbrev pub note_start : Source → ℕ → Style → Gathered
note_start src n u = make (note_root n u) (note_first_items src u n)

abbrev pub note_full : Source → ℕ → Style → Forest → Gathered
note_full src n u kids = adds (last_items src n) (gathered src u u kids (note_start src n u))

pub body-is : (src : Source) (n : ℕ) (u : Style) (kids : Forest) → body_in src u n kids ≡ note_ended src n (walk (gathered src u u kids (note_start src n u)) (u ∷ []) None)
body-is src n u kids = ap closed (grows-full src u kids (note_root n u) (note_first_items src u n) (last_items src n) refl)

fine-start : (src : Source) (n : ℕ) (u : Style) → AreInRange src.styles → IsInRange u → Fine (0 ∷ []) (note_start src n u)
fine-start src n u all r = record {
  opened = refl;
  last = refl;
  owners = All-nil (IsOwned (0 ∷ []));
  leads = All-nil IsGoodLead;
  texts = good-append (generated_items src n pseudo.Marker) (first_items src u n) (good-generated src n pseudo.Marker all) (good-first src u n all r);
}

body-can : (src : Source) (n : ℕ) (u : Style) (kids : Forest) → AreInRange src.styles → IsInRange u → Placed src u kids → CanTo src Any (walk (note_start src n u) (u ∷ []) None) (steps_in kids)
body-can src n u kids all r p = subst (CanTo src Any (walk (note_start src n u) (u ∷ []) None)) (append-nil (steps_in kids)) (can-walk src Any u kids (note_start src n u) (u ∷ []) 0 [] [] all r p (fine-start src n u all r) tt)

body-end : (src : Source) (n : ℕ) (u : Style) (kids : Forest) → AreInRange src.styles → IsInRange u → CanEnd src u (note_full src n u kids)
body-end src n u kids all r = can-end src u 0 [] (note_full src n u kids) (fine-adds (0 ∷ []) (gathered src u u kids (note_start src n u)) (last_items src n) (good-generated src n pseudo.After all) (fine-gathered src u u kids (0 ∷ []) (note_start src n u) all r (fine-start src n u all r)))

-- ---- along the steps

-- how nodes below note elements stand
abbrev NotePlacedIn : Source → Role → Forest → Type 0 → Type 0
NotePlacedIn src hidden kids inside = Unit {0}
NotePlacedIn src (text t) kids inside = Unit {0}
NotePlacedIn src (inline u) kids inside = inside
NotePlacedIn src (block u) kids inside = inside
NotePlacedIn src (note u) kids inside = Placed (in_note src) u kids

unfoldable NotePlaced : Source → Forest → Type 0
NotePlaced src none = Unit {0}
NotePlaced src (node n kids more) = NotePlacedIn src (role_of src n) kids (NotePlaced src kids) × NotePlaced src more

note-placed : (src : Source) → IsTree src.nodes → (d : ℕ) (ns : List ℕ) → NotePlaced src (side_by_side (below (parents_of src.nodes) d) ns)
unfolding NotePlaced
note-placed src t d [] = tt
note-placed src t zero (n ∷ ns) = (by (role_of src n) refl, note-placed src t zero ns)
  where
    by : (r : Role) → role_of src n ≡ r → NotePlacedIn src r none (Unit {0})
    by hidden e = tt
    by (text x) e = tt
    by (inline u) e = tt
    by (block u) e = tt
    by (note u) e = placed-kids (in_note src) t zero n u (own-note src n u e)
note-placed src t (suc d) (n ∷ ns) = (by (role_of src n) refl (note-placed src t d (children_of (parents_of src.nodes) n)), note-placed src t (suc d) ns)
  where
    by : (r : Role) → role_of src n ≡ r → NotePlaced src (below (parents_of src.nodes) (suc d) n) → NotePlacedIn src r (below (parents_of src.nodes) (suc d) n) (NotePlaced src (below (parents_of src.nodes) (suc d) n))
    by hidden e k = tt
    by (text x) e k = tt
    by (inline u) e k = k
    by (block u) e k = k
    by (note u) e k = placed-kids (in_note src) t (suc d) n u (own-note src n u e)

-- the step out of a node outside notes
goes-all : (src : Source) (end : Noted) (n : ℕ) (tail : List Step) (r : Role) → role_of src n ≡ r → (h : Gathered) (cs : List Style) (l : List Built) → CanAll src end (walks (leave_node src n r (walk h cs None)) (noted None l)) tail → CanAll src end (walks (walk h cs None) (noted None l)) (Leave (record { 0 = n }) ∷ tail)
goes-all src end n tail r e h cs l c = (λ a. tt, subst (λ (q : Role). CanAll src end (walks (leave_node src n q (walk h cs None)) (noted None l)) tail) (sym e) c)

-- what the children do, the nodes do
IsGoing : Source → Noted → Forest → Type 0
IsGoing src end kids = (u : Style) (h : Gathered) (cs : List Style) (l : List Built) (rest : List Step) → Placed src u kids → NotePlaced src kids → CanAll src end (walks (walk (gathered src u (innermost cs) kids h) cs None) (noted None (l ++ bodies_in src kids))) rest → CanAll src end (walks (walk h cs None) (noted None l)) (steps_in kids ++ rest)

go-note : (src : Source) (end : Noted) (n : ℕ) (u : Style) (kids : Forest) (h : Gathered) (bs : List Style) (l : List Built) (tail : List Step) → role_of src n ≡ note u → Greater n kids → Placed (in_note src) u kids →
    CanAll src end (walks (walk h bs None) (noted None (l ++ body_in (in_note src) u n kids ∷ []))) tail →
    CanAll src end (walks (walk h bs (Some n)) (noted (Some (note_begun (in_note src) n u)) l)) (steps_in kids ++ Leave (record { 0 = n }) ∷ tail)
go-note src end n u kids h bs l tail e far p c =
    body-all src end n h bs l (note_begun (in_note src) n u) (steps_in kids) (out ∷ tail) (far-in n kids far) (λ all. body-can (in_note src) n u kids all (all n pseudo.Element u (own-note src n u e)) p)
    (subst (λ (b : Walk). CanAll src end (walks (walk h bs (Some n)) (noted (Some b) l)) (out ∷ tail)) (sym (walks-in (in_note src) u kids (note_start (in_note src) n u) (u ∷ []) p)) (
      λ all. subst (CanInNote (in_note src) full out) (sym (eq-eqb n n refl)) (body-end (in_note src) n u kids all (all n pseudo.Element u (own-note src n u e))),
      subst (λ (x : Bool). CanAll src end (walks (cond x (walk h bs None) (walk h bs (Some n))) (cond x (noted None (l ++ note_ended (in_note src) n full ∷ [])) (noted (Some (after_step (in_note src) full out)) l))) tail) (sym (eq-eqb n n refl))
          (subst (λ (b : Built). CanAll src end (walks (walk h bs None) (noted None (l ++ b ∷ []))) tail) (body-is (in_note src) n u kids) c),
    ))
  where
    out : Step
    out = Leave (record { 0 = n })

    full : Walk
    full = walk (gathered (in_note src) u u kids (note_start (in_note src) n u)) (u ∷ []) None

go-node : (src : Source) (end : Noted) (s : Style) (n : ℕ) (kids : Forest) (g : Gathered) (bs : List Style) (l : List Built) (tail : List Step) → style_around src n ≡ s → IsGoing src end kids →
    (r : Role) → role_of src n ≡ r → PlacedIn n r kids (λ u. Placed src u kids) → NotePlacedIn src r kids (NotePlaced src kids) →
    CanAll src end (walks (walk (gather_node src s (innermost bs) n r (λ u c h. gathered src u c kids h) g) bs None) (noted None (l ++ node_bodies src n r kids (bodies_in src kids)))) tail →
    CanAll src end (walks (enter_node src n r (walk g bs None)) (noted (body_at src n r) l)) (steps_in kids ++ Leave (record { 0 = n }) ∷ tail)
unfolding IsGoing steps_in
go-node src end s n kids g bs l tail around k hidden e p q c =
    skip-all src end n g bs l (steps_in kids) (Leave (record { 0 = n }) ∷ tail) (far-in n kids p) (
      λ a. tt,
      subst (λ (b : Bool). CanAll src end (walks (cond b (walk g bs None) (walk g bs (Some n))) (noted None l)) tail) (sym (eq-eqb n n refl))
          (subst (λ (x : List Built). CanAll src end (walks (walk g bs None) (noted None x)) tail) (append-nil l) c),
    )
go-node src end s n kids g bs l tail around k (text t) e p q c =
    let v : Gathered = adds (text_item src (style_around src n) t ∷ []) g in
    let d : CanAll src end (walks (walk v bs None) (noted None l)) tail =
    subst (λ (u : Style). CanAll src end (walks (walk (adds (text_item src u t ∷ []) g) bs None) (noted None l)) tail) (sym around) (subst (λ (x : List Built). CanAll src end (walks (walk (adds (text_item src s t ∷ []) g) bs None) (noted None x)) tail) (append-nil l) c) in
    subst (λ (f : Forest). CanAll src end (walks (walk v bs None) (noted None l)) (steps_in f ++ Leave (record { 0 = n }) ∷ tail)) (sym p) (goes-all src end n tail (text t) e v bs l d)
go-node src end s n kids g bs l tail around k (inline u) e p q c =
    let h : Gathered = adds (first_items src u n) (adds (item.Start (record { 0 = n }) ∷ []) g) in
    k u h bs l (Leave (record { 0 = n }) ∷ tail) p q (goes-all src end n tail (inline u) e (gathered src u (innermost bs) kids h) bs (l ++ bodies_in src kids) c)
go-node src end s n kids g bs l tail around k (block u) e p q c =
    let h : Gathered = begun src (innermost bs) n u g in
    k u h (u ∷ bs) l (Leave (record { 0 = n }) ∷ tail) p q (goes-all src end n tail (block u) e (gathered src u u kids h) (u ∷ bs) (l ++ bodies_in src kids) c)
go-node src end s n kids g bs l tail around k (note u) e p q c = go-note src end n u kids (called src n g) bs l tail e p q c

go-all : (src : Source) (end : Noted) (s : Style) (f : Forest) (g : Gathered) (bs : List Style) (l : List Built) (rest : List Step) → Placed src s f → NotePlaced src f →
    CanAll src end (walks (walk (gathered src s (innermost bs) f g) bs None) (noted None (l ++ bodies_in src f))) rest → CanAll src end (walks (walk g bs None) (noted None l)) (steps_in f ++ rest)
unfolding steps_in Placed NotePlaced gathered bodies_in IsGoing
go-all src end s none g bs l rest p q c = subst (λ (x : List Built). CanAll src end (walks (walk g bs None) (noted None x)) rest) (append-nil l) c
go-all src end s (node n kids more) g bs l rest p q c =
    let inside : List Built = node_bodies src n (role_of src n) kids (bodies_in src kids) in
    let after : Gathered = gather_node src s (innermost bs) n (role_of src n) (λ u c h. gathered src u c kids h) g in
    let k : IsGoing src end kids = λ u h cs x tail a b d. go-all src end u kids h cs x tail a b d in
    let m : CanAll src end (walks (walk after bs None) (noted None (l ++ inside))) (steps_in more ++ rest) =
    go-all src end s more after bs (l ++ inside) rest p.2 q.1 (subst (λ (x : List Built). CanAll src end (walks (walk (gathered src s (innermost bs) more after) bs None) (noted None x)) rest) (sym (append_assoc l inside (bodies_in src more))) c) in
    subst (CanAll src end (walks (walk g bs None) (noted None l))) (sym (steps-more n kids more rest)) (λ a. tt, go-node src end s n kids g bs l (steps_in more ++ rest) p.0 k (role_of src n) refl p.1 q.0 m)

-- ---- a document

-- each step in a note may be taken, and the bodies are those of the document
pub all-can : (src : Source) → IsTree src.nodes → CanAll src (noted None (bodies_of src)) walks_start (steps_of src.nodes)
unfolding Placed
all-can src t =
    let f : Forest = forest_of src.nodes in
    let place : Placed src initial_style f = (ap (element_style src) (root-parent src.nodes t), placed-in src t (length src.nodes - 1) 0, tt) in
    subst (CanAll src (noted None (bodies_of src)) walks_start) (append-nil (steps_in f) ∙ sym (all-steps src.nodes t.some))
    (go-all src (noted None (bodies_of src)) initial_style f (make nothing []) [] [] [] place (note-placed src t (length src.nodes - 1) (0 ∷ [])) refl)

pub all-ends : (src : Source) (end : Noted) (v : Walks) (steps : List Step) → CanAll src end v steps → (after_all src v steps).notes ≡ end
all-ends src end v [] c = c
all-ends src end v (s ∷ steps) c = all-ends src end (after_both src v s) steps c.1

pub all-main : (src : Source) (v : Walks) (steps : List Step) → (after_all src v steps).main ≡ after_steps src v.main steps
all-main src v [] = refl
all-main src v (s ∷ steps) = all-main src (after_both src v s) steps

pub walk-builds : WalkBuildsFlow
walk-builds src t = record {
  main = walk-main src t;
  same = all-main src walks_start (steps_of src.nodes);
  notes = all-ends src (noted None (bodies_of src)) walks_start (steps_of src.nodes) (all-can src t);
}

-- ---- the step out of a note, and those before it

pub end-step : (src : Source) (w : Walk) (s : Step) → is_end w.unshown s ≡ true → after_step src w s ≡ walk w.gathered w.blocks None
end-step src w (Enter n) e = absurd (never w.unshown e)
  where
    never : (o : Option ℕ) → is_end o (Enter n) ≡ true → ⊥
    never None h = cc
    never (Some x) h = cc
end-step src w (Leave n) e = by w.unshown e
  where
    by : (o : Option ℕ) → is_end o (Leave n) ≡ true → leave_by src n.0 o w ≡ walk w.gathered w.blocks None
    by None h = cc
    by (Some x) h = ap (λ (b : Bool). cond b (walk w.gathered w.blocks None) w) h

pub stay-step : (src : Source) (w : Walk) (s : Step) → IsSome w.unshown → is_end w.unshown s ≡ false → after_step src w s ≡ w
stay-step src w (Enter n) i e = by w.unshown i
  where
    by : (o : Option ℕ) → IsSome o → enter_by src n.0 o w ≡ w
    by None h = cc
    by (Some x) h = refl
stay-step src w (Leave n) i e = by w.unshown i e
  where
    by : (o : Option ℕ) → IsSome o → is_end o (Leave n) ≡ false → leave_by src n.0 o w ≡ w
    by None h k = cc
    by (Some x) h k = ap (λ (b : Bool). cond b (walk w.gathered w.blocks None) w) k

pub some-over : (o : Option NodeId) → IsSome o → IsSome (option_map (λ (n : NodeId). n.0) o)
some-over None h = h
some-over (Some n) h = refl

pub note-over : (src : Source) (over : Option ℕ) (b : Walk) (bodies : List Built) (s : Step) (x : Bool) → is_end over s ≡ x → cond x (noted None (bodies ++ note_ended (in_note src) (node_of s) b ∷ [])) (noted (Some (after_step (in_note src) b s)) bodies) ≡ notes_after src over (Some b) bodies s
note-over src over b bodies s x e = ap (λ (y : Bool). cond y (noted None (bodies ++ note_ended (in_note src) (node_of s) b ∷ [])) (noted (Some (after_step (in_note src) b s)) bodies)) (sym e)
