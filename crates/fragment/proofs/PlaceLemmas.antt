-- Where solids end, and how many notes are called before.
use Rattle.std.proofs.Common.{◌≡◌, ◌≢◌, ◌<◌, ◌≤◌, ◌+◌, ℕ, zero, suc, ℤ, Bool, true, false, cond, eqb, is_some, length, List, Option, None, Some, slice_get, refl, sym, ap, ◌∙◌, subst, arith, ◌⊎◌, inl, inr, ⊎_elim, add-one, nat_lt}
use Rattle.std.specs.List.{prefix_len}
use Rattle.std.proofs.lemmas.Bool.{cases_lt, eq-eqb}
use Rattle.std.proofs.lemmas.Bool.Decides.{eqb_tells, nat_tests}
use Rattle.std.proofs.lemmas.List.Sums.{prefix_len-le-length}
use Rattle.metrics.specs.Face.{FontFace}
use Rattle.boxes.specs.Tree.{Tree, IsTree}
use Rattle.boxes.specs.declared.flow.Note.{Note}
use Rattle.boxes.specs.declared.place.Position.{Position}
use Rattle.seams.specs.Runs.{solid_after, solid_before, is_solid_at}
use Rattle.seams.proofs.RunLemmas.{after_solid, before_solid, solid_step}
use Rattle.line_fill.proofs.EndLemmas.{lines_go_on}
use Rattle.cursor.specs.Remainder.{SolidView, IsSolid, IsContent, leaf_measure, end_of}
use Rattle.cursor.specs.Remainder.IsContent.{of_line, of_open, of_close}
use Rattle.cursor.proofs.RemLemmas.{Stands, solid_stands, begins_of, found_of, solid_within}
use Rattle.page_seq.specs.Places.{anchor_of, is_before}
use Rattle.page_seq.proofs.PlaceLemmas.{IsNoLater}
use Rattle.note_list.specs.Calls.{called_before, end_after as end_behind, end_before}
use Rattle.page_list.specs.Cuts.{place_after}
use Rattle.page_list.proofs.CallLemmas.{prefix_more}
use Rattle.fragment.specs.Reads.{called_by}

abbrev place : ℕ → ℕ → Position
place event offset = record { event = event; offset = offset }

-- ---- the order of places
pub no_later_on : (a b c : Position) → IsNoLater a b → IsNoLater b c → IsNoLater a c
no_later_on a b c l m = grind arith

pub before_on : (a b c : Position) → IsNoLater b c → is_before a b ≡ true → is_before a c ≡ true
before_on a b c (inl l) h = grind (arith, nat_tests)
before_on a b c (inr l) h = grind (arith, nat_tests)

-- the last solid before a place ends no later than the place
pub end_before_low : (t : Tree) (at : Position) → IsNoLater (end_before t at) at
end_before_low t at = by (nat_lt 0 at.offset) (solid_before t at.event) refl
  where
    by : (b : Bool) (o : Option ℕ) → solid_before t at.event ≡ o → IsNoLater (cond b at (end_behind o)) at
    by true o e = inr (refl, omega arith)
    by false None e = ⊎_elim (λ (l : 0 < at.event). inl l) (λ (l : at.event ≤ 0). let z : 0 ≡ at.event = omega arith in inr (z, omega arith)) (cases_lt 0 at.event)
    by false (Some p) e =
        let less = (before_solid t at.event p e).0 in
        ⊎_elim (λ (l : suc p < at.event). inl l) (λ (l : at.event ≤ suc p). let z : suc p ≡ at.event = omega arith in inr (z, omega arith)) (cases_lt (suc p) at.event)

module _ (faces : List FontFace) (t : Tree) (w : ℤ) (from : Position) (s : SolidView) (tree : IsTree t) (st : Stands t from) (is : IsSolid faces t w from s) where
  -- a solid begins no earlier than the place that it follows
  pub solid_begins : IsNoLater from s.placed_at
  solid_begins = ⊎_elim
      (λ (l : from.event < s.placed_at.event). inl l)
      (λ (l : s.placed_at.event ≤ from.event).
      let low = (after_solid t from.event s.placed_at.event is.found).0 in
      let same : s.placed_at.event ≡ from.event = omega arith in
      let tells : eqb s.placed_at.event from.event ≡ true = eq-eqb s.placed_at.event from.event same in
      let e : s.placed_at.offset ≡ from.offset = begins_of faces t w from s st is ∙ ap (λ (x : Bool). cond x from.offset 0) tells in
      inr (sym same, omega arith))
      (cases_lt from.event s.placed_at.event)

  -- where it ends: after its event, or inside its leaf
  pub solid_ends : (s.end ≡ place (suc s.placed_at.event) 0) ⊎ ((to : ℕ) × (s.end ≡ place s.placed_at.event to) × (s.placed_at.offset < to))
  solid_ends = by is.content
    where
      edge : s.end ≡ place (s.placed_at.event + 1) 0 → s.end ≡ place (suc s.placed_at.event) 0
      edge e = e ∙ ap (λ (n : ℕ). place n 0) (add-one s.placed_at.event)

      line : {to len : ℕ} → ((eqb to len ≡ true) × (to ≡ len)) ⊎ ((eqb to len ≡ false) × (to ≢ len)) → s.end ≡ end_of s.placed_at.event len to → s.placed_at.offset < to →
          (s.end ≡ place (suc s.placed_at.event) 0) ⊎ ((n : ℕ) × (s.end ≡ place s.placed_at.event n) × (s.placed_at.offset < n))
      line {to} {len} (inl h) ends more = inl (edge (ends ∙ ap (λ (x : Bool). cond x (place (s.placed_at.event + 1) 0) (place s.placed_at.event to)) h.0))
      line {to} {len} (inr h) ends more = inr (to, ends ∙ ap (λ (x : Bool). cond x (place (s.placed_at.event + 1) 0) (place s.placed_at.event to)) h.0, more)

      by : IsContent faces t w from s → (s.end ≡ place (suc s.placed_at.event) 0) ⊎ ((to : ℕ) × (s.end ≡ place s.placed_at.event to) × (s.placed_at.offset < to))
      by (of_line l) = line (eqb_tells l.line_of.to (length l.leaf.text)) l.ends (lines_go_on faces l.leaf s.placed_at.offset (leaf_measure t w s.placed_at.event) l.line_of (found_of faces t w from s tree st is.found l).inside l.fills).0
      by (of_open b e l) = inl (edge l.ends)
      by (of_close b e l) = inl (edge l.ends)

  pub solid_goes_on : IsNoLater s.placed_at s.end
  solid_goes_on = by solid_ends
    where
      by : (s.end ≡ place (suc s.placed_at.event) 0) ⊎ ((to : ℕ) × (s.end ≡ place s.placed_at.event to) × (s.placed_at.offset < to)) → IsNoLater s.placed_at s.end
      by (inl e) = subst (IsNoLater s.placed_at) (sym e) (inl (omega arith))
      by (inr (to, e, l)) = subst (IsNoLater s.placed_at) (sym e) (inr (refl, omega arith))

  pub solid_here : is_solid_at t.boxes (slice_get t.events s.placed_at.event) ≡ true
  solid_here = (after_solid t from.event s.placed_at.event is.found).1

  pub end_low : IsNoLater (end_before t from) s.end
  end_low = no_later_on (end_before t from) from s.end (end_before_low t from) (no_later_on from s.placed_at s.end solid_begins solid_goes_on)

  pub place_low : IsNoLater (end_before t s.placed_at) s.end
  place_low = no_later_on (end_before t s.placed_at) s.placed_at s.end (end_before_low t s.placed_at) solid_goes_on

  pub from_low : IsNoLater from s.end
  from_low = no_later_on from s.placed_at s.end solid_begins solid_goes_on

-- ---- the last solid before the next one
-- no solid stands between an event and the first solid from it on
none_between : (t : Tree) (fuel k n i : ℕ) → i ≤ k + fuel → solid_after t k ≡ Some n → k ≤ i → i < n → is_solid_at t.boxes (slice_get t.events i) ≡ false
none_between t zero k n i most found low less = by (is_solid_at t.boxes (slice_get t.events k)) refl
  where
    same : k ≡ i
    same = omega arith

    inside : n < length t.events
    inside = solid_within t k n found

    by : (b : Bool) → is_solid_at t.boxes (slice_get t.events k) ≡ b → is_solid_at t.boxes (slice_get t.events i) ≡ false
    by true e = absurd (let w = inside in let h : Some n ≡ Some k = sym found ∙ solid_step t k true (omega arith) e in let at : n ≡ k = cc in omega arith)
    by false e = ap (λ (j : ℕ). is_solid_at t.boxes (slice_get t.events j)) (sym same) ∙ e
none_between t (suc fuel) k n i most found low less = by (is_solid_at t.boxes (slice_get t.events k)) refl (λ h l. none_between t fuel (suc k) n i (omega arith) h l less)
  where
    inside : n < length t.events
    inside = solid_within t k n found

    by : (b : Bool) → is_solid_at t.boxes (slice_get t.events k) ≡ b → (solid_after t (suc k) ≡ Some n → suc k ≤ i → is_solid_at t.boxes (slice_get t.events i) ≡ false) → is_solid_at t.boxes (slice_get t.events i) ≡ false
    by true e more = absurd (let w = inside in let h : Some n ≡ Some k = sym found ∙ solid_step t k true (omega arith) e in let at : n ≡ k = cc in omega arith)
    by false e more = ⊎_elim
        (λ (l : k < i). more (let w = inside in sym (solid_step t k false (omega arith) e) ∙ found) (omega arith))
        (λ (l : i ≤ k). let same : k ≡ i = omega arith in ap (λ (j : ℕ). is_solid_at t.boxes (slice_get t.events j)) (sym same) ∙ e)
        (cases_lt k i)

-- so the last solid before it is the one at the event before, where that is one
before_is : (t : Tree) (k n : ℕ) → is_solid_at t.boxes (slice_get t.events k) ≡ true → k < n → ((i : ℕ) → k < i → i < n → is_solid_at t.boxes (slice_get t.events i) ≡ false) → solid_before t n ≡ Some k
before_is t k zero is less none = absurd (omega arith)
before_is t k (suc n) is less none = ⊎_elim
    (λ (l : k < n). ap (λ (x : Bool). cond x (Some n) (solid_before t n)) (none n l (omega arith)) ∙ before_is t k n is l (λ i a b. none i a (omega arith)))
    (λ (l : n ≤ k). let same : n ≡ k = omega arith in ap (λ (x : Bool). cond x (Some n) (solid_before t n)) (ap (λ (j : ℕ). is_solid_at t.boxes (slice_get t.events j)) same ∙ is) ∙ ap (λ (j : ℕ). Some j) same)
    (cases_lt k n)

-- the last solid before the second of two neighbours ends where the first one does
pub end_is : (faces : List FontFace) (t : Tree) (w : ℤ) (from : Position) (r s : SolidView) → IsTree t → Stands t from → IsSolid faces t w from r → IsSolid faces t w r.end s → end_before t s.placed_at ≡ r.end
end_is faces t w from r s tree st first second = by (solid_ends faces t w from r tree st first)
  where
    next : Stands t r.end
    next = solid_stands faces t w from r tree st first

    here : is_solid_at t.boxes (slice_get t.events r.placed_at.event) ≡ true
    here = solid_here faces t w from r tree st first

    -- the solid before ends after its event
    whole : r.end ≡ place (suc r.placed_at.event) 0 → end_before t s.placed_at ≡ r.end
    whole e =
        let at : r.end.event ≡ suc r.placed_at.event = ap (λ (p : Position). p.event) e in
        let zero_is : r.end.offset ≡ 0 = ap (λ (p : Position). p.offset) e in
        let found : solid_after t (suc r.placed_at.event) ≡ Some s.placed_at.event = ap (solid_after t) (sym at) ∙ second.found in
        let low = (after_solid t (suc r.placed_at.event) s.placed_at.event found).0 in
        let before : solid_before t s.placed_at.event ≡ Some r.placed_at.event =
        before_is t r.placed_at.event s.placed_at.event here (omega arith) (λ i a b. none_between t i (suc r.placed_at.event) s.placed_at.event i (omega arith) found (omega arith) b) in
        let none : s.placed_at.offset ≡ 0 = begins_of faces t w r.end s next second ∙ either (eqb s.placed_at.event r.end.event) zero_is in
        ap (λ (n : ℕ). cond (nat_lt 0 n) s.placed_at (end_behind (solid_before t s.placed_at.event))) none ∙ ap end_behind before ∙ sym e
      where
        either : (b : Bool) → r.end.offset ≡ 0 → cond b r.end.offset 0 ≡ 0
        either true z = z
        either false z = refl

    -- it ends inside its leaf, where the next one begins
    part : (to : ℕ) → r.end ≡ place r.placed_at.event to → r.placed_at.offset < to → end_before t s.placed_at ≡ r.end
    part to e less =
        let at : r.end.event ≡ r.placed_at.event = ap (λ (p : Position). p.event) e in
        let offset : r.end.offset ≡ to = ap (λ (p : Position). p.offset) e in
        let inside : r.placed_at.event < length t.events = solid_within t from.event r.placed_at.event first.found in
        let found : solid_after t r.end.event ≡ Some r.placed_at.event = ap (solid_after t) at ∙ solid_step t r.placed_at.event true inside here in
        let same : s.placed_at.event ≡ r.placed_at.event = (let h : Some s.placed_at.event ≡ Some r.placed_at.event = sym second.found ∙ found in cc) in
        let tells : eqb s.placed_at.event r.end.event ≡ true = eq-eqb s.placed_at.event r.end.event (same ∙ sym at) in
        let o : s.placed_at.offset ≡ to = begins_of faces t w r.end s next second ∙ ap (λ (x : Bool). cond x r.end.offset 0) tells ∙ offset in
        let some : nat_lt 0 s.placed_at.offset ≡ true = grind (arith, nat_tests) in
        ap (λ (b : Bool). cond b s.placed_at (end_behind (solid_before t s.placed_at.event))) some ∙ ap (λ (n : ℕ). place n s.placed_at.offset) same ∙ ap (λ (n : ℕ). place r.placed_at.event n) o ∙ sym e

    by : (r.end ≡ place (suc r.placed_at.event) 0) ⊎ ((to : ℕ) × (r.end ≡ place r.placed_at.event to) × (r.placed_at.offset < to)) → end_before t s.placed_at ≡ r.end
    by (inl e) = whole e
    by (inr (to, e, less)) = part to e less

-- ---- the notes that are called
abbrev calls_before : Tree → List Note → Position → ℕ
calls_before t notes at = prefix_len (λ n. is_before (anchor_of t n.call) at) notes

calls_on : (t : Tree) (notes : List Note) (a b : Position) → IsNoLater a b → calls_before t notes a ≤ calls_before t notes b
calls_on t notes a b l = prefix_more (λ n. is_before (anchor_of t n.call) a) (λ n. is_before (anchor_of t n.call) b) notes (λ n h. before_on (anchor_of t n.call) a b l h)

-- how many are called by the end of a solid: those before it at least, and no more than there are
pub by_least : (t : Tree) (notes : List Note) (end : Position) → calls_before t notes end ≤ called_by t notes end
by_least t notes end = by (is_some (solid_after t end.event)) (prefix_len-le-length (λ n. is_before (anchor_of t n.call) end) notes)
  where
    by : (b : Bool) → calls_before t notes end ≤ length notes → calls_before t notes end ≤ cond b (calls_before t notes end) (length notes)
    by true low = omega arith
    by false low = low

pub by_most : (t : Tree) (notes : List Note) (end : Position) → called_by t notes end ≤ length notes
by_most t notes end = by (is_some (solid_after t end.event)) (prefix_len-le-length (λ n. is_before (anchor_of t n.call) end) notes)
  where
    by : (b : Bool) → calls_before t notes end ≤ length notes → cond b (calls_before t notes end) (length notes) ≤ length notes
    by true low = low
    by false low = omega arith

pub by_here : (t : Tree) (notes : List Note) (end : Position) (k : ℕ) → solid_after t end.event ≡ Some k → called_by t notes end ≡ calls_before t notes end
by_here t notes end k found = ap (λ (o : Option ℕ). cond (is_some o) (calls_before t notes end) (length notes)) found

pub by_all : (t : Tree) (notes : List Note) (end : Position) → solid_after t end.event ≡ None → called_by t notes end ≡ length notes
by_all t notes end none = ap (λ (o : Option ℕ). cond (is_some o) (calls_before t notes end) (length notes)) none

-- before the tree's end all are called, and before another place those that are called before the last solid ends
pub before_end : (t : Tree) (notes : List Note) → called_before t notes (place_after t None) ≡ length notes
before_end t notes = ap (λ (b : Bool). cond b (length notes) (calls_before t notes (end_before t (place_after t None)))) (eq-eqb (length t.events) (length t.events) refl)

pub before_inside : (t : Tree) (notes : List Note) (at : Position) → at.event < length t.events → called_before t notes at ≡ calls_before t notes (end_before t at)
before_inside t notes at less = ap (λ (b : Bool). cond b (length notes) (calls_before t notes (end_before t at))) (by (eqb_tells at.event (length t.events)))
  where
    by : ((eqb at.event (length t.events) ≡ true) × (at.event ≡ length t.events)) ⊎ ((eqb at.event (length t.events) ≡ false) × (at.event ≢ length t.events)) → eqb at.event (length t.events) ≡ false
    by (inl h) = absurd (omega (arith, h.1))
    by (inr h) = h.0

module _ (faces : List FontFace) (t : Tree) (w : ℤ) (from : Position) (s : SolidView) (tree : IsTree t) (st : Stands t from) (is : IsSolid faces t w from s) (notes : List Note) where
  -- a solid's event is one of the tree's
  inside_from : from.event < length t.events
  inside_from =
      let low = (after_solid t from.event s.placed_at.event is.found).0 in
      let inside = solid_within t from.event s.placed_at.event is.found in
      omega arith

  -- the notes called before the place that a solid follows are called by its end
  pub called_grows : called_before t notes from ≤ called_by t notes s.end
  called_grows =
      let e = before_inside t notes from inside_from in
      let m = calls_on t notes (end_before t from) s.end (end_low faces t w from s tree st is) in
      let l = by_least t notes s.end in
      omega arith

  -- the same from the place where it begins
  pub called_grows_here : called_before t notes s.placed_at ≤ called_by t notes s.end
  called_grows_here =
      let e = before_inside t notes s.placed_at (solid_within t from.event s.placed_at.event is.found) in
      let m = calls_on t notes (end_before t s.placed_at) s.end (place_low faces t w from s tree st is) in
      let l = by_least t notes s.end in
      omega arith

  pub called_on : called_by t notes from ≤ called_by t notes s.end
  called_on =
      let e = by_here t notes from s.placed_at.event is.found in
      let m = calls_on t notes from s.end (from_low faces t w from s tree st is) in
      let l = by_least t notes s.end in
      omega arith

-- the notes called before the second of two neighbours are those that are called by the first one's end
pub called_is : (faces : List FontFace) (t : Tree) (w : ℤ) (from : Position) (r s : SolidView) (notes : List Note) → IsTree t → Stands t from → IsSolid faces t w from r → IsSolid faces t w r.end s → called_before t notes s.placed_at ≡ called_by t notes r.end
called_is faces t w from r s notes tree st first second =
    before_inside t notes s.placed_at (solid_within t r.end.event s.placed_at.event second.found)
    ∙ ap (calls_before t notes) (end_is faces t w from r s tree st first second)
    ∙ sym (by_here t notes r.end s.placed_at.event second.found)
