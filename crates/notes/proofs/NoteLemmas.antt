-- Areas of notes: they never fall, and are those of a list's prefix.
use Rattle.std.proofs.Common.{◌≡◌, ◌<◌, ◌≤◌, ◌+◌, ◌-◌, ℕ, zero, suc, ℤ, pos, ◌≤ℤ◌, ◌+ℤ◌, Bool, true, false, cond, List, [], ◌∷◌, ◌++◌, Option, Some, length, max, slice_get, refl, sym, ap, ◌∙◌, subst, arith, ◌⊎◌, ⊎_elim, inl, inr, ◌^◌, ◌*◌, neg_ℤ, add-one}
use Rattle.std.specs.Int.{int_max}
use Rattle.std.proofs.lemmas.Bool.{cases_lt, ne_eqb}
use Rattle.std.proofs.lemmas.Int.{ints, clamps}
use Rattle.notes.specs.declared.solid.NoteSolid.{NoteSolid}
use Rattle.bk_num.specs.Limits.{separator}
use Rattle.bk_num.proofs.ListLemmas.{get-append}
use Rattle.boxes.specs.declared.page.Placed.{Placed}
use Rattle.notes.specs.Notes.{IsSmallNote, IsPlaced, IsCarryCount, note_gap, note_height, note_bottom, note_extent, area_height, area_of, placed_bottom, last_begin, must_of, AreaNeverFalls, MustNeverFalls, NeedNeverFalls}

extent_low : (list : List NoteSolid) (n : ℕ) → pos 0 ≤ℤ note_extent list n
extent_low list zero = omega (arith, ints)
extent_low list (suc n) = let low = extent_low list n in omega (arith, ints, clamps)

extent_more : (list : List NoteSolid) (m k : ℕ) → note_extent list m ≤ℤ note_extent list (m + k)
extent_more list m zero = let n : m + 0 ≡ m = omega arith in subst (λ (i : ℕ). note_extent list m ≤ℤ note_extent list i) (sym n) (omega (arith, ints))
extent_more list m (suc k) =
    let n : m + suc k ≡ suc (m + k) = omega arith in
    let low = extent_more list m k in
    subst (λ (i : ℕ). note_extent list m ≤ℤ note_extent list i) (sym n) (omega (arith, ints, clamps))

-- below the separator's room solids reach as far as they do alone
area_below : (list : List NoteSolid) (n : ℕ) → area_height (λ k. separator +ℤ note_bottom list (suc k)) n ≡ pos 512 +ℤ note_extent list n
area_below list zero = omega (arith, ints)
area_below list (suc n) = let rest = area_below list n in omega (arith, ints, clamps)

pub area_is : (list : List NoteSolid) (n : ℕ) → 0 < n → area_of list n ≡ area_height (λ k. separator +ℤ note_bottom list (suc k)) n
area_is list n some = ap (λ (b : Bool). cond b (pos 0) (area_height (λ k. separator +ℤ note_bottom list (suc k)) n)) (ne_eqb n 0 (λ e. omega arith))

pub area_suc : (list : List NoteSolid) (n : ℕ) → area_of list (suc n) ≡ pos 512 +ℤ note_extent list (suc n)
area_suc list n = area_is list (suc n) (omega arith) ∙ area_below list (suc n)

pub area_some : (list : List NoteSolid) (n : ℕ) → 0 < n → area_of list n ≡ pos 512 +ℤ note_extent list n
area_some list zero h = absurd (omega arith)
area_some list (suc n) h = area_suc list n

pub area_never_falls : AreaNeverFalls
area_never_falls list zero zero less = omega (arith, ints)
area_never_falls list zero (suc n) less = let low = extent_low list (suc n) in rw (area_suc list n) (omega (arith, ints))
area_never_falls list (suc m) zero less = absurd (omega arith)
area_never_falls list (suc m) (suc n) less =
    let e : suc m + (n - m) ≡ suc n = omega arith in
    let more : note_extent list (suc m) ≤ℤ note_extent list (suc n) = subst (λ (i : ℕ). note_extent list (suc m) ≤ℤ note_extent list i) e (extent_more list (suc m) (n - m)) in
    rw (area_suc list m, area_suc list n) (omega (arith, ints))

-- the areas of a prefix are its own
pub bottom_prefix : (list more : List NoteSolid) (n : ℕ) → n ≤ length list → note_bottom (list ++ more) n ≡ note_bottom list n
bottom_prefix list more zero low = refl
bottom_prefix list more (suc n) low =
    let at = get-append list more n (omega arith) in
    let rest = bottom_prefix list more n (omega arith) in
    ap (λ (z : ℤ). (z +ℤ note_gap (slice_get (list ++ more) n)) +ℤ note_height (slice_get (list ++ more) n)) rest ∙ ap (λ (o : Option NoteSolid). (note_bottom list n +ℤ note_gap o) +ℤ note_height o) at

pub extent_prefix : (list more : List NoteSolid) (n : ℕ) → n ≤ length list → note_extent (list ++ more) n ≡ note_extent list n
extent_prefix list more zero low = refl
extent_prefix list more (suc n) low =
    ap (λ (z : ℤ). int_max z (note_bottom (list ++ more) (suc n))) (extent_prefix list more n (omega arith)) ∙ ap (λ (z : ℤ). int_max (note_extent list n) z) (bottom_prefix list more (suc n) low)

pub area_prefix : (list more : List NoteSolid) (n : ℕ) → n ≤ length list → area_of (list ++ more) n ≡ area_of list n
area_prefix list more zero low = refl
area_prefix list more (suc n) low = area_suc (list ++ more) n ∙ ap (λ (z : ℤ). pos 512 +ℤ z) (extent_prefix list more (suc n) low) ∙ sym (area_suc list n)

-- the last note that begins
begin_more : (n : ℕ) (list more : List NoteSolid) → last_begin n list ≤ last_begin n (list ++ more)
begin_more n [] more = omega arith
begin_more n (s ∷ list) more = let rest = begin_more (suc n) list more in omega arith

pub begin_within : (n : ℕ) (list : List NoteSolid) → last_begin n list ≤ n + length list
begin_within n [] = omega arith
begin_within n (s ∷ list) = by s.begins (begin_within (suc n) list)
  where
    by : (b : Bool) → last_begin (suc n) list ≤ suc n + length list → max (cond b (suc n) 0) (last_begin (suc n) list) ≤ n + length (s ∷ list)
    by true low = omega arith
    by false low = omega arith

pub must_never_falls : MustNeverFalls
must_never_falls list more c = let low = begin_more 0 list more in omega arith

pub must_within : (list : List NoteSolid) (c : ℕ) → c ≤ length list → must_of list c ≤ length list
must_within list c low = let w = begin_within 0 list in omega arith

pub need_never_falls : NeedNeverFalls
need_never_falls list more c low =
    let same : area_of (list ++ more) (must_of list c) ≡ area_of list (must_of list c) = area_prefix list more (must_of list c) (must_within list c low) in
    subst (λ (z : ℤ). z ≤ℤ area_of (list ++ more) (must_of (list ++ more) c)) same (area_never_falls (list ++ more) (must_of list c) (must_of (list ++ more) c) (must_never_falls list more c))

-- the greatest number up to a place that fits, 0 where there is none
pub record IsGreatest (fits : ℕ → Type 0) (at number : ℕ) : Type 0 where
  pub within : number ≤ at
  pub fit : 0 < number → fits number
  pub greatest : (k : ℕ) → 0 < k → k ≤ at → fits k → k ≤ number

pub greatest_none : (fits : ℕ → Type 0) → IsGreatest fits 0 0
greatest_none fits = record { within = omega arith; fit = λ h. absurd (omega arith); greatest = λ k some low f. low }

pub greatest_step : (fits : ℕ → Type 0) (at number number' : ℕ) → IsGreatest fits at number → (number' ≡ at + 1) ⊎ (number' ≡ number) → (number < number' → fits (at + 1)) → (fits (at + 1) → number' ≡ at + 1) → IsGreatest fits (at + 1) number'
greatest_step fits at number number' g (inl e) fit most = let w = g.within in record { within = omega arith; fit = λ h. subst fits (sym e) (fit (omega arith)); greatest = λ k some low f. omega arith }
greatest_step fits at number number' g (inr e) fit most =
    let w = g.within in
    record {
      within = omega arith;
      fit = λ h. subst fits (sym e) (g.fit (omega arith));
      greatest = λ k some low f. ⊎_elim
          (λ (i : k < at + 1). let m = g.greatest k some (omega arith) f in omega arith)
          (λ (i : at + 1 ≤ k). let same : k ≡ at + 1 = omega arith in let n = most (subst fits same f) in omega arith)
          (cases_lt k (at + 1));
    }

pub placed_by : (list : List NoteSolid) (least : ℕ) (room : ℤ) (number : ℕ) → least ≤ length list → IsGreatest (λ k. area_of list k ≤ℤ room) (length list) number → IsPlaced list least room (max number least)
placed_by list least room number low g =
    let w = g.within in
    by (cases_lt least number) w
  where
    by : (least < number) ⊎ (number ≤ least) → number ≤ length list → IsPlaced list least room (max number least)
    by (inl h) w = let e : number ≡ max number least = omega arith in subst (IsPlaced list least room) e (record { low = omega arith; within = w; fits = λ i. g.fit (omega arith); greatest = λ k l v f. ⊎_elim (λ (i : 0 < k). g.greatest k i v f) (λ (i : k ≤ 0). omega arith) (cases_lt 0 k) })
    by (inr h) w = let e : least ≡ max number least = omega arith in subst (IsPlaced list least room) e (record { low = omega arith; within = low; fits = λ i. absurd (omega arith); greatest = λ k l v f. ⊎_elim (λ (i : 0 < k). let m = g.greatest k i v f in omega arith) (λ (i : k ≤ 0). omega arith) (cases_lt 0 k) })

pub carried_by : (list : List NoteSolid) (carried : ℕ) (height : ℤ) (number : ℕ) → 0 < carried → IsGreatest (λ k. (area_of list k +ℤ area_of list k) ≤ℤ height) carried number → IsCarryCount list carried height (max number 1)
carried_by list carried height number some g =
    let w = g.within in
    by (cases_lt 1 number) w
  where
    by : (1 < number) ⊎ (number ≤ 1) → number ≤ carried → IsCarryCount list carried height (max number 1)
    by (inl h) w = let e : number ≡ max number 1 = omega arith in subst (IsCarryCount list carried height) e (record { none = λ z. absurd (omega arith); some = λ z. omega arith; within = w; half = λ i. g.fit (omega arith); greatest = λ k v f. ⊎_elim (λ (i : 0 < k). g.greatest k i v f) (λ (i : k ≤ 0). omega arith) (cases_lt 0 k) })
    by (inr h) w = let e : 1 ≡ max number 1 = omega arith in subst (IsCarryCount list carried height) e (record { none = λ z. absurd (omega arith); some = λ z. omega arith; within = omega arith; half = λ i. absurd (omega arith); greatest = λ k v f. ⊎_elim (λ (i : 0 < k). let m = g.greatest k i v f in omega arith) (λ (i : k ≤ 0). omega arith) (cases_lt 0 k) })

pub record IsReach (list : List NoteSolid) (at : ℕ) (bottom extent : ℤ) : Type 0 where
  pub bottom_is : bottom ≡ note_bottom list at
  pub extent_is : extent ≡ note_extent list at
  pub low : neg_ℤ (pos (2 ^ 33 * at)) ≤ℤ bottom
  pub high : bottom ≤ℤ pos (2 ^ 33 * at)
  pub least : pos 0 ≤ℤ extent
  pub most : extent ≤ℤ pos (2 ^ 33 * at)

pub reach_start : (list : List NoteSolid) → IsReach list 0 (pos 0) (pos 0)
reach_start list = record { bottom_is = refl; extent_is = refl; low = omega (arith, ints); high = omega (arith, ints); least = omega (arith, ints); most = omega (arith, ints) }

pub reach_step : (list : List NoteSolid) (at : ℕ) (s : NoteSolid) (bottom extent bottom' extent' : ℤ) → IsReach list at bottom extent → slice_get list at ≡ Some s → IsSmallNote s → bottom' ≡ (bottom +ℤ s.gap) +ℤ s.height → extent' ≡ int_max extent bottom' → IsReach list (at + 1) bottom' extent'
reach_step list at s bottom extent bottom' extent' r there small b e =
    let low = r.low in
    let high = r.high in
    let least = r.least in
    let most = r.most in
    let gap = small.gap in
    let height_low = small.some in
    let height_high = small.height in
    let next : bottom' ≡ note_bottom list (at + 1) = b ∙ ap (λ (z : ℤ). (z +ℤ s.gap) +ℤ s.height) r.bottom_is ∙ ap (λ (o : Option NoteSolid). (note_bottom list at +ℤ note_gap o) +ℤ note_height o) (sym there) ∙ ap (note_bottom list) (sym (add-one at)) in
    record {
      bottom_is = next;
      extent_is = e ∙ ap (λ (z : ℤ). int_max z bottom') r.extent_is ∙ ap (λ (z : ℤ). int_max (note_extent list at) z) (next ∙ ap (note_bottom list) (add-one at)) ∙ ap (note_extent list) (sym (add-one at));
      low = omega (arith, ints);
      high = omega (arith, ints);
      least = omega (arith, ints, clamps);
      most = omega (arith, ints, clamps);
    }

-- the area of the first solids that are placed, and that of one more
pub placed_step : (notes : List (ℕ × Placed)) (at : ℕ) (height height' : ℤ) → height ≡ area_height (λ k. placed_bottom (slice_get notes k)) at → height' ≡ int_max height (placed_bottom (slice_get notes at)) → height' ≡ area_height (λ k. placed_bottom (slice_get notes k)) (at + 1)
placed_step notes at height height' is next = next ∙ ap (λ (z : ℤ). int_max z (placed_bottom (slice_get notes at))) is ∙ ap (area_height (λ k. placed_bottom (slice_get notes k))) (sym (add-one at))

-- the last note that begins among those that are left, with what was found before
pub begins_step : (n last : ℕ) (s : NoteSolid) (list : List NoteSolid) → s.begins ≡ true → max last (last_begin n (s ∷ list)) ≡ max (max last (suc n)) (last_begin (suc n) list)
begins_step n last s list e =
    let own : last_begin n (s ∷ list) ≡ max (suc n) (last_begin (suc n) list) = ap (λ (b : Bool). max (cond b (suc n) 0) (last_begin (suc n) list)) e in
    ap (max last) own ∙ omega arith

pub begins_skip : (n last : ℕ) (s : NoteSolid) (list : List NoteSolid) → s.begins ≡ false → max last (last_begin n (s ∷ list)) ≡ max last (last_begin (suc n) list)
begins_skip n last s list e =
    let own : last_begin n (s ∷ list) ≡ max 0 (last_begin (suc n) list) = ap (λ (b : Bool). max (cond b (suc n) 0) (last_begin (suc n) list)) e in
    ap (max last) own ∙ omega arith
