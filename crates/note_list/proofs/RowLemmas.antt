-- Rows of notes: how far more of them reach, and what has to stand.
use Rattle.std.proofs.Common.{◌≡◌, ℕ, zero, suc, ◌+◌, ◌<◌, ◌≤◌, ◌⊎◌, ◌^◌, inl, inr, ⊎_elim, ℤ, pos, ◌≤ℤ◌, ◌<ℤ◌, ◌+ℤ◌, Bool, true, false, cond, List, [], ◌∷◌, ◌++◌, Option, Some, All, length, max, slice_get, refl, sym, ap, ◌∙◌, subst, arith, add-one}
use Rattle.std.specs.Int.{int_max}
use Rattle.std.proofs.lemmas.Bool.{cases_lt}
use Rattle.std.proofs.lemmas.Int.{ints}
use Rattle.bk_num.proofs.ListLemmas.{slice_get_at, all-get}
use Rattle.bk_num.specs.Limits.{most_entries}
use Rattle.notes.specs.declared.solid.NoteSolid.{NoteSolid}
use Rattle.notes.specs.Notes.{IsCarryCount, IsSmallNote, area_of, last_begin, must_of, note_bottom, note_extent, note_gap, note_height}
use Rattle.notes.proofs.NoteLemmas.{IsReach, area_never_falls, area_prefix, area_some, must_within, reach_start, reach_step, bottom_prefix, extent_prefix, begin_within}
use Rattle.cuts.proofs.ReachLemmas.{area_least}

-- ---- bounds

pub reach_of : (rows : List NoteSolid) (n : ℕ) → n ≤ length rows → All IsSmallNote rows → IsReach rows n (note_bottom rows n) (note_extent rows n)
reach_of rows zero h small = reach_start rows
reach_of rows (suc n) h small =
    let there = slice_get_at rows n (omega arith) in
    let own : IsSmallNote there.0 = all-get IsSmallNote rows n there.0 small there.1 in
    let bottom : note_bottom rows (suc n) ≡ (note_bottom rows n +ℤ there.0.gap) +ℤ there.0.height = ap (λ (o : Option NoteSolid). (note_bottom rows n +ℤ note_gap o) +ℤ note_height o) there.1 in
    subst (λ (k : ℕ). IsReach rows k (note_bottom rows (suc n)) (note_extent rows (suc n))) (add-one n) (reach_step rows n there.0 (note_bottom rows n) (note_extent rows n) (note_bottom rows (suc n)) (note_extent rows (suc n)) (reach_of rows n (omega arith) small) there.1 own bottom refl)

pub area_high : (rows : List NoteSolid) (n : ℕ) → n ≤ length rows → length rows ≤ most_entries → All IsSmallNote rows → area_of rows n ≤ℤ pos (2 ^ 60)
area_high rows zero h few small = omega (arith, ints)
area_high rows (suc n) h few small =
    let most = (reach_of rows (suc n) h small).most in
    let is = area_some rows (suc n) (omega arith) in
    rw is (omega (arith, ints))

-- ---- one solid more

get_next : (list more : List NoteSolid) (s : NoteSolid) → slice_get (list ++ s ∷ more) (length list) ≡ Some s
get_next [] more s = refl
get_next (x ∷ xs) more s = get_next xs more s

pub bottom_next : (list : List NoteSolid) (s : NoteSolid) → note_bottom (list ++ s ∷ []) (suc (length list)) ≡ (note_bottom list (length list) +ℤ s.gap) +ℤ s.height
bottom_next list s =
    ap (λ (o : Option NoteSolid). (note_bottom (list ++ s ∷ []) (length list) +ℤ note_gap o) +ℤ note_height o) (get_next list [] s)
    ∙ ap (λ (z : ℤ). (z +ℤ s.gap) +ℤ s.height) (bottom_prefix list (s ∷ []) (length list) (omega arith))

pub extent_next : (list : List NoteSolid) (s : NoteSolid) → note_extent (list ++ s ∷ []) (suc (length list)) ≡ int_max (note_extent list (length list)) ((note_bottom list (length list) +ℤ s.gap) +ℤ s.height)
extent_next list s =
    ap (λ (z : ℤ). int_max z (note_bottom (list ++ s ∷ []) (suc (length list)))) (extent_prefix list (s ∷ []) (length list) (omega arith))
    ∙ ap (int_max (note_extent list (length list))) (bottom_next list s)

-- ---- what begins

pub begin_append : (n : ℕ) (list more : List NoteSolid) → last_begin n (list ++ more) ≡ max (last_begin n list) (last_begin (n + length list) more)
begin_append n [] more = let none : n + 0 ≡ n = omega arith in subst (λ (k : ℕ). last_begin n more ≡ max 0 (last_begin k more)) (sym none) (omega arith)
begin_append n (s ∷ list) more =
    let rest = begin_append (suc n) list more in
    let count : suc n + length list ≡ n + length (s ∷ list) = omega arith in
    let last : last_begin (suc n + length list) more ≡ last_begin (n + length (s ∷ list)) more = ap (λ (k : ℕ). last_begin k more) count in
    omega arith

-- where none of some solids begins a note, nothing more has to stand
pub must_same : (list more : List NoteSolid) (c : ℕ) → last_begin (length list) more ≡ 0 → must_of (list ++ more) c ≡ must_of list c
must_same list more c none =
    let both = begin_append 0 list more in
    let count : 0 + length list ≡ length list = omega arith in
    let last : last_begin (0 + length list) more ≡ 0 = ap (λ (k : ℕ). last_begin k more) count ∙ none in
    omega arith

begin_one : (n : ℕ) (s : NoteSolid) (b : Bool) → s.begins ≡ b → last_begin n (s ∷ []) ≡ cond b (suc n) 0
begin_one n s true e = let own : last_begin n (s ∷ []) ≡ max (suc n) 0 = ap (λ (x : Bool). max (cond x (suc n) 0) 0) e in own ∙ omega arith
begin_one n s false e = ap (λ (x : Bool). max (cond x (suc n) 0) 0) e

-- one that begins a note has to stand with all before it
pub must_next : (list : List NoteSolid) (s : NoteSolid) (c : ℕ) → s.begins ≡ true → c ≤ length list → must_of (list ++ s ∷ []) c ≡ suc (length list)
must_next list s c e low =
    let both = begin_append 0 list (s ∷ []) in
    let count : 0 + length list ≡ length list = omega arith in
    let last : last_begin (0 + length list) (s ∷ []) ≡ suc (length list) = ap (λ (k : ℕ). last_begin k (s ∷ [])) count ∙ begin_one (length list) s true e in
    let within = begin_within 0 list in
    omega arith

pub must_kept : (list : List NoteSolid) (s : NoteSolid) (c : ℕ) → s.begins ≡ false → must_of (list ++ s ∷ []) c ≡ must_of list c
must_kept list s c e = must_same list (s ∷ []) c (begin_one (length list) s false e)

-- none begins, or one that stands after all of a list
pub begin_past : (n : ℕ) (more : List NoteSolid) → (last_begin n more ≡ 0) ⊎ (n < last_begin n more)
begin_past n [] = inl refl
begin_past n (s ∷ more) = by s.begins (begin_past (suc n) more)
  where
    by : (b : Bool) → (last_begin (suc n) more ≡ 0) ⊎ (suc n < last_begin (suc n) more) → (max (cond b (suc n) 0) (last_begin (suc n) more) ≡ 0) ⊎ (n < max (cond b (suc n) 0) (last_begin (suc n) more))
    by true h = inr (omega arith)
    by false (inl e) = inl (omega arith)
    by false (inr l) = inr (omega arith)

-- ---- a prefix that takes more room than there is

-- how many of the carried solids have to stand is told by such a prefix
pub carry_prefix : (list more : List NoteSolid) (height : ℤ) (c : ℕ) → pos 0 ≤ℤ height → (more ≡ []) ⊎ (height <ℤ area_of list (length list)) → IsCarryCount list (length list) height c → IsCarryCount (list ++ more) (length (list ++ more)) height c
carry_prefix list more height c low (inl e) own = subst (λ (l : List NoteSolid). IsCarryCount l (length l) height c) (sym (append_none list more e)) own
  where
    append_none : (xs ys : List NoteSolid) → ys ≡ [] → xs ++ ys ≡ xs
    append_none [] ys e = e
    append_none (x ∷ xs) ys e = ap (λ (l : List NoteSolid). x ∷ l) (append_none xs ys e)
carry_prefix list more height c low (inr past) own =
    let longer = length_more list more in
    let some = some_of list past in
    let within = own.within in
    record {
      none = λ e. absurd (omega arith);
      some = λ h. own.some some;
      within = omega arith;
      half = λ h. let half = own.half h in let same = area_prefix list more c within in rw same half;
      greatest = λ k l f. ⊎_elim
          (λ (i : k ≤ length list). let same = area_prefix list more k i in own.greatest k i (rw same at f))
          (λ (i : length list < k). absurd (
          let same : area_of (list ++ more) (length list) ≡ area_of list (length list) = area_prefix list more (length list) (omega arith) in
          let grows = area_never_falls (list ++ more) (length list) k (omega arith) in
          let least = area_least list (length list) in
          omega (arith, ints)))
          (cases k);
    }
  where
    length_more : (xs ys : List NoteSolid) → length xs ≤ length (xs ++ ys)
    length_more [] ys = omega arith
    length_more (x ∷ xs) ys = let r = length_more xs ys in omega arith

    some_of : (xs : List NoteSolid) → height <ℤ area_of xs (length xs) → 0 < length xs
    some_of [] past = absurd (omega (arith, ints))
    some_of (x ∷ xs) past = omega arith

    cases : (k : ℕ) → (k ≤ length list) ⊎ (length list < k)
    cases k = flip (cases_lt (length list) k)
      where
        flip : (length list < k) ⊎ (k ≤ length list) → (k ≤ length list) ⊎ (length list < k)
        flip (inl h) = inr h
        flip (inr h) = inl h

-- what has to stand is told by such a prefix, unless a note begins after it
pub need_told : (list more : List NoteSolid) (c : ℕ) → c ≤ length list → last_begin (length list) more ≡ 0 → area_of (list ++ more) (must_of (list ++ more) c) ≡ area_of list (must_of list c)
need_told list more c low none =
    ap (area_of (list ++ more)) (must_same list more c none) ∙ area_prefix list more (must_of list c) (must_within list c low)

pub need_past : (list more : List NoteSolid) (c : ℕ) (height : ℤ) → height <ℤ area_of list (length list) → length list < last_begin (length list) more → height <ℤ area_of (list ++ more) (must_of (list ++ more) c)
need_past list more c height past begins =
    let both = begin_append 0 list more in
    let count : 0 + length list ≡ length list = omega arith in
    let last : last_begin (0 + length list) more ≡ last_begin (length list) more = ap (λ (k : ℕ). last_begin k more) count in
    let more_of : length list ≤ must_of (list ++ more) c = omega arith in
    let same : area_of (list ++ more) (length list) ≡ area_of list (length list) = area_prefix list more (length list) (omega arith) in
    let grows = area_never_falls (list ++ more) (length list) (must_of (list ++ more) c) more_of in
    omega (arith, ints)
