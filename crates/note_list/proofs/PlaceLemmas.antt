-- How many of the solids of a list are placed, where only those up to some height are read.
use Rattle.std.proofs.Common.{◌≡◌, ℕ, ◌+◌, ◌<◌, ◌≤◌, ◌⊎◌, inl, inr, ⊎_elim, ℤ, pos, ◌≤ℤ◌, ◌<ℤ◌, List, [], ◌∷◌, ◌++◌, length, sym, ap, subst, arith}
use Rattle.std.proofs.lemmas.Bool.{cases_lt}
use Rattle.std.proofs.lemmas.Int.{ints}
use Rattle.notes.specs.declared.solid.NoteSolid.{NoteSolid}
use Rattle.notes.specs.Notes.{IsPlaced, area_of, last_begin, must_of}
use Rattle.notes.proofs.NoteLemmas.{area_never_falls, area_prefix}
use Rattle.note_list.proofs.RowLemmas.{begin_append, begin_past, must_same}

length_append : {X : Type 0} (xs ys : List X) → length (xs ++ ys) ≡ length xs + length ys
length_append [] ys = omega arith
length_append (x ∷ xs) ys = let r = length_append xs ys in omega arith

-- what a page of a height reads of a list: all of it, or a prefix that takes more room than there is
pub record IsEnough (list more : List NoteSolid) (height : ℤ) : Type 0 where
  pub which : (more ≡ []) ⊎ (height <ℤ area_of list (length list))

some_of : (xs : List NoteSolid) (height : ℤ) → pos 0 ≤ℤ height → height <ℤ area_of xs (length xs) → 0 < length xs
some_of [] height low past = absurd (omega (arith, ints))
some_of (x ∷ xs) height low past = omega arith

-- a number that takes no more than the height is within what is read
within_read : (list more : List NoteSolid) (height : ℤ) (k : ℕ) → height <ℤ area_of list (length list) → area_of (list ++ more) k ≤ℤ height → k < length list
within_read list more height k past fits = ⊎_elim (λ (h : k < length list). h)
    (λ (h : length list ≤ k). absurd (
    let same : area_of (list ++ more) (length list) ≡ area_of list (length list) = area_prefix list more (length list) (omega arith) in
    let grows = area_never_falls (list ++ more) (length list) k h in
    omega (arith, ints)))
    (cases_lt k (length list))

-- what is placed of the prefix is placed of the list
pub placed_prefix : (list more : List NoteSolid) (height room : ℤ) (least number : ℕ) → room ≤ℤ height → height <ℤ area_of list (length list) → IsPlaced list least room number → IsPlaced (list ++ more) least room number
placed_prefix list more height room least number low past p =
    let within = p.within in
    let all = length_append list more in
    record {
      low = p.low;
      within = omega arith;
      fits = λ h. let f = p.fits h in subst (λ (z : ℤ). z ≤ℤ room) (sym (area_prefix list more number within)) f;
      greatest = λ k l w f.
          let inside = within_read list more height k past (let g = f in omega (arith, ints)) in
          p.greatest k l (omega arith) (subst (λ (z : ℤ). z ≤ℤ room) (area_prefix list more k (omega arith)) f);
    }

-- and so many have to stand of the prefix as of the list, where these take no more than the height
pub must_prefix : (list more : List NoteSolid) (height : ℤ) (c : ℕ) → height <ℤ area_of list (length list) → area_of (list ++ more) (must_of (list ++ more) c) ≤ℤ height → must_of (list ++ more) c ≡ must_of list c
must_prefix list more height c past fits = by (begin_past (length list) more)
  where
    within : must_of (list ++ more) c < length list
    within = within_read list more height (must_of (list ++ more) c) past fits

    by : (last_begin (length list) more ≡ 0) ⊎ (length list < last_begin (length list) more) → must_of (list ++ more) c ≡ must_of list c
    by (inl e) = must_same list more c e
    by (inr l) = absurd (
        let both = begin_append 0 list more in
        let count : 0 + length list ≡ length list = omega arith in
        let last : last_begin (0 + length list) more ≡ last_begin (length list) more = ap (λ (k : ℕ). last_begin k more) count in
        let w = within in
        omega arith)
