-- From each frame on one that begins a page stands within a page's frames, and one that begins a page of a side within
-- twice as many.
use Rattle.std.proofs.Common.{◌≡◌, ◌≤◌, ◌<◌, ℕ, ◌+◌, ◌-◌, ◌*◌, ◌/◌, ◌%◌, ◌&&◌, not, Bool, true, false, eqb, refl, sym, ap, ◌∙◌, arith, ◌⊎◌, ⊎_elim, inl, inr}
use Rattle.std.proofs.lemmas.Nat.{div-mul-add, mod-mul-add, mod_below}
use Rattle.std.proofs.lemmas.Bool.{cases_lt, ne_eqb}
use Rattle.std.proofs.Math.Nat.{div-add-mod'}
use Rattle.boxes.specs.Frames.{IsPerPage, column_at, is_left, meets_by, meets_by_parity, page_at, side_of}
use Rattle.boxes.specs.declared.frames.Demand.{Demand}
use Rattle.boxes.specs.declared.frames.Demand.TheVariants.{Column, Page, Left, Right}
use Rattle.columns.specs.Columns.{is_free_column}

pub column_below : (count index : ℕ) → 1 ≤ count → column_at count index < count
column_below count index some = mod_below (index + (count - 1)) count (omega arith)

-- a frame that stands so many frames on, counted from where its page began
pub moved : (count index k j r : ℕ) → r < count → column_at count index + k ≡ j * count + r →
    (column_at count (index + k) ≡ r) × (page_at count (index + k) ≡ page_at count index + j)
moved count index k j r small is =
    let s = index + (count - 1) in
    let whole : s / count * count + s % count ≡ s = div-add-mod' s count in
    let split : (s / count + j) * count ≡ s / count * count + j * count = grind arith in
    let at : (index + k) + (count - 1) ≡ (s / count + j) * count + r = omega arith in (
      ap (λ n. n % count) at ∙ mod-mul-add (s / count + j) count r small,
      ap (λ n. n / count) at ∙ div-mul-add (s / count + j) count r small,
    )

-- so many frames on stands the first frame of a page, and none before it
pub record IsNextFirst (count index k : ℕ) : Type 0 where
  pub few : k < count
  pub first : column_at count (index + k) ≡ 0
  pub others : (j : ℕ) → j < k → 0 < column_at count (index + j)

pub first_at : (count index k : ℕ) → 1 ≤ count → ((column_at count index ≡ 0) × (k ≡ 0)) ⊎
    ((0 < column_at count index) × (k + column_at count index ≡ count)) →
    IsNextFirst count index k
first_at count index k some (inl h) =
    let e : index + k ≡ index = let z = h.1 in omega arith in record {
      few = let z = h.1 in omega arith;
      first = ap (column_at count) e ∙ h.0;
      others = λ j l. let z = h.1 in absurd (omega arith);
    }
first_at count index k some (inr h) =
    let low = h.0 in
    let is = h.1 in record {
      few = omega arith;
      first = (moved count index k 1 0 (omega arith) (omega arith)).0;
      others = λ j l.
          let e = (moved count index j 0 (column_at count index + j) (omega arith) (omega arith)).0 in omega arith;
    }

-- the next page begins a page's frames later, and none between
pub record IsPageLater (count index : ℕ) : Type 0 where
  pub first : column_at count (index + count) ≡ 0
  pub page : page_at count (index + count) ≡ page_at count index + 1
  pub others : (j : ℕ) → 0 < j → j < count → 0 < column_at count (index + j)

pub page_later : (count index : ℕ) → 1 ≤ count → column_at count index ≡ 0 → IsPageLater count index
page_later count index some is =
    let m = moved count index count 1 0 (omega arith) (omega arith) in record {
      first = m.0;
      page = m.1;
      others = λ j low high. let e = (moved count index j 0 j high (omega arith)).0 in omega arith;
    }

-- ---- what a first frame meets, and any other

pub side_turns : (page : ℕ) → is_left (side_of (page + 1)) ≡ not (is_left (side_of page))
side_turns page = grind arith

pub not_first : (count index : ℕ) (d : Demand) → is_free_column d ≡ false → 0 < column_at count index →
    meets_by count index d ≡ false
not_first count index Column free low = absurd (cc)
not_first count index Page free low = ne_eqb (column_at count index) 0 (λ e. omega arith)
not_first count index Left free low =
    ap (λ (b : Bool). b && is_left (side_of (page_at count index)))
    (ne_eqb (column_at count index) 0 (λ e. omega arith))
not_first count index Right free low =
    ap (λ (b : Bool). b && not (is_left (side_of (page_at count index))))
    (ne_eqb (column_at count index) 0 (λ e. omega arith))

pub by_first : (count index : ℕ) (d : Demand) → column_at count index ≡ 0 →
    meets_by count index d ≡ meets_by_parity (page_at count index) d
by_first count index Column e = refl
by_first count index Page e = ap (λ n. eqb n 0) e
by_first count index Left e = ap (λ n. eqb n 0 && is_left (side_of (page_at count index))) e
by_first count index Right e = ap (λ n. eqb n 0 && not (is_left (side_of (page_at count index)))) e

-- one of two pages meets a demand
pub one_of_two : (page : ℕ) (d : Demand) → (meets_by_parity page d ≡ true) ⊎ (meets_by_parity (page + 1) d ≡ true)
one_of_two page Column = inl refl
one_of_two page Page = inl refl
one_of_two page Left = by (is_left (side_of page)) (side_turns page)
  where
    by : (b : Bool) → is_left (side_of (page + 1)) ≡ not b → (b ≡ true) ⊎ (is_left (side_of (page + 1)) ≡ true)
    by true e = inl refl
    by false e = inr e
one_of_two page Right = by (is_left (side_of page)) (side_turns page)
  where
    by : (b : Bool) → is_left (side_of (page + 1)) ≡ not b →
        (not b ≡ true) ⊎ (not (is_left (side_of (page + 1))) ≡ true)
    by true e = inr (ap not e)
    by false e = inl refl

-- ---- the laws

next_first : (count index : ℕ) → 1 ≤ count → (k : ℕ) × IsNextFirst count index k
next_first count index some =
    let small = column_below count index some in
    ⊎_elim
    (λ (h : 0 < column_at count index). (
      count - column_at count index,
      first_at count index (count - column_at count index) some (inr (h, omega arith)),
    ))
    (λ (h : column_at count index ≤ 0). (0, first_at count index 0 some (inl (omega arith, refl))))
    (cases_lt 0 (column_at count index))

pub column_within : {count : ℕ} → IsPerPage count → (index : ℕ) (d : Demand) →
    (k : ℕ) × (k ≤ 2 * count - 1) × (meets_by count (index + k) d ≡ true)
column_within {count} per index d =
    let some = per.low in
    let n = next_first count index some in
    let few = n.1.few in
    let later = page_later count (index + n.0) some n.1.first in
    let more : (index + n.0) + count ≡ index + (n.0 + count) = omega arith in
    ⊎_elim
    (λ (h : meets_by_parity (page_at count (index + n.0)) d ≡ true).
    (n.0, omega arith, by_first count (index + n.0) d n.1.first ∙ h))
    (λ (h : meets_by_parity (page_at count (index + n.0) + 1) d ≡ true). (
      n.0 + count,
      omega arith,
      ap (λ i. meets_by count i d) (sym more) ∙
          (by_first count ((index + n.0) + count) d later.first ∙ (ap (λ p. meets_by_parity p d) later.page ∙ h)),
    ))
    (one_of_two (page_at count (index + n.0)) d)

-- where the first frame of the next page misses, that of the page after it is the first to meet
module _ (count index left : ℕ) (d : Demand) (some : 1 ≤ count) (n : IsNextFirst count index left)
    (misses : meets_by_parity (page_at count (index + left)) d ≡ false) where
  later : IsPageLater count (index + left)
  later = page_later count (index + left) some n.first

  pub second_meets : meets_by count (index + (left + count)) d ≡ true
  second_meets =
      let more : (index + left) + count ≡ index + (left + count) = omega arith in
      ap (λ i. meets_by count i d) (sym more) ∙
      (by_first count ((index + left) + count) d later.first ∙
      (ap (λ p. meets_by_parity p d) later.page ∙ by (one_of_two (page_at count (index + left)) d)))
    where
      by : (meets_by_parity (page_at count (index + left)) d ≡ true) ⊎
          (meets_by_parity (page_at count (index + left) + 1) d ≡ true) →
          meets_by_parity (page_at count (index + left) + 1) d ≡ true
      by (inl h) = absurd (let f : true ≡ false = sym h ∙ misses in cc)
      by (inr h) = h

  unfree : is_free_column d ≡ false
  unfree = by d misses
    where
      by : (e : Demand) → meets_by_parity (page_at count (index + left)) e ≡ false → is_free_column e ≡ false
      by Column h = absurd (cc)
      by Page h = refl
      by Left h = refl
      by Right h = refl

  pub second_least : (k : ℕ) → k < left + count → meets_by count (index + k) d ≡ false
  second_least k h =
      ⊎_elim (λ (l : k < left). not_first count (index + k) d unfree (n.others k l))
      (λ (l : left ≤ k). ⊎_elim (λ (m : left < k). behind m)
      (λ (m : k ≤ left). let e : index + k ≡ index + left = omega arith in
      ap (λ i. meets_by count i d) e ∙ (by_first count (index + left) d n.first ∙ misses)) (cases_lt left k))
      (cases_lt k left)
    where
      behind : left < k → meets_by count (index + k) d ≡ false
      behind m = let e : index + k ≡ (index + left) + (k - left) = omega arith in
          ap (λ i. meets_by count i d) e ∙
          not_first count ((index + left) + (k - left)) d unfree (later.others (k - left) (omega arith) (omega arith))

pub column_free : (count index : ℕ) (d : Demand) → is_free_column d ≡ true → meets_by count index d ≡ true
column_free count index Column free = refl
column_free count index Page free = absurd (cc)
column_free count index Left free = absurd (cc)
column_free count index Right free = absurd (cc)
