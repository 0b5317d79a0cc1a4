-- A line more among lines in order.
use Rattle.std.proofs.Common.{◌≡◌, ◌≢◌, ℕ, zero, suc, ◌<◌, ◌≤◌, ◌⊎◌, inl, inr, List, [], ◌∷◌, Some, length, slice_get, arith, refl, sym, ◌∙◌, ap, subst}
use Rattle.std.specs.Prelude.{slice_set}
use Rattle.std.specs.List.{insert}
use Rattle.std.proofs.lemmas.Bool.{cases_lt}
use Rattle.std.proofs.lemmas.Option.{slice_get_within, slice_get-get_or, same_Some, none-some}
use Rattle.bk_num.proofs.ListLemmas.{get-set}
use Rattle.line_fill.specs.KeptLines.{AreRising, IsPlace}
use Rattle.line_fill.specs.declared.lines.KeptLine.{KeptLine}

-- where an element of a list with one more stood before
pub data Came {X : Type 0} (xs : List X) (i k : ℕ) (y x : X) : Type 0 where
  here : k ≡ i → x ≡ y → Came xs i k y x
  low : k < i → slice_get xs k ≡ Some x → Came xs i k y x
  high : (j : ℕ) → k ≡ suc j → i ≤ j → slice_get xs j ≡ Some x → Came xs i k y x

came_more : {X : Type 0} (z : X) (xs : List X) (i k : ℕ) (y x : X) → Came xs i k y x → Came (z ∷ xs) (suc i) (suc k) y x
came_more z xs i k y x (here a b) = here (ap suc a) b
came_more z xs i k y x (low a b) = low (omega arith) b
came_more z xs i k y x (high j a l b) = high (suc j) (ap suc a) (omega arith) b

pub get-insert : {X : Type 0} (xs : List X) (i k : ℕ) (y x : X) → i ≤ length xs → slice_get (insert xs i y) k ≡ Some x → Came xs i k y x
get-insert [] zero zero y x l e = here refl (same_Some _ _ (sym e))
get-insert [] zero (suc k) y x l e = absurd (none-some _ e)
get-insert [] (suc i) k y x l e = absurd (omega arith)
get-insert (z ∷ xs) zero zero y x l e = here refl (same_Some _ _ (sym e))
get-insert (z ∷ xs) zero (suc k) y x l e = high k refl (omega arith) e
get-insert (z ∷ xs) (suc i) zero y x l e = low (omega arith) e
get-insert (z ∷ xs) (suc i) (suc k) y x l e = came_more z xs i k y x (get-insert xs i k y x (omega arith) e)

pub insert-at : {X : Type 0} (xs : List X) (i : ℕ) (y : X) → i ≤ length xs → slice_get (insert xs i y) i ≡ Some y
insert-at [] zero y l = refl
insert-at [] (suc i) y l = absurd (omega arith)
insert-at (z ∷ xs) zero y l = refl
insert-at (z ∷ xs) (suc i) y l = insert-at xs i y (omega arith)

pub insert-keep : {X : Type 0} (xs : List X) (i k : ℕ) (y x : X) → i ≤ length xs → slice_get xs k ≡ Some x → (j : ℕ) × (slice_get (insert xs i y) j ≡ Some x)
insert-keep [] i k y x l e = absurd (none-some _ e)
insert-keep (z ∷ xs) zero k y x l e = (suc k, e)
insert-keep (z ∷ xs) (suc i) zero y x l e = (zero, e)
insert-keep (z ∷ xs) (suc i) (suc k) y x l e = let r = insert-keep xs i k y x (omega arith) e in (suc r.0, r.1)

-- lines stay in order with one more at its place
pub rising-insert : (xs : List KeptLine) (from place : ℕ) (y : KeptLine) → AreRising xs → IsPlace xs from place → ((a : KeptLine) → slice_get xs place ≡ Some a → a.line.from ≢ from) → y.line.from ≡ from → AreRising (insert xs place y)
rising-insert xs from place y up is none e = λ i j a b h ea eb. by i j a b h (get-insert xs place i y a is.within ea) (get-insert xs place j y b is.within eb)
  where
    above : (j : ℕ) (b : KeptLine) → place ≤ j → slice_get xs j ≡ Some b → from < b.line.from
    above j b l eb = from_cases (cases_lt place j)
      where
        from_cases : (place < j) ⊎ (j ≤ place) → from < b.line.from
        from_cases (inl lt) =
            let w = slice_get_within xs j b eb in
            let a' = slice_get-get_or xs place b (omega arith) in
            let r = up place j _ b lt a' eb in
            let s = is.after place _ (omega arith) a' in
            omega (arith, r, s)
        from_cases (inr ge) =
            let e' : j ≡ place = omega arith in
            let eb' = subst (λ (k : ℕ). slice_get xs k ≡ Some b) e' eb in
            let s = is.after place b (omega arith) eb' in
            let n = none b eb' in
            omega (arith, s, n)

    by : (i j : ℕ) (a b : KeptLine) → i < j → Came xs place i y a → Came xs place j y b → a.line.from < b.line.from
    by i j a b h (here p q) (here p' q') = absurd (omega arith)
    by i j a b h (here p q) (low l eb) = absurd (omega arith)
    by i j a b h (here p q) (high m s l eb) = let r = above m b l eb in rw (q, e) r
    by i j a b h (low l ea) (here p q) = let r = is.before i a l ea in rw (q, e) r
    by i j a b h (low l ea) (low l' eb) = up i j a b h ea eb
    by i j a b h (low l ea) (high m s l' eb) = up i m a b (omega arith) ea eb
    by i j a b h (high n t l ea) (here p q) = absurd (omega arith)
    by i j a b h (high n t l ea) (low l' eb) = absurd (omega arith)
    by i j a b h (high n t l ea) (high m s l' eb) = up n m a b (omega arith) ea eb

-- and with one written anew that begins where it began
pub rising-set : (xs : List KeptLine) (place : ℕ) (a y : KeptLine) → AreRising xs → slice_get xs place ≡ Some a → a.line.from ≡ y.line.from → AreRising (slice_set xs place y)
rising-set xs place a y up has e = λ i j b c h eb ec.
    let p = get-set xs place i y b eb in
    let q = get-set xs place j y c ec in
    let f = same i b p.0 p.1 p.2 in
    let g = same j c q.0 q.1 q.2 in
    let r = up i j p.0 q.0 h p.1 q.1 in
    rw (f, g) r
  where
    same : (i : ℕ) (b old : KeptLine) → slice_get xs i ≡ Some old → ((i ≡ place) × (b ≡ y)) ⊎ ((i ≡ place → ⊥) × (b ≡ old)) → b.line.from ≡ old.line.from
    same i b old eo (inl w) =
        let s : old ≡ a = same_Some _ _ (sym eo ∙ (ap (slice_get xs) w.0 ∙ has)) in
        ap (λ (l : KeptLine). l.line.from) w.1 ∙ (sym e ∙ ap (λ (l : KeptLine). l.line.from) (sym s))
    same i b old eo (inr w) = ap (λ (l : KeptLine). l.line.from) w.1

-- one line begins at an offset
pub one-line : (xs : List KeptLine) (i j : ℕ) (a b : KeptLine) → AreRising xs → slice_get xs i ≡ Some a → slice_get xs j ≡ Some b → a.line.from ≡ b.line.from → a ≡ b
one-line xs i j a b up ea eb e = by (cases_lt i j) (cases_lt j i)
  where
    by : (i < j) ⊎ (j ≤ i) → (j < i) ⊎ (i ≤ j) → a ≡ b
    by (inl l) r = let t = up i j a b l ea eb in absurd (omega (arith, t, e))
    by (inr g) (inl l) = let t = up j i b a l eb ea in absurd (omega (arith, t, e))
    by (inr g) (inr h) = let p : i ≡ j = omega arith in same_Some _ _ (sym ea ∙ (ap (slice_get xs) p ∙ eb))
