-- How much of a page is read.
use Rattle.std.proofs.Common.{◌≡◌, ℕ, zero, suc, ◌+◌, ◌-◌, ◌<◌, ◌≤◌, ◌⊎◌, inl, inr, ℤ, ◌≤ℤ◌, ◌<ℤ◌, List, [], ◌∷◌, ◌++◌, Option, Some, None, Bool, true, false, length, get_or, slice_get, take, arith, refl, sym, ◌∙◌, ap, subst, append-nil, append_assoc}
use Rattle.std.proofs.lemmas.Bool.{cases_lt}
use Rattle.std.proofs.lemmas.Int.{ints, clamps}
use Rattle.std.proofs.lemmas.Option.{slice_get_within}
use Rattle.bk_num.proofs.ListLemmas.{get-push, length-more}
use Rattle.cuts.specs.Prefixes.{is_break}
use Rattle.cuts.specs.Rows.{rows_bottom, rows_extent}
use Rattle.cuts.specs.Short.{AreParted, IsOver, IsQuiet, ReadsFew, count_of, short_by}
use Rattle.std.proofs.lemmas.Option.{slice_get_cases}
use Rattle.cuts.specs.declared.row.SolidRow.{SolidRow}
use Rattle.cuts.proofs.AppendLemmas.{bottom-append}
use Rattle.cuts.proofs.ReachLemmas.{extent-mono}

over_back : (kept : Bool) (height : ℤ) (rows : List SolidRow) (r : SolidRow) (m : ℕ) → m < length rows → IsOver kept (rows ++ r ∷ []) height m → IsOver kept rows height m
over_back kept height rows r m l o = (l, subst (λ (b : ℤ). height <ℤ b) (bottom-append kept rows (r ∷ []) (suc m) (omega arith)) o.1)

bottom_within : (kept : Bool) (rows : List SolidRow) (m k : ℕ) → m < k → rows_bottom kept rows (suc m) ≤ℤ rows_extent kept rows k
bottom_within kept rows m k l =
    let e = extent-mono kept rows (suc m) (k - suc m) in
    let n : suc m + (k - suc m) ≡ k = omega arith in
    let e' : rows_extent kept rows (suc m) ≤ℤ rows_extent kept rows k = subst (λ (j : ℕ). rows_extent kept rows (suc m) ≤ℤ rows_extent kept rows j) n e in
    let b : rows_bottom kept rows (suc m) ≤ℤ rows_extent kept rows (suc m) = omega (arith, ints, clamps) in
    omega (arith, ints, e', b)

-- it stays so with one solid more
pub quiet_push : (kept : Bool) (height : ℤ) (rows : List SolidRow) (r : SolidRow) (to : ℕ) → to ≤ length rows → IsQuiet kept height rows to → IsQuiet kept height (rows ++ r ∷ []) to
quiet_push kept height rows r to few q = λ m k x o l h e. by m k x o l h (get-push rows r x k e)
  where
    by : (m k : ℕ) (x : SolidRow) → IsOver kept (rows ++ r ∷ []) height m → m < k → k < to → ((k ≡ length rows) × (x ≡ r)) ⊎ (slice_get rows k ≡ Some x) → is_break x ≡ false
    by m k x o l h (inl w) = let n = w.0 in absurd (omega (arith, n))
    by m k x o l h (inr w) = q m k x (over_back kept height rows r m (omega arith) o) l h w

-- and a solid that is no break point, or stands where the others fit, may be read
pub quiet_more : (kept : Bool) (height : ℤ) (rows : List SolidRow) (r : SolidRow) → IsQuiet kept height rows (length rows) → (is_break r ≡ true → 0 < length rows → rows_extent kept rows (length rows) ≤ℤ height) → IsQuiet kept height (rows ++ r ∷ []) (length (rows ++ r ∷ []))
quiet_more kept height rows r q fits = λ m k x o l h e. by m k x o l h (get-push rows r x k e)
  where
    last : (b : Bool) → is_break r ≡ b → (m : ℕ) → m < length rows → IsOver kept rows height m → is_break r ≡ false
    last false b m l o = b
    last true b m l o =
        let f = fits b (omega arith) in
        let w = bottom_within kept rows m (length rows) l in
        let v = o.1 in
        absurd (omega (arith, ints, f, w, v))

    by : (m k : ℕ) (x : SolidRow) → IsOver kept (rows ++ r ∷ []) height m → m < k → k < length (rows ++ r ∷ []) → ((k ≡ length rows) × (x ≡ r)) ⊎ (slice_get rows k ≡ Some x) → is_break x ≡ false
    by m k x o l h (inl w) = let n = w.0 in ap is_break w.1 ∙ last (is_break r) refl m (omega (arith, n)) (over_back kept height rows r m (omega (arith, n)) o)
    by m k x o l h (inr w) = let n = slice_get_within rows k x w in q m k x (over_back kept height rows r m (omega (arith, n)) o) l n w

pub short_missed : (kept : Bool) (height : ℤ) (widest : ℕ) (rows : List SolidRow) (r : SolidRow) (left left' : ℕ) → left' + 1 ≤ left → short_by kept height widest rows (Some left) → short_by kept height widest (rows ++ r ∷ []) (Some left')
short_missed kept height widest rows r left left' less s =
    let n = length-more rows r in
    let a = s.1 in
    let b = s.2 in
    (s.0, omega (arith, n, a), omega (arith, n, b), quiet_push kept height rows r s.0 (omega (arith, a)) s.3)

-- and so do lines that are passed at once
pub short_passed : (kept : Bool) (height : ℤ) (widest : ℕ) (rows more : List SolidRow) (left left' : ℕ) → length more + left' ≡ left → short_by kept height widest rows (Some left) → short_by kept height widest (rows ++ more) (Some left')
short_passed kept height widest rows [] left left' count s =
    subst (λ (rs : List SolidRow). short_by kept height widest rs (Some left')) (sym (append-nil rows)) (subst (λ (n : ℕ). short_by kept height widest rows (Some n)) (let e : left ≡ left' = omega (arith, count) in e) s)
short_passed kept height widest rows (r ∷ more) left left' count s =
    subst (λ (rs : List SolidRow). short_by kept height widest rs (Some left')) (append_assoc rows (r ∷ []) more)
    (short_passed kept height widest (rows ++ r ∷ []) more (length more + left') left' refl (short_missed kept height widest rows r left (length more + left') (omega (arith, count)) s))

pub short_miss : (kept : Bool) (height : ℤ) (widest : ℕ) (rows : List SolidRow) (r : SolidRow) (least : ℕ) → least ≤ widest → short_by kept height widest rows None → short_by kept height widest (rows ++ r ∷ []) (Some (least - 1))
short_miss kept height widest rows r least few s = let n = length-more rows r in (length rows, omega (arith, n), omega (arith, n), quiet_push kept height rows r (length rows) (omega arith) s)

pub short_going : (kept : Bool) (height : ℤ) (widest : ℕ) (rows : List SolidRow) (r : SolidRow) → (is_break r ≡ true → 0 < length rows → rows_extent kept rows (length rows) ≤ℤ height) → short_by kept height widest rows None → short_by kept height widest (rows ++ r ∷ []) None
short_going kept height widest rows r fits s = quiet_more kept height rows r s fits

-- ---- counts

false_true : ◌≡◌ {A = Option Bool} (Some false) (Some true) → ⊥
false_true e = cc

count_none : (flags : List Bool) (j : ℕ) → ((k : ℕ) → k < j → slice_get flags k ≡ Some true → ⊥) → count_of (take j flags) ≡ 0
count_none [] zero f = refl
count_none [] (suc j) f = refl
count_none (b ∷ flags) zero f = refl
count_none (true ∷ flags) (suc j) f = absurd (f 0 (omega arith) refl)
count_none (false ∷ flags) (suc j) f = let r = count_none flags j (λ k h e. f (suc k) (omega arith) e) in omega (arith, r)

count_one : (flags : List Bool) (j : ℕ) → ((i k : ℕ) → i < k → k < j → slice_get flags i ≡ Some true → slice_get flags k ≡ Some true → ⊥) → count_of (take j flags) ≤ 1
count_one [] zero f = omega arith
count_one [] (suc j) f = omega arith
count_one (b ∷ flags) zero f = omega arith
count_one (true ∷ flags) (suc j) f = let r = count_none flags j (λ k h e. f 0 (suc k) (omega arith) (omega arith) refl e) in omega (arith, r)
count_one (false ∷ flags) (suc j) f = let r = count_one flags j (λ i k h l e g. f (suc i) (suc k) (omega arith) (omega arith) e g) in omega (arith, r)

count_more : (flags : List Bool) (m j : ℕ) → m ≤ j → ((i k : ℕ) → m ≤ i → i < k → k < j → slice_get flags i ≡ Some true → slice_get flags k ≡ Some true → ⊥) → count_of (take j flags) ≤ count_of (take m flags) + 1
count_more [] zero j l f = let r = count_one [] j (λ i k h g e e'. f i k (omega arith) h g e e') in omega (arith, r)
count_more [] (suc m) zero l f = absurd (omega arith)
count_more [] (suc m) (suc j) l f = omega arith
count_more (b ∷ flags) zero j l f = let r = count_one (b ∷ flags) j (λ i k h g e e'. f i k (omega arith) h g e e') in omega (arith, r)
count_more (b ∷ flags) (suc m) zero l f = absurd (omega arith)
count_more (b ∷ flags) (suc m) (suc j) l f = let r = count_more flags m j (omega arith) (λ i k o h g e e'. f (suc i) (suc k) (omega arith) (omega arith) (omega arith) e e') in omega (arith, r)

count_up : (flags : List Bool) (m j : ℕ) → m ≤ j → count_of (take m flags) ≤ count_of (take j flags)
count_up [] zero zero l = omega arith
count_up [] zero (suc j) l = omega arith
count_up [] (suc m) zero l = absurd (omega arith)
count_up [] (suc m) (suc j) l = omega arith
count_up (b ∷ flags) zero zero l = omega arith
count_up (b ∷ flags) zero (suc j) l = omega arith
count_up (b ∷ flags) (suc m) zero l = absurd (omega arith)
count_up (b ∷ flags) (suc m) (suc j) l = let r = count_up flags m j (omega arith) in omega (arith, r)

count_all : (flags : List Bool) (j : ℕ) → count_of flags ≤ count_of (take j flags) + (length flags - j)
count_all [] zero = omega arith
count_all [] (suc j) = omega arith
count_all (true ∷ flags) zero = let r = count_all flags zero in let z = count_zero flags in omega (arith, r, z)
  where
    count_zero : (fs : List Bool) → count_of (take 0 fs) ≡ 0
    count_zero [] = refl
    count_zero (b ∷ fs) = refl
count_all (false ∷ flags) zero = let r = count_all flags zero in let z = count_zero flags in omega (arith, r, z)
  where
    count_zero : (fs : List Bool) → count_of (take 0 fs) ≡ 0
    count_zero [] = refl
    count_zero (b ∷ fs) = refl
count_all (b ∷ flags) (suc j) = let r = count_all flags j in omega (arith, r)

quiet_one : (kept : Bool) (height : ℤ) (rows : List SolidRow) (flags : List Bool) (m j : ℕ) → j ≤ length rows → AreParted rows flags → IsQuiet kept height rows j → IsOver kept rows height m → (i k : ℕ) → m ≤ i → i < k → k < j → slice_get flags i ≡ Some true → slice_get flags k ≡ Some true → ⊥
quiet_one kept height rows flags m j few parted quiet over i k a b c e f =
    let p = parted i k b e f in
    let l : p.0 < length rows = let p1 = p.1 in let p2 = p.2 in omega (arith, p2) in
    let p1 = p.1 in
    let p2 = p.2 in
    at_row (slice_get_cases rows p.0).1 l (λ r there. never (sym (p.3 r there) ∙ quiet m p.0 r over (omega (arith, p1)) (omega (arith, p2)) there))
  where
    never : true ≡ false → ⊥
    never h = cc

    at_row : {n : ℕ} → ((x : SolidRow) × (n < length rows) × (slice_get rows n ≡ Some x) × (get_or rows n x ≡ x)) ⊎ ((length rows ≤ n) × (slice_get rows n ≡ None)) → n < length rows → ((r : SolidRow) → slice_get rows n ≡ Some r → ⊥) → ⊥
    at_row (inl w) l f = f w.0 w.2
    at_row (inr w) l f = let n = w.0 in absurd (omega (arith, n))

pub reads_few : ReadsFew
reads_few kept height widest rows flags l m len parted short over = by l.left short.short
  where
    by : (o : Option ℕ) → short_by kept height widest rows o → count_of flags ≤ count_of (take m flags) + 1 + (widest + 1)
    by None s =
        let o = over.0 in
        let r = count_more flags m (length rows) (omega (arith, o)) (quiet_one kept height rows flags m (length rows) (omega arith) parted s over) in
        let a = count_all flags (length rows) in
        omega (arith, r, a, len)
    by (Some left) s = half (cases_lt s.0 m)
      where
        half : (s.0 < m) ⊎ (m ≤ s.0) → count_of flags ≤ count_of (take m flags) + 1 + (widest + 1)
        half (inl h) =
            let u = count_up flags s.0 m (omega arith) in
            let a = count_all flags s.0 in
            let n = s.2 in
            omega (arith, u, a, n, len)
        half (inr h) =
            let j = s.1 in
            let r = count_more flags m s.0 h (quiet_one kept height rows flags m s.0 (omega (arith, j)) parted s.3 over) in
            let a = count_all flags s.0 in
            let n = s.2 in
            omega (arith, r, a, n, len)
