-- Characters that are laid one after the other give the texts of their parts, joined.
use Rattle.std.proofs.Common.{◌≡◌, ◌∙◌, ℕ, zero, suc, ◌+◌, ◌-◌, ◌<◌, ◌≤◌, Bool, true, false, ◌||◌, cond, List, [], ◌∷◌, ◌++◌, length, refl, sym, ap, ap₂, subst, arith, append_assoc, append-nil, length-append}
use Rattle.std.specs.Prelude.{map}
use Rattle.std.specs.Str.{chars}
use Rattle.std.proofs.lemmas.List.{length-map}
use Rattle.bk_num.specs.declared.values.WhiteSpace.{WhiteSpace}
use Rattle.inline_text.specs.declared.space.TextPart.{TextPart}
use Rattle.inline_text.specs.declared.space.Gap.TheVariants.{Spaced}
use Rattle.inline_text.specs.Joined.{Laid, ends_from, joined, laid_on, laid_texts, reached, repeated}
use Rattle.inline_text.specs.Gaps.{laid, left_from}
use Rattle.inline_text.specs.Space.{Char, appended, chars_from, collapsed, is_blank, is_newline, is_space, marked, meets_newline, placed, spelled, squeezed, trimmed}
use Rattle.inline_text.proofs.WordLemmas.{reached-length}

-- ---- ends

abbrev AreEmpty : List (List ℕ) → Type 0
AreEmpty [] = Unit {0}
AreEmpty (t ∷ ts) = (t ≡ []) × AreEmpty ts

-- the first of some texts, from an offset on, end at these; those after the next one are empty
abbrev Fit : ℕ → List (List ℕ) → List ℕ → Type 0
Fit at [] ends = ends ≡ []
Fit at (t ∷ ts) [] = AreEmpty ts
Fit at (t ∷ ts) (e ∷ ends) = (e ≡ at + length t) × Fit e ts ends

none-joined : (ts : List (List ℕ)) → AreEmpty ts → joined ts ≡ []
none-joined [] h = refl
none-joined (t ∷ ts) h = ap₂ (λ (a b : List ℕ). a ++ b) h.0 (none-joined ts h.1)

empty-fit : (at : ℕ) (ts : List (List ℕ)) → AreEmpty ts → Fit at ts []
empty-fit at [] h = refl
empty-fit at (t ∷ ts) h = h.1

fit-length : (at : ℕ) (ts : List (List ℕ)) (ends : List ℕ) → Fit at ts ends → length ends ≤ length ts
fit-length at [] ends h = let e = ap (λ (l : List ℕ). length l) h in omega (arith, e)
fit-length at (t ∷ ts) [] h = omega arith
fit-length at (t ∷ ts) (e ∷ ends) h = let n = fit-length e ts ends h.1 in omega (arith, n)

-- where the whole ends
whole : (at total : ℕ) (t : List ℕ) (ts : List (List ℕ)) → AreEmpty ts → total ≡ at + length (joined (t ∷ ts)) → total ≡ at + length t
whole at total t ts h e =
    let n = length-append t (joined ts) in
    let m = ap (λ (l : List ℕ). length l) (none-joined ts h) in
    omega (arith, e, n, m)

stays-whole : (total : ℕ) (ts : List (List ℕ)) → AreEmpty ts → total ≡ total + length (joined ts)
stays-whole total ts h = let m = ap (λ (l : List ℕ). length l) (none-joined ts h) in omega (arith, m)

from-end : (at total e : ℕ) (t : List ℕ) (ts : List (List ℕ)) → e ≡ at + length t → total ≡ at + length (joined (t ∷ ts)) → total ≡ e + length (joined ts)
from-end at total e t ts h k = let n = length-append t (joined ts) in omega (arith, h, k, n)

fit-step : (at m q : ℕ) (ts : List (List ℕ)) (ends s : List ℕ) (total : ℕ) → Fit at ts ends → length ends + m ≡ q → q < length ts → total ≡ at + length (joined ts) → Fit at (appended ts q s) (ends ++ repeated m total)
fit-step at m q [] ends s total h k l e = absurd (omega (arith, l))
fit-step at zero zero (t ∷ ts) [] s total h k l e = h
fit-step at zero (suc q) (t ∷ ts) [] s total h k l e = absurd (omega (arith, k))
fit-step at (suc m) zero (t ∷ ts) [] s total h k l e = absurd (omega (arith, k))
fit-step at (suc m) (suc q) (t ∷ ts) [] s total h k l e = (whole at total t ts h e, fit-step total m q ts [] s total (empty-fit total ts h) (omega (arith, k)) (omega (arith, l)) (stays-whole total ts h))
fit-step at m zero (t ∷ ts) (x ∷ ends) s total h k l e = absurd (omega (arith, k))
fit-step at m (suc q) (t ∷ ts) (x ∷ ends) s total h k l e = (h.0, fit-step x m q ts ends s total h.1 (omega (arith, k)) (omega (arith, l)) (from-end at total x t ts h.0 e))

joined-step : (at m q : ℕ) (ts : List (List ℕ)) (ends s : List ℕ) → Fit at ts ends → length ends + m ≡ q → q < length ts → joined (appended ts q s) ≡ joined ts ++ s
joined-step at m q [] ends s h k l = absurd (omega (arith, l))
joined-step at m zero (t ∷ ts) [] s h k l =
    let none = none-joined ts h in
    ap (λ (x : List ℕ). (t ++ s) ++ x) none ∙ append-nil (t ++ s) ∙ ap (λ (x : List ℕ). x ++ s) (sym (append-nil t) ∙ ap (λ (x : List ℕ). t ++ x) (sym none))
joined-step at m (suc q) (t ∷ ts) [] s h k l = ap (λ (x : List ℕ). t ++ x) (joined-step at q q ts [] s (empty-fit at ts h) (omega arith) (omega (arith, l))) ∙ sym (append_assoc t (joined ts) s)
joined-step at m zero (t ∷ ts) (x ∷ ends) s h k l = absurd (omega (arith, k))
joined-step at m (suc q) (t ∷ ts) (x ∷ ends) s h k l = ap (λ (y : List ℕ). t ++ y) (joined-step x m q ts ends s h.1 (omega (arith, k)) (omega (arith, l))) ∙ sym (append_assoc t (joined ts) s)

all-ends : (at m : ℕ) (ts : List (List ℕ)) (ends : List ℕ) (total : ℕ) → Fit at ts ends → length ends + m ≡ length ts → total ≡ at + length (joined ts) → ends ++ repeated m total ≡ ends_from at ts
all-ends at zero [] [] total h l e = refl
all-ends at (suc m) [] [] total h l e = absurd (omega (arith, l))
all-ends at m [] (x ∷ ends) total h l e = absurd (omega (arith, l))
all-ends at zero (t ∷ ts) [] total h l e = absurd (omega (arith, l))
all-ends at (suc m) (t ∷ ts) [] total h l e =
    let w = whole at total t ts h e in
    ap (λ (x : List ℕ). total ∷ x) (all-ends total m ts [] total (empty-fit total ts h) (omega (arith, l)) (stays-whole total ts h)) ∙ ap (λ (x : ℕ). x ∷ ends_from x ts) w
all-ends at m (t ∷ ts) (x ∷ ends) total h l e =
    ap (λ (y : List ℕ). x ∷ y) (all-ends x m ts ends total h.1 (omega (arith, l)) (from-end at total x t ts h.0 e)) ∙ ap (λ (y : ℕ). y ∷ ends_from y ts) h.0

-- ---- characters

-- parts that never fall, from a number on and below another
abbrev Ascend : ℕ → ℕ → List Char → Type 0
Ascend k n [] = Unit {0}
Ascend k n (c ∷ cs) = (k ≤ c.part) × (c.part < n) × Ascend c.part n cs

ascend-weaker : (j k n : ℕ) (cs : List Char) → j ≤ k → Ascend k n cs → Ascend j n cs
ascend-weaker j k n [] l h = tt
ascend-weaker j k n (c ∷ cs) l h = (let low = h.0 in omega (arith, l, low), h.1, h.2)

ascend-marked : (s : WhiteSpace) (k n : ℕ) (cs : List ℕ) (rest : List Char) → k < n → Ascend k n rest → Ascend k n (marked s k cs ++ rest)
ascend-marked s k n [] rest l h = h
ascend-marked s k n (c ∷ cs) rest l h = (omega arith, l, ascend-marked s k n cs rest l h)

ascend-from : (k n : ℕ) (ps : List TextPart) → k + length ps ≤ n → Ascend k n (chars_from k ps)
ascend-from k n [] l = tt
ascend-from k n (p ∷ ps) l = ascend-marked p.space k n (chars p.text) (chars_from (k + 1) ps) (omega (arith, l)) (ascend-weaker k (k + 1) n (chars_from (k + 1) ps) (omega arith) (ascend-from (k + 1) n ps (omega (arith, l))))

ascend-trimmed : (after : Bool) (k n : ℕ) (cs : List Char) → Ascend k n cs → Ascend k n (trimmed after cs)
ascend-trimmed after k n [] h = tt
ascend-trimmed after k n (c ∷ cs) h = by (is_blank c.class) (after || meets_newline cs) (ascend-trimmed after c.part n cs h.2) (ascend-trimmed (is_newline c.class) c.part n cs h.2)
  where
    by : (b m : Bool) → Ascend c.part n (trimmed after cs) → Ascend c.part n (trimmed (is_newline c.class) cs) → Ascend k n (cond b (cond m (trimmed after cs) (c ∷ trimmed after cs)) (c ∷ trimmed (is_newline c.class) cs))
    by true true same next = ascend-weaker k c.part n (trimmed after cs) h.0 same
    by true false same next = (h.0, h.1, same)
    by false m same next = (h.0, h.1, next)

ascend-squeezed : (spaced : Bool) (k n : ℕ) (cs : List Char) → Ascend k n cs → Ascend k n (squeezed spaced cs)
ascend-squeezed spaced k n [] h = tt
ascend-squeezed spaced k n (c ∷ cs) h = by (is_space c.class) spaced (ascend-squeezed spaced c.part n cs h.2) (ascend-squeezed true c.part n cs h.2) (ascend-squeezed (is_newline c.class) c.part n cs h.2)
  where
    by : (b m : Bool) → Ascend c.part n (squeezed spaced cs) → Ascend c.part n (squeezed true cs) → Ascend c.part n (squeezed (is_newline c.class) cs) → Ascend k n (cond b (cond m (squeezed spaced cs) (c ∷ squeezed true cs)) (c ∷ squeezed (is_newline c.class) cs))
    by true true same after next = ascend-weaker k c.part n (squeezed spaced cs) h.0 same
    by true false same after next = (h.0, h.1, after)
    by false m same after next = (h.0, h.1, next)

-- ---- the whole

-- what is laid so far is these texts
record AreLaid (ts : List (List ℕ)) (l : Laid) : Type 0 where
  bytes : l.bytes ≡ joined ts
  fit : Fit 0 ts l.ends

total-is : (ts : List (List ℕ)) (l : Laid) → l.bytes ≡ joined ts → length l.bytes ≡ 0 + length (joined ts)
total-is ts l e = let n = ap (λ (x : List ℕ). length x) e in omega (arith, n)

laid-one : (ts : List (List ℕ)) (l : Laid) (k : ℕ) (s : List ℕ) → AreLaid ts l → length l.ends ≤ k → k < length ts → AreLaid (appended ts k s) (laid_on l k s)
laid-one ts l k s a low high =
    let m : ℕ = k - length l.ends in
    let e : length l.ends + m ≡ k = omega (arith, low) in
    record {
      bytes = ap (λ (x : List ℕ). x ++ s) a.bytes ∙ sym (joined-step 0 m k ts l.ends s a.fit e high);
      fit = fit-step 0 m k ts l.ends s (length l.bytes) a.fit e high (total-is ts l a.bytes);
    }

pub appended-length : (ts : List (List ℕ)) (k : ℕ) (s : List ℕ) → length (appended ts k s) ≡ length ts
appended-length [] k s = refl
appended-length (t ∷ ts) zero s = refl
appended-length (t ∷ ts) (suc k) s = ap suc (appended-length ts k s)

laid-all : (cs : List Char) (ts : List (List ℕ)) (l : Laid) → AreLaid ts l → Ascend (length l.ends) (length ts) cs → reached (laid l cs) (length ts) ≡ laid_texts (placed ts cs)
laid-all [] ts l a g =
    let n = fit-length 0 ts l.ends a.fit in
    let m : ℕ = length ts - length l.ends in
    let e : length l.ends + m ≡ length ts = omega (arith, n) in
    ap₂ (λ (x y : List ℕ). made x y) a.bytes (all-ends 0 m ts l.ends (length l.bytes) a.fit e (total-is ts l a.bytes))
  where
    made : List ℕ → List ℕ → Laid
    made x y = record { bytes = x; ends = y }
laid-all (c ∷ cs) ts l a g =
    let s : List ℕ = spelled c.class c.code in
    let next : Laid = laid_on l c.part s in
    let low = g.0 in
    let ends : c.part ≡ length next.ends = let n = reached-length l c.part in omega (arith, n, low) in
    let size : length ts ≡ length (appended ts c.part s) = sym (appended-length ts c.part s) in
    ap (λ (n : ℕ). reached (laid next cs) n) size
    ∙ laid-all cs (appended ts c.part s) next (laid-one ts l c.part s a g.0 g.1) (subst (λ (n : ℕ). Ascend (length next.ends) n cs) size (subst (λ (k : ℕ). Ascend k (length ts) cs) ends g.2))

nothing-joined : (ps : List TextPart) → AreEmpty (map {A = TextPart} {B = List ℕ} (λ p. []) ps)
nothing-joined [] = tt
nothing-joined (p ∷ ps) = (refl, nothing-joined ps)

-- what is left of parts, laid one after the other
pub laid-collapsed : (ps : List TextPart) → reached (laid (laid_texts []) (left_from Spaced (chars_from 0 ps))) (length ps) ≡ laid_texts (collapsed ps)
laid-collapsed ps =
    let ts : List (List ℕ) = map (λ p. []) ps in
    let none = nothing-joined ps in
    let size : length ps ≡ length ts = sym (length-map ps (λ (p : TextPart). [])) in
    let left : List Char = left_from Spaced (chars_from 0 ps) in
    let up : Ascend 0 (length ps) left = ascend-squeezed true 0 (length ps) (trimmed false (chars_from 0 ps)) (ascend-trimmed false 0 (length ps) (chars_from 0 ps) (ascend-from 0 (length ps) ps (omega arith))) in
    ap (λ (n : ℕ). reached (laid (laid_texts []) left) n) size
    ∙ laid-all left ts (laid_texts []) (record { bytes = sym (none-joined ts none); fit = empty-fit 0 ts none }) (subst (λ (n : ℕ). Ascend 0 n left) size up)
