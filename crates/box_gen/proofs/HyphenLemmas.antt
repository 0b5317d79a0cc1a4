-- What hyphenation does to the texts of a run, and what it leaves.
use Rattle.std.proofs.Common.{◌≡◌, ◌∙◌, ℕ, suc, ◌+◌, ◌-◌, Bool, Option, option_map, None, Some, Bor, List, [], ◌∷◌, ◌++◌, length, take, drop, refl, sym, ap, ap₂, subst, arith, append_assoc, length-append}
use Rattle.std.specs.List.{All}
use Rattle.std.specs.Str.{IsCharBoundary, IsUtf8, chars}
use Rattle.std.proofs.Math.Seq.{drop-append_seam, take-append_seam}
use Rattle.std.proofs.lemmas.List.Elements.{All-cons, All-head, All-nil, All-tail}
use Rattle.std.proofs.lemmas.Str.{IsCharBoundary-start, IsUtf8-between}
use Rattle.hyphen.specs.declared.patterns.Patterns.{Patterns}
use Rattle.inline_text.specs.Joined.{Laid, ends_from, joined, laid_texts}
use Rattle.soft_hyphens.specs.Hyphenated.{hyphenated, put_in}
use Rattle.soft_hyphens.specs.Words.{Points, is_put, letters_in, points_in}

put-length : (here : ℕ → Bool) (at : ℕ) (ts : List (List ℕ)) → length (put_in here at ts) ≡ length ts
put-length here at [] = refl
put-length here at (t ∷ ts) = ap suc (put-length here (at + length (chars t)) ts)

-- there are as many texts
pub hyphenated-length : (points : Option Points) (autos : List Bool) (ts : List (List ℕ)) → length (hyphenated points autos ts) ≡ length ts
unfolding hyphenated
hyphenated-length None autos ts = refl
hyphenated-length (Some points) autos ts = put-length (is_put points (letters_in autos ts)) 0 ts

-- without patterns all texts stay
pub without-patterns : (patterns : Option (Bor Patterns)) (autos : List Bool) (ts : List (List ℕ)) → patterns ≡ None → hyphenated (points_in (option_map (λ (p : Bor Patterns). p.now) patterns)) autos ts ≡ ts
unfolding hyphenated
without-patterns patterns autos ts e = ap (λ (q : Option (Bor Patterns)). hyphenated (points_in (option_map (λ (p : Bor Patterns). p.now) q)) autos ts) e

-- ---- texts that stand in one text

-- what stands between boundaries of characters is text
texts-from : (whole before : List ℕ) (ts : List (List ℕ)) → whole ≡ before ++ joined ts → IsUtf8 whole → IsCharBoundary whole (length before) → All (IsCharBoundary whole) (ends_from (length before) ts) → All IsUtf8 ts
texts-from whole before [] e u b a = All-nil IsUtf8
texts-from whole before (t ∷ ts) e u b a =
    let at : ℕ = length before in
    let to : ℕ = at + length t in
    let n : length (before ++ t) ≡ to = length-append before t in
    let next : IsCharBoundary whole to = All-head (IsCharBoundary whole) to (ends_from to ts) a in
    let size : to - at ≡ length t = omega arith in
    let here : take (to - at) (drop at whole) ≡ t = ap₂ (λ (n : ℕ) (l : List ℕ). take n l) size (ap (drop at) e ∙ drop-append_seam before (t ++ joined ts)) ∙ take-append_seam t (joined ts) in
    let one : IsUtf8 t = subst IsUtf8 here (IsUtf8-between whole at to u (omega arith) b next) in
    All-cons IsUtf8 t ts one (texts-from whole (before ++ t) ts (e ∙ sym (append_assoc before t (joined ts))) u (subst (IsCharBoundary whole) (sym n) next)
    (subst (λ (k : ℕ). All (IsCharBoundary whole) (ends_from k ts)) (sym n) (All-tail (IsCharBoundary whole) to (ends_from to ts) a)))

pub texts-utf8 : (l : Laid) (ts : List (List ℕ)) → l ≡ laid_texts ts → IsUtf8 l.bytes → All (IsCharBoundary l.bytes) l.ends → All IsUtf8 ts
texts-utf8 l ts e u a =
    texts-from l.bytes [] ts (ap (λ (x : Laid). x.bytes) e) u (IsCharBoundary-start l.bytes u)
    (subst (All (IsCharBoundary l.bytes)) (ap (λ (x : Laid). x.ends) e) a)
