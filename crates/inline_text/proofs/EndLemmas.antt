-- Where texts end stays a boundary of characters, whatever comes after.
use Rattle.std.proofs.Common.{◌≡◌, ◌∙◌, ℕ, suc, ◌+◌, ◌-◌, ◌<◌, ◌≤◌, ◌⊎◌, inl, inr, List, [], ◌∷◌, ◌++◌, length, get_or, take, drop, refl, sym, ap, ap₂, subst, arith, append_assoc, length-append}
use Rattle.std.specs.List.{slice_range}
use Rattle.std.proofs.Math.Seq.{drop-append_seam, take-append_seam}
use Rattle.std.specs.List.{All}
use Rattle.std.specs.Str.{IsCharBoundary, IsUtf8}
use Rattle.std.proofs.lemmas.Bool.{cases_lt}
use Rattle.std.proofs.lemmas.List.{drop-drop, get_or_append_left}
use Rattle.std.proofs.lemmas.List.Elements.{All-append, All-cons, All-nil, All-weaker}
use Rattle.std.proofs.lemmas.Str.{IsCharBoundary-at_seam}
use Rattle.inline_text.specs.Joined.{ends_from, repeated}

stand-one : (t s : List ℕ) (e : ℕ) → IsUtf8 s → IsCharBoundary t e → IsCharBoundary (t ++ s) e
stand-one t s e u b = by (cases_lt e (length t))
  where
    by : (e < length t) ⊎ (length t ≤ e) → IsCharBoundary (t ++ s) e
    by (inl l) =
        let n = length-append t s in
        let same : get_or (t ++ s) e 0 ≡ get_or t e 0 = get_or_append_left t s 0 e l in
        (omega (arith, n, l), λ inside high. subst (λ (x : ℕ). 192 ≤ x) (sym same) (b.1 l (subst (λ (x : ℕ). 128 ≤ x) same high)))
    by (inr h) = let low = b.0 in let at : length t ≡ e = omega (arith, h, low) in subst (λ (k : ℕ). IsCharBoundary (t ++ s) k) at (IsCharBoundary-at_seam (t ++ s) t s refl u)

pub stand-more : (t s : List ℕ) (ends : List ℕ) → IsUtf8 s → All (IsCharBoundary t) ends → All (IsCharBoundary (t ++ s)) ends
stand-more t s ends u a = All-weaker (IsCharBoundary t) (IsCharBoundary (t ++ s)) (λ e b. stand-one t s e u b) ends a

pub stand-end : (t : List ℕ) (ends : List ℕ) (at : ℕ) → IsCharBoundary t at → All (IsCharBoundary t) ends → All (IsCharBoundary t) (ends ++ at ∷ [])
stand-end t ends at b a = All-append (IsCharBoundary t) ends (at ∷ []) a (All-cons (IsCharBoundary t) at [] b (All-nil (IsCharBoundary t)))

-- one end more, and one less to come
pub one-end : (ends new : List ℕ) (count at : ℕ) → new ≡ ends ++ at ∷ [] → length ends < count → new ++ repeated (count - length new) at ≡ ends ++ repeated (count - length ends) at
one-end ends new count at e l =
    let n : length new ≡ length ends + 1 = ap (λ (x : List ℕ). length x) e ∙ length-append ends (at ∷ []) in
    let m : suc (count - length new) ≡ count - length ends = omega (arith, n, l) in
    ap (λ (x : List ℕ). x ++ repeated (count - length new) at) e ∙ append_assoc ends (at ∷ []) (repeated (count - length new) at) ∙ ap (λ (k : ℕ). ends ++ repeated k at) m

-- the text of a number among several, by where it ends
pub record NextText (ts : List (List ℕ)) (i from e : ℕ) (more : List ℕ) : Type 0 where
  pub text : List ℕ
  pub is : drop i ts ≡ text ∷ drop (i + 1) ts
  pub end : e ≡ from + length text
  pub rest : more ≡ ends_from e (drop (i + 1) ts)

pub next-text : (ts : List (List ℕ)) (i from e : ℕ) (more : List ℕ) → e ∷ more ≡ ends_from from (drop i ts) → NextText ts i from e more
next-text ts i from e more h = by (drop i ts) refl h
  where
    by : (l : List (List ℕ)) → drop i ts ≡ l → e ∷ more ≡ ends_from from l → NextText ts i from e more
    by [] k h = absurd (cc)
    by (t ∷ l) k h =
        let end : e ≡ from + length t = cc in
        let rest : more ≡ ends_from (from + length t) l = cc in
        let after : drop (i + 1) ts ≡ l = sym (drop-drop 1 i ts) ∙ ap (λ (x : List (List ℕ)). drop 1 x) k in
        record { text = t; is = k ∙ ap (λ (x : List (List ℕ)). t ∷ x) (sym after); end = end; rest = rest ∙ ap₂ (λ (n : ℕ) (x : List (List ℕ)). ends_from n x) (sym end) (sym after) }

-- it stands between its ends
pub next-range : (whole text after : List ℕ) (from e : ℕ) → drop from whole ≡ text ++ after → e ≡ from + length text → slice_range whole from e ≡ text
next-range whole text after from e h k =
    let n : e - from ≡ length text = omega (arith, k) in
    ap₂ (λ (m : ℕ) (x : List ℕ). take m x) n h ∙ take-append_seam text after

pub after-range : (whole text after : List ℕ) (from e : ℕ) → drop from whole ≡ text ++ after → e ≡ from + length text → drop e whole ≡ after
after-range whole text after from e h k =
    ap (λ (n : ℕ). drop n whole) k ∙ sym (drop-drop (length text) from whole) ∙ ap (λ (x : List ℕ). drop (length text) x) h ∙ drop-append_seam text after
