-- Where a text may be cut when it grows.
use Rattle.std.proofs.Common.{◌≡◌, ℕ, ◌+◌, ◌-◌, ◌<◌, ◌≤◌, List, [], ◌∷◌, ◌++◌, length, length-append, length-drop, take, drop, slice_index, zero, suc, refl, sym, ◌∙◌, ap, subst, arith, ◌⊎◌, inl, inr}
use Rattle.std.specs.Str.{IsUtf8, IsCharBoundary}
use Rattle.std.proofs.lemmas.Str.{IsCharBoundary-at_seam, IsCharBoundary-end}
use Rattle.std.proofs.lemmas.List.{drop-append-le, take-append-le}
use Rattle.dom.specs.declared.texts.Span.{Span}
use Rattle.dom.specs.Spans.{between, Fits}

index-append : (xs ys : List ℕ) (i : ℕ) → i < length xs → slice_index (xs ++ ys) i ≡ slice_index xs i
index-append [] ys i h = absurd (omega arith)
index-append (x ∷ xs) ys zero h = refl
index-append (x ∷ xs) ys (suc i) h = index-append xs ys i (omega arith)

-- a place stays one where a text may be cut
pub boundary-append : (bs ys : List ℕ) (i : ℕ) → IsUtf8 ys → IsCharBoundary bs i → IsCharBoundary (bs ++ ys) i
boundary-append bs ys i u b = by (cases (length bs) i b.0)
  where
    cases : (n m : ℕ) → m ≤ n → (m ≡ n) ⊎ (m < n)
    cases zero zero h = inl refl
    cases (suc n) zero h = inr (omega arith)
    cases zero (suc m) h = absurd (omega arith)
    cases (suc n) (suc m) h = up (cases n m (omega arith))
      where
        up : ((m ≡ n) ⊎ (m < n)) → (suc m ≡ suc n) ⊎ (suc m < suc n)
        up (inl e) = inl (ap (λ k. suc k) e)
        up (inr l) = inr (omega arith)

    by : ((i ≡ length bs) ⊎ (i < length bs)) → IsCharBoundary (bs ++ ys) i
    by (inl e) = subst (λ k. IsCharBoundary (bs ++ ys) k) (sym e) (IsCharBoundary-at_seam (bs ++ ys) bs ys refl u)
    by (inr l) = ((let a = length-append bs ys in omega arith), λ within. subst (λ v. 128 ≤ v → 192 ≤ v) (sym (index-append bs ys i l)) (b.1 l))

pub fits-append : (bs ys : List ℕ) (s : Span) → IsUtf8 ys → Fits bs s → Fits (bs ++ ys) s
fits-append bs ys s u f = record { order = f.order; start = boundary-append bs ys s.from u f.start; end = boundary-append bs ys s.to u f.end }

-- a text stays when others follow
pub between-append : (bs ys : List ℕ) (s : Span) → Fits bs s → between (bs ++ ys) s ≡ between bs s
between-append bs ys s f =
    let o = f.order in
    let e = f.end.0 in
    let size : length (drop s.from bs) ≡ length bs - s.from = simp length-drop in
    ap (take (s.to - s.from)) (drop-append-le s.from bs ys (omega arith)) ∙ take-append-le (s.to - s.from) (drop s.from bs) ys (omega (arith, size))

-- the last text
pub fits-end : (bs ys : List ℕ) (s : Span) → IsUtf8 ys → s.from ≡ length bs → s.to ≡ length bs + length ys → Fits (bs ++ ys) s
fits-end bs ys s u from to = record {
  order = omega arith;
  start = subst (λ k. IsCharBoundary (bs ++ ys) k) (sym from) (IsCharBoundary-at_seam (bs ++ ys) bs ys refl u);
  end = subst (λ k. IsCharBoundary (bs ++ ys) k) (length-append bs ys ∙ sym to) (IsCharBoundary-end (bs ++ ys));
}
