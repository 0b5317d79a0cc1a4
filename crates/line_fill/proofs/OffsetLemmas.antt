-- The places at which the lines of a paragraph can end.
use Rattle.std.proofs.Common.{◌≡◌, ℕ, zero, suc, ◌+◌, ◌-◌, ◌<◌, ◌≤◌, ℤ, inl, inr, ◌⊎◌, ⊎_elim, Bool, true, false, cond, ◌&&◌, ltb, List, [], ◌∷◌, ◌++◌, length, get_or, refl, arith, length-append}
use Rattle.std.specs.List.{Contains, filter}
use Rattle.std.proofs.lemmas.Bool.Decides.{nat_tests}
use Rattle.std.proofs.lemmas.List.{length-map}
use Rattle.bk_num.proofs.ListLemmas.{contains-more}
use Rattle.metrics.specs.Face.{FontFace}
use Rattle.boxes.specs.declared.leaf.Leaf.{Leaf}
use Rattle.total_fit.specs.Plans.{IsBest}
use Rattle.total_fit.proofs.PlanLemmas.{plan-within}
use Rattle.line_fill.specs.LineEnd.{IsOrdinary, stop_of}
use Rattle.line_fill.specs.Stops.{measures_of, offsets_of, stops_of}
use Rattle.line_fill.proofs.LineLemmas.{stop-after}

-- a place is the last one, or one of a list between two places
abbrev IsNamed : List ℕ → ℕ → ℕ → ℕ → Type 0
IsNamed xs from stop q = (q ≡ stop) ⊎ ((from < q) × (q < stop) × Contains xs q)

named-cons : (x : ℕ) (xs : List ℕ) (from stop q : ℕ) → IsNamed xs from stop q → IsNamed (x ∷ xs) from stop q
named-cons x xs from stop q (inl e) = inl e
named-cons x xs from stop q (inr (a, b, c)) = inr (a, b, contains-more x xs q c)

inside-both : (from x stop : ℕ) → (ltb from x && ltb x stop) ≡ true → (from < x) × (x < stop)
inside-both from x stop h = (grind (arith, nat_tests), grind (arith, nat_tests))

named : (from stop : ℕ) (xs : List ℕ) (i : ℕ) → i ≤ length (filter (λ q. ltb from q && ltb q stop) xs) →
    IsNamed xs from stop (get_or (filter (λ q. ltb from q && ltb q stop) xs ++ stop ∷ []) i 0)
named from stop [] zero h = inl refl
named from stop [] (suc i) h = absurd (omega arith)
named from stop (x ∷ xs) i h = by (λ k l. named from stop xs k l) (ltb from x && ltb x stop) (inside-both from x stop) i h
  where
    rest : List ℕ
    rest = filter (λ q. ltb from q && ltb q stop) xs

    by : ((k : ℕ) → k ≤ length rest → IsNamed xs from stop (get_or (rest ++ stop ∷ []) k 0)) → (b : Bool) →
        (b ≡ true → (from < x) × (x < stop)) → (i : ℕ) → i ≤ length (cond b (x ∷ rest) rest) →
        IsNamed (x ∷ xs) from stop (get_or (cond b (x ∷ rest) rest ++ stop ∷ []) i 0)
    by before false t i l = named-cons x xs from stop _ (before i l)
    by before true t zero l = let first : Contains (x ∷ xs) x = (zero, omega arith, refl) in inr ((t refl).0, (t refl).1, first)
    by before true t (suc i) l = named-cons x xs from stop _ (before i (omega arith))

pub offset-named : (leaf : Leaf) (from i : ℕ) → i < length (offsets_of leaf from) →
    IsNamed leaf.places from (stop_of leaf.text from) (get_or (offsets_of leaf from) i 0)
unfolding offsets_of
offset-named leaf from i h = named from (stop_of leaf.text from) leaf.places i (let l : i < length (filter (λ q. ltb from q && ltb q (stop_of leaf.text from)) leaf.places) + 1 = simp length-append at h in omega arith)

pub offset-ordinary : (leaf : Leaf) (from i : ℕ) → from < length leaf.text → i < length (offsets_of leaf from) →
    IsOrdinary leaf.text leaf.places from (get_or (offsets_of leaf from) i 0)
offset-ordinary leaf from i inside h = ⊎_elim
    (λ (e : get_or (offsets_of leaf from) i 0 ≡ stop_of leaf.text from). record {
      after = let s = stop-after leaf.text from inside in omega arith;
      within = omega arith;
      named = inl e;
    })
    (λ (n : (from < get_or (offsets_of leaf from) i 0) × (get_or (offsets_of leaf from) i 0 < stop_of leaf.text from) × Contains leaf.places (get_or (offsets_of leaf from) i 0)). record {
      after = n.0;
      within = let l = n.1 in omega arith;
      named = inr n.2;
    })
    (offset-named leaf from i h)

pub stops-count : (faces : List FontFace) (leaf : Leaf) (from : ℕ) → length (stops_of faces leaf from) ≡ length (offsets_of leaf from)
unfolding stops_of
stops-count faces leaf from = length-map _ _

pub offsets-some : (leaf : Leaf) (from : ℕ) → 0 < length (offsets_of leaf from)
unfolding offsets_of
offsets-some leaf from = simp length-append (omega arith)

-- the end of a plan's first line is an ordinary place
pub plan-ordinary : (faces : List FontFace) (leaf : Leaf) (from : ℕ) (measure : ℤ) (e : ℕ) (ends : List ℕ) →
    from < length leaf.text → IsBest (stops_of faces leaf from) (measures_of leaf from measure) (e ∷ ends) →
    IsOrdinary leaf.text leaf.places from (get_or (offsets_of leaf from) (e - 1) 0)
plan-ordinary faces leaf from measure e ends inside best =
    let low = best.plan.0 in
    let high = plan-within (stops_of faces leaf from) (measures_of leaf from measure) e ends best.plan.2 in
    let count = stops-count faces leaf from in
    offset-ordinary leaf from (e - 1) inside (omega arith)
