-- the spots of a walk, step by step
use Rattle.std.proofs.Common.{◌≡◌, ℕ, zero, suc, ◌+◌, ◌<◌, ◌≤◌, ◌==◌, Bool, true, false, cond, List, [], ◌∷◌, ◌++◌, Option, None, Some, length, length-append, slice_get, slice_set, refl, sym, ◌∙◌, ap, subst, arith, append_assoc, append-nil}
use Rattle.std.specs.Prelude.{nat_lt, not, ◌^◌}
use Rattle.std.specs.Option.{option_or}
use Rattle.std.specs.List.{position, prefix_len}
use Rattle.std.proofs.lemmas.Bool.{eq-eqb}
use Rattle.std.proofs.lemmas.Map.Views.{exact_unsigned_eq}
use Rattle.std.proofs.lemmas.Bool.Decides.{nat_tests}
use Rattle.bk_num.proofs.ListLemmas.{length-slice_set}
use Rattle.named_lists.proofs.ListLemmas.{position-more}
use Rattle.dom.specs.Nodes.{Node, IsTree}
use Rattle.dom.specs.Walk.{node_of, steps_of}
use Rattle.dom.specs.declared.walk.Step.{Step}
use Rattle.dom.specs.declared.walk.Step.TheVariants.{Enter, Leave}
use Rattle.counters.specs.declared.at.Spot.{Spot}
use Rattle.counters.specs.At.{AreSmall, IsSmall}
use Rattle.counters.specs.Document.{enters, leaves, into, out_of}
use Rattle.counters.specs.Gather.{AreSpots, spot_at, stepped}
use Rattle.counters.proofs.StepCounts.{steps-few}

or-none : (o : Option ℕ) → option_or o None ≡ o
or-none None = refl
or-none (Some i) = refl

at-set : {A : Type 0} (xs : List A) (i : ℕ) (y : A) → i < length xs → slice_get (slice_set xs i y) i ≡ Some y
at-set [] i y l = absurd (omega arith)
at-set (x ∷ xs) zero y l = refl
at-set (x ∷ xs) (suc i) y l = at-set xs i y (omega arith)

beside-set : {A : Type 0} (xs : List A) (i k : ℕ) (y : A) → (k ≡ i → ⊥) → slice_get (slice_set xs i y) k ≡ slice_get xs k
beside-set [] i k y h = refl
beside-set (x ∷ xs) zero zero y h = absurd (h refl)
beside-set (x ∷ xs) zero (suc k) y h = refl
beside-set (x ∷ xs) (suc i) zero y h = refl
beside-set (x ∷ xs) (suc i) (suc k) y h = beside-set xs i k y (λ e. h (ap (λ n. suc n) e))

spot-more : (done : List Step) (s : Step) (n : ℕ) → n ≡ node_of s → stepped (length done) s (record { into = into done n; out = out_of done n }) ≡ record { into = into (done ++ s ∷ []) n; out = out_of (done ++ s ∷ []) n }
spot-more done (Enter m) n e = rw (position-more (enters n) done (Enter m), position-more (leaves n) done (Enter m), eq-eqb m.0 n (sym e), or-none (out_of done n)) refl
spot-more done (Leave m) n e = rw (position-more (enters n) done (Leave m), position-more (leaves n) done (Leave m), eq-eqb m.0 n (sym e), or-none (into done n)) refl

not-eq : (m n : ℕ) → (n ≡ m → ⊥) → (m == n) ≡ false
not-eq m n h = by (m == n) refl
  where
    by : (b : Bool) → (m == n) ≡ b → b ≡ false
    by true e = absurd (h (sym (exact_unsigned_eq m n e)))
    by false e = refl

spot-same : (done : List Step) (s : Step) (n : ℕ) → (n ≡ node_of s → ⊥) → (into (done ++ s ∷ []) n ≡ into done n) × (out_of (done ++ s ∷ []) n ≡ out_of done n)
spot-same done (Enter m) n h = (position-more (enters n) done (Enter m) ∙ ap (λ b. option_or (into done n) (cond b (Some (length done)) None)) (not-eq m.0 n h) ∙ or-none (into done n), position-more (leaves n) done (Enter m) ∙ or-none (out_of done n))
spot-same done (Leave m) n h = (position-more (enters n) done (Leave m) ∙ or-none (into done n), position-more (leaves n) done (Leave m) ∙ ap (λ b. option_or (out_of done n) (cond b (Some (length done)) None)) (not-eq m.0 n h) ∙ or-none (out_of done n))

pub spots-more : (done : List Step) (s : Step) (spots : List Spot) (old : Spot) → AreSpots done spots → slice_get spots (node_of s) ≡ Some old → node_of s < length spots → AreSpots (done ++ s ∷ []) (slice_set spots (node_of s) (stepped (length done) s old))
spots-more done s spots old h g l n = by (n == node_of s) refl
  where
    here : n ≡ node_of s → spot_at (slice_get (slice_set spots (node_of s) (stepped (length done) s old)) n) ≡ record { into = into (done ++ s ∷ []) n; out = out_of (done ++ s ∷ []) n }
    here e =
        let was : old ≡ record { into = into done n; out = out_of done n } = ap spot_at (sym g) ∙ ap (λ k. spot_at (slice_get spots k)) (sym e) ∙ h n in
        ap (λ k. spot_at (slice_get (slice_set spots (node_of s) (stepped (length done) s old)) k)) e ∙ ap spot_at (at-set spots (node_of s) (stepped (length done) s old) l) ∙ ap (stepped (length done) s) was ∙ spot-more done s n e

    by : (b : Bool) → (n == node_of s) ≡ b → spot_at (slice_get (slice_set spots (node_of s) (stepped (length done) s old)) n) ≡ record { into = into (done ++ s ∷ []) n; out = out_of (done ++ s ∷ []) n }
    by true e = here (exact_unsigned_eq n (node_of s) e)
    by false e =
        let other : n ≡ node_of s → ⊥ = λ f. let t = eq-eqb n (node_of s) f in cc in
        let same = spot-same done s n other in
        ap spot_at (beside-set spots (node_of s) n (stepped (length done) s old) other) ∙ h n ∙ rw (same.0, same.1) refl

below : {A : Type 0} (p : A → Bool) (xs : List A) (most : ℕ) → length xs ≤ most → most < 2 ^ 28 → IsSmall (position p xs)
below p xs most l m = by (nat_lt (prefix_len (λ y. not (p y)) xs) (length xs)) refl
  where
    by : (b : Bool) → nat_lt (prefix_len (λ y. not (p y)) xs) (length xs) ≡ b → IsSmall (cond b (Some (prefix_len (λ y. not (p y)) xs)) None)
    by true e = grind (arith, nat_tests, e)
    by false e = tt

pub spots-small : (steps : List Step) (spots : List Spot) → AreSpots steps spots → length steps < 2 ^ 28 → AreSmall spots
spots-small steps spots h l n s g =
    let is : s ≡ record { into = into steps n; out = out_of steps n } = ap spot_at (sym g) ∙ h n in
    (subst (λ (x : Spot). IsSmall x.into) (sym is) (below (enters n) steps (length steps) (omega arith) l), subst (λ (x : Spot). IsSmall x.out) (sym is) (below (leaves n) steps (length steps) (omega arith) l))

-- the spots after the steps up to some place
pub record Passed (nodes : List Node) (rest : List Step) (number : ℕ) (kept : List Spot) : Type 0 where
  pub done : List Step
  pub all : steps_of nodes ≡ done ++ rest
  pub count : number ≡ length done
  pub few : number < 2 ^ 28
  pub spots : AreSpots done kept
  pub len : length kept ≡ length nodes

-- there is room for the number of another step
pub passed-few : (nodes : List Node) (s : Step) (before rest : List Step) (number : ℕ) (spots : List Spot) → IsTree nodes → before ≡ s ∷ rest → Passed nodes before number spots → number + 1 < 2 ^ 28
passed-few nodes s before rest number spots t e p =
    let few = steps-few nodes t in
    let most = t.few in
    let all = ap length (p.all ∙ ap (λ (r : List Step). p.done ++ r) e) in
    let sum = length-append p.done (s ∷ rest) in
    let count = p.count in
    omega (arith, few, most, all, sum, count)

pub passed-more : (nodes : List Node) (s : Step) (before rest : List Step) (number : ℕ) (spots : List Spot) (old : Spot) → before ≡ s ∷ rest → number + 1 < 2 ^ 28 → node_of s < length nodes → slice_get spots (node_of s) ≡ Some old → Passed nodes before number spots → Passed nodes rest (number + 1) (slice_set spots (node_of s) (stepped number s old))
passed-more nodes s before rest number spots old e l w g p = record {
  done = p.done ++ s ∷ [];
  all = p.all ∙ ap (λ r. p.done ++ r) e ∙ sym (append_assoc p.done (s ∷ []) rest);
  count = (let z = length-append p.done (s ∷ []) in let c = p.count in omega arith);
  few = l;
  spots = subst (λ (k : ℕ). AreSpots (p.done ++ s ∷ []) (slice_set spots (node_of s) (stepped k s old))) (sym p.count) (spots-more p.done s spots old p.spots g (let z = p.len in omega arith));
  len = length-slice_set spots (node_of s) (stepped number s old) ∙ p.len;
}

pub passed-end : (nodes : List Node) (number : ℕ) (spots : List Spot) → Passed nodes [] number spots → AreSpots (steps_of nodes) spots × (number ≡ length (steps_of nodes)) × AreSmall spots
passed-end nodes number spots p =
    let whole : steps_of nodes ≡ p.done = p.all ∙ append-nil p.done in
    let are : AreSpots (steps_of nodes) spots = subst (λ d. AreSpots d spots) (sym whole) p.spots in
    let count : number ≡ length (steps_of nodes) = p.count ∙ ap length (sym whole) in
    (are, count, spots-small (steps_of nodes) spots are (subst (λ (k : ℕ). k < 2 ^ 28) count p.few))
