-- Steps that are taken for triples that weren't held.
use Rattle.std.proofs.Common.{◌≡◌, ◌≢◌, ◌⊎◌, ⊎_elim, ℕ, suc, ◌+◌, ◌<◌, ◌≤◌, ℤ, List, [], ◌∷◌, ◌++◌, All, length-append, sym, subst, arith}
use Rattle.std.specs.List.{AllPairs}
use Rattle.std.proofs.lemmas.Bool.{cases_lt}
use Rattle.std.proofs.lemmas.List.Elements.{All-append, All-cons, All-head, All-nil, All-tail}
use Rattle.std.proofs.lemmas.List.Kept.{AllPairs-cons}
use Rattle.boxes.specs.Tree.{Tree}
use Rattle.line_fill.specs.Kept.{Asked, Holds, HoldsNow}
use Rattle.line_fill.specs.declared.kept.KeptLeaf.{KeptLeaf}
use Rattle.boxes.specs.declared.page.SolidKind.{SolidKind}
use Rattle.boxes.specs.declared.page.SolidKind.TheVariants.{CloseEdge, Line, OpenEdge}
use Rattle.cursor.specs.Asks.{AsksBy, AsksForLine, KeepsHeld, TakesSteps, asked_at}
use Rattle.cursor.specs.Remainder.{SolidView, steps_by, steps_of}

abbrev Apart : List Asked → Type 0
Apart = AllPairs (λ (a b : Asked). a ≢ b)

apart_none : Apart []
apart_none i j d h k = absurd (omega (arith, h, k))

-- no step is taken
pub takes_none : (old new : List KeptLeaf) (steps : ℕ) → TakesSteps old new steps steps
takes_none old new steps = record {
  asks = [];
  count = omega arith;
  fresh = All-nil (λ a. Holds old a → ⊥);
  held = All-nil (HoldsNow new);
  apart = apart_none;
}

-- a step is taken for one triple
takes_one : (a : Asked) (old new : List KeptLeaf) (steps steps' : ℕ) → steps' ≡ steps + 1 → (Holds old a → ⊥) → HoldsNow new a → TakesSteps old new steps steps'
takes_one a old new steps steps' e none now = record {
  asks = a ∷ [];
  count = e;
  fresh = All-cons (λ x. Holds old x → ⊥) a [] none (All-nil (λ x. Holds old x → ⊥));
  held = All-cons (HoldsNow new) a [] now (All-nil (HoldsNow new));
  apart = AllPairs-cons (λ (x y : Asked). x ≢ y) a [] (All-nil (λ b. a ≢ b)) apart_none;
}

-- a line takes a step where its triple isn't held, and else none
pub takes_line : (t : Tree) (width : ℤ) (s : SolidView) (old new : List KeptLeaf) (steps steps' : ℕ) → AsksForLine t width s old new steps steps' → steps' ≤ steps + 1 → TakesSteps old new steps steps'
takes_line t width s old new steps steps' asks most =
    ⊎_elim
    (λ (low : steps' < steps + 1). subst (TakesSteps old new steps) (sym (same low)) (takes_none old new steps))
    (λ (high : steps + 1 ≤ steps'). takes_one (asked_at t width s asks.leaf) old new steps steps' (omega (arith, most, high)) (λ h. let e = asks.held h in absurd (omega (arith, e, high))) asks.asked.asked)
    (cases_lt steps' (steps + 1))
  where
    off : steps' < steps → Holds old (asked_at t width s asks.leaf) → ⊥
    off low h = let e = asks.held h in absurd (omega (arith, e, low))

    none : steps' < steps → ⊥
    none low = let e = asks.fresh (off low) in absurd (omega (arith, e, low))

    same : steps' < steps + 1 → steps' ≡ steps
    same low = ⊎_elim (λ (less : steps' < steps). absurd (none less)) (λ (least : steps ≤ steps'). omega (arith, low, least)) (cases_lt steps' steps)

head_apart : (a : Asked) (xs : List Asked) → Apart (a ∷ xs) → All (λ b. a ≢ b) xs
head_apart a xs p = λ k d h. p 0 (suc k) d (omega arith) (omega (arith, h))

tail_apart : (a : Asked) (xs : List Asked) → Apart (a ∷ xs) → Apart xs
tail_apart a xs p = λ i j d h k. p (suc i) (suc j) d (omega (arith, h)) (omega (arith, k))

apart_append : (xs ys : List Asked) → Apart xs → Apart ys → All (λ a. All (λ b. a ≢ b) ys) xs → Apart (xs ++ ys)
apart_append [] ys p q cross = q
apart_append (a ∷ xs) ys p q cross =
    AllPairs-cons (λ (x y : Asked). x ≢ y) a (xs ++ ys)
    (All-append (λ b. a ≢ b) xs ys (head_apart a xs p) (All-head (λ x. All (λ b. x ≢ b) ys) a xs cross))
    (apart_append xs ys (tail_apart a xs p) q (All-tail (λ x. All (λ b. x ≢ b) ys) a xs cross))

differ : (mid : List KeptLeaf) (a b : Asked) → HoldsNow mid a → (Holds mid b → ⊥) → a ≢ b
differ mid a b now none e = none (subst (Holds mid) e (now.0, now.1))

-- what two steps after one another take
pub takes_twice : (old mid new : List KeptLeaf) (steps steps' steps'' : ℕ) → KeepsHeld old mid → KeepsHeld mid new → TakesSteps old mid steps steps' → TakesSteps mid new steps' steps'' → TakesSteps old new steps steps''
takes_twice old mid new steps steps' steps'' f g p q = record {
  asks = p.asks ++ q.asks;
  count = let a = p.count in let b = q.count in let n = length-append p.asks q.asks in omega (arith, a, b, n);
  fresh = All-append (λ a. Holds old a → ⊥) p.asks q.asks p.fresh (λ k d h has. q.fresh k d h (f.held _ has));
  held = All-append (HoldsNow new) p.asks q.asks (λ k d h. g.now _ (p.held k d h)) q.held;
  apart = apart_append p.asks q.asks p.apart q.apart (λ k d h. λ i e l. differ mid _ _ (p.held k d h) (q.fresh i e l));
}

steps_most : (k : SolidKind) (t : Tree) (width : ℤ) (s : SolidView) (old new : List KeptLeaf) (steps steps' : ℕ) → AsksBy k t width s old new steps steps' → steps' ≤ steps + 1 → steps' ≤ steps + steps_by k
steps_most (OpenEdge b) t width s old new steps steps' asks most = let same : steps' ≡ steps = asks.1 in omega (arith, same)
steps_most (CloseEdge b) t width s old new steps steps' asks most = let same : steps' ≡ steps = asks.1 in omega (arith, same)
steps_most Line t width s old new steps steps' asks most = most

-- a solid that is asked for takes no more steps than its kind
pub asks_steps : (t : Tree) (width : ℤ) (s : SolidView) (old new : List KeptLeaf) (steps steps' : ℕ) → AsksBy s.kind t width s old new steps steps' → steps' ≤ steps + 1 → steps' ≤ steps + steps_of s
asks_steps t width s old new steps steps' asks most = steps_most s.kind t width s old new steps steps' asks most
