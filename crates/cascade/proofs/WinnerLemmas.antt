-- The winners among more and more declarations.
use Rattle.std.proofs.Common.{◌≡◌, ℕ, suc, zero, ◌<◌, Bool, true, false, List, [], ◌∷◌, Option, None, Some, length, slice_get, cond, refl, sym, ◌∙◌, ap, subst, arith, ◌⊎◌, inl, inr}
use Rattle.std.specs.List.{fold}
use Rattle.bk_num.proofs.ListLemmas.{get-set, slice_get_at}
use Rattle.style.specs.Longhands.{longhand_count}
use Rattle.style.specs.Longs.{longhand_of}
use Rattle.style.specs.declared.long.Long.{Long}
use Rattle.style.proofs.RankingLemmas.{above-self, above-over}
use Rattle.cascade.specs.Weights.{ranks_of, is_above}
use Rattle.cascade.specs.Candidates.{Declared, slot_of}
use Rattle.cascade.specs.Choice.{better_of, offered, offered_at, are_none, longs_in}
use Rattle.cascade.specs.Winners.{IsWinner, AreWinners}
use Rattle.cascade.proofs.ChoiceLemmas.{number_small}

-- a winner, or none where nothing is declared
abbrev pub IsBest : (Declared → Type 0) → ℕ → Option Declared → Type 0
IsBest IsThere slot None = (e : Declared) → IsThere e → slot_of e.long ≡ slot → ⊥
IsBest IsThere slot (Some d) = IsWinner IsThere slot d

-- ---- one more declaration

abbrev pub Set : Type 1
Set = Declared → Type 0

-- one more declaration than before
record IsOneMore (P Q : Set) (c : Declared) : Type 0 where
  new : Q c
  kept : (d : Declared) → P d → Q d
  each : (d : Declared) → Q d → (d ≡ c) ⊎ P d

best-other : (P Q : Set) (c : Declared) (s : ℕ) (o : Option Declared) → IsOneMore P Q c → (slot_of c.long ≡ s → ⊥) → IsBest P s o → IsBest Q s o
best-other P Q c s None more other best = λ e h at. by e at (more.each e h)
  where
    by : (e : Declared) → slot_of e.long ≡ s → (e ≡ c) ⊎ P e → ⊥
    by e at (inl same) = other (ap (λ (x : Declared). slot_of x.long) (sym same) ∙ at)
    by e at (inr h) = best e h at
best-other P Q c s (Some b) more other best = record { there = more.kept b best.there; of_slot = best.of_slot; greatest = λ e h at. by e at (more.each e h) }
  where
    by : (e : Declared) → slot_of e.long ≡ s → (e ≡ c) ⊎ P e → is_above e.weight b.weight ≡ false
    by e at (inl same) = absurd (other (ap (λ (x : Declared). slot_of x.long) (sym same) ∙ at))
    by e at (inr h) = best.greatest e h at

best-same : (P Q : Set) (c : Declared) (s : ℕ) (o : Option Declared) → IsOneMore P Q c → slot_of c.long ≡ s → IsBest P s o → IsBest Q s (better_of c o)
best-same P Q c s None more at best = record { there = more.new; of_slot = at; greatest = λ e h g. by e g (more.each e h) }
  where
    by : (e : Declared) → slot_of e.long ≡ s → (e ≡ c) ⊎ P e → is_above e.weight c.weight ≡ false
    by e g (inl same) = rw same (above-self (ranks_of c.weight))
    by e g (inr h) = absurd (best e h g)
best-same P Q c s (Some b) more at best = by (is_above c.weight b.weight) refl
  where
    wins : is_above c.weight b.weight ≡ true → (e : Declared) → slot_of e.long ≡ s → (e ≡ c) ⊎ P e → is_above e.weight c.weight ≡ false
    wins t e g (inl same) = rw same (above-self (ranks_of c.weight))
    wins t e g (inr h) = above-over (ranks_of e.weight) (ranks_of c.weight) (ranks_of b.weight) (best.greatest e h g) t

    stays : is_above c.weight b.weight ≡ false → (e : Declared) → slot_of e.long ≡ s → (e ≡ c) ⊎ P e → is_above e.weight b.weight ≡ false
    stays t e g (inl same) = rw same t
    stays t e g (inr h) = best.greatest e h g

    by : (x : Bool) → is_above c.weight b.weight ≡ x → IsBest Q s (cond x (Some c) (Some b))
    by true t = record { there = more.new; of_slot = at; greatest = λ e h g. wins t e g (more.each e h) }
    by false t = record { there = more.kept b best.there; of_slot = best.of_slot; greatest = λ e h g. stays t e g (more.each e h) }

-- each place has the winner of its longhand
abbrev pub AllBest : Set → List (Option Declared) → Type 0
AllBest P best = (s : ℕ) (o : Option Declared) → slice_get best s ≡ Some o → IsBest P s o

best-step : (P Q : Set) (c : Declared) (best : List (Option Declared)) → IsOneMore P Q c → AllBest P best → AllBest Q (offered best c)
best-step P Q c best more all s o h = by (slice_get best (slot_of c.long)) refl h
  where
    by : (q : Option (Option Declared)) → slice_get best (slot_of c.long) ≡ q → slice_get (offered_at best c q) s ≡ Some o → IsBest Q s o
    by None e g = best-other P Q c s o more (λ z. let w : slice_get best s ≡ None = subst (λ j. slice_get best j ≡ None) z e in cc) (all s o g)
    by (Some p) e g = of (get-set best (slot_of c.long) s (better_of c p) o g)
      where
        of : ((old : Option Declared) × (slice_get best s ≡ Some old) × (((s ≡ slot_of c.long) × (o ≡ better_of c p)) ⊎ ((s ≡ slot_of c.long → ⊥) × (o ≡ old)))) → IsBest Q s o
        of (old, at, inl (i, v)) = subst (λ x. IsBest Q s x) (sym v) (best-same P Q c s p more (sym i) (all s p (subst (λ j. slice_get best j ≡ Some p) (sym i) e)))
        of (old, at, inr (n, v)) = subst (λ x. IsBest Q s x) (sym v) (best-other P Q c s old more (λ z. n (sym z)) (all s old at))

-- ---- many more

-- the same declarations, told otherwise
pub best-told : (P Q : Set) → ((d : Declared) → P d → Q d) → ((d : Declared) → Q d → P d) → (best : List (Option Declared)) → AllBest P best → AllBest Q best
best-told P Q to from best all s o h = by o (all s o h)
  where
    by : (o : Option Declared) → IsBest P s o → IsBest Q s o
    by None b = λ e g at. b e (from e g) at
    by (Some d) b = record { there = to d b.there; of_slot = b.of_slot; greatest = λ e g at. b.greatest e (from e g) at }

abbrev pub Within : List Declared → Set
Within [] d = ⊥
Within (c ∷ cs) d = (d ≡ c) ⊎ Within cs d

pub fold-best : (cs : List Declared) (P : Set) (best : List (Option Declared)) → AllBest P best → AllBest (λ d. P d ⊎ Within cs d) (fold offered best cs)
fold-best [] P best all = best-told P (λ d. P d ⊎ ⊥) (λ d h. inl h) (λ d h. by d h) best all
  where
    by : (d : Declared) → P d ⊎ ⊥ → P d
    by d (inl h) = h
    by d (inr e) = absurd e
fold-best (c ∷ cs) P best all =
    best-told (λ d. (P d ⊎ (d ≡ c)) ⊎ Within cs d) (λ d. P d ⊎ ((d ≡ c) ⊎ Within cs d)) (λ d h. to d h) (λ d h. from d h) (fold offered (offered best c) cs)
    (fold-best cs (λ d. P d ⊎ (d ≡ c)) (offered best c) (best-step P (λ d. P d ⊎ (d ≡ c)) c best (record { new = inr refl; kept = λ d h. inl h; each = λ d h. turn d h }) all))
  where
    turn : (d : Declared) → P d ⊎ (d ≡ c) → (d ≡ c) ⊎ P d
    turn d (inl h) = inr h
    turn d (inr e) = inl e

    to : (d : Declared) → (P d ⊎ (d ≡ c)) ⊎ Within cs d → P d ⊎ ((d ≡ c) ⊎ Within cs d)
    to d (inl (inl h)) = inl h
    to d (inl (inr e)) = inr (inl e)
    to d (inr w) = inr (inr w)

    from : (d : Declared) → P d ⊎ ((d ≡ c) ⊎ Within cs d) → (P d ⊎ (d ≡ c)) ⊎ Within cs d
    from d (inl h) = inl (inl h)
    from d (inr (inl e)) = inl (inr e)
    from d (inr (inr w)) = inr w

none-from-all : (best : List (Option Declared)) (s : ℕ) (o : Option Declared) → are_none best ≡ true → slice_get best s ≡ Some o → o ≡ None
none-from-all [] s o t h = cc
none-from-all (None ∷ best) zero o t h = let e : None ≡ o = cc in sym e
none-from-all (None ∷ best) (suc s) o t h = none-from-all best s o t h
none-from-all (Some c ∷ best) s o t h = absurd (cc)

-- no declaration, no winner
pub best-none : (best : List (Option Declared)) → are_none best ≡ true → AllBest (λ d. ⊥) best
best-none best t s o h = subst (λ x. IsBest (λ d. ⊥) s x) (sym (none-from-all best s o t h)) (λ e g at. absurd g)

-- ---- the list of those that won

won-at : (best : List (Option Declared)) (k : ℕ) (long : Long) → slice_get (longs_in best) k ≡ Some long → (s : ℕ) × (d : Declared) × (slice_get best s ≡ Some (Some d)) × (d.long ≡ long)
won-at [] k long h = cc
won-at (None ∷ best) k long h = let w = won-at best k long h in (suc w.0, w.1, w.2, w.3)
won-at (Some d ∷ best) zero long h = (0, d, refl, cc)
won-at (Some d ∷ best) (suc k) long h = let w = won-at best k long h in (suc w.0, w.1, w.2, w.3)

won-from : (best : List (Option Declared)) (s : ℕ) (d : Declared) → slice_get best s ≡ Some (Some d) → (k : ℕ) × (slice_get (longs_in best) k ≡ Some d.long)
won-from [] s d h = cc
won-from (None ∷ best) zero d h = cc
won-from (None ∷ best) (suc s) d h = won-from best s d h
won-from (Some c ∷ best) zero d h = let e : Some (Some c) ≡ Some (Some d) = h in (0, cc)
won-from (Some c ∷ best) (suc s) d h = let w = won-from best s d h in (suc w.0, w.1)

-- a later one stands at a later place
won-order : (best : List (Option Declared)) (j k : ℕ) (a b : Long) → j < k → slice_get (longs_in best) j ≡ Some a → slice_get (longs_in best) k ≡ Some b
    → (s t : ℕ) × (d e : Declared) × (s < t) × (slice_get best s ≡ Some (Some d)) × (d.long ≡ a) × (slice_get best t ≡ Some (Some e)) × (e.long ≡ b)
won-order [] j k a b l h g = cc
won-order (None ∷ best) j k a b l h g = let w = won-order best j k a b l h g in let less = w.4 in (suc w.0, suc w.1, w.2, w.3, omega arith, w.5, w.6, w.7, w.8)
won-order (Some d ∷ best) j zero a b l h g = absurd (omega arith)
won-order (Some d ∷ best) zero (suc k) a b l h g = let w = won-at best k b g in (0, suc w.0, d, w.1, omega arith, refl, cc, w.2, w.3)
won-order (Some d ∷ best) (suc j) (suc k) a b l h g = let w = won-order best j k a b (omega arith) h g in let less = w.4 in (suc w.0, suc w.1, w.2, w.3, omega arith, w.5, w.6, w.7, w.8)

pub are-winners : (P : Set) (best : List (Option Declared)) → length best ≡ longhand_count → AllBest P best → AreWinners P (longs_in best)
are-winners P best count all = record {
  each = λ k long h. let w = won-at best k long h in let b = all w.0 (Some w.1) w.2 in (w.1, w.3, subst (λ s. IsWinner P s w.1) (sym b.of_slot ∙ ap slot_of w.3) b);
  all = λ e h. by e h (slice_get_at best (slot_of e.long) (let l = number_small (longhand_of e.long) in omega (arith, count, l)));
  ordered = λ j k a b l h g. let w = won-order best j k a b l h g in let x = all w.0 (Some w.2) w.5 in let y = all w.1 (Some w.3) w.7 in
      let s : slot_of a ≡ w.0 = ap slot_of (sym w.6) ∙ x.of_slot in let t : slot_of b ≡ w.1 = ap slot_of (sym w.8) ∙ y.of_slot in let less = w.4 in omega (arith, s, t, less);
}
  where
    by : (e : Declared) → P e → ((o : Option Declared) × (slice_get best (slot_of e.long) ≡ Some o)) → (k : ℕ) × (long : Long) × (slice_get (longs_in best) k ≡ Some long) × (slot_of long ≡ slot_of e.long)
    by e h (None, at) = absurd (all (slot_of e.long) None at e h refl)
    by e h (Some d, at) = let w = won-from best (slot_of e.long) d at in let b = all (slot_of e.long) (Some d) at in (w.0, d.long, w.1, b.of_slot)
