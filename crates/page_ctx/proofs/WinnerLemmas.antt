-- Winning declarations are greatest, and there is one.
use Rattle.std.proofs.Common.{◌≡◌, ◌≤◌, ℕ, zero, suc, Bool, true, false, List, [], ◌∷◌, Option, None, Some, slice_get, cond, refl, sym, ◌∙◌, subst, arith}
use Rattle.std.specs.List.{fold}
use Rattle.std.proofs.lemmas.Bool.{true≢false}
use Rattle.page_ctx.specs.declared.property.PageProperty.{PageProperty}
use Rattle.style.proofs.RankingLemmas.{above-not, above-self, above-below, not-above}
use Rattle.page_ctx.specs.Weights.{ranks_of, is_above}
use Rattle.page_ctx.specs.Winners.{Declared, is_of, winning, with_declared, winner, IsWinner}
use Rattle.page_ctx.specs.Laws.{WinnersAreGreatest}

-- ---- one more declaration before the others

shift : (p : PageProperty) (x : Declared) (ds : List Declared) (place : ℕ) (d : Declared) → (is_of p x.long ≡ true → is_above x.weight d.weight ≡ false) → IsWinner p ds place d → IsWinner p (x ∷ ds) (suc place) d
shift p x ds place d first w = record { there = w.there; of_property = w.of_property; greatest = λ k e h t. high k e h t; last = λ k e h t l. low k e h t l }
  where
    high : (k : ℕ) (e : Declared) → slice_get (x ∷ ds) k ≡ Some e → is_of p e.long ≡ true → is_above e.weight d.weight ≡ false
    high zero e h t = let s : x ≡ e = cc in subst (λ (c : Declared). is_above c.weight d.weight ≡ false) s (first (subst (λ (c : Declared). is_of p c.long ≡ true) (sym s) t))
    high (suc k) e h t = w.greatest k e h t

    low : (k : ℕ) (e : Declared) → slice_get (x ∷ ds) k ≡ Some e → is_of p e.long ≡ true → is_above d.weight e.weight ≡ false → k ≤ suc place
    low zero e h t l = omega arith
    low (suc k) e h t l = let a = w.last k e h t l in omega (arith, a)

-- a best so far wins over a declaration
abbrev Loses : Option Declared → Declared → Type 0
Loses None e = ⊥
Loses (Some b) e = is_above b.weight e.weight ≡ true

-- it does not
abbrev Yields : Option Declared → Declared → Type 0
Yields None d = Unit {0}
Yields (Some b) d = is_above b.weight d.weight ≡ false

abbrev AllLose : PageProperty → Option Declared → List Declared → Type 0
AllLose p o ds = (k : ℕ) (e : Declared) → slice_get ds k ≡ Some e → is_of p e.long ≡ true → Loses o e

head_wins : (p : PageProperty) (x : Declared) (ds : List Declared) → is_of p x.long ≡ true → AllLose p (Some x) ds → IsWinner p (x ∷ ds) 0 x
head_wins p x ds is all = record { there = refl; of_property = is; greatest = λ k e h t. high k e h t; last = λ k e h t l. low k e h t l }
  where
    high : (k : ℕ) (e : Declared) → slice_get (x ∷ ds) k ≡ Some e → is_of p e.long ≡ true → is_above e.weight x.weight ≡ false
    high zero e h t = let s : x ≡ e = cc in subst (λ (c : Declared). is_above c.weight x.weight ≡ false) s (above-self (ranks_of x.weight))
    high (suc k) e h t = above-not (ranks_of x.weight) (ranks_of e.weight) (all k e h t)

    low : (k : ℕ) (e : Declared) → slice_get (x ∷ ds) k ≡ Some e → is_of p e.long ≡ true → is_above x.weight e.weight ≡ false → k ≤ 0
    low zero e h t l = omega arith
    low (suc k) e h t l = absurd (let z : is_above x.weight e.weight ≡ true = all k e h t in let w : true ≡ false = sym z ∙ l in cc)

-- what comes of a best so far and more declarations: it stays, or one of these wins
data Comes (p : PageProperty) (ds : List Declared) (o r : Option Declared) : Type 0 where
  stays : r ≡ o → AllLose p o ds → Comes p ds o r
  won : (place : ℕ) (d : Declared) → r ≡ Some d → IsWinner p ds place d → Yields o d → Comes p ds o r

all_more : (p : PageProperty) (x : Declared) (ds : List Declared) (o : Option Declared) → (is_of p x.long ≡ true → Loses o x) → AllLose p o ds → AllLose p o (x ∷ ds)
all_more p x ds o first all zero e h t = let s : x ≡ e = cc in subst (λ (c : Declared). Loses o c) s (first (subst (λ (c : Declared). is_of p c.long ≡ true) (sym s) t))
all_more p x ds o first all (suc k) e h t = all k e h t

more_other : (p : PageProperty) (x : Declared) (ds : List Declared) (o r : Option Declared) → is_of p x.long ≡ false → Comes p ds o r → Comes p (x ∷ ds) o r
more_other p x ds o r f (stays e all) = stays e (all_more p x ds o (λ t. absurd (true≢false (sym t ∙ f))) all)
more_other p x ds o r f (won place d e w y) = won (suc place) d e (shift p x ds place d (λ t. absurd (true≢false (sym t ∙ f))) w) y

more_first : (p : PageProperty) (x : Declared) (ds : List Declared) (r : Option Declared) → is_of p x.long ≡ true → Comes p ds (Some x) r → Comes p (x ∷ ds) None r
more_first p x ds r t (stays e all) = won 0 x e (head_wins p x ds t all) tt
more_first p x ds r t (won place d e w y) = won (suc place) d e (shift p x ds place d (λ s. y) w) tt

more_below : (p : PageProperty) (x b : Declared) (ds : List Declared) (r : Option Declared) → is_above b.weight x.weight ≡ true → Comes p ds (Some b) r → Comes p (x ∷ ds) (Some b) r
more_below p x b ds r h (stays e all) = stays e (all_more p x ds (Some b) (λ s. h) all)
more_below p x b ds r h (won place d e w y) = won (suc place) d e (shift p x ds place d (λ s. above-below (ranks_of b.weight) (ranks_of x.weight) (ranks_of d.weight) h y) w) y

more_over : (p : PageProperty) (x b : Declared) (ds : List Declared) (r : Option Declared) → is_of p x.long ≡ true → is_above b.weight x.weight ≡ false → Comes p ds (Some x) r → Comes p (x ∷ ds) (Some b) r
more_over p x b ds r t h (stays e all) = won 0 x e (head_wins p x ds t all) h
more_over p x b ds r t h (won place d e w y) = won (suc place) d e (shift p x ds place d (λ s. y) w) (not-above (ranks_of b.weight) (ranks_of x.weight) (ranks_of d.weight) h y)

more : (p : PageProperty) (x : Declared) (ds : List Declared) (o r : Option Declared) (v : Bool) → is_of p x.long ≡ v → Comes p ds (cond v (winning o x) o) r → Comes p (x ∷ ds) o r
more p x ds o r false f c = more_other p x ds o r f c
more p x ds None r true t c = more_first p x ds r t c
more p x ds (Some b) r true t c = by (is_above b.weight x.weight) refl c
  where
    by : (v : Bool) → is_above b.weight x.weight ≡ v → Comes p ds (cond v (Some b) (Some x)) r → Comes p (x ∷ ds) (Some b) r
    by true h c = more_below p x b ds r h c
    by false h c = more_over p x b ds r t h c

comes : (p : PageProperty) (ds : List Declared) (o : Option Declared) → Comes p ds o (fold (with_declared p) o ds)
comes p [] o = stays refl (λ k e h t. cc)
comes p (x ∷ ds) o = more p x ds o (fold (with_declared p) (with_declared p o x) ds) (is_of p x.long) refl (comes p ds (with_declared p o x))

-- ---- the law

found_by : (p : PageProperty) (ds : List Declared) (d : Declared) (r : Option Declared) → r ≡ Some d → Comes p ds None r → (place : ℕ) × IsWinner p ds place d
found_by p ds d r e (stays n all) = absurd (let w : None ≡ Some d = sym n ∙ e in cc)
found_by p ds d r e (won place c f w y) = let s : c ≡ d = cc in (place, subst (λ x. IsWinner p ds place x) s w)

none_by : (p : PageProperty) (ds : List Declared) (r : Option Declared) → r ≡ None → Comes p ds None r → (k : ℕ) (d : Declared) → slice_get ds k ≡ Some d → is_of p d.long ≡ false
none_by p ds r e (won place c f w y) k d h = absurd (let w : None ≡ Some c = sym e ∙ f in cc)
none_by p ds r e (stays n all) k d h = by (is_of p d.long) refl
  where
    by : (v : Bool) → is_of p d.long ≡ v → v ≡ false
    by true t = absurd (all k d h t)
    by false t = refl

one_by : (p : PageProperty) (ds : List Declared) (j k : ℕ) (d e : Declared) → IsWinner p ds j d → IsWinner p ds k e → (j ≡ k) × (d ≡ e)
one_by p ds j k d e v w =
    let low = v.last k e w.there w.of_property (w.greatest j d v.there v.of_property) in
    let high = w.last j d v.there v.of_property (v.greatest k e w.there w.of_property) in
    let same : j ≡ k = omega (arith, low, high) in
    let s = v.there in
    let t : slice_get ds j ≡ Some e = subst (λ i. slice_get ds i ≡ Some e) (sym same) w.there in
    (same, cc)

pub winners_are_greatest : WinnersAreGreatest
winners_are_greatest = record {
  found = λ p ds d e. found_by p ds d (winner p ds) e (comes p ds None);
  none = λ p ds e k d h. none_by p ds (winner p ds) e (comes p ds None) k d h;
  one = λ p ds j k d e v w. one_by p ds j k d e v w;
}
