-- Weights are ordered, and the specificity of a rule is the greatest one.
use Rattle.std.proofs.Common.{◌≡◌, ℕ, zero, suc, Bool, true, false, List, [], ◌∷◌, Option, None, Some, slice_get, slice_index, cond, refl, sym, ◌∙◌, ap, subst}
use Rattle.std.specs.List.{fold}
use Rattle.std.proofs.lemmas.Bool.{true≢false}
use Rattle.style.proofs.RankingLemmas.{above-not, above-self, above-trans, same-ranks, same-rank}
use Rattle.css_page.specs.declared.selectors.PageSelector.{PageSelector}
use Rattle.page_ctx.specs.Selectors.{takes}
use Rattle.page_ctx.specs.declared.classes.PageClasses.{PageClasses}
use Rattle.page_ctx.specs.declared.weight.PageWeight.{PageWeight}
use Rattle.page_ctx.specs.Weights.{ranks_of, is_above, specificity, greater, is_for_page, with_selector, greatest, IsGreatest}
use Rattle.page_ctx.specs.Laws.{GreatestIsGreatest}

-- ---- weights

abbrev made : Bool → Bool → ℕ → ℕ → PageWeight
made i n p s = record { important = i; named = n; pages = p; sides = s }

same-parts : (a b : PageWeight) → a.important ≡ b.important → a.named ≡ b.named → a.pages ≡ b.pages → a.sides ≡ b.sides → a ≡ b
same-parts a b i n p s =
    ap (λ x. made x a.named a.pages a.sides) i ∙ ap (λ x. made b.important x a.pages a.sides) n ∙ ap (λ x. made b.important b.named x a.sides) p ∙
    ap (λ x. made b.important b.named b.pages x) s

same-made : (a b : PageWeight) → ranks_of a ≡ ranks_of b → a ≡ b
same-made a b e =
    same-parts a b (same-rank a.important b.important (ap (λ l. slice_index l 0) e)) (same-rank a.named b.named (ap (λ l. slice_index l 1) e)) (ap (λ l. slice_index l 2) e)
    (ap (λ l. slice_index l 3) e)

-- two weights neither of which is above the other are one
pub same-weight : (a b : PageWeight) → is_above a b ≡ false → is_above b a ≡ false → a ≡ b
same-weight a b h g = same-made a b (same-ranks (ranks_of a) (ranks_of b) h g)

-- ---- a selector more

-- what is greatest so far, and a selector that isn't above it
abbrev Holds : Option PageWeight → PageSelector → Type 0
Holds None s = ⊥
Holds (Some w) s = is_above (specificity s) w ≡ false

abbrev Exceeds : Option PageWeight → PageSelector → Type 0
Exceeds None s = Unit {0}
Exceeds (Some w) s = is_above (specificity s) w ≡ true

abbrev AllHeld : List ℕ → PageClasses → Option PageWeight → List PageSelector → Type 0
AllHeld name c o ss = (k : ℕ) (s : PageSelector) → slice_get ss k ≡ Some s → takes s name c ≡ true → Holds o s

data Comes (name : List ℕ) (c : PageClasses) (ss : List PageSelector) (o r : Option PageWeight) : Type 0 where
  stays : r ≡ o → AllHeld name c o ss → Comes name c ss o r
  won : (place : ℕ) (s : PageSelector) → r ≡ Some (specificity s) → slice_get ss place ≡ Some s → takes s name c ≡ true → AllHeld name c (Some (specificity s)) ss → Exceeds o s → Comes name c ss o r

held_more : (name : List ℕ) (c : PageClasses) (x : PageSelector) (ss : List PageSelector) (o : Option PageWeight) → (takes x name c ≡ true → Holds o x) → AllHeld name c o ss → AllHeld name c o (x ∷ ss)
held_more name c x ss o first all zero s h t = let e : x ≡ s = cc in subst (λ (y : PageSelector). Holds o y) e (first (subst (λ (y : PageSelector). takes y name c ≡ true) (sym e) t))
held_more name c x ss o first all (suc k) s h t = all k s h t

more_other : (name : List ℕ) (c : PageClasses) (x : PageSelector) (ss : List PageSelector) (o r : Option PageWeight) → takes x name c ≡ false → Comes name c ss o r → Comes name c (x ∷ ss) o r
more_other name c x ss o r f (stays e all) = stays e (held_more name c x ss o (λ t. absurd (true≢false (sym t ∙ f))) all)
more_other name c x ss o r f (won place s e h t all y) = won (suc place) s e h t (held_more name c x ss (Some (specificity s)) (λ t. absurd (true≢false (sym t ∙ f))) all) y

more_first : (name : List ℕ) (c : PageClasses) (x : PageSelector) (ss : List PageSelector) (o r : Option PageWeight) → takes x name c ≡ true → Exceeds o x → ((s : PageSelector) → is_above (specificity s) (specificity x) ≡ true → Exceeds o s)
    → Comes name c ss (Some (specificity x)) r → Comes name c (x ∷ ss) o r
more_first name c x ss o r t over up (stays e all) = won 0 x e refl t (held_more name c x ss (Some (specificity x)) (λ t. above-self (ranks_of (specificity x))) all) over
more_first name c x ss o r t over up (won place s e h u all y) = won (suc place) s e h u (held_more name c x ss (Some (specificity s)) (λ t. above-not (ranks_of (specificity s)) (ranks_of (specificity x)) y) all) (up s y)

more_under : (name : List ℕ) (c : PageClasses) (x : PageSelector) (w : PageWeight) (ss : List PageSelector) (r : Option PageWeight) → is_above (specificity x) w ≡ false → Comes name c ss (Some w) r → Comes name c (x ∷ ss) (Some w) r
more_under name c x w ss r h (stays e all) = stays e (held_more name c x ss (Some w) (λ t. h) all)
more_under name c x w ss r h (won place s e g u all y) = won (suc place) s e g u (held_more name c x ss (Some (specificity s)) (λ t. below (is_above (specificity x) (specificity s)) refl) all) y
  where
    below : (b : Bool) → is_above (specificity x) (specificity s) ≡ b → b ≡ false
    below true k = let z : is_above (specificity x) w ≡ true = above-trans (ranks_of (specificity x)) (ranks_of (specificity s)) (ranks_of w) k y in sym z ∙ h
    below false k = refl

more : (name : List ℕ) (c : PageClasses) (x : PageSelector) (ss : List PageSelector) (o r : Option PageWeight) (v : Bool) → takes x name c ≡ v → Comes name c ss (cond v (greater o (specificity x)) o) r → Comes name c (x ∷ ss) o r
more name c x ss o r false f h = more_other name c x ss o r f h
more name c x ss None r true t h = more_first name c x ss None r t tt (λ s g. tt) h
more name c x ss (Some w) r true t h = by (is_above (specificity x) w) refl h
  where
    by : (v : Bool) → is_above (specificity x) w ≡ v → Comes name c ss (cond v (Some (specificity x)) (Some w)) r → Comes name c (x ∷ ss) (Some w) r
    by true g h = more_first name c x ss (Some w) r t g (λ s y. above-trans (ranks_of (specificity s)) (ranks_of (specificity x)) (ranks_of w) y g) h
    by false g h = more_under name c x w ss r g h

comes : (name : List ℕ) (c : PageClasses) (ss : List PageSelector) (o : Option PageWeight) → Comes name c ss o (fold (with_selector (is_for_page name c)) o ss)
comes name c [] o = stays refl (λ k s h t. cc)
comes name c (x ∷ ss) o = more name c x ss o (fold (with_selector (is_for_page name c)) (with_selector (is_for_page name c) o x) ss) (takes x name c) refl (comes name c ss (with_selector (is_for_page name c) o x))

-- ---- the law

found_by : (name : List ℕ) (c : PageClasses) (ss : List PageSelector) (w : PageWeight) (r : Option PageWeight) → r ≡ Some w → Comes name c ss None r → IsGreatest name c ss w
found_by name c ss w r e (stays n all) = absurd (let z : None ≡ Some w = sym n ∙ e in cc)
found_by name c ss w r e (won place s f h t all y) =
    let same : specificity s ≡ w = cc in
    record { place = place; selector = s; there = h; taking = t; weight = same; greatest = λ k x g u. subst (λ v. is_above (specificity x) v ≡ false) same (all k x g u) }

none_by : (name : List ℕ) (c : PageClasses) (ss : List PageSelector) (r : Option PageWeight) → r ≡ None → Comes name c ss None r → (k : ℕ) (s : PageSelector) → slice_get ss k ≡ Some s → takes s name c ≡ false
none_by name c ss r e (won place s f h t all y) k x g = absurd (let z : None ≡ Some (specificity s) = sym e ∙ f in cc)
none_by name c ss r e (stays n all) k s h = by (takes s name c) refl
  where
    by : (v : Bool) → takes s name c ≡ v → v ≡ false
    by true t = absurd (all k s h t)
    by false t = refl

one_by : (name : List ℕ) (c : PageClasses) (ss : List PageSelector) (v w : PageWeight) → IsGreatest name c ss v → IsGreatest name c ss w → v ≡ w
one_by name c ss v w g h = same-weight v w
    (subst (λ x. is_above x w ≡ false) g.weight (h.greatest g.place g.selector g.there g.taking))
    (subst (λ x. is_above x v ≡ false) h.weight (g.greatest h.place h.selector h.there h.taking))

pub greatest_is_greatest : GreatestIsGreatest
greatest_is_greatest = record {
  found = λ name c ss w e. found_by name c ss w (greatest name c ss) e (comes name c ss None);
  none = λ name c ss e k s h. none_by name c ss (greatest name c ss) e (comes name c ss None) k s h;
  one = λ name c ss v w g h. one_by name c ss v w g h;
}
