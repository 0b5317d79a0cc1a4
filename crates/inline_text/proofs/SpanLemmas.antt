-- The span of the character that ends at an offset.
use Rattle.std.proofs.Common.{◌≡◌, ◌∙◌, ℕ, zero, suc, ◌<◌, ◌≤◌, Bool, true, false, ◌&&◌, ◌||◌, nat_lt, nat_le, List, [], ◌∷◌, length, get_or, refl, sym, ap, ap₂, subst, arith}
use Rattle.std.proofs.Math.Bool.{and-false, or-false}
use Rattle.std.proofs.lemmas.Bool.Decides.{nat_tests}
use Rattle.std.specs.List.Sorted.{IsNonDecreasingBy}
use Rattle.boxes.specs.Contents.{AreSpans}
use Rattle.boxes.specs.declared.leaf.Span.{Span}
use Rattle.inline_text.specs.Places.{ends_in}

inside : (Span → Bool) → ℕ → Span → Bool
inside p at s = p s && nat_lt s.from at && nat_le at s.to

and_true : (b : Bool) → (b && true) ≡ b
and_true true = refl
and_true false = refl

-- a span that begins at an offset or after it doesn't hold the character before it, nor does one that ends before it
begins_later : (p : Span → Bool) (at : ℕ) (s : Span) → at ≤ s.from → (p s && nat_lt s.from at && nat_le at s.to) ≡ false
begins_later p at s h = let e : nat_lt s.from at ≡ false = grind (arith, nat_tests) in ap (λ b. p s && b && nat_le at s.to) e ∙ ap (λ b. b && nat_le at s.to) (and-false (p s))

ends_before : (p : Span → Bool) (at : ℕ) (s : Span) → s.to < at → (p s && nat_lt s.from at && nat_le at s.to) ≡ false
ends_before p at s h = let e : nat_le at s.to ≡ false = grind (arith, nat_tests) in ap (λ b. p s && nat_lt s.from at && b) e ∙ and-false (p s && nat_lt s.from at)

holds : (p : Span → Bool) (at : ℕ) (s : Span) → s.from < at → at ≤ s.to → (p s && nat_lt s.from at && nat_le at s.to) ≡ p s
holds p at s low high =
    let e : nat_lt s.from at ≡ true = grind (arith, nat_tests) in
    let f : nat_le at s.to ≡ true = grind (arith, nat_tests) in
    ap (λ b. p s && b && nat_le at s.to) e ∙ ap (λ b. p s && true && b) f ∙ and_true (p s && true) ∙ and_true (p s)

none_later : (p : Span → Bool) (text : List ℕ) (from at : ℕ) (spans : List Span) → AreSpans text from spans → at ≤ from → ends_in p spans at ≡ false
none_later p text from at [] are low = refl
none_later p text from at (s ∷ spans) are low = ap₂ (λ a b. a || b) (begins_later p at s (let e = are.0 in omega arith)) (none_later p text s.to at spans are.3 (let e = are.0 in let o = are.1 in omega arith))

-- the first span that ends at an offset or after it holds the character before it, if it begins before it
pub first_holds : (p : Span → Bool) (text : List ℕ) (from at : ℕ) (spans : List Span) (n : ℕ) (d : Span) → AreSpans text from spans → ((k : ℕ) → k < n → (get_or spans k d).to < at) → n < length spans → at ≤ (get_or spans n d).to → (get_or spans n d).from < at →
    ends_in p spans at ≡ p (get_or spans n d)
first_holds p text from at [] n d are before within high low = absurd (omega (arith, within))
first_holds p text from at (s ∷ spans) zero d are before within high low = ap₂ (λ a b. a || b) (holds p at s low high) (none_later p text s.to at spans are.3 high) ∙ or-false (p s)
first_holds p text from at (s ∷ spans) (suc n) d are before within high low =
    ap₂ (λ a b. a || b) (ends_before p at s (before 0 (omega arith))) (first_holds p text s.to at spans n d are.3 (λ k h. before (suc k) (omega (arith, h))) (omega (arith, within)) high low)

-- else none does
pub none_holds : (p : Span → Bool) (text : List ℕ) (from at : ℕ) (spans : List Span) (n : ℕ) (d : Span) → AreSpans text from spans → ((k : ℕ) → k < n → k < length spans → (get_or spans k d).to < at) → (n < length spans → at ≤ (get_or spans n d).from) →
    ends_in p spans at ≡ false
none_holds p text from at [] n d are before later = refl
none_holds p text from at (s ∷ spans) zero d are before later = none_later p text from at (s ∷ spans) are (let l = later (omega arith) in let e = are.0 in omega (arith, l, e))
none_holds p text from at (s ∷ spans) (suc n) d are before later =
    ap₂ (λ a b. a || b) (ends_before p at s (before 0 (omega arith) (omega arith))) (none_holds p text s.to at spans n d are.3 (λ k h l. before (suc k) (omega (arith, h)) (omega (arith, l))) (λ h. later (omega (arith, h))))

ends_above : (text : List ℕ) (from : ℕ) (spans : List Span) (k : ℕ) (d : Span) → AreSpans text from spans → k < length spans → from ≤ (get_or spans k d).to
ends_above text from [] k d are within = absurd (omega (arith, within))
ends_above text from (s ∷ spans) zero d are within = let e = are.0 in let o = are.1 in omega (arith, e, o)
ends_above text from (s ∷ spans) (suc k) d are within = let e = are.0 in let o = are.1 in let h = ends_above text s.to spans k d are.3 (omega (arith, within)) in omega (arith, e, o, h)

-- the ends of spans never fall
pub ends_rise : (text : List ℕ) (from : ℕ) (spans : List Span) → AreSpans text from spans → IsNonDecreasingBy (λ (s : Span). s.to) spans
ends_rise text from [] are i j d low within = absurd (omega (arith, within))
ends_rise text from (s ∷ spans) are zero zero d low within = omega arith
ends_rise text from (s ∷ spans) are zero (suc j) d low within = ends_above text s.to spans j d are.3 (omega (arith, within))
ends_rise text from (s ∷ spans) are (suc i) zero d low within = absurd (omega (arith, low))
ends_rise text from (s ∷ spans) are (suc i) (suc j) d low within = ends_rise text s.to spans are.3 i j d (omega (arith, low)) (omega (arith, within))

-- the same of a span that was looked up
pub held : (p : Span → Bool) (text : List ℕ) (at : ℕ) (spans : List Span) (n : ℕ) (d s : Span) → AreSpans text 0 spans → ((k : ℕ) (d : Span) → k < n → (get_or spans k d).to < at) → n < length spans → ((k : ℕ) (d : Span) → n ≤ k → k < length spans → at ≤ (get_or spans k d).to) →
    s ≡ get_or spans n d → s.from < at → ends_in p spans at ≡ p s
held p text at spans n d s are before within after e low =
    let low' : (get_or spans n d).from < at = subst (λ (t : Span). t.from < at) e low in
    first_holds p text 0 at spans n d are (λ k h. before k d h) within (after n d (omega arith) within) low' ∙ ap p (sym e)

pub not_held : (p : Span → Bool) (text : List ℕ) (at : ℕ) (spans : List Span) (n : ℕ) (d s : Span) → AreSpans text 0 spans → ((k : ℕ) (d : Span) → k < n → (get_or spans k d).to < at) →
    s ≡ get_or spans n d → at ≤ s.from → ends_in p spans at ≡ false
not_held p text at spans n d s are before e low = none_holds p text 0 at spans n d are (λ k h l. before k d h) (λ h. subst (λ (t : Span). at ≤ t.from) e low)

pub past_all : (p : Span → Bool) (text : List ℕ) (at : ℕ) (spans : List Span) (n : ℕ) → AreSpans text 0 spans → ((k : ℕ) (d : Span) → k < n → (get_or spans k d).to < at) → nat_lt n (length spans) ≡ false → ends_in p spans at ≡ false
past_all p text at [] n are before high = refl
past_all p text at (s ∷ spans) n are before high = none_holds p text 0 at (s ∷ spans) n s are (λ k h l. before k s h) (λ h. absurd (let t : n < length (s ∷ spans) = h in grind (arith, nat_tests)))
