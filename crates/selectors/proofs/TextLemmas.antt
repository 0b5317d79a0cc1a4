-- Texts, a byte at a time.
use Rattle.std.proofs.Common.{◌≡◌, ℕ, zero, suc, ◌+◌, ◌<◌, ◌≤◌, Bool, true, false, ◌&&◌, ◌||◌, List, [], ◌∷◌, take, drop, length, get_or, inl, inr, refl, arith, ap, sym, ◌∙◌, Option, Some, None}
use Rattle.std.specs.Prelude.{nat_eq, nat_le, is_some, slice_index}
use Rattle.std.specs.List.{starts_with}
use Rattle.std.specs.Str.{bytes_eq}
use Rattle.std.proofs.lemmas.Bool.{and_parts, and_from, le-leb, or_cases, or_left, or_right}
use Rattle.std.proofs.lemmas.Slice.Eq.{bytes_eq-Decides}
use Rattle.memchr.specs.Find.{OccursAt, FindsNeedle}
use Rattle.memchr.proofs.lemmas.MatchLemmas.{occurs_at-true, OccursAt-true}
use Rattle.css_tok.specs.Lengths.{is_blank}
use Rattle.selectors.specs.Fits.{begins_word, has_word_from, occurs}

pub word_step : (start : Bool) (v x : List ℕ) (at : ℕ) → at < length x → has_word_from start v (drop at x) ≡ ((start && begins_word v (drop at x)) || has_word_from (is_blank (get_or x at 0)) v (drop (at + 1) x))
unfolding has_word_from
word_step start v [] at within = absurd (omega arith)
word_step start v (b ∷ bs) zero within = refl
word_step start v (b ∷ bs) (suc at) within = let e : suc at + 1 ≡ suc (at + 1) = omega arith in rw e (word_step start v bs at (omega arith))

pub word_end : (start : Bool) (v x : List ℕ) (at : ℕ) → length x ≤ at → has_word_from start v (drop at x) ≡ false
unfolding has_word_from
word_end start v [] zero past = refl
word_end start v [] (suc at) past = refl
word_end start v (b ∷ bs) zero past = absurd (omega arith)
word_end start v (b ∷ bs) (suc at) past = word_end start v bs at (omega arith)

-- ---- a part of a text

occurs-here : (v x : List ℕ) (k : ℕ) → 0 < length v → OccursAt x v k → occurs v x ≡ true
unfolding occurs
occurs-here v [] k some at = absurd (omega (arith, some, at.fits))
occurs-here v (b ∷ bs) zero some at =
    let part : bytes_eq (take (length v) (b ∷ bs)) v ≡ true = (and_parts (nat_le (0 + length v) (length (b ∷ bs))) (bytes_eq (take (length v) (drop 0 (b ∷ bs))) v) (occurs_at-true (b ∷ bs) v 0 at)).1 in
    or_left (starts_with nat_eq (b ∷ bs) v) (occurs v bs) ((bytes_eq-Decides v (take (length v) (b ∷ bs))).1 (sym ((bytes_eq-Decides (take (length v) (b ∷ bs)) v).0 part)))
occurs-here v (b ∷ bs) (suc k) some at =
    or_right (starts_with nat_eq (b ∷ bs) v) (occurs v bs) (occurs-here v bs k some (record {
      fits = omega (arith, at.fits);
      reads = λ j lt. let e : suc k + j ≡ suc (k + j) = omega arith in ap (slice_index (b ∷ bs)) (sym e) ∙ at.reads j lt;
    }))

occurs-somewhere : (v x : List ℕ) → occurs v x ≡ true → (k : ℕ) × OccursAt x v k
unfolding occurs
occurs-somewhere v [] e = absurd (cc)
occurs-somewhere v (b ∷ bs) e = elim (or_cases (starts_with nat_eq (b ∷ bs) v) (occurs v bs) e) [
  | inl here ↦
      (let is : v ≡ take (length v) (b ∷ bs) = (bytes_eq-Decides v (take (length v) (b ∷ bs))).0 here in
      let within : length v ≤ length (b ∷ bs) = taken-within (length v) (b ∷ bs) (ap length is) in
      (0, OccursAt-true (b ∷ bs) v 0 (and_from (nat_le (0 + length v) (length (b ∷ bs))) (bytes_eq (take (length v) (drop 0 (b ∷ bs))) v) (le-leb (0 + length v) (length (b ∷ bs)) (omega (arith, within))) ((bytes_eq-Decides (take (length v) (b ∷ bs)) v).1 (sym is)))))
  | inr later ↦
      (let h = occurs-somewhere v bs later in (
        suc h.0,
        record {
          fits = omega (arith, h.1.fits);
          reads = λ j lt. let f : suc h.0 + j ≡ suc (h.0 + j) = omega arith in ap (slice_index (b ∷ bs)) f ∙ h.1.reads j lt;
        },
      ))
]
  where
    taken-within : (n : ℕ) (xs : List ℕ) → n ≡ length (take n xs) → n ≤ length xs
    taken-within zero xs f = omega arith
    taken-within (suc n) [] f = omega (arith, f)
    taken-within (suc n) (y ∷ ys) f = let g = taken-within n ys (omega (arith, f)) in omega (arith, g)

-- a part occurs where a search finds it
pub occurs-found : (v x : List ℕ) (r : Option ℕ) → 0 < length v → FindsNeedle x v 0 r → is_some r ≡ occurs v x
occurs-found v x (Some k) some found = sym (occurs-here v x k some found.1)
occurs-found v x None some nowhere = by (occurs v x) refl
  where
    by : (b : Bool) → occurs v x ≡ b → false ≡ occurs v x
    by false e = sym e
    by true e = let h = occurs-somewhere v x e in absurd (nowhere h.0 (omega arith) (omega (arith, h.1.fits)) h.1)

-- a test that was made
pub ended : (a b r : Bool) → r ≡ a → r ≡ true → (a || b) ≡ true
ended a b r is holds = let e : a ≡ true = sym is ∙ holds in rw e

pub passed : (a b r : Bool) → r ≡ a → r ≡ false → (a || b) ≡ b
passed a b r is lacks = let e : a ≡ false = sym is ∙ lacks in rw e
