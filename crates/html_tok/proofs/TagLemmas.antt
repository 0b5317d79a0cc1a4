-- Attributes one after another, and where a text may be cut round them.
use Rattle.std.proofs.Common.{◌≡◌, inl, inr, ℕ, zero, suc, ◌+◌, ◌-◌, ◌<◌, ◌≤◌, Bool, true, false, not, List, [], ◌∷◌, Option, None, Some, option_map, length, take, drop, get_or, eqb, refl, ap, sym, ◌∙◌, arith, subst, length-drop, drop-drop, ◌==◌}
use Rattle.std.proofs.Math.Seq.{take-length}
use Rattle.std.specs.List.{position_or_len}
use Rattle.std.specs.Str.{IsCharBoundary, IsUtf8}
use Rattle.std.proofs.lemmas.Str.{IsCharBoundary-end, IsCharBoundary-before_ascii, IsCharBoundary-after_ascii}
use Rattle.std.proofs.lemmas.Bool.{cases_Bool, cases_lt, false_from_ne_true}
use Rattle.std.proofs.lemmas.Bool.Decides.{nat_tests}
use Rattle.memchr.specs.Find.{Nowhere, Passes, is_byte, NoneBefore}
use Rattle.bk_num.specs.Chars.{is_quote}
use Rattle.html_tok.specs.Classes.{is_between, ends_attribute_name, from_first}
use Rattle.html_tok.specs.Tags.{value_at, value_after, past_space, name_at, attribute_at, after_attribute, attribute_len, end_after, attributes_after, ends_attributes}
use Rattle.html_tok.proofs.Places.{place-cons, place-le, place-passes, place-is}

-- the end of a name
pub record IsNameLen (bs : List ℕ) (n : ℕ) : Type 0 where
  pub boundary : IsCharBoundary bs n
  pub text : take n bs ≡ (name_at bs).text
  pub rest : drop n bs ≡ (name_at bs).rest

-- the place of the byte that stops the name, one byte on
later-boundary : (b : ℕ) (bs : List ℕ) (n : ℕ) → n ≡ position_or_len ends_attribute_name bs → IsCharBoundary (b ∷ bs) (1 + n)
later-boundary b bs n e = elim (cases_lt n (length bs)) [
  | inl l ↦ let s : 1 + n ≡ suc n = omega arith in
      let ascii : get_or bs n 0 < 128 = small (get_or bs n 0) (subst (λ k. ends_attribute_name (get_or bs k 0) ≡ true) (sym e) (place-passes ends_attribute_name bs (rw e at l))) in
      rw s (IsCharBoundary-before_ascii (b ∷ bs) (suc n) (omega arith) ascii)
  | inr g ↦ let h = place-le ends_attribute_name bs in let z : 1 + n ≡ length {A = ℕ} (b ∷ bs) = omega arith in rw z (IsCharBoundary-end (b ∷ bs))
]
  where
    small : (c : ℕ) → ends_attribute_name c ≡ true → c < 128
    small c h = grind (arith, nat_tests)

pub name-len : (bs : List ℕ) (n : ℕ) → 0 < length bs → n ≡ position_or_len ends_attribute_name (drop 1 bs) → IsNameLen bs (1 + n)
unfolding name_at
name-len [] n h e = absurd (omega arith)
name-len (b ∷ bs) n h e = let s : 1 + n ≡ suc n = omega arith in record {
  boundary = later-boundary b bs n e;
  text = rw (s, e) refl;
  rest = rw (s, e) refl;
}

-- the place of a quote
module _ (q : ℕ) (bs : List ℕ) where
  pub quote-at : (at : ℕ) → NoneBefore (Passes (is_byte q) bs) 0 (length bs) at → Passes (is_byte q) bs at → position_or_len (λ b. b == q) bs ≡ at
  quote-at at first here = place-is (λ b. b == q) bs at (let h = first.high in omega arith) (λ k l. false_from_ne_true _ (first.before k (omega arith) l)) (λ l. here)

  pub quote-none : Nowhere (Passes (is_byte q) bs) 0 (length bs) → position_or_len (λ b. b == q) bs ≡ length bs
  quote-none none = place-is (λ b. b == q) bs (length bs) (omega arith) (λ k l. false_from_ne_true _ (none k (omega arith) l)) (λ l. absurd (omega arith))

-- a text may be cut after an ASCII character at its start
pub after-first : (bs : List ℕ) (b : ℕ) → IsUtf8 bs → b ≡ get_or bs 0 0 → 0 < b → b < 128 → IsCharBoundary bs 1
after-first [] b u e l m = absurd (omega arith)
after-first (a ∷ bs) b u e l m = IsCharBoundary-after_ascii (a ∷ bs) 0 u (omega arith) (omega arith)

pub quote-small : (b : ℕ) → is_quote b ≡ true → (0 < b) × (b < 128)
quote-small b h = (grind (arith, nat_tests), grind (arith, nat_tests))

-- the second text is the end of the first
pub record IsEnd (bs rest : List ℕ) : Type 0 where
  pub at : ℕ
  pub within : at ≤ length bs
  pub is : rest ≡ drop at bs

drop-all : (n : ℕ) (bs : List ℕ) → length bs ≤ n → drop n bs ≡ drop (length bs) bs
drop-all zero [] h = refl
drop-all zero (b ∷ bs) h = absurd (omega arith)
drop-all (suc n) [] h = refl
drop-all (suc n) (b ∷ bs) h = drop-all n bs (omega arith)

pub end-drop : (n : ℕ) (bs : List ℕ) → IsEnd bs (drop n bs)
end-drop n bs = elim (cases_lt n (length bs)) [
  | inl l ↦ record { at = n; within = omega arith; is = refl }
  | inr g ↦ record { at = length bs; within = omega arith; is = drop-all n bs g }
]

pub end-trans : (top bs cs : List ℕ) → IsEnd top bs → IsEnd bs cs → IsEnd top cs
end-trans top bs cs h g =
    let l : length bs ≡ length top - h.at = rw h.is (length-drop h.at top) in
    record {
      at = h.at + g.at;
      within = (let w = h.within in let v = g.within in omega arith);
      is = g.is ∙ ap (drop g.at) h.is ∙ drop-drop g.at h.at top;
    }

value-end : (bs : List ℕ) → IsEnd bs (value_at bs).rest
unfolding value_at
value-end bs = elim (cases_Bool (is_quote (get_or bs 0 0))) [
  | inl t ↦ rw t (end-trans bs (drop 1 bs) _ (end-drop 1 bs) (end-drop _ (drop 1 bs)))
  | inr f ↦ rw f (end-drop _ bs)
]

after-end : (bs : List ℕ) → IsEnd bs (value_after bs).rest
unfolding value_after
after-end bs = elim (cases_Bool (eqb (get_or (past_space bs) 0 0) 61)) [
  | inl t ↦ rw t (end-trans bs (past_space bs) _ (end-drop _ bs) (end-trans (past_space bs) (drop 1 (past_space bs)) _ (end-drop 1 (past_space bs)) (end-trans (drop 1 (past_space bs)) (past_space (drop 1 (past_space bs))) _ (end-drop _ (drop 1 (past_space bs))) (value-end (past_space (drop 1 (past_space bs)))))))
  | inr f ↦ rw f (end-drop 0 bs)
]

-- what follows an attribute is the end of what follows its first byte
attribute-end : (b : ℕ) (bs : List ℕ) → IsEnd bs (after_attribute (b ∷ bs))
unfolding name_at
attribute-end b bs = end-trans bs (from_first ends_attribute_name bs) _ (end-drop _ bs) (after-end (from_first ends_attribute_name bs))

pub attribute-shorter : (bs : List ℕ) → 0 < length bs → length (after_attribute bs) < length bs
attribute-shorter [] h = absurd (omega arith)
attribute-shorter (b ∷ bs) h = let e = attribute-end b bs in let l : length (after_attribute (b ∷ bs)) ≡ length bs - e.at = ap length e.is ∙ length-drop e.at bs in omega arith

end-len : (bs rest : List ℕ) → IsEnd bs rest → drop (length bs - length rest) bs ≡ rest
end-len bs rest e =
    let l : length rest ≡ length bs - e.at = ap length e.is ∙ length-drop e.at bs in
    let n : length bs - length rest ≡ e.at = (let w = e.within in omega arith) in
    ap (λ k. drop k bs) n ∙ sym e.is

rest-len : (b : ℕ) (bs : List ℕ) → attribute_len (b ∷ bs) - 1 ≡ length bs - length (after_attribute (b ∷ bs))
unfolding attribute_len
rest-len b bs = omega arith

-- what follows an attribute, by its length
past-attribute : (b : ℕ) (bs : List ℕ) → drop (attribute_len (b ∷ bs) - 1) bs ≡ after_attribute (b ∷ bs)
past-attribute b bs = ap (λ n. drop n bs) (rest-len b bs) ∙ end-len bs (after_attribute (b ∷ bs)) (attribute-end b bs)

not_between : ℕ → Bool
not_between b = not (is_between b)

from-past : (p : ℕ → Bool) (b : ℕ) (bs : List ℕ) → p b ≡ false → from_first p (b ∷ bs) ≡ from_first p bs
from-past p b bs f = ap (λ n. drop n (b ∷ bs)) (let e : position_or_len p (b ∷ bs) ≡ suc (position_or_len p bs) = place-cons p b bs ∙ rw f (omega arith) in e)

from-here : (p : ℕ → Bool) (b : ℕ) (bs : List ℕ) → p b ≡ true → from_first p (b ∷ bs) ≡ b ∷ bs
from-here p b bs t = ap (λ n. drop n (b ∷ bs)) (let e : position_or_len p (b ∷ bs) ≡ 0 = place-cons p b bs ∙ rw t refl in e)

-- ---- the attributes

listed-after : (n : ℕ) (bs : List ℕ) → attributes_after n bs ≡ attributes_after 0 (drop n bs)
unfolding attributes_after
listed-after zero bs = refl
listed-after (suc n) [] = refl
listed-after (suc n) (b ∷ bs) = listed-after n bs

listed-past : (b : ℕ) (bs : List ℕ) → is_between b ≡ true → attributes_after 0 (b ∷ bs) ≡ attributes_after 0 bs
unfolding attributes_after
listed-past b bs t = rw t refl

pub listed-between : (bs : List ℕ) → attributes_after 0 bs ≡ attributes_after 0 (from_first (λ b. not (is_between b)) bs)
listed-between [] = refl
listed-between (b ∷ bs) = elim (cases_Bool (is_between b)) [
  | inl t ↦ listed-past b bs t ∙ listed-between bs ∙ ap (attributes_after 0) (sym (from-past (λ b. not (is_between b)) b bs (ap not t)))
  | inr f ↦ ap (attributes_after 0) (sym (from-here (λ b. not (is_between b)) b bs (ap not f)))
]

pub listed-end : (bs : List ℕ) → is_between (get_or bs 0 0) ≡ false → ends_attributes bs ≡ true → attributes_after 0 bs ≡ []
unfolding attributes_after
listed-end [] n h = refl
listed-end (b ∷ bs) n h = rw (n, h) refl

pub listed-step : (bs : List ℕ) → is_between (get_or bs 0 0) ≡ false → ends_attributes bs ≡ false → attributes_after 0 bs ≡ attribute_at bs ∷ attributes_after 0 (after_attribute bs)
unfolding attributes_after
listed-step [] n h = cc
listed-step (b ∷ bs) n h = rw (n, h) (ap (λ rest. attribute_at (b ∷ bs) ∷ rest) (listed-after (attribute_len (b ∷ bs) - 1) bs ∙ ap (attributes_after 0) (past-attribute b bs)))

-- ---- the end of the tag

abbrev pub shifted : ℕ → Option ℕ → Option ℕ
shifted n o = option_map (λ k. k + n) o

shifted-twice : (m n : ℕ) (o : Option ℕ) → shifted m (shifted n o) ≡ shifted (n + m) o
shifted-twice m n None = refl
shifted-twice m n (Some k) = ap Some (let e : (k + n) + m ≡ k + (n + m) = omega arith in e)

shifted-zero : (o : Option ℕ) → o ≡ shifted 0 o
shifted-zero None = refl
shifted-zero (Some k) = ap Some (let e : k ≡ k + 0 = omega arith in e)

ends-after : (n : ℕ) (bs : List ℕ) → n ≤ length bs → end_after n bs ≡ shifted n (end_after 0 (drop n bs))
unfolding end_after
ends-after zero bs h = shifted-zero (end_after 0 bs)
ends-after (suc n) [] h = absurd (omega arith)
ends-after (suc n) (b ∷ bs) h = ap (shifted 1) (ends-after n bs (omega arith)) ∙ shifted-twice 1 n (end_after 0 (drop n bs)) ∙ ap (λ k. shifted k (end_after 0 (drop n bs))) (let e : n + 1 ≡ suc n = omega arith in e)

ends-self : (bs : List ℕ) → end_after 0 bs ≡ shifted (length bs - length bs) (end_after 0 bs)
ends-self bs = shifted-zero (end_after 0 bs) ∙ ap (λ k. shifted k (end_after 0 bs)) (let e : 0 ≡ length bs - length bs = omega arith in e)

ends-next : (b : ℕ) (bs : List ℕ) → is_between b ≡ true → end_after 0 (b ∷ bs) ≡ shifted 1 (end_after 0 bs)
unfolding end_after
ends-next b bs t = rw t refl

pub from-le : (p : ℕ → Bool) (bs : List ℕ) → length (from_first p bs) ≤ length bs
from-le p bs = let e = length-drop (position_or_len p bs) bs in omega arith

-- what stands between attributes is passed
ends-round : (b : ℕ) (bs rest : List ℕ) → is_between b ≡ true → length rest ≤ length bs → end_after 0 bs ≡ shifted (length bs - length rest) (end_after 0 rest) → end_after 0 (b ∷ bs) ≡ shifted (length {A = ℕ} (b ∷ bs) - length rest) (end_after 0 rest)
ends-round b bs rest t l e = ends-next b bs t ∙ ap (shifted 1) e ∙ shifted-twice 1 (length bs - length rest) (end_after 0 rest) ∙ ap (λ k. shifted k (end_after 0 rest)) (let e : (length bs - length rest) + 1 ≡ suc (length bs) - length rest = omega arith in e)

pub ends-between : (bs : List ℕ) → end_after 0 bs ≡ shifted (length bs - length (from_first (λ b. not (is_between b)) bs)) (end_after 0 (from_first (λ b. not (is_between b)) bs))
ends-between [] = ends-self []
ends-between (b ∷ bs) = elim (cases_Bool (is_between b)) [
  | inl t ↦ subst (λ (r : List ℕ). end_after 0 (b ∷ bs) ≡ shifted (length {A = ℕ} (b ∷ bs) - length r) (end_after 0 r)) (sym (from-past (λ b. not (is_between b)) b bs (ap not t)))
      (ends-round b bs (from_first (λ b. not (is_between b)) bs) t (from-le (λ b. not (is_between b)) bs) (ends-between bs))
  | inr f ↦ subst (λ (r : List ℕ). end_after 0 (b ∷ bs) ≡ shifted (length {A = ℕ} (b ∷ bs) - length r) (end_after 0 r)) (sym (from-here (λ b. not (is_between b)) b bs (ap not f))) (ends-self (b ∷ bs))
]

pub ends-here : (bs : List ℕ) → is_between (get_or bs 0 0) ≡ false → ends_attributes bs ≡ true → 0 < length bs → end_after 0 bs ≡ Some 0
unfolding end_after
ends-here [] n h l = absurd (omega arith)
ends-here (b ∷ bs) n h l = rw (n, h) refl

ends-past : (b : ℕ) (bs : List ℕ) → shifted 1 (end_after (attribute_len (b ∷ bs) - 1) bs) ≡ shifted (length {A = ℕ} (b ∷ bs) - length (after_attribute (b ∷ bs))) (end_after 0 (after_attribute (b ∷ bs)))
ends-past b bs =
    let m : attribute_len (b ∷ bs) - 1 ≡ length bs - length (after_attribute (b ∷ bs)) = rest-len b bs in
    let e = attribute-end b bs in
    let l : length (after_attribute (b ∷ bs)) ≡ length bs - e.at = ap length e.is ∙ length-drop e.at bs in
    let k : (attribute_len (b ∷ bs) - 1) + 1 ≡ length {A = ℕ} (b ∷ bs) - length (after_attribute (b ∷ bs)) = omega arith in
    ap (shifted 1) (ends-after (attribute_len (b ∷ bs) - 1) bs (omega arith)) ∙ shifted-twice 1 (attribute_len (b ∷ bs) - 1) (end_after 0 (drop (attribute_len (b ∷ bs) - 1) bs)) ∙ ap (λ j. shifted j (end_after 0 (drop (attribute_len (b ∷ bs) - 1) bs))) k ∙ ap (λ r. shifted (length {A = ℕ} (b ∷ bs) - length (after_attribute (b ∷ bs))) (end_after 0 r)) (past-attribute b bs)

pub ends-step : (bs : List ℕ) → is_between (get_or bs 0 0) ≡ false → ends_attributes bs ≡ false → end_after 0 bs ≡ shifted (length bs - length (after_attribute bs)) (end_after 0 (after_attribute bs))
unfolding end_after
ends-step [] n h = cc
ends-step (b ∷ bs) n h = rw (n, h) (ends-past b bs)

-- one more part of the tag was passed
pub ends-on : (text rest next : List ℕ) (found : Option ℕ) → length rest ≤ length text → length next ≤ length rest → found ≡ shifted (length text - length rest) (end_after 0 rest) → end_after 0 rest ≡ shifted (length rest - length next) (end_after 0 next) → found ≡ shifted (length text - length next) (end_after 0 next)
ends-on text rest next found h g e f = e ∙ ap (shifted (length text - length rest)) f ∙ shifted-twice (length text - length rest) (length rest - length next) (end_after 0 next) ∙ ap (λ n. shifted n (end_after 0 next)) (let k : (length rest - length next) + (length text - length rest) ≡ length text - length next = omega arith in k)

-- the first byte that may begin an attribute
pub begun : (bs : List ℕ) → is_between (get_or (from_first (λ b. not (is_between b)) bs) 0 0) ≡ false
begun [] = refl
begun (b ∷ bs) = elim (cases_Bool (is_between b)) [
  | inl t ↦ subst (λ (r : List ℕ). is_between (get_or r 0 0) ≡ false) (sym (from-past (λ b. not (is_between b)) b bs (ap not t))) (begun bs)
  | inr f ↦ subst (λ (r : List ℕ). is_between (get_or r 0 0) ≡ false) (sym (from-here (λ b. not (is_between b)) b bs (ap not f))) f
]

pub all-before : (bs : List ℕ) (n : ℕ) → n ≡ length bs → bs ≡ take n bs
all-before bs n e = sym (ap (λ k. take k bs) e ∙ take-length bs)

pub none-after : (bs : List ℕ) (n : ℕ) → n ≡ length bs → [] ≡ drop (n + 1) bs
none-after bs n e = sym (ap (λ k. drop (k + 1) bs) e ∙ past bs)
  where
    past : (bs : List ℕ) → drop (length bs + 1) bs ≡ []
    past [] = refl
    past (b ∷ bs) = ap (λ k. drop k (b ∷ bs)) (let e : suc (length bs) + 1 ≡ suc (length bs + 1) = omega arith in e) ∙ past bs

pub ends-some : (bs : List ℕ) → ends_attributes bs ≡ false → 0 < length bs
ends-some [] h = cc
ends-some (b ∷ bs) h = omega arith

pub ends-none : (bs : List ℕ) → length bs ≡ 0 → end_after 0 bs ≡ None
unfolding end_after
ends-none [] h = refl
ends-none (b ∷ bs) h = absurd (omega arith)
