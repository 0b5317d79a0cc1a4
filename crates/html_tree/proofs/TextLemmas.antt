-- The normalized text, and the text with its references read, piece by piece.
use Rattle.std.proofs.Common.{◌≡◌, ◌⊎◌, inl, inr, ℕ, zero, suc, ◌+◌, ◌-◌, ◌<◌, ◌≤◌, Bool, true, false, not, List, [], ◌∷◌, ◌++◌, Option, None, Some, is_some, length, take, drop, get_or, eqb, nat_eq, ◌==◌, ◌&&◌, ◌||◌, refl, ap, sym, ◌∙◌, arith, subst, append_assoc, append-nil, length-drop, encode_utf8}
use Rattle.std.specs.List.{starts_with, list_all}
use Rattle.std.specs.Char.{is_digit, to_ascii_lowercase}
use Rattle.std.specs.Str.{IsCharBoundary, IsUtf8}
use Rattle.std.proofs.lemmas.Str.{IsCharBoundary-after_ascii}
use Rattle.std.proofs.lemmas.List.{get_or-drop}
use Rattle.std.proofs.Math.Seq.{take-length}
use Rattle.std.proofs.lemmas.Bool.{cases_Bool, cases_eq, both_ways, false_from_ne_true, eqb-true, and_parts, not-true}
use Rattle.std.proofs.lemmas.Bool.Decides.{nat_tests}
use Rattle.memchr.specs.Find.{Nowhere, Passes, IsFirstByte, is_byte, is_byte2}
use Rattle.html_tok.proofs.Places.{place-le, place-fails}
use Rattle.html_tree.specs.Texts.{normalized, normalized_byte, digits_len, closing_len, numeric, named, named_references, reference_at, referred_after, name_of}
use Rattle.html_tree.specs.Words.{stays}

-- where none is found there is none
pub found-none : (test : ℕ → Bool) (bs : List ℕ) (o : Option ℕ) → is_some o ≡ false → IsFirstByte test bs o → Nowhere (Passes test bs) 0 (length bs)
found-none test bs None e f = f
found-none test bs (Some k) e f = cc

-- ---- mending

plain-byte : (b next : ℕ) → is_byte2 13 0 b ≡ false → normalized_byte b next ≡ b ∷ []
plain-byte b next h = elim (cases_eq b 13) [
  | inl e ↦ absurd (both_ways _ h (rw e refl))
  | inr n ↦ elim (cases_eq b 0) [ inl e ↦ absurd (both_ways _ h (rw e refl)) | inr m ↦ grind (arith, nat_tests) ]
]

pub normalized-plain : (n : ℕ) (bs : List ℕ) → n ≤ length bs → ((k : ℕ) → k < n → is_byte2 13 0 (get_or bs k 0) ≡ false) → normalized bs ≡ take n bs ++ normalized (drop n bs)
unfolding normalized
normalized-plain zero bs h none = refl
normalized-plain (suc n) [] h none = absurd (omega arith)
normalized-plain (suc n) (b ∷ bs) h none = rw (plain-byte b (get_or bs 0 0) (none 0 (omega arith))) (ap (λ r. b ∷ r) (normalized-plain n bs (omega arith) (λ k l. none (suc k) (omega arith))))

normalized-step : (bs : List ℕ) → 0 < length bs → normalized bs ≡ normalized_byte (get_or bs 0 0) (get_or bs 1 0) ++ normalized (drop 1 bs)
unfolding normalized
normalized-step [] h = absurd (omega arith)
normalized-step (b ∷ bs) h = refl

normalized-none : (bs : List ℕ) → length bs ≡ 0 → normalized bs ≡ []
unfolding normalized
normalized-none [] h = refl
normalized-none (b ∷ bs) h = absurd (omega arith)

module _ (rest : List ℕ) where
  pub normalize-on : (out new base : List ℕ) (at : ℕ) → at < length rest → Nowhere (Passes (is_byte2 13 0) rest) 0 at → new ≡ (out ++ take at rest) ++ normalized_byte (get_or (drop at rest) 0 0) (get_or (drop at rest) 1 0) → out ++ normalized rest ≡ base → new ++ normalized (drop 1 (drop at rest)) ≡ base
  normalize-on out new base at l none e h =
      let some : 0 < length (drop at rest) = (let d = length-drop at rest in omega arith) in
      let step : normalized rest ≡ take at rest ++ (normalized_byte (get_or (drop at rest) 0 0) (get_or (drop at rest) 1 0) ++ normalized (drop 1 (drop at rest))) =
      normalized-plain at rest (omega arith) (λ k m. false_from_ne_true _ (none k (omega arith) m)) ∙ ap (λ r. take at rest ++ r) (normalized-step (drop at rest) some) in
      rw e (append_assoc (out ++ take at rest) (normalized_byte (get_or (drop at rest) 0 0) (get_or (drop at rest) 1 0)) (normalized (drop 1 (drop at rest))) ∙ append_assoc out (take at rest) (normalized_byte (get_or (drop at rest) 0 0) (get_or (drop at rest) 1 0) ++ normalized (drop 1 (drop at rest))) ∙ ap (λ r. out ++ r) (sym step) ∙ h)

  pub normalize-end : (out new base : List ℕ) → Nowhere (Passes (is_byte2 13 0) rest) 0 (length rest) → new ≡ out ++ rest → out ++ normalized rest ≡ base → new ≡ base
  normalize-end out new base none e h =
      let all : normalized rest ≡ rest = normalized-plain (length rest) rest (omega arith) (λ k m. false_from_ne_true _ (none k (omega arith) m)) ∙ ap (λ r. take (length rest) rest ++ r) (normalized-none (drop (length rest) rest) (let d = length-drop (length rest) rest in omega arith)) ∙ append-nil (take (length rest) rest) ∙ take-length rest in
      e ∙ ap (λ r. out ++ r) (sym all) ∙ h

  -- a text with nothing to mend is its own
  pub normalized-same : Nowhere (Passes (is_byte2 13 0) rest) 0 (length rest) → rest ≡ normalized rest
  normalized-same none = normalize-end [] rest (normalized rest) none refl refl

-- a name whose bytes stay is its own
pub name-same : (bs : List ℕ) → list_all stays bs ≡ true → bs ≡ name_of bs
unfolding normalized
name-same [] h = refl
name-same (b ∷ bs) h =
    let t = and_parts _ _ h in
    let u = and_parts _ _ t.0 in
    let lower : to_ascii_lowercase b ≡ b = eqb-true _ _ u.0 in
    let other : is_byte2 13 0 b ≡ false = not-true _ u.1 in
    let rest = name-same bs t.1 in
    let byte = plain-byte b (get_or bs 0 0) other in
    rw byte (let e : b ∷ bs ≡ to_ascii_lowercase b ∷ name_of bs = ap (λ x. x ∷ bs) (sym lower) ∙ ap (λ l. to_ascii_lowercase b ∷ l) rest in e)

-- ---- references

-- a reference's end: at least a byte, within the text, and after an ASCII character
pub record IsRefEnd (bs : List ℕ) (n : ℕ) : Type 0 where
  pub some : 0 < n
  pub within : n ≤ length bs
  pub ascii : get_or bs (n - 1) 0 < 128

some-byte : (bs : List ℕ) (k b : ℕ) → get_or bs k 0 ≡ b → 0 < b → k < length bs
some-byte [] k b e h = absurd (omega arith)
some-byte (a ∷ bs) zero b e h = omega arith
some-byte (a ∷ bs) (suc k) b e h = let l = some-byte bs k b e h in omega arith

digit-small : (b base : ℕ) → base ≤ 16 → not (is_digit b base) ≡ false → b < 128
digit-small b base h e = grind (arith, nat_tests)

closing-cases : (bs : List ℕ) → ((closing_len bs ≡ 1) × (get_or bs 0 0 ≡ 59)) ⊎ (closing_len bs ≡ 0)
closing-cases bs = elim (cases_Bool (eqb (get_or bs 0 0) 59)) [ inl t ↦ inl (rw t refl, eqb-true _ _ t) | inr f ↦ inr (rw f refl) ]

counted-end : (bs : List ℕ) (base lead n : ℕ) → base ≤ 16 → 0 < n → n ≡ digits_len base (drop lead bs) → IsRefEnd bs (lead + n + closing_len (drop n (drop lead bs)))
counted-end bs base lead n b some e = by (closing-cases (drop n (drop lead bs)))
  where
    room : n ≤ length bs - lead
    room = let p = place-le (λ b. not (is_digit b base)) (drop lead bs) in let d = length-drop lead bs in omega (arith, e, p, d)

    by : ((closing_len (drop n (drop lead bs)) ≡ 1) × (get_or (drop n (drop lead bs)) 0 0 ≡ 59)) ⊎ (closing_len (drop n (drop lead bs)) ≡ 0) → IsRefEnd bs (lead + n + closing_len (drop n (drop lead bs)))
    by (inl (c, g)) =
        let at : get_or bs (lead + n) 0 ≡ 59 = (let s : lead + (n + 0) ≡ lead + n = omega arith in ap (λ k. get_or bs k 0) (sym s) ∙ sym (get_or-drop n (drop lead bs) 0 0 ∙ get_or-drop lead bs (n + 0) 0) ∙ g) in
        let l = some-byte bs (lead + n) 59 at (omega arith) in
        let m : lead + n + 1 - 1 ≡ lead + n = omega arith in
        rw c (record { some = omega arith; within = omega arith; ascii = rw (m, at) (omega arith) })
    by (inr c) =
        let last = place-fails (λ b. not (is_digit b base)) (drop lead bs) (n - 1) (omega (arith, e, some)) in
        let small = digit-small (get_or (drop lead bs) (n - 1) 0) base b last in
        let m : lead + (n - 1) ≡ lead + n + 0 - 1 = omega arith in
        let at : get_or (drop lead bs) (n - 1) 0 ≡ get_or bs (lead + n + 0 - 1) 0 = get_or-drop lead bs (n - 1) 0 ∙ ap (λ k. get_or bs k 0) m in
        rw c (record { some = omega arith; within = omega (arith, room); ascii = rw (sym at) small })

plain-end : (bs : List ℕ) → get_or bs 0 0 ≡ 38 → IsRefEnd bs 1
plain-end bs h = let l = some-byte bs 0 38 h (omega arith) in record { some = omega arith; within = omega arith; ascii = rw h (omega arith) }

numeric-end : (bs : List ℕ) (base lead : ℕ) → base ≤ 16 → get_or bs 0 0 ≡ 38 → IsRefEnd bs (numeric base lead (drop lead bs)).len
unfolding numeric
numeric-end bs base lead b h = elim (cases_Bool (eqb (digits_len base (drop lead bs)) 0)) [
  | inl t ↦ rw t (plain-end bs h)
  | inr f ↦ rw f (counted-end bs base lead (digits_len base (drop lead bs)) b (some (digits_len base (drop lead bs)) f) refl)
]
  where
    some : (n : ℕ) → eqb n 0 ≡ false → 0 < n
    some zero e = cc
    some (suc n) e = omega arith

named-end : (table : List (List ℕ × ℕ)) (bs : List ℕ) → get_or bs 0 0 ≡ 38 → IsRefEnd bs (named table (drop 1 bs)).len
named-end [] bs h = plain-end bs h
named-end (r ∷ table) bs h = elim (cases_Bool (starts_with nat_eq (drop 1 bs) r.0 && (closing_len (drop (length r.0) (drop 1 bs)) == 1))) [
  | inl t ↦ rw t (of (closing-cases (drop (length r.0) (drop 1 bs))) (and_parts _ _ t).1)
  | inr f ↦ rw f (named-end table bs h)
]
  where
    of : ((closing_len (drop (length r.0) (drop 1 bs)) ≡ 1) × (get_or (drop (length r.0) (drop 1 bs)) 0 0 ≡ 59)) ⊎ (closing_len (drop (length r.0) (drop 1 bs)) ≡ 0) → (closing_len (drop (length r.0) (drop 1 bs)) == 1) ≡ true → IsRefEnd bs (1 + length r.0 + 1)
    of (inl (c, g)) e =
        let at : get_or bs (1 + length r.0) 0 ≡ 59 = (let s : 1 + (length r.0 + 0) ≡ 1 + length r.0 = omega arith in ap (λ k. get_or bs k 0) (sym s) ∙ sym (get_or-drop (length r.0) (drop 1 bs) 0 0 ∙ get_or-drop 1 bs (length r.0 + 0) 0) ∙ g) in
        let l = some-byte bs (1 + length r.0) 59 at (omega arith) in
        let m : 1 + length r.0 + 1 - 1 ≡ 1 + length r.0 = omega arith in
        record { some = omega arith; within = omega arith; ascii = rw (m, at) (omega arith) }
    of (inr c) e = let z : (0 == 1) ≡ true = rw c at e in cc

pub reference-end : (bs : List ℕ) → get_or bs 0 0 ≡ 38 → IsRefEnd bs (reference_at bs).len
unfolding reference_at
reference-end bs h = elim (cases_Bool (eqb (get_or bs 1 0) 35)) [
  | inl t ↦ rw t (elim (cases_Bool (eqb (get_or bs 2 0) 120 || eqb (get_or bs 2 0) 88)) [ inl u ↦ rw u (numeric-end bs 16 3 (omega arith) h) | inr v ↦ rw v (numeric-end bs 10 2 (omega arith) h) ])
  | inr f ↦ rw f (named-end named_references bs h)
]

referred-plain : (n : ℕ) (bs : List ℕ) → n ≤ length bs → ((k : ℕ) → k < n → is_byte 38 (get_or bs k 0) ≡ false) → referred_after 0 bs ≡ take n bs ++ referred_after 0 (drop n bs)
unfolding referred_after
referred-plain zero bs h none = refl
referred-plain (suc n) [] h none = absurd (omega arith)
referred-plain (suc n) (b ∷ bs) h none = rw (none 0 (omega arith)) (ap (λ r. b ∷ r) (referred-plain n bs (omega arith) (λ k l. none (suc k) (omega arith))))

referred-later : (n : ℕ) (bs : List ℕ) → referred_after n bs ≡ referred_after 0 (drop n bs)
unfolding referred_after
referred-later zero bs = refl
referred-later (suc n) [] = refl
referred-later (suc n) (b ∷ bs) = referred-later n bs

referred-step : (bs : List ℕ) → get_or bs 0 0 ≡ 38 → referred_after 0 bs ≡ encode_utf8 (reference_at bs).code ++ referred_after 0 (drop (reference_at bs).len bs)
unfolding referred_after
referred-step [] h = absurd (omega arith)
referred-step (b ∷ bs) h =
    let t : eqb b 38 ≡ true = (let e : b ≡ 38 = h in rw e refl) in
    let some = (reference-end (b ∷ bs) h).some in
    let s : (reference_at (b ∷ bs)).len ≡ suc ((reference_at (b ∷ bs)).len - 1) = omega arith in
    rw t (ap (λ r. encode_utf8 (reference_at (b ∷ bs)).code ++ r) (referred-later ((reference_at (b ∷ bs)).len - 1) bs ∙ ap (λ n. referred_after 0 (drop n (b ∷ bs))) (sym s)))

referred-none : (bs : List ℕ) → length bs ≡ 0 → referred_after 0 bs ≡ []
unfolding referred_after
referred-none [] h = refl
referred-none (b ∷ bs) h = absurd (omega arith)

module _ (rest : List ℕ) where
  pub refer-on : (out new base : List ℕ) (at : ℕ) → at < length rest → Nowhere (Passes (is_byte 38) rest) 0 at → get_or (drop at rest) 0 0 ≡ 38 → new ≡ (out ++ take at rest) ++ encode_utf8 (reference_at (drop at rest)).code → out ++ referred_after 0 rest ≡ base → new ++ referred_after 0 (drop (reference_at (drop at rest)).len (drop at rest)) ≡ base
  refer-on out new base at l none is e h =
      let step : referred_after 0 rest ≡ take at rest ++ (encode_utf8 (reference_at (drop at rest)).code ++ referred_after 0 (drop (reference_at (drop at rest)).len (drop at rest))) =
      referred-plain at rest (omega arith) (λ k m. false_from_ne_true _ (none k (omega arith) m)) ∙ ap (λ r. take at rest ++ r) (referred-step (drop at rest) is) in
      rw e (append_assoc (out ++ take at rest) (encode_utf8 (reference_at (drop at rest)).code) (referred_after 0 (drop (reference_at (drop at rest)).len (drop at rest))) ∙ append_assoc out (take at rest) (encode_utf8 (reference_at (drop at rest)).code ++ referred_after 0 (drop (reference_at (drop at rest)).len (drop at rest))) ∙ ap (λ r. out ++ r) (sym step) ∙ h)

  pub refer-end : (out new base : List ℕ) → Nowhere (Passes (is_byte 38) rest) 0 (length rest) → new ≡ out ++ rest → out ++ referred_after 0 rest ≡ base → new ≡ base
  refer-end out new base none e h =
      let all : referred_after 0 rest ≡ rest = referred-plain (length rest) rest (omega arith) (λ k m. false_from_ne_true _ (none k (omega arith) m)) ∙ ap (λ r. take (length rest) rest ++ r) (referred-none (drop (length rest) rest) (let d = length-drop (length rest) rest in omega arith)) ∙ append-nil (take (length rest) rest) ∙ take-length rest in
      e ∙ ap (λ r. out ++ r) (sym all) ∙ h

  -- a text without `&` is its own
  pub referred-same : Nowhere (Passes (is_byte 38) rest) 0 (length rest) → rest ≡ referred_after 0 rest
  referred-same none = refer-end [] rest (referred_after 0 rest) none refl refl

pub special-small : (b : ℕ) → is_byte2 13 0 b ≡ true → b < 128
special-small b h = grind (arith, nat_tests)

pub reference-boundary : (bs : List ℕ) → IsUtf8 bs → get_or bs 0 0 ≡ 38 → IsCharBoundary bs (reference_at bs).len
reference-boundary bs u h =
    let end = reference-end bs h in
    let some = end.some in
    let within = end.within in
    let s : (reference_at bs).len - 1 + 1 ≡ (reference_at bs).len = omega arith in
    subst (λ n. IsCharBoundary bs n) s (IsCharBoundary-after_ascii bs ((reference_at bs).len - 1) u (omega arith) end.ascii)
