-- Which character a byte begins, and the width of one with none before it.
use Rattle.std.proofs.Common.{◌≡◌, ℕ, suc, ◌<◌, ◌≤◌, Bool, true, false, ◌||◌, ltb, leb, List, [], ◌∷◌, ◌++◌, length, get_or, drop, None, Some, refl, ap, arith, drop-cons}
use Rattle.std.specs.Prelude.{unsigned_abs, if◌then◌else◌}
use Rattle.std.specs.Str.{chars, IsUtf8}
use Rattle.std.specs.Char.{encode_utf8}
use Rattle.std.proofs.lemmas.Bool.Decides.{nat_tests}
use Rattle.std.proofs.lemmas.Str.{chars_past_char}
use Rattle.metrics.specs.Face.{advance_number, paired_number, scaled}
use Rattle.metrics.specs.Pen.{PenView}
use Rattle.metrics.specs.Widths.{begun_at, char_after, char_at, char_width, has_width, is_lead}

pub bare_width : (p : PenView) (c : ℕ) → char_width p c ≡ (if has_width c then unsigned_abs (scaled (advance_number p.face c) p.size p.face.units) else 0)
unfolding char_width char_after paired_number
bare_width p c = refl

pub first_char : (b : ℕ) (bs : List ℕ) → b < 128 → get_or (chars (b ∷ bs)) 0 0 ≡ b
unfolding chars
first_char b [] h = let e : ltb b 128 ≡ true = grind (arith, nat_tests) in rw e refl
first_char b (x ∷ xs) h = let e : ltb b 128 ≡ true = grind (arith, nat_tests) in rw e refl

module _ (text : List ℕ) (at : ℕ) where
  pub begun_ascii : at < length text → get_or text at 0 < 128 → begun_at text at ≡ Some (get_or text at 0)
  unfolding begun_at is_lead char_at
  begun_ascii h low =
      let e : ltb (get_or text at 0) 128 ≡ true = grind (arith, nat_tests) in
      let c : get_or (chars (drop at text)) 0 0 ≡ get_or text at 0 = rw (drop-cons text at 0 h) (first_char (get_or text at 0) (drop (suc at) text) low) in
      rw (e, c) refl

  pub begun_rest : 128 ≤ get_or text at 0 → get_or text at 0 < 192 → begun_at text at ≡ None
  unfolding begun_at is_lead
  begun_rest low high =
      let e : ltb (get_or text at 0) 128 ≡ false = grind (arith, nat_tests) in
      let f : leb 192 (get_or text at 0) ≡ false = grind (arith, nat_tests) in
      rw (e, f) refl

  pub begun_wide : (c : ℕ) (rest : List ℕ) → 192 ≤ get_or text at 0 → IsUtf8 (drop at text) → drop at text ≡ encode_utf8 c ++ rest → begun_at text at ≡ Some c
  unfolding begun_at is_lead char_at
  begun_wide c rest low u e =
      let f : leb 192 (get_or text at 0) ≡ true = grind (arith, nat_tests) in
      let g : (ltb (get_or text at 0) 128 || leb 192 (get_or text at 0)) ≡ true = by (ltb (get_or text at 0) 128) f in
      let d : get_or (chars (drop at text)) 0 0 ≡ c = ap (λ xs. get_or xs 0 0) (chars_past_char (drop at text) rest c u e) in
      rw (g, d) refl
    where
      by : (b : Bool) → leb 192 (get_or text at 0) ≡ true → (b || leb 192 (get_or text at 0)) ≡ true
      by true h = refl
      by false h = h
