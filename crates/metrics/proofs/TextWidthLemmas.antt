-- The bytes of a text add what its characters are wide.
use Rattle.std.proofs.Common.{◌≡◌, ℕ, zero, suc, ◌+◌, ◌-◌, ◌/◌, ◌<◌, ◌≤◌, true, false, ltb, ◌⊎◌, inl, inr, List, [], ◌∷◌, ◌++◌, length, get_or, drop, Option, None, Some, refl, sym, ap, ◌∙◌, arith, add-zero, length-append, length-drop}
use Rattle.std.specs.Str.{chars, IsUtf8}
use Rattle.std.proofs.lemmas.Bool.{cases_lt, and_parts}
use Rattle.std.proofs.lemmas.Bool.Decides.{nat_tests}
use Rattle.std.proofs.lemmas.List.{get_or-drop, get_or_append_left}
use Rattle.std.proofs.lemmas.Str.{drop_past_char, length-encode, encodes-chars, scalars-chars}
use Rattle.std.proofs.Math.Utf8.{scalar, scalars, encode, encodes, next}
use Rattle.metrics.specs.Pen.{PenView}
use Rattle.metrics.specs.Widths.{begun_at, byte_width, char_after, last_from, last_with, sum_from, width_after, widths_from}
use Rattle.metrics.proofs.WidthLemmas.{begun_ascii, begun_rest, begun_wide}

sum_split : (u : ℕ → ℕ) (n a b : ℕ) → sum_from u n (a + b) ≡ sum_from u n a + sum_from u (n + a) b
sum_split u n a zero = rw (add-zero, add-zero) refl
sum_split u n a (suc b) =
    let e : a + suc b ≡ suc (a + b) = omega arith in
    let f : n + (a + b) ≡ n + a + b = omega arith in
    rw (e, sum_split u n a b, f) (omega arith)

-- bytes that begin no character leave the last one
last_first : (text : List ℕ) (n m : ℕ) → ((k : ℕ) → n < k → k < n + suc m → begun_at text k ≡ None) →
    last_from text 0 (n + suc m) ≡ last_from text 0 (suc n)
last_first text n zero h = let e : n + 1 ≡ suc n = omega arith in ap (last_from text 0) e
last_first text n (suc m) h =
    let e : n + suc (suc m) ≡ suc (n + suc m) = omega arith in
    let f : 0 + (n + suc m) ≡ n + suc m = omega arith in
    let z : begun_at text (n + suc m) ≡ None = h (n + suc m) (omega arith) (omega arith) in
    ap (last_from text 0) e ∙ ap (last_with (last_from text 0 (n + suc m))) (ap (begun_at text) f ∙ z)
    ∙ last_first text n m (λ k a b. h k a (omega arith))

sum_first : (u : ℕ → ℕ) (n m : ℕ) → ((k : ℕ) → n < k → k < n + suc m → u k ≡ 0) → sum_from u n (suc m) ≡ u n
sum_first u n zero h = let e : n + 0 ≡ n = omega arith in rw e (omega arith)
sum_first u n (suc m) h =
    let z : u (n + suc m) ≡ 0 = h (n + suc m) (omega arith) (omega arith) in
    rw (sum_first u n m (λ k a b. h k a (omega arith)), z) (omega arith)

abbrev Follows : ℕ → Type 0
Follows b = (128 ≤ b) × (b < 192)

-- the bytes of a character (UTF-8)
data Shape (c : ℕ) : Type 0 where
  of1 : c < 128 → encode c ≡ c ∷ [] → Shape c
  of2 : (a b : ℕ) → 192 ≤ a → Follows b → encode c ≡ a ∷ b ∷ [] → Shape c
  of3 : (a b d : ℕ) → 192 ≤ a → Follows b → Follows d → encode c ≡ a ∷ b ∷ d ∷ [] → Shape c
  of4 : (a b d x : ℕ) → 192 ≤ a → Follows b → Follows d → Follows x → encode c ≡ a ∷ b ∷ d ∷ x ∷ [] → Shape c

next_follows : (x : ℕ) → Follows (next x)
next_follows x = (omega arith, omega arith)

one : (c : ℕ) → c < 128 → encode c ≡ c ∷ []
unfolding encode
one c h = let e : ltb c 128 ≡ true = grind (arith, nat_tests) in rw e refl

two : (c : ℕ) → 128 ≤ c → c < 2048 → encode c ≡ (192 + c / 64) ∷ next c ∷ []
unfolding encode
two c l h =
    let e : ltb c 128 ≡ false = grind (arith, nat_tests) in
    let f : ltb c 2048 ≡ true = grind (arith, nat_tests) in
    rw (e, f) refl

three : (c : ℕ) → 2048 ≤ c → c < 65536 → encode c ≡ (224 + c / 4096) ∷ next (c / 64) ∷ next c ∷ []
unfolding encode
three c l h =
    let d : 128 ≤ c = omega arith in
    let e : ltb c 128 ≡ false = grind (arith, nat_tests) in
    let f : ltb c 2048 ≡ false = grind (arith, nat_tests) in
    let g : ltb c 65536 ≡ true = grind (arith, nat_tests) in
    rw (e, f, g) refl

four : (c : ℕ) → 65536 ≤ c → encode c ≡ (240 + c / 262144) ∷ next (c / 4096) ∷ next (c / 64) ∷ next c ∷ []
unfolding encode
four c l =
    let d : 128 ≤ c = omega arith in
    let i : 2048 ≤ c = omega arith in
    let e : ltb c 128 ≡ false = grind (arith, nat_tests) in
    let f : ltb c 2048 ≡ false = grind (arith, nat_tests) in
    let g : ltb c 65536 ≡ false = grind (arith, nat_tests) in
    rw (e, f, g) refl

shape : (c : ℕ) → Shape c
shape c = by (cases_lt c 128) (cases_lt c 2048) (cases_lt c 65536)
  where
    by : (c < 128) ⊎ (128 ≤ c) → (c < 2048) ⊎ (2048 ≤ c) → (c < 65536) ⊎ (65536 ≤ c) → Shape c
    by (inl h) _ _ = of1 h (one c h)
    by (inr l) (inl h) _ = of2 (192 + c / 64) (next c) (omega arith) (next_follows c) (two c l h)
    by (inr _) (inr l) (inl h) = of3 (224 + c / 4096) (next (c / 64)) (next c) (omega arith) (next_follows (c / 64)) (next_follows c) (three c l h)
    by (inr _) (inr _) (inr l) = of4 (240 + c / 262144) (next (c / 4096)) (next (c / 64)) (next c) (omega arith) (next_follows (c / 4096)) (next_follows (c / 64)) (next_follows c) (four c l)

-- the bytes of a character after its first one begin no character
follow : (c k : ℕ) → Shape c → 0 < k → k < length (encode c) → (128 ≤ get_or (encode c) k 0) × (get_or (encode c) k 0 < 192)
follow c k (of1 h e) low high = absurd (let l = ap length e in omega (arith, l))
follow c zero (of2 a b l f e) low high = absurd (omega arith)
follow c zero (of3 a b d l f g e) low high = absurd (omega arith)
follow c zero (of4 a b d x l f g i e) low high = absurd (omega arith)
follow c (suc zero) (of2 a b l f e) low high = rw e f
follow c (suc (suc k)) (of2 a b l f e) low high = absurd (let l = ap length e in omega (arith, l))
follow c (suc zero) (of3 a b d l f g e) low high = rw e f
follow c (suc (suc zero)) (of3 a b d l f g e) low high = rw e g
follow c (suc (suc (suc k))) (of3 a b d l f g e) low high = absurd (let l = ap length e in omega (arith, l))
follow c (suc zero) (of4 a b d x l f g i e) low high = rw e f
follow c (suc (suc zero)) (of4 a b d x l f g i e) low high = rw e g
follow c (suc (suc (suc zero))) (of4 a b d x l f g i e) low high = rw e i
follow c (suc (suc (suc (suc k)))) (of4 a b d x l f g i e) low high = absurd (let l = ap length e in omega (arith, l))

-- the first byte of a character below 128 is the character, and of another one above 191
data First (c b : ℕ) : Type 0 where
  ascii : b < 128 → b ≡ c → First c b
  wide : 192 ≤ b → First c b

first_of : (c : ℕ) → Shape c → First c (get_or (encode c) 0 0) × (0 < length (encode c))
first_of c (of1 h e) = rw e (ascii h refl, omega arith)
first_of c (of2 a b l f e) = rw e (wide l, omega arith)
first_of c (of3 a b d l f g e) = rw e (wide (omega arith), omega arith)
first_of c (of4 a b d x l f g i e) = rw e (wide (omega arith), omega arith)

-- one character of a text
module _ (text : List ℕ) (n c : ℕ) (rest : List ℕ) (s : Shape c) (u : IsUtf8 (drop n text)) (e : drop n text ≡ encode c ++ rest) where
  byte : (k : ℕ) → k < length (encode c) → get_or text (n + k) 0 ≡ get_or (encode c) k 0
  byte k h = sym (get_or-drop n text k 0) ∙ ap (λ (l : List ℕ). get_or l k 0) e ∙ get_or_append_left (encode c) rest 0 k h

  inside : n < length text
  inside = let a = ap length e in let b = length-append (encode c) rest in let d = length-drop n text in let f = (first_of c s).1 in omega (arith, a, b, d, f)

  begins : (b : ℕ) → b ≡ get_or text n 0 → First c b → begun_at text n ≡ Some c
  begins b is (ascii l same) = begun_ascii text n inside (rw (← is) l) ∙ ap (λ (x : ℕ). Some x) (sym is ∙ same)
  begins b is (wide l) = begun_wide text n c rest (rw (← is) l) u e

  begun : begun_at text n ≡ Some c
  begun =
      let some = (first_of c s).1 in
      let at : get_or (encode c) 0 0 ≡ get_or text n 0 = sym (byte 0 some) ∙ rw add-zero refl in
      begins (get_or (encode c) 0 0) at (first_of c s).0

  follows : (k : ℕ) → n < k → k < n + length (encode c) → begun_at text k ≡ None
  follows k low high =
      let j : n + (k - n) ≡ k = omega arith in
      let b : get_or text k 0 ≡ get_or (encode c) (k - n) 0 = ap (λ (z : ℕ). get_or text z 0) (sym j) ∙ byte (k - n) (omega arith) in
      let f = follow c (k - n) s (omega arith) (omega arith) in
      begun_rest text k (rw b f.0) (rw b f.1)

  long : length (encode c) ≡ suc (length (encode c) - 1)
  long = let some = (first_of c s).1 in omega (arith, some)

  rest_none : (k : ℕ) → n < k → k < n + suc (length (encode c) - 1) → begun_at text k ≡ None
  rest_none k a b = let l = long in follows k a (omega (arith, l, b))

  char_sum : (p : PenView) → sum_from (byte_width p text 0) n (length (encode c)) ≡ char_after p (last_from text 0 n) c
  unfolding byte_width
  char_sum p =
      let z : n - 0 ≡ n = omega arith in
      ap (sum_from (byte_width p text 0) n) long
      ∙ sum_first (byte_width p text 0) n (length (encode c) - 1) (λ k a b. ap (width_after p (last_from text 0 (k - 0))) (rest_none k a b))
      ∙ ap (λ (k : ℕ). width_after p (last_from text 0 k) (begun_at text n)) z ∙ ap (width_after p (last_from text 0 n)) begun

  char_last : last_from text 0 (n + length (encode c)) ≡ last_with (last_from text 0 n) (Some c)
  char_last =
      let z : 0 + n ≡ n = omega arith in
      ap (λ (k : ℕ). last_from text 0 (n + k)) long
      ∙ last_first text n (length (encode c) - 1) rest_none
      ∙ ap (λ (k : ℕ). last_with (last_from text 0 n) (begun_at text k)) z ∙ ap (last_with (last_from text 0 n)) begun

-- the characters of the rest of a text
chars_sum : (p : PenView) (text : List ℕ) (n : ℕ) (cs : List ℕ) → scalars cs ≡ true → drop n text ≡ encodes cs → sum_from (byte_width p text 0) n (length (encodes cs)) ≡ widths_from p (last_from text 0 n) cs
chars_sum p text n [] all e = refl
chars_sum p text n (c ∷ cs) all e =
    let split = and_parts (scalar c) (scalars cs) all in
    let s : Shape c = shape c in
    let u : IsUtf8 (drop n text) = (c ∷ cs, (all, sym e)) in
    let rest : drop (n + length (encode c)) text ≡ encodes cs = rw (length-encode c) (drop_past_char text (encodes cs) n c e) in
    let more : sum_from (byte_width p text 0) (n + length (encode c)) (length (encodes cs)) ≡ widths_from p (last_with (last_from text 0 n) (Some c)) cs =
    chars_sum p text (n + length (encode c)) cs split.1 rest ∙ ap (λ (l : Option ℕ). widths_from p l cs) (char_last text n c (encodes cs) s u e) in
    ap (sum_from (byte_width p text 0) n) (length-append (encode c) (encodes cs))
    ∙ sum_split (byte_width p text 0) n (length (encode c)) (length (encodes cs))
    ∙ rw (char_sum text n c (encodes cs) s u e p, more) refl

pub text_sum : (p : PenView) (text : List ℕ) → IsUtf8 text → sum_from (byte_width p text 0) 0 (length text) ≡ widths_from p None (chars text)
text_sum p text u =
    let e : encodes (chars text) ≡ text = encodes-chars text u in
    ap (λ (l : List ℕ). sum_from (byte_width p text 0) 0 (length l)) (sym e) ∙ chars_sum p text 0 (chars text) (scalars-chars text u) (sym e)
