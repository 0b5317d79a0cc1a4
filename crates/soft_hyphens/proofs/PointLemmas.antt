-- The offsets of a word's points, after those of the words before it.
use Rattle.std.proofs.Common.{◌≡◌, ◌∙◌, ℕ, zero, suc, ◌+◌, ◌-◌, ◌%◌, ◌<◌, ◌≤◌, Bool, true, false, cond, ◌&&◌, eqb, leb, List, [], ◌∷◌, ◌++◌, length, get_or, take, drop, map, refl, sym, ap, ap₂, arith, append-nil, ⊎_elim}
use Rattle.std.specs.Prelude.{filter}
use Rattle.std.specs.Char.{to_ascii_lowercase}
use Rattle.std.specs.List.{range_with_len, take-map}
use Rattle.std.proofs.lemmas.Bool.{cases_lt, cases_eq}
use Rattle.std.proofs.lemmas.Bool.Decides.{nat_tests}
use Rattle.std.proofs.lemmas.List.{drop-map, get_or-map, length-map, length-drop, length-take-le, map-append}
use Rattle.std.proofs.lemmas.List.Elements.{filter-append}
use Rattle.std.proofs.lemmas.Simd.{map-map}
use Rattle.std.proofs.Math.Bool.{and-false}
use Rattle.hyphen.specs.Points.{is_point, offset_of, places_of}
use Rattle.soft_hyphens.specs.Pass.{offsets_before}
use Rattle.soft_hyphens.specs.Walk.{IsWordFrom}
use Rattle.soft_hyphens.specs.Words.{codes_of, counts, is_of_word, is_put, letters_between, points_with, word_begin, word_end}
use Rattle.soft_hyphens.specs.declared.letter.Letter.{Letter}
use Rattle.soft_hyphens.proofs.OffsetLemmas.{offset-from, offset-lower, offset-within}
use Rattle.soft_hyphens.proofs.WordLemmas.{begin-is, end-is, put-in-word}

low : (a b : ℕ) → b < a → leb a b ≡ false
low a b h = grind (arith, nat_tests)

high : (a b : ℕ) → a ≤ b → leb a b ≡ true
high a b h = grind (arith, nat_tests)

-- ---- a word's points

-- a place with too few characters before it or after it is no point
few-after : (n place : ℕ) (value : ℕ → ℕ) → n - place < 3 → is_point n 2 3 value place ≡ false
unfolding is_point
few-after n place value h =
    let less : leb 3 (n - place) ≡ false = low 3 (n - place) h in
    rw less (and-false (eqb (value place % 2) 1 && (leb 1 place && leb 2 place)))

few-before : (n place : ℕ) (value : ℕ → ℕ) → place < 2 → is_point n 2 3 value place ≡ false
unfolding is_point
few-before n place value h =
    let less : leb 2 place ≡ false = low 2 place h in
    rw less (by (eqb (value place % 2) 1) (leb 1 place) (leb 3 (n - place)))
  where
    by : (a b c : Bool) → ((a && (b && false)) && c) ≡ false
    by true true c = refl
    by true false c = refl
    by false b c = refl

few-letters : (n place : ℕ) (value : ℕ → ℕ) → n < 5 → is_point n 2 3 value place ≡ false
few-letters n place value h = ⊎_elim
    (λ (l : place < 2). few-before n place value l)
    (λ (l : 2 ≤ place). few-after n place value (omega arith))
    (cases_lt place 2)

-- no place of a run is one at which a soft hyphen is put before its first character
pub none-at-start : (value : List ℕ → ℕ → ℕ) (ls : List Letter) → is_put (points_with value) ls 0 ≡ false
unfolding is_put
none-at-start value ls =
    let from : ℕ = word_begin ls 0 in
    let to : ℕ = word_end ls 0 in
    let word : List ℕ = codes_of (letters_between ls from to) in
    ap (λ (b : Bool). counts ls from to && b) (few-before (length word) (0 - from) (value (map to_ascii_lowercase word)) (omega arith)) ∙ and-false (counts ls from to)

-- ---- some numbers after others

range-append : (a n m : ℕ) → range_with_len a (n + m) ≡ range_with_len a n ++ range_with_len (a + n) m
range-append a zero m =
    let n : 0 + m ≡ m = omega arith in
    let b : a ≡ a + 0 = omega arith in
    ap₂ range_with_len b n
range-append a (suc n) m =
    let s : suc n + m ≡ suc (n + m) = omega arith in
    let b : (a + 1) + n ≡ a + suc n = omega arith in
    ap (range_with_len a) s ∙ ap (λ (l : List ℕ). a ∷ l) (range-append (a + 1) n m ∙ ap (λ (k : ℕ). range_with_len (a + 1) n ++ range_with_len k m) b)

offsets-more : (here : ℕ → Bool) (cs : List ℕ) (a m : ℕ) → offsets_before here cs (a + m) ≡ offsets_before here cs a ++ map (offset_of cs) (filter here (range_with_len a m))
offsets-more here cs a m =
    let z : 0 + a ≡ a = omega arith in
    ap (λ (l : List ℕ). map (offset_of cs) (filter here l)) (range-append 0 a m)
    ∙ ap (map (offset_of cs)) (filter-append here (range_with_len 0 a) (range_with_len (0 + a) m))
    ∙ map-append (offset_of cs) (filter here (range_with_len 0 a)) (filter here (range_with_len (0 + a) m))
    ∙ ap (λ (n : ℕ). offsets_before here cs a ++ map (offset_of cs) (filter here (range_with_len n m))) z

filter-none : (a m : ℕ) → filter (λ (k : ℕ). false) (range_with_len a m) ≡ []
filter-none a zero = refl
filter-none a (suc m) = filter-none (a + 1) m

filter-last : (q : ℕ → Bool) (n : ℕ) → q n ≡ false → filter q (range_with_len 0 (n + 1)) ≡ filter q (range_with_len 0 n)
filter-last q n fails =
    let z : 0 + n ≡ n = omega arith in
    ap (filter q) (range-append 0 n 1) ∙ filter-append q (range_with_len 0 n) ((0 + n) ∷ [])
    ∙ ap (λ (l : List ℕ). filter q (range_with_len 0 n) ++ l) (ap (λ (k : ℕ). cond (q k) (k ∷ []) []) z ∙ ap (λ (b : Bool). cond b (n ∷ []) []) fails)
    ∙ append-nil (filter q (range_with_len 0 n))

-- numbers that are counted from another one on
shifted : (here q : ℕ → Bool) (f g : ℕ → ℕ) (from a m : ℕ) → ((k : ℕ) → k < a + m → here (from + k) ≡ q k) → ((k : ℕ) → k < a + m → f (from + k) ≡ g k) → map f (filter here (range_with_len (from + a) m)) ≡ map g (filter q (range_with_len a m))
shifted here q f g from a zero h e = refl
shifted here q f g from a (suc m) h e =
    let next : (from + a) + 1 ≡ from + (a + 1) = omega arith in
    ap (λ (n : ℕ). map f (cond (here (from + a)) ((from + a) ∷ filter here (range_with_len n m)) (filter here (range_with_len n m)))) next
    ∙ ap (λ (b : Bool). map f (cond b ((from + a) ∷ others) others)) (h a (omega arith))
    ∙ by (q a) (e a (omega arith)) (shifted here q f g from (a + 1) m (λ k l. h k (omega (arith, l))) (λ k l. e k (omega (arith, l))))
  where
    others : List ℕ
    others = filter here (range_with_len (from + (a + 1)) m)

    by : (b : Bool) → f (from + a) ≡ g a → map f others ≡ map g (filter q (range_with_len (a + 1) m)) → map f (cond b ((from + a) ∷ others) others) ≡ map g (cond b (a ∷ filter q (range_with_len (a + 1) m)) (filter q (range_with_len (a + 1) m)))
    by true one more = ap₂ (λ (x : ℕ) (l : List ℕ). x ∷ l) one more
    by false one more = more

-- ---- a word that ends

module _ (value : List ℕ → ℕ → ℕ) (ls : List Letter) (from to : ℕ) (w : IsWordFrom ls from to) (within : to ≤ length ls) (stop : is_of_word (get_or (codes_of ls) to 0) ≡ false) where
  abbrev here : ℕ → Bool
  here = is_put (points_with value) ls

  abbrev cs : List ℕ
  cs = codes_of ls

  abbrev word : List ℕ
  word = codes_of (letters_between ls from to)

  abbrev point : ℕ → Bool
  point = is_point (length word) 2 3 (value (map to_ascii_lowercase word))

  size : length word ≡ to - from
  size = length-map (letters_between ls from to) (λ (l : Letter). l.code) ∙ length-take-le (to - from) (drop from ls) (omega (arith, within, length-drop from ls))

  -- where a soft hyphen is put in it
  in-word : (k : ℕ) → k ≤ to - from → here (from + k) ≡ (counts ls from to && point k)
  in-word k l =
      let order : from ≤ to = w.order in
      let begin : word_begin ls (from + k) ≡ from = begin-is ls from (from + k) (omega arith) (omega (arith, order, within, l)) (λ i x y. w.all i x (omega (arith, order, l, y))) w.before in
      let ends : word_end ls (from + k) ≡ to = end-is ls (from + k) to (omega (arith, order, l)) (λ i x y. w.all i (omega (arith, x)) y) stop in
      let back : (from + k) - from ≡ k = omega arith in
      put-in-word (points_with value) ls from (from + k) to begin ends ∙ ap (λ (n : ℕ). counts ls from to && point n) back

  further : to + 1 ≡ from + ((to - from) + 1)
  further = let order : from ≤ to = w.order in omega (arith, order)

  start : from ≡ from + 0
  start = omega arith

  -- a word that doesn't count, or is too short, has no point
  pub no-points : (leb 5 (to - from) && counts ls from to) ≡ false → offsets_before (is_put (points_with value) ls) (codes_of ls) (to + 1) ≡ offsets_before (is_put (points_with value) ls) (codes_of ls) from
  no-points may =
      ap (offsets_before here cs) further ∙ offsets-more here cs from ((to - from) + 1)
      ∙ ap (λ (l : List ℕ). offsets_before here cs from ++ l)
      (ap (λ (n : ℕ). map (offset_of cs) (filter here (range_with_len n ((to - from) + 1)))) start
      ∙ shifted here (λ (k : ℕ). false) (offset_of cs) (λ (k : ℕ). offset_of cs (from + k)) from 0 ((to - from) + 1) (λ k l. in-word k (omega (arith, l)) ∙ fails k) (λ k l. refl)
      ∙ ap (map (λ (k : ℕ). offset_of cs (from + k))) (filter-none 0 ((to - from) + 1)))
      ∙ append-nil (offsets_before here cs from)
    where
      fails : (k : ℕ) → (counts ls from to && point k) ≡ false
      fails k = ⊎_elim
          (λ (l : to - from < 5). ap (λ (b : Bool). counts ls from to && b) (few-letters (length word) k (value (map to_ascii_lowercase word)) (omega (arith, size, l))) ∙ and-false (counts ls from to))
          (λ (h : 5 ≤ to - from). ap (λ (b : Bool). b && point k) (sym (ap (λ (b : Bool). b && counts ls from to) (high 5 (to - from) h)) ∙ may))
          (cases_lt (to - from) 5)

  -- how many bytes stand before a place of it
  offset-in : (at k : ℕ) → at ≡ offset_of cs from → k ≤ to - from → offset_of cs (from + k) ≡ at + offset_of (map to_ascii_lowercase word) k
  offset-in at k is l =
      let inside : take (to - from) (drop from (codes_of ls)) ≡ codes_of (letters_between ls from to) =
      ap (take (to - from)) (drop-map (λ (x : Letter). x.code) from ls) ∙ take-map (λ (x : Letter). x.code) (to - from) (drop from ls) in
      let far : offset_of (drop from (codes_of ls)) k ≡ offset_of (map to_ascii_lowercase (codes_of (letters_between ls from to))) k =
      sym (offset-within (drop from (codes_of ls)) (to - from) k l) ∙ ap (λ (x : List ℕ). offset_of x k) inside ∙ sym (offset-lower (codes_of (letters_between ls from to)) k) in
      offset-from (codes_of ls) from k ∙ ap₂ (λ (x y : ℕ). x + y) (sym is) far

  -- a word that counts has its points
  pub some-points : (at : ℕ) → at ≡ offset_of (codes_of ls) from → counts ls from to ≡ true →
      offsets_before (is_put (points_with value) ls) (codes_of ls) (to + 1) ≡ offsets_before (is_put (points_with value) ls) (codes_of ls) from ++
      map (λ (p : ℕ). at + p) (map (offset_of (map to_ascii_lowercase (codes_of (letters_between ls from to)))) (places_of value (map to_ascii_lowercase (codes_of (letters_between ls from to))) 2 3))
  unfolding places_of
  some-points at is counted =
      let letters : List ℕ = map to_ascii_lowercase word in
      let far : ℕ → ℕ = λ (k : ℕ). at + offset_of letters k in
      let n : length letters ≡ length word = length-map word to_ascii_lowercase in
      ap (offsets_before here cs) further ∙ offsets-more here cs from ((to - from) + 1)
      ∙ ap (λ (l : List ℕ). offsets_before here cs from ++ l)
      (ap (λ (m : ℕ). map (offset_of cs) (filter here (range_with_len m ((to - from) + 1)))) start
      ∙ shifted here point (offset_of cs) far from 0 ((to - from) + 1)
      (λ k l. in-word k (omega (arith, l)) ∙ ap (λ (b : Bool). b && point k) counted) (λ k l. offset-in at k is (omega (arith, l)))
      ∙ ap (map far) (filter-last point (to - from) (few-after (length word) (to - from) (value letters) (omega (arith, size))))
      ∙ ap (λ (m : ℕ). map far (filter point (range_with_len 0 m))) (sym size)
      ∙ ap (λ (m : ℕ). map far (filter (is_point m 2 3 (value letters)) (range_with_len 0 m))) (sym n)
      ∙ sym (map-map (λ (p : ℕ). at + p) (offset_of letters) (places_of value letters 2 3)))

-- ---- a pass over words

code-at : (ls : List Letter) (i : ℕ) (d : Letter) → i < length ls → get_or (codes_of ls) i 0 ≡ (get_or ls i d).code
code-at ls i d h = get_or-map (λ (l : Letter). l.code) ls i d 0 h

-- a character of a word
pub word-goes : (ls : List Letter) (from at : ℕ) (d : Letter) → IsWordFrom ls from at → at < length ls → is_of_word ((get_or ls at d).code) ≡ true → IsWordFrom ls from (at + 1)
word-goes ls from at d w inside holds =
    let order = w.order in
    record {
      order = omega (arith, order);
      all = λ i low high. ⊎_elim
          (λ (e : i ≡ at). ap (λ (j : ℕ). is_of_word (get_or (codes_of ls) j 0)) e ∙ ap is_of_word (code-at ls at d inside) ∙ holds)
          (λ (n : i ≡ at → ⊥). w.all i low (omega arith))
          (cases_eq i at);
      before = w.before;
    }

-- a character that is none of a word
pub word-next : (ls : List Letter) (at : ℕ) → is_of_word (get_or (codes_of ls) at 0) ≡ false → IsWordFrom ls (at + 1) (at + 1)
word-next ls at fails = record {
  order = omega arith;
  all = λ i low high. absurd (omega arith);
  before = λ i e. let is : i ≡ at = omega arith in ap (λ (j : ℕ). is_of_word (get_or (codes_of ls) j 0)) is ∙ fails;
}
