-- The longest run of a word's characters round a place.
use Rattle.std.proofs.Common.{◌≡◌, ◌∙◌, ℕ, zero, suc, ◌+◌, ◌-◌, ◌<◌, ◌≤◌, Bool, true, false, not, cond, ◌&&◌, ◌||◌, eqb, leb, List, [], ◌∷◌, length, get_or, take, drop, reverse, refl, sym, ap, ap₂, arith, ⊎_elim}
use Rattle.std.specs.Prelude.{slice_get}
use Rattle.std.specs.List.{list_all}
use Rattle.std.proofs.lemmas.Bool.{cases_lt}
use Rattle.std.proofs.lemmas.Bool.Decides.{nat_tests}
use Rattle.std.proofs.lemmas.List.{drop-map, get_or-drop, get_or-reverse, get_or-take, get_or_past, length-drop, length-reverse, length-take-le, length-map, take-map}
use Rattle.soft_hyphens.specs.Laws.{IsLongest}
use Rattle.soft_hyphens.specs.Words.{Points, are_auto, codes_of, counts, is_of_word, is_soft, is_put, letters_between, run_len, word_begin, word_end}
use Rattle.soft_hyphens.specs.declared.letter.Letter.{Letter}

never : {A : Type 0} (b : Bool) → b ≡ true → b ≡ false → A
never b t f = absurd (no_both (sym t ∙ f))
  where
    no_both : true ≡ false → ⊥
    no_both e = cc

-- no character is none of a word
pub none-of-word : is_of_word 0 ≡ false
unfolding is_of_word
none-of-word = refl

past : (xs : List ℕ) (i : ℕ) → length xs ≤ i → is_of_word (get_or xs i 0) ≡ false
past xs i h = ap is_of_word (get_or_past xs i 0 h) ∙ none-of-word

-- how long a run is, by where it stops
pub run-is : (xs : List ℕ) (m : ℕ) → ((i : ℕ) → i < m → is_of_word (get_or xs i 0) ≡ true) → is_of_word (get_or xs m 0) ≡ false → run_len xs ≡ m
unfolding run_len
run-is [] zero all stop = refl
run-is [] (suc m) all stop = never (is_of_word 0) (all 0 (omega arith)) none-of-word
run-is (x ∷ xs) zero all stop = rw stop refl
run-is (x ∷ xs) (suc m) all stop =
    let here : is_of_word x ≡ true = all 0 (omega arith) in
    let rest : run_len xs ≡ m = run-is xs m (λ i h. all (suc i) (omega arith)) stop in
    rw (here, rest) refl

run-within : (xs : List ℕ) → run_len xs ≤ length xs
unfolding run_len
run-within [] = omega arith
run-within (x ∷ xs) = by (is_of_word x) (run-within xs)
  where
    by : (b : Bool) → run_len xs ≤ length xs → cond b (suc (run_len xs)) 0 ≤ length (x ∷ xs)
    by true h = omega (arith, h)
    by false h = omega arith

run-all : (xs : List ℕ) (i : ℕ) → i < run_len xs → is_of_word (get_or xs i 0) ≡ true
unfolding run_len
run-all [] i h = absurd (omega (arith, h))
run-all (x ∷ xs) i h = by (is_of_word x) refl (λ j l. run-all xs j l) i h
  where
    by : (b : Bool) → is_of_word x ≡ b → ((j : ℕ) → j < run_len xs → is_of_word (get_or xs j 0) ≡ true) → (i : ℕ) → i < cond b (suc (run_len xs)) 0 → is_of_word (get_or (x ∷ xs) i 0) ≡ true
    by true e rest zero l = e
    by true e rest (suc i) l = rest i (omega (arith, l))
    by false e rest i l = absurd (omega (arith, l))

run-stop : (xs : List ℕ) → is_of_word (get_or xs (run_len xs) 0) ≡ false
unfolding run_len
run-stop [] = none-of-word
run-stop (x ∷ xs) = by (is_of_word x) refl (run-stop xs)
  where
    by : (b : Bool) → is_of_word x ≡ b → is_of_word (get_or xs (run_len xs) 0) ≡ false → is_of_word (get_or (x ∷ xs) (cond b (suc (run_len xs)) 0) 0) ≡ false
    by true e h = h
    by false e h = e

-- ---- round a place

code_at : List Letter → ℕ → ℕ
code_at ls i = get_or (codes_of ls) i 0

front : List Letter → ℕ → List ℕ
front ls k = reverse (codes_of (take k ls))

back : List Letter → ℕ → List ℕ
back ls k = codes_of (drop k ls)

front-length : (ls : List Letter) (k : ℕ) → k ≤ length ls → length (front ls k) ≡ k
unfolding front
front-length ls k h = length-reverse (codes_of (take k ls)) ∙ length-map (take k ls) (λ (l : Letter). l.code) ∙ length-take-le k ls h

front-at : (ls : List Letter) (k i : ℕ) → k ≤ length ls → i < k → get_or (front ls k) i 0 ≡ get_or (codes_of ls) (k - 1 - i) 0
unfolding front
front-at ls k i h l =
    let n : length (codes_of (take k ls)) ≡ k = length-map (take k ls) (λ (x : Letter). x.code) ∙ length-take-le k ls h in
    get_or-reverse (codes_of (take k ls)) i 0 (omega (arith, n))
    ∙ ap (λ (m : ℕ). get_or (codes_of (take k ls)) (m - 1 - i) 0) n
    ∙ ap (λ (xs : List ℕ). get_or xs (k - 1 - i) 0) (sym (take-map (λ (x : Letter). x.code) k ls))
    ∙ get_or-take k (codes_of ls) (k - 1 - i) 0 (omega arith)

back-at : (ls : List Letter) (k i : ℕ) → get_or (back ls k) i 0 ≡ get_or (codes_of ls) (k + i) 0
unfolding back
back-at ls k i = ap (λ (xs : List ℕ). get_or xs i 0) (sym (drop-map (λ (x : Letter). x.code) k ls)) ∙ get_or-drop k (codes_of ls) i 0

-- where a word begins and ends, by the characters round it
pub begin-is : (ls : List Letter) (from k : ℕ) → from ≤ k → k ≤ length ls → ((i : ℕ) → from ≤ i → i < k → is_of_word (get_or (codes_of ls) i 0) ≡ true) → ((i : ℕ) → i + 1 ≡ from → is_of_word (get_or (codes_of ls) i 0) ≡ false) → word_begin ls k ≡ from
unfolding word_begin front
begin-is ls from k le within all before =
    let n : length (front ls k) ≡ k = front-length ls k within in
    let run : run_len (front ls k) ≡ k - from = run-is (front ls k) (k - from)
    (λ i l. ap is_of_word (front-at ls k i within (omega arith)) ∙ all (k - 1 - i) (omega arith) (omega arith))
    (⊎_elim
    (λ (l : k - from < k). ap is_of_word (front-at ls k (k - from) within l) ∙ before (k - 1 - (k - from)) (omega arith))
    (λ (h : k ≤ k - from). past (front ls k) (k - from) (omega (arith, n)))
    (cases_lt (k - from) k)) in
    omega (arith, run)

pub end-is : (ls : List Letter) (k to : ℕ) → k ≤ to → ((i : ℕ) → k ≤ i → i < to → is_of_word (get_or (codes_of ls) i 0) ≡ true) → is_of_word (get_or (codes_of ls) to 0) ≡ false → word_end ls k ≡ to
unfolding word_end back
end-is ls k to le all after =
    let end : k + (to - k) ≡ to = omega arith in
    let run : run_len (back ls k) ≡ to - k = run-is (back ls k) (to - k)
    (λ i l. ap is_of_word (back-at ls k i) ∙ all (k + i) (omega arith) (omega arith))
    (ap is_of_word (back-at ls k (to - k)) ∙ ap (λ (m : ℕ). is_of_word (get_or (codes_of ls) m 0)) end ∙ after) in
    omega (arith, run)

-- a place in a word is one at which a soft hyphen is put where the word counts and has a point there
pub put-in-word : (points : Points) (ls : List Letter) (from k to : ℕ) → word_begin ls k ≡ from → word_end ls k ≡ to → is_put points ls k ≡ (counts ls from to && points (codes_of (letters_between ls from to)) (k - from))
unfolding is_put
put-in-word points ls from k to b e = ap₂ (λ (x y : ℕ). counts ls x y && points (codes_of (letters_between ls x y)) (k - x)) b e

-- ---- words are longest

pub longest : (ls : List Letter) (k : ℕ) → k ≤ length ls → IsLongest (codes_of ls) k (word_begin ls k) (word_end ls k)
unfolding word_begin word_end front back
longest ls k within =
    let n : length (front ls k) ≡ k = front-length ls k within in
    let m : length (back ls k) ≡ length ls - k = length-map (drop k ls) (λ (l : Letter). l.code) ∙ length-drop k ls in
    let size : length (codes_of ls) ≡ length ls = length-map ls (λ (l : Letter). l.code) in
    let b : run_len (front ls k) ≤ k = omega (arith, run-within (front ls k), n) in
    let e : run_len (back ls k) ≤ length ls - k = omega (arith, run-within (back ls k), m) in
    record {
      begins = omega arith;
      ends = omega arith;
      within = omega arith;
      all = λ i low high. ⊎_elim
          (λ (l : i < k).
          let at : k - 1 - (k - 1 - i) ≡ i = omega arith in
          ap (λ (j : ℕ). is_of_word (get_or (codes_of ls) j 0)) (sym at) ∙ sym (ap is_of_word (front-at ls k (k - 1 - i) within (omega arith))) ∙ run-all (front ls k) (k - 1 - i) (omega arith))
          (λ (h : k ≤ i).
          let at : k + (i - k) ≡ i = omega arith in
          ap (λ (j : ℕ). is_of_word (get_or (codes_of ls) j 0)) (sym at) ∙ sym (ap is_of_word (back-at ls k (i - k))) ∙ run-all (back ls k) (i - k) (omega arith))
          (cases_lt i k);
      before = λ i is.
          let at : k - 1 - run_len (front ls k) ≡ i = omega arith in
          ap (λ (j : ℕ). is_of_word (get_or (codes_of ls) j 0)) (sym at) ∙ sym (ap is_of_word (front-at ls k (run_len (front ls k)) within (omega arith))) ∙ run-stop (front ls k);
      after = λ inside. sym (ap is_of_word (back-at ls k (run_len (back ls k)))) ∙ run-stop (back ls k);
    }

-- ---- whole words

pub auto_all : (ls : List Letter) → are_auto ls ≡ list_all (λ (l : Letter). l.auto) ls
auto_all [] = refl
auto_all (l ∷ ls) = ap (λ (b : Bool). l.auto && b) (auto_all ls)

-- a word that counts isn't long
pub counts-few : (ls : List Letter) (from to : ℕ) → counts ls from to ≡ true → to - from ≤ 64
unfolding counts
counts-few ls from to h = by (leb (to - from) 64) refl h
  where
    by : (b : Bool) → leb (to - from) 64 ≡ b → (((b && are_auto (letters_between ls from to)) && (eqb from 0 || not (is_soft (slice_get ls (from - 1))))) && not (is_soft (slice_get ls to))) ≡ true → to - from ≤ 64
    by true e k = grind (arith, nat_tests)
    by false e k = absurd (no_both k)
      where
        no_both : false ≡ true → ⊥
        no_both e = cc
