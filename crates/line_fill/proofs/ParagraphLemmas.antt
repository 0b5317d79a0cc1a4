-- What is left of a paragraph, and the places of a leaf that lie in it.
use Rattle.std.proofs.Common.{◌≡◌, ℕ, zero, suc, ◌+◌, ◌-◌, ◌<◌, ◌≤◌, inl, inr, ◌⊎◌, ⊎_elim, Bool, true, false, cond, ◌&&◌, ltb, min, List, [], ◌∷◌, ◌++◌, length, get_or, drop, take, refl, sym, ◌∙◌, ap, arith, length-append}
use Rattle.std.specs.List.{filter}
use Rattle.std.proofs.lemmas.Bool.{cases_lt}
use Rattle.std.proofs.lemmas.Bool.Decides.{nat_tests}
use Rattle.std.proofs.lemmas.List.{length-drop, length-take-le}
use Rattle.boxes.specs.declared.leaf.Leaf.{Leaf}
use Rattle.line_fill.specs.Breaks.{stop_of}
use Rattle.line_fill.specs.Paragraphs.{IsParagraph}
use Rattle.line_fill.specs.Stops.{offsets_of}
use Rattle.line_fill.specs.declared.paragraph.Paragraph.{Paragraph}
use Rattle.line_fill.proofs.EndLemmas.{stop_within}
use Rattle.line_fill.proofs.LineLemmas.{stop-after}

-- the places after `from` and before `stop`
abbrev between : ℕ → ℕ → List ℕ → List ℕ
between from stop xs = filter (λ q. ltb from q && ltb q stop) xs

abbrev kept : ℕ → ℕ → ℕ → List ℕ → List ℕ
kept from stop x xs = cond (ltb from x && ltb x stop) (x ∷ xs) xs

kept-in : (from stop x : ℕ) (xs : List ℕ) → from < x → x < stop → kept from stop x xs ≡ x ∷ xs
kept-in from stop x xs low high =
    let e : ltb from x ≡ true = grind (arith, nat_tests) in
    let f : ltb x stop ≡ true = grind (arith, nat_tests) in
    rw (e, f) refl

kept-low : (from stop x : ℕ) (xs : List ℕ) → x ≤ from → kept from stop x xs ≡ xs
kept-low from stop x xs low = let e : ltb from x ≡ false = grind (arith, nat_tests) in rw e refl

kept-high : (from stop x : ℕ) (xs : List ℕ) → stop ≤ x → kept from stop x xs ≡ xs
kept-high from stop x xs high =
    let e : ltb x stop ≡ false = grind (arith, nat_tests) in rw e (by (ltb from x))
  where
    by : (b : Bool) → cond (b && false) (x ∷ xs) xs ≡ xs
    by true = refl
    by false = refl

-- they are a run of n, after m that stand before them
cut : (from stop : ℕ) (xs : List ℕ) (m n : ℕ) → m + n ≤ length xs → ((k : ℕ) → k < m → get_or xs k 0 ≤ from) →
    ((k : ℕ) → m ≤ k → k < m + n → (from < get_or xs k 0) × (get_or xs k 0 < stop)) →
    ((k : ℕ) → m + n ≤ k → k < length xs → stop ≤ get_or xs k 0) → between from stop xs ≡ take n (drop m xs)
cut from stop [] zero zero l low in' high = refl
cut from stop [] zero (suc n) l low in' high = absurd (omega arith)
cut from stop [] (suc m) n l low in' high = absurd (omega arith)
cut from stop (x ∷ xs) (suc m) n l low in' high =
    kept-low from stop x (between from stop xs) (low 0 (omega arith))
    ∙ cut from stop xs m n (omega arith) (λ k h. low (suc k) (omega arith)) (λ k g h. in' (suc k) (omega arith) (omega arith)) (λ k g h. high (suc k) (omega arith) (omega arith))
cut from stop (x ∷ xs) zero (suc n) l low in' high =
    let here = in' 0 (omega arith) (omega arith) in
    kept-in from stop x (between from stop xs) here.0 here.1
    ∙ ap (λ (ys : List ℕ). x ∷ ys) (cut from stop xs zero n (omega arith) (λ k h. absurd (omega arith)) (λ k g h. in' (suc k) (omega arith) (omega arith)) (λ k g h. high (suc k) (omega arith) (omega arith)))
cut from stop (x ∷ xs) zero zero l low in' high =
    kept-high from stop x (between from stop xs) (high 0 (omega arith) (omega arith))
    ∙ cut from stop xs zero zero (omega arith) (λ k h. absurd (omega arith)) (λ k g h. absurd (omega arith)) (λ k g h. high (suc k) (omega arith) (omega arith))

kept-most : (from stop x : ℕ) (xs : List ℕ) → length xs ≤ length (kept from stop x xs)
kept-most from stop x xs = by (ltb from x && ltb x stop)
  where
    by : (b : Bool) → length xs ≤ length (cond b (x ∷ xs) xs)
    by true = omega arith
    by false = omega arith

-- where a run of n of them is known, there are at least n
run : (from stop : ℕ) (xs : List ℕ) (m n : ℕ) → m + n ≤ length xs →
    ((k : ℕ) → m ≤ k → k < m + n → (from < get_or xs k 0) × (get_or xs k 0 < stop)) → n ≤ length (between from stop xs)
run from stop [] m n l in' = omega arith
run from stop (x ∷ xs) (suc m) n l in' =
    let r = run from stop xs m n (omega arith) (λ k g h. in' (suc k) (omega arith) (omega arith)) in
    let s = kept-most from stop x (between from stop xs) in
    omega arith
run from stop (x ∷ xs) zero zero l in' = omega arith
run from stop (x ∷ xs) zero (suc n) l in' =
    let here = in' 0 (omega arith) (omega arith) in
    let r = run from stop xs zero n (omega arith) (λ k g h. in' (suc k) (omega arith) (omega arith)) in
    let e = ap length (kept-in from stop x (between from stop xs) here.0 here.1) in
    omega arith

-- where a newline is sought up to a place, or to the end, something is found
pub sought-some : (leaf : Leaf) (from first end most : ℕ) → from < length leaf.text →
    ((k : ℕ) → first ≤ k → k < length leaf.places → from < get_or leaf.places k 0) → end ≡ min (stop_of leaf.text from) most →
    (most ≡ length leaf.text) ⊎ ((first + 4095 < length leaf.places) × (most ≡ get_or leaf.places (first + 4095) 0 + 1)) → from < end
sought-some leaf from first end most inside above e (inl h) = let s = stop-after leaf.text from inside in omega arith
sought-some leaf from first end most inside above e (inr h) =
    let s = stop-after leaf.text from inside in
    let l = h.0 in
    let m = h.1 in
    let a = above (first + 4095) (omega arith) l in
    omega arith

-- what is found of a paragraph: `end` is the newline's end, or where it was sought up to
pub record IsSought (leaf : Leaf) (from first last end most : ℕ) : Type 0 where
  pub inside : from < length leaf.text
  pub below : (k : ℕ) → k < first → get_or leaf.places k 0 ≤ from
  pub above : (k : ℕ) → first ≤ k → k < length leaf.places → from < get_or leaf.places k 0
  pub ends : end ≡ min (stop_of leaf.text from) most
  pub some : from < end
  pub within : last ≤ length leaf.places
  pub before : (k : ℕ) → k < last → get_or leaf.places k 0 ≤ end - 1
  pub past : (k : ℕ) → last ≤ k → k < length leaf.places → end - 1 < get_or leaf.places k 0

module _ (leaf : Leaf) (from first last end most : ℕ) (is : IsSought leaf from first last end most) (firsts : first ≤ length leaf.places) where
  pub order : first ≤ last
  order = ⊎_elim (λ (h : last < first). absurd (let b = is.below last h in let p = is.past last (omega arith) (omega arith) in let s = is.some in omega arith)) (λ (h : first ≤ last). h) (cases_lt last first)

  pub too-many : 4096 ≤ last - first → 4096 < length (offsets_of leaf from)
  unfolding offsets_of
  too-many h =
      let o = order in
      let w = is.within in
      let e = is.ends in
      let s = is.some in
      let r = run from (stop_of leaf.text from) leaf.places first (last - first) (omega arith) (λ k g l. let a = is.above k g (omega arith) in let b = is.before k (omega arith) in (omega arith, omega arith)) in
      let n = length-append (between from (stop_of leaf.text from) leaf.places) (stop_of leaf.text from ∷ []) in
      omega (arith, n, r)

  module _ (same : end ≡ stop_of leaf.text from) where
    pub offsets-cut : offsets_of leaf from ≡ take (last - first) (drop first leaf.places) ++ end ∷ []
    unfolding offsets_of
    offsets-cut =
        let o = order in
        let w = is.within in
        let s = is.some in
        let c = cut from (stop_of leaf.text from) leaf.places first (last - first) (omega arith) is.below
        (λ k g l. let a = is.above k g (omega arith) in let b = is.before k (omega arith) in (omega arith, omega arith))
        (λ k g l. let p = is.past k (omega arith) l in omega arith) in
        ap (λ (xs : List ℕ). xs ++ stop_of leaf.text from ∷ []) c ∙ ap (λ (z : ℕ). take (last - first) (drop first leaf.places) ++ z ∷ []) (sym same)

    pub is-paragraph : IsParagraph leaf (record { from = from; first = first; last = last; end = end })
    is-paragraph = record {
      inside = is.inside;
      end_is = same;
      order = order;
      within = is.within;
      before = λ k h. let b = is.before k h in let s = is.some in omega arith;
      after = λ k g h. let w = is.within in is.above k g (omega arith);
      offsets = offsets-cut;
    }

  -- where there aren't too many stops, it is the newline's end
  pub sought-all : (most ≡ length leaf.text) ⊎ ((first + 4095 < length leaf.places) × (most ≡ get_or leaf.places (first + 4095) 0 + 1)) →
      last - first < 4096 → end ≡ stop_of leaf.text from
  sought-all (inl h) few =
      let e = is.ends in
      let i = is.inside in
      let s = stop_within leaf.text from (omega arith) in
      omega (arith, s)
  sought-all (inr h) few =
      let e = is.ends in
      let l = h.0 in
      let m = h.1 in
      ⊎_elim (λ (g : most < stop_of leaf.text from). ⊎_elim
      (λ (k : first + 4095 < last). absurd (omega arith))
      (λ (k : last ≤ first + 4095). absurd (let p = is.past (first + 4095) k l in omega arith))
      (cases_lt (first + 4095) last))
      (λ (g : stop_of leaf.text from ≤ most). omega arith)
      (cases_lt most (stop_of leaf.text from))

-- the stops of a paragraph, by their indices
module _ (leaf : Leaf) (p : Paragraph) (is : IsParagraph leaf p) where
  run-length : length (take (p.last - p.first) (drop p.first leaf.places)) ≡ p.last - p.first
  run-length =
      let d = length-drop p.first leaf.places in
      let w = is.within in
      length-take-le (p.last - p.first) (drop p.first leaf.places) (omega (arith, d))

  pub offsets-count : length (offsets_of leaf p.from) ≡ p.last - p.first + 1
  offsets-count =
      ap length is.offsets
      ∙ length-append (take (p.last - p.first) (drop p.first leaf.places)) (p.end ∷ [])
      ∙ ap (λ (n : ℕ). n + 1) run-length
