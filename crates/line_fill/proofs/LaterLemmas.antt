-- The places where lines can end after a place, and after one of these.
use Rattle.std.proofs.Common.{◌≡◌, ℕ, zero, suc, ◌+◌, ◌-◌, ◌<◌, ◌≤◌, Bool, true, false, cond, ◌&&◌, eqb, ltb, inl, inr, List, [], ◌∷◌, ◌++◌, length, get_or, drop, refl, sym, ◌∙◌, ap, subst, arith, length-append, length-drop}
use Rattle.std.proofs.Math.Seq.{get_or-append_seam}
use Rattle.std.proofs.lemmas.Bool.{and_parts, cases_lt}
use Rattle.std.proofs.lemmas.Bool.Decides.{nat_tests}
use Rattle.std.proofs.lemmas.List.{drop-append-le, drop-drop, get_or_append_left}
use Rattle.std.proofs.lemmas.List.Elements.{All-filter, filter_passes}
use Rattle.std.specs.List.{All, filter}
use Rattle.std.specs.List.Sorted.{IsStrictlyIncreasing}
use Rattle.boxes.specs.declared.leaf.Leaf.{Leaf}
use Rattle.line_fill.specs.Breaks.{line_len, stop_of}
use Rattle.line_fill.specs.Stops.{offsets_of}

-- where a stretch ends
len-past : (bs : List ℕ) (d : ℕ) → d < line_len bs → line_len bs ≡ d + line_len (drop d bs)
len-past [] d l = absurd (omega arith)
len-past (b ∷ bs) zero l = omega arith
len-past (b ∷ bs) (suc d) l = by (eqb b 10) l (λ g. len-past bs d g)
  where
    by : (t : Bool) → suc d < cond t 1 (suc (line_len bs)) → (d < line_len bs → line_len bs ≡ d + line_len (drop d bs)) →
        cond t 1 (suc (line_len bs)) ≡ suc d + line_len (drop d bs)
    by true g h = absurd (omega arith)
    by false g h = let e = h (omega arith) in omega (arith, e)

len-le : (bs : List ℕ) → line_len bs ≤ length bs
len-le [] = omega arith
len-le (b ∷ bs) = by (eqb b 10) (len-le bs)
  where
    by : (t : Bool) → line_len bs ≤ length bs → cond t 1 (suc (line_len bs)) ≤ suc (length bs)
    by true h = omega arith
    by false h = omega arith

pub stop-same : (text : List ℕ) (from to : ℕ) → from ≤ to → to < stop_of text from → stop_of text to ≡ stop_of text from
stop-same text from to low high =
    let e = len-past (drop from text) (to - from) (omega arith) in
    let i : from + (to - from) ≡ to = omega arith in
    let f : drop (to - from) (drop from text) ≡ drop to text = drop-drop (to - from) from text ∙ ap (λ (k : ℕ). drop k text) i in
    let g : line_len (drop from text) ≡ (to - from) + line_len (drop to text) = e ∙ ap (λ (bs : List ℕ). (to - from) + line_len bs) f in
    omega (arith, g)

pub stop-most : (text : List ℕ) (from to : ℕ) → from ≤ to → to < stop_of text from → to < length text
stop-most text from to low high =
    let l = len-le (drop from text) in
    let n = length-drop from text in
    omega (arith, l, n)

-- places that ascend from a place on
abbrev Rises : ℕ → List ℕ → Type 0
Rises b [] = Unit {0}
Rises b (x ∷ xs) = (b ≤ x) × Rises (suc x) xs

rises : (xs : List ℕ) (b : ℕ) → IsStrictlyIncreasing xs → (0 < length xs → b ≤ get_or xs 0 0) → Rises b xs
rises [] b s h = tt
rises (x ∷ xs) b s h = (h (omega arith), rises xs (suc x) tail (λ l. s 0 (omega arith)))
  where
    tail : IsStrictlyIncreasing xs
    tail k l = let e : suc k + 1 ≡ suc (k + 1) = omega arith in rw e at (s (suc k) (omega arith))

-- those of some places that stand between two places
abbrev between : ℕ → ℕ → List ℕ → List ℕ
between a s xs = filter (λ q. ltb a q && ltb q s) xs

-- where all stand after both of two places
same-between : (from to s b : ℕ) (xs : List ℕ) → from ≤ to → to < b → Rises b xs → between to s xs ≡ between from s xs
same-between from to s b [] low high r = refl
same-between from to s b (x ∷ xs) low high r =
    let o = r.0 in
    let e : ltb to x ≡ true = grind (arith, nat_tests) in
    let f : ltb from x ≡ true = grind (arith, nat_tests) in
    rw (e, f) (ap (λ (ys : List ℕ). cond (ltb x s) (x ∷ ys) ys) (same-between from to s (suc x) xs low (omega arith) r.1))

first-between : (a s b : ℕ) (xs : List ℕ) (j : ℕ) → Rises b xs → j < length (between a s xs) → b ≤ get_or (between a s xs) j 0
first-between a s b [] j r l = absurd (omega arith)
first-between a s b (x ∷ xs) j r l = by (ltb a x && ltb x s) j l (λ k h. first-between a s (suc x) xs k r.1 h)
  where
    by : (t : Bool) (j : ℕ) → j < length (cond t (x ∷ between a s xs) (between a s xs)) →
        ((k : ℕ) → k < length (between a s xs) → suc x ≤ get_or (between a s xs) k 0) →
        b ≤ get_or (cond t (x ∷ between a s xs) (between a s xs)) j 0
    by true zero l h = r.0
    by true (suc j) l h = let g = h j (omega arith) in let o = r.0 in omega arith
    by false j l h = let g = h j l in let o = r.0 in omega arith

-- those after one of them
rest-between : (from to s b : ℕ) (xs : List ℕ) (j : ℕ) → Rises b xs → j < length (between from s xs) →
    to ≡ get_or (between from s xs) j 0 → between to s xs ≡ drop (suc j) (between from s xs)
rest-between from to s b [] j r l e = absurd (omega arith)
rest-between from to s b (x ∷ xs) j r l e =
    by (ltb from x && ltb x s) refl j l e (λ k h g. rest-between from to s (suc x) xs k r.1 h g)
  where
    past : x ≤ to → cond (ltb to x && ltb x s) (x ∷ between to s xs) (between to s xs) ≡ between to s xs
    past h = let f : ltb to x ≡ false = grind (arith, nat_tests) in rw f refl

    by : (t : Bool) → t ≡ (ltb from x && ltb x s) → (j : ℕ) → j < length (cond t (x ∷ between from s xs) (between from s xs)) →
        to ≡ get_or (cond t (x ∷ between from s xs) (between from s xs)) j 0 →
        ((k : ℕ) → k < length (between from s xs) → to ≡ get_or (between from s xs) k 0 → between to s xs ≡ drop (suc k) (between from s xs)) →
        cond (ltb to x && ltb x s) (x ∷ between to s xs) (between to s xs) ≡ drop (suc j) (cond t (x ∷ between from s xs) (between from s xs))
    by true test zero l e h =
        let a : ltb from x ≡ true = (and_parts (ltb from x) (ltb x s) (sym test)).0 in
        let low : from < x = grind (arith, nat_tests) in
        past (omega arith) ∙ same-between from to s (suc x) xs (omega arith) (omega arith) r.1
    by true test (suc j) l e h =
        let g = first-between from s (suc x) xs j r.1 (omega arith) in
        past (omega (arith, e, g)) ∙ h j (omega arith) e
    by false test j l e h =
        let g = first-between from s (suc x) xs j r.1 l in
        past (omega (arith, e, g)) ∙ h j l e

passes : (a s : ℕ) (xs : List ℕ) (j : ℕ) → j < length (between a s xs) → (a < get_or (between a s xs) j 0) × (get_or (between a s xs) j 0 < s)
passes a s xs j l =
    let p : (ltb a (get_or (between a s xs) j 0) && ltb (get_or (between a s xs) j 0) s) ≡ true = filter_passes (λ q. ltb a q && ltb q s) xs j 0 l in
    tell (get_or (between a s xs) j 0) (and_parts _ _ p)
  where
    tell : (q : ℕ) → (ltb a q ≡ true) × (ltb q s ≡ true) → (a < q) × (q < s)
    tell q h = let x = h.0 in let y = h.1 in (grind (arith, nat_tests), grind (arith, nat_tests))

-- a place before the last one where a line can end
pub record IsLater (P : ℕ → Type 0) (leaf : Leaf) (from to j : ℕ) : Type 0 where
  pub after_from : from < to
  pub before : to < stop_of leaf.text from
  pub holds : P to
  pub offsets : offsets_of leaf to ≡ drop (suc j) (offsets_of leaf from)
  pub later : (k : ℕ) → k < length (offsets_of leaf to) → to < get_or (offsets_of leaf to) k 0

-- places between, and the last one
ended : (xs : List ℕ) (s j : ℕ) → suc j < length (xs ++ s ∷ []) → j < length xs
ended xs s j l = let n = length-append xs (s ∷ []) in omega (arith, n)

after-ended : (to s : ℕ) (xs : List ℕ) → to < s → ((k : ℕ) → k < length xs → to < get_or xs k 0) → (k : ℕ) →
    k < length (xs ++ s ∷ []) → to < get_or (xs ++ s ∷ []) k 0
after-ended to s xs last h k l = elim (cases_lt k (length xs)) [
  | inl g ↦ rw (get_or_append_left xs (s ∷ []) 0 k g) (h k g)
  | inr g ↦ (let n = length-append xs (s ∷ []) in
      let e : k ≡ length xs = omega (arith, n) in
      rw (e, get_or-append_seam xs s [] 0) last)
]

module _ (P : ℕ → Type 0) (leaf : Leaf) (from to j : ℕ) (rising : IsStrictlyIncreasing leaf.places) (all : All P leaf.places) where
  later-in : (s : ℕ) → s ≡ stop_of leaf.text from → j < length (between from s leaf.places) →
      to ≡ get_or (between from s leaf.places) j 0 → IsLater P leaf from to j
  unfolding offsets_of
  later-in s is l e =
      let p = passes from s leaf.places j l in
      let low : from < to = omega (arith, e, p.0) in
      let high : to < s = omega (arith, e, p.1) in
      let same : stop_of leaf.text to ≡ s = stop-same leaf.text from to (omega arith) (rw is at high) ∙ sym is in
      let cut : between to s leaf.places ≡ drop (suc j) (between from s leaf.places) =
      rest-between from to s 0 leaf.places j (rises leaf.places 0 rising (λ h. omega arith)) l e in
      record {
        after_from = low;
        before = rw (← is) high;
        holds = subst P (sym e) (All-filter (λ q. ltb from q && ltb q s) P leaf.places all j 0 l);
        offsets = rw (same, ← is) (ap (λ (xs : List ℕ). xs ++ s ∷ []) cut ∙ sym (drop-append-le (suc j) (between from s leaf.places) (s ∷ []) (omega arith)));
        later = rw same (after-ended to s (between to s leaf.places) high (λ k h. (passes to s leaf.places k h).0));
      }

  pub later-at : suc j < length (offsets_of leaf from) → to ≡ get_or (offsets_of leaf from) j 0 → IsLater P leaf from to j
  unfolding offsets_of
  later-at l e =
      let s = stop_of leaf.text from in
      let g = ended (between from s leaf.places) s j l in
      later-in s refl g (e ∙ get_or_append_left (between from s leaf.places) (s ∷ []) 0 j g)
