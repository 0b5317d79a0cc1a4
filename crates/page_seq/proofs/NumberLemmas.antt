-- The values of resets page by page, and the numbers that they give.
use Rattle.std.proofs.Common.{◌≡◌, ◌<◌, ℕ, ◌+◌, ◌^◌, ◌==◌, ℤ, pos, neg_ℤ, ◌≤ℤ◌, ◌+ℤ◌, Bool, true, false, cond, List, [], ◌∷◌, ◌++◌, Option, None, Some, option_map, unwrap_or, length, map, take, drop, get_or, slice_set, refl, sym, ◌∙◌, ap, subst, arith, add-one, drop-cons, suc}
use Rattle.std.specs.List.{All, AllByRecursion, filter, last_or}
use Rattle.std.proofs.lemmas.List.{take_more, get_or-map, length-map}
use Rattle.std.proofs.lemmas.List.Elements.{recursion_from_All}
use Rattle.std.proofs.lemmas.Int.{ints}
use Rattle.std.proofs.lemmas.List.FromFn.{fill_by_all, get_or-map-range_with_len, length-map-range_with_len}
use Rattle.std.proofs.lemmas.Grind.{common_steps}
use Rattle.boxes.specs.Tree.{Tree}
use Rattle.boxes.specs.declared.flow.Reset.{Reset}
use Rattle.boxes.specs.declared.page.Page.{Page}
use Rattle.page_seq.specs.Places.{page_of}
use Rattle.page_seq.specs.Numbers.{IsSmallReset, last_value, value_on, values_of, numbers_after, numbers_of}

abbrev value_of : Reset → ℤ
value_of r = r.value

-- one more reset at the end
last_more : (p : Reset → Bool) (o : Option Reset) (xs : List Reset) (r : Reset) → option_map value_of (last_or o (filter p (xs ++ r ∷ []))) ≡ cond (p r) (Some r.value) (option_map value_of (last_or o (filter p xs)))
last_more p o [] r = by (p r)
  where
    by : (b : Bool) → option_map value_of (last_or o (cond b (r ∷ []) [])) ≡ cond b (Some r.value) (option_map value_of o)
    by true = refl
    by false = refl
last_more p o (x ∷ xs) r = by (p x) (last_more p o xs r) (last_more p (Some x) xs r)
  where
    by : (b : Bool) → option_map value_of (last_or o (filter p (xs ++ r ∷ []))) ≡ cond (p r) (Some r.value) (option_map value_of (last_or o (filter p xs)))
        → option_map value_of (last_or (Some x) (filter p (xs ++ r ∷ []))) ≡ cond (p r) (Some r.value) (option_map value_of (last_or (Some x) (filter p xs)))
        → option_map value_of (last_or o (cond b (x ∷ filter p (xs ++ r ∷ [])) (filter p (xs ++ r ∷ [])))) ≡ cond (p r) (Some r.value) (option_map value_of (last_or o (cond b (x ∷ filter p xs) (filter p xs))))
    by true rest here = here
    by false rest here = rest

-- each place of a list has the value of the last of some resets that f sends there
abbrev pub AreValues : (Reset → ℕ) → List Reset → ℕ → List (Option ℤ) → Type 0
AreValues f resets n values = (k : ℕ) (d : Option ℤ) → k < n → get_or values k d ≡ last_value (filter (λ r. f r == k) resets)

set_by : (values : List (Option ℤ)) (k m : ℕ) (d v old : Option ℤ) (b : Bool) → k < length values → (m == k) ≡ b → get_or values k d ≡ old → get_or (slice_set values m v) k d ≡ cond b v old
set_by values k m d v old true h e is = grind (arith, common_steps)
set_by values k m d v old false h e is = grind (arith, common_steps)

-- the value of one more reset is written where f sends it
pub values_more : (f : Reset → ℕ) (resets : List Reset) (n i m : ℕ) (d : Reset) (values : List (Option ℤ)) → i < length resets → length values ≡ n → m ≡ f (get_or resets i d) → AreValues f (take i resets) n values →
    AreValues f (take (i + 1) resets) n (slice_set values m (Some (get_or resets i d).value))
values_more f resets n i m d values h size sent are k e l =
    let r = get_or resets i d in
    let last : last_value (filter (λ r. f r == k) (take (i + 1) resets)) ≡ cond (f r == k) (Some r.value) (last_value (filter (λ r. f r == k) (take i resets))) = ap (λ (rs : List Reset). last_value (filter (λ r. f r == k) rs)) (take_more resets i d h) ∙ last_more (λ r. f r == k) None (take i resets) r in
    set_by values k m e (Some r.value) (last_value (filter (λ r. f r == k) (take i resets))) (f r == k) (omega arith) (rw sent refl) (are k e l) ∙ sym last

pub all_values : (t : Tree) (pages : List Page) (resets : List Reset) (values : List (Option ℤ)) → length values ≡ length pages → AreValues (λ r. page_of t pages r.at) resets (length pages) values → values ≡ values_of t pages resets
all_values t pages resets values size are = fill_by_all (value_on t pages resets) values (length pages) None size (λ k l. are k None l)

-- ---- numbers

-- a value of a reset, if there is one, lies within 2^40
abbrev pub IsSmallValue : Option ℤ → Type 0
IsSmallValue None = Unit {0}
IsSmallValue (Some v) = (neg_ℤ (pos (2 ^ 40)) ≤ℤ v) × (v ≤ℤ pos (2 ^ 40))

small_last : (p : Reset → Bool) (o : Option Reset) (xs : List Reset) → IsSmallValue (option_map value_of o) → AllByRecursion IsSmallReset xs → IsSmallValue (option_map value_of (last_or o (filter p xs)))
small_last p o [] small all = small
small_last p o (x ∷ xs) small all = by (p x) (small_last p o xs small all.1) (small_last p (Some x) xs (all.0.low, all.0.high) all.1)
  where
    by : (b : Bool) → IsSmallValue (option_map value_of (last_or o (filter p xs))) → IsSmallValue (option_map value_of (last_or (Some x) (filter p xs))) → IsSmallValue (option_map value_of (last_or o (cond b (x ∷ filter p xs) (filter p xs))))
    by true rest here = here
    by false rest here = rest

-- each value of a list of values
pub small_value : (t : Tree) (pages : List Page) (resets : List Reset) (i : ℕ) (d : Option ℤ) → All IsSmallReset resets → i < length pages → IsSmallValue (get_or (values_of t pages resets) i d)
small_value t pages resets i d all h = subst IsSmallValue (sym (get_or-map-range_with_len (value_on t pages resets) 0 (length pages) i i d h (omega arith))) (small_last (λ r. page_of t pages r.at == i) None resets tt (recursion_from_All IsSmallReset resets all))

-- the next number keeps to its bounds
pub small_next : (value : Option ℤ) (before : ℤ) (i : ℕ) → IsSmallValue value → neg_ℤ (pos (2 ^ 40)) ≤ℤ before → before ≤ℤ pos (2 ^ 40 + i) → (neg_ℤ (pos (2 ^ 40)) ≤ℤ unwrap_or value (before +ℤ pos 1)) × (unwrap_or value (before +ℤ pos 1) ≤ℤ pos (2 ^ 40 + (i + 1)))
small_next None before i small low high = (omega (arith, ints), omega (arith, ints))
small_next (Some v) before i small low high = (small.0, omega (arith, ints, small.1))

pub numbers_more : (before : ℤ) (values : List (Option ℤ)) (i : ℕ) (d : Option ℤ) → i < length values → numbers_after before (drop i values) ≡ unwrap_or (get_or values i d) (before +ℤ pos 1) ∷ numbers_after (unwrap_or (get_or values i d) (before +ℤ pos 1)) (drop (i + 1) values)
numbers_more before values i d h = ap (numbers_after before) (drop-cons values i d h) ∙ rw add-one refl

-- the page that a reset belongs to, among those of all resets
pub number_at : (t : Tree) (pages : List Page) (resets : List Reset) (numbers : List ℕ) (i n : ℕ) (d : Reset) → i < length resets → numbers ≡ map (page_of t pages) (map (λ (r : Reset). r.at) resets) → n ≡ get_or numbers i n → n ≡ page_of t pages (get_or resets i d).at
number_at t pages resets numbers i n d h is read =
    read ∙ (ap (λ (ns : List ℕ). get_or ns i n) is
    ∙ (get_or-map (page_of t pages) (map (λ (r : Reset). r.at) resets) i d.at n (rw length-map h)
    ∙ ap (page_of t pages) (get_or-map (λ (r : Reset). r.at) resets i d d.at h)))

-- there are as many numbers as pages
length-after : (values : List (Option ℤ)) (before : ℤ) → length (numbers_after before values) ≡ length values
length-after [] before = refl
length-after (v ∷ values) before = ap suc (length-after values _)

pub numbers-many : (t : Tree) (pages : List Page) (resets : List Reset) → length (numbers_of t pages resets) ≡ length pages
numbers-many t pages resets = length-after (values_of t pages resets) _ ∙ length-map-range_with_len (value_on t pages resets) 0 (length pages)
