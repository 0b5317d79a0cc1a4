-- At most so many values in a row, a turn at a time.
use Rattle.std.proofs.Common.{◌≡◌, ℕ, suc, ◌<◌, ◌≤◌, ◌-◌, ◌+◌, List, [], ◌∷◌, ◌++◌, ap, ◌∙◌, arith}
use Rattle.std.specs.Prelude.{Option, Some, None}
use Rattle.style.specs.Counters.{most_counters}
use Rattle.css_words.specs.Parser.{Input, Parser}
use Rattle.css_words.specs.Repeat.{with_prefix, fewer_than}
use Rattle.css_words.proofs.RepeatLemmas.{fewer_goes, fewer_stops, fewer_fails, fewer_ends}

pub entries_go : {A : Type 0} (p : Parser (Option A)) (xs : List A) (at : ℕ) (i j : Input) (x : A) → at < most_counters - 1 → p i ≡ Some (Some x, j) → with_prefix xs (fewer_than (most_counters - at) p i) ≡ with_prefix (xs ++ x ∷ []) (fewer_than (most_counters - (at + 1)) p j)
entries_go p xs at i j x low is =
    let turn : most_counters - at ≡ suc (most_counters - (at + 1)) = omega arith in
    ap (λ n. with_prefix xs (fewer_than n p i)) turn ∙ fewer_goes p (most_counters - (at + 1)) xs i j x is

pub entries_stop : {A : Type 0} (p : Parser (Option A)) (xs : List A) (at : ℕ) (i j : Input) → at ≤ most_counters - 1 → p i ≡ Some (None, j) → with_prefix xs (fewer_than (most_counters - at) p i) ≡ Some (xs, j)
entries_stop p xs at i j low is =
    let turn : most_counters - at ≡ suc (most_counters - (at + 1)) = omega arith in
    ap (λ n. with_prefix xs (fewer_than n p i)) turn ∙ fewer_stops p (most_counters - (at + 1)) xs i j is

pub entries_fail : {A : Type 0} (p : Parser (Option A)) (xs : List A) (at : ℕ) (i : Input) → at ≤ most_counters - 1 → p i ≡ None → with_prefix xs (fewer_than (most_counters - at) p i) ≡ None
entries_fail p xs at i low is =
    let turn : most_counters - at ≡ suc (most_counters - (at + 1)) = omega arith in
    ap (λ n. with_prefix xs (fewer_than n p i)) turn ∙ fewer_fails p (most_counters - (at + 1)) xs i is

pub entries_full : {A : Type 0} (p : Parser (Option A)) (xs : List A) (at : ℕ) (i j : Input) (x : A) → most_counters - 1 ≤ at → at ≤ most_counters - 1 → p i ≡ Some (Some x, j) → with_prefix xs (fewer_than (most_counters - at) p i) ≡ None
entries_full p xs at i j x high low is =
    let turn : most_counters - at ≡ suc 0 = omega arith in
    ap (λ n. with_prefix xs (fewer_than n p i)) turn ∙ fewer_goes p 0 xs i j x is ∙ fewer_ends p (xs ++ x ∷ []) j

-- a turn of the loop over the entries
pub ruleset entry_turns = (entries_go, entries_stop, entries_fail, entries_full)
