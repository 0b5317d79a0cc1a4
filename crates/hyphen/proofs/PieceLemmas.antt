-- What a new pattern adds to what the pieces of a word find.
use Rattle.std.proofs.Common.{◌≡◌, ◌≢◌, ℕ, ◌+◌, ◌-◌, ◌<◌, ◌≤◌, Bool, true, false, not, cond, ◌&&◌, ◌||◌, eqb, leb, List, length, get_or, take, drop, max, Result, Ok, Err, refl, sym, ap, ◌∙◌, arith, ⊎_elim, if◌then◌else◌, length-drop}
use Rattle.std.specs.Prelude.{OnOk}
use Rattle.std.specs.Bool.{beq}
use Rattle.std.specs.Str.{bytes_eq}
use Rattle.std.specs.Cmp.Lexicographic.{bytes_decides}
use Rattle.std.proofs.lemmas.Bool.{cases_lt, eqb-true}
use Rattle.std.proofs.lemmas.List.{length-take, length-take-le}
use Rattle.hyphen.specs.declared.tree.Node.{Node}
use Rattle.hyphen.specs.Fields.{two_values}
use Rattle.hyphen.specs.Pattern.{Pattern, matches, value_from, value_of, most}
use Rattle.hyphen.specs.Pieces.{TwoValues, branch_from, branch_value, piece_value, piece_from, pieces_from, pieces_value}
use Rattle.hyphen.specs.Tree.{values_in}
use Rattle.hyphen.proofs.MostLemmas.{most_max, most_none, most_one, most_same}

-- whether letters and kind of a pattern fit a piece
abbrev fits : Pattern → List ℕ → Bool → Bool → Bool
fits p piece s e = bytes_eq p.letters piece && ((not p.starts || s) && (not p.ends || e))

-- the kinds of patterns of which a piece may be one
kinds : (ps pe b s e : Bool) (t00 t01 t10 t11 v : ℕ) → max (max (if (beq ps false && beq pe false) && b then max t00 v else t00) (if e then (if (beq ps false && beq pe true) && b then max t01 v else t01) else 0)) (if s then max (if (beq ps true && beq pe false) && b then max t10 v else t10) (if e then (if (beq ps true && beq pe true) && b then max t11 v else t11) else 0) else 0) ≡ max (max (max t00 (if e then t01 else 0)) (if s then max t10 (if e then t11 else 0) else 0)) (if b && ((not ps || s) && (not pe || e)) then v else 0)
kinds true true true true true t00 t01 t10 t11 v = omega arith
kinds true true true true false t00 t01 t10 t11 v = omega arith
kinds true true true false true t00 t01 t10 t11 v = omega arith
kinds true true true false false t00 t01 t10 t11 v = omega arith
kinds true true false true true t00 t01 t10 t11 v = omega arith
kinds true true false true false t00 t01 t10 t11 v = omega arith
kinds true true false false true t00 t01 t10 t11 v = omega arith
kinds true true false false false t00 t01 t10 t11 v = omega arith
kinds true false true true true t00 t01 t10 t11 v = omega arith
kinds true false true true false t00 t01 t10 t11 v = omega arith
kinds true false true false true t00 t01 t10 t11 v = omega arith
kinds true false true false false t00 t01 t10 t11 v = omega arith
kinds true false false true true t00 t01 t10 t11 v = omega arith
kinds true false false true false t00 t01 t10 t11 v = omega arith
kinds true false false false true t00 t01 t10 t11 v = omega arith
kinds true false false false false t00 t01 t10 t11 v = omega arith
kinds false true true true true t00 t01 t10 t11 v = omega arith
kinds false true true true false t00 t01 t10 t11 v = omega arith
kinds false true true false true t00 t01 t10 t11 v = omega arith
kinds false true true false false t00 t01 t10 t11 v = omega arith
kinds false true false true true t00 t01 t10 t11 v = omega arith
kinds false true false true false t00 t01 t10 t11 v = omega arith
kinds false true false false true t00 t01 t10 t11 v = omega arith
kinds false true false false false t00 t01 t10 t11 v = omega arith
kinds false false true true true t00 t01 t10 t11 v = omega arith
kinds false false true true false t00 t01 t10 t11 v = omega arith
kinds false false true false true t00 t01 t10 t11 v = omega arith
kinds false false true false false t00 t01 t10 t11 v = omega arith
kinds false false false true true t00 t01 t10 t11 v = omega arith
kinds false false false true false t00 t01 t10 t11 v = omega arith
kinds false false false false true t00 t01 t10 t11 v = omega arith
kinds false false false false false t00 t01 t10 t11 v = omega arith

-- what a pattern puts where the piece of m + 1 letters is its own
own : Pattern → List ℕ → ℕ → ℕ → ℕ → ℕ
own p word place at m = if leb at place then (if fits p (take (m + 1) (drop at word)) (eqb at 0) (eqb (at + (m + 1)) (length word)) then get_or p.values (place - at) 0 else 0) else 0

guarded : (b : Bool) (x y z : ℕ) → x ≡ max y z → (if b then x else 0) ≡ max (if b then y else 0) (if b then z else 0)
guarded true x y z h = h
guarded false x y z h = refl

nested : (a b : Bool) (v : ℕ) → (if b then (if a then v else 0) else 0) ≡ (if a && b then v else 0)
nested true true v = refl
nested true false v = refl
nested false true v = refl
nested false false v = refl

-- letters fit no piece of another length
other_length : (p : Pattern) (piece : List ℕ) (s e : Bool) → length piece ≢ length p.letters → fits p piece s e ≡ false
other_length p piece s e d = by (bytes_eq p.letters piece) refl
  where
    by : (b : Bool) → bytes_eq p.letters piece ≡ b → (b && ((not p.starts || s) && (not p.ends || e))) ≡ false
    by true h = absurd (d (ap length (sym ((bytes_decides p.letters piece).0 h))))
    by false h = refl

length-piece : (word : List ℕ) (at m : ℕ) → m + 1 ≤ length word - at → length (take (m + 1) (drop at word)) ≡ m + 1
length-piece word at m h = length-take-le (m + 1) (drop at word) (rw length-drop h)

own_other : (p : Pattern) (word : List ℕ) (place at m : ℕ) → m + 1 ≤ length word - at → m + 1 ≢ length p.letters → own p word place at m ≡ 0
unfolding own
own_other p word place at m short d =
    let no : fits p (take (m + 1) (drop at word)) (eqb at 0) (eqb (at + (m + 1)) (length word)) ≡ false = other_length p (take (m + 1) (drop at word)) (eqb at 0) (eqb (at + (m + 1)) (length word)) (rw (length-piece word at m short) d) in
    rw no (both (leb at place))
  where
    both : (b : Bool) → cond {A = ℕ} b 0 0 ≡ 0
    both true = refl
    both false = refl

own_is : (p : Pattern) (word : List ℕ) (place at m : ℕ) → m + 1 ≡ length p.letters → own p word place at m ≡ value_from p word place at
unfolding own value_from matches
own_is p word place at m e = rw e (nested (fits p (take (length p.letters) (drop at word)) (eqb at 0) (eqb (at + length p.letters) (length word))) (leb at place) (get_or p.values (place - at) 0))

no_match : (p : Pattern) (word : List ℕ) (place at : ℕ) → length word - at < length p.letters → value_from p word place at ≡ 0
unfolding value_from matches
no_match p word place at h =
    let long : length (take (length p.letters) (drop at word)) ≡ length p.letters → ⊥ = λ e. omega (arith, e, length-take (length p.letters) (drop at word), length-drop at word) in
    let no : fits p (take (length p.letters) (drop at word)) (eqb at 0) (eqb (at + length p.letters) (length word)) ≡ false = other_length p (take (length p.letters) (drop at word)) (eqb at 0) (eqb (at + length p.letters) (length word)) long in
    rw no refl

-- of the pieces from a place on, a pattern is found once, where it matches
own_most : (p : Pattern) (word : List ℕ) (place at : ℕ) → 0 < length p.letters → most (length word - at) (own p word place at) ≡ value_from p word place at
own_most p word place at some = ⊎_elim
    (λ (h : length word - at < length p.letters). most_none (length word - at) (own p word place at) (λ k l. own_other p word place at k (omega arith) (omega arith)) ∙ sym (no_match p word place at h))
    (λ (h : length p.letters ≤ length word - at).
    most_one (length word - at) (length p.letters - 1) (own p word place at) (omega arith) (λ k l d. own_other p word place at k (omega arith) (omega arith)) ∙ own_is p word place at (length p.letters - 1) (omega arith))
    (cases_lt (length word - at) (length p.letters))

module _ (t u : TwoValues) (p : Pattern) (changed : (s e : Bool) (q : List ℕ) (k : ℕ) → u s e q k ≡ (if (beq p.starts s && beq p.ends e) && bytes_eq p.letters q then max (t s e q k) (get_or p.values k 0) else t s e q k)) where
  piece_more : (piece : List ℕ) (s e : Bool) (k : ℕ) → piece_value u piece s e k ≡ max (piece_value t piece s e k) (if fits p piece s e then get_or p.values k 0 else 0)
  unfolding piece_value branch_value
  piece_more piece s e k = rw (changed false false piece k, changed false true piece k, changed true false piece k, changed true true piece k) (kinds p.starts p.ends (bytes_eq p.letters piece) s e (t false false piece k) (t false true piece k) (t true false piece k) (t true true piece k) (get_or p.values k 0))

  piece_from_more : (word : List ℕ) (place at m : ℕ) → piece_from u word place at m ≡ max (piece_from t word place at m) (own p word place at m)
  unfolding piece_from own
  piece_from_more word place at m = guarded (leb at place) _ _ _ (piece_more (take (m + 1) (drop at word)) (eqb at 0) (eqb (at + (m + 1)) (length word)) (place - at))

  module _ (some : 0 < length p.letters) where
    from_more : (word : List ℕ) (place at : ℕ) → pieces_from u word place at ≡ max (pieces_from t word place at) (value_from p word place at)
    unfolding pieces_from
    from_more word place at =
        most_max (length word - at) (piece_from t word place at) (own p word place at) (piece_from u word place at) (λ m l. piece_from_more word place at m) ∙ ap (λ (x : ℕ). max (most (length word - at) (piece_from t word place at)) x) (own_most p word place at some)

    -- a new pattern raises the value of each place of each word by its own
    pub value_more : (word : List ℕ) (place : ℕ) → pieces_value u word place ≡ max (pieces_value t word place) (value_of p word place)
    unfolding pieces_value value_of
    value_more word place = most_max (length word) (pieces_from t word place) (value_from p word place) (pieces_from u word place) (λ at l. from_more word place at)

-- a pattern that was put into one of two trees
pub added_at_start : {T E : Type 0} (r : Result T E) (a old new : Node) (p : Pattern) (letters : List ℕ) → p.starts ≡ true → letters ≡ p.letters → 0 < length p.letters → OnOk r ((e : Bool) (q : List ℕ) (k : ℕ) → values_in new e q k ≡ (if beq p.ends e && bytes_eq letters q then max (values_in old e q k) (get_or p.values k 0) else values_in old e q k)) → OnOk r ((word : List ℕ) (place : ℕ) → pieces_value (two_values a new) word place ≡ max (pieces_value (two_values a old) word place) (value_of p word place))
added_at_start (Err x) a old new p letters starts is some put = tt
added_at_start (Ok x) a old new p letters starts is some put = value_more (two_values a old) (two_values a new) p changed some
  where
    changed : (s e : Bool) (q : List ℕ) (k : ℕ) → two_values a new s e q k ≡ (if (beq p.starts s && beq p.ends e) && bytes_eq p.letters q then max (two_values a old s e q k) (get_or p.values k 0) else two_values a old s e q k)
    changed true e q k = rw (starts, ← is) (put e q k)
    changed false e q k = rw starts refl

pub added_anywhere : {T E : Type 0} (r : Result T E) (s old new : Node) (p : Pattern) (letters : List ℕ) → p.starts ≡ false → letters ≡ p.letters → 0 < length p.letters → OnOk r ((e : Bool) (q : List ℕ) (k : ℕ) → values_in new e q k ≡ (if beq p.ends e && bytes_eq letters q then max (values_in old e q k) (get_or p.values k 0) else values_in old e q k)) → OnOk r ((word : List ℕ) (place : ℕ) → pieces_value (two_values new s) word place ≡ max (pieces_value (two_values old s) word place) (value_of p word place))
added_anywhere (Err x) s old new p letters starts is some put = tt
added_anywhere (Ok x) s old new p letters starts is some put = value_more (two_values old s) (two_values new s) p changed some
  where
    changed : (b e : Bool) (q : List ℕ) (k : ℕ) → two_values new s b e q k ≡ (if (beq p.starts b && beq p.ends e) && bytes_eq p.letters q then max (two_values old s b e q k) (get_or p.values k 0) else two_values old s b e q k)
    changed true e q k = rw starts refl
    changed false e q k = rw (starts, ← is) (put e q k)

-- what two trees find at the beginning of a word
pub pieces_at_start : (a s : Node) (word : List ℕ) (place at : ℕ) → at ≡ 0 → pieces_from (two_values a s) word place at ≡ max (most (length word - at) (branch_from (values_in a) word place at)) (most (length word - at) (branch_from (values_in s) word place at))
unfolding pieces_from piece_from branch_from piece_value
pieces_at_start a s word place at first = most_max (length word - at) (branch_from (values_in a) word place at) (branch_from (values_in s) word place at) (piece_from (two_values a s) word place at) (λ m l. each m)
  where
    both : (b : Bool) (x y : ℕ) → (if b then max x y else 0) ≡ max (if b then x else 0) (if b then y else 0)
    both true x y = refl
    both false x y = refl

    starts : eqb at 0 ≡ true
    starts = rw first refl

    each : (m : ℕ) → piece_from (two_values a s) word place at m ≡ max (branch_from (values_in a) word place at m) (branch_from (values_in s) word place at m)
    each m = rw starts (both (leb at place) _ _)

-- and further on
pub pieces_further : (a s : Node) (word : List ℕ) (place at : ℕ) → (at ≡ 0 → ⊥) → pieces_from (two_values a s) word place at ≡ most (length word - at) (branch_from (values_in a) word place at)
unfolding pieces_from piece_from branch_from piece_value
pieces_further a s word place at further = most_same (length word - at) (piece_from (two_values a s) word place at) (branch_from (values_in a) word place at) (λ m l. each m)
  where
    one : (b : Bool) (x : ℕ) → (if b then max x 0 else 0) ≡ (if b then x else 0)
    one true x = omega arith
    one false x = refl

    starts : (b : Bool) → eqb at 0 ≡ b → b ≡ false
    starts true is = absurd (further (eqb-true at 0 is))
    starts false is = refl

    each : (m : ℕ) → piece_from (two_values a s) word place at m ≡ branch_from (values_in a) word place at m
    each m = rw (starts (eqb at 0) refl) (one (leb at place) _)

-- trees without values find nothing
pub value_none : (a s : Node) → ((e : Bool) (q : List ℕ) (k : ℕ) → values_in a e q k ≡ 0) → ((e : Bool) (q : List ℕ) (k : ℕ) → values_in s e q k ≡ 0) → (word : List ℕ) (place : ℕ) → pieces_value (two_values a s) word place ≡ 0
unfolding pieces_value pieces_from piece_from piece_value branch_value
value_none a s none_a none_s word place = most_none (length word) (pieces_from (two_values a s) word place) (λ at l. most_none (length word - at) (piece_from (two_values a s) word place at) (λ m l. none at m))
  where
    zeros : (b s e : Bool) → (if b then max (max 0 (cond {A = ℕ} e 0 0)) (if s then max 0 (cond {A = ℕ} e 0 0) else 0) else 0) ≡ 0
    zeros true true true = refl
    zeros true true false = refl
    zeros true false true = refl
    zeros true false false = refl
    zeros false s e = refl

    none : (at m : ℕ) → piece_from (two_values a s) word place at m ≡ 0
    none at m =
        let piece = take (m + 1) (drop at word) in
        rw (none_a false piece (place - at), none_a true piece (place - at), none_s false piece (place - at), none_s true piece (place - at)) (zeros (leb at place) (eqb at 0) (eqb (at + (m + 1)) (length word)))

-- a value that is raised twice
pub raised_by_both : (v0 v1 v2 x y z : ℕ) → v1 ≡ max v0 x → v2 ≡ max v1 y → z ≡ max x y → v2 ≡ max v0 z
raised_by_both v0 v1 v2 x y z h1 h2 h3 = omega arith
