-- A turn of the loops of the grammar.
use Rattle.std.proofs.Common.{◌≡◌, ◌∙◌, ℕ, suc, ◌<◌, List, [], ◌∷◌, ◌++◌, length, refl, ap, sym, append_assoc, append-nil}
use Rattle.std.specs.Prelude.{Option, Some, None, IfNone}
use Rattle.std.proofs.lemmas.Option.{same_Some}
use Rattle.std.specs.List.{flat_map}
use Rattle.bk_num.specs.declared.values.Pseudo.{Pseudo}
use Rattle.css_words.specs.Parser.{◌>>=◌, Input, Outcome, and_then, on_some, pure}
use Rattle.css_words.specs.Repeat.{many, with_prefix}
use Rattle.css_words.proofs.RepeatLemmas.{many_more, many_last, many_err}
use Rattle.selectors.specs.declared.types.Join.{Join}
use Rattle.selectors.specs.Selectors.{SelectorView}
use Rattle.selectors.specs.declared.types.Compound.{Compound}
use Rattle.selectors.specs.declared.grammar.SimpleSelector.{SimpleSelector}
use Rattle.selectors.specs.declared.grammar.SimpleSelector.TheVariants as part
use Rattle.selectors.specs.Grammar.{Parts, next_part, tests_of, nots_of, parts_of, with_part, all_parts, pseudo_element, next_compound, next_turn, rest_from}

-- parts before those of an outcome
abbrev pub with_parts : Parts → Outcome (List SimpleSelector) → Outcome Parts
with_parts f None = None
with_parts f (Some r) = Some ((f.0 ++ flat_map tests_of r.0, f.1 ++ flat_map nots_of r.0), r.1)

one_more_part : (f : Parts) (x : SimpleSelector) (o : Outcome (List SimpleSelector)) → with_parts f (with_prefix (x ∷ []) o) ≡ with_parts (with_part f x) o
one_more_part f x None = refl
one_more_part f (part.Test x) (Some r) = ap (λ ts. Some ((ts, f.1 ++ flat_map nots_of r.0), r.1)) (sym (append_assoc f.0 (x ∷ []) (flat_map tests_of r.0)))
one_more_part f (part.Not x) (Some r) = ap (λ ns. Some ((f.0 ++ flat_map tests_of r.0, ns), r.1)) (sym (append_assoc f.1 (x ∷ []) (flat_map nots_of r.0)))

pub parts_begin : (i : Input) → all_parts i ≡ with_parts ([], []) (many next_part i)
unfolding all_parts
parts_begin i = begun (many next_part i)
  where
    begun : (o : Outcome (List SimpleSelector)) → and_then o (λ ps. pure (parts_of ps)) ≡ with_parts ([], []) o
    begun None = refl
    begun (Some r) = refl

pub parts_go : (f : Parts) (i j : Input) (x : SimpleSelector) → next_part i ≡ Some (Some x, j) → length j < length i → with_parts f (many next_part i) ≡ with_parts (with_part f x) (many next_part j)
parts_go f i j x is less = ap (with_parts f) (many_more next_part i j x is less) ∙ one_more_part f x (many next_part j)

pub parts_stop : (f : Parts) (i j : Input) → next_part i ≡ Some (None, j) → with_parts f (many next_part i) ≡ Some (f, j)
parts_stop f i j is = ap (with_parts f) (many_last next_part i j is) ∙ ended f j
  where
    ended : (f : Parts) (j : Input) → with_parts f (Some ([], j)) ≡ Some (f, j)
    ended f j = rw (append-nil f.0, append-nil f.1) refl

pub parts_fail : (f : Parts) (i : Input) → next_part i ≡ None → with_parts f (many next_part i) ≡ None
parts_fail f i is = ap (with_parts f) (many_err next_part i is)

-- a turn of the loop over the parts of a compound
pub ruleset part_turns = (parts_begin, parts_go, parts_stop, parts_fail)

rest_more : (n : ℕ) (parts : List Compound) (joins : List Join) (i j k : Input) (p : Pseudo) (x : Join × Compound) → pseudo_element i ≡ Some (p, j) → next_compound p j ≡ Some (Some x, k) → rest_from (suc n) parts joins i ≡ rest_from n (parts ++ x.1 ∷ []) (joins ++ x.0 ∷ []) k
unfolding rest_from
rest_more n parts joins i j k p x is next = rw is (rw next)

rest_last : (n : ℕ) (parts : List Compound) (joins : List Join) (i j k : Input) (p : Pseudo) → pseudo_element i ≡ Some (p, j) → next_compound p j ≡ Some (None, k) → rest_from (suc n) parts joins i ≡ Some (record { parts = parts; joins = joins; pseudo = p }, k)
unfolding rest_from
rest_last n parts joins i j k p is next = rw is (rw next)

rest_err : (n : ℕ) (parts : List Compound) (joins : List Join) (i : Input) → pseudo_element i ≡ None → rest_from (suc n) parts joins i ≡ None
unfolding rest_from
rest_err n parts joins i is = rw is

rest_none : (n : ℕ) (parts : List Compound) (joins : List Join) (i j : Input) (p : Pseudo) → pseudo_element i ≡ Some (p, j) → next_compound p j ≡ None → rest_from (suc n) parts joins i ≡ None
unfolding rest_from
rest_none n parts joins i j p is next = rw is (rw next)

abbrev Turned : Type 0
Turned = Option Pseudo × List Compound × List Join

-- what a turn gives where a pseudo-element and what follows it were read
abbrev turned : List Compound → List Join → Pseudo → Option (Join × Compound) → Input → Outcome Turned
turned parts joins p c = on_some {B = Turned} c (pure {A = Turned} (Some p, parts, joins)) (λ x. pure {A = Turned} (None, parts ++ x.1 ∷ [], joins ++ x.0 ∷ []))

-- a turn of the loop over the compounds of a selector
pub turn_more : (n : ℕ) (parts ps : List Compound) (joins js : List Join) (i k : Input) → next_turn parts joins i ≡ Some ((None, ps, js), k) → rest_from (suc n) parts joins i ≡ rest_from n ps js k
turn_more n parts ps joins js i k is = by (pseudo_element i) refl is
  where
    of : (p : Pseudo) (j : Input) → pseudo_element i ≡ Some (p, j) → (o : Outcome (Option (Join × Compound))) → next_compound p j ≡ o
        → and_then {B = Turned} o (turned parts joins p) ≡ Some ((None, ps, js), k) → rest_from (suc n) parts joins i ≡ rest_from n ps js k
    of p j e None f h = absurd (cc)
    of p j e (Some (None, l)) f h =
        let s : ◌≡◌ {A = Option Pseudo} (Some p) None = ap (λ (z : Turned × Input). z.0.0) (same_Some {A = Turned × Input} ((Some p, parts, joins), l) ((None, ps, js), k) h) in absurd (cc)
    of p j e (Some (Some x, l)) f h =
        let same : ◌≡◌ {A = Turned × Input} ((None, parts ++ x.1 ∷ [], joins ++ x.0 ∷ []), l) ((None, ps, js), k) = cc in
        rest_more n parts joins i j l p x e f ∙ ap (λ (z : Turned × Input). rest_from n z.0.1 z.0.2 z.1) same

    by : (o : Outcome Pseudo) → pseudo_element i ≡ o → and_then {B = Turned} o (λ p. next_compound p >>= turned parts joins p) ≡ Some ((None, ps, js), k)
        → rest_from (suc n) parts joins i ≡ rest_from n ps js k
    by None e h = absurd (cc)
    by (Some (p, j)) e h = of p j e (next_compound p j) refl h

abbrev ended : List Compound → List Join → Pseudo → Input → Outcome SelectorView
ended parts joins p i = Some (record { parts = parts; joins = joins; pseudo = p }, i)

pub turn_last : (n : ℕ) (parts ps : List Compound) (joins js : List Join) (i k : Input) (q : Pseudo) → next_turn parts joins i ≡ Some ((Some q, ps, js), k) → rest_from (suc n) parts joins i ≡ Some (record { parts = ps; joins = js; pseudo = q }, k)
turn_last n parts ps joins js i k q is = by (pseudo_element i) refl is
  where
    of : (p : Pseudo) (j : Input) → pseudo_element i ≡ Some (p, j) → (o : Outcome (Option (Join × Compound))) → next_compound p j ≡ o
        → and_then {B = Turned} o (turned parts joins p) ≡ Some ((Some q, ps, js), k) → rest_from (suc n) parts joins i ≡ Some (record { parts = ps; joins = js; pseudo = q }, k)
    of p j e None f h = absurd (cc)
    of p j e (Some (Some x, l)) f h =
        let s : ◌≡◌ {A = Option Pseudo} None (Some q) = ap (λ (z : Turned × Input). z.0.0) (same_Some {A = Turned × Input} ((None, parts ++ x.1 ∷ [], joins ++ x.0 ∷ []), l) ((Some q, ps, js), k) h) in absurd (cc)
    of p j e (Some (None, l)) f h =
        let same : ◌≡◌ {A = Turned × Input} ((Some p, parts, joins), l) ((Some q, ps, js), k) = cc in
        let pseudo : p ≡ q = same_Some p q (ap (λ (z : Turned × Input). z.0.0) same) in
        rest_last n parts joins i j l p e f ∙ ap (λ (z : Turned × Input). ended z.0.1 z.0.2 p z.1) same ∙ ap (λ z. ended ps js z k) pseudo

    by : (o : Outcome Pseudo) → pseudo_element i ≡ o → and_then {B = Turned} o (λ p. next_compound p >>= turned parts joins p) ≡ Some ((Some q, ps, js), k)
        → rest_from (suc n) parts joins i ≡ Some (record { parts = ps; joins = js; pseudo = q }, k)
    by None e h = absurd (cc)
    by (Some (p, j)) e h = of p j e (next_compound p j) refl h

pub turn_err : (n : ℕ) (parts : List Compound) (joins : List Join) (i : Input) → next_turn parts joins i ≡ None → rest_from (suc n) parts joins i ≡ None
turn_err n parts joins i is = by (pseudo_element i) refl is
  where
    of : (p : Pseudo) (j : Input) → pseudo_element i ≡ Some (p, j) → (o : Outcome (Option (Join × Compound))) → next_compound p j ≡ o
        → and_then {B = Turned} o (turned parts joins p) ≡ None → rest_from (suc n) parts joins i ≡ None
    of p j e None f h = rest_none n parts joins i j p e f
    of p j e (Some (None, l)) f h = absurd (cc)
    of p j e (Some (Some x, l)) f h = absurd (cc)

    by : (o : Outcome Pseudo) → pseudo_element i ≡ o → and_then {B = Turned} o (λ p. next_compound p >>= turned parts joins p) ≡ None → rest_from (suc n) parts joins i ≡ None
    by None e h = rest_err n parts joins i e
    by (Some (p, j)) e h = of p j e (next_compound p j) refl h

-- what holds where there is none
pub of-none : {A : Type 0} {P : Type 0} (o : Option A) → o ≡ None → IfNone o P → P
of-none None e h = h
of-none (Some x) e h = absurd (cc)
