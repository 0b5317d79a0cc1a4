-- what the marks keep are the values
use Rattle.std.proofs.Common.{◌≡◌, ℕ, zero, suc, ◌+◌, ◌≤◌, Bool, true, false, cond, List, [], ◌∷◌, Some, length, slice_get, take, refl, sym, ◌∙◌, ap, subst, arith}
use Rattle.std.specs.Prelude.{nat_le, filter, map, fold, reverse, ℤ}
use Rattle.std.proofs.lemmas.Bool.Decides.{nat_tests}
use Rattle.bk_num.specs.Numbers.{last_of}
use Rattle.counters.specs.declared.scopes.CounterEvent.{CounterEvent}
use Rattle.counters.specs.declared.scopes.ScopeMark.{ScopeMark}
use Rattle.counters.specs.declared.scopes.Act.{Act}
use Rattle.counters.specs.declared.scopes.Act.TheVariants as act
use Rattle.counters.specs.Scopes.{Each, AreNested, Scope, holding, implied, opened_by, opened, History, nothing_yet, with_event, history_of, value_of, or_zero, values_by, IsAfter}
use Rattle.counters.specs.Chains.{pair, past, beyond, all_of, seen_to, mark_at, kept_values, after_event, held_after, AreMarked}
use Rattle.counters.proofs.ScopeLemmas.{Nests, Holds, seen, after-event, held-later, each-map}
use Rattle.counters.proofs.ChainLemmas.{past-map, chain-none}
use Rattle.bk_num.proofs.ListLemmas.{slice_get_at}

each-both : {A : Type 0} (P Q R : A → Type 0) (xs : List A) → ((x : A) → P x → Q x → R x) → Each P xs → Each Q xs → Each R xs
each-both P Q R [] f p q = tt
each-both P Q R (x ∷ xs) f p q = (f x p.0 q.0, each-both P Q R xs f p.1 q.1)

nests-implied : (e f : CounterEvent) (scopes held : List Scope) → IsAfter e f → Each (Nests f.at f.end) scopes → Each (Nests f.at f.end) (implied scopes e.end held)
nests-implied e f scopes [] a h = (a.1, h)
nests-implied e f scopes (s ∷ held) a h = h

nests-opened : (e f : CounterEvent) (scopes : List Scope) → IsAfter e f → Each (Nests f.at f.end) scopes → Each (Nests f.at f.end) (opened scopes e)
nests-opened e f scopes a h = by e.act
  where
    by : (b : Act) → Each (Nests f.at f.end) (opened_by scopes e.at e.end b)
    by (act.Reset n) = (a.1, h)
    by (act.Add n) = nests-implied e f scopes (holding e.at scopes) a h

-- what is held after several events
pub record Runs (h : History) (at : ℕ) (held : List (ℕ × ℤ)) (events : List CounterEvent) : Type 0 where
  pub last : ℕ
  pub holds : Holds (fold with_event h events) last (fold after_event held events)
  pub until : (k : ℕ) → at ≤ k → Each (λ e. e.at ≤ k) events → last ≤ k

run : (events : List CounterEvent) (h : History) (at : ℕ) (held : List (ℕ × ℤ)) → Each (λ e. at ≤ e.at) events → AreNested events → Each (λ e. Each (Nests e.at e.end) h.scopes) events → Holds h at held → Runs h at held events
run [] h at held low nested nests is = record { last = at; holds = is; until = λ k l e. l }
run (e ∷ more) h at held low nested nests is =
    let next = after-event h at held e low.0 nested.0 nests.0 is in
    let r = run more (with_event h e) e.at (after_event held e) (each-map (IsAfter e) (λ f. e.at ≤ f.at) more (λ f a. a.0) nested.1) nested.2 (each-both (IsAfter e) (λ f. Each (Nests f.at f.end) h.scopes) (λ f. Each (Nests f.at f.end) (opened h.scopes e)) more (λ f a n. nests-opened e f h.scopes a n) nested.1 nests.1) next in
    record { last = r.last; holds = r.holds; until = λ k l g. r.until k g.0 g.1 }

no-scopes : (events : List CounterEvent) → Each (λ e. Each (Nests e.at e.end) nothing_yet.scopes) events
no-scopes [] = tt
no-scopes (e ∷ more) = (tt, no-scopes more)

from-0 : (events : List CounterEvent) → Each (λ e. 0 ≤ e.at) events
from-0 [] = tt
from-0 (e ∷ more) = (omega arith, from-0 more)

run-all : (events : List CounterEvent) → AreNested events → Runs nothing_yet 0 [] events
run-all events nested = run events nothing_yet 0 [] (from-0 events) nested (no-scopes events) (record { same = refl; rises = tt; numbered = tt; below = tt })

-- ---- the events up to a place

abbrev pub up_to : ℕ → List CounterEvent → List CounterEvent
up_to k events = filter (λ e. nat_le e.at k) events

pub filter-none : {A : Type 0} (p : A → Bool) (xs : List A) → Each (λ x. p x ≡ false) xs → filter p xs ≡ []
filter-none p [] h = refl
filter-none p (x ∷ xs) h = rw (h.0) (filter-none p xs h.1)

up-to-take : (k : ℕ) (events : List CounterEvent) → AreNested events → up_to k events ≡ take (length (up_to k events)) events
up-to-take k [] h = refl
up-to-take k (e ∷ more) h = by (nat_le e.at k) refl (up-to-take k more h.2)
  where
    by : (b : Bool) → nat_le e.at k ≡ b → up_to k more ≡ take (length (up_to k more)) more → cond b (e ∷ up_to k more) (up_to k more) ≡ take (length (cond b (e ∷ up_to k more) (up_to k more))) (e ∷ more)
    by true t r = ap (λ l. e ∷ l) r
    by false t r = let none : up_to k more ≡ [] = filter-none (λ f. nat_le f.at k) more (each-map (IsAfter e) (λ f. nat_le f.at k ≡ false) more (λ f a. let l = a.0 in grind (arith, nat_tests)) h.1) in rw none refl

up-to-each : (k : ℕ) (events : List CounterEvent) → Each (λ e. e.at ≤ k) (up_to k events)
up-to-each k [] = tt
up-to-each k (e ∷ more) = by (nat_le e.at k) refl (up-to-each k more)
  where
    by : (b : Bool) → nat_le e.at k ≡ b → Each (λ e. e.at ≤ k) (up_to k more) → Each (λ e. e.at ≤ k) (cond b (e ∷ up_to k more) (up_to k more))
    by true t r = (grind (arith, nat_tests), r)
    by false t r = r

nested-take : (n : ℕ) (events : List CounterEvent) → AreNested events → AreNested (take n events)
nested-take zero events h = tt
nested-take (suc n) [] h = tt
nested-take (suc n) (e ∷ more) h = (h.0, each-take n more h.1, nested-take n more h.2)
  where
    each-take : (n : ℕ) (xs : List CounterEvent) → Each (IsAfter e) xs → Each (IsAfter e) (take n xs)
    each-take zero xs h = tt
    each-take (suc n) [] h = tt
    each-take (suc n) (x ∷ xs) h = (h.0, each-take n xs h.1)

-- marks and events stand at the same places
seen-same : (k : ℕ) (marks : List ScopeMark) (events : List CounterEvent) → length marks ≡ length events → ((n : ℕ) (m : ScopeMark) (e : CounterEvent) → slice_get marks n ≡ Some m → slice_get events n ≡ Some e → m.at ≡ e.at) → length (filter (λ m. nat_le m.at k) marks) ≡ length (up_to k events)
seen-same k [] [] l at = refl
seen-same k [] (e ∷ events) l at = absurd (omega arith)
seen-same k (m ∷ marks) [] l at = absurd (omega arith)
seen-same k (m ∷ marks) (e ∷ events) l at = by (nat_le m.at k) (nat_le e.at k) (ap (λ a. nat_le a k) (at 0 m e refl refl)) (seen-same k marks events (omega arith) (λ n m e g h. at (suc n) m e g h))
  where
    by : (b c : Bool) → b ≡ c → length (filter (λ m. nat_le m.at k) marks) ≡ length (up_to k events) → length (cond b (m ∷ filter (λ m. nat_le m.at k) marks) (filter (λ m. nat_le m.at k) marks)) ≡ length (cond c (e ∷ up_to k events) (up_to k events))
    by true true q r = ap (λ n. suc n) r
    by true false q r = cc
    by false true q r = cc
    by false false q r = r

shorter : (k : ℕ) (marks : List ScopeMark) → length (filter (λ m. nat_le m.at k) marks) ≤ length marks
shorter k [] = omega arith
shorter k (m ∷ marks) = by (nat_le m.at k) (shorter k marks)
  where
    by : (b : Bool) → length (filter (λ m. nat_le m.at k) marks) ≤ length marks → length (cond b (m ∷ filter (λ m. nat_le m.at k) marks) (filter (λ m. nat_le m.at k) marks)) ≤ suc (length marks)
    by true r = omega arith
    by false r = omega arith

-- ---- values

value-pair : (xs : List ScopeMark) → map (λ m. m.value) xs ≡ map (λ (p : ℕ × ℤ). p.1) (map pair xs)
value-pair [] = refl
value-pair (m ∷ xs) = ap (λ l. m.value ∷ l) (value-pair xs)

value-seen : (inc : List (ℕ × ℤ)) (xs : List Scope) → map (λ (p : ℕ × ℤ). p.1) (map (seen inc) xs) ≡ map (value_of inc) xs
value-seen inc [] = refl
value-seen inc (s ∷ xs) = ap (λ l. value_of inc s ∷ l) (value-seen inc xs)

pub values-are : (events : List CounterEvent) (marks : List ScopeMark) (k : ℕ) → AreNested events → AreMarked events marks → kept_values marks k ≡ values_by events k
values-are events marks k nested is = answer
  where
    count : seen_to k marks ≡ length (up_to k events)
    count = seen-same k marks events is.count (λ n m e g h. (is.each n m g).at e h)

    ran : Runs nothing_yet 0 [] (up_to k events)
    ran = run-all (up_to k events) (subst AreNested (sym (up-to-take k events nested)) (nested-take (length (up_to k events)) events nested))

    held : past k (held_after (up_to k events)) ≡ map (seen (history_of (up_to k events)).increments) (holding k (history_of (up_to k events)).scopes)
    held = held-later (history_of (up_to k events)) ran.last k (held_after (up_to k events)) (ran.until k (omega arith) (up-to-each k events)) ran.holds

    kept : (n : ℕ) → seen_to k marks ≡ n → map pair (all_of marks (last_of n)) ≡ held_after (up_to k events)
    kept zero e = ap (map pair) (chain-none marks (length marks)) ∙ (let z : length (up_to k events) ≡ 0 = sym count ∙ e in let t = up-to-take k events nested in sym (ap held_after (t ∙ ap (λ n. take n events) z)))
    kept (suc j) e = of (slice_get_at marks j (omega (arith, e, few)))
      where
        few : seen_to k marks ≤ length marks
        few = shorter k marks

        of : ((m : ScopeMark) × (slice_get marks j ≡ Some m)) → map pair (all_of marks (Some j)) ≡ held_after (up_to k events)
        of (m, g) =
            let z : length (up_to k events) ≡ j + 1 = sym count ∙ e ∙ (let w : suc j ≡ j + 1 = omega arith in w) in
            let t = up-to-take k events nested in
            (is.each j m g).held ∙ sym (ap held_after (t ∙ ap (λ n. take n events) z))

    answer : kept_values marks k ≡ values_by events k
    answer = ap (λ l. or_zero (reverse l)) (value-pair (beyond k (all_of marks (mark_at k marks))) ∙ ap (map (λ (p : ℕ × ℤ). p.1)) (past-map k (all_of marks (mark_at k marks)) ∙ ap (past k) (kept (seen_to k marks) refl) ∙ held) ∙ value-seen (history_of (up_to k events)).increments (holding k (history_of (up_to k events)).scopes))
