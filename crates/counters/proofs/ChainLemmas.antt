-- chains of marks
use Rattle.std.proofs.Common.{◌≡◌, ℕ, zero, suc, ◌+◌, ◌<◌, ◌≤◌, Bool, true, false, cond, List, [], ◌∷◌, ◌++◌, Option, None, Some, length, slice_get, refl, sym, ◌∙◌, ap, subst, arith, get_or, leb, length-append, ◌⊎◌, inl, inr}
use Rattle.std.specs.Prelude.{nat_le, filter, map, fold, take, IfSome, ℤ, ◌+ℤ◌, ◌^◌, FitsSigned}
use Rattle.std.specs.Int.{w64}
use Rattle.std.proofs.lemmas.Option.{slice_get_within}
use Rattle.std.specs.List.Sorted.{IsPartitionPoint, IsNonDecreasingBy}
use Rattle.std.proofs.lemmas.Option.{slice_get-get_or}
use Rattle.bk_num.specs.Numbers.{last_of}
use Rattle.counters.specs.declared.scopes.ScopeMark.{ScopeMark}
use Rattle.counters.specs.declared.scopes.CounterEvent.{CounterEvent}
use Rattle.counters.specs.declared.scopes.Act.TheVariants as act
use Rattle.counters.specs.Chains.{chain, link, all_of, front, beyond, AreFalling, pair, past, with_added, after_event, held_after, innermost_of, IsMarked, IsNext, IsPastLong, AreMarks}
use Rattle.counters.proofs.Heights.{height}
use Rattle.bk_num.proofs.ListLemmas.{get-keep, get-push, get-end, slice_get_at}

-- how long a chain may be doesn't matter once it is long enough
pub chain-same : (marks : List ScopeMark) → AreFalling marks → (d e : ℕ) (o : Option ℕ) → height o ≤ d → height o ≤ e → chain d marks o ≡ chain e marks o
unfolding chain
chain-same marks falls zero zero o a b = refl
chain-same marks falls zero (suc e) None a b = refl
chain-same marks falls (suc d) zero None a b = refl
chain-same marks falls (suc d) (suc e) None a b = refl
chain-same marks falls zero e (Some i) a b = absurd (omega arith)
chain-same marks falls (suc d) zero (Some i) a b = absurd (omega arith)
chain-same marks falls (suc d) (suc e) (Some i) a b = by (λ o l h. chain-same marks falls d e o l h) (slice_get marks i) refl
  where
    low : ((o : Option ℕ) → height o ≤ d → height o ≤ e → chain d marks o ≡ chain e marks o) → (m : ScopeMark) (o : Option ℕ) → slice_get marks i ≡ Some m → m.outer ≡ o → chain d marks o ≡ chain e marks o
    low rec m None g h = rec None (omega arith) (omega arith)
    low rec m (Some j) g h = let f = falls i j m g h in rec (Some j) (omega arith) (omega arith)

    by : ((o : Option ℕ) → height o ≤ d → height o ≤ e → chain d marks o ≡ chain e marks o) → (o : Option ScopeMark) → slice_get marks i ≡ o → link (chain d marks) o ≡ link (chain e marks) o
    by rec None g = refl
    by rec (Some m) g = ap (λ l. m ∷ l) (low rec m m.outer g refl)

-- a mark and those outside it
pub chain-step : (marks : List ScopeMark) → AreFalling marks → (most i : ℕ) (m : ScopeMark) → length marks ≤ most → slice_get marks i ≡ Some m → chain most marks (Some i) ≡ m ∷ chain most marks m.outer
unfolding chain
chain-step marks falls zero i m l g = let w = slice_get_within marks i m g in absurd (omega arith)
chain-step marks falls (suc most) i m l g = rw g (ap (λ c. m ∷ c) (low m.outer refl))
  where
    low : (o : Option ℕ) → m.outer ≡ o → chain most marks o ≡ chain (suc most) marks o
    low None h = chain-same marks falls most (suc most) None (omega arith) (omega arith)
    low (Some j) h = let w = slice_get_within marks i m g in let f = falls i j m g h in chain-same marks falls most (suc most) (Some j) (omega arith) (omega arith)

-- no mark
pub chain-none : (marks : List ScopeMark) (most : ℕ) → chain most marks None ≡ []
unfolding chain
chain-none marks zero = refl
chain-none marks (suc most) = refl

-- no mark of that number
pub chain-past : (marks : List ScopeMark) (most i : ℕ) → slice_get marks i ≡ None → chain most marks (Some i) ≡ []
unfolding chain
chain-past marks zero i g = refl
chain-past marks (suc most) i g = rw g refl

-- how far a place's marks go
pub count-front : {A : Type 0} (p : A → Bool) (xs : List A) (n : ℕ) → n ≤ length xs → ((k : ℕ) (x : A) → k < n → slice_get xs k ≡ Some x → p x ≡ true) → ((k : ℕ) (x : A) → n ≤ k → slice_get xs k ≡ Some x → p x ≡ false) → length (filter p xs) ≡ n
count-front p [] zero l holds fails = refl
count-front p [] (suc n) l holds fails = absurd (omega arith)
count-front p (x ∷ xs) zero l holds fails = rw (fails 0 x (omega arith) refl) (count-front p xs zero (omega arith) (λ k y a g. absurd (omega arith)) (λ k y a g. fails (suc k) y (omega arith) g))
count-front p (x ∷ xs) (suc n) l holds fails = rw (holds 0 x (omega arith) refl) (let e = count-front p xs n (omega arith) (λ k y a g. holds (suc k) y (omega arith) g) (λ k y a g. fails (suc k) y (omega arith) g) in omega arith)

pub count-point : (marks : List ScopeMark) (place n : ℕ) → n ≤ length marks → IsPartitionPoint (λ m. leb m.at place ≡ true) (λ m. leb m.at place ≡ false) marks n → length (filter (λ m. nat_le m.at place) marks) ≡ n
count-point marks place n l point = count-front (λ m. nat_le m.at place) marks n l (λ k x a g. let w = slice_get_within marks k x g in same x true (subst (λ m. leb m.at place ≡ true) (got k x g) (point.0 k x (omega arith) a))) (λ k x a g. let w = slice_get_within marks k x g in same x false (subst (λ m. leb m.at place ≡ false) (got k x g) (point.1 k x a w)))
  where
    got : (k : ℕ) (x : ScopeMark) → slice_get marks k ≡ Some x → get_or marks k x ≡ x
    got k x g = let w = slice_get_within marks k x g in let e = slice_get-get_or marks k x w in cc

    same : (x : ScopeMark) (b : Bool) → leb x.at place ≡ b → nat_le x.at place ≡ b
    same x b h = h

-- passing a mark whose scope has ended, and stopping at one that hasn't
pub beyond-ended : (marks : List ScopeMark) → AreFalling marks → (most i place : ℕ) (m : ScopeMark) → length marks ≤ most → slice_get marks i ≡ Some m → nat_le m.end place ≡ true → beyond place (chain most marks (Some i)) ≡ beyond place (chain most marks m.outer)
beyond-ended marks falls most i place m l g e = rw (chain-step marks falls most i m l g, e) refl

pub beyond-held : (marks : List ScopeMark) → AreFalling marks → (most i place : ℕ) (m : ScopeMark) → length marks ≤ most → slice_get marks i ≡ Some m → nat_le m.end place ≡ false → beyond place (chain most marks (Some i)) ≡ chain most marks (Some i)
beyond-held marks falls most i place m l g e = rw (chain-step marks falls most i m l g, e) refl

-- the mark at the front of a chain is the one that the number names
pub front-is : (marks : List ScopeMark) (i : ℕ) → slice_get marks i ≡ front (all_of marks (Some i))
unfolding chain
front-is marks i = by (slice_get marks i) refl (length marks) refl
  where
    by : (o : Option ScopeMark) → slice_get marks i ≡ o → (d : ℕ) → length marks ≡ d → slice_get marks i ≡ front (chain d marks (Some i))
    by None e d l = e ∙ sym (ap front (chain-past marks d i e))
    by (Some m) e zero l = let w = slice_get_within marks i m e in absurd (omega arith)
    by (Some m) e (suc d) l = rw e refl

pub front-none : (marks : List ScopeMark) → front (all_of marks None) ≡ None
front-none marks = ap front (chain-none marks (length marks))

-- a front has a number
pub front-some : (marks : List ScopeMark) (o : Option ℕ) (m : ScopeMark) → front (all_of marks o) ≡ Some m → (i : ℕ) × (o ≡ Some i) × (slice_get marks i ≡ Some m)
front-some marks None m h = let e : ◌≡◌ {A = Option ScopeMark} None (Some m) = sym (front-none marks) ∙ h in cc
front-some marks (Some i) m h = (i, refl, front-is marks i ∙ h)

pub front-step : (marks : List ScopeMark) → AreFalling marks → (o : Option ℕ) (m : ScopeMark) → front (all_of marks o) ≡ Some m → all_of marks o ≡ m ∷ all_of marks m.outer
front-step marks falls o m h = by (front-some marks o m h)
  where
    by : ((i : ℕ) × (o ≡ Some i) × (slice_get marks i ≡ Some m)) → all_of marks o ≡ m ∷ all_of marks m.outer
    by (i, e, g) = rw e (chain-step marks falls (length marks) i m (omega arith) g)

pub front-lower : (marks : List ScopeMark) → AreFalling marks → (o : Option ℕ) (m : ScopeMark) → front (all_of marks o) ≡ Some m → height m.outer < height o
front-lower marks falls o m h = by (front-some marks o m h) m.outer refl
  where
    by : ((i : ℕ) × (o ≡ Some i) × (slice_get marks i ≡ Some m)) → (q : Option ℕ) → m.outer ≡ q → height q < height o
    by (i, e, g) None f = rw e (omega arith)
    by (i, e, g) (Some j) f = let l = falls i j m g f in rw e (omega arith)

pub front-empty : (xs : List ScopeMark) → front xs ≡ None → xs ≡ []
front-empty [] h = refl
front-empty (m ∷ xs) h = cc

pub front-cons : (xs : List ScopeMark) (m : ScopeMark) → front xs ≡ Some m → (more : List ScopeMark) × (xs ≡ m ∷ more)
front-cons [] m h = cc
front-cons (x ∷ xs) m h = let e : x ≡ m = cc in (xs, rw e refl)

-- the same seen as ends with values
pub past-map : (k : ℕ) (xs : List ScopeMark) → map pair (beyond k xs) ≡ past k (map pair xs)
past-map k [] = refl
past-map k (m ∷ xs) = by (nat_le m.end k) (past-map k xs)
  where
    by : (b : Bool) → map pair (beyond k xs) ≡ past k (map pair xs) → map pair (cond b (beyond k xs) (m ∷ xs)) ≡ cond b (past k (map pair xs)) (pair m ∷ map pair xs)
    by true h = h
    by false h = refl

-- ---- a new mark

pub next-reset : (marks : List ScopeMark) (e : CounterEvent) (n : ℤ) (outer : Option ℕ) (m : ScopeMark) → e.act ≡ act.Reset n → m ≡ record { at = e.at; end = e.end; value = n; outer = outer } → all_of marks outer ≡ beyond e.end (all_of marks (last_of (length marks))) → IfSome outer (λ i. i < length marks) → IsNext marks e m
next-reset marks e n outer m k is c within = rw is (record {
  at = refl;
  held = rw k (ap (λ l. (e.end, n) ∷ l) (ap (map pair) c ∙ past-map e.end (all_of marks (last_of (length marks)))));
  falls = λ j h. low outer j h within;
})
  where
    low : (o : Option ℕ) (j : ℕ) → o ≡ Some j → IfSome o (λ i. i < length marks) → j < length marks
    low None j h w = cc
    low (Some i) j h w = let same : i ≡ j = cc in rw (← same) w

pub next-added : (marks : List ScopeMark) → AreFalling marks → (e : CounterEvent) (n : ℤ) (r : Option ℕ) (before m : ScopeMark) → e.act ≡ act.Add n → front (all_of marks r) ≡ Some before → m ≡ record { at = e.at; end = before.end; value = before.value +ℤ n; outer = before.outer } → all_of marks r ≡ beyond e.at (all_of marks (last_of (length marks))) → IsNext marks e m
next-added marks falls e n r before m k f is c = rw is (record {
  at = refl;
  held = rw k (sym (ap (with_added e.end n) (sym (past-map e.at (all_of marks (last_of (length marks)))) ∙ ap (map pair) (sym c ∙ front-step marks falls r before f))));
  falls = λ j h. low j h (front-some marks r before f);
})
  where
    low : (j : ℕ) → before.outer ≡ Some j → ((i : ℕ) × (r ≡ Some i) × (slice_get marks i ≡ Some before)) → j < length marks
    low j h (i, o, g) = let w = slice_get_within marks i before g in let l = falls i j before g h in omega arith

pub next-first : (marks : List ScopeMark) (e : CounterEvent) (n : ℤ) (r : Option ℕ) (m : ScopeMark) → e.act ≡ act.Add n → front (all_of marks r) ≡ None → m ≡ record { at = e.at; end = e.end; value = n; outer = None } → all_of marks r ≡ beyond e.at (all_of marks (last_of (length marks))) → IsNext marks e m
next-first marks e n r m k f is c = rw is (record {
  at = refl;
  held = rw (k, chain-none marks (length marks)) (sym (ap (with_added e.end n) (sym (past-map e.at (all_of marks (last_of (length marks)))) ∙ ap (map pair) (sym c ∙ front-empty (all_of marks r) f))));
  falls = λ j h. cc;
})

-- a value that 64 bits don't hold
pub added-past : (marks : List ScopeMark) → AreFalling marks → (e : CounterEvent) (n : ℤ) (r : Option ℕ) (before : ScopeMark) → e.act ≡ act.Add n → front (all_of marks r) ≡ Some before → all_of marks r ≡ beyond e.at (all_of marks (last_of (length marks))) → (FitsSigned w64 (before.value +ℤ n) → ⊥) → IsPastLong marks e
added-past marks falls e n r before k f c h = subst (λ (v : ℤ). FitsSigned w64 v → ⊥) (sym is) h
  where
    is : innermost_of (after_event (map pair (all_of marks (last_of (length marks)))) e) ≡ before.value +ℤ n
    is = rw k (ap (λ (l : List (ℕ × ℤ)). innermost_of (with_added e.end n l)) (sym (past-map e.at (all_of marks (last_of (length marks)))) ∙ ap (map pair) (sym c ∙ front-step marks falls r before f)))

-- ---- one more mark

-- a fold over one more of a list's first
fold-take : {A B : Type 0} (f : B → A → B) (b : B) (xs : List A) (n : ℕ) (x : A) → slice_get xs n ≡ Some x → fold f b (take (n + 1) xs) ≡ f (fold f b (take n xs)) x
fold-take f b [] n x h = cc
fold-take f b (y ∷ xs) zero x h = let e : y ≡ x = cc in rw e refl
fold-take f b (y ∷ xs) (suc n) x h = let e : suc n + 1 ≡ suc (n + 1) = omega arith in rw e (fold-take f (f b y) xs n x h)

keep-step : (marks : List ScopeMark) (m : ScopeMark) → AreFalling marks → (d : ℕ) (o : Option ℕ) → height o ≤ length marks → chain d (marks ++ m ∷ []) o ≡ chain d marks o
unfolding chain
keep-step marks m falls zero o l = refl
keep-step marks m falls (suc d) None l = refl
keep-step marks m falls (suc d) (Some i) l = by (λ o h. keep-step marks m falls d o h) (slice_get_at marks i (omega arith))
  where
    low : ((o : Option ℕ) → height o ≤ length marks → chain d (marks ++ m ∷ []) o ≡ chain d marks o) → (x : ScopeMark) → slice_get marks i ≡ Some x → (o : Option ℕ) → x.outer ≡ o → chain d (marks ++ m ∷ []) o ≡ chain d marks o
    low rec x g None e = rec None (omega arith)
    low rec x g (Some j) e = let f = falls i j x g e in rec (Some j) (omega arith)

    by : ((o : Option ℕ) → height o ≤ length marks → chain d (marks ++ m ∷ []) o ≡ chain d marks o) → ((x : ScopeMark) × (slice_get marks i ≡ Some x)) → link (chain d (marks ++ m ∷ [])) (slice_get (marks ++ m ∷ []) i) ≡ link (chain d marks) (slice_get marks i)
    by rec (x, g) = rw (get-keep marks (m ∷ []) i x g, g) (ap (λ l. x ∷ l) (low rec x g x.outer refl))

pub falls-push : (marks : List ScopeMark) (m : ScopeMark) → AreFalling marks → ((j : ℕ) → m.outer ≡ Some j → j < length marks) → AreFalling (marks ++ m ∷ [])
falls-push marks m falls new i j x g e = by (get-push marks m x i g)
  where
    by : ((i ≡ length marks) × (x ≡ m)) ⊎ (slice_get marks i ≡ Some x) → j < i
    by (inl (at, same)) = let l = new j (ap (λ (y : ScopeMark). y.outer) (sym same) ∙ e) in omega arith
    by (inr h) = falls i j x h e

-- the earlier chains stay
pub all-keep : (marks : List ScopeMark) (m : ScopeMark) → AreFalling marks → ((j : ℕ) → m.outer ≡ Some j → j < length marks) → (o : Option ℕ) → height o ≤ length marks → all_of (marks ++ m ∷ []) o ≡ all_of marks o
all-keep marks m falls new o l = keep-step marks m falls (length (marks ++ m ∷ [])) o l ∙ chain-same marks falls (length (marks ++ m ∷ [])) (length marks) o (let z = length-append marks (m ∷ []) in omega arith) l

-- and the new one is the new mark before its outer ones
pub all-new : (marks : List ScopeMark) (m : ScopeMark) → AreFalling marks → ((j : ℕ) → m.outer ≡ Some j → j < length marks) → all_of (marks ++ m ∷ []) (Some (length marks)) ≡ m ∷ all_of marks m.outer
all-new marks m falls new = chain-step (marks ++ m ∷ []) (falls-push marks m falls new) (length (marks ++ m ∷ [])) (length marks) m (omega arith) (get-end marks m) ∙ ap (λ l. m ∷ l) (all-keep marks m falls new m.outer (low m.outer refl))
  where
    low : (o : Option ℕ) → m.outer ≡ o → height o ≤ length marks
    low None e = omega arith
    low (Some j) e = let l = new j e in omega arith

-- the marks of the first n events
pub record MarkedTo (events : List CounterEvent) (n : ℕ) (marks : List ScopeMark) : Type 0 where
  pub count : length marks ≡ n
  pub falling : AreFalling marks
  pub each : (k : ℕ) (m : ScopeMark) → slice_get marks k ≡ Some m → IsMarked events marks k m

pub held-last : (events : List CounterEvent) (n : ℕ) (marks : List ScopeMark) → MarkedTo events n marks → map pair (all_of marks (last_of n)) ≡ held_after (take n events)
held-last events zero marks m = ap (map pair) (chain-none marks (length marks))
held-last events (suc n) marks m = by (slice_get_at marks n (let c = m.count in omega arith))
  where
    by : ((x : ScopeMark) × (slice_get marks n ≡ Some x)) → map pair (all_of marks (Some n)) ≡ held_after (take (suc n) events)
    by (x, g) = let e : n + 1 ≡ suc n = omega arith in rw e at (m.each n x g).held

pub marked-step : (events : List CounterEvent) (n : ℕ) (marks : List ScopeMark) (e : CounterEvent) (m : ScopeMark) → slice_get events n ≡ Some e → MarkedTo events n marks → IsNext marks e m → MarkedTo events (n + 1) (marks ++ m ∷ [])
marked-step events n marks e m here is next = record {
  count = length-append marks (m ∷ []) ∙ (let c = is.count in omega arith);
  falling = falls-push marks m is.falling next.falls;
  each = λ k x g. by k x (get-push marks m x k g);
}
  where
    held : map pair (all_of (marks ++ m ∷ []) (Some n)) ≡ held_after (take (n + 1) events)
    held =
        let c = is.count in
        let new : all_of (marks ++ m ∷ []) (Some n) ≡ m ∷ all_of marks m.outer = subst (λ i. all_of (marks ++ m ∷ []) (Some i) ≡ m ∷ all_of marks m.outer) c (all-new marks m is.falling next.falls) in
        let old : map pair (all_of marks (last_of (length marks))) ≡ held_after (take n events) = subst (λ k. map pair (all_of marks (last_of k)) ≡ held_after (take n events)) (sym c) (held-last events n marks is) in
        ap (map pair) new ∙ next.held ∙ ap (λ h. after_event h e) old ∙ sym (fold-take after_event [] events n e here)

    at-it : (d : CounterEvent) → slice_get events n ≡ Some d → m.at ≡ d.at
    at-it d h = let same : e ≡ d = cc in next.at ∙ ap (λ (y : CounterEvent). y.at) same

    by : (k : ℕ) (x : ScopeMark) → ((k ≡ length marks) × (x ≡ m)) ⊎ (slice_get marks k ≡ Some x) → IsMarked events (marks ++ m ∷ []) k x
    by k x (inl (at, same)) =
        let c = is.count in
        let place : k ≡ n = at ∙ c in
        subst (λ i. IsMarked events (marks ++ m ∷ []) i x) (sym place) (subst (λ y. IsMarked events (marks ++ m ∷ []) n y) (sym same) (record { held = held; at = at-it }))
    by k x (inr g) = let w = slice_get_within marks k x g in let old = is.each k x g in record { held = ap (map pair) (all-keep marks m is.falling next.falls (Some k) (omega arith)) ∙ old.held; at = old.at }

-- marks of events in order are in order
pub marks-sorted : (events : List CounterEvent) (n : ℕ) (marks : List ScopeMark) → n ≡ length events → length events < 2 ^ 32 → IsNonDecreasingBy (λ e. e.at) events → MarkedTo events n marks → AreMarks marks
marks-sorted events n marks all few sorted is = record {
  falling = is.falling;
  sorted = λ i j d le l. (let c = is.count in by i j d le l (slice_get_at events j (omega arith)));
  few = (let c = is.count in omega arith);
}
  where
    by : (i j : ℕ) (d : ScopeMark) → i ≤ j → j < length marks → ((e : CounterEvent) × (slice_get events j ≡ Some e)) → (get_or marks i d).at ≤ (get_or marks j d).at
    by i j d le l (e, g) =
        let c = is.count in
        let a = (is.each i (get_or marks i d) (slice_get-get_or marks i d (omega arith))).at (get_or events i e) (slice_get-get_or events i e (omega arith)) in
        let b = (is.each j (get_or marks j d) (slice_get-get_or marks j d l)).at (get_or events j e) (slice_get-get_or events j e (omega arith)) in
        let s = sorted i j e le (omega arith) in
        omega arith
