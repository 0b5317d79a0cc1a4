-- uses that add nothing are left out
use Rattle.std.proofs.Common.{◌≡◌, ℕ, suc, ◌-◌, ◌<◌, ◌==◌, Bool, true, false, cond, ◌&&◌, List, [], ◌∷◌, ◌++◌, Option, None, Some, length, map, slice_get, refl, sym, ◌∙◌, ap, subst, arith, append-nil, append_assoc}
use Rattle.std.specs.Prelude.{nat_le, nat_lt, filter, not, fold, reverse, ℤ, pos, ◌+ℤ◌}
use Rattle.std.specs.Str.{bytes_eq}
use Rattle.std.proofs.lemmas.Bool.{eqb-true, and_parts}
use Rattle.std.proofs.lemmas.Bool.Decides.{Decides-int_eq, nat_tests}
use Rattle.std.proofs.Math.IntN.{+ℤ_idr}
use Rattle.bk_num.proofs.ListLemmas.{bytes_same, map-same}
use Rattle.named_lists.specs.Lists.{AreDistinct, ListsOf, no_lists, with_item, items_of, of_name}
use Rattle.named_lists.proofs.ListLemmas.{distinct-more, items-more, len-more, of-one, of_name-append}
use Rattle.counters.specs.declared.scopes.Act.{Act}
use Rattle.counters.specs.declared.scopes.Act.TheVariants as act
use Rattle.counters.specs.declared.scopes.CounterEvent.{CounterEvent}
use Rattle.counters.specs.Scopes.{AreNested, Each, History, IsAfter, Scope, holding, history_of, live, implied, new_scope, nothing_yet, opened, opened_by, share, total, value_of, values_by, values_in, with_event, or_zero}
use Rattle.counters.specs.Gather.{adds_nothing, is_at, is_same, is_use, needed, with_change, with_changes}
use Rattle.counters.proofs.ScopeLemmas.{each-map}
use Rattle.counters.proofs.ValueLemmas.{filter-none, up_to}

-- ---- one event more

-- the place of the last event, or of that before
abbrev last_place : Option ℕ → List CounterEvent → Option ℕ
last_place at [] = at
last_place at (e ∷ more) = last_place (Some e.at) more

one-needed : (at : Option ℕ) (e : CounterEvent) (b : Bool) → (is_same at e.at && is_use e.act) ≡ b → needed at (e ∷ []) ≡ cond (is_same at e.at && is_use e.act) [] (e ∷ [])
one-needed at e true h = rw h refl
one-needed at e false h = rw h refl

needed-more : (at : Option ℕ) (events : List CounterEvent) (e : CounterEvent) → needed at (events ++ e ∷ []) ≡ needed at events ++ cond (is_same (last_place at (needed at events)) e.at && is_use e.act) [] (e ∷ [])
needed-more at [] e = one-needed at e (is_same at e.at && is_use e.act) refl
needed-more at (d ∷ events) e = by (is_same at d.at && is_use d.act) refl (needed-more at events e) (needed-more (Some d.at) events e)
  where
    by : (b : Bool) → (is_same at d.at && is_use d.act) ≡ b → needed at (events ++ e ∷ []) ≡ needed at events ++ cond (is_same (last_place at (needed at events)) e.at && is_use e.act) [] (e ∷ [])
        → needed (Some d.at) (events ++ e ∷ []) ≡ needed (Some d.at) events ++ cond (is_same (last_place (Some d.at) (needed (Some d.at) events)) e.at && is_use e.act) [] (e ∷ [])
        → needed at (d ∷ (events ++ e ∷ [])) ≡ needed at (d ∷ events) ++ cond (is_same (last_place at (needed at (d ∷ events))) e.at && is_use e.act) [] (e ∷ [])
    by true h same other = rw h same
    by false h same other = rw h (ap (λ l. d ∷ l) other)

last-is : (d : CounterEvent) (events : List CounterEvent) (k : ℕ) → is_at k (slice_get (d ∷ events) (length events)) ≡ is_same (last_place (Some d.at) events) k
last-is d [] k = refl
last-is d (e ∷ events) k = last-is e events k

stands-last : (events : List CounterEvent) (k : ℕ) → is_at k (slice_get events (length events - 1)) ≡ is_same (last_place None events) k
stands-last [] k = refl
stands-last (d ∷ events) k = let n : suc (length events) - 1 ≡ length events = omega arith in ap (λ i. is_at k (slice_get (d ∷ events) i)) n ∙ last-is d events k

-- what is kept of a name after one event more
after-one : (events kept : List CounterEvent) (e : CounterEvent) → kept ≡ needed None events → needed None (events ++ e ∷ []) ≡ kept ++ cond (adds_nothing kept e) [] (e ∷ [])
after-one events kept e h =
    let same : adds_nothing kept e ≡ (is_same (last_place None (needed None events)) e.at && is_use e.act) = ap (λ b. b && is_use e.act) (stands-last kept e.at ∙ ap (λ l. is_same (last_place None l) e.at) h) in
    needed-more None events e ∙ ap (λ l. l ++ cond (is_same (last_place None (needed None events)) e.at && is_use e.act) [] (e ∷ [])) (sym h) ∙ ap (λ b. kept ++ cond b [] (e ∷ [])) (sym same)

-- the events of each name are in its list, but for uses that add nothing
pub record AreKept (pairs : List (List ℕ × CounterEvent)) (l : ListsOf CounterEvent) : Type 0 where
  pub len : length l.names ≡ length l.lists
  pub distinct : AreDistinct l.names
  pub each : (name : List ℕ) → items_of l name ≡ needed None (of_name pairs name)

of-more : (pairs : List (List ℕ × CounterEvent)) (p : List ℕ × CounterEvent) (x : List ℕ) → of_name (pairs ++ p ∷ []) x ≡ of_name pairs x ++ cond (bytes_eq p.0 x) (p.1 ∷ []) []
of-more pairs p x = of_name-append pairs (p ∷ []) x ∙ ap (λ v. of_name pairs x ++ v) (sym (of-one p.0 x p.1 (bytes_eq p.0 x) refl))

kept-more : (pairs : List (List ℕ × CounterEvent)) (l : ListsOf CounterEvent) (p : List ℕ × CounterEvent) → AreKept pairs l → AreKept (pairs ++ p ∷ []) (with_change l p)
kept-more pairs l p a = by (adds_nothing (items_of l p.0) p.1) refl
  where
    other : (x : List ℕ) → bytes_eq p.0 x ≡ false → items_of l x ≡ needed None (of_name (pairs ++ p ∷ []) x)
    other x e = a.each x ∙ ap (needed None) (sym (of-more pairs p x ∙ ap (λ b. of_name pairs x ++ cond b (p.1 ∷ []) []) e ∙ append-nil (of_name pairs x)))

    own : (x : List ℕ) → bytes_eq p.0 x ≡ true → needed None (of_name (pairs ++ p ∷ []) x) ≡ items_of l x ++ cond (adds_nothing (items_of l p.0) p.1) [] (p.1 ∷ [])
    own x e =
        let s : p.0 ≡ x = bytes_same p.0 x e in
        ap (needed None) (of-more pairs p x ∙ ap (λ b. of_name pairs x ++ cond b (p.1 ∷ []) []) e) ∙ after-one (of_name pairs x) (items_of l x) p.1 (a.each x) ∙ ap (λ y. items_of l x ++ cond (adds_nothing (items_of l y) p.1) [] (p.1 ∷ [])) (sym s)

    skipped : adds_nothing (items_of l p.0) p.1 ≡ true → (x : List ℕ) (b : Bool) → bytes_eq p.0 x ≡ b → items_of l x ≡ needed None (of_name (pairs ++ p ∷ []) x)
    skipped n x true e = sym (own x e ∙ ap (λ b. items_of l x ++ cond b [] (p.1 ∷ [])) n ∙ append-nil (items_of l x))
    skipped n x false e = other x e

    added : adds_nothing (items_of l p.0) p.1 ≡ false → (x : List ℕ) (b : Bool) → bytes_eq p.0 x ≡ b → items_of l x ++ cond (bytes_eq p.0 x) (p.1 ∷ []) [] ≡ needed None (of_name (pairs ++ p ∷ []) x)
    added n x true e = ap (λ b. items_of l x ++ cond b (p.1 ∷ []) []) e ∙ sym (own x e ∙ ap (λ b. items_of l x ++ cond b [] (p.1 ∷ [])) n)
    added n x false e = ap (λ b. items_of l x ++ cond b (p.1 ∷ []) []) e ∙ append-nil (items_of l x) ∙ other x e

    by : (b : Bool) → adds_nothing (items_of l p.0) p.1 ≡ b → AreKept (pairs ++ p ∷ []) (cond b l (with_item l p))
    by true n = record { len = a.len; distinct = a.distinct; each = λ x. skipped n x (bytes_eq p.0 x) refl }
    by false n = record { len = len-more l.names l.lists p.0 p.1 a.len; distinct = distinct-more l.names p.0 a.distinct; each = λ x. items-more l p.0 x p.1 a.len ∙ added n x (bytes_eq p.0 x) refl }

kept-all : (before pairs : List (List ℕ × CounterEvent)) (l : ListsOf CounterEvent) → AreKept before l → AreKept (before ++ pairs) (with_changes l pairs)
kept-all before [] l a = rw (append-nil before) a
kept-all before (p ∷ pairs) l a = subst (λ v. AreKept v (with_changes (with_change l p) pairs)) (append_assoc before (p ∷ []) pairs) (kept-all (before ++ p ∷ []) pairs (with_change l p) (kept-more before l p a))

pub kept-changes : (pairs : List (List ℕ × CounterEvent)) → AreKept pairs (with_changes no_lists pairs)
kept-changes pairs = kept-all [] pairs no_lists (record { len = refl; distinct = λ i x g. absurd (cc); each = λ name. refl })

-- ---- events in document order stay so

needed-each : (P : CounterEvent → Type 0) (at : Option ℕ) (events : List CounterEvent) → Each P events → Each P (needed at events)
needed-each P at [] h = tt
needed-each P at (e ∷ events) h = by (is_same at e.at && is_use e.act) (needed-each P at events h.1) (needed-each P (Some e.at) events h.1)
  where
    by : (b : Bool) → Each P (needed at events) → Each P (needed (Some e.at) events) → Each P (cond b (needed at events) (e ∷ needed (Some e.at) events))
    by true same other = same
    by false same other = (h.0, other)

pub needed-nested : (at : Option ℕ) (events : List CounterEvent) → AreNested events → AreNested (needed at events)
needed-nested at [] h = tt
needed-nested at (e ∷ events) h = by (is_same at e.at && is_use e.act) (needed-nested at events h.2) (needed-nested (Some e.at) events h.2)
  where
    by : (b : Bool) → AreNested (needed at events) → AreNested (needed (Some e.at) events) → AreNested (cond b (needed at events) (e ∷ needed (Some e.at) events))
    by true same other = same
    by false same other = (h.0, needed-each (IsAfter e) (Some e.at) events h.1, other)

-- ---- and have the same values

-- the same scopes, and the same increments in sum
abbrev Alike : History → History → Type 0
Alike h g = (h.scopes ≡ g.scopes) × ((id : ℕ) → total id h.increments ≡ total id g.increments)

-- a scope holds at the place, if there is one
abbrev Covers : Option ℕ → List Scope → Type 0
Covers None scopes = Unit {0}
Covers (Some k) scopes = (s : Scope) × (more : List Scope) × (holding k scopes ≡ s ∷ more)

new-covers : (at end : ℕ) (n : ℤ) (scopes : List Scope) → at < end → Covers (Some at) (new_scope scopes end n ∷ scopes)
new-covers at end n scopes l = let t : nat_lt at end ≡ true = grind (arith, nat_tests, l) in (new_scope scopes end n, filter (λ s. nat_lt at s.end) (filter (λ s. not (s.end == end)) (live scopes)), rw t refl)

implied-covers : (at end : ℕ) (scopes held : List Scope) → holding at scopes ≡ held → at < end → Covers (Some at) (implied scopes end held)
implied-covers at end scopes [] e l = new-covers at end (pos 0) scopes l
implied-covers at end scopes (s ∷ more) e l = (s, more, e)

opened-covers : (at end : ℕ) (scopes : List Scope) (a : Act) → at < end → Covers (Some at) (opened_by scopes at end a)
opened-covers at end scopes (act.Reset n) l = new-covers at end n scopes l
opened-covers at end scopes (act.Add n) l = implied-covers at end scopes (holding at scopes) refl l

total-more : (id : ℕ) (xs ys zs : List (ℕ × ℤ)) → total id ys ≡ total id zs → total id (xs ++ ys) ≡ total id (xs ++ zs)
total-more id [] ys zs h = h
total-more id (x ∷ xs) ys zs h = ap (λ v. v +ℤ cond (x.0 == id) x.1 (pos 0)) (total-more id xs ys zs h)

kept-alike : (h g : History) (e : CounterEvent) → Alike h g → Alike (with_event h e) (with_event g e)
kept-alike h g e a = (
  ap (λ s. opened s e) a.0,
  λ id. ap (λ s. total id (share (holding e.at (opened s e)) e.act ++ h.increments)) a.0 ∙ total-more id (share (holding e.at (opened g.scopes e)) e.act) h.increments g.increments (a.1 id),
)

no-share : (id : ℕ) (s : Scope) (more : List Scope) (increments : List (ℕ × ℤ)) (n : ℤ) → n ≡ pos 0 → total id (share (s ∷ more) (act.Add n) ++ increments) ≡ total id increments
no-share id s more increments n e = by (s.id == id)
  where
    by : (b : Bool) → total id increments +ℤ cond b n (pos 0) ≡ total id increments
    by true = ap (λ v. total id increments +ℤ v) e ∙ +ℤ_idr (total id increments)
    by false = +ℤ_idr (total id increments)

skipped-by : (h g : History) (at end : ℕ) (a : Act) → Covers (Some at) h.scopes → is_use a ≡ true → Alike h g → (opened_by h.scopes at end a ≡ g.scopes) × ((id : ℕ) → total id (share (holding at (opened_by h.scopes at end a)) a ++ h.increments) ≡ total id g.increments)
skipped-by h g at end (act.Reset n) (s, more, held) e a = cc
skipped-by h g at end (act.Add n) (s, more, held) e a =
    let zero_is : n ≡ pos 0 = (Decides-int_eq n (pos 0)).0 e in
    let stays : implied h.scopes end (holding at h.scopes) ≡ h.scopes = ap (implied h.scopes end) held in
    (stays ∙ a.0, λ id. ap (λ v. total id (share (holding at v) (act.Add n) ++ h.increments)) stays ∙ ap (λ v. total id (share v (act.Add n) ++ h.increments)) held ∙ no-share id s more h.increments n zero_is ∙ a.1 id)

same-place : (at : Option ℕ) (k : ℕ) → is_same at k ≡ true → at ≡ Some k
same-place None k e = cc
same-place (Some j) k e = ap (λ v. Some v) (eqb-true j k e)

past-none : (k : ℕ) (e : CounterEvent) (events : List CounterEvent) → nat_le e.at k ≡ false → Each (IsAfter e) events → up_to k events ≡ []
past-none k e events past h = filter-none (λ f. nat_le f.at k) events (each-map (IsAfter e) (λ f. nat_le f.at k ≡ false) events (λ f a. let l = a.0 in grind (arith, nat_tests)) h)

alike-run : (events : List CounterEvent) (k : ℕ) (at : Option ℕ) (h g : History) → AreNested events → Covers at h.scopes → Alike h g → Alike (fold with_event h (up_to k events)) (fold with_event g (up_to k (needed at events)))
alike-run [] k at h g nested covers a = a
alike-run (e ∷ more) k at h g nested covers a =
    by (nat_le e.at k) refl (is_same at e.at && is_use e.act) refl
    (λ x y c d. alike-run more k at x y nested.2 c d) (λ x y c d. alike-run more k (Some e.at) x y nested.2 c d)
  where
    covered : Covers (Some e.at) (with_event h e).scopes
    covered = opened-covers e.at e.end h.scopes e.act nested.0

    by : (b : Bool) → nat_le e.at k ≡ b → (s : Bool) → (is_same at e.at && is_use e.act) ≡ s
        → ((x y : History) → Covers at x.scopes → Alike x y → Alike (fold with_event x (up_to k more)) (fold with_event y (up_to k (needed at more))))
        → ((x y : History) → Covers (Some e.at) x.scopes → Alike x y → Alike (fold with_event x (up_to k more)) (fold with_event y (up_to k (needed (Some e.at) more))))
        → Alike (fold with_event h (cond b (e ∷ up_to k more) (up_to k more))) (fold with_event g (up_to k (cond s (needed at more) (e ∷ needed (Some e.at) more))))
    by true t true u same other =
        let p = and_parts (is_same at e.at) (is_use e.act) u in
        let here : at ≡ Some e.at = same-place at e.at p.0 in
        same (with_event h e) g (subst (λ o. Covers o (with_event h e).scopes) (sym here) covered) (skipped-by h g e.at e.end e.act (subst (λ o. Covers o h.scopes) here covers) p.1 a)
    by true t false u same other = rw t (other (with_event h e) (with_event g e) covered (kept-alike h g e a))
    by false t true u same other = same h g covers a
    by false t false u same other = rw (past-none k e more t nested.1, t, past-none k e (needed (Some e.at) more) t (needed-each (IsAfter e) (Some e.at) more nested.1)) a

alike-values : (k : ℕ) (h g : History) → Alike h g → values_in k h ≡ values_in k g
alike-values k h g a = ap (λ v. or_zero (reverse v)) (ap (λ s. map (value_of h.increments) (holding k s)) a.0 ∙ map-same (value_of h.increments) (value_of g.increments) (holding k g.scopes) (λ s. ap (λ v. s.number +ℤ v) (a.1 s.id)))

-- the values at every place are those of all events
pub needed-values : (events : List CounterEvent) (k : ℕ) → AreNested events → values_by (needed None events) k ≡ values_by events k
needed-values events k nested = sym (alike-values k (history_of (up_to k events)) (history_of (up_to k (needed None events))) (alike-run events k None nothing_yet nothing_yet nested tt (refl, λ id. refl)))
