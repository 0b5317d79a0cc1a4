-- the scopes that hold, event by event
use Rattle.std.proofs.Common.{◌≡◌, ℕ, suc, ◌<◌, ◌≤◌, ◌==◌, Bool, true, false, cond, List, [], ◌∷◌, ◌++◌, length, refl, sym, ◌∙◌, ap, subst, arith}
use Rattle.std.specs.Prelude.{nat_le, nat_lt, not, filter, map, ℤ, pos, ◌+ℤ◌}
use Rattle.std.proofs.lemmas.Bool.Decides.{nat_tests}
use Rattle.std.proofs.lemmas.Bool.{eq-eqb, ne_eqb}
use Rattle.std.proofs.Math.IntN.{+ℤ_assoc, +ℤ_idl, +ℤ_idr}
use Rattle.counters.specs.declared.scopes.CounterEvent.{CounterEvent}
use Rattle.counters.specs.declared.scopes.Act.{Act}
use Rattle.counters.specs.declared.scopes.Act.TheVariants as act
use Rattle.counters.specs.Scopes.{Each, Scope, live, holding, new_scope, implied, opened_by, opened, share, History, with_event, total, value_of}
use Rattle.counters.specs.Chains.{past, with_added, after_act, after_event}

-- ---- lists

-- R holds from each to each later one
abbrev pub Pairs : {A : Type 0} → (A → A → Type 0) → List A → Type 0
Pairs R [] = Unit {0}
Pairs R (x ∷ xs) = Each (R x) xs × Pairs R xs

pub each-map : {A : Type 0} (P Q : A → Type 0) (xs : List A) → ((x : A) → P x → Q x) → Each P xs → Each Q xs
each-map P Q [] f h = tt
each-map P Q (x ∷ xs) f h = (f x h.0, each-map P Q xs f h.1)

pub each-filter : {A : Type 0} (P : A → Type 0) (p : A → Bool) (xs : List A) → Each P xs → Each P (filter p xs)
each-filter P p [] h = tt
each-filter {A} P p (x ∷ xs) h = by (p x) (each-filter P p xs h.1)
  where
    by : (b : Bool) → Each P (filter p xs) → Each P (cond b (x ∷ filter p xs) (filter p xs))
    by true r = (h.0, r)
    by false r = r

pairs-filter : {A : Type 0} (R : A → A → Type 0) (p : A → Bool) (xs : List A) → Pairs R xs → Pairs R (filter p xs)
pairs-filter R p [] h = tt
pairs-filter {A} R p (x ∷ xs) h = by (p x) (pairs-filter R p xs h.1)
  where
    by : (b : Bool) → Pairs R (filter p xs) → Pairs R (cond b (x ∷ filter p xs) (filter p xs))
    by true r = (each-filter (R x) p xs h.0, r)
    by false r = r

filter-all : {A : Type 0} (p : A → Bool) (xs : List A) → Each (λ x. p x ≡ true) xs → filter p xs ≡ xs
filter-all p [] h = refl
filter-all p (x ∷ xs) h = rw (h.0) (ap (λ l. x ∷ l) (filter-all p xs h.1))

filter-holds : {A : Type 0} (p : A → Bool) (xs : List A) → Each (λ x. p x ≡ true) (filter p xs)
filter-holds p [] = tt
filter-holds {A} p (x ∷ xs) = by (p x) refl (filter-holds p xs)
  where
    by : (b : Bool) → p x ≡ b → Each (λ x. p x ≡ true) (filter p xs) → Each (λ x. p x ≡ true) (cond b (x ∷ filter p xs) (filter p xs))
    by true e r = (e, r)
    by false e r = r

-- ---- scopes

abbrev pub reaches : ℕ → Scope → Bool
reaches k s = nat_lt k s.end

-- ends grow outwards, numbers fall
abbrev pub Rises : List Scope → Type 0
Rises l = Pairs (λ s t. s.end < t.end) l

abbrev pub IdsFall : List Scope → Type 0
IdsFall l = Pairs (λ s t. t.id < s.id) l

abbrev pub seen : List (ℕ × ℤ) → Scope → ℕ × ℤ
seen inc s = (s.end, value_of inc s)

-- where ends grow, those that reach past a place come after those that don't
past-filter : (inc : List (ℕ × ℤ)) (k : ℕ) (l : List Scope) → Rises l → past k (map (seen inc) l) ≡ map (seen inc) (filter (reaches k) l)
past-filter inc k [] h = refl
past-filter inc k (s ∷ l) h = by (nat_le s.end k) refl (past-filter inc k l h.1)
  where
    by : (b : Bool) → nat_le s.end k ≡ b → past k (map (seen inc) l) ≡ map (seen inc) (filter (reaches k) l) → cond b (past k (map (seen inc) l)) (seen inc s ∷ map (seen inc) l) ≡ map (seen inc) (cond (nat_lt k s.end) (s ∷ filter (reaches k) l) (filter (reaches k) l))
    by true e r = let f : nat_lt k s.end ≡ false = grind (arith, nat_tests) in rw f r
    by false e r =
        let t : nat_lt k s.end ≡ true = grind (arith, nat_tests) in
        let all : Each (λ x. reaches k x ≡ true) l = each-map (λ t. s.end < t.end) (λ x. reaches k x ≡ true) l (λ x g. grind (arith, nat_tests)) h.0 in
        rw (t, filter-all (reaches k) l all) refl

-- what reaches further, of what reaches to an earlier place
further : (j k : ℕ) (l : List Scope) → j ≤ k → filter (reaches k) (filter (reaches j) l) ≡ filter (reaches k) l
further j k [] h = refl
further j k (s ∷ l) h = by (nat_lt j s.end) refl (further j k l h)
  where
    by : (b : Bool) → nat_lt j s.end ≡ b → filter (reaches k) (filter (reaches j) l) ≡ filter (reaches k) l → filter (reaches k) (cond b (s ∷ filter (reaches j) l) (filter (reaches j) l)) ≡ filter (reaches k) (s ∷ l)
    by true e r = ap (λ l. cond (nat_lt k s.end) (s ∷ l) l) r
    by false e r = let f : nat_lt k s.end ≡ false = grind (arith, nat_tests) in rw f r

-- no scope in which a place stands ends before the place's own siblings do
abbrev pub Nests : ℕ → ℕ → Scope → Type 0
Nests at end s = at < s.end → end ≤ s.end

-- less those that end there, what is left of those that reach a place reaches past that end
beside : (at end : ℕ) (l : List Scope) → at < end → Each (Nests at end) l → filter (reaches at) (filter (λ t. not (t.end == end)) l) ≡ filter (reaches end) l
beside at end [] low h = refl
beside at end (s ∷ l) low h = by (s.end == end) refl (beside at end l low h.1)
  where
    by : (b : Bool) → (s.end == end) ≡ b → filter (reaches at) (filter (λ t. not (t.end == end)) l) ≡ filter (reaches end) l → filter (reaches at) (cond (not b) (s ∷ filter (λ t. not (t.end == end)) l) (filter (λ t. not (t.end == end)) l)) ≡ filter (reaches end) (s ∷ l)
    by true e r = let f : nat_lt end s.end ≡ false = grind (arith, nat_tests) in rw f r
    by false e r = let nest = h.0 in of (nat_lt at s.end) refl
      where
        of : (b : Bool) → nat_lt at s.end ≡ b → cond b (s ∷ filter (reaches at) (filter (λ t. not (t.end == end)) l)) (filter (reaches at) (filter (λ t. not (t.end == end)) l)) ≡ cond (nat_lt end s.end) (s ∷ filter (reaches end) l) (filter (reaches end) l)
        of true t = let n = h.0 (grind (arith, nat_tests)) in let g : nat_lt end s.end ≡ true = grind (arith, nat_tests) in rw (g, r) refl
        of false t = let g : nat_lt end s.end ≡ false = grind (arith, nat_tests) in rw (g, r) refl

live-each : (P : Scope → Type 0) (l : List Scope) → Each P l → Each P (live l)
live-each P [] h = tt
live-each P (s ∷ l) h = (h.0, each-filter P (λ t. not (t.end == s.end)) (live l) (live-each P l h.1))

-- ids are numbers of older scopes
abbrev pub AreNumbered : List Scope → Type 0
AreNumbered [] = Unit {0}
AreNumbered (s ∷ l) = (s.id ≡ length l) × AreNumbered l

pub numbered-below : (l : List Scope) (n : ℕ) → length l ≤ n → AreNumbered l → Each (λ t. t.id < n) l
numbered-below [] n low h = tt
numbered-below (s ∷ l) n low h = let e = h.0 in (omega arith, numbered-below l n (omega arith) h.1)

live-fall : (l : List Scope) → AreNumbered l → IdsFall (live l)
live-fall [] h = tt
live-fall (s ∷ l) h = (
  let e = h.0 in each-map (λ t. t.id < length l) (λ t. t.id < s.id) (filter (λ t. not (t.end == s.end)) (live l)) (λ t g. omega arith) (each-filter (λ t. t.id < length l) (λ t. not (t.end == s.end)) (live l) (live-each (λ t. t.id < length l) l (numbered-below l (length l) (omega arith) h.1))),
  pairs-filter (λ s t. t.id < s.id) (λ t. not (t.end == s.end)) (live l) (live-fall l h.1),
)

holding-fall : (k : ℕ) (l : List Scope) → AreNumbered l → IdsFall (holding k l)
holding-fall k l h = pairs-filter (λ s t. t.id < s.id) (reaches k) (live l) (live-fall l h)

-- ---- increments

pub none-of : (inc : List (ℕ × ℤ)) (id : ℕ) → Each (λ i. i.0 < id) inc → total id inc ≡ pos 0
none-of [] id h = refl
none-of (i ∷ inc) id h = let l = h.0 in rw (none-of inc id h.1, ne_eqb i.0 id (omega arith)) refl

-- an increment of another scope
others : (inc : List (ℕ × ℤ)) (id : ℕ) (n : ℤ) (l : List Scope) → Each (λ t. t.id < id) l → map (seen inc) l ≡ map (seen ((id, n) ∷ inc)) l
others inc id n [] h = refl
others inc id n (t ∷ l) h = let g = h.0 in rw (ne_eqb id t.id (omega arith), +ℤ_idr (total t.id inc), others inc id n l h.1) refl

pub own : (inc : List (ℕ × ℤ)) (s : Scope) (n : ℤ) → value_of inc s +ℤ n ≡ value_of ((s.id, n) ∷ inc) s
own inc s n = rw (eq-eqb s.id s.id refl) (+ℤ_assoc s.number (total s.id inc) n)

-- ---- one event more

-- what is held is what holds
pub record Holds (h : History) (at : ℕ) (held : List (ℕ × ℤ)) : Type 0 where
  pub same : held ≡ map (seen h.increments) (holding at h.scopes)
  pub rises : Rises (holding at h.scopes)
  pub numbered : AreNumbered h.scopes
  pub below : Each (λ i. i.0 < length h.scopes) h.increments

-- at a later place
pub held-later : (h : History) (at k : ℕ) (held : List (ℕ × ℤ)) → at ≤ k → Holds h at held → past k held ≡ map (seen h.increments) (holding k h.scopes)
held-later h at k held low is = ap (past k) is.same ∙ past-filter h.increments k (holding at h.scopes) is.rises ∙ ap (map (seen h.increments)) (further at k (live h.scopes) low)

rises-later : (h : History) (at k : ℕ) (held : List (ℕ × ℤ)) → at ≤ k → Holds h at held → Rises (holding k h.scopes)
rises-later h at k held low is = subst Rises (further at k (live h.scopes) low) (pairs-filter (λ s t. s.end < t.end) (reaches k) (holding at h.scopes) is.rises)

-- what holds with a new scope
new-holds : (scopes : List Scope) (at end : ℕ) (n : ℤ) → at < end → Each (Nests at end) scopes → holding at (new_scope scopes end n ∷ scopes) ≡ new_scope scopes end n ∷ holding end scopes
new-holds scopes at end n low nest = let t : nat_lt at end ≡ true = grind (arith, nat_tests) in rw (t, beside at end (live scopes) low (live-each (Nests at end) scopes nest)) refl

new-rises : (scopes : List Scope) (end : ℕ) (n : ℤ) → Rises (holding end scopes) → Rises (new_scope scopes end n ∷ holding end scopes)
new-rises scopes end n h = (each-map (λ x. reaches end x ≡ true) (λ t. end < t.end) (holding end scopes) (λ t g. grind (arith, nat_tests)) (filter-holds (reaches end) (live scopes)), h)

pub below-more : (inc : List (ℕ × ℤ)) (n : ℕ) → Each (λ i. i.0 < n) inc → Each (λ i. i.0 < suc n) inc
below-more inc n h = each-map (λ i. i.0 < n) (λ i. i.0 < suc n) inc (λ i g. omega arith) h

pub share-reset : (l : List Scope) (n : ℤ) → share l (act.Reset n) ≡ []
share-reset [] n = refl
share-reset (s ∷ l) n = refl

new-value : (h : History) (end : ℕ) (n : ℤ) → Each (λ i. i.0 < length h.scopes) h.increments → seen h.increments (new_scope h.scopes end n) ≡ (end, n)
new-value h end n below = rw (none-of h.increments (length h.scopes) below, +ℤ_idr n) refl

after-reset : (h : History) (at : ℕ) (held : List (ℕ × ℤ)) (e : CounterEvent) (n : ℤ) → e.act ≡ act.Reset n → at ≤ e.at → e.at < e.end → Each (Nests e.at e.end) h.scopes → Holds h at held → Holds (with_event h e) e.at (after_event held e)
after-reset h at held e n k low short nest is =
    rw (k, share-reset (holding e.at (new_scope h.scopes e.end n ∷ h.scopes)) n) (record {
      same = rw (new-holds h.scopes e.at e.end n short nest) (rw (sym (new-value h e.end n is.below)) (ap (λ l. seen h.increments (new_scope h.scopes e.end n) ∷ l) (held-later h at e.end held (omega arith) is)));
      rises = rw (new-holds h.scopes e.at e.end n short nest) (new-rises h.scopes e.end n (rises-later h at e.end held (omega arith) is));
      numbered = (refl, is.numbered);
      below = below-more h.increments (length h.scopes) is.below;
    })

pub event-is : (h : History) (e : CounterEvent) (n : ℤ) (scopes held : List Scope) → e.act ≡ act.Add n → opened h.scopes e ≡ scopes → holding e.at scopes ≡ held → with_event h e ≡ record { scopes = scopes; increments = share held (act.Add n) ++ h.increments }
event-is h e n scopes held k o g = ap (λ (l : List Scope). record { scopes = l; increments = share (holding e.at l) e.act ++ h.increments }) o ∙ ap (λ (l : List Scope). record { scopes = scopes; increments = share l e.act ++ h.increments }) g ∙ ap (λ (a : Act). record { scopes = scopes; increments = share held a ++ h.increments }) k

pub opened-is : (h : History) (e : CounterEvent) (n : ℤ) (held : List Scope) → e.act ≡ act.Add n → holding e.at h.scopes ≡ held → opened h.scopes e ≡ implied h.scopes e.end held
opened-is h e n held k g = ap (opened_by h.scopes e.at e.end) k ∙ ap (implied h.scopes e.end) g

added-first : (h : History) (at : ℕ) (held : List (ℕ × ℤ)) (e : CounterEvent) (n : ℤ) → e.act ≡ act.Add n → holding e.at h.scopes ≡ [] → at ≤ e.at → e.at < e.end → Each (Nests e.at e.end) h.scopes → Holds h at held → Holds (with_event h e) e.at (after_event held e)
added-first h at held e n k g low short nest is =
    subst (λ x. Holds x e.at (after_event held e)) (sym (event-is h e n (new ∷ h.scopes) (new ∷ []) k (opened-is h e n [] k g) alone)) (record {
      same = ap (after_act e.at e.end held) k ∙ ap (with_added e.end n) (held-later h at e.at held low is ∙ ap (map (seen h.increments)) g) ∙ (rw alone (ap (λ (v : ℤ). (e.end, v) ∷ []) (sym value)));
      rises = rw alone (tt, tt);
      numbered = (refl, is.numbered);
      below = (omega arith, below-more h.increments (length h.scopes) is.below);
    })
  where
    new : Scope
    new = new_scope h.scopes e.end (pos 0)

    alone : holding e.at (new ∷ h.scopes) ≡ new ∷ []
    alone = new-holds h.scopes e.at e.end (pos 0) short nest ∙ ap (λ l. new ∷ l) (sym (further e.at e.end (live h.scopes) (omega arith)) ∙ ap (filter (reaches e.end)) g)

    value : value_of ((length h.scopes, n) ∷ h.increments) new ≡ n
    value = rw (none-of h.increments (length h.scopes) is.below, eq-eqb (length h.scopes) (length h.scopes) refl, +ℤ_idl n) (+ℤ_idl n)

added-more : (h : History) (at : ℕ) (held : List (ℕ × ℤ)) (e : CounterEvent) (n : ℤ) (s : Scope) (more : List Scope) → e.act ≡ act.Add n → holding e.at h.scopes ≡ s ∷ more → at ≤ e.at → Holds h at held → Holds (with_event h e) e.at (after_event held e)
added-more h at held e n s more k g low is =
    subst (λ x. Holds x e.at (after_event held e)) (sym (event-is h e n h.scopes (s ∷ more) k (opened-is h e n (s ∷ more) k g) g)) (record {
      same = ap (after_act e.at e.end held) k ∙ ap (with_added e.end n) (held-later h at e.at held low is ∙ ap (map (seen h.increments)) g) ∙ (rw g (rw (own h.increments s n, others h.increments s.id n more falls) refl));
      rises = rises-later h at e.at held low is;
      numbered = is.numbered;
      below = (small, is.below);
    })
  where
    falls : Each (λ t. t.id < s.id) more
    falls = (subst IdsFall g (holding-fall e.at h.scopes is.numbered)).0

    small : s.id < length h.scopes
    small = (subst (Each (λ (t : Scope). t.id < length h.scopes)) g (each-filter (λ t. t.id < length h.scopes) (reaches e.at) (live h.scopes) (live-each (λ t. t.id < length h.scopes) h.scopes (numbered-below h.scopes (length h.scopes) (omega arith) is.numbered)))).0

pub after-event : (h : History) (at : ℕ) (held : List (ℕ × ℤ)) (e : CounterEvent) → at ≤ e.at → e.at < e.end → Each (Nests e.at e.end) h.scopes → Holds h at held → Holds (with_event h e) e.at (after_event held e)
after-event h at held e low short nest is = by e.act refl (holding e.at h.scopes) refl
  where
    by : (a : Act) → e.act ≡ a → (l : List Scope) → holding e.at h.scopes ≡ l → Holds (with_event h e) e.at (after_event held e)
    by (act.Reset n) k l g = after-reset h at held e n k low short nest is
    by (act.Add n) k [] g = added-first h at held e n k g low short nest is
    by (act.Add n) k (s ∷ more) g = added-more h at held e n s more k g low is
