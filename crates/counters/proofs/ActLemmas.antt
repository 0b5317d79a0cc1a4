-- the value of a counter belongs to the last reset that reaches its place
use Rattle.std.proofs.Common.{◌≡◌, inl, inr, ℕ, zero, suc, ◌+◌, ◌*◌, ◌-◌, ◌<◌, ◌≤◌, ◌==◌, Bool, true, false, cond, List, [], ◌∷◌, ◌++◌, Option, None, Some, get_or, length, length-append, append_assoc, refl, sym, ◌∙◌, ap, subst, arith}
use Rattle.std.specs.Prelude.{nat_lt, nat_le, not, filter, map, fold, reverse, pos, ℤ, ◌+ℤ◌}
use Rattle.std.specs.List.{flat_map}
use Rattle.std.specs.Str.{bytes_eq}
use Rattle.std.proofs.lemmas.Bool.{eq-eqb, ne_eqb}
use Rattle.std.proofs.lemmas.Bool.Decides.{nat_tests}
use Rattle.std.proofs.lemmas.Grind.{flat_map-append}
use Rattle.std.proofs.lemmas.List.{reverse-append}
use Rattle.std.proofs.lemmas.Option.{same_Some}
use Rattle.std.proofs.Math.IntN.{+ℤ_idl, +ℤ_idr}
use Rattle.bk_num.specs.declared.values.Pseudo.TheVariants as pseudo
use Rattle.dom.specs.Nodes.{Node, parents_of, IsTree}
use Rattle.dom.specs.Walk.{steps_of, node_of}
use Rattle.dom.specs.declared.walk.Step.{Step}
use Rattle.dom.specs.declared.walk.Step.TheVariants.{Enter, Leave}
use Rattle.dom.proofs.WalkLemmas.{whole-tour}
use Rattle.style.specs.Nodes.{NodeStyles}
use Rattle.counters.specs.declared.scopes.Act.{Act}
use Rattle.counters.specs.declared.scopes.Act.TheVariants as act
use Rattle.counters.specs.declared.scopes.CounterEvent.{CounterEvent}
use Rattle.counters.specs.Document.{place_number}
use Rattle.counters.specs.Scopes.{Each, IsAfter, AreNested, Scope, live, holding, new_scope, opened_by, share, History, nothing_yet, with_event, history_of, total, value_of, or_zero}
use Rattle.counters.specs.Document.{changes_at, into, out_of, named, events_from, events_of, values_of, values_up_to}
use Rattle.named_lists.specs.Lists.{of_name}
use Rattle.counters.specs.Sites.{Site, number_of, end_of, AreBegunAt, IsBegunAt, first_scope, IsLastReached}
use Rattle.counters.specs.Acts.{sites_at, SiteAct, acts_at, acts_of, Count, NoneReaches, Adds, Does, Come, HasValue, innermost, ValuesBelongToResets, ValuesAreOne}
use Rattle.named_lists.proofs.ListLemmas.{of_name-append}
use Rattle.counters.proofs.ScopeLemmas.{AreNumbered, numbered-below, none-of, own, below-more, share-reset, event-is, opened-is, each-map}
use Rattle.counters.proofs.NestLemmas.{each-append, events-are-nested}
use Rattle.counters.proofs.SetLemmas.{last-reset-holds}
use Rattle.counters.proofs.TourLemmas.{AreSteps, all-steps, all-within, out-is}
use Rattle.counters.proofs.TourPlaces.{in-is}

-- ---- resets and scopes

abbrev places : List Count → List Site
places counts = map (λ (c : Count). c.place) counts

-- resets have the values of scopes
abbrev AreSame : List (ℕ × ℤ) → List Scope → List Count → Type 0
AreSame inc [] [] = Unit {0}
AreSame inc [] (c ∷ cs) = ⊥
AreSame inc (s ∷ ss) [] = ⊥
AreSame inc (s ∷ ss) (c ∷ cs) = (value_of inc s ≡ c.value) × AreSame inc ss cs

record Stand (nodes : List Node) (k : ℕ) (h : History) (counts : List Count) : Type 0 where
  pub begun : AreBegunAt nodes k h.scopes (places counts)
  pub same : AreSame h.increments h.scopes counts
  pub numbered : AreNumbered h.scopes
  pub below : Each (λ i. i.0 < length h.scopes) h.increments

-- an increment of another scope
other-scope : (inc : List (ℕ × ℤ)) (id : ℕ) (n : ℤ) (t : Scope) → (id ≡ t.id → ⊥) → value_of ((id, n) ∷ inc) t ≡ value_of inc t
other-scope inc id n t h = rw (ne_eqb id t.id h, +ℤ_idr (total t.id inc)) refl

same-others : (inc : List (ℕ × ℤ)) (id : ℕ) (n : ℤ) (ss : List Scope) (cs : List Count) → Each (λ t. t.id < id) ss → AreSame inc ss cs → AreSame ((id, n) ∷ inc) ss cs
same-others inc id n [] [] l h = tt
same-others inc id n [] (c ∷ cs) l h = h
same-others inc id n (t ∷ ss) [] l h = h
same-others inc id n (t ∷ ss) (c ∷ cs) l h = let g = l.0 in (other-scope inc id n t (λ (e : id ≡ t.id). absurd (omega (arith, g, e))) ∙ h.0, same-others inc id n ss cs l.1 h.1)

begun-later : (nodes : List Node) (j k : ℕ) (ss : List Scope) (sites : List Site) → j ≤ k → AreBegunAt nodes j ss sites → AreBegunAt nodes k ss sites
begun-later nodes j k [] [] l h = tt
begun-later nodes j k [] (r ∷ rs) l h = h
begun-later nodes j k (s ∷ ss) [] l h = h
begun-later nodes j k (s ∷ ss) (r ∷ rs) l (b, h) =
    let seen = b.seen in
    (record { node = b.node; number = b.number; at = b.at; seen = omega (arith, l, seen); end = b.end }, begun-later nodes j k ss rs l h)

stand-later : (nodes : List Node) (j k : ℕ) (h : History) (counts : List Count) → j ≤ k → Stand nodes j h counts → Stand nodes k h counts
stand-later nodes j k h counts l s = record { begun = begun-later nodes j k h.scopes (places counts) l s.begun; same = s.same; numbered = s.numbered; below = s.below }

-- ---- one act

-- an event is an act at a place
abbrev IsActAt : List Node → SiteAct → CounterEvent → Type 0
IsActAt nodes a e = (a.place.node < length nodes) × (number_of nodes a.place ≡ Some e.at) × (e.end ≡ end_of nodes a.place) × (e.act ≡ a.act)

begun-new : (nodes : List Node) (a : SiteAct) (e : CounterEvent) (scopes : List Scope) (n : ℤ) → IsActAt nodes a e → IsBegunAt nodes e.at (new_scope scopes e.end n) a.place
begun-new nodes a e scopes n is = record { node = is.0; number = e.at; at = is.1; seen = omega arith; end = is.2 }

reset-is : (h : History) (e : CounterEvent) (n : ℤ) → e.act ≡ act.Reset n → with_event h e ≡ record { scopes = new_scope h.scopes e.end n ∷ h.scopes; increments = h.increments }
reset-is h e n k =
    ap (λ (a : Act). record { scopes = opened_by h.scopes e.at e.end a; increments = share (holding e.at (opened_by h.scopes e.at e.end a)) a ++ h.increments }) k
    ∙ ap (λ (l : List (ℕ × ℤ)). record { scopes = new_scope h.scopes e.end n ∷ h.scopes; increments = l ++ h.increments }) (share-reset (holding e.at (new_scope h.scopes e.end n ∷ h.scopes)) n)

-- what is counted after an act, as scopes have it
record Done (nodes : List Node) (a : SiteAct) (e : CounterEvent) (h : History) (counts : List Count) : Type 0 where
  pub new : List Count
  pub does : Does (parents_of nodes) a.place e.act counts new
  pub stand : Stand nodes e.at (with_event h e) new

done-reset : (nodes : List Node) (a : SiteAct) (e : CounterEvent) (h : History) (counts : List Count) (n : ℤ) → e.act ≡ act.Reset n → IsActAt nodes a e → Stand nodes e.at h counts → Done nodes a e h counts
done-reset nodes a e h counts n k is s = record {
  new = record { place = a.place; value = n } ∷ counts;
  does = rw k refl;
  stand = subst (λ (x : History). Stand nodes e.at x (record { place = a.place; value = n } ∷ counts)) (sym (reset-is h e n k)) (record {
    begun = (begun-new nodes a e h.scopes n is, s.begun);
    same = (value, s.same);
    numbered = (refl, s.numbered);
    below = below-more h.increments (length h.scopes) s.below;
  });
}
  where
    value : value_of h.increments (new_scope h.scopes e.end n) ≡ n
    value = rw (none-of h.increments (length h.scopes) s.below) (+ℤ_idr n)

-- none of the resets reaches the place
none-reaches : (ps : List (Option ℕ)) (p : Site) (ss : List Scope) (cs : List Count) (inc : List (ℕ × ℤ)) → AreSame inc ss cs → IsLastReached ps p ss (places cs) None → NoneReaches ps p cs
none-reaches ps p [] [] inc h l = tt
none-reaches ps p [] (c ∷ cs) inc h l = absurd h
none-reaches ps p (s ∷ ss) [] inc h l = absurd h
none-reaches ps p (s ∷ ss) (c ∷ cs) inc h (inl (r, e)) = cc
none-reaches ps p (s ∷ ss) (c ∷ cs) inc h (inr (f, l)) = (f, none-reaches ps p ss cs inc h.1 l)

new-first : (scopes : List Scope) (at end : ℕ) (n : ℤ) → at < end → (more : List Scope) × (holding at (new_scope scopes end n ∷ scopes) ≡ new_scope scopes end n ∷ more)
new-first scopes at end n l = (filter (λ s. nat_lt at s.end) (filter (λ t. not (t.end == end)) (live scopes)), (let t : nat_lt at end ≡ true = grind (arith, nat_tests) in rw t refl))

done-implied : (nodes : List Node) (a : SiteAct) (e : CounterEvent) (h : History) (counts : List Count) (n : ℤ) → e.act ≡ act.Add n → holding e.at h.scopes ≡ [] → e.at < e.end → NoneReaches (parents_of nodes) a.place counts → IsActAt nodes a e → Stand nodes e.at h counts → Done nodes a e h counts
done-implied nodes a e h counts n k g short none is s = record {
  new = record { place = a.place; value = pos 0 +ℤ n } ∷ counts;
  does = rw k (inr (none, refl));
  stand = subst (λ (x : History). Stand nodes e.at x (record { place = a.place; value = pos 0 +ℤ n } ∷ counts)) (sym (event-is h e n (fresh ∷ h.scopes) (fresh ∷ first.0) k (opened-is h e n [] k g) first.1)) (record {
    begun = (begun-new nodes a e h.scopes (pos 0) is, s.begun);
    same = (value, same-others h.increments (length h.scopes) n h.scopes counts (numbered-below h.scopes (length h.scopes) (omega arith) s.numbered) s.same);
    numbered = (refl, s.numbered);
    below = (omega arith, below-more h.increments (length h.scopes) s.below);
  });
}
  where
    fresh : Scope
    fresh = new_scope h.scopes e.end (pos 0)

    first : (more : List Scope) × (holding e.at (fresh ∷ h.scopes) ≡ fresh ∷ more)
    first = new-first h.scopes e.at e.end (pos 0) short

    value : value_of ((length h.scopes, n) ∷ h.increments) fresh ≡ pos 0 +ℤ n
    value = rw (none-of h.increments (length h.scopes) s.below, eq-eqb (length h.scopes) (length h.scopes) refl) (ap (λ (v : ℤ). pos 0 +ℤ v) (+ℤ_idl n))

-- an increment goes to the last reset that reaches its place
record Added (ps : List (Option ℕ)) (p : Site) (n : ℤ) (inc : List (ℕ × ℤ)) (s : Scope) (ss : List Scope) (cs : List Count) : Type 0 where
  pub new : List Count
  pub adds : Adds ps p n cs new
  pub same : AreSame ((s.id, n) ∷ inc) ss new
  pub kept : places new ≡ places cs
  pub small : s.id < length ss

added : (ps : List (Option ℕ)) (p : Site) (n : ℤ) (inc : List (ℕ × ℤ)) (s : Scope) (ss : List Scope) (cs : List Count) → AreNumbered ss → AreSame inc ss cs → IsLastReached ps p ss (places cs) (Some s) → Added ps p n inc s ss cs
added ps p n inc s [] [] m h l = cc
added ps p n inc s [] (c ∷ cs) m h l = absurd h
added ps p n inc s (t ∷ ss) [] m h l = absurd h
added ps p n inc s (t ∷ ss) (c ∷ cs) m h (inl (r, e)) =
    let is : s ≡ t = same_Some s t e in
    let id = ap (λ (x : Scope). x.id) is in
    let last = m.0 in
    record {
      new = record { place = c.place; value = c.value +ℤ n } ∷ cs;
      adds = inl (r, refl);
      same = subst (λ (x : Scope). AreSame ((x.id, n) ∷ inc) (t ∷ ss) (record { place = c.place; value = c.value +ℤ n } ∷ cs)) (sym is) (
        sym (own inc t n) ∙ ap (λ (v : ℤ). v +ℤ n) h.0,
        same-others inc t.id n ss cs (numbered-below ss t.id (omega (arith, last)) m.1) h.1,
      );
      kept = refl;
      small = omega (arith, id, last);
    }
added ps p n inc s (t ∷ ss) (c ∷ cs) m h (inr (f, l)) =
    let r = added ps p n inc s ss cs m.1 h.1 l in
    let last = m.0 in
    let small = r.small in
    record {
      new = c ∷ r.new;
      adds = inr (f, r.new, refl, r.adds);
      same = (other-scope inc s.id n t (λ (e : s.id ≡ t.id). absurd (omega (arith, e, last, small))) ∙ h.0, r.same);
      kept = ap (λ (x : List Site). c.place ∷ x) r.kept;
      small = omega (arith, small);
    }

done-added : (nodes : List Node) (a : SiteAct) (e : CounterEvent) (h : History) (counts : List Count) (n : ℤ) (s : Scope) (more : List Scope) → e.act ≡ act.Add n → holding e.at h.scopes ≡ s ∷ more → Added (parents_of nodes) a.place n h.increments s h.scopes counts → Stand nodes e.at h counts → Done nodes a e h counts
done-added nodes a e h counts n s more k g r stand = record {
  new = r.new;
  does = rw k (inl r.adds);
  stand = subst (λ (x : History). Stand nodes e.at x r.new) (sym (event-is h e n h.scopes (s ∷ more) k (opened-is h e n (s ∷ more) k g) g)) (record {
    begun = subst (λ (x : List Site). AreBegunAt nodes e.at h.scopes x) (sym r.kept) stand.begun;
    same = r.same;
    numbered = stand.numbered;
    below = (r.small, stand.below);
  });
}

done : (nodes : List Node) (a : SiteAct) (e : CounterEvent) (h : History) (counts : List Count) → IsTree nodes → e.at < e.end → IsActAt nodes a e → Stand nodes e.at h counts → Done nodes a e h counts
done nodes a e h counts t short is s = by e.act refl (holding e.at h.scopes) refl
  where
    last : IsLastReached (parents_of nodes) a.place h.scopes (places counts) (first_scope (holding e.at h.scopes))
    last = last-reset-holds nodes h.scopes (places counts) a.place e.at t is.0 is.1 s.begun

    by : (b : Act) → e.act ≡ b → (l : List Scope) → holding e.at h.scopes ≡ l → Done nodes a e h counts
    by (act.Reset n) k l g = done-reset nodes a e h counts n k is s
    by (act.Add n) k [] g = done-implied nodes a e h counts n k g short (none-reaches (parents_of nodes) a.place h.scopes counts h.increments s.same (subst (λ (l : List Scope). IsLastReached (parents_of nodes) a.place h.scopes (places counts) (first_scope l)) g last)) is s
    by (act.Add n) k (x ∷ more) g = done-added nodes a e h counts n x more k g (added (parents_of nodes) a.place n h.increments x h.scopes counts s.numbered s.same (subst (λ (l : List Scope). IsLastReached (parents_of nodes) a.place h.scopes (places counts) (first_scope l)) g last)) s

-- ---- acts in document order

abbrev AreActsAt : List Node → List SiteAct → List CounterEvent → Type 0
AreActsAt nodes [] [] = Unit {0}
AreActsAt nodes [] (e ∷ es) = ⊥
AreActsAt nodes (a ∷ acts) [] = ⊥
AreActsAt nodes (a ∷ acts) (e ∷ es) = IsActAt nodes a e × AreActsAt nodes acts es

record Comes (nodes : List Node) (acts : List SiteAct) (events : List CounterEvent) (h : History) (counts : List Count) (j : ℕ) : Type 0 where
  pub new : List Count
  pub come : Come (parents_of nodes) acts counts new
  pub stand : (k : ℕ) → j ≤ k → Each (λ e. e.at ≤ k) events → Stand nodes k (fold with_event h events) new

come : (nodes : List Node) (acts : List SiteAct) (events : List CounterEvent) (h : History) (counts : List Count) (j : ℕ) → IsTree nodes → AreActsAt nodes acts events → AreNested events → Each (λ e. j ≤ e.at) events → Stand nodes j h counts → Comes nodes acts events h counts j
come nodes [] [] h counts j t is nested low s = record { new = counts; come = refl; stand = λ k l g. stand-later nodes j k h counts l s }
come nodes [] (e ∷ es) h counts j t is nested low s = absurd is
come nodes (a ∷ acts) [] h counts j t is nested low s = absurd is
come nodes (a ∷ acts) (e ∷ es) h counts j t is nested low s =
    let d = done nodes a e h counts t nested.0 is.0 (stand-later nodes j e.at h counts low.0 s) in
    let r = come nodes acts es (with_event h e) d.new e.at t is.1 nested.2 (each-map (IsAfter e) (λ f. e.at ≤ f.at) es (λ f x. x.0) nested.1) d.stand in
    record { new = r.new; come = (d.new, subst (λ (b : Act). Does (parents_of nodes) a.place b counts d.new) is.0.3 d.does, r.come); stand = λ k l g. r.stand k g.0 g.1 }

-- ---- the value at a place

value_or_zero : List (ℕ × ℤ) → Option Scope → ℤ
value_or_zero inc None = pos 0
value_or_zero inc (Some s) = value_of inc s

has-value : (ps : List (Option ℕ)) (p : Site) (inc : List (ℕ × ℤ)) (ss : List Scope) (cs : List Count) (o : Option Scope) → AreSame inc ss cs → IsLastReached ps p ss (places cs) o → HasValue ps p cs (value_or_zero inc o)
unfolding value_or_zero
has-value ps p inc [] [] o h l = ap (value_or_zero inc) l
has-value ps p inc [] (c ∷ cs) o h l = absurd h
has-value ps p inc (s ∷ ss) [] o h l = absurd h
has-value ps p inc (s ∷ ss) (c ∷ cs) o h (inl (r, e)) = inl (r, ap (value_or_zero inc) e ∙ h.0)
has-value ps p inc (s ∷ ss) (c ∷ cs) o h (inr (f, l)) = inr (f, has-value ps p inc ss cs o h.1 l)

get-last : (xs : List ℤ) (v d : ℤ) (n : ℕ) → n ≡ length xs → get_or (xs ++ v ∷ []) n d ≡ v
get-last [] v d zero e = refl
get-last [] v d (suc n) e = absurd (omega (arith, e))
get-last (x ∷ xs) v d zero e = absurd (omega (arith, e))
get-last (x ∷ xs) v d (suc n) e = get-last xs v d n (omega (arith, e))

last-is : (xs : List ℤ) (v : ℤ) → innermost (or_zero (xs ++ v ∷ [])) ≡ v
last-is [] v = get-last [] v (pos 0) (length (v ∷ []) - 1) (omega arith)
last-is (x ∷ xs) v = get-last (x ∷ xs) v (pos 0) (length ((x ∷ xs) ++ v ∷ []) - 1) (let n = length-append (x ∷ xs) (v ∷ []) in omega (arith, n))

innermost-is : (inc : List (ℕ × ℤ)) (l : List Scope) → innermost (or_zero (reverse (map (value_of inc) l))) ≡ value_or_zero inc (first_scope l)
unfolding value_or_zero
innermost-is inc [] = refl
innermost-is inc (s ∷ more) = ap (λ (l : List ℤ). innermost (or_zero l)) (reverse-append (value_of inc s ∷ []) (map (value_of inc) more)) ∙ last-is (reverse (map (value_of inc) more)) (value_of inc s)

-- ---- the events of a place

or_first : Option ℕ → ℕ
or_first None = 0
or_first (Some k) = k

-- the events of a counter at a place
site_events : List Node → List NodeStyles → List ℕ → Site → List CounterEvent
site_events nodes styles name s = map (λ (c : List ℕ × Act). record { at = or_first (number_of nodes s); end = end_of nodes s; act = c.1 }) (filter (λ c. bytes_eq c.0 name) (changes_at styles s.node s.pseudo))

named-of : (name : List ℕ) (at end : ℕ) (changes : List (List ℕ × Act)) → of_name (named at end changes) name ≡ map (λ (c : List ℕ × Act). record { at = at; end = end; act = c.1 }) (filter (λ c. bytes_eq c.0 name) changes)
named-of name at end [] = refl
named-of name at end (c ∷ changes) = by (bytes_eq c.0 name) (named-of name at end changes)
  where
    by : (b : Bool) → of_name (named at end changes) name ≡ map (λ (c : List ℕ × Act). record { at = at; end = end; act = c.1 }) (filter (λ c. bytes_eq c.0 name) changes) →
        map (λ (e : List ℕ × CounterEvent). e.1) (cond b ((c.0, record { at = at; end = end; act = c.1 }) ∷ filter (λ e. bytes_eq e.0 name) (named at end changes)) (filter (λ e. bytes_eq e.0 name) (named at end changes))) ≡ map (λ (c : List ℕ × Act). record { at = at; end = end; act = c.1 }) (cond b (c ∷ filter (λ c. bytes_eq c.0 name) changes) (filter (λ c. bytes_eq c.0 name) changes))
    by true r = ap (λ (l : List CounterEvent). record { at = at; end = end; act = c.1 } ∷ l) r
    by false r = r

one-site : (nodes : List Node) (styles : List NodeStyles) (name : List ℕ) (s : Site) (at : ℕ) → number_of nodes s ≡ Some at → of_name (named at (end_of nodes s) (changes_at styles s.node s.pseudo)) name ≡ site_events nodes styles name s
unfolding site_events or_first
one-site nodes styles name s at e = named-of name at (end_of nodes s) (changes_at styles s.node s.pseudo) ∙ ap (λ (o : Option ℕ). map (λ (c : List ℕ × Act). record { at = or_first o; end = end_of nodes s; act = c.1 }) (filter (λ c. bytes_eq c.0 name) (changes_at styles s.node s.pseudo))) (sym e)

-- ---- places in document order

-- places have numbers, which ascend
abbrev AreRanked : List Node → ℕ → List Site → Type 0
AreRanked nodes low [] = Unit {0}
AreRanked nodes low (s ∷ ss) = (k : ℕ) × (number_of nodes s ≡ Some k) × (low ≤ k) × (s.node < length nodes) × AreRanked nodes (suc k) ss

ranked-lower : (nodes : List Node) (low high : ℕ) (ss : List Site) → low ≤ high → AreRanked nodes high ss → AreRanked nodes low ss
ranked-lower nodes low high [] l h = tt
ranked-lower nodes low high (s ∷ ss) l h = let a = h.2 in (h.0, h.1, omega (arith, l, a), h.3, h.4)

-- the events from a step on, and the places
record Sited (nodes : List Node) (styles : List NodeStyles) (name : List ℕ) (i : ℕ) (rest : List Step) : Type 0 where
  pub events : of_name (events_from (parents_of nodes) styles (steps_of nodes) i rest) name ≡ flat_map (site_events nodes styles name) (flat_map sites_at rest)
  pub ranked : AreRanked nodes (4 * i) (flat_map sites_at rest)

module _ (nodes : List Node) (tree : IsTree nodes) (styles : List NodeStyles) (name : List ℕ) where
  abbrev site : ℕ → Site → List (List ℕ × CounterEvent)
  site at s = named at (end_of nodes s) (changes_at styles s.node s.pseudo)

  sited : (rest pre : List Step) (i : ℕ) → steps_of nodes ≡ pre ++ rest → i ≡ length pre → Each (λ s. node_of s < length nodes) rest → Sited nodes styles name i rest
  sited [] pre i e l w = record { events = refl; ranked = tt }
  sited (Enter n ∷ rest) pre i e l w =
      let more = sited rest (pre ++ Enter n ∷ []) (i + 1) (e ∙ sym (append_assoc pre (Enter n ∷ []) rest)) (let z = length-append pre (Enter n ∷ []) in omega (arith, z, l)) w.1 in
      let a : number_of nodes own ≡ Some (4 * i) = ap (λ (o : Option ℕ). place_number o (out_of (steps_of nodes) n.0) pseudo.Element) met in
      let b : number_of nodes call ≡ Some (4 * i + 1) = ap (λ (o : Option ℕ). place_number o (out_of (steps_of nodes) n.0) pseudo.Call) met in
      let c : number_of nodes mark ≡ Some (4 * i + 2) = ap (λ (o : Option ℕ). place_number o (out_of (steps_of nodes) n.0) pseudo.Marker) met in
      let d : number_of nodes before ≡ Some (4 * i + 3) = ap (λ (o : Option ℕ). place_number o (out_of (steps_of nodes) n.0) pseudo.Before) met in
      record {
        events = four (site (4 * i) own) (site (4 * i + 1) call) (site (4 * i + 2) mark) (site (4 * i + 3) before) (events_from (parents_of nodes) styles (steps_of nodes) (i + 1) rest)
            (site_events nodes styles name own) (site_events nodes styles name call) (site_events nodes styles name mark) (site_events nodes styles name before) (flat_map (site_events nodes styles name) (flat_map sites_at rest))
            (one-site nodes styles name own (4 * i) a) (one-site nodes styles name call (4 * i + 1) b) (one-site nodes styles name mark (4 * i + 2) c) (one-site nodes styles name before (4 * i + 3) d) more.events;
        ranked = (4 * i, a, omega arith, w.0, (4 * i + 1, b, omega arith, w.0, (4 * i + 2, c, omega arith, w.0, (4 * i + 3, d, omega arith, w.0, ranked-lower nodes (suc (4 * i + 3)) (4 * (i + 1)) (flat_map sites_at rest) (omega arith) more.ranked))));
      }
    where
      own : Site
      own = record { node = n.0; pseudo = pseudo.Element }

      call : Site
      call = record { node = n.0; pseudo = pseudo.Call }

      mark : Site
      mark = record { node = n.0; pseudo = pseudo.Marker }

      before : Site
      before = record { node = n.0; pseudo = pseudo.Before }

      met : into (steps_of nodes) n.0 ≡ Some i
      met = subst (λ x. into x n.0 ≡ Some (length pre)) (sym e) (in-is (parents_of nodes) pre rest n.0 (subst (AreSteps (parents_of nodes)) e (all-steps nodes tree))) ∙ ap (λ (j : ℕ). Some j) (sym l)

      four : (a b c d rest : List (List ℕ × CounterEvent)) (v w x y z : List CounterEvent) → of_name a name ≡ v → of_name b name ≡ w → of_name c name ≡ x → of_name d name ≡ y → of_name rest name ≡ z → of_name ((a ++ (b ++ (c ++ d))) ++ rest) name ≡ v ++ (w ++ (x ++ (y ++ z)))
      four a b c d rest v w x y z p q r s t =
          join (a ++ (b ++ (c ++ d))) rest (v ++ (w ++ (x ++ y))) z (join a (b ++ (c ++ d)) v (w ++ (x ++ y)) p (join b (c ++ d) w (x ++ y) q (join c d x y r s))) t ∙ regroup v w x y z
        where
          regroup : (v w x y z : List CounterEvent) → (v ++ (w ++ (x ++ y))) ++ z ≡ v ++ (w ++ (x ++ (y ++ z)))
          regroup v w x y z = simp append_assoc

          join : (a b : List (List ℕ × CounterEvent)) (v w : List CounterEvent) → of_name a name ≡ v → of_name b name ≡ w → of_name (a ++ b) name ≡ v ++ w
          join a b v w p q = of_name-append a b name ∙ ap (λ (l : List CounterEvent). l ++ of_name b name) p ∙ ap (λ (l : List CounterEvent). v ++ l) q
  sited (Leave n ∷ rest) pre i e l w =
      let more = sited rest (pre ++ Leave n ∷ []) (i + 1) (e ∙ sym (append_assoc pre (Leave n ∷ []) rest)) (let z = length-append pre (Leave n ∷ []) in omega (arith, z, l)) w.1 in
      let a : number_of nodes after ≡ Some (4 * i) = ap (λ (o : Option ℕ). place_number (into (steps_of nodes) n.0) o pseudo.After) met in
      record {
        events = of_name-append (site (4 * i) after) (events_from (parents_of nodes) styles (steps_of nodes) (i + 1) rest) name
            ∙ ap (λ (l : List CounterEvent). l ++ of_name (events_from (parents_of nodes) styles (steps_of nodes) (i + 1) rest) name) (one-site nodes styles name after (4 * i) a)
            ∙ ap (λ (l : List CounterEvent). site_events nodes styles name after ++ l) more.events;
        ranked = (4 * i, a, omega arith, w.0, ranked-lower nodes (suc (4 * i)) (4 * (i + 1)) (flat_map sites_at rest) (omega arith) more.ranked);
      }
    where
      after : Site
      after = record { node = n.0; pseudo = pseudo.After }

      met : out_of (steps_of nodes) n.0 ≡ Some i
      met = subst (λ x. out_of x n.0 ≡ Some (length pre)) (sym e) (out-is (parents_of nodes) pre rest n.0 (subst (AreSteps (parents_of nodes)) e (all-steps nodes tree))) ∙ ap (λ (j : ℕ). Some j) (sym l)

  all-sited : Sited nodes styles name 0 (steps_of nodes)
  all-sited = sited (steps_of nodes) [] 0 refl refl (all-within nodes tree (steps_of nodes) (Some (Enter (record { 0 = 0 }))) tree.some (sym (whole-tour nodes tree)))

  -- ---- the events up to a place

  each-site : (P : CounterEvent → Type 0) (s : Site) (k : ℕ) → number_of nodes s ≡ Some k → ((end : ℕ) (a : Act) → P (record { at = k; end = end; act = a })) → Each P (site_events nodes styles name s)
  unfolding site_events or_first
  each-site P s k e h = subst (λ (o : Option ℕ). Each P (map (λ (c : List ℕ × Act). record { at = or_first o; end = end_of nodes s; act = c.1 }) (filter (λ c. bytes_eq c.0 name) (changes_at styles s.node s.pseudo)))) (sym e) (by (filter (λ c. bytes_eq c.0 name) (changes_at styles s.node s.pseudo)))
    where
      by : (l : List (List ℕ × Act)) → Each P (map (λ (c : List ℕ × Act). record { at = k; end = end_of nodes s; act = c.1 }) l)
      by [] = tt
      by (c ∷ l) = (h (end_of nodes s) c.1, by l)

  above : (low : ℕ) (ss : List Site) → AreRanked nodes low ss → Each (λ e. low ≤ e.at) (flat_map (site_events nodes styles name) ss)
  above low [] h = tt
  above low (s ∷ ss) h =
      let l = h.2 in
      each-append (λ e. low ≤ e.at) (site_events nodes styles name s) (flat_map (site_events nodes styles name) ss) (each-site (λ e. low ≤ e.at) s h.0 h.1 (λ end a. l))
      (each-map (λ e. suc h.0 ≤ e.at) (λ e. low ≤ e.at) (flat_map (site_events nodes styles name) ss) (λ e g. omega (arith, l, g)) (above (suc h.0) ss h.4))

  -- a place stands above those before it
  rank-of : (low : ℕ) (before after : List Site) (p : Site) (k : ℕ) → number_of nodes p ≡ Some k → AreRanked nodes low (before ++ p ∷ after) → low ≤ k
  rank-of low [] after p k e h = let same = same_Some h.0 k (sym h.1 ∙ e) in let l = h.2 in omega (arith, same, l)
  rank-of low (s ∷ before) after p k e h = let l = h.2 in let m = rank-of (suc h.0) before after p k e h.4 in omega (arith, l, m)

  up-to : (low : ℕ) (before after : List Site) (p : Site) (k : ℕ) → number_of nodes p ≡ Some k → AreRanked nodes low (before ++ p ∷ after) → Each (λ e. e.at ≤ k) (flat_map (site_events nodes styles name) (before ++ p ∷ []))
  up-to low [] after p k e h = each-append (λ e. e.at ≤ k) (site_events nodes styles name p) [] (each-site (λ e. e.at ≤ k) p k e (λ end a. omega arith)) tt
  up-to low (s ∷ before) after p k e h =
      let m = rank-of (suc h.0) before after p k e h.4 in
      each-append (λ e. e.at ≤ k) (site_events nodes styles name s) (flat_map (site_events nodes styles name) (before ++ p ∷ [])) (each-site (λ e. e.at ≤ k) s h.0 h.1 (λ end a. omega (arith, m))) (up-to (suc h.0) before after p k e h.4)

  past-it : (low : ℕ) (before after : List Site) (p : Site) (k : ℕ) → number_of nodes p ≡ Some k → AreRanked nodes low (before ++ p ∷ after) → Each (λ e. suc k ≤ e.at) (flat_map (site_events nodes styles name) after)
  past-it low [] after p k e h = subst (λ (j : ℕ). Each (λ e. suc j ≤ e.at) (flat_map (site_events nodes styles name) after)) (same_Some h.0 k (sym h.1 ∙ e)) (above (suc h.0) after h.4)
  past-it low (s ∷ before) after p k e h = past-it (suc h.0) before after p k e h.4

  -- a place among them has a number, and is one of the document
  has-number : (low : ℕ) (before after : List Site) (p : Site) → AreRanked nodes low (before ++ p ∷ after) → (k : ℕ) × (number_of nodes p ≡ Some k) × (p.node < length nodes)
  has-number low [] after p h = (h.0, h.1, h.3)
  has-number low (s ∷ before) after p h = has-number (suc h.0) before after p h.4

  -- what places do are their events
  acts-site : (s : Site) (k : ℕ) → s.node < length nodes → number_of nodes s ≡ Some k → AreActsAt nodes (acts_at styles name s) (site_events nodes styles name s)
  unfolding site_events or_first
  acts-site s k w e = by (filter (λ c. bytes_eq c.0 name) (changes_at styles s.node s.pseudo))
    where
      here : number_of nodes s ≡ Some (or_first (number_of nodes s))
      here = e ∙ ap (λ (o : Option ℕ). Some (or_first o)) (sym e)

      by : (l : List (List ℕ × Act)) → AreActsAt nodes (map (λ (c : List ℕ × Act). record { place = s; act = c.1 }) l) (map (λ (c : List ℕ × Act). record { at = or_first (number_of nodes s); end = end_of nodes s; act = c.1 }) l)
      by [] = tt
      by (c ∷ l) = ((w, here, refl, refl), by l)

  acts-append : (acts bs : List SiteAct) (es fs : List CounterEvent) → AreActsAt nodes acts es → AreActsAt nodes bs fs → AreActsAt nodes (acts ++ bs) (es ++ fs)
  acts-append [] bs [] fs h g = g
  acts-append [] bs (e ∷ es) fs h g = absurd h
  acts-append (a ∷ acts) bs [] fs h g = absurd h
  acts-append (a ∷ acts) bs (e ∷ es) fs h g = (h.0, acts-append acts bs es fs h.1 g)

  acts-are : (low : ℕ) (before after : List Site) (p : Site) → AreRanked nodes low (before ++ p ∷ after) → AreActsAt nodes (acts_of styles name (before ++ p ∷ [])) (flat_map (site_events nodes styles name) (before ++ p ∷ []))
  acts-are low [] after p h = acts-append (acts_at styles name p) [] (site_events nodes styles name p) [] (acts-site p h.0 h.3 h.1) tt
  acts-are low (s ∷ before) after p h = acts-append (acts_at styles name s) (acts_of styles name (before ++ p ∷ [])) (site_events nodes styles name s) (flat_map (site_events nodes styles name) (before ++ p ∷ [])) (acts-site s h.0 h.3 h.1) (acts-are (suc h.0) before after p h.4)

nested-front : (es fs : List CounterEvent) → AreNested (es ++ fs) → AreNested es
nested-front [] fs h = tt
nested-front (e ∷ es) fs h = (h.0, each-front es fs h.1, nested-front es fs h.2)
  where
    each-front : (es fs : List CounterEvent) → Each (IsAfter e) (es ++ fs) → Each (IsAfter e) es
    each-front [] fs h = tt
    each-front (x ∷ es) fs h = (h.0, each-front es fs h.1)

filter-front : (k : ℕ) (es fs : List CounterEvent) → Each (λ e. e.at ≤ k) es → Each (λ e. suc k ≤ e.at) fs → filter (λ e. nat_le e.at k) (es ++ fs) ≡ es
filter-front k [] [] h g = refl
filter-front k [] (f ∷ fs) h g = let l = g.0 in let t : nat_le f.at k ≡ false = grind (arith, nat_tests) in rw t (filter-front k [] fs h g.1)
filter-front k (e ∷ es) fs h g = let l = h.0 in let t : nat_le e.at k ≡ true = grind (arith, nat_tests) in rw t (ap (λ (l : List CounterEvent). e ∷ l) (filter-front k es fs h.1 g))

pub values-belong : ValuesBelongToResets
values-belong nodes styles name before after p t split =
    let all = all-sited nodes t styles name in
    let ranked : AreRanked nodes 0 (before ++ p ∷ after) = subst (AreRanked nodes 0) split all.ranked in
    let at = has-number nodes t styles name 0 before after p ranked in
    let events : events_of nodes styles name ≡ es ++ fs = all.events ∙ ap (flat_map (site_events nodes styles name)) (split ∙ sym (append_assoc before (p ∷ []) after)) ∙ flat_map-append (site_events nodes styles name) (before ++ p ∷ []) after in
    let up = up-to nodes t styles name 0 before after p at.0 at.1 ranked in
    let seen : filter (λ e. nat_le e.at at.0) (events_of nodes styles name) ≡ es = ap (filter (λ e. nat_le e.at at.0)) events ∙ filter-front at.0 es fs up (past-it nodes t styles name 0 before after p at.0 at.1 ranked) in
    let nested = nested-front es fs (subst AreNested events (events-are-nested nodes styles name t)) in
    let r = come nodes (acts_of styles name (before ++ p ∷ [])) es nothing_yet [] 0 t (acts-are nodes t styles name 0 before after p ranked) nested (from-none es) (record { begun = tt; same = tt; numbered = tt; below = tt }) in
    let s = r.stand at.0 (omega arith) up in
    let h : History = history_of es in
    let last = last-reset-holds nodes h.scopes (places r.new) p at.0 t at.2 at.1 s.begun in
    let value = has-value (parents_of nodes) p h.increments h.scopes r.new (first_scope (holding at.0 h.scopes)) s.same last in
    let is : innermost (values_of nodes styles p.node p.pseudo name) ≡ value_or_zero h.increments (first_scope (holding at.0 h.scopes)) =
    ap (λ (o : Option ℕ). innermost (values_up_to (events_of nodes styles name) o)) at.1
    ∙ ap (λ (l : List CounterEvent). innermost (or_zero (reverse (map (value_of (history_of l).increments) (holding at.0 (history_of l).scopes))))) seen
    ∙ innermost-is h.increments (holding at.0 h.scopes) in
    (r.new, r.come, subst (HasValue (parents_of nodes) p r.new) (sym is) value)
  where
    es : List CounterEvent
    es = flat_map (site_events nodes styles name) (before ++ p ∷ [])

    fs : List CounterEvent
    fs = flat_map (site_events nodes styles name) after

    from-none : (l : List CounterEvent) → Each (λ e. 0 ≤ e.at) l
    from-none [] = tt
    from-none (e ∷ l) = (omega arith, from-none l)

-- ---- there is one value

adds-one : (ps : List (Option ℕ)) (p : Site) (n : ℤ) (old one other : List Count) → Adds ps p n old one → Adds ps p n old other → one ≡ other
adds-one ps p n [] one other h g = absurd h
adds-one ps p n (c ∷ older) one other (inl h) (inl g) = h.1 ∙ sym g.1
adds-one ps p n (c ∷ older) one other (inl h) (inr g) = absurd (g.0 h.0)
adds-one ps p n (c ∷ older) one other (inr h) (inl g) = absurd (h.0 g.0)
adds-one ps p n (c ∷ older) one other (inr h) (inr g) = h.2 ∙ ap (λ (l : List Count). c ∷ l) (adds-one ps p n older h.1 g.1 h.3 g.3) ∙ sym g.2

adds-some : (ps : List (Option ℕ)) (p : Site) (n : ℤ) (old new : List Count) → Adds ps p n old new → NoneReaches ps p old → ⊥
adds-some ps p n [] new h g = h
adds-some ps p n (c ∷ older) new (inl h) g = g.0 h.0
adds-some ps p n (c ∷ older) new (inr h) g = adds-some ps p n older h.1 h.3 g.1

does-one : (ps : List (Option ℕ)) (p : Site) (a : Act) (old one other : List Count) → Does ps p a old one → Does ps p a old other → one ≡ other
does-one ps p (act.Reset n) old one other h g = h ∙ sym g
does-one ps p (act.Add n) old one other (inl h) (inl g) = adds-one ps p n old one other h g
does-one ps p (act.Add n) old one other (inl h) (inr g) = absurd (adds-some ps p n old one h g.0)
does-one ps p (act.Add n) old one other (inr h) (inl g) = absurd (adds-some ps p n old other g h.0)
does-one ps p (act.Add n) old one other (inr h) (inr g) = h.1 ∙ sym g.1

come-one : (ps : List (Option ℕ)) (acts : List SiteAct) (old one other : List Count) → Come ps acts old one → Come ps acts old other → one ≡ other
come-one ps [] old one other h g = h ∙ sym g
come-one ps (a ∷ acts) old one other h g = come-one ps acts h.0 one other h.2 (subst (λ (l : List Count). Come ps acts l other) (does-one ps a.place a.act old g.0 h.0 g.1 h.1) g.2)

value-one : (ps : List (Option ℕ)) (p : Site) (counts : List Count) (v w : ℤ) → HasValue ps p counts v → HasValue ps p counts w → v ≡ w
value-one ps p [] v w h g = h ∙ sym g
value-one ps p (c ∷ older) v w (inl h) (inl g) = h.1 ∙ sym g.1
value-one ps p (c ∷ older) v w (inl h) (inr g) = absurd (g.0 h.0)
value-one ps p (c ∷ older) v w (inr h) (inl g) = absurd (h.0 g.0)
value-one ps p (c ∷ older) v w (inr h) (inr g) = value-one ps p older v w h.1 g.1

pub values-are-one : ValuesAreOne
values-are-one ps acts p one other v w c d h g = value-one ps p one v w h (subst (λ (l : List Count). HasValue ps p l w) (come-one ps acts [] other one d c) g)
