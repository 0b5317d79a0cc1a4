-- from events and marks to values
use Rattle.std.proofs.Common.{◌≡◌, ℕ, zero, suc, ◌+◌, ◌<◌, Bool, true, false, cond, List, [], ◌∷◌, ◌++◌, Option, None, Some, length, length-append, slice_get, refl, sym, ◌∙◌, ap, subst, arith, ◌⊎◌, inl, inr}
use Rattle.std.specs.Prelude.{slice_index_or, pos}
use Rattle.std.specs.Str.{bytes_eq}
use Rattle.std.specs.List.{position}
use Rattle.std.specs.List.Sorted.{IsNonDecreasingBy}
use Rattle.std.proofs.lemmas.Option.{slice_get_within}
use Rattle.bk_num.specs.Names.{has_name}
use Rattle.bk_num.proofs.ListLemmas.{bytes_same, slice_get_at, get-push, get-keep, get-end}
use Rattle.bk_num.specs.declared.values.Pseudo.{Pseudo}
use Rattle.bk_num.specs.declared.values.Pseudo.TheVariants as pseudo
use Rattle.dom.specs.Nodes.{Node, IsTree}
use Rattle.dom.specs.Walk.{steps_of}
use Rattle.style.specs.Nodes.{NodeStyles}
use Rattle.counters.specs.declared.scopes.CounterEvent.{CounterEvent}
use Rattle.counters.specs.declared.scopes.ScopeMark.{ScopeMark}
use Rattle.counters.specs.declared.at.Spot.{Spot}
use Rattle.counters.specs.Scopes.{Each, IsAfter, AreNested, values_by}
use Rattle.counters.specs.Chains.{AreMarks, AreMarked}
use Rattle.counters.specs.At.{Kept, AreAllMarks, AreAllNested, KeepAsked, place_in, values_of_marks, marks_by, counter_values}
use Rattle.counters.specs.Document.{document_events, place_number, values_of, into, out_of}
use Rattle.counters.specs.Log.{of_asked}
use Rattle.named_lists.specs.Lists.{ListsOf, listed, list_at, of_name}
use Rattle.counters.specs.Gather.{AreSpots, spot_at, needed, AreInOrder, IsMarksOf, AreMarksOf}
use Rattle.counters.proofs.NeededLemmas.{AreKept, needed-nested, needed-values}
use Rattle.counters.proofs.NestLemmas.{events-are-nested}
use Rattle.counters.proofs.ValueLemmas.{values-are}

each-at : (P : CounterEvent → Type 0) (xs : List CounterEvent) (j : ℕ) (d : CounterEvent) → Each P xs → j < length xs → P (slice_index_or xs j d)
each-at P [] j d h l = absurd (omega arith)
each-at P (x ∷ xs) zero d h l = h.0
each-at P (x ∷ xs) (suc j) d h l = each-at P xs j d h.1 (omega arith)

pub nested-sorted : (events : List CounterEvent) → AreNested events → IsNonDecreasingBy (λ e. e.at) events
nested-sorted [] h i j d le l = absurd (omega arith)
nested-sorted (e ∷ more) h zero zero d le l = omega arith
nested-sorted (e ∷ more) h zero (suc j) d le l = (each-at (IsAfter e) more j d h.1 (omega arith)).0
nested-sorted (e ∷ more) h (suc i) zero d le l = absurd (omega arith)
nested-sorted (e ∷ more) h (suc i) (suc j) d le l = nested-sorted more h.2 i j d (omega arith) (omega arith)

-- ---- the counters that are asked for

of-asked : (asked : List (List ℕ)) (events : List (List ℕ × CounterEvent)) (x : List ℕ) → of_name (of_asked asked events) x ≡ cond (has_name asked x) (of_name events x) []
of-asked asked [] x = by (has_name asked x)
  where
    by : (b : Bool) → [] ≡ cond {A = List CounterEvent} b [] []
    by true = refl
    by false = refl
of-asked asked (e ∷ es) x = by (has_name asked e.0) refl (bytes_eq e.0 x) refl (of-asked asked es x)
  where
    here : bytes_eq e.0 x ≡ true → has_name asked e.0 ≡ has_name asked x
    here q = ap (has_name asked) (bytes_same e.0 x q)

    by : (b : Bool) → has_name asked e.0 ≡ b → (c : Bool) → bytes_eq e.0 x ≡ c → of_name (of_asked asked es) x ≡ cond (has_name asked x) (of_name es x) [] → of_name (cond b (e ∷ of_asked asked es) (of_asked asked es)) x ≡ cond (has_name asked x) (of_name (e ∷ es) x) []
    by true p true q same = let t : has_name asked x ≡ true = sym (here q) ∙ p in rw (q, t) (ap (λ l. e.1 ∷ l) (same ∙ ap (λ b. cond b (of_name es x) []) t))
    by true p false q same = rw q same
    by false p true q same = let f : has_name asked x ≡ false = sym (here q) ∙ p in rw f (same ∙ ap (λ b. cond b (of_name es x) []) f)
    by false p false q same = rw q same

pub asked-nested : (asked : List (List ℕ)) (events : List (List ℕ × CounterEvent)) → AreAllNested events → AreAllNested (of_asked asked events)
asked-nested asked events h x = subst AreNested (sym (of-asked asked events x)) (by (has_name asked x))
  where
    by : (b : Bool) → AreNested (cond b (of_name events x) [])
    by true = h x
    by false = tt

of-list : (events : List (List ℕ × CounterEvent)) (l : ListsOf CounterEvent) → AreKept events l → (i : ℕ) (es : List CounterEvent) → slice_get l.lists i ≡ Some es → (x : List ℕ) × (es ≡ needed None (of_name events x))
of-list events l a i es g =
    let w = slice_get_within l.lists i es g in
    let n = slice_get_at l.names i (let z = a.len in omega (arith, w)) in
    (n.0, sym (ap listed g) ∙ sym (ap (list_at l.lists) (a.distinct i n.0 n.1)) ∙ a.each n.0)

pub in-order : (events : List (List ℕ × CounterEvent)) (l : ListsOf CounterEvent) → AreAllNested events → AreKept events l → AreInOrder l.lists
in-order events l h a i es g =
    let n = of-list events l a i es g in
    subst (IsNonDecreasingBy (λ e. e.at)) (sym n.1) (nested-sorted (needed None (of_name events n.0)) (needed-nested None (of_name events n.0) (h n.0)))

-- ---- marks of each list

pub marks-more : (lists : List (List CounterEvent)) (all : List (List ScopeMark)) (l : List CounterEvent) (m : List ScopeMark) → AreMarksOf lists all → AreMarks m → AreMarked l m → AreMarksOf (lists ++ l ∷ []) (all ++ m ∷ [])
marks-more lists all l m a are marked = record {
  len = (let x = length-append lists (l ∷ []) in let y = length-append all (m ∷ []) in let z = a.len in omega arith);
  each = λ i n g. by i n (get-push all m n i g);
}
  where
    by : (i : ℕ) (n : List ScopeMark) → ((i ≡ length all) × (n ≡ m)) ⊎ (slice_get all i ≡ Some n) → (k : List CounterEvent) × (slice_get (lists ++ l ∷ []) i ≡ Some k) × IsMarksOf k n
    by i n (inl h) = (l, ap (slice_get (lists ++ l ∷ [])) (h.0 ∙ a.len) ∙ get-end lists l, record { are = subst AreMarks (sym h.1) are; marked = subst (AreMarked l) (sym h.1) marked })
    by i n (inr h) = let o = a.each i n h in (o.0, get-keep lists (l ∷ []) i o.0 o.1, o.2)

pub all-marks : (lists : List (List CounterEvent)) (all : List (List ScopeMark)) → AreMarksOf lists all → AreAllMarks all
all-marks lists all a i m g = (a.each i m g).2.are

place-is : (o : Option Spot) (p : Pseudo) → place_in o p ≡ place_number (spot_at o).into (spot_at o).out p
place-is (Some s) p = refl
place-is None pseudo.Element = refl
place-is None pseudo.Call = refl
place-is None pseudo.Marker = refl
place-is None pseudo.Before = refl
place-is None pseudo.After = refl

none-kept : (k : ℕ) → pos 0 ∷ [] ≡ values_by [] k
none-kept k = refl

marks-hold : (lists : List (List CounterEvent)) (all : List (List ScopeMark)) (events : List CounterEvent) → AreMarksOf lists all → AreNested events → (i : Option ℕ) (k : ℕ) → list_at lists i ≡ events → values_of_marks (marks_by all i) k ≡ values_by events k
marks-hold lists all events a nested None k e = none-kept k ∙ ap (λ (v : List CounterEvent). values_by v k) e
marks-hold lists all events a nested (Some i) k e = by (slice_get all i) refl
  where
    empty : slice_get all i ≡ None → (o : Option (List CounterEvent)) → slice_get lists i ≡ o → listed o ≡ []
    empty g None h = refl
    empty g (Some l) h = let w = slice_get_within lists i l h in let n = slice_get_at all i (let z = a.len in omega (arith, w)) in absurd (let x : None ≡ Some n.0 = sym g ∙ n.1 in cc)

    by : (o : Option (List ScopeMark)) → slice_get all i ≡ o → values_of_marks o k ≡ values_by events k
    by None g = none-kept k ∙ ap (λ (v : List CounterEvent). values_by v k) (sym (empty g (slice_get lists i) refl) ∙ e)
    by (Some m) g =
        let o = a.each i m g in
        let same : o.0 ≡ events = sym (ap listed o.1) ∙ e in
        values-are o.0 m k (subst AreNested (sym same) nested) o.2.marked ∙ ap (λ (v : List CounterEvent). values_by v k) same

pub keep-asked : (asked : List (List ℕ)) (events : List (List ℕ × CounterEvent)) (l : ListsOf CounterEvent) (all : List (List ScopeMark)) → AreAllNested events → AreKept (of_asked asked events) l → AreMarksOf l.lists all → KeepAsked asked l.names all events
keep-asked asked events l all nested kept marks x k t =
    let own : of_name (of_asked asked events) x ≡ of_name events x = of-asked asked events x ∙ ap (λ b. cond b (of_name events x) []) t in
    marks-hold l.lists all (needed None (of_name events x)) marks (needed-nested None (of_name events x) (nested x)) (position (bytes_eq x) l.names) k (kept.each x ∙ ap (needed None) own) ∙ needed-values (of_name events x) k (nested x)

pub values-are-those : (nodes : List Node) (styles : List NodeStyles) (spots : List Spot) → AreSpots (steps_of nodes) spots → (c : Kept) → c.events ≡ document_events nodes styles → c.spots ≡ spots → (n : ℕ) (p : Pseudo) (x : List ℕ) → counter_values c n p x ≡ values_of nodes styles n p x
values-are-those nodes styles spots s c e g n p x =
    let place : place_in (slice_get spots n) p ≡ place_number (into (steps_of nodes) n) (out_of (steps_of nodes) n) p = place-is (slice_get spots n) p ∙ ap (λ (z : Spot). place_number z.into z.out p) (s n) in
    rw (e, g, place) refl

pub all-nested : (nodes : List Node) (styles : List NodeStyles) (events : List (List ℕ × CounterEvent)) → IsTree nodes → events ≡ document_events nodes styles → AreAllNested events
all-nested nodes styles events t e x = rw e (events-are-nested nodes styles x t)
