-- The places of nodes among the siblings of their types, from the types that nodes before and after them have.
use Rattle.std.proofs.Common.{◌≡◌, ◌⊎◌, ◌<◌, ◌≤◌, ℕ, zero, suc, ◌+◌, Bool, true, false, not, ◌||◌, ◌==◌, List, [], ◌∷◌, ◌++◌, Option, None, Some, length, map, refl, sym, ◌∙◌, ap, subst, arith, inl, inr}
use Rattle.bk_num.proofs.ListLemmas.{get-set, get-push}
use Rattle.std.specs.Prelude.{is_some, slice_get, slice_set, if◌then◌else◌}
use Rattle.std.specs.List.{list_any}
use Rattle.std.specs.Str.{bytes_eq}
use Rattle.std.proofs.lemmas.Bool.{and_parts, and_from, or_cases, or_left, or_right, true≢false, cases_eq}
use Rattle.std.proofs.lemmas.Map.Views.{exact_unsigned_eq}
use Rattle.std.proofs.lemmas.List.Folds.{list_any-append}
use Rattle.std.proofs.lemmas.List.{map-append}
use Rattle.std.proofs.lemmas.Option.{slice_get_within, same_Some}
use Rattle.std.proofs.lemmas.Slice.Eq.{bytes_eq-Decides}
use Rattle.bk_num.proofs.ListLemmas.{get-set, get-push}
use Rattle.dom.specs.Nodes.{name_at}
use Rattle.dom.proofs.DomLemmas.{eqb-self}
use Rattle.selectors.specs.Walk.{first_such, siblings_before, siblings_after, same_type, name_is}
use Rattle.selectors.specs.Fits.{is_first_of_type, is_last_of_type}
use Rattle.selectors.specs.Match.{Tree, parent_of}
use Rattle.selectors.specs.declared.document.TypePlace.{TypePlace}
use Rattle.selectors.specs.TypePlaces.{AreTypePlaces}
use Rattle.match_table.specs.Types.{Kind, is_kind, has_kind, with_kind, kind_of, kind_at, is_new, with_any, AreFirsts}
use Rattle.match_table.proofs.TypeRanges.{AreKindsOf}
use Rattle.match_table.proofs.SiblingLemmas.{passes-such, before-sound, before-complete, after-sound, after-complete}

-- ---- parents with types

kind-split : (o : Option ℕ) (w : Option (List ℕ)) (k : Kind) → kind_of o w ≡ Some k → (o ≡ Some k.0) × (w ≡ Some k.1)
kind-split None w k e = absurd (cc)
kind-split (Some p) None k e = absurd (cc)
kind-split (Some p) (Some v) k e = let s : (p, v) ≡ k = same_Some (p, v) k e in (ap (λ z. Some z.0) s, ap (λ z. Some z.1) s)

kind-join : (o : Option ℕ) (w : Option (List ℕ)) (p : ℕ) (v : List ℕ) → o ≡ Some p → w ≡ Some v → kind_of o w ≡ Some (p, v)
kind-join o w p v e f = rw (e, f) refl

kinds-equal : (a b : Kind) → is_kind a b ≡ true → a ≡ b
kinds-equal (p, v) (q, w) e =
    let both = and_parts (p == q) (bytes_eq v w) e in
    let s : p ≡ q = exact_unsigned_eq p q both.0 in
    let t : v ≡ w = (bytes_eq-Decides v w).0 both.1 in
    rw (s, t) refl

kind-self : (a : Kind) → is_kind a a ≡ true
kind-self (p, v) = and_from (p == p) (bytes_eq v v) (eqb-self p) ((bytes_eq-Decides v v).1 refl)

has-old : (kinds : List Kind) (q k : Kind) → has_kind kinds k ≡ true → has_kind (with_kind kinds q) k ≡ true
unfolding has_kind
has-old kinds q k has = by (has_kind kinds q) refl
  where
    by : (b : Bool) → has_kind kinds q ≡ b → has_kind (if b then kinds else kinds ++ q ∷ []) k ≡ true
    by true e = has
    by false e = list_any-append (is_kind k) kinds (q ∷ []) ∙ or_left (list_any (is_kind k) kinds) (list_any (is_kind k) (q ∷ [])) has

has-new : (kinds : List Kind) (q : Kind) → has_kind (with_kind kinds q) q ≡ true
unfolding has_kind
has-new kinds q = by (has_kind kinds q) refl
  where
    by : (b : Bool) → has_kind kinds q ≡ b → has_kind (if b then kinds else kinds ++ q ∷ []) q ≡ true
    by true e = e
    by false e = list_any-append (is_kind q) kinds (q ∷ []) ∙ or_right (list_any (is_kind q) kinds) (list_any (is_kind q) (q ∷ [])) (or_left (is_kind q q) false (kind-self q))

has-cases : (kinds : List Kind) (q k : Kind) → has_kind (with_kind kinds q) k ≡ true → (has_kind kinds k ≡ true) ⊎ (k ≡ q)
unfolding has_kind
has-cases kinds q k has = by (has_kind kinds q) refl has
  where
    by : (b : Bool) → has_kind kinds q ≡ b → has_kind (if b then kinds else kinds ++ q ∷ []) k ≡ true → (has_kind kinds k ≡ true) ⊎ (k ≡ q)
    by true e h = inl h
    by false e h = elim (or_cases (list_any (is_kind k) kinds) (list_any (is_kind k) (q ∷ [])) (sym (list_any-append (is_kind k) kinds (q ∷ [])) ∙ h)) [
      | inl old ↦ inl old
      | inr new ↦ elim (or_cases (is_kind k q) false new) [
        | inl same ↦ inr (kinds-equal k q same)
        | inr never ↦ absurd (true≢false (sym never))
      ]
    ]

-- keys that stand for parents with types
pub has-mapped : {K : Type 0} (f : K → Kind) (q : Kind) (keys : List K) → has_kind (map f keys) q ≡ list_any (λ k. is_kind q (f k)) keys
unfolding has_kind
has-mapped f q [] = refl
has-mapped f q (k ∷ ks) = ap (λ b. is_kind q (f k) || b) (has-mapped f q ks)

pub with-mapped : {K : Type 0} (f : K → Kind) (q : Kind) (keys new : List K) (v : K) → f v ≡ q → new ≡ (if list_any (λ k. is_kind q (f k)) keys then keys else keys ++ v ∷ []) → map f new ≡ with_kind (map f keys) q
with-mapped {K} f q keys new v here is = by (list_any (λ k. is_kind q (f k)) keys) refl
  where
    by : (b : Bool) → list_any (λ k. is_kind q (f k)) keys ≡ b → map f new ≡ with_kind (map f keys) q
    by true e = let has : has_kind (map f keys) q ≡ true = has-mapped f q keys ∙ e in let same : new ≡ keys = rw e at is in rw (same, has) refl
    by false e =
        let has : has_kind (map f keys) q ≡ false = has-mapped f q keys ∙ e in
        let same : new ≡ keys ++ v ∷ [] = rw e at is in
        rw has (ap (map f) same ∙ map-append f keys (v ∷ []) ∙ ap (λ z. map f keys ++ z ∷ []) here)

pub kinds-none : (dom : Tree) (Range : ℕ → Type 0) → ((m : ℕ) (k : Kind) → Range m → kind_at dom m ≡ Some k → ⊥) → AreKindsOf dom Range []
unfolding has_kind
kinds-none dom Range none k = (λ e. absurd (true≢false (sym e)), λ r. absurd (none r.0 k r.1 r.2))

pub kinds-more : (dom : Tree) (Old New : ℕ → Type 0) (kinds : List Kind) (n : ℕ) → ((m : ℕ) → New m → Old m ⊎ (m ≡ n)) → ((m : ℕ) → Old m → New m) → New n → AreKindsOf dom Old kinds → AreKindsOf dom New (with_any kinds (kind_at dom n))
kinds-more dom Old New kinds n cases keeps new are = by (kind_at dom n) refl
  where
    by : (o : Option Kind) → kind_at dom n ≡ o → AreKindsOf dom New (with_any kinds o)
    by None is k = (
      λ has. let r = (are k).0 has in (r.0, keeps r.0 r.1, r.2),
      λ r. (are k).1 (elim (cases r.0 r.1) [
        | inl old ↦ (r.0, old, r.2)
        | inr same ↦ absurd (let f : ◌≡◌ {A = Option Kind} None (Some k) = sym is ∙ ap (kind_at dom) (sym same) ∙ r.2 in cc)
      ]),
    )
    by (Some q) is k = (
      λ has. elim (has-cases kinds q k has) [
        | inl old ↦ (let r = (are k).0 old in (r.0, keeps r.0 r.1, r.2))
        | inr same ↦ (n, new, is ∙ ap (λ z. Some z) (sym same))
      ],
      λ r. elim (cases r.0 r.1) [
        | inl old ↦ has-old kinds q k ((are k).1 (r.0, old, r.2))
        | inr same ↦ (let s : q ≡ k = same_Some q k (sym is ∙ ap (kind_at dom) (sym same) ∙ r.2) in subst (λ z. has_kind (with_kind kinds q) z ≡ true) s (has-new kinds q))
      ],
    )

-- ---- the first and the last of a type

named : (a b : Option (List ℕ)) → name_is a b ≡ true → (v : List ℕ) × (a ≡ Some v) × (b ≡ Some v)
named None b e = absurd (cc)
named (Some a) None e = absurd (cc)
named (Some a) (Some b) e = (a, refl, ap (λ z. Some z) (sym ((bytes_eq-Decides a b).0 e)))

same-name : (a b : Option (List ℕ)) (v : List ℕ) → a ≡ Some v → b ≡ Some v → name_is a b ≡ true
same-name a b v e f = rw (e, f) ((bytes_eq-Decides v v).1 refl)

node-within : (dom : Tree) (m : ℕ) (v : List ℕ) → name_at dom m ≡ Some v → m < length dom
node-within [] m v e = absurd (cc)
node-within (x ∷ xs) zero v e = omega arith
node-within (x ∷ xs) (suc m) v e = omega (arith, node-within xs m v e)

pub kind-within : (dom : Tree) (m : ℕ) (k : Kind) → kind_at dom m ≡ Some k → m < length dom
kind-within dom m k e = node-within dom m k.1 (kind-split (parent_of dom m) (name_at dom m) k e).1

none-some : {A : Type 0} (o : Option A) → o ≡ None → is_some o ≡ true → ⊥
none-some o e f = absurd (true≢false (sym f ∙ ap is_some e))

-- a kind is new where no sibling of the range is of it
new-none : (dom : Tree) (Range : ℕ → Type 0) (kinds : List Kind) (o : Option Kind) → AreKindsOf dom Range kinds → ((m : ℕ) (k : Kind) → Range m → o ≡ Some k → kind_at dom m ≡ Some k → ⊥) → is_new kinds o ≡ true
new-none dom Range kinds None are none = refl
new-none dom Range kinds (Some k) are none = by (has_kind kinds k) refl
  where
    by : (b : Bool) → has_kind kinds k ≡ b → not b ≡ true
    by true e = let r = (are k).0 e in absurd (none r.0 k r.1 refl r.2)
    by false e = refl

new-some : (dom : Tree) (Range : ℕ → Type 0) (kinds : List Kind) (o : Option Kind) (m : ℕ) (k : Kind) → AreKindsOf dom Range kinds → Range m → o ≡ Some k → kind_at dom m ≡ Some k → is_new kinds o ≡ false
new-some dom Range kinds o m k are range is at = ap (is_new kinds) is ∙ ap not ((are k).1 (m, range, at))

pub first-is : (dom : Tree) (Range : ℕ → Type 0) (kinds : List Kind) (n : ℕ) → ((m : ℕ) → m < n → Range m) → ((m : ℕ) → Range m → m < n) → AreKindsOf dom Range kinds → is_new kinds (kind_at dom n) ≡ is_first_of_type dom n
first-is dom Range kinds n all only are = by (first_such (same_type dom n) (siblings_before dom n)) refl
  where
    by : (o : Option ℕ) → first_such (same_type dom n) (siblings_before dom n) ≡ o → is_new kinds (kind_at dom n) ≡ not (is_some o)
    by None e = new-none dom Range kinds (kind_at dom n) are (λ m k range here there.
        let a = kind-split (parent_of dom n) (name_at dom n) k here in
        let b = kind-split (parent_of dom m) (name_at dom m) k there in
        none-some (first_such (same_type dom n) (siblings_before dom n)) e
        (before-complete dom (same_type dom n) n m k.0 (only m range) a.0 b.0 (same-name (name_at dom m) (name_at dom n) k.1 b.1 a.1)))
    by (Some m) e =
        let s = before-sound dom (same_type dom n) n m e in
        let v = named (name_at dom m) (name_at dom n) (passes-such (same_type dom n) (siblings_before dom n) m e) in
        new-some dom Range kinds (kind_at dom n) m (s.1.0, v.0) are (all m s.0)
        (kind-join (parent_of dom n) (name_at dom n) s.1.0 v.0 s.1.1 v.2) (kind-join (parent_of dom m) (name_at dom m) s.1.0 v.0 s.1.2 v.1)

pub last-is : (dom : Tree) (Range : ℕ → Type 0) (kinds : List Kind) (n : ℕ) → ((m : ℕ) → n < m → Range m) → ((m : ℕ) → Range m → n < m) → AreKindsOf dom Range kinds → is_new kinds (kind_at dom n) ≡ is_last_of_type dom n
last-is dom Range kinds n all only are = by (first_such (same_type dom n) (siblings_after dom n)) refl
  where
    by : (o : Option ℕ) → first_such (same_type dom n) (siblings_after dom n) ≡ o → is_new kinds (kind_at dom n) ≡ not (is_some o)
    by None e = new-none dom Range kinds (kind_at dom n) are (λ m k range here there.
        let a = kind-split (parent_of dom n) (name_at dom n) k here in
        let b = kind-split (parent_of dom m) (name_at dom m) k there in
        none-some (first_such (same_type dom n) (siblings_after dom n)) e
        (after-complete dom (same_type dom n) n m k.0 (node-within dom m k.1 b.1) (only m range) a.0 b.0 (same-name (name_at dom m) (name_at dom n) k.1 b.1 a.1)))
    by (Some m) e =
        let s = after-sound dom (same_type dom n) n m e in
        let v = named (name_at dom m) (name_at dom n) (passes-such (same_type dom n) (siblings_after dom n) m e) in
        new-some dom Range kinds (kind_at dom n) m (s.1.0, v.0) are (all m s.0)
        (kind-join (parent_of dom n) (name_at dom n) s.1.0 v.0 s.1.1 v.2) (kind-join (parent_of dom m) (name_at dom m) s.1.0 v.0 s.1.2 v.1)

-- ---- lists of places

pub firsts-none : (dom : Tree) → AreFirsts dom []
firsts-none dom n place at = absurd (cc)

pub firsts-push : (dom : Tree) (places : List TypePlace) (place : TypePlace) (n : ℕ) → length places ≡ n → AreFirsts dom places → place.first ≡ is_first_of_type dom n → AreFirsts dom (places ++ place ∷ [])
firsts-push dom places place n count are first k x at = elim (get-push places place x k at) [
  | inl last ↦ ap (λ z. z.first) last.1 ∙ first ∙ ap (is_first_of_type dom) (sym (last.0 ∙ count))
  | inr old ↦ are k x old
]

-- the second answers are right from a node on
abbrev pub AreLasts : Tree → ℕ → List TypePlace → Type 0
AreLasts dom left places = (n : ℕ) (place : TypePlace) → slice_get places n ≡ Some place → left ≤ n → place.last ≡ is_last_of_type dom n

pub lasts-none : (dom : Tree) (left : ℕ) (places : List TypePlace) → length places ≤ left → AreLasts dom left places
lasts-none dom left places end n place at low = absurd (omega (arith, slice_get_within places n place at, end, low))

pub firsts-set : (dom : Tree) (places : List TypePlace) (i : ℕ) (old new : TypePlace) → slice_get places i ≡ Some old → new.first ≡ old.first → AreFirsts dom places → AreFirsts dom (slice_set places i new)
firsts-set dom places i old new at same are n place is =
    let g = get-set places i n new place is in
    elim g.2 [
      | inl here ↦ ap (λ z. z.first) here.1 ∙ same ∙ are i old at ∙ ap (is_first_of_type dom) (sym here.0)
      | inr other ↦ ap (λ z. z.first) other.1 ∙ are n g.0 g.1
    ]

pub lasts-set : (dom : Tree) (places : List TypePlace) (i : ℕ) (new : TypePlace) → new.last ≡ is_last_of_type dom i → AreLasts dom (i + 1) places → AreLasts dom i (slice_set places i new)
lasts-set dom places i new last are n place is low =
    let g = get-set places i n new place is in
    elim g.2 [
      | inl here ↦ ap (λ z. z.last) here.1 ∙ last ∙ ap (is_last_of_type dom) (sym here.0)
      | inr other ↦ ap (λ z. z.last) other.1 ∙ are n g.0 g.1 (elim (cases_eq n i) [ inl same ↦ absurd (other.0 same) | inr differ ↦ omega (arith, low, differ) ])
    ]

pub places-are : (dom : Tree) (places : List TypePlace) → AreFirsts dom places → AreLasts dom 0 places → AreTypePlaces dom places
places-are dom places firsts lasts n place at = record { first = firsts n place at; last = lasts n place at (omega arith) }
