-- What is kept among the open elements, and what a row or a table of rows closes.
use Rattle.std.proofs.Common.{◌≡◌, ◌⊎◌, inl, inr, ℕ, suc, zero, ◌<◌, ◌≤◌, Bool, true, false, List, [], ◌∷◌, Option, None, Some, Contains, fold, length, take, slice_get, if◌then◌else◌, refl, sym, ap, subst, arith}
use Rattle.std.proofs.lemmas.Bool.{cases_lt}
use Rattle.std.proofs.Math.Seq.{take-length}
use Rattle.bk_num.specs.Names.{has_name}
use Rattle.bk_num.specs.declared.ids.NodeId.{NodeId}
use Rattle.bk_num.proofs.ListLemmas.{get-take, take-get, contains-get, get-contains}
use Rattle.dom.specs.Nodes.{Node}
use Rattle.html_tree.specs.Rules.{Rule, names_tag}
use Rattle.html_tree.specs.Tree.{name_in, kept, closed_by, after_rule}
use Rattle.html_tree.specs.Open.{IsInScope, IsInnermost, ClosesInnermost, ClosesByRow, KeptIsInnermost, AllIsKept}

module _ (closes scope : List ℕ → Bool) (nodes : List Node) (opened : List NodeId) where
  scope-up : (n k : ℕ) → scope (name_in nodes (slice_get opened n)) ≡ false → IsInScope closes scope nodes opened n k → IsInScope closes scope nodes opened (suc n) k
  scope-up n k f s = record { within = (let w = s.within in omega arith); closed = s.closed; free = λ j l m. by j l (cases_lt j n) (omega arith) }
    where
      by : (j : ℕ) → k < j → (j < n) ⊎ (n ≤ j) → j ≤ n → scope (name_in nodes (slice_get opened j)) ≡ false
      by j l (inl i) m = s.free j l i
      by j l (inr i) m = let e : n ≡ j = omega arith in subst (λ x. scope (name_in nodes (slice_get opened x)) ≡ false) e f

  scope-down : (n k : ℕ) → closes (name_in nodes (slice_get opened n)) ≡ false → IsInScope closes scope nodes opened (suc n) k → IsInScope closes scope nodes opened n k
  scope-down n k e s = record { within = by (cases_lt k n); closed = s.closed; free = λ j l m. s.free j l (omega arith) }
    where
      by : (k < n) ⊎ (n ≤ k) → k < n
      by (inl l) = l
      by (inr l) = let w = s.within in let i : k ≡ n = omega arith in let c = subst (λ x. closes (name_in nodes (slice_get opened x)) ≡ true) i s.closed in absurd cc

  kept-some : (n k : ℕ) → kept closes scope nodes opened n ≡ Some k → IsInnermost closes scope nodes opened n k
  kept-some zero k h = cc
  kept-some (suc n) k h = by (closes (name_in nodes (slice_get opened n))) (scope (name_in nodes (slice_get opened n))) refl refl h (kept-some n k)
    where
      by : (a b : Bool) → closes (name_in nodes (slice_get opened n)) ≡ a → scope (name_in nodes (slice_get opened n)) ≡ b → (if a then Some n else if b then None else kept closes scope nodes opened n) ≡ Some k → (kept closes scope nodes opened n ≡ Some k → IsInnermost closes scope nodes opened n k) → IsInnermost closes scope nodes opened (suc n) k
      by true b e f h rest = let same : n ≡ k = cc in subst (λ i. IsInnermost closes scope nodes opened (suc n) i) same (record {
        in_scope = record { within = omega arith; closed = e; free = λ j l m. absurd (omega arith) };
        last = λ j s. let w = s.within in omega arith;
      })
      by false true e f h rest = cc
      by false false e f h rest = let r = rest h in record { in_scope = scope-up n k f r.in_scope; last = λ j s. r.last j (scope-down n j e s) }

  kept-none : (n k : ℕ) → kept closes scope nodes opened n ≡ None → IsInScope closes scope nodes opened n k → ⊥
  kept-none zero k h s = let w = s.within in omega arith
  kept-none (suc n) k h s = by (closes (name_in nodes (slice_get opened n))) (scope (name_in nodes (slice_get opened n))) refl refl h (kept-none n k)
    where
      by : (a b : Bool) → closes (name_in nodes (slice_get opened n)) ≡ a → scope (name_in nodes (slice_get opened n)) ≡ b → (if a then Some n else if b then None else kept closes scope nodes opened n) ≡ None → (kept closes scope nodes opened n ≡ None → IsInScope closes scope nodes opened n k → ⊥) → ⊥
      by true b e f h rest = cc
      by false true e f h rest = let d = scope-down n k e s in let g = s.free n d.within (omega arith) in cc
      by false false e f h rest = rest h (scope-down n k e s)

  some-kept : (n k : ℕ) → IsInnermost closes scope nodes opened n k → kept closes scope nodes opened n ≡ Some k
  some-kept n k i = by (kept closes scope nodes opened n) refl
    where
      by : (o : Option ℕ) → kept closes scope nodes opened n ≡ o → o ≡ Some k
      by None e = absurd (kept-none n k e i.in_scope)
      by (Some j) e = let r = kept-some n j e in let a = i.last j r.in_scope in let b = r.last k i.in_scope in let same : j ≡ k = omega arith in ap Some same

  none-kept : (n : ℕ) → ((k : ℕ) → IsInScope closes scope nodes opened n k → ⊥) → kept closes scope nodes opened n ≡ None
  none-kept n h = by (kept closes scope nodes opened n) refl
    where
      by : (o : Option ℕ) → kept closes scope nodes opened n ≡ o → o ≡ None
      by None e = refl
      by (Some j) e = absurd (h j (kept-some n j e).in_scope)

pub kept_innermost : KeptIsInnermost
kept_innermost closes scope nodes opened n k = (kept-some closes scope nodes opened n k, some-kept closes scope nodes opened n k)

pub all_kept : AllIsKept
all_kept closes scope nodes opened n = (λ e k s. kept-none closes scope nodes opened n k e s, none-kept closes scope nodes opened n)

-- ---- what a row closes

-- an open element stands at one place
pub record AreApart (opened : List NodeId) : Type 0 where
  pub apart : (i j : ℕ) (o : NodeId) → slice_get opened i ≡ Some o → slice_get opened j ≡ Some o → i ≡ j

module _ (closes scope : List ℕ → Bool) (nodes : List Node) (opened : List NodeId) where
  closed-take : (k : ℕ) → kept closes scope nodes opened (length opened) ≡ Some k → closed_by closes scope nodes opened ≡ take k opened
  closed-take k e = rw e refl

  closed-all : kept closes scope nodes opened (length opened) ≡ None → closed_by closes scope nodes opened ≡ opened
  closed-all e = rw e (take-length opened)

  -- what isn't closed stays
  pub closed-stays : (o : NodeId) → Contains opened o → (ClosesInnermost closes scope nodes opened o → ⊥) → Contains (closed_by closes scope nodes opened) o
  closed-stays o h not = by (kept closes scope nodes opened (length opened)) refl (contains-get opened o h)
    where
      by : (r : Option ℕ) → kept closes scope nodes opened (length opened) ≡ r → ((k : ℕ) × (slice_get opened k ≡ Some o)) → Contains (closed_by closes scope nodes opened) o
      by None e w = subst (λ l. Contains l o) (sym (closed-all e)) h
      by (Some k) e (i, g) = of (cases_lt i k)
        where
          of : (i < k) ⊎ (k ≤ i) → Contains (closed_by closes scope nodes opened) o
          of (inl l) = subst (λ l. Contains l o) (sym (closed-take k e)) (get-contains (take k opened) i o (take-get opened k i o l g))
          of (inr l) = absurd (not (record { innermost = k; place = i; found = kept-some closes scope nodes opened (length opened) k e; inside = l; here = g }))

  -- what stays isn't closed
  pub closed-not : AreApart opened → (o : NodeId) → Contains (closed_by closes scope nodes opened) o → ClosesInnermost closes scope nodes opened o → ⊥
  closed-not apart o h c =
      let e = some-kept closes scope nodes opened (length opened) c.innermost c.found in
      let w = contains-get (take c.innermost opened) o (subst (λ l. Contains l o) (closed-take c.innermost e) h) in
      let g = get-take opened c.innermost w.0 o w.1 in
      let same = apart.apart w.0 c.place o g.1 c.here in
      let l = g.0 in
      let i = c.inside in omega (arith, l, i, same)

  -- closing opens nothing
  pub closed-within : (k : ℕ) (o : NodeId) → slice_get (closed_by closes scope nodes opened) k ≡ Some o → slice_get opened k ≡ Some o
  closed-within k o h = (get-take opened _ k o h).1

pub within-contains : (less more : List NodeId) → ((k : ℕ) (o : NodeId) → slice_get less k ≡ Some o → slice_get more k ≡ Some o) → (o : NodeId) → Contains less o → Contains more o
within-contains less more f o h = let w = contains-get less o h in get-contains more w.0 o (f w.0 o w.1)

pub within-apart : (less more : List NodeId) → ((k : ℕ) (o : NodeId) → slice_get less k ≡ Some o → slice_get more k ≡ Some o) → AreApart more → AreApart less
within-apart less more f h = record { apart = λ i j o a b. h.apart i j o (f i o a) (f j o b) }

-- ---- what a table closes

module _ (name : List ℕ) (nodes : List Node) where
  rule-stays : (opened : List NodeId) (r : Rule) (o : NodeId) → Contains opened o → (names_tag r name ≡ true → ClosesInnermost (has_name r.closes) (has_name r.scope) nodes opened o → ⊥) → Contains (after_rule name nodes opened r) o
  rule-stays opened r o h not = by (names_tag r name) refl
    where
      by : (b : Bool) → names_tag r name ≡ b → Contains (if b then closed_by (has_name r.closes) (has_name r.scope) nodes opened else opened) o
      by true e = closed-stays (has_name r.closes) (has_name r.scope) nodes opened o h (not e)
      by false e = h

  rule-within : (opened : List NodeId) (r : Rule) (k : ℕ) (o : NodeId) → slice_get (after_rule name nodes opened r) k ≡ Some o → slice_get opened k ≡ Some o
  rule-within opened r k o = by (names_tag r name)
    where
      by : (b : Bool) → slice_get (if b then closed_by (has_name r.closes) (has_name r.scope) nodes opened else opened) k ≡ Some o → slice_get opened k ≡ Some o
      by true h = closed-within (has_name r.closes) (has_name r.scope) nodes opened k o h
      by false h = h

  rule-not : (opened : List NodeId) (r : Rule) → AreApart opened → (o : NodeId) → Contains (after_rule name nodes opened r) o → names_tag r name ≡ true → ClosesInnermost (has_name r.closes) (has_name r.scope) nodes opened o → ⊥
  rule-not opened r apart o h e c = closed-not (has_name r.closes) (has_name r.scope) nodes opened apart o (by (names_tag r name) e h) c
    where
      by : (b : Bool) → b ≡ true → Contains (if b then closed_by (has_name r.closes) (has_name r.scope) nodes opened else opened) o → Contains (closed_by (has_name r.closes) (has_name r.scope) nodes opened) o
      by true e h = h
      by false e h = cc

  pub table-within : (table : List Rule) (opened : List NodeId) (k : ℕ) (o : NodeId) → slice_get (fold (after_rule name nodes) opened table) k ≡ Some o → slice_get opened k ≡ Some o
  table-within [] opened k o h = h
  table-within (r ∷ table) opened k o h = rule-within opened r k o (table-within table (after_rule name nodes opened r) k o h)

  pub table-stays : (table : List Rule) (opened : List NodeId) (o : NodeId) → Contains opened o → (ClosesByRow table name nodes opened o → ⊥) → Contains (fold (after_rule name nodes) opened table) o
  table-stays [] opened o h not = h
  table-stays (r ∷ table) opened o h not = table-stays table (after_rule name nodes opened r) o
      (rule-stays opened r o h (λ n c. not (record { number = 0; row = r; listed = refl; named = n; closes = c })))
      (λ c. not (record { number = suc c.number; row = c.row; listed = c.listed; named = c.named; closes = c.closes }))

  pub table-not : (table : List Rule) (opened : List NodeId) → AreApart opened → (o : NodeId) → Contains (fold (after_rule name nodes) opened table) o → ClosesByRow table name nodes opened o → ⊥
  table-not [] opened apart o h c = let l = c.listed in cc
  table-not (r ∷ table) opened apart o h c = by c.number c.listed c.closes (table-not table (after_rule name nodes opened r) (within-apart (after_rule name nodes opened r) opened (rule-within opened r) apart) o h)
    where
      by : (n : ℕ) → slice_get (r ∷ table) n ≡ Some c.row → ClosesInnermost (has_name c.row.closes) (has_name c.row.scope) nodes (fold (after_rule name nodes) opened (take n (r ∷ table))) o → (ClosesByRow table name nodes (after_rule name nodes opened r) o → ⊥) → ⊥
      by zero listed closes rest = let same : c.row ≡ r = cc in
          rule-not opened r apart o (within-contains (fold (after_rule name nodes) (after_rule name nodes opened r) table) (after_rule name nodes opened r) (table-within table (after_rule name nodes opened r)) o h)
          (subst (λ (x : Rule). names_tag x name ≡ true) same c.named)
          (subst (λ (x : Rule). ClosesInnermost (has_name x.closes) (has_name x.scope) nodes opened o) same closes)
      by (suc n) listed closes rest = rest (record { number = n; row = c.row; listed = listed; named = c.named; closes = closes })
