-- The states before each token of a text, and what is open in them.
use Rattle.std.proofs.Common.{◌≡◌, ◌⊎◌, inl, inr, ℕ, suc, zero, ◌+◌, ◌-◌, ◌<◌, ◌≤◌, List, [], ◌∷◌, ◌++◌, Option, None, Some, Result, Ok, Err, IfOk, Contains, length, option_map, take, slice_get, refl, sym, ◌∙◌, ap, subst, arith}
use Rattle.std.proofs.lemmas.Bool.{cases_lt}
use Rattle.std.proofs.lemmas.Option.{slice_get_within, slice_get-map}
use Rattle.std.proofs.Math.Seq.{take-length}
use Rattle.bk_num.specs.declared.ids.NodeId.{NodeId}
use Rattle.bk_num.proofs.ListLemmas.{get-none, contains-get, get-contains, slice_get_at, take-more}
use Rattle.dom.specs.Nodes.{Node, parents_of, depth_of, flat}
use Rattle.dom.specs.declared.dom.DomErr.{DomErr}
use Rattle.dom.proofs.IdLemmas.{length-parents}
use Rattle.html_tok.specs.Listed.{TokenView, tokens_of}
use Rattle.html_tree.specs.Tree.{State, current, number_of, after_kind, after_result, after_tokens, nodes_in, begun, tree_of}
use Rattle.html_tree.specs.Open.{KindCloses, KindOpens, IsStateAt, Closes, Opens, Adds, IsOpenSince, StaysSince, IsParentAt, OpenIsOpened, OpenIsPath, NodesAreAdded, ParentIsLastOpened, TreeIsLastState}
use Rattle.html_tree.proofs.OrderLemmas.{IsOrdered, ordered-tokens}
use Rattle.html_tree.proofs.ScopeLemmas.{AreApart, within-contains}
use Rattle.html_tree.proofs.TokenLemmas.{left, left-within, left-stays, left-not, IsNext, kind-next, next-cases, next-left, opens-next, next-opens, next-keeps, next-more, next-parent, IsPath, next-path}

-- ---- the states of a text

done : (r : Result State DomErr) → after_result r (after_tokens []) ≡ r
unfolding after_tokens
done (Ok s) = refl
done (Err e) = refl

tokens-more : (tokens : List TokenView) (t : TokenView) (s : State) → after_tokens (tokens ++ t ∷ []) s ≡ after_result (after_tokens tokens s) (after_kind t.kind t.slice)
unfolding after_tokens
tokens-more [] t s = done (after_kind t.kind t.slice s)
tokens-more (x ∷ tokens) t s = by (after_kind x.kind x.slice s) (tokens-more tokens t)
  where
    by : (r : Result State DomErr) → ((m : State) → after_tokens (tokens ++ t ∷ []) m ≡ after_result (after_tokens tokens m) (after_kind t.kind t.slice)) → after_result r (after_tokens (tokens ++ t ∷ [])) ≡ after_result (after_result r (after_tokens tokens)) (after_kind t.kind t.slice)
    by (Ok m) rest = rest m
    by (Err e) rest = refl

take-none : (tokens : List TokenView) (t : ℕ) → slice_get tokens t ≡ None → take (suc t) tokens ≡ take t tokens
take-none [] zero h = refl
take-none [] (suc t) h = refl
take-none (x ∷ tokens) zero h = cc
take-none (x ∷ tokens) (suc t) h = ap (λ l. x ∷ l) (take-none tokens t h)

-- the state before a token and what follows it
pub record IsStep (tokens : List TokenView) (t : ℕ) (token : TokenView) (after : State) : Type 0 where
  pub state : State
  pub before : IsStateAt tokens t state
  pub next : IsNext token.kind token.slice state after

module _ (tokens : List TokenView) where
  state-step : (t : ℕ) (token : TokenView) (s : State) → slice_get tokens t ≡ Some token → IsStateAt tokens (suc t) s → IsStep tokens t token s
  state-step t token s e h = by (after_tokens (take t tokens) begun) refl (sym (tokens-more (take t tokens) token begun) ∙ sym (ap (λ l. after_tokens l begun) (take-more tokens t token e)) ∙ ap (λ i. after_tokens (take i tokens) begun) (let n : t + 1 ≡ suc t = omega arith in n) ∙ h)
    where
      by : (r : Result State DomErr) → after_tokens (take t tokens) begun ≡ r → after_result r (after_kind token.kind token.slice) ≡ Ok s → IsStep tokens t token s
      by (Ok m) b k = record { state = m; before = b; next = kind-next token.kind token.slice m s k }
      by (Err x) b k = cc

  state-none : (t : ℕ) (s : State) → slice_get tokens t ≡ None → IsStateAt tokens (suc t) s → IsStateAt tokens t s
  state-none t s e h = sym (ap (λ l. after_tokens l begun) (take-none tokens t e)) ∙ h

  state-one : (t : ℕ) (a b : State) → IsStateAt tokens t a → IsStateAt tokens t b → a ≡ b
  state-one t a b g h = let e : Ok a ≡ Ok b = sym g ∙ h in cc

  state-begun : (s : State) → IsStateAt tokens 0 s → s ≡ begun
  unfolding after_tokens
  state-begun s h = cc

  ordered-at : (t : ℕ) (s : State) → IsStateAt tokens t s → IsOrdered s
  ordered-at t s h = by (after_tokens (take t tokens) begun) (ordered-tokens (take t tokens)) h
    where
      by : (r : Result State DomErr) → IfOk r IsOrdered → r ≡ Ok s → IsOrdered s
      by (Ok m) k e = let same : m ≡ s = cc in subst IsOrdered same k
      by (Err x) k e = cc

  -- the states before a state
  earlier : (t u : ℕ) (s : State) → u ≤ t → IsStateAt tokens t s → (m : State) × IsStateAt tokens u m
  earlier zero u s l h = (s, (let e : 0 ≡ u = omega arith in subst (λ i. IsStateAt tokens i s) e h))
  earlier (suc t) u s l h = by (cases_lt t u) (slice_get tokens t) refl (earlier t u)
    where
      by : (t < u) ⊎ (u ≤ t) → (o : Option TokenView) → slice_get tokens t ≡ o → ((m : State) → u ≤ t → IsStateAt tokens t m → (m : State) × IsStateAt tokens u m) → (m : State) × IsStateAt tokens u m
      by (inl m) o e rest = (s, (let n : suc t ≡ u = omega arith in subst (λ i. IsStateAt tokens i s) n h))
      by (inr m) None e rest = rest s m (state-none t s e h)
      by (inr m) (Some token) e rest = let w = state-step t token s e h in rest w.state m w.before

  -- nodes keep their parents
  later-keeps : (t u : ℕ) (a s : State) → u ≤ t → IsStateAt tokens u a → IsStateAt tokens t s → (k : ℕ) (q : Option ℕ) → slice_get (parents_of a.nodes) k ≡ Some q → slice_get (parents_of s.nodes) k ≡ Some q
  later-keeps zero u a s l g h k q e = let same = state-one 0 a s (let n : u ≡ 0 = omega arith in subst (λ i. IsStateAt tokens i a) n g) h in subst (λ (x : State). slice_get (parents_of x.nodes) k ≡ Some q) same e
  later-keeps (suc t) u a s l g h k q e = by (cases_lt t u) (slice_get tokens t) refl (later-keeps t u a)
    where
      by : (t < u) ⊎ (u ≤ t) → (o : Option TokenView) → slice_get tokens t ≡ o → ((m : State) → u ≤ t → IsStateAt tokens u a → IsStateAt tokens t m → (k : ℕ) (q : Option ℕ) → slice_get (parents_of a.nodes) k ≡ Some q → slice_get (parents_of m.nodes) k ≡ Some q) → slice_get (parents_of s.nodes) k ≡ Some q
      by (inl m) o f rest = let same = state-one (suc t) a s (let n : u ≡ suc t = omega arith in subst (λ i. IsStateAt tokens i a) n g) h in subst (λ (x : State). slice_get (parents_of x.nodes) k ≡ Some q) same e
      by (inr m) None f rest = rest s m g (state-none t s f h) k q e
      by (inr m) (Some token) f rest = let w = state-step t token s f h in next-keeps token.kind token.slice w.state s w.next k q (rest w.state m g w.before k q e)

  later-length : (t u : ℕ) (a s : State) → u ≤ t → IsStateAt tokens u a → IsStateAt tokens t s → length a.nodes ≤ length s.nodes
  later-length t u a s l g h = by (cases_lt (length s.nodes) (length a.nodes))
    where
      by : (length s.nodes < length a.nodes) ⊎ (length a.nodes ≤ length s.nodes) → length a.nodes ≤ length s.nodes
      by (inr m) = m
      by (inl m) =
          let w = slice_get_at (parents_of a.nodes) (length s.nodes) (let n = length-parents a.nodes in omega (arith, n)) in
          let k = slice_get_within (parents_of s.nodes) (length s.nodes) w.0 (later-keeps t u a s l g h (length s.nodes) w.0 w.1) in
          let n = length-parents s.nodes in absurd (omega (arith, k, n))

  -- ---- what is open

  closes-at : (t : ℕ) (token : TokenView) (s : State) (o : NodeId) → slice_get tokens t ≡ Some token → IsStateAt tokens t s → Closes tokens t o → KindCloses token.kind token.slice s o
  closes-at t token s o e h c =
      let same : Some c.token ≡ Some token = sym c.here ∙ e in
      let one : c.token ≡ token = cc in
      subst (λ x. KindCloses token.kind token.slice x o) (state-one t c.state s c.before h) (subst (λ (x : TokenView). KindCloses x.kind x.slice c.state o) one c.closes)

  opens-at : (t : ℕ) (token : TokenView) (s : State) (o : NodeId) → slice_get tokens t ≡ Some token → IsStateAt tokens t s → Opens tokens t o → KindOpens token.kind s o
  opens-at t token s o e h c =
      let same : Some c.token ≡ Some token = sym c.here ∙ e in
      let one : c.token ≡ token = cc in
      subst (λ x. KindOpens token.kind x o) (state-one t c.state s c.before h) (subst (λ (x : TokenView). KindOpens x.kind c.state o) one c.opens)

  since-more : (u t : ℕ) (o : NodeId) → IsOpenSince tokens u t o → (Closes tokens t o → ⊥) → IsOpenSince tokens u (suc t) o
  since-more u t o i not = record { earlier = (let e = i.earlier in omega arith); opens = i.opens; unclosed = λ w a b. by w a (cases_lt w t) (omega arith) }
    where
      by : (w : ℕ) → u < w → (w < t) ⊎ (t ≤ w) → w ≤ t → Closes tokens w o → ⊥
      by w a (inl l) b = i.unclosed w a l
      by w a (inr l) b = let e : t ≡ w = omega arith in subst (λ x. Closes tokens x o → ⊥) e not

  since-less : (u t : ℕ) (o : NodeId) → IsOpenSince tokens u (suc t) o → u < t → IsOpenSince tokens u t o
  since-less u t o i l = record { earlier = l; opens = i.opens; unclosed = λ w a b. i.unclosed w a (omega arith) }

  apart-at : (t : ℕ) (s : State) → IsStateAt tokens t s → AreApart s.opened
  apart-at t s h = let r = ordered-at t s h in record { apart = λ i j o a b. let d = (r.placed i o a).depth in let e = (r.placed j o b).depth in omega (arith, d, e) }

  open-forth : (t : ℕ) (s : State) (o : NodeId) → IsStateAt tokens t s → Contains s.opened o → (u : ℕ) × IsOpenSince tokens u t o
  open-forth zero s o h c = let w = contains-get [] o (subst (λ (x : State). Contains x.opened o) (state-begun s h) c) in let e = w.1 in absurd cc
  open-forth (suc t) s o h c = by (slice_get tokens t) refl (open-forth t)
    where
      by : (r : Option TokenView) → slice_get tokens t ≡ r → ((m : State) (o : NodeId) → IsStateAt tokens t m → Contains m.opened o → (u : ℕ) × IsOpenSince tokens u t o) → (u : ℕ) × IsOpenSince tokens u (suc t) o
      by None e rest = let w = rest s o (state-none t s e h) c in (w.0, since-more w.0 t o w.1 (λ x. let f = x.here in cc))
      by (Some token) e rest = of (state-step t token s e h)
        where
          of : IsStep tokens t token s → (u : ℕ) × IsOpenSince tokens u (suc t) o
          of w = at (next-cases token.kind token.slice w.state s w.next o c)
            where
              at : Contains (left token.kind token.slice w.state) o ⊎ KindOpens token.kind w.state o → (u : ℕ) × IsOpenSince tokens u (suc t) o
              at (inl g) =
                  let r = rest w.state o w.before (within-contains (left token.kind token.slice w.state) w.state.opened (left-within token.kind token.slice w.state) o g) in
                  (r.0, since-more r.0 t o r.1 (λ x. left-not token.kind token.slice w.state (apart-at t w.state w.before) o g (closes-at t token w.state o e w.before x)))
              at (inr g) = (
                t,
                record {
                  earlier = omega arith;
                  opens = record { token = token; state = w.state; here = e; before = w.before; opens = g };
                  unclosed = λ x a b. absurd (omega arith);
                },
              )

  open-back : (t : ℕ) (s : State) (o : NodeId) (u : ℕ) → IsStateAt tokens t s → IsOpenSince tokens u t o → Contains s.opened o
  open-back zero s o u h i = let l = i.earlier in absurd (omega arith)
  open-back (suc t) s o u h i = by (cases_lt u t) (slice_get tokens t) refl (open-back t)
    where
      by : (u < t) ⊎ (t ≤ u) → (r : Option TokenView) → slice_get tokens t ≡ r → ((m : State) (o : NodeId) (u : ℕ) → IsStateAt tokens t m → IsOpenSince tokens u t o → Contains m.opened o) → Contains s.opened o
      by (inl l) None e rest = rest s o u (state-none t s e h) (since-less u t o i l)
      by (inl l) (Some token) e rest =
          let w = state-step t token s e h in
          next-left token.kind token.slice w.state s w.next o (left-stays token.kind token.slice w.state o (rest w.state o u w.before (since-less u t o i l)) (λ c. i.unclosed t l (omega arith) (record { token = token; state = w.state; here = e; before = w.before; closes = c })))
      by (inr l) None e rest = let a = i.earlier in let same : u ≡ t = omega arith in let g = subst (λ x. slice_get tokens x ≡ Some i.opens.token) same i.opens.here in absurd cc
      by (inr l) (Some token) e rest =
          let a = i.earlier in
          let same : u ≡ t = omega arith in
          let w = state-step t token s e h in
          next-opens token.kind token.slice w.state s w.next o (opens-at t token w.state o e w.before (subst (λ x. Opens tokens x o) same i.opens))

  -- ---- parents

  left-forth : (t : ℕ) (token : TokenView) (s : State) (o : NodeId) → slice_get tokens t ≡ Some token → IsStateAt tokens t s → Contains (left token.kind token.slice s) o → (u : ℕ) × StaysSince tokens u t o
  left-forth t token s o e h c =
      let w = open-forth t s o h (within-contains (left token.kind token.slice s) s.opened (left-within token.kind token.slice s) o c) in
      (w.0, record { since = w.1; stays = λ x. left-not token.kind token.slice s (apart-at t s h) o c (closes-at t token s o e h x) })

  left-back : (t : ℕ) (token : TokenView) (s : State) (u : ℕ) (o : NodeId) → slice_get tokens t ≡ Some token → IsStateAt tokens t s → StaysSince tokens u t o → Contains (left token.kind token.slice s) o
  left-back t token s u o e h w = left-stays token.kind token.slice s o (open-back t s o u h w.since) (λ c. w.stays (record { token = token; state = s; here = e; before = h; closes = c }))

  -- what a later token opens has a greater number
  number-grows : (u v : ℕ) (o q : NodeId) → Opens tokens u o → Opens tokens v q → u < v → o.0 < q.0
  number-grows u v o q a b l =
      let m = earlier v (suc u) b.state (omega arith) b.before in
      let w = state-step u a.token m.0 a.here m.1 in
      let k = opens-at u a.token w.state o a.here w.before a in
      let more = next-more a.token.kind a.token.slice w.state m.0 w.next o k in
      let x = opens-next a.token.kind w.state o k in
      let y = opens-next b.token.kind b.state q b.opens in
      let z = later-length v (suc u) m.0 b.state (omega arith) m.1 b.before in
      omega (arith, more, x, y, z)

  -- what stands further in among the open elements has a greater number
  number-order : (s : State) → IsOrdered s → (i j : ℕ) (q o : NodeId) → i ≤ j → slice_get s.opened i ≡ Some q → slice_get s.opened j ≡ Some o → q.0 ≤ o.0
  number-order s r i j q o l a b = by (cases_lt o.0 q.0)
    where
      by : (o.0 < q.0) ⊎ (q.0 ≤ o.0) → q.0 ≤ o.0
      by (inr m) = m
      by (inl m) =
          let p = r.placed i q a in
          let n = slice_get_at s.nodes q.0 p.there in
          let d = sym (ap depth_of n.1) ∙ p.depth in
          let e = (r.placed j o b).deeper q.0 n.0 m n.1 in absurd (omega (arith, d, e))

  parent-at : (t : ℕ) (token : TokenView) (s : State) → slice_get tokens t ≡ Some token → IsStateAt tokens t s → IsParentAt tokens t (current (left token.kind token.slice s))
  parent-at t token s e h = by (slice_get (left token.kind token.slice s) (length (left token.kind token.slice s) - 1)) refl
    where
      by : (r : Option NodeId) → slice_get (left token.kind token.slice s) (length (left token.kind token.slice s) - 1) ≡ r → IsParentAt tokens t (number_of r)
      by None f = inr (
        refl,
        λ u q w.
            let l = get-none (left token.kind token.slice s) (length (left token.kind token.slice s) - 1) f in
            let g = contains-get (left token.kind token.slice s) q (left-back t token s u q e h w) in
            let i = slice_get_within (left token.kind token.slice s) g.0 q g.1 in omega (arith, l, i),
      )
      by (Some o) f = inl (record { opener = w.0; stays = w.1; last = λ u q x. last u q x (cases_lt w.0 u) })
        where
          w : (u : ℕ) × StaysSince tokens u t o
          w = left-forth t token s o e h (get-contains (left token.kind token.slice s) (length (left token.kind token.slice s) - 1) o f)

          last : (u : ℕ) (q : NodeId) → StaysSince tokens u t q → (w.0 < u) ⊎ (u ≤ w.0) → u ≤ w.0
          last u q x (inr l) = l
          last u q x (inl l) =
              let g = contains-get (left token.kind token.slice s) q (left-back t token s u q e h x) in
              let i = slice_get_within (left token.kind token.slice s) g.0 q g.1 in
              let a = number-order s (ordered-at t s h) g.0 (length (left token.kind token.slice s) - 1) q o (omega (arith, i)) (left-within token.kind token.slice s g.0 q g.1) (left-within token.kind token.slice s (length (left token.kind token.slice s) - 1) o f) in
              let b = number-grows w.0 u o q w.1.since.opens x.since.opens l in absurd (omega (arith, a, b))

  path-at : (t : ℕ) (s : State) → IsStateAt tokens t s → IsPath s.nodes s.opened
  path-at zero s h = λ i o e. let n = ap (λ (x : State). slice_get x.opened i) (state-begun s h) in absurd cc
  path-at (suc t) s h = by (slice_get tokens t) refl (path-at t)
    where
      by : (r : Option TokenView) → slice_get tokens t ≡ r → ((m : State) → IsStateAt tokens t m → IsPath m.nodes m.opened) → IsPath s.nodes s.opened
      by None e rest = rest s (state-none t s e h)
      by (Some token) e rest = let w = state-step t token s e h in next-path token.kind token.slice w.state s w.next (rest w.state w.before)

  added-at : (t : ℕ) (s : State) (k : ℕ) → IsStateAt tokens t s → 0 < k → k < length s.nodes → (u : ℕ) × (u < t) × Adds tokens u k
  added-at zero s k h some l = let n = ap (λ (x : State). length x.nodes) (state-begun s h) in absurd (omega (arith, n))
  added-at (suc t) s k h some l = by (slice_get tokens t) refl (added-at t)
    where
      by : (r : Option TokenView) → slice_get tokens t ≡ r → ((m : State) (k : ℕ) → IsStateAt tokens t m → 0 < k → k < length m.nodes → (u : ℕ) × (u < t) × Adds tokens u k) → (u : ℕ) × (u < suc t) × Adds tokens u k
      by None e rest = let w = rest s k (state-none t s e h) some l in let m = w.1 in (w.0, omega arith, w.2)
      by (Some token) e rest = of (state-step t token s e h)
        where
          of : IsStep tokens t token s → (u : ℕ) × (u < suc t) × Adds tokens u k
          of w = at (cases_lt k (length w.state.nodes))
            where
              at : (k < length w.state.nodes) ⊎ (length w.state.nodes ≤ k) → (u : ℕ) × (u < suc t) × Adds tokens u k
              at (inl m) = let r = rest w.state k w.before some m in let b = r.1 in (r.0, omega arith, r.2)
              at (inr m) = (t, omega arith, record { before = w.state; after = s; begins = w.before; ends = (let n : suc t ≡ t + 1 = omega arith in subst (λ i. IsStateAt tokens i s) n h); new = m; there = l })

  added-parent : (u t : ℕ) (s : State) (k : ℕ) (n : Node) → IsStateAt tokens t s → u < t → Adds tokens u k → slice_get s.nodes k ≡ Some n → (p : ℕ) × (n.parent ≡ Some p) × IsParentAt tokens u p
  added-parent u t s k n h l a g = by (slice_get tokens u) refl
    where
      ends : IsStateAt tokens (suc u) a.after
      ends = let e : u + 1 ≡ suc u = omega arith in subst (λ i. IsStateAt tokens i a.after) e a.ends

      by : (r : Option TokenView) → slice_get tokens u ≡ r → (p : ℕ) × (n.parent ≡ Some p) × IsParentAt tokens u p
      by None e = let same = ap (λ (x : State). length x.nodes) (state-one u a.before a.after a.begins (state-none u a.after e ends)) in let low = a.new in let high = a.there in absurd (omega (arith, same, low, high))
      by (Some token) e =
          let w = state-step u token a.after e ends in
          let same = ap (λ (x : State). length x.nodes) (state-one u w.state a.before w.before a.begins) in
          let p = next-parent token.kind token.slice w.state a.after w.next k (let low = a.new in omega (arith, same, low)) a.there in
          let q = later-keeps t (suc u) a.after s (omega arith) ends h k (Some (current (left token.kind token.slice w.state))) p in
          let m = sym (slice_get-map (λ (x : Node). x.parent) s.nodes k ∙ ap (option_map (λ (x : Node). x.parent)) g) ∙ q in
          let f : n.parent ≡ Some (current (left token.kind token.slice w.state)) = cc in
          (current (left token.kind token.slice w.state), f, parent-at u token w.state e w.before)

pub open_opened : OpenIsOpened
open_opened tokens t s o h = (open-forth tokens t s o h, λ w. open-back tokens t s o w.0 h w.1)

pub open_path : OpenIsPath
open_path tokens t s i o h e = ap flat (path-at tokens t s h i o e)

pub nodes_added : NodesAreAdded
nodes_added = added-at

pub parent_last : ParentIsLastOpened
parent_last = added-parent

pub tree_last : TreeIsLastState
unfolding tree_of
tree_last bytes nodes h = by (after_tokens (tokens_of bytes) begun) refl h
  where
    by : (r : Result State DomErr) → after_tokens (tokens_of bytes) begun ≡ r → nodes_in r ≡ Ok nodes → (s : State) × IsStateAt (tokens_of bytes) (length (tokens_of bytes)) s × (s.nodes ≡ nodes)
    by (Ok s) e k = let same : s.nodes ≡ nodes = cc in (s, ap (λ l. after_tokens l begun) (take-length (tokens_of bytes)) ∙ e, same)
    by (Err x) e k = cc
