-- What one token leaves open, opens and adds.
use Rattle.std.proofs.Common.{◌≡◌, ◌⊎◌, inl, inr, ℕ, suc, zero, ◌+◌, ◌-◌, ◌<◌, ◌≤◌, Bool, true, false, not, nat_le, List, [], ◌∷◌, ◌++◌, Option, Some, Ok, Err, Contains, fold, map, length, length-append, slice_get, if◌then◌else◌, refl, sym, ◌∙◌, ap, subst, arith, codes}
use Rattle.std.proofs.lemmas.List.Elements.{Contains-append_left, Contains-append_right, Contains-append_cases}
use Rattle.std.proofs.lemmas.Option.{slice_get_within, slice_get_past}
use Rattle.std.specs.Str.{bytes_eq}
use Rattle.bk_num.specs.Names.{has_name}
use Rattle.bk_num.specs.declared.ids.NodeId.{NodeId}
use Rattle.bk_num.specs.Limits.{most_nodes}
use Rattle.bk_num.proofs.ListLemmas.{get-keep, get-push, get-end, slice_get_at}
use Rattle.dom.specs.Nodes.{Node, Element, Text, parents_of, child_of, depth_at}
use Rattle.dom.specs.Answers.{is_below_all}
use Rattle.dom.specs.declared.dom.DomErr.TheVariants.{Nodes, Depth}
use Rattle.dom.proofs.IdLemmas.{length-parents, parents-push}
use Rattle.html_tok.specs.Pieces.{KindView, text, raw, start, close, skip}
use Rattle.html_tok.specs.Tags.{attributes_of}
use Rattle.html_tree.specs.Rules.{rules, void_names}
use Rattle.html_tree.specs.Texts.{name_of, text_of}
use Rattle.html_tree.specs.Tree.{State, after_rule, without, is_blank, current, number_of, is_text_under, last_of, longer, appended, add_text, put_all, opened_after, add_element, after_start, is_escapable, current_name, after_kind}
use Rattle.html_tree.specs.Open.{KindCloses, KindOpens, outside}
use Rattle.html_tree.proofs.OrderLemmas.{shape, Shape, shape-put_all, shape-change}
use Rattle.html_tree.proofs.ScopeLemmas.{AreApart, closed-stays, closed-not, closed-within, table-stays, table-not, table-within}

-- what is open after a token's closings
abbrev pub left : KindView → List ℕ → State → List NodeId
left text bytes s = if is_blank (text_of true bytes) then s.opened else without (codes "head") s.nodes s.opened
left raw bytes s = s.opened
left (start name attrs) bytes s = if bytes_eq (name_of name) (codes "html") then s.opened else fold (after_rule (name_of name) s.nodes) s.opened rules
left (close name) bytes s = without (name_of name) s.nodes s.opened
left skip bytes s = s.opened

pub left-within : (kind : KindView) (bytes : List ℕ) (s : State) (k : ℕ) (o : NodeId) → slice_get (left kind bytes s) k ≡ Some o → slice_get s.opened k ≡ Some o
left-within text bytes s k o h = by (is_blank (text_of true bytes)) h
  where
    by : (b : Bool) → slice_get (if b then s.opened else without (codes "head") s.nodes s.opened) k ≡ Some o → slice_get s.opened k ≡ Some o
    by true h = h
    by false h = closed-within (has_name (codes "head" ∷ [])) (has_name []) s.nodes s.opened k o h
left-within raw bytes s k o h = h
left-within (start name attrs) bytes s k o h = by (bytes_eq (name_of name) (codes "html")) h
  where
    by : (b : Bool) → slice_get (if b then s.opened else fold (after_rule (name_of name) s.nodes) s.opened rules) k ≡ Some o → slice_get s.opened k ≡ Some o
    by true h = h
    by false h = table-within (name_of name) s.nodes rules s.opened k o h
left-within (close name) bytes s k o h = closed-within (has_name (name_of name ∷ [])) (has_name []) s.nodes s.opened k o h
left-within skip bytes s k o h = h

-- what a token doesn't close stays
pub left-stays : (kind : KindView) (bytes : List ℕ) (s : State) (o : NodeId) → Contains s.opened o → (KindCloses kind bytes s o → ⊥) → Contains (left kind bytes s) o
left-stays text bytes s o h not = by (is_blank (text_of true bytes)) refl
  where
    by : (b : Bool) → is_blank (text_of true bytes) ≡ b → Contains (if b then s.opened else without (codes "head") s.nodes s.opened) o
    by true e = h
    by false e = closed-stays (has_name (codes "head" ∷ [])) (has_name []) s.nodes s.opened o h (λ c. not (e, c))
left-stays raw bytes s o h not = h
left-stays (start name attrs) bytes s o h not = by (bytes_eq (name_of name) (codes "html")) refl
  where
    by : (b : Bool) → bytes_eq (name_of name) (codes "html") ≡ b → Contains (if b then s.opened else fold (after_rule (name_of name) s.nodes) s.opened rules) o
    by true e = h
    by false e = table-stays (name_of name) s.nodes rules s.opened o h (λ c. not (e, c))
left-stays (close name) bytes s o h not = closed-stays (has_name (name_of name ∷ [])) (has_name []) s.nodes s.opened o h not
left-stays skip bytes s o h not = h

-- what stays isn't closed
pub left-not : (kind : KindView) (bytes : List ℕ) (s : State) → AreApart s.opened → (o : NodeId) → Contains (left kind bytes s) o → KindCloses kind bytes s o → ⊥
left-not text bytes s apart o h (e, c) = by (is_blank (text_of true bytes)) e h
  where
    by : (b : Bool) → b ≡ false → Contains (if b then s.opened else without (codes "head") s.nodes s.opened) o → ⊥
    by true e h = cc
    by false e h = closed-not (has_name (codes "head" ∷ [])) (has_name []) s.nodes s.opened apart o h c
left-not raw bytes s apart o h c = c
left-not (start name attrs) bytes s apart o h (e, c) = by (bytes_eq (name_of name) (codes "html")) e h
  where
    by : (b : Bool) → b ≡ false → Contains (if b then s.opened else fold (after_rule (name_of name) s.nodes) s.opened rules) o → ⊥
    by true e h = cc
    by false e h = table-not (name_of name) s.nodes rules s.opened apart o h c
left-not (close name) bytes s apart o h c = closed-not (has_name (name_of name ∷ [])) (has_name []) s.nodes s.opened apart o h c
left-not skip bytes s apart o h c = c

-- ---- what a token adds and opens

-- beside its closings a token does nothing to the numbers of parents and to what is open, adds a node under the current element, or adds one and opens it
pub data IsNext (kind : KindView) (bytes : List ℕ) (s next : State) : Type 0 where
  adds_none : next.opened ≡ left kind bytes s → parents_of next.nodes ≡ parents_of s.nodes → ((o : NodeId) → KindOpens kind s o → ⊥) → IsNext kind bytes s next
  adds_one : next.opened ≡ left kind bytes s → parents_of next.nodes ≡ parents_of s.nodes ++ Some (current (left kind bytes s)) ∷ [] → ((o : NodeId) → KindOpens kind s o → ⊥) → IsNext kind bytes s next
  opens_one : next.opened ≡ left kind bytes s ++ record { 0 = length s.nodes } ∷ [] → parents_of next.nodes ≡ parents_of s.nodes ++ Some (current (left kind bytes s)) ∷ [] → ((o : NodeId) → o.0 ≡ length s.nodes → KindOpens kind s o) → IsNext kind bytes s next

parents-are : (nodes : List Node) → parents_of nodes ≡ map (λ (z : Shape). z.parent) (map shape nodes)
parents-are [] = refl
parents-are (n ∷ nodes) = ap (λ l. n.parent ∷ l) (parents-are nodes)

parents-same : (xs ys : List Node) → map shape xs ≡ map shape ys → parents_of ys ≡ parents_of xs
parents-same xs ys e = parents-are ys ∙ ap (map (λ (z : Shape). z.parent)) (sym e) ∙ sym (parents-are xs)

-- a text goes to the last node or is a new one
abbrev IsNextText : State → State → Type 0
IsNextText s next = (next.opened ≡ s.opened) × ((parents_of next.nodes ≡ parents_of s.nodes) ⊎ (parents_of next.nodes ≡ parents_of s.nodes ++ Some (current s.opened) ∷ []))

text-next : (bytes : List ℕ) (s next : State) → add_text bytes s ≡ Ok next → IsNextText s next
text-next [] s next h = let e : next ≡ s = cc in (ap (λ (x : State). x.opened) e, inl (ap (λ (x : State). parents_of x.nodes) e))
text-next (b ∷ bs) s next h = by (is_text_under (current s.opened) (last_of s.nodes)) (nat_le most_nodes (length s.nodes)) h
  where
    by : (c d : Bool) → (if c then Ok (record s { nodes = appended s.nodes (b ∷ bs) }) else if d then Err Nodes else Ok (record s { nodes = s.nodes ++ child_of s.nodes (current s.opened) (Text (b ∷ bs)) ∷ [] })) ≡ Ok next → IsNextText s next
    by true d h =
        let e : next ≡ record s { nodes = appended s.nodes (b ∷ bs) } = cc in
        (ap (λ (x : State). x.opened) e, inl (ap (λ (x : State). parents_of x.nodes) e ∙ parents-same s.nodes (appended s.nodes (b ∷ bs)) (shape-change (λ n. record n { what = longer (b ∷ bs) n.what }) s.nodes (length s.nodes - 1) (λ n. refl))))
    by false true h = cc
    by false false h =
        let e : next ≡ record s { nodes = s.nodes ++ child_of s.nodes (current s.opened) (Text (b ∷ bs)) ∷ [] } = cc in
        (ap (λ (x : State). x.opened) e, inr (ap (λ (x : State). parents_of x.nodes) e ∙ parents-push s.nodes (child_of s.nodes (current s.opened) (Text (b ∷ bs)))))

-- an element is a new node, and opens if it isn't void
pub record IsNextElement (name : List ℕ) (s next : State) : Type 0 where
  pub parents : parents_of next.nodes ≡ parents_of s.nodes ++ Some (current s.opened) ∷ []
  pub opened : next.opened ≡ opened_after name (length s.nodes) s.opened

element-next : (name attrs : List ℕ) (s next : State) → add_element name attrs s ≡ Ok next → IsNextElement name s next
element-next name attrs s next h = by (nat_le most_nodes (length s.nodes)) (is_below_all true (depth_at s.nodes (current s.opened))) h
  where
    by : (c d : Bool) → (if c then Err Nodes else if d then Err Depth else Ok (record {
      nodes = put_all (length s.nodes) (attributes_of attrs) (s.nodes ++ child_of s.nodes (current s.opened) (Element name []) ∷ []);
      opened = opened_after name (length s.nodes) s.opened;
    })) ≡ Ok next → IsNextElement name s next
    by true d h = cc
    by false true h = cc
    by false false h =
        let e : next ≡ record {
          nodes = put_all (length s.nodes) (attributes_of attrs) (s.nodes ++ child_of s.nodes (current s.opened) (Element name []) ∷ []);
          opened = opened_after name (length s.nodes) s.opened;
        } = cc in
        record {
          parents = ap (λ (x : State). parents_of x.nodes) e
              ∙ parents-same (s.nodes ++ child_of s.nodes (current s.opened) (Element name []) ∷ []) (put_all (length s.nodes) (attributes_of attrs) (s.nodes ++ child_of s.nodes (current s.opened) (Element name []) ∷ [])) (shape-put_all (length s.nodes) (attributes_of attrs) (s.nodes ++ child_of s.nodes (current s.opened) (Element name []) ∷ []))
              ∙ parents-push s.nodes (child_of s.nodes (current s.opened) (Element name []));
          opened = ap (λ (x : State). x.opened) e;
        }

joined-next : (kind : KindView) (bytes : List ℕ) (s mid next : State) (more : List ℕ) → mid.opened ≡ left kind bytes s → mid.nodes ≡ s.nodes → ((o : NodeId) → KindOpens kind s o → ⊥) → add_text more mid ≡ Ok next → IsNext kind bytes s next
joined-next kind bytes s mid next more o n not h = by (text-next more mid next h)
  where
    by : IsNextText mid next → IsNext kind bytes s next
    by (e, inl p) = adds_none (e ∙ o) (p ∙ ap parents_of n) not
    by (e, inr p) = adds_one (e ∙ o) (p ∙ ap (λ l. parents_of l ++ Some (current mid.opened) ∷ []) n ∙ ap (λ l. parents_of s.nodes ++ Some (current l) ∷ []) o) not

start-next : (name attrs bytes : List ℕ) (s next : State) → after_start (name_of name) attrs s ≡ Ok next → IsNext (start name attrs) bytes s next
start-next name attrs bytes s next h = by (bytes_eq (name_of name) (codes "html")) refl h
  where
    by : (b : Bool) → bytes_eq (name_of name) (codes "html") ≡ b → (if b then Ok (record s { nodes = put_all 0 (attributes_of attrs) s.nodes }) else add_element (name_of name) attrs (record s { opened = fold (after_rule (name_of name) s.nodes) s.opened rules })) ≡ Ok next → IsNext (start name attrs) bytes s next
    by true e h =
        let n : next ≡ record s { nodes = put_all 0 (attributes_of attrs) s.nodes } = cc in
        let l : left (start name attrs) bytes s ≡ s.opened = ap (λ b. if b then s.opened else fold (after_rule (name_of name) s.nodes) s.opened rules) e in
        adds_none (ap (λ (x : State). x.opened) n ∙ sym l) (ap (λ (x : State). parents_of x.nodes) n ∙ parents-same s.nodes (put_all 0 (attributes_of attrs) s.nodes) (shape-put_all 0 (attributes_of attrs) s.nodes)) (λ o k. let f = k.other in cc)
    by false e h = of (has_name void_names (name_of name)) refl w.opened
      where
        l : left (start name attrs) bytes s ≡ fold (after_rule (name_of name) s.nodes) s.opened rules
        l = ap (λ b. if b then s.opened else fold (after_rule (name_of name) s.nodes) s.opened rules) e

        w : IsNextElement (name_of name) (record s { opened = fold (after_rule (name_of name) s.nodes) s.opened rules }) next
        w = element-next (name_of name) attrs (record s { opened = fold (after_rule (name_of name) s.nodes) s.opened rules }) next h

        parents : parents_of next.nodes ≡ parents_of s.nodes ++ Some (current (left (start name attrs) bytes s)) ∷ []
        parents = w.parents ∙ ap (λ o. parents_of s.nodes ++ Some (current o) ∷ []) (sym l)

        of : (v : Bool) → has_name void_names (name_of name) ≡ v → next.opened ≡ (if v then fold (after_rule (name_of name) s.nodes) s.opened rules else fold (after_rule (name_of name) s.nodes) s.opened rules ++ record { 0 = length s.nodes } ∷ []) → IsNext (start name attrs) bytes s next
        of true v o = adds_one (o ∙ sym l) parents (λ q k. let f = k.filled in cc)
        of false v o = opens_one (o ∙ ap (λ x. x ++ record { 0 = length s.nodes } ∷ []) (sym l)) parents (λ q k. record { other = e; filled = v; next = k })

pub kind-next : (kind : KindView) (bytes : List ℕ) (s next : State) → after_kind kind bytes s ≡ Ok next → IsNext kind bytes s next
unfolding after_kind
kind-next text bytes s next h = joined-next text bytes s (if is_blank (text_of true bytes) then s else record s { opened = without (codes "head") s.nodes s.opened }) next (text_of true bytes) (by (is_blank (text_of true bytes))) (of (is_blank (text_of true bytes))) (λ o k. k) h
  where
    by : (b : Bool) → (if b then s else record s { opened = without (codes "head") s.nodes s.opened }).opened ≡ (if b then s.opened else without (codes "head") s.nodes s.opened)
    by true = refl
    by false = refl

    of : (b : Bool) → (if b then s else record s { opened = without (codes "head") s.nodes s.opened }).nodes ≡ s.nodes
    of true = refl
    of false = refl
kind-next raw bytes s next h = joined-next raw bytes s s next (text_of (is_escapable (current_name s)) bytes) refl refl (λ o k. k) h
kind-next (start name attrs) bytes s next h = start-next name attrs bytes s next h
kind-next (close name) bytes s next h = let n : next ≡ record s { opened = without (name_of name) s.nodes s.opened } = cc in adds_none (ap (λ (x : State). x.opened) n) (ap (λ (x : State). parents_of x.nodes) n) (λ o k. k)
kind-next skip bytes s next h = let n : next ≡ s = cc in adds_none (ap (λ (x : State). x.opened) n) (ap (λ (x : State). parents_of x.nodes) n) (λ o k. k)

-- what is open after a token is left by it or opened by it
pub next-cases : (kind : KindView) (bytes : List ℕ) (s next : State) → IsNext kind bytes s next → (o : NodeId) → Contains next.opened o → Contains (left kind bytes s) o ⊎ KindOpens kind s o
next-cases kind bytes s next (adds_none e p not) o h = inl (subst (λ l. Contains l o) e h)
next-cases kind bytes s next (adds_one e p not) o h = inl (subst (λ l. Contains l o) e h)
next-cases kind bytes s next (opens_one e p opens) o h = by (Contains-append_cases (left kind bytes s) (record { 0 = length s.nodes } ∷ []) o (subst (λ l. Contains l o) e h))
  where
    by : Contains (left kind bytes s) o ⊎ Contains (record { 0 = length s.nodes } ∷ []) o → Contains (left kind bytes s) o ⊎ KindOpens kind s o
    by (inl g) = inl g
    by (inr (zero, l, g)) = inr (opens o (ap (λ (x : NodeId). x.0) (sym g)))
    by (inr (suc k, l, g)) = absurd (omega arith)

pub next-left : (kind : KindView) (bytes : List ℕ) (s next : State) → IsNext kind bytes s next → (o : NodeId) → Contains (left kind bytes s) o → Contains next.opened o
next-left kind bytes s next (adds_none e p not) o h = subst (λ l. Contains l o) (sym e) h
next-left kind bytes s next (adds_one e p not) o h = subst (λ l. Contains l o) (sym e) h
next-left kind bytes s next (opens_one e p opens) o h = subst (λ l. Contains l o) (sym e) (Contains-append_left (left kind bytes s) (record { 0 = length s.nodes } ∷ []) o h)

pub opens-next : (kind : KindView) (s : State) (o : NodeId) → KindOpens kind s o → o.0 ≡ length s.nodes
opens-next text s o h = absurd h
opens-next raw s o h = absurd h
opens-next (start name attrs) s o h = h.next
opens-next (close name) s o h = absurd h
opens-next skip s o h = absurd h

pub next-opens : (kind : KindView) (bytes : List ℕ) (s next : State) → IsNext kind bytes s next → (o : NodeId) → KindOpens kind s o → Contains next.opened o
next-opens kind bytes s next (adds_none e p not) o h = absurd (not o h)
next-opens kind bytes s next (adds_one e p not) o h = absurd (not o h)
next-opens kind bytes s next (opens_one e p opens) o h =
    let same : record { 0 = length s.nodes } ≡ o = ap (λ n. record { 0 = n }) (sym (opens-next kind s o h)) in
    subst (λ l. Contains l o) (sym e) (Contains-append_right (left kind bytes s) (record { 0 = length s.nodes } ∷ []) o (0, omega arith, same))

-- the nodes that were there keep their parents
pub next-keeps : (kind : KindView) (bytes : List ℕ) (s next : State) → IsNext kind bytes s next → (k : ℕ) (q : Option ℕ) → slice_get (parents_of s.nodes) k ≡ Some q → slice_get (parents_of next.nodes) k ≡ Some q
next-keeps kind bytes s next (adds_none e p not) k q h = ap (λ l. slice_get l k) p ∙ h
next-keeps kind bytes s next (adds_one e p not) k q h = ap (λ l. slice_get l k) p ∙ get-keep (parents_of s.nodes) (Some (current (left kind bytes s)) ∷ []) k q h
next-keeps kind bytes s next (opens_one e p opens) k q h = ap (λ l. slice_get l k) p ∙ get-keep (parents_of s.nodes) (Some (current (left kind bytes s)) ∷ []) k q h

one-more : (s next : State) (q : Option ℕ) → parents_of next.nodes ≡ parents_of s.nodes ++ q ∷ [] → length next.nodes ≡ length s.nodes + 1
one-more s next q p = sym (length-parents next.nodes) ∙ ap length p ∙ length-append (parents_of s.nodes) (q ∷ []) ∙ ap (λ n. n + 1) (length-parents s.nodes)

-- an element that opens is a node more
pub next-more : (kind : KindView) (bytes : List ℕ) (s next : State) → IsNext kind bytes s next → (o : NodeId) → KindOpens kind s o → length next.nodes ≡ length s.nodes + 1
next-more kind bytes s next (adds_none e p not) o h = absurd (not o h)
next-more kind bytes s next (adds_one e p not) o h = absurd (not o h)
next-more kind bytes s next (opens_one e p opens) o h = one-more s next (Some (current (left kind bytes s))) p

-- a node that is added is a child of the current element
pub next-parent : (kind : KindView) (bytes : List ℕ) (s next : State) → IsNext kind bytes s next → (k : ℕ) → length s.nodes ≤ k → k < length next.nodes → slice_get (parents_of next.nodes) k ≡ Some (Some (current (left kind bytes s)))
next-parent kind bytes s next n k low high = by n
  where
    one : parents_of next.nodes ≡ parents_of s.nodes ++ Some (current (left kind bytes s)) ∷ [] → slice_get (parents_of next.nodes) k ≡ Some (Some (current (left kind bytes s)))
    one p =
        let l = one-more s next (Some (current (left kind bytes s))) p in
        let e : k ≡ length (parents_of s.nodes) = (let m = length-parents s.nodes in omega (arith, l, m)) in
        ap (λ i. slice_get (parents_of next.nodes) i) e ∙ ap (λ x. slice_get x (length (parents_of s.nodes))) p ∙ get-end (parents_of s.nodes) (Some (current (left kind bytes s)))

    by : IsNext kind bytes s next → slice_get (parents_of next.nodes) k ≡ Some (Some (current (left kind bytes s)))
    by (adds_none e p not) = let l = sym (length-parents next.nodes) ∙ ap length p ∙ length-parents s.nodes in absurd (omega (arith, l))
    by (adds_one e p not) = one p
    by (opens_one e p opens) = one p

-- ---- the open elements are a path

abbrev pub IsPath : List Node → List NodeId → Type 0
IsPath nodes opened = (i : ℕ) (o : NodeId) → slice_get opened i ≡ Some o → slice_get (parents_of nodes) o.0 ≡ Some (Some (outside opened i))

outside-less : (less more : List NodeId) → ((k : ℕ) (o : NodeId) → slice_get less k ≡ Some o → slice_get more k ≡ Some o) → (i : ℕ) → i ≤ length less → outside less i ≡ outside more i
outside-less less more f zero l = refl
outside-less less more f (suc i) l = let w = slice_get_at less i (omega arith) in ap number_of (w.1 ∙ sym (f i w.0 w.1))

path-less : (nodes : List Node) (less more : List NodeId) → ((k : ℕ) (o : NodeId) → slice_get less k ≡ Some o → slice_get more k ≡ Some o) → IsPath nodes more → IsPath nodes less
path-less nodes less more f p i o h = p i o (f i o h) ∙ ap (λ n. Some (Some n)) (sym (outside-less less more f i (let l = slice_get_within less i o h in omega (arith, l))))

-- the current element is outside of what opens next
outside-end : (opened : List NodeId) (o : NodeId) → outside (opened ++ o ∷ []) (length opened) ≡ current opened
outside-end opened o = by (length opened) refl
  where
    by : (n : ℕ) → length opened ≡ n → outside (opened ++ o ∷ []) n ≡ number_of (slice_get opened (n - 1))
    by zero e = ap number_of (sym (slice_get_past opened (zero - 1) (omega arith)))
    by (suc n) e = let w = slice_get_at opened n (omega (arith, e)) in let m : suc n - 1 ≡ n = omega arith in ap number_of (get-keep opened (o ∷ []) n w.0 w.1 ∙ sym w.1 ∙ ap (slice_get opened) (sym m))

path-push : (nodes : List Node) (opened : List NodeId) (o : NodeId) → IsPath nodes opened → slice_get (parents_of nodes) o.0 ≡ Some (Some (current opened)) → IsPath nodes (opened ++ o ∷ [])
path-push nodes opened o p h i q g = by (get-push opened o q i g)
  where
    by : ((i ≡ length opened) × (q ≡ o)) ⊎ (slice_get opened i ≡ Some q) → slice_get (parents_of nodes) q.0 ≡ Some (Some (outside (opened ++ o ∷ []) i))
    by (inl (at, same)) = ap (λ (x : NodeId). slice_get (parents_of nodes) x.0) same ∙ h ∙ ap (λ n. Some (Some n)) (sym (ap (outside (opened ++ o ∷ [])) at ∙ outside-end opened o))
    by (inr old) = p i q old ∙ ap (λ n. Some (Some n)) (outside-less opened (opened ++ o ∷ []) (λ k x e. get-keep opened (o ∷ []) k x e) i (let l = slice_get_within opened i q old in omega (arith, l)))

pub next-path : (kind : KindView) (bytes : List ℕ) (s next : State) → IsNext kind bytes s next → IsPath s.nodes s.opened → IsPath next.nodes next.opened
next-path kind bytes s next n p = by n
  where
    stays : IsPath next.nodes (left kind bytes s)
    stays = path-less next.nodes (left kind bytes s) s.opened (left-within kind bytes s) (λ i o h. next-keeps kind bytes s next n o.0 (Some (outside s.opened i)) (p i o h))

    by : IsNext kind bytes s next → IsPath next.nodes next.opened
    by (adds_none e q not) = subst (IsPath next.nodes) (sym e) stays
    by (adds_one e q not) = subst (IsPath next.nodes) (sym e) stays
    by (opens_one e q opens) = subst (IsPath next.nodes) (sym e) (path-push next.nodes (left kind bytes s) (record { 0 = length s.nodes }) stays (next-parent kind bytes s next n (length s.nodes) (omega arith) (let l = one-more s next (Some (current (left kind bytes s))) q in omega (arith, l))))
