-- The scopes that are kept with each open element.
use Rattle.std.proofs.Common.{◌≡◌, ◌⊎◌, inl, inr, ℕ, suc, zero, ◌+◌, ◌-◌, ◌<◌, ◌≤◌, Bool, true, false, not, ◌&&◌, ◌||◌, List, [], ◌∷◌, ◌++◌, Option, None, Some, Result, Ok, Err, OnOk, is_some, unwrap_or, codes, fold, length, length-append, take, slice_get, slice_set, get_or, if◌then◌else◌, refl, sym, ◌∙◌, ap, subst, arith}
use Rattle.std.specs.Result.{is_err}
use Rattle.std.proofs.lemmas.Bool.{cases_lt}
use Rattle.std.proofs.lemmas.List.{length-take, length-take-le, take_more, get_or-set_same, get_or-set_other}
use Rattle.std.proofs.lemmas.List.Sums.{fold-append}
use Rattle.std.proofs.lemmas.Option.{slice_get_within, get_or_from_slice_get}
use Rattle.bk_num.specs.Names.{has_name}
use Rattle.bk_num.specs.declared.ids.NodeId.{NodeId}
use Rattle.bk_num.proofs.ListLemmas.{get-take, get-end, get-append, none-is, take-past}
use Rattle.dom.specs.Nodes.{Node, NodeData, Element, Text, name_at, part_of, child_of, attributed, changed_at, attribute_at}
use Rattle.html_tree.specs.Rules.{Rule, rules, names_tag}
use Rattle.html_tree.specs.Texts.{name_of, text_of}
use Rattle.html_tree.specs.Tree.{name_in, kept, closed_by, after_rule, without, put, put_all}
use Rattle.html_tree.specs.Built.{AreElements}
use Rattle.html_tree.specs.Scopes.{has_in_scope, has_within, AreScopes, HaveScopes}
use Rattle.html_tree.proofs.OpenedLemmas.{closed-none}
use Rattle.html_tree.proofs.BuildLemmas.{name-grow, elements-grow}

-- ---- the eight rows

pub rules-long : length rules ≡ 8
unfolding rules
rules-long = refl

pub rules-within : (i : ℕ) (r : Rule) → slice_get rules i ≡ Some r → i < 8
rules-within i r e = let w = slice_get_within rules i r e in let n = rules-long in omega (arith, w, n)

pub rules-more : (name : List ℕ) (nodes : List Node) (opened : List NodeId) (i : ℕ) (r : Rule) → slice_get rules i ≡ Some r → fold (after_rule name nodes) opened (take (i + 1) rules) ≡ after_rule name nodes (fold (after_rule name nodes) opened (take i rules)) r
rules-more name nodes opened i r e =
    ap (fold (after_rule name nodes) opened) (take_more rules i r (slice_get_within rules i r e) ∙ ap (λ x. take i rules ++ x ∷ []) (get_or_from_slice_get rules i r r e))
    ∙ fold-append (after_rule name nodes) opened (take i rules) (r ∷ [])

pub rules-all : (i : ℕ) → 8 ≤ i → take i rules ≡ rules
rules-all i h = take-past rules i (let n = rules-long in omega (arith, h, n))

-- ---- scopes

-- what is kept is told by names alone
kept-same : (closes scope : List ℕ → Bool) (a b : List Node) (xs ys : List NodeId) (n : ℕ) → ((k : ℕ) → k < n → name_in a (slice_get xs k) ≡ name_in b (slice_get ys k)) → kept closes scope a xs n ≡ kept closes scope b ys n
kept-same closes scope a b xs ys zero h = refl
kept-same closes scope a b xs ys (suc n) h = rw (h n (omega arith), kept-same closes scope a b xs ys n (λ k l. h k (omega arith))) refl

pub scopes-same : (a b : List Node) (opened : List NodeId) (scopes : List (List Bool)) → ((k : ℕ) → name_in a (slice_get opened k) ≡ name_in b (slice_get opened k)) → HaveScopes a opened scopes → HaveScopes b opened scopes
scopes-same a b opened scopes names h = record {
  count = h.count;
  each = λ k flags g i r e. h.each k flags g i r e ∙ ap is_some (kept-same (has_name r.closes) (has_name r.scope) a b opened opened (suc k) (λ j l. names j));
}

take-before : {A : Type 0} (xs : List A) (m j : ℕ) → j < length (take m xs) → slice_get xs j ≡ slice_get (take m xs) j
take-before [] zero j h = refl
take-before [] (suc m) j h = refl
take-before (x ∷ xs) zero j h = absurd (omega arith)
take-before (x ∷ xs) (suc m) zero h = refl
take-before (x ∷ xs) (suc m) (suc j) h = take-before xs m j (omega arith)

pub scopes-take : (nodes : List Node) (opened : List NodeId) (scopes : List (List Bool)) (m : ℕ) → HaveScopes nodes opened scopes → HaveScopes nodes (take m opened) (take (length (take m opened)) scopes)
scopes-take nodes opened scopes m h =
    let c = h.count in
    let l = length-take m opened in
    let n : length (take (length (take m opened)) scopes) ≡ length (take m opened) = length-take-le (length (take m opened)) scopes (omega (arith, c, l)) in
    record {
      count = n;
      each = λ k flags g i r e.
          let w = slice_get_within (take (length (take m opened)) scopes) k flags g in
          h.each k flags (get-take scopes (length (take m opened)) k flags g).1 i r e
          ∙ ap is_some (kept-same (has_name r.closes) (has_name r.scope) nodes nodes opened (take m opened) (suc k) (λ j q. ap (name_in nodes) (take-before opened m j (omega (arith, w, n, q)))));
    }

within-step : (r : Rule) (nodes : List Node) (opened : List NodeId) (n : ℕ) (name : List ℕ) → name_in nodes (slice_get opened n) ≡ name → has_in_scope r nodes opened (suc n) ≡ has_within r name (has_in_scope r nodes opened n)
within-step r nodes opened n name e = rw e (by (has_name r.closes name) (has_name r.scope name) (kept (has_name r.closes) (has_name r.scope) nodes opened n))
  where
    by : (c s : Bool) (o : Option ℕ) → is_some (if c then Some n else if s then None else o) ≡ (c || is_some o && not s)
    by true s o = refl
    by false true None = refl
    by false true (Some k) = refl
    by false false None = refl
    by false false (Some k) = refl

pub scopes-push : (nodes : List Node) (opened : List NodeId) (scopes : List (List Bool)) (o : NodeId) (name : List ℕ) (flags : List Bool) → HaveScopes nodes opened scopes → name_in nodes (Some o) ≡ name → ((i : ℕ) (r : Rule) → slice_get rules i ≡ Some r → get_or flags i false ≡ has_within r name (has_in_scope r nodes opened (length opened))) → HaveScopes nodes (opened ++ o ∷ []) (scopes ++ flags ∷ [])
scopes-push nodes opened scopes o name flags h e f = record {
  count = length-append scopes (flags ∷ []) ∙ ap (λ n. n + 1) h.count ∙ sym (length-append opened (o ∷ []));
  each = λ k x g. by k x g (cases_lt k (length scopes));
}
  where
    by : (k : ℕ) (x : List Bool) → slice_get (scopes ++ flags ∷ []) k ≡ Some x → (k < length scopes) ⊎ (length scopes ≤ k) → AreScopes nodes (opened ++ o ∷ []) (suc k) x
    by k x g (inl l) i r q =
        let c = h.count in
        h.each k x (sym (get-append scopes (flags ∷ []) k l) ∙ g) i r q
        ∙ ap is_some (kept-same (has_name r.closes) (has_name r.scope) nodes nodes opened (opened ++ o ∷ []) (suc k) (λ j m. ap (name_in nodes) (sym (get-append opened (o ∷ []) j (omega (arith, c, l, m))))))
    by k x g (inr l) i r q =
        let c = h.count in
        let w = slice_get_within (scopes ++ flags ∷ []) k x g in
        let n = length-append scopes (flags ∷ []) in
        let at : k ≡ length scopes = omega (arith, w, n, l) in
        let place : k ≡ length opened = omega (arith, at, c) in
        let here : Some flags ≡ Some x = sym (get-end scopes flags) ∙ ap (slice_get (scopes ++ flags ∷ [])) (sym at) ∙ g in
        let is : flags ≡ x = cc in
        let last : name_in nodes (slice_get (opened ++ o ∷ []) (length opened)) ≡ name = ap (name_in nodes) (get-end opened o) ∙ e in
        let before : has_in_scope r nodes opened (length opened) ≡ has_in_scope r nodes (opened ++ o ∷ []) (length opened) = ap is_some (kept-same (has_name r.closes) (has_name r.scope) nodes nodes opened (opened ++ o ∷ []) (length opened) (λ j m. ap (name_in nodes) (sym (get-append opened (o ∷ []) j m)))) in
        ap (λ (l : List Bool). get_or l i false) (sym is) ∙ f i r q ∙ ap (has_within r name) before ∙ sym (within-step r nodes (opened ++ o ∷ []) (length opened) name last) ∙ ap (λ j. has_in_scope r nodes (opened ++ o ∷ []) (suc j)) (sym place)

pub scopes-begun : (nodes : List Node) → HaveScopes nodes [] []
scopes-begun nodes = record { count = refl; each = λ k flags g. absurd cc }

pub scopes-last : (nodes : List Node) (opened : List NodeId) (scopes : List (List Bool)) (last : List Bool) → HaveScopes nodes opened scopes → slice_get scopes (length scopes - 1) ≡ Some last → AreScopes nodes opened (length opened) last
scopes-last nodes opened scopes last h g =
    let w = slice_get_within scopes (length scopes - 1) last g in
    let c = h.count in
    let n : suc (length scopes - 1) ≡ length opened = omega (arith, w, c) in
    subst (λ i. AreScopes nodes opened i last) n (h.each (length scopes - 1) last g)

-- where a row has no element in scope it closes nothing
pub none-closed : (name : List ℕ) (nodes : List Node) (opened : List NodeId) (r : Rule) → has_in_scope r nodes opened (length opened) ≡ false → opened ≡ after_rule name nodes opened r
none-closed name nodes opened r h = by (names_tag r name)
  where
    by : (b : Bool) → opened ≡ (if b then closed_by (has_name r.closes) (has_name r.scope) nodes opened else opened)
    by true = closed-none (has_name r.closes) (has_name r.scope) nodes opened (none-is (kept (has_name r.closes) (has_name r.scope) nodes opened (length opened)) h)
    by false = refl

-- a flag set, beside the others
pub set-one : (flags : List Bool) (k i : ℕ) (flag wanted : Bool) → i ≤ k → k < length flags → (i < k → get_or flags i false ≡ wanted) → (i ≡ k → flag ≡ wanted) → get_or (slice_set flags k flag) i false ≡ wanted
set-one flags k i flag wanted l w before here = by (cases_lt i k)
  where
    by : (i < k) ⊎ (k ≤ i) → get_or (slice_set flags k flag) i false ≡ wanted
    by (inl m) = get_or-set_other flags k i flag false (omega arith) ∙ before m
    by (inr m) = let at : i ≡ k = omega arith in ap (λ j. get_or (slice_set flags k flag) j false) at ∙ get_or-set_same flags k flag false w ∙ here at

-- ---- attributes leave names

abbrev name : NodeData → Option (List ℕ)
name what = Rattle.dom.specs.Nodes.name_in what

name-set : (nodes : List Node) (n m : ℕ) (a y : Node) → slice_get nodes n ≡ Some a → name y.what ≡ name a.what → name_at (slice_set nodes n y) m ≡ name_at nodes m
name-set [] n m a y h e = refl
name-set (x ∷ nodes) zero zero a y h e = let s : x ≡ a = cc in e ∙ ap (λ (z : Node). name z.what) (sym s)
name-set (x ∷ nodes) zero (suc m) a y h e = refl
name-set (x ∷ nodes) (suc n) zero a y h e = refl
name-set (x ∷ nodes) (suc n) (suc m) a y h e = name-set nodes n m a y h e

name-attributed : (key value : List ℕ) (what : NodeData) → name (attributed key value what) ≡ name what
name-attributed key value (Element n attrs) = refl
name-attributed key value (Text bytes) = refl

name-put : (n : ℕ) (nodes : List Node) (a : List ℕ × List ℕ) (m : ℕ) → name_at (put n nodes a) m ≡ name_at nodes m
name-put n nodes a m = by (is_some (attribute_at nodes n (name_of a.0))) (slice_get nodes n) refl
  where
    by : (b : Bool) (o : Option Node) → slice_get nodes n ≡ o → name_at (if b then nodes else changed_at (λ y. record y { what = attributed (name_of a.0) (text_of true a.1) y.what }) nodes n o) m ≡ name_at nodes m
    by true o e = refl
    by false None e = refl
    by false (Some x) e = name-set nodes n m x (record x { what = attributed (name_of a.0) (text_of true a.1) x.what }) e (name-attributed (name_of a.0) (text_of true a.1) x.what)

pub name-put_all : (n : ℕ) (attrs : List (List ℕ × List ℕ)) (nodes : List Node) (m : ℕ) → name_at (put_all n attrs nodes) m ≡ name_at nodes m
name-put_all n [] nodes m = refl
name-put_all n (a ∷ attrs) nodes m = name-put_all n attrs (put n nodes a) m ∙ name-put n nodes a m

-- ---- scopes of a tree that grows

pub scopes-grow : (nodes more : List Node) (opened : List NodeId) (scopes : List (List Bool)) → AreElements nodes opened → HaveScopes nodes opened scopes → HaveScopes (nodes ++ more) opened scopes
scopes-grow nodes more opened scopes e h = scopes-same nodes (nodes ++ more) opened scopes (λ k. sym (name-grow nodes more opened k e)) h

pub scopes-put : (n : ℕ) (attrs : List (List ℕ × List ℕ)) (nodes : List Node) (opened : List NodeId) (scopes : List (List Bool)) → HaveScopes nodes opened scopes → HaveScopes (put_all n attrs nodes) opened scopes
scopes-put n attrs nodes opened scopes h = scopes-same nodes (put_all n attrs nodes) opened scopes (λ k. by (slice_get opened k)) h
  where
    by : (o : Option NodeId) → name_in nodes o ≡ name_in (put_all n attrs nodes) o
    by None = refl
    by (Some o) = ap (λ x. unwrap_or x []) (sym (name-put_all n attrs nodes o.0))

-- a new element after what was there
abbrev new_nodes : List Node → ℕ → List ℕ → List (List ℕ × List ℕ) → List Node
new_nodes nodes parent name attrs = put_all (length nodes) attrs (nodes ++ child_of nodes parent (Element name []) ∷ [])

pub scopes-new : (nodes more : List Node) (parent : ℕ) (name : List ℕ) (attrs : List (List ℕ × List ℕ)) (opened : List NodeId) (scopes : List (List Bool)) → AreElements nodes opened → HaveScopes nodes opened scopes → HaveScopes (new_nodes (nodes ++ more) parent name attrs) opened scopes
scopes-new nodes more parent name attrs opened scopes e h =
    scopes-put (length (nodes ++ more)) attrs ((nodes ++ more) ++ child_of (nodes ++ more) parent (Element name []) ∷ []) opened scopes
    (scopes-grow (nodes ++ more) (child_of (nodes ++ more) parent (Element name []) ∷ []) opened scopes (elements-grow nodes more opened e) (scopes-grow nodes more opened scopes e h))

pub name-new : (nodes : List Node) (parent : ℕ) (n : List ℕ) (attrs : List (List ℕ × List ℕ)) (node : NodeId) → node.0 ≡ length nodes → name_in (new_nodes nodes parent n attrs) (Some node) ≡ n
name-new nodes parent n attrs node e =
    ap (λ x. unwrap_or x []) (ap (name_at (new_nodes nodes parent n attrs)) e ∙ name-put_all (length nodes) attrs (nodes ++ child_of nodes parent (Element n []) ∷ []) (length nodes) ∙ ap (part_of Rattle.dom.specs.Nodes.name_in) (get-end nodes (child_of nodes parent (Element n []))))

pub on-ok : {A B P : Type 0} (r : Result A B) → is_err r ≡ false → OnOk r P → P
on-ok (Ok x) e p = p
on-ok (Err x) e p = cc

-- no open `head` closes where its row has none in scope
pub head-none : (nodes : List Node) (opened : List NodeId) (flags : List Bool) → AreScopes nodes opened (length opened) flags → get_or flags 0 false ≡ false → opened ≡ without (codes "head") nodes opened
unfolding rules
head-none nodes opened flags h e = closed-none (has_name (codes "head" ∷ [])) (has_name []) nodes opened (none-is (kept (has_name (codes "head" ∷ [])) (has_name []) nodes opened (length opened)) (sym (h 0 _ refl) ∙ e))
