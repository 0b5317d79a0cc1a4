-- The first element of an id when nodes and attributes are added.
use Rattle.std.proofs.Common.{◌≡◌, ℕ, zero, suc, ◌+◌, ◌<◌, ◌≤◌, Bool, true, false, List, [], ◌∷◌, ◌++◌, Option, None, Some, length, length-append, slice_get, option_map, cond, is_some, not, IfSome, refl, sym, ◌∙◌, ap, subst, arith, inl, inr, ◌⊎◌, ◌==◌, if◌then◌else◌}
use Rattle.std.proofs.lemmas.Bool.{cases_lt, both_ways}
use Rattle.std.proofs.lemmas.Map.Views.{exact_unsigned_eq}
use Rattle.std.specs.Str.{bytes_eq}
use Rattle.dom.specs.Pairs.{pair_value}
use Rattle.dom.specs.StoreFields.{made_of}
use Rattle.dom.specs.declared.store.New.{New}
use Rattle.dom.specs.declared.store.New.TheVariants as new
use Rattle.dom.specs.Nodes.{Node, NodeData, root, Element, Text, parents_of, flat, depth_at, is_element, is_element_at, is_element_node, attribute_in, attribute_at, attributed, part_of, changed_at, with_attribute, IsTree}
use Rattle.dom.specs.Order.{way, way_to, comes_after, has_id, is_text, leads, IsFirstOf}
use Rattle.std.proofs.lemmas.Bool.{eq-eqb}
use Rattle.std.proofs.lemmas.List.{map-append, length-map}
use Rattle.bk_num.proofs.ListLemmas.{bytes_same, bytes_self, get-before, get-end}
use Rattle.dom.proofs.DomLemmas.{parent-falls, depth-push}
use Rattle.dom.proofs.ShapeLemmas.{after-same, shape-with}
use Rattle.dom.proofs.OrderLemmas.{after-self, after-one-way, after-trans, beyond, inside}

-- the name of the attribute
abbrev name : List ℕ
name = 105 ∷ 100 ∷ []

differs : (m n : ℕ) → (m == n) ≡ false → m ≡ n → ⊥
differs m n e s = both_ways (m == n) e (eq-eqb m n s)

equal : (m n : ℕ) → (m ≡ n) ⊎ (m ≡ n → ⊥)
equal m n = by (m == n) refl
  where
    by : (b : Bool) → (m == n) ≡ b → (m ≡ n) ⊎ (m ≡ n → ⊥)
    by true e = inl (exact_unsigned_eq m n e)
    by false e = inr (differs m n e)

-- ---- one more node

pub parents-push : (nodes : List Node) (x : Node) → parents_of (nodes ++ x ∷ []) ≡ parents_of nodes ++ x.parent ∷ []
parents-push nodes x = map-append (λ (n : Node). n.parent) nodes (x ∷ [])

pub length-parents : (nodes : List Node) → length (parents_of nodes) ≡ length nodes
length-parents nodes = length-map nodes (λ (n : Node). n.parent)

way-none : (ps : List (Option ℕ)) (d : ℕ) → way ps d None ≡ []
way-none ps zero = refl
way-none ps (suc d) = refl

way-push : (ps : List (Option ℕ)) (q : Option ℕ) (d n : ℕ) → ((k p : ℕ) → slice_get ps k ≡ Some (Some p) → p < k) → n < length ps → way (ps ++ q ∷ []) d (Some n) ≡ way ps d (Some n)
way-push ps q zero n falls l = refl
way-push ps q (suc d) n falls l = ap (λ w. w ++ n ∷ []) (ap (λ o. way (ps ++ q ∷ []) d o) (ap flat (get-before ps q n l)) ∙ by (slice_get ps n) refl (λ p f. way-push ps q d p falls f))
  where
    by : (o : Option (Option ℕ)) → slice_get ps n ≡ o → ((p : ℕ) → p < length ps → way (ps ++ q ∷ []) d (Some p) ≡ way ps d (Some p)) → way (ps ++ q ∷ []) d (flat o) ≡ way ps d (flat o)
    by None e up = way-none (ps ++ q ∷ []) d ∙ sym (way-none ps d)
    by (Some None) e up = way-none (ps ++ q ∷ []) d ∙ sym (way-none ps d)
    by (Some (Some p)) e up = up p (let f = falls n p e in omega arith)

module _ (nodes : List Node) (x : Node) (tree : IsTree nodes) where
  way_to-push : (n : ℕ) → n < length nodes → way_to (nodes ++ x ∷ []) n ≡ way_to nodes n
  way_to-push n l =
      rw (depth-push nodes x n l, parents-push nodes x) (way-push (parents_of nodes) x.parent (depth_at nodes n) n (parent-falls nodes tree) (rw (length-parents nodes) l))

  after-push : (a b : ℕ) → a < length nodes → b < length nodes → comes_after (nodes ++ x ∷ []) a b ≡ comes_after nodes a b
  after-push a b l m = rw (way_to-push a l, way_to-push b m) refl

  module _ (id : List ℕ) (none : attribute_in name x.what ≡ None) where
    has-push : (m : ℕ) → has_id (nodes ++ x ∷ []) id m ≡ has_id nodes id m
    has-push m = elim (cases_lt m (length nodes)) [ inl l ↦ ap (λ o. is_text id (part_of (attribute_in name) o)) (get-before nodes x m l) | inr g ↦ late m g ∙ sym (beyond nodes id m g) ]
      where
        late : (m : ℕ) → length nodes ≤ m → has_id (nodes ++ x ∷ []) id m ≡ false
        late m g = elim (cases_lt m (length nodes + 1)) [ inl l ↦ (let e : m ≡ length nodes = omega arith in ap (λ o. is_text id (part_of (attribute_in name) o)) (ap (slice_get (nodes ++ x ∷ [])) e ∙ get-end nodes x) ∙ ap (is_text id) none) | inr h ↦ beyond (nodes ++ x ∷ []) id m (let s = length-append nodes (x ∷ []) in omega arith) ]

    pub first-push : (r : Option ℕ) → IsFirstOf nodes id r → IsFirstOf (nodes ++ x ∷ []) id r
    first-push None h = λ m. has-push m ∙ h m
    first-push (Some n) h = (has-push n ∙ h.0, λ m y. (let z : has_id nodes id m ≡ true = sym (has-push m) ∙ y in after-push n m (inside nodes id n h.0) (inside nodes id m z) ∙ h.1 m z))

-- ---- one more attribute

-- the value of a name after one more pair
pair-push : (ps : List (List ℕ × List ℕ)) (key value : List ℕ) → pair_value ps key ≡ None → pair_value (ps ++ (key, value) ∷ []) key ≡ Some value
pair-push [] key value h = rw (bytes_self key) refl
pair-push (p ∷ ps) key value h = by (bytes_eq key p.0) h (λ g. pair-push ps key value g)
  where
    by : (b : Bool) → cond b (Some p.1) (pair_value ps key) ≡ None → (pair_value ps key ≡ None → pair_value (ps ++ (key, value) ∷ []) key ≡ Some value) → cond b (Some p.1) (pair_value (ps ++ (key, value) ∷ []) key) ≡ Some value
    by true g up = cc
    by false g up = up g

pair-other : (ps : List (List ℕ × List ℕ)) (key value id : List ℕ) → bytes_eq id key ≡ false → pair_value (ps ++ (key, value) ∷ []) id ≡ pair_value ps id
pair-other [] key value id h = rw h refl
pair-other (p ∷ ps) key value id h = ap (λ o. cond (bytes_eq id p.0) (Some p.1) o) (pair-other ps key value id h)

attribute-other : (key value : List ℕ) (what : NodeData) → bytes_eq name key ≡ false → attribute_in name (attributed key value what) ≡ attribute_in name what
attribute-other key value (Element n attrs) h = pair-other attrs key value name h
attribute-other key value (Text text) h = refl

attribute-own : (value : List ℕ) (what : NodeData) → is_element what ≡ true → attribute_in name what ≡ None → attribute_in name (attributed name value what) ≡ Some value
attribute-own value (Element n attrs) e h = pair-push attrs name value h
attribute-own value (Text text) e h = cc

-- a node that is changed, and the others
changed-own : (f : Node → Node) (nodes : List Node) (n : ℕ) → slice_get (changed_at f nodes n (slice_get nodes n)) n ≡ option_map f (slice_get nodes n)
changed-own f [] n = refl
changed-own f (a ∷ nodes) zero = refl
changed-own f (a ∷ nodes) (suc n) = by (slice_get nodes n) (changed-own f nodes n)
  where
    by : (o : Option Node) → slice_get (changed_at f nodes n o) n ≡ option_map f (slice_get nodes n) → slice_get (changed_at f (a ∷ nodes) (suc n) o) (suc n) ≡ option_map f (slice_get nodes n)
    by None h = h
    by (Some x) h = h

changed-other : (f : Node → Node) (nodes : List Node) (n m : ℕ) → (m ≡ n → ⊥) → slice_get (changed_at f nodes n (slice_get nodes n)) m ≡ slice_get nodes m
changed-other f [] n m differ = refl
changed-other f (a ∷ nodes) zero zero differ = absurd (differ refl)
changed-other f (a ∷ nodes) zero (suc m) differ = refl
changed-other f (a ∷ nodes) (suc n) zero differ = by (slice_get nodes n)
  where
    by : (o : Option Node) → slice_get (changed_at f (a ∷ nodes) (suc n) o) zero ≡ Some a
    by None = refl
    by (Some x) = refl
changed-other f (a ∷ nodes) (suc n) (suc m) differ = by (slice_get nodes n) (changed-other f nodes n m (λ e. differ (ap (λ k. suc k) e)))
  where
    by : (o : Option Node) → slice_get (changed_at f nodes n o) m ≡ slice_get nodes m → slice_get (changed_at f (a ∷ nodes) (suc n) o) (suc m) ≡ slice_get nodes m
    by None h = h
    by (Some x) h = h

module _ (nodes : List Node) (n : ℕ) (value : List ℕ) (id : List ℕ) where
  -- an attribute of another name
  module _ (key : List ℕ) (differ : bytes_eq name key ≡ false) where
    has-other : (m : ℕ) → has_id (with_attribute nodes n key value) id m ≡ has_id nodes id m
    has-other m = ap (is_text id) (by (m == n) refl)
      where
        own : (o : Option Node) → part_of (attribute_in name) (option_map (λ (a : Node). record a { what = attributed key value a.what }) o) ≡ part_of (attribute_in name) o
        own None = refl
        own (Some a) = attribute-other key value a.what differ

        by : (b : Bool) → (m == n) ≡ b → attribute_at (with_attribute nodes n key value) m name ≡ attribute_at nodes m name
        by true e = (let s = exact_unsigned_eq m n e in rw s (ap (part_of (attribute_in name)) (changed-own (λ a. record a { what = attributed key value a.what }) nodes n) ∙ own (slice_get nodes n)))
        by false e = ap (part_of (attribute_in name)) (changed-other (λ a. record a { what = attributed key value a.what }) nodes n m (λ s. differs m n e s))

    pub first-other : (r : Option ℕ) → IsFirstOf nodes id r → IsFirstOf (with_attribute nodes n key value) id r
    first-other None h = λ m. has-other m ∙ h m
    first-other (Some k) h = (has-other k ∙ h.0, λ m y. after-same nodes (with_attribute nodes n key value) (shape-with nodes n key value) k m ∙ h.1 m (sym (has-other m) ∙ y))

  -- an `id` for an element that has none
  module _ (element : is_element_at nodes n ≡ true) (none : attribute_at nodes n name ≡ None) where
    with_id : List Node
    with_id = with_attribute nodes n name value

    has-own : has_id (with_attribute nodes n name value) id n ≡ bytes_eq value id
    has-own = ap (is_text id) (ap (part_of (attribute_in name)) (changed-own (λ a. record a { what = attributed name value a.what }) nodes n) ∙ own (slice_get nodes n) element none)
      where
        own : (o : Option Node) → is_element_node o ≡ true → part_of (attribute_in name) o ≡ None → part_of (attribute_in name) (option_map (λ (a : Node). record a { what = attributed name value a.what }) o) ≡ Some value
        own None e h = cc
        own (Some a) e h = attribute-own value a.what e h

    has-not : has_id nodes id n ≡ false
    has-not = ap (is_text id) none

    has-rest : (m : ℕ) → (m ≡ n → ⊥) → has_id (with_attribute nodes n name value) id m ≡ has_id nodes id m
    has-rest m differ = ap (λ o. is_text id (part_of (attribute_in name) o)) (changed-other (λ a. record a { what = attributed name value a.what }) nodes n m differ)

    after : (a b : ℕ) → comes_after (with_attribute nodes n name value) a b ≡ comes_after nodes a b
    after = after-same nodes (with_attribute nodes n name value) (shape-with nodes n name value)

    -- another id
    pub first-apart : (r : Option ℕ) → bytes_eq value id ≡ false → IsFirstOf nodes id r → IsFirstOf (with_attribute nodes n name value) id r
    first-apart r apart h = by r h
      where
        same : (m : ℕ) → has_id (with_attribute nodes n name value) id m ≡ has_id nodes id m
        same m = elim (equal m n) [ inl e ↦ rw e (has-own ∙ apart ∙ sym has-not) | inr d ↦ has-rest m d ]

        by : (r : Option ℕ) → IsFirstOf nodes id r → IsFirstOf (with_attribute nodes n name value) id r
        by None h = λ m. same m ∙ h m
        by (Some k) h = (same k ∙ h.0, λ m y. after k m ∙ h.1 m (sym (same m) ∙ y))

    -- the first of its id
    pub first-lead : (r : Option ℕ) → bytes_eq value id ≡ true → leads nodes n r ≡ true → IsFirstOf nodes id r → IsFirstOf (with_attribute nodes n name value) id (Some n)
    first-lead r own lead h = (has-own ∙ own, λ m y. after n m ∙ elim (equal m n) [ inl e ↦ rw e (after-self nodes n) | inr d ↦ rest r lead h m (sym (has-rest m d) ∙ y) ])
      where
        rest : (r : Option ℕ) → leads nodes n r ≡ true → IsFirstOf nodes id r → (m : ℕ) → has_id nodes id m ≡ true → comes_after nodes n m ≡ false
        rest None lead h m y = absurd (both_ways _ (h m) y)
        rest (Some k) lead h m y = after-trans nodes n k m (after-one-way nodes k n lead) (h.1 m y)

    -- a later one of its id
    pub first-late : (r : Option ℕ) → leads nodes n r ≡ false → IsFirstOf nodes id r → IsFirstOf (with_attribute nodes n name value) id r
    first-late None lead h = cc
    first-late (Some k) lead h = (has-rest k other ∙ h.0, λ m y. after k m ∙ elim (equal m n) [ inl e ↦ rw e lead | inr d ↦ h.1 m (sym (has-rest m d) ∙ y) ])
      where
        other : k ≡ n → ⊥
        other e = both_ways _ has-not (rw e at h.0)

-- ---- what a document keeps of ids

pub first-root : (id : List ℕ) → IsFirstOf (root ∷ []) id None
first-root id = by
  where
    by : (m : ℕ) → has_id (root ∷ []) id m ≡ false
    by zero = refl
    by (suc m) = refl

pub first-within : (nodes : List Node) (id : List ℕ) (r : Option ℕ) → IsFirstOf nodes id r → IfSome r (λ n. n < length nodes)
first-within nodes id None h = tt
first-within nodes id (Some n) h = inside nodes id n h.0

-- an element with an id that leads
pub all-lead : (nodes : List Node) (n : ℕ) (value : List ℕ) (f : List ℕ → Option ℕ) → is_element_at nodes n ≡ true → attribute_at nodes n name ≡ None → leads nodes n (f value) ≡ true
    → ((id : List ℕ) → IsFirstOf nodes id (f id)) → (id : List ℕ) → IsFirstOf (with_attribute nodes n name value) id (if bytes_eq value id then Some n else f id)
all-lead nodes n value f element none lead h id = by (bytes_eq value id) refl
  where
    by : (b : Bool) → bytes_eq value id ≡ b → IsFirstOf (with_attribute nodes n name value) id (cond b (Some n) (f id))
    by true e = first-lead nodes n value id element none (f id) e (subst (λ v. leads nodes n (f v) ≡ true) (bytes_same value id e) lead) (h id)
    by false e = first-apart nodes n value id element none (f id) e (h id)

-- and with one that does not
pub all-late : (nodes : List Node) (n : ℕ) (value : List ℕ) (f : List ℕ → Option ℕ) → is_element_at nodes n ≡ true → attribute_at nodes n name ≡ None → leads nodes n (f value) ≡ false
    → ((id : List ℕ) → IsFirstOf nodes id (f id)) → (id : List ℕ) → IsFirstOf (with_attribute nodes n name value) id (f id)
all-late nodes n value f element none late h id = by (bytes_eq value id) refl
  where
    by : (b : Bool) → bytes_eq value id ≡ b → IsFirstOf (with_attribute nodes n name value) id (f id)
    by true e = first-late nodes n value id element none (f id) (subst (λ v. leads nodes n (f v) ≡ false) (bytes_same value id e) late) (h id)
    by false e = first-apart nodes n value id element none (f id) e (h id)

-- the name of an attribute that is no id
pub not-name : (key : List ℕ) → bytes_eq key name ≡ false → bytes_eq name key ≡ false
not-name key h = by (bytes_eq name key) refl
  where
    by : (b : Bool) → bytes_eq name key ≡ b → b ≡ false
    by false e = refl
    by true e = absurd (both_ways _ h (subst (λ k. bytes_eq k name ≡ true) (bytes_same name key e) (bytes_self name)))

pub none-made : (what : New) → attribute_in name (made_of what) ≡ None
none-made (new.Element n) = refl
none-made (new.Text t) = refl

pub none-added : (o : Option (List ℕ)) → true ≡ not (is_some o) → o ≡ None
none-added None h = refl
none-added (Some x) h = cc
