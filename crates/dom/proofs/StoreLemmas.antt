-- The nodes of a store when names, texts, attributes and nodes are added.
use Rattle.std.proofs.Common.{Result, Ok, Err, OnErr, ◌≡◌, ℕ, zero, suc, ◌+◌, ◌<◌, ◌≤◌, Bool, true, false, List, [], ◌∷◌, ◌++◌, Option, None, Some, option_map, length, length-append, slice_get, cond, refl, sym, ◌∙◌, ap, subst, arith, ◌⊎◌, inl, inr, ◌==◌, add-zero, unwrap_or, is_some, position, get_or}
use Rattle.std.proofs.lemmas.Map.Views.{exact_unsigned_eq}
use Rattle.std.proofs.lemmas.Bool.{eq-eqb}
use Rattle.std.specs.Str.{bytes_eq, IsUtf8}
use Rattle.std.proofs.lemmas.Option.{slice_get-get_or, slice_get_read, unwrap_or-slice_get}
use Rattle.std.specs.Map.{lookup}
use Rattle.bk_num.specs.Names.{with_name}
use Rattle.dom.specs.NameLists.{place_of, AreOnce}
use Rattle.dom.proofs.NameLemmas.{any-position, not-there, is-there}
use Rattle.dom.proofs.SpanLemmas.{between-append, fits-append}
use Rattle.std.proofs.lemmas.Bool.{and_parts, and_from}
use Rattle.dom.specs.Keys.{is_key}
use Rattle.dom.specs.Nodes.{NodeData, Element, Text, attributed, changed_at, is_element, attribute_in}
use Rattle.dom.specs.Pairs.{pair_value}
use Rattle.std.specs.List.{list_any}
use Rattle.std.specs.Option.{option_and_then}
use Rattle.bk_num.proofs.ListLemmas.{bytes_same, bytes_self, get-append, get-push, get-end}
use Rattle.dom.specs.Spans.{between, Fits}
use Rattle.dom.specs.StoreFields.{name_of, pair_of, attributes_of, node_of, nodes_from, ItemFits, EntryFits, AreSoundItems}
use Rattle.dom.specs.declared.texts.Span.{Span}
use Rattle.dom.specs.declared.store.Item.{Item}
use Rattle.dom.specs.declared.store.Item.TheVariants as item
use Rattle.dom.specs.declared.store.Key.{Key}

EntriesFit : List (List ℕ) → List ℕ → ℕ → List (Key × Span) → Type 0
EntriesFit names texts n es = (k : ℕ) (e : Key × Span) → slice_get es k ≡ Some e → EntryFits names texts n e

-- names and texts that go on: what was kept of names and texts stays
pub record Grow (names : List (List ℕ)) (texts : List ℕ) (names' : List (List ℕ)) (texts' : List ℕ) : Type 0 where
  pub name : (k : ℕ) → k < length names → name_of names' k ≡ name_of names k
  pub count : length names ≤ length names'
  pub text : (s : Span) → Fits texts s → between texts' s ≡ between texts s
  pub fits : (s : Span) → Fits texts s → Fits texts' s

module _ (names : List (List ℕ)) (texts : List ℕ) (names' : List (List ℕ)) (texts' : List ℕ) (grow : Grow names texts names' texts') where
  pub attributes-grow : (c n : ℕ) (es : List (Key × Span)) → ((k : ℕ) (e : Key × Span) → slice_get es k ≡ Some e → EntryFits names texts c e) → attributes_of names' texts' n es ≡ attributes_of names texts n es
  attributes-grow c n [] fit = refl
  attributes-grow c n (e ∷ es) fit =
      let f = fit 0 e refl in
      rw (grow.name e.0.name f.name, grow.text e.1 f.value, attributes-grow c n es (λ k. fit (suc k))) refl

  node-grow : (c n : ℕ) (es : List (Key × Span)) (i : Item) → ((k : ℕ) (e : Key × Span) → slice_get es k ≡ Some e → EntryFits names texts c e) → ItemFits names texts i → node_of names' texts' es n i ≡ node_of names texts es n i
  node-grow c n es (item.Element k) fit f = rw (grow.name k f, attributes-grow c n es fit) refl
  node-grow c n es (item.Text s) fit f = rw (grow.text s f) refl

  pub nodes-grow : (c k : ℕ) (es : List (Key × Span)) (is : List Item) → ((j : ℕ) (e : Key × Span) → slice_get es j ≡ Some e → EntryFits names texts c e) → ((j : ℕ) (i : Item) → slice_get is j ≡ Some i → ItemFits names texts i) → nodes_from names' texts' es k is ≡ nodes_from names texts es k is
  nodes-grow c k es [] fit items = refl
  nodes-grow c k es (i ∷ is) fit items = rw (node-grow c k es i fit (items 0 i refl), nodes-grow c (k + 1) es is fit (λ j. items (suc j))) refl

  item-grow : (i : Item) → ItemFits names texts i → ItemFits names' texts' i
  item-grow (item.Element k) f = (let c = grow.count in omega arith)
  item-grow (item.Text s) f = grow.fits s f

  pub sound-grow : (es : List (Key × Span)) (is : List Item) → AreSoundItems names texts es is → AreSoundItems names' texts' es is
  sound-grow es is s = record {
    items = λ k i g. item-grow i (s.items k i g);
    entries = λ k e g. (let f = s.entries k e g in let c = grow.count in record { node = f.node; name = omega (arith, f.name); value = grow.fits e.1 f.value });
  }

module _ (names : List (List ℕ)) (texts : List ℕ) where
  pub nodes-push : (es : List (Key × Span)) (k : ℕ) (is : List Item) (i : Item) → nodes_from names texts es k (is ++ i ∷ []) ≡ nodes_from names texts es k is ++ node_of names texts es (k + length is) i ∷ []
  nodes-push es k [] i = rw (add-zero k) refl
  nodes-push es k (a ∷ is) i =
      let e : k + 1 + length is ≡ k + length (a ∷ is) = omega arith in
      ap (λ ns. node_of names texts es k a ∷ ns) (nodes-push es (k + 1) is i ∙ ap (λ n. nodes_from names texts es (k + 1) is ++ node_of names texts es n i ∷ []) e)

  pub length-nodes : (es : List (Key × Span)) (k : ℕ) (is : List Item) → length (nodes_from names texts es k is) ≡ length is
  length-nodes es k [] = refl
  length-nodes es k (i ∷ is) = ap (λ n. suc n) (length-nodes es (k + 1) is)

  pub get-nodes : (es : List (Key × Span)) (k : ℕ) (is : List Item) (n : ℕ) → slice_get (nodes_from names texts es k is) n ≡ option_map (node_of names texts es (k + n)) (slice_get is n)
  get-nodes es k [] n = refl
  get-nodes es k (i ∷ is) zero = rw (add-zero k) refl
  get-nodes es k (i ∷ is) (suc n) =
      let e : k + 1 + n ≡ k + suc n = omega arith in
      get-nodes es (k + 1) is n ∙ ap (λ m. option_map (node_of names texts es m) (slice_get is n)) e

  -- a node past all has no attributes
  pub none-past : (c n : ℕ) (es : List (Key × Span)) → c ≤ n → ((k : ℕ) (e : Key × Span) → slice_get es k ≡ Some e → EntryFits names texts c e) → attributes_of names texts n es ≡ []
  none-past c n [] past fit = refl
  none-past c n (e ∷ es) past fit = by (e.0.node == n) refl (none-past c n es past (λ k. fit (suc k)))
    where
      by : (b : Bool) → (e.0.node == n) ≡ b → attributes_of names texts n es ≡ [] → cond b (pair_of names texts e ∷ attributes_of names texts n es) (attributes_of names texts n es) ≡ []
      by true is h = let s = exact_unsigned_eq e.0.node n is in let f = (fit 0 e refl).node in absurd (omega arith)
      by false is h = h

  -- one more attribute
  attributes-push : (n : ℕ) (es : List (Key × Span)) (e : Key × Span) → attributes_of names texts n (es ++ e ∷ []) ≡ attributes_of names texts n es ++ cond (e.0.node == n) (pair_of names texts e ∷ []) []
  attributes-push n [] e = refl
  attributes-push n (a ∷ es) e = by (a.0.node == n) (attributes-push n es e)
    where
      by : (b : Bool) → attributes_of names texts n (es ++ e ∷ []) ≡ attributes_of names texts n es ++ cond (e.0.node == n) (pair_of names texts e ∷ []) [] → cond b (pair_of names texts a ∷ attributes_of names texts n (es ++ e ∷ [])) (attributes_of names texts n (es ++ e ∷ [])) ≡ cond b (pair_of names texts a ∷ attributes_of names texts n es) (attributes_of names texts n es) ++ cond (e.0.node == n) (pair_of names texts e ∷ []) []
      by true h = ap (λ ps. pair_of names texts a ∷ ps) h
      by false h = h

  append-none : {A : Type 0} (xs : List A) → xs ++ [] ≡ xs
  append-none [] = refl
  append-none (x ∷ xs) = ap (λ ys. x ∷ ys) (append-none xs)

  other-node : (es : List (Key × Span)) (e : Key × Span) (n : ℕ) (i : Item) → (e.0.node == n) ≡ false → node_of names texts (es ++ e ∷ []) n i ≡ node_of names texts es n i
  other-node es e n (item.Element k) other = ap (Element (name_of names k)) (attributes-push n es e ∙ rw other (append-none (attributes_of names texts n es)))
  other-node es e n (item.Text s) other = refl

  own-node : (es : List (Key × Span)) (e : Key × Span) (n : ℕ) (i : Item) → e.0.node ≡ n → node_of names texts (es ++ e ∷ []) n i ≡ attributed (name_of names e.0.name) (between texts e.1) (node_of names texts es n i)
  own-node es e n (item.Element k) own = ap (Element (name_of names k)) (attributes-push n es e ∙ rw (eq-eqb e.0.node n own) refl)
  own-node es e n (item.Text s) own = refl

  not-eqb : (a b : ℕ) → (a ≡ b → ⊥) → (a == b) ≡ false
  not-eqb a b differ = by (a == b) refl
    where
      by : (c : Bool) → (a == b) ≡ c → c ≡ false
      by true is = absurd (differ (exact_unsigned_eq a b is))
      by false is = refl

  later-nodes : (es : List (Key × Span)) (e : Key × Span) (k : ℕ) (is : List Item) → e.0.node < k → nodes_from names texts (es ++ e ∷ []) k is ≡ nodes_from names texts es k is
  later-nodes es e k [] past = refl
  later-nodes es e k (i ∷ is) past = rw (other-node es e k i (not-eqb e.0.node k (λ s. omega arith)), later-nodes es e (k + 1) is (omega arith)) refl

  pub nodes-with : (es : List (Key × Span)) (e : Key × Span) (k n : ℕ) (is : List Item) → e.0.node ≡ k + n → nodes_from names texts (es ++ e ∷ []) k is ≡ changed_at (attributed (name_of names e.0.name) (between texts e.1)) (nodes_from names texts es k is) n (slice_get (nodes_from names texts es k is) n)
  nodes-with es e k n [] own = refl
  nodes-with es e k zero (i ∷ is) own =
      let s : e.0.node ≡ k = omega arith in
      rw (own-node es e k i s, later-nodes es e (k + 1) is (omega arith)) refl
  nodes-with es e k (suc n) (i ∷ is) own =
      let s : e.0.node ≡ k + 1 + n = omega arith in
      rw (other-node es e k i (not-eqb e.0.node k (λ q. omega arith)), nodes-with es e (k + 1) n is s) (by (slice_get (nodes_from names texts es (k + 1) is) n))
    where
      by : (o : Option NodeData) → node_of names texts es k i ∷ changed_at (attributed (name_of names e.0.name) (between texts e.1)) (nodes_from names texts es (k + 1) is) n o ≡ changed_at (attributed (name_of names e.0.name) (between texts e.1)) (node_of names texts es k i ∷ nodes_from names texts es (k + 1) is) (suc n) o
      by None = refl
      by (Some a) = refl

-- ---- names and texts that go on

pub grow-name : (names : List (List ℕ)) (texts : List ℕ) (name : List ℕ) → Grow names texts (with_name names name) texts
grow-name names texts name = by (list_any (bytes_eq name) names)
  where
    by : (b : Bool) → Grow names texts (cond b names (names ++ name ∷ [])) texts
    by true = record { name = λ k h. refl; count = omega arith; text = λ s f. refl; fits = λ s f. f }
    by false = record { name = λ k h. ap (λ o. unwrap_or o []) (get-append names (name ∷ []) k h); count = (let a = length-append names (name ∷ []) in omega arith); text = λ s f. refl; fits = λ s f. f }

pub grow-text : (names : List (List ℕ)) (texts more : List ℕ) → IsUtf8 more → Grow names texts names (texts ++ more)
grow-text names texts more u = record { name = λ k h. refl; count = omega arith; text = λ s f. between-append texts more s f; fits = λ s f. fits-append texts more s u f }

pub grow-both : (names : List (List ℕ)) (texts more name : List ℕ) → IsUtf8 more → Grow names texts (with_name names name) (texts ++ more)
grow-both names texts more name u = (let g = grow-name names texts name in record { name = g.name; count = g.count; text = λ s f. between-append texts more s f; fits = λ s f. fits-append texts more s u f })

-- the nodes stay
pub nodes-kept : (names names' : List (List ℕ)) (texts texts' : List ℕ) (es : List (Key × Span)) (is : List Item) → Grow names texts names' texts' → AreSoundItems names texts es is → nodes_from names' texts' es 0 is ≡ nodes_from names texts es 0 is
nodes-kept names names' texts texts' es is g s = nodes-grow names texts names' texts' g (length is) 0 es is s.entries s.items

-- ---- one more item

pub sound-push : (names : List (List ℕ)) (texts : List ℕ) (es : List (Key × Span)) (is : List Item) (i : Item) → AreSoundItems names texts es is → ItemFits names texts i → AreSoundItems names texts es (is ++ i ∷ [])
sound-push names texts es is i s f = record { items = λ k j g. item j k (get-push is i j k g); entries = λ k e g. entry e (s.entries k e g) }
  where
    item : (j : Item) (k : ℕ) → (((k ≡ length is) × (j ≡ i)) ⊎ (slice_get is k ≡ Some j)) → ItemFits names texts j
    item j k (inl (at, e)) = subst (ItemFits names texts) (sym e) f
    item j k (inr g) = s.items k j g

    entry : (e : Key × Span) → EntryFits names texts (length is) e → EntryFits names texts (length (is ++ i ∷ [])) e
    entry e h = (let a = length-append is (i ∷ []) in record { node = omega (arith, h.node); name = h.name; value = h.value })

-- the place of a name among those with it
pub place-name : (names : List (List ℕ)) (name : List ℕ) → (slice_get (with_name names name) (place_of names name) ≡ Some name) × (place_of names name < length (with_name names name))
place-name names name = subst (λ b. (slice_get (cond b names (names ++ name ∷ [])) (place_of names name) ≡ Some name) × (place_of names name < length (cond b names (names ++ name ∷ [])))) (sym (any-position (bytes_eq name) names)) (by (position (bytes_eq name) names) refl)
  where
    by : (o : Option ℕ) → position (bytes_eq name) names ≡ o → (slice_get (cond (is_some o) names (names ++ name ∷ [])) (unwrap_or o (length names)) ≡ Some name) × (unwrap_or o (length names) < length (cond (is_some o) names (names ++ name ∷ [])))
    by None e = (get-end names name, (let a = length-append names (name ∷ []) in omega arith))
    by (Some k) e =
        let p = is-there names name k e in
        (p.1, p.0)

-- an element that is added
pub element-added : (names : List (List ℕ)) (texts : List ℕ) (es : List (Key × Span)) (is : List Item) (name : List ℕ) → AreSoundItems names texts es is
    → nodes_from (with_name names name) texts es 0 (is ++ item.Element (place_of names name) ∷ []) ≡ nodes_from names texts es 0 is ++ Element name [] ∷ []
element-added names texts es is name s =
    let g = grow-name names texts name in
    let t = sound-grow names texts (with_name names name) texts g es is s in
    nodes-push (with_name names name) texts es 0 is (item.Element (place_of names name))
    ∙ rw (nodes-kept names (with_name names name) texts texts es is g s, (place-name names name).0, none-past (with_name names name) texts (length is) (0 + length is) es (omega arith) t.entries) refl

pub element-sound : (names : List (List ℕ)) (texts : List ℕ) (es : List (Key × Span)) (is : List Item) (name : List ℕ) → AreSoundItems names texts es is
    → AreSoundItems (with_name names name) texts es (is ++ item.Element (place_of names name) ∷ [])
element-sound names texts es is name s = sound-push (with_name names name) texts es is (item.Element (place_of names name)) (sound-grow names texts (with_name names name) texts (grow-name names texts name) es is s) (place-name names name).1

pub text-added : (names : List (List ℕ)) (texts more : List ℕ) (es : List (Key × Span)) (is : List Item) (span : Span) → IsUtf8 more → AreSoundItems names texts es is → between (texts ++ more) span ≡ more
    → nodes_from names (texts ++ more) es 0 (is ++ item.Text span ∷ []) ≡ nodes_from names texts es 0 is ++ Text more ∷ []
text-added names texts more es is span u s b = nodes-push names (texts ++ more) es 0 is (item.Text span) ∙ rw (nodes-kept names names texts (texts ++ more) es is (grow-text names texts more u) s, b) refl

pub text-sound : (names : List (List ℕ)) (texts more : List ℕ) (es : List (Key × Span)) (is : List Item) (span : Span) → IsUtf8 more → AreSoundItems names texts es is → Fits (texts ++ more) span
    → AreSoundItems names (texts ++ more) es (is ++ item.Text span ∷ [])
text-sound names texts more es is span u s f = sound-push names (texts ++ more) es is (item.Text span) (sound-grow names texts names (texts ++ more) (grow-text names texts more u) es is s) f

-- ---- what is read

zero-add : (n : ℕ) → 0 + n ≡ n
zero-add n = omega arith

same-bool : (a b : Bool) → (a ≡ true → b ≡ true) → (b ≡ true → a ≡ true) → a ≡ b
same-bool true b f g = sym (f refl)
same-bool false true f g = g refl
same-bool false false f g = refl

-- the value that a map of all attributes has for a node and the number of a name
module _ (names : List (List ℕ)) (texts : List ℕ) (n k : ℕ) (name : List ℕ) (test : Key → Bool)
    (yes : (q : Key) → test q ≡ true → (q.node ≡ n) × (q.name ≡ k))
    (is : (q : Key) → q.node ≡ n → q.name ≡ k → test q ≡ true) where
  pub value-is : (c : ℕ) (es : List (Key × Span)) → AreOnce names → slice_get names k ≡ Some name → ((j : ℕ) (e : Key × Span) → slice_get es j ≡ Some e → EntryFits names texts c e)
      → pair_value (attributes_of names texts n es) name ≡ option_map (between texts) (lookup test es)
  value-is c [] once at fit = refl
  value-is c (e ∷ es) once at fit = by (e.0.node == n) refl (test e.0) refl (value-is c es once at (λ j. fit (suc j)))
    where
      fits : EntryFits names texts c e
      fits = fit 0 e refl

      read : slice_get names e.0.name ≡ Some (name_of names e.0.name)
      read = slice_get-get_or names e.0.name [] fits.name ∙ ap (λ x. Some x) (sym (unwrap_or-slice_get names e.0.name []))

      own : e.0.node ≡ n → bytes_eq name (name_of names e.0.name) ≡ test e.0
      own node = same-bool (bytes_eq name (name_of names e.0.name)) (test e.0)
          (λ t. is e.0 node (once e.0.name k (name_of names e.0.name) read (at ∙ ap (λ x. Some x) (bytes_same name (name_of names e.0.name) t))))
          (λ t. (let v : name_of names e.0.name ≡ name = ap (name_of names) (yes e.0 t).1 ∙ ap (λ o. unwrap_or o []) at in rw v (bytes_self name)))

      by : (b : Bool) → (e.0.node == n) ≡ b → (t : Bool) → test e.0 ≡ t → pair_value (attributes_of names texts n es) name ≡ option_map (between texts) (lookup test es)
          → pair_value (cond b (pair_of names texts e ∷ attributes_of names texts n es) (attributes_of names texts n es)) name ≡ option_map (between texts) (cond t (Some e.1) (lookup test es))
      by true node t eq h = rw (own (exact_unsigned_eq e.0.node n node), eq) (on t h)
        where
          on : (t : Bool) → pair_value (attributes_of names texts n es) name ≡ option_map (between texts) (lookup test es)
              → cond t (Some (between texts e.1)) (pair_value (attributes_of names texts n es) name) ≡ option_map (between texts) (cond t (Some e.1) (lookup test es))
          on true h = refl
          on false h = h
      by false node true eq h = absurd (let z : (e.0.node == n) ≡ true = eq-eqb e.0.node n (yes e.0 eq).0 in let d : true ≡ false = sym z ∙ node in cc)
      by false node false eq h = h

-- no element has an attribute of a name that has no number
pub value-none : (names : List (List ℕ)) (texts : List ℕ) (c n : ℕ) (name : List ℕ) (es : List (Key × Span)) → position (bytes_eq name) names ≡ None → ((j : ℕ) (e : Key × Span) → slice_get es j ≡ Some e → EntryFits names texts c e)
    → pair_value (attributes_of names texts n es) name ≡ None
value-none names texts c n name [] none fit = refl
value-none names texts c n name (e ∷ es) none fit = by (e.0.node == n) (bytes_eq name (name_of names e.0.name)) refl (value-none names texts c n name es none (λ j. fit (suc j)))
  where
    fits : EntryFits names texts c e
    fits = fit 0 e refl

    read : slice_get names e.0.name ≡ Some (name_of names e.0.name)
    read = slice_get-get_or names e.0.name [] fits.name ∙ ap (λ x. Some x) (sym (unwrap_or-slice_get names e.0.name []))

    by : (b t : Bool) → bytes_eq name (name_of names e.0.name) ≡ t → pair_value (attributes_of names texts n es) name ≡ None
        → pair_value (cond b (pair_of names texts e ∷ attributes_of names texts n es) (attributes_of names texts n es)) name ≡ None
    by true true eq h = absurd (not-there names name e.0.name none (read ∙ ap (λ x. Some x) (sym (bytes_same name (name_of names e.0.name) eq))))
    by true false eq h = rw eq h
    by false t eq h = h

-- what a map gives is one of its values
pub lookup-in : (test : Key → Bool) (es : List (Key × Span)) (s : Span) → lookup test es ≡ Some s → (j : ℕ) × (e : Key × Span) × (slice_get es j ≡ Some e) × (e.1 ≡ s) × (test e.0 ≡ true)
lookup-in test [] s h = cc
lookup-in test (e ∷ es) s h = by (test e.0) refl (λ g. lookup-in test es s g) h
  where
    next : ((j : ℕ) × (d : Key × Span) × (slice_get es j ≡ Some d) × (d.1 ≡ s) × (test d.0 ≡ true)) → (j : ℕ) × (d : Key × Span) × (slice_get (e ∷ es) j ≡ Some d) × (d.1 ≡ s) × (test d.0 ≡ true)
    next (j, d, g, v, t) = (suc j, d, g, v, t)

    by : (b : Bool) → test e.0 ≡ b → (lookup test es ≡ Some s → (j : ℕ) × (d : Key × Span) × (slice_get es j ≡ Some d) × (d.1 ≡ s) × (test d.0 ≡ true)) → cond b (Some e.1) (lookup test es) ≡ Some s → (j : ℕ) × (d : Key × Span) × (slice_get (e ∷ es) j ≡ Some d) × (d.1 ≡ s) × (test d.0 ≡ true)
    by true t up g = (0, e, refl, cc, t)
    by false t up g = next (up g)

pub none-map : {A B : Type 0} (f : A → B) (o : Option A) → option_map f o ≡ None → o ≡ None
none-map f None h = refl
none-map f (Some x) h = cc

-- ---- one more attribute

pub attr-sound : (names : List (List ℕ)) (texts : List ℕ) (es : List (Key × Span)) (is : List Item) (e : Key × Span) → AreSoundItems names texts es is → EntryFits names texts (length is) e → AreSoundItems names texts (es ++ e ∷ []) is
attr-sound names texts es is e s f = record { items = s.items; entries = λ k d g. by d k (get-push es e d k g) }
  where
    by : (d : Key × Span) (k : ℕ) → (((k ≡ length es) × (d ≡ e)) ⊎ (slice_get es k ≡ Some d)) → EntryFits names texts (length is) d
    by d k (inl (at, v)) = subst (EntryFits names texts (length is)) (sym v) f
    by d k (inr g) = s.entries k d g

pub item-at : (names : List (List ℕ)) (texts : List ℕ) (es : List (Key × Span)) (is : List Item) (n : ℕ) (i : Item) → n < length is → i ≡ get_or is n i → (slice_get is n ≡ Some i) × (slice_get (nodes_from names texts es 0 is) n ≡ Some (node_of names texts es n i))
item-at names texts es is n i h e =
    let g = slice_get_read is (length is) n i refl h e in
    (g, get-nodes names texts es 0 is n ∙ ap (λ m. option_map (node_of names texts es m) (slice_get is n)) (zero-add n) ∙ ap (option_map (node_of names texts es n)) g)

-- ---- keys

pub key-yes : (n k : ℕ) (q : Key) → is_key n k q ≡ true → (q.node ≡ n) × (q.name ≡ k)
key-yes n k q e = (let b = and_parts (n == q.node) (k == q.name) e in (sym (exact_unsigned_eq n q.node b.0), sym (exact_unsigned_eq k q.name b.1)))

pub key-is : (n k : ℕ) (q : Key) → q.node ≡ n → q.name ≡ k → is_key n k q ≡ true
key-is n k q a b = and_from (n == q.node) (k == q.name) (eq-eqb n q.node (sym a)) (eq-eqb k q.name (sym b))

pub fits-found : (names : List (List ℕ)) (texts : List ℕ) (es : List (Key × Span)) (is : List Item) (test : Key → Bool) (s : Span) → AreSoundItems names texts es is → lookup test es ≡ Some s → Fits texts s
fits-found names texts es is test s sound g = (let f = lookup-in test es s g in subst (Fits texts) f.3 (sound.entries f.0 f.1 f.2).value)

-- a number past all is in no key
pub none-new : (names : List (List ℕ)) (texts : List ℕ) (c n k : ℕ) (es : List (Key × Span)) → length names ≤ k → ((j : ℕ) (e : Key × Span) → slice_get es j ≡ Some e → EntryFits names texts c e) → lookup (is_key n k) es ≡ None
none-new names texts c n k [] past fit = refl
none-new names texts c n k (e ∷ es) past fit = by (is_key n k e.0) refl (none-new names texts c n k es past (λ j. fit (suc j)))
  where
    by : (b : Bool) → is_key n k e.0 ≡ b → lookup (is_key n k) es ≡ None → cond b (Some e.1) (lookup (is_key n k) es) ≡ None
    by true t h = absurd (let y = (key-yes n k e.0 t).1 in let f = (fit 0 e refl).name in omega arith)
    by false t h = h

-- no entry where there is no value
pub none-kept : (names : List (List ℕ)) (texts : List ℕ) (c n : ℕ) (name : List ℕ) (es : List (Key × Span)) → AreOnce names → ((j : ℕ) (e : Key × Span) → slice_get es j ≡ Some e → EntryFits names texts c e)
    → pair_value (attributes_of names texts n es) name ≡ None → lookup (is_key n (place_of names name)) es ≡ None
none-kept names texts c n name es once fit none = by (position (bytes_eq name) names) refl
  where
    by : (o : Option ℕ) → position (bytes_eq name) names ≡ o → lookup (is_key n (unwrap_or o (length names))) es ≡ None
    by None e = none-new names texts c n (length names) es (omega arith) fit
    by (Some k) e = none-map (between texts) (lookup (is_key n k) es) (sym (value-is names texts n k name (is_key n k) (key-yes n k) (key-is n k) c es once (is-there names name k e).1 fit) ∙ none)

-- ---- what the addition of an attribute needs

pub on_err : {T E : Type 0} (r : Result T E) (P : Type 0) → P → OnErr r P
on_err (Ok x) P p = tt
on_err (Err e) P p = p

pub element-within : (nodes : List NodeData) (n : ℕ) → option_map is_element (slice_get nodes n) ≡ Some true → n < length nodes
element-within [] n e = cc
element-within (a ∷ nodes) zero e = omega arith
element-within (a ∷ nodes) (suc n) e = (let h = element-within nodes n e in omega arith)

pub attr-none : (names : List (List ℕ)) (texts : List ℕ) (es : List (Key × Span)) (is : List Item) (n : ℕ) (name : List ℕ) → option_map is_element (slice_get (nodes_from names texts es 0 is) n) ≡ Some true
    → option_and_then (attribute_in name) (slice_get (nodes_from names texts es 0 is) n) ≡ None → pair_value (attributes_of names texts n es) name ≡ None
attr-none names texts es is n name e none = by (slice_get is n) (subst (λ o. option_map is_element o ≡ Some true) at e) (subst (λ o. option_and_then (attribute_in name) o ≡ None) at none)
  where
    at : slice_get (nodes_from names texts es 0 is) n ≡ option_map (node_of names texts es n) (slice_get is n)
    at = get-nodes names texts es 0 is n ∙ ap (λ m. option_map (node_of names texts es m) (slice_get is n)) (zero-add n)

    by : (o : Option Item) → option_map is_element (option_map (node_of names texts es n) o) ≡ Some true → option_and_then (attribute_in name) (option_map (node_of names texts es n) o) ≡ None → pair_value (attributes_of names texts n es) name ≡ None
    by None e h = cc
    by (Some (item.Element k)) e h = h
    by (Some (item.Text s)) e h = cc

pub none-not : {A B : Type 0} (f : A → B) (o : Option A) (q : Option B) → option_map f o ≡ q → is_some o ≡ false → q ≡ None
none-not f None q e h = sym e
none-not f (Some x) q e h = cc

pub attr-added : (names : List (List ℕ)) (texts value name : List ℕ) (es : List (Key × Span)) (is : List Item) (n : ℕ) (span : Span) → IsUtf8 value → AreSoundItems names texts es is → between (texts ++ value) span ≡ value
    → nodes_from (with_name names name) (texts ++ value) (es ++ (record { node = n; name = place_of names name }, span) ∷ []) 0 is ≡ changed_at (attributed name value) (nodes_from names texts es 0 is) n (slice_get (nodes_from names texts es 0 is) n)
attr-added names texts value name es is n span u s b =
    nodes-with (with_name names name) (texts ++ value) es (record { node = n; name = place_of names name }, span) 0 n is (sym (zero-add n))
    ∙ rw (nodes-kept names (with_name names name) texts (texts ++ value) es is (grow-both names texts value name u) s, b, (place-name names name).0) refl

pub attr-kept : (names : List (List ℕ)) (texts value name : List ℕ) (es : List (Key × Span)) (is : List Item) → IsUtf8 value → AreSoundItems names texts es is → AreSoundItems (with_name names name) (texts ++ value) es is
attr-kept names texts value name es is u s = sound-grow names texts (with_name names name) (texts ++ value) (grow-both names texts value name u) es is s

pub attr-sound-with : (names : List (List ℕ)) (texts value name : List ℕ) (es : List (Key × Span)) (is : List Item) (n : ℕ) (span : Span) → IsUtf8 value → AreSoundItems names texts es is → n < length is → Fits (texts ++ value) span
    → AreSoundItems (with_name names name) (texts ++ value) (es ++ (record { node = n; name = place_of names name }, span) ∷ []) is
attr-sound-with names texts value name es is n span u s inside f = attr-sound (with_name names name) (texts ++ value) es is (record { node = n; name = place_of names name }, span) (attr-kept names texts value name es is u s) (record { node = inside; name = (place-name names name).1; value = f })
