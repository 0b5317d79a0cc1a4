-- A builder's nodes grow at their end, and what was there stays.
use Rattle.std.proofs.Common.{◌≡◌, ℕ, suc, zero, ◌+◌, ◌-◌, ◌<◌, Bool, true, false, List, [], ◌∷◌, ◌++◌, Option, None, Some, Result, Ok, Err, OnOk, IfErr, fold, is_some, unwrap_or, length, length-append, take, slice_get, slice_set, if◌then◌else◌, refl, sym, ◌∙◌, ap, subst, arith, append-nil, ◌==◌, codes}
use Rattle.std.proofs.lemmas.Option.{slice_get_within}
use Rattle.std.specs.Str.{bytes_eq}
use Rattle.bk_num.specs.Names.{has_name}
use Rattle.bk_num.specs.declared.ids.NodeId.{NodeId}
use Rattle.bk_num.proofs.ListLemmas.{get-keep, get-end, length-slice_set}
use Rattle.dom.specs.Nodes.{Node, Element, Text, child_of, is_element_at, is_element_node, is_element, part_of, attributed, changed_at, with_attribute, attribute_at, depth_at}
use Rattle.dom.specs.declared.dom.DomErr.{DomErr}
use Rattle.dom.specs.declared.dom.DomErr.TheVariants.{Nodes, Depth, NoMemory}
use Rattle.dom.proofs.ShapeLemmas.{attributed-element}
use Rattle.html_tree.specs.Rules.{Rule, rules, names_tag, void_names}
use Rattle.html_tree.specs.Texts.{name_of, text_of}
use Rattle.html_tree.specs.Tree.{State, name_in, kept, closed_by, after_rule, current, number_of, is_text_under, last_of, longer, appended, new_text, add_text, put, put_all, opened_after, add_element, after_start}
use Rattle.html_tree.specs.Built.{waiting, AreElements, Answers}
use Rattle.html_tree.proofs.OpenedLemmas.{elements-take}

-- an element is a node that is there
pub element-is : (nodes : List Node) (m : ℕ) → is_element_at nodes m ≡ true → (n : Node) × (slice_get nodes m ≡ Some n)
element-is nodes m h = by (slice_get nodes m) refl h
  where
    by : (o : Option Node) → slice_get nodes m ≡ o → is_element_node o ≡ true → (n : Node) × (slice_get nodes m ≡ Some n)
    by None e g = cc
    by (Some n) e g = (n, e)

pub element-within : (nodes : List Node) (m : ℕ) → is_element_at nodes m ≡ true → m < length nodes
element-within nodes m h = let w = element-is nodes m h in slice_get_within nodes m w.0 w.1

pub grow-get : (nodes more : List Node) (m : ℕ) → is_element_at nodes m ≡ true → slice_get (nodes ++ more) m ≡ slice_get nodes m
grow-get nodes more m h = let w = element-is nodes m h in get-keep nodes more m w.0 w.1 ∙ sym w.1

pub grow-element : (nodes more : List Node) (m : ℕ) → is_element_at nodes m ≡ true → is_element_at (nodes ++ more) m ≡ true
grow-element nodes more m h = ap is_element_node (grow-get nodes more m h) ∙ h

pub elements-grow : (nodes more : List Node) (opened : List NodeId) → AreElements nodes opened → AreElements (nodes ++ more) opened
elements-grow nodes more opened h k o g = grow-element nodes more o.0 (h k o g)

pub name-grow : (nodes more : List Node) (opened : List NodeId) (n : ℕ) → AreElements nodes opened → name_in (nodes ++ more) (slice_get opened n) ≡ name_in nodes (slice_get opened n)
name-grow nodes more opened n h = by (slice_get opened n) refl
  where
    by : (o : Option NodeId) → slice_get opened n ≡ o → name_in (nodes ++ more) o ≡ name_in nodes o
    by None e = refl
    by (Some o) e = ap (λ x. unwrap_or (part_of Rattle.dom.specs.Nodes.name_in x) []) (grow-get nodes more o.0 (h n o e))

kept-grow : (closes scope : List ℕ → Bool) (nodes more : List Node) (opened : List NodeId) (n : ℕ) → AreElements nodes opened → kept closes scope (nodes ++ more) opened n ≡ kept closes scope nodes opened n
kept-grow closes scope nodes more opened zero h = refl
kept-grow closes scope nodes more opened (suc n) h = rw (name-grow nodes more opened n h, kept-grow closes scope nodes more opened n h) refl

pub closed-grow : (closes scope : List ℕ → Bool) (nodes more : List Node) (opened : List NodeId) → AreElements nodes opened → closed_by closes scope (nodes ++ more) opened ≡ closed_by closes scope nodes opened
closed-grow closes scope nodes more opened h = ap (λ o. take (unwrap_or o (length opened)) opened) (kept-grow closes scope nodes more opened (length opened) h)

elements-rule : (name : List ℕ) (nodes : List Node) (opened : List NodeId) (r : Rule) → AreElements nodes opened → AreElements nodes (after_rule name nodes opened r)
elements-rule name nodes opened r h = by (names_tag r name)
  where
    by : (b : Bool) → AreElements nodes (if b then closed_by (has_name r.closes) (has_name r.scope) nodes opened else opened)
    by true = elements-take nodes opened _ h
    by false = h

pub rules-grow : (name : List ℕ) (nodes more : List Node) (table : List Rule) (opened : List NodeId) → AreElements nodes opened → fold (after_rule name (nodes ++ more)) opened table ≡ fold (after_rule name nodes) opened table
rules-grow name nodes more [] opened h = refl
rules-grow name nodes more (r ∷ table) opened h =
    ap (λ o. fold (after_rule name (nodes ++ more)) o table) (by (names_tag r name)) ∙ rules-grow name nodes more table (after_rule name nodes opened r) (elements-rule name nodes opened r h)
  where
    by : (b : Bool) → (if b then closed_by (has_name r.closes) (has_name r.scope) (nodes ++ more) opened else opened) ≡ (if b then closed_by (has_name r.closes) (has_name r.scope) nodes opened else opened)
    by true = closed-grow (has_name r.closes) (has_name r.scope) nodes more opened h
    by false = refl

-- the current element is one
pub current-element : (nodes : List Node) (opened : List NodeId) → is_element_at nodes 0 ≡ true → AreElements nodes opened → is_element_at nodes (current opened) ≡ true
current-element nodes opened root h = by (slice_get opened (length opened - 1)) refl
  where
    by : (o : Option NodeId) → slice_get opened (length opened - 1) ≡ o → is_element_at nodes (number_of o) ≡ true
    by None e = root
    by (Some o) e = h (length opened - 1) o e

-- ---- attributes

pub set-element : (nodes : List Node) (n m : ℕ) (a y : Node) → slice_get nodes n ≡ Some a → is_element y.what ≡ is_element a.what → is_element_at (slice_set nodes n y) m ≡ is_element_at nodes m
set-element [] n m a y h e = refl
set-element (x ∷ nodes) zero zero a y h e = let s : x ≡ a = cc in e ∙ ap (λ (z : Node). is_element z.what) (sym s)
set-element (x ∷ nodes) zero (suc m) a y h e = refl
set-element (x ∷ nodes) (suc n) zero a y h e = refl
set-element (x ∷ nodes) (suc n) (suc m) a y h e = set-element nodes n m a y h e

with-element : (nodes : List Node) (n m : ℕ) (key value : List ℕ) → is_element_at (with_attribute nodes n key value) m ≡ is_element_at nodes m
with-element nodes n m key value = by (slice_get nodes n) refl
  where
    by : (o : Option Node) → slice_get nodes n ≡ o → is_element_at (changed_at (λ a. record a { what = attributed key value a.what }) nodes n o) m ≡ is_element_at nodes m
    by None e = refl
    by (Some a) e = set-element nodes n m a (record a { what = attributed key value a.what }) e (attributed-element key value a.what)

with-length : (nodes : List Node) (n : ℕ) (key value : List ℕ) → length (with_attribute nodes n key value) ≡ length nodes
with-length nodes n key value = by (slice_get nodes n)
  where
    by : (o : Option Node) → length (changed_at (λ a. record a { what = attributed key value a.what }) nodes n o) ≡ length nodes
    by None = refl
    by (Some a) = length-slice_set nodes n (record a { what = attributed key value a.what })

put-element : (n : ℕ) (nodes : List Node) (a : List ℕ × List ℕ) (m : ℕ) → is_element_at (put n nodes a) m ≡ is_element_at nodes m
put-element n nodes a m = by (is_some (attribute_at nodes n (name_of a.0)))
  where
    by : (b : Bool) → is_element_at (if b then nodes else with_attribute nodes n (name_of a.0) (text_of true a.1)) m ≡ is_element_at nodes m
    by true = refl
    by false = with-element nodes n m (name_of a.0) (text_of true a.1)

put-length : (n : ℕ) (nodes : List Node) (a : List ℕ × List ℕ) → length (put n nodes a) ≡ length nodes
put-length n nodes a = by (is_some (attribute_at nodes n (name_of a.0)))
  where
    by : (b : Bool) → length (if b then nodes else with_attribute nodes n (name_of a.0) (text_of true a.1)) ≡ length nodes
    by true = refl
    by false = with-length nodes n (name_of a.0) (text_of true a.1)

pub put_all-element : (n : ℕ) (attrs : List (List ℕ × List ℕ)) (nodes : List Node) (m : ℕ) → is_element_at (put_all n attrs nodes) m ≡ is_element_at nodes m
put_all-element n [] nodes m = refl
put_all-element n (a ∷ attrs) nodes m = put_all-element n attrs (put n nodes a) m ∙ put-element n nodes a m

pub put_all-length : (n : ℕ) (attrs : List (List ℕ × List ℕ)) (nodes : List Node) → length (put_all n attrs nodes) ≡ length nodes
put_all-length n [] nodes = refl
put_all-length n (a ∷ attrs) nodes = put_all-length n attrs (put n nodes a) ∙ put-length n nodes a

-- attributes of a node that is there leave what comes after the nodes
set-grow : (nodes more : List Node) (n : ℕ) (y : Node) → n < length nodes → slice_set (nodes ++ more) n y ≡ slice_set nodes n y ++ more
set-grow [] more n y h = absurd (omega arith)
set-grow (x ∷ nodes) more zero y h = refl
set-grow (x ∷ nodes) more (suc n) y h = ap (λ l. x ∷ l) (set-grow nodes more n y (omega arith))

put-grow : (n : ℕ) (nodes more : List Node) (a : List ℕ × List ℕ) → is_element_at nodes n ≡ true → put n (nodes ++ more) a ≡ put n nodes a ++ more
put-grow n nodes more a h = rw (grow-get nodes more n h) (by (is_some (attribute_at nodes n (name_of a.0))) (element-is nodes n h))
  where
    by : (b : Bool) → ((x : Node) × (slice_get nodes n ≡ Some x)) → (if b then nodes ++ more else changed_at (λ y. record y { what = attributed (name_of a.0) (text_of true a.1) y.what }) (nodes ++ more) n (slice_get nodes n)) ≡ (if b then nodes else with_attribute nodes n (name_of a.0) (text_of true a.1)) ++ more
    by true w = refl
    by false (x, e) = rw e (set-grow nodes more n (record x { what = attributed (name_of a.0) (text_of true a.1) x.what }) (slice_get_within nodes n x e))

pub put_all-grow : (n : ℕ) (attrs : List (List ℕ × List ℕ)) (nodes more : List Node) → is_element_at nodes n ≡ true → put_all n attrs (nodes ++ more) ≡ put_all n attrs nodes ++ more
put_all-grow n [] nodes more h = refl
put_all-grow n (a ∷ attrs) nodes more h = ap (put_all n attrs) (put-grow n nodes more a h) ∙ put_all-grow n attrs (put n nodes a) more (put-element n nodes a n ∙ h)

-- the text that waits, with other attributes before it
get-depth : (nodes : List Node) (n : ℕ) (y a : Node) (m : ℕ) → slice_get nodes n ≡ Some a → y.depth ≡ a.depth → depth_at (slice_set nodes n y) m ≡ depth_at nodes m
get-depth [] n y a m h e = refl
get-depth (x ∷ nodes) zero y a zero h e = let s : x ≡ a = cc in e ∙ ap (λ (z : Node). z.depth) (sym s)
get-depth (x ∷ nodes) zero y a (suc m) h e = refl
get-depth (x ∷ nodes) (suc n) y a zero h e = refl
get-depth (x ∷ nodes) (suc n) y a (suc m) h e = get-depth nodes n y a m h e

put-depth : (n : ℕ) (nodes : List Node) (a : List ℕ × List ℕ) (m : ℕ) → depth_at (put n nodes a) m ≡ depth_at nodes m
put-depth n nodes a m = by (is_some (attribute_at nodes n (name_of a.0))) (slice_get nodes n) refl
  where
    by : (b : Bool) (o : Option Node) → slice_get nodes n ≡ o → depth_at (if b then nodes else changed_at (λ y. record y { what = attributed (name_of a.0) (text_of true a.1) y.what }) nodes n o) m ≡ depth_at nodes m
    by true o e = refl
    by false None e = refl
    by false (Some x) e = get-depth nodes n (record x { what = attributed (name_of a.0) (text_of true a.1) x.what }) x m e refl

put_all-depth : (n : ℕ) (attrs : List (List ℕ × List ℕ)) (nodes : List Node) (m : ℕ) → depth_at (put_all n attrs nodes) m ≡ depth_at nodes m
put_all-depth n [] nodes m = refl
put_all-depth n (a ∷ attrs) nodes m = put_all-depth n attrs (put n nodes a) m ∙ put-depth n nodes a m

pub waiting-put : (n : ℕ) (attrs : List (List ℕ × List ℕ)) (nodes : List Node) (parent : ℕ) (bytes : List ℕ) → waiting (put_all n attrs nodes) parent bytes ≡ waiting nodes parent bytes
waiting-put n attrs nodes parent [] = refl
waiting-put n attrs nodes parent (b ∷ bs) = ap (λ d. record { parent = Some parent; depth = d + 1; what = Text (b ∷ bs) } ∷ []) (put_all-depth n attrs nodes parent)

-- ---- texts

set-end : (nodes : List Node) (x y : Node) → slice_set (nodes ++ x ∷ []) (length nodes) y ≡ nodes ++ y ∷ []
set-end [] x y = refl
set-end (n ∷ nodes) x y = ap (λ l. n ∷ l) (set-end nodes x y)

last-end : (nodes : List Node) (x : Node) → last_of (nodes ++ x ∷ []) ≡ Some x
last-end nodes x = let e : length (nodes ++ x ∷ []) - 1 ≡ length nodes = (let l = length-append nodes (x ∷ []) in omega arith) in ap (slice_get (nodes ++ x ∷ [])) e ∙ get-end nodes x

-- more of the text that waits
pub waiting-more : (nodes : List Node) (parent : ℕ) (bytes more : List ℕ) → 0 < length bytes → nodes ++ waiting nodes parent (bytes ++ more) ≡ appended (nodes ++ waiting nodes parent bytes) more
waiting-more nodes parent [] more h = absurd (omega arith)
waiting-more nodes parent (b ∷ bs) more h =
    let e : length (nodes ++ waiting nodes parent (b ∷ bs)) - 1 ≡ length nodes = (let l = length-append nodes (waiting nodes parent (b ∷ bs)) in omega arith) in
    sym (ap (changed_at (λ n. record n { what = longer more n.what }) (nodes ++ waiting nodes parent (b ∷ bs)) (length (nodes ++ waiting nodes parent (b ∷ bs)) - 1)) (last-end nodes (child_of nodes parent (Text (b ∷ bs))))
    ∙ ap (λ i. slice_set (nodes ++ waiting nodes parent (b ∷ bs)) i (child_of nodes parent (Text ((b ∷ bs) ++ more)))) e ∙ set-end nodes (child_of nodes parent (Text (b ∷ bs))) (child_of nodes parent (Text ((b ∷ bs) ++ more))))

-- the last node is a text of the current element where a text waits for it
pub waiting-under : (nodes : List Node) (parent : ℕ) (bytes : List ℕ) (now : ℕ) → 0 < length bytes → is_text_under now (last_of (nodes ++ waiting nodes parent bytes)) ≡ (parent == now)
waiting-under nodes parent [] now h = absurd (omega arith)
waiting-under nodes parent (b ∷ bs) now h = ap (is_text_under now) (last-end nodes (child_of nodes parent (Text (b ∷ bs))))

pub none-under : (nodes : List Node) (parent now : ℕ) (bytes : List ℕ) → length bytes ≡ 0 → is_element_at nodes (length nodes - 1) ≡ true → is_text_under now (last_of (nodes ++ waiting nodes parent bytes)) ≡ false
none-under nodes parent now (b ∷ bs) h e = absurd (omega arith)
none-under nodes parent now [] h e = ap (λ l. is_text_under now (last_of l)) (append-nil nodes) ∙ by (last_of nodes) e
  where
    by : (o : Option Node) → is_element_node o ≡ true → is_text_under now o ≡ false
    by None g = refl
    by (Some n) g = rw g refl

-- ---- answers

pub add-more : (bytes : List ℕ) (s : State) → 0 < length bytes → is_text_under (current s.opened) (last_of s.nodes) ≡ true → add_text bytes s ≡ Ok (record s { nodes = appended s.nodes bytes })
add-more [] s h e = absurd (omega arith)
add-more (b ∷ bs) s h e = rw e refl

pub add-new : (bytes : List ℕ) (s : State) → 0 < length bytes → is_text_under (current s.opened) (last_of s.nodes) ≡ false → add_text bytes s ≡ new_text (current s.opened) bytes s
add-new [] s h e = absurd (omega arith)
add-new (b ∷ bs) s h e = rw e refl

pub answers-ok : {B : Type 0} (r : Result B DomErr) (x new : State) → OnOk r (new ≡ x) → IfErr r (λ e. e ≡ NoMemory) → Answers (Ok x) r (λ _. new)
answers-ok (Ok b) x new h e = ap Ok (sym h)
answers-ok (Err Nodes) x new h e = cc
answers-ok (Err Depth) x new h e = cc
answers-ok (Err NoMemory) x new h e = tt

pub end-element : (nodes : List Node) (parent : ℕ) (name : List ℕ) → is_element_at (nodes ++ child_of nodes parent (Element name []) ∷ []) (length nodes) ≡ true
end-element nodes parent name = ap is_element_node (get-end nodes (child_of nodes parent (Element name [])))

pub elements-push : (nodes : List Node) (opened : List NodeId) (o : NodeId) → AreElements nodes opened → is_element_at nodes o.0 ≡ true → AreElements nodes (opened ++ o ∷ [])
elements-push nodes [] o h e zero x g = let s : o ≡ x = cc in subst (λ (y : NodeId). is_element_at nodes y.0 ≡ true) s e
elements-push nodes [] o h e (suc k) x g = cc
elements-push nodes (a ∷ opened) o h e zero x g = h zero x g
elements-push nodes (a ∷ opened) o h e (suc k) x g = elements-push nodes opened o (λ j y q. h (suc j) y q) e k x g

-- a new element with its attributes, after what was there
pub record IsGrown (nodes more : List Node) (parent : ℕ) (name : List ℕ) (attrs : List (List ℕ × List ℕ)) (new : List Node) : Type 0 where
  pub keeps : (m : ℕ) → is_element_at nodes m ≡ true → is_element_at new m ≡ true
  pub element : is_element_at new (length (nodes ++ more)) ≡ true
  pub size : length new ≡ length (nodes ++ more) + 1

pub grown-with : (nodes more : List Node) (parent : ℕ) (name : List ℕ) (attrs : List (List ℕ × List ℕ)) → IsGrown nodes more parent name attrs (put_all (length (nodes ++ more)) attrs ((nodes ++ more) ++ child_of (nodes ++ more) parent (Element name []) ∷ []))
grown-with nodes more parent name attrs = record {
  keeps = λ m h. put_all-element (length (nodes ++ more)) attrs ((nodes ++ more) ++ child_of (nodes ++ more) parent (Element name []) ∷ []) m ∙ grow-element (nodes ++ more) (child_of (nodes ++ more) parent (Element name []) ∷ []) m (grow-element nodes more m h);
  element = put_all-element (length (nodes ++ more)) attrs ((nodes ++ more) ++ child_of (nodes ++ more) parent (Element name []) ∷ []) (length (nodes ++ more)) ∙ end-element (nodes ++ more) parent name;
  size = put_all-length (length (nodes ++ more)) attrs ((nodes ++ more) ++ child_of (nodes ++ more) parent (Element name []) ∷ []) ∙ length-append (nodes ++ more) (child_of (nodes ++ more) parent (Element name []) ∷ []);
}

pub opened-elements : (nodes : List Node) (opened : List NodeId) (n : ℕ) (name : List ℕ) → AreElements nodes opened → is_element_at nodes n ≡ true → AreElements nodes (opened_after name n opened)
opened-elements nodes opened n name h e = by (has_name void_names name)
  where
    by : (b : Bool) → AreElements nodes (if b then opened else opened ++ record { 0 = n } ∷ [])
    by true = h
    by false = elements-push nodes opened (record { 0 = n }) h e

pub start-other : (name attrs : List ℕ) (s : State) → bytes_eq name (codes "html") ≡ false → after_start name attrs s ≡ add_element name attrs (record s { opened = fold (after_rule name s.nodes) s.opened rules })
start-other name attrs s h = rw h refl

pub answers-start : {B : Type 0} (name attrs : List ℕ) (s closed : State) (r : Result B DomErr) (f : B → State) → bytes_eq name (codes "html") ≡ false → closed ≡ record s { opened = fold (after_rule name s.nodes) s.opened rules } → Answers (add_element name attrs closed) r f → Answers (after_start name attrs s) r f
answers-start name attrs s closed r f h e a = subst (λ x. Answers x r f) (sym (start-other name attrs s h)) (subst (λ x. Answers (add_element name attrs x) r f) e a)
