-- The nodes of a text that is read are a tree.
use Rattle.std.proofs.Common.{◌≡◌, ◌&&◌, ℕ, ◌+◌, ◌-◌, ◌<◌, ◌≤◌, Bool, true, false, nat_le, cond, List, [], ◌∷◌, ◌++◌, Option, None, Some, Ok, Err, IfOk, is_some, length, map, take, slice_get, if◌then◌else◌, refl, sym, ◌∙◌, ap, subst, arith}
use Rattle.std.proofs.lemmas.Bool.Decides.{nat_tests}
use Rattle.bk_num.specs.declared.ids.NodeId.{NodeId}
use Rattle.bk_num.specs.Limits.{most_nodes}
use Rattle.dom.specs.Nodes.{Node, NodeData, Element, Text, IsTree, child_of, depth_at, depth_of, is_element, is_element_at, is_element_node, attribute_at, changed_at, with_attribute}
use Rattle.dom.specs.Answers.{is_below_all}
use Rattle.dom.specs.declared.dom.DomErr.TheVariants.{Nodes, Depth}
use Rattle.dom.proofs.DomLemmas.{reach-new, sound-root, tree-push}
use Rattle.dom.proofs.ShapeLemmas.{shape, shape-with, tree-same}
use Rattle.dom.proofs.WalkLemmas.{root-element}
use Rattle.html_tok.specs.Tags.{attributes_of}
use Rattle.html_tree.specs.Built.{AreElements}
use Rattle.html_tree.specs.Order.{TextsAreTrees}
use Rattle.html_tree.specs.Texts.{name_of, text_of}
use Rattle.html_tree.specs.Tree.{State, current, is_text_under, last_of, longer, appended, add_text, put, put_all, opened_after, add_element, begun}
use Rattle.html_tree.proofs.BuildLemmas.{current-element, element-is, element-within, elements-grow, end-element, opened-elements, put_all-element, set-element}
use Rattle.html_tree.proofs.OpenedLemmas.{elements-take}
use Rattle.html_tree.proofs.OrderLemmas.{view-change}
use Rattle.html_tree.proofs.StepLemmas.{keeps-tree}

-- the nodes are a tree, of which the open ones are elements
record IsStanding (s : State) : Type 0 where
  tree : IsTree s.nodes
  elements : AreElements s.nodes s.opened

-- no element is deeper than 200
shallow : (nodes : List Node) (p : ℕ) → IsTree nodes → is_element_at nodes p ≡ true → depth_at nodes p ≤ 200
shallow nodes p t h =
    let (x, e) = element-is nodes p h in
    let element : is_element x.what ≡ true = sym (ap is_element_node e) ∙ h in
    let deep : x.depth + cond true 1 0 ≤ 201 = subst (λ (b : Bool). x.depth + cond b 1 0 ≤ 201) element (t.deep p x e) in
    let depth : depth_at nodes p ≡ x.depth = ap depth_of e in
    omega (arith, deep, depth)

-- a new child of the current element
push : (s : State) (what : NodeData) → IsStanding s → nat_le most_nodes (length s.nodes) ≡ false → is_below_all (is_element what) (depth_at s.nodes (current s.opened)) ≡ false → IsTree (s.nodes ++ child_of s.nodes (current s.opened) what ∷ [])
push s what h few room =
    let element = current-element s.nodes s.opened (root-element s.nodes h.tree) h.elements in
    let less : length s.nodes < 400000 = grind (arith, nat_tests) in
    tree-push s.nodes (current s.opened) (child_of s.nodes (current s.opened) what) h.tree (element-within s.nodes (current s.opened) element) less element refl refl (reach-new (depth_at s.nodes (current s.opened)) what (shallow s.nodes (current s.opened) h.tree element) room)

-- ---- other attributes and longer texts

shape-put : (n : ℕ) (nodes : List Node) (a : List ℕ × List ℕ) → map shape nodes ≡ map shape (put n nodes a)
shape-put n nodes a = by (is_some (attribute_at nodes n (name_of a.0)))
  where
    by : (b : Bool) → map shape nodes ≡ map shape (if b then nodes else with_attribute nodes n (name_of a.0) (text_of true a.1))
    by true = refl
    by false = shape-with nodes n (name_of a.0) (text_of true a.1)

shape-put_all : (n : ℕ) (attrs : List (List ℕ × List ℕ)) (nodes : List Node) → map shape nodes ≡ map shape (put_all n attrs nodes)
shape-put_all n [] nodes = refl
shape-put_all n (a ∷ attrs) nodes = shape-put n nodes a ∙ shape-put_all n attrs (put n nodes a)

longer-element : (more : List ℕ) (what : NodeData) → is_element (longer more what) ≡ is_element what
longer-element more (Element name attrs) = refl
longer-element more (Text bytes) = refl

longer-shape : (more : List ℕ) (n : Node) → shape (record n { what = longer more n.what }) ≡ shape n
longer-shape more n = ap (λ (b : Bool). record { parent = n.parent; depth = n.depth; element = b }) (longer-element more n.what)

appended-element : (nodes : List Node) (more : List ℕ) (m : ℕ) → is_element_at (appended nodes more) m ≡ is_element_at nodes m
appended-element nodes more m = by (last_of nodes) refl
  where
    by : (o : Option Node) → last_of nodes ≡ o → is_element_at (changed_at (λ n. record n { what = longer more n.what }) nodes (length nodes - 1) o) m ≡ is_element_at nodes m
    by None e = refl
    by (Some a) e = set-element nodes (length nodes - 1) m a (record a { what = longer more a.what }) e (longer-element more a.what)

-- ---- tokens

stands-taken : (s : State) (n : ℕ) → IsStanding s → IsStanding (record s { opened = take n s.opened })
stands-taken s n h = record { tree = h.tree; elements = elements-take s.nodes s.opened n h.elements }

stands-named : (attrs : List (List ℕ × List ℕ)) (s : State) → IsStanding s → IsStanding (record s { nodes = put_all 0 attrs s.nodes })
stands-named attrs s h = record {
  tree = tree-same s.nodes (put_all 0 attrs s.nodes) (shape-put_all 0 attrs s.nodes) h.tree;
  elements = λ k o g. put_all-element 0 attrs s.nodes o.0 ∙ h.elements k o g;
}

stands-text : (bytes : List ℕ) (s : State) → IsStanding s → IfOk (add_text bytes s) IsStanding
stands-text [] s h = h
stands-text (b ∷ bs) s h = by (is_text_under (current s.opened) (last_of s.nodes)) (nat_le most_nodes (length s.nodes)) refl
  where
    by : (c d : Bool) → nat_le most_nodes (length s.nodes) ≡ d → IfOk (if c then Ok (record s { nodes = appended s.nodes (b ∷ bs) }) else if d then Err Nodes else Ok (record s { nodes = s.nodes ++ child_of s.nodes (current s.opened) (Text (b ∷ bs)) ∷ [] })) IsStanding
    by true d e = record {
      tree = tree-same s.nodes (appended s.nodes (b ∷ bs)) (view-change shape (λ n. record n { what = longer (b ∷ bs) n.what }) s.nodes (length s.nodes - 1) (longer-shape (b ∷ bs))) h.tree;
      elements = λ k o g. appended-element s.nodes (b ∷ bs) o.0 ∙ h.elements k o g;
    }
    by false true e = tt
    by false false e = record {
      tree = push s (Text (b ∷ bs)) h e (none (nat_le 200 (depth_at s.nodes (current s.opened))));
      elements = elements-grow s.nodes (child_of s.nodes (current s.opened) (Text (b ∷ bs)) ∷ []) s.opened h.elements;
    }
      where
        none : (c : Bool) → (c && false) ≡ false
        none true = refl
        none false = refl

stands-element : (name attrs : List ℕ) (s : State) → IsStanding s → IfOk (add_element name attrs s) IsStanding
stands-element name attrs s h = by (nat_le most_nodes (length s.nodes)) (is_below_all true (depth_at s.nodes (current s.opened))) refl refl
  where
    by : (a b : Bool) → nat_le most_nodes (length s.nodes) ≡ a → is_below_all true (depth_at s.nodes (current s.opened)) ≡ b → IfOk (if a then Err Nodes else if b then Err Depth else Ok (record {
      nodes = put_all (length s.nodes) (attributes_of attrs) (s.nodes ++ child_of s.nodes (current s.opened) (Element name []) ∷ []);
      opened = opened_after name (length s.nodes) s.opened;
    })) IsStanding
    by true b e f = tt
    by false true e f = tt
    by false false e f =
        let grown : List Node = s.nodes ++ child_of s.nodes (current s.opened) (Element name []) ∷ [] in
        let inner = opened-elements grown s.opened (length s.nodes) name (elements-grow s.nodes (child_of s.nodes (current s.opened) (Element name []) ∷ []) s.opened h.elements) (end-element s.nodes (current s.opened) name) in
        record {
          tree = tree-same grown (put_all (length s.nodes) (attributes_of attrs) grown) (shape-put_all (length s.nodes) (attributes_of attrs) grown) (push s (Element name []) h e f);
          elements = λ k o g. put_all-element (length s.nodes) (attributes_of attrs) grown o.0 ∙ inner k o g;
        }

begun-stands : IsStanding begun
begun-stands = record { tree = sound-root.tree; elements = λ k o g. absurd (none k o g) }
  where
    none : (k : ℕ) (o : NodeId) → slice_get begun.opened k ≡ Some o → ⊥
    none k o g = cc

pub texts-stand : TextsAreTrees
texts-stand bytes nodes h = let (s, same, is) = keeps-tree IsStanding stands-taken stands-named stands-text stands-element begun-stands bytes nodes h in subst (λ (ns : List Node). IsTree ns) same is.tree
