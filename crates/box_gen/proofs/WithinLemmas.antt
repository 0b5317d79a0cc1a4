-- The elements that begin in a main tree are nodes of the document.
use Rattle.std.proofs.Common.{ℕ, zero, suc, ◌+◌, ◌-◌, ◌<◌, ◌≤◌, Bool, true, false, cond, not, List, [], ◌∷◌, Option, length, sym, subst, arith}
use Rattle.std.specs.List.{All}
use Rattle.std.proofs.lemmas.List.{length-map}
use Rattle.std.proofs.lemmas.List.Elements.{All-append, All-cons, All-filter, All-head, All-nil, All-tail}
use Rattle.boxes.specs.declared.flow.Start.{Start}
use Rattle.dom.specs.Nodes.{IsTree, Node, is_at, parents_of}
use Rattle.dom.specs.Walk.{children_from, children_of}
use Rattle.box_gen.specs.Flow.{built_of, own_starts}
use Rattle.box_gen.specs.Sources.{AreWithin}
use Rattle.box_gen.specs.Trees.{Source, below, side_by_side, Role, text, hidden, inline, block, note, is_note_element, role_of}
use Rattle.box_gen.proofs.ElementLemmas.{elements_in, main-elements, node_elements, nodes_in}

IsBelow : ℕ → List ℕ → Type 0
IsBelow m ns = All (λ n. n < m) ns

children-below : (p : ℕ) (qs : List (Option ℕ)) (k m : ℕ) → k + length qs ≤ m → IsBelow m (children_from p qs k)
unfolding IsBelow
children-below p [] k m l = All-nil (λ n. n < m)
children-below p (q ∷ qs) k m l = by (is_at p q) (children-below p qs (k + 1) m (omega (arith, l)))
  where
    by : (b : Bool) → All (λ n. n < m) (children_from p qs (k + 1)) → All (λ n. n < m) (cond b (k ∷ children_from p qs (k + 1)) (children_from p qs (k + 1)))
    by true h = All-cons (λ n. n < m) k (children_from p qs (k + 1)) (omega (arith, l)) h
    by false h = h

elements-node : (m n : ℕ) (r : Role) (inside : List ℕ) → n < m → IsBelow m inside → IsBelow m (node_elements n r inside)
unfolding IsBelow
elements-node m n hidden inside l h = All-nil (λ n. n < m)
elements-node m n (text t) inside l h = All-nil (λ n. n < m)
elements-node m n (inline u) inside l h = All-cons (λ n. n < m) n inside l h
elements-node m n (block u) inside l h = All-cons (λ n. n < m) n inside l h
elements-node m n (note u) inside l h = All-cons (λ n. n < m) n [] l (All-nil (λ n. n < m))

elements-below : (src : Source) (ps : List (Option ℕ)) (m : ℕ) → length ps ≤ m → (d n : ℕ) → IsBelow m (elements_in src (below ps d n))
unfolding IsBelow elements_in
elements-below src ps m l zero n = All-nil (λ n. n < m)
elements-below src ps m l (suc d) n = all (children_of ps n) (children-below n ps 0 m (omega (arith, l))) (λ c. elements-below src ps m l d c)
  where
    all : (cs : List ℕ) → IsBelow m cs → ((c : ℕ) → IsBelow m (elements_in src (below ps d c))) → IsBelow m (elements_in src (side_by_side (below ps d) cs))
    all [] h k = All-nil (λ n. n < m)
    all (c ∷ cs) h k =
        All-append (λ n. n < m) (node_elements c (role_of src c) (elements_in src (below ps d c))) (elements_in src (side_by_side (below ps d) cs))
        (elements-node m c (role_of src c) (elements_in src (below ps d c)) (All-head (λ n. n < m) c cs h) (k c)) (all cs (All-tail (λ n. n < m) c cs h) k)

starts-below : (m : ℕ) (starts : List Start) → IsBelow m (nodes_in starts) → All (λ (a : Start). a.node.0 < m) starts
unfolding IsBelow
starts-below m [] h = All-nil (λ (a : Start). a.node.0 < m)
starts-below m (a ∷ starts) h = All-cons (λ (a : Start). a.node.0 < m) a starts (All-head (λ n. n < m) a.node.0 (nodes_in starts) h) (starts-below m starts (All-tail (λ n. n < m) a.node.0 (nodes_in starts) h))

-- the elements that begin in the main tree
pub starts-within : (src : Source) → IsTree src.nodes → AreWithin src.nodes (built_of src).starts
unfolding IsBelow elements_in
starts-within src t =
    let m : ℕ = length src.nodes in
    let ps : List (Option ℕ) = parents_of src.nodes in
    let size = length-map src.nodes (λ (n : Node). n.parent) in
    let some = t.some in
    let kids : List ℕ = elements_in src (below ps (m - 1) 0) in
    starts-below m (built_of src).starts (subst (IsBelow m) (sym (main-elements src))
    (All-append (λ n. n < m) (node_elements 0 (role_of src 0) kids) [] (elements-node m 0 (role_of src 0) kids (omega (arith, some)) (elements-below src ps m (omega (arith, size)) (m - 1) 0)) (All-nil (λ n. n < m))))

-- those that aren't notes
pub own-within : (src : Source) (nodes : List Node) (starts : List Start) → AreWithin nodes starts → AreWithin nodes (own_starts src starts)
own-within src nodes starts h = All-filter (λ (a : Start). not (is_note_element src a.node.0)) (λ (a : Start). a.node.0 < length nodes) starts h
