-- Tables entry by entry.
use Rattle.std.proofs.Common.{◌≡◌, ◌<◌, ◌≤◌, ◌+◌, ℕ, List, [], ◌∷◌, ◌++◌, length, map, take, get_or, sym, ◌∙◌, ap, subst, arith}
use Rattle.std.proofs.lemmas.List.{get_or-map, length-map, map-append, take_more}
use Rattle.std.proofs.lemmas.List.Sorted.{IsNonDecreasingBy-from_default}
use Rattle.bk_num.specs.declared.ids.NodeId.{NodeId}
use Rattle.gen_text.specs.Table.{Ascend}
use Rattle.gen_text.specs.declared.table.Entry.{Entry}
use Rattle.refs.specs.Tables.{NodesAscend}

-- one more entry
pub entry_more : (f : NodeId → Entry) (nodes : List NodeId) (i : ℕ) (d : NodeId) (entries next : List Entry) (e : Entry) → i < length nodes → entries ≡ map f (take i nodes) → next ≡ entries ++ e ∷ [] → e ≡ f (get_or nodes i d) → next ≡ map f (take (i + 1) nodes)
entry_more f nodes i d entries next e h is pushed made =
    pushed ∙ (ap (λ (es : List Entry). es ++ e ∷ []) is
    ∙ (ap (λ (x : Entry). map f (take i nodes) ++ x ∷ []) made
    ∙ sym (ap (map f) (take_more nodes i d h) ∙ map-append f (take i nodes) (get_or nodes i d ∷ []))))

-- entries of nodes that ascend do too
pub entries_ascend : (f : NodeId → Entry) (nodes : List NodeId) → ((n : NodeId) → (f n).node ≡ n) → NodesAscend nodes → Ascend (map f nodes)
entries_ascend f nodes same up = IsNonDecreasingBy-from_default (λ (e : Entry). e.node.0) (map f nodes) (f none) rise
  where
    none : NodeId
    none = record { 0 = 0 }

    at : (i : ℕ) → i < length nodes → (get_or (map f nodes) i (f none)).node.0 ≡ (get_or nodes i none).0
    at i h = ap (λ (e : Entry). e.node.0) (get_or-map f nodes i none (f none) h) ∙ ap (λ (n : NodeId). n.0) (same (get_or nodes i none))

    rise : (i j : ℕ) → i ≤ j → j < length (map f nodes) → (get_or (map f nodes) i (f none)).node.0 ≤ (get_or (map f nodes) j (f none)).node.0
    rise i j low h =
        let within : j < length nodes = subst (λ n. j < n) (length-map nodes f) h in
        let a = at i (omega arith) in
        let b = at j within in
        let c = up i j none low within in
        omega arith
