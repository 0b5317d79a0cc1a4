-- The elements that page references lead to.
use Rattle.std.proofs.Common.{◌≡◌, ◌∙◌, ℕ, ◌<◌, Bool, true, false, if◌then◌else◌, List, Option, Some, None, length, map, get_or, slice_get, sym, ap, subst}
use Rattle.std.proofs.lemmas.List.{get_or-map, length-map}
use Rattle.std.proofs.lemmas.Option.{get_or_from_slice_get, none-some, slice_get_within}
use Rattle.std.specs.List.{Contains}
use Rattle.bk_num.specs.declared.ids.NodeId.{NodeId}
use Rattle.dom.specs.Nodes.{Node}
use Rattle.dom.specs.Order.{IsFirstOf}
use Rattle.gen_text.specs.References.{AreTargets}
use Rattle.gen_text.specs.Target.{IsOfId, id_in, address_of, shown_only}
use Rattle.gen_text.proofs.TextLemmas.{has_within}
use Rattle.refs.proofs.LawLemmas.{ascend}
use Rattle.refs.specs.Tables.{NodesAscend}
use Rattle.style.specs.Nodes.{NodeStyles, is_shown_in}

found_within : (nodes : List Node) (rows : List NodeStyles) (id : List ℕ) (first : Option ℕ) (t : ℕ) → IsFirstOf nodes id first → Some t ≡ shown_only rows first → t < length nodes
found_within nodes rows id None t is same = absurd (none-some t (sym same))
found_within nodes rows id (Some n) t is same = by (is_shown_in (slice_get rows n)) same
  where
    by : (b : Bool) → Some t ≡ (if b then Some n else None) → t < length nodes
    by true e = let at : t ≡ n = cc in rw at (has_within nodes id n is.0)
    by false e = absurd (none-some t (sym e))

target_within : (nodes : List Node) (rows : List NodeStyles) (id : Option (List ℕ)) (t : ℕ) → IsOfId nodes rows id (Some t) → t < length nodes
target_within nodes rows None t is = absurd (none-some t (sym is))
target_within nodes rows (Some id) t (first, is, same) = found_within nodes rows id first t is same

-- each is an element of the document
pub targets_within : (nodes : List Node) (rows : List NodeStyles) (ns : List NodeId) (k : ℕ) (n : NodeId) → AreTargets nodes rows ns → slice_get ns k ≡ Some n → n.0 < length nodes
targets_within nodes rows ns k n are at =
    let less = slice_get_within ns k n at in
    let read = get_or_from_slice_get ns k n n at in
    let here : get_or (map (λ n. n.0) ns) k n.0 ≡ n.0 = get_or-map (λ (m : NodeId). m.0) ns k n n.0 less ∙ ap (λ (m : NodeId). m.0) read in
    let inside : Contains (map (λ n. n.0) ns) n.0 = (k, rw (length-map ns (λ (m : NodeId). m.0)) less, here) in
    let (i, below, (link, has, leads)) = (are.named n.0).0 inside in
    target_within nodes rows (id_in (address_of nodes i link)) n.0 leads

-- a list of them ascends
pub targets_ascend : (nodes : List Node) (rows : List NodeStyles) (ns ms : List NodeId) → AreTargets nodes rows ns → ms ≡ ns → NodesAscend ms
targets_ascend nodes rows ns ms are same = subst NodesAscend (sym same) (ascend ns are.rises)
