use Rattle.std.proofs.Common.{◌≡◌, ◌<◌, ◌≤◌, ◌+◌, ℕ, Option, None, Some, IfSome, ◌++◌, ◌∷◌, [], length, length-append, take, refl, ◌∙◌, ap, arith}
use Rattle.std.proofs.lemmas.List.{take-append-le}
use Rattle.std.proofs.Math.Seq.{take-length}
use Rattle.std.proofs.lemmas.Grind.{common_steps}
use Rattle.std.specs.Vec.{vec_len}
use Rattle.dom.specs.Nodes.{last_child_of, element_count}
use Rattle.dom.specs.Links.{child_row}
use Rattle.dom.specs.StoreFields.{made_of}
use Rattle.dom.specs.DomFields.{joined, node_of}
use Rattle.dom.proofs.DomLemmas.{parents_in, elements_in, sound-add, last-inside, length-joined, length-parents, nodes-added, reach-new}
use Rattle.dom.proofs.IdLemmas.{first-push, none-made}
use Rattle.dom.proofs.dom.Dom.add.Goals as goal

within : (n m : ℕ) (o : Option ℕ) → n ≤ m → IfSome o (λ l. l < n) → IfSome o (λ l. l < m)
within n m None h i = tt
within n m (Some l) h i = omega arith

pub child_row-row-requires-clause-last : goal.child_row-row-requires-clause-last
child_row-row-requires-clause-last c =
    let size = length-joined c.self.inside.rows.items c.self.inside.store c.self.invariant.rows.count in
    let last : c.unnamed-last.result ≡ last_child_of (parents_in c.self.inside.rows.items c.self.inside.store) c.args.parent.0 = c.unnamed-last.ensures ∙ rw (← c.self.view_is) at c.last_child.ensures in
    let few = c.requires.room.few in
    let all : length (parents_in c.self.inside.rows.items c.self.inside.store) ≤ 4294967295 = (let f = rw (← c.self.view_is) at c.requires.room.few in omega (arith, length-parents c.self.inside.rows.items c.self.inside.store c.self.invariant.rows.count)) in
    within (length (parents_in c.self.inside.rows.items c.self.inside.store)) 4294967295 c.unnamed-last.result all (last-inside (parents_in c.self.inside.rows.items c.self.inside.store) c.args.parent.0 c.unnamed-last.result last)

pub invariant_of-self-then-is_err-2 : goal.invariant_of-self-then-is_err-2
invariant_of-self-then-is_err-2 c =
    let size = length-joined c.self.inside.rows.items c.self.inside.store c.self.invariant.rows.count in
    let items : c.push.new.self.items ≡ c.self.inside.rows.items ++ c.child_row-row.result ∷ [] = grind (arith, common_steps) in
    let index : c.len-index.result ≡ length c.self.inside.rows.items = (let l = rw (← c.self.view_is) at c.len-index.ensures.len in omega arith) in
    let rows : c.truncate.new.self.items ≡ c.self.inside.rows.items = c.truncate.ensures.items ∙ ap (take c.len-index.result) items ∙ rw index (take-append-le (length c.self.inside.rows.items) c.self.inside.rows.items (c.child_row-row.result ∷ []) (omega arith) ∙ take-length c.self.inside.rows.items) in
    let whats : c.add.new.self ≡ c.self.inside.store = grind (arith, common_steps) in
    record { rows = rw (rows, whats) c.self.invariant.rows; firsts = λ id. rw (rows, whats) (c.self.invariant.firsts id) }

pub returns-then-is_err-2-clause-err : goal.returns-then-is_err-2-clause-err
returns-then-is_err-2-clause-err c =
    let size = length-joined c.self.inside.rows.items c.self.inside.store c.self.invariant.rows.count in
    let items : c.push.new.self.items ≡ c.self.inside.rows.items ++ c.child_row-row.result ∷ [] = grind (arith, common_steps) in
    let index : c.len-index.result ≡ length c.self.inside.rows.items = (let l = rw (← c.self.view_is) at c.len-index.ensures.len in omega arith) in
    let rows : c.truncate.new.self.items ≡ c.self.inside.rows.items = c.truncate.ensures.items ∙ ap (take c.len-index.result) items ∙ rw index (take-append-le (length c.self.inside.rows.items) c.self.inside.rows.items (c.child_row-row.result ∷ []) (omega arith) ∙ take-length c.self.inside.rows.items) in
    let whats : c.add.new.self ≡ c.self.inside.store = grind (arith, common_steps) in
    rw (← c.self.view_is, rows, whats) refl

pub link-requires-clause-parent : goal.link-requires-clause-parent
link-requires-clause-parent c =
    let size = length-joined c.self.inside.rows.items c.self.inside.store c.self.invariant.rows.count in
    let items : c.push.new.self.items ≡ c.self.inside.rows.items ++ c.child_row-row.result ∷ [] = grind (arith, common_steps) in
    let l = length-append c.self.inside.rows.items (c.child_row-row.result ∷ []) in
    let n = ap length items in
    let r = rw (← c.self.view_is) at c.requires.parent in
    let v = c.push.ensures.len in
    omega arith

pub link-requires-clause-last : goal.link-requires-clause-last
link-requires-clause-last c =
    let size = length-joined c.self.inside.rows.items c.self.inside.store c.self.invariant.rows.count in
    let last : c.unnamed-last.result ≡ last_child_of (parents_in c.self.inside.rows.items c.self.inside.store) c.args.parent.0 = c.unnamed-last.ensures ∙ rw (← c.self.view_is) at c.last_child.ensures in
    let all : length (parents_in c.self.inside.rows.items c.self.inside.store) ≤ vec_len c.push.new.self = omega (arith, length-parents c.self.inside.rows.items c.self.inside.store c.self.invariant.rows.count, c.push.ensures.len) in
    within (length (parents_in c.self.inside.rows.items c.self.inside.store)) (vec_len c.push.new.self) c.unnamed-last.result all (last-inside (parents_in c.self.inside.rows.items c.self.inside.store) c.args.parent.0 c.unnamed-last.result last)

pub invariant_of-self-2 : goal.invariant_of-self-2
invariant_of-self-2 c =
    let size = length-joined c.self.inside.rows.items c.self.inside.store c.self.invariant.rows.count in
    let last : c.unnamed-last.result ≡ last_child_of (parents_in c.self.inside.rows.items c.self.inside.store) c.args.parent.0 = c.unnamed-last.ensures ∙ rw (← c.self.view_is) at c.last_child.ensures in
    let items : c.push.new.self.items ≡ c.self.inside.rows.items ++ c.child_row-row.result ∷ [] = grind (arith, common_steps) in
    let index : c.len-index.result ≡ length c.self.inside.rows.items = (let l = rw (← c.self.view_is) at c.len-index.ensures.len in omega arith) in
    let whats : c.add.new.self ≡ c.self.inside.store ++ made_of c.args.what ∷ [] = grind (arith, common_steps) in
    let inside : c.args.parent.0 < length c.self.inside.rows.items = (let r = rw (← c.self.view_is) at c.requires.parent in omega arith) in
    let few : length c.self.inside.rows.items < 400000 = (let f = rw (← c.self.view_is) at c.requires.room.few in omega arith) in
    let before : c.element_count-before.result ≡ element_count (elements_in c.self.inside.rows.items c.self.inside.store) c.args.parent.0 = rw (← c.self.view_is) at c.element_count-before.ensures.count in
    let new = child_row c.args.parent.0 c.depth-depth.result c.unnamed-last.result c.element_count-before.result in
    let sound = sound-add c.self.inside.rows.items c.self.inside.store c.args.parent.0 c.unnamed-last.result c.count_after-elements.result new (made_of c.args.what) c.self.invariant.rows (record {
      inside = inside;
      few = few;
      element = rw (← c.self.view_is) at c.requires.element;
      last_is = last;
      count = c.count_after-elements.ensures ∙ rw (before, c.is_element.ensures) refl;
      deep = reach-new c.depth-depth.result (made_of c.args.what) (c.depth-depth.ensures.element c.requires.element) (rw (← c.depth-depth.ensures.depth) at c.requires.room.shallow);
      new_row = record { parent = refl; depth = ap (λ d. d + 1) (rw (← c.self.view_is) at c.depth-depth.ensures.depth); first = refl; last = refl; next = refl; prev = refl; before = before; elements = refl };
    }) in
    record {
      rows = rw (c.link.ensures, items, c.child_row-row.ensures, index, whats) sound;
      firsts = λ id. rw (c.link.ensures, items, whats, nodes-added c.self.inside.rows.items c.self.inside.store c.args.parent.0 c.unnamed-last.result c.len-index.result c.count_after-elements.result c.child_row-row.result (made_of c.args.what) c.self.invariant.rows.count)
          (first-push (joined c.self.inside.rows.items c.self.inside.store) (node_of c.child_row-row.result (made_of c.args.what)) c.self.invariant.rows.tree id (none-made c.args.what) _ (c.self.invariant.firsts id));
    }

pub returns-clause-ok : goal.returns-clause-ok
returns-clause-ok c =
    let size = length-joined c.self.inside.rows.items c.self.inside.store c.self.invariant.rows.count in
    let last : c.unnamed-last.result ≡ last_child_of (parents_in c.self.inside.rows.items c.self.inside.store) c.args.parent.0 = c.unnamed-last.ensures ∙ rw (← c.self.view_is) at c.last_child.ensures in
    let items : c.push.new.self.items ≡ c.self.inside.rows.items ++ c.child_row-row.result ∷ [] = grind (arith, common_steps) in
    let index : c.len-index.result ≡ length c.self.inside.rows.items = (let l = rw (← c.self.view_is) at c.len-index.ensures.len in omega arith) in
    let whats : c.add.new.self ≡ c.self.inside.store ++ made_of c.args.what ∷ [] = grind (arith, common_steps) in
    rw (← c.self.view_is, c.link.ensures, items, whats) (nodes-added c.self.inside.rows.items c.self.inside.store c.args.parent.0 c.unnamed-last.result c.len-index.result c.count_after-elements.result c.child_row-row.result (made_of c.args.what) c.self.invariant.rows.count
    ∙ rw c.child_row-row.ensures (ap (λ d. (joined c.self.inside.rows.items c.self.inside.store) ++ record { parent = Some c.args.parent.0; depth = d + 1; what = made_of c.args.what } ∷ []) (rw (← c.self.view_is) at c.depth-depth.ensures.depth)))
