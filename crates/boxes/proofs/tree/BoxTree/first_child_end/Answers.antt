use Rattle.std.proofs.Common.{◌≡◌, ◌<◌, ℕ, List, Some, None, length, map, slice_get, refl, subst, arith}
use Rattle.std.proofs.lemmas.List.{length-map}
use Rattle.std.proofs.lemmas.Option.{slice_get_read, slice_get_within}
use Rattle.boxes.specs.Chains.{first_child_end}
use Rattle.boxes.specs.Tree.{Tree}
use Rattle.boxes.specs.declared.place.Event.TheVariants.{Closes, Leaf}
use Rattle.boxes.specs.declared.tree.Row.{Row}
use Rattle.boxes.specs.declared.tree.BoxRow.{BoxRow}
use Rattle.boxes.proofs.ChainLemmas.{end_read, no_chain}
use Rattle.boxes.proofs.tree.BoxTree.first_child_end.Goals as goal

pub index-requires : goal.index-requires
index-requires c =
    let rows : List Row = c.self.inside.rows.items in
    let low : c.args.at < length rows = simp length-map at (rw (← c.self.view_is) at c.requires) in
    let row : slice_get rows c.args.at ≡ Some c.index-row.result.now = slice_get_read rows (length rows) c.args.at c.index-row.result.now refl low c.index-row.ensures in
    let top = c.self.invariant.chains.tops c.args.at c.in-Opens.field-0 c.index-row.result.now row c.in-Opens.is in
    let within = slice_get_within c.self.inside.boxes.items c.index-row.result.now.chain top.0 top.1 in omega arith

pub returns-in-Opens-clause-end : goal.returns-in-Opens-clause-end
returns-in-Opens-clause-end c =
    let rows : List Row = c.self.inside.rows.items in
    let boxes : List BoxRow = c.self.inside.boxes.items in
    let low : c.args.at < length rows = simp length-map at (rw (← c.self.view_is) at c.requires) in
    let row : slice_get rows c.args.at ≡ Some c.index-row.result.now = slice_get_read rows (length rows) c.args.at c.index-row.result.now refl low c.index-row.ensures in
    let top = c.self.invariant.chains.tops c.args.at c.in-Opens.field-0 c.index-row.result.now row c.in-Opens.is in
    let within = slice_get_within boxes c.index-row.result.now.chain top.0 top.1 in
    let there : slice_get boxes c.index-row.result.now.chain ≡ Some c.index.result.now = slice_get_read boxes (length boxes) c.index-row.result.now.chain c.index.result.now refl within c.index.ensures in
    subst (λ (t : Tree). Some c.index.result.now.end ≡ first_child_end t.events c.args.at) c.self.view_is
    (end_read rows boxes c.args.at c.in-Opens.field-0 c.index-row.result.now c.index.result.now c.self.invariant.chains row c.in-Opens.is there).0

pub returns-in-Opens-clause-there : goal.returns-in-Opens-clause-there
returns-in-Opens-clause-there c =
    let rows : List Row = c.self.inside.rows.items in
    let boxes : List BoxRow = c.self.inside.boxes.items in
    let low : c.args.at < length rows = simp length-map at (rw (← c.self.view_is) at c.requires) in
    let row : slice_get rows c.args.at ≡ Some c.index-row.result.now = slice_get_read rows (length rows) c.args.at c.index-row.result.now refl low c.index-row.ensures in
    let top = c.self.invariant.chains.tops c.args.at c.in-Opens.field-0 c.index-row.result.now row c.in-Opens.is in
    let within = slice_get_within boxes c.index-row.result.now.chain top.0 top.1 in
    let there : slice_get boxes c.index-row.result.now.chain ≡ Some c.index.result.now = slice_get_read boxes (length boxes) c.index-row.result.now.chain c.index.result.now refl within c.index.ensures in
    let less = (end_read rows boxes c.args.at c.in-Opens.field-0 c.index-row.result.now c.index.result.now c.self.invariant.chains row c.in-Opens.is there).1 in
    let size : length (map (λ (b : BoxRow). b.props) boxes) ≡ length boxes = rw length-map refl in
    let all : c.index.result.now.end < length (map (λ (b : BoxRow). b.props) boxes) = omega arith in
    λ x e. subst (λ (n : ℕ). n < length c.args.self.now.boxes) (let p : Some c.index.result.now.end ≡ Some x = e in cc)
    (subst (λ (t : Tree). c.index.result.now.end < length t.boxes) c.self.view_is all)

pub returns-in-Closes-clause-end : goal.returns-in-Closes-clause-end
returns-in-Closes-clause-end c =
    let rows : List Row = c.self.inside.rows.items in
    let low : c.args.at < length rows = simp length-map at (rw (← c.self.view_is) at c.requires) in
    let row : slice_get rows c.args.at ≡ Some c.index-row.result.now = slice_get_read rows (length rows) c.args.at c.index-row.result.now refl low c.index-row.ensures in
    subst (λ (t : Tree). None ≡ first_child_end t.events c.args.at) c.self.view_is (no_chain rows c.args.at c.index-row.result.now (Closes c.in-Closes.field-0) row c.in-Closes.is refl)

pub returns-in-Leaf-clause-end : goal.returns-in-Leaf-clause-end
returns-in-Leaf-clause-end c =
    let rows : List Row = c.self.inside.rows.items in
    let low : c.args.at < length rows = simp length-map at (rw (← c.self.view_is) at c.requires) in
    let row : slice_get rows c.args.at ≡ Some c.index-row.result.now = slice_get_read rows (length rows) c.args.at c.index-row.result.now refl low c.index-row.ensures in
    subst (λ (t : Tree). None ≡ first_child_end t.events c.args.at) c.self.view_is (no_chain rows c.args.at c.index-row.result.now (Leaf c.in-Leaf.field-0) row c.in-Leaf.is refl)
