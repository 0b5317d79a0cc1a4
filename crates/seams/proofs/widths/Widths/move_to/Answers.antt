use Rattle.std.proofs.Common.{◌≡◌, ℕ, ℤ, ◌∷◌, take, sym, ap, ◌∙◌, arith, to_z, of_z}
use Rattle.std.proofs.lemmas.Int.{ints}
use mir.Syntax.{w64}
use Rattle.boxes.specs.Tree.{Tree, open_before}
use Rattle.boxes.proofs.SpanLemmas.{chain_boxes}
use Rattle.boxes.proofs.TreeFacts.{around_there, around_opened, opens_once}
use Rattle.seams.specs.Widths.{widths_of}
use Rattle.seams.proofs.widths.Widths.move_to.Goals as goal

pub write_chain-count-requires-clause-number : goal.write_chain-count-requires-clause-number
write_chain-count-requires-clause-number c = around_there c.args.tree.now c.count-count.ensures.tree c.args.event c.in-Some.index c.requires.within (sym c.in-Some.ensures)

pub open_all-requires-clause-boxes : goal.open_all-requires-clause-boxes
open_all-requires-clause-boxes c = chain_boxes c.args.tree.now c.count-count.ensures.tree c.in-Some.index _ c.write_chain-count.ensures.chain

pub returns-in-Some : goal.returns-in-Some
returns-in-Some c =
    let t : Tree = c.args.tree.now in
    let exact : to_z w64 (of_z w64 c.args.measure) ≡ c.args.measure = omega (arith, ints) in
    let o = around_opened t.events c.args.event c.in-Some.index c.requires.within (sym c.in-Some.ensures) in
    let chain = c.write_chain-count.ensures.chain in
    let same : chain.0 ≡ o.0 = opens_once t c.count-count.ensures.tree chain.0 o.0 c.in-Some.index chain.1 o.1 in
    c.open_all.ensures ∙ ap (λ (z : ℤ). widths_of t z (take c.write_chain-count.result c.write_chain-count.new.chain)) exact
    ∙ ap (widths_of t c.args.measure) (chain.2 ∙ ap (λ (k : ℕ). c.in-Some.index ∷ open_before t.events k) same ∙ sym o.2)
