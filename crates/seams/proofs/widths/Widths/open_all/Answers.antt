use Rattle.std.proofs.Common.{◌≡◌, ◌<◌, ℕ, suc, ◌-◌, ℤ, List, ◌∷◌, length, drop, get_or, sym, ap, ◌∙◌, arith, to_z, of_z}
use mir.Syntax.{w64}
use Rattle.std.proofs.Math.Seq.{drop-cons}
use Rattle.std.proofs.lemmas.List.{length-drop}
use Rattle.boxes.specs.Tree.{Tree}
use Rattle.seams.specs.Widths.{widths_of}
use Rattle.seams.proofs.WidthLemmas.{widths_size}
use Rattle.seams.proofs.widths.Widths.open_all.Goals as goal

pub open_box-requires-clause-room : goal.open_box-requires-clause-room
open_box-requires-clause-room c =
    let some = c.loop-at-test.true in
    let within = c.loop-at.invariant.within in
    let few = c.requires.few in
    let size = ap length c.loop-at.invariant.widths ∙ widths_size c.args.tree.now _ (drop c.loop-at.at c.args.chain.now) ∙ length-drop c.loop-at.at c.args.chain.now in
    omega arith

pub loop-at-preserved : goal.loop-at-preserved
loop-at-preserved c =
    let t : Tree = c.args.tree.now in
    let chain : List ℕ = c.args.chain.now in
    let m : ℤ = to_z w64 (of_z w64 c.args.measure) in
    let at : ℕ = c.loop-at.at - 1 in
    let low : at < length chain = omega arith in
    let next : suc at ≡ c.loop-at.at = omega arith in
    let all : drop at chain ≡ get_or chain at 0 ∷ drop c.loop-at.at chain = drop-cons chain at 0 low ∙ ap (λ (n : ℕ). get_or chain at 0 ∷ drop n chain) next in
    record {
      within = omega arith;
      widths = c.open_box.ensures (drop c.loop-at.at chain) c.loop-at.invariant.widths ∙ ap (widths_of t m) (sym all);
    }
