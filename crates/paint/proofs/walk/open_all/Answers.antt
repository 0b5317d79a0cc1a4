use Rattle.std.proofs.Common.{◌≡◌, ◌<◌, ◌∙◌, ℕ, suc, ◌-◌, List, ◌∷◌, length, drop, get_or, sym, ap, arith}
use Rattle.std.proofs.Math.Seq.{drop-cons}
use Rattle.std.proofs.lemmas.List.{drop_all}
use Rattle.paint.specs.Opens.{opens_of}
use Rattle.paint.specs.declared.opens.PlacedBox.{PlacedBox}
use Rattle.paint.proofs.OpenLemmas.{bounded_none}
use Rattle.paint.proofs.walk.open_all.Goals as goal

pub loop-at-init : goal.loop-at-init
loop-at-init c =
    let none = c.requires.none in
    record {
      within = omega arith;
      opens = none ∙ ap (opens_of c.args.tree.now c.args.origin.now.width) (sym (drop_all (length c.args.chain.now) c.args.chain.now (omega arith)));
      count = (let size = ap (λ (l : List PlacedBox). length l) none in omega arith);
      bounded = bounded_none _ none;
    }

pub loop-at-preserved : goal.loop-at-preserved
loop-at-preserved c =
    let t = c.args.tree.now in
    let chain : List ℕ = c.args.chain.now in
    let at : ℕ = c.loop-at.at - 1 in
    let within = c.loop-at.invariant.within in
    let low : at < length chain = omega arith in
    let next : suc at ≡ c.loop-at.at = omega arith in
    let all : drop at chain ≡ get_or chain at 0 ∷ drop c.loop-at.at chain = drop-cons chain at 0 low ∙ ap (λ (n : ℕ). get_or chain at 0 ∷ drop n chain) next in
    record {
      within = omega arith;
      opens = c.in_ok-open_box.ensures.are (drop c.loop-at.at chain) c.loop-at.invariant.opens ∙ ap (opens_of t c.args.origin.now.width) (sym all);
      count = (let more = c.in_ok-open_box.ensures.count in let before = c.loop-at.invariant.count in omega arith);
      bounded = c.in_ok-open_box.ensures.bounded;
    }
