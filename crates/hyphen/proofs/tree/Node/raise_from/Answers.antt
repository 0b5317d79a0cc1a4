use Rattle.std.proofs.Common.{◌≡◌, ◌-◌, ◌∙◌, ◌∷◌, ℕ, arith, ap, get_or, length, max, refl, sym}
use Rattle.std.proofs.lemmas.List.{get_or_default}
use Rattle.hyphen.specs.Pattern.{most}
use Rattle.hyphen.specs.Pieces.{branch_from}
use Rattle.hyphen.specs.Tree.{values_in}
use Rattle.hyphen.proofs.TreeLemmas.{raise_done, raise_more, raised_none, walk_more, walk_none}
use Rattle.hyphen.proofs.tree.Node.raise_from.Goals as goal

pub loop-end-init : goal.loop-end-init
loop-end-init c = record {
  len = refl;
  walk = walk_none c.args.self.now c.args.word.now c.args.at;
  greater = λ q inside. raised_none (branch_from (values_in c.args.self.now) c.args.word.now q c.args.at) c.args.at _;
}

pub loop-end-preserved : goal.loop-end-preserved
loop-end-preserved c =
    let letter : get_or c.args.word.now c.loop-end.end 0 ≡ c.index-word-end.result = get_or_default c.args.word.now c.loop-end.end 0 c.index-word-end.result (omega arith) ∙ sym c.index-word-end.is in
    let walk = walk_more c.args.self.now c.loop-end.node.now c.in-Some.child.now c.args.word.now c.args.at c.loop-end.end (omega arith) (omega arith) c.loop-end.invariant.walk (λ e q k. c.in-Some.ensures e q k ∙ ap (λ (x : ℕ). values_in c.loop-end.node.now e (x ∷ q) k) (sym letter)) in
    record {
      len = c.raise.ensures.len ∙ c.loop-end.invariant.len;
      walk = walk;
      greater = λ q inside. raise_more c.args.self.now c.in-Some.child.now c.args.word.now q c.args.at c.loop-end.end _ _ _ (omega arith) walk (c.loop-end.invariant.greater q inside) (c.raise.ensures.greater q (omega (arith, inside, c.loop-end.invariant.len)));
    }

pub returns-in-None-clause-greater : goal.returns-in-None-clause-greater
returns-in-None-clause-greater c = λ q inside.
    let letter : get_or c.args.word.now c.loop-end.end 0 ≡ c.index-word-end.result = get_or_default c.args.word.now c.loop-end.end 0 c.index-word-end.result (omega arith) ∙ sym c.index-word-end.is in
    raise_done c.args.self.now c.loop-end.node.now c.args.word.now q c.args.at c.loop-end.end _ _ (omega arith) (omega arith) c.loop-end.invariant.walk (λ e l k. ap (λ (x : ℕ). values_in c.loop-end.node.now e (x ∷ l) k) letter ∙ c.in-None.ensures e l k) (c.loop-end.invariant.greater q inside)

pub returns-clause-greater : goal.returns-clause-greater
returns-clause-greater c = λ q inside.
    let all : c.loop-end.end ≡ length c.args.word.now = omega arith in
    c.loop-end.invariant.greater q inside ∙ ap (λ (n : ℕ). max (get_or c.args.values.now.items q 0) (most (n - c.args.at) (branch_from (values_in c.args.self.now) c.args.word.now q c.args.at))) all
