use Rattle.std.proofs.Common.{◌≡◌, ◌∙◌, ℕ, List, [], ◌∷◌, None, sym, ap, refl}
use Rattle.boxes.specs.Tree.{Tree, first_of, open_before}
use Rattle.boxes.proofs.TreeFacts.{around_there, around_opened, opens_once}
use Rattle.paint.proofs.gather.write_open.Goals as goal

pub write_chain-requires-clause-number : goal.write_chain-requires-clause-number
write_chain-requires-clause-number c = around_there c.args.tree.now c.count-count.ensures.tree c.args.event c.in-Some.index c.requires.within (sym c.in-Some.ensures)

none_first : (xs : List ℕ) → None ≡ first_of xs → [] ≡ xs
none_first [] h = refl
none_first (x ∷ xs) h = absurd (cc)

pub returns-in-None-clause-chain : goal.returns-in-None-clause-chain
returns-in-None-clause-chain c = none_first (open_before c.args.tree.now.events c.args.event) c.in-None.ensures

pub returns-in-Some-clause-chain : goal.returns-in-Some-clause-chain
returns-in-Some-clause-chain c =
    let t : Tree = c.args.tree.now in
    let o = around_opened t.events c.args.event c.in-Some.index c.requires.within (sym c.in-Some.ensures) in
    let chain = c.write_chain.ensures.chain in
    let same : chain.0 ≡ o.0 = opens_once t c.count-count.ensures.tree chain.0 o.0 c.in-Some.index chain.1 o.1 in
    chain.2 ∙ ap (λ (k : ℕ). c.in-Some.index ∷ open_before t.events k) same ∙ sym o.2
