use Rattle.std.proofs.Common.{◌≡◌, ◌∙◌, ℕ, List, [], ◌∷◌, None, sym, ap, refl}
use Rattle.boxes.specs.Tree.{Tree, first_of, open_before}
use Rattle.boxes.proofs.SpanLemmas.{chain_boxes}
use Rattle.boxes.proofs.TreeFacts.{around_there, around_opened, opens_once}
use Rattle.paint.specs.Opens.{opens_of}
use Rattle.paint.proofs.OpenLemmas.{bounded_none}
use Rattle.paint.proofs.walk.begin.Goals as goal

pub write_chain-count-requires-clause-number : goal.write_chain-count-requires-clause-number
write_chain-count-requires-clause-number c = around_there c.args.tree.now c.count-count.ensures.tree c.args.event c.in-Some.index c.requires.within (sym c.in-Some.ensures)

pub open_all-requires-clause-boxes : goal.open_all-requires-clause-boxes
open_all-requires-clause-boxes c = chain_boxes c.args.tree.now c.count-count.ensures.tree c.in-Some.index _ c.write_chain-count.ensures.chain

none_first : (xs : List ℕ) → None ≡ first_of xs → xs ≡ []
none_first [] h = refl
none_first (x ∷ xs) h = absurd (cc)

pub returns-in-None : goal.returns-in-None
returns-in-None c =
    let t : Tree = c.args.tree.now in
    record {
      are = c.clear.ensures.items ∙ ap (opens_of t c.args.origin.now.width) (sym (none_first (open_before t.events c.args.event) c.in-None.ensures));
      bounded = bounded_none _ c.clear.ensures.items;
    }

pub returns-in_ok-open_all-in-Some : goal.returns-in_ok-open_all-in-Some
returns-in_ok-open_all-in-Some c =
    let t : Tree = c.args.tree.now in
    let o = around_opened t.events c.args.event c.in-Some.index c.requires.within (sym c.in-Some.ensures) in
    let chain = c.write_chain-count.ensures.chain in
    let same : chain.0 ≡ o.0 = opens_once t c.count-count.ensures.tree chain.0 o.0 c.in-Some.index chain.1 o.1 in
    record {
      are = c.in_ok-open_all-in-Some.ensures.are ∙ ap (opens_of t c.args.origin.now.width) (chain.2 ∙ ap (λ (k : ℕ). c.in-Some.index ∷ open_before t.events k) same ∙ sym o.2);
      bounded = c.in_ok-open_all-in-Some.ensures.bounded;
    }
