use Rattle.std.proofs.Common.{◌≡◌, ◌<◌, ◌+◌, ◌∙◌, ◌++◌, ◌∷◌, [], false, length, inl, inr, sym, ap, subst, arith}
use Rattle.std.proofs.lemmas.Bool.{cases_eq}
use Rattle.match_table.specs.Types.{AreFirsts}
use Rattle.match_table.proofs.TypeRanges.{AreKindsOf}
use Rattle.match_table.proofs.TypeLemmas.{kinds-none, kinds-more, first-is, firsts-none, firsts-push}
use Rattle.match_table.proofs.types.first_places.Goals as goal

pub loop-node-init : goal.loop-node-init
loop-node-init c = record {
  count = ap length c.new-places.ensures.items;
  firsts = subst (AreFirsts c.args.dom.now) (sym c.new-places.ensures.items) (firsts-none c.args.dom.now);
  kinds = subst (AreKindsOf c.args.dom.now (λ m. m < 0)) (sym c.new-kinds.ensures) (kinds-none c.args.dom.now (λ m. m < 0) (λ m k lt is. omega (arith, lt)));
}

pub loop-node-preserved : goal.loop-node-preserved
loop-node-preserved c =
    let items : c.push.new.self.items ≡ c.loop-node.places.items ++ record { first = c.in_ok-first.first; last = false } ∷ [] = c.in_ok-push.ensures.items in
    record {
      count = omega (arith, c.loop-node.invariant.count, c.in_ok-push.ensures.len);
      firsts = subst (AreFirsts c.args.dom.now) (sym items)
          (firsts-push c.args.dom.now c.loop-node.places.items (record { first = c.in_ok-first.first; last = false }) c.loop-node.node c.loop-node.invariant.count c.loop-node.invariant.firsts
          (c.in_ok-first.ensures.new ∙ first-is c.args.dom.now (λ m. m < c.loop-node.node) c.loop-node.kinds c.loop-node.node (λ m lt. lt) (λ m lt. lt) c.loop-node.invariant.kinds));
      kinds = subst (AreKindsOf c.args.dom.now (λ m. m < c.loop-node.node + 1)) (sym c.in_ok-first.ensures.kinds)
          (kinds-more c.args.dom.now (λ m. m < c.loop-node.node) (λ m. m < c.loop-node.node + 1) c.loop-node.kinds c.loop-node.node
          (λ m lt. elim (cases_eq m c.loop-node.node) [ inl same ↦ inr same | inr other ↦ inl (omega (arith, lt, other)) ])
          (λ m lt. omega (arith, lt)) (omega arith) c.loop-node.invariant.kinds);
    }

pub returns : goal.returns
returns c =
    let len = c.len-node-end.ensures.len in
    let test = c.loop-node-test.false in
    record {
      count = omega (arith, c.loop-node.invariant.count, len, test);
      firsts = c.loop-node.invariant.firsts;
    }
