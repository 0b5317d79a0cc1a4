use Rattle.std.proofs.Common.{◌≡◌, ◌-◌, true, false, unwrap_or, sym, ◌∙◌, ap, arith, []}
use Rattle.bk_num.specs.Names.{has_name}
use Rattle.dom.specs.Nodes.{name_at}
use Rattle.html_tree.specs.Rules.{texts}
use Rattle.html_tree.proofs.OpenedLemmas.{kept-at, closed-take, closed-none, elements-take}
use Rattle.html_tree.proofs.opened.close_by.Goals as goal

pub returns-then-has-clause-closed : goal.returns-then-has-clause-closed
returns-then-has-clause-closed c =
    let k = kept-at (has_name (texts c.args.closes.now)) (has_name (texts c.args.scope.now)) c.args.dom.now c.loop-at.opened.items c.loop-at.at c.index.result.now c.loop-at-test.true c.loop-at.invariant.within c.index.ensures in
    let h : has_name (texts c.args.closes.now) (unwrap_or (name_at c.args.dom.now c.index.result.now.0) []) ≡ true = ap (has_name (texts c.args.closes.now)) (sym c.name_of_element-name.ensures) ∙ sym c.has.ensures ∙ c.if-has.true in
    rw (← c.loop-at.invariant.same, c.truncate.ensures.items) (closed-take (has_name (texts c.args.closes.now)) (has_name (texts c.args.scope.now)) c.args.dom.now c.loop-at.opened.items (c.loop-at.at - 1) (sym c.loop-at.invariant.rest ∙ rw h at k))

pub returns-then-has-clause-elements : goal.returns-then-has-clause-elements
returns-then-has-clause-elements c = rw (c.truncate.ensures.items, c.loop-at.invariant.same) (elements-take c.args.dom.now c.args.opened.now.items (c.loop-at.at - 1) c.requires)

pub returns-then-has-2-clause-closed : goal.returns-then-has-2-clause-closed
returns-then-has-2-clause-closed c =
    let k = kept-at (has_name (texts c.args.closes.now)) (has_name (texts c.args.scope.now)) c.args.dom.now c.loop-at.opened.items c.loop-at.at c.index.result.now c.loop-at-test.true c.loop-at.invariant.within c.index.ensures in
    let h : has_name (texts c.args.closes.now) (unwrap_or (name_at c.args.dom.now c.index.result.now.0) []) ≡ false = ap (has_name (texts c.args.closes.now)) (sym c.name_of_element-name.ensures) ∙ sym c.has.ensures ∙ c.if-has.false in
    let i : has_name (texts c.args.scope.now) (unwrap_or (name_at c.args.dom.now c.index.result.now.0) []) ≡ true = ap (has_name (texts c.args.scope.now)) (sym c.name_of_element-name.ensures) ∙ sym c.has-in-loop-at.ensures ∙ c.if-has-2.true in
    rw (← c.loop-at.invariant.same) (closed-none (has_name (texts c.args.closes.now)) (has_name (texts c.args.scope.now)) c.args.dom.now c.loop-at.opened.items (sym c.loop-at.invariant.rest ∙ rw (h, i) at k))

pub loop-at-preserved : goal.loop-at-preserved
loop-at-preserved c =
    let k = kept-at (has_name (texts c.args.closes.now)) (has_name (texts c.args.scope.now)) c.args.dom.now c.loop-at.opened.items c.loop-at.at c.index.result.now c.loop-at-test.true c.loop-at.invariant.within c.index.ensures in
    let h : has_name (texts c.args.closes.now) (unwrap_or (name_at c.args.dom.now c.index.result.now.0) []) ≡ false = ap (has_name (texts c.args.closes.now)) (sym c.name_of_element-name.ensures) ∙ sym c.has.ensures ∙ c.if-has.false in
    let i : has_name (texts c.args.scope.now) (unwrap_or (name_at c.args.dom.now c.index.result.now.0) []) ≡ false = ap (has_name (texts c.args.scope.now)) (sym c.name_of_element-name.ensures) ∙ sym c.has-in-loop-at.ensures ∙ c.if-has-2.false in
    record { same = c.loop-at.invariant.same; within = (let w = c.loop-at.invariant.within in omega arith); rest = sym (rw (h, i) at k) ∙ c.loop-at.invariant.rest }
