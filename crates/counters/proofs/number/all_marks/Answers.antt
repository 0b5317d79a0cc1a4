use Rattle.std.proofs.Common.{◌<◌, length, take, sym, subst, arith}
use Rattle.std.specs.List.Sorted.{IsNonDecreasingBy}
use Rattle.bk_num.proofs.ListLemmas.{take-more}
use Rattle.style.proofs.NodeLemmas.{get-last}
use Rattle.counters.specs.Chains.{AreMarked}
use Rattle.counters.specs.declared.scopes.CounterEvent.{CounterEvent}
use Rattle.counters.proofs.NumberLemmas.{marks-more}
use Rattle.counters.proofs.number.all_marks.Goals as goal

pub marks_of-requires : goal.marks_of-requires
marks_of-requires c =
    let l : c.loop-list.list-index < length c.args.lists.now = omega (arith, c.loop-list-test.true) in
    let at = get-last c.args.lists.now c.loop-list.list-index c.list-item.result l c.list-item.is in
    subst (IsNonDecreasingBy (λ (e : CounterEvent). e.at)) (sym c.as_slice.ensures) (c.requires c.loop-list.list-index c.list-item.result at)

pub loop-list-preserved : goal.loop-list-preserved
loop-list-preserved c =
    let l : c.loop-list.list-index < length c.args.lists.now = omega (arith, c.loop-list-test.true) in
    let at = get-last c.args.lists.now c.loop-list.list-index c.list-item.result l c.list-item.is in
    let marks = c.in_ok-marks_of.field-0 in
    rw (take-more c.args.lists.now c.loop-list.list-index c.list-item.result at, c.in_ok-push.ensures.items) (marks-more (take c.loop-list.list-index c.args.lists.now) c.loop-list.all.items c.list-item.result marks c.loop-list.invariant c.in_ok-marks_of.ensures.marks (subst (λ v. AreMarked v marks) c.as_slice.ensures c.in_ok-marks_of.ensures.marked))
