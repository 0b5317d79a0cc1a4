use Rattle.std.proofs.Common.{◌≡◌, ◌<◌, ◌-◌, ◌+◌, ℕ, Option, None, Some, IfSome, length, sym, ◌∙◌, subst, arith}
use Rattle.boxes.specs.Tree.{Tree}
use Rattle.cursor.proofs.RemLemmas.{solid_within}
use Rattle.seams.specs.Runs.{solid_after, solid_before}
use Rattle.seams.proofs.RunLemmas.{after_solid}
use Rattle.note_list.proofs.CallLemmas.{none_between}
use Rattle.note_list.proofs.calls.last_solid.Goals as goal

pub returns-then-event-to-clause-some : goal.returns-then-event-to-clause-some
returns-then-event-to-clause-some c =
    let t : Tree = c.args.tree.now in
    let found : solid_after t c.loop-event.at ≡ Some c.in-Some.event = sym c.solid_after.ensures.value ∙ c.in-Some.is in
    let low = c.loop-event.invariant.within in
    let high = c.if-event-to.true in
    let same : solid_before t c.args.to ≡ solid_before t c.loop-event.at = none_between t (c.args.to - c.loop-event.at) c.loop-event.at c.args.to (Some c.in-Some.event) (omega arith) c.requires.within found (λ e f. let g : c.in-Some.event ≡ e = cc in omega arith) in
    subst (λ (x : Option ℕ). IfSome c.loop-event.last (λ k. x ≡ Some k)) (sym same) c.loop-event.invariant.some

pub returns-then-event-to-clause-none : goal.returns-then-event-to-clause-none
returns-then-event-to-clause-none c = λ e.
    let t : Tree = c.args.tree.now in
    let found : solid_after t c.loop-event.at ≡ Some c.in-Some.event = sym c.solid_after.ensures.value ∙ c.in-Some.is in
    let low = c.loop-event.invariant.within in
    let high = c.if-event-to.true in
    let same : solid_before t c.args.to ≡ solid_before t c.loop-event.at = none_between t (c.args.to - c.loop-event.at) c.loop-event.at c.args.to (Some c.in-Some.event) (omega arith) c.requires.within found (λ e f. let g : c.in-Some.event ≡ e = cc in omega arith) in
    same ∙ c.loop-event.invariant.none e

pub loop-event-smaller : goal.loop-event-smaller
loop-event-smaller c =
    let t : Tree = c.args.tree.now in
    let found : solid_after t c.loop-event.at ≡ Some c.in-Some.event = sym c.solid_after.ensures.value ∙ c.in-Some.is in
    let low = (after_solid t c.loop-event.at c.in-Some.event found).0 in
    let inside = solid_within t c.loop-event.at c.in-Some.event found in
    let less : (length t.events - (c.in-Some.event + 1)) < (length t.events - c.loop-event.at) = omega arith in
    less

pub returns-clause-some : goal.returns-clause-some
returns-clause-some c =
    let t : Tree = c.args.tree.now in
    let found : solid_after t c.loop-event.at ≡ None = sym c.solid_after.ensures.value ∙ c.in_default.is in
    let low = c.loop-event.invariant.within in
    let same : solid_before t c.args.to ≡ solid_before t c.loop-event.at = none_between t (c.args.to - c.loop-event.at) c.loop-event.at c.args.to None (omega arith) c.requires.within found (λ e f. absurd (cc)) in
    subst (λ (x : Option ℕ). IfSome c.loop-event.last (λ k. x ≡ Some k)) (sym same) c.loop-event.invariant.some

pub returns-clause-none : goal.returns-clause-none
returns-clause-none c = λ e.
    let t : Tree = c.args.tree.now in
    let found : solid_after t c.loop-event.at ≡ None = sym c.solid_after.ensures.value ∙ c.in_default.is in
    let low = c.loop-event.invariant.within in
    let same : solid_before t c.args.to ≡ solid_before t c.loop-event.at = none_between t (c.args.to - c.loop-event.at) c.loop-event.at c.args.to None (omega arith) c.requires.within found (λ e f. absurd (cc)) in
    same ∙ c.loop-event.invariant.none e
