use Rattle.std.proofs.Common.{◌≡◌, ◌++◌, ◌∷◌, [], ℕ, ◌+◌, ◌<◌, List, length, get_or, subst, arith}
use Rattle.std.proofs.lemmas.Grind.{common_steps}
use Rattle.std.proofs.lemmas.Option.{slice_get-get_or}
use Rattle.counters.specs.declared.scopes.ScopeMark.{ScopeMark}
use Rattle.counters.specs.declared.scopes.CounterEvent.{CounterEvent}
use Rattle.counters.specs.Chains.{IsNext}
use Rattle.counters.proofs.ChainLemmas.{MarkedTo, marked-step, marks-sorted}
use Rattle.counters.proofs.scopes.mark_all.Goals as goal

turn : (events : List CounterEvent) (i : ℕ) (d : CounterEvent) (marks seen next : List ScopeMark) (m : ScopeMark) → i < length events → MarkedTo events i marks → seen ≡ marks → IsNext seen (get_or events i d) m → next ≡ marks ++ m ∷ [] → MarkedTo events (i + 1) next
turn events i d marks seen next m l h s n e = rw e (marked-step events i marks (get_or events i d) m (slice_get-get_or events i d l) h (subst (λ x. IsNext x (get_or events i d) m) s n))

pub loop-event-preserved : goal.loop-event-preserved
loop-event-preserved c =
    let items : c.push.new.self.items ≡ c.loop-event.marks.items ++ c.in-Some.mark ∷ [] = grind (arith, common_steps) in
    turn c.args.events.now c.loop-event.event-index _ c.loop-event.marks.items c.deref.result.now c.push.new.self.items c.in-Some.mark (omega arith) c.loop-event.invariant c.deref.ensures.value c.in-Some.ensures.some items

pub returns-clause-marks : goal.returns-clause-marks
returns-clause-marks c = marks-sorted c.args.events.now c.loop-event.event-index c.loop-event.marks.items (omega arith) c.requires.few c.requires.sorted c.loop-event.invariant
