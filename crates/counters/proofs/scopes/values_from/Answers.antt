use Rattle.std.proofs.Common.{◌≡◌, ◌++◌, ◌∷◌, [], List, Option, Some, map, sym, ◌∙◌, ap, arith, append_assoc, ℤ, ℕ}
use Rattle.std.proofs.lemmas.Grind.{common_steps}
use Rattle.counters.specs.declared.scopes.ScopeMark.{ScopeMark}
use Rattle.counters.specs.Chains.{AreFalling, all_of, front}
use Rattle.counters.proofs.ChainLemmas.{front-step, front-lower}
use Rattle.counters.proofs.scopes.values_from.Goals as goal

turn : (marks : List ScopeMark) (falls : AreFalling marks) (head from : Option ℕ) (values next : List ℤ) (m : ScopeMark) → front (all_of marks head) ≡ Some m → next ≡ values ++ m.value ∷ [] → values ++ map (λ (m : ScopeMark). m.value) (all_of marks head) ≡ map (λ (m : ScopeMark). m.value) (all_of marks from) → next ++ map (λ (m : ScopeMark). m.value) (all_of marks m.outer) ≡ map (λ (m : ScopeMark). m.value) (all_of marks from)
turn marks falls head from values next m f e h = rw e (append_assoc values (m.value ∷ []) (map (λ (m : ScopeMark). m.value) (all_of marks m.outer)) ∙ ap (λ l. values ++ map (λ (m : ScopeMark). m.value) l) (sym (front-step marks falls head m f)) ∙ h)

pub loop-mark-smaller : goal.loop-mark-smaller
loop-mark-smaller c = front-lower c.args.marks.now c.requires c.loop-mark.head c.in-Some.mark (sym c.front.ensures ∙ c.in-Some.is)

pub loop-mark-preserved : goal.loop-mark-preserved
loop-mark-preserved c =
    let items : c.push.new.self.items ≡ c.loop-mark.values.items ++ c.in-Some.mark.value ∷ [] = grind (arith, common_steps) in
    turn c.args.marks.now c.requires c.loop-mark.head c.args.from c.loop-mark.values.items c.push.new.self.items c.in-Some.mark (sym c.front.ensures ∙ c.in-Some.is) items c.loop-mark.invariant
