use Rattle.std.proofs.Common.{◌≡◌, ◌≢◌, ◌<◌, ◌≤◌, ◌∙◌, arith, ⊎_elim, get_or-set_other, length-set}
use Rattle.std.proofs.lemmas.Bool.{cases_lt}
use Rattle.std.proofs.lemmas.Grind.{get_or-set_at}
use Rattle.metrics.proofs.face.advance_table.Goals as goal

pub loop-c-preserved : goal.loop-c-preserved
loop-c-preserved c = record {
  size = rw length-set c.loop-c.invariant.size;
  known = λ k h. ⊎_elim
      (λ (g : k < c.loop-c.c). let n : k ≢ c.loop-c.c = omega arith in get_or-set_other c.loop-c.table c.loop-c.c k c.number.result 0 n ∙ c.loop-c.invariant.known k g)
      (λ (g : c.loop-c.c ≤ k).
      let e : k ≡ c.loop-c.c = omega arith in
      get_or-set_at c.loop-c.table c.loop-c.c k c.number.result 0 e (omega arith) ∙ rw e c.number.ensures.value)
      (cases_lt k c.loop-c.c);
}
