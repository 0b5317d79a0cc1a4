use Rattle.std.proofs.Common.{sym, ◌∙◌, arith}
use Rattle.bk_num.proofs.ListLemmas.{none-is}
use Rattle.note_list.proofs.calls.solid_before.Goals as goal

pub loop-from-preserved : goal.loop-from-preserved
loop-from-preserved c =
    let low = c.loop-from.invariant.within in
    let from = c.saturating_sub-from.ensures in
    record {
      within = omega arith;
      none = c.last_solid-last.ensures.none (none-is c.last_solid-last.result (sym c.is_some.ensures ∙ c.if-is_some.false));
    }
