use Rattle.std.proofs.Common.{◌<◌, drop, sym, ap, ◌∙◌, arith}
use Rattle.note_list.proofs.QueueLemmas.{taken_more}
use Rattle.note_list.proofs.carried.CarriedNotes.drop_below.Goals as goal

pub loop-part-preserved : goal.loop-part-preserved
loop-part-preserved c =
    let off = c.if-part-next.false in
    let low : c.in-Some.part.note < c.args.next = omega arith in
    taken_more c.args.next c.args.self.now c.loop-part.self c.pop_front.new.self.items c.in-Some.part c.loop-part.invariant (sym c.first.ensures ∙ c.in-Some.is) low (c.pop_front.ensures.rest ∙ ap (drop 1) c.self.view_is)
