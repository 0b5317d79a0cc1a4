use Rattle.std.proofs.Common.{length, refl}
use Rattle.std.proofs.lemmas.Option.{slice_get_read}
use Rattle.paint.proofs.Lists.{more_pushed}
use Rattle.paint.proofs.leads.push_leads.Goals as goal

pub loop-lead-preserved : goal.loop-lead-preserved
loop-lead-preserved c = record {
  items = more_pushed _ c.args.leads.now c.loop-lead.lead-index c.lead-item.result _ _ _ (slice_get_read c.args.leads.now (length c.args.leads.now) c.loop-lead.lead-index c.lead-item.result refl c.loop-lead-test.true c.lead-item.is)
      c.in_ok-push_lead.ensures.items c.loop-lead.invariant.items;
  faces = c.in_ok-push_lead.ensures.faces;
}
