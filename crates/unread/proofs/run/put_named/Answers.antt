use Rattle.std.proofs.Common.{inl, inr}
use Rattle.std.proofs.lemmas.Result.{err_from_is_err_and}
use Rattle.unread.proofs.CauseLemmas.{if_err_map, if_ok_map}
use Rattle.unread.proofs.run.put_named.Goals as goal

pub returns-in_err-texts-clause-cause : goal.returns-in_err-texts-clause-cause
returns-in_err-texts-clause-cause g c =
    let p = err_from_is_err_and c.from_residual.result c.from_residual.ensures.1 in
    rw (p.1, p.2) (inr (inl (c.in_err-texts.ensures.cause (g.O.Sink.faults c.args.out.now) (g.O.Sink.faults c.args.out.now))))

pub returns-clause-report : goal.returns-clause-report
returns-clause-report g c = if_ok_map c.put_report.result (λ some p. record {
  texts = c.in_ok-texts.texts;
  are = c.in_ok-texts.ensures.texts;
  report = rw (c.as_str.ensures.value, c.as_str-2.ensures.value, c.deref.ensures.value) at p;
}) c.put_report.ensures.report

pub returns-clause-cause : goal.returns-clause-cause
returns-clause-cause g c = if_err_map c.put_report.result (λ o p. inr (inr (record {
  texts = c.in_ok-texts.texts;
  are = c.in_ok-texts.ensures.texts;
  cause = rw (c.as_str.ensures.value, c.as_str-2.ensures.value, c.deref.ensures.value) at p;
}))) c.put_report.ensures.cause
