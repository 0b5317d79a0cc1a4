use Rattle.std.proofs.Common.{rules, ◌≡◌, arith, take, Err, ap, ◌∙◌, vec_len}
use Rattle.std.proofs.lemmas.Result.{err_from_is_err_and}
use Rattle.bk_io.specs.Shelf.{read_err_of}
use Rattle.bk_io.specs.declared.read_all.ReadErr.TheVariants as reading
use Rattle.bk_io.proofs.Reading.{HasFault-since, ReadAnswers-refused, failed_by_fetch, bytes_more, all_fetched, length-front}
use Rattle.bk_io.proofs.read_all.read_pieces.Goals as goal

pub returns-in_err-count-clause-answers : goal.returns-in_err-count-clause-answers
returns-in_err-count-clause-answers g c =
    let p = err_from_is_err_and c.from_residual.result c.from_residual.ensures.1 in
    rw (p.1, p.2) (ReadAnswers-refused _ _ _)

pub returns-in_err-count-clause-fault : goal.returns-in_err-count-clause-fault
returns-in_err-count-clause-fault g c =
    let p = err_from_is_err_and c.from_residual.result c.from_residual.ensures.1 in
    HasFault-since _ _ c.loop-bytes.invariant.later c.loop-bytes.invariant.absent (rw c.loop-bytes.invariant.told at c.fetch.ensures.fault)
    (λ q. let e : read_err_of c.in_err-count.field-0.0 ≡ reading.Failed = cc in c.in_err-count.was ∙ ap Err (failed_by_fetch _ e))

pub returns-then-count-eq0-clause-answers : goal.returns-then-count-eq0-clause-answers
returns-then-count-eq0-clause-answers g c =
    let answers = rw c.loop-bytes.invariant.told at c.in_ok-count.ensures.answers in (
      c.loop-bytes.invariant.within,
      record {
        present = answers.present;
        bytes = λ file e. all_fetched file (vec_len c.loop-bytes.bytes) _ (take c.in_ok-count.count c.fetch.new.into) (c.loop-bytes.invariant.bytes file e) (search rules) (search (rules, answers.bytes file e));
      },
    )

pub returns-then-count-eq0-clause-fault : goal.returns-then-count-eq0-clause-fault
returns-then-count-eq0-clause-fault g c =
    HasFault-since _ _ c.loop-bytes.invariant.later c.loop-bytes.invariant.absent (rw c.loop-bytes.invariant.told at c.fetch.ensures.fault) (λ q. absurd (cc))

pub returns-in_err-extend_from_slice-clause-fault : goal.returns-in_err-extend_from_slice-clause-fault
returns-in_err-extend_from_slice-clause-fault g c =
    let p = err_from_is_err_and c.from_residual-in_err-extend_from_slice.result c.from_residual-in_err-extend_from_slice.ensures.1 in
    HasFault-since _ _ c.loop-bytes.invariant.later c.loop-bytes.invariant.absent (rw c.loop-bytes.invariant.told at c.fetch.ensures.fault) (λ q. absurd (cc))

pub returns-then-len-limit-clause-answers : goal.returns-then-len-limit-clause-answers
returns-then-len-limit-clause-answers g c =
    let answers = rw c.loop-bytes.invariant.told at c.in_ok-count.ensures.answers in
    record {
      present = answers.present;
      bytes = λ file e. let new : c.extend_from_slice.new.self.items ≡ take (vec_len c.extend_from_slice.new.self) file =
          bytes_more file (vec_len c.loop-bytes.bytes) c.in_ok-count.count _ c.loop-bytes.bytes.items (take c.in_ok-count.count c.fetch.new.into) _ (c.loop-bytes.invariant.bytes file e) (search rules) (search (rules, answers.bytes file e)) (search rules) (search rules)
          in omega (arith, length-front file _ _ new, c.extend_from_slice.new.self.ok.0);
    }

pub returns-then-len-limit-clause-fault : goal.returns-then-len-limit-clause-fault
returns-then-len-limit-clause-fault g c =
    HasFault-since _ _ c.loop-bytes.invariant.later c.loop-bytes.invariant.absent (rw c.loop-bytes.invariant.told at c.fetch.ensures.fault) (λ q. absurd (cc))

pub loop-bytes-preserved : goal.loop-bytes-preserved
loop-bytes-preserved g c =
    let fault = rw c.loop-bytes.invariant.told at c.fetch.ensures.fault in
    record {
      room = search rules;
      within = search rules;
      told = c.fetch.ensures.told ∙ c.loop-bytes.invariant.told;
      bytes = λ file e.
          let answers = rw c.loop-bytes.invariant.told at c.in_ok-count.ensures.answers in
          bytes_more file (vec_len c.loop-bytes.bytes) c.in_ok-count.count _ c.loop-bytes.bytes.items (take c.in_ok-count.count c.fetch.new.into) _ (c.loop-bytes.invariant.bytes file e) (search rules) (search (rules, answers.bytes file e)) (search rules) (search rules);
      count = c.in_ok-count.ensures.read ∙ c.loop-bytes.invariant.count;
      later = omega (arith, c.fetch.ensures.fault.later);
      absent = λ e. fault.absent e ∙ c.loop-bytes.invariant.absent e;
    }
