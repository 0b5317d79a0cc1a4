use Rattle.std.proofs.Common.{◌≡◌, None, map, refl, string_bytes, subst}
use Rattle.std.proofs.lemmas.Result.{err_from_is_err_and}
use Rattle.book.specs.Laid.{outcome_of}
use Rattle.book.specs.Request.{asked, task_in}
use Rattle.book.specs.Run.{IsOfWords}
use Rattle.book.specs.declared.outcome.Outcome.TheVariants as out
use Rattle.book.proofs.Stopping.{halts_meet, kept_count, puts_nothing, task_cause, task_meets, words_cause, words_halt}
use Rattle.book.proofs.LineLemmas.{task_few, words_few}
use Rattle.book.proofs.run.put_asked.Goals as goal

pub returns-in_err-request-clause-answers : goal.returns-in_err-request-clause-answers
returns-in_err-request-clause-answers g c =
    let p = err_from_is_err_and c.from_residual.result c.from_residual.ensures.1 in
    let o = c.in_err-request.field-0.0 in
    λ reading h. rw (p.1, p.2) (halts_meet _ _ _ o (words_halt reading (asked (map (λ w. string_bytes w) c.args.words.now)) (g.F.Shelf.told c.args.shelf.now) o c.in_err-request.ensures.task))

pub returns-in_err-request-clause-put : goal.returns-in_err-request-clause-put
returns-in_err-request-clause-put g c =
    let p = err_from_is_err_and c.from_residual.result c.from_residual.ensures.1 in
    rw (p.1, p.2) (puts_nothing _ c.in_err-request.field-0.0)

pub returns-in_err-request-clause-words : goal.returns-in_err-request-clause-words
returns-in_err-request-clause-words g c =
    let p = err_from_is_err_and c.from_residual.result c.from_residual.ensures.1 in
    rw (p.1, p.2) (words_cause (asked (map (λ w. string_bytes w) c.args.words.now)) (g.F.Shelf.told c.args.shelf.now) 0 0 None c.in_err-request.field-0.0 c.in_err-request.ensures.fault c.in_err-request.ensures.task c.request_of.ensures.decided).1

pub returns-in_err-request-clause-read_fault : goal.returns-in_err-request-clause-read_fault
returns-in_err-request-clause-read_fault g c =
    let p = err_from_is_err_and c.from_residual.result c.from_residual.ensures.1 in
    rw (p.1, p.2) (words_cause (asked (map (λ w. string_bytes w) c.args.words.now)) (g.F.Shelf.told c.args.shelf.now) _ _ _ c.in_err-request.field-0.0 c.in_err-request.ensures.fault c.in_err-request.ensures.task c.request_of.ensures.decided).0

pub returns-in_err-request-clause-write_fault : goal.returns-in_err-request-clause-write_fault
returns-in_err-request-clause-write_fault g c =
    let p = err_from_is_err_and c.from_residual.result c.from_residual.ensures.1 in
    let o = c.in_err-request.field-0.0 in
    let none : o ≡ out.WriteFault → ⊥ = λ e. subst IsOfWords e c.in_err-request.ensures.fault in
    rw (p.1, p.2) (λ e. absurd (none e))

pub returns-clause-answers : goal.returns-clause-answers
returns-clause-answers g c = λ reading h. task_meets reading (asked (map (λ w. string_bytes w) c.args.words.now)) (task_in c.in_ok-request.request) (g.F.Shelf.told c.args.shelf.now) _ _ (outcome_of c.put_request.result) c.in_ok-request.ensures.task (c.put_request.ensures.answers reading h)

pub returns-clause-words : goal.returns-clause-words
returns-clause-words g c = (task_cause (asked (map (λ w. string_bytes w) c.args.words.now)) (task_in c.in_ok-request.request) (g.F.Shelf.told c.args.shelf.now) _ _ _ (outcome_of c.put_request.result) c.in_ok-request.ensures.task c.put_request.ensures.cause).1

pub returns-clause-read_fault : goal.returns-clause-read_fault
returns-clause-read_fault g c = (task_cause (asked (map (λ w. string_bytes w) c.args.words.now)) (task_in c.in_ok-request.request) (g.F.Shelf.told c.args.shelf.now) _ _ _ (outcome_of c.put_request.result) c.in_ok-request.ensures.task c.put_request.ensures.cause).0

pub returns-in_err-request-clause-count : goal.returns-in_err-request-clause-count
returns-in_err-request-clause-count g c =
    let p = err_from_is_err_and c.from_residual.result c.from_residual.ensures.1 in
    rw (p.1, p.2) (kept_count _ _ c.in_err-request.field-0.0 refl)

pub returns-in_err-request-clause-lines : goal.returns-in_err-request-clause-lines
returns-in_err-request-clause-lines g c =
    let p = err_from_is_err_and c.from_residual.result c.from_residual.ensures.1 in
    let o = c.in_err-request.field-0.0 in
    λ reading h. rw (p.1, p.2) (words_few reading (asked (map (λ w. string_bytes w) c.args.words.now)) (g.F.Shelf.told c.args.shelf.now) o _ _ c.in_err-request.ensures.task)

pub returns-clause-lines : goal.returns-clause-lines
returns-clause-lines g c = λ reading h. task_few reading (asked (map (λ w. string_bytes w) c.args.words.now)) (task_in c.in_ok-request.request) (g.F.Shelf.told c.args.shelf.now) (outcome_of c.put_request.result) _ _ c.in_ok-request.ensures.task (c.put_request.ensures.lines reading h)
