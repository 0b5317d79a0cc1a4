use Rattle.std.proofs.Common.{refl}
use Rattle.book.specs.Laid.{outcome_of}
use Rattle.book.proofs.Stopping.{kept_count}
use Rattle.book.proofs.run.put_request.Goals as goal

pub returns-in-Sample-clause-count : goal.returns-in-Sample-clause-count
returns-in-Sample-clause-count g c = kept_count _ _ (outcome_of c.put_sample.result) refl
