use Rattle.std.proofs.lemmas.Result.{IfOk-weaker}
use Rattle.book.proofs.ColumnLemmas.{pages_few}
use Rattle.book.proofs.lay_out.pages_of.Goals as goal

pub returns-clause-few : goal.returns-clause-few
returns-clause-few c = IfOk-weaker c.fold.result _ _ (λ list is. pages_few c.args.per c.args.frames.now.pages list.pages c.requires.per c.folds_keep_all.ensures is c.requires.few) c.fold.ensures
