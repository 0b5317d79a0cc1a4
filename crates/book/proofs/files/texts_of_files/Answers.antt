use Rattle.words.specs.Asked.{format_view}
use Rattle.book.proofs.FileLemmas.{cause_files, given_files, kept_file, stops_files}
use Rattle.book.proofs.files.texts_of_files.Goals as goal

pub returns-in-Ok-clause-texts : goal.returns-in-Ok-clause-texts
returns-in-Ok-clause-texts g c = given_files (g.F.Shelf.told c.args.shelf.now) (format_view c.args.names.now) c.in-Ok.texts c.in-Ok.ensures.texts

pub returns-in-Err-clause-texts : goal.returns-in-Err-clause-texts
returns-in-Err-clause-texts g c = rw c.from.ensures (stops_files (g.F.Shelf.told c.args.shelf.now) (format_view c.args.names.now) _ _ _ c.in-Err.fault c.in-Err.ensures.fault)

pub returns-in-Err-clause-cause : goal.returns-in-Err-clause-cause
returns-in-Err-clause-cause g c = rw c.from.ensures (cause_files (g.F.Shelf.told c.args.shelf.now) (format_view c.args.names.now) _ _ _ c.in-Err.fault c.in-Err.ensures.fault)

pub returns-in-Err-clause-count : goal.returns-in-Err-clause-count
returns-in-Err-clause-count g c = rw c.from.ensures (kept_file c.in-Err.fault.file c.in-Err.fault.why _ _ c.in-Err.ensures.count)
