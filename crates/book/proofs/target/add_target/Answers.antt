use Rattle.std.proofs.Common.{◌∙◌, sym}
use Rattle.bk_io.proofs.Escaping.{shown_whole}
use Rattle.bk_io.proofs.Passing.{gives_same}
use Rattle.book.proofs.target.add_target.Goals as goal

pub returns-then-has_no_control-clause-bytes : goal.returns-then-has_no_control-clause-bytes
returns-then-has_no_control-clause-bytes g c = gives_same _ _ _ _ _ _ c.add_text.result (sym (shown_whole c.args.target.now (sym c.has_no_control.ensures ∙ c.if-has_no_control.true))) c.add_text.ensures.bytes
