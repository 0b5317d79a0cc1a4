use Rattle.std.proofs.Common.{◌∙◌, sym}
use Rattle.bk_io.proofs.Passing.{gives_same}
use Rattle.listing.proofs.RecordLemmas.{string_same}
use Rattle.listing.proofs.fields.add_bytes.Goals as goal

pub returns-then-all_stand-clause-bytes : goal.returns-then-all_stand-clause-bytes
returns-then-all_stand-clause-bytes g c = gives_same _ _ _ _ _ _ c.add_text.result (sym (string_same c.args.text.now (sym c.all_stand.ensures ∙ c.if-all_stand.true))) c.add_text.ensures.bytes
