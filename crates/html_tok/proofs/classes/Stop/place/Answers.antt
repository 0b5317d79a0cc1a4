use Rattle.std.proofs.Common.{◌∙◌, unwrap_or, length, ap}
use Rattle.html_tok.specs.Fields.{stops}
use Rattle.html_tok.proofs.Places.{place-or}
use Rattle.html_tok.proofs.classes.Stop.place.Goals as goal

pub returns : goal.returns
returns c = c.unwrap_or.ensures ∙ ap (λ o. unwrap_or o (length c.args.bytes.now)) c.find.ensures ∙ place-or (stops c.args.self) c.args.bytes.now
