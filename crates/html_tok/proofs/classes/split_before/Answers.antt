use Rattle.std.proofs.Common.{◌≡◌, rules}
use Rattle.std.specs.List.{position_or_len}
use Rattle.html_tok.specs.Fields.{stops}
use Rattle.html_tok.proofs.Places.{stop-boundary}
use Rattle.html_tok.proofs.classes.split_before.Goals as goal

pub split_at-requires : goal.split_at-requires
split_at-requires c =
    let e : c.place.result ≡ position_or_len (stops c.args.stop) c.args.text.now = search rules in
    rw e (stop-boundary c.args.stop c.args.text.now c.utf8.text)
