use Rattle.std.proofs.Common.{◌≡◌}
use Rattle.std.specs.List.{position_or_len}
use Rattle.html_tok.specs.Fields.{stops}
use Rattle.html_tok.proofs.Places.{stop-boundary}
use Rattle.html_tok.proofs.classes.skip_to.Goals as goal

pub range_from-requires : goal.range_from-requires
range_from-requires c =
    let e : c.place.result ≡ position_or_len (stops c.args.stop) c.args.text.now = rw c.as_bytes.ensures.value at c.place.ensures in
    λ _. rw e (stop-boundary c.args.stop c.args.text.now c.utf8.text)
