use Rattle.std.proofs.Common.{◌≡◌, ◌∙◌, ap}
use Rattle.std.proofs.Math.Facts.{to_z-of_z}
use Rattle.std.specs.Fmt.{signed_decimal}
use Rattle.book.proofs.message.add_numbers.Goals as goal

pub returns-clause-bytes : goal.returns-clause-bytes
returns-clause-bytes g c =
    let before : c.format.result.now ≡ signed_decimal c.args.before = c.format.ensures.text ∙ ap signed_decimal (to_z-of_z c.ranges.before) in
    let after : c.format-2.result.now ≡ signed_decimal c.args.after = c.format-2.ensures.text ∙ ap signed_decimal (to_z-of_z c.ranges.after) in
    rw (← before, ← after) c.add_texts.ensures.bytes
