use Rattle.std.proofs.Common.{◌∙◌, ap, unwrap_or, length, not}
use Rattle.std.specs.Char.{is_digit}
use Rattle.html_tok.proofs.Places.{place-or, place-le}
use Rattle.html_tree.proofs.references.count_of_digits.Goals as goal

pub returns : goal.returns
returns c =
    let count = c.unwrap_or.ensures ∙ ap (λ o. unwrap_or o (length c.args.bytes.now)) c.past_digits.ensures ∙ place-or (λ b. not (is_digit b c.args.base)) c.args.bytes.now in
    record { count = count; within = rw count (place-le (λ b. not (is_digit b c.args.base)) c.args.bytes.now) }
