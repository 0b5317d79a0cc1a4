use Rattle.std.proofs.Common.{◌+◌, ◌-◌, ◌∙◌, ap, length, take}
use Rattle.unread_list.specs.Lines.{feeds}
use Rattle.unread_list.proofs.LineLemmas.{passes_text}
use Rattle.unread_list.proofs.lines.take_until.Goals as goal

pub returns-clause-passes : goal.returns-clause-passes
returns-clause-passes c =
    let text = c.args.lines.now.tokens.rest.now in
    let rest = c.take_until.new.tokens.rest.now in
    let line = c.args.lines.now.line in
    passes_text text rest line (line + c.feeds.result) c.in_ok-end.ensures.passed c.in_ok-end.ensures.takes
    (ap (λ n. line + n) (c.feeds.ensures.value ∙ ap (λ bs. feeds (take (length bs - length rest) bs)) c.as_bytes-text.ensures.value))
