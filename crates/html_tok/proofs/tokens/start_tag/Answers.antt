use Rattle.std.proofs.Common.{◌≡◌, ◌+◌, length, drop, Some, get_or, arith, sym, ◌∙◌, ap}
use Rattle.std.specs.List.{position_or_len}
use Rattle.html_tok.specs.Classes.{ends_name, from_first}
use Rattle.html_tok.specs.Tags.{tag_end}
use Rattle.html_tok.proofs.PieceLemmas.{start-begins, end-is, name-length, tag-end-at, tag-boundary}
use Rattle.html_tok.proofs.TagLemmas.{after-first}
use Rattle.std.proofs.lemmas.Str.{IsCharBoundary-before_ascii}
use Rattle.html_tok.proofs.tokens.start_tag.Goals as goal

pub range_from-requires : goal.range_from-requires
range_from-requires c =
    let first : get_or c.args.rest.now 0 0 ≡ 60 = start-begins c.args.rest.now c.requires in
    λ _. after-first c.args.rest.now 60 c.utf8.rest (sym first) (omega arith) (omega arith)

pub range-requires-clause-end_boundary : goal.range-requires-clause-end_boundary
range-requires-clause-end_boundary c =
    let at = end-is 0 c.split_before.result.1.now c.in-Some.end (sym c.in-Some.ensures) in
    IsCharBoundary-before_ascii c.split_before.result.1.now c.in-Some.end at.0 (rw at.1 (omega arith))

pub returns-in-Some-clause-boundary : goal.returns-in-Some-clause-boundary
returns-in-Some-clause-boundary c =
    let after : c.split_before.result.1.now ≡ from_first ends_name (drop 1 c.args.rest.now) = rw c.range_from.ensures.value at c.split_before.ensures.back in
    let name : length c.split_before.result.0.now ≡ position_or_len ends_name (drop 1 c.args.rest.now) = ap length (rw c.range_from.ensures.value at c.split_before.ensures.front) ∙ name-length ends_name (drop 1 c.args.rest.now) in
    let end : tag_end (from_first ends_name (drop 1 c.args.rest.now)) ≡ Some c.in-Some.end = ap tag_end (sym after) ∙ sym c.in-Some.ensures in
    rw name (tag-boundary c.args.rest.now (1 + position_or_len ends_name (drop 1 c.args.rest.now) + c.in-Some.end) c.utf8.rest (tag-end-at c.args.rest.now 1 (position_or_len ends_name (drop 1 c.args.rest.now)) c.in-Some.end end))
