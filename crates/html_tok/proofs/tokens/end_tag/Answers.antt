use Rattle.std.proofs.Common.{◌≡◌, ◌+◌, length, drop, Some, arith, sym, ◌∙◌, ap}
use Rattle.std.specs.List.{position_or_len}
use Rattle.html_tok.specs.Classes.{ends_name, from_first}
use Rattle.html_tok.specs.Tags.{tag_end}
use Rattle.html_tok.proofs.PieceLemmas.{end-begins, some-second, name-length, tag-end-at, tag-boundary}
use Rattle.std.proofs.lemmas.Str.{IsCharBoundary-after_ascii}
use Rattle.html_tok.proofs.tokens.end_tag.Goals as goal

pub range_from-requires : goal.range_from-requires
range_from-requires c =
    let begins = end-begins c.args.rest.now c.requires in
    λ _. IsCharBoundary-after_ascii c.args.rest.now 1 c.utf8.rest (some-second c.args.rest.now 47 begins.second (omega arith)) (rw begins.second (omega arith))

pub overflow_add-result-in-Some : goal.overflow_add-result-in-Some
overflow_add-result-in-Some c =
    let after : c.split_before.result.1.now ≡ from_first ends_name (drop 2 c.args.rest.now) = rw c.range_from.ensures.value at c.split_before.ensures.back in
    let name : length c.split_before.result.0.now ≡ position_or_len ends_name (drop 2 c.args.rest.now) = ap length (rw c.range_from.ensures.value at c.split_before.ensures.front) ∙ name-length ends_name (drop 2 c.args.rest.now) in
    let end : tag_end (from_first ends_name (drop 2 c.args.rest.now)) ≡ Some c.in-Some.end = ap tag_end (sym after) ∙ sym c.in-Some.ensures in
    let t = tag-end-at c.args.rest.now 2 (position_or_len ends_name (drop 2 c.args.rest.now)) c.in-Some.end end in
    rw name (omega (arith, t.within))

pub overflow_add-result-in-Some-2 : goal.overflow_add-result-in-Some-2
overflow_add-result-in-Some-2 c =
    let after : c.split_before.result.1.now ≡ from_first ends_name (drop 2 c.args.rest.now) = rw c.range_from.ensures.value at c.split_before.ensures.back in
    let name : length c.split_before.result.0.now ≡ position_or_len ends_name (drop 2 c.args.rest.now) = ap length (rw c.range_from.ensures.value at c.split_before.ensures.front) ∙ name-length ends_name (drop 2 c.args.rest.now) in
    let end : tag_end (from_first ends_name (drop 2 c.args.rest.now)) ≡ Some c.in-Some.end = ap tag_end (sym after) ∙ sym c.in-Some.ensures in
    let t = tag-end-at c.args.rest.now 2 (position_or_len ends_name (drop 2 c.args.rest.now)) c.in-Some.end end in
    rw name (omega (arith, t.within))

pub returns-in-Some-clause-boundary : goal.returns-in-Some-clause-boundary
returns-in-Some-clause-boundary c =
    let after : c.split_before.result.1.now ≡ from_first ends_name (drop 2 c.args.rest.now) = rw c.range_from.ensures.value at c.split_before.ensures.back in
    let name : length c.split_before.result.0.now ≡ position_or_len ends_name (drop 2 c.args.rest.now) = ap length (rw c.range_from.ensures.value at c.split_before.ensures.front) ∙ name-length ends_name (drop 2 c.args.rest.now) in
    let end : tag_end (from_first ends_name (drop 2 c.args.rest.now)) ≡ Some c.in-Some.end = ap tag_end (sym after) ∙ sym c.in-Some.ensures in
    rw name (tag-boundary c.args.rest.now (2 + position_or_len ends_name (drop 2 c.args.rest.now) + c.in-Some.end) c.utf8.rest (tag-end-at c.args.rest.now 2 (position_or_len ends_name (drop 2 c.args.rest.now)) c.in-Some.end end))
