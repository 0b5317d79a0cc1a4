use Rattle.std.proofs.Common.{◌≡◌, ◌+◌, take, drop, arith, ◌∙◌, sym, ap, get_or, ◌==◌}
use Rattle.std.specs.List.{position_or_len}
use Rattle.std.proofs.lemmas.Bool.{eqb-true}
use Rattle.std.proofs.lemmas.Grind.{common_steps}
use Rattle.std.proofs.lemmas.Str.{IsCharBoundary-after_ascii}
use Rattle.html_tok.proofs.TagLemmas.{quote-at, quote-none, all-before, none-after}
use Rattle.html_tok.proofs.attrs.split_quoted.Goals as goal

pub range_from-requires : goal.range_from-requires
range_from-requires c =
    let found = rw c.as_bytes.ensures.value at c.in-Some.ensures in
    let is : get_or c.args.text.now c.in-Some.at 0 ≡ c.args.quote = eqb-true _ _ found.1 in
    λ _. IsCharBoundary-after_ascii c.args.text.now c.in-Some.at c.utf8.text found.0.high (rw is c.requires)

pub returns-in-Some-clause-front : goal.returns-in-Some-clause-front
returns-in-Some-clause-front c =
    let found = rw c.as_bytes.ensures.value at c.in-Some.ensures in
    let place : position_or_len (λ b. b == c.args.quote) c.args.text.now ≡ c.in-Some.at = quote-at c.args.quote c.args.text.now c.in-Some.at found.0 found.1 in
    let front : c.range.result.now ≡ take c.in-Some.at c.args.text.now = grind (arith, common_steps) in
    front ∙ ap (λ n. take n c.args.text.now) (sym place)

pub returns-in-Some-clause-back : goal.returns-in-Some-clause-back
returns-in-Some-clause-back c =
    let found = rw c.as_bytes.ensures.value at c.in-Some.ensures in
    let place : position_or_len (λ b. b == c.args.quote) c.args.text.now ≡ c.in-Some.at = quote-at c.args.quote c.args.text.now c.in-Some.at found.0 found.1 in
    let back : c.range_from.result.now ≡ drop (c.in-Some.at + 1) c.args.text.now = c.range_from.ensures.value in
    back ∙ ap (λ n. drop (n + 1) c.args.text.now) (sym place)

pub returns-in-None-clause-front : goal.returns-in-None-clause-front
returns-in-None-clause-front c = all-before c.args.text.now (position_or_len (λ b. b == c.args.quote) c.args.text.now) (quote-none c.args.quote c.args.text.now (rw c.as_bytes.ensures.value at c.in-None.ensures))

pub returns-in-None-clause-back : goal.returns-in-None-clause-back
returns-in-None-clause-back c = none-after c.args.text.now (position_or_len (λ b. b == c.args.quote) c.args.text.now) (quote-none c.args.quote c.args.text.now (rw c.as_bytes.ensures.value at c.in-None.ensures))
