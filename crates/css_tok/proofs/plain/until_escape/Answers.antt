use Rattle.std.proofs.Common.{◌≡◌, ◌<◌, ap, subst, sym, ◌∙◌, length, arith, get_or}
use Rattle.std.proofs.lemmas.Grind.{common_steps}
use Rattle.std.proofs.lemmas.Str.{IsCharBoundary-after_ascii, IsUtf8-drop}
use Rattle.std.specs.Str.{IsCharBoundary, IsUtf8}
use Rattle.css_tok.specs.declared.lengths.Class.TheVariants as class
use Rattle.css_tok.specs.Lengths.{run_len}
use Rattle.css_tok.proofs.PlainLemmas.{plain_cut, run_only, rest_slash, run_then}
use Rattle.css_tok.proofs.plain.until_escape.Goals as goal

pub split_at-requires : goal.split_at-requires
split_at-requires c = subst (λ n. IsCharBoundary c.args.text.now n) (sym (c.run_len.ensures.value ∙ ap (run_len class.Plain) c.as_bytes.ensures.value)) (plain_cut c.args.text.now)

pub returns-then-is_empty-clause-parts : goal.returns-then-is_empty-clause-parts
returns-then-is_empty-clause-parts c =
    let none : length c.split_at.result.1.now ≡ 0 = grind (arith, common_steps) in
    run_only c.args.text.now c.split_at.result.0.now c.split_at.result.1.now c.run_len.result (c.run_len.ensures.value ∙ ap (run_len class.Plain) c.as_bytes.ensures.value) c.split_at.ensures.front c.split_at.ensures.back none

pub split_at-requires-2 : goal.split_at-requires-2
split_at-requires-2 c =
    let some : 0 < length c.split_at.result.1.now = grind (arith, common_steps) in
    let slash : get_or c.split_at.result.1.now 0 0 ≡ 92 = rest_slash c.args.text.now c.split_at.result.1.now c.run_len.result (c.run_len.ensures.value ∙ ap (run_len class.Plain) c.as_bytes.ensures.value) c.split_at.ensures.back some in
    let cut : IsCharBoundary c.args.text.now c.run_len.result = subst (λ n. IsCharBoundary c.args.text.now n) (sym (c.run_len.ensures.value ∙ ap (run_len class.Plain) c.as_bytes.ensures.value)) (plain_cut c.args.text.now) in
    let utf8 : IsUtf8 c.split_at.result.1.now = subst IsUtf8 (sym c.split_at.ensures.back) (IsUtf8-drop c.args.text.now c.run_len.result c.utf8.text cut) in
    IsCharBoundary-after_ascii c.split_at.result.1.now 0 utf8 some (omega arith)

pub returns-clause-parts : goal.returns-clause-parts
returns-clause-parts c =
    let some : 0 < length c.split_at.result.1.now = grind (arith, common_steps) in
    run_then c.args.text.now c.split_at.result.0.now c.split_at.result.1.now c.split_at-2.result.1.now c.run_len.result (c.run_len.ensures.value ∙ ap (run_len class.Plain) c.as_bytes.ensures.value) c.split_at.ensures.front c.split_at.ensures.back some c.split_at-2.ensures.back
