use Rattle.std.proofs.Common.{◌≡◌, ◌<◌, true, false, eqb, ap, subst, sym, ◌∙◌, length, arith, get_or}
use Rattle.std.proofs.lemmas.Grind.{common_steps}
use Rattle.std.proofs.lemmas.Str.{IsCharBoundary-after_ascii, IsCharBoundary-start}
use Rattle.std.specs.Str.{IsCharBoundary}
use Rattle.std.specs.Char.{is_ascii_hexdigit}
use Rattle.css_tok.specs.Lengths.{is_newline, newline_len}
use Rattle.css_tok.proofs.PlainLemmas.{hex_step, newline_step, none_step, slash_step, other_step, newline_cut}
use Rattle.css_tok.proofs.plain.escape.Goals as goal

pub returns-then-is_ascii_hexdigit-clause-value : goal.returns-then-is_ascii_hexdigit-clause-value
returns-then-is_ascii_hexdigit-clause-value c =
    let hex : is_ascii_hexdigit (get_or c.args.after.now 0 0) ≡ true = grind (arith, common_steps) in
    hex_step c.args.after.now hex c.split_at.result.0.now c.character.result c.hex_escape-len.result.0 c.hex_escape-len.result.1 c.hex_escape-len.ensures.len c.hex_escape-len.ensures.digits c.split_at.ensures.front c.character.ensures

pub returns-then-is_newline-clause-value : goal.returns-then-is_newline-clause-value
returns-then-is_newline-clause-value c =
    let newline : is_newline (get_or c.args.after.now 0 0) ≡ true = grind (arith, common_steps) in
    newline_step c.args.after.now newline c.newline_len.result (c.newline_len.ensures.value ∙ ap newline_len c.as_bytes-then-is_newline.ensures.value)

pub returns-then-is_newline-clause-cut : goal.returns-then-is_newline-clause-cut
returns-then-is_newline-clause-cut c = subst (λ n. IsCharBoundary c.args.after.now n) (sym (c.newline_len.ensures.value ∙ ap newline_len c.as_bytes-then-is_newline.ensures.value)) (newline_cut c.args.after.now c.utf8.after)

pub returns-then-is_empty-clause-value : goal.returns-then-is_empty-clause-value
returns-then-is_empty-clause-value c =
    let none : length c.args.after.now ≡ 0 = grind (arith, common_steps) in
    none_step c.args.after.now none

pub returns-then-b-eq92-clause-value : goal.returns-then-b-eq92-clause-value
returns-then-b-eq92-clause-value c =
    let some : 0 < length c.args.after.now = grind (arith, common_steps) in
    let is : get_or c.args.after.now 0 0 ≡ 92 = grind (arith, common_steps) in
    slash_step c.args.after.now some is

pub returns-then-b-eq92-clause-cut : goal.returns-then-b-eq92-clause-cut
returns-then-b-eq92-clause-cut c =
    let some : 0 < length c.args.after.now = grind (arith, common_steps) in
    let is : get_or c.args.after.now 0 0 ≡ 92 = grind (arith, common_steps) in
    IsCharBoundary-after_ascii c.args.after.now 0 c.utf8.after some (omega arith)

pub returns-clause-value : goal.returns-clause-value
returns-clause-value c =
    let some : 0 < length c.args.after.now = grind (arith, common_steps) in
    let hex : is_ascii_hexdigit (get_or c.args.after.now 0 0) ≡ false = grind (arith, common_steps) in
    let newline : is_newline (get_or c.args.after.now 0 0) ≡ false = grind (arith, common_steps) in
    let other : eqb (get_or c.args.after.now 0 0) 92 ≡ false = grind (arith, common_steps) in
    other_step c.args.after.now some newline hex other

pub returns-clause-cut : goal.returns-clause-cut
returns-clause-cut c = IsCharBoundary-start c.args.after.now c.utf8.after
