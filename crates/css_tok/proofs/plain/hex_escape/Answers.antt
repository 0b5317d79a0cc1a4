use Rattle.std.proofs.Common.{◌∙◌, ap, subst, sym, take}
use Rattle.std.specs.Str.{IsCharBoundary}
use Rattle.std.specs.Str.Parse.{IsNumeral}
use Rattle.css_tok.specs.Lengths.{escape_len, hex_len}
use Rattle.css_tok.proofs.PlainLemmas.{hex_quoted, hex_cut, escape_cut, hex_numeral}
use Rattle.css_tok.proofs.plain.hex_escape.Goals as goal

pub returns-clause-len : goal.returns-clause-len
returns-clause-len c = c.escape_len.ensures.value ∙ ap escape_len c.as_bytes.ensures.value ∙ sym (hex_quoted c.args.text.now c.requires)

pub returns-clause-cut : goal.returns-clause-cut
returns-clause-cut c = subst (λ n. IsCharBoundary c.args.text.now n) (sym (c.escape_len.ensures.value ∙ ap escape_len c.as_bytes.ensures.value)) (escape_cut c.args.text.now c.utf8.text c.requires)

pub returns-clause-cut_digits : goal.returns-clause-cut_digits
returns-clause-cut_digits c = subst (λ n. IsCharBoundary c.args.text.now n) (sym (c.hex_len.ensures.value ∙ ap hex_len c.as_bytes-2.ensures.value)) (hex_cut c.args.text.now c.utf8.text)

pub returns-clause-numeral : goal.returns-clause-numeral
returns-clause-numeral c = subst (λ n. IsNumeral 16 (take n c.args.text.now)) (sym (c.hex_len.ensures.value ∙ ap hex_len c.as_bytes-2.ensures.value)) (hex_numeral c.args.text.now c.requires)
