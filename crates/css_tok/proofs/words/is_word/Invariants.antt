use Rattle.std.proofs.Common.{◌≡◌, length}
use Rattle.std.specs.Str.{IsUtf8, str_eq_ignore_ascii_case}
use Rattle.css_tok.specs.Plain.{plain_of}
use Rattle.css_tok.proofs.words.is_word.Given as goal

abbrev pub invariant-parts : goal.invariant-parts
invariant-parts l = record {
  utf8 : IsUtf8 l.rest;
  same : str_eq_ignore_ascii_case (plain_of l.fn.name) l.fn.word ≡ str_eq_ignore_ascii_case (plain_of l.rest) l.left;
}

abbrev pub decreases-parts : goal.decreases-parts
decreases-parts l = length l.rest
