use Rattle.std.proofs.Common.{◌≡◌, ◌++◌, length}
use Rattle.std.specs.Prelude.{string_bytes}
use Rattle.std.specs.Str.{IsUtf8}
use Rattle.css_tok.specs.Plain.{plain_of}
use Rattle.css_tok.proofs.plain.plain.Given as goal

abbrev pub invariant-parts : goal.invariant-parts
invariant-parts l = record {
  utf8 : IsUtf8 l.rest;
  read : string_bytes l.text ++ plain_of l.rest ≡ plain_of l.fn.slice;
}

abbrev pub decreases-parts : goal.decreases-parts
decreases-parts l = length l.rest
