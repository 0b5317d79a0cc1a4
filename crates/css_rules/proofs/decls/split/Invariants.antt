use Rattle.std.proofs.Common.{◌≡◌, take, length}
use Rattle.std.specs.Str.{IsUtf8}
use Rattle.css_rules.specs.Views.{items_in}
use Rattle.css_rules.specs.Parts.{joined}
use Rattle.css_rules.proofs.decls.split.Given as goal

abbrev pub invariant-loop-token : goal.invariant-loop-token
invariant-loop-token l = record {
  len : l.len ≡ length (joined (items_in (take l.token-index l.tokens)));
  utf8 : IsUtf8 (joined (items_in (take l.token-index l.tokens)));
}
