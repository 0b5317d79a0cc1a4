use Rattle.std.proofs.Common.{◌≡◌, take, min}
use Rattle.std.specs.Str.Parse.{digits_value}
use Rattle.css_tok.proofs.numbers.whole_of.Given as goal

abbrev pub invariant-loop-b : goal.invariant-loop-b
invariant-loop-b l = l.value ≡ min 999999999 (digits_value 10 (take l.b-index l.digits))
