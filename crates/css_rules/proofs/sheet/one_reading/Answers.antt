use Rattle.std.proofs.Common.{false}
use Rattle.css_rules.proofs.Unique.{rules_unique}
use Rattle.css_rules.proofs.Total.{has_rules}
use Rattle.css_rules.proofs.sheet.one_reading.Goals as goal

pub returns : goal.returns
returns c = λ ts. (has_rules false ts, λ rs qs ps os a b. rules_unique a b)
