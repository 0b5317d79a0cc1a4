use Rattle.std.proofs.Common.{subst}
use Rattle.std.proofs.lemmas.Str.{IsUtf8-string_bytes}
use Rattle.inline_text.specs.Joined.{AreTexts}
use Rattle.inline_text.proofs.joined.JoinedText.len.Goals as goal

pub returns-clause-texts : goal.returns-clause-texts
returns-clause-texts c = subst AreTexts c.self.view_is (record { utf8 = IsUtf8-string_bytes c.self.inside.text; stand = c.self.invariant })
