-- Findings as contracts see them.
use Rattle.unread_list.specs.Families.{FindingOf, Unread, Family}
use Rattle.unread_list.specs.Steps.{placed_in}
use Rattle.unread_list.specs.declared.finding.Finding.{Finding}
use Rattle.unread_list.specs.declared.finding.Finding.TheVariants as finding

-- what is found, by the bytes of its texts
abbrev pub finding_in : Finding → FindingOf
finding_in (finding.Unread p) = Unread (placed_in p)
finding_in (finding.Family line name) = Family line name
