use Rattle.unread.proofs.report.push_finding.Goals as goal

pub returns-in-Family : goal.returns-in-Family
returns-in-Family c = rw (c.in-Family.is, ← c.as_str.ensures) c.push_line-in-Family.ensures
