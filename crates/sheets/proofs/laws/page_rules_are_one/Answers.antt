use Rattle.sheets.proofs.PageLemmas.{pages-one}
use Rattle.sheets.proofs.laws.page_rules_are_one.Goals as goal

pub returns : goal.returns
returns c = pages-one c.one_reading.ensures
