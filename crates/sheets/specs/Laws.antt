-- That texts have readings, and that sheets have one list of page rules.
use Rattle.std.specs.Prelude.{◌≡◌, ℕ, List}
use Rattle.sheets.specs.Readings.{SheetOf, AreReadings}
use Rattle.sheets.specs.Sources.{Source, ArePageRules}
use Rattle.css_page.specs.declared.rules.PageRule.{PageRule}

-- each text is read as one sheet
abbrev pub TextsAreRead : Type 0
TextsAreRead = (reading : List ℕ → SheetOf) × AreReadings reading

-- the page rules of sheets are one list
abbrev pub PageRulesAreOne : Type 0
PageRulesAreOne = (sources : List Source) (rules others : List PageRule) → ArePageRules sources rules →
    ArePageRules sources others → rules ≡ others
