-- What a run of inline text keeps.
use Rattle.std.specs.Prelude.{List, length, map}
use Rattle.std.specs.List.{All}
use Rattle.box_gen.specs.declared.run.InlineRun.TheInside.{Inside}
use Rattle.box_gen.specs.Items.{InlineItem, IsTextOf, items_in, text_in}

-- its items
abbrev pub run_in : Inside → List InlineItem
run_in r = items_in (map text_in r.texts.items) r.entries.items

-- each text that comes next is one of its texts
abbrev pub AreTexts : Inside → Type 0
AreTexts r = All (IsTextOf (length r.texts.items)) r.entries.items
