-- What the margin boxes of a page list are asked to be printed with.
use Rattle.std.specs.Prelude.{◌≡◌, length}
use Rattle.strings.specs.Assigned.{AreStrings}
use Rattle.margin_box.specs.declared.items.Margins.{Margins}

-- the running strings are those of the flow on the pages, and each page has a number
pub record CanShowMargins (m : Margins) : Type 0 where
  pub strings : AreStrings m.flow.now.main m.list.now.pages m.flow.now.strings m.strings.now
  pub numbers : length m.numbers.now ≡ length m.list.now.pages
