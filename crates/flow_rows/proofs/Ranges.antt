-- Computed styles are in the ranges that boxes ask for.
use Rattle.std.proofs.Common.{ℕ, List}
use Rattle.cascade.specs.declared.sheet.ReadSheet.{ReadSheet}
use Rattle.computed.specs.Document.{AreDocumentStyles}
use Rattle.computed.specs.Laws.{StylesKeepRanges}
use Rattle.dom.specs.Nodes.{Node, IsTree}
use Rattle.style.specs.Nodes.{NodeStyles}
use Rattle.style.specs.Ranges.{AreInRange}

module _ (nodes : List Node) (sheets : List ReadSheet) (names : List (List ℕ)) (rows : List NodeStyles) (tree : IsTree nodes) (styles : AreDocumentStyles names nodes sheets rows) where
  pub styles_in_range : StylesKeepRanges → AreInRange rows
  styles_in_range law n p s e = (law nodes sheets names rows tree styles n p s e).0
