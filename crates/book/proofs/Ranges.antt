-- Computed styles are in the ranges that boxes ask for, and the root has one.
use Rattle.std.proofs.Common.{ℕ, List}
use Rattle.box_gen.specs.Sources.{IsRootShown}
use Rattle.cascade.specs.declared.sheet.ReadSheet.{ReadSheet}
use Rattle.computed.specs.Document.{AreDocumentStyles}
use Rattle.computed.specs.Laws.{StylesKeepRanges, RootIsShown}
use Rattle.dom.specs.Nodes.{Node, IsTree}
use Rattle.style.specs.Nodes.{NodeStyles}
use Rattle.style.specs.Ranges.{AreInRange}

module _ (nodes : List Node) (sheets : List ReadSheet) (names : List (List ℕ)) (rows : List NodeStyles) (tree : IsTree nodes) (styles : AreDocumentStyles names nodes sheets rows) where
  pub styles_in_range : StylesKeepRanges → AreInRange rows
  styles_in_range law n p s e = (law nodes sheets names rows tree styles n p s e).0

  pub root_shown : RootIsShown → IsRootShown rows
  root_shown law =
      let (own, shown, count) = law nodes sheets names rows tree styles in
      record { style = own.0; own = own.1; shown = shown }
