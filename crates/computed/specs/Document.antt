-- The styles of a document by its sheets.
use Rattle.std.specs.Prelude.{ℕ, List}
use Rattle.dom.specs.Nodes.{Node}
use Rattle.style.specs.Nodes.{NodeStyles}
use Rattle.cascade.specs.declared.sheet.ReadSheet.{ReadSheet}
use Rattle.cascade.specs.declared.table.NodeWinners.{NodeWinners}
use Rattle.cascade.specs.Document.{AreAllWinners}
use Rattle.computed.specs.Walk.{AreStyles}

-- each node has the styles that what wins for it gives (CSS 2.1, 6), and the page names are numbered as they are first
-- seen
pub record AreDocumentStyles (names : List (List ℕ)) (dom : List Node) (sheets : List ReadSheet)
    (rows : List NodeStyles) : Type 0 where
  pub winners : List NodeWinners
  pub are_winners : AreAllWinners dom sheets winners
  pub styles : AreStyles names dom winners rows
