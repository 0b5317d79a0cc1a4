-- Laws of styles.
use Rattle.std.specs.Prelude.{◌≡◌, ℕ, true, List, Some, length, slice_get}
use Rattle.bk_num.specs.declared.values.Pseudo.{Pseudo}
use Rattle.bk_num.specs.declared.values.Pseudo.TheVariants as pseudo
use Rattle.dom.specs.Nodes.{Node, IsTree}
use Rattle.style.specs.Nodes.{NodeStyles, style_at, is_shown_in}
use Rattle.style.specs.Ranges.{HasMargins, IsInRange}
use Rattle.style.specs.declared.style.Style.{Style}
use Rattle.cascade.specs.declared.sheet.ReadSheet.{ReadSheet}
use Rattle.computed.specs.Document.{AreDocumentStyles}

-- a document has one list of page names and one list of styles by its sheets
abbrev pub StylesAreOne : Type 0
StylesAreOne =
    (dom : List Node) (sheets : List ReadSheet) (names more : List (List ℕ)) (rows others : List NodeStyles) →
    IsTree dom →
    AreDocumentStyles names dom sheets rows → AreDocumentStyles more dom sheets others →
    (names ≡ more) × (rows ≡ others)

-- computed values keep their ranges, whatever is declared
abbrev pub StylesKeepRanges : Type 0
StylesKeepRanges =
    (dom : List Node) (sheets : List ReadSheet) (names : List (List ℕ)) (rows : List NodeStyles) → IsTree dom →
    AreDocumentStyles names dom sheets rows → (k : ℕ) (p : Pseudo) (s : Style) → style_at rows k p ≡ Some s →
    IsInRange s × HasMargins s

-- the root has a style and is shown, and each node has a row
abbrev pub RootIsShown : Type 0
RootIsShown =
    (dom : List Node) (sheets : List ReadSheet) (names : List (List ℕ)) (rows : List NodeStyles) → IsTree dom →
    AreDocumentStyles names dom sheets rows →
    ((s : Style) × (style_at rows 0 pseudo.Element ≡ Some s)) × (is_shown_in (slice_get rows 0) ≡ true) ×
    (length rows ≡ length dom)
