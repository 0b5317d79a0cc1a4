-- Laws of winners.
use Rattle.std.specs.Prelude.{◌≡◌, ℕ, List, Some, slice_get}
use Rattle.bk_num.specs.declared.values.Pseudo.{Pseudo}
use Rattle.selectors.specs.Match.{Tree}
use Rattle.style.specs.declared.long.Long.{Long}
use Rattle.cascade.specs.declared.sheet.ReadSheet.{ReadSheet}
use Rattle.cascade.specs.Candidates.{Declared, AppliedDeclsOf, DeclaredBy}
use Rattle.cascade.specs.Winners.{IsWinner, AreWinners}
use Rattle.cascade.specs.Document.{IsDeclaredAt}

-- rules at one place of the order are one rule, which applies by several selectors, and there is one style attribute
abbrev pub ArePlaced : List AppliedDeclsOf → Type 0
ArePlaced rules =
    (j k : ℕ) (r s : AppliedDeclsOf) → slice_get rules j ≡ Some r → slice_get rules k ≡ Some s →
    r.weight.styled ≡ s.weight.styled →
    r.weight.rule ≡ s.weight.rule → r.decls ≡ s.decls

-- a longhand has one winner
abbrev pub OneWins : Type 0
OneWins =
    (rules : List AppliedDeclsOf) → ArePlaced rules → (slot : ℕ) (a b : Declared) → IsWinner (DeclaredBy rules) slot a →
    IsWinner (DeclaredBy rules) slot b → a.long ≡ b.long

-- what wins for a node or for its pseudo-element is one list
abbrev pub WinnersAreOne : Type 0
WinnersAreOne =
    (dom : Tree) (sheets : List ReadSheet) (n : ℕ) (p : Pseudo) (longs more : List Long) →
    AreWinners (IsDeclaredAt dom sheets n p) longs → AreWinners (IsDeclaredAt dom sheets n p) more → longs ≡ more
