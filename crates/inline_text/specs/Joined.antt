-- Texts that stand one after the other in one text, and where each of them ends.
use Rattle.std.specs.Prelude.{ℕ, zero, suc, ◌+◌, ◌-◌, List, [], ◌∷◌, ◌++◌, length}
use Rattle.std.specs.List.{All}
use Rattle.std.specs.Str.{IsCharBoundary, IsUtf8}

-- some texts, one after the other
abbrev pub joined : List (List ℕ) → List ℕ
joined [] = []
joined (t ∷ ts) = t ++ joined ts

-- where texts end that stand one after the other, from an offset on
abbrev pub ends_from : ℕ → List (List ℕ) → List ℕ
ends_from at [] = []
ends_from at (t ∷ ts) = (at + length t) ∷ ends_from (at + length t) ts

-- one text that is made of several, and where those of them end that are complete
pub record Laid : Type 0 where
  pub bytes : List ℕ
  pub ends : List ℕ

-- several texts, one after the other, all of them complete
abbrev pub laid_texts : List (List ℕ) → Laid
laid_texts ts = record { bytes = joined ts; ends = ends_from 0 ts }

-- an offset, as often as a number says
abbrev pub repeated : ℕ → ℕ → List ℕ
repeated zero at = []
repeated (suc n) at = at ∷ repeated n at

-- as many texts are complete: those that weren't end where all ends
abbrev pub reached : Laid → ℕ → Laid
reached l n = record { bytes = l.bytes; ends = l.ends ++ repeated (n - length l.ends) (length l.bytes) }

-- more at the end of the text with a number, before which all are complete
abbrev pub laid_on : Laid → ℕ → List ℕ → Laid
laid_on l n s = record { bytes = l.bytes ++ s; ends = (reached l n).ends }

-- the one text is UTF-8, and each of those that are complete ends at a character
pub record AreTexts (l : Laid) : Type 0 where
  pub utf8 : IsUtf8 l.bytes
  pub stand : All (IsCharBoundary l.bytes) l.ends
