-- Laws of white space.
use Rattle.std.specs.Prelude.{◌≡◌, ◌<◌, ℕ, suc, ◌==◌, Bool, true, false, not, List, ◌∷◌, ◌++◌, filter, Some, slice_get, length}
use Rattle.std.specs.List.{flat_map}
use Rattle.inline_text.specs.declared.space.TextPart.{TextPart}
use Rattle.inline_text.specs.Space.{Char, chars_from, trimmed, squeezed, is_blank, is_space, is_newline, meets_newline, spelled, collapsed}

-- the characters that are left of some parts
abbrev pub left_of : List TextPart → List Char
left_of ps = squeezed true (trimmed false (chars_from 0 ps))

-- whether a character is no collapsible white space
abbrev pub is_other : Char → Bool
is_other c = not (is_space c.class)

-- characters other than collapsible white space stay, in their part and in their order
abbrev pub OthersStay : Type 0
OthersStay = (ps : List TextPart) → filter is_other (left_of ps) ≡ filter is_other (chars_from 0 ps)

-- no collapsible space is left at the beginning
abbrev pub NoneBegins : Type 0
NoneBegins = (ps : List TextPart) (c : Char) → slice_get (left_of ps) 0 ≡ Some c → is_space c.class ≡ false

-- no collapsible space is left after another one, or after a newline
abbrev pub NoneAdjoin : Type 0
NoneAdjoin = (ps : List TextPart) (i : ℕ) (c d : Char) → slice_get (left_of ps) i ≡ Some c →
    slice_get (left_of ps) (suc i) ≡ Some d → is_space d.class ≡ true → (is_space c.class ≡ false) ×
    (is_newline c.class ≡ false)

-- each part's text is what its characters that are left print, in their order
abbrev pub TextsAreCharacters : Type 0
TextsAreCharacters = (ps : List TextPart) (k : ℕ) → k < length ps →
    slice_get (collapsed ps) k ≡ Some (flat_map (λ c. spelled c.class c.code) (filter (λ c. c.part == k) (left_of ps)))

-- what is left where a space follows a character that is none and no newline: both stay side by side, after all others
-- that come before
pub record StaysAfter (left before : List Char) (c s : Char) : Type 0 where
  pub front : List Char
  pub rest : List Char
  pub is : left ≡ front ++ c ∷ s ∷ rest
  pub others : filter is_other front ≡ filter is_other before

-- the first collapsible space after another character stays, unless it is a blank before a newline
abbrev pub FirstStays : Type 0
FirstStays = (ps : List TextPart) (before after : List Char) (c s : Char) → chars_from 0 ps ≡ before ++ c ∷ s ∷ after →
    is_space c.class ≡ false → is_newline c.class ≡ false → is_space s.class ≡ true →
    (is_blank s.class ≡ true → meets_newline after ≡ false) → StaysAfter (left_of ps) before c s
