-- White space over a sequence of parts (CSS 2.1, 16.6.1).
use Rattle.std.specs.Prelude.{ℕ, zero, suc, ◌+◌, ◌==◌, ◌||◌, Bool, true, false, List, [], ◌∷◌, ◌++◌, map, if◌then◌else◌}
use Rattle.std.specs.Str.{chars}
use Rattle.std.specs.Char.{encode_utf8}
use Rattle.bk_num.specs.declared.values.WhiteSpace.{WhiteSpace}
use Rattle.bk_num.specs.declared.values.WhiteSpace.TheVariants as space
use Rattle.inline_text.specs.declared.space.TextPart.{TextPart}
use Rattle.inline_text.specs.declared.space.CharClass.{CharClass}
use Rattle.inline_text.specs.declared.space.CharClass.TheVariants.{Blank, SoftBreak, HardBreak, Tab, Plain}

-- whether spaces and tabs collapse
abbrev pub collapses : WhiteSpace → Bool
collapses space.Normal = true
collapses space.NoWrap = true
collapses space.Pre = false
collapses space.PreWrap = false
collapses space.PreLine = true

-- whether a newline is a space
abbrev pub folds_newlines : WhiteSpace → Bool
folds_newlines space.Normal = true
folds_newlines space.NoWrap = true
folds_newlines space.Pre = false
folds_newlines space.PreWrap = false
folds_newlines space.PreLine = false

-- what a character is to the collapsing of white space that is treated so
abbrev pub class_of : ℕ → WhiteSpace → CharClass
class_of c s = if c == 32 then (if collapses s then Blank else Plain) else
    (if c == 9 then (if collapses s then Blank else Tab) else
    (if c == 10 then (if folds_newlines s then SoftBreak else HardBreak) else Plain))

-- a character of a part
pub record Char : Type 0 where
  pub class : CharClass
  pub code : ℕ
  pub part : ℕ

-- the same from its parts
abbrev pub mark : CharClass → ℕ → ℕ → Char
mark class code part = record { class = class; code = code; part = part }

-- the characters of a part with a number
abbrev pub marked : WhiteSpace → ℕ → List ℕ → List Char
marked s k cs = map (λ c. mark (class_of c s) c k) cs

-- the characters of a part with a number
abbrev pub chars_of_part : ℕ → TextPart → List Char
chars_of_part k p = marked p.space k (chars p.text)

-- the characters of some parts, which are numbered from k on
abbrev pub chars_from : ℕ → List TextPart → List Char
chars_from k [] = []
chars_from k (p ∷ ps) = chars_of_part k p ++ chars_from (k + 1) ps

-- whether a character is a space or a tab that collapses
abbrev pub is_blank : CharClass → Bool
is_blank Blank = true
is_blank SoftBreak = false
is_blank HardBreak = false
is_blank Tab = false
is_blank Plain = false

-- whether a character is a newline
abbrev pub is_newline : CharClass → Bool
is_newline Blank = false
is_newline SoftBreak = true
is_newline HardBreak = true
is_newline Tab = false
is_newline Plain = false

-- a space that collapses, once newlines are folded
abbrev pub is_space : CharClass → Bool
is_space Blank = true
is_space SoftBreak = true
is_space HardBreak = false
is_space Tab = false
is_space Plain = false

-- whether a newline comes next, blanks aside
abbrev pub meets_newline : List Char → Bool
meets_newline [] = false
meets_newline (c ∷ cs) = if is_blank c.class then meets_newline cs else is_newline c.class

-- without the blanks round newlines, where a newline and blanks alone came before, or not
abbrev pub trimmed : Bool → List Char → List Char
trimmed after [] = []
trimmed after (c ∷ cs) =
    if is_blank c.class then (if after || meets_newline cs then trimmed after cs else c ∷ trimmed after cs) else
    c ∷ trimmed (is_newline c.class) cs

-- without the spaces after a space, after a newline or at the start: whether one of these came before, or not
abbrev pub squeezed : Bool → List Char → List Char
squeezed spaced [] = []
squeezed spaced (c ∷ cs) = if is_space c.class then (if spaced then squeezed spaced cs else c ∷ squeezed true cs) else
    c ∷ squeezed (is_newline c.class) cs

-- what is printed of a character that is left
abbrev pub spelled : CharClass → ℕ → List ℕ
spelled Blank c = 32 ∷ []
spelled SoftBreak c = 32 ∷ []
spelled HardBreak c = encode_utf8 c
spelled Tab c = 32 ∷ 32 ∷ 32 ∷ 32 ∷ 32 ∷ 32 ∷ 32 ∷ 32 ∷ []
spelled Plain c = encode_utf8 c

-- some texts, one of them with more at its end
abbrev pub appended : List (List ℕ) → ℕ → List ℕ → List (List ℕ)
appended [] k s = []
appended (t ∷ ts) zero s = (t ++ s) ∷ ts
appended (t ∷ ts) (suc k) s = t ∷ appended ts k s

-- each character at the end of its part's text
abbrev pub placed : List (List ℕ) → List Char → List (List ℕ)
placed ts [] = ts
placed ts (c ∷ cs) = placed (appended ts c.part (spelled c.class c.code)) cs

-- the texts of some parts with their white space collapsed
abbrev pub collapsed : List TextPart → List (List ℕ)
collapsed ps = placed (map (λ p. []) ps) (squeezed true (trimmed false (chars_from 0 ps)))
