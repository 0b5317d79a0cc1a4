-- What the pass over the characters keeps.
use Rattle.std.specs.Prelude.{ℕ, ◌+◌, ◌==◌, ◌||◌, ◌&&◌, not, nat_lt, Bool, true, false, List, [], ◌∷◌, length, slice_index}
use Rattle.inline_text.specs.Joined.{Laid, laid_on}
use Rattle.inline_text.specs.Space.{Char, mark, trimmed, squeezed, spelled}
use Rattle.inline_text.specs.declared.space.CharClass.{CharClass}
use Rattle.inline_text.specs.declared.space.CharClass.TheVariants.{Blank, SoftBreak, HardBreak, Tab, Plain}
use Rattle.inline_text.specs.declared.space.Gap.{Gap}
use Rattle.inline_text.specs.declared.space.Gap.TheVariants.{Spaced, Pending, Open}

-- whether a byte is a space, a tab or a newline
abbrev pub is_white : ℕ → Bool
is_white b = b == 32 || b == 9 || b == 10

-- whether a byte of a text is a space that no white space follows, before the text's end
abbrev pub is_joint : List ℕ → ℕ → Bool
is_joint text k = slice_index text k == 32 && nat_lt (k + 1) (length text) && not (is_white (slice_index text (k + 1)))

-- whether the words that begin at a place end before a byte: at white space that isn't one space between two words
abbrev pub stops : List ℕ → ℕ → ℕ → Bool
stops text from k = is_white (slice_index text k) && (k == from || not (is_joint text k))

-- each character at the end of its part's text, in the one text of all parts
abbrev pub laid : Laid → List Char → Laid
laid l [] = l
laid l (c ∷ cs) = laid (laid_on l c.part (spelled c.class c.code)) cs

-- what is left of the characters to come, where this stands before them
abbrev pub left_from : Gap → List Char → List Char
left_from Spaced cs = squeezed true (trimmed false cs)
left_from (Pending q) cs = squeezed false (trimmed false (mark Blank 32 q ∷ cs))
left_from Open cs = squeezed false (trimmed false cs)

-- what stands before the next character after a blank of a part
abbrev pub next_blank : Gap → ℕ → Gap
next_blank Spaced part = Spaced
next_blank (Pending q) part = Pending q
next_blank Open part = Pending part

-- what stands before the next character after one of a class in a part
abbrev pub next_gap : Gap → CharClass → ℕ → Gap
next_gap gap Blank part = next_blank gap part
next_gap gap SoftBreak part = Spaced
next_gap gap HardBreak part = Spaced
next_gap gap Tab part = Open
next_gap gap Plain part = Open

-- the space that waits is put
abbrev pub settled : Laid → Gap → Laid
settled l Spaced = l
settled l (Pending q) = laid_on l q (32 ∷ [])
settled l Open = l

-- a newline that is a space is put: the space that waits goes
abbrev pub folded : Laid → Gap → ℕ → Laid
folded l Spaced part = l
folded l (Pending q) part = laid_on l part (32 ∷ [])
folded l Open part = laid_on l part (32 ∷ [])

-- a character of a class in a part is put, as far as it is already known to be left
abbrev pub put_of : Laid → Gap → CharClass → ℕ → ℕ → Laid
put_of l gap Blank c part = l
put_of l gap SoftBreak c part = folded l gap part
put_of l gap HardBreak c part = laid_on l part (spelled HardBreak c)
put_of l gap Tab c part = laid_on (settled l gap) part (spelled Tab c)
put_of l gap Plain c part = laid_on (settled l gap) part (spelled Plain c)
