-- An element's own text, which `content()` prints (css-gcpm-3, "string-set").
use Rattle.std.specs.Prelude.{ℕ, ◌-◌, ◌&&◌, ◌||◌, Bool, not, if◌then◌else◌, List, [], ◌∷◌, ◌++◌, Option, None, Some, slice_get}
use Rattle.std.specs.Char.{encode_utf8}
use Rattle.std.specs.List.{flat_map, list_all, join_with_byte}
use Rattle.css_tok.specs.Lengths.{is_blank}
use Rattle.css_tok.specs.Words.{words_of}
use Rattle.dom.specs.Nodes.{Node, parents_of, parent_at, first_child_of, next_of, depth_at, is_element_at, text_at}
use Rattle.dom.specs.Order.{way}
use Rattle.dom.specs.Walk.{children_of}
use Rattle.dom.specs.WalkFields.{tours_of}
use Rattle.dom.specs.declared.walk.Step.{Step}
use Rattle.dom.specs.declared.walk.Step.TheVariants.{Enter, Leave}
use Rattle.style.specs.Nodes.{NodeStyles, is_shown_in, is_note_in}
use Rattle.gen_text.specs.declared.own.Ending.{Ending}
use Rattle.gen_text.specs.declared.own.Ending.TheVariants as ending
use Rattle.gen_text.specs.Parts.{attribute_text}

-- ---- white space

-- a text with each run of white space as one space, trimmed: its words, with a space between
abbrev pub trimmed : List ℕ → List ℕ
trimmed text = join_with_byte 32 (words_of text)

-- ---- the texts below an element

-- an element that isn't shown, or a note element
abbrev pub is_left_out : List Node → List NodeStyles → ℕ → Bool
is_left_out nodes styles n = is_element_at nodes n &&
    (not (is_shown_in (slice_get styles n)) || is_note_in (slice_get styles n))

-- the nodes on the way from an element down to a node below it, with that node and without the element
abbrev pub way_below : List Node → ℕ → ℕ → List ℕ
way_below nodes e n = way (parents_of nodes) (depth_at nodes n - depth_at nodes e) (Some n)

-- whether none of these is left out
abbrev pub is_kept : List Node → List NodeStyles → ℕ → ℕ → Bool
is_kept nodes styles e n = list_all (λ a. not (is_left_out nodes styles a)) (way_below nodes e n)

-- what a step of the walk through a tree adds: where it goes into a text that is kept, that text
abbrev pub kept_text : List Node → List NodeStyles → ℕ → Step → List ℕ
kept_text nodes styles e (Enter n) = if is_kept nodes styles e n.0 then attribute_text (text_at nodes n.0) else []
kept_text nodes styles e (Leave n) = []

-- the texts below an element in tree order, joined, without those of elements that aren't shown and of note elements
-- (DOM, "descendant text content")
abbrev pub texts_below : List Node → List NodeStyles → ℕ → List ℕ
texts_below nodes styles e =
    flat_map (kept_text nodes styles e) (tours_of (parents_of nodes) (children_of (parents_of nodes) e))

-- an element's own text
abbrev pub own_text : List Node → List NodeStyles → ℕ → List ℕ
own_text nodes styles e = trimmed (texts_below nodes styles e)

-- ---- how it is read, byte by byte, character by character and step by step

-- how a text ends, once more white space has come
abbrev pub spaced : Ending → Ending
spaced ending.Nothing = ending.Nothing
spaced ending.Word = ending.Space
spaced ending.Space = ending.Space

-- the space before the next word
abbrev pub lead : Ending → List ℕ
lead ending.Nothing = []
lead ending.Word = []
lead ending.Space = 32 ∷ []

-- what a byte adds to the words of a text, and how the text then ends
abbrev pub added_by : Ending → ℕ → List ℕ
added_by t b = if is_blank b then [] else lead t ++ b ∷ []

-- how a text ends, once a byte has come
abbrev pub ending_by : Ending → ℕ → Ending
ending_by t b = if is_blank b then spaced t else ending.Word

-- what a character adds, which is all of its bytes or none
abbrev pub added_by_char : Ending → ℕ → List ℕ
added_by_char t c = if is_blank c then [] else lead t ++ encode_utf8 c

-- what more of a text adds, and how the text then ends
abbrev pub added : Ending → List ℕ → List ℕ
added t [] = []
added t (b ∷ bs) = added_by t b ++ added (ending_by t b) bs

-- how a text ends, once more of it has come
abbrev pub ending_after : Ending → List ℕ → Ending
ending_after t [] = t
ending_after t (b ∷ bs) = ending_after (ending_by t b) bs

-- the text that a step goes into
abbrev pub text_of_step : List Node → Step → List ℕ
text_of_step nodes (Enter n) = attribute_text (text_at nodes n.0)
text_of_step nodes (Leave n) = []

-- into the first child of a node, or out of the node where it has none
abbrev pub step_to : ℕ → Option ℕ → Step
step_to n None = Leave (record { 0 = n })
step_to n (Some c) = Enter (record { 0 = c })

-- the first step below a node, or out of it where it has no children
abbrev pub step_inside : List Node → ℕ → Step
step_inside nodes n = step_to n (first_child_of (parents_of nodes) n)

-- out of the parent of a node, or out of the node itself where it is a root
abbrev pub step_out : ℕ → Option ℕ → Step
step_out n None = Leave (record { 0 = n })
step_out n (Some p) = Leave (record { 0 = p })

-- into the next sibling of a node, or else out of its parent
abbrev pub step_on : ℕ → Option ℕ → Option ℕ → Step
step_on n (Some s) p = Enter (record { 0 = s })
step_on n None p = step_out n p

-- the step after a node is left
abbrev pub step_beyond : List Node → ℕ → Step
step_beyond nodes n = step_on n (next_of (parents_of nodes) n) (parent_at (parents_of nodes) n)

-- the step after one, past all below an element that is left out
abbrev pub step_after : List Node → List NodeStyles → Step → Step
step_after nodes styles (Enter n) = if is_left_out nodes styles n.0 then Leave n else step_inside nodes n.0
step_after nodes styles (Leave n) = step_beyond nodes n.0
