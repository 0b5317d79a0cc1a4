-- Which elements have a marker (CSS 2.1, 12.5).
use Rattle.std.specs.Prelude.{ℕ, List, Bool, true, false, not, ◌&&◌, codes}
use Rattle.style.specs.declared.style.Style.{Style}
use Rattle.style.specs.declared.values.Display.{Display}
use Rattle.style.specs.declared.values.Display.TheVariants as display

-- the counter of list items (CSS 2.1, 12.5)
abbrev pub list_item : List ℕ
list_item = codes "list-item"

-- a list item
abbrev pub is_list_item : Display → Bool
is_list_item display.ListItem = true
is_list_item display.Inline = false
is_list_item display.Block = false
is_list_item display.Hidden = false

-- whether an element has a marker: a list item that doesn't float to the notes, and isn't the root, which is a block
abbrev pub has_marker : Bool → Style → Bool
has_marker root s = not root && (is_list_item s.display && not s.float)
