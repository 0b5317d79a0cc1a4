-- The bytes of a listing's records: each is one line, its fields parted by one space, its numbers in decimal.
use Rattle.std.specs.Prelude.{ℕ, Bool, not, List, [], ◌∷◌, ◌++◌, ◌==◌, ◌||◌, if◌then◌else◌, codes, ℤ, pos}
use Rattle.std.specs.Fmt.{signed_decimal}
use Rattle.std.specs.List.{flat_map}
use Rattle.bk_num.specs.declared.values.Color.{Color}
use Rattle.bk_num.specs.declared.values.Side.{Side}
use Rattle.bk_num.specs.declared.values.Side.TheVariants as side
use Rattle.boxes.specs.declared.item.Item.{Item}
use Rattle.boxes.specs.declared.item.Item.TheVariants as item
use Rattle.boxes.specs.declared.frames.PageKind.{PageKind}
use Rattle.boxes.specs.declared.frames.PageKind.TheVariants as kind
use Rattle.bk_io.specs.Escapes.{hex_pair, is_control, shown_byte}

-- whether a byte of a string has a `\` before it: `"` and `\`
abbrev pub is_quoted : ℕ → Bool
is_quoted b = b == 34 || b == 92

-- a byte of a string: `"` and `\` have a `\` before them, controls are shown, and others stand as they are
unfoldable pub escape : ℕ → List ℕ
escape b = if is_quoted b then 92 ∷ b ∷ [] else shown_byte b

-- whether a byte of a string stands as it is
unfoldable pub stands : ℕ → Bool
stands b = not (is_quoted b || is_control b)

-- a string in its quotes
unfoldable pub quoted : List ℕ → List ℕ
quoted bs = 34 ∷ [] ++ flat_map escape bs ++ 34 ∷ []

-- a space and a number
unfoldable pub field : ℤ → List ℕ
field n = codes " " ++ signed_decimal n

-- a space and a word
unfoldable pub word : List ℕ → List ℕ
word bs = codes " " ++ bs

-- a space and a string
unfoldable pub string_field : List ℕ → List ℕ
string_field bs = codes " " ++ quoted bs

-- a space and a colour, `#rrggbb`
unfoldable pub color_field : Color → List ℕ
color_field c = codes " #" ++ hex_pair c.red ++ hex_pair c.green ++ hex_pair c.blue

-- the word for a side
abbrev pub side_name : Side → List ℕ
side_name side.Left = codes "left"
side_name side.Right = codes "right"

-- the word for a kind of page
abbrev pub kind_name : PageKind → List ℕ
kind_name kind.Flow = codes "flow"
kind_name kind.Blank = codes "blank"
kind_name kind.Notes = codes "notes"

-- `book PAGES PASSES`
unfoldable pub book_record : ℕ → ℕ → List ℕ
book_record pages passes = codes "book" ++ field (pos pages) ++ field (pos passes) ++ codes "\n"

-- `page INDEX NUMBER SIDE KIND NAME WIDTH HEIGHT`
unfoldable pub page_record : ℕ → ℤ → Side → PageKind → List ℕ → ℤ → ℤ → List ℕ
page_record index number side kind name width height =
    codes "page" ++ field (pos index) ++ field number ++ word (side_name side) ++ word (kind_name kind)
    ++ string_field name ++
    field width ++ field height ++ codes "\n"

-- the left, top, width and height of an area
abbrev pub area_fields : ℤ → ℤ → ℤ → ℤ → List ℕ
area_fields x y w h = field x ++ field y ++ field w ++ field h

-- `line X Y W H`
unfoldable pub line_record : ℤ → ℤ → ℤ → ℤ → List ℕ
line_record x y w h = codes "line" ++ area_fields x y w h ++ codes "\n"

-- the style of a face, between its name and its weight
unfoldable pub style_name : Bool → List ℕ
style_name italic = if italic then codes "/italic/" else codes "/normal/"

-- a space and a face by its name, style and weight
unfoldable pub face_field : List ℕ → Bool → ℕ → List ℕ
face_field name italic weight = codes " " ++ name ++ style_name italic ++ signed_decimal (pos weight)

-- `text X Y FACE SIZE COLOR STRING`, with the face by its name, style and weight
unfoldable pub text_record : ℤ → ℤ → List ℕ → ℤ → Color → List ℕ → List ℕ
text_record x y face size color text =
    codes "text" ++ field x ++ field y ++ face ++ field size ++ color_field color ++ string_field text ++ codes "\n"

-- `rect X Y W H COLOR`
unfoldable pub rect_record : ℤ → ℤ → ℤ → ℤ → Color → List ℕ
rect_record x y w h color = codes "rect" ++ area_fields x y w h ++ color_field color ++ codes "\n"

-- the word for an upper and a lower edge
abbrev pub edge_name : Bool → List ℕ
edge_name opens = if opens then codes "open" else codes "close"

-- `edge open X Y W H` or `edge close X Y W H`, with the border box's left and width
unfoldable pub edge_record : Bool → ℤ → ℤ → ℤ → ℤ → List ℕ
edge_record opens x y w h = codes "edge" ++ word (edge_name opens) ++ area_fields x y w h ++ codes "\n"

-- `hyphen X Y FACE SIZE COLOR "-"`
unfoldable pub hyphen_record : ℤ → ℤ → List ℕ → ℤ → Color → List ℕ
hyphen_record x y face size color =
    codes "hyphen" ++ field x ++ field y ++ face ++ field size ++ color_field color ++ string_field (codes "-")
    ++ codes "\n"

-- the record of what a page prints
unfoldable pub item_record : Item → List ℕ
item_record (item.Rect x y w h color) = rect_record x y w h color
item_record (item.Edge opens x y w h) = edge_record opens x y w h
item_record (item.Line x y w h) = line_record x y w h
item_record (item.Text x y face size color text) = text_record x y (word face) size color text
item_record (item.Hyphen x y face size color) = hyphen_record x y (word face) size color

-- `end`
unfoldable pub end_record : List ℕ
end_record = codes "end\n"
