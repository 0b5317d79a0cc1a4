-- The lines of a report: one for each thing that is found, in the order of the sheets and of their texts, and then
-- those of the document.
use Rattle.std.specs.Prelude.{ℕ, zero, suc, ◌+◌, not, if◌then◌else◌, ◌==◌, List, [], ◌∷◌, ◌++◌, take, map, codes, decimal, slice_index, unwrap_or}
use Rattle.css_tok.specs.Lengths.{is_blank}
use Rattle.std.specs.List.{flat_map, prefix_len}
use Rattle.bk_io.specs.Escapes.{shown_byte}
use Rattle.dom.specs.Nodes.{Node, attribute_at}
use Rattle.metrics.specs.Face.{FontFace}
use Rattle.sheets.specs.Sheets.{element_sheets}
use Rattle.unread_list.specs.Parts.{PartOf, Selectors, PageSelectors, Declaration, AtRule, Media, NoBlock}
use Rattle.unread_list.specs.Families.{FindingOf, Unread, Family, findings_of}
use Rattle.unread_list.specs.Elements.{IdleOf, idle_elements}
use Rattle.unread_list.specs.declared.elements.Idle.{Idle}
use Rattle.unread_list.specs.declared.elements.Idle.TheVariants as idle

-- how long a text is up to its first line feed, which is 10
abbrev pub line_len : List ℕ → ℕ
line_len text = prefix_len (λ b. not (b == 10)) text

-- how many of the first n bytes are left without the white space at their end
unfoldable pub trimmed_len : List ℕ → ℕ → ℕ
trimmed_len bs zero = 0
trimmed_len bs (suc n) = if is_blank (slice_index bs n) then trimmed_len bs n else suc n

-- what a line shows of a text: its first line, without the white space at its end, its controls so that a text can't
-- command a terminal
abbrev pub shown : List ℕ → List ℕ
shown text = flat_map shown_byte (take (trimmed_len text (line_len text)) text)

-- the word for a part that has no reading
abbrev pub part_word : PartOf → List ℕ
part_word (Selectors text) = codes ": selectors not read: "
part_word (PageSelectors text selectors) = codes ": page selectors not read: "
part_word (Declaration o text d) = codes ": declaration not read: "
part_word (AtRule text) = codes ": at-rule not read: "
part_word (Media text) = codes ": media list not read: "
part_word (NoBlock text) = codes ": no block: "

-- its text
abbrev pub part_text : PartOf → List ℕ
part_text (Selectors text) = text
part_text (PageSelectors text selectors) = text
part_text (Declaration o text d) = text
part_text (AtRule text) = text
part_text (Media text) = text
part_text (NoBlock text) = text

-- a line: a place, which is a sheet and a line of it, a word and a text
abbrev pub line_of : List ℕ → ℕ → List ℕ → List ℕ → List ℕ
line_of place line word text = place ++ (codes ":" ++ (decimal line ++ (word ++ (shown text ++ codes "\n"))))

-- the line of what is found in a sheet
abbrev pub finding_line : List ℕ → FindingOf → List ℕ
finding_line place (Unread p) = line_of place p.line (part_word p.part) (part_text p.part)
finding_line place (Family line name) = line_of place line (codes ": family without a face: ") name

-- the lines of a sheet
abbrev pub sheet_lines : List FontFace → List ℕ → List ℕ → List ℕ
sheet_lines faces place text = flat_map (finding_line place) (findings_of faces text)

-- the place of a sheet: a word and its number
abbrev pub place_of : List ℕ → ℕ → List ℕ
place_of word n = word ++ decimal n

-- the lines of sheets that are numbered from n on
abbrev pub sheets_lines : List FontFace → List ℕ → ℕ → List (List ℕ) → List ℕ
sheets_lines faces word n [] = []
sheets_lines faces word n (text ∷ texts) =
    sheet_lines faces (place_of word n) text ++ sheets_lines faces word (n + 1) texts

-- why an element does nothing
abbrev pub idle_word : Idle → List ℕ
idle_word idle.Link = codes "html: link does nothing: "
idle_word idle.Image = codes "html: img without alt: "
idle_word idle.Table = codes "html: table is set as blocks: "
idle_word idle.Style = codes "html: style not read, its media: "
idle_word idle.Reference = codes "html: reference without a target: "

-- the attribute that tells which one it is
abbrev pub idle_key : Idle → List ℕ
idle_key idle.Link = codes "href"
idle_key idle.Image = codes "src"
idle_key idle.Table = codes "id"
idle_key idle.Style = codes "media"
idle_key idle.Reference = codes "href"

-- the line of an element that does nothing
abbrev pub idle_line : List Node → IdleOf → List ℕ
idle_line nodes e =
    idle_word e.why ++ (shown (unwrap_or (attribute_at nodes e.element (idle_key e.why)) []) ++ codes "\n")

-- the lines of a document
abbrev pub idle_lines : List Node → List ℕ
idle_lines nodes = flat_map (idle_line nodes) (idle_elements nodes)

-- the lines of a book: those of its files' sheets, those of its `style` elements, and those of its document
abbrev pub report_of : List FontFace → List Node → List (List ℕ) → List ℕ
report_of faces nodes files =
    sheets_lines faces (codes "sheet ") 1 files ++
    (sheets_lines faces (codes "style ") 1 (map (λ s. s.text) (element_sheets nodes)) ++ idle_lines nodes)
