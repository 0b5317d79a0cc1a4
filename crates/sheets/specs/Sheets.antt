-- The style sheets of a document and of files (HTML, 4.2.6; CSS 2.1, 6.4).
use Rattle.std.specs.Prelude.{ℕ, zero, suc, ◌+◌, Bool, false, ◌&&◌, if◌then◌else◌, List, [], ◌∷◌, ◌++◌, Option, None, Some, length, map, codes, unwrap_or}
use Rattle.std.specs.Str.{bytes_eq}
use Rattle.dom.specs.Nodes.{Node, parents_of, parent_at, name_at, text_at, attribute_at, is_at}
use Rattle.css_tok.specs.Tokens.{tokens_of}
use Rattle.css_rules.specs.Media.{is_media_list}

-- a sheet: the number of its `style` element, and its text
pub record Sheet : Type 0 where
  pub element : ℕ
  pub text : List ℕ

-- the name `style`
abbrev pub is_style_name : Option (List ℕ) → Bool
is_style_name None = false
is_style_name (Some name) = bytes_eq name (codes "style")

-- the media list of an element; one without the attribute is empty
abbrev pub media_of : List Node → ℕ → List ℕ
media_of nodes k = unwrap_or (attribute_at nodes k (codes "media")) []

-- a `style` element whose media list is read is a sheet, wherever it stands
unfoldable pub is_sheet_element : List Node → ℕ → Bool
is_sheet_element nodes k = is_style_name (name_at nodes k) && is_media_list (tokens_of (media_of nodes k))

-- the text that a node gives to an element: a text that is its child
abbrev pub text_under : List Node → ℕ → ℕ → List ℕ
text_under nodes element k =
    if is_at element (parent_at (parents_of nodes) k) then unwrap_or (text_at nodes k) [] else []

-- the texts below an element among n nodes from k on, joined
abbrev pub text_from : List Node → ℕ → ℕ → ℕ → List ℕ
text_from nodes element k zero = []
text_from nodes element k (suc n) = text_under nodes element k ++ text_from nodes element (k + 1) n

-- an element's text: those of its children, joined (DOM, child text content)
abbrev pub child_text : List Node → ℕ → List ℕ
child_text nodes element = text_from nodes element 0 (length nodes)

-- the sheet of a node, where it is a `style` element that counts
abbrev pub sheet_at : List Node → ℕ → List Sheet
sheet_at nodes k = if is_sheet_element nodes k then record { element = k; text = child_text nodes k } ∷ [] else []

-- the sheets among the n nodes from k on
abbrev pub sheets_from : List Node → ℕ → ℕ → List Sheet
sheets_from nodes k zero = []
sheets_from nodes k (suc n) = sheet_at nodes k ++ sheets_from nodes (k + 1) n

-- the sheets of a document's `style` elements, in tree order
abbrev pub element_sheets : List Node → List Sheet
element_sheets nodes = sheets_from nodes 0 (length nodes)

-- the texts of an author's sheets in the order of the cascade: those of files in the order that they are given, and
-- those of elements in tree order
abbrev pub author_texts : List Sheet → List (List ℕ) → List (List ℕ)
author_texts elements files = files ++ map (λ s. s.text) elements
