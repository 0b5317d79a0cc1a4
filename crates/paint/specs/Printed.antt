-- Which text a page prints: that of the lines on it, each character once and in order.
use Rattle.std.specs.Prelude.{◌≡◌, ℕ, List, [], ◌++◌, Option, None, Some, ◌==◌, length, slice_get, slice_range, if◌then◌else◌}
use Rattle.std.specs.List.{All, flat_map, range_with_len}
use Rattle.metrics.specs.Face.{FontFace}
use Rattle.boxes.specs.Lines.{LineView}
use Rattle.boxes.specs.Tree.{IsTree, Tree}
use Rattle.boxes.specs.declared.flow.Flow.{Flow}
use Rattle.boxes.specs.declared.flow.Note.{Note}
use Rattle.boxes.specs.declared.item.Item.{Item}
use Rattle.boxes.specs.declared.item.Item.TheVariants as item
use Rattle.boxes.specs.declared.leaf.Leaf.{Leaf as LeafData}
use Rattle.boxes.specs.declared.leaf.Lead.{Lead}
use Rattle.boxes.specs.declared.page.Page.{Page}
use Rattle.boxes.specs.declared.page.Placed.{Placed}
use Rattle.boxes.specs.declared.place.Event.{Event}
use Rattle.boxes.specs.declared.place.Event.TheVariants.{Opens, Closes, Leaf}
use Rattle.paint.specs.Items.{for_some, line_of}
use Rattle.paint.specs.Pages.{flow_origin, items_of, solids_of, tree_items}

-- the text that an item prints; a hyphen that is shown is no character of a text
abbrev pub text_in : Item → List ℕ
text_in (item.Rect x y w h color) = []
text_in (item.Edge opens x y w h) = []
text_in (item.Line x y w h) = []
text_in (item.Text x y face size color text) = text
text_in (item.Hyphen x y face size color) = []

-- the texts that items print, joined
abbrev pub texts_in : List Item → List ℕ
texts_in items = flat_map text_in items

-- the text of a leaf's markers
abbrev pub leads_text : LeafData → List ℕ
leads_text leaf = flat_map (λ (lead : Lead). lead.text) leaf.leads

-- the text of a leaf, after its markers
abbrev pub leaf_text : LeafData → List ℕ
leaf_text leaf = leads_text leaf ++ leaf.text

-- the text of a line of a leaf, as far as the leaf has it; before it the leaf's markers, if it is the first line
abbrev pub line_text : LeafData → LineView → List ℕ
line_text leaf line = (if line.from == 0 then leads_text leaf else []) ++ slice_range leaf.text line.from line.to

-- the text of a solid, which its event tells: that of a line, and none of an edge
abbrev pub event_text : Tree → Placed → Option Event → List ℕ
event_text t s None = []
event_text t s (Some (Opens b)) = []
event_text t s (Some (Closes b)) = []
event_text t s (Some (Leaf l)) =
    for_some (λ (leaf : LeafData). line_text leaf (line_of leaf s)) (slice_get t.leaves l)

-- the texts of some solids of a tree, joined in order
abbrev pub solids_text : Tree → List Placed → List ℕ
solids_text t solids = flat_map (λ (s : Placed). event_text t s (slice_get t.events s.at.event)) solids

-- the text of a note's solids on a page
abbrev pub note_text : List Note → List (ℕ × Placed) → ℕ → List ℕ
note_text all notes n = for_some (λ (note : Note). solids_text note.body (solids_of n notes)) (slice_get all n)

-- the text of a page: that of the main tree's solids, then, note after note, that of the notes'
abbrev pub page_text : Flow → Page → List ℕ
page_text flow page =
    solids_text flow.main page.solids
    ++ flat_map (note_text flow.notes page.notes) (range_with_len 0 (length flow.notes))

-- the main tree and the bodies of the notes are made as trees are
pub record AreTrees (flow : Flow) : Type 0 where
  pub main : IsTree flow.main
  pub notes : All (λ note. IsTree note.body) flow.notes

-- the items of a page print its text
abbrev pub PrintsItsText : List FontFace → Flow → Page → Type 0
PrintsItsText faces flow page = texts_in (items_of faces flow page) ≡ page_text flow page

-- each page prints its text
abbrev pub PagesPrintTheirText : Type 0
PagesPrintTheirText = (faces : List FontFace) (flow : Flow) (page : Page) → AreTrees flow →
    PrintsItsText faces flow page

-- what the pages print of the main tree, joined, is the text of its leaves, in order
abbrev pub PrintsMainText : List FontFace → Flow → List Page → Type 0
PrintsMainText faces flow pages =
    flat_map (λ (p : Page). texts_in (tree_items faces flow.main (flow_origin p.frame) p.solids)) pages
    ≡ flat_map leaf_text flow.main.leaves
