-- The flow of a document (CSS 2.1, 9.2; css-gcpm-3).
use Rattle.std.specs.Prelude.{ℕ, suc, ◌==◌, ℤ, Bool, true, false, not, List, [], ◌∷◌, ◌++◌, Option, None, Some, map, filter, length, if◌then◌else◌}
use Rattle.std.specs.List.{flat_map}
use Rattle.bk_num.specs.declared.values.Pseudo.{Pseudo}
use Rattle.bk_num.specs.declared.values.Pseudo.TheVariants as pseudo
use Rattle.boxes.specs.declared.flow.Assign.{Assign}
use Rattle.boxes.specs.declared.flow.Flow.{Flow}
use Rattle.boxes.specs.declared.flow.Note.{Note}
use Rattle.boxes.specs.declared.flow.Reset.{Reset}
use Rattle.boxes.specs.declared.flow.Start.{Start}
use Rattle.boxes.specs.declared.leaf.Lead.{Lead}
use Rattle.boxes.specs.declared.place.Position.{Position}
use Rattle.boxes.specs.declared.props.BoxProps.{BoxProps}
use Rattle.boxes.specs.Tree.{Tree, no_tree, with_box, with_leaf, with_close, innermost_of}
use Rattle.counters.specs.Markers.{has_marker}
use Rattle.inline_text.specs.declared.space.TextPart.{TextPart}
use Rattle.soft_hyphens.specs.Words.{Points}
use Rattle.style.specs.declared.style.Style.{Style}
use Rattle.style.specs.Counters.{is_page_counter}
use Rattle.style.specs.Nodes.{style_at}
use Rattle.style.specs.Styles.{initial_style}
use Rattle.box_gen.specs.Faced.{StyleIn}
use Rattle.box_gen.specs.Faces.{face_of}
use Rattle.box_gen.specs.Items.{InlineItem}
use Rattle.box_gen.specs.Items as item
use Rattle.box_gen.specs.declared.inline.InlineStart.{InlineStart}
use Rattle.box_gen.specs.declared.leaf.LeafStyle.{LeafStyle}
use Rattle.box_gen.specs.Leaves.{leaf_by, leaf_style_of}
use Rattle.box_gen.specs.Markers.{lead_by, marker_text}
use Rattle.box_gen.specs.Represented.{represented_text}
use Rattle.box_gen.specs.Props.{anonymous_props, props_of}
use Rattle.box_gen.specs.Runs.{spans_of, starts_of, text_of}
use Rattle.box_gen.specs.TextStyles.{text_style_of}
use Rattle.box_gen.specs.Trees.{Source, Forest, none, node, forest_of, in_note, is_note_element, Role, text, hidden, inline, block, note, role_of}

-- ---- what is in a block

-- a text that a style sets
abbrev pub styled : Source → Style → TextPart → InlineItem
styled src s part = item.Text (record { part = part; style = text_style_of s part.space (src.face s) })

-- a text that a style sets in the face that it chooses among some faces
abbrev pub styled_in : StyleIn → TextPart → InlineItem
styled_in s part =
    item.Text (record { part = part; style = text_style_of s.style part.space (face_of s.faces s.style) })

-- a text node in an element of a style, or a generated text
abbrev pub text_item : Source → Style → List ℕ → InlineItem
text_item src s t = styled src s (record { text = t; space = s.white_space })

-- the text of a pseudo-element in its style, where it is there
abbrev pub generated_by : Source → ℕ → Pseudo → Option Style → List InlineItem
generated_by src n p None = []
generated_by src n p (Some s) = text_item src s (src.generated n p) ∷ []

-- the text of a pseudo-element that is there (CSS 2.1, 12.1)
abbrev pub generated_items : Source → ℕ → Pseudo → List InlineItem
generated_items src n p = generated_by src n p (style_at src.styles n p)

-- the text that an element represents, where it represents one
abbrev pub represented_items : Source → Style → Option TextPart → List InlineItem
represented_items src s None = []
represented_items src s (Some part) = styled src s part ∷ []

-- what stands in an element before its children: `::before`, and the text that it represents; and what stands after
-- them
abbrev pub first_items : Source → Style → ℕ → List InlineItem
first_items src s n = generated_items src n pseudo.Before ++
    represented_items src s (represented_text src.nodes n s.white_space)

-- what stands in an element after its children: `::after`
abbrev pub last_items : Source → ℕ → List InlineItem
last_items src n = generated_items src n pseudo.After

-- the content of a block: runs of inline text, and blocks with theirs
pub data Content : Type 0 where
  end : Content
  run : List InlineItem → Content → Content
  box : ℕ → Style → Content → Content → Content

-- content after one more item: the items that stand side by side are one run
abbrev pub with_item : InlineItem → Content → Content
with_item i end = run (i ∷ []) end
with_item i (run items rest) = run (i ∷ items) rest
with_item i (box n s inside rest) = run (i ∷ []) (box n s inside rest)

-- content after more items
abbrev pub with_items : List InlineItem → Content → Content
with_items [] c = c
with_items (i ∷ items) c = with_item i (with_items items c)

-- what a node puts into the content of the block around it, where its children put theirs by `inside`: a text in the
-- style of the element around it; an inline element the place where it begins, and what is in it, blocks too; a block
-- itself; a note element its call, at the place where an inline element would begin (css-gcpm-3, 2.4)
abbrev pub with_node : Source → Style → ℕ → Role → (Style → Content → Content) → Content → Content
with_node src s n hidden inside rest = rest
with_node src s n (text t) inside rest = with_item (text_item src s t) rest
with_node src s n (inline u) inside rest =
    with_item (item.Start (record { 0 = n }))
    (with_items (first_items src u n) (inside u (with_items (last_items src n) rest)))
with_node src s n (block u) inside rest =
    box n u (with_items (first_items src u n) (inside u (with_items (last_items src n) end))) rest
with_node src s n (note u) inside rest =
    with_item (item.Start (record { 0 = n })) (with_items (generated_items src n pseudo.Call) rest)

-- what nodes in an element of a style put into the content of the block around them
abbrev pub content_of : Source → Style → Forest → Content → Content
content_of src s none rest = rest
content_of src s (node n kids more) rest = with_node src s n (role_of src n) (λ u c. content_of src u kids c)
    (content_of src s more rest)

-- whether there is a block in content
abbrev pub has_block : Content → Bool
has_block end = false
has_block (run items rest) = has_block rest
has_block (box n s inside rest) = true

-- ---- the tree

-- what is built: the tree, where elements begin and note elements are called, and the markers that have no line yet
pub record Built : Type 0 where
  pub tree : Tree
  pub starts : List Start
  pub pending : List Lead

-- the same from its parts
abbrev pub built : Tree → List Start → List Lead → Built
built t starts leads = record { tree = t; starts = starts; pending = leads }

-- nothing is built yet
abbrev pub nothing : Built
nothing = built no_tree [] []

-- where an element begins in the main tree: an event, and a byte of its leaf
abbrev pub start_at : ℕ → ℕ → ℕ → Start
start_at n event offset =
    record { node = record { 0 = n }; note = None; at = record { event = event; offset = offset } }

-- a tree in which a box closes, where one is open
abbrev pub close_by : Tree → Option ℕ → Tree
close_by t None = t
close_by t (Some b) = with_close t b

-- a tree whose innermost unclosed box is closed
abbrev pub shut : Tree → Tree
shut t = close_by t (innermost_of t.events)

-- markers but those of a box
abbrev pub without : Option ℕ → List Lead → List Lead
without None leads = leads
without (Some b) leads = filter (λ lead. not (lead.owner == b)) leads

-- the innermost box is closed: an item without a line shows no marker
abbrev pub closed : Built → Built
closed b = built (shut b.tree) b.starts (without (innermost_of b.tree.events) b.pending)

-- a marker of a text, where there is one
abbrev pub leads_by : Source → Style → ℕ → Option (List ℕ) → List Lead
leads_by src s owner None = []
leads_by src s owner (Some t) = lead_by t (text_style_of s s.white_space (src.face s)) owner ∷ []

-- the marker of an element, whose box has this number (CSS 2.1, 12.5)
abbrev pub leads_of : Source → ℕ → Style → ℕ → List Lead
leads_of src n s owner =
    if has_marker (n == 0) s then leads_by src s owner (marker_text s.list_style_type (src.items n)) else []

-- the box of a block opens: the element begins there, and its marker waits for a line
abbrev pub opened : Source → ℕ → Style → Built → Built
opened src n s b =
    built (with_box b.tree (props_of src.clones s n)) (b.starts ++ start_at n (length b.tree.events) 0 ∷ [])
    (b.pending ++ leads_of src n s (length b.tree.boxes))

-- where the elements of a run begin, whose leaf is an event
abbrev pub starts_by : ℕ → List InlineStart → List Start
starts_by event starts = map (λ a. start_at a.node.0 event a.offset) starts

-- a run is put, where its text is empty or not, in an anonymous box or not
abbrev pub put_by : Bool → Bool → Option Points → LeafStyle → BoxProps → Built → List InlineItem → Built
put_by true wrap points look anonymous b items =
    built b.tree (b.starts ++ starts_by (length b.tree.events) (starts_of points items)) b.pending
put_by false true points look anonymous b items =
    built (shut (with_leaf (with_box b.tree anonymous)
    (leaf_by (text_of points items) (spans_of points items) look b.pending)))
    (b.starts ++ starts_by (suc (length b.tree.events)) (starts_of points items)) []
put_by false false points look anonymous b items =
    built (with_leaf b.tree (leaf_by (text_of points items) (spans_of points items) look b.pending))
    (b.starts ++ starts_by (length b.tree.events) (starts_of points items)) []

-- a run is a leaf, which stands in an anonymous box beside blocks and takes the markers that wait. A run without a
-- character is none, and its elements begin at the next event
abbrev pub put : Option Points → LeafStyle → BoxProps → Bool → Built → List InlineItem → Built
put points look anonymous wrap b items =
    put_by (length (text_of points items) == 0) wrap points look anonymous b items

-- a run in a block of a style
abbrev pub with_run : Source → Style → Bool → Built → List InlineItem → Built
with_run src s wrap b items = put src.points (leaf_style_of s (src.face s)) (anonymous_props s) wrap b items

-- content put into the innermost unclosed box, which is that of a block of a style
abbrev pub grown : Source → Style → Bool → Built → Content → Built
grown src s wrap b end = b
grown src s wrap b (run items rest) = grown src s wrap (with_run src s wrap b items) rest
grown src s wrap b (box n u inside rest) =
    grown src s wrap (closed (grown src u (has_block inside) (opened src n u b) inside)) rest

-- ---- notes

-- the body of a note before its content: the box of the note element, which begins there and hangs no marker
abbrev pub note_root : ℕ → Style → Built
note_root n s = built (with_box no_tree (props_of false s n)) (start_at n 0 0 ∷ []) []

-- what stands in a note before the children of its element: `::footnote-marker`, `::before`, and the text that the
-- element represents (css-gcpm-3, 2.5)
abbrev pub note_first_items : Source → Style → ℕ → List InlineItem
note_first_items src s n = generated_items src n pseudo.Marker ++ first_items src s n

-- the content of a note
abbrev pub note_content : Source → Style → ℕ → Forest → Content
note_content src s n kids =
    with_items (note_first_items src s n) (content_of src s kids (with_items (last_items src n) end))

-- what a note element of a style builds
abbrev pub body_in : Source → Style → ℕ → Forest → Built
body_in src s n kids = closed (grown src s (has_block (note_content src s n kids)) (note_root n s)
    (note_content src s n kids))

-- what a node builds for notes, where those below it build `inside`
abbrev pub node_bodies : Source → ℕ → Role → Forest → List Built → List Built
node_bodies src n hidden kids inside = []
node_bodies src n (text t) kids inside = []
node_bodies src n (inline u) kids inside = inside
node_bodies src n (block u) kids inside = inside
node_bodies src n (note u) kids inside = body_in (in_note src) u n kids ∷ []

-- what the note elements among nodes build, in tree order: one in a note is none
unfoldable pub bodies_in : Source → Forest → List Built
bodies_in src none = []
bodies_in src (node n kids more) = node_bodies src n (role_of src n) kids (bodies_in src kids) ++ bodies_in src more

-- ---- the flow

-- what the notes of a document build
abbrev pub bodies_of : Source → List Built
bodies_of src = bodies_in src (forest_of src.nodes)

-- what a document builds
abbrev pub built_of : Source → Built
built_of src = grown src initial_style true nothing (content_of src initial_style (forest_of src.nodes) end)

-- assignments of strings at a place
abbrev pub assigns_at : Position → List (List ℕ × List ℕ) → List Assign
assigns_at at xs = map (λ x. record { name = x.0; value = x.1; at = at }) xs

-- the running strings that are assigned where elements begin (css-gcpm-3, `string-set`)
abbrev pub strings_of : Source → List Start → List Assign
strings_of src starts = flat_map (λ a. assigns_at a.at (src.assigned a.node.0)) starts

-- whether a counter is that of pages
abbrev pub is_page : List ℕ × ℤ → Bool
is_page c = is_page_counter c.0

-- the values to which counters of pages are reset
abbrev pub page_values : List (List ℕ × ℤ) → List ℤ
page_values counters = map (λ c. c.1) (filter is_page counters)

-- the values to which a style resets the page number
abbrev pub page_resets : Option Style → List ℤ
page_resets None = []
page_resets (Some s) = page_values s.counter_reset

-- resets of the page number at a place
abbrev pub resets_at : Position → List ℤ → List Reset
resets_at at values = map (λ v. record { value = v; at = at }) values

-- the resets of the page number where elements begin (css-page-3)
abbrev pub resets_of : Source → List Start → List Reset
resets_of src starts = flat_map (λ a. resets_at a.at (page_resets (style_at src.styles a.node.0 pseudo.Element))) starts

-- where note elements are called, and where other elements begin
abbrev pub calls_of : Source → List Start → List Position
calls_of src starts = map (λ a. a.at) (filter (λ a. is_note_element src a.node.0) starts)

-- where elements begin that aren't notes
abbrev pub own_starts : Source → List Start → List Start
own_starts src starts = filter (λ a. not (is_note_element src a.node.0)) starts

-- each call with its body
abbrev pub notes_by : List Position → List Built → List Note
notes_by [] bodies = []
notes_by (c ∷ calls) [] = []
notes_by (c ∷ calls) (b ∷ bodies) = record { call = c; body = b.tree } ∷ notes_by calls bodies

-- where elements begin in a note with a number, and in notes that are numbered from a number on
abbrev pub starts_in_note : ℕ → List Start → List Start
starts_in_note k starts = map (λ (a : Start). record a { note = Some k }) starts

-- where elements begin in notes that are numbered from a number on
abbrev pub note_starts : ℕ → List Built → List Start
note_starts k [] = []
note_starts k (b ∷ bodies) = starts_in_note k b.starts ++ note_starts (suc k) bodies

-- the flow of a document: strings and page resets count outside notes alone
abbrev pub flow_of : Source → Flow
flow_of src = record {
  main = (built_of src).tree;
  notes = notes_by (calls_of src (built_of src).starts) (bodies_of src);
  starts = own_starts src (built_of src).starts ++ note_starts 0 (bodies_of src);
  strings = strings_of src (own_starts src (built_of src).starts);
  resets = resets_of src (own_starts src (built_of src).starts);
}
