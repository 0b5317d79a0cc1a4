-- The styles of a document's nodes, each by its winners and by its parent's style.
use Rattle.std.specs.Prelude.{◌≡◌, ℕ, ℤ, Bool, true, false, not, ◌&&◌, ◌||◌, List, [], ◌∷◌, ◌++◌, Option, None, Some, is_some, unwrap_or, length, slice_get}
use Rattle.bk_num.specs.Limits.{root_size}
use Rattle.bk_num.specs.declared.values.Pseudo.TheVariants as pseudo
use Rattle.dom.specs.Nodes.{Node, parents_of, parent_at, name_at}
use Rattle.style.specs.Nodes.{NodeStyles, no_styles, style_at, is_shown_in, is_in_note_in}
use Rattle.style.specs.Styles.{initial_style}
use Rattle.style.specs.declared.style.Style.{Style}
use Rattle.style.specs.declared.values.Display.{Display}
use Rattle.style.specs.declared.values.Display.TheVariants as display
use Rattle.style.specs.declared.long.Long.{Long}
use Rattle.cascade.specs.declared.table.NodeWinners.{NodeWinners}
use Rattle.computed.specs.Applied.{computed_style, inline_display}
use Rattle.computed.specs.Names.{page_in, node_names, with_names, names_of}

-- the number of a used page name: of the name that is given, else the parent's
abbrev pub IsPage : List (List ℕ) → ℕ → Option (List ℕ) → ℕ → Type 0
IsPage names parent None n = n ≡ parent
IsPage names parent (Some name) n = slice_get names n ≡ Some name

-- the style of an element below a parent, by its winners
pub record IsStyle (names : List (List ℕ)) (p : Style) (root : Option ℤ) (winners : List Long) (s : Style) : Type 0
  where
    pub values : s ≡ record (computed_style p root winners) { page = s.page }
    pub page : IsPage names p.page.0 (page_in winners) s.page.0

-- a display other than `none`
abbrev pub is_displayed : Display → Bool
is_displayed display.Hidden = false
is_displayed display.Inline = true
is_displayed display.Block = true
is_displayed display.ListItem = true

-- a pseudo-element is there where it has content and isn't none (CSS 2.1, 12.1)
abbrev pub is_generated : Style → Bool
is_generated s = is_displayed s.display && is_some s.content

-- the style of a pseudo-element of an element, which is inline
pub record IsPseudo (names : List (List ℕ)) (own : Style) (root : ℤ) (winners : List Long) (s : Style) : Type 0 where
  pub values : s ≡ record (computed_style own (Some root) winners) {
    display =
        inline_display (computed_style own (Some root) winners).display;
    page = s.page;
  }
  pub page : IsPage names own.page.0 (page_in winners) s.page.0

-- a pseudo-element has a style exactly where the element may have it and it is there
abbrev pub HasPseudo : List (List ℕ) → Style → ℤ → Bool → List Long → Option Style → Type 0
HasPseudo names own root allowed winners None =
    (allowed && is_generated (computed_style own (Some root) winners)) ≡ false
HasPseudo names own root allowed winners (Some s) =
    ((allowed && is_generated (computed_style own (Some root) winners)) ≡ true) ×
    IsPseudo names own root winners s

-- the row of a parent, if there is one
abbrev pub parent_row : List NodeStyles → Option ℕ → Option NodeStyles
parent_row rows None = None
parent_row rows (Some p) = slice_get rows p

-- what the root takes for its parent's style
abbrev pub style_above : Option NodeStyles → Style
style_above None = initial_style
style_above (Some a) = unwrap_or a.own initial_style

-- an element is shown where its parent is and it isn't none; the root is shown
abbrev pub is_shown_below : Option ℕ → List NodeStyles → Style → Bool
is_shown_below None rows s = true
is_shown_below (Some p) rows s = is_shown_in (slice_get rows p) && is_displayed s.display

-- a note element is a shown one below the root with `float: footnote` that stands in no other
abbrev pub is_note_below : Option ℕ → List NodeStyles → Style → Bool
is_note_below None rows s = false
is_note_below (Some p) rows s = is_shown_below (Some p) rows s && (s.float && not (is_in_note_in (slice_get rows p)))

-- an element stands in a note where it is one or its parent stands in one
abbrev pub is_in_note_below : Option ℕ → List NodeStyles → Bool → Bool
is_in_note_below None rows note = false
is_in_note_below (Some p) rows note = note || is_in_note_in (slice_get rows p)

-- the font size of an element, and 16 px for a text
abbrev pub font_of : Option Style → ℤ
font_of None = root_size
font_of (Some s) = s.font_size

-- the root's font size for a node with a parent
abbrev pub root_above : List NodeStyles → Option ℕ → Option ℤ
root_above rows None = None
root_above rows (Some p) = Some (font_of (style_at rows 0 pseudo.Element))

-- the styles of an element, by its parent's number and the rows of the nodes before it
pub record IsElement (names : List (List ℕ)) (rows : List NodeStyles) (parent : Option ℕ) (w : NodeWinners)
    (r : NodeStyles) : Type 0 where
  pub style : Style
  pub own : r.own ≡ Some style
  pub values : IsStyle names (style_above (parent_row rows parent)) (root_above rows parent) w.own style
  pub shown : r.shown ≡ is_shown_below parent rows style
  pub note : r.note ≡ is_note_below parent rows style
  pub in_note : r.in_note ≡ is_in_note_below parent rows r.note
  pub before : HasPseudo names style (unwrap_or (root_above rows parent) style.font_size) r.shown w.before r.before
  pub after : HasPseudo names style (unwrap_or (root_above rows parent) style.font_size) r.shown w.after r.after
  pub call : HasPseudo names style (unwrap_or (root_above rows parent) style.font_size) r.note w.call r.call
  pub marker : HasPseudo names style (unwrap_or (root_above rows parent) style.font_size) r.note w.marker r.marker

-- what a node has: a text has no style
abbrev pub IsNode : List (List ℕ) → List NodeStyles → Option ℕ → Bool → NodeWinners → NodeStyles → Type 0
IsNode names rows parent false w r = r ≡ no_styles
IsNode names rows parent true w r = IsElement names rows parent w r

-- each node among those that have rows has what its winners and its parent's row give
abbrev pub AreNodes : List (List ℕ) → List Node → List NodeWinners → List NodeStyles → Type 0
AreNodes names nodes winners rows = (k : ℕ) (w : NodeWinners) (r : NodeStyles) → slice_get winners k ≡ Some w →
    slice_get rows k ≡ Some r → IsNode names rows (parent_at (parents_of nodes) k) (is_some (name_at nodes k)) w r

-- the styles of a document, and its page names as they are numbered
pub record AreStyles (names : List (List ℕ)) (nodes : List Node) (winners : List NodeWinners) (rows : List NodeStyles) :
    Type 0 where
  pub count : length rows ≡ length nodes
  pub each : AreNodes names nodes winners rows
  pub numbered : names ≡ names_of winners rows

-- names keep their numbers
abbrev pub Extends : List (List ℕ) → List (List ℕ) → Type 0
Extends names more = (k : ℕ) (t : List ℕ) → slice_get names k ≡ Some t → slice_get more k ≡ Some t

-- a node's row is added, and the names that it gives
pub record Adds (names more : List (List ℕ)) (nodes : List Node) (k : ℕ) (w : NodeWinners) (rows next : List NodeStyles)
    : Type 0 where
  pub row : NodeStyles
  pub added : next ≡ rows ++ row ∷ []
  pub fits : IsNode more rows (parent_at (parents_of nodes) k) (is_some (name_at nodes k)) w row
  pub numbered : more ≡ with_names names (node_names w row)

-- an element's row is added, and the names that it gives
pub record AddsElement (names more : List (List ℕ)) (parent : Option ℕ) (w : NodeWinners) (rows next : List NodeStyles)
    : Type 0 where
  pub row : NodeStyles
  pub added : next ≡ rows ++ row ∷ []
  pub fits : IsElement more rows parent w row
  pub numbered : more ≡ with_names names (node_names w row)
