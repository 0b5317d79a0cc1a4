-- The styles of a document's nodes.
use Rattle.std.specs.Prelude.{◌≡◌, ℕ, ◌<◌, Bool, false, List, [], ◌∷◌, ◌++◌, Option, None, Some, length, slice_get}
use Rattle.bk_num.specs.declared.values.Pseudo.{Pseudo}
use Rattle.bk_num.specs.declared.values.Pseudo.TheVariants as pseudo
use Rattle.style.specs.declared.style.Style.{Style}

-- what a node has: its own style, those of its pseudo-elements, whether it is shown, whether it is a note element, and
-- whether it is one or stands in one
pub record NodeStyles : Type 0 where
  pub own : Option Style
  pub before : Option Style
  pub after : Option Style
  pub call : Option Style
  pub marker : Option Style
  pub shown : Bool
  pub note : Bool
  pub in_note : Bool

-- what a text has
abbrev pub no_styles : NodeStyles
no_styles = record {
  own = None;
  before = None;
  after = None;
  call = None;
  marker = None;
  shown = false;
  note = false;
  in_note = false;
}

-- what an element without pseudo-elements has
abbrev pub own_style : Style → Bool → Bool → Bool → NodeStyles
own_style style shown note in_note =
    record no_styles { own = Some style; shown = shown; note = note; in_note = in_note }

-- a node's own style, or that of a pseudo-element
abbrev pub style_in : NodeStyles → Pseudo → Option Style
style_in n pseudo.Element = n.own
style_in n pseudo.Before = n.before
style_in n pseudo.After = n.after
style_in n pseudo.Call = n.call
style_in n pseudo.Marker = n.marker

-- the same of a node that may not be there
abbrev pub style_of : Option NodeStyles → Pseudo → Option Style
style_of None p = None
style_of (Some n) p = style_in n p

-- the style of a node, or of a pseudo-element of it
abbrev pub style_at : List NodeStyles → ℕ → Pseudo → Option Style
style_at nodes n p = style_of (slice_get nodes n) p

-- a node with a style more
abbrev pub with_style : Pseudo → Style → NodeStyles → NodeStyles
with_style pseudo.Element style n = record n { own = Some style }
with_style pseudo.Before style n = record n { before = Some style }
with_style pseudo.After style n = record n { after = Some style }
with_style pseudo.Call style n = record n { call = Some style }
with_style pseudo.Marker style n = record n { marker = Some style }

-- a list with its last entry changed
abbrev pub change_last : {A : Type 0} → (A → A) → List A → List A
change_last f [] = []
change_last f (x ∷ []) = f x ∷ []
change_last f (x ∷ (y ∷ ys)) = x ∷ change_last f (y ∷ ys)

-- whether a node is there and is shown
abbrev pub is_shown_in : Option NodeStyles → Bool
is_shown_in None = false
is_shown_in (Some n) = n.shown

-- whether a node is there and is a note element
abbrev pub is_note_in : Option NodeStyles → Bool
is_note_in None = false
is_note_in (Some n) = n.note

-- whether a node is there and is a note element or stands in one
abbrev pub is_in_note_in : Option NodeStyles → Bool
is_in_note_in None = false
is_in_note_in (Some n) = n.in_note

-- a node is added that has what an earlier one has
pub record AddsLike (nodes : List NodeStyles) (n : ℕ) (more : List NodeStyles) : Type 0 where
  pub row : NodeStyles
  pub there : slice_get nodes n ≡ Some row
  pub added : more ≡ nodes ++ row ∷ []

-- ---- numbers of styles

-- the numbers of a node's own style and of those of its pseudo-elements
pub record NodeNumbers : Type 0 where
  pub own : Option ℕ
  pub before : Option ℕ
  pub after : Option ℕ
  pub call : Option ℕ
  pub marker : Option ℕ

-- styles, each with its place among them as its number, and the numbers of the styles of nodes
pub record NumberedStyles : Type 0 where
  pub styles : List Style
  pub nodes : List NodeNumbers

-- the number of a node's own style, or of a pseudo-element's
abbrev pub number_in : NodeNumbers → Pseudo → Option ℕ
number_in n pseudo.Element = n.own
number_in n pseudo.Before = n.before
number_in n pseudo.After = n.after
number_in n pseudo.Call = n.call
number_in n pseudo.Marker = n.marker

-- the same of a node that may not be there
abbrev pub number_of : Option NodeNumbers → Pseudo → Option ℕ
number_of None p = None
number_of (Some n) p = number_in n p

-- the number of the style of a node, or of a pseudo-element of it
abbrev pub number_at : List NodeNumbers → ℕ → Pseudo → Option ℕ
number_at nodes n p = number_of (slice_get nodes n) p

-- the style of a number, if there is one
abbrev pub numbered : List Style → Option ℕ → Option Style
numbered styles None = None
numbered styles (Some i) = slice_get styles i

-- a number is below a count
abbrev pub IsNumber : ℕ → Option ℕ → Type 0
IsNumber count None = Unit {0}
IsNumber count (Some i) = i < count

-- nodes have the styles of their numbers: where a number is there it is that of a style, and else there is no style
pub record AreNumberedBy (t : NumberedStyles) (nodes : List NodeStyles) : Type 0 where
  pub styles : (n : ℕ) (p : Pseudo) → style_at nodes n p ≡ numbered t.styles (number_at t.nodes n p)
  pub below : (n : ℕ) (p : Pseudo) → IsNumber (length t.styles) (number_at t.nodes n p)
