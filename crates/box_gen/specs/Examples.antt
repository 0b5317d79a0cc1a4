-- Small documents and their flows.
use Rattle.std.specs.Prelude.{◌≡◌, ℕ, ◌==◌, ◌||◌, true, false, List, [], ◌∷◌, Option, None, Some, map, codes}
use Rattle.bk_num.specs.declared.values.WhiteSpace.TheVariants as space
use Rattle.boxes.specs.declared.place.Event.TheVariants.{Opens, Closes, Leaf}
use Rattle.dom.specs.Nodes.{Node, Element, Text}
use Rattle.soft_hyphens.specs.Words.{Points}
use Rattle.style.specs.declared.style.Style.{Style}
use Rattle.style.specs.declared.values.Display.TheVariants as display
use Rattle.style.specs.Nodes.{NodeStyles, no_styles, own_style}
use Rattle.style.specs.Styles.{initial_style}
use Rattle.box_gen.specs.Trees.{Source}
use Rattle.box_gen.specs.Flow.{built_of}

-- an element in another one, or the root
abbrev pub element_in : Option ℕ → ℕ → List ℕ → Node
element_in parent depth name = record { parent = parent; depth = depth; what = Element name [] }

-- a text in an element
abbrev pub text_in : ℕ → ℕ → List ℕ → Node
text_in parent depth t = record { parent = Some parent; depth = depth; what = Text t }

-- the initial style, of a block
abbrev pub block_style : Style
block_style = record initial_style { display = display.Block }

-- a block whose white space is kept
abbrev pub pre_style : Style
pre_style = record block_style { white_space = space.Pre }

-- a block whose words are hyphenated, and an inline element in it
abbrev pub auto_style : Style
auto_style = record block_style { hyphens = true }

abbrev pub inline_auto_style : Style
inline_auto_style = record initial_style { hyphens = true }

-- the styles of a shown element without pseudo-elements
abbrev pub shown : Style → NodeStyles
shown s = own_style s true false false

-- nodes without pseudo-elements, in the first face
abbrev pub plain : List Node → List NodeStyles → Source
plain nodes styles = record {
  nodes = nodes;
  styles = styles;
  items = λ n. [];
  face = λ s. record { 0 = 0 };
  generated = λ n p. [];
  is_note = λ n. false;
  clones = true;
  assigned = λ n. [];
  points = None;
}

-- `<html><div>a<p>b</p>c</div>`
abbrev pub parted : Source
parted = plain
    (element_in None 1 (codes "html") ∷ element_in (Some 0) 2 (codes "div") ∷ text_in 1 3 (codes "a") ∷
    element_in (Some 1) 3 (codes "p") ∷ text_in 3 4 (codes "b") ∷ text_in 1 3 (codes "c") ∷ [])
    (shown block_style ∷ shown block_style ∷ no_styles ∷ shown block_style ∷ no_styles ∷ no_styles ∷ [])

-- `<html><p> a <b> b</b></p>`
abbrev pub spaced : Source
spaced = plain
    (element_in None 1 (codes "html") ∷ element_in (Some 0) 2 (codes "p") ∷ text_in 1 3 (codes " a ") ∷
    element_in (Some 1) 3 (codes "b") ∷ text_in 3 4 (codes " b") ∷ [])
    (shown block_style ∷ shown block_style ∷ no_styles ∷ shown initial_style ∷ no_styles ∷ [])

-- `<html><pre>a`, a tab, `b` and a newline
abbrev pub tabbed : Source
tabbed = plain
    (element_in None 1 (codes "html") ∷ element_in (Some 0) 2 (codes "pre") ∷ text_in 1 3 (97 ∷ 9 ∷ 98 ∷ 10 ∷ []) ∷ [])
    (shown block_style ∷ shown pre_style ∷ no_styles ∷ [])

-- whether a place of a word is 2 or 6
abbrev pub two_points : Points
two_points word place = place == 2 || place == 6

-- `<html><p>hy<b>phenation</b></p>`, with the points 2 and 6
abbrev pub hyphened : Source
hyphened = record (plain
    (element_in None 1 (codes "html") ∷ element_in (Some 0) 2 (codes "p") ∷ text_in 1 3 (codes "hy") ∷
    element_in (Some 1) 3 (codes "b") ∷ text_in 3 4 (codes "phenation") ∷ [])
    (shown block_style ∷ shown auto_style ∷ no_styles ∷ shown inline_auto_style ∷ no_styles ∷ [])) {
      points = Some two_points;
    }

-- the texts of the leaves that a document builds
abbrev pub leaf_texts : Source → List (List ℕ)
leaf_texts src = map (λ l. l.text) (built_of src).tree.leaves

-- a block parts the text around it into leaves in anonymous boxes
pub record PartsText : Type 0 where
  pub texts : leaf_texts parted ≡ codes "a" ∷ codes "b" ∷ codes "c" ∷ []
  pub events : (built_of parted).tree.events ≡ Opens 0 ∷ Opens 1 ∷ Opens 2 ∷ Leaf 0 ∷ Closes 2 ∷ Opens 3 ∷ Leaf 1 ∷
      Closes 3 ∷ Opens 4 ∷
      Leaf 2 ∷ Closes 4 ∷ Closes 1 ∷ Closes 0 ∷ []
  pub nodes : map (λ p. p.node) (built_of parted).tree.boxes ≡ Some (record { 0 = 0 }) ∷ Some (record { 0 = 1 }) ∷
      None ∷
      Some (record { 0 = 3 }) ∷ None ∷ []

-- white space collapses over the elements of a leaf, and a tab that is kept is eight spaces
pub record Collapses : Type 0 where
  pub normal : leaf_texts spaced ≡ codes "a b" ∷ []
  pub kept : leaf_texts tabbed ≡ (97 ∷ 32 ∷ 32 ∷ 32 ∷ 32 ∷ 32 ∷ 32 ∷ 32 ∷ 32 ∷ 98 ∷ 10 ∷ []) ∷ []
  pub starts : map (λ a. a.at.offset) (built_of spaced).starts ≡ 0 ∷ 0 ∷ 2 ∷ []

-- a soft hyphen stands at each point of a word that stands in two elements, in the span of the character before it
pub record Hyphenates : Type 0 where
  pub texts : leaf_texts hyphened ≡ (104 ∷ 121 ∷ 194 ∷ 173 ∷ 112 ∷ 104 ∷ 101 ∷ 110 ∷ 194 ∷ 173 ∷ 97 ∷ 116 ∷ 105 ∷
      111 ∷ 110 ∷ []) ∷ []
  pub starts : map (λ a. a.at.offset) (built_of hyphened).starts ≡ 0 ∷ 0 ∷ 4 ∷ []
  pub spans : map (λ l. map (λ s. s.to) l.spans) (built_of hyphened).tree.leaves ≡ (4 ∷ 15 ∷ []) ∷ []
