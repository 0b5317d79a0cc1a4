-- What a flow is made from, as the arguments have it.
use Rattle.std.specs.Prelude.{◌≡◌, ◌<◌, ◌&&◌, not, true, ℕ, IsTrue, List, Option, Some, length, option_map, slice_get}
use Rattle.std.specs.List.{All}
use Rattle.bk_num.specs.declared.values.Pseudo.TheVariants as pseudo
use Rattle.boxes.specs.declared.flow.Start.{Start}
use Rattle.dom.specs.Nodes.{Node}
use Rattle.gen_text.specs.Texts.{TextSource, assigned_strings, generated_text, source_in as text_source}
use Rattle.metrics.specs.Face.{FontFace}
use Rattle.soft_hyphens.specs.Words.{Points, points_in}
use Rattle.style.specs.declared.style.Style.{Style}
use Rattle.style.specs.Nodes.{NodeStyles, is_note_in, is_shown_in, style_at}
pub use Rattle.style.specs.Ranges.{AreInRange, IsInRange}
use Rattle.style.specs.Styles.{initial_style}
use Rattle.box_gen.specs.declared.input.FlowInput.{FlowInput}
use Rattle.box_gen.specs.Faced.{StyleIn}
use Rattle.box_gen.specs.Faces.{face_of}
use Rattle.box_gen.specs.KnownFaces.{KnowsFaces}
use Rattle.box_gen.specs.Markers.{list_values}
use Rattle.box_gen.specs.Trees.{Source}

-- ---- the source

-- what texts are generated from, set in some faces, and where words may be hyphenated
abbrev pub source_of : TextSource → List FontFace → Option Points → Source
source_of texts faces points = record {
  nodes = texts.nodes;
  styles = texts.styles;
  items = λ n. list_values texts.values n;
  face = λ s. face_of faces s;
  generated = λ n p. generated_text texts n p;
  is_note = λ n. is_note_in (slice_get texts.styles n);
  clones = true;
  assigned = λ n. assigned_strings texts n;
  points = points;
}

-- what a flow is made from, and in a note what is in the note
abbrev pub source_in : FlowInput → Source
source_in i =
    record (source_of (text_source i.texts.now) i.faces.now (points_in (option_map (λ h. h.now) i.hyphenator))) {
      is_note = λ n. not i.in_note && is_note_in (slice_get i.texts.now.styles.now n);
      clones = not i.in_note;
    }

-- ---- the root

-- the root is shown, and has a style
pub record IsRootShown (styles : List NodeStyles) : Type 0 where
  pub style : Style
  pub own : style_at styles 0 pseudo.Element ≡ Some style
  pub shown : IsTrue (is_shown_in (slice_get styles 0))

-- ---- the input

-- what holds of the input of a walk
pub record IsInput (i : FlowInput) : Type 0 where
  pub initial : i.known.now.initial.style ≡ initial_style
  pub faces : i.known.now.initial.faces ≡ i.faces.now
  pub known : KnowsFaces i.texts.now.styles.now i.faces.now i.known.now
  pub ranges : AreInRange i.texts.now.styles.now

-- a number is that of a node of the input's document
pub record IsNodeOf (i : FlowInput) (n : ℕ) : Type 0 where
  pub input : IsInput i
  pub node : n < length i.texts.now.dom.now

-- a style is in range, and chooses among the faces of the input
pub record IsFacedIn (i : FlowInput) (s : StyleIn) : Type 0 where
  pub faces : s.faces ≡ i.faces.now
  pub range : IsInRange s.style

-- the elements that begin somewhere are nodes of a document
abbrev pub AreWithin : List Node → List Start → Type 0
AreWithin nodes starts = All (λ a. a.node.0 < length nodes) starts
