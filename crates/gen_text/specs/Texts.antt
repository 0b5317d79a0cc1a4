-- What the pseudo-elements of a document print, and what its elements assign to named strings (CSS 2.1, 12.1 and 12.2;
-- css-gcpm-3).
use Rattle.std.specs.Prelude.{ℕ, Bool, ◌&&◌, not, if◌then◌else◌, List, [], Option, None, Some, filter, map, slice_get, ℤ}
use Rattle.std.specs.String.{string_bytes}
use Rattle.bk_num.specs.Names.{has_name}
use Rattle.bk_num.specs.declared.values.Pseudo.{Pseudo}
use Rattle.bk_num.specs.declared.values.Pseudo.TheVariants as pseudo
use Rattle.counters.specs.At.{counter_values}
use Rattle.dom.specs.Nodes.{Node}
use Rattle.style.specs.declared.content.Part.{Part}
use Rattle.style.specs.declared.style.Style.{Style}
use Rattle.style.specs.Nodes.{NodeStyles, style_at, is_shown_in, is_in_note_in}
use Rattle.gen_text.specs.declared.table.Entry.{Entry}
use Rattle.gen_text.specs.declared.texts.Texts.{Texts}
use Rattle.gen_text.specs.Content.{Place, place_of, text_of}

-- what texts are generated from: the document, its styles, the values of a counter at an element or a pseudo-element,
-- the outermost scope first, the numbers of pages, and the names of the strings that pages ask for
pub record TextSource : Type 0 where
  pub nodes : List Node
  pub styles : List NodeStyles
  pub values : ℕ → Pseudo → List ℕ → List ℤ
  pub table : List Entry
  pub asked : List (List ℕ)

-- the same from what is given
abbrev pub source_in : Texts → TextSource
source_in t = record {
  nodes = t.dom.now;
  styles = t.styles.now;
  values = counter_values t.counters.now;
  table = t.table.now;
  asked = map (λ k. string_bytes k) t.asked.now.keys;
}

-- the place of an element or a pseudo-element
abbrev pub place_at : TextSource → ℕ → Pseudo → Place
place_at s n p = place_of s.nodes s.styles n p s.values s.table

-- ---- what pseudo-elements print

-- the parts of a list of content, or none
abbrev pub content_of_some : Option (List Part) → List Part
content_of_some None = []
content_of_some (Some content) = content

-- the parts of a style's `content`, or none
abbrev pub content_of : Option Style → List Part
content_of None = []
content_of (Some s) = content_of_some s.content

-- the content of a pseudo-element, without a part where there is none. `content` prints nothing on an element
abbrev pub content_at : List NodeStyles → ℕ → Pseudo → List Part
content_at styles n pseudo.Element = []
content_at styles n pseudo.Before = content_of (style_at styles n pseudo.Before)
content_at styles n pseudo.After = content_of (style_at styles n pseudo.After)
content_at styles n pseudo.Call = content_of (style_at styles n pseudo.Call)
content_at styles n pseudo.Marker = content_of (style_at styles n pseudo.Marker)

-- what a pseudo-element of a node prints: nothing where there is none
abbrev pub generated_text : TextSource → ℕ → Pseudo → List ℕ
generated_text s n p = text_of (place_at s n p) (content_at s.styles n p)

-- ---- what elements assign

-- the named strings that a style sets (css-gcpm-3, `string-set`)
abbrev pub sets_of : Option Style → List (List ℕ × List Part)
sets_of None = []
sets_of (Some s) = s.string_set

-- whether an element assigns strings: it is shown, and neither is a note nor stands in one
abbrev pub assigns : Option NodeStyles → Bool
assigns r = is_shown_in r && not (is_in_note_in r)

-- the named strings that an element sets
abbrev pub sets_at : List NodeStyles → ℕ → List (List ℕ × List Part)
sets_at styles n = if assigns (slice_get styles n) then sets_of (style_at styles n pseudo.Element) else []

-- a name with the text of its content
abbrev pub assigned_by : Place → List ℕ × List Part → List ℕ × List ℕ
assigned_by p set = (set.0, text_of p set.1)

-- the named strings of these that pages ask for, with their texts
abbrev pub assigned_of : TextSource → ℕ → List (List ℕ × List Part) → List (List ℕ × List ℕ)
assigned_of s n sets = map (assigned_by (place_at s n pseudo.Element)) (filter (λ set. has_name s.asked set.0) sets)

-- the named strings that an element assigns, of those that pages ask for, with their texts, in the order in which it
-- does
abbrev pub assigned_strings : TextSource → ℕ → List (List ℕ × List ℕ)
assigned_strings s n = assigned_of s n (sets_at s.styles n)
