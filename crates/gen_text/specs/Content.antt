-- The text of a list of content (CSS 2.1, 12.2; css-gcpm-3).
use Rattle.std.specs.Prelude.{◌≡◌, ℕ, List, [], ◌∷◌, ◌++◌, ℤ}
use Rattle.std.specs.List.{flat_map}
use Rattle.bk_num.specs.declared.values.Pseudo.{Pseudo}
use Rattle.dom.specs.Nodes.{Node, IsTree, attribute_at}
use Rattle.style.specs.declared.content.Part.{Part}
use Rattle.style.specs.declared.content.Part.TheVariants as part
use Rattle.style.specs.Nodes.{NodeStyles}
use Rattle.gen_text.specs.declared.table.Entry.{Entry}
use Rattle.gen_text.specs.Own.{own_text}
use Rattle.gen_text.specs.Parts.{PrintsReference, attribute_text, innermost_text, joined_text, reference_text}
use Rattle.gen_text.specs.Target.{target_of}

-- where a list of content is printed: the document, its styles, an element or a pseudo-element of it, the values of a
-- counter at an element or a pseudo-element, the outermost scope first, and the numbers of pages
pub record Place : Type 0 where
  pub nodes : List Node
  pub styles : List NodeStyles
  pub node : ℕ
  pub pseudo : Pseudo
  pub values : ℕ → Pseudo → List ℕ → List ℤ
  pub table : List Entry

-- the same from its parts
abbrev pub place_of : List Node → List NodeStyles → ℕ → Pseudo → (ℕ → Pseudo → List ℕ → List ℤ) → List Entry → Place
place_of nodes styles node pseudo values table =
    record { nodes = nodes; styles = styles; node = node; pseudo = pseudo; values = values; table = table }

-- what a part prints. The parts of margin boxes alone print nothing in the flow
abbrev pub printed_by : Place → Part → List ℕ
printed_by p (part.Text text) = text
printed_by p (part.Attr name) = attribute_text (attribute_at p.nodes p.node name)
printed_by p (part.Counter name style) = innermost_text style (p.values p.node p.pseudo name)
printed_by p (part.Counters name between style) = joined_text between style (p.values p.node p.pseudo name)
printed_by p (part.Target link name style) =
    reference_text p.values p.table name style (target_of p.nodes p.styles p.node link)
printed_by p part.Own = own_text p.nodes p.styles p.node
printed_by p (part.Running name keyword) = []
printed_by p (part.Page style) = []
printed_by p (part.Pages style) = []

-- a text with what a part prints at its end
abbrev pub PrintsPart : Place → Part → List ℕ → List ℕ → Type 0
PrintsPart p (part.Text text) old new = new ≡ old ++ printed_by p (part.Text text)
PrintsPart p (part.Attr name) old new = new ≡ old ++ printed_by p (part.Attr name)
PrintsPart p (part.Counter name style) old new = new ≡ old ++ printed_by p (part.Counter name style)
PrintsPart p (part.Counters name between style) old new = new ≡
    old ++ printed_by p (part.Counters name between style)
PrintsPart p (part.Target link name style) old new =
    PrintsReference p.nodes p.styles p.values p.table p.node link name style old new
PrintsPart p part.Own old new = new ≡ old ++ printed_by p part.Own
PrintsPart p (part.Running name keyword) old new = new ≡ old
PrintsPart p (part.Page style) old new = new ≡ old
PrintsPart p (part.Pages style) old new = new ≡ old

-- a text with what parts print at its end, one after another
abbrev pub PrintsParts : Place → List Part → List ℕ → List ℕ → Type 0
PrintsParts p [] old new = new ≡ old
PrintsParts p (x ∷ xs) old new = (middle : List ℕ) × PrintsPart p x old middle × PrintsParts p xs middle new

-- the text of a list of content: what its parts print, joined
abbrev pub IsTextOf : Place → List Part → List ℕ → Type 0
IsTextOf p content text = PrintsParts p content [] text

-- ---- the same as a function

-- the text of a list of content: what its parts print, joined
abbrev pub text_of : Place → List Part → List ℕ
text_of p content = flat_map (printed_by p) content

-- ---- laws

-- a list of content has one text at a place
abbrev pub TextIsOne : Type 0
TextIsOne = (p : Place) (content : List Part) (a b : List ℕ) → IsTree p.nodes → IsTextOf p content a →
    IsTextOf p content b → a ≡ b

-- the text that a list of content has is that
abbrev pub TextIsThat : Type 0
TextIsThat = (p : Place) (content : List Part) (text : List ℕ) → IsTree p.nodes → IsTextOf p content text →
    text ≡ text_of p content
