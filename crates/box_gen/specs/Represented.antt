-- The texts that elements represent (HTML, 3.2.1).
use Rattle.std.specs.Prelude.{ℕ, List, [], ◌∷◌, Option, None, Some, codes, if◌then◌else◌}
use Rattle.std.specs.Str.{bytes_eq}
use Rattle.bk_num.specs.declared.values.WhiteSpace.{WhiteSpace}
use Rattle.bk_num.specs.declared.values.WhiteSpace.TheVariants as space
use Rattle.dom.specs.Nodes.{Node, name_at, attribute_at}
use Rattle.gen_text.specs.Parts.{attribute_text}
use Rattle.inline_text.specs.declared.space.TextPart.{TextPart}

-- the name of the attribute `alt`
abbrev pub alt : List ℕ
alt = 97 ∷ 108 ∷ 116 ∷ []

-- a text is represented, and its white space is treated so
abbrev pub some_part : List ℕ → WhiteSpace → Option TextPart
some_part text space = Some (record { text = text; space = space })

-- the text that an element of a name represents
abbrev pub represented_by : List Node → ℕ → WhiteSpace → Option (List ℕ) → Option TextPart
represented_by nodes n s None = None
represented_by nodes n s (Some name) =
    if bytes_eq name (codes "br") then some_part (10 ∷ []) space.PreLine else
    (if bytes_eq name (codes "wbr") then some_part (226 ∷ 128 ∷ 139 ∷ []) s else
    (if bytes_eq name (codes "img") then some_part (attribute_text (attribute_at nodes n alt)) s else None))

-- the text that an element represents, where its style treats white space so: a newline that is kept for `br`, a zero
-- width space for `wbr`, and the `alt` text for `img`
abbrev pub represented_text : List Node → ℕ → WhiteSpace → Option TextPart
represented_text nodes n s = represented_by nodes n s (name_at nodes n)
