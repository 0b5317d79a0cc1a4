-- What the parts of a list of content print (CSS 2.1, 12.2 and 12.4; css-gcpm-3).
use Rattle.std.specs.Prelude.{◌≡◌, ℕ, ◌-◌, if◌then◌else◌, List, [], ◌∷◌, ◌++◌, Option, None, Some, length, slice_get, ℤ}
use Rattle.std.specs.List.{flat_map}
use Rattle.bk_num.specs.declared.values.NumStyle.{NumStyle}
use Rattle.bk_num.specs.declared.values.Pseudo.{Pseudo}
use Rattle.bk_num.specs.declared.values.Pseudo.TheVariants as pseudo
use Rattle.counters.specs.Numerals.{numeral_of, number_text}
use Rattle.dom.specs.Nodes.{Node}
use Rattle.style.specs.Counters.{is_page_counter}
use Rattle.style.specs.declared.content.Link.{Link}
use Rattle.style.specs.Nodes.{NodeStyles}
use Rattle.gen_text.specs.declared.table.Entry.{Entry}
use Rattle.gen_text.specs.Table.{page_text}
use Rattle.gen_text.specs.Target.{IsTarget}

-- `attr()`: the value, or nothing where there is none
abbrev pub attribute_text : Option (List ℕ) → List ℕ
attribute_text None = []
attribute_text (Some value) = value

-- `counter()`: of the values, the outermost first, the last one
abbrev pub innermost_text : NumStyle → List ℤ → List ℕ
innermost_text style values = number_text style (slice_get values (length values - 1))

-- a value after the text between two
abbrev pub after_text : List ℕ → NumStyle → ℤ → List ℕ
after_text between style v = between ++ numeral_of style v

-- `counters()`: all values, the outermost first, with a text between them
abbrev pub joined_text : List ℕ → NumStyle → List ℤ → List ℕ
joined_text between style [] = []
joined_text between style (v ∷ more) = numeral_of style v ++ flat_map (after_text between style) more

-- the innermost value of a counter at an element, or nothing where there is none
abbrev pub value_text : (ℕ → Pseudo → List ℕ → List ℤ) → List ℕ → NumStyle → Option ℕ → List ℕ
value_text values name style None = []
value_text values name style (Some t) = innermost_text style (values t pseudo.Element name)

-- `target-counter()`: for `page` the number of the target's page in the table, for another counter its innermost value
-- at the target
abbrev pub reference_text : (ℕ → Pseudo → List ℕ → List ℤ) → List Entry → List ℕ → NumStyle → Option ℕ → List ℕ
reference_text values table name style t = if is_page_counter name then page_text table t style
    else value_text values name style t

-- a text with what a reference prints at its end
abbrev pub PrintsReference :
    List Node → List NodeStyles → (ℕ → Pseudo → List ℕ → List ℤ) → List Entry → ℕ → Link → List ℕ → NumStyle →
    List ℕ → List ℕ → Type 0
PrintsReference nodes styles values table n link name style old new =
    (t : Option ℕ) × IsTarget nodes styles n link t × (new ≡ old ++ reference_text values table name style t)
