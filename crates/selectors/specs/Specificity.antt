-- How specific a selector is (Selectors 3, 9).
use Rattle.std.specs.Prelude.{ℕ, ◌+◌, Bool, true, false, not, List, [], ◌∷◌, is_some, count_by, min}
use Rattle.std.specs.Int.{from_bool}
use Rattle.bk_num.specs.declared.values.Pseudo.{Pseudo}
use Rattle.bk_num.specs.declared.values.Pseudo.TheVariants as pseudo
use Rattle.selectors.specs.declared.types.Test.{Test}
use Rattle.selectors.specs.declared.types.Test.TheVariants as test
use Rattle.selectors.specs.declared.types.Plain.{Plain}
use Rattle.selectors.specs.declared.types.Compound.{Compound}
use Rattle.selectors.specs.declared.specificity.Count.{Count}
use Rattle.selectors.specs.declared.specificity.Count.TheVariants as count
use Rattle.selectors.specs.Selectors.{SelectorView}

-- an id selector
abbrev pub is_id : Test → Bool
is_id (test.Id v) = true
is_id _ = false

-- a class, an attribute or a pseudo-class
abbrev pub is_other : Test → Bool
is_other t = not (is_id t)

-- ids; classes, attributes and pseudo-classes; types
abbrev pub in_plain : Count → Plain → ℕ
in_plain count.Ids p = count_by is_id p.tests
in_plain count.Others p = count_by is_other p.tests
in_plain count.Types p = from_bool (is_some p.name)

-- how many of a kind stand in the arguments of `:not`
abbrev pub in_plains : Count → List Plain → ℕ
in_plains c [] = 0
in_plains c (p ∷ ps) = in_plain c p + in_plains c ps

-- `:not` counts its argument alone
abbrev pub in_compound : Count → Compound → ℕ
in_compound c k = in_plain c k.plain + in_plains c k.nots

-- how many of a kind stand in compounds
abbrev pub in_parts : Count → List Compound → ℕ
in_parts c [] = 0
in_parts c (k ∷ ks) = in_compound c k + in_parts c ks

-- a pseudo-element, not the element itself
abbrev pub is_pseudo : Pseudo → Bool
is_pseudo pseudo.Element = false
is_pseudo _ = true

-- a count, held at the greatest that is kept
abbrev pub held : ℕ → ℕ
held n = min n 4294967295

-- the specificity of a selector: ids; classes, attributes and pseudo-classes; types and pseudo-elements
abbrev pub specificity_of : SelectorView → ℕ × ℕ × ℕ
specificity_of s = (
  held (in_parts count.Ids s.parts),
  held (in_parts count.Others s.parts),
  held (in_parts count.Types s.parts + from_bool (is_pseudo s.pseudo)),
)
