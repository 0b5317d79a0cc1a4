-- The names of the running strings that margin boxes ask for (css-gcpm-3, 1.1.2).
use Rattle.std.specs.Prelude.{ℕ, List, [], ◌∷◌, Some}
use Rattle.std.specs.List.{flat_map}
use Rattle.style.specs.declared.content.Part.{Part}
use Rattle.style.specs.declared.content.Part.TheVariants as part
use Rattle.style.specs.declared.long.Given.TheVariants as given
use Rattle.css_page.specs.declared.rules.PageRule.{PageRule}
use Rattle.css_page.specs.declared.values.PageDecl.{PageDecl}
use Rattle.css_page.specs.declared.values.PageLong.{PageLong}
use Rattle.css_page.specs.declared.values.PageLong.TheVariants as long

-- the name that a part of content asks for, by `string()`
abbrev pub running_by : Part → List (List ℕ)
running_by (part.Running name keyword) = name ∷ []
running_by _ = []

-- the names that a list of content asks for
abbrev pub running_in : List Part → List (List ℕ)
running_in parts = flat_map running_by parts

-- the content that a declared value gives; other properties give none
abbrev pub content_in : PageLong → List Part
content_in (long.Content (given.Value (Some parts))) = parts
content_in _ = []

-- the names that the content of declared values asks for
abbrev pub running_longs : List PageLong → List (List ℕ)
running_longs longs = flat_map (λ l. running_in (content_in l)) longs

-- that of declarations
abbrev pub running_decls : List PageDecl → List (List ℕ)
running_decls decls = flat_map (λ d. running_longs d.longs) decls

-- that of the margin boxes of a rule
abbrev pub running_boxes : List (ℕ × List PageDecl) → List (List ℕ)
running_boxes boxes = flat_map (λ b. running_decls b.1) boxes

-- the names that the margin boxes of rules ask for, in the order of the sheets
abbrev pub all_running : List PageRule → List (List ℕ)
all_running rules = flat_map (λ r. running_boxes r.boxes) rules
