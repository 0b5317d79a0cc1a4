-- Families that declarations name, and those among them without a face (CSS 2.1, 15.3 and 15.5).
use Rattle.std.specs.Prelude.{◌≡◌, ℕ, Bool, not, List, [], ◌∷◌, Option, Some, None, map, if◌then◌else◌}
use Rattle.std.specs.List.{filter, flat_map}
use Rattle.css_rules.specs.Decls.{Decl}
use Rattle.css_values.specs.Decls.{read_decl}
use Rattle.css_values.specs.declared.decls.Decl.{Decl as Longhands}
use Rattle.css_page.specs.Decls.{page_decl, box_decl}
use Rattle.css_page.specs.declared.values.PageDecl.{PageDecl}
use Rattle.css_page.specs.declared.values.PageLong.{PageLong}
use Rattle.css_page.specs.declared.values.PageLong.TheVariants as page
use Rattle.style.specs.declared.long.Long.{Long}
use Rattle.style.specs.declared.long.Long.TheVariants as long
use Rattle.style.specs.declared.long.Given.{Given}
use Rattle.style.specs.declared.long.Given.TheVariants as given
use Rattle.metrics.specs.Face.{FontFace}
use Rattle.metrics.specs.Choice.{family_name, names_some}
use Rattle.unread_list.specs.Parts.{PartOf, Declaration, PlacedOf, parts_of}
use Rattle.unread_list.specs.Reading.{is_read, unread_of}
use Rattle.unread_list.specs.declared.part.Owner.{Owner}
use Rattle.unread_list.specs.declared.part.Owner.TheVariants as owner

-- the families that a value gives, where it gives some
abbrev pub given_families : Given (List (List ℕ)) → List (List ℕ)
given_families (given.Value families) = families
given_families _ = []

-- the families of a longhand of an element
abbrev pub long_families : Long → List (List ℕ)
long_families (long.FontFamily g) = given_families g
long_families _ = []

-- the same of a page or of a margin box
abbrev pub page_long_families : PageLong → List (List ℕ)
page_long_families (page.FontFamily g) = given_families g
page_long_families _ = []

-- the families of a declaration's longhands
abbrev pub read_families : Option Longhands → List (List ℕ)
read_families None = []
read_families (Some d) = flat_map long_families d.longs

-- the same of a page or of a margin box
abbrev pub page_families : Option PageDecl → List (List ℕ)
page_families None = []
page_families (Some d) = flat_map page_long_families d.longs

-- the families that a declaration names, as one of an element, of a page or of a margin box
abbrev pub families_by : Owner → Decl → List (List ℕ)
families_by owner.Elements d = read_families (read_decl d.name d.value)
families_by owner.Page d = page_families (page_decl d)
families_by owner.MarginBox d = page_families (box_decl d)

-- the families that a part of a sheet names
abbrev pub families_in : PartOf → List (List ℕ)
families_in (Declaration o text (Some d)) = families_by o d
families_in _ = []

-- what is found in a sheet: a part that has no reading, or a family without a face and the line of its declaration
pub data FindingOf : Type 0 where
  Unread : PlacedOf → FindingOf
  Family : ℕ → List ℕ → FindingOf

-- a family names no face
abbrev pub is_faceless : List FontFace → List ℕ → Bool
is_faceless faces name = not (names_some faces (family_name name))

-- the families among these that name no face
abbrev pub faceless : List FontFace → ℕ → List (List ℕ) → List FindingOf
faceless faces line names = map (Family line) (filter (is_faceless faces) names)

-- what is found at a part: that it has no reading, or else its families without a face
abbrev pub part_findings : List FontFace → PlacedOf → List FindingOf
part_findings faces p = if is_read p.part then faceless faces p.line (families_in p.part) else Unread p ∷ []

-- what is found in a sheet, in the order of its text
abbrev pub findings_of : List FontFace → List ℕ → List FindingOf
findings_of faces text = flat_map (part_findings faces) (parts_of text)

-- the part without a reading that is found, if it is one
abbrev pub unread_in : FindingOf → List PlacedOf
unread_in (Unread p) = p ∷ []
unread_in (Family line name) = []

-- the parts without a reading among what is found in a sheet are those that have none
abbrev pub UnreadIsFound : Type 0
UnreadIsFound = (faces : List FontFace) (text : List ℕ) → flat_map unread_in (findings_of faces text) ≡ unread_of text
