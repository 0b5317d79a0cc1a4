-- Which parts of a sheet have no reading.
use Rattle.std.specs.Prelude.{ℕ, Bool, false, not, List, Option, Some, None, is_some}
use Rattle.std.specs.List.{filter}
use Rattle.css_rules.specs.Decls.{Decl}
use Rattle.selectors.specs.Grammar.{selectors_in}
use Rattle.css_values.specs.Decls.{read_decl}
use Rattle.css_page.specs.Decls.{page_decl, box_decl}
use Rattle.css_page.specs.Selectors.{read_selectors}
use Rattle.unread_list.specs.Parts.{PartOf, Selectors, PageSelectors, Declaration, AtRule, Media, NoBlock, PlacedOf, parts_of}
use Rattle.unread_list.specs.declared.part.Owner.{Owner}
use Rattle.unread_list.specs.declared.part.Owner.TheVariants as owner

-- a declaration has a reading, as one of an element, of a page or of a margin box
abbrev pub is_read_decl : Owner → Decl → Bool
is_read_decl owner.Elements d = is_some (read_decl d.name d.value)
is_read_decl owner.Page d = is_some (page_decl d)
is_read_decl owner.MarginBox d = is_some (box_decl d)

-- a piece of a block is a declaration that has a reading
abbrev pub is_read_piece : Owner → Option Decl → Bool
is_read_piece o None = false
is_read_piece o (Some d) = is_read_decl o d

-- selectors of elements have a reading
abbrev pub are_read : List ℕ → Bool
are_read text = is_some (selectors_in text)

-- page selectors have a reading
abbrev pub are_read_pages : List ℕ → Bool
are_read_pages text = is_some (read_selectors text)

-- A part has a reading: selectors, page selectors, or a declaration. A piece that is no declaration has none, and so
-- has each at-rule, media list and prelude that gives nothing.
abbrev pub is_read : PartOf → Bool
is_read (Selectors text) = are_read text
is_read (PageSelectors text selectors) = are_read_pages selectors
is_read (Declaration o text d) = is_read_piece o d
is_read (AtRule text) = false
is_read (Media text) = false
is_read (NoBlock text) = false

-- the parts of a sheet that have no reading, in the order of its text
abbrev pub unread_of : List ℕ → List PlacedOf
unread_of text = filter (λ p. not (is_read p.part)) (parts_of text)
