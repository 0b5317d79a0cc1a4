-- The declarations of page rules and of margin boxes: what they give, where their values have a reading (css-page-3, 4
-- and 5).
use Rattle.std.specs.Prelude.{ℕ, List, [], ◌∷◌, Option, Some, None, option_map}
use Rattle.std.specs.List.{filter_map}
use Rattle.css_tok.specs.Tokens.{tokens_of}
use Rattle.css_words.specs.Input.{kept}
use Rattle.css_words.specs.Parser.{Outcome}
use Rattle.css_words.specs.Table.{find_word}
use Rattle.css_words.specs.declared.reader.Skipped.TheVariants as skipped
use Rattle.css_rules.specs.Decls.{Decl}
use Rattle.style.specs.declared.long.Long.{Long}
use Rattle.style.specs.declared.long.Long.TheVariants as long
use Rattle.css_values.specs.Decls.{read_decl}
use Rattle.css_values.specs.declared.decls.Decl.{Decl as Longhands}
use Rattle.css_page.specs.Properties.{properties, read_own}
use Rattle.css_page.specs.declared.values.PageLong.{PageLong}
use Rattle.css_page.specs.declared.values.PageLong.TheVariants as page
use Rattle.css_page.specs.declared.values.PageDecl.{PageDecl}
use Rattle.css_page.specs.declared.properties.PageContext.{PageContext}
use Rattle.css_page.specs.declared.properties.PageContext.TheVariants as context
use Rattle.css_page.specs.declared.properties.PageGrammar.{PageGrammar}
use Rattle.css_page.specs.declared.properties.PageGrammar.TheVariants as grammar
use Rattle.css_page.specs.declared.properties.OwnProperty.{OwnProperty}

-- a declared value of an element as one of a page, where a page has it
abbrev pub page_long : Long → Option PageLong
page_long (long.MarginTop g) = Some (page.MarginTop g)
page_long (long.MarginRight g) = Some (page.MarginRight g)
page_long (long.MarginBottom g) = Some (page.MarginBottom g)
page_long (long.MarginLeft g) = Some (page.MarginLeft g)
page_long (long.Color g) = Some (page.Color g)
page_long (long.FontFamily g) = Some (page.FontFamily g)
page_long (long.FontSize g) = Some (page.FontSize g)
page_long (long.FontStyle g) = Some (page.FontStyle g)
page_long (long.FontWeight g) = Some (page.FontWeight g)
page_long (long.LineHeight g) = Some (page.LineHeight g)
page_long _ = None

-- those of an element's declared values that a page has
abbrev pub page_longs : Longhands → List PageLong
page_longs d = filter_map page_long d.longs

-- what an element's declaration of the same name gives
abbrev pub read_shared : List ℕ → List ℕ → Option (List PageLong)
read_shared name value = option_map page_longs (read_decl name value)

-- one declared value
abbrev pub alone : PageLong → List PageLong
alone l = l ∷ []

-- that of a reading
abbrev pub alone_of : Outcome PageLong → Option (List PageLong)
alone_of None = None
alone_of (Some r) = Some (alone r.0)

-- what a value of a property of their own gives
abbrev pub read_other : OwnProperty → List ℕ → Option (List PageLong)
read_other p value = alone_of (read_own p (kept skipped.CommentsAndSpaces (tokens_of value)))

-- what a value of a property gives
abbrev pub longs_by : Option PageGrammar → List ℕ → List ℕ → Option (List PageLong)
longs_by None name value = None
longs_by (Some grammar.Shared) name value = read_shared name value
longs_by (Some (grammar.Own p)) name value = read_other p value

-- what a declaration gives: none where pages or margin boxes don't have the property, or its value has no reading
abbrev pub longs_of : PageContext → Decl → Option (List PageLong)
longs_of c d = longs_by (find_word (properties c) d.name) d.name d.value

-- a declaration that gives these values
abbrev pub with_longs : Decl → List PageLong → PageDecl
with_longs d ls = record { longs = ls; important = d.important }

-- a declaration, where it has a reading
abbrev pub decl_of : PageContext → Decl → Option PageDecl
decl_of c d = option_map (with_longs d) (longs_of c d)

-- a declaration of a page
abbrev pub page_decl : Decl → Option PageDecl
page_decl d = decl_of context.Page d

-- a declaration of a margin box
abbrev pub box_decl : Decl → Option PageDecl
box_decl d = decl_of context.MarginBox d
