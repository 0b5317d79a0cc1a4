-- Page rules with their selectors and values read (css-page-3, 3 to 5).
use Rattle.std.specs.Prelude.{ℕ, List, Option, option_map}
use Rattle.std.specs.List.{filter_map}
use Rattle.css_rules.specs.MarginBoxes.{margin_box_number}
use Rattle.css_rules.specs.Pages.{BoxOf, PageOf}
use Rattle.css_page.specs.Decls.{page_decl, box_decl}
use Rattle.css_page.specs.Selectors.{read_selectors}
use Rattle.css_page.specs.declared.rules.PageRule.{PageRule}
use Rattle.css_page.specs.declared.selectors.PageSelector.{PageSelector}
use Rattle.css_page.specs.declared.values.PageDecl.{PageDecl}

-- the declarations of a margin box, under this number
abbrev pub with_decls : BoxOf → ℕ → ℕ × List PageDecl
with_decls b n = (n, filter_map box_decl b.decls)

-- the declarations of a margin box, under its number
abbrev pub box_of : BoxOf → Option (ℕ × List PageDecl)
box_of b = option_map (with_decls b) (margin_box_number b.name)

-- a page rule with these selectors
abbrev pub with_selectors : PageOf → List PageSelector → PageRule
with_selectors r ss = record { selectors = ss; decls = filter_map page_decl r.decls; boxes = filter_map box_of r.boxes }

-- a page rule, where its selectors have a reading
abbrev pub rule_of : PageOf → Option PageRule
rule_of r = option_map (with_selectors r) (read_selectors r.selectors)
