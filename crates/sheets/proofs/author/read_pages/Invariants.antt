use Rattle.std.proofs.Common.{◌≡◌, ◌++◌, drop, map}
use Rattle.std.specs.List.{filter_map}
use Rattle.css_rules.specs.Pages.{page_in}
use Rattle.css_page.specs.Rules.{rule_of}
use Rattle.sheets.proofs.author.read_pages.Given as goal

abbrev pub invariant-loop-page : goal.invariant-loop-page
invariant-loop-page l = l.rules ++ filter_map rule_of (map page_in (drop l.page-index l.pages)) ≡ filter_map rule_of (map page_in l.pages)
