use Rattle.std.proofs.Common.{◌≡◌, ◌++◌, map, drop}
use Rattle.std.specs.List.{filter_map}
use Rattle.css_rules.specs.Decls.{decl_in}
use Rattle.css_page.specs.Decls.{decl_of}
use Rattle.css_page.proofs.decls.read_decls.Given as goal

abbrev pub invariant-loop-slice : goal.invariant-loop-slice
invariant-loop-slice l =
    l.decls ++ filter_map (decl_of l.context) (map decl_in (drop l.slice-index l.slices)) ≡ filter_map (decl_of l.context) (map decl_in l.slices)
