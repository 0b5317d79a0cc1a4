use Rattle.std.proofs.Common.{◌≡◌, ◌++◌, map, drop}
use Rattle.std.specs.List.{filter_map}
use Rattle.css_rules.specs.Decls.{decl_in}
use Rattle.cascade.specs.Sheets.{read_of}
use Rattle.cascade.proofs.sheet.read_all.Given as goal

abbrev pub invariant-loop-slice : goal.invariant-loop-slice
invariant-loop-slice l = l.decls ++ filter_map read_of (map decl_in (drop l.slice-index l.slices)) ≡ filter_map read_of (map decl_in l.slices)
