use Rattle.std.proofs.Common.{◌≡◌, ◌++◌, map, drop}
use Rattle.std.specs.List.{filter_map}
use Rattle.css_rules.specs.Pages.{box_in}
use Rattle.css_page.specs.Rules.{box_of}
use Rattle.css_page.proofs.rules.read_boxes.Given as goal

abbrev pub invariant-loop-slice : goal.invariant-loop-slice
invariant-loop-slice l = l.boxes ++ filter_map box_of (map box_in (drop l.slice-index l.slices)) ≡ filter_map box_of (map box_in l.slices)
