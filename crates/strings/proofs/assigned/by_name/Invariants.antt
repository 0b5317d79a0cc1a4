use Rattle.std.proofs.Common.{◌≡◌, ℕ, List, map, filter, take}
use Rattle.std.specs.Str.{bytes_eq}
use Rattle.strings.specs.StringFields.{marked, marks_in}
use Rattle.strings.proofs.assigned.by_name.Given as goal

abbrev pub invariant-loop-place : goal.invariant-loop-place
invariant-loop-place l =
    (name : List ℕ) → marks_in l.named name ≡ map (λ e. e.1) (filter (λ e. bytes_eq e.0 name) (take l.place (marked l.flow.main l.pages 0 l.assigns)))
