use Rattle.std.proofs.Common.{◌≡◌, ◌∙◌, ℕ, List, Some, sym, subst, FitsSigned, w64}
use Rattle.std.specs.Map.{lookup}
use Rattle.std.specs.Option.{option_copied}
use Rattle.std.proofs.lemmas.Int.{to_z-of_z}
use Rattle.cursor.specs.KeptLines.{LeafAtMeasure, leaf_eq, place_in}
use Rattle.cursor.proofs.NotedLemmas.{found_first, found_other}
use Rattle.cursor.proofs.leaf_places.LeafPlaces.get.Goals as goal

pub returns-in-Some : goal.returns-in-Some
returns-in-Some c =
    let fits : FitsSigned w64 c.args.measure = c.ranges.measure in
    let told = rw (c.as_slice.ensures.value, to_z-of_z w64 c.args.measure fits) at c.first_in.ensures in
    subst (λ (places : List (LeafAtMeasure × ℕ)). Some c.in-Some.at ≡ place_in places (c.args.number.tree, c.args.number.leaf, c.args.measure)) c.self.view_is
    (found_first c.self.inside.firsts.items c.self.inside.others.entries c.args.number.tree c.args.number.leaf c.in-Some.at c.args.measure (sym told ∙ c.in-Some.is))

pub returns : goal.returns
returns c =
    let fits : FitsSigned w64 c.args.measure = c.ranges.measure in
    let told = rw (c.as_slice.ensures.value, to_z-of_z w64 c.args.measure fits) at c.first_in.ensures in
    let value : option_copied c.get.result ≡ lookup (leaf_eq (c.args.number.tree, c.args.number.leaf, c.args.measure)) c.self.inside.others.entries = rw (to_z-of_z w64 c.args.measure fits) at c.get.ensures.value in
    subst (λ (places : List (LeafAtMeasure × ℕ)). c.copied.result ≡ place_in places (c.args.number.tree, c.args.number.leaf, c.args.measure)) c.self.view_is
    (c.copied.ensures ∙ (value ∙ found_other c.self.inside.firsts.items c.self.inside.others.entries c.args.number.tree c.args.number.leaf c.args.measure (sym told ∙ c.in_default.is)))
