use Rattle.std.proofs.Common.{◌≡◌, ◌∙◌, ◌++◌, ℕ, List, Option, Some, sym, ap, subst, FitsSigned, w64}
use Rattle.std.specs.Prelude.{if◌then◌else◌, OnOk}
use Rattle.std.proofs.lemmas.Int.{to_z-of_z}
use Rattle.line_fill.proofs.AskLemmas.{if_ok, on_err}
use Rattle.cursor.specs.KeptLines.{LeafAtMeasure, leaf_eq, place_in}
use Rattle.cursor.specs.LeafPlaces.{entries_from}
use Rattle.cursor.specs.declared.leaf_places.NotedPlace.{NotedPlace}
use Rattle.cursor.proofs.NotedLemmas.{noted_first, noted_other}
use Rattle.cursor.proofs.leaf_places.LeafPlaces.note.Goals as goal

pub returns-then-goes_first-clause-noted : goal.returns-then-goes_first-clause-noted
returns-then-goes_first-clause-noted c =
    let fits : FitsSigned w64 c.args.measure = c.ranges.measure in
    let told = rw (c.as_slice.ensures.value, to_z-of_z w64 c.args.measure fits) at c.goes_first.ensures in
    let put = rw (to_z-of_z w64 c.args.measure fits) at c.put.ensures.put in
    subst (λ (places : List (LeafAtMeasure × ℕ)). OnOk c.put.result ((q : LeafAtMeasure) → place_in (entries_from 0 c.put.new.firsts.items ++ c.self.inside.others.entries) q ≡ (if leaf_eq (c.args.number.tree, c.args.number.leaf, c.args.measure) q then Some c.args.at else place_in places q))) c.self.view_is
    (if_ok (λ u h. noted_first c.self.inside.firsts.items c.put.new.firsts.items c.self.inside.others.entries c.args.number.tree c.args.number.leaf c.args.at c.args.measure (sym told ∙ c.if-goes_first.true) h) c.put.result put)

pub returns-then-goes_first-clause-same : goal.returns-then-goes_first-clause-same
returns-then-goes_first-clause-same c =
    on_err (λ e. ap (λ (firsts : List (Option NotedPlace)). entries_from 0 firsts ++ c.self.inside.others.entries) e ∙ c.self.view_is) c.put.result c.put.ensures.same

pub returns-clause-noted : goal.returns-clause-noted
returns-clause-noted c =
    let fits : FitsSigned w64 c.args.measure = c.ranges.measure in
    let told = rw (c.as_slice.ensures.value, to_z-of_z w64 c.args.measure fits) at c.goes_first.ensures in
    let updates = rw (to_z-of_z w64 c.args.measure fits) at c.in-Ok.ensures.updates.0 in
    subst (λ (places : List (LeafAtMeasure × ℕ)). (q : LeafAtMeasure) → place_in (entries_from 0 c.self.inside.firsts.items ++ c.insert.new.self.entries) q ≡ (if leaf_eq (c.args.number.tree, c.args.number.leaf, c.args.measure) q then Some c.args.at else place_in places q)) c.self.view_is
    (noted_other c.self.inside.firsts.items c.self.inside.others.entries c.insert.new.self.entries c.args.number.tree c.args.number.leaf c.args.at c.args.measure (sym told ∙ c.if-goes_first.false) updates)
