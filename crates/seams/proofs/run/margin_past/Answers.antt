use Rattle.std.proofs.Common.{◌≡◌, ◌≤◌, ◌+◌, ◌==◌, ℕ, suc, ℤ, pos, cond, List, ◌∷◌, Option, Some, IfSome, length, slice_get, subst, sym, ap, ◌∙◌, arith, to_z, of_z}
use Rattle.std.proofs.lemmas.Int.{ints}
use mir.Syntax.{w64}
use Rattle.bk_num.specs.declared.sides.BoxSide.TheVariants as side
use Rattle.boxes.specs.Tree.{Tree, open_before, open_with, rest_of, depth_of}
use Rattle.boxes.specs.declared.place.Event.{Event}
use Rattle.boxes.specs.declared.place.Event.TheVariants.{Opens, Closes, Leaf}
use Rattle.boxes.proofs.SpanLemmas.{most_open_at}
use Rattle.boxes.proofs.TreeFacts.{around_there, box_there, closes_innermost}
use Rattle.boxes.proofs.TreeLemmas.{open-step}
use Rattle.seams.specs.Runs.{margin_at, margin_or, width_in}
use Rattle.seams.specs.Widths.{widths_of}
use Rattle.seams.proofs.WidthLemmas.{widths_size}
use Rattle.seams.proofs.run.margin_past.Goals as goal

-- the boxes that are open after an event
past : (t : Tree) (at : ℕ) (e : Event) → slice_get t.events at ≡ Some e → open_before t.events (at + 1) ≡ open_with (open_before t.events at) e
past t at e there = let next : at + 1 ≡ suc at = omega arith in ap (open_before t.events) next ∙ open-step t.events at e there

pub used_margin-margin-requires-clause-number : goal.used_margin-margin-requires-clause-number
used_margin-margin-requires-clause-number c = box_there c.args.tree.now c.count-count.ensures.tree c.args.at _ (c.event.ensures ∙ ap (λ (e : Event). Some e) c.in-Opens.is)

pub open_box-requires-clause-number : goal.open_box-requires-clause-number
open_box-requires-clause-number c = box_there c.args.tree.now c.count-count.ensures.tree c.args.at _ (c.event.ensures ∙ ap (λ (e : Event). Some e) c.in-Opens.is)

pub open_box-requires-clause-room : goal.open_box-requires-clause-room
open_box-requires-clause-room c =
    let t : Tree = c.args.tree.now in
    let there = c.event.ensures ∙ ap (λ (e : Event). Some e) c.in-Opens.is in
    let size : length c.args.widths.now ≡ length (open_before t.events c.args.at) = ap length c.requires.widths ∙ widths_size t c.args.measure (open_before t.events c.args.at) in
    let most : length (open_before t.events (suc c.args.at)) ≤ depth_of t.events = most_open_at _ t.events (suc c.args.at) in
    let more : length (open_before t.events (suc c.args.at)) ≡ suc (length (open_before t.events c.args.at)) = ap length (open-step t.events c.args.at (Opens c.in-Opens.index) there) in
    let deep = c.requires.depth in
    omega arith

pub returns-in-Opens-clause-value : goal.returns-in-Opens-clause-value
returns-in-Opens-clause-value c =
    let t : Tree = c.args.tree.now in
    let there = c.event.ensures ∙ ap (λ (e : Event). Some e) c.in-Opens.is in
    let exact : to_z w64 (of_z w64 c.args.measure) ≡ c.args.measure = omega (arith, ints) in
    let inner : c.innermost.result ≡ width_in t c.args.measure (open_before t.events c.args.at) = simp exact at c.innermost.ensures.width t (open_before t.events c.args.at) c.requires.widths in
    let cast : to_z w64 (of_z w64 c.innermost.result) ≡ c.innermost.result = omega (arith, ints) in
    let units = c.used_margin-margin.ensures.value ∙ ap (λ (z : ℤ). cond (c.in-Opens.index == 0) (pos 0) (margin_or (slice_get t.boxes c.in-Opens.index) side.Top z)) (cast ∙ inner) in
    subst (λ (o : Option Event). IfSome o (λ e. c.used_margin-margin.result.units ≡ margin_at t c.args.measure c.args.at e)) (sym there) units

pub returns-in-Opens-clause-widths : goal.returns-in-Opens-clause-widths
returns-in-Opens-clause-widths c =
    let t : Tree = c.args.tree.now in
    let there = c.event.ensures ∙ ap (λ (e : Event). Some e) c.in-Opens.is in
    let exact : to_z w64 (of_z w64 c.args.measure) ≡ c.args.measure = omega (arith, ints) in
    let boxes : List ℕ = open_before t.events c.args.at in
    c.open_box.ensures boxes (c.requires.widths ∙ ap (λ (z : ℤ). widths_of t z boxes) (sym exact)) ∙ ap (λ (z : ℤ). widths_of t z (c.in-Opens.index ∷ boxes)) exact
    ∙ ap (widths_of t c.args.measure) (sym (past t c.args.at (Opens c.in-Opens.index) there))

pub used_margin-requires-clause-number : goal.used_margin-requires-clause-number
used_margin-requires-clause-number c =
    let low = c.requires.within in
    around_there c.args.tree.now c.count-count.ensures.tree c.args.at _ (omega arith) (closes_innermost c.args.tree.now c.count-count.ensures.tree c.args.at _ (c.event.ensures ∙ ap (λ (e : Event). Some e) c.in-Closes.is))

pub returns-in-Closes-clause-value : goal.returns-in-Closes-clause-value
returns-in-Closes-clause-value c =
    let t : Tree = c.args.tree.now in
    let there = c.event.ensures ∙ ap (λ (e : Event). Some e) c.in-Closes.is in
    let exact : to_z w64 (of_z w64 c.args.measure) ≡ c.args.measure = omega (arith, ints) in
    let gone = c.close_box.ensures t c.args.measure (open_before t.events c.args.at) c.requires.widths in
    let inner : c.innermost-in-Closes.result ≡ width_in t c.args.measure (rest_of (open_before t.events c.args.at)) = simp exact at c.innermost-in-Closes.ensures.width t (rest_of (open_before t.events c.args.at)) gone in
    let cast : to_z w64 (of_z w64 c.innermost-in-Closes.result) ≡ c.innermost-in-Closes.result = omega (arith, ints) in
    let units = c.used_margin.ensures.value ∙ ap (λ (z : ℤ). cond (c.in-Closes.index == 0) (pos 0) (margin_or (slice_get t.boxes c.in-Closes.index) side.Bottom z)) (cast ∙ inner) in
    subst (λ (o : Option Event). IfSome o (λ e. c.used_margin.result.units ≡ margin_at t c.args.measure c.args.at e)) (sym there) units

pub returns-in-Closes-clause-widths : goal.returns-in-Closes-clause-widths
returns-in-Closes-clause-widths c =
    let t : Tree = c.args.tree.now in
    let there = c.event.ensures ∙ ap (λ (e : Event). Some e) c.in-Closes.is in
    c.close_box.ensures t c.args.measure (open_before t.events c.args.at) c.requires.widths ∙ ap (widths_of t c.args.measure) (sym (past t c.args.at (Closes c.in-Closes.index) there))

pub returns-in-Leaf-clause-widths : goal.returns-in-Leaf-clause-widths
returns-in-Leaf-clause-widths c =
    let t : Tree = c.args.tree.now in
    let there = c.event.ensures ∙ ap (λ (e : Event). Some e) c.in-Leaf.is in
    c.requires.widths ∙ ap (widths_of t c.args.measure) (sym (past t c.args.at (Leaf c.in-Leaf.field-0) there))
