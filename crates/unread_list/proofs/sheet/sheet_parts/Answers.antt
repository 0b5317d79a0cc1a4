use Rattle.std.proofs.Common.{◌≡◌, ◌∙◌, ◌++◌, ap, sym, refl, map, append_assoc, append-nil, [], length, ◌<◌, arith, rules}
use Rattle.std.specs.Prelude.{option_map, option_to_list}
use Rattle.std.proofs.lemmas.List.{nil_from_length}
use Rattle.unread_list.specs.Lines.{left_in}
use Rattle.unread_list.specs.Steps.{placed_in}
use Rattle.unread_list.specs.Parts.{parts_from}
use Rattle.unread_list.proofs.WalkLemmas.{begins, ends, goes}
use Rattle.unread_list.proofs.sheet.sheet_parts.Goals as goal

pub loop-lines-init : goal.loop-lines-init
loop-lines-init c = begins c.args.text.now ∙ rw (c.new-parts.ensures.items, c.new-lines.ensures.line, c.new-lines.ensures.rest) refl

pub loop-lines-preserved : goal.loop-lines-preserved
loop-lines-preserved c =
    let some : c.loop-lines.lines.tokens.rest.now ≡ [] → ⊥ = λ none. let len : 0 < length c.loop-lines.lines.tokens.rest.now = search rules in absurd (omega (arith, len, ap length none)) in
    let more = goes c.loop-lines.lines c.pass.new.lines c.loop-lines.state c.in_ok-step.step some c.in_ok-step.ensures.step c.in_ok-step.ensures.passes in
    c.loop-lines.invariant ∙ ap (λ z. map placed_in c.loop-lines.parts.items ++ z) more
    ∙ sym (append_assoc (map placed_in c.loop-lines.parts.items) (option_to_list (option_map placed_in c.in_ok-step.step.part)) (parts_from 0 c.pass.new.lines.line c.in_ok-step.step.state (left_in c.pass.new.lines)))
    ∙ ap (λ z. z ++ parts_from 0 c.pass.new.lines.line c.in_ok-step.step.state (left_in c.pass.new.lines)) (sym c.in_ok-push_some.ensures)

pub returns : goal.returns
returns c =
    let none : c.loop-lines.lines.tokens.rest.now ≡ [] = nil_from_length c.loop-lines.lines.tokens.rest.now (search rules) in
    sym (c.loop-lines.invariant ∙ ap (λ z. map placed_in c.loop-lines.parts.items ++ z) (ends c.loop-lines.lines c.loop-lines.state none) ∙ append-nil (map placed_in c.loop-lines.parts.items))
