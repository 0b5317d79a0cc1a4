use Rattle.std.proofs.Common.{◌≡◌, ◌+◌, ◌-◌, ◌^◌, pos, ◌≤ℤ◌, ◌≤◌, ℕ, ℤ, [], ◌∷◌, ◌++◌, List, length, append-nil, Some, None, Option, MatchOption, true, false, not, to_z, of_z, refl, sym, ap, ◌∙◌, subst, arith}
use Rattle.std.specs.Result.{is_ok}
use Rattle.std.proofs.lemmas.Int.{ints, to_z-of_z}
use mir.Val.{SFits}
use mir.Syntax.{w64}
use Rattle.boxes.proofs.ListLemmas.{slice_get_at}
use Rattle.boxes.specs.Tree.{Holds}
use Rattle.boxes.specs.declared.place.Position.{Position}
use Rattle.cursor.proofs.AskLemmas.{keeps_all}
use Rattle.cursor.proofs.StepLemmas.{takes_none}
use Rattle.cursor.specs.Asks.{AsksNext, IsHeldNow}
use Rattle.cursor.specs.Fields.{solid_view}
use Rattle.cursor.specs.Remainder.{IsSolid, SolidView, steps_of}
use Rattle.cursor.specs.declared.solid.Solid.{Solid}
use Rattle.seams.specs.Widths.{widths_at}
use Rattle.fragment.specs.declared.ahead.Ahead.{Ahead}
use Rattle.fragment.specs.Ahead.{IsPageAhead, IsReadSolid, end_of, page_of}
use Rattle.fragment.proofs.AheadLemmas.{asks_again, ends_hold, page_end, page_grows, page_last, page_on, page_pushed, page_size, past_none, solid_next, solid_read}
use Rattle.fragment.proofs.ahead.Ahead.read.Given as given
use Rattle.fragment.proofs.ahead.Ahead.read.Goals as goal
use Rattle.fragment.proofs.ahead.Ahead.read.Goals.{Else-is_err, In-Some}

-- ---- a solid that is read already
pub returns-then-number-count-clause-ahead : goal.returns-then-number-count-clause-ahead
returns-then-number-count-clause-ahead g c = c.requires.page.are

pub returns-then-number-count-clause-more : goal.returns-then-number-count-clause-more
returns-then-number-count-clause-more g c = ([], sym (append-nil (page_of c.args.self.now)))

pub returns-then-number-count-clause-there : goal.returns-then-number-count-clause-there
returns-then-number-count-clause-there g c e = let size = page_size c.args.self.now in let less = c.if-number-count.true in omega (arith, size, less)

pub returns-then-number-count-clause-keeps : goal.returns-then-number-count-clause-keeps
returns-then-number-count-clause-keeps g c = keeps_all c.args.lines.now.kept

pub returns-then-number-count-clause-takes : goal.returns-then-number-count-clause-takes
returns-then-number-count-clause-takes g c = takes_none c.args.lines.now.kept c.args.lines.now.kept c.args.steps.now

pub returns-then-number-count-clause-asks : goal.returns-then-number-count-clause-asks
returns-then-number-count-clause-asks g c =
    let size = page_size c.args.self.now in
    let less = c.if-number-count.true in
    let s = slice_get_at (page_of c.args.self.now) c.args.number (omega (arith, size, less)) in
    let are = c.requires.page.are.are in
    subst (λ (o : Option SolidView). AsksNext c.args.tree.now c.args.self.now.width o c.args.lines.now.kept c.args.lines.now.kept c.args.steps.now c.args.steps.now) (sym s.1)
    (asks_again c.args.faces.now c.args.tree.now c.args.self.now.width (end_of c.args.from (page_of c.args.self.now) c.args.number) s.0 c.args.lines.now.kept c.args.steps.now
    (solid_next c.args.faces.now c.args.tree.now c.args.self.now.width c.args.lines.now.kept c.args.from (page_of c.args.self.now) c.args.number s.0 are s.1)
    (solid_read c.args.faces.now c.args.tree.now c.args.self.now.width c.args.lines.now.kept c.args.from (page_of c.args.self.now) c.args.number s.0 are s.1).held)

pub returns-then-number-count-clause-step : goal.returns-then-number-count-clause-step
returns-then-number-count-clause-step g c =
    let size = page_size c.args.self.now in
    let less = c.if-number-count.true in
    let s = slice_get_at (page_of c.args.self.now) c.args.number (omega (arith, size, less)) in
    subst (λ (o : Option SolidView). MatchOption o (c.args.steps.now ≡ c.args.steps.now) (λ x. c.args.steps.now ≤ c.args.steps.now + steps_of x)) (sym s.1) (omega arith)

-- ---- a solid that is sought
wide : (z : ℤ) → pos 0 ≤ℤ z → z ≤ℤ pos (2 ^ 30) → to_z w64 (of_z w64 z) ≡ z
wide z low high = let fits : SFits w64 z = omega (arith, low, high, ints) in to_z-of_z w64 z fits

end_is_at : (a : Ahead) (from at : Position) (n : ℕ) → n ≡ length a.solids.items → at ≡ end_of from (page_of a) (n - a.first) → at ≡ end_of from (page_of a) (length (page_of a))
end_is_at a from at n size e = e ∙ ap (λ (m : ℕ). end_of from (page_of a) (m - a.first)) size ∙ ap (end_of from (page_of a)) (sym (page_size a))

all_read : (a : Ahead) (n : ℕ) → length a.solids.items - a.first ≤ n → length (page_of a) ≤ n
all_read a n past = let size = page_size a in omega (arith, size, past)

pub next_solid_kept-requires-clause-holds : goal.next_solid_kept-requires-clause-holds
next_solid_kept-requires-clause-holds g c =
    subst (Holds c.args.tree.now) (sym (end_is_at c.args.self.now c.args.from c.end_of-at.result c.len.result (c.len.ensures ∙ c.args.self.now.solids.ok.0) c.end_of-at.ensures))
    (ends_hold c.args.faces.now c.args.tree.now c.args.self.now.width c.args.lines.now.kept c.args.from (page_of c.args.self.now) (length (page_of c.args.self.now)) c.requires.holds c.requires.page.are.are (omega arith))

-- ---- none is left
pub returns-in_default-next-clause-asks : goal.returns-in_default-next-clause-asks
returns-in_default-next-clause-asks g c =
    subst (λ (o : Option SolidView). AsksNext c.args.tree.now c.args.self.now.width o c.args.lines.now.kept c.next_solid_kept.new.lines.kept c.args.steps.now c.next_solid_kept.new.steps) (sym (past_none (page_of c.args.self.now) c.args.number (all_read c.args.self.now c.args.number (omega (arith, c.if-number-count.false)))))
    (subst (λ (w : ℤ). AsksNext c.args.tree.now w None c.args.lines.now.kept c.next_solid_kept.new.lines.kept c.args.steps.now c.next_solid_kept.new.steps) (wide c.args.self.now.width c.requires.page.low c.requires.page.high) (rw c.in_default-next.is at c.in-Ok.ensures.asks))

-- ---- the next one
solid_is : (g : given.Over) (c : In-Some g) → IsSolid c.args.faces.now c.args.tree.now c.args.self.now.width (end_of c.args.from (page_of c.args.self.now) (length (page_of c.args.self.now))) (solid_view c.in-Some.solid)
solid_is g c =
    subst (λ (p : Position). IsSolid c.args.faces.now c.args.tree.now c.args.self.now.width p (solid_view c.in-Some.solid)) (end_is_at c.args.self.now c.args.from c.end_of-at.result c.len.result (c.len.ensures ∙ c.args.self.now.solids.ok.0) c.end_of-at.ensures)
    (subst (λ (w : ℤ). IsSolid c.args.faces.now c.args.tree.now w c.end_of-at.result (solid_view c.in-Some.solid)) (wide c.args.self.now.width c.requires.page.low c.requires.page.high) (rw c.in-Some.is at c.in-Ok.ensures.solid))

solid_reads : (g : given.Over) (c : In-Some g) → IsReadSolid c.args.tree.now c.args.self.now.width c.next_solid_kept.new.lines.kept (solid_view c.in-Some.solid)
solid_reads g c = record {
  placed = rw c.in-Some.is at c.in-Ok.ensures.placed;
  ends = rw c.in-Some.is at c.in-Ok.ensures.holds;
  small = rw c.in-Some.is at c.in-Ok.ensures.small;
  held = subst (λ (w : ℤ). IsHeldNow c.args.tree.now w c.next_solid_kept.new.lines.kept c.in-Some.solid.placed_at) (wide c.args.self.now.width c.requires.page.low c.requires.page.high) (rw c.in-Some.is at c.in-Ok.ensures.now);
}

abbrev read_on : (g : given.Over) → Else-is_err g → Ahead
read_on g c = record { solids = c.push.new.self; rows = c.push_row.new.self.rows; joined = c.push_row.new.self.joined; width = c.push_row.new.self.width; first = c.push_row.new.self.first }

items_are : (g : given.Over) (c : Else-is_err g) → c.push.new.self.items ≡ c.args.self.now.solids.items ++ c.in-Some.solid ∷ []
items_are g c =
    let ok : is_ok c.push.result ≡ true = c.is_err.ensures.negation ∙ ap not c.if-is_err.false in
    c.push.ensures.items ∙ rw ok refl ∙ ap (λ (xs : List Solid). xs ++ c.in-Some.solid ∷ []) c.push_row.ensures.solids

page_now : (g : given.Over) (c : Else-is_err g) → IsPageAhead c.args.faces.now c.args.tree.now c.args.self.now.width c.next_solid_kept.new.lines.kept c.args.from c.args.self.now
page_now g c = page_on c.args.faces.now c.args.tree.now c.args.self.now.width c.args.lines.now.kept c.next_solid_kept.new.lines.kept c.args.from c.args.self.now c.next_solid_kept.ensures.keeps c.requires.page.are

-- it stands after all that are read
here : (a : Ahead) (n : ℕ) → n ≤ length (page_of a) → length a.solids.items - a.first ≤ n → n ≡ length (page_of a)
here a n low past = let all = all_read a n past in omega (arith, low, all)

pub returns-clause-ahead : goal.returns-clause-ahead
returns-clause-ahead g c =
    let some = (goal.at.returns-clause-ahead g c).In-Some in
    let d = (goal.at.returns-clause-ahead g c).Else-is_err in
    page_pushed c.args.faces.now c.args.tree.now c.args.self.now.width c.next_solid_kept.new.lines.kept c.args.from c.args.self.now (read_on g d) c.in-Some.solid c.row_of.result (page_now g d) (items_are g d) c.in_ok-push_row.ensures.rows c.row_of.ensures
    (c.in_ok-push_row.ensures.joined c.requires.page.are.joined) c.push_row.ensures.width c.push_row.ensures.first (solid_is g some) (solid_reads g some)

pub returns-clause-more : goal.returns-clause-more
returns-clause-more g c =
    let d = (goal.at.returns-clause-more g c).Else-is_err in
    (solid_view c.in-Some.solid ∷ [], page_grows c.args.self.now (read_on g d) c.in-Some.solid c.requires.page.are.within (items_are g d) c.push_row.ensures.first)

pub returns-clause-widths : goal.returns-clause-widths
returns-clause-widths g c =
    let d = (goal.at.returns-clause-widths g c).Else-is_err in
    (rw c.in-Some.is at c.in-Ok.ensures.widths)
    ∙ ap (λ (w : ℤ). widths_at c.args.tree.now w c.in-Some.solid.end) (wide c.args.self.now.width c.requires.page.low c.requires.page.high)
    ∙ ap (widths_at c.args.tree.now c.args.self.now.width) (sym (page_end c.args.from c.args.self.now (read_on g d) (solid_view c.in-Some.solid) (page_grows c.args.self.now (read_on g d) c.in-Some.solid c.requires.page.are.within (items_are g d) c.push_row.ensures.first)))

pub returns-clause-asks : goal.returns-clause-asks
returns-clause-asks g c =
    let d = (goal.at.returns-clause-asks g c).Else-is_err in
    subst (λ (o : Option SolidView). AsksNext c.args.tree.now c.args.self.now.width o c.args.lines.now.kept c.next_solid_kept.new.lines.kept c.args.steps.now c.next_solid_kept.new.steps)
    (sym (page_last c.args.self.now (read_on g d) (solid_view c.in-Some.solid) c.args.number (page_grows c.args.self.now (read_on g d) c.in-Some.solid c.requires.page.are.within (items_are g d) c.push_row.ensures.first) (here c.args.self.now c.args.number c.requires.number (omega (arith, c.if-number-count.false)))))
    (subst (λ (w : ℤ). AsksNext c.args.tree.now w (Some (solid_view c.in-Some.solid)) c.args.lines.now.kept c.next_solid_kept.new.lines.kept c.args.steps.now c.next_solid_kept.new.steps) (wide c.args.self.now.width c.requires.page.low c.requires.page.high) (rw c.in-Some.is at c.in-Ok.ensures.asks))

pub returns-clause-step : goal.returns-clause-step
returns-clause-step g c =
    let d = (goal.at.returns-clause-step g c).Else-is_err in
    subst (λ (o : Option SolidView). MatchOption o (c.next_solid_kept.new.steps ≡ c.args.steps.now) (λ x. c.next_solid_kept.new.steps ≤ c.args.steps.now + steps_of x))
    (sym (page_last c.args.self.now (read_on g d) (solid_view c.in-Some.solid) c.args.number (page_grows c.args.self.now (read_on g d) c.in-Some.solid c.requires.page.are.within (items_are g d) c.push_row.ensures.first) (here c.args.self.now c.args.number c.requires.number (omega (arith, c.if-number-count.false)))))
    (rw c.in-Some.is at c.in-Ok.ensures.step)
