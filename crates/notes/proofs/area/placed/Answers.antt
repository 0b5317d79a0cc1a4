use Rattle.std.proofs.Common.{◌≡◌, ◌+◌, ◌∙◌, ℕ, ℤ, pos, ◌≤ℤ◌, ◌+ℤ◌, List, ap, sym, arith, to_z, of_z}
use mir.Syntax.{w64}
use Rattle.std.proofs.lemmas.Int.{ints}
use Rattle.notes.specs.declared.solid.NoteSolid.{NoteSolid}
use Rattle.notes.specs.Notes.{area_of}
use Rattle.notes.proofs.NoteLemmas.{IsReach, area_some, reach_step, greatest_step}
use Rattle.notes.proofs.area.placed.Goals as goal

pub loop-at-preserved : goal.loop-at-preserved
loop-at-preserved c =
    let list : List NoteSolid = c.args.list.now in
    let r : IsReach list (c.loop-at.at + 1) c.place_note.new.self.bottom c.place_note.new.self.extent = reach_step list c.loop-at.at c.solid_at.result c.loop-at.reach.bottom c.loop-at.reach.extent c.place_note.new.self.bottom c.place_note.new.self.extent c.loop-at.invariant.reach c.solid_at.ensures.solid c.solid_at.ensures.small c.place_note.ensures.bottom c.place_note.ensures.extent in
    let own : area_of list (c.loop-at.at + 1) ≡ c.area.result = area_some list (c.loop-at.at + 1) (omega arith) ∙ ap (λ (z : ℤ). pos 512 +ℤ z) (sym r.extent_is) ∙ sym c.area.ensures.area in
    let low = c.area.ensures.low in
    let high = c.area.ensures.high in
    record {
      reach = r;
      greatest = greatest_step (λ (k : ℕ). area_of list k ≤ℤ to_z w64 (of_z w64 c.args.room)) c.loop-at.at c.loop-at.number c.number_after-number.result c.loop-at.invariant.greatest c.number_after-number.ensures.one (λ h. let f = c.number_after-number.ensures.fits h in rw own (omega (arith, ints))) (λ f. c.number_after-number.ensures.most (let g = f in omega (arith, ints)));
    }
