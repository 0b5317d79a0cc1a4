use Rattle.std.proofs.Common.{◌≡◌, ℕ, ℤ, List, length, ap, ◌∙◌, subst, arith}
use Rattle.std.proofs.lemmas.Int.{ints, to_z-of_z}
use Rattle.std.proofs.lemmas.List.{length-map}
use mir.Val.{SFits}
use mir.Syntax.{w64}
use Rattle.notes.specs.declared.solid.NoteSolid.{NoteSolid}
use Rattle.notes.specs.Notes.{IsCarryCount, area_of, must_of}
use Rattle.note_list.specs.Lists.{note_rows}
use Rattle.note_list.specs.declared.solid.NotedSolid.{NotedSolid}
use Rattle.note_list.proofs.list.NoteList.hold.Goals as goal

pub returns-clause-ready : goal.returns-clause-ready
returns-clause-ready c =
    let solids : List NotedSolid = c.args.self.now.solids.items in
    let rows : c.as_slice-rows.result.now ≡ note_rows solids = c.as_slice-rows.ensures.value ∙ c.in_ok-list.ensures ∙ ap (λ (xs : List NotedSolid). note_rows xs) c.as_slice.ensures.value in
    let count : length c.as_slice-rows.result.now ≡ length solids = ap (λ (rs : List NoteSolid). length rs) rows ∙ length-map solids (λ s. s.row) in
    let own_low = c.area-self.ensures.low in
    let own_high = c.area-self.ensures.high in
    let own : SFits w64 c.area-self.result = omega (arith, ints) in
    let low = c.area-self-2.ensures.low in
    let high = c.area-self-2.ensures.high in
    let needed : SFits w64 c.area-self-2.result = omega (arith, ints) in
    let within = c.carry_count-self.ensures.within in
    record {
      few = c.requires.ready.few;
      small = c.requires.ready.small;
      reached = c.requires.ready.reached;
      within = omega arith;
      own_is = to_z-of_z w64 _ own ∙ c.area-self.ensures.area ∙ ap (λ (rs : List NoteSolid). area_of rs c.carry_count-self.result) rows;
      needed_is = to_z-of_z w64 _ needed ∙ c.area-self-2.ensures.area ∙ ap (area_of c.as_slice-rows.result.now) c.must.ensures.must ∙ ap (λ (rs : List NoteSolid). area_of rs (must_of rs c.carry_count-self.result)) rows;
    }

pub returns-clause-counts : goal.returns-clause-counts
returns-clause-counts c =
    let solids : List NotedSolid = c.args.self.now.solids.items in
    let rows : c.as_slice-rows.result.now ≡ note_rows solids = c.as_slice-rows.ensures.value ∙ c.in_ok-list.ensures ∙ ap (λ (xs : List NotedSolid). note_rows xs) c.as_slice.ensures.value in
    let count : length c.as_slice-rows.result.now ≡ length solids = ap (λ (rs : List NoteSolid). length rs) rows ∙ length-map solids (λ s. s.row) in
    let height : SFits w64 c.args.height = c.ranges.height in
    let own : IsCarryCount c.as_slice-rows.result.now (length c.as_slice-rows.result.now) c.args.height c.carry_count-self.result = subst (λ (h : ℤ). IsCarryCount c.as_slice-rows.result.now (length c.as_slice-rows.result.now) h c.carry_count-self.result) (to_z-of_z w64 _ height) c.carry_count-self.ensures in
    subst (λ (rs : List NoteSolid). IsCarryCount rs (length solids) c.args.height c.carry_count-self.result) rows (subst (λ (n : ℕ). IsCarryCount c.as_slice-rows.result.now n c.args.height c.carry_count-self.result) count own)
