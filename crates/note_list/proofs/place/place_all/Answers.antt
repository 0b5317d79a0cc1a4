use Rattle.std.proofs.Common.{◌≡◌, ◌<◌, ℕ, suc, ℤ, ◌+ℤ◌, List, [], ◌∷◌, ◌++◌, Some, length, drop, slice_get, sym, ap, ◌∙◌, arith, add-one, append_assoc, to_z, of_z}
use Rattle.std.proofs.lemmas.Int.{ints}
use mir.Syntax.{w64}
use Rattle.boxes.specs.declared.page.Placed.{Placed}
use Rattle.note_list.specs.Lists.{placed_notes}
use Rattle.note_list.specs.declared.solid.NotedSolid.{NotedSolid}
use Rattle.bk_num.specs.Limits.{separator}
use Rattle.bk_num.proofs.ListLemmas.{drop-next}
use Rattle.note_list.proofs.place.place_all.Goals as goal

pub loop-at-preserved : goal.loop-at-preserved
loop-at-preserved c =
    let solids : List NotedSolid = c.args.solids.now in
    let at : ℕ = c.loop-at.at in
    let s : NotedSolid = c.solid_at-solid.result in
    let less : at < length solids = c.loop-at-test.true in
    let few = c.requires.few in
    let there : slice_get solids at ≡ Some s = c.solid_at-solid.ensures.solid in
    let gap = c.solid_at-solid.ensures.small.gap in
    let height = c.solid_at-solid.ensures.small.height in
    let some = c.solid_at-solid.ensures.small.some in
    let low = c.loop-at.invariant.low in
    let high = c.loop-at.invariant.high in
    let rest : drop at solids ≡ s ∷ drop (suc at) solids = drop-next solids at s there in
    let bottom : ℤ = c.loop-at.reach.bottom in
    let top_is = c.place_note-top.ensures.top in
    let top : to_z w64 (of_z w64 c.place_note-top.result) ≡ bottom +ℤ s.row.gap = omega (arith, ints) in
    let under : c.place_note-top.new.self.bottom ≡ (bottom +ℤ s.row.gap) +ℤ s.row.height = c.place_note-top.ensures.bottom in
    let p : ℕ × Placed = (s.note, record { at = s.at; end = s.end; top = bottom +ℤ s.row.gap; height = s.row.height; kind = s.kind }) in
    let placed : c.place_at.result ≡ p = c.place_at.ensures ∙ ap (λ (z : ℤ). (s.note, record { at = s.at; end = s.end; top = z; height = s.row.height; kind = s.kind })) top in
    let tail : List (ℕ × Placed) = placed_notes ((bottom +ℤ s.row.gap) +ℤ s.row.height) (drop (suc at) solids) in
    let now : c.push.new.self ≡ c.loop-at.items ++ c.place_at.result ∷ [] = c.in_ok-push.ensures.ok in
    let all : placed_notes separator solids ≡ c.loop-at.items ++ p ∷ tail = c.loop-at.invariant.placed ∙ ap (λ (xs : List NotedSolid). c.loop-at.items ++ placed_notes bottom xs) rest in
    let joined : c.loop-at.items ++ p ∷ tail ≡ (c.loop-at.items ++ c.place_at.result ∷ []) ++ tail =
    ap (λ (x : ℕ × Placed). c.loop-at.items ++ x ∷ tail) (sym placed) ∙ sym (append_assoc c.loop-at.items (c.place_at.result ∷ []) tail) in
    record {
      placed = rw (now, add-one, under) (all ∙ joined);
      low = omega (arith, ints);
      high = omega (arith, ints);
    }

pub place_note-top-requires-clause-bottom : goal.place_note-top-requires-clause-bottom
place_note-top-requires-clause-bottom c =
    let less = c.loop-at-test.true in
    let few = c.requires.few in
    let low = c.loop-at.invariant.low in
    let high = c.loop-at.invariant.high in
    omega (arith, ints)
