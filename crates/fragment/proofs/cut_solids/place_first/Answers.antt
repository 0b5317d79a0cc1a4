use Rattle.std.proofs.Common.{◌≡◌, ◌<◌, ℕ, ℤ, Bool, List, All, arith, take, map, subst, sym, ap, ◌∙◌}
use Rattle.std.proofs.lemmas.List.{length-take, length-take-le, take-map}
use Rattle.std.proofs.lemmas.List.Elements.{All-take}
use Rattle.cursor.specs.declared.solid.Solid.{Solid}
use Rattle.cursor.specs.Fields.{solid_view}
use Rattle.cursor.specs.Remainder.{SolidView, IsSmallSolid}
use Rattle.page_list.specs.Cuts.{first_gap, placed_from}
use Rattle.notes.specs.Near.{IsNearSolid}
use Rattle.fragment.proofs.SolidLemmas.{if_ok}
use Rattle.fragment.proofs.FootLemmas.{first_taken, near_first}
use Rattle.fragment.proofs.cut_solids.place_first.Goals as goal

pub slice_bounds-place_all-end : goal.slice_bounds-place_all-end
slice_bounds-place_all-end c = sym (length-take-le c.args.count c.args.solids.now c.requires.within)

-- what is taken of the solids stands where it does among all of them
taken : (kept : Bool) (solids : List Solid) (count : ℕ) → 0 < count → placed_from (first_gap kept (map solid_view (take count solids))) (map solid_view (take count solids)) ≡ placed_from (first_gap kept (map solid_view solids)) (take count (map solid_view solids))
taken kept solids count some =
    ap (λ (vs : List SolidView). placed_from (first_gap kept vs) vs) (sym (take-map solid_view count solids))
    ∙ ap (λ (z : ℤ). placed_from z (take count (map solid_view solids))) (first_taken kept (map solid_view solids) count some)

pub returns-clause-solids : goal.returns-clause-solids
returns-clause-solids c = if_ok _ _ c.place_all.result (λ p e. e ∙ taken c.args.kept c.args.solids.now c.args.count c.requires.some) c.place_all.ensures.items

pub returns-clause-near : goal.returns-clause-near
returns-clause-near c =
    let few = c.requires.few in
    let size = length-take c.args.count c.args.solids.now in
    if_ok _ _ c.place_all.result (λ p e. subst (All IsNearSolid) (sym e) (near_first c.args.kept (take c.args.count c.args.solids.now) (omega arith) (All-take (λ s. IsSmallSolid (solid_view s)) c.args.count c.args.solids.now c.requires.small))) c.place_all.ensures.items
