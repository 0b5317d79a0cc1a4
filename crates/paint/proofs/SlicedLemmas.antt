-- Where no box clones nothing stands again.
use Rattle.std.proofs.Common.{◌≡◌, ℕ, zero, suc, ℤ, ◌+ℤ◌, Bool, true, false, cond, ◌||◌, nat_lt, List, [], ◌∷◌, ◌++◌, Option, Some, None, slice_get, refl, sym, ap, ap₂, ◌∙◌, ◌⊎◌, inl, inr}
use Rattle.std.specs.List.{flat_map, list_any}
use Rattle.std.proofs.lemmas.Bool.{cases_eq, ne_eqb, eq-eqb}
use Rattle.bk_num.specs.declared.sides.BoxSide.TheVariants as side
use Rattle.boxes.specs.Spans.{frame_at, span_along}
use Rattle.boxes.specs.Tree.{Tree, IsTree}
use Rattle.boxes.specs.declared.item.Item.{Item}
use Rattle.boxes.specs.declared.page.Placed.{Placed}
use Rattle.boxes.specs.declared.props.BoxProps.{BoxProps}
use Rattle.paint.specs.Clones.{bottom_with, first_solid, last_solid, lower_again, lower_along, lowest, parted_behind}
use Rattle.paint.specs.Fragments.{here, reach_of}
use Rattle.paint.specs.Items.{for_some}
use Rattle.paint.specs.Order.{AreInOrder}
use Rattle.paint.specs.Pages.{rects_of}
use Rattle.paint.specs.Parts.{AreReached, begin_of, clones_at, does_clone, own_rects, part_head, part_rects, with_head}
use Rattle.paint.specs.declared.extent.VerticalExtent.{VerticalExtent}
use Rattle.paint.specs.declared.item.SolidOrigin.{SolidOrigin}
use Rattle.paint.specs.declared.parts.Fragment.{Fragment}
use Rattle.paint.proofs.ClosingLemmas.{sliced_none}
use Rattle.paint.proofs.PageLemmas.{closed_rects}

lower_sliced : (t : Tree) (b : ℕ) (width : ℤ) (bottom : Option ℤ) (reach : Option VerticalExtent) → clones_at t b ≡ false → lower_again (slice_get t.boxes b) width bottom reach ≡ None
lower_sliced t b width bottom reach sliced = by (slice_get t.boxes b) refl reach
  where
    by : (p : Option BoxProps) → slice_get t.boxes b ≡ p → (r : Option VerticalExtent) → lower_again p width bottom r ≡ None
    by None is r = refl
    by (Some p) is None = refl
    by (Some p) is (Some e) = ap (λ (v : Bool). here v (record { top = lowest bottom e; bottom = lowest bottom e +ℤ frame_at p side.Bottom width })) (sym (ap does_clone is) ∙ sliced)

along_sliced : (t : Tree) (m : ℤ) (reach : ℕ → Option VerticalExtent) (b : ℕ) (bottom : Option ℤ) (boxes : List ℕ) → clones_at t b ≡ false → lower_along t m reach b bottom boxes ≡ None
along_sliced t m reach b bottom [] sliced = refl
along_sliced t m reach b bottom (c ∷ outer) sliced = by (cases_eq c b) (along_sliced t m reach b (bottom_with bottom (lower_again (slice_get t.boxes c) (span_along t.boxes m outer).1 bottom (reach c))) outer sliced)
  where
    width : ℤ
    width = (span_along t.boxes m outer).1

    by : (c ≡ b) ⊎ (c ≡ b → ⊥) → lower_along t m reach b (bottom_with bottom (lower_again (slice_get t.boxes c) width bottom (reach c))) outer ≡ None → lower_along t m reach b bottom (c ∷ outer) ≡ None
    by (inl same) rest =
        ap (λ (v : Bool). cond v (lower_again (slice_get t.boxes c) width bottom (reach c)) (lower_along t m reach b (bottom_with bottom (lower_again (slice_get t.boxes c) width bottom (reach c))) outer)) (eq-eqb c b same)
        ∙ ap (λ (k : ℕ). lower_again (slice_get t.boxes k) width bottom (reach c)) same ∙ lower_sliced t b width bottom (reach c) sliced
    by (inr other) rest =
        ap (λ (v : Bool). cond v (lower_again (slice_get t.boxes c) width bottom (reach c)) (lower_along t m reach b (bottom_with bottom (lower_again (slice_get t.boxes c) width bottom (reach c))) outer)) (ne_eqb c b other)
        ∙ rest

-- a box that doesn't clone begins where it did
part_sliced : (t : Tree) (o : SolidOrigin) (from to : ℕ) (p : Fragment) → clones_at t p.number ≡ false → part_rects t o from p ≡ part_rects t o to p
part_sliced t o from to p sliced = by (slice_get t.boxes p.number) refl
  where
    none : (v : Bool) (edge : VerticalExtent) (r : BoxProps) → r.clones ≡ false → cond v (here r.clones edge) None ≡ None
    none true edge r is = ap (λ (w : Bool). here w edge) is
    none false edge r is = refl

    by : (boxed : Option BoxProps) → slice_get t.boxes p.number ≡ boxed → for_some (λ (r : BoxProps). own_rects o r (with_head (part_head from p r) p)) boxed ≡ for_some (λ (r : BoxProps). own_rects o r (with_head (part_head to p r) p)) boxed
    by None is = refl
    by (Some r) is =
        let off : r.clones ≡ false = sym (ap does_clone is) ∙ sliced in
        ap (λ (h : Option VerticalExtent). own_rects o r (with_head h p)) (none (nat_lt p.event from) (record { top = p.above; bottom = p.inside }) r off ∙ sym (none (nat_lt p.event to) (record { top = p.above; bottom = p.inside }) r off))

parts_sliced : (t : Tree) (o : SolidOrigin) (from to : ℕ) (parts : List Fragment) → list_any (λ p. clones_at t p.number) parts ≡ false → flat_map (part_rects t o from) parts ≡ flat_map (part_rects t o to) parts
parts_sliced t o from to [] none = refl
parts_sliced t o from to (p ∷ parts) none = by (clones_at t p.number) refl (parts_sliced t o from to parts)
  where
    by : (v : Bool) → clones_at t p.number ≡ v → (list_any (λ q. clones_at t q.number) parts ≡ false → flat_map (part_rects t o from) parts ≡ flat_map (part_rects t o to) parts) → flat_map (part_rects t o from) (p ∷ parts) ≡ flat_map (part_rects t o to) (p ∷ parts)
    by true is rest = let yes : list_any (λ q. clones_at t q.number) (p ∷ parts) ≡ true = ap (λ (v : Bool). v || list_any (λ q. clones_at t q.number) parts) is in absurd (cc)
    by false is rest = ap₂ (λ (x y : List Item). x ++ y) (part_sliced t o from to p is) (rest (sym (ap (λ (v : Bool). v || list_any (λ q. clones_at t q.number) parts) is) ∙ none))

each_sliced : (t : Tree) (parts : List Fragment) → list_any (λ p. clones_at t p.number) parts ≡ false → (j : ℕ) (p : Fragment) → slice_get parts j ≡ Some p → clones_at t p.number ≡ false
each_sliced t [] none j p there = absurd (cc)
each_sliced t (q ∷ parts) none j p there = by (clones_at t q.number) refl j there (each_sliced t parts)
  where
    by : (v : Bool) → clones_at t q.number ≡ v → (i : ℕ) → slice_get (q ∷ parts) i ≡ Some p → (list_any (λ r. clones_at t r.number) parts ≡ false → (k : ℕ) (r : Fragment) → slice_get parts k ≡ Some r → clones_at t r.number ≡ false) → clones_at t p.number ≡ false
    by true is i at rest = let yes : list_any (λ r. clones_at t r.number) (q ∷ parts) ≡ true = ap (λ (v : Bool). v || list_any (λ r. clones_at t r.number) parts) is in absurd (cc)
    by false is zero at rest = let same : q ≡ p = cc in ap (λ (r : Fragment). clones_at t r.number) (sym same) ∙ is
    by false is (suc i) at rest = rest (sym (ap (λ (v : Bool). v || list_any (λ r. clones_at t r.number) parts) is) ∙ none) i p at

pub sliced_rects : (t : Tree) → IsTree t → (o : SolidOrigin) (solids : List Placed) (parts : List Fragment) (from : ℕ) → AreInOrder t 0 solids → AreReached t o.width solids parts → list_any (λ p. clones_at t p.number) parts ≡ false → flat_map (part_rects t o from) parts ≡ rects_of t o solids
sliced_rects t tree o solids parts from order r none =
    parts_sliced t o from (begin_of t (first_solid solids)) parts none
    ∙ closed_rects t tree o solids parts parts order r (sliced_none t o.width solids parts (λ j p there. along_sliced t o.width (reach_of t solids) p.number None (parted_behind t (last_solid solids)) (each_sliced t parts none j p there)))
