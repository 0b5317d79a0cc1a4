-- What closes behind the solids of a page takes no negative room.
use Rattle.std.proofs.Common.{◌≡◌, ◌==◌, ℕ, zero, suc, ℤ, pos, ◌≤ℤ◌, Bool, true, false, cond, List, [], ◌∷◌, Option, None, Some, option_map, slice_get, unwrap_or, refl, sym, ap, ◌∙◌, subst, arith}
use Rattle.std.proofs.lemmas.Int.{ints, clamps}
use Rattle.std.proofs.lemmas.Option.{slice_get-map}
use Rattle.bk_num.specs.Lengths.{used_of}
use Rattle.bk_num.specs.Sides.{at_side}
use Rattle.bk_num.specs.declared.sides.BoxSide.{BoxSide}
use Rattle.bk_num.specs.declared.sides.BoxSide.TheVariants as side
use Rattle.metrics.specs.Face.{FontFace}
use Rattle.boxes.specs.Clones.{clone_edge, clone_edges, open_through}
use Rattle.boxes.specs.Contents.{IsGoodBox}
use Rattle.boxes.specs.Spans.{content_width, frame_at, span_along, span_or, units_at, used_or_zero, width_in_block}
use Rattle.boxes.specs.Tree.{Tree, IsTree, open_before}
use Rattle.boxes.specs.declared.place.Position.{Position}
use Rattle.boxes.specs.declared.props.BoxProps.{BoxProps}
use Rattle.boxes.proofs.SpanLemmas.{padding_low, units_low, used_low}
use Rattle.boxes.proofs.TreeFacts.{box_good}
use Rattle.seams.specs.Runs.{events_in, run_end, run_start, solid_after}
use Rattle.seams.specs.Seams.{line_seam, seam_before, seam_of, solid_behind}
use Rattle.seams.specs.declared.seam_info.SeamInfo.{SeamInfo}
use Rattle.cursor.specs.Remainder.{SolidView, IsRemainder}
use Rattle.cuts.specs.declared.row.SolidRow.{SolidRow}
use Rattle.cuts.specs.Rows.{HaveTails}
use Rattle.page_list.specs.Cuts.{row_of, rows_of}

-- a good box's border and padding
frame_low : (p : BoxProps) (s : BoxSide) (width : ℤ) → IsGoodBox p → pos 0 ≤ℤ width → pos 0 ≤ℤ frame_at p s width
frame_low p s width good low =
    let units : pos 0 ≤ℤ units_at p.border s = units_low p.border s good.borders in
    let used : pos 0 ≤ℤ used_or_zero (at_side p.padding s) width = padding_low p.padding s width good.paddings low in
    omega (arith, ints)

-- and its content
width_low : (p : BoxProps) (width : ℤ) → IsGoodBox p → pos 0 ≤ℤ width → pos 0 ≤ℤ width_in_block p width
width_low p width good low = by (used_of p.width width) (used_low p.width width good.width low)
  where
    by : (stated : Option ℤ) → pos 0 ≤ℤ unwrap_or stated (pos 0) → pos 0 ≤ℤ content_width p width stated
    by None h = omega (arith, ints, clamps)
    by (Some z) h = h

module _ (t : Tree) (tree : IsTree t) (measure : ℤ) (wide : pos 0 ≤ℤ measure) where
  along_low : (boxes : List ℕ) → pos 0 ≤ℤ (span_along t.boxes measure boxes).1
  along_low [] = wide
  along_low (b ∷ outer) = by (slice_get t.boxes b) refl (along_low outer)
    where
      by : (o : Option BoxProps) → slice_get t.boxes b ≡ o → pos 0 ≤ℤ (span_along t.boxes measure outer).1 → pos 0 ≤ℤ (span_or o (span_along t.boxes measure outer)).1
      by None e low = low
      by (Some p) e low = width_low p (span_along t.boxes measure outer).1 (box_good t tree b p e) low

  edge_low : (s : BoxSide) (b : ℕ) (width : ℤ) → pos 0 ≤ℤ width → pos 0 ≤ℤ clone_edge s (slice_get t.boxes b) width
  edge_low s b width low = by (slice_get t.boxes b) refl
    where
      by : (o : Option BoxProps) → slice_get t.boxes b ≡ o → pos 0 ≤ℤ clone_edge s o width
      by None e = omega (arith, ints)
      by (Some p) e = chosen p.clones
        where
          chosen : (clones : Bool) → pos 0 ≤ℤ cond clones (frame_at p s width) (pos 0)
          chosen true = frame_low p s width (box_good t tree b p e) low
          chosen false = omega (arith, ints)

  -- what stands again of open boxes
  pub edges_low : (s : BoxSide) (boxes : List ℕ) → pos 0 ≤ℤ clone_edges t measure s boxes
  edges_low s [] = omega (arith, ints)
  edges_low s (b ∷ outer) =
      let more = edges_low s outer in
      let here = edge_low s b (span_along t.boxes measure outer).1 (along_low outer) in
      omega (arith, ints)

  tail_low : (at : Position) → pos 0 ≤ℤ (seam_of t at measure).tail
  tail_low at = by (at.offset == 0)
    where
      after : Option ℕ
      after = solid_after t at.event

      before : Option ℕ
      before = solid_behind t after

      by : (b : Bool) → pos 0 ≤ℤ (cond b (seam_before t at.event measure) (line_seam t at.event measure)).tail
      by true = edges_low side.Bottom (open_through t (run_start t before) (events_in t (run_start t before) (run_end t after)))
      by false = edges_low side.Bottom (open_before t.events at.event)

  view_low : (faces : List FontFace) (from : Position) (xs : List SolidView) → IsRemainder faces t measure from xs → (k : ℕ) (s : SolidView) → slice_get xs k ≡ Some s → pos 0 ≤ℤ s.seam.tail
  view_low faces from [] r k s e = absurd (cc)
  view_low faces from (x ∷ xs) r zero s e =
      let same : x ≡ s = cc in
      subst (λ (v : SolidView). pos 0 ≤ℤ v.seam.tail) same (subst (λ (i : SeamInfo). pos 0 ≤ℤ i.tail) (sym r.1.0.seam_is) (tail_low x.placed_at))
  view_low faces from (x ∷ xs) r (suc k) s e = view_low faces r.0 xs r.2 k s e

  -- no solid of a remainder has a negative tail
  pub rest_tails : (faces : List FontFace) (from : Position) (xs : List SolidView) → IsRemainder faces t measure from xs → HaveTails (rows_of t xs)
  rest_tails faces from xs r k row e = by (slice_get xs k) refl (sym (slice_get-map (row_of t) xs k) ∙ e)
    where
      by : (o : Option SolidView) → slice_get xs k ≡ o → option_map (row_of t) (slice_get xs k) ≡ Some row → pos 0 ≤ℤ row.seam.tail
      by None e f = absurd (let g : option_map (row_of t) None ≡ Some row = sym (ap (option_map (row_of t)) e) ∙ f in cc)
      by (Some s) e f =
          let g : Some (row_of t s) ≡ Some row = sym (ap (option_map (row_of t)) e) ∙ f in
          let same : row_of t s ≡ row = cc in
          subst (λ (q : SolidRow). pos 0 ≤ℤ q.seam.tail) same (view_low faces from xs r k s e)
