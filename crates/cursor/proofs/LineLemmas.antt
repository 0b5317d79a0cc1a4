-- A line that is the next solid of a walk, however it was found.
use Rattle.std.proofs.Common.{◌≡◌, ℕ, ◌<◌, ◌≤◌, ◌^◌, ℤ, pos, ◌≤ℤ◌, List, cond, eqb, Some, length, slice_get, refl, sym, ap, ◌∙◌, subst, arith}
use Rattle.std.specs.Str.{IsCharBoundary, IsUtf8}
use Rattle.std.proofs.lemmas.Int.{ints}
use Rattle.bk_num.specs.Numbers.{IsWithin}
use Rattle.metrics.specs.Face.{FontFace}
use Rattle.boxes.specs.Clones.{IsRoom}
use Rattle.boxes.specs.Lines.{LineView}
use Rattle.boxes.specs.Tree.{Tree, Holds, open_before}
use Rattle.boxes.specs.declared.leaf.Leaf.{Leaf as LeafData}
use Rattle.boxes.specs.declared.place.Event.TheVariants.{Leaf}
use Rattle.boxes.specs.declared.place.Position.{Position}
use Rattle.line_fill.specs.LineEnd.{IsLine}
use Rattle.line_fill.proofs.EndLemmas.{lines_go_on}
use Rattle.line_place.specs.Conditions.{IsInLeaf}
use Rattle.seams.specs.Runs.{solid_after}
use Rattle.seams.specs.Seams.{seam_of}
use Rattle.seams.specs.Widths.{widths_of, widths_at, widths_after}
use Rattle.seams.specs.declared.seam_info.SeamInfo.{SeamInfo}
use Rattle.cursor.specs.Remainder.{IsSmallSolid, IsSolid, SolidView, end_of, leaf_measure, solid_of}
use Rattle.cursor.proofs.RemLemmas.{Begins, holds_boundary, holds_end, line_here}
use Rattle.cursor.proofs.WidthLemmas.{end_at_leaf, widths_past_line}

-- a line of a leaf that begins at a place has a character, begins and ends at characters, and ends at a place of the tree
pub record IsAtEnd (t : Tree) (at : Position) (leaf : LeafData) (line : LineView) : Type 0 where
  pub inside : IsInLeaf leaf line
  pub some : 0 < line.to
  pub holds : Holds t (end_of at.event (length leaf.text) line.to)

pub line_ends : (faces : List FontFace) (t : Tree) (at : Position) (leaf : LeafData) (measure : ℤ) (line : LineView) → Begins t at leaf → IsUtf8 leaf.text → IsLine faces leaf at.offset measure line → IsCharBoundary leaf.text line.to → IsAtEnd t at leaf line
line_ends faces t at leaf measure line b utf8 is ends =
    let go = lines_go_on faces leaf at.offset measure line b.inside is in
    let start = holds_boundary t at b.names.0 leaf b.holds b.names.1 b.names.2 utf8 in
    let from : at.offset ≡ line.from = sym is.begins in
    record {
      inside = record { some = omega (arith, go.0, from); begins = subst (IsCharBoundary leaf.text) from start; ends = ends; hyphen = is.hyphen };
      some = omega (arith, go.0);
      holds = holds_end t at.event b.names.0 line.to leaf b.names.1 b.names.2 go.1 ends;
    }

-- the line is the next solid
pub line_is : (faces : List FontFace) (t : Tree) (width : ℤ) (from at : Position) (event number : ℕ) (leaf : LeafData) (line : LineView) (seam : SeamInfo) (s : SolidView) → solid_after t from.event ≡ Some event → slice_get t.events event ≡ Some (Leaf number) → slice_get t.leaves number ≡ Some leaf → at.event ≡ event → at.offset ≡ cond (eqb event from.event) from.offset 0
    → IsLine faces leaf at.offset (leaf_measure t width event) line → seam ≡ seam_of t at width → s ≡ solid_of faces leaf at line seam → IsSolid faces t width from s
line_is faces t width from at event number leaf line seam s found names has at_event at_offset fills seam_is is =
    subst (IsSolid faces t width from) (sym is) (line_here faces t width from (solid_of faces leaf at line seam) event number leaf line found names has at_event at_offset fills refl refl refl refl seam_is refl)

-- it is a small one where its seam and its height are small
pub line_small : (s : SolidView) (seam : SeamInfo) → s.seam ≡ seam → IsWithin (2 ^ 28) seam.whole_gap → IsWithin (2 ^ 28) seam.kept_gap → IsRoom seam.head → IsRoom seam.tail → IsWithin (2 ^ 32) s.height → pos 0 ≤ℤ s.height → IsSmallSolid s
line_small s seam is whole kept head tail height some = record {
  whole = rw is (omega (arith, ints, whole));
  kept = rw is (omega (arith, ints, kept));
  head = rw is head;
  tail = rw is tail;
  height = height;
  some = some;
}

-- the widths behind its seam are those at its end
pub line_widths : (t : Tree) (width : ℤ) (from at : Position) (event number len to : ℕ) → solid_after t from.event ≡ Some event → slice_get t.events event ≡ Some (Leaf number) → at.event ≡ event → 0 < to → widths_after t width at ≡ widths_at t width (end_of at.event len to)
line_widths t width from at event number len to found names at_event some =
    ap (λ (j : ℕ). widths_of t width (open_before t.events j)) (end_at_leaf t from.event event number at found names at_event)
    ∙ widths_past_line t width from.event event number len to found names some
    ∙ ap (λ (e : ℕ). widths_at t width (end_of e len to)) (sym at_event)
