-- Walks that are taken up where the next solid stands.
use Rattle.std.proofs.Common.{◌≡◌, ℕ, ℤ, Bool, cond, eqb, List, [], ◌∷◌, Option, Some, None, length, refl, sym, ap, ◌∙◌, arith}
use Rattle.std.proofs.lemmas.Bool.{eq-eqb}
use Rattle.metrics.specs.Face.{FontFace}
use Rattle.boxes.specs.Tree.{Tree, Holds}
use Rattle.boxes.specs.declared.place.Position.{Position}
use Rattle.seams.specs.Runs.{solid_after}
use Rattle.seams.proofs.RunLemmas.{solid_none}
use Rattle.cursor.specs.Cursors.{CursorView, MarksGoOn, next_place, place_by}
use Rattle.cursor.specs.Remainder.{IsContent, IsRemainder, IsSolid, SolidView}
use Rattle.cursor.specs.Remainder.IsContent.{of_line, of_open, of_close}
use Rattle.cursor.proofs.RemLemmas.{begins_of, holds_next, holds_start, place, solid_within, stands}
use Rattle.cursor.proofs.WidthLemmas.{self_after}

-- a walk by its parts
abbrev pub walk_at : Tree → List FontFace → ℤ → Position → CursorView
walk_at t faces width at = record { tree = t; faces = faces; width = width; at = at }

-- in an event a place stands at its own offset, and at 0 in each other one
abbrev offset_in : Position → ℕ → ℕ
offset_in at event = cond (eqb event at.event) at.offset 0

-- the place where the next solid stands is one of the tree
pub holds_mark : (t : Tree) (from : Position) → Holds t from → Holds t (next_place t from)
holds_mark t from holds = by (solid_after t from.event) refl
  where
    by : (o : Option ℕ) → solid_after t from.event ≡ o → Holds t (place_by t from o)
    by None e = holds_start t (place (length t.events) 0) (omega arith) refl
    by (Some event) e = holds_next t from (place event (offset_in from event)) event (let w = solid_within t from.event event e in omega arith) holds refl refl

-- two places with one next solid
record AreAlike (t : Tree) (a b : Position) : Type 0 where
  after : solid_after t a.event ≡ solid_after t b.event
  offset : (event : ℕ) → solid_after t a.event ≡ Some event → offset_in a event ≡ offset_in b event

alike_back : (t : Tree) (a b : Position) → AreAlike t a b → AreAlike t b a
alike_back t a b h = record { after = sym h.after; offset = λ event e. sym (h.offset event (h.after ∙ e)) }

module _ (faces : List FontFace) (t : Tree) (width : ℤ) (a b : Position) (alike : AreAlike t a b) where
  solid_moves : (s : SolidView) → IsSolid faces t width a s → IsSolid faces t width b s
  solid_moves s is = record { found = sym alike.after ∙ is.found; seam_is = is.seam_is; content = by is.content }
    where
      by : IsContent faces t width a s → IsContent faces t width b s
      by (of_line l) = of_line (record {
        number = l.number;
        leaf = l.leaf;
        line_of = l.line_of;
        names = l.names;
        has = l.has;
        begins = l.begins ∙ alike.offset s.placed_at.event is.found;
        fills = l.fills;
        line_is = l.line_is;
        kind_is = l.kind_is;
        ends = l.ends;
        height_is = l.height_is;
        text_is = l.text_is;
      })
      by (of_open x e d) = of_open x e d
      by (of_close x e d) = of_close x e d

  remainder_moves : (xs : List SolidView) → IsRemainder faces t width a xs → IsRemainder faces t width b xs
  remainder_moves [] r = sym alike.after ∙ r
  remainder_moves (x ∷ xs) r = (r.0, (solid_moves x r.1.0, r.1.1), r.2)

-- a place and the one where its next solid stands
mark_alike : (t : Tree) (from : Position) → AreAlike t from (next_place t from)
mark_alike t from = by (solid_after t from.event) refl
  where
    by : (o : Option ℕ) → solid_after t from.event ≡ o → AreAlike t from (place_by t from o)
    by None e = record { after = e ∙ sym (solid_none t (length t.events) (omega arith)); offset = λ event f. let h : None ≡ Some event = sym e ∙ f in cc }
    by (Some event) e = record {
      after = e ∙ sym (self_after t from.event event e);
      offset = λ other f.
          let h : Some event ≡ Some other = sym e ∙ f in
          let same : event ≡ other = cc in
          ap (offset_in from) (sym same) ∙ (sym (ap (λ (z : Bool). cond z (offset_in from event) 0) (eq-eqb event event refl)) ∙ ap (offset_in (place event (offset_in from event))) same);
    }

pub marks_go : MarksGoOn
marks_go faces t width from tree holds =
    let alike = mark_alike t from in
    let back = alike_back t from (next_place t from) alike in
    record {
      there = λ s is.
          let at : s.placed_at ≡ place s.placed_at.event (offset_in from s.placed_at.event) = ap (place s.placed_at.event) (begins_of faces t width from s (stands t from holds) is) in
          at ∙ sym (ap (place_by t from) is.found);
      on = remainder_moves faces t width (next_place t from) from back;
      back = remainder_moves faces t width from (next_place t from) alike;
    }
