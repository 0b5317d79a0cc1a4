-- A solid of a remainder is the next one at its place, whatever the width of the frame is.
use Rattle.std.proofs.Common.{◌≡◌, ℕ, zero, suc, ℤ, Bool, true, cond, eqb, List, [], ◌∷◌, Some, slice_get, sym, ap, ◌∙◌, subst, arith}
use Rattle.std.proofs.lemmas.Bool.{eq-eqb}
use Rattle.metrics.specs.Face.{FontFace}
use Rattle.boxes.specs.Tree.{Tree, IsTree}
use Rattle.boxes.specs.declared.page.Placed.{Placed}
use Rattle.boxes.specs.declared.place.Position.{Position}
use Rattle.line_fill.proofs.EndLemmas.{end_place, lines_go_on}
use Rattle.seams.specs.Runs.{solid_after}
use Rattle.seams.proofs.RunLemmas.{after_solid}
use Rattle.cursor.specs.Remainder.{SolidView, IsSolid, IsContent, IsRemainder, leaf_measure}
use Rattle.cursor.specs.Remainder.IsContent.{of_line, of_open, of_close}
use Rattle.cursor.proofs.RemLemmas.{Stands, begins_of, found_of, place_stands, solid_stands}
use Rattle.cursor.proofs.PartLemmas.{solid_itself}
use Rattle.note_list.specs.Calls.{start_place}
use Rattle.page_list.specs.Cuts.{place_after}
use Rattle.page_list.specs.Parted.{IsPart, IsNextSolid, AreNextSolids}
use Rattle.page_list.specs.Parted.IsPart.{line, upper, lower}

pub start_stands : (t : Tree) → Stands t start_place
start_stands t = record { within = omega arith; offset = λ o. absurd (omega arith) }

module _ (faces : List FontFace) (t : Tree) (w : ℤ) (tree : IsTree t) where
  -- a solid on its page is a part of its tree
  pub part_of : (from : Position) (s : SolidView) → Stands t from → IsSolid faces t w from s → (top height : ℤ) → IsPart t (record { at = s.placed_at; end = s.end; top = top; height = height; kind = s.kind })
  part_of from s st is top height = by is.content
    where
      by : IsContent faces t w from s → IsPart t (record { at = s.placed_at; end = s.end; top = top; height = height; kind = s.kind })
      by (of_line l) =
          let f = found_of faces t w from s tree st is.found l in
          let text = lines_go_on faces l.leaf s.placed_at.offset (leaf_measure t w s.placed_at.event) l.line_of f.inside l.fills in
          line (record { number = l.number; leaf = l.leaf; to = l.line_of.to; names = l.names; has = l.has; after = text.0; within = text.1; place = end_place l.leaf s.placed_at.offset l.line_of.to f.inside l.fills.ends; ends = l.ends; kind_is = l.kind_is })
      by (of_open b e l) = upper b e (record { ends = l.ends; kind_is = l.kind_is })
      by (of_close b e l) = lower b e (record { ends = l.ends; kind_is = l.kind_is })

  -- and the next one, with any top and height
  pub next_of : (from : Position) (s : SolidView) → Stands t from → IsSolid faces t w from s → (top height : ℤ) → IsNextSolid t from (record { at = s.placed_at; end = s.end; top = top; height = height; kind = s.kind })
  next_of from s st is top height = record { found = is.found; begins = begins_of faces t w from s st is; part = part_of from s st is top height }

  -- it is the first solid at its own place
  pub here : (from : Position) (s : SolidView) → IsSolid faces t w from s → solid_after t s.placed_at.event ≡ Some s.placed_at.event
  here from s is = solid_itself t s.placed_at.event (after_solid t from.event s.placed_at.event is.found).1

  -- the solids from the place of the next solid on are those from any place before it
  pub same_next : (from : Position) (s : SolidView) → Stands t from → IsSolid faces t w from s → (p : Placed) → IsNextSolid t s.placed_at p → IsNextSolid t from p
  same_next from s st is p n =
      let some : Some s.placed_at.event ≡ Some p.at.event = sym (here from s is) ∙ n.found in
      let same : s.placed_at.event ≡ p.at.event = cc in
      let tells : eqb p.at.event s.placed_at.event ≡ true = eq-eqb p.at.event s.placed_at.event (sym same) in
      let offset : p.at.offset ≡ s.placed_at.offset = n.begins ∙ ap (λ (b : Bool). cond b s.placed_at.offset 0) tells in
      record { found = is.found ∙ some; begins = offset ∙ begins_of faces t w from s st is ∙ ap (λ (k : ℕ). cond (eqb k from.event) from.offset 0) same; part = n.part }

  pub same_solids : (from : Position) (s : SolidView) → Stands t from → IsSolid faces t w from s → (ps : List Placed) → AreNextSolids t s.placed_at ps → AreNextSolids t from ps
  same_solids from s st is [] none = absurd (let e = sym none ∙ here from s is in cc)
  same_solids from s st is (p ∷ ps) r = (r.0, (same_next from s st is p r.1.0, r.1.1), r.2)

  -- ---- where a cut leaves off is a place of the tree
  pub after_stands : (from : Position) (solids : List SolidView) (count : ℕ) → Stands t from → IsRemainder faces t w from solids → Stands t (place_after t (slice_get solids count))
  after_stands from [] count st r = record { within = omega arith; offset = λ o. absurd (omega arith) }
  after_stands from (s ∷ solids) zero st r = place_stands faces t w from s tree st r.1.0
  after_stands from (s ∷ solids) (suc n) st r = after_stands r.0 solids n (subst (Stands t) (sym r.1.1) (solid_stands faces t w from s tree st r.1.0)) r.2
