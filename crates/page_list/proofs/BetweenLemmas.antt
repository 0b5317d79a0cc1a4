-- A forced seam between two solids of a remainder stands between blocks.
use Rattle.std.proofs.Common.{◌≡◌, ◌≢◌, ◌<◌, ◌≤◌, ◌+◌, ◌==◌, ℕ, zero, suc, ℤ, Bool, true, false, cond, eqb, length, List, [], ◌∷◌, Option, None, Some, is_some, option_map, slice_get, refl, sym, ap, ◌∙◌, subst, arith, ◌⊎◌, inl, inr, ⊎_elim}
use Rattle.std.proofs.lemmas.Bool.{cases_lt, eq-eqb}
use Rattle.std.proofs.lemmas.Bool.Decides.{eqb_tells}
use Rattle.std.proofs.lemmas.Option.{slice_get-map}
use Rattle.metrics.specs.Face.{FontFace}
use Rattle.boxes.specs.Tree.{Tree, IsTree}
use Rattle.boxes.specs.declared.frames.Demand.{Demand}
use Rattle.boxes.specs.declared.place.Event.{Event}
use Rattle.boxes.specs.declared.place.Position.{Position}
use Rattle.seams.specs.Runs.{solid_before, run_start, run_end, events_in, has_block_seam, is_solid_at}
use Rattle.seams.specs.Seams.{seam_before, line_seam, solid_behind, seam_between, class_by, forced_by}
use Rattle.seams.specs.Meets.{values_from, name_at as solid_name}
use Rattle.seams.specs.declared.seam_info.Class.TheVariants.{A}
use Rattle.seams.specs.declared.seam_info.SeamInfo.{SeamInfo}
use Rattle.seams.proofs.RunLemmas.{after_solid}
use Rattle.line_fill.proofs.EndLemmas.{lines_go_on}
use Rattle.cursor.specs.Remainder.{SolidView, IsSolid, IsContent, IsLineSolid, IsRemainder, leaf_measure, end_of}
use Rattle.cursor.specs.Remainder.IsContent.{of_line, of_open, of_close}
use Rattle.cursor.proofs.RemLemmas.{Stands, solid_stands, begins_of, found_of}
use Rattle.cursor.proofs.PartLemmas.{solid_itself}
use Rattle.cuts.specs.declared.row.SolidRow.{SolidRow}
use Rattle.cuts.specs.Rows.{AreForcedBetween}
use Rattle.page_list.specs.Cuts.{row_of, rows_of}

abbrev place : ℕ → ℕ → Position
place event offset = record { event = event; offset = offset }

-- after a solid there is a solid before any later event
behind_solid : (t : Tree) (k n : ℕ) → is_solid_at t.boxes (slice_get t.events k) ≡ true → k < n → (p : ℕ) × (solid_before t n ≡ Some p)
behind_solid t k zero is less = absurd (omega arith)
behind_solid t k (suc n) is less = by (is_solid_at t.boxes (slice_get t.events n)) refl (λ l. behind_solid t k n is l)
  where
    by : (b : Bool) → is_solid_at t.boxes (slice_get t.events n) ≡ b → (k < n → (p : ℕ) × (solid_before t n ≡ Some p)) → (p : ℕ) × (cond b (Some n) (solid_before t n) ≡ Some p)
    by true e more = (n, refl)
    by false e more = ⊎_elim
        (λ (l : k < n). more l)
        (λ (l : n ≤ k).
        let same : k ≡ n = omega arith in
        absurd (let f : false ≡ true = sym e ∙ ap (λ (i : ℕ). is_solid_at t.boxes (slice_get t.events i)) (sym same) ∙ is in cc))
        (cases_lt k n)

-- a forced seam between two solids is of class A
forced_class : (t : Tree) (p n : ℕ) (w : ℤ) → is_some (seam_between t w (Some p) (Some n)).forced ≡ true → (seam_between t w (Some p) (Some n)).class ≡ A
forced_class t p n w forced = by (has_block_seam (events_in t (run_start t (Some p)) (run_end t (Some n)))) refl
  where
    run : List Event
    run = events_in t (run_start t (Some p)) (run_end t (Some n))

    by : (b : Bool) → has_block_seam run ≡ b → (seam_between t w (Some p) (Some n)).class ≡ A
    by true e = ap (class_by (Some p) (Some n)) e
    by false e =
        let none : (seam_between t w (Some p) (Some n)).forced ≡ None = ap (λ (b : Bool). forced_between b) e in
        absurd (let f : true ≡ false = sym forced ∙ ap (λ (o : Option Demand). is_some o) none in cc)
      where
        forced_between : Bool → Option Demand
        forced_between b = forced_by (class_by (Some p) (Some n) b) (values_from t (run_start t (Some p)) run) (solid_name t p) (solid_name t n)

-- the second of two neighbours
pub next_between : (faces : List FontFace) (t : Tree) (w : ℤ) (from : Position) (r s : SolidView) → IsTree t → Stands t from → IsSolid faces t w from r → IsSolid faces t w r.end s → is_some s.seam.forced ≡ true → s.seam.class ≡ A
next_between faces t w from r s tree st first second forced = ap (λ (i : SeamInfo). i.class) second.seam_is ∙ by (s.placed_at.offset == 0) refl (sym (ap (λ (i : SeamInfo). is_some i.forced) second.seam_is) ∙ forced)
  where
    here : is_solid_at t.boxes (slice_get t.events s.placed_at.event) ≡ true
    here = (after_solid t r.end.event s.placed_at.event second.found).1

    before : is_solid_at t.boxes (slice_get t.events r.placed_at.event) ≡ true
    before = (after_solid t from.event r.placed_at.event first.found).1

    after : r.end.event ≤ s.placed_at.event
    after = (after_solid t r.end.event s.placed_at.event second.found).0

    by : (b : Bool) → (s.placed_at.offset == 0) ≡ b → is_some (cond b (seam_before t s.placed_at.event w) (line_seam t s.placed_at.event w)).forced ≡ true → (cond b (seam_before t s.placed_at.event w) (line_seam t s.placed_at.event w)).class ≡ A
    by false e f = absurd (cc)
    by true e f = block (behind_solid t r.placed_at.event s.placed_at.event before later)
      where
        zero_is : s.placed_at.offset ≡ 0
        zero_is = ⊎_elim (λ (h : (eqb s.placed_at.offset 0 ≡ true) × (s.placed_at.offset ≡ 0)). h.1) (λ (h : (eqb s.placed_at.offset 0 ≡ false) × (s.placed_at.offset ≢ 0)). absurd (let g : true ≡ false = sym e ∙ h.0 in cc)) (eqb_tells s.placed_at.offset 0)

        edge : r.end ≡ place (r.placed_at.event + 1) 0 → r.placed_at.event < s.placed_at.event
        edge ends = let n : r.end.event ≡ r.placed_at.event + 1 = ap (λ (q : Position). q.event) ends in let a = after in omega arith

        line : IsLineSolid faces t w from r → r.placed_at.event < s.placed_at.event
        line l = go (eqb_tells l.line_of.to (length l.leaf.text)) l.ends (lines_go_on faces l.leaf r.placed_at.offset (leaf_measure t w r.placed_at.event) l.line_of (found_of faces t w from r tree st first.found l).inside l.fills).0
          where
            go : {to len : ℕ} → ((eqb to len ≡ true) × (to ≡ len)) ⊎ ((eqb to len ≡ false) × (to ≢ len)) → r.end ≡ end_of r.placed_at.event len to → r.placed_at.offset < to → r.placed_at.event < s.placed_at.event
            go {to} {len} (inl h) ends more = edge (ends ∙ ap (λ (x : Bool). cond x (record { event = r.placed_at.event + 1; offset = 0 }) (record { event = r.placed_at.event; offset = to })) h.0)
            go {to} {len} (inr h) ends more =
                let e : r.end ≡ place r.placed_at.event to = ends ∙ ap (λ (x : Bool). cond x (record { event = r.placed_at.event + 1; offset = 0 }) (record { event = r.placed_at.event; offset = to })) h.0 in
                let n : r.end.event ≡ r.placed_at.event = ap (λ (q : Position). q.event) e in
                let o : r.end.offset ≡ to = ap (λ (q : Position). q.offset) e in
                let a = after in
                let z = zero_is in
                ⊎_elim
                (λ (l : r.placed_at.event < s.placed_at.event). l)
                (λ (l : s.placed_at.event ≤ r.placed_at.event).
                let same : s.placed_at.event ≡ r.end.event = omega arith in
                let tells : eqb s.placed_at.event r.end.event ≡ true = eq-eqb s.placed_at.event r.end.event same in
                let b : s.placed_at.offset ≡ r.end.offset = begins_of faces t w r.end s (solid_stands faces t w from r tree st first) second ∙ ap (λ (x : Bool). cond x r.end.offset 0) tells in
                absurd (omega arith))
                (cases_lt r.placed_at.event s.placed_at.event)

        later : r.placed_at.event < s.placed_at.event
        later = kind_of first.content
          where
            kind_of : IsContent faces t w from r → r.placed_at.event < s.placed_at.event
            kind_of (of_line l) = line l
            kind_of (of_open b e l) = edge l.ends
            kind_of (of_close b e l) = edge l.ends

        block : (p : ℕ) × (solid_before t s.placed_at.event ≡ Some p) → (seam_before t s.placed_at.event w).class ≡ A
        block (p, found) =
            let at = solid_itself t s.placed_at.event here in
            let pair : seam_before t s.placed_at.event w ≡ seam_between t w (Some p) (Some s.placed_at.event) =
            ap (λ (o : Option ℕ). seam_between t w (solid_behind t o) o) at ∙ ap (λ (o : Option ℕ). seam_between t w o (Some s.placed_at.event)) found in
            ap (λ (i : SeamInfo). i.class) pair ∙ forced_class t p s.placed_at.event w (sym (ap (λ (i : SeamInfo). is_some i.forced) pair) ∙ f)

pub neighbours : (faces : List FontFace) (t : Tree) (w : ℤ) → IsTree t → (from : Position) (xs : List SolidView) → Stands t from → IsRemainder faces t w from xs → (k : ℕ) (s : SolidView) → slice_get xs (suc k) ≡ Some s → is_some s.seam.forced ≡ true → s.seam.class ≡ A
neighbours faces t w tree from [] st r k s e forced = absurd (cc)
neighbours faces t w tree from (x ∷ []) st r k s e forced = absurd (cc)
neighbours faces t w tree from (x ∷ y ∷ ys) st r zero s e forced =
    let same : y ≡ s = cc in
    let second : IsSolid faces t w x.end y = subst (λ (q : Position). IsSolid faces t w q y) r.1.1 r.2.1.0 in
    subst (λ (v : SolidView). v.seam.class ≡ A) same (next_between faces t w from x y tree st r.1.0 second (ap (λ (v : SolidView). is_some v.seam.forced) same ∙ forced))
neighbours faces t w tree from (x ∷ y ∷ ys) st r (suc k) s e forced = neighbours faces t w tree r.0 (y ∷ ys) (subst (Stands t) (sym r.1.1) (solid_stands faces t w from x tree st r.1.0)) r.2 k s e forced

module _ (faces : List FontFace) (t : Tree) (w : ℤ) (from : Position) (tree : IsTree t) (st : Stands t from) where
  -- the forced seams of a remainder stand between blocks
  pub rest_between : (views : List SolidView) → IsRemainder faces t w from views → AreForcedBetween (rows_of t views)
  rest_between views r k row e forced = by (slice_get views (suc k)) refl (sym (slice_get-map (row_of t) views (suc k)) ∙ e)
    where
      by : (o : Option SolidView) → slice_get views (suc k) ≡ o → option_map (row_of t) (slice_get views (suc k)) ≡ Some row → row.seam.class ≡ A
      by None e f = absurd (let g : option_map (row_of t) None ≡ Some row = sym (ap (option_map (row_of t)) e) ∙ f in cc)
      by (Some s) e f =
          let g : Some (row_of t s) ≡ Some row = sym (ap (option_map (row_of t)) e) ∙ f in
          let same : row_of t s ≡ row = cc in
          ap (λ (q : SolidRow). q.seam.class) (sym same) ∙ neighbours faces t w tree from views st r k s e (ap (λ (q : SolidRow). is_some q.seam.forced) same ∙ forced)
