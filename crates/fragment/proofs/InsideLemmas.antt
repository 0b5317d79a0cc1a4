-- The notes of a page are read with the solids that end inside its frame.
use Rattle.std.proofs.Common.{◌≡◌, Bool, true, false, refl, ℕ, suc, ◌<◌, ◌≤◌, ◌⊎◌, ⊎_elim, inl, inr, ℤ, pos, ◌≤ℤ◌, ◌<ℤ◌, List, [], ◌∷◌, ◌++◌, length, length-append, map, take, sym, ap, ◌∙◌, subst, arith}
use Rattle.std.proofs.lemmas.Bool.{cases_lt}
use Rattle.std.proofs.lemmas.Int.{ints}
use Rattle.std.proofs.lemmas.List.{length-map, length-take-le, map-append, take-append-le}
use Rattle.std.proofs.Math.Seq.{take-length}
use Rattle.metrics.specs.Face.{FontFace}
use Rattle.boxes.specs.declared.flow.Flow.{Flow}
use Rattle.boxes.specs.declared.frames.Frame.{Frame}
use Rattle.boxes.specs.declared.place.Position.{Position}
use Rattle.cursor.specs.Remainder.{SolidView}
use Rattle.cuts.specs.declared.row.SolidRow.{SolidRow}
use Rattle.cuts.specs.Areas.{area_after}
use Rattle.cuts.specs.Prefixes.{AreFree, HasForced}
use Rattle.cuts.specs.Rows.{limit_of, rows_extent}
use Rattle.cuts.proofs.AppendLemmas.{extent-append, limit-forced, limit-free, limit-grows}
use Rattle.cuts.proofs.PointLemmas.{limit_within}
use Rattle.cuts.proofs.ReachLemmas.{extent_low}
use Rattle.note_list.specs.declared.carried.Carried.{Carried}
use Rattle.page_list.specs.Cuts.{row_of, rows_of}
use Rattle.page_list.specs.declared.cut.CutFrom.{CutFrom}
use Rattle.fragment.specs.Reads.{AreRead, AreReadInside}
use Rattle.fragment.specs.declared.page_notes.PageNotes.{PageNotes}
use Rattle.fragment.proofs.ReadLemmas.{area_kept}

abbrev ends_of : List SolidView → List Position
ends_of views = map (λ (s : SolidView). s.end) views

module _ (faces : List FontFace) (flow : Flow) (frame : Frame) (from : CutFrom) (carried : List Carried) where
  abbrev rows : List SolidView → List SolidRow
  rows views = rows_of flow.main views

  -- before any solid
  pub inside_start : (p : PageNotes) → pos 0 ≤ℤ frame.height → AreRead faces flow frame from.at carried [] p → AreReadInside faces flow frame from carried [] p
  inside_start p low r = record { count = 0; within = omega arith; read = r; inside = omega (arith, ints, low); below = λ h. absurd (omega arith) }

  module _ (views : List SolidView) (p : PageNotes) (r : AreReadInside faces flow frame from carried views p) where
    -- what ends inside the frame is read with its notes
    pub inside_read : (j : ℕ) → j ≤ limit_of (rows views) → rows_extent from.kept (rows views) j ≤ℤ frame.height → j ≤ r.count
    inside_read j low inside = ⊎_elim
        (λ (h : r.count < j).
        let below = r.below (omega (arith, h, low)) in
        let up = extent_low from.kept (rows views) (suc r.count) j (omega (arith, h)) in
        absurd (omega (arith, ints, below, up, inside)))
        (λ (h : j ≤ r.count). h)
        (cases_lt r.count j)

    pub inside_within : r.count ≤ length views
    inside_within =
        let low = r.within in
        let limit = limit_within (rows views) in
        let size : length (rows views) ≡ length views = length-map views (row_of flow.main) in
        omega (arith, low, limit, size)

    pub inside_areas : length p.areas.items ≡ r.count
    inside_areas = r.read.count ∙ length-map (take r.count views) (λ (s : SolidView). s.end) ∙ length-take-le r.count views inside_within

    module _ (free : AreFree (rows views)) where
      pub free_limit : limit_of (rows views) ≡ length views
      free_limit = limit-free (rows views) free ∙ length-map views (row_of flow.main)

      all_read : rows_extent from.kept (rows views) (length views) ≤ℤ frame.height → r.count ≡ length views
      all_read inside =
          let limit = free_limit in
          let all = inside_read (length views) (omega (arith, limit)) inside in
          let low = inside_within in
          omega (arith, all, low)

      -- more solids behind one that ends below the frame
      pub inside_past : (more : List SolidView) → frame.height <ℤ rows_extent from.kept (rows views) (length views) → AreReadInside faces flow frame from carried (views ++ more) p
      inside_past more over =
          let low = inside_within in
          let limit = free_limit in
          let most = limit_within (rows views) in
          let size : length (rows views) ≡ length views = length-map views (row_of flow.main) in
          let inner : r.count < length views = by (cases_lt r.count (length views)) in
          let next : rows (views ++ more) ≡ rows views ++ rows more = map-append (row_of flow.main) views more in
          let grows : limit_of (rows views) ≤ limit_of (rows (views ++ more)) = subst (λ (rs : List SolidRow). limit_of (rows views) ≤ limit_of rs) (sym next) (limit-grows (rows views) (rows more)) in
          let within = r.within in
          let extent : (j : ℕ) → j ≤ length views → rows_extent from.kept (rows (views ++ more)) j ≡ rows_extent from.kept (rows views) j =
          λ j h. ap (λ (rs : List SolidRow). rows_extent from.kept rs j) next ∙ extent-append from.kept (rows views) (rows more) j (omega (arith, h, size)) in
          record {
            count = r.count;
            within = omega (arith, within, grows);
            read = subst (λ (xs : List SolidView). AreRead faces flow frame from.at carried (ends_of xs) p) (sym (take-append-le r.count views more low)) r.read;
            inside = subst (λ (z : ℤ). z ≤ℤ frame.height) (sym (extent r.count low)) r.inside;
            below = λ h. subst (λ (z : ℤ). frame.height <ℤ z) (sym (extent (suc r.count) (omega (arith, inner)))) (r.below (omega (arith, inner, limit)));
          }
        where
          by : (r.count < length views) ⊎ (length views ≤ r.count) → r.count < length views
          by (inl h) = h
          by (inr h) =
              let low = inside_within in
              let same : r.count ≡ length views = omega (arith, h, low) in
              let inside : rows_extent from.kept (rows views) (length views) ≤ℤ frame.height = subst (λ (n : ℕ). rows_extent from.kept (rows views) n ≤ℤ frame.height) same r.inside in
              absurd (omega (arith, ints, inside, over))

      -- an area that is told later leaves the others as they are
      inside_kept : (area : ℤ) (j : ℕ) → j ≤ length views → rows_extent from.kept (rows views) (length views) ≤ℤ frame.height → area_after (p.areas.items ++ area ∷ []) j ≡ area_after p.areas.items j
      inside_kept area j low inside =
          let all = all_read inside in
          let size = inside_areas in
          area_kept p.areas.items area j (omega (arith, low, all, size))

      -- the last area is that after all solids
      pub inside_last : rows_extent from.kept (rows views) (length views) ≤ℤ frame.height → area_after p.areas.items (length p.areas.items) ≡ area_after p.areas.items (length views)
      inside_last inside = ap (area_after p.areas.items) (inside_areas ∙ all_read inside)

      module _ (s : SolidView) where
        size_next : length (views ++ s ∷ []) ≡ suc (length views)
        size_next = let n = length-append views (s ∷ []) in omega (arith, n)

        rows_next : rows (views ++ s ∷ []) ≡ rows views ++ row_of flow.main s ∷ []
        rows_next = map-append (row_of flow.main) views (s ∷ [])

        extent_before : (j : ℕ) → j ≤ length views → rows_extent from.kept (rows (views ++ s ∷ [])) j ≡ rows_extent from.kept (rows views) j
        extent_before j low =
            let size : length (rows views) ≡ length views = length-map views (row_of flow.main) in
            ap (λ (rs : List SolidRow). rows_extent from.kept rs j) rows_next ∙ extent-append from.kept (rows views) (row_of flow.main s ∷ []) j (omega (arith, low, size))

        limit_most : limit_of (rows (views ++ s ∷ [])) ≤ suc (length views)
        limit_most =
            let limit = limit_within (rows (views ++ s ∷ [])) in
            let size : length (rows (views ++ s ∷ [])) ≡ length (views ++ s ∷ []) = length-map (views ++ s ∷ []) (row_of flow.main) in
            let next = size_next in
            omega (arith, limit, size, next)

        limit_least : limit_of (rows views) ≤ limit_of (rows (views ++ s ∷ []))
        limit_least = subst (λ (rs : List SolidRow). limit_of (rows views) ≤ limit_of rs) (sym rows_next) (limit-grows (rows views) (row_of flow.main s ∷ []))

        -- the same notes, where no further point has room
        same_notes : (limit_of (rows (views ++ s ∷ [])) ≤ length views) ⊎ (frame.height <ℤ rows_extent from.kept (rows (views ++ s ∷ [])) (suc (length views))) → AreReadInside faces flow frame from carried (views ++ s ∷ []) p
        same_notes over =
            let within = r.within in
            let count = inside_within in
            let least = limit_least in
            let same : take r.count (views ++ s ∷ []) ≡ take r.count views = take-append-le r.count views (s ∷ []) count in
            record {
              count = r.count;
              within = omega (arith, within, least);
              read = subst (λ (xs : List SolidView). AreRead faces flow frame from.at carried (ends_of xs) p) (sym same) r.read;
              inside = subst (λ (z : ℤ). z ≤ℤ frame.height) (sym (extent_before r.count count)) r.inside;
              below = λ h. by (cases_lt r.count (length views)) over h;
            }
          where
            by : (r.count < length views) ⊎ (length views ≤ r.count) → (limit_of (rows (views ++ s ∷ [])) ≤ length views) ⊎ (frame.height <ℤ rows_extent from.kept (rows (views ++ s ∷ [])) (suc (length views))) → r.count < limit_of (rows (views ++ s ∷ [])) → frame.height <ℤ rows_extent from.kept (rows (views ++ s ∷ [])) (suc r.count)
            by (inl h) over less = let limit = free_limit in subst (λ (z : ℤ). frame.height <ℤ z) (sym (extent_before (suc r.count) (omega (arith, h)))) (r.below (omega (arith, h, limit)))
            by (inr h) (inl few) less = absurd (omega (arith, h, few, less))
            by (inr h) (inr past) less =
                let count = inside_within in
                let same : length views ≡ r.count = omega (arith, h, count) in
                subst (λ (n : ℕ). frame.height <ℤ rows_extent from.kept (rows (views ++ s ∷ [])) (suc n)) same past

        -- one more solid, whose seam is forced
        inside_forced : HasForced (rows (views ++ s ∷ [])) → AreReadInside faces flow frame from carried (views ++ s ∷ []) p
        inside_forced forced =
            let f = limit-forced (rows (views ++ s ∷ [])) [] forced in
            let few = f.1 in
            let size : length (rows (views ++ s ∷ [])) ≡ length (views ++ s ∷ []) = length-map (views ++ s ∷ []) (row_of flow.main) in
            let next = size_next in
            same_notes (inl (omega (arith, few, size, next)))

        -- one more solid that ends inside the frame
        inside_next : (q : PageNotes) → AreFree (rows (views ++ s ∷ [])) → rows_extent from.kept (rows (views ++ s ∷ [])) (suc (length views)) ≤ℤ frame.height → ((at : Position) (parts : List Carried) (ends : List Position) → AreRead faces flow frame at parts ends p → AreRead faces flow frame at parts (ends ++ s.end ∷ []) q) → AreReadInside faces flow frame from carried (views ++ s ∷ []) q
        inside_next q goes inside more =
            let up = extent_low from.kept (rows (views ++ s ∷ [])) (length views) (suc (length views)) (omega arith) in
            let same = extent_before (length views) (omega arith) in
            let count : r.count ≡ length views = all_read (omega (arith, ints, inside, up, same)) in
            let old : take r.count views ≡ views = ap (λ (n : ℕ). take n views) count ∙ take-length views in
            let size = size_next in
            let limit : limit_of (rows (views ++ s ∷ [])) ≡ length (views ++ s ∷ []) = limit-free (rows (views ++ s ∷ [])) goes ∙ length-map (views ++ s ∷ []) (row_of flow.main) in
            let now : take (suc (length views)) (views ++ s ∷ []) ≡ views ++ s ∷ [] = ap (λ (n : ℕ). take n (views ++ s ∷ [])) (sym size) ∙ take-length (views ++ s ∷ []) in
            let ends : ends_of (take r.count views) ++ s.end ∷ [] ≡ ends_of (take (suc (length views)) (views ++ s ∷ [])) = ap (λ (xs : List SolidView). ends_of xs ++ s.end ∷ []) old ∙ sym (map-append (λ (x : SolidView). x.end) views (s ∷ [])) ∙ ap ends_of (sym now) in
            record {
              count = suc (length views);
              within = omega (arith, size, limit);
              read = subst (λ (xs : List Position). AreRead faces flow frame from.at carried xs q) ends (more from.at carried (ends_of (take r.count views)) r.read);
              inside = inside;
              below = λ h. absurd (omega (arith, h, size, limit));
            }

        -- with one more solid, by whether its notes are read
        pub inside_on : (q : PageNotes) (inside : Bool) → (inside ≡ true → AreFree (rows (views ++ s ∷ [])) × (rows_extent from.kept (rows (views ++ s ∷ [])) (suc (length views)) ≤ℤ frame.height)) → (inside ≡ false → HasForced (rows (views ++ s ∷ [])) ⊎ (frame.height <ℤ rows_extent from.kept (rows (views ++ s ∷ [])) (suc (length views)))) →
            (inside ≡ true → (at : Position) (parts : List Carried) (ends : List Position) → AreRead faces flow frame at parts ends p → AreRead faces flow frame at parts (ends ++ s.end ∷ []) q) → (inside ≡ false → q ≡ p) → AreReadInside faces flow frame from carried (views ++ s ∷ []) q
        inside_on q true fits past more same = inside_next q (fits refl).0 (fits refl).1 (more refl)
        inside_on q false fits past more same =
            subst (AreReadInside faces flow frame from carried (views ++ s ∷ [])) (sym (same refl)) (⊎_elim (λ (f : HasForced (rows (views ++ s ∷ []))). inside_forced f) (λ (over : frame.height <ℤ rows_extent from.kept (rows (views ++ s ∷ [])) (suc (length views))). same_notes (inr over)) (past refl))

        -- the areas that are told stay
        pub areas_on : (q : PageNotes) (inside : Bool) → (inside ≡ true → AreFree (rows (views ++ s ∷ [])) × (rows_extent from.kept (rows (views ++ s ∷ [])) (suc (length views)) ≤ℤ frame.height)) → (inside ≡ true → (area : ℤ) × (q.areas.items ≡ p.areas.items ++ area ∷ [])) → (inside ≡ false → q ≡ p) →
            (j : ℕ) → j ≤ length views → rows_extent from.kept (rows views) j ≤ℤ frame.height → area_after q.areas.items j ≡ area_after p.areas.items j
        areas_on q true fits more same j low inside =
            let up = extent_low from.kept (rows (views ++ s ∷ [])) (length views) (suc (length views)) (omega arith) in
            let here = (fits refl).1 in
            let was = extent_before (length views) (omega arith) in
            ap (λ (xs : List ℤ). area_after xs j) (more refl).1 ∙ inside_kept (more refl).0 j low (omega (arith, ints, up, here, was))
        areas_on q false fits more same j low inside = ap (λ (x : PageNotes). area_after x.areas.items j) (same refl)
