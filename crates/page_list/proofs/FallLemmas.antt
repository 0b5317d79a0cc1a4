-- What is left of a tree falls from place to place, and what is carried of notes falls from page to page.
use Rattle.std.proofs.Common.{◌≡◌, ◌≢◌, ◌<◌, ◌≤◌, ◌+◌, ◌-◌, ◌*◌, ℕ, zero, suc, ℤ, Bool, true, false, cond, eqb, List, [], ◌∷◌, ◌++◌, Option, None, Some, length, map, drop, slice_get, refl, sym, ap, ◌∙◌, subst, arith, ◌⊎◌, ⊎_elim, inl, inr}
use Rattle.std.specs.List.{sum_by}
use Rattle.std.proofs.Math.Nat.{mul-le-mul_right}
use Rattle.std.proofs.Math.Seq.{drop-nil}
use Rattle.std.proofs.lemmas.Bool.{cases_lt}
use Rattle.std.proofs.lemmas.Bool.Decides.{eqb_tells}
use Rattle.bk_num.proofs.ListLemmas.{drop-next}
use Rattle.metrics.specs.Face.{FontFace}
use Rattle.boxes.specs.Tree.{Tree, IsTree}
use Rattle.boxes.specs.declared.flow.Note.{Note}
use Rattle.boxes.specs.declared.leaf.Leaf.{Leaf as LeafData}
use Rattle.boxes.specs.declared.place.Event.TheVariants.{Leaf}
use Rattle.boxes.specs.declared.place.Position.{Position}
use Rattle.seams.specs.Runs.{solid_after, solid_from}
use Rattle.seams.proofs.RunLemmas.{after_solid}
use Rattle.cursor.specs.Remainder.{SolidView, IsSolid, IsRemainder}
use Rattle.cursor.proofs.RemLemmas.{Stands, left_from, place, solid_stands, solid_falls, place_stands, begins_of}
use Rattle.note_list.specs.Lists.{NotePart, AreNoted, noted, is_of, left_after, left_of, carried_parts}
use Rattle.note_list.specs.declared.carried.Carried.{Carried}
use Rattle.note_list.specs.declared.solid.NotedSolid.{NotedSolid}
use Rattle.page_list.proofs.CarriedLemmas.{AreTrees, HasNote, skip_own}
use Rattle.page_list.proofs.NextLemmas.{here}

-- ---- what is left falls from a page to the next
module _ (faces : List FontFace) (t : Tree) (w : ℤ) (tree : IsTree t) where
  -- a place inside a leaf is that of the next solid
  pub offset_stays : (from : Position) (s : SolidView) → Stands t from → IsSolid faces t w from s → 0 < from.offset → s.placed_at.event ≡ from.event
  offset_stays from s st is o =
      let p = st.offset o in
      let here : Some from.event ≡ Some s.placed_at.event = sym (ap (λ es. solid_from t.boxes es from.event) (drop-next t.events from.event (Leaf p.0) p.2)) ∙ is.found in
      cc

  -- the place of the next solid has no more left than the place before it
  pub placed_low : (from : Position) (s : SolidView) → Stands t from → IsSolid faces t w from s → left_from t s.placed_at ≤ left_from t from
  unfolding left_from
  placed_low from s st is = by (eqb_tells s.placed_at.event from.event)
    where
      by : ((eqb s.placed_at.event from.event ≡ true) × (s.placed_at.event ≡ from.event)) ⊎ ((eqb s.placed_at.event from.event ≡ false) × (s.placed_at.event ≢ from.event)) → left_from t s.placed_at ≤ left_from t from
      by (inl e) =
          let offset : s.placed_at.offset ≡ from.offset = begins_of faces t w from s st is ∙ ap (λ (x : Bool). cond x from.offset 0) e.0 in
          let same : s.placed_at ≡ from = ap (λ (n : ℕ). place n s.placed_at.offset) e.1 ∙ ap (place from.event) offset in
          let left : left_from t s.placed_at ≡ left_from t from = ap (left_from t) same in
          omega arith
      by (inr e) =
          let offset : s.placed_at.offset ≡ 0 = begins_of faces t w from s st is ∙ ap (λ (x : Bool). cond x from.offset 0) e.0 in
          let none : from.offset ≤ 0 = ⊎_elim (λ (o : 0 < from.offset). absurd (e.1 (offset_stays from s st is o))) (λ (o : from.offset ≤ 0). o) (cases_lt 0 from.offset) in
          let after = (after_solid t from.event s.placed_at.event is.found).0 in
          let less : (length t.events - s.placed_at.event) * suc (sum_by (λ (l : LeafData). length l.text) t.leaves) ≤ (length t.events - from.event) * suc (sum_by (λ (l : LeafData). length l.text) t.leaves) = mul-le-mul_right (suc (sum_by (λ (l : LeafData). length l.text) t.leaves)) (omega arith) in
          omega arith

  -- nor has that of a later one
  pub later_low : (from : Position) (xs : List SolidView) (k : ℕ) (v : SolidView) → Stands t from → IsRemainder faces t w from xs → slice_get xs k ≡ Some v → left_from t v.placed_at ≤ left_from t from
  later_low from [] k v st r e = absurd (cc)
  later_low from (s ∷ xs) zero v st r e = let same : s ≡ v = cc in subst (λ (x : SolidView). left_from t x.placed_at ≤ left_from t from) same (placed_low from s st r.1.0)
  later_low from (s ∷ xs) (suc k) v st r e =
      let falls : left_from t r.0 < left_from t from = subst (λ (p : Position). left_from t p < left_from t from) (sym r.1.1) (solid_falls faces t w from s tree st r.1.0) in
      let rest = later_low r.0 xs k v (subst (Stands t) (sym r.1.1) (solid_stands faces t w from s tree st r.1.0)) r.2 e in
      omega arith

  -- and after a solid less is left
  pub place_falls : (from : Position) (xs : List SolidView) (k : ℕ) (v : SolidView) → Stands t from → IsRemainder faces t w from xs → 0 < k → slice_get xs k ≡ Some v → left_from t v.placed_at < left_from t from
  place_falls from [] k v st r some e = absurd (cc)
  place_falls from (s ∷ xs) zero v st r some e = absurd (omega arith)
  place_falls from (s ∷ xs) (suc k) v st r some e =
      let falls : left_from t r.0 < left_from t from = subst (λ (p : Position). left_from t p < left_from t from) (sym r.1.1) (solid_falls faces t w from s tree st r.1.0) in
      let rest = later_low r.0 xs k v (subst (Stands t) (sym r.1.1) (solid_stands faces t w from s tree st r.1.0)) r.2 e in
      omega arith

-- ---- what is carried falls from page to page
-- a note that goes on at a place of its body, which is that of a solid
pub record GoesOn (notes : List Note) (number : ℕ) (at : Position) : Type 0 where
  pub note : Note
  pub has : slice_get notes number ≡ Some note
  pub stands : Stands note.body at
  pub solid : solid_after note.body at.event ≡ Some at.event

abbrev pub GoOn : List Note → List Carried → Type 0
GoOn notes [] = Unit
GoOn notes (c ∷ carried) = GoesOn notes c.note c.at × GoOn notes carried

abbrev pub HaveNotes : List Note → List NotePart → Type 0
HaveNotes notes [] = Unit
HaveNotes notes (p ∷ parts) = HasNote notes p × HaveNotes notes parts

pub have_carried : (notes : List Note) (carried : List Carried) → GoOn notes carried → HaveNotes notes (carried_parts carried)
have_carried notes [] go = tt
have_carried notes (c ∷ carried) go = (record { note = go.0.note; has = go.0.has; stands = go.0.stands }, have_carried notes carried go.1)

pub have_append : (notes : List Note) (ps qs : List NotePart) → HaveNotes notes ps → HaveNotes notes qs → HaveNotes notes (ps ++ qs)
have_append notes [] qs h g = g
have_append notes (p ∷ ps) qs h g = (h.0, have_append notes ps qs h.1 g)

-- what is left of a note, and one more
abbrev pub weight_by : Option Note → Position → ℕ
weight_by None at = 0
weight_by (Some note) at = suc (left_from note.body at)

abbrev pub weight : List Note → List Carried → ℕ
weight notes [] = 0
weight notes (c ∷ carried) = weight_by (slice_get notes c.note) c.at + weight notes carried

abbrev pub parts_weight : List Note → List NotePart → ℕ
parts_weight notes [] = 0
parts_weight notes (p ∷ parts) = weight_by (slice_get notes p.note) p.at + parts_weight notes parts

pub carried_weight : (notes : List Note) (carried : List Carried) → parts_weight notes (carried_parts carried) ≡ weight notes carried
carried_weight notes [] = refl
carried_weight notes (c ∷ carried) = ap (λ (n : ℕ). weight_by (slice_get notes c.note) c.at + n) (carried_weight notes carried)

-- what goes on, and has at most so much left
pub record IsLow (notes : List Note) (bound : ℕ) (carried : List Carried) : Type 0 where
  pub goes : GoOn notes carried
  pub low : weight notes carried ≤ bound

low_more : (notes : List Note) (less bound : ℕ) (carried : List Carried) → less ≤ bound → IsLow notes less carried → IsLow notes bound carried
low_more notes less bound carried h l = let m = l.low in record { goes = l.goes; low = omega arith }

module _ (faces : List FontFace) (notes : List Note) (w : ℤ) (trees : AreTrees notes) where
  module _ (p : NotePart) (note : Note) (has : slice_get notes p.note ≡ Some note) (more : List NotedSolid) (rest : ℕ) (low : (last : Option ℕ) (n : ℕ) → IsLow notes rest (left_after last (drop n more))) where
    tree : IsTree note.body
    tree = trees p.note note has

    abbrev list_of : List SolidView → List NotedSolid
    list_of solids = map (noted note.body p) solids ++ more

    -- after a solid of the note the others are not carried once more
    skipped : (solids : List SolidView) → IsLow notes rest (left_after (Some p.note) (list_of solids))
    skipped solids = subst (IsLow notes rest) (sym (skip_own faces notes w note.body p solids more)) (low (Some p.note) 0)

    own_low : (at : Position) (solids : List SolidView) (last : Option ℕ) (n : ℕ) → Stands note.body at → IsRemainder faces note.body w at solids → IsLow notes (suc (left_from note.body at) + rest) (left_after last (drop n (list_of solids)))
    own_low at [] last n st r = low_more notes rest (suc (left_from note.body at) + rest) (left_after last (drop n more)) (omega arith) (low last n)
    own_low at (s ∷ solids) last (suc n) st r =
        let falls : left_from note.body r.0 < left_from note.body at = subst (λ (q : Position). left_from note.body q < left_from note.body at) (sym r.1.1) (solid_falls faces note.body w at s tree st r.1.0) in
        low_more notes (suc (left_from note.body r.0) + rest) (suc (left_from note.body at) + rest) (left_after last (drop n (list_of solids))) (omega arith)
        (own_low r.0 solids last n (subst (Stands note.body) (sym r.1.1) (solid_stands faces note.body w at s tree st r.1.0)) r.2)
    own_low at (s ∷ solids) last zero st r = by (is_of last p.note)
      where
        first : Carried
        first = record { note = p.note; at = s.placed_at }

        by : (b : Bool) → IsLow notes (suc (left_from note.body at) + rest) (cond b (left_after (Some p.note) (list_of solids)) (first ∷ left_after (Some p.note) (list_of solids)))
        by true = low_more notes rest (suc (left_from note.body at) + rest) (left_after (Some p.note) (list_of solids)) (omega arith) (skipped solids)
        by false =
            let other = skipped solids in
            let fewer = other.low in
            let less = placed_low faces note.body w tree at s st r.1.0 in
            let own : weight_by (slice_get notes p.note) s.placed_at ≡ suc (left_from note.body s.placed_at) = ap (λ (o : Option Note). weight_by o s.placed_at) has in
            record {
              goes = (record { note = note; has = has; stands = place_stands faces note.body w at s tree st r.1.0; solid = here faces note.body w tree at s r.1.0 }, other.goes);
              low = omega arith;
            }

    -- where a solid is placed, less is left
    own_falls : (at : Position) (solids : List SolidView) (last : Option ℕ) (n : ℕ) → Stands note.body at → IsRemainder faces note.body w at solids → IsLow notes (left_from note.body at + rest) (left_after last (drop (suc n) (list_of solids)))
    own_falls at [] last n st r = low_more notes rest (left_from note.body at + rest) (left_after last (drop (suc n) more)) (omega arith) (low last (suc n))
    own_falls at (s ∷ solids) last n st r =
        let falls : left_from note.body r.0 < left_from note.body at = subst (λ (q : Position). left_from note.body q < left_from note.body at) (sym r.1.1) (solid_falls faces note.body w at s tree st r.1.0) in
        low_more notes (suc (left_from note.body r.0) + rest) (left_from note.body at + rest) (left_after last (drop n (list_of solids))) (omega arith)
        (own_low r.0 solids last n (subst (Stands note.body) (sym r.1.1) (solid_stands faces note.body w at s tree st r.1.0)) r.2)

  weight_is : (p : NotePart) (note : Note) (rest : ℕ) → slice_get notes p.note ≡ Some note → weight_by (slice_get notes p.note) p.at + rest ≡ suc (left_from note.body p.at) + rest
  weight_is p note rest has = ap (λ (o : Option Note). weight_by o p.at + rest) has

  stands_in : (p : NotePart) (note : Note) → HasNote notes p → slice_get notes p.note ≡ Some note → Stands note.body p.at
  stands_in p note h has =
      let same : h.note ≡ note = (let e : Some h.note ≡ Some note = sym h.has ∙ has in cc) in
      subst (λ (x : Note). Stands x.body p.at) same h.stands

  -- what a page doesn't place of a list goes on, and no more of it is left than before
  pub list_low : (parts : List NotePart) (list : List NotedSolid) → HaveNotes notes parts → AreNoted faces notes w parts list → (last : Option ℕ) (n : ℕ) → IsLow notes (parts_weight notes parts) (left_after last (drop n list))
  list_low [] list h are last n = subst (λ (l : List NotedSolid). IsLow notes 0 (left_after last (drop n l))) (sym are) (subst (λ (l : List NotedSolid). IsLow notes 0 (left_after last l)) (sym (drop-nil n)) (record { goes = tt; low = omega arith }))
  list_low (p ∷ parts) list h (note, has, solids, rem, rest, more, is) last n =
      subst (λ (l : List NotedSolid). IsLow notes (parts_weight notes (p ∷ parts)) (left_after last (drop n l))) (sym is)
      (subst (λ (k : ℕ). IsLow notes k (left_after last (drop n (map (noted note.body p) solids ++ rest)))) (sym (weight_is p note (parts_weight notes parts) has))
      (own_low p note has rest (parts_weight notes parts) (list_low parts rest h.1 more) p.at solids last n (stands_in p note h.0 has) rem))

  -- where it places some, less is left
  pub list_falls : (p : NotePart) (parts : List NotePart) (list : List NotedSolid) → HaveNotes notes (p ∷ parts) → AreNoted faces notes w (p ∷ parts) list → (n : ℕ) → 0 < n → GoOn notes (left_of (drop n list)) × (weight notes (left_of (drop n list)) < parts_weight notes (p ∷ parts))
  list_falls p parts list h are zero some = absurd (omega arith)
  list_falls p parts list h (note, has, solids, rem, rest, more, is) (suc n) some =
      subst (λ (l : List NotedSolid). GoOn notes (left_of (drop (suc n) l)) × (weight notes (left_of (drop (suc n) l)) < parts_weight notes (p ∷ parts))) (sym is)
      (let l = own_falls p note has rest (parts_weight notes parts) (list_low parts rest h.1 more) p.at solids None n (stands_in p note h.0 has) rem in
      let m = l.low in
      let e = weight_is p note (parts_weight notes parts) has in
      (l.goes, omega arith))
