-- Solids in the order of a flow, one after another.
use Rattle.std.proofs.Common.{◌≡◌, ◌<◌, ◌≤◌, ◌+◌, ℕ, zero, suc, Bool, true, false, cond, MatchBool, List, [], ◌∷◌, Option, None, Some, length, take, drop, get_or, slice_get, refl, sym, ap, ◌∙◌, subst, arith, ◌⊎◌, inl, inr}
use Rattle.std.proofs.Math.Seq.{drop-cons}
use Rattle.std.proofs.lemmas.Bool.{cases_eq, cases_order, eq-eqb, ne_eqb}
use Rattle.std.proofs.lemmas.List.Elements.{All-cons, All-nil}
use Rattle.std.proofs.lemmas.Option.{slice_get_within}
use Rattle.std.specs.List.{All}
use Rattle.boxes.proofs.TreeFacts.{one_leaf}
use Rattle.boxes.specs.Tree.{Tree}
use Rattle.boxes.specs.declared.flow.Note.{Note}
use Rattle.boxes.specs.declared.leaf.Leaf.{Leaf as LeafData}
use Rattle.boxes.specs.declared.page.Placed.{Placed}
use Rattle.boxes.specs.declared.place.Event.{Event}
use Rattle.boxes.specs.declared.place.Event.TheVariants.{Opens, Closes, Leaf}
use Rattle.line_fill.specs.LineEnd.{IsLineBetween}
use Rattle.paint.specs.Items.{line_of}
use Rattle.paint.specs.Order.{AreInOrder, AreNotesInOrder, HasOrder, IsLineIn, StandsIn, StandsInNote}
use Rattle.paint.specs.Pages.{solids_of}
use Rattle.paint.specs.Parts.{end_by, first_event}

-- ---- the lines of a tree

-- what is known of the leaf at a solid's event is known of the solid
pub line_in : (t : Tree) (s : Placed) (number : ℕ) (leaf : LeafData) (r : Bool) → slice_get t.events s.at.event ≡ Some (Leaf number) → slice_get t.leaves number ≡ Some leaf → MatchBool r (IsLineBetween leaf s.at.offset (line_of leaf s).to) (¬ (IsLineBetween leaf s.at.offset (line_of leaf s).to)) → MatchBool r (IsLineIn t s) (¬ (IsLineIn t s))
line_in t s number leaf true names has is = λ m other names' has'. subst (λ (x : LeafData). IsLineBetween x s.at.offset (line_of x s).to) (one_leaf t s.at.event number m leaf other names has names' has') is
line_in t s number leaf false names has is = λ (all : IsLineIn t s). is (all number leaf names has)

-- ---- the solids of a tree

pub order_stands : (t : Tree) (from : ℕ) (solids : List Placed) → AreInOrder t from solids → All (StandsIn t) solids
order_stands t from [] o = All-nil (StandsIn t)
order_stands t from (s ∷ solids) o = All-cons (StandsIn t) s solids o.1 (order_stands t s.at.event solids o.2)

-- after an event where it opens a box, else before it
abbrev end_at : List Event → ℕ → ℕ
end_at es k = end_by (slice_get es k) k

end_low : (o : Option Event) (k : ℕ) → k ≤ end_by o k
end_low None k = omega arith
end_low (Some (Opens b)) k = omega arith
end_low (Some (Closes b)) k = omega arith
end_low (Some (Leaf l)) k = omega arith

end_high : (o : Option Event) (k : ℕ) → end_by o k ≤ suc k
end_high None k = omega arith
end_high (Some (Opens b)) k = omega arith
end_high (Some (Closes b)) k = omega arith
end_high (Some (Leaf l)) k = omega arith

end_rises : (es : List Event) (j k : ℕ) → j ≤ k → end_at es j ≤ end_at es k
end_rises es j k low = by (cases_order j k)
  where
    by : (j ≡ k) ⊎ ((j < k) ⊎ (k < j)) → end_at es j ≤ end_at es k
    by (inl same) = subst (λ n. end_at es j ≤ end_at es n) same (omega arith)
    by (inr (inl less)) = let high = end_high (slice_get es j) j in let least = end_low (slice_get es k) k in omega arith
    by (inr (inr more)) = absurd (omega arith)

-- the solids from a place on are in order, and one hasn't gone past them
pub record IsReady (t : Tree) (solids : List Placed) (i event : ℕ) : Type 0 where
  pub from : ℕ
  pub reached : event ≤ end_by (slice_get t.events from) from
  pub order : AreInOrder t from (drop i solids)

pub ready_first : (t : Tree) (solids : List Placed) (event : ℕ) → AreInOrder t 0 solids → event ≡ first_event solids → IsReady t solids 0 event
ready_first t [] event o is = record { from = 0; reached = (let low = end_low (slice_get t.events 0) 0 in omega arith); order = tt }
ready_first t (s ∷ solids) event o is = record { from = s.at.event; reached = (let low = end_low (slice_get t.events s.at.event) s.at.event in omega arith); order = (omega arith, o.1, o.2) }

pub first_within : (t : Tree) (solids : List Placed) → AreInOrder t 0 solids → first_event solids ≤ length t.events
first_within t [] o = omega arith
first_within t (s ∷ solids) o = let low = o.1.event in omega arith

next_in : (t : Tree) (solids : List Placed) (i event : ℕ) (d : Placed) → i < length solids → (r : IsReady t solids i event) → AreInOrder t r.from (get_or solids i d ∷ drop (suc i) solids)
next_in t solids i event d low r = subst (AreInOrder t r.from) (drop-cons solids i d low) r.order

pub ready_order : (t : Tree) (solids : List Placed) (i event : ℕ) (d : Placed) → i < length solids → IsReady t solids i event → event ≤ end_by (slice_get t.events (get_or solids i d).at.event) (get_or solids i d).at.event
ready_order t solids i event d low r =
    let next = next_in t solids i event d low r in
    let more = end_rises t.events r.from (get_or solids i d).at.event next.0 in
    let reached = r.reached in
    omega arith

pub ready_within : (t : Tree) (solids : List Placed) (i event : ℕ) (d : Placed) → i < length solids → IsReady t solids i event → (get_or solids i d).at.event < length t.events
ready_within t solids i event d low r = (next_in t solids i event d low r).1.event

pub ready_next : (t : Tree) (solids : List Placed) (i event to : ℕ) (d : Placed) → i < length solids → IsReady t solids i event → to ≡ end_by (slice_get t.events (get_or solids i d).at.event) (get_or solids i d).at.event → IsReady t solids (i + 1) to
ready_next t solids i event to d low r is =
    let one : suc i ≡ i + 1 = omega arith in
    record {
      from = (get_or solids i d).at.event;
      reached = omega arith;
      order = subst (λ (n : ℕ). AreInOrder t (get_or solids i d).at.event (drop n solids)) one (next_in t solids i event d low r).2;
    }

-- ---- the solids of notes

notes_take : (notes : List Note) (note from i : ℕ) (placed : List (ℕ × Placed)) → AreNotesInOrder notes note from placed → AreNotesInOrder notes note from (take i placed)
notes_take notes note from zero placed o = tt
notes_take notes note from (suc i) [] o = tt
notes_take notes note from (suc i) (p ∷ placed) o = (o.0, o.1, o.2, notes_take notes p.0 p.1.at.event i placed o.3)

none_before : (notes : List Note) (note from n : ℕ) (placed : List (ℕ × Placed)) → n < note → AreNotesInOrder notes note from placed → solids_of n placed ≡ []
none_before notes note from n [] low o = refl
none_before notes note from n ((m, s) ∷ placed) low o =
    let later = o.0 in
    ap (λ (b : Bool). cond b (s ∷ solids_of n placed) (solids_of n placed)) (ne_eqb m n (λ e. omega arith)) ∙ none_before notes m s.at.event n placed (omega arith) o.3

stands : (notes : List Note) (m n : ℕ) (note : Note) (s : Placed) → m ≡ n → slice_get notes n ≡ Some note → StandsInNote (slice_get notes m) s → StandsIn note.body s
stands notes m n note s same there is = subst (λ (o : Option Note). StandsInNote o s) (ap (slice_get notes) same ∙ there) is

same_order : (notes : List Note) (n from : ℕ) (note : Note) (placed : List (ℕ × Placed)) → slice_get notes n ≡ Some note → AreNotesInOrder notes n from placed → AreInOrder note.body from (solids_of n placed)
same_order notes n from note [] there o = tt
same_order notes n from note ((m, s) ∷ placed) there o = by (cases_eq m n) (λ same. same_order notes n s.at.event note placed there (subst (λ (k : ℕ). AreNotesInOrder notes k s.at.event placed) same o.3))
  where
    by : (m ≡ n) ⊎ (m ≡ n → ⊥) → (m ≡ n → AreInOrder note.body s.at.event (solids_of n placed)) → AreInOrder note.body from (solids_of n ((m, s) ∷ placed))
    by (inl same) rest =
        subst (λ (b : Bool). AreInOrder note.body from (cond b (s ∷ solids_of n placed) (solids_of n placed))) (sym (eq-eqb m n same))
        (o.1 (sym same), stands notes m n note s same there o.2, rest same)
    by (inr other) rest =
        let later = o.0 in
        subst (λ (b : Bool). AreInOrder note.body from (cond b (s ∷ solids_of n placed) (solids_of n placed))) (sym (ne_eqb m n other))
        (subst (AreInOrder note.body from) (sym (none_before notes m s.at.event n placed (omega arith) o.3)) tt)

later_order : (notes : List Note) (note from n : ℕ) (body : Note) (placed : List (ℕ × Placed)) → note < n → slice_get notes n ≡ Some body → AreNotesInOrder notes note from placed → AreInOrder body.body 0 (solids_of n placed)
later_order notes note from n body [] less there o = tt
later_order notes note from n body ((m, s) ∷ placed) less there o = by (cases_order m n) (λ lower. later_order notes m s.at.event n body placed lower there o.3)
  where
    other : (m ≡ n → ⊥) → AreInOrder body.body 0 (solids_of n placed) → AreInOrder body.body 0 (solids_of n ((m, s) ∷ placed))
    other differs rest = subst (λ (b : Bool). AreInOrder body.body 0 (cond b (s ∷ solids_of n placed) (solids_of n placed))) (sym (ne_eqb m n differs)) rest

    by : (m ≡ n) ⊎ ((m < n) ⊎ (n < m)) → (m < n → AreInOrder body.body 0 (solids_of n placed)) → AreInOrder body.body 0 (solids_of n ((m, s) ∷ placed))
    by (inl same) rest =
        subst (λ (b : Bool). AreInOrder body.body 0 (cond b (s ∷ solids_of n placed) (solids_of n placed))) (sym (eq-eqb m n same))
        (omega arith, stands notes m n body s same there o.2, same_order notes n s.at.event body placed there (subst (λ (k : ℕ). AreNotesInOrder notes k s.at.event placed) same o.3))
    by (inr (inl lower)) rest = other (λ e. omega arith) (rest lower)
    by (inr (inr higher)) rest = other (λ e. omega arith) (subst (AreInOrder body.body 0) (sym (none_before notes m s.at.event n placed higher o.3)) tt)

has_order : (notes : List Note) (n : ℕ) (placed : List (ℕ × Placed)) → AreNotesInOrder notes 0 0 placed → HasOrder notes n (solids_of n placed)
has_order notes zero placed o = λ note there. same_order notes 0 0 note placed there o
has_order notes (suc n) placed o = λ note there. later_order notes 0 0 (suc n) note placed (omega arith) there o

-- the solids of a note among the first ones
pub part_order : (notes : List Note) (n i : ℕ) (placed : List (ℕ × Placed)) (solids : List Placed) → AreNotesInOrder notes 0 0 placed → solids ≡ solids_of n (take i placed) → HasOrder notes n solids
part_order notes n i placed solids o is = subst (HasOrder notes n) (sym is) (has_order notes n (take i placed) (notes_take notes 0 0 i placed o))

-- the solids of notes from a place on are in order, from a note on
pub record AreLeft (notes : List Note) (placed : List (ℕ × Placed)) (i note : ℕ) : Type 0 where
  pub from : ℕ
  pub order : AreNotesInOrder notes note from (drop i placed)
  pub most : note ≤ length notes

pub left_first : (notes : List Note) (placed : List (ℕ × Placed)) → AreNotesInOrder notes 0 0 placed → AreLeft notes placed 0 0
left_first notes placed o = record { from = 0; order = o; most = omega arith }

note_next : (notes : List Note) (placed : List (ℕ × Placed)) (i note : ℕ) (d : ℕ × Placed) → i < length placed → (l : AreLeft notes placed i note) → AreNotesInOrder notes note l.from (get_or placed i d ∷ drop (suc i) placed)
note_next notes placed i note d low l = subst (AreNotesInOrder notes note l.from) (drop-cons placed i d low) l.order

pub left_later : (notes : List Note) (placed : List (ℕ × Placed)) (i note : ℕ) (d : ℕ × Placed) → i < length placed → AreLeft notes placed i note → note ≤ (get_or placed i d).0
left_later notes placed i note d low l = (note_next notes placed i note d low l).0

left_there : (notes : List Note) (placed : List (ℕ × Placed)) (i note : ℕ) (d : ℕ × Placed) → i < length placed → AreLeft notes placed i note → (get_or placed i d).0 < length notes
left_there notes placed i note d low l = by (slice_get notes (get_or placed i d).0) refl (note_next notes placed i note d low l).2
  where
    by : (o : Option Note) → slice_get notes (get_or placed i d).0 ≡ o → StandsInNote o (get_or placed i d).1 → (get_or placed i d).0 < length notes
    by None e is = absurd is
    by (Some note) e is = slice_get_within notes (get_or placed i d).0 note e

pub left_most : (notes : List Note) (placed : List (ℕ × Placed)) (i note : ℕ) (d : ℕ × Placed) → i < length placed → AreLeft notes placed i note → (get_or placed i d).0 ≤ length notes
left_most notes placed i note d low l = let there = left_there notes placed i note d low l in omega arith

pub left_next : (notes : List Note) (placed : List (ℕ × Placed)) (i note next : ℕ) (d : ℕ × Placed) → i < length placed → AreLeft notes placed i note → next ≡ (get_or placed i d).0 → AreLeft notes placed (i + 1) next
left_next notes placed i note next d low l is =
    let one : suc i ≡ i + 1 = omega arith in
    let there = left_there notes placed i note d low l in
    record {
      from = (get_or placed i d).1.at.event;
      order = subst (λ (k : ℕ). AreNotesInOrder notes next (get_or placed i d).1.at.event (drop k placed)) one (subst (λ (k : ℕ). AreNotesInOrder notes k (get_or placed i d).1.at.event (drop (suc i) placed)) (sym is) (note_next notes placed i note d low l).3);
      most = omega arith;
    }
