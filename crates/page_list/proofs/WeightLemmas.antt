-- How much of its notes a page list carries: their edges and characters, of which each note solid takes one.
use Rattle.std.proofs.Common.{◌≡◌, ◌≤◌, ◌+◌, ◌-◌, ℕ, zero, suc, ℤ, List, [], ◌∷◌, ◌++◌, Option, None, Some, length, map, drop, slice_get, sym, ap, ◌∙◌, subst, arith}
use Rattle.std.proofs.lemmas.List.Sums.{sum_by-cons}
use Rattle.std.proofs.lemmas.Option.{get_or_from_slice_get, slice_get_within}
use Rattle.std.proofs.Math.Seq.{drop-nil}
use Rattle.std.specs.List.{range_with_len, sum_by}
use Rattle.metrics.specs.Face.{FontFace}
use Rattle.boxes.specs.Tree.{Tree}
use Rattle.boxes.specs.declared.flow.Flow.{Flow}
use Rattle.boxes.specs.declared.flow.Note.{Note}
use Rattle.boxes.specs.declared.place.Position.{Position}
use Rattle.cursor.specs.Remainder.{SolidView, IsSolid, IsRemainder}
use Rattle.cursor.proofs.RemLemmas.{Stands, solid_stands}
use Rattle.note_list.specs.Lists.{NotePart, AreNoted, carried_parts, called_parts, left_after, left_of, noted}
use Rattle.note_list.specs.declared.carried.Carried.{Carried}
use Rattle.note_list.specs.declared.solid.NotedSolid.{NotedSolid}
use Rattle.page_list.specs.Bounds.{HasTexts, HaveTexts, parts_in}
use Rattle.page_list.proofs.CarriedLemmas.{AreTrees, Rise, called_part, noted_within, skip_none, skip_own}
use Rattle.page_list.proofs.RestLemmas.{IsAtChar, begin_at_char, left_later, passed_low, rest_at, solid_takes}

-- the body of each note has texts
abbrev pub AreTexts : List Note → Type 0
AreTexts notes = (n : ℕ) (note : Note) → slice_get notes n ≡ Some note → HaveTexts note.body

pub are_texts : (flow : Flow) → HasTexts flow → AreTexts flow.notes
are_texts flow texts n note e =
    subst (λ (x : Note). HaveTexts x.body) (get_or_from_slice_get flow.notes n note note e) (texts.notes n note (slice_get_within flow.notes n note e))

-- ---- the edges and characters of some parts of notes
abbrev pub rest_by : Option Note → Position → ℕ
rest_by None at = 0
rest_by (Some note) at = rest_at note.body at

abbrev pub weight : List Note → List NotePart → ℕ
weight notes [] = 0
weight notes (p ∷ parts) = rest_by (slice_get notes p.note) p.at + weight notes parts

-- each part goes on at a character
abbrev pub AtChars : List Note → List NotePart → Type 0
AtChars notes [] = 0 ≤ 0
AtChars notes (p ∷ parts) = ((note : Note) → slice_get notes p.note ≡ Some note → IsAtChar note.body p.at) × AtChars notes parts

pub chars_append : (notes : List Note) (ps qs : List NotePart) → AtChars notes ps → AtChars notes qs → AtChars notes (ps ++ qs)
chars_append notes [] qs a b = b
chars_append notes (p ∷ ps) qs a b = (a.0, chars_append notes ps qs a.1 b)

pub chars_called : (notes : List Note) → AreTexts notes → (from to : ℕ) → AtChars notes (called_parts from to)
chars_called notes texts from to = range from (to - from)
  where
    range : (n count : ℕ) → AtChars notes (map called_part (range_with_len n count))
    range n zero = omega arith
    range n (suc count) = ((λ note has. begin_at_char note.body 0 (texts n note has)), range (n + 1) count)

-- ---- all that the notes have
abbrev pub total : List Note → ℕ
total notes = sum_by (λ n. parts_in n.body) notes

total_here : (notes : List Note) (k : ℕ) (note : Note) → slice_get notes k ≡ Some note → total (drop k notes) ≡ parts_in note.body + total (drop (suc k) notes)
total_here [] k note e = absurd (cc)
total_here (x ∷ notes) zero note e = let same : x ≡ note = cc in sum_by-cons (λ (n : Note). parts_in n.body) x notes ∙ ap (λ (y : Note). parts_in y.body + total notes) same
total_here (x ∷ notes) (suc k) note e = total_here notes k note e

total_later : (notes : List Note) (j k : ℕ) → j ≤ k → total (drop k notes) ≤ total (drop j notes)
total_later notes zero zero h = omega arith
total_later [] zero (suc k) h = omega arith
total_later (x ∷ notes) zero (suc k) h =
    let more = total_later notes 0 k (omega arith) in
    let here = sum_by-cons (λ (n : Note). parts_in n.body) x notes in
    omega arith
total_later notes (suc j) zero h = absurd (omega arith)
total_later [] (suc j) (suc k) h = omega arith
total_later (x ∷ notes) (suc j) (suc k) h = total_later notes j k (omega arith)

-- notes that ascend have no more than all
pub weight_all : (notes : List Note) (low high : ℕ) (parts : List NotePart) → Rise notes low high parts → weight notes parts ≤ total (drop low notes)
weight_all notes low high [] up = omega arith
weight_all notes low high (p ∷ parts) up =
    let own = up.1 in
    let more = weight_all notes (suc p.note) high parts up.2 in
    let here : rest_by (slice_get notes p.note) p.at ≡ rest_at own.note.body p.at = ap (λ (o : Option Note). rest_by o p.at) own.has in
    let body = left_later own.note.body 0 p.at.event (omega arith) in
    let sum = total_here notes p.note own.note own.has in
    let later = total_later notes low p.note up.0 in
    omega arith

-- ---- what one solid takes of its body
record Falls (t : Tree) (from : Position) (s : SolidView) : Type 0 where
  end : Stands t s.end
  end_char : IsAtChar t s.end
  at_char : IsAtChar t s.placed_at
  less : suc (rest_at t s.end) ≤ rest_at t from
  here : rest_at t s.placed_at ≤ rest_at t from

-- what is carried has less than some parts, by a number of solids
pub record IsLighter (notes : List Note) (most n : ℕ) (carried : List Carried) : Type 0 where
  pub chars : AtChars notes (carried_parts carried)
  pub less : weight notes (carried_parts carried) + n ≤ most

module _ (faces : List FontFace) (notes : List Note) (w : ℤ) (trees : AreTrees notes) (texts : AreTexts notes) where
  falls : (n : ℕ) (note : Note) → slice_get notes n ≡ Some note → (at : Position) (s : SolidView) → Stands note.body at → IsAtChar note.body at → IsSolid faces note.body w at s → Falls note.body at s
  falls n note has at s st char is =
      let a = solid_takes faces note.body w at s (trees n note has) (texts n note has) st char is in
      let end = solid_stands faces note.body w at s (trees n note has) st is in
      let low = passed_low note.body at st in
      let low_end = passed_low note.body s.end end in
      let b = a.takes in
      let c = a.later in
      record { end = end; end_char = a.at_char; at_char = a.placed; less = omega arith; here = omega arith }

  own_lighter : (p : NotePart) (note : Note) → slice_get notes p.note ≡ Some note → (more : List NotedSolid) → left_after (Some p.note) more ≡ left_of more → (most : ℕ) → ((n : ℕ) → n ≤ length more → IsLighter notes most n (left_of (drop n more))) →
      (at : Position) (solids : List SolidView) (n : ℕ) → Stands note.body at → IsAtChar note.body at → IsRemainder faces note.body w at solids → n ≤ length (map (noted note.body p) solids ++ more) →
      IsLighter notes (rest_at note.body at + most) n (left_of (drop n (map (noted note.body p) solids ++ more)))
  own_lighter p note has more other most light at [] n st char r h =
      let l = light n h in
      let less = l.less in
      record { chars = l.chars; less = omega arith }
  own_lighter p note has more other most light at (s ∷ solids) (suc n) st char r h =
      let f = falls p.note note has at s st char r.1.0 in
      let there = subst (Stands note.body) (sym r.1.1) f.end in
      let char_there = subst (IsAtChar note.body) (sym r.1.1) f.end_char in
      let l = subst (λ (q : Position). IsLighter notes (rest_at note.body q + most) n (left_of (drop n (map (noted note.body p) solids ++ more)))) r.1.1 (own_lighter p note has more other most light r.0 solids n there char_there r.2 (omega arith)) in
      let less = l.less in
      let fall = f.less in
      record { chars = l.chars; less = omega arith }
  own_lighter p note has more other most light at (s ∷ solids) zero st char r h =
      let f = falls p.note note has at s st char r.1.0 in
      let l = light 0 (omega arith) in
      let less = l.less in
      let here = f.here in
      let same : rest_by (slice_get notes p.note) s.placed_at ≡ rest_at note.body s.placed_at = ap (λ (o : Option Note). rest_by o s.placed_at) has in
      subst (λ (cs : List Carried). IsLighter notes (rest_at note.body at + most) 0 (record { note = p.note; at = s.placed_at } ∷ cs)) (sym (skip_own faces notes w note.body p solids more ∙ other)) (record {
        chars = ((λ other_note other_has. let e : Some note ≡ Some other_note = sym has ∙ other_has in let one : note ≡ other_note = cc in subst (λ (x : Note). IsAtChar x.body s.placed_at) one f.at_char), l.chars);
        less = omega arith;
      })

  -- what a list leaves after some of its solids
  pub left_lighter : (low high : ℕ) (parts : List NotePart) (list : List NotedSolid) → Rise notes low high parts → AtChars notes parts → AreNoted faces notes w parts list → (n : ℕ) → n ≤ length list → IsLighter notes (weight notes parts) n (left_of (drop n list))
  left_lighter low high [] list up chars are n h =
      let few : n ≤ length {A = NotedSolid} [] = subst (λ (l : List NotedSolid). n ≤ length l) are h in
      subst (λ (l : List NotedSolid). IsLighter notes 0 n (left_of (drop n l))) (sym are)
      (subst (λ (l : List NotedSolid). IsLighter notes 0 n (left_of l)) (sym (drop-nil n)) (record { chars = omega arith; less = omega arith }))
  left_lighter low high (p ∷ parts) list up chars (note, has, solids, rem, rest, more, is) n h =
      let own = up.1 in
      let same : own.note ≡ note = (let e : Some own.note ≡ Some note = sym own.has ∙ has in cc) in
      let st : Stands note.body p.at = subst (λ (x : Note). Stands x.body p.at) same own.stands in
      let other = skip_none faces notes w p.note (suc p.note) high rest (omega arith) (noted_within faces notes w (suc p.note) high parts rest up.2 more) in
      let here : rest_at note.body p.at ≡ rest_by (slice_get notes p.note) p.at = sym (ap (λ (o : Option Note). rest_by o p.at) has) in
      let few : n ≤ length (map (noted note.body p) solids ++ rest) = subst (λ (l : List NotedSolid). n ≤ length l) is h in
      subst (λ (l : List NotedSolid). IsLighter notes (weight notes (p ∷ parts)) n (left_of (drop n l))) (sym is)
      (subst (λ (m : ℕ). IsLighter notes (m + weight notes parts) n (left_of (drop n (map (noted note.body p) solids ++ rest)))) here
      (own_lighter p note has rest other (weight notes parts) (left_lighter (suc p.note) high parts rest up.2 chars.1 more) p.at solids n st (chars.0 note has) rem few))
