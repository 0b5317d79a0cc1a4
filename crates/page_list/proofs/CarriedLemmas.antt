-- What is carried from page to page: notes in order, each from a solid of its body on.
use Rattle.std.proofs.Common.{◌≡◌, ◌<◌, ◌≤◌, ◌+◌, ◌-◌, ℕ, zero, suc, ℤ, Bool, true, cond, All, List, [], ◌∷◌, ◌++◌, Some, length, map, drop, slice_get, refl, sym, ap, ◌∙◌, subst, arith}
use Rattle.std.proofs.lemmas.Bool.{eq-eqb, ne_eqb}
use Rattle.std.proofs.lemmas.List.Elements.{All-nil, All-cons, All-append, All-map}
use Rattle.std.proofs.lemmas.Option.{get_or_from_slice_get, slice_get_within}
use Rattle.std.proofs.Math.Seq.{drop-nil}
use Rattle.std.specs.List.{range_with_len}
use Rattle.metrics.specs.Face.{FontFace}
use Rattle.boxes.specs.Tree.{Tree, IsTree}
use Rattle.boxes.specs.declared.flow.Note.{Note}
use Rattle.boxes.specs.declared.place.Position.{Position}
use Rattle.boxes.proofs.ListLemmas.{slice_get_at}
use Rattle.cursor.specs.Remainder.{SolidView, IsRemainder}
use Rattle.cursor.proofs.RemLemmas.{Stands, place_stands, solid_stands}
use Rattle.note_list.specs.Calls.{start_place}
use Rattle.note_list.specs.Conditions.{CanBeCut, IsAtSolid}
use Rattle.note_list.specs.Lists.{NotePart, AreNoted, carried_parts, called_parts, left_after, left_of, noted}
use Rattle.note_list.specs.declared.carried.Carried.{Carried}
use Rattle.note_list.specs.declared.solid.NotedSolid.{NotedSolid}
use Rattle.page_list.proofs.NextLemmas.{here, start_stands}

-- a part is of a note, and goes on at a place of its body
pub record HasNote (notes : List Note) (p : NotePart) : Type 0 where
  pub note : Note
  pub has : slice_get notes p.note ≡ Some note
  pub stands : Stands note.body p.at

-- parts of notes whose numbers ascend from one on, up to another
abbrev pub Rise : List Note → ℕ → ℕ → List NotePart → Type 0
Rise notes low high [] = low ≤ high
Rise notes low high (p ∷ parts) = (low ≤ p.note) × HasNote notes p × Rise notes (suc p.note) high parts

-- what is carried ascends so, and goes on at solids
pub record Kept (notes : List Note) (low high : ℕ) (carried : List Carried) : Type 0 where
  pub rise : Rise notes low high (carried_parts carried)
  pub solids : All (IsAtSolid notes) carried

-- each body is a tree
abbrev pub AreTrees : List Note → Type 0
AreTrees notes = (n : ℕ) (note : Note) → slice_get notes n ≡ Some note → IsTree note.body

pub are_trees : (faces : List FontFace) (notes : List Note) → All (λ n. CanBeCut faces n.body) notes → AreTrees notes
are_trees faces notes all n note e =
    let c = all n note (slice_get_within notes n note e) in
    subst (λ (x : Note). IsTree x.body) (get_or_from_slice_get notes n note note e) c.is

-- ---- numbers that ascend
pub rise_within : (notes : List Note) (low high : ℕ) (parts : List NotePart) → Rise notes low high parts → low ≤ high
rise_within notes low high [] up = up
rise_within notes low high (p ∷ parts) up = let r = rise_within notes (suc p.note) high parts up.2 in let l = up.0 in omega arith

pub rise_lower : (notes : List Note) (less low high : ℕ) (parts : List NotePart) → less ≤ low → Rise notes low high parts → Rise notes less high parts
rise_lower notes less low high [] h up = omega arith
rise_lower notes less low high (p ∷ parts) h up = (let l = up.0 in omega arith, up.1, up.2)

pub rise_append : (notes : List Note) (low mid high : ℕ) (ps qs : List NotePart) → Rise notes low mid ps → Rise notes mid high qs → Rise notes low high (ps ++ qs)
rise_append notes low mid high [] qs up more = rise_lower notes low mid high qs up more
rise_append notes low mid high (p ∷ ps) qs up more = (up.0, up.1, rise_append notes (suc p.note) mid high ps qs up.2 more)

abbrev pub called_part : ℕ → NotePart
called_part n = record { note = n; at = start_place; called = true }

rise_range : (notes : List Note) (from n : ℕ) → from + n ≤ length notes → Rise notes from (from + n) (map called_part (range_with_len from n))
rise_range notes from zero h = omega arith
rise_range notes from (suc n) h =
    let there = slice_get_at notes from (omega arith) in
    let one : from + 1 ≡ suc from = omega arith in
    let all : suc from + n ≡ from + suc n = omega arith in (
      omega arith,
      record { note = there.0; has = there.1; stands = start_stands there.0.body },
      subst (λ (k : ℕ). Rise notes (suc from) (from + suc n) (map called_part (range_with_len k n))) (sym one)
          (subst (λ (k : ℕ). Rise notes (suc from) k (map called_part (range_with_len (suc from) n))) all (rise_range notes (suc from) n (omega arith))),
    )

-- the notes that are called on a page
pub rise_called : (notes : List Note) (from to : ℕ) → from ≤ to → to ≤ length notes → Rise notes from to (called_parts from to)
rise_called notes from to h within =
    let n : from + (to - from) ≡ to = omega arith in
    subst (λ (k : ℕ). Rise notes from k (called_parts from to)) n (rise_range notes from (to - from) (omega arith))

module _ (faces : List FontFace) (notes : List Note) (w : ℤ) where
  -- ---- the numbers of a list
  abbrev IsIn : ℕ → ℕ → NotedSolid → Type 0
  IsIn low high s = (low ≤ s.note) × (s.note < high)

  pub noted_within : (low high : ℕ) (parts : List NotePart) (list : List NotedSolid) → Rise notes low high parts → AreNoted faces notes w parts list → All (IsIn low high) list
  noted_within low high [] list up are = subst (All (IsIn low high)) (sym are) (All-nil (IsIn low high))
  noted_within low high (p ∷ parts) list up (note, has, solids, rem, rest, more, is) =
      let l = up.0 in
      let r = rise_within notes (suc p.note) high parts up.2 in
      let first : All (IsIn low high) (map (noted note.body p) solids) = All-map (IsIn low high) (noted note.body p) solids (λ k d h. (l, r)) in
      let later : All (IsIn low high) rest = λ k d h. let x = noted_within (suc p.note) high parts rest up.2 more k d h in let y = x.0 in (omega arith, x.1) in
      subst (All (IsIn low high)) (sym is) (All-append (IsIn low high) (map (noted note.body p) solids) rest first later)

  -- ---- what is left after a solid of a note
  -- the other solids of the note are not carried once more
  pub skip_own : (body : Tree) (p : NotePart) (solids : List SolidView) (more : List NotedSolid) → left_after (Some p.note) (map (noted body p) solids ++ more) ≡ left_after (Some p.note) more
  skip_own body p [] more = refl
  skip_own body p (s ∷ solids) more =
      ap (λ (b : Bool). cond b (left_after (Some p.note) (map (noted body p) solids ++ more)) (record { note = p.note; at = s.placed_at } ∷ left_after (Some p.note) (map (noted body p) solids ++ more))) (eq-eqb p.note p.note refl)
      ∙ skip_own body p solids more

  -- and the list of later notes is carried as it is
  pub skip_none : (last low high : ℕ) (list : List NotedSolid) → last < low → All (IsIn low high) list → left_after (Some last) list ≡ left_of list
  skip_none last low high [] h all = refl
  skip_none last low high (s ∷ list) h all =
      let l = (all 0 s (omega arith)).0 in
      ap (λ (b : Bool). cond b (left_after (Some s.note) list) (record { note = s.note; at = s.at } ∷ left_after (Some s.note) list)) (ne_eqb last s.note (λ e. omega arith))

  -- ---- what a page carries on
  kept_lower : (less low high : ℕ) (carried : List Carried) → less ≤ low → Kept notes low high carried → Kept notes less high carried
  kept_lower less low high carried h k = record { rise = rise_lower notes less low high (carried_parts carried) h k.rise; solids = k.solids }

  module _ (trees : AreTrees notes) where
    own_kept : (p : NotePart) (note : Note) → slice_get notes p.note ≡ Some note → (high : ℕ) (more : List NotedSolid) → left_after (Some p.note) more ≡ left_of more → ((n : ℕ) → Kept notes (suc p.note) high (left_of (drop n more))) →
        (at : Position) (solids : List SolidView) (n : ℕ) → Stands note.body at → IsRemainder faces note.body w at solids → Kept notes p.note high (left_of (drop n (map (noted note.body p) solids ++ more)))
    own_kept p note has high more other kept at [] n st r = kept_lower p.note (suc p.note) high (left_of (drop n more)) (omega arith) (kept n)
    own_kept p note has high more other kept at (s ∷ solids) (suc n) st r =
        own_kept p note has high more other kept r.0 solids n (subst (Stands note.body) (sym r.1.1) (solid_stands faces note.body w at s (trees p.note note has) st r.1.0)) r.2
    own_kept p note has high more other kept at (s ∷ solids) zero st r =
        subst (λ (cs : List Carried). Kept notes p.note high (record { note = p.note; at = s.placed_at } ∷ cs)) (sym (skip_own note.body p solids more ∙ other)) (record {
          rise = (omega arith, record { note = note; has = has; stands = place_stands faces note.body w at s (trees p.note note has) st r.1.0 }, (kept 0).rise);
          solids = All-cons (IsAtSolid notes) (record { note = p.note; at = s.placed_at }) (left_of more) (record { note = note; has = has; solid = here faces note.body w (trees p.note note has) at s r.1.0 }) (kept 0).solids;
        })

    pub left_kept : (low high : ℕ) (parts : List NotePart) (list : List NotedSolid) → Rise notes low high parts → AreNoted faces notes w parts list → (n : ℕ) → Kept notes low high (left_of (drop n list))
    left_kept low high [] list up are n =
        subst (λ (l : List NotedSolid). Kept notes low high (left_of (drop n l))) (sym are)
        (subst (λ (l : List NotedSolid). Kept notes low high (left_of l)) (sym (drop-nil n)) (record { rise = up; solids = All-nil (IsAtSolid notes) }))
    left_kept low high (p ∷ parts) list up (note, has, solids, rem, rest, more, is) n =
        let own = up.1 in
        let same : own.note ≡ note = (let e : Some own.note ≡ Some note = sym own.has ∙ has in cc) in
        let st : Stands note.body p.at = subst (λ (x : Note). Stands x.body p.at) same own.stands in
        let other = skip_none p.note (suc p.note) high rest (omega arith) (noted_within (suc p.note) high parts rest up.2 more) in
        subst (λ (l : List NotedSolid). Kept notes low high (left_of (drop n l))) (sym is)
        (kept_lower low p.note high (left_of (drop n (map (noted note.body p) solids ++ rest))) up.0
        (own_kept p note has high rest other (left_kept (suc p.note) high parts rest up.2 more) p.at solids n st rem))
