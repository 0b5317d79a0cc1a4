-- Lists of notes: they split and join with their parts, each has one, and later notes make them longer.
use Rattle.std.proofs.Common.{◌≡◌, ℕ, zero, suc, ◌+◌, ◌-◌, ◌<◌, ◌≤◌, ℤ, true, false, List, [], ◌∷◌, ◌++◌, Some, All, length, map, slice_get, refl, sym, ap, ◌∙◌, subst, arith}
use Rattle.std.specs.List.{range_with_len}
use Rattle.std.proofs.lemmas.List.{append_assoc}
use Rattle.std.proofs.lemmas.List.Elements.{All-cons, All-nil}
use Rattle.std.proofs.lemmas.Option.{same_Some}
use Rattle.bk_num.proofs.ListLemmas.{slice_get_at, all-get}
use Rattle.metrics.specs.Face.{FontFace}
use Rattle.boxes.specs.declared.flow.Note.{Note}
use Rattle.cursor.specs.Remainder.{SolidView, IsRemainder}
use Rattle.cursor.proofs.RemLemmas.{holds_start, remainder_exists, remainder_unique}
use Rattle.note_list.specs.Calls.{start_place}
use Rattle.note_list.specs.Conditions.{CanBeCut, IsHeld}
use Rattle.note_list.specs.Lists.{AreNoted, NotePart, called_parts, carried_parts, noted}
use Rattle.note_list.specs.declared.carried.Carried.{Carried}
use Rattle.note_list.specs.declared.solid.NotedSolid.{NotedSolid}

-- ---- parts

-- the lists of two runs of parts, joined
pub noted_join : (faces : List FontFace) (notes : List Note) (width : ℤ) (ps qs : List NotePart) (xs ys : List NotedSolid) → AreNoted faces notes width ps xs → AreNoted faces notes width qs ys → AreNoted faces notes width (ps ++ qs) (xs ++ ys)
noted_join faces notes width [] qs xs ys p q = subst (λ (zs : List NotedSolid). AreNoted faces notes width qs (zs ++ ys)) (sym p) q
noted_join faces notes width (p ∷ ps) qs xs ys r q =
    let rest = noted_join faces notes width ps qs r.4 ys r.5 q in
    (r.0, r.1, r.2, r.3, r.4 ++ ys, rest, ap (λ (zs : List NotedSolid). zs ++ ys) r.6 ∙ append_assoc (map (noted r.0.body p) r.2) r.4 ys)

-- the list of two runs of parts is that of the first and that of the second
pub noted_split : (faces : List FontFace) (notes : List Note) (width : ℤ) (ps qs : List NotePart) (list : List NotedSolid) → AreNoted faces notes width (ps ++ qs) list →
    (xs : List NotedSolid) × (ys : List NotedSolid) × AreNoted faces notes width ps xs × AreNoted faces notes width qs ys × (list ≡ xs ++ ys)
noted_split faces notes width [] qs list r = ([], list, refl, r, refl)
noted_split faces notes width (p ∷ ps) qs list r =
    let rest = noted_split faces notes width ps qs r.4 r.5 in (
      map (noted r.0.body p) r.2 ++ rest.0,
      rest.1,
      (r.0, r.1, r.2, r.3, rest.0, rest.2, refl),
      rest.3,
      r.6 ∙ ap (λ (zs : List NotedSolid). map (noted r.0.body p) r.2 ++ zs) rest.4 ∙ sym (append_assoc (map (noted r.0.body p) r.2) rest.0 rest.1),
    )

-- the list of one part
pub noted_one : (faces : List FontFace) (notes : List Note) (width : ℤ) (p : NotePart) (note : Note) (solids : List SolidView) → slice_get notes p.note ≡ Some note → IsRemainder faces note.body width p.at solids → AreNoted faces notes width (p ∷ []) (map (noted note.body p) solids)
noted_one faces notes width p note solids has rem = (note, has, solids, rem, [], refl, sym (append_none (map (noted note.body p) solids)))
  where
    append_none : (zs : List NotedSolid) → zs ++ [] ≡ zs
    append_none [] = refl
    append_none (z ∷ zs) = ap (λ (l : List NotedSolid). z ∷ l) (append_none zs)

-- parts have one list
pub noted_unique : (faces : List FontFace) (notes : List Note) (width : ℤ) (ps : List NotePart) (xs ys : List NotedSolid) → AreNoted faces notes width ps xs → AreNoted faces notes width ps ys → xs ≡ ys
noted_unique faces notes width [] xs ys p q = p ∙ sym q
noted_unique faces notes width (p ∷ ps) xs ys r q =
    let note : r.0 ≡ q.0 = same_Some _ _ (sym r.1 ∙ q.1) in
    let solids : r.2 ≡ q.2 = remainder_unique faces q.0.body width p.at r.2 q.2 (subst (λ (n : Note). IsRemainder faces n.body width p.at r.2) note r.3) q.3 in
    let rest : r.4 ≡ q.4 = noted_unique faces notes width ps r.4 q.4 r.5 q.5 in
    r.6 ∙ ap (λ (n : Note). map (noted n.body p) r.2 ++ r.4) note ∙ ap (λ (ss : List SolidView). map (noted q.0.body p) ss ++ r.4) solids ∙ ap (λ (zs : List NotedSolid). map (noted q.0.body p) q.2 ++ zs) rest ∙ sym q.6

-- a part begins at a place of its note's body
abbrev pub BeginsInNote : List Note → NotePart → Type 0
BeginsInNote notes p = IsHeld notes (record { note = p.note; at = p.at })

-- parts that begin at places of their notes' bodies have a list
pub noted_exists : (faces : List FontFace) (notes : List Note) (width : ℤ) (parts : List NotePart) → All (λ n. CanBeCut faces n.body) notes → All (BeginsInNote notes) parts → (list : List NotedSolid) × AreNoted faces notes width parts list
noted_exists faces notes width [] cut held = ([], refl)
noted_exists faces notes width (p ∷ parts) cut held =
    let own : BeginsInNote notes p = held 0 p (omega arith) in
    let tree : CanBeCut faces own.note.body = all-get (λ (n : Note). CanBeCut faces n.body) notes p.note own.note cut own.has in
    let solids = remainder_exists faces own.note.body width p.at tree.is own.holds in
    let rest = noted_exists faces notes width parts cut (λ k d low. held (suc k) d (omega arith)) in
    (map (noted own.note.body p) solids.0 ++ rest.0, (own.note, own.has, solids.0, solids.1, rest.0, rest.1, refl))

-- ---- what is carried, and what is called

pub carried_held : (notes : List Note) (carried : List Carried) → All (IsHeld notes) carried → All (BeginsInNote notes) (carried_parts carried)
carried_held notes [] held = All-nil (BeginsInNote notes)
carried_held notes (c ∷ carried) held =
    All-cons (BeginsInNote notes) (record { note = c.note; at = c.at; called = false }) (carried_parts carried) (held 0 c (omega arith)) (carried_held notes carried (λ k d low. held (suc k) d (omega arith)))

-- a note's body begins at its start
pub start_held : (notes : List Note) (n : ℕ) → n < length notes → IsHeld notes (record { note = n; at = start_place })
start_held notes n low =
    let there = slice_get_at notes n low in
    record { note = there.0; has = there.1; holds = holds_start there.0.body start_place (omega arith) refl }

abbrev pub called_of : ℕ → NotePart
called_of n = record { note = n; at = start_place; called = true }

numbers_held : (notes : List Note) (from count : ℕ) → from + count ≤ length notes → All (BeginsInNote notes) (map called_of (range_with_len from count))
numbers_held notes from zero low = All-nil (BeginsInNote notes)
numbers_held notes from (suc count) low =
    All-cons (BeginsInNote notes) (called_of from) (map called_of (range_with_len (from + 1) count)) (start_held notes from (omega arith)) (numbers_held notes (from + 1) count (omega arith))

pub called_held : (notes : List Note) (from to : ℕ) → to ≤ length notes → All (BeginsInNote notes) (called_parts from to)
called_held notes from to low = by (from - to) (to - from) refl refl
  where
    by : (more count : ℕ) → from - to ≡ more → to - from ≡ count → All (BeginsInNote notes) (map called_of (range_with_len from count))
    by more zero m c = All-nil (BeginsInNote notes)
    by more (suc count) m c = numbers_held notes from (suc count) (omega arith)

-- what is called up to a number and then up to a later one
numbers_more : (from a b : ℕ) → map called_of (range_with_len from (a + b)) ≡ map called_of (range_with_len from a) ++ map called_of (range_with_len (from + a) b)
numbers_more from zero b = let none : from ≡ from + 0 = omega arith in let all : 0 + b ≡ b = omega arith in ap (λ (k : ℕ). map called_of (range_with_len from k)) all ∙ ap (λ (k : ℕ). map called_of (range_with_len k b)) none
numbers_more from (suc a) b =
    let next : (from + 1) + a ≡ from + suc a = omega arith in
    let sum : suc a + b ≡ suc (a + b) = omega arith in
    rw (sum) (ap (λ (ps : List NotePart). called_of from ∷ ps) (numbers_more (from + 1) a b ∙ ap (λ (k : ℕ). map called_of (range_with_len (from + 1) a) ++ map called_of (range_with_len k b)) next))

pub called_join : (from middle to : ℕ) → from ≤ middle → middle ≤ to → called_parts from to ≡ called_parts from middle ++ called_parts middle to
called_join from middle to low high =
    let count : to - from ≡ (middle - from) + (to - middle) = omega arith in
    let next : from + (middle - from) ≡ middle = omega arith in
    ap (λ (k : ℕ). map called_of (range_with_len from k)) count ∙ numbers_more from (middle - from) (to - middle)
    ∙ ap (λ (k : ℕ). called_parts from middle ++ map called_of (range_with_len k (to - middle))) next

pub called_none : (from to : ℕ) → to ≤ from → called_parts from to ≡ []
called_none from to low = let none : to - from ≡ 0 = omega arith in ap (λ (k : ℕ). map called_of (range_with_len from k)) none

-- one more note is called
pub called_next : (from to : ℕ) → from ≤ to → called_parts from (to + 1) ≡ called_parts from to ++ record { note = to; at = start_place; called = true } ∷ []
called_next from to low =
    let one : (to + 1) - to ≡ 1 = omega arith in
    called_join from to (to + 1) low (omega arith) ∙ ap (λ (k : ℕ). called_parts from to ++ map called_of (range_with_len to k)) one

-- where more notes are called the list is longer
pub noted_longer : (faces : List FontFace) (notes : List Note) (width : ℤ) (parts : List NotePart) (from middle to : ℕ) (xs ys : List NotedSolid) → middle ≤ to → AreNoted faces notes width (parts ++ called_parts from middle) xs → AreNoted faces notes width (parts ++ called_parts from to) ys →
    (more : List NotedSolid) × (ys ≡ xs ++ more)
noted_longer faces notes width parts from middle to xs ys high p q = by (from - middle) refl
  where
    longer : (parts' more : List NotePart) → AreNoted faces notes width parts' xs → AreNoted faces notes width (parts' ++ more) ys → (more : List NotedSolid) × (ys ≡ xs ++ more)
    longer parts' more p q =
        let s = noted_split faces notes width parts' more ys q in
        (s.1, s.4 ∙ ap (λ (zs : List NotedSolid). zs ++ s.1) (noted_unique faces notes width parts' s.0 xs s.2 p))

    by : (d : ℕ) → from - middle ≡ d → (more : List NotedSolid) × (ys ≡ xs ++ more)
    by zero e =
        let parts_are : parts ++ called_parts from to ≡ (parts ++ called_parts from middle) ++ called_parts middle to = ap (λ (ps : List NotePart). parts ++ ps) (called_join from middle to (omega arith) high) ∙ sym (append_assoc parts (called_parts from middle) (called_parts middle to)) in
        longer (parts ++ called_parts from middle) (called_parts middle to) p (subst (λ (ps : List NotePart). AreNoted faces notes width ps ys) parts_are q)
    by (suc d) e =
        let none : called_parts from middle ≡ [] = called_none from middle (omega arith) in
        let all : parts ++ called_parts from to ≡ (parts ++ called_parts from middle) ++ called_parts from to = ap (λ (ps : List NotePart). ps ++ called_parts from to) (sym (append_none parts) ∙ ap (λ (ps : List NotePart). parts ++ ps) (sym none)) in
        longer (parts ++ called_parts from middle) (called_parts from to) p (subst (λ (ps : List NotePart). AreNoted faces notes width ps ys) all q)
      where
        append_none : (ps : List NotePart) → ps ++ [] ≡ ps
        append_none [] = refl
        append_none (x ∷ ps) = ap (λ (l : List NotePart). x ∷ l) (append_none ps)
