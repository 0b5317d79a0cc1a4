-- Pages that settled are pages of their flow: what stands on them is in the order of its trees.
use Rattle.std.proofs.Common.{◌≡◌, ◌<◌, ◌≤◌, ◌+◌, ◌==◌, ℕ, suc, Bool, true, false, cond, List, [], ◌∷◌, ◌++◌, Some, length, map, slice_get, refl, sym, subst, arith}
use Rattle.std.proofs.lemmas.List.Elements.{All-cons, All-head, All-nil, All-tail}
use Rattle.std.specs.List.{All}
use Rattle.boxes.specs.Tree.{Tree}
use Rattle.boxes.specs.declared.flow.Flow.{Flow}
use Rattle.boxes.specs.declared.flow.Note.{Note}
use Rattle.boxes.specs.declared.page.Page.{Page}
use Rattle.boxes.specs.declared.page.Placed.{Placed}
use Rattle.boxes.specs.declared.place.Position.{Position}
use Rattle.cursor.proofs.RemLemmas.{solid_within}
use Rattle.note_list.specs.Calls.{start_place}
use Rattle.page_list.proofs.PlaceLemmas.{lines_there}
use Rattle.page_list.specs.Noted.{AreBodies, HoldsNotes, notes_of}
use Rattle.page_seq.specs.Owners.{solids_of}
use Rattle.page_list.specs.Parted.{AreNextSolids, HoldsAll, IsLineThere, IsNextSolid, IsPart}
use Rattle.page_list.specs.Parted.IsPart.{line, upper, lower}
use Rattle.paint.specs.Bounds.{IsBoundedPage}
use Rattle.paint.specs.Order.{AreInOrder, AreNotesInOrder, IsPageOf, StandsIn, StandsInNote}
use Rattle.seams.proofs.RunLemmas.{after_solid}

-- ---- the solids of a tree

order_lower : (t : Tree) (from low : ℕ) (solids : List Placed) → low ≤ from → AreInOrder t from solids → AreInOrder t low solids
order_lower t from low [] less o = tt
order_lower t from low (s ∷ solids) less o = let first = o.0 in (omega arith, o.1, o.2)

-- a solid ends no earlier than it begins
ends_later : (t : Tree) (p : Placed) → IsPart t p → p.at.event ≤ p.end.event
ends_later t p (line l) = subst (λ (e : Position). p.at.event ≤ e.event) (sym l.ends) (by (l.to == length l.leaf.text))
  where
    by : (b : Bool) → p.at.event ≤ (cond {A = Position} b (record { event = p.at.event + 1; offset = 0 }) (record { event = p.at.event; offset = l.to })).event
    by true = omega arith
    by false = omega arith
ends_later t p (upper b e w) = subst (λ (x : Position). p.at.event ≤ x.event) (sym w.ends) (omega arith)
ends_later t p (lower b e w) = subst (λ (x : Position). p.at.event ≤ x.event) (sym w.ends) (omega arith)

next_order : (t : Tree) (at : Position) (solids : List Placed) → AreNextSolids t at solids → All (IsLineThere t) solids → AreInOrder t at.event solids
next_order t at [] r lines = tt
next_order t at (p ∷ ps) r lines =
    let is : IsNextSolid t at p = r.1.0 in
    let low : at.event ≤ p.at.event = (after_solid t at.event p.at.event is.found).0 in
    let rest = next_order t r.0 ps r.2 (All-tail (IsLineThere t) p ps lines) in
    let later : p.at.event ≤ r.0.event = subst (λ (e : Position). p.at.event ≤ e.event) (sym r.1.1) (ends_later t p is.part) in
    let stands : StandsIn t p = record { event = solid_within t at.event p.at.event is.found; line = All-head (IsLineThere t) p ps lines } in
    (low, stands, order_lower t r.0.event p.at.event ps later rest)

-- all solids of a tree are in order, and their lines stand between two places
all_order : (t : Tree) (solids : List Placed) → HoldsAll t solids → AreInOrder t 0 solids
all_order t solids holds = next_order t start_place solids holds (lines_there t solids holds)

order_head : (t : Tree) (from : ℕ) (xs ys : List Placed) → AreInOrder t from (xs ++ ys) → AreInOrder t 0 xs
order_head t from [] ys o = tt
order_head t from (x ∷ xs) ys o = (omega arith, o.1, order_first t x.at.event xs ys o.2)
  where
    order_first : (u : Tree) (k : ℕ) (front back : List Placed) → AreInOrder u k (front ++ back) → AreInOrder u k front
    order_first u k [] back p = tt
    order_first u k (a ∷ front) back p = (p.0, p.1, order_first u a.at.event front back p.2)

order_tail : (t : Tree) (from : ℕ) (xs ys : List Placed) → AreInOrder t from (xs ++ ys) → AreInOrder t 0 ys
order_tail t from [] ys o = order_lower t from 0 ys (omega arith) o
order_tail t from (x ∷ xs) ys o = order_tail t x.at.event xs ys o.2

main_orders : (t : Tree) (pages : List Page) → AreInOrder t 0 (solids_of pages) → All (λ (p : Page). AreInOrder t 0 p.solids) pages
main_orders t [] o = All-nil (λ (p : Page). AreInOrder t 0 p.solids)
main_orders t (p ∷ pages) o = All-cons (λ (q : Page). AreInOrder t 0 q.solids) p pages (order_head t 0 p.solids (solids_of pages) o) (main_orders t pages (order_tail t 0 p.solids (solids_of pages) o))

-- ---- the solids of notes

notes_lower : (all : List Note) (note from low : ℕ) (placed : List (ℕ × Placed)) → low < note → AreNotesInOrder all note 0 placed → AreNotesInOrder all low from placed
notes_lower all note from low [] less o = tt
notes_lower all note from low ((n, s) ∷ placed) less o = let first = o.0 in (omega arith, (λ e. absurd (omega arith)), o.2, o.3)

notes_any : (all : List Note) (note from : ℕ) (placed : List (ℕ × Placed)) → AreNotesInOrder all note from placed → AreNotesInOrder all 0 0 placed
notes_any all note from [] o = tt
notes_any all note from ((n, s) ∷ placed) o = (omega arith, (λ e. omega arith), o.2, o.3)

bodies_order : (all : List Note) (k : ℕ) (notes : List Note) (list : List (ℕ × Placed)) → ((j : ℕ) (note : Note) → slice_get notes j ≡ Some note → slice_get all (k + j) ≡ Some note) → AreBodies k notes list → AreNotesInOrder all k 0 list
bodies_order all k [] list there b = subst (AreNotesInOrder all k 0) (sym b) tt
bodies_order all k (note ∷ notes) list there (solids, holds, rest, more, is) =
    let later = bodies_order all (suc k) notes rest (λ j n e. let same : k + suc j ≡ suc k + j = omega arith in subst (λ (m : ℕ). slice_get all m ≡ Some n) same (there (suc j) n e)) more in
    subst (AreNotesInOrder all k 0) (sym is) (joined later solids 0 (all_order note.body solids holds))
  where
    here : slice_get all k ≡ Some note
    here = let same : k + 0 ≡ k = omega arith in subst (λ (n : ℕ). slice_get all n ≡ Some note) same (there 0 note refl)

    joined : AreNotesInOrder all (suc k) 0 rest → (ps : List Placed) (from : ℕ) → AreInOrder note.body from ps → AreNotesInOrder all k from (map (λ s. (k, s)) ps ++ rest)
    joined later [] from o = notes_lower all (suc k) from k rest (omega arith) later
    joined later (s ∷ ps) from o = (omega arith, (λ e. o.0), subst (λ n. StandsInNote n s) (sym here) o.1, joined later ps s.at.event o.2)

notes_head : (all : List Note) (note from : ℕ) (xs ys : List (ℕ × Placed)) → AreNotesInOrder all note from (xs ++ ys) → AreNotesInOrder all note from xs
notes_head all note from [] ys o = tt
notes_head all note from ((n, s) ∷ xs) ys o = (o.0, o.1, o.2, notes_head all n s.at.event xs ys o.3)

notes_tail : (all : List Note) (note from : ℕ) (xs ys : List (ℕ × Placed)) → AreNotesInOrder all note from (xs ++ ys) → AreNotesInOrder all 0 0 ys
notes_tail all note from [] ys o = notes_any all note from ys o
notes_tail all note from ((n, s) ∷ xs) ys o = notes_tail all n s.at.event xs ys o.3

note_orders : (all : List Note) (pages : List Page) → AreNotesInOrder all 0 0 (notes_of pages) → All (λ (p : Page). AreNotesInOrder all 0 0 p.notes) pages
note_orders all [] o = All-nil (λ (p : Page). AreNotesInOrder all 0 0 p.notes)
note_orders all (p ∷ pages) o = All-cons (λ (q : Page). AreNotesInOrder all 0 0 q.notes) p pages (notes_head all 0 0 p.notes (notes_of pages) o) (note_orders all pages (notes_tail all 0 0 p.notes (notes_of pages) o))

-- pages within bounds that hold the main tree and the notes of a flow are pages of it
pub pages_of_flow : (flow : Flow) (pages : List Page) → All IsBoundedPage pages → HoldsAll flow.main (solids_of pages) → HoldsNotes flow pages → All (IsPageOf flow) pages
pages_of_flow flow pages bounded main notes =
    let first = main_orders flow.main pages (all_order flow.main (solids_of pages) main) in
    let second = note_orders flow.notes pages (bodies_order flow.notes 0 flow.notes (notes_of pages) (λ j note e. let same : j ≡ 0 + j = omega arith in subst (λ (m : ℕ). slice_get flow.notes m ≡ Some note) same e) notes) in
    λ k d low. record { bounded = bounded k d low; solids = first k d low; notes = second k d low }
