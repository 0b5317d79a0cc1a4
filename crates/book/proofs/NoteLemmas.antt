-- Over all pages the solids of each note have the text of its leaves.
use Rattle.std.proofs.Common.{◌≡◌, ◌∙◌, ◌<◌, ◌≢◌, ℕ, zero, suc, ◌+◌, Bool, true, false, cond, eqb, List, [], ◌∷◌, ◌++◌, Option, Some, map, slice_get, append-nil, refl, sym, ap, subst, arith}
use Rattle.std.specs.List.{All, flat_map}
use Rattle.std.proofs.lemmas.Bool.{eq-eqb, ne_eqb}
use Rattle.std.proofs.lemmas.Grind.{flat_map-append}
use Rattle.std.proofs.lemmas.Option.{get_or_from_slice_get, slice_get_within}
use Rattle.boxes.specs.Tree.{IsTree}
use Rattle.boxes.specs.declared.flow.Flow.{Flow}
use Rattle.boxes.specs.declared.flow.Note.{Note}
use Rattle.boxes.specs.declared.page.Page.{Page}
use Rattle.boxes.specs.declared.page.Placed.{Placed}
use Rattle.page_list.specs.Noted.{AreBodies, HoldsNotes, notes_of}
use Rattle.page_list.specs.Parted.{HoldsAll}
use Rattle.paint.specs.Items.{for_some}
use Rattle.paint.specs.Pages.{solids_of}
use Rattle.paint.specs.Printed.{event_text, note_text, solids_text}
use Rattle.book.specs.Keeps.{HoldsNoteTexts}
use Rattle.book.proofs.TextLemmas.{tree_text}

-- the solids of a note among more
solids-append : (n : ℕ) (xs ys : List (ℕ × Placed)) → solids_of n (xs ++ ys) ≡ solids_of n xs ++ solids_of n ys
solids-append n [] ys = refl
solids-append n ((m, s) ∷ xs) ys = by (eqb m n) (solids-append n xs ys)
  where
    by : (b : Bool) → solids_of n (xs ++ ys) ≡ solids_of n xs ++ solids_of n ys → cond b (s ∷ solids_of n (xs ++ ys)) (solids_of n (xs ++ ys)) ≡ cond b (s ∷ solids_of n xs) (solids_of n xs) ++ solids_of n ys
    by true e = ap (λ (l : List Placed). s ∷ l) e
    by false e = e

own-solids : (k : ℕ) (solids : List Placed) → solids_of k (map (λ s. (k, s)) solids) ≡ solids
own-solids k [] = refl
own-solids k (s ∷ solids) =
    ap (λ (b : Bool). cond b (s ∷ solids_of k (map (λ x. (k, x)) solids)) (solids_of k (map (λ x. (k, x)) solids))) (eq-eqb k k refl)
    ∙ ap (λ (l : List Placed). s ∷ l) (own-solids k solids)

other-solids : (k n : ℕ) → k ≢ n → (solids : List Placed) → solids_of n (map (λ s. (k, s)) solids) ≡ []
other-solids k n ne [] = refl
other-solids k n ne (s ∷ solids) =
    ap (λ (b : Bool). cond b (s ∷ solids_of n (map (λ x. (k, x)) solids)) (solids_of n (map (λ x. (k, x)) solids))) (ne_eqb k n ne)
    ∙ other-solids k n ne solids

-- ---- which solids are a note's

none-before : (j : ℕ) (notes : List Note) (list : List (ℕ × Placed)) → AreBodies j notes list → (n : ℕ) → n < j → solids_of n list ≡ []
none-before j [] list is n low = ap (solids_of n) is
none-before j (note ∷ notes) list (solids, holds, rest, more, is) n low =
    ap (solids_of n) is
    ∙ solids-append n (map (λ s. (j, s)) solids) rest
    ∙ ap (λ (l : List Placed). l ++ solids_of n rest) (other-solids j n (λ e. omega (arith, low, e)) solids)
    ∙ none-before (suc j) notes rest more n (omega (arith, low))

body-at : (j : ℕ) (notes : List Note) (list : List (ℕ × Placed)) → AreBodies j notes list → (i n : ℕ) (note : Note) → j + i ≡ n → slice_get notes i ≡ Some note → HoldsAll note.body (solids_of n list)
body-at j [] list holds i n note e at = cc
body-at j (x ∷ notes) list (solids, holds, rest, more, is) zero n note e at =
    let same : x ≡ note = cc in
    let here : j ≡ n = omega (arith, e) in
    let none = none-before (suc j) notes rest more n (omega (arith, e)) in
    let own : solids_of n (map (λ s. (j, s)) solids) ≡ solids = subst (λ (m : ℕ). solids_of m (map (λ s. (j, s)) solids) ≡ solids) here (own-solids j solids) in
    let all : solids_of n list ≡ solids =
    ap (solids_of n) is
    ∙ solids-append n (map (λ s. (j, s)) solids) rest
    ∙ ap (λ (l : List Placed). l ++ solids_of n rest) own
    ∙ ap (λ (l : List Placed). solids ++ l) none
    ∙ append-nil solids in
    subst (λ (l : List Placed). HoldsAll note.body l) (sym all) (subst (λ (y : Note). HoldsAll y.body solids) same holds)
body-at j (x ∷ notes) list (solids, holds, rest, more, is) (suc i) n note e at =
    let later : solids_of n list ≡ solids_of n rest =
    ap (solids_of n) is
    ∙ solids-append n (map (λ s. (j, s)) solids) rest
    ∙ ap (λ (l : List Placed). l ++ solids_of n rest) (other-solids j n (λ h. omega (arith, e, h)) solids) in
    subst (λ (l : List Placed). HoldsAll note.body l) (sym later) (body-at (suc j) notes rest more i n note (omega (arith, e)) at)

-- ---- their text

pages-text : (all : List Note) (k : ℕ) (note : Note) → slice_get all k ≡ Some note → (pages : List Page) → flat_map (λ (p : Page). note_text all p.notes k) pages ≡ solids_text note.body (solids_of k (notes_of pages))
pages-text all k note at [] = refl
pages-text all k note at (p ∷ pages) =
    ap (λ (o : Option Note). for_some (λ (n : Note). solids_text n.body (solids_of k p.notes)) o ++ flat_map (λ (q : Page). note_text all q.notes k) pages) at
    ∙ ap (λ (rest : List ℕ). solids_text note.body (solids_of k p.notes) ++ rest) (pages-text all k note at pages)
    ∙ sym (flat_map-append (λ (s : Placed). event_text note.body s (slice_get note.body.events s.at.event)) (solids_of k p.notes) (solids_of k (notes_of pages)))
    ∙ ap (solids_text note.body) (sym (solids-append k p.notes (notes_of pages)))

pub note-texts : (flow : Flow) (pages : List Page) → All (λ (n : Note). IsTree n.body) flow.notes → HoldsNotes flow pages → HoldsNoteTexts flow pages
note-texts flow pages trees holds = λ k note at.
    let tree : IsTree note.body = subst (λ (n : Note). IsTree n.body) (get_or_from_slice_get flow.notes k note note at) (trees k note (slice_get_within flow.notes k note at)) in
    pages-text flow.notes k note at pages ∙ tree_text note.body (solids_of k (notes_of pages)) tree (body-at 0 flow.notes (notes_of pages) holds k k note (omega arith) at)
