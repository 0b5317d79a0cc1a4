-- What a page places by a point that fits ends inside its frame, above its notes.
use Rattle.std.proofs.Common.{◌≡◌, ◌≤◌, ◌+◌, ◌<◌, ℕ, zero, suc, Bool, true, false, ℤ, pos, ◌≤ℤ◌, ◌+ℤ◌, ◌-ℤ◌, All, List, [], ◌∷◌, Option, Some, length, take, slice_get, refl, sym, ap, ◌∙◌, subst, arith, add-zero, ⊎_elim}
use Rattle.std.specs.Option.{option_map}
use Rattle.std.proofs.lemmas.Bool.{cases_lt}
use Rattle.std.proofs.lemmas.Int.{ints, clamps}
use Rattle.std.proofs.lemmas.List.{length-take-le, length-map}
use Rattle.std.proofs.lemmas.List.Elements.{All-nil, All-cons}
use Rattle.std.proofs.lemmas.Option.{slice_get-map}
use Rattle.metrics.specs.Face.{FontFace}
use Rattle.boxes.specs.Steps.{IsRun}
use Rattle.boxes.specs.Tree.{Tree, IsTree}
use Rattle.boxes.specs.declared.flow.Flow.{Flow}
use Rattle.boxes.specs.declared.frames.Frame.{Frame}
use Rattle.boxes.specs.declared.frames.PageKind.TheVariants as kind
use Rattle.boxes.specs.declared.page.Page.{Page}
use Rattle.boxes.specs.declared.page.Placed.{Placed}
use Rattle.cursor.specs.Remainder.{SolidView}
use Rattle.cuts.specs.declared.row.SolidRow.{SolidRow}
use Rattle.cuts.specs.Rows.{row_gap, row_height, top_gap, rows_bottom, rows_extent, rows_reach}
use Rattle.cuts.specs.Cuts.{NoteLists, Fits}
use Rattle.cuts.specs.Cuts.IsCut.{at_level, at_loose, at_first}
use Rattle.cuts.proofs.ReachLemmas.{extent-mono, tail_least}
use Rattle.notes.specs.declared.solid.NoteSolid.{NoteSolid}
use Rattle.bk_num.specs.Limits.{separator}
use Rattle.bk_num.proofs.ListLemmas.{get-take}
use Rattle.notes.specs.Notes.{IsPlaced, area_of, must_of, note_bottom, note_extent, note_gap, note_height}
use Rattle.notes.proofs.NoteLemmas.{area_never_falls, area_suc}
use Rattle.note_list.specs.Lists.{placed_notes, note_rows}
use Rattle.note_list.specs.Places.{least_of}
use Rattle.note_list.specs.declared.carried.Carried.{Carried}
use Rattle.note_list.specs.declared.solid.NotedSolid.{NotedSolid}
use Rattle.page_list.specs.declared.cut.Cut.{Cut}
use Rattle.page_list.specs.declared.cut.CutFrom.{CutFrom}
use Rattle.page_list.specs.Cuts.{IsBestCut, IsFlowCut, row_of, rows_of, placed_below, placed_from, first_gap}
use Rattle.page_list.specs.Inside.{AreInside, EndsBy, EndInside}
use Rattle.page_list.specs.Laws.{PagesEndInside}
use Rattle.boxes.specs.Frames.{HaveWidths, PageFrames}
use Rattle.page_list.specs.Pages.{IsEnded, IsStep, State, name_at, start_of}
use Rattle.page_list.specs.Pages.IsStep.{blank, flows, noted as notes_step}
use Rattle.page_list.proofs.TailLemmas.{rest_tails}

pub shift : (n m : ℕ) → n + suc m ≡ suc n + m
shift n m = omega arith

pub one_more : (k : ℕ) → suc k ≡ 1 + k
one_more k = omega arith

-- ---- solids
-- the rows of a list from a place on are those of some solids
abbrev pub Are : Tree → List SolidRow → ℕ → List SolidView → Type 0
Are t whole n xs = (k : ℕ) (s : SolidView) → slice_get xs k ≡ Some s → slice_get whole (n + k) ≡ Some (row_of t s)

inside_below : (t : Tree) (kept : Bool) (height : ℤ) (whole : List SolidRow) (n : ℕ) (xs : List SolidView) → Are t whole (suc n) xs → rows_extent kept whole (suc n + length xs) ≤ℤ height → All (EndsBy height) (placed_below (rows_bottom kept whole (suc n)) xs)
inside_below t kept height whole n [] same fits = All-nil (EndsBy height)
inside_below t kept height whole n (s ∷ xs) same fits =
    let got : slice_get whole (suc n) ≡ Some (row_of t s) = subst (λ (i : ℕ). slice_get whole i ≡ Some (row_of t s)) (add-zero (suc n)) (same 0 s refl) in
    let here : rows_bottom kept whole (suc (suc n)) ≡ (rows_bottom kept whole (suc n) +ℤ s.seam.whole_gap) +ℤ s.height = ap (λ (o : Option SolidRow). (rows_bottom kept whole (suc n) +ℤ row_gap o) +ℤ row_height o) got in
    let far : rows_extent kept whole (suc (suc n) + length xs) ≤ℤ height = subst (λ (i : ℕ). rows_extent kept whole i ≤ℤ height) (shift (suc n) (length xs)) fits in
    let more : rows_extent kept whole (suc (suc n)) ≤ℤ rows_extent kept whole (suc (suc n) + length xs) = extent-mono kept whole (suc (suc n)) (length xs) in
    let later : Are t whole (suc (suc n)) xs = λ k r e. subst (λ (i : ℕ). slice_get whole i ≡ Some (row_of t r)) (shift (suc n) k) (same (suc k) r e) in
    let last : rows_bottom kept whole (suc (suc n)) ≤ℤ rows_extent kept whole (suc (suc n)) = omega (arith, ints, clamps) in
    All-cons (EndsBy height) _ _ (rw (← here) (omega (arith, ints)))
    (subst (λ (b : ℤ). All (EndsBy height) (placed_below b xs)) here (inside_below t kept height whole (suc n) xs later far))

-- the first solid of a page
pub top_is : (t : Tree) (kept : Bool) (s : SolidView) (xs : List SolidView) → top_gap kept (Some (row_of t s)) ≡ first_gap kept (s ∷ xs)
top_is t true s xs = refl
top_is t false s xs = refl

-- where the first solids of a page fit, each of them ends no lower than the frame
pub solids_inside : (t : Tree) (kept : Bool) (height : ℤ) (solids : List SolidView) (count : ℕ) → count ≤ length solids → rows_extent kept (rows_of t solids) count ≤ℤ height → All (EndsBy height) (placed_from (first_gap kept solids) (take count solids))
solids_inside t kept height solids zero low fits = All-nil (EndsBy height)
solids_inside t kept height [] (suc n) low fits = absurd (omega arith)
solids_inside t kept height (s ∷ xs) (suc n) low fits =
    let first : ℤ = first_gap kept (s ∷ xs) in
    let whole : List SolidRow = rows_of t (s ∷ xs) in
    let top = top_is t kept s xs in
    let size : length (take n xs) ≡ n = length-take-le n xs (omega arith) in
    let here : rows_bottom kept (rows_of t (s ∷ xs)) 1 ≡ first +ℤ s.height = omega (arith, ints) in
    let far : rows_extent kept (rows_of t (s ∷ xs)) (1 + length (take n xs)) ≤ℤ height = subst (λ (i : ℕ). rows_extent kept (rows_of t (s ∷ xs)) i ≤ℤ height) (one_more n ∙ ap (λ (i : ℕ). 1 + i) (sym size)) fits in
    let more : rows_extent kept (rows_of t (s ∷ xs)) 1 ≤ℤ rows_extent kept (rows_of t (s ∷ xs)) (1 + length (take n xs)) = extent-mono kept (rows_of t (s ∷ xs)) 1 (length (take n xs)) in
    let last : rows_bottom kept (rows_of t (s ∷ xs)) 1 ≤ℤ rows_extent kept (rows_of t (s ∷ xs)) 1 = omega (arith, ints, clamps) in
    let later : Are t (rows_of t (s ∷ xs)) 1 (take n xs) = λ k r e. subst (λ (i : ℕ). slice_get (rows_of t (s ∷ xs)) i ≡ Some (row_of t r)) (one_more k) (slice_get-map (row_of t) xs k ∙ ap (option_map (row_of t)) ((get-take xs n k r e).1)) in
    All-cons (EndsBy height) _ _ (rw (← here) (omega (arith, ints)))
    (subst (λ (b : ℤ). All (EndsBy height) (placed_below b (take n xs))) here (inside_below t kept height (rows_of t (s ∷ xs)) 0 (take n xs) later far))

-- ---- notes
-- a note's bottom is at most a height
abbrev pub NoteBy : ℤ → (ℕ × Placed) → Type 0
NoteBy height n = (n.1.top +ℤ n.1.height) ≤ℤ height

abbrev AreNotes : List NoteSolid → ℕ → List NotedSolid → Type 0
AreNotes whole n xs = (k : ℕ) (s : NotedSolid) → slice_get xs k ≡ Some s → slice_get whole (n + k) ≡ Some s.row

notes_below : (height : ℤ) (whole : List NoteSolid) (n : ℕ) (xs : List NotedSolid) (bottom : ℤ) → bottom ≡ separator +ℤ note_bottom whole n → AreNotes whole n xs → area_of whole (n + length xs) ≤ℤ height → All (NoteBy height) (placed_notes bottom xs)
notes_below height whole n [] bottom is same fits = All-nil (NoteBy height)
notes_below height whole n (s ∷ xs) bottom is same fits =
    let got : slice_get whole n ≡ Some s.row = subst (λ (i : ℕ). slice_get whole i ≡ Some s.row) (add-zero n) (same 0 s refl) in
    let here : note_bottom whole (suc n) ≡ (note_bottom whole n +ℤ s.row.gap) +ℤ s.row.height = ap (λ (o : Option NoteSolid). (note_bottom whole n +ℤ note_gap o) +ℤ note_height o) got in
    let far : area_of whole (suc n + length xs) ≤ℤ height = subst (λ (i : ℕ). area_of whole i ≤ℤ height) (shift n (length xs)) fits in
    let more : area_of whole (suc n) ≤ℤ area_of whole (suc n + length xs) = area_never_falls whole (suc n) (suc n + length xs) (omega arith) in
    let area = area_suc whole n in
    let last : note_bottom whole (suc n) ≤ℤ note_extent whole (suc n) = omega (arith, ints, clamps) in
    let next : (bottom +ℤ s.row.gap) +ℤ s.row.height ≡ separator +ℤ note_bottom whole (suc n) = omega (arith, ints) in
    let later : AreNotes whole (suc n) xs = λ k r e. subst (λ (i : ℕ). slice_get whole i ≡ Some r.row) (shift n k) (same (suc k) r e) in
    All-cons (NoteBy height) _ _ (omega (arith, ints))
    (notes_below height whole (suc n) xs ((bottom +ℤ s.row.gap) +ℤ s.row.height) next later far)

-- the first notes of a list end no lower than their area
pub notes_inside : (list : List NotedSolid) (number : ℕ) → number ≤ length list → All (NoteBy (area_of (note_rows list) number)) (placed_notes separator (take number list))
notes_inside list number low =
    let size : length (take number list) ≡ number = length-take-le number list low in
    notes_below (area_of (note_rows list) number) (note_rows list) 0 (take number list) separator (omega (arith, ints))
    (λ k s e. subst (λ (i : ℕ). slice_get (note_rows list) i ≡ Some s.row) (let z : k ≡ 0 + k = omega arith in z) (slice_get-map (λ n. n.row) list k ∙ ap (option_map (λ n. n.row)) ((get-take list number k s e).1)))
    (let z : 0 + length (take number list) ≡ number = omega arith in subst (λ (i : ℕ). area_of (note_rows list) i ≤ℤ area_of (note_rows list) number) (sym z) (omega (arith, ints)))

-- ---- pages
-- solids and notes that have room one above the other
both_inside : (height extent area : ℤ) (notes : List (ℕ × Placed)) (solids : List Placed) → pos 0 ≤ℤ area → (extent +ℤ area) ≤ℤ height → All (EndsBy extent) solids → All (NoteBy area) notes → AreInside height notes solids
both_inside height extent area notes solids some fits above below k d h =
    let s = above k d h in
    (omega (arith, ints), λ j e g. let n = below j e g in omega (arith, ints))

pub fits_best : (kept : Bool) (rows : List SolidRow) (height : ℤ) (list : NoteLists) (c level j : ℕ) → level ≤ 2 → IsBestCut kept rows height list c level j → Fits kept rows height list c j
fits_best kept rows height list c level j low (at_level a none point fits best) = fits
fits_best kept rows height list c level j low (at_loose is none own a point fits best) = absurd (omega arith)
fits_best kept rows height list c level j low (at_first is none loose own a point best) = absurd (omega arith)

least_is : (level must c carried : ℕ) → level ≤ 2 → least_of level must c carried ≡ must
least_is zero must c carried low = refl
least_is (suc zero) must c carried low = refl
least_is (suc (suc zero)) must c carried low = refl
least_is (suc (suc (suc n))) must c carried low = absurd (omega arith)

-- the notes that a page places have room below its solids
room_of : (list : List NoteSolid) (must number : ℕ) (extent height : ℤ) → (extent +ℤ area_of list must) ≤ℤ height → IsPlaced list must (height -ℤ extent) number → (extent +ℤ area_of list number) ≤ℤ height
room_of list must number extent height fits places = ⊎_elim
    (λ (more : must < number). let f = places.fits more in omega (arith, ints))
    (λ (same : number ≤ must). let low = places.low in let e : must ≡ number = omega arith in subst (λ (n : ℕ). (extent +ℤ area_of list n) ≤ℤ height) e fits)
    (cases_lt must number)

pub flow_inside : (faces : List FontFace) (flow : Flow) (frame : Frame) (from : CutFrom) (carried : List Carried) (cut : Cut) → IsTree flow.main → pos 0 ≤ℤ frame.width → IsFlowCut faces flow frame from carried cut → cut.level ≤ 2 → AreInside frame.height cut.notes cut.solids
flow_inside faces flow frame from carried cut tree wide is low =
    let fits = fits_best from.kept (rows_of flow.main is.solids) frame.height (λ j. note_rows (is.list j)) is.c cut.level is.count low is.best in
    let places = subst (λ (n : ℕ). IsPlaced (note_rows (is.list is.count)) n (frame.height -ℤ rows_reach from.kept (rows_of flow.main is.solids) is.count) is.number) (least_is cut.level (must_of (note_rows (is.list is.count)) is.c) is.c (length is.own) low) is.places in
    let fit = room_of (note_rows (is.list is.count)) (must_of (note_rows (is.list is.count)) is.c) is.number (rows_reach from.kept (rows_of flow.main is.solids) is.count) frame.height fits places in
    let tail = tail_least (rows_of flow.main is.solids) (rest_tails flow.main tree frame.width wide faces from.at is.solids is.rest) is.count in
    let room : (rows_extent from.kept (rows_of flow.main is.solids) is.count +ℤ area_of (note_rows (is.list is.count)) is.number) ≤ℤ frame.height = omega (arith, ints) in
    let size = length-map (is.list is.count) (λ s. s.row) in
    let within = places.within in
    let some : pos 0 ≤ℤ area_of (note_rows (is.list is.count)) is.number = area_never_falls (note_rows (is.list is.count)) 0 is.number (omega arith) in
    let below = notes_inside (is.list is.count) is.number (omega arith) in
    let above = solids_inside flow.main from.kept (rows_extent from.kept (rows_of flow.main is.solids) is.count) is.solids is.count is.within (omega (arith, ints)) in
    subst (λ (ns : List (ℕ × Placed)). AreInside frame.height ns cut.solids) (sym is.notes_is)
    (subst (λ (ps : List Placed). AreInside frame.height (placed_notes separator (take is.number (is.list is.count))) ps) (sym is.solids_is)
    (both_inside frame.height (rows_extent from.kept (rows_of flow.main is.solids) is.count) (area_of (note_rows (is.list is.count)) is.number) (placed_notes separator (take is.number (is.list is.count))) (placed_from (first_gap from.kept is.solids) (take is.count is.solids)) some room above below))

abbrev Inside : Page → Type 0
Inside p = p.level ≤ 2 → AreInside p.frame.height p.notes p.solids

none_inside : (height : ℤ) (notes : List (ℕ × Placed)) → AreInside height notes []
none_inside height notes = λ k d h. absurd (omega arith)

inside_on : (faces : List FontFace) (flow : Flow) (frames : PageFrames) → IsTree flow.main → HaveWidths frames → (s : State) (pages : List Page) → IsRun (IsStep faces flow frames) IsEnded s pages → EndInside pages
inside_on faces flow frames tree wide s [] ended = All-nil Inside
inside_on faces flow frames tree wide s (p ∷ pages) r = All-cons Inside p pages (by r.1) (inside_on faces flow frames tree wide r.0 pages r.2)
  where
    by : {u : State} → IsStep faces flow frames s p u → Inside p
    by (blank going n p_is u_is) = subst Inside (sym p_is) (λ low. none_inside _ [])
    by (flows going m cut is p_is u_is) = subst Inside (sym p_is) (flow_inside faces flow _ (record { at = s.at; kept = s.kept }) s.carried cut tree (wide s.index (name_at flow.main s.at) kind.Flow) is)
    by (notes_step going some notes left is p_is u_is) = subst Inside (sym p_is) (λ low. none_inside _ notes)

pub pages_inside : PagesEndInside
pages_inside faces flow frames pages wide can paged = inside_on faces flow frames can.main.is wide (start_of flow.main) pages paged
