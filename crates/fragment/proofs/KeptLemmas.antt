-- Lines that pages place stay held, page after page.
use Rattle.std.proofs.Common.{◌≡◌, ℕ, suc, ◌+◌, ℤ, ◌+ℤ◌, Option, List, [], ◌∷◌, ◌++◌, All, take, sym, subst}
use Rattle.std.proofs.lemmas.List.Elements.{All-append, All-cons, All-head, All-nil, All-push, All-tail, All-take}
use Rattle.bk_num.specs.declared.ids.NameId.{NameId}
use Rattle.metrics.specs.Face.{FontFace}
use Rattle.boxes.specs.Frames.{PageFrames}
use Rattle.boxes.specs.Tree.{Tree}
use Rattle.boxes.specs.declared.flow.Flow.{Flow}
use Rattle.boxes.specs.declared.frames.Demand.{Demand}
use Rattle.boxes.specs.declared.page.Page.{Page}
use Rattle.boxes.specs.declared.page.Placed.{Placed}
use Rattle.cursor.proofs.AskLemmas.{held_on}
use Rattle.cursor.specs.Asks.{IsHeldNow, KeepsHeld}
use Rattle.cursor.specs.KeptLines.{ArePlaced, KeptLinesView}
use Rattle.cursor.specs.Remainder.{SolidView}
use Rattle.line_fill.specs.Kept.{AreKept}
use Rattle.line_fill.specs.declared.kept.KeptLeaf.{KeptLeaf}
use Rattle.note_list.proofs.KeptLemmas.{front_held, placed_more}
use Rattle.note_list.specs.Kept.{AreFlowLines, AreHeldNow, IsHeldIn}
use Rattle.note_list.specs.Places.{IsFront}
use Rattle.note_list.specs.declared.solid.NotedSolid.{NotedSolid}
use Rattle.page_list.specs.Cuts.{placed_below, placed_from}
use Rattle.page_list.specs.Pages.{AddsBlanks, AreBlanks}
use Rattle.fragment.specs.Kept.{ArePagesHeld, IsPageHeld}

abbrev IsHeldView : Tree → ℤ → List KeptLeaf → SolidView → Type 0
IsHeldView t width kept v = IsHeldNow t width kept v.placed_at

abbrev IsHeldPlaced : Tree → ℤ → List KeptLeaf → Placed → Type 0
IsHeldPlaced t width kept p = IsHeldNow t width kept p.at

-- where no place is noted, the lines of each flow may be kept
pub flow_lines : (faces : List FontFace) (flow : Flow) (lines : KeptLinesView) → AreKept faces lines.kept → ((number : ℕ) (t : Tree) → ArePlaced number t lines) → AreFlowLines faces flow lines
flow_lines faces flow lines kept placed = record { kept = kept; main = placed 0 flow.main; notes = λ n note has. placed (n + 1) note.body }

-- solids that are read stay held
pub views_on : (t : Tree) (width : ℤ) (old new : List KeptLeaf) (vs : List SolidView) → KeepsHeld old new → All (λ v. IsHeldNow t width old v.placed_at) vs → All (λ v. IsHeldNow t width new v.placed_at) vs
views_on t width old new vs keeps held = λ k d h. held_on t width _ old new keeps (held k d h)

-- with one more
pub views_next : (t : Tree) (width : ℤ) (old new : List KeptLeaf) (vs more : List SolidView) (v : SolidView) → KeepsHeld old new → IsHeldNow t width new v.placed_at → more ≡ vs ++ v ∷ [] → All (λ x. IsHeldNow t width old x.placed_at) vs → All (λ x. IsHeldNow t width new x.placed_at) more
views_next t width old new vs more v keeps now is held =
    subst (All (IsHeldView t width new)) (sym is) (All-push (IsHeldView t width new) vs v (views_on t width old new vs keeps held) now)

held_below : (t : Tree) (width : ℤ) (kept : List KeptLeaf) (bottom : ℤ) (vs : List SolidView) → All (IsHeldView t width kept) vs → All (IsHeldPlaced t width kept) (placed_below bottom vs)
held_below t width kept bottom [] held = All-nil (IsHeldPlaced t width kept)
held_below t width kept bottom (v ∷ vs) held =
    All-cons (IsHeldPlaced t width kept) _ _ (All-head (IsHeldView t width kept) v vs held) (held_below t width kept ((bottom +ℤ v.seam.whole_gap) +ℤ v.height) vs (All-tail (IsHeldView t width kept) v vs held))

held_from : (t : Tree) (width : ℤ) (kept : List KeptLeaf) (first : ℤ) (vs : List SolidView) → All (IsHeldView t width kept) vs → All (IsHeldPlaced t width kept) (placed_from first vs)
held_from t width kept first [] held = All-nil (IsHeldPlaced t width kept)
held_from t width kept first (v ∷ vs) held =
    All-cons (IsHeldPlaced t width kept) _ _ (All-head (IsHeldView t width kept) v vs held) (held_below t width kept (first +ℤ v.height) vs (All-tail (IsHeldView t width kept) v vs held))

-- what a cut places of solids and notes that are held is held
pub cut_held : (flow : Flow) (width : ℤ) (kept : List KeptLeaf) (first : ℤ) (vs : List SolidView) (count : ℕ) (list : List NotedSolid) (own : List Placed) (noted : List (ℕ × Placed)) → All (λ v. IsHeldNow flow.main width kept v.placed_at) vs → own ≡ placed_from first (take count vs) → AreHeldNow flow.notes width kept list → IsFront list noted → IsPageHeld flow width kept own noted
cut_held flow width kept first vs count list own noted held is notes front = record {
  solids = subst (All (IsHeldPlaced flow.main width kept)) (sym is) (held_from flow.main width kept first (take count vs) (All-take (IsHeldView flow.main width kept) count vs held));
  notes = front_held flow.notes width kept list noted front notes;
}

-- a page of notes alone
pub noted_held : (flow : Flow) (width : ℤ) (kept : List KeptLeaf) (list : List NotedSolid) (noted : List (ℕ × Placed)) → AreHeldNow flow.notes width kept list → IsFront list noted → All (λ n. IsHeldIn flow.notes width kept n.0 n.1.at) noted
noted_held flow width kept list noted notes front = front_held flow.notes width kept list noted front notes

page_on : (flow : Flow) (width : ℤ) (old new : List KeptLeaf) (own : List Placed) (noted : List (ℕ × Placed)) → KeepsHeld old new → IsPageHeld flow width old own noted → IsPageHeld flow width new own noted
page_on flow width old new own noted keeps held = record {
  solids = λ k d h. held_on flow.main width _ old new keeps (held.solids k d h);
  notes = placed_more flow.notes width old new noted keeps held.notes;
}

abbrev IsHeldPage : Flow → List KeptLeaf → Page → Type 0
IsHeldPage flow kept q = IsPageHeld flow q.frame.width kept q.solids q.notes

-- pages stay held
pub pages_on : (flow : Flow) (old new : List KeptLeaf) (pages : List Page) → KeepsHeld old new → ArePagesHeld flow old pages → ArePagesHeld flow new pages
pages_on flow old new pages keeps held = λ k d h. page_on flow _ old new _ _ keeps (held k d h)

-- with one more
pub pages_more : (flow : Flow) (old new : List KeptLeaf) (pages now : List Page) (p : Page) → KeepsHeld old new → IsPageHeld flow p.frame.width new p.solids p.notes → now ≡ pages ++ p ∷ [] → ArePagesHeld flow old pages → ArePagesHeld flow new now
pages_more flow old new pages now p keeps page is held =
    subst (ArePagesHeld flow new) (sym is) (All-push (IsHeldPage flow new) pages p (pages_on flow old new pages keeps held) page)

blanks_held : (flow : Flow) (kept : List KeptLeaf) (frames : PageFrames) (name : NameId) (demand : Option Demand) (index to : ℕ) (blanks : List Page) → AreBlanks frames name demand index to blanks → ArePagesHeld flow kept blanks
blanks_held flow kept frames name demand index to [] b = All-nil (IsHeldPage flow kept)
blanks_held flow kept frames name demand index to (p ∷ ps) b =
    All-cons (IsHeldPage flow kept) p ps
    (subst (IsHeldPage flow kept) (sym b.1) (record { solids = All-nil (IsHeldPlaced flow.main _ kept); notes = All-nil (λ n. IsHeldIn flow.notes _ kept n.0 n.1.at) }))
    (blanks_held flow kept frames name demand (suc index) to ps b.2)

-- and with blank ones
pub pages_added : (flow : Flow) (kept : List KeptLeaf) (frames : PageFrames) (name : NameId) (demand : Option Demand) (index to : ℕ) (old new : List Page) → AddsBlanks frames name demand index to old new → ArePagesHeld flow kept old → ArePagesHeld flow kept new
pages_added flow kept frames name demand index to old new a held = subst (ArePagesHeld flow kept) (sym a.2) (All-append (IsHeldPage flow kept) old a.0 held (blanks_held flow kept frames name demand index to a.0 a.1))
