-- Kept lines of a flow, after lines of one of its trees are asked for.
use Rattle.std.proofs.Common.{◌+ℤ◌, ◌≡◌, ◌∙◌, ℕ, ◌+◌, ℤ, List, [], ◌∷◌, ◌++◌, Some, All, append_assoc, drop, length, take, slice_get, refl, sym, ap, subst, arith}
use Rattle.std.proofs.lemmas.List.{take-append-drop}
use Rattle.std.proofs.Math.Seq.{take-append_seam}
use Rattle.std.proofs.lemmas.List.Elements.{All-cons, All-head, All-nil, All-push, All-tail, All-take}
use Rattle.std.proofs.lemmas.Option.{same_Some}
use Rattle.metrics.specs.Face.{FontFace}
use Rattle.boxes.specs.Tree.{Tree}
use Rattle.boxes.specs.declared.flow.Flow.{Flow}
use Rattle.boxes.specs.declared.flow.Note.{Note}
use Rattle.boxes.specs.declared.page.Placed.{Placed}
use Rattle.bk_num.specs.Limits.{separator}
use Rattle.cursor.proofs.AskLemmas.{held_on}
use Rattle.cursor.specs.Asks.{IsHeldNow, KeepsHeld}
use Rattle.cursor.specs.KeptLines.{KeptLinesView, StayPlaced}
use Rattle.line_fill.specs.Kept.{AreKept}
use Rattle.line_fill.specs.declared.kept.KeptLeaf.{KeptLeaf}
use Rattle.note_list.specs.Kept.{AreFlowLines, AreHeldNow, IsHeldIn, NotesHeldNow}
use Rattle.note_list.specs.Lists.{placed_notes}
use Rattle.note_list.specs.Places.{IsFront}
use Rattle.note_list.specs.declared.solid.NotedSolid.{NotedSolid}

-- lines of the main tree are asked for
pub main_lines : (faces : List FontFace) (flow : Flow) (old new : KeptLinesView) → AreFlowLines faces flow old → AreKept faces new.kept → StayPlaced 0 flow.main old new → AreFlowLines faces flow new
main_lines faces flow old new are kept stay = record {
  kept = kept;
  main = stay 0 flow.main (λ e. refl) are.main;
  notes = λ n note has. stay (n + 1) note.body (λ (e : n + 1 ≡ 0). absurd (omega (arith, e))) (are.notes n note has);
}

-- lines of a note are asked for
pub note_lines : (faces : List FontFace) (flow : Flow) (number : ℕ) (note : Note) (old new : KeptLinesView) → slice_get flow.notes number ≡ Some note → AreFlowLines faces flow old → AreKept faces new.kept → StayPlaced (number + 1) note.body old new → AreFlowLines faces flow new
note_lines faces flow number note old new has are kept stay = record {
  kept = kept;
  main = stay 0 flow.main (λ (e : 0 ≡ number + 1). absurd (omega (arith, e))) are.main;
  notes = λ n other is. stay (n + 1) other.body (λ (e : n + 1 ≡ number + 1). same n other is (omega (arith, e))) (are.notes n other is);
}
  where
    same : (n : ℕ) (other : Note) → slice_get flow.notes n ≡ Some other → n ≡ number → other.body ≡ note.body
    same n other is e = ap (λ (x : Note). x.body) (same_Some _ _ (sym is ∙ (ap (slice_get flow.notes) e ∙ has)))

-- lines stay held
pub held_more : (notes : List Note) (width : ℤ) (old new : List KeptLeaf) (list : List NotedSolid) → KeepsHeld old new → AreHeldNow notes width old list → AreHeldNow notes width new list
held_more notes width old new list keeps held = λ k d h note has. held_on note.body width _ old new keeps (held k d h note has)

pub placed_more : (notes : List Note) (width : ℤ) (old new : List KeptLeaf) (placed : List (ℕ × Placed)) → KeepsHeld old new → NotesHeldNow notes width old placed → NotesHeldNow notes width new placed
placed_more notes width old new placed keeps held = λ k d h note has. held_on note.body width _ old new keeps (held k d h note has)

-- with the next solid of a note
pub held_next : (notes : List Note) (note : Note) (body : Tree) (width : ℤ) (old new : List KeptLeaf) (list more : List NotedSolid) (s : NotedSolid) → slice_get notes s.note ≡ Some note → note.body ≡ body → KeepsHeld old new → IsHeldNow body width new s.at → more ≡ list ++ s ∷ [] → AreHeldNow notes width old list → AreHeldNow notes width new more
held_next notes note body width old new list more s has is keeps now items held =
    let here : IsHeldIn notes width new s.note s.at = λ other there. subst (λ (t : Tree). IsHeldNow t width new s.at) (sym (ap (λ (x : Note). x.body) (same_Some _ _ (sym there ∙ has)) ∙ is)) now in
    subst (AreHeldNow notes width new) (sym items) (All-push (λ x. IsHeldIn notes width new x.note x.at) list s (held_more notes width old new list keeps held) here)

-- some of the first solids are the first ones
pub front_of : (list : List NotedSolid) (n m : ℕ) (placed : List (ℕ × Placed)) → placed ≡ placed_notes separator (take m (take n list)) → IsFront list placed
front_of list n m placed is = record {
  front = take m (take n list);
  more = drop m (take n list) ++ drop n list;
  is = sym (sym (append_assoc (take m (take n list)) (drop m (take n list)) (drop n list)) ∙ (ap (λ (xs : List NotedSolid). xs ++ drop n list) (take-append-drop m (take n list)) ∙ take-append-drop n list));
  placed_is = is;
}

held_placed : (notes : List Note) (width : ℤ) (kept : List KeptLeaf) (bottom : ℤ) (list : List NotedSolid) → AreHeldNow notes width kept list → NotesHeldNow notes width kept (placed_notes bottom list)
held_placed notes width kept bottom [] held = All-nil (λ n. IsHeldIn notes width kept n.0 n.1.at)
held_placed notes width kept bottom (s ∷ list) held =
    All-cons (λ n. IsHeldIn notes width kept n.0 n.1.at) _ _ (All-head (λ x. IsHeldIn notes width kept x.note x.at) s list held)
    (held_placed notes width kept ((bottom +ℤ s.row.gap) +ℤ s.row.height) list (All-tail (λ x. IsHeldIn notes width kept x.note x.at) s list held))

left_part : (P : NotedSolid → Type 0) (xs ys : List NotedSolid) → All P (xs ++ ys) → All P xs
left_part P xs ys all = subst (All P) (take-append_seam xs ys) (All-take P (length xs) (xs ++ ys) all)

-- what is placed of a list whose lines are held is held
pub front_held : (notes : List Note) (width : ℤ) (kept : List KeptLeaf) (list : List NotedSolid) (placed : List (ℕ × Placed)) → IsFront list placed → AreHeldNow notes width kept list → NotesHeldNow notes width kept placed
front_held notes width kept list placed f held =
    subst (NotesHeldNow notes width kept) (sym f.placed_is) (held_placed notes width kept separator f.front (left_part (λ x. IsHeldIn notes width kept x.note x.at) f.front f.more (subst (AreHeldNow notes width kept) f.is held)))
