-- What is held after a solid is asked for.
use Rattle.std.proofs.Common.{◌≡◌, ℕ, ℤ, List, Some, slice_get, sym, ◌∙◌, subst}
use Rattle.std.proofs.lemmas.Option.{same_Some}
use Rattle.boxes.specs.Tree.{Tree}
use Rattle.boxes.specs.declared.leaf.Leaf.{Leaf as LeafData}
use Rattle.boxes.specs.declared.page.SolidKind.TheVariants.{Line}
use Rattle.boxes.specs.declared.place.Event.TheVariants.{Leaf, Opens, Closes}
use Rattle.boxes.specs.declared.place.Position.{Position}
use Rattle.metrics.specs.Face.{FontFace}
use Rattle.line_fill.specs.Kept.{Asked, HasAsked, HoldsNow, HoldsSame, asked_of}
use Rattle.line_fill.specs.declared.kept.KeptLeaf.{KeptLeaf}
use Rattle.cursor.specs.Asks.{AsksForLine, IsHeldNow, KeepsHeld}
use Rattle.cursor.specs.Remainder.{IsContent, IsSolid, SolidView, leaf_measure}
use Rattle.cursor.specs.Remainder.IsContent.{of_line, of_open, of_close}

-- nothing changes
pub keeps_all : (kept : List KeptLeaf) → KeepsHeld kept kept
keeps_all kept = record { held = λ a h. h; now = λ a h. h }

-- the same lines are held
pub keeps_same : (old new : List KeptLeaf) → HoldsSame old new → KeepsHeld old new
keeps_same old new s = record {
  held = λ a h. (h.0, s.keeps a h.0 h.1);
  now = λ a h. (h.0, s.keeps a h.0 h.1, h.2);
}

-- a triple is asked for
pub keeps_asked : (a : Asked) (old new : List KeptLeaf) → HasAsked a old new → KeepsHeld old new
keeps_asked a old new h = record { held = h.keeps; now = h.keeps_now }

-- two steps after one another
pub keeps_twice : (old mid new : List KeptLeaf) → KeepsHeld old mid → KeepsHeld mid new → KeepsHeld old new
keeps_twice old mid new f g = record { held = λ a h. g.held a (f.held a h); now = λ a h. g.now a (f.now a h) }

-- a line stays held
pub held_on : (t : Tree) (width : ℤ) (at : Position) (old new : List KeptLeaf) → KeepsHeld old new → IsHeldNow t width old at → IsHeldNow t width new at
held_on t width at old new k h = λ number leaf names has. k.now (asked_of leaf at.offset (leaf_measure t width at.event)) (h number leaf names has)

leaf_is : (n m : ℕ) → Some (Leaf n) ≡ Some (Leaf m) → n ≡ m
leaf_is n m e = cc

-- a line that is asked for is held
pub held_line : (t : Tree) (width : ℤ) (s : SolidView) (old new : List KeptLeaf) (steps steps' : ℕ) → AsksForLine t width s old new steps steps' → IsHeldNow t width new s.placed_at
held_line t width s old new steps steps' a = λ number leaf names has.
    let n : a.number ≡ number = leaf_is a.number number (sym a.names ∙ names) in
    let l : a.leaf ≡ leaf = same_Some _ _ (sym a.has ∙ subst (λ (i : ℕ). slice_get t.leaves i ≡ Some leaf) (sym n) has) in
    subst (λ (x : LeafData). HoldsNow new (asked_of x s.placed_at.offset (leaf_measure t width s.placed_at.event))) l a.asked.asked

-- an edge asks for nothing
held_open : (t : Tree) (width : ℤ) (kept : List KeptLeaf) (at : Position) (b : ℕ) → slice_get t.events at.event ≡ Some (Opens b) → IsHeldNow t width kept at
held_open t width kept at b e = λ number leaf names has. absurd (cc)

held_close : (t : Tree) (width : ℤ) (kept : List KeptLeaf) (at : Position) (b : ℕ) → slice_get t.events at.event ≡ Some (Closes b) → IsHeldNow t width kept at
held_close t width kept at b e = λ number leaf names has. absurd (cc)

held_by : (faces : List FontFace) (t : Tree) (w width : ℤ) (from : Position) (s : SolidView) (kept : List KeptLeaf) → IsContent faces t w from s → (s.kind ≡ Line → ⊥) → IsHeldNow t width kept s.placed_at
held_by faces t w width from s kept (of_line is) off = absurd (off is.kind_is)
held_by faces t w width from s kept (of_open b e edge) off = held_open t width kept s.placed_at b e
held_by faces t w width from s kept (of_close b e edge) off = held_close t width kept s.placed_at b e

-- so at a solid that is no line nothing has to be held
pub held_edge : (faces : List FontFace) (t : Tree) (w width : ℤ) (from : Position) (s : SolidView) (kept : List KeptLeaf) → IsSolid faces t w from s → (s.kind ≡ Line → ⊥) → IsHeldNow t width kept s.placed_at
held_edge faces t w width from s kept is off = held_by faces t w width from s kept is.content off
