-- Of trees in short: their faces are there, their lines go as far as they fit, and they have as many bytes of text as
-- their leaves.
use Rattle.std.proofs.Common.{◌≡◌, ◌<◌, ◌≤◌, ◌+◌, ◌∙◌, ◌^◌, ℕ, List, Some, All, length, slice_get, refl, sym, ap, subst}
use Rattle.std.proofs.lemmas.List.Sums.{sum_by_push}
use Rattle.bk_num.proofs.ListLemmas.{all-get}
use Rattle.metrics.specs.Face.{FontFace}
use Rattle.boxes.specs.Tree.{Tree, IsTree}
use Rattle.boxes.specs.Tree.IsTree.{empty, opened, filled, closed}
use Rattle.boxes.specs.declared.leaf.Leaf.{Leaf}
use Rattle.cursor.specs.Conditions.{IsGreedy}
use Rattle.line_place.specs.Conditions.{HasFaces}
use Rattle.note_list.specs.Conditions.{text_size}
use Rattle.note_list.proofs.SizeLemmas.{bytes_opened, bytes_filled, bytes_closed}
use Rattle.tree_fixtures.specs.Leaves.{IsShortLeaf, bytes_of}

pub short_faces : (faces : List FontFace) (t : Tree) → 0 < length faces → All IsShortLeaf t.leaves → (l : ℕ) (leaf : Leaf) → slice_get t.leaves l ≡ Some leaf → HasFaces faces leaf
short_faces faces t some all l leaf is =
    let short = all-get IsShortLeaf t.leaves l leaf all is in
    let strut : leaf.strut.face.0 < length faces = subst (λ (n : ℕ). n < length faces) (sym short.face) some in
    record { strut = strut; spans = λ k d less. rw (short.spans k d less).face strut }

pub short_greedy : (t : Tree) → All IsShortLeaf t.leaves → IsGreedy t
short_greedy t all l leaf is = (all-get IsShortLeaf t.leaves l leaf all is).greedy

-- each leaf of a tree stands in it once
text_once : (t : Tree) → IsTree t → text_size t.leaves t.events ≡ bytes_of t.leaves
text_once t empty = refl
text_once t (opened u p tree few place good) = bytes_opened u p ∙ text_once u tree
text_once t (filled u leaf tree few place good owners) = bytes_filled u leaf tree ∙ ap (λ (n : ℕ). n + length leaf.text) (text_once u tree) ∙ sym (sum_by_push (λ (l : Leaf). length l.text) u.leaves leaf)
text_once t (closed u b tree few inner) = bytes_closed u b ∙ text_once u tree

pub few_bytes : (t : Tree) → IsTree t → bytes_of t.leaves ≤ 2 ^ 25 → text_size t.leaves t.events ≤ 2 ^ 25
few_bytes t tree few = subst (λ (n : ℕ). n ≤ 2 ^ 25) (sym (text_once t tree)) few
