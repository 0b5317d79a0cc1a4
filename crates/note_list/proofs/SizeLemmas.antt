-- How many bytes of text a tree has while it is built.
use Rattle.std.proofs.Common.{◌≡◌, ◌<◌, ◌+◌, ◌++◌, ◌∷◌, [], ℕ, suc, List, Option, Some, length, slice_get, refl, ap, ◌∙◌, arith}
use Rattle.boxes.specs.Tree.{Tree, IsTree, with_leaf, with_close, with_box}
use Rattle.boxes.specs.declared.leaf.Leaf.{Leaf as LeafData}
use Rattle.boxes.specs.declared.place.Event.{Event}
use Rattle.boxes.specs.declared.place.Event.TheVariants.{Opens, Closes, Leaf}
use Rattle.boxes.specs.declared.props.BoxProps.{BoxProps}
use Rattle.boxes.proofs.ListLemmas.{get-before, get-end}
use Rattle.boxes.proofs.TreeFacts.{leaf_there}
use Rattle.note_list.specs.Conditions.{text_size, size_of}

abbrev pub bytes_in : Tree → ℕ
bytes_in t = text_size t.leaves t.events

size_append : (leaves : List LeafData) (es fs : List Event) → text_size leaves (es ++ fs) ≡ text_size leaves es + text_size leaves fs
size_append leaves [] fs = omega arith
size_append leaves (Opens b ∷ es) fs = size_append leaves es fs
size_append leaves (Closes b ∷ es) fs = size_append leaves es fs
size_append leaves (Leaf l ∷ es) fs = let rest = size_append leaves es fs in omega arith

size_more : (leaves : List LeafData) (leaf : LeafData) (es : List Event) → ((k l : ℕ) → slice_get es k ≡ Some (Leaf l) → l < length leaves) → text_size (leaves ++ leaf ∷ []) es ≡ text_size leaves es
size_more leaves leaf [] there = refl
size_more leaves leaf (Opens b ∷ es) there = size_more leaves leaf es (λ k. there (suc k))
size_more leaves leaf (Closes b ∷ es) there = size_more leaves leaf es (λ k. there (suc k))
size_more leaves leaf (Leaf l ∷ es) there =
    ap (λ (o : Option LeafData). size_of o + text_size (leaves ++ leaf ∷ []) es) (get-before leaves leaf l (there 0 l refl))
    ∙ ap (λ (n : ℕ). size_of (slice_get leaves l) + n) (size_more leaves leaf es (λ k. there (suc k)))

-- a box adds none, and a leaf its text
pub bytes_opened : (t : Tree) (p : BoxProps) → bytes_in (with_box t p) ≡ bytes_in t
bytes_opened t p = let all = size_append t.leaves t.events (Opens (length t.boxes) ∷ []) in omega arith

pub bytes_closed : (t : Tree) (b : ℕ) → bytes_in (with_close t b) ≡ bytes_in t
bytes_closed t b = let all = size_append t.leaves t.events (Closes b ∷ []) in omega arith

pub bytes_filled : (t : Tree) (leaf : LeafData) → IsTree t → bytes_in (with_leaf t leaf) ≡ bytes_in t + length leaf.text
bytes_filled t leaf tree =
    let all = size_append (t.leaves ++ leaf ∷ []) t.events (Leaf (length t.leaves) ∷ []) in
    let old = size_more t.leaves leaf t.events (leaf_there t tree) in
    let new : size_of (slice_get (t.leaves ++ leaf ∷ []) (length t.leaves)) ≡ length leaf.text = ap size_of (get-end t.leaves leaf) in
    omega arith
