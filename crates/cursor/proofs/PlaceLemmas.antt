-- Places that are noted for leaves stay right.
use Rattle.std.proofs.Common.{◌≡◌, ◌∙◌, ℕ, ℤ, Bool, true, false, ◌&&◌, List, Option, Some, ◌⊎◌, inl, inr, ⊎_elim, slice_get, refl, sym, ap, subst}
use Rattle.std.specs.Prelude.{if◌then◌else◌, nat_eq}
use Rattle.std.specs.Ordering.{int_eq}
use Rattle.std.proofs.lemmas.Bool.{eqb-true, and_parts}
use Rattle.std.proofs.lemmas.Bool.Decides.{Decides-int_eq}
use Rattle.std.proofs.lemmas.Option.{same_Some}
use Rattle.boxes.specs.Tree.{Tree}
use Rattle.boxes.specs.declared.leaf.Leaf.{Leaf}
use Rattle.line_fill.specs.Kept.{IsLeafAt, KeepsPlaces}
use Rattle.line_fill.specs.Keys.{key_of}
use Rattle.line_fill.specs.declared.kept.KeptLeaf.{KeptLeaf}
use Rattle.cursor.specs.KeptLines.{LeafAtMeasure, StayPlaced, leaf_eq, lines_with, place_in}

-- equal numbers and measures
pub same_numbers : (n i other l : ℕ) (m measure : ℤ) → leaf_eq (n, i, m) (other, l, measure) ≡ true → (n ≡ other) × (i ≡ l) × (m ≡ measure)
same_numbers n i other l m measure e =
    let w = and_parts (nat_eq n other && nat_eq i l) (int_eq m measure) e in
    let v = and_parts (nat_eq n other) (nat_eq i l) w.0 in
    (eqb-true n other v.0, eqb-true i l v.1, (Decides-int_eq m measure).0 w.1)

chosen : (b : Bool) (at a : ℕ) (old : Option ℕ) → (if b then Some at else old) ≡ Some a → ((b ≡ true) × (at ≡ a)) ⊎ (old ≡ Some a)
chosen true at a old h = inl (refl, same_Some _ _ h)
chosen false at a old h = inr h

-- a leaf has one number
pub same_leaf : (t : Tree) (i : ℕ) (a b : Leaf) → slice_get t.leaves i ≡ Some a → slice_get t.leaves i ≡ Some b → a ≡ b
same_leaf t i a b h k = same_Some _ _ (sym h ∙ k)

-- leaves stay at their places, and no place is noted
pub placed_grown : (t : Tree) (n : ℕ) (old new : List KeptLeaf) (places places' : List (LeafAtMeasure × ℕ)) → KeepsPlaces old new → places' ≡ places → StayPlaced n t (lines_with old places) (lines_with new places')
placed_grown t n old new places places' k e other tree same was l a measure x noted has =
    k a (key_of x) measure (was l a measure x (subst (λ (ps : List (LeafAtMeasure × ℕ)). place_in ps (other, l, measure) ≡ Some a) e noted) has)

-- the place of a leaf is noted
pub placed_noted : (t : Tree) (n i at : ℕ) (m : ℤ) (old new : List KeptLeaf) (places places' : List (LeafAtMeasure × ℕ)) (leaf : Leaf) → slice_get t.leaves i ≡ Some leaf → IsLeafAt new at (key_of leaf) m → KeepsPlaces old new → ((q : LeafAtMeasure) → place_in places' q ≡ (if leaf_eq (n, i, m) q then Some at else place_in places q)) → StayPlaced n t (lines_with old places) (lines_with new places')
placed_noted t n i at m old new places places' leaf h p k e other tree same was l a measure x noted has =
    let q : LeafAtMeasure = (other, l, measure) in
    ⊎_elim
    (λ (w : (leaf_eq (n, i, m) q ≡ true) × (at ≡ a)).
    let s = same_numbers n i other l m measure w.0 in
    let one : tree ≡ t = same (sym s.0) in
    let is : leaf ≡ x = same_Some _ _ (sym h ∙ (ap (slice_get t.leaves) s.1 ∙ (ap (λ (r : Tree). slice_get r.leaves l) (sym one) ∙ has))) in
    subst (λ (j : ℕ). IsLeafAt new j (key_of x) measure) w.1 (subst (λ (v : ℤ). IsLeafAt new at (key_of x) v) s.2 (subst (λ (y : Leaf). IsLeafAt new at (key_of y) m) is p)))
    (λ (o : place_in places q ≡ Some a). k a (key_of x) measure (was l a measure x o has))
    (chosen (leaf_eq (n, i, m) q) at a (place_in places q) (sym (e q) ∙ noted))

-- two steps after one another
pub placed_twice : (t : Tree) (n : ℕ) (old mid new : List KeptLeaf) (places places' places'' : List (LeafAtMeasure × ℕ)) → StayPlaced n t (lines_with old places) (lines_with mid places') → StayPlaced n t (lines_with mid places') (lines_with new places'') → StayPlaced n t (lines_with old places) (lines_with new places'')
placed_twice t n old mid new places places' places'' f g other tree same was = g other tree same (f other tree same was)
