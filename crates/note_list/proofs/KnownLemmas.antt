-- Lines that are known are held, so that they take no step.
use Rattle.std.proofs.Common.{◌≡◌, ℕ, ◌+◌, ◌≤◌, ℤ, Bool, true, false, cond, List, [], ◌∷◌, ◌++◌, Option, Some, slice_get, refl, sym, ap, ◌∙◌, arith}
use Rattle.std.specs.Option.{option_map_or}
use Rattle.std.proofs.lemmas.List.Sums.{sum_by-append, sum_by-cons}
use Rattle.boxes.specs.Tree.{Tree}
use Rattle.boxes.specs.declared.flow.Note.{Note}
use Rattle.boxes.specs.declared.leaf.Leaf.{Leaf as LeafData}
use Rattle.boxes.specs.declared.page.SolidKind.{SolidKind}
use Rattle.boxes.specs.declared.page.SolidKind.TheVariants.{Line, OpenEdge, CloseEdge}
use Rattle.boxes.specs.declared.place.Event.{Event}
use Rattle.boxes.specs.declared.place.Event.TheVariants.{Leaf}
use Rattle.boxes.specs.declared.place.Position.{Position}
use Rattle.cursor.specs.Asks.{AsksBy, KeepsHeld, asked_at}
use Rattle.cursor.specs.Remainder.{SolidView, leaf_measure, steps_by, steps_of}
use Rattle.line_fill.specs.Kept.{Asked, asked_of}
use Rattle.line_fill.specs.declared.kept.KeptLeaf.{KeptLeaf}
use Rattle.note_list.specs.Known.{AreKnown, is_known_at, is_known_in, new_noted, new_of, new_of_noted}
use Rattle.note_list.specs.Lists.{NotePart, noted}
use Rattle.note_list.specs.declared.solid.NotedSolid.{NotedSolid}

-- what is known is held, also where more is held
pub known_more : (known : Asked → Bool) (old new : List KeptLeaf) → AreKnown known old → KeepsHeld old new → AreKnown known new
known_more known old new are keeps = λ a is. keeps.held a (are a is)

-- at a leaf it is the triple of its line that is known or not
pub known_line : (known : Asked → Bool) (t : Tree) (width : ℤ) (at : Position) (number : ℕ) (leaf : LeafData) → slice_get t.events at.event ≡ Some (Leaf number) → slice_get t.leaves number ≡ Some leaf → is_known_at known t width at ≡ known (asked_of leaf at.offset (leaf_measure t width at.event))
unfolding is_known_at
known_line known t width at number leaf names has =
    ap (λ (o : Option Event). option_map_or (λ (e : Event). is_known_in known t width at e) o false) names
    ∙ ap (λ (o : Option LeafData). option_map_or (λ (l : LeafData). known (asked_of l at.offset (leaf_measure t width at.event))) o false) has

-- a solid that is asked for takes a step only where it is a line that isn't known
pub asks_new : (known : Asked → Bool) (t : Tree) (width : ℤ) (s : SolidView) (start old new : List KeptLeaf) (steps steps' : ℕ) → AreKnown known start → KeepsHeld start old → AsksBy s.kind t width s old new steps steps' → steps' ≤ steps + steps_of s → steps' ≤ steps + new_of known t width s
asks_new known t width s start old new steps steps' are keeps asks most = by (is_known_at known t width s.placed_at) s.kind (λ e. e) asks most
  where
    by : (b : Bool) (k : SolidKind) → (b ≡ true → is_known_at known t width s.placed_at ≡ true) → AsksBy k t width s old new steps steps' → steps' ≤ steps + steps_by k → steps' ≤ steps + cond b 0 (steps_by k)
    by false k e asks most = most
    by true (OpenEdge b) e asks most = let same = asks.1 in omega (arith, same)
    by true (CloseEdge b) e asks most = let same = asks.1 in omega (arith, same)
    by true Line e asks most =
        let is : known (asked_at t width s asks.leaf) ≡ true = sym (known_line known t width s.placed_at asks.number asks.leaf asks.names asks.has) ∙ e refl in
        let same = asks.held (keeps.held (asked_at t width s asks.leaf) (are (asked_at t width s asks.leaf) is)) in
        omega (arith, same)

-- one solid more in a list
pub new_next : (known : Asked → Bool) (notes : List Note) (width : ℤ) (old new : List NotedSolid) (s : NotedSolid) → new ≡ old ++ s ∷ [] → new_noted known notes width new ≡ new_noted known notes width old + new_of_noted known notes width s
new_next known notes width old new s items =
    ap (new_noted known notes width) items ∙ sum_by-append (new_of_noted known notes width) old (s ∷ [])
    ∙ ap (λ (n : ℕ). new_noted known notes width old + n) (omega (arith, sum_by-cons (new_of_noted known notes width) s []))

-- a solid of a note is known where it is known in the note's body
pub noted_new : (known : Asked → Bool) (notes : List Note) (width : ℤ) (note : Note) (body : Tree) (p : NotePart) (s : SolidView) → slice_get notes p.note ≡ Some note → note.body ≡ body → new_of_noted known notes width (noted body p s) ≡ new_of known body width s
noted_new known notes width note body p s has is =
    ap (λ (o : Option Note). cond (option_map_or (λ (n : Note). is_known_at known n.body width s.placed_at) o false) 0 (steps_by s.kind)) has
    ∙ ap (λ (t : Tree). cond (is_known_at known t width s.placed_at) 0 (steps_by s.kind)) is

-- so a solid of a note that is read takes no step more than its list has lines more that aren't known
pub noted_steps : (known : Asked → Bool) (notes : List Note) (width : ℤ) (note : Note) (body : Tree) (p : NotePart) (s : SolidView) (start old new : List KeptLeaf) (first list more : List NotedSolid) (from steps steps' : ℕ) → slice_get notes p.note ≡ Some note → note.body ≡ body → AreKnown known start → KeepsHeld start old → AsksBy s.kind body width s old new steps steps' → steps' ≤ steps + steps_of s → more ≡ list ++ noted body p s ∷ [] → steps + new_noted known notes width first ≤ from + new_noted known notes width list → steps' + new_noted known notes width first ≤ from + new_noted known notes width more
noted_steps known notes width note body p s start old new first list more from steps steps' has is are keeps asks most items count =
    let step = asks_new known body width s start old new steps steps' are keeps asks most in
    let next = new_next known notes width list more (noted body p s) items in
    let own = noted_new known notes width note body p s has is in
    omega (arith, step, next, own, count)
