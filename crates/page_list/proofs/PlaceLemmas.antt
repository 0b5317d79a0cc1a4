-- What stands of a leaf on the pages begins and ends where its lines may.
use Rattle.std.proofs.Common.{◌≡◌, ◌≢◌, ◌+◌, ℕ, Bool, true, false, cond, eqb, List, [], ◌∷◌, Some, length, slice_get, refl, sym, ap, ◌∙◌, subst, arith, ◌⊎◌, inl, inr, ⊎_elim}
use Rattle.std.proofs.lemmas.Bool.{eq-eqb}
use Rattle.std.proofs.lemmas.Bool.Decides.{eqb_tells}
use Rattle.std.proofs.lemmas.List.Elements.{All-cons, All-nil}
use Rattle.std.specs.List.{All}
use Rattle.boxes.proofs.TreeFacts.{one_leaf}
use Rattle.boxes.specs.Tree.{Tree}
use Rattle.boxes.specs.declared.leaf.Leaf.{Leaf as LeafData}
use Rattle.boxes.specs.declared.page.Placed.{Placed}
use Rattle.boxes.specs.declared.place.Event.TheVariants.{Opens, Closes, Leaf}
use Rattle.boxes.specs.declared.place.Position.{Position}
use Rattle.line_fill.specs.LineEnd.{IsEndPlace, IsLineBetween}
use Rattle.note_list.specs.Calls.{start_place}
use Rattle.page_list.specs.Laws.{LinesStandAtPlaces}
use Rattle.page_list.specs.Parted.{AreNextSolids, IsLineThere, IsNextSolid, IsPart, IsPartOfLeaf, stop_in}
use Rattle.page_list.specs.Parted.IsPart.{line, upper, lower}

-- lines of a leaf may end at a place of a tree
record EndsLine (t : Tree) (at : Position) : Type 0 where
  number : ℕ
  leaf : LeafData
  names : slice_get t.events at.event ≡ Some (Leaf number)
  has : slice_get t.leaves number ≡ Some leaf
  place : IsEndPlace leaf at.offset

-- a line may begin at a place of a tree
abbrev BeginsLine : Tree → Position → Type 0
BeginsLine t at = (at.offset ≡ 0) ⊎ EndsLine t at

-- the next solid begins where a line may
next_begins : (t : Tree) (at : Position) (p : Placed) → BeginsLine t at → IsNextSolid t at p → BeginsLine t p.at
next_begins t at p begins n = by (eqb_tells p.at.event at.event)
  where
    by : ((eqb p.at.event at.event ≡ true) × (p.at.event ≡ at.event)) ⊎ ((eqb p.at.event at.event ≡ false) × (p.at.event ≢ at.event)) → BeginsLine t p.at
    by (inr other) = inl (n.begins ∙ ap (λ (b : Bool). cond b at.offset 0) other.0)
    by (inl same) = ⊎_elim
        (λ (o : at.offset ≡ 0). inl (offset ∙ o))
        (λ (e : EndsLine t at). inr (record { number = e.number; leaf = e.leaf; names = ap (slice_get t.events) same.1 ∙ e.names; has = e.has; place = subst (IsEndPlace e.leaf) (sym offset) e.place }))
        begins
      where
        offset : p.at.offset ≡ at.offset
        offset = n.begins ∙ ap (λ (b : Bool). cond b at.offset 0) same.0

-- and so does what stands behind it
end_begins : (t : Tree) (p : Placed) → IsPart t p → BeginsLine t p.end
end_begins t p (line l) = subst (BeginsLine t) (sym l.ends) (by (eqb l.to (length l.leaf.text)))
  where
    by : (b : Bool) → BeginsLine t (cond b (record { event = p.at.event + 1; offset = 0 }) (record { event = p.at.event; offset = l.to }))
    by true = inl refl
    by false = inr (record { number = l.number; leaf = l.leaf; names = l.names; has = l.has; place = l.place })
end_begins t p (upper b e w) = inl (ap (λ (q : Position). q.offset) w.ends)
end_begins t p (lower b e w) = inl (ap (λ (q : Position). q.offset) w.ends)

-- a line ends at a place of its leaf
stop_is : (t : Tree) (p : Placed) (l : IsPartOfLeaf t p) → stop_in l.leaf p ≡ l.to
stop_is t p l = ap (λ (q : Position). cond (eqb q.event p.at.event) q.offset (length l.leaf.text)) l.ends ∙ by (eqb_tells l.to (length l.leaf.text))
  where
    at_stop : (b : Bool) → Position
    at_stop b = cond b (record { event = p.at.event + 1; offset = 0 }) (record { event = p.at.event; offset = l.to })

    stop : Bool → ℕ
    stop b = cond (eqb (at_stop b).event p.at.event) (at_stop b).offset (length l.leaf.text)

    by : ((eqb l.to (length l.leaf.text) ≡ true) × (l.to ≡ length l.leaf.text)) ⊎ ((eqb l.to (length l.leaf.text) ≡ false) × (l.to ≢ length l.leaf.text)) → stop (eqb l.to (length l.leaf.text)) ≡ l.to
    by (inl same) =
        let later : eqb (p.at.event + 1) p.at.event ≡ false = grind arith in
        ap stop same.0 ∙ ap (λ (b : Bool). cond b 0 (length l.leaf.text)) later ∙ sym same.1
    by (inr other) =
        ap stop other.0 ∙ ap (λ (b : Bool). cond b l.to (length l.leaf.text)) (eq-eqb p.at.event p.at.event refl)

line_there : (t : Tree) (p : Placed) → BeginsLine t p.at → IsPart t p → IsLineThere t p
line_there t p begins (line l) = λ number leaf names has.
    subst (λ (x : LeafData). IsLineBetween x p.at.offset (stop_in x p)) (one_leaf t p.at.event l.number number l.leaf leaf l.names l.has names has)
    (subst (IsLineBetween l.leaf p.at.offset) (sym (stop_is t p l)) (record { begins = from begins; after = l.after; within = l.within; ends = l.place }))
  where
    from : BeginsLine t p.at → (p.at.offset ≡ 0) ⊎ IsEndPlace l.leaf p.at.offset
    from (inl o) = inl o
    from (inr e) = inr (subst (λ (x : LeafData). IsEndPlace x p.at.offset) (one_leaf t p.at.event e.number l.number e.leaf l.leaf e.names e.has l.names l.has) e.place)
line_there t p begins (upper b e w) = λ number leaf names has. absurd (let other : Some (Opens b) ≡ Some (Leaf number) = sym e ∙ names in cc)
line_there t p begins (lower b e w) = λ number leaf names has. absurd (let other : Some (Closes b) ≡ Some (Leaf number) = sym e ∙ names in cc)

all_there : (t : Tree) (at : Position) (solids : List Placed) → BeginsLine t at → AreNextSolids t at solids → All (IsLineThere t) solids
all_there t at [] begins r = All-nil (IsLineThere t)
all_there t at (p ∷ solids) begins r =
    let is : IsNextSolid t at p = r.1.0 in
    All-cons (IsLineThere t) p solids (line_there t p (next_begins t at p begins is) is.part)
    (all_there t r.0 solids (subst (BeginsLine t) (sym r.1.1) (end_begins t p is.part)) r.2)

pub lines_there : LinesStandAtPlaces
lines_there t solids holds = all_there t start_place solids (inl refl) holds
