-- The boxes that are open at a place, as a list that grows and falls at its end.
use Rattle.std.proofs.Common.{◌≡◌, ◌≤◌, ◌<◌, ◌+◌, ◌-◌, ℕ, zero, suc, ℤ, pos, ◌+ℤ◌, List, [], ◌∷◌, ◌++◌, Option, Some, length, take, slice_get, refl, sym, ap, ◌∙◌, arith, length-append, ◌⊎◌, inl, inr, subst}
use Rattle.std.proofs.Math.Seq.{take-append_seam}
use Rattle.std.proofs.lemmas.Option.{same_Some}
use Rattle.boxes.specs.declared.props.BoxProps.{BoxProps}
use Rattle.bk_num.specs.declared.sides.BoxSide.TheVariants as side
use Rattle.boxes.specs.Clones.{clone_edge, clone_edges}
use Rattle.boxes.specs.Spans.{span_along, span_or, width_in_block}
use Rattle.boxes.specs.Tree.{Tree, rest_of}
use Rattle.boxes.proofs.ListLemmas.{get-push, get-end, get-before, get-take, take-get}
use Rattle.seams.specs.declared.open_box.OpenBox.{OpenBox}
use Rattle.seams.specs.Runs.{width_in}
use Rattle.seams.specs.Widths.{innermost_in, widths_of, IsBounded, AreBounded}

pub widths_size : (t : Tree) (m : ℤ) (boxes : List ℕ) → length (widths_of t m boxes) ≡ length boxes
widths_size t m [] = refl
widths_size t m (b ∷ boxes) = let r = widths_size t m boxes in omega (arith, length-append (widths_of t m boxes) (innermost_in t m (b ∷ boxes) ∷ []))

-- the last of the outermost boxes, so many of them, is the innermost of these
pub depth_is : (t : Tree) (m : ℤ) (ws : List OpenBox) (inner outer : List ℕ) (at : ℕ) (w : OpenBox) → ws ≡ widths_of t m (inner ++ outer) → suc at ≡ length outer → slice_get ws at ≡ Some w → w ≡ innermost_in t m outer
depth_is t m ws [] [] at w same last there = absurd (omega arith)
depth_is t m ws [] (b ∷ outer) at w same last there =
    let r = widths_size t m outer in
    let place : at ≡ length (widths_of t m outer) = omega arith in
    same_Some _ _ (sym there ∙ ap (slice_get ws) place ∙ ap (λ (l : List OpenBox). slice_get l (length (widths_of t m outer))) same ∙ get-end (widths_of t m outer) (innermost_in t m (b ∷ outer)))
depth_is t m ws (b ∷ inner) outer at w same last there =
    let r = widths_size t m (inner ++ outer) in
    let long : at < length (widths_of t m (inner ++ outer)) = omega (arith, length-append inner outer) in
    depth_is t m (widths_of t m (inner ++ outer)) inner outer at w refl last (sym (get-before (widths_of t m (inner ++ outer)) (innermost_in t m (b ∷ (inner ++ outer))) at long) ∙ ap (λ (l : List OpenBox). slice_get l at) (sym same) ∙ there)

pub none_is : (t : Tree) (m : ℤ) (outer : List ℕ) → length outer ≡ 0 → record { width = m; head = pos 0; tail = pos 0 } ≡ innermost_in t m outer
none_is t m [] none = refl
none_is t m (b ∷ outer) none = absurd (omega arith)

-- the innermost of some open boxes, before those around it
pub first_in : List ℕ → List ℕ
first_in [] = []
first_in (b ∷ boxes) = b ∷ []

pub first_rest : (boxes : List ℕ) → boxes ≡ first_in boxes ++ rest_of boxes
unfolding first_in
first_rest [] = refl
first_rest (b ∷ boxes) = refl

pub rest_size : (boxes : List ℕ) → length (rest_of boxes) ≡ length boxes - 1
rest_size [] = refl
rest_size (b ∷ boxes) = omega arith

pub none_around : (t : Tree) (m : ℤ) (ws : List OpenBox) (boxes : List ℕ) → ws ≡ widths_of t m boxes → length ws ≤ 1 → m ≡ width_in t m (rest_of boxes)
none_around t m ws [] same few = refl
none_around t m ws (b ∷ []) same few = refl
none_around t m ws (b ∷ c ∷ boxes) same few = absurd (let n = ap length same ∙ widths_size t m (b ∷ c ∷ boxes) in omega arith)

-- a box opens
pub widths_opened : (t : Tree) (m : ℤ) (ws : List OpenBox) (boxes : List ℕ) (b : ℕ) (p : BoxProps) (inner w : OpenBox) → slice_get t.boxes b ≡ Some p → ws ≡ widths_of t m boxes → inner ≡ innermost_in t m boxes →
    w.width ≡ width_in_block p inner.width → w.head ≡ inner.head +ℤ clone_edge side.Top (Some p) inner.width → w.tail ≡ inner.tail +ℤ clone_edge side.Bottom (Some p) inner.width → ws ++ w ∷ [] ≡ widths_of t m (b ∷ boxes)
widths_opened t m ws boxes b p inner w there same inner_is width head tail = ap (λ (l : List OpenBox). l ++ w ∷ []) same ∙ ap (λ (x : OpenBox). widths_of t m boxes ++ x ∷ []) own
  where
    made : ℤ → ℤ → ℤ → OpenBox
    made width head tail = record { width = width; head = head; tail = tail }

    width_is : w.width ≡ width_in t m (b ∷ boxes)
    width_is = width ∙ ap (λ (o : OpenBox). width_in_block p o.width) inner_is ∙ ap (λ (o : Option BoxProps). (span_or o (span_along t.boxes m boxes)).1) (sym there)

    head_is : w.head ≡ clone_edges t m side.Top (b ∷ boxes)
    head_is = head ∙ ap (λ (o : OpenBox). o.head +ℤ clone_edge side.Top (Some p) o.width) inner_is ∙ ap (λ (o : Option BoxProps). clone_edges t m side.Top boxes +ℤ clone_edge side.Top o (width_in t m boxes)) (sym there)

    tail_is : w.tail ≡ clone_edges t m side.Bottom (b ∷ boxes)
    tail_is = tail ∙ ap (λ (o : OpenBox). o.tail +ℤ clone_edge side.Bottom (Some p) o.width) inner_is ∙ ap (λ (o : Option BoxProps). clone_edges t m side.Bottom boxes +ℤ clone_edge side.Bottom o (width_in t m boxes)) (sym there)

    own : w ≡ innermost_in t m (b ∷ boxes)
    own = ap (λ (z : ℤ). made z w.head w.tail) width_is ∙ ap (λ (z : ℤ). made (width_in t m (b ∷ boxes)) z w.tail) head_is ∙ ap (made (width_in t m (b ∷ boxes)) (clone_edges t m side.Top (b ∷ boxes))) tail_is

-- the innermost box closes
pub widths_closed : (t : Tree) (m : ℤ) (ws : List OpenBox) (boxes : List ℕ) (n : ℕ) → ws ≡ widths_of t m boxes → suc n ≡ length ws → take n ws ≡ widths_of t m (rest_of boxes)
widths_closed t m ws [] n same size = absurd (let s = ap length same in omega arith)
widths_closed t m ws (b ∷ boxes) n same size =
    let s = ap length same ∙ widths_size t m (b ∷ boxes) in
    let r = widths_size t m boxes in
    let place : n ≡ length (widths_of t m boxes) = omega arith in
    ap (take n) same ∙ ap (λ (k : ℕ). take k (widths_of t m boxes ++ innermost_in t m (b ∷ boxes) ∷ [])) place ∙ take-append_seam (widths_of t m boxes) (innermost_in t m (b ∷ boxes) ∷ [])

pub none_closed : (t : Tree) (m : ℤ) (ws : List OpenBox) (boxes : List ℕ) → ws ≡ widths_of t m boxes → length ws ≡ 0 → ws ≡ widths_of t m (rest_of boxes)
none_closed t m ws [] same none = same
none_closed t m ws (b ∷ boxes) same none = absurd (let n = ap length same ∙ widths_size t m (b ∷ boxes) in omega arith)

pub bounded_more : (ws : List OpenBox) (w : OpenBox) → AreBounded ws → IsBounded (length ws + 1) w → AreBounded (ws ++ w ∷ [])
bounded_more ws w h own k v e = by (get-push ws w v k e)
  where
    by : ((k ≡ length ws) × (v ≡ w)) ⊎ (slice_get ws k ≡ Some v) → IsBounded (suc k) v
    by (inl (at, is)) = let size : length ws + 1 ≡ suc k = omega arith in subst (IsBounded (suc k)) (sym is) (subst (λ (n : ℕ). IsBounded n w) size own)
    by (inr old) = h k v old

pub bounded_less : (ws : List OpenBox) (m n : ℕ) → m ≤ n → AreBounded (take n ws) → AreBounded (take m ws)
bounded_less ws m n low h k v e = let g = get-take ws m k v e in let less = g.0 in h k v (take-get ws n k v (omega arith) g.1)

pub take_twice : (ws : List OpenBox) (m n : ℕ) → m ≤ n → take m (take n ws) ≡ take m ws
take_twice [] zero zero low = refl
take_twice [] zero (suc n) low = refl
take_twice [] (suc m) zero low = refl
take_twice [] (suc m) (suc n) low = refl
take_twice (w ∷ ws) zero zero low = refl
take_twice (w ∷ ws) zero (suc n) low = refl
take_twice (w ∷ ws) (suc m) zero low = absurd (omega arith)
take_twice (w ∷ ws) (suc m) (suc n) low = ap (λ (l : List OpenBox). w ∷ l) (take_twice ws m n (omega arith))
