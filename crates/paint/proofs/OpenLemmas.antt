-- Open boxes as a list that grows and falls at its end.
use Rattle.std.proofs.Common.{◌≡◌, ◌<◌, ◌≤◌, ◌+◌, ◌-◌, ◌^◌, ◌≤ℤ◌, ◌+ℤ◌, ℕ, zero, suc, ℤ, pos, Bool, true, false, cond, ◌==◌, List, [], ◌∷◌, ◌++◌, Option, None, Some, length, take, get_or, slice_get, refl, sym, ap, ◌∙◌, subst, arith, length-append, ◌⊎◌, inl, inr}
use Rattle.std.proofs.Math.Seq.{take-append_seam, take-suc}
use Rattle.std.proofs.lemmas.Int.{ints}
use Rattle.std.proofs.lemmas.List.{length-take, length-take-le}
use Rattle.std.proofs.lemmas.Option.{same_Some, slice_get-get_or}
use Rattle.bk_num.specs.Limits.{most_open}
use Rattle.bk_num.specs.Numbers.{IsWithin}
use Rattle.boxes.proofs.ListLemmas.{get-end, get-push, get-take}
use Rattle.boxes.proofs.SpanLemmas.{most_open_at}
use Rattle.boxes.specs.Tree.{Tree, depth_of, open_before, rest_of}
use Rattle.boxes.specs.Spans.{span_in, span_or, span_along}
use Rattle.boxes.specs.declared.props.BoxProps.{BoxProps}
use Rattle.boxes.specs.declared.span.Content.{Content}
use Rattle.paint.specs.declared.opens.PlacedBox.{PlacedBox}
use Rattle.paint.specs.Opens.{AreBoxesWithin, IsContentWithin, IsNear, IsWide, content_along, content_of, pair_of, opens_of, boxes_from}

abbrev open_along : Tree → ℤ → ℕ → List ℕ → PlacedBox
open_along t m b boxes = record { number = b; content = content_along t m (b ∷ boxes) }

pub opens_size : (t : Tree) (m : ℤ) (boxes : List ℕ) → length (opens_of t m boxes) ≡ length boxes
opens_size t m [] = refl
opens_size t m (b ∷ boxes) = let r = opens_size t m boxes in omega (arith, length-append (opens_of t m boxes) (open_along t m b boxes ∷ []))

-- the last one is the innermost box
last_open : (t : Tree) (m : ℤ) (b : ℕ) (boxes : List ℕ) → slice_get (opens_of t m (b ∷ boxes)) (length (opens_of t m (b ∷ boxes)) - 1) ≡ Some (open_along t m b boxes)
last_open t m b boxes =
    let n : length (opens_of t m (b ∷ boxes)) - 1 ≡ length (opens_of t m boxes) = omega (arith, length-append (opens_of t m boxes) (open_along t m b boxes ∷ [])) in
    ap (slice_get (opens_of t m (b ∷ boxes))) n ∙ get-end (opens_of t m boxes) (open_along t m b boxes)

pub innermost_is : (t : Tree) (m : ℤ) (opens : List PlacedBox) (boxes : List ℕ) (o : PlacedBox) → opens ≡ opens_of t m boxes → slice_get opens (length opens - 1) ≡ Some o → o.content ≡ content_along t m boxes
innermost_is t m opens [] o same there = absurd (let e : None ≡ Some o = ap (λ (l : List PlacedBox). slice_get l (length l - 1)) (sym same) ∙ there in cc)
innermost_is t m opens (b ∷ boxes) o same there =
    ap (λ (x : PlacedBox). x.content) (same_Some _ _ (sym there ∙ ap (λ (l : List PlacedBox). slice_get l (length l - 1)) same ∙ last_open t m b boxes))

pub none_open : (t : Tree) (m : ℤ) (opens : List PlacedBox) (boxes : List ℕ) → opens ≡ opens_of t m boxes → slice_get opens (length opens - 1) ≡ None → record { left = pos 0; width = m } ≡ content_along t m boxes
none_open t m opens [] same none = refl
none_open t m opens (b ∷ boxes) same none = absurd (let e : None ≡ Some (open_along t m b boxes) = sym none ∙ ap (λ (l : List PlacedBox). slice_get l (length l - 1)) same ∙ last_open t m b boxes in cc)

-- without the innermost one they are those around it
pub around : (t : Tree) (m : ℤ) (opens : List PlacedBox) (boxes : List ℕ) (n : ℕ) → opens ≡ opens_of t m boxes → suc n ≡ length opens → take n opens ≡ opens_of t m (rest_of boxes)
around t m opens [] n same size = absurd (let s = ap length same in omega arith)
around t m opens (b ∷ boxes) n same size =
    let s = ap length same ∙ opens_size t m (b ∷ boxes) in
    let r = opens_size t m boxes in
    let place : n ≡ length (opens_of t m boxes) = omega arith in
    ap (take n) same ∙ ap (λ (k : ℕ). take k (opens_of t m boxes ++ open_along t m b boxes ∷ [])) place ∙ take-append_seam (opens_of t m boxes) (open_along t m b boxes ∷ [])

pub none_around : (t : Tree) (m : ℤ) (opens : List PlacedBox) (boxes : List ℕ) → opens ≡ opens_of t m boxes → length opens ≡ 0 → opens ≡ opens_of t m (rest_of boxes)
none_around t m opens [] same none = same
none_around t m opens (b ∷ boxes) same none = absurd (let n = ap length same ∙ opens_size t m (b ∷ boxes) in omega arith)

-- a box opens
pub opened : (t : Tree) (m : ℤ) (opens : List PlacedBox) (boxes : List ℕ) (b : ℕ) (p : BoxProps) (inner c : Content) → slice_get t.boxes b ≡ Some p → opens ≡ opens_of t m boxes → inner ≡ content_along t m boxes → c ≡ content_of (span_in p (pair_of inner)) →
    opens ++ record { number = b; content = c } ∷ [] ≡ opens_of t m (b ∷ boxes)
opened t m opens boxes b p inner c there same inner_is c_is =
    let own : c ≡ content_along t m (b ∷ boxes) = c_is ∙ ap (λ (i : Content). content_of (span_in p (pair_of i))) inner_is ∙ ap (λ (o : Option BoxProps). content_of (span_or o (span_along t.boxes m boxes))) (sym there) in
    ap (λ (l : List PlacedBox). l ++ record { number = b; content = c } ∷ []) same ∙ ap (λ (x : Content). opens_of t m boxes ++ record { number = b; content = x } ∷ []) own

-- the open boxes up to a place, where a box is sought from the innermost one outwards
pub record AreUpTo (t : Tree) (m : ℤ) (opens : List PlacedBox) (number at : ℕ) (boxes : List ℕ) : Type 0 where
  pub rest : List ℕ
  pub are : take at opens ≡ opens_of t m rest
  pub same : boxes_from number boxes ≡ boxes_from number rest

take_less : {A : Type 0} (xs : List A) (n : ℕ) → take n (take (suc n) xs) ≡ take n xs
take_less [] zero = refl
take_less [] (suc n) = refl
take_less (x ∷ xs) zero = refl
take_less {A} (x ∷ xs) (suc n) = ap (λ (l : List A). x ∷ l) (take_less xs n)

pub up_to_all : (t : Tree) (m : ℤ) (opens : List PlacedBox) (number : ℕ) (boxes : List ℕ) → opens ≡ opens_of t m boxes → take (length opens) opens ≡ opens → AreUpTo t m opens number (length opens) boxes
up_to_all t m opens number boxes same all = record { rest = boxes; are = all ∙ same; same = refl }

-- the outermost boxes up to a place, of which the last one stands there
record EndsWith (t : Tree) (m : ℤ) (opens : List PlacedBox) (n : ℕ) (o : PlacedBox) (rest : List ℕ) : Type 0 where
  inner : ℕ
  outer : List ℕ
  is : rest ≡ inner ∷ outer
  open_is : o ≡ open_along t m inner outer
  before : take n opens ≡ opens_of t m outer

ends_with : (t : Tree) (m : ℤ) (opens : List PlacedBox) (n : ℕ) (d : PlacedBox) (rest : List ℕ) → n < length opens → take (suc n) opens ≡ opens_of t m rest → EndsWith t m opens n (get_or opens n d) rest
ends_with t m opens n d [] less same = absurd (let s : length (take (suc n) opens) ≡ 0 = ap length same in let f = length-take-le (suc n) opens (omega arith) in omega arith)
ends_with t m opens n d (b ∷ boxes) less same =
    let size : length (take (suc n) opens) ≡ suc n = length-take-le (suc n) opens (omega arith) in
    let long : length (take (suc n) opens) ≡ length (opens_of t m boxes) + 1 = ap length same ∙ length-append (opens_of t m boxes) (open_along t m b boxes ∷ []) in
    let place : n ≡ length (opens_of t m boxes) = omega arith in
    let whole : take n opens ++ get_or opens n d ∷ [] ≡ opens_of t m boxes ++ open_along t m b boxes ∷ [] = sym (take-suc opens n d less) ∙ same in
    let got : Some (get_or opens n d) ≡ Some (open_along t m b boxes) =
    sym (get-end (take n opens) (get_or opens n d)) ∙ ap (slice_get (take n opens ++ get_or opens n d ∷ [])) (length-take-le n opens (omega arith) ∙ place)
    ∙ ap (λ (l : List PlacedBox). slice_get l (length (opens_of t m boxes))) whole ∙ get-end (opens_of t m boxes) (open_along t m b boxes) in
    record {
      inner = b;
      outer = boxes;
      is = refl;
      open_is = same_Some _ _ got;
      before = sym (take_less opens n) ∙ ap (take n) same ∙ ap (λ (k : ℕ). take k (opens_of t m boxes ++ open_along t m b boxes ∷ [])) place ∙ take-append_seam (opens_of t m boxes) (open_along t m b boxes ∷ []);
    }

-- the box at a place is another one
pub up_to_less : (t : Tree) (m : ℤ) (opens : List PlacedBox) (number n : ℕ) (d : PlacedBox) (boxes : List ℕ) → n < length opens → ((get_or opens n d).number == number) ≡ false → AreUpTo t m opens number (suc n) boxes → AreUpTo t m opens number n boxes
up_to_less t m opens number n d boxes less other u =
    let e = ends_with t m opens n d u.rest less u.are in
    let differs : (e.inner == number) ≡ false = ap (λ (o : PlacedBox). o.number == number) (sym e.open_is) ∙ other in
    record {
      rest = e.outer;
      are = e.before;
      same = u.same ∙ ap (boxes_from number) e.is ∙ ap (λ (b : Bool). cond b (e.inner ∷ e.outer) (boxes_from number e.outer)) differs;
    }

-- the box at a place is the one that is sought
pub found_at : (t : Tree) (m : ℤ) (opens : List PlacedBox) (number n : ℕ) (d : PlacedBox) (boxes : List ℕ) → n < length opens → ((get_or opens n d).number == number) ≡ true → AreUpTo t m opens number (suc n) boxes → (get_or opens n d).content ≡ content_along t m (boxes_from number boxes)
found_at t m opens number n d boxes less here u =
    let e = ends_with t m opens n d u.rest less u.are in
    let is : (e.inner == number) ≡ true = ap (λ (o : PlacedBox). o.number == number) (sym e.open_is) ∙ here in
    ap (λ (o : PlacedBox). o.content) e.open_is ∙ sym (ap (content_along t m) (u.same ∙ ap (boxes_from number) e.is ∙ ap (λ (b : Bool). cond b (e.inner ∷ e.outer) (boxes_from number e.outer)) is))

-- no box is the one that is sought
pub not_found : (t : Tree) (m : ℤ) (opens : List PlacedBox) (number : ℕ) (boxes : List ℕ) → AreUpTo t m opens number 0 boxes → pos 0 ≡ (content_along t m (boxes_from number boxes)).left
not_found t m opens number boxes u = go u.rest u.are ∙ sym (ap (λ (l : List ℕ). (content_along t m l).left) u.same)
  where
    go : (rest : List ℕ) → take 0 opens ≡ opens_of t m rest → pos 0 ≡ (content_along t m (boxes_from number rest)).left
    go [] same = refl
    go (b ∷ rest) same = absurd (let n = ap length same ∙ opens_size t m (b ∷ rest) in omega arith)

-- ---- bounds

-- the content of the innermost of at most 2,048 boxes is wide and near
pub bounded_wide : (n : ℕ) (c : Content) → n ≤ 2048 → IsContentWithin n c → IsWide c
bounded_wide n c few b = let low = b.low in let high = b.high in record { low = low; high = omega (arith, ints) }

pub bounded_near : (n : ℕ) (c : Content) → n ≤ 2048 → IsContentWithin n c → IsNear c
bounded_near n c few b = let low = b.left_low in let high = b.left_high in record { low = omega (arith, ints); high = omega (arith, ints) }

pub bounded_push : (opens new : List PlacedBox) (o : PlacedBox) → AreBoxesWithin opens → length opens < most_open → IsContentWithin (suc (length opens)) o.content → new ≡ opens ++ o ∷ [] → AreBoxesWithin new
bounded_push opens new o b room is new_is = subst AreBoxesWithin (sym new_is) (record {
  few = (let size = length-append opens (o ∷ []) in omega (arith, size));
  each = λ k p e. by k p (get-push opens o p k e);
})
  where
    by : (k : ℕ) (p : PlacedBox) → ((k ≡ length opens) × (p ≡ o)) ⊎ (slice_get opens k ≡ Some p) → IsContentWithin (suc k) p.content
    by k p (inl (place, same)) = subst (λ (n : ℕ). IsContentWithin (suc n) p.content) (sym place) (subst (λ (x : PlacedBox). IsContentWithin (suc (length opens)) x.content) (sym same) is)
    by k p (inr there) = b.each k p there

pub bounded_take : (opens : List PlacedBox) (n : ℕ) → AreBoxesWithin opens → AreBoxesWithin (take n opens)
bounded_take opens n b = record {
  few = (let size = length-take n opens in let few = b.few in omega (arith, size));
  each = λ k p e. b.each k p (get-take opens n k p e).1;
}

pub bounded_none : (opens : List PlacedBox) → opens ≡ [] → AreBoxesWithin opens
bounded_none opens none = subst AreBoxesWithin (sym none) (record { few = omega arith; each = λ k p e. absurd (cc) })

-- the innermost one is as bounded as its place tells
pub last_bounded : (opens : List PlacedBox) (o : PlacedBox) → AreBoxesWithin opens → slice_get opens (length opens - 1) ≡ Some o → IsContentWithin (length opens) o.content
last_bounded [] o b there = absurd (cc)
last_bounded (x ∷ opens) o b there =
    let same : suc (length (x ∷ opens) - 1) ≡ length (x ∷ opens) = omega arith in
    subst (λ (n : ℕ). IsContentWithin n o.content) same (b.each (length (x ∷ opens) - 1) o there)

-- a box inside the innermost one
pub inside_bounded : (n : ℕ) (around c : Content) → IsContentWithin n around → pos 0 ≤ℤ c.width → c.width ≤ℤ (around.width +ℤ pos (2 ^ 28)) → around.left ≤ℤ (c.left +ℤ pos (2 ^ 42)) → c.left ≤ℤ (around.left +ℤ pos (2 ^ 42)) → IsContentWithin (suc n) c
inside_bounded n around c b low high left_low left_high =
    let h = b.high in
    let l = b.left_low in
    let r = b.left_high in
    record { low = low; high = omega (arith, ints, h, high); left_low = omega (arith, ints, l, left_low); left_high = omega (arith, ints, r, left_high) }

-- the box that is sought is near
pub left_near : (opens : List PlacedBox) (number n : ℕ) (d : PlacedBox) → n < length opens → ((get_or opens n d).number == number) ≡ true → AreBoxesWithin opens → IsWithin (2 ^ 60) (get_or opens n d).content.left
left_near opens number n d less here b =
    let few = b.few in
    let there : slice_get opens n ≡ Some (get_or opens n d) = slice_get-get_or opens n d less in
    let near : IsNear (get_or opens n d).content = bounded_near (suc n) (get_or opens n d).content (omega arith) (b.each n (get_or opens n d) there) in
    let low = near.low in
    let high = near.high in
    omega (arith, ints, low, high)

-- fewer boxes are open before an event that opens one
pub few_open : (t : Tree) (m : ℤ) (opens : List PlacedBox) (k : ℕ) → depth_of t.events ≤ most_open → opens ≡ opens_of t m (open_before t.events k) → length opens ≤ most_open
few_open t m opens k few is =
    let size = ap length is ∙ opens_size t m (open_before t.events k) in
    let most : length (open_before t.events k) ≤ depth_of t.events = most_open_at [] t.events k in
    omega arith
