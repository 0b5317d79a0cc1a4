-- Boxes that are met on the way along the events of a tree.
use Rattle.std.proofs.Common.{◌≡◌, ◌<◌, ◌≤◌, ℕ, zero, suc, ℤ, ◌+◌, ◌+ℤ◌, ◌≤ℤ◌, ◌^◌, pos, List, [], ◌∷◌, ◌++◌, Option, None, Some, map, length, drop, slice_get, refl, sym, ap, ap₂, ◌∙◌, subst, arith, append_assoc, append-nil, length-append, ◌⊎◌, inl, inr}
use Rattle.std.proofs.lemmas.Int.{ints}
use Rattle.std.proofs.lemmas.List.{drop_all, length-map, map-append}
use Rattle.std.proofs.lemmas.Option.{slice_get_within}
use Rattle.std.specs.Option.{ForSome}
use Rattle.bk_num.specs.Numbers.{last_of}
use Rattle.bk_num.specs.declared.sides.BoxSide.TheVariants as side
use Rattle.boxes.specs.Clones.{clone_edge, clone_edges}
use Rattle.boxes.specs.Spans.{span_or}
use Rattle.boxes.specs.Tree.{Tree, IsTree, depth_of, open_with, open_before, first_of, rest_of}
use Rattle.boxes.specs.declared.place.Event.{Event}
use Rattle.boxes.specs.declared.place.Event.TheVariants.{Opens, Closes, Leaf}
use Rattle.boxes.proofs.ListLemmas.{get-push, get-keep, get-end, slice_get_at}
use Rattle.boxes.proofs.SpanLemmas.{most_open_at}
use Rattle.boxes.proofs.TreeLemmas.{open-step}
use Rattle.boxes.proofs.TreeFacts.{box_there, opens_once, closes_innermost}
use Rattle.boxes.specs.declared.span.Content.{Content}
use Rattle.paint.specs.declared.parts.Fragment.{Fragment}
use Rattle.bk_num.specs.Limits.{most_open}
use Rattle.paint.specs.Bounds.{IsGoodOrigin}
use Rattle.paint.specs.Opens.{IsContentWithin, content_along, content_of, pair_of}
use Rattle.paint.specs.declared.item.SolidOrigin.{SolidOrigin}
use Rattle.paint.specs.Parts.{ArePlaces, IsBelow, AscendTo, IsOn, IsOpened, HaveOpened, IsAt, HaveNone, IsGrown, IsRoomOf, LeavesTo, content_at, content_or, inside_at, inside_or, part_in, spine_of}
use Rattle.paint.proofs.ReachLemmas.{get-map}

-- each open box was opened by an earlier event, before which the boxes around it were open
abbrev pub WereBefore : List Event → ℕ → List ℕ → Type 0
WereBefore es k [] = Unit {0}
WereBefore es k (b ∷ boxes) = (o : ℕ) × (o < k) × (slice_get es o ≡ Some (Opens b)) × (open_before es o ≡ boxes) × WereBefore es o boxes

later : (es : List Event) (k n : ℕ) → k ≤ n → (boxes : List ℕ) → WereBefore es k boxes → WereBefore es n boxes
later es k n low [] w = tt
later es k n low (b ∷ boxes) w = (w.0, (let l = w.1 in omega arith), w.2, w.3, w.4)

rest_before : (es : List Event) (k : ℕ) (boxes : List ℕ) → WereBefore es k boxes → WereBefore es k (rest_of boxes)
rest_before es k [] w = tt
rest_before es k (b ∷ boxes) w = later es w.0 k (let l = w.1 in omega arith) boxes w.4

pub were_before : (es : List Event) (k : ℕ) → k ≤ length es → WereBefore es k (open_before es k)
were_before es zero low = tt
were_before es (suc k) low =
    let there = slice_get_at es k (omega arith) in
    subst (WereBefore es (suc k)) (sym (open-step es k there.0 there.1)) (by there.0 there.1 (were_before es k (omega arith)))
  where
    by : (e : Event) → slice_get es k ≡ Some e → WereBefore es k (open_before es k) → WereBefore es (suc k) (open_with (open_before es k) e)
    by (Opens b) at w = (k, omega arith, at, refl, w)
    by (Closes b) at w = later es k (suc k) (omega arith) _ (rest_before es k (open_before es k) w)
    by (Leaf l) at w = later es k (suc k) (omega arith) _ w

before_drop : (es : List Event) (n k : ℕ) (boxes : List ℕ) → WereBefore es k boxes → (o : ℕ) × WereBefore es o (drop n boxes)
before_drop es zero k boxes w = (k, w)
before_drop es (suc n) k [] w = (k, tt)
before_drop es (suc n) k (b ∷ boxes) w = before_drop es n w.0 boxes w.4

-- ---- places

pub places_grown : (spine more : List (ℕ × Option ℕ)) (places boxes : List ℕ) → ArePlaces spine places boxes → ArePlaces (spine ++ more) places boxes
places_grown spine more [] [] are = tt
places_grown spine more [] (b ∷ boxes) are = are
places_grown spine more (i ∷ places) [] are = are
places_grown spine more (i ∷ places) (b ∷ boxes) are = (get-keep spine more i (b, first_of places) are.0, are.1, places_grown spine more places boxes are.2)

pub first_within : (spine : List (ℕ × Option ℕ)) (places boxes : List ℕ) → ArePlaces spine places boxes → IsBelow (length spine) (first_of places)
first_within spine [] boxes are = tt
first_within spine (i ∷ places) [] are = absurd are
first_within spine (i ∷ places) (b ∷ boxes) are = slice_get_within spine i (b, first_of places) are.0

pub spine_push : (parts more : List Fragment) → spine_of (parts ++ more) ≡ spine_of parts ++ spine_of more
spine_push parts more = map-append (λ (p : Fragment). (p.number, p.outer)) parts more

pub spine_size : (parts : List Fragment) → length (spine_of parts) ≡ length parts
spine_size parts = length-map parts (λ (p : Fragment). (p.number, p.outer))

pub get-map-back : {A B : Type 0} (f : A → B) (xs : List A) (k : ℕ) (y : B) → slice_get (map f xs) k ≡ Some y → (x : A) × (slice_get xs k ≡ Some x) × (f x ≡ y)
get-map-back f [] k y e = absurd (cc)
get-map-back f (x ∷ xs) zero y e = (x, refl, let same : f x ≡ y = cc in same)
get-map-back f (x ∷ xs) (suc k) y e = get-map-back f xs k y e

pub spine_at : (parts : List Fragment) (i b : ℕ) (o : Option ℕ) → slice_get (spine_of parts) i ≡ Some (b, o) → (q : Fragment) × (slice_get parts i ≡ Some q) × (q.number ≡ b) × (q.outer ≡ o)
spine_at parts i b o e =
    let back = get-map-back (λ (x : Fragment). (x.number, x.outer)) parts i (b, o) e in
    (back.0, back.1, ap (λ (x : ℕ × Option ℕ). x.0) back.2, ap (λ (x : ℕ × Option ℕ). x.1) back.2)

pub inner_within : (parts : List Fragment) (boxes : List ℕ) (inner : Option ℕ) (at : ℕ) → IsOn parts boxes inner at → ForSome inner (λ i. i < length parts)
inner_within parts boxes inner at on i e = by (first_of on.places) (sym on.inner_is ∙ e) (first_within (spine_of parts) on.places boxes on.are)
  where
    by : (o : Option ℕ) → o ≡ Some i → IsBelow (length (spine_of parts)) o → i < length parts
    by None is below = absurd (cc)
    by (Some j) is below = let same : j ≡ i = cc in let size = spine_size parts in omega arith

-- the content of the innermost box is known
pub content_is : (t : Tree) → IsTree t → (m : ℤ) (parts : List Fragment) (boxes : List ℕ) (inner : Option ℕ) (at n : ℕ) → IsOn parts boxes inner at → HaveOpened t m parts → WereBefore t.events n boxes → content_at m parts inner ≡ content_along t m boxes
content_is t tree m parts boxes inner at n on opened w = ap (content_at m parts) on.inner_is ∙ by on.places boxes on.are w
  where
    by : (places bs : List ℕ) → ArePlaces (spine_of parts) places bs → WereBefore t.events n bs → content_at m parts (first_of places) ≡ content_along t m bs
    by [] [] are v = refl
    by [] (b ∷ bs) are v = absurd are
    by (i ∷ places) [] are v = absurd are
    by (i ∷ places) (b ∷ bs) are v =
        let back = spine_at parts i b (first_of places) are.0 in
        let q : Fragment = back.0 in
        let is : IsOpened t m q = opened i q back.1 in
        let place : q.event ≡ v.0 = opens_once t tree q.event v.0 b (is.opens ∙ ap (λ (x : ℕ). Some (Opens x)) back.2) v.2 in
        ap (content_or m) back.1 ∙ is.content_is ∙ ap (λ (x : ℕ). content_along t m (x ∷ open_before t.events q.event)) back.2
        ∙ ap (λ (k : ℕ). content_along t m (b ∷ open_before t.events k)) place ∙ ap (λ (l : List ℕ). content_along t m (b ∷ l)) v.3

-- and it is bounded
pub content_bounded : (t : Tree) → IsTree t → (o : SolidOrigin) (parts : List Fragment) (boxes : List ℕ) (inner : Option ℕ) (at n : ℕ) → IsGoodOrigin o → IsOn parts boxes inner at → HaveOpened t o.width parts → WereBefore t.events n boxes → IsContentWithin (length boxes) (content_at o.width parts inner)
content_bounded t tree o parts boxes inner at n good on opened w = subst (λ i. IsContentWithin (length boxes) (content_at o.width parts i)) (sym on.inner_is) (by on.places boxes on.are w)
  where
    by : (places bs : List ℕ) → ArePlaces (spine_of parts) places bs → WereBefore t.events n bs → IsContentWithin (length bs) (content_at o.width parts (first_of places))
    by [] [] are v = let low = good.low in let high = good.high in record { low = low; high = omega (arith, ints); left_low = omega (arith, ints); left_high = omega (arith, ints) }
    by [] (b ∷ bs) are v = absurd are
    by (i ∷ places) [] are v = absurd are
    by (i ∷ places) (b ∷ bs) are v =
        let back = spine_at parts i b (first_of places) are.0 in
        let q : Fragment = back.0 in
        let is : IsOpened t o.width q = opened i q back.1 in
        let place : q.event ≡ v.0 = opens_once t tree q.event v.0 b (is.opens ∙ ap (λ (x : ℕ). Some (Opens x)) back.2) v.2 in
        let boxes_is : open_before t.events q.event ≡ bs = ap (open_before t.events) place ∙ v.3 in
        subst (λ (p : Option Fragment). IsContentWithin (length (b ∷ bs)) (content_or o.width p)) (sym back.1) (subst (λ (l : List ℕ). IsContentWithin (suc (length l)) q.content) boxes_is is.content_bounded)

-- the top edges that stand again of it and of the boxes around it are known
pub inside_is : (t : Tree) → IsTree t → (m : ℤ) (parts : List Fragment) (boxes : List ℕ) (inner : Option ℕ) (at n : ℕ) → IsOn parts boxes inner at → HaveOpened t m parts → WereBefore t.events n boxes → inside_at parts inner ≡ clone_edges t m side.Top boxes
inside_is t tree m parts boxes inner at n on opened w = ap (inside_at parts) on.inner_is ∙ by on.places boxes on.are w
  where
    by : (places bs : List ℕ) → ArePlaces (spine_of parts) places bs → WereBefore t.events n bs → inside_at parts (first_of places) ≡ clone_edges t m side.Top bs
    by [] [] are v = refl
    by [] (b ∷ bs) are v = absurd are
    by (i ∷ places) [] are v = absurd are
    by (i ∷ places) (b ∷ bs) are v =
        let back = spine_at parts i b (first_of places) are.0 in
        let q : Fragment = back.0 in
        let is : IsOpened t m q = opened i q back.1 in
        let place : q.event ≡ v.0 = opens_once t tree q.event v.0 b (is.opens ∙ ap (λ (x : ℕ). Some (Opens x)) back.2) v.2 in
        ap inside_or back.1 ∙ is.inside_is ∙ ap (λ (x : ℕ). clone_edges t m side.Top (x ∷ open_before t.events q.event)) back.2
        ∙ ap (λ (k : ℕ). clone_edges t m side.Top (b ∷ open_before t.events k)) place ∙ ap (λ (l : List ℕ). clone_edges t m side.Top (b ∷ l)) v.3

-- and they are bounded
pub inside_bounded : (t : Tree) → IsTree t → (m : ℤ) (parts : List Fragment) (boxes : List ℕ) (inner : Option ℕ) (at n : ℕ) → IsOn parts boxes inner at → HaveOpened t m parts → WereBefore t.events n boxes → IsRoomOf (length boxes) (inside_at parts inner)
inside_bounded t tree m parts boxes inner at n on opened w = subst (λ i. IsRoomOf (length boxes) (inside_at parts i)) (sym on.inner_is) (by on.places boxes on.are w)
  where
    by : (places bs : List ℕ) → ArePlaces (spine_of parts) places bs → WereBefore t.events n bs → IsRoomOf (length bs) (inside_at parts (first_of places))
    by [] [] are v = (omega (arith, ints), omega (arith, ints))
    by [] (b ∷ bs) are v = absurd are
    by (i ∷ places) [] are v = absurd are
    by (i ∷ places) (b ∷ bs) are v =
        let back = spine_at parts i b (first_of places) are.0 in
        let q : Fragment = back.0 in
        let is : IsOpened t m q = opened i q back.1 in
        let place : q.event ≡ v.0 = opens_once t tree q.event v.0 b (is.opens ∙ ap (λ (x : ℕ). Some (Opens x)) back.2) v.2 in
        let boxes_is : open_before t.events q.event ≡ bs = ap (open_before t.events) place ∙ v.3 in
        subst (λ (p : Option Fragment). IsRoomOf (length (b ∷ bs)) (inside_or p)) (sym back.1) (subst (λ (l : List ℕ). IsRoomOf (suc (length l)) q.inside) boxes_is is.inside_bounded)

-- as long as a box more may open
pub room_before : (es : List Event) (k b : ℕ) → depth_of es ≤ most_open → slice_get es k ≡ Some (Opens b) → length (open_before es k) < most_open
room_before es k b few there =
    let more : length (open_before es (suc k)) ≤ depth_of es = most_open_at [] es (suc k) in
    let next : length (open_before es (suc k)) ≡ suc (length (open_before es k)) = ap (λ (l : List ℕ). length l) (open-step es k (Opens b) there) in
    omega arith

-- ---- a box more, a box less

ascend_push : (a at : ℕ) (parts : List Fragment) (q : Fragment) → AscendTo a parts at → at ≤ q.event → AscendTo a (parts ++ q ∷ []) (suc q.event)
ascend_push a at [] q up low = (omega arith, omega arith)
ascend_push a at (p ∷ parts) q up low = (up.0, ascend_push (suc p.event) at parts q up.1 low)

ascend_more : (a at n : ℕ) (parts : List Fragment) → AscendTo a parts at → at ≤ n → AscendTo a parts n
ascend_more a at n [] up low = omega arith
ascend_more a at n (p ∷ parts) up low = (up.0, ascend_more (suc p.event) at n parts up.1 low)

pub on_more : (parts : List Fragment) (boxes : List ℕ) (inner : Option ℕ) (at n : ℕ) → IsOn parts boxes inner at → at ≤ n → IsOn parts boxes inner n
on_more parts boxes inner at n on low = record { places = on.places; are = on.are; inner_is = on.inner_is; outers = on.outers; ascend = ascend_more 0 at n parts on.ascend low }

abbrev some_pair : ℕ → Option ℕ → Option (ℕ × Option ℕ)
some_pair n o = Some (n, o)

on_push : (parts : List Fragment) (boxes : List ℕ) (inner : Option ℕ) (at : ℕ) (q : Fragment) → q.outer ≡ inner → IsOn parts boxes inner at → at ≤ q.event → IsOn (parts ++ q ∷ []) (q.number ∷ boxes) (Some (length parts)) (suc q.event)
on_push parts boxes inner at q outer_is on low = record {
  places = length parts ∷ on.places;
  are = (place, below, subst (λ s. ArePlaces s on.places boxes) (sym (spine_push parts (q ∷ []))) (places_grown (spine_of parts) (spine_of (q ∷ [])) on.places boxes on.are));
  inner_is = refl;
  outers = λ j p e. outers j p (get-push parts q p j e);
  ascend = ascend_push 0 at parts q on.ascend low;
}
  where
    place : slice_get (spine_of (parts ++ q ∷ [])) (length parts) ≡ Some (q.number, first_of on.places)
    place = ap (λ s. slice_get s (length parts)) (spine_push parts (q ∷ [])) ∙ ap (slice_get (spine_of parts ++ (q.number, q.outer) ∷ [])) (sym (spine_size parts)) ∙ get-end (spine_of parts) (q.number, q.outer) ∙ ap (λ (o : Option ℕ). some_pair q.number o) (outer_is ∙ on.inner_is)

    below : IsBelow (length parts) (first_of on.places)
    below = subst (λ n. IsBelow n (first_of on.places)) (spine_size parts) (first_within (spine_of parts) on.places boxes on.are)

    outers : (j : ℕ) (p : Fragment) → ((j ≡ length parts) × (p ≡ q)) ⊎ (slice_get parts j ≡ Some p) → IsBelow j p.outer
    outers j p (inl (at_end, is)) = subst (λ (x : Fragment). IsBelow j x.outer) (sym is) (subst (λ o. IsBelow j o) (sym (outer_is ∙ on.inner_is)) (subst (λ n. IsBelow n (first_of on.places)) (sym at_end) below))
    outers j p (inr old) = on.outers j p old

on_pop : (parts : List Fragment) (b : ℕ) (boxes : List ℕ) (inner now : Option ℕ) (at : ℕ) → IsOn parts (b ∷ boxes) inner at → LeavesTo parts inner now → IsOn parts boxes now at
on_pop parts b boxes inner now at on to = by on.places on.are on.inner_is
  where
    by : (places : List ℕ) → ArePlaces (spine_of parts) places (b ∷ boxes) → inner ≡ first_of places → IsOn parts boxes now at
    by [] are is = absurd are
    by (i ∷ places) are is = of (subst (λ o. LeavesTo parts o now) is to)
      where
        of : LeavesTo parts (Some i) now → IsOn parts boxes now at
        of (p, there, now_is) =
            let two : Some (p.number, p.outer) ≡ Some (b, first_of places) = sym (get-map (λ (x : Fragment). (x.number, x.outer)) parts i p there) ∙ are.0 in
            let pair : (p.number, p.outer) ≡ (b, first_of places) = cc in
            record { places = places; are = are.2; inner_is = now_is ∙ ap (λ (x : ℕ × Option ℕ). x.1) pair; outers = on.outers; ascend = on.ascend }

opened_push : (t : Tree) (m : ℤ) (parts : List Fragment) (q : Fragment) → HaveOpened t m parts → IsOpened t m q → HaveOpened t m (parts ++ q ∷ [])
opened_push t m parts q opened is j p e = by (get-push parts q p j e)
  where
    by : ((j ≡ length parts) × (p ≡ q)) ⊎ (slice_get parts j ≡ Some p) → IsOpened t m p
    by (inl (at_end, same)) = subst (IsOpened t m) (sym same) is
    by (inr old) = opened j p old

-- the content of a box and that of the box around it are bounded, and so are the edges of both
pub record ArePartBounds (t : Tree) (m : ℤ) (parts : List Fragment) (inner : Option ℕ) (event b : ℕ) : Type 0 where
  pub around : IsContentWithin (length (open_before t.events event)) (content_at m parts inner)
  pub content : IsContentWithin (suc (length (open_before t.events event))) (part_in t m parts inner event b).content
  pub above : IsRoomOf (length (open_before t.events event)) (inside_at parts inner)
  pub inside : IsRoomOf (suc (length (open_before t.events event))) (part_in t m parts inner event b).inside

abbrev pub of_fields : ℕ → ℕ → Option ℕ → Content → Content → ℤ → ℤ → Fragment
of_fields event number outer around content above inside = record { event = event; number = number; outer = outer; around = around; content = content; above = above; inside = inside; reach = None; upper = None; lower = None }

-- what is written down of a box, field by field
pub part_same : (t : Tree) (m : ℤ) (parts : List Fragment) (inner : Option ℕ) (event b : ℕ) (around content : Content) (above top : ℤ) → around ≡ content_at m parts inner → content ≡ content_of (span_or (slice_get t.boxes b) (pair_of (content_at m parts inner))) → above ≡ inside_at parts inner →
    top ≡ clone_edge side.Top (slice_get t.boxes b) (content_at m parts inner).width → of_fields event b inner around content above (above +ℤ top) ≡ part_in t m parts inner event b
part_same t m parts inner event b around content above top around_is content_is above_is top_is =
    ap₂ (λ (x y : Content). of_fields event b inner x y above (above +ℤ top)) around_is content_is
    ∙ ap₂ (λ (y z : ℤ). of_fields event b inner (content_at m parts inner) (content_of (span_or (slice_get t.boxes b) (pair_of (content_at m parts inner)))) y (y +ℤ z)) above_is top_is

-- the edges of a box more
pub room_more : (n : ℕ) (above top edge : ℤ) → IsRoomOf n above → pos 0 ≤ℤ top → top ≤ℤ pos (2 ^ 28) → top ≡ edge → IsRoomOf (suc n) (above +ℤ edge)
room_more n above top edge room low high is =
    let least = room.0 in
    let most = room.1 in
    subst (λ (z : ℤ). IsRoomOf (suc n) (above +ℤ z)) is (omega (arith, ints, least, low), omega (arith, ints, most, high))

part_opened : (t : Tree) (m : ℤ) (parts : List Fragment) (inner : Option ℕ) (event b : ℕ) → slice_get t.events event ≡ Some (Opens b) → content_at m parts inner ≡ content_along t m (open_before t.events event) → inside_at parts inner ≡ clone_edges t m side.Top (open_before t.events event) → ArePartBounds t m parts inner event b →
    IsOpened t m (part_in t m parts inner event b)
part_opened t m parts inner event b at is above bounds = record {
  opens = at;
  around_is = is;
  content_is = ap (λ (c : Content). content_of (span_or (slice_get t.boxes b) (pair_of c))) is;
  above_is = above;
  inside_is = ap₂ (λ (z : ℤ) (c : Content). z +ℤ clone_edge side.Top (slice_get t.boxes b) c.width) above is;
  around_bounded = bounds.around;
  content_bounded = bounds.content;
  above_bounded = bounds.above;
  inside_bounded = bounds.inside;
}

-- ---- an event

pub pass_opens : (t : Tree) → IsTree t → (m : ℤ) (parts new : List Fragment) (at b : ℕ) (inner : Option ℕ) → at ≤ length t.events → slice_get t.events at ≡ Some (Opens b) → IsAt t m parts (record { event = at; inner = inner }) →
    new ≡ parts ++ part_in t m parts inner at b ∷ [] → ArePartBounds t m parts inner at b → IsAt t m new (record { event = at + 1; inner = Some (length parts) })
pass_opens t tree m parts new at b inner low there a new_is bounds =
    let q : Fragment = part_in t m parts inner at b in
    let next : suc at ≡ at + 1 = omega arith in
    let content : content_at m parts inner ≡ content_along t m (open_before t.events at) = content_is t tree m parts (open_before t.events at) inner at at a.on a.opened (were_before t.events at low) in
    let above : inside_at parts inner ≡ clone_edges t m side.Top (open_before t.events at) = inside_is t tree m parts (open_before t.events at) inner at at a.on a.opened (were_before t.events at low) in
    let on : IsOn (parts ++ q ∷ []) (b ∷ open_before t.events at) (Some (length parts)) (suc at) = on_push parts (open_before t.events at) inner at q refl a.on (omega arith) in
    let boxes : b ∷ open_before t.events at ≡ open_before t.events (suc at) = sym (open-step t.events at (Opens b) there) in
    let pushed : IsOn (parts ++ q ∷ []) (open_before t.events (suc at)) (Some (length parts)) (suc at) = subst (λ l. IsOn (parts ++ q ∷ []) l (Some (length parts)) (suc at)) boxes on in
    record {
      on = subst (λ ps. IsOn ps (open_before t.events (at + 1)) (Some (length parts)) (at + 1)) (sym new_is) (subst (λ (n : ℕ). IsOn (parts ++ q ∷ []) (open_before t.events n) (Some (length parts)) n) next pushed);
      opened = subst (HaveOpened t m) (sym new_is) (opened_push t m parts q a.opened (part_opened t m parts inner at b there content above bounds));
    }

pub pass_closes : (t : Tree) → IsTree t → (m : ℤ) (parts : List Fragment) (at b : ℕ) (inner now : Option ℕ) → slice_get t.events at ≡ Some (Closes b) → IsAt t m parts (record { event = at; inner = inner }) → LeavesTo parts inner now → IsAt t m parts (record { event = at + 1; inner = now })
pass_closes t tree m parts at b inner now there a to = by (open_before t.events at) refl (closes_innermost t tree at b there) a.on
  where
    by : (boxes : List ℕ) → open_before t.events at ≡ boxes → first_of boxes ≡ Some b → IsOn parts boxes inner at → IsAt t m parts (record { event = at + 1; inner = now })
    by [] e f on = absurd (cc)
    by (c ∷ boxes) e f on =
        let next : suc at ≡ at + 1 = omega arith in
        let rest : boxes ≡ open_before t.events (suc at) = sym (open-step t.events at (Closes b) there ∙ ap rest_of e) in
        let popped : IsOn parts (open_before t.events (suc at)) now at = subst (λ l. IsOn parts l now at) rest (on_pop parts c boxes inner now at on to) in
        record {
          on = subst (λ (n : ℕ). IsOn parts (open_before t.events n) now n) next (on_more parts (open_before t.events (suc at)) now at (suc at) popped (omega arith));
          opened = a.opened;
        }

pub pass_leaf : (t : Tree) (m : ℤ) (parts : List Fragment) (at l : ℕ) (inner : Option ℕ) → slice_get t.events at ≡ Some (Leaf l) → IsAt t m parts (record { event = at; inner = inner }) → IsAt t m parts (record { event = at + 1; inner = inner })
pass_leaf t m parts at l inner there a =
    let next : suc at ≡ at + 1 = omega arith in
    let same : IsOn parts (open_before t.events (suc at)) inner at = subst (λ l. IsOn parts l inner at) (sym (open-step t.events at (Leaf l) there)) a.on in
    record {
      on = subst (λ (n : ℕ). IsOn parts (open_before t.events n) inner n) next (on_more parts (open_before t.events (suc at)) inner at (suc at) same (omega arith));
      opened = a.opened;
    }

none_append : (parts more : List Fragment) → HaveNone parts → HaveNone more → HaveNone (parts ++ more)
none_append [] more a b = b
none_append (p ∷ parts) more a b = (a.0, none_append parts more a.1 b)

pub grown_none : (parts : List Fragment) → IsGrown parts parts
grown_none parts = ([], sym (append-nil parts), tt)

pub grown_push : (t : Tree) (m : ℤ) (parts new : List Fragment) (inner : Option ℕ) (event b : ℕ) → new ≡ parts ++ part_in t m parts inner event b ∷ [] → IsGrown parts new
grown_push t m parts new inner event b is = (part_in t m parts inner event b ∷ [], is, (record { no_reach = refl; no_upper = refl; no_lower = refl }, tt))

pub grown_more : (old parts new : List Fragment) → IsGrown old parts → IsGrown parts new → IsGrown old new
grown_more old parts new g h = (g.0 ++ h.0, h.1 ∙ ap (λ (ps : List Fragment). ps ++ h.0) g.1 ∙ append_assoc old g.0 h.0, none_append g.0 h.0 g.2 h.2)

-- ---- the boxes that are open at the start

-- the boxes of a chain were met down to a place, the outermost first
pub record IsStarted (t : Tree) (m : ℤ) (chain : List ℕ) (left : ℕ) (parts : List Fragment) : Type 0 where
  pub next : ℕ
  pub on : IsOn parts (drop left chain) (last_of (length parts)) next
  pub opened : HaveOpened t m parts
  pub low : (k : ℕ) → WereBefore t.events k (drop left chain) → next ≤ k
  pub fresh : HaveNone parts

pub started_none : (t : Tree) (m : ℤ) (chain : List ℕ) (parts : List Fragment) → length parts ≡ 0 → IsStarted t m chain (length chain) parts
started_none t m chain (p ∷ parts) none = absurd (omega arith)
started_none t m chain [] none =
    let nothing : drop (length chain) chain ≡ [] = drop_all (length chain) chain (omega arith) in
    record {
      next = 0;
      on = subst (λ l. IsOn [] l None 0) (sym nothing) (record { places = []; are = tt; inner_is = refl; outers = λ j p e. absurd (cc); ascend = omega arith });
      opened = λ j p e. absurd (cc);
      low = λ k w. omega arith;
      fresh = tt;
    }

pub started_step : (t : Tree) → IsTree t → (m : ℤ) (event left k b : ℕ) (chain : List ℕ) (parts new : List Fragment) → event ≤ length t.events → chain ≡ open_before t.events event → drop left chain ≡ b ∷ drop (suc left) chain → slice_get t.events k ≡ Some (Opens b) →
    new ≡ parts ++ part_in t m parts (last_of (length parts)) k b ∷ [] → ArePartBounds t m parts (last_of (length parts)) k b → IsStarted t m chain (suc left) parts → IsStarted t m chain left new
started_step t tree m event left k b chain parts new low chain_is cons there new_is bounds s = by (before_drop t.events left event chain (subst (WereBefore t.events event) (sym chain_is) (were_before t.events event low)))
  where
    rest : List ℕ
    rest = drop (suc left) chain

    by : ((o : ℕ) × WereBefore t.events o (drop left chain)) → IsStarted t m chain left new
    by d = of (subst (WereBefore t.events d.0) cons d.1)
      where
        of : WereBefore t.events d.0 (b ∷ drop (suc left) chain) → IsStarted t m chain left new
        of v =
            let q : Fragment = part_in t m parts (last_of (length parts)) k b in
            let place : v.0 ≡ k = opens_once t tree v.0 k b v.2 there in
            let were : WereBefore t.events k (drop (suc left) chain) = subst (λ (n : ℕ). WereBefore t.events n (drop (suc left) chain)) place v.4 in
            let content : content_at m parts (last_of (length parts)) ≡ content_along t m (open_before t.events k) =
            content_is t tree m parts (drop (suc left) chain) (last_of (length parts)) s.next k s.on s.opened were ∙ ap (content_along t m) (sym v.3 ∙ ap (open_before t.events) place) in
            let above : inside_at parts (last_of (length parts)) ≡ clone_edges t m side.Top (open_before t.events k) =
            inside_is t tree m parts (drop (suc left) chain) (last_of (length parts)) s.next k s.on s.opened were ∙ ap (clone_edges t m side.Top) (sym v.3 ∙ ap (open_before t.events) place) in
            let on : IsOn (parts ++ q ∷ []) (b ∷ drop (suc left) chain) (Some (length parts)) (suc k) = on_push parts (drop (suc left) chain) (last_of (length parts)) s.next q refl s.on (s.low k were) in
            let size : suc (length parts) ≡ length (parts ++ q ∷ []) = (rw length-append (omega arith)) in
            let on_all : IsOn (parts ++ q ∷ []) (drop left chain) (last_of (length (parts ++ q ∷ []))) (suc k) =
            subst (λ l. IsOn (parts ++ q ∷ []) l (last_of (length (parts ++ q ∷ []))) (suc k)) (sym cons) (subst (λ (n : ℕ). IsOn (parts ++ q ∷ []) (b ∷ drop (suc left) chain) (last_of n) (suc k)) size on) in
            record {
              next = suc k;
              on = subst (λ ps. IsOn ps (drop left chain) (last_of (length ps)) (suc k)) (sym new_is) on_all;
              opened = subst (HaveOpened t m) (sym new_is) (opened_push t m parts q s.opened (part_opened t m parts (last_of (length parts)) k b there content above bounds));
              low = λ n w. least n (subst (WereBefore t.events n) cons w);
              fresh = subst HaveNone (sym new_is) (none_append parts (q ∷ []) s.fresh (record { no_reach = refl; no_upper = refl; no_lower = refl }, tt));
            }
          where
            least : (n : ℕ) → WereBefore t.events n (b ∷ drop (suc left) chain) → suc k ≤ n
            least n w = let place : w.0 ≡ k = opens_once t tree w.0 k b w.2 there in let l = w.1 in omega arith

-- the content around the next box is bounded
pub started_bounded : (t : Tree) → IsTree t → (o : SolidOrigin) (event left k b : ℕ) (chain : List ℕ) (parts : List Fragment) → IsGoodOrigin o → event ≤ length t.events → chain ≡ open_before t.events event → drop left chain ≡ b ∷ drop (suc left) chain → slice_get t.events k ≡ Some (Opens b) →
    IsStarted t o.width chain (suc left) parts → IsContentWithin (length (open_before t.events k)) (content_at o.width parts (last_of (length parts)))
started_bounded t tree o event left k b chain parts good low chain_is cons there s = by (before_drop t.events left event chain (subst (WereBefore t.events event) (sym chain_is) (were_before t.events event low)))
  where
    by : ((n : ℕ) × WereBefore t.events n (drop left chain)) → IsContentWithin (length (open_before t.events k)) (content_at o.width parts (last_of (length parts)))
    by d =
        let v : WereBefore t.events d.0 (b ∷ drop (suc left) chain) = subst (WereBefore t.events d.0) cons d.1 in
        let place : v.0 ≡ k = opens_once t tree v.0 k b v.2 there in
        let boxes : drop (suc left) chain ≡ open_before t.events k = sym v.3 ∙ ap (open_before t.events) place in
        subst (λ (l : List ℕ). IsContentWithin (length l) (content_at o.width parts (last_of (length parts)))) boxes (content_bounded t tree o parts (drop (suc left) chain) (last_of (length parts)) s.next v.0 good s.on s.opened v.4)

-- and so are the edges around it
pub started_inside : (t : Tree) → IsTree t → (m : ℤ) (event left k b : ℕ) (chain : List ℕ) (parts : List Fragment) → event ≤ length t.events → chain ≡ open_before t.events event → drop left chain ≡ b ∷ drop (suc left) chain → slice_get t.events k ≡ Some (Opens b) →
    IsStarted t m chain (suc left) parts → IsRoomOf (length (open_before t.events k)) (inside_at parts (last_of (length parts)))
started_inside t tree m event left k b chain parts low chain_is cons there s = by (before_drop t.events left event chain (subst (WereBefore t.events event) (sym chain_is) (were_before t.events event low)))
  where
    by : ((n : ℕ) × WereBefore t.events n (drop left chain)) → IsRoomOf (length (open_before t.events k)) (inside_at parts (last_of (length parts)))
    by d =
        let v : WereBefore t.events d.0 (b ∷ drop (suc left) chain) = subst (WereBefore t.events d.0) cons d.1 in
        let place : v.0 ≡ k = opens_once t tree v.0 k b v.2 there in
        let boxes : drop (suc left) chain ≡ open_before t.events k = sym v.3 ∙ ap (open_before t.events) place in
        subst (λ (l : List ℕ). IsRoomOf (length l) (inside_at parts (last_of (length parts)))) boxes (inside_bounded t tree m parts (drop (suc left) chain) (last_of (length parts)) s.next v.0 s.on s.opened v.4)

pub started_all : (t : Tree) (m : ℤ) (event : ℕ) (chain : List ℕ) (parts : List Fragment) → event ≤ length t.events → chain ≡ open_before t.events event → IsStarted t m chain 0 parts → IsAt t m parts (record { event = event; inner = last_of (length parts) })
started_all t m event chain parts low is s = record {
  on = subst (λ l. IsOn parts l (last_of (length parts)) event) is (on_more parts chain (last_of (length parts)) s.next event s.on (s.low event (subst (WereBefore t.events event) (sym is) (were_before t.events event low))));
  opened = s.opened;
}

pub chain_there : (t : Tree) → IsTree t → (event left b : ℕ) (chain rest : List ℕ) → event ≤ length t.events → chain ≡ open_before t.events event → drop left chain ≡ b ∷ rest → b < length t.boxes
chain_there t tree event left b chain rest low is cons = by (before_drop t.events left event chain (subst (WereBefore t.events event) (sym is) (were_before t.events event low)))
  where
    by : ((o : ℕ) × WereBefore t.events o (drop left chain)) → b < length t.boxes
    by d = let v : WereBefore t.events d.0 (b ∷ rest) = subst (WereBefore t.events d.0) cons d.1 in box_there t tree v.0 b v.2
