-- The rectangles of a page, by the boxes that were met and by the events that open them.
use Rattle.std.proofs.Common.{◌≡◌, ◌<◌, ◌≤◌, ℕ, zero, suc, ℤ, ◌+◌, ◌-◌, nat_lt, List, [], ◌∷◌, ◌++◌, Option, None, Some, Bool, true, false, cond, not, ◌&&◌, ◌||◌, ◌==◌, length, slice_get, refl, sym, ap, ap₂, ◌∙◌, subst, arith, ◌⊎◌, inl, inr}
use Rattle.std.specs.Option.{ForSome, option_or}
use Rattle.std.specs.List.{All, filter, flat_map, list_any, range_with_len}
use Rattle.std.proofs.lemmas.Bool.{cases_order, cases_eq, cases_lt, le-ltb, lt-ltb, eq-eqb, ne_eqb}
use Rattle.std.proofs.lemmas.Int.{ints}
use Rattle.bk_num.specs.Limits.{most_open}
use Rattle.bk_num.proofs.ListLemmas.{all-from}
use Rattle.boxes.specs.Tree.{Tree, IsTree, depth_of, open_before, first_of, is_opening}
use Rattle.boxes.specs.declared.item.Item.{Item}
use Rattle.boxes.specs.declared.place.Event.{Event}
use Rattle.boxes.specs.declared.place.Event.TheVariants.{Opens, Closes, Leaf}
use Rattle.boxes.specs.declared.page.Placed.{Placed}
use Rattle.boxes.specs.declared.props.BoxProps.{BoxProps}
use Rattle.boxes.specs.Clones.{open_through}
use Rattle.boxes.specs.Clones as clones
use Rattle.boxes.proofs.ListLemmas.{slice_get_at}
use Rattle.boxes.proofs.SpanLemmas.{most_open_at}
use Rattle.boxes.proofs.TreeFacts.{box_there, closes_innermost, opens_once}
use Rattle.notes.specs.Near.{IsNearSolid}
use Rattle.paint.specs.declared.extent.VerticalExtent.{VerticalExtent}
use Rattle.paint.specs.declared.item.SolidOrigin.{SolidOrigin}
use Rattle.boxes.specs.declared.span.Content.{Content}
use Rattle.paint.specs.declared.parts.Fragment.{Fragment}
use Rattle.paint.specs.declared.parts.Reached.{Reached}
use Rattle.seams.specs.Runs.{events_in, is_solid_at, run_end, run_start, solid_before, is_closing}
use Rattle.seams.specs.Runs as runs
use Rattle.paint.specs.Bounds.{IsNearExtent, IsNearPart}
use Rattle.paint.specs.Clones.{first_solid, foot_edge, head_edge, parted_before, run_before, upper_again, with_lower, with_upper}
use Rattle.paint.specs.Fragments.{boxes_at, boxes_with, closes_box, extent_of, here, is_lower, is_upper, join, opens_box, reach_by, reach_of, stands_in}
use Rattle.paint.specs.Items.{for_some}
use Rattle.paint.specs.Opens.{IsWide, content_along}
use Rattle.paint.specs.Order.{AreInOrder}
use Rattle.paint.specs.Pages.{opened_by, opened_rects, rects_at, rects_of}
use Rattle.paint.specs.Parts.{AreClosedAgain, AreGathered, AreMarks, AreMarksOf, AreMerged, AreMet, ArePlaces, AreReached, AscendTo, HaveFrom, HaveOpened, IsAt, IsBelow, IsInnermost, IsOpened, Mark, any_event, bare, bare_of, begin_of, is_at, over_marks, own_rects, part_head, part_rects, place_of, reaches, solids_by, spine_of, with_foot, with_head}
use Rattle.paint.specs.Rects.{fragment_rects}
use Rattle.paint.proofs.BoundLemmas.{extent_near}
use Rattle.paint.proofs.GatherLemmas.{ascend_same, at_same, places_bare, same_place}
use Rattle.paint.proofs.OpenLemmas.{bounded_near, bounded_wide}
use Rattle.paint.proofs.PartLemmas.{WereBefore, first_within, get-map-back, room_before, spine_at, spine_size, were_before}
use Rattle.paint.proofs.ReachLemmas.{after_last, get-map, over_same, spine_same}
use Rattle.paint.proofs.ThroughLemmas.{AreLate, IsSplit, all_stay, split_to, through_more}

-- ---- marks and solids

-- the extent of the marks that pass is that of the solids that pass
over_reach : (spine : List (ℕ × Option ℕ)) (test : Option Event → Bool) (es : List Event) (r : List ℕ → Bool) (q : Placed → Bool) →
    ((s : Placed) → test (slice_get es s.at.event) ≡ false → q s ≡ false) → ((s : Placed) (places : List ℕ) → test (slice_get es s.at.event) ≡ true → ArePlaces spine places (boxes_at es s.at.event) → r places ≡ q s) →
    (solids : List Placed) (marks : List Mark) → AreMarksOf spine es (solids_by test es solids) marks → over_marks r marks ≡ reach_by q solids
over_reach spine test es r q miss hit [] [] are = refl
over_reach spine test es r q miss hit [] (m ∷ marks) are = absurd are
over_reach spine test es r q miss hit (s ∷ solids) marks are = by (λ ms a. over_reach spine test es r q miss hit solids ms a) (test (slice_get es s.at.event)) refl marks are
  where
    by : ((ms : List Mark) → AreMarksOf spine es (solids_by test es solids) ms → over_marks r ms ≡ reach_by q solids) → (b : Bool) → test (slice_get es s.at.event) ≡ b → (ms : List Mark) → AreMarksOf spine es (cond b (s ∷ solids_by test es solids) (solids_by test es solids)) ms →
        over_marks r ms ≡ join (here (q s) (extent_of s)) (reach_by q solids)
    by rest true is [] a = absurd a
    by rest true is (m ∷ ms) a = ap₂ join (ap₂ here (hit s m.places is a.0) a.1) (rest ms a.2)
    by rest false is ms a = rest ms a ∙ sym (ap (λ b. join (here b (extent_of s)) (reach_by q solids)) (miss s is))

are_marks : (spine : List (ℕ × Option ℕ)) (es : List Event) (solids : List Placed) (marks : List Mark) → AreMarksOf spine es solids marks → AreMarks spine marks
are_marks spine es [] [] are = tt
are_marks spine es [] (m ∷ marks) are = absurd are
are_marks spine es (s ∷ solids) [] are = absurd are
are_marks spine es (s ∷ solids) (m ∷ marks) are = ((boxes_at es s.at.event, are.0), are_marks spine es solids marks are.2)

own_from : (parts : List Fragment) (marks : List Mark) → AreMarks (spine_of parts) marks → ((j : ℕ) (p : Fragment) → slice_get parts j ≡ Some p → p.reach ≡ over_marks (λ places. is_at (first_of places) j) marks) → HaveFrom (length parts) parts marks
own_from parts marks are own j p e = own j p e ∙ over_same (spine_of parts) (λ places. is_at (first_of places) j) (reaches (length parts) j) marks are
    (λ places boxes a. sym (after_last (spine_of parts) places boxes (length parts) j a (subst (λ n. IsBelow n (first_of places)) (spine_size parts) (first_within (spine_of parts) places boxes a))))

-- ---- a box is met once

ascend_from : (a at : ℕ) (parts : List Fragment) (j : ℕ) (p : Fragment) → AscendTo a parts at → slice_get parts j ≡ Some p → a ≤ p.event
ascend_from a at [] j p up e = absurd (cc)
ascend_from a at (q ∷ parts) zero p up e = let same : q ≡ p = cc in subst (λ (x : Fragment). a ≤ x.event) same up.0
ascend_from a at (q ∷ parts) (suc j) p up e = let more = ascend_from (suc q.event) at parts j p up.1 e in let low = up.0 in omega arith

ascend_apart : (a at : ℕ) (parts : List Fragment) (i j : ℕ) (p q : Fragment) → AscendTo a parts at → slice_get parts i ≡ Some p → slice_get parts j ≡ Some q → p.event ≡ q.event → i ≡ j
ascend_apart a at [] i j p q up x y e = absurd (cc)
ascend_apart a at (r ∷ parts) zero zero p q up x y e = refl
ascend_apart a at (r ∷ parts) zero (suc j) p q up x y e = let same : r ≡ p = cc in let event : r.event ≡ p.event = ap (λ (z : Fragment). z.event) same in let more = ascend_from (suc r.event) at parts j q up.1 y in absurd (omega arith)
ascend_apart a at (r ∷ parts) (suc i) zero p q up x y e = let same : r ≡ q = cc in let event : r.event ≡ q.event = ap (λ (z : Fragment). z.event) same in let more = ascend_from (suc r.event) at parts i p up.1 x in absurd (omega arith)
ascend_apart a at (r ∷ parts) (suc i) (suc j) p q up x y e = ap (λ n. suc n) (ascend_apart (suc r.event) at parts i j p q up.1 x y e)

pub met_apart : (t : Tree) → IsTree t → (m : ℤ) (parts : List Fragment) → AreMet t m parts → (i j : ℕ) (p q : Fragment) → slice_get parts i ≡ Some p → slice_get parts j ≡ Some q → p.number ≡ q.number → i ≡ j
met_apart t tree m parts met i j p q x y e =
    let opens_p = (met.opened i p x).opens in
    let opens_q = (met.opened j q y).opens in
    ascend_apart 0 met.at parts i j p q met.ascend x y (opens_once t tree p.event q.event q.number (opens_p ∙ ap (λ (n : ℕ). Some (Opens n)) e) opens_q)

-- a box's place is that of another where its number is
place_eq : (t : Tree) → IsTree t → (o : SolidOrigin) (parts : List Fragment) → AreMet t o.width parts → (j : ℕ) (p : Fragment) → slice_get parts j ≡ Some p → (i d : ℕ) (outer : Option ℕ) → slice_get (spine_of parts) i ≡ Some (d, outer) → (i == j) ≡ (d == p.number)
place_eq t tree o parts met j p there i d outer at_i = by (cases_eq i j)
  where
    back : (q : Fragment) × (slice_get parts i ≡ Some q) × (q.number ≡ d) × (q.outer ≡ outer)
    back = spine_at parts i d outer at_i

    by : (i ≡ j) ⊎ (i ≡ j → ⊥) → (i == j) ≡ (d == p.number)
    by (inl e) =
        let two : Some back.0 ≡ Some p = sym back.1 ∙ ap (slice_get parts) e ∙ there in
        let same : back.0 ≡ p = cc in
        let number : d ≡ p.number = sym back.2 ∙ ap (λ (x : Fragment). x.number) same in
        eq-eqb i j e ∙ sym (eq-eqb d p.number number)
    by (inr other) = ne_eqb i j other ∙ sym (ne_eqb d p.number (λ e. other (met_apart t tree o.width parts met i j back.0 p back.1 there (back.2 ∙ e))))

has_place : (t : Tree) → IsTree t → (o : SolidOrigin) (parts : List Fragment) → AreMet t o.width parts → (j : ℕ) (p : Fragment) → slice_get parts j ≡ Some p → (places boxes : List ℕ) → ArePlaces (spine_of parts) places boxes → reaches 0 j places ≡ list_any (λ c. c == p.number) boxes
has_place t tree o parts met j p there [] [] are = refl
has_place t tree o parts met j p there [] (b ∷ boxes) are = absurd are
has_place t tree o parts met j p there (i ∷ places) [] are = absurd are
has_place t tree o parts met j p there (i ∷ places) (b ∷ boxes) are =
    ap₂ (λ x y. x || y) (place_eq t tree o parts met j p there i b (first_of places) are.0) (ap (λ x. not x && reaches 0 j places) (le-ltb i 0 (omega arith)) ∙ has_place t tree o parts met j p there places boxes are.2)

first_place : (t : Tree) → IsTree t → (o : SolidOrigin) (parts : List Fragment) → AreMet t o.width parts → (j : ℕ) (p : Fragment) → slice_get parts j ≡ Some p → (places boxes : List ℕ) (d : ℕ) → ArePlaces (spine_of parts) places boxes → first_of boxes ≡ Some d → is_at (first_of places) j ≡ (d == p.number)
first_place t tree o parts met j p there [] [] d are first = absurd (cc)
first_place t tree o parts met j p there [] (b ∷ boxes) d are first = absurd are
first_place t tree o parts met j p there (i ∷ places) [] d are first = absurd are
first_place t tree o parts met j p there (i ∷ places) (b ∷ boxes) d are first = let same : b ≡ d = cc in place_eq t tree o parts met j p there i b (first_of places) are.0 ∙ ap (λ (n : ℕ). n == p.number) same

-- ---- how far a box and its edges reach

reach_is : (t : Tree) → IsTree t → (o : SolidOrigin) (parts : List Fragment) → AreMet t o.width parts → (j : ℕ) (p : Fragment) → slice_get parts j ≡ Some p → (solids : List Placed) (marks : List Mark) → AreMarksOf (spine_of parts) t.events (solids_by any_event t.events solids) marks → over_marks (reaches 0 j) marks ≡ reach_by (stands_in t.events p.number) solids
reach_is t tree o parts met j p there solids marks are =
    over_reach (spine_of parts) any_event t.events (reaches 0 j) (stands_in t.events p.number) (λ s off. absurd (cc)) (λ s places on a. has_place t tree o parts met j p there places (boxes_at t.events s.at.event) a) solids marks are

upper_is : (t : Tree) → IsTree t → (o : SolidOrigin) (parts : List Fragment) → AreMet t o.width parts → (j : ℕ) (p : Fragment) → slice_get parts j ≡ Some p → (solids : List Placed) (marks : List Mark) → AreMarksOf (spine_of parts) t.events (solids_by is_opening t.events solids) marks → over_marks (λ places. is_at (first_of places) j) marks ≡ reach_by (is_upper t.events p.number) solids
upper_is t tree o parts met j p there solids marks are =
    over_reach (spine_of parts) is_opening t.events (λ places. is_at (first_of places) j) (is_upper t.events p.number) (λ s off. miss (slice_get t.events s.at.event) off)
    (λ s places on a. hit (slice_get t.events s.at.event) (open_before t.events s.at.event) places on a) solids marks are
  where
    miss : (e : Option Event) → is_opening e ≡ false → opens_box p.number e ≡ false
    miss None off = refl
    miss (Some (Opens b)) off = absurd (cc)
    miss (Some (Closes b)) off = refl
    miss (Some (Leaf l)) off = refl

    hit : (e : Option Event) (boxes places : List ℕ) → is_opening e ≡ true → ArePlaces (spine_of parts) places (boxes_with e boxes) → is_at (first_of places) j ≡ opens_box p.number e
    hit None boxes places on a = absurd (cc)
    hit (Some (Opens b)) boxes places on a = first_place t tree o parts met j p there places (b ∷ boxes) b a refl
    hit (Some (Closes b)) boxes places on a = absurd (cc)
    hit (Some (Leaf l)) boxes places on a = absurd (cc)

lower_is : (t : Tree) → IsTree t → (o : SolidOrigin) (parts : List Fragment) → AreMet t o.width parts → (j : ℕ) (p : Fragment) → slice_get parts j ≡ Some p → (solids : List Placed) (marks : List Mark) → AreMarksOf (spine_of parts) t.events (solids_by is_closing t.events solids) marks → over_marks (λ places. is_at (first_of places) j) marks ≡ reach_by (is_lower t.events p.number) solids
lower_is t tree o parts met j p there solids marks are =
    over_reach (spine_of parts) is_closing t.events (λ places. is_at (first_of places) j) (is_lower t.events p.number) (λ s off. miss (slice_get t.events s.at.event) off)
    (λ s places on a. hit s (slice_get t.events s.at.event) refl places on a) solids marks are
  where
    miss : (e : Option Event) → is_closing e ≡ false → closes_box p.number e ≡ false
    miss None off = refl
    miss (Some (Opens b)) off = refl
    miss (Some (Closes b)) off = absurd (cc)
    miss (Some (Leaf l)) off = refl

    hit : (s : Placed) (e : Option Event) → slice_get t.events s.at.event ≡ e → (places : List ℕ) → is_closing e ≡ true → ArePlaces (spine_of parts) places (boxes_with e (open_before t.events s.at.event)) → is_at (first_of places) j ≡ closes_box p.number e
    hit s None is places on a = absurd (cc)
    hit s (Some (Opens b)) is places on a = absurd (cc)
    hit s (Some (Closes b)) is places on a = first_place t tree o parts met j p there places (open_before t.events s.at.event) b a (closes_innermost t tree s.at.event b is)
    hit s (Some (Leaf l)) is places on a = absurd (cc)

-- a box that wasn't met has no solid
has_not : (parts : List Fragment) (b : ℕ) → ((j : ℕ) (p : Fragment) → slice_get parts j ≡ Some p → p.number ≡ b → ⊥) → (places boxes : List ℕ) → ArePlaces (spine_of parts) places boxes → false ≡ list_any (λ c. c == b) boxes
has_not parts b none [] [] are = refl
has_not parts b none [] (d ∷ boxes) are = absurd are
has_not parts b none (i ∷ places) [] are = refl
has_not parts b none (i ∷ places) (d ∷ boxes) are =
    let back = spine_at parts i d (first_of places) are.0 in
    ap₂ (λ x y. x || y) (sym (ne_eqb d b (λ e. none i back.0 back.1 (back.2 ∙ e)))) (has_not parts b none places boxes are.2)

over_nothing : (marks : List Mark) → over_marks (λ places. false) marks ≡ None
over_nothing [] = refl
over_nothing (m ∷ marks) = over_nothing marks

no_reach : (t : Tree) (parts : List Fragment) (solids : List Placed) (marks : List Mark) (b : ℕ) → ((j : ℕ) (p : Fragment) → slice_get parts j ≡ Some p → p.number ≡ b → ⊥) → AreMarksOf (spine_of parts) t.events (solids_by any_event t.events solids) marks → reach_by (stands_in t.events b) solids ≡ None
no_reach t parts solids marks b none are =
    sym (over_reach (spine_of parts) any_event t.events (λ places. false) (stands_in t.events b) (λ s off. absurd (cc)) (λ s places on a. has_not parts b none places (boxes_at t.events s.at.event) a) solids marks are) ∙ over_nothing marks

-- ---- in the order of Open

ascend_low : (a at : ℕ) (parts : List Fragment) → AscendTo a parts at → a ≤ at
ascend_low a at [] up = up
ascend_low a at (p ∷ parts) up = let more = ascend_low (suc p.event) at parts up.1 in let low = up.0 in omega arith

collect_is : (f : Fragment → List Item) (g : ℕ → List Item) (n b at : ℕ) (parts : List Fragment) → AscendTo b parts at → at ≤ b + n → ((j : ℕ) (p : Fragment) → slice_get parts j ≡ Some p → f p ≡ g p.event) → ((k : ℕ) → b ≤ k → ((j : ℕ) (p : Fragment) → slice_get parts j ≡ Some p → p.event ≡ k → ⊥) → g k ≡ []) → flat_map f parts ≡ flat_map g (range_with_len b n)
collect_is f g zero b at [] up room is none = refl
collect_is f g zero b at (p ∷ parts) up room is none = let more = ascend_low (suc p.event) at parts up.1 in let low = up.0 in absurd (omega arith)
collect_is f g (suc n) b at [] up room is none =
    let nothing : g b ≡ [] = none b (omega arith) (λ j p e x. absurd (cc)) in
    collect_is f g n (b + 1) (b + 1) [] (omega arith) (omega arith) (λ j p e. absurd (cc)) (λ k low x. none k (omega arith) (λ j p e y. absurd (cc)))
    ∙ ap (λ (l : List Item). l ++ flat_map g (range_with_len (b + 1) n)) (sym nothing)
collect_is f g (suc n) b at (p ∷ parts) up room is none = by (λ a r i x. collect_is f g n (b + 1) at parts a r i x) (λ a r i x. collect_is f g n (b + 1) at (p ∷ parts) a r i x) (cases_order p.event b)
  where
    rest : p.event ≡ b → (k : ℕ) → b + 1 ≤ k → ((j : ℕ) (q : Fragment) → slice_get parts j ≡ Some q → q.event ≡ k → ⊥) → g k ≡ []
    rest e k low not_there = none k (omega arith) (λ j q. at_place j q)
      where
        at_place : (j : ℕ) (q : Fragment) → slice_get (p ∷ parts) j ≡ Some q → q.event ≡ k → ⊥
        at_place zero q there x = let same : p ≡ q = cc in let event : p.event ≡ q.event = ap (λ (z : Fragment). z.event) same in omega arith
        at_place (suc j) q there x = not_there j q there x

    above : b < p.event → (j : ℕ) (q : Fragment) → slice_get (p ∷ parts) j ≡ Some q → q.event ≡ b → ⊥
    above less zero q there x = let same : p ≡ q = cc in let event : p.event ≡ q.event = ap (λ (z : Fragment). z.event) same in omega arith
    above less (suc j) q there x = let more = ascend_from (suc p.event) at parts j q up.1 there in omega arith

    by : (AscendTo (b + 1) parts at → at ≤ (b + 1) + n → ((j : ℕ) (q : Fragment) → slice_get parts j ≡ Some q → f q ≡ g q.event) → ((k : ℕ) → b + 1 ≤ k → ((j : ℕ) (q : Fragment) → slice_get parts j ≡ Some q → q.event ≡ k → ⊥) → g k ≡ []) → flat_map f parts ≡ flat_map g (range_with_len (b + 1) n)) →
        (AscendTo (b + 1) (p ∷ parts) at → at ≤ (b + 1) + n → ((j : ℕ) (q : Fragment) → slice_get (p ∷ parts) j ≡ Some q → f q ≡ g q.event) → ((k : ℕ) → b + 1 ≤ k → ((j : ℕ) (q : Fragment) → slice_get (p ∷ parts) j ≡ Some q → q.event ≡ k → ⊥) → g k ≡ []) → flat_map f (p ∷ parts) ≡ flat_map g (range_with_len (b + 1) n)) →
        (p.event ≡ b) ⊎ ((p.event < b) ⊎ (b < p.event)) → flat_map f (p ∷ parts) ≡ flat_map g (range_with_len b (suc n))
    by one all (inl e) =
        let next : suc p.event ≡ b + 1 = omega arith in
        ap₂ (λ (x y : List Item). x ++ y) (is 0 p refl ∙ ap g e) (one (subst (λ (x : ℕ). AscendTo x parts at) next up.1) (omega arith) (λ j q there. is (suc j) q there) (rest e))
    by one all (inr (inl less)) = let low = up.0 in absurd (omega arith)
    by one all (inr (inr less)) =
        let nothing : g b ≡ [] = none b (omega arith) (above less) in
        all (omega arith, up.1) (omega arith) is (λ k low x. none k (omega arith) x) ∙ ap (λ (l : List Item). l ++ flat_map g (range_with_len (b + 1) n)) (sym nothing)

-- ---- the rectangles of a page

-- ---- what stands in a box on a page

in_two : (b : ℕ) (xs ys : List ℕ) → list_any (λ c. c == b) (xs ++ ys) ≡ true → (list_any (λ c. c == b) xs ≡ true) ⊎ (list_any (λ c. c == b) ys ≡ true)
in_two b [] ys e = inr e
in_two b (x ∷ xs) ys e = by (x == b) refl (in_two b xs ys)
  where
    by : (v : Bool) → (x == b) ≡ v → (list_any (λ c. c == b) (xs ++ ys) ≡ true → (list_any (λ c. c == b) xs ≡ true) ⊎ (list_any (λ c. c == b) ys ≡ true)) → (list_any (λ c. c == b) (x ∷ xs) ≡ true) ⊎ (list_any (λ c. c == b) ys ≡ true)
    by true is rest = inl (ap (λ (v : Bool). v || list_any (λ c. c == b) xs) is)
    by false is rest = of (rest (sym (ap (λ (v : Bool). v || list_any (λ c. c == b) (xs ++ ys)) is) ∙ e))
      where
        of : (list_any (λ c. c == b) xs ≡ true) ⊎ (list_any (λ c. c == b) ys ≡ true) → (list_any (λ c. c == b) (x ∷ xs) ≡ true) ⊎ (list_any (λ c. c == b) ys ≡ true)
        of (inl h) = inl (ap (λ (v : Bool). v || list_any (λ c. c == b) xs) is ∙ h)
        of (inr h) = inr h

-- a box among some that were opened late was opened late
any_late : (t : Tree) → IsTree t → (from k b : ℕ) (boxes : List ℕ) → AreLate t.events from boxes → slice_get t.events k ≡ Some (Opens b) → list_any (λ c. c == b) boxes ≡ true → from ≤ k
any_late t tree from k b [] late there e = absurd (cc)
any_late t tree from k b (c ∷ boxes) late there e = by (cases_eq c b) (any_late t tree from k b boxes late.1 there)
  where
    by : (c ≡ b) ⊎ (c ≡ b → ⊥) → (list_any (λ d. d == b) boxes ≡ true → from ≤ k) → from ≤ k
    by (inl same) rest = let once : late.0.0 ≡ k = opens_once t tree late.0.0 k b (late.0.2 ∙ ap (λ (n : ℕ). Some (Opens n)) same) there in let low = late.0.1 in omega arith
    by (inr other) rest = rest (sym (ap (λ (v : Bool). v || list_any (λ d. d == b) boxes) (ne_eqb c b other)) ∙ e)

-- one that is open before an event was opened before it
pub any_early : (t : Tree) → IsTree t → (n k b : ℕ) (boxes : List ℕ) → WereBefore t.events n boxes → slice_get t.events k ≡ Some (Opens b) → list_any (λ c. c == b) boxes ≡ true → k < n
any_early t tree n k b [] w there e = absurd (cc)
any_early t tree n k b (c ∷ boxes) w there e = by (cases_eq c b) (any_early t tree w.0 k b boxes w.4 there)
  where
    by : (c ≡ b) ⊎ (c ≡ b → ⊥) → (list_any (λ d. d == b) boxes ≡ true → k < w.0) → k < n
    by (inl same) rest = let once : w.0 ≡ k = opens_once t tree w.0 k b (w.2 ∙ ap (λ (x : ℕ). Some (Opens x)) same) there in let low = w.1 in omega arith
    by (inr other) rest = let less = rest (sym (ap (λ (v : Bool). v || list_any (λ d. d == b) boxes) (ne_eqb c b other)) ∙ e) in let low = w.1 in omega arith

any_filter : (b : ℕ) (test : ℕ → Bool) (boxes : List ℕ) → list_any (λ c. c == b) (filter test boxes) ≡ true → list_any (λ c. c == b) boxes ≡ true
any_filter b test [] e = e
any_filter b test (c ∷ boxes) e = by (test c) refl (c == b) refl (any_filter b test boxes)
  where
    by : (v : Bool) → test c ≡ v → (w : Bool) → (c == b) ≡ w → (list_any (λ d. d == b) (filter test boxes) ≡ true → list_any (λ d. d == b) boxes ≡ true) → list_any (λ d. d == b) (c ∷ boxes) ≡ true
    by v is true same rest = ap (λ (x : Bool). x || list_any (λ d. d == b) boxes) same
    by true is false same rest = ap (λ (x : Bool). x || list_any (λ d. d == b) boxes) same ∙ rest (sym (ap (λ (x : Bool). x || list_any (λ d. d == b) (filter test boxes)) same) ∙ sym (ap (λ (x : Bool). list_any (λ d. d == b) (cond x (c ∷ filter test boxes) (filter test boxes))) is) ∙ e)
    by false is false same rest = ap (λ (x : Bool). x || list_any (λ d. d == b) boxes) same ∙ rest (sym (ap (λ (x : Bool). list_any (λ d. d == b) (cond x (c ∷ filter test boxes) (filter test boxes))) is) ∙ e)

-- a box that is open through a run is open through a shorter one
any_shorter : (t : Tree) (from at n b : ℕ) → from ≤ at → at + n ≤ length t.events → list_any (λ c. c == b) (open_through t from (events_in t from (at + n))) ≡ true → list_any (λ c. c == b) (open_through t from (events_in t from at)) ≡ true
any_shorter t from at zero b low within e = let same : at + 0 ≡ at = omega arith in subst (λ (k : ℕ). list_any (λ c. c == b) (open_through t from (events_in t from k)) ≡ true) same e
any_shorter t from at (suc n) b low within e =
    let there = slice_get_at t.events (at + n) (omega arith) in
    let next : at + suc n ≡ suc (at + n) = omega arith in
    any_shorter t from at n b low (omega arith) (any_filter b (λ c. not (clones.closes_box c there.0)) (open_through t from (events_in t from (at + n)))
    (sym (ap (list_any (λ c. c == b)) (ap (λ (k : ℕ). open_through t from (events_in t from k)) next ∙ through_more t from (at + n) there.0 (omega arith) there.1)) ∙ e))

-- a box that reaches anywhere has one of the solids
has_solid : (t : Tree) (b from : ℕ) (solids : List Placed) (e : VerticalExtent) → AreInOrder t from solids → reach_of t solids b ≡ Some e → (n : ℕ) × (from ≤ n) × (n < length t.events) × (list_any (λ c. c == b) (boxes_at t.events n) ≡ true)
has_solid t b from [] e order reach = absurd (cc)
has_solid t b from (s ∷ solids) e order reach = by (stands_in t.events b s) refl (has_solid t b s.at.event solids e order.2)
  where
    by : (v : Bool) → stands_in t.events b s ≡ v → (reach_of t solids b ≡ Some e → (n : ℕ) × (s.at.event ≤ n) × (n < length t.events) × (list_any (λ c. c == b) (boxes_at t.events n) ≡ true)) → (n : ℕ) × (from ≤ n) × (n < length t.events) × (list_any (λ c. c == b) (boxes_at t.events n) ≡ true)
    by true is rest = (s.at.event, order.0, order.1.event, is)
    by false is rest =
        let left : reach_of t solids b ≡ Some e = sym (ap (λ (v : Bool). join (here v (extent_of s)) (reach_of t solids b)) is) ∙ reach in
        let more = rest left in
        (more.0, (let l = order.0 in let m = more.1 in omega arith), more.2, more.3)

-- ---- the boxes that a page's start parts

before_low : (t : Tree) (k j : ℕ) → solid_before t k ≡ Some j → j < k
before_low t zero j e = absurd (cc)
before_low t (suc k) j e = by (is_solid_at t.boxes (slice_get t.events k)) refl (before_low t k j)
  where
    by : (v : Bool) → is_solid_at t.boxes (slice_get t.events k) ≡ v → (solid_before t k ≡ Some j → j < k) → j < suc k
    by true is rest = let one : Some k ≡ Some j = sym (ap (λ (v : Bool). cond v (Some k) (solid_before t k)) is) ∙ e in let same : k ≡ j = cc in omega arith
    by false is rest = let low = rest (sym (ap (λ (v : Bool). cond v (Some k) (solid_before t k)) is) ∙ e) in omega arith

start_low : (t : Tree) (k : ℕ) → run_start t (solid_before t k) ≤ k
start_low t k = by (solid_before t k) refl
  where
    by : (o : Option ℕ) → solid_before t k ≡ o → run_start t o ≤ k
    by None is = omega arith
    by (Some j) is = of (runs.is_closing (slice_get t.events j)) refl
      where
        low : j < k
        low = before_low t k j is

        of : (v : Bool) → runs.is_closing (slice_get t.events j) ≡ v → run_start t (Some j) ≤ k
        of true c = subst (λ (v : Bool). cond v j (suc j) ≤ k) (sym c) (let l = low in omega arith)
        of false c = subst (λ (v : Bool). cond v j (suc j) ≤ k) (sym c) (let l = low in omega arith)

-- one of two runs
abbrev either : Bool → ℕ × ℕ → ℕ × ℕ → ℕ × ℕ
either v a b = cond v a b

begin_low : (t : Tree) (s : Placed) → (run_before t s).0 ≤ s.at.event
begin_low t s = by (s.at.offset == 0) refl
  where
    by : (v : Bool) → (s.at.offset == 0) ≡ v → (run_before t s).0 ≤ s.at.event
    by true is = subst (λ (v : Bool). (either v (run_start t (solid_before t s.at.event), run_end t (Some s.at.event)) (s.at.event, s.at.event)).0 ≤ s.at.event) (sym is) (start_low t s.at.event)
    by false is = subst (λ (v : Bool). (either v (run_start t (solid_before t s.at.event), run_end t (Some s.at.event)) (s.at.event, s.at.event)).0 ≤ s.at.event) (sym is) (omega arith)

-- the Open of the first solid closes nothing
through_first : (t : Tree) (s : Placed) → s.at.event < length t.events → parted_before t (Some s) ≡ open_through t (run_before t s).0 (events_in t (run_before t s).0 s.at.event)
through_first t s within = by (s.at.offset == 0) refl
  where
    from : ℕ
    from = (run_before t s).0

    ends : (e : Event) → slice_get t.events s.at.event ≡ Some e → open_through t from (events_in t from (run_end t (Some s.at.event))) ≡ open_through t from (events_in t from s.at.event)
    ends (Opens b) is =
        let end : run_end t (Some s.at.event) ≡ suc s.at.event = ap (λ (o : Option Event). cond (is_opening o) (suc s.at.event) s.at.event) is in
        ap (λ (k : ℕ). open_through t from (events_in t from k)) end ∙ through_more t from s.at.event (Opens b) (begin_low t s) is ∙ all_stay (Opens b) (open_through t from (events_in t from s.at.event)) (λ c. refl)
    ends (Closes b) is = ap (λ (o : Option Event). open_through t from (events_in t from (cond (is_opening o) (suc s.at.event) s.at.event))) is
    ends (Leaf b) is = ap (λ (o : Option Event). open_through t from (events_in t from (cond (is_opening o) (suc s.at.event) s.at.event))) is

    by : (v : Bool) → (s.at.offset == 0) ≡ v → open_through t from (events_in t from (run_before t s).1) ≡ open_through t from (events_in t from s.at.event)
    by true is =
        let there = slice_get_at t.events s.at.event within in
        ap (λ (v : Bool). open_through t from (events_in t from (either v (run_start t (solid_before t s.at.event), run_end t (Some s.at.event)) (s.at.event, s.at.event)).1)) is ∙ ends there.0 there.1
    by false is = ap (λ (v : Bool). open_through t from (events_in t from (either v (run_start t (solid_before t s.at.event), run_end t (Some s.at.event)) (s.at.event, s.at.event)).1)) is

-- of the boxes with a solid the page's start parts those that open before its run
parted_is : (t : Tree) → IsTree t → (solids : List Placed) (k b : ℕ) (e : VerticalExtent) → AreInOrder t 0 solids → slice_get t.events k ≡ Some (Opens b) → reach_of t solids b ≡ Some e → nat_lt k (begin_of t (first_solid solids)) ≡ list_any (λ c. c == b) (parted_before t (first_solid solids))
parted_is t tree [] k b e order there reach = absurd (cc)
parted_is t tree (s ∷ solids) k b e order there reach = by (cases_lt k from)
  where
    from : ℕ
    from = (run_before t s).0

    first : ℕ
    first = s.at.event

    low : from ≤ first
    low = begin_low t s

    within : first < length t.events
    within = order.1.event

    split : IsSplit t from first
    split = split_to t tree from first low (let w = within in omega arith)

    stands : (n : ℕ) × (first ≤ n) × (n < length t.events) × (list_any (λ c. c == b) (boxes_at t.events n) ≡ true)
    stands = has_solid t b first (s ∷ solids) e (omega arith, order.1, order.2) reach

    is : parted_before t (Some s) ≡ open_through t from (events_in t from first)
    is = through_first t s within

    -- it is open where its solid stands, and not opened there
    inside : k < from → list_any (λ c. c == b) (open_before t.events stands.0) ≡ true
    inside early = of (slice_get t.events stands.0) refl stands.3
      where
        of : (o : Option Event) → slice_get t.events stands.0 ≡ o → list_any (λ c. c == b) (boxes_with o (open_before t.events stands.0)) ≡ true → list_any (λ c. c == b) (open_before t.events stands.0) ≡ true
        of None x h = h
        of (Some (Opens d)) x h = or (cases_eq d b)
          where
            or : (d ≡ b) ⊎ (d ≡ b → ⊥) → list_any (λ c. c == b) (open_before t.events stands.0) ≡ true
            or (inl same) = let once : stands.0 ≡ k = opens_once t tree stands.0 k b (x ∙ ap (λ (n : ℕ). Some (Opens n)) same) there in let late = stands.1 in let l = low in absurd (omega arith)
            or (inr other) = sym (ap (λ (v : Bool). v || list_any (λ c. c == b) (open_before t.events stands.0)) (ne_eqb d b other)) ∙ h
        of (Some (Closes d)) x h = h
        of (Some (Leaf l)) x h = h

    by : (k < from) ⊎ (from ≤ k) → nat_lt k from ≡ list_any (λ c. c == b) (parted_before t (Some s))
    by (inl early) =
        let to : IsSplit t from stands.0 = split_to t tree from stands.0 (let l = low in let m = stands.1 in omega arith) (let w = stands.2 in omega arith) in
        or to (in_two b to.extra (open_before t.events to.place) (sym (ap (list_any (λ c. c == b)) to.stack) ∙ inside early))
      where
        or : (to : IsSplit t from stands.0) → (list_any (λ c. c == b) to.extra ≡ true) ⊎ (list_any (λ c. c == b) (open_before t.events to.place) ≡ true) → nat_lt k from ≡ list_any (λ c. c == b) (parted_before t (Some s))
        or to (inl h) = let late = any_late t tree from k b to.extra to.late there h in absurd (omega arith)
        or to (inr h) =
            let sum : first + (stands.0 - first) ≡ stands.0 = (let m = stands.1 in omega arith) in
            let long : list_any (λ c. c == b) (open_through t from (events_in t from (first + (stands.0 - first)))) ≡ true = ap (λ (n : ℕ). list_any (λ c. c == b) (open_through t from (events_in t from n))) sum ∙ ap (list_any (λ c. c == b)) to.through ∙ h in
            lt-ltb k from early ∙ sym (ap (list_any (λ c. c == b)) is ∙ any_shorter t from first (stands.0 - first) b low (let w = stands.2 in let m = stands.1 in omega arith) long)
    by (inr late) = le-ltb k from late ∙ sym (none (list_any (λ c. c == b) (open_before t.events split.place)) refl)
      where
        none : (v : Bool) → list_any (λ c. c == b) (open_before t.events split.place) ≡ v → list_any (λ c. c == b) (parted_before t (Some s)) ≡ false
        none true h = let early = any_early t tree split.place k b (open_before t.events split.place) (were_before t.events split.place (let l = split.low in let m = low in let w = within in omega arith)) there h in let l = split.low in absurd (omega arith)
        none false h = ap (list_any (λ c. c == b)) (is ∙ split.through) ∙ h

-- ---- the rectangles of a page

for_none : (t : Tree) (o : SolidOrigin) (c : Content) (reach upper lower : Option VerticalExtent) (p : BoxProps) → reach ≡ None → fragment_rects o p c reach upper lower ≡ []
unfolding fragment_rects
for_none t o c reach upper lower p is = ap (λ (e : Option VerticalExtent). fragment_rects o p c e upper lower) is

upper_none : (head reach : Option VerticalExtent) → reach ≡ None → with_upper head reach ≡ None
upper_none None reach is = is
upper_none (Some edge) reach is = ap (with_upper (Some edge)) is

lower_none : (foot reach : Option VerticalExtent) → reach ≡ None → with_lower foot reach ≡ None
lower_none None reach is = is
lower_none (Some edge) reach is = ap (with_lower (Some edge)) is

-- where a box has an upper edge again that reaches anywhere
head_is : (t : Tree) → IsTree t → (m : ℤ) (solids : List Placed) (q : Fragment) (p : BoxProps) (e : VerticalExtent) → AreInOrder t 0 solids → IsOpened t m q → reach_of t solids q.number ≡ Some e → part_head (begin_of t (first_solid solids)) q p ≡ head_edge t m solids q.event q.number p
head_is t tree m solids q p e order is reach =
    ap (λ (v : Bool). cond v (upper_again p q.above q.inside) None) (parted_is t tree solids q.event q.number e order is.opens reach)
    ∙ ap₂ (λ (x y : ℤ). cond (list_any (λ c. c == q.number) (parted_before t (first_solid solids))) (upper_again p x y) None) is.above_is is.inside_is

own_is : (t : Tree) → IsTree t → (o : SolidOrigin) (solids : List Placed) (q : Fragment) (p : BoxProps) (foot : Option VerticalExtent) → AreInOrder t 0 solids → IsOpened t o.width q → q.reach ≡ reach_of t solids q.number →
    own_rects o p (with_head (part_head (begin_of t (first_solid solids)) (with_foot foot q) p) (with_foot foot q)) ≡ opened_by t o q.event (reach_of t solids q.number) q.upper q.lower (head_edge t o.width solids q.event q.number p) foot p
own_is t tree o solids q p foot order is reach = by (reach_of t solids q.number) refl
  where
    head : Option VerticalExtent
    head = part_head (begin_of t (first_solid solids)) q p

    around : Content
    around = content_along t o.width (open_before t.events q.event)

    by : (r : Option VerticalExtent) → reach_of t solids q.number ≡ r → fragment_rects o p q.around (with_upper head (with_lower foot q.reach)) (option_or head q.upper) (option_or foot q.lower) ≡
        opened_by t o q.event (reach_of t solids q.number) q.upper q.lower (head_edge t o.width solids q.event q.number p) foot p
    by None none =
        for_none t o q.around _ _ _ p (upper_none head (with_lower foot q.reach) (lower_none foot q.reach (reach ∙ none)))
        ∙ sym (for_none t o around _ _ _ p (upper_none (head_edge t o.width solids q.event q.number p) (with_lower foot (reach_of t solids q.number)) (lower_none foot (reach_of t solids q.number) none)))
    by (Some e) some =
        ap (λ (c : Content). fragment_rects o p c (with_upper head (with_lower foot q.reach)) (option_or head q.upper) (option_or foot q.lower)) is.around_is
        ∙ ap (λ (r : Option VerticalExtent). fragment_rects o p around (with_upper head (with_lower foot r)) (option_or head q.upper) (option_or foot q.lower)) reach
        ∙ ap (λ (h : Option VerticalExtent). fragment_rects o p around (with_upper h (with_lower foot (reach_of t solids q.number))) (option_or h q.upper) (option_or foot q.lower)) (head_is t tree o.width solids q p e order is some)

part_is : (t : Tree) → IsTree t → (o : SolidOrigin) (solids : List Placed) (old new : List Fragment) → AreInOrder t 0 solids → AreReached t o.width solids old → AreClosedAgain t o.width solids old new → (j : ℕ) (p : Fragment) → slice_get new j ≡ Some p → part_rects t o (begin_of t (first_solid solids)) p ≡ rects_at t o solids p.event
part_is t tree o solids old new order r closed j p there = ap (part_rects t o from) is ∙ by (slice_get t.boxes q.number) ∙ edges ∙ ap (opened_rects t o solids q.event) (sym opened.opens) ∙ ap (λ (x : Fragment). rects_at t o solids x.event) (sym is)
  where
    from : ℕ
    from = begin_of t (first_solid solids)

    was : (q : Fragment) × (slice_get old j ≡ Some q) × (p ≡ with_foot (foot_edge t o.width solids (reach_of t solids) q.number) q)
    was = closed.feet j p there

    q : Fragment
    q = was.0

    foot : Option VerticalExtent
    foot = foot_edge t o.width solids (reach_of t solids) q.number

    is : p ≡ with_foot foot q
    is = was.2

    opened : IsOpened t o.width q
    opened = r.met.opened j q was.1

    by : (boxed : Option BoxProps) → for_some (λ (x : BoxProps). own_rects o x (with_head (part_head from (with_foot foot q) x) (with_foot foot q))) boxed ≡ for_some (λ (x : BoxProps). opened_by t o q.event (reach_of t solids q.number) q.upper q.lower (head_edge t o.width solids q.event q.number x) foot x) boxed
    by None = refl
    by (Some x) = own_is t tree o solids q x foot order opened (r.reach j q was.1)

    edges : for_some (λ (x : BoxProps). opened_by t o q.event (reach_of t solids q.number) q.upper q.lower (head_edge t o.width solids q.event q.number x) foot x) (slice_get t.boxes q.number) ≡ opened_rects t o solids q.event (Some (Opens q.number))
    edges = ap₂ (λ (u l : Option VerticalExtent). for_some (λ (x : BoxProps). opened_by t o q.event (reach_of t solids q.number) u l (head_edge t o.width solids q.event q.number x) foot x) (slice_get t.boxes q.number)) (r.upper j q was.1) (r.lower j q was.1)

other_is : (t : Tree) → IsTree t → (o : SolidOrigin) (solids : List Placed) (parts : List Fragment) → AreReached t o.width solids parts → (k : ℕ) → ((j : ℕ) (p : Fragment) → slice_get parts j ≡ Some p → p.event ≡ k → ⊥) → rects_at t o solids k ≡ []
other_is t tree o solids parts r k none = by (slice_get t.events k) refl
  where
    empty : (b : ℕ) (boxed : Option BoxProps) → reach_of t solids b ≡ None → for_some (λ (x : BoxProps). opened_by t o k (reach_of t solids b) (reach_by (is_upper t.events b) solids) (reach_by (is_lower t.events b) solids) (head_edge t o.width solids k b x) (foot_edge t o.width solids (reach_of t solids) b) x) boxed ≡ []
    empty b None is = refl
    empty b (Some x) is = for_none t o (content_along t o.width (open_before t.events k)) _ _ _ x (upper_none (head_edge t o.width solids k b x) _ (lower_none (foot_edge t o.width solids (reach_of t solids) b) (reach_of t solids b) is))

    by : (e : Option Event) → slice_get t.events k ≡ e → opened_rects t o solids k e ≡ []
    by None is = refl
    by (Some (Opens b)) is = empty b (slice_get t.boxes b) (r.others b (λ j p there same. none j p there (opens_once t tree p.event k b ((r.met.opened j p there).opens ∙ ap (λ (n : ℕ). Some (Opens n)) same) is)))
    by (Some (Closes b)) is = refl
    by (Some (Leaf l)) is = refl

-- the rectangles of the boxes that were met, with their lower edges again, are those of the page
pub closed_rects : (t : Tree) → IsTree t → (o : SolidOrigin) (solids : List Placed) (old new : List Fragment) → AreInOrder t 0 solids → AreReached t o.width solids old → AreClosedAgain t o.width solids old new → flat_map (part_rects t o (begin_of t (first_solid solids))) new ≡ rects_of t o solids
unfolding rects_of
closed_rects t tree o solids old new order r closed =
    collect_is (part_rects t o (begin_of t (first_solid solids))) (rects_at t o solids) (length t.events) 0 r.met.at new (ascend_same 0 r.met.at old new closed.places r.met.ascend) (let e = r.met.end in omega arith) (part_is t tree o solids old new order r closed) (λ k low none. other_is t tree o solids old r k (λ j q there same. of k none j q same (same_place new old (sym closed.places) j q there)))
  where
    of : (k : ℕ) → ((j : ℕ) (p : Fragment) → slice_get new j ≡ Some p → p.event ≡ k → ⊥) → (j : ℕ) (q : Fragment) → q.event ≡ k → ((p : Fragment) × (slice_get new j ≡ Some p) × (place_of p ≡ place_of q)) → ⊥
    of k none j q same back = none j back.0 back.1 (ap (λ (x : Fragment). x.event) back.2 ∙ same)

-- a box at a place had all but its reach before
was_bare : (old new : List Fragment) → bare_of new ≡ bare_of old → (j : ℕ) (p : Fragment) → slice_get new j ≡ Some p → (q : Fragment) × (slice_get old j ≡ Some q) × (bare q ≡ bare p)
was_bare old new e j p there = get-map-back bare old j (bare p) (ap (λ s. slice_get s j) (sym e) ∙ get-map bare new j p there)

pub merged_reached : (t : Tree) → IsTree t → (o : SolidOrigin) (solids : List Placed) (parts new : List Fragment) (r : Reached) → AreGathered t o.width solids parts r → bare_of new ≡ bare_of parts → AreMerged parts new → AreReached t o.width solids new
merged_reached t tree o solids parts new r g rest merged =
    let at : IsAt t o.width new r = at_same t o.width parts new r (places_bare parts new rest) g.is_at in
    let met : AreMet t o.width new = record { at = r.event; ascend = at.on.ascend; end = g.end; outers = at.on.outers; opened = at.opened } in
    let spine : spine_of parts ≡ spine_of new = sym (spine_same parts new rest) in
    let x = g.have.reaches in
    let u = g.have.uppers in
    let l = g.have.lowers in
    let r_are : AreMarksOf (spine_of new) t.events (solids_by any_event t.events solids) x.marks = subst (λ s. AreMarksOf s t.events (solids_by any_event t.events solids) x.marks) spine x.are in
    let u_are : AreMarksOf (spine_of new) t.events (solids_by is_opening t.events solids) u.marks = subst (λ s. AreMarksOf s t.events (solids_by is_opening t.events solids) u.marks) spine u.are in
    let l_are : AreMarksOf (spine_of new) t.events (solids_by is_closing t.events solids) l.marks = subst (λ s. AreMarksOf s t.events (solids_by is_closing t.events solids) l.marks) spine l.are in
    let marks : AreMarks (spine_of parts) x.marks = are_marks (spine_of parts) t.events (solids_by any_event t.events solids) x.marks x.are in
    let from : HaveFrom 0 new x.marks = merged x.marks marks (own_from parts x.marks marks x.own) in
    record {
      met = met;
      reach = λ j p there. from j p there ∙ reach_is t tree o new met j p there solids x.marks r_are;
      upper = λ j p there. let was = was_bare parts new rest j p there in ap (λ (x : Fragment). x.upper) (sym was.2) ∙ u.own j was.0 was.1 ∙ upper_is t tree o new met j p there solids u.marks u_are;
      lower = λ j p there. let was = was_bare parts new rest j p there in ap (λ (x : Fragment). x.lower) (sym was.2) ∙ l.own j was.0 was.1 ∙ lower_is t tree o new met j p there solids l.marks l_are;
      others = λ b none. no_reach t new solids x.marks b none r_are;
    }

-- the innermost box in which the last solid stands
pub merged_inner : (t : Tree) (m : ℤ) (solids : List Placed) (parts new : List Fragment) (r : Reached) → AreGathered t m solids parts r → bare_of new ≡ bare_of parts → IsInnermost new (open_before t.events r.event) r.inner
merged_inner t m solids parts new r g rest =
    let at : IsAt t m new r = at_same t m parts new r (places_bare parts new rest) g.is_at in
    record { places = at.on.places; are = at.on.are; inner_is = at.on.inner_is }

pub reached_boxes : (t : Tree) → IsTree t → (m : ℤ) (parts : List Fragment) → HaveOpened t m parts → All (λ p. p.number < length t.boxes) parts
reached_boxes t tree m parts opened = all-from (λ p. p.number < length t.boxes) parts (λ j p there. box_there t tree p.event p.number (opened j p there).opens)

pub reached_wide : (t : Tree) (m : ℤ) (p : Fragment) → depth_of t.events ≤ most_open → IsOpened t m p → IsWide p.around
reached_wide t m p few is =
    let most : length (open_before t.events p.event) ≤ depth_of t.events = most_open_at [] t.events p.event in
    bounded_wide (length (open_before t.events p.event)) p.around (omega arith) is.around_bounded

-- no box reaches far
pub reached_near : (t : Tree) → IsTree t → (m : ℤ) (solids : List Placed) (parts : List Fragment) → depth_of t.events ≤ most_open → All IsNearSolid solids → AreReached t m solids parts → (j : ℕ) (p : Fragment) → slice_get parts j ≡ Some p → IsNearPart p
reached_near t tree m solids parts few near r j p there =
    let is : IsOpened t m p = r.met.opened j p there in
    let boxes : List ℕ = open_before t.events p.event in
    let most : length boxes ≤ depth_of t.events = most_open_at [] t.events p.event in
    let room : length boxes < most_open = room_before t.events p.event p.number few is.opens in
    let less : length boxes ≤ 2048 = omega arith in
    let above = is.above_bounded in
    let inside = is.inside_bounded in
    let above_low = above.0 in
    let above_high = above.1 in
    let inside_low = inside.0 in
    let inside_high = inside.1 in
    record {
      wide = bounded_wide (length boxes) p.around less is.around_bounded;
      near = bounded_near (length boxes) p.around less is.around_bounded;
      above = (above_low, omega (arith, ints, above_high));
      inside = (inside_low, omega (arith, ints, inside_high));
      reach = subst (λ (e : Option VerticalExtent). ForSome e IsNearExtent) (sym (r.reach j p there)) (extent_near (stands_in t.events p.number) solids near);
      upper = subst (λ (e : Option VerticalExtent). ForSome e IsNearExtent) (sym (r.upper j p there)) (extent_near (is_upper t.events p.number) solids near);
      lower = subst (λ (e : Option VerticalExtent). ForSome e IsNearExtent) (sym (r.lower j p there)) (extent_near (is_lower t.events p.number) solids near);
    }
