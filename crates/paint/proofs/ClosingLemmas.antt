-- Lower edges that stand again, from the innermost box out.
use Rattle.std.proofs.Common.{◌≡◌, ◌<◌, ◌≤◌, ◌-◌, ℕ, suc, ℤ, Bool, true, false, cond, ◌==◌, ◌||◌, List, [], ◌∷◌, Option, Some, None, map, length, slice_get, slice_set, refl, sym, ap, ap₂, ◌∙◌, subst, arith, ◌⊎◌, inl, inr}
use Rattle.std.proofs.lemmas.Int.{ints}
use Rattle.std.specs.List.{All, list_any}
use Rattle.std.specs.Option.{ForSome}
use Rattle.std.proofs.lemmas.Bool.{cases_eq, ne_eqb, eq-eqb}
use Rattle.bk_num.specs.Limits.{most_open}
use Rattle.boxes.specs.Spans.{span_along}
use Rattle.boxes.specs.Tree.{Tree, IsTree, depth_of, open_before, first_of}
use Rattle.boxes.specs.declared.page.Placed.{Placed}
use Rattle.boxes.specs.declared.place.Event.TheVariants.{Opens}
use Rattle.boxes.specs.declared.span.Content.{Content}
use Rattle.boxes.proofs.ListLemmas.{get-set}
use Rattle.boxes.proofs.SpanLemmas.{most_open_at}
use Rattle.boxes.proofs.TreeFacts.{box_there, opens_once}
use Rattle.notes.specs.Near.{IsNearSolid}
use Rattle.paint.specs.Bounds.{IsNearBottom, IsNearExtent, IsNearFoot, IsNearPart, IsNearReach}
use Rattle.paint.specs.Clones.{bottom_with, foot_edge, last_solid, lower_again, lower_along, parted_behind, with_lower}
use Rattle.paint.specs.Fragments.{reach_of, stands_in}
use Rattle.paint.specs.Opens.{content_along}
use Rattle.paint.specs.Parts.{AreClosedAgain, AreOpenSomewhere, ArePlaces, AreReached, HaveFeet, IsBelow, IsClosedAgain, IsInnermost, IsOpened, IsUnclosed, foot_in, place_of, spine_of, with_foot}
use Rattle.paint.specs.declared.extent.VerticalExtent.{VerticalExtent}
use Rattle.paint.specs.declared.parts.Fragment.{Fragment}
use Rattle.paint.proofs.BoundLemmas.{reach_near}
use Rattle.paint.proofs.GatherLemmas.{opened_same, same_place, spine_extends}
use Rattle.paint.proofs.PageLemmas.{met_apart, reached_near, reached_wide}
use Rattle.paint.proofs.PartLemmas.{WereBefore, spine_at, were_before}
use Rattle.paint.proofs.ReachLemmas.{map-set}
use Rattle.paint.proofs.ThroughLemmas.{IsApart, apart_earlier}

-- whether a box is among some
abbrev has : ℕ → List ℕ → Bool
has b boxes = list_any (λ c. c == b) boxes

-- the lower edges of the boxes that aren't among some
abbrev pub feet_but : List ℕ → (ℕ → Option VerticalExtent) → ℕ → Option VerticalExtent
feet_but boxes foot b = cond (list_any (λ c. c == b) boxes) None (foot b)

-- the boxes from a place out have no lower edges again yet, and the others of the page have
pub record IsClosing (t : Tree) (m : ℤ) (solids : List Placed) (old now : List Fragment) (next : Option ℕ) (bottom : Option ℤ) : Type 0 where
  pub rest : List ℕ
  pub event : ℕ
  pub were : WereBefore t.events event rest
  pub few : length rest ≤ most_open
  pub on : IsInnermost now rest next
  pub places : map place_of now ≡ map place_of old
  pub feet : HaveFeet (feet_but rest (foot_edge t m solids (reach_of t solids))) old now
  pub ahead : (b : ℕ) → list_any (λ c. c == b) rest ≡ true → foot_edge t m solids (reach_of t solids) b ≡ lower_along t m (reach_of t solids) b bottom rest
  pub low : ForSome bottom (IsNearBottom (most_open - length rest))
  pub near : (j : ℕ) (p : Fragment) → slice_get now j ≡ Some p → IsNearPart p

along_none : (t : Tree) (m : ℤ) (reach : ℕ → Option VerticalExtent) (b : ℕ) (bottom : Option ℤ) (boxes : List ℕ) → list_any (λ c. c == b) boxes ≡ false → lower_along t m reach b bottom boxes ≡ None
along_none t m reach b bottom [] out = refl
along_none t m reach b bottom (c ∷ outer) out = by (cases_eq c b) (along_none t m reach b (bottom_with bottom (lower_again (slice_get t.boxes c) (span_along t.boxes m outer).1 bottom (reach c))) outer)
  where
    by : (c ≡ b) ⊎ (c ≡ b → ⊥) → (list_any (λ d. d == b) outer ≡ false → lower_along t m reach b (bottom_with bottom (lower_again (slice_get t.boxes c) (span_along t.boxes m outer).1 bottom (reach c))) outer ≡ None) → lower_along t m reach b bottom (c ∷ outer) ≡ None
    by (inl same) rest = let yes : list_any (λ d. d == b) (c ∷ outer) ≡ true = ap (λ (v : Bool). v || list_any (λ d. d == b) outer) (eq-eqb c b same) in absurd (cc)
    by (inr other) rest =
        let step : Option ℤ = bottom_with bottom (lower_again (slice_get t.boxes c) (span_along t.boxes m outer).1 bottom (reach c)) in
        ap (λ (v : Bool). cond v (lower_again (slice_get t.boxes c) (span_along t.boxes m outer).1 bottom (reach c)) (lower_along t m reach b step outer)) (ne_eqb c b other)
        ∙ rest (sym (ap (λ (v : Bool). v || list_any (λ d. d == b) outer) (ne_eqb c b other)) ∙ out)

-- no foot changes nothing
no_feet : (foot : ℕ → Option VerticalExtent) (parts : List Fragment) → ((j : ℕ) (p : Fragment) → slice_get parts j ≡ Some p → foot p.number ≡ None) → HaveFeet foot parts parts
no_feet foot parts none j p there = (p, there, ap (λ (o : Option VerticalExtent). with_foot o p) (sym (none j p there)))

pub closing_start : (t : Tree) → IsTree t → (m : ℤ) (solids : List Placed) (parts : List Fragment) (inner : Option ℕ) → depth_of t.events ≤ most_open → All IsNearSolid solids → AreReached t m solids parts → IsInnermost parts (parted_behind t (last_solid solids)) inner → AreOpenSomewhere t (parted_behind t (last_solid solids)) → IsClosing t m solids parts parts inner None
closing_start t tree m solids parts inner few near r on opened = record {
  rest = parted_behind t (last_solid solids);
  event = opened.0;
  were = subst (WereBefore t.events opened.0) (sym opened.2) (were_before t.events opened.0 opened.1);
  few = (let most = most_open_at [] t.events opened.0 in let size = ap (λ (l : List ℕ). length l) opened.2 in omega arith);
  on = on;
  places = refl;
  feet = no_feet (feet_but (parted_behind t (last_solid solids)) (foot_edge t m solids (reach_of t solids))) parts (λ j p there. none p.number (list_any (λ c. c == p.number) (parted_behind t (last_solid solids))) refl);
  ahead = λ b in_it. refl;
  low = λ z is. absurd (cc);
  near = reached_near t tree m solids parts few near r;
}
  where
    none : (b : ℕ) (v : Bool) → list_any (λ c. c == b) (parted_behind t (last_solid solids)) ≡ v → feet_but (parted_behind t (last_solid solids)) (foot_edge t m solids (reach_of t solids)) b ≡ None
    none b true is = ap (λ (v : Bool). cond v None (foot_edge t m solids (reach_of t solids) b)) is
    none b false is = ap (λ (v : Bool). cond v None (foot_edge t m solids (reach_of t solids) b)) is ∙ along_none t m (reach_of t solids) b None (parted_behind t (last_solid solids)) is

-- the box at the place
pub record IsNext (t : Tree) (m : ℤ) (solids : List Placed) (old now : List Fragment) (i : ℕ) (bottom : Option ℤ) : Type 0 where
  pub box : ℕ
  pub outer : List ℕ
  pub places : List ℕ
  pub at : ℕ
  pub part : Fragment
  pub there : slice_get now i ≡ Some part
  pub number : part.number ≡ box
  pub outer_is : part.outer ≡ first_of places
  pub are : ArePlaces (spine_of now) places outer
  pub below : IsBelow i (first_of places)
  pub opens : slice_get t.events at ≡ Some (Opens box)
  pub were : WereBefore t.events at outer
  pub few : suc (length outer) ≤ most_open
  pub same : map place_of now ≡ map place_of old
  pub feet : HaveFeet (feet_but (box ∷ outer) (foot_edge t m solids (reach_of t solids))) old now
  pub ahead : (b : ℕ) → list_any (λ c. c == b) (box ∷ outer) ≡ true → foot_edge t m solids (reach_of t solids) b ≡ lower_along t m (reach_of t solids) b bottom (box ∷ outer)
  pub low : ForSome bottom (IsNearBottom (most_open - suc (length outer)))
  pub near : (j : ℕ) (p : Fragment) → slice_get now j ≡ Some p → IsNearPart p
  pub opened : IsOpened t m part
  pub around : part.around ≡ content_along t m outer
  pub reach : part.reach ≡ reach_of t solids box

pub next_of : (t : Tree) → IsTree t → (m : ℤ) (solids : List Placed) (old now : List Fragment) (i : ℕ) (bottom : Option ℤ) → AreReached t m solids old → IsClosing t m solids old now (Some i) bottom → IsNext t m solids old now i bottom
next_of t tree m solids old now i bottom r c = by c.rest refl c.on.places (sym c.on.inner_is) c.on.are c.were
  where
    by : (rest : List ℕ) → c.rest ≡ rest → (places : List ℕ) → first_of places ≡ Some i → ArePlaces (spine_of now) places rest → WereBefore t.events c.event rest → IsNext t m solids old now i bottom
    by [] is [] first are w = absurd (cc)
    by (b ∷ outer) is [] first are w = absurd are
    by [] is (j ∷ places) first are w = absurd are
    by (b ∷ outer) is (j ∷ places) first are w =
        let same_place_is : j ≡ i = cc in
        let back = spine_at now j b (first_of places) are.0 in
        let p : Fragment = back.0 in
        let there : slice_get now i ≡ Some p = ap (slice_get now) (sym same_place_is) ∙ back.1 in
        let opened : IsOpened t m p = opened_same t m old now c.places r.met.opened i p there in
        let once : p.event ≡ w.0 = opens_once t tree p.event w.0 b (opened.opens ∙ ap (λ (x : ℕ). Some (Opens x)) back.2) w.2 in
        let feet : HaveFeet (feet_but (b ∷ outer) (foot_edge t m solids (reach_of t solids))) old now = subst (λ l. HaveFeet (feet_but l (foot_edge t m solids (reach_of t solids))) old now) is c.feet in
        let was = feet i p there in
        let number : was.0.number ≡ b = sym (ap (λ (x : Fragment). x.number) was.2) ∙ back.2 in
        let own : list_any (λ d. d == was.0.number) (b ∷ outer) ≡ true = ap (λ (v : Bool). v || list_any (λ d. d == was.0.number) outer) (eq-eqb b was.0.number (sym number)) in
        let kept : p.reach ≡ was.0.reach = ap (λ (x : Fragment). x.reach) was.2 ∙ ap (λ (v : Bool). with_lower (cond v None (foot_edge t m solids (reach_of t solids) was.0.number)) was.0.reach) own in
        record {
          box = b;
          outer = outer;
          places = places;
          at = w.0;
          part = p;
          there = there;
          number = back.2;
          outer_is = back.3;
          are = are.2;
          below = subst (λ n. IsBelow n (first_of places)) same_place_is are.1;
          opens = w.2;
          were = w.4;
          few = subst (λ (l : List ℕ). length l ≤ most_open) is c.few;
          same = c.places;
          feet = feet;
          ahead = subst (λ (l : List ℕ). (d : ℕ) → list_any (λ e. e == d) l ≡ true → foot_edge t m solids (reach_of t solids) d ≡ lower_along t m (reach_of t solids) d bottom l) is c.ahead;
          low = subst (λ (l : List ℕ). ForSome bottom (IsNearBottom (most_open - length l))) is c.low;
          near = c.near;
          opened = opened;
          around = opened.around_is ∙ ap (λ (k : ℕ). content_along t m (open_before t.events k)) once ∙ ap (content_along t m) w.3;
          reach = kept ∙ r.reach i was.0 was.1 ∙ ap (reach_of t solids) number;
        }

-- the box at the place can have its lower edge again
pub next_unclosed : (t : Tree) → IsTree t → (m : ℤ) (solids : List Placed) (old now : List Fragment) (i : ℕ) (bottom : Option ℤ) → depth_of t.events ≤ most_open → All IsNearSolid solids → IsNext t m solids old now i bottom → (p : Fragment) → slice_get now i ≡ Some p → IsUnclosed t p
next_unclosed t tree m solids old now i bottom few near n p there =
    let two : Some n.part ≡ Some p = sym n.there ∙ there in
    let same : n.part ≡ p = cc in
    subst (IsUnclosed t) same (record {
      there = box_there t tree n.part.event n.part.number n.opened.opens;
      wide = reached_wide t m n.part few n.opened;
      reach = subst (λ e. ForSome e IsNearReach) (sym n.reach) (reach_near (stands_in t.events n.box) solids near);
    })

pub next_low : (t : Tree) (m : ℤ) (solids : List Placed) (old now : List Fragment) (i : ℕ) (bottom : Option ℤ) → IsNext t m solids old now i bottom → ForSome bottom (IsNearBottom most_open)
next_low t m solids old now i bottom n z is = let low = n.low z is in omega (arith, ints, low)

-- a place, with one more for it than for none
abbrev pub places_left : Option ℕ → ℕ
places_left None = 0
places_left (Some place) = suc place

-- the box around it stands at a lower place
pub next_left : (t : Tree) (m : ℤ) (solids : List Placed) (old now : List Fragment) (i : ℕ) (bottom : Option ℤ) (next : Option ℕ) → (n : IsNext t m solids old now i bottom) → next ≡ n.part.outer → places_left next < suc i
next_left t m solids old now i bottom next n is = subst (λ (o : Option ℕ). places_left o < suc i) (sym (is ∙ n.outer_is)) (by (first_of n.places) n.below)
  where
    by : (o : Option ℕ) → IsBelow i o → places_left o < suc i
    by None below = omega arith
    by (Some j) below = let low = below in omega arith

-- it has it
pub closing_step : (t : Tree) → IsTree t → (m : ℤ) (solids : List Placed) (old now new : List Fragment) (i : ℕ) (bottom lower : Option ℤ) (next : Option ℕ) → AreReached t m solids old → IsNext t m solids old now i bottom →
    IsClosedAgain t now i bottom new lower → ((k : ℕ) (p : Fragment) → slice_get now i ≡ Some p → ForSome bottom (IsNearBottom k) → ForSome (foot_in t bottom p) (IsNearFoot (suc k))) → ((p : Fragment) → slice_get now i ≡ Some p → next ≡ p.outer) → IsClosing t m solids old new next lower
closing_step t tree m solids old now new i bottom lower next r n closed near next_is = record {
  rest = n.outer;
  event = n.at;
  were = n.were;
  few = (let few = n.few in omega arith);
  on = record { places = n.places; are = subst (λ s. ArePlaces s n.places n.outer) (sym (spine_extends now new placed)) n.are; inner_is = next_is n.part n.there ∙ n.outer_is };
  places = placed ∙ n.same;
  feet = λ j p there. of j p (get-set now i j _ p (subst (λ ps. slice_get ps j ≡ Some p) write there));
  ahead = λ b in_it. ahead b in_it (cases_eq n.box b);
  low = lows;
  near = λ j p there. nears j p (get-set now i j _ p (subst (λ ps. slice_get ps j ≡ Some p) write there));
}
  where
    foot : Option VerticalExtent
    foot = foot_in t bottom n.part

    same_part : closed.0 ≡ n.part
    same_part = let two : Some closed.0 ≡ Some n.part = sym closed.1 ∙ n.there in cc

    write : new ≡ slice_set now i (with_foot foot n.part)
    write = closed.3 ∙ ap (λ (x : Fragment). slice_set now i (with_foot (foot_in t bottom x) x)) same_part

    placed : map place_of new ≡ map place_of now
    placed = ap (map place_of) write ∙ map-set place_of now i n.part (with_foot foot n.part) n.there refl

    far : IsApart n.box n.outer
    far = apart_earlier t tree n.at n.at n.box n.outer n.were n.opens (omega arith)

    -- by the box's number
    foot_is : foot ≡ lower_again (slice_get t.boxes n.box) (span_along t.boxes m n.outer).1 bottom (reach_of t solids n.box)
    foot_is = ap (λ (b : ℕ). lower_again (slice_get t.boxes b) n.part.around.width bottom n.part.reach) n.number ∙ ap₂ (λ (c : Content) (e : Option VerticalExtent). lower_again (slice_get t.boxes n.box) c.width bottom e) n.around n.reach

    lower_is : lower ≡ bottom_with bottom (lower_again (slice_get t.boxes n.box) (span_along t.boxes m n.outer).1 bottom (reach_of t solids n.box))
    lower_is = closed.2 ∙ ap (λ (x : Fragment). bottom_with bottom (foot_in t bottom x)) same_part ∙ ap (bottom_with bottom) foot_is

    apart_none : (b : ℕ) (boxes : List ℕ) → IsApart b boxes → list_any (λ c. c == b) boxes ≡ false
    apart_none b [] f = refl
    apart_none b (c ∷ boxes) f = ap (λ (v : Bool). v || list_any (λ d. d == b) boxes) (ne_eqb c b f.0) ∙ apart_none b boxes f.1

    full : foot_edge t m solids (reach_of t solids) n.box ≡ foot
    full =
        n.ahead n.box (ap (λ (v : Bool). v || list_any (λ d. d == n.box) n.outer) (eq-eqb n.box n.box refl))
        ∙ ap (λ (v : Bool). cond v (lower_again (slice_get t.boxes n.box) (span_along t.boxes m n.outer).1 bottom (reach_of t solids n.box)) (lower_along t m (reach_of t solids) n.box (bottom_with bottom (lower_again (slice_get t.boxes n.box) (span_along t.boxes m n.outer).1 bottom (reach_of t solids n.box))) n.outer)) (eq-eqb n.box n.box refl)
        ∙ sym foot_is

    ahead : (b : ℕ) → list_any (λ c. c == b) n.outer ≡ true → (n.box ≡ b) ⊎ (n.box ≡ b → ⊥) → foot_edge t m solids (reach_of t solids) b ≡ lower_along t m (reach_of t solids) b lower n.outer
    ahead b in_it (inl same) = let out : list_any (λ c. c == b) n.outer ≡ false = ap (λ (k : ℕ). list_any (λ c. c == k) n.outer) (sym same) ∙ apart_none n.box n.outer far in absurd (cc)
    ahead b in_it (inr other) =
        n.ahead b (ap (λ (v : Bool). v || list_any (λ d. d == b) n.outer) (ne_eqb n.box b other) ∙ in_it)
        ∙ ap (λ (v : Bool). cond v (lower_again (slice_get t.boxes n.box) (span_along t.boxes m n.outer).1 bottom (reach_of t solids n.box)) (lower_along t m (reach_of t solids) b (bottom_with bottom (lower_again (slice_get t.boxes n.box) (span_along t.boxes m n.outer).1 bottom (reach_of t solids n.box))) n.outer)) (ne_eqb n.box b other)
        ∙ ap (λ (o : Option ℤ). lower_along t m (reach_of t solids) b o n.outer) (sym lower_is)

    -- the edges that the page has again
    edges : ℕ → Option VerticalExtent
    edges = foot_edge t m solids (reach_of t solids)

    of : (j : ℕ) (p : Fragment) → ((w : Fragment) × (slice_get now j ≡ Some w) × (((j ≡ i) × (p ≡ with_foot foot n.part)) ⊎ ((j ≡ i → ⊥) × (p ≡ w)))) → (q : Fragment) × (slice_get old j ≡ Some q) × (p ≡ with_foot (feet_but n.outer (foot_edge t m solids (reach_of t solids)) q.number) q)
    of j p (w, at_j, inl (same, p_is)) =
        let here : slice_get now j ≡ Some n.part = ap (slice_get now) same ∙ n.there in
        let was = n.feet j n.part here in
        let number : was.0.number ≡ n.box = sym (ap (λ (x : Fragment). x.number) was.2) ∙ n.number in
        let own : list_any (λ d. d == was.0.number) (n.box ∷ n.outer) ≡ true = ap (λ (v : Bool). v || list_any (λ d. d == was.0.number) n.outer) (eq-eqb n.box was.0.number (sym number)) in
        let part_is : n.part ≡ was.0 = was.2 ∙ ap (λ (v : Bool). with_foot (cond v None (edges was.0.number)) was.0) own in
        let out : list_any (λ d. d == was.0.number) n.outer ≡ false = ap (λ (k : ℕ). list_any (λ c. c == k) n.outer) number ∙ apart_none n.box n.outer far in
        let all : feet_but n.outer edges was.0.number ≡ foot = ap (λ (v : Bool). cond v None (edges was.0.number)) out ∙ ap edges number ∙ full in
        (was.0, was.1, p_is ∙ ap (with_foot foot) part_is ∙ ap (λ (o : Option VerticalExtent). with_foot o was.0) (sym all))
    of j p (w, at_j, inr (other, p_is)) =
        let was = n.feet j w at_j in
        let here = same_place old now n.same i n.part n.there in
        let number : here.0.number ≡ n.box = ap (λ (x : Fragment). x.number) here.2 ∙ n.number in
        let apart : n.box ≡ was.0.number → ⊥ = λ e. other (met_apart t tree m old r.met j i was.0 here.0 was.1 here.1 (sym e ∙ sym number)) in
        let all : feet_but (n.box ∷ n.outer) edges was.0.number ≡ feet_but n.outer edges was.0.number = ap (λ (v : Bool). cond (v || list_any (λ d. d == was.0.number) n.outer) None (edges was.0.number)) (ne_eqb n.box was.0.number apart) in
        (was.0, was.1, p_is ∙ was.2 ∙ ap (λ (o : Option VerticalExtent). with_foot o was.0) all)

    foot_near : ForSome foot (IsNearFoot (suc (most_open - suc (length n.outer))))
    foot_near = near (most_open - suc (length n.outer)) n.part n.there n.low

    lows : ForSome lower (IsNearBottom (most_open - length n.outer))
    lows = by foot refl
      where
        count : suc (most_open - suc (length n.outer)) ≡ most_open - length n.outer
        count = let few = n.few in omega arith

        lower_of : lower ≡ bottom_with bottom foot
        lower_of = closed.2 ∙ ap (λ (x : Fragment). bottom_with bottom (foot_in t bottom x)) same_part

        by : (f : Option VerticalExtent) → foot ≡ f → ForSome lower (IsNearBottom (most_open - length n.outer))
        by None is z e = let low = n.low z (sym (lower_of ∙ ap (bottom_with bottom) is) ∙ e) in let few = n.few in omega (arith, ints, low)
        by (Some edge) is z e =
            let one : Some edge.bottom ≡ Some z = sym (lower_of ∙ ap (bottom_with bottom) is) ∙ e in
            let same : edge.bottom ≡ z = cc in
            subst (λ (k : ℕ). IsNearBottom k z) count (subst (IsNearBottom (suc (most_open - suc (length n.outer)))) same (foot_near edge is).bottom)

    nears : (j : ℕ) (p : Fragment) → ((w : Fragment) × (slice_get now j ≡ Some w) × (((j ≡ i) × (p ≡ with_foot foot n.part)) ⊎ ((j ≡ i → ⊥) × (p ≡ w)))) → IsNearPart p
    nears j p (w, at_j, inl (same, p_is)) = subst IsNearPart (sym p_is) (by foot refl (n.near i n.part n.there))
      where
        by : (f : Option VerticalExtent) → foot ≡ f → IsNearPart n.part → IsNearPart (with_foot f n.part)
        by None is part = part
        by (Some edge) is part =
            let f = foot_near edge is in
            let top = f.top in
            let bottom_near = f.bottom in
            let few = n.few in
            let extent : IsNearExtent edge = record { top = omega (arith, ints, top); bottom = omega (arith, ints, bottom_near) } in
            record {
              wide = part.wide;
              near = part.near;
              above = part.above;
              inside = part.inside;
              reach = reaches n.part.reach part.reach;
              upper = part.upper;
              lower = λ e x. let one : edge ≡ e = cc in subst IsNearExtent one extent;
            }
          where
            reaches : (o : Option VerticalExtent) → ForSome o IsNearExtent → ForSome (with_lower (Some edge) o) IsNearExtent
            reaches None near_o e x = absurd (cc)
            reaches (Some own) near_o e x =
                let f = foot_near edge is in
                let bottom_near = f.bottom in
                let few = n.few in
                let own_near = near_o own refl in
                let top = own_near.top in
                let one : record own { bottom = edge.bottom } ≡ e = cc in
                subst IsNearExtent one (record { top = top; bottom = omega (arith, ints, bottom_near) })
    nears j p (w, at_j, inr (other, p_is)) = subst IsNearPart (sym p_is) (n.near j w at_j)

pub closing_end : (t : Tree) (m : ℤ) (solids : List Placed) (old now : List Fragment) (bottom : Option ℤ) → IsClosing t m solids old now None bottom → AreClosedAgain t m solids old now
closing_end t m solids old now bottom c = record { places = c.places; feet = subst (λ l. HaveFeet (feet_but l (foot_edge t m solids (reach_of t solids))) old now) (none c.rest c.on.places (sym c.on.inner_is) c.on.are) c.feet }
  where
    none : (rest places : List ℕ) → first_of places ≡ None → ArePlaces (spine_of now) places rest → rest ≡ []
    none [] [] first are = refl
    none (b ∷ rest) [] first are = absurd are
    none rest (i ∷ places) first are = absurd (cc)

-- where no solid stands nothing is parted
pub closed_none : (t : Tree) (m : ℤ) (solids : List Placed) (parts : List Fragment) → parted_behind t (last_solid solids) ≡ [] → AreClosedAgain t m solids parts parts
closed_none t m solids parts none = record { places = refl; feet = no_feet (foot_edge t m solids (reach_of t solids)) parts (λ j p there. ap (lower_along t m (reach_of t solids) p.number None) none) }

-- nor where no box clones
pub sliced_none : (t : Tree) (m : ℤ) (solids : List Placed) (parts : List Fragment) → ((j : ℕ) (p : Fragment) → slice_get parts j ≡ Some p → lower_along t m (reach_of t solids) p.number None (parted_behind t (last_solid solids)) ≡ None) → AreClosedAgain t m solids parts parts
sliced_none t m solids parts none = record { places = refl; feet = no_feet (foot_edge t m solids (reach_of t solids)) parts none }
