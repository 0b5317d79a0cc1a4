-- The boxes that are open through a run, and those that were met of them.
use Rattle.std.proofs.Common.{◌≡◌, ◌<◌, ◌≤◌, ◌+◌, ◌-◌, ℕ, zero, suc, Bool, true, false, not, cond, ◌==◌, ◌||◌, ◌&&◌, List, [], ◌∷◌, ◌++◌, Option, Some, None, length, drop, slice_get, refl, sym, ap, ap₂, ◌∙◌, subst, arith, ◌⊎◌, inl, inr}
use Rattle.std.specs.List.{filter, last_or, list_any}
use Rattle.std.proofs.lemmas.Bool.{ne_eqb, eq-eqb}
use Rattle.std.proofs.lemmas.List.Folds.{list_any-append}
use Rattle.std.proofs.lemmas.Option.{slice_get_within}
use Rattle.boxes.specs.declared.place.Event.{Event}
use Rattle.boxes.specs.declared.place.Event.TheVariants.{Opens, Closes, Leaf}
use Rattle.boxes.specs.Clones.{closes_box, open_through}
use Rattle.boxes.specs.declared.props.BoxProps.{BoxProps}
use Rattle.boxes.specs.Tree.{Tree, IsTree, open_before, first_of, is_leaf, is_opening, rest_of, open_with}
use Rattle.boxes.proofs.ListLemmas.{slice_get_at}
use Rattle.boxes.proofs.TreeLemmas.{open-step}
use Rattle.boxes.proofs.TreeFacts.{opens_once, closes_innermost}
use Rattle.seams.specs.Runs.{events_in, is_closing, is_solid, run_end, run_start, solid_after, solid_from}
use Rattle.seams.proofs.RunLemmas.{events_none, events_step}
use Rattle.seams.proofs.MeetLemmas.{events_split}
use Rattle.boxes.specs.declared.page.Placed.{Placed}
use Rattle.paint.specs.Clones.{ends_inside, run_behind}
use Rattle.paint.specs.declared.parts.Fragment.{Fragment}
use Rattle.paint.specs.Parts.{AreOpenSomewhere, ArePlaces, IsInnermost, end_by, left_by, left_with, spine_of}
use Rattle.paint.proofs.PartLemmas.{WereBefore, spine_at, were_before}

-- ---- a box is open once

-- no one of some boxes is a certain one
abbrev pub IsApart : ℕ → List ℕ → Type 0
IsApart c [] = Unit {0}
IsApart c (b ∷ boxes) = (b ≡ c → ⊥) × IsApart c boxes

-- boxes that were opened before a box are other ones
pub apart_earlier : (t : Tree) → IsTree t → (n k c : ℕ) (boxes : List ℕ) → WereBefore t.events n boxes → slice_get t.events k ≡ Some (Opens c) → n ≤ k → IsApart c boxes
apart_earlier t tree n k c [] w there low = tt
apart_earlier t tree n k c (b ∷ boxes) w there low = (
  λ same.
      let once : w.0 ≡ k = opens_once t tree w.0 k c (w.2 ∙ ap (λ (x : ℕ). Some (Opens x)) same) there in
      let less = w.1 in
      omega arith,
  apart_earlier t tree w.0 k c boxes w.4 there (let less = w.1 in omega arith),
)

-- ---- what is left of some boxes after a further event

-- whether none of some events closes a box
abbrev stays : List Event → ℕ → Bool
stays run b = not (list_any (closes_box b) run)

stays_none : (boxes : List ℕ) → filter (stays []) boxes ≡ boxes
stays_none [] = refl
stays_none (b ∷ boxes) = ap (λ (l : List ℕ). b ∷ l) (stays_none boxes)

stays_more : (run : List Event) (e : Event) (boxes : List ℕ) → filter (stays (run ++ e ∷ [])) boxes ≡ filter (λ b. not (closes_box b e)) (filter (stays run) boxes)
stays_more run e [] = refl
stays_more run e (b ∷ boxes) =
    ap (λ (x : Bool). cond (not x) (b ∷ filter (stays (run ++ e ∷ [])) boxes) (filter (stays (run ++ e ∷ [])) boxes)) (list_any-append (closes_box b) run (e ∷ []))
    ∙ ap (λ (l : List ℕ). cond (not (list_any (closes_box b) run || (closes_box b e || false))) (b ∷ l) l) (stays_more run e boxes)
    ∙ by (list_any (closes_box b) run) (closes_box b e) refl (filter (stays run) boxes)
  where
    by : (x y : Bool) → closes_box b e ≡ y → (left : List ℕ) → cond (not (x || (closes_box b e || false))) (b ∷ filter (λ c. not (closes_box c e)) left) (filter (λ c. not (closes_box c e)) left) ≡ filter (λ c. not (closes_box c e)) (cond (not x) (b ∷ left) left)
    by true y is left = refl
    by false true is left =
        ap (λ (z : Bool). cond (not (z || false)) (b ∷ filter (λ c. not (closes_box c e)) left) (filter (λ c. not (closes_box c e)) left)) is
        ∙ sym (ap (λ (z : Bool). cond (not z) (b ∷ filter (λ c. not (closes_box c e)) left) (filter (λ c. not (closes_box c e)) left)) is)
    by false false is left =
        ap (λ (z : Bool). cond (not (z || false)) (b ∷ filter (λ c. not (closes_box c e)) left) (filter (λ c. not (closes_box c e)) left)) is
        ∙ sym (ap (λ (z : Bool). cond (not z) (b ∷ filter (λ c. not (closes_box c e)) left) (filter (λ c. not (closes_box c e)) left)) is)

pub all_stay : (e : Event) (boxes : List ℕ) → ((b : ℕ) → closes_box b e ≡ false) → filter (λ b. not (closes_box b e)) boxes ≡ boxes
all_stay e [] none = refl
all_stay e (b ∷ boxes) none = ap (λ (x : Bool). cond (not x) (b ∷ filter (λ c. not (closes_box c e)) boxes) (filter (λ c. not (closes_box c e)) boxes)) (none b) ∙ ap (λ (l : List ℕ). b ∷ l) (all_stay e boxes none)

apart_stay : (c : ℕ) (boxes : List ℕ) → IsApart c boxes → filter (λ b. not (closes_box b (Closes c))) boxes ≡ boxes
apart_stay c [] far = refl
apart_stay c (b ∷ boxes) far = ap (λ (x : Bool). cond (not x) (b ∷ filter (λ d. not (closes_box d (Closes c))) boxes) (filter (λ d. not (closes_box d (Closes c))) boxes)) (ne_eqb c b (λ e. far.0 (sym e))) ∙ ap (λ (l : List ℕ). b ∷ l) (apart_stay c boxes far.1)

first_leaves : (c : ℕ) (boxes : List ℕ) → IsApart c boxes → filter (λ b. not (closes_box b (Closes c))) (c ∷ boxes) ≡ boxes
first_leaves c boxes far = ap (λ (x : Bool). cond (not x) (c ∷ filter (λ d. not (closes_box d (Closes c))) boxes) (filter (λ d. not (closes_box d (Closes c))) boxes)) (eq-eqb c c refl) ∙ apart_stay c boxes far

-- the events of a run with one more
run_more : (t : Tree) (from at : ℕ) (e : Event) → from ≤ at → slice_get t.events at ≡ Some e → events_in t from (suc at) ≡ events_in t from at ++ e ∷ []
run_more t from at e low there =
    let w = slice_get_within t.events at e there in
    events_split t (at - from) from at (suc at) (omega arith) (omega arith) (omega arith)
    ∙ ap (λ (l : List Event). events_in t from at ++ l) (events_step t at (suc at) e (omega arith) there ∙ ap (λ (l : List Event). e ∷ l) (events_none t (suc at) (suc at) (omega arith)))

pub through_more : (t : Tree) (from at : ℕ) (e : Event) → from ≤ at → slice_get t.events at ≡ Some e → open_through t from (events_in t from (suc at)) ≡ filter (λ b. not (closes_box b e)) (open_through t from (events_in t from at))
through_more t from at e low there = ap (open_through t from) (run_more t from at e low there) ∙ stays_more (events_in t from at) e (open_before t.events from)

pub through_none : (t : Tree) (from at : ℕ) → at ≤ from → open_through t from (events_in t from at) ≡ open_before t.events from
through_none t from at low = ap (open_through t from) (events_none t from at low) ∙ stays_none (open_before t.events from)

-- ---- the run behind a solid

from_low : (boxes : List BoxProps) (es : List Event) (k n : ℕ) → solid_from boxes es k ≡ Some n → k ≤ n
from_low boxes [] k n e = absurd (cc)
from_low boxes (x ∷ es) k n e = by (is_solid boxes x) e (from_low boxes es (suc k) n)
  where
    by : (v : Bool) → cond v (Some k) (solid_from boxes es (suc k)) ≡ Some n → (solid_from boxes es (suc k) ≡ Some n → suc k ≤ n) → k ≤ n
    by true h more = let same : k ≡ n = cc in omega arith
    by false h more = let low = more h in omega arith

-- it ends where it begins or later
pub behind_order : (t : Tree) (k : ℕ) → k < length t.events → run_start t (Some k) ≤ run_end t (solid_after t (suc k))
behind_order t k within = ends (solid_after t (suc k)) refl
  where
    begins : (v : Bool) → cond v k (suc k) ≤ suc k
    begins true = omega arith
    begins false = omega arith

    ends : (o : Option ℕ) → solid_after t (suc k) ≡ o → run_start t (Some k) ≤ run_end t o
    ends None is = let low = begins (is_closing (slice_get t.events k)) in omega arith
    ends (Some n) is = by (is_opening (slice_get t.events n))
      where
        by : (v : Bool) → run_start t (Some k) ≤ cond v (suc n) n
        by true = let low = begins (is_closing (slice_get t.events k)) in let more = from_low t.boxes (drop (suc k) t.events) (suc k) n is in omega arith
        by false = let low = begins (is_closing (slice_get t.events k)) in let more = from_low t.boxes (drop (suc k) t.events) (suc k) n is in omega arith

abbrev one_of : Bool → ℕ × ℕ → ℕ × ℕ → ℕ × ℕ
one_of v a b = cond v a b

-- where it begins the boxes are open in which the solid stands
pub behind_open : (t : Tree) (s : Placed) (event : ℕ) → s.at.event < length t.events → event ≡ end_by (slice_get t.events s.at.event) s.at.event → open_before t.events event ≡ open_before t.events (run_behind t s).0
behind_open t s event within is = let there = slice_get_at t.events s.at.event within in by there.0 there.1
  where
    k : ℕ
    k = s.at.event

    first : (v : Bool) → ends_inside t s ≡ v → (run_behind t s).0 ≡ cond v k (run_start t (Some k))
    first true e = ap (λ (v : Bool). (one_of v (k, k) (run_start t (Some k), run_end t (solid_after t (suc k)))).0) e
    first false e = ap (λ (v : Bool). (one_of v (k, k) (run_start t (Some k), run_end t (solid_after t (suc k)))).0) e

    by : (x : Event) → slice_get t.events k ≡ Some x → open_before t.events event ≡ open_before t.events (run_behind t s).0
    by (Opens b) at =
        let no : ends_inside t s ≡ false = ap (λ (o : Option Event). is_leaf o && (s.end.event == k)) at in
        let start : run_start t (Some k) ≡ suc k = ap (λ (o : Option Event). cond (is_closing o) k (suc k)) at in
        ap (open_before t.events) (is ∙ ap (λ (o : Option Event). end_by o k) at ∙ sym (first false no ∙ start))
    by (Closes b) at =
        let no : ends_inside t s ≡ false = ap (λ (o : Option Event). is_leaf o && (s.end.event == k)) at in
        let start : run_start t (Some k) ≡ k = ap (λ (o : Option Event). cond (is_closing o) k (suc k)) at in
        ap (open_before t.events) (is ∙ ap (λ (o : Option Event). end_by o k) at ∙ sym (first false no ∙ start))
    by (Leaf l) at =
        let start : run_start t (Some k) ≡ suc k = ap (λ (o : Option Event). cond (is_closing o) k (suc k)) at in
        ap (open_before t.events) (is ∙ ap (λ (o : Option Event). end_by o k) at) ∙ of (ends_inside t s) refl start
      where
        of : (v : Bool) → ends_inside t s ≡ v → run_start t (Some k) ≡ suc k → open_before t.events k ≡ open_before t.events (run_behind t s).0
        of true e start = ap (open_before t.events) (sym (first true e))
        of false e start = sym (open-step t.events k (Leaf l) at) ∙ ap (open_before t.events) (sym (first false e ∙ start))

-- ---- the open boxes in two parts

-- each of some boxes was opened by an event from one on
abbrev pub AreLate : List Event → ℕ → List ℕ → Type 0
AreLate es from [] = Unit {0}
AreLate es from (b ∷ boxes) = ((k : ℕ) × (from ≤ k) × (slice_get es k ≡ Some (Opens b))) × AreLate es from boxes

-- of the boxes that are open before an event those are open through the run up to it that were open before some event,
-- and the run opened the others
pub record IsSplit (t : Tree) (from at : ℕ) : Type 0 where
  pub place : ℕ
  pub low : place ≤ from
  pub through : open_through t from (events_in t from at) ≡ open_before t.events place
  pub extra : List ℕ
  pub stack : open_before t.events at ≡ extra ++ open_before t.events place
  pub late : AreLate t.events from extra

pub split_start : (t : Tree) (from : ℕ) → IsSplit t from from
split_start t from = record { place = from; low = omega arith; through = through_none t from from (omega arith); extra = []; stack = refl; late = tt }

-- an event that closes no box
split_other : (t : Tree) (from at : ℕ) (e : Event) (more : List ℕ) → from ≤ at → slice_get t.events at ≡ Some e → ((b : ℕ) → closes_box b e ≡ false) → ((stack : List ℕ) → open_with stack e ≡ more ++ stack) → AreLate t.events from more → IsSplit t from at → IsSplit t from (suc at)
split_other t from at e more low there none opens late s = record {
  place = s.place;
  low = s.low;
  through = through_more t from at e low there ∙ all_stay e (open_through t from (events_in t from at)) none ∙ s.through;
  extra = more ++ s.extra;
  stack = open-step t.events at e there ∙ opens (open_before t.events at) ∙ ap (λ (l : List ℕ). more ++ l) s.stack ∙ sym (assoc_list more s.extra (open_before t.events s.place));
  late = both more late;
}
  where
    assoc_list : (xs bs cs : List ℕ) → (xs ++ bs) ++ cs ≡ xs ++ (bs ++ cs)
    assoc_list [] bs cs = refl
    assoc_list (a ∷ xs) bs cs = ap (λ (l : List ℕ). a ∷ l) (assoc_list xs bs cs)

    both : (xs : List ℕ) → AreLate t.events from xs → AreLate t.events from (xs ++ s.extra)
    both [] l = s.late
    both (x ∷ xs) l = (l.0, both xs l.1)

-- the box that an event closes is one that the run opened, or the innermost one of the others
abbrev pub ClosesLate : (t : Tree) (from at c : ℕ) → IsSplit t from at → Type 0
ClosesLate t from at c s = (more : List ℕ) × (s.extra ≡ c ∷ more) × IsApart c (open_before t.events s.place)

abbrev pub ClosesEarly : (t : Tree) (from at c : ℕ) → IsSplit t from at → Type 0
ClosesEarly t from at c s = (o : ℕ) × (o ≤ s.place) × (s.extra ≡ []) × (open_before t.events s.place ≡ c ∷ open_before t.events o) × IsApart c (open_before t.events o)

pub split_closing : (t : Tree) → IsTree t → (from at c : ℕ) → from ≤ at → slice_get t.events at ≡ Some (Closes c) → (s : IsSplit t from at) → ClosesLate t from at c s ⊎ ClosesEarly t from at c s
split_closing t tree from at c low there s = by s.extra refl
  where
    first : first_of (open_before t.events at) ≡ Some c
    first = closes_innermost t tree at c there

    within : at < length t.events
    within = slice_get_within t.events at (Closes c) there

    were : WereBefore t.events s.place (open_before t.events s.place)
    were = were_before t.events s.place (let l = s.low in let w = within in omega arith)

    by : (extra : List ℕ) → s.extra ≡ extra → ClosesLate t from at c s ⊎ ClosesEarly t from at c s
    by (x ∷ more) is =
        let one : Some x ≡ Some c = sym (ap first_of (s.stack ∙ ap (λ (l : List ℕ). l ++ open_before t.events s.place) is)) ∙ first in
        let same : x ≡ c = cc in
        let late : AreLate t.events from (x ∷ more) = subst (AreLate t.events from) is s.late in
        let opened : slice_get t.events late.0.0 ≡ Some (Opens c) = late.0.2 ∙ ap (λ (n : ℕ). Some (Opens n)) same in
        inl (more, is ∙ ap (λ (n : ℕ). n ∷ more) same, apart_earlier t tree s.place late.0.0 c (open_before t.events s.place) were opened (let l = s.low in let m = late.0.1 in omega arith))
    by [] is = of (open_before t.events s.place) refl were
      where
        of : (boxes : List ℕ) → open_before t.events s.place ≡ boxes → WereBefore t.events s.place boxes → ClosesLate t from at c s ⊎ ClosesEarly t from at c s
        of [] e w = let none : None ≡ Some c = sym (ap first_of (s.stack ∙ ap₂ (λ (l m : List ℕ). l ++ m) is e)) ∙ first in absurd (cc)
        of (b ∷ boxes) e w =
            let one : Some b ≡ Some c = sym (ap first_of (s.stack ∙ ap₂ (λ (l m : List ℕ). l ++ m) is e)) ∙ first in
            let same : b ≡ c = cc in
            let opened : slice_get t.events w.0 ≡ Some (Opens c) = w.2 ∙ ap (λ (n : ℕ). Some (Opens n)) same in
            inr (w.0, (let l = w.1 in omega arith), is, e ∙ ap₂ (λ (n : ℕ) (l : List ℕ). n ∷ l) same (sym w.3), subst (IsApart c) (sym w.3) (apart_earlier t tree w.0 w.0 c boxes w.4 opened (omega arith)))

split_closes : (t : Tree) → IsTree t → (from at c : ℕ) → from ≤ at → slice_get t.events at ≡ Some (Closes c) → IsSplit t from at → IsSplit t from (suc at)
split_closes t tree from at c low there s = by (split_closing t tree from at c low there s)
  where
    after : (extra : List ℕ) → s.extra ≡ c ∷ extra → open_before t.events (suc at) ≡ extra ++ open_before t.events s.place
    after extra is = open-step t.events at (Closes c) there ∙ ap rest_of (s.stack ∙ ap (λ (l : List ℕ). l ++ open_before t.events s.place) is)

    by : ClosesLate t from at c s ⊎ ClosesEarly t from at c s → IsSplit t from (suc at)
    by (inl l) = record {
      place = s.place;
      low = s.low;
      through = through_more t from at (Closes c) low there ∙ ap (filter (λ b. not (closes_box b (Closes c)))) s.through ∙ apart_stay c (open_before t.events s.place) l.2;
      extra = l.0;
      stack = after l.0 l.1;
      late = (let late : AreLate t.events from (c ∷ l.0) = subst (AreLate t.events from) l.1 s.late in late.1);
    }
    by (inr e) = record {
      place = e.0;
      low = (let a = e.1 in let b = s.low in omega arith);
      through = through_more t from at (Closes c) low there ∙ ap (filter (λ b. not (closes_box b (Closes c)))) (s.through ∙ e.3) ∙ first_leaves c (open_before t.events e.0) e.4;
      extra = [];
      stack = open-step t.events at (Closes c) there ∙ ap rest_of (s.stack ∙ ap₂ (λ (l m : List ℕ). l ++ m) e.2 e.3);
      late = tt;
    }

pub split_step : (t : Tree) → IsTree t → (from at : ℕ) (e : Event) → from ≤ at → slice_get t.events at ≡ Some e → IsSplit t from at → IsSplit t from (suc at)
split_step t tree from at (Opens b) low there s = split_other t from at (Opens b) (b ∷ []) low there (λ c. refl) (λ stack. refl) ((at, low, there), tt) s
split_step t tree from at (Closes c) low there s = split_closes t tree from at c low there s
split_step t tree from at (Leaf l) low there s = split_other t from at (Leaf l) [] low there (λ c. refl) (λ stack. refl) tt s

pub split_all : (t : Tree) → IsTree t → (from n : ℕ) → from + n ≤ length t.events → IsSplit t from (from + n)
split_all t tree from zero low = subst (IsSplit t from) (omega arith) (split_start t from)
split_all t tree from (suc n) low =
    let there = slice_get_at t.events (from + n) (omega arith) in
    let next : suc (from + n) ≡ from + suc n = omega arith in
    subst (IsSplit t from) next (split_step t tree from (from + n) there.0 (omega arith) there.1 (split_all t tree from n (omega arith)))

pub split_to : (t : Tree) → IsTree t → (from to : ℕ) → from ≤ to → to ≤ length t.events → IsSplit t from to
split_to t tree from to order low = let sum : from + (to - from) ≡ to = omega arith in subst (IsSplit t from) sum (split_all t tree from (to - from) (omega arith))

-- ---- the place of the innermost one

-- where another box closes, it stays
pub inner_stays : (parts : List Fragment) (boxes : List ℕ) (inner : Option ℕ) (c : ℕ) → IsInnermost parts boxes inner → IsApart c boxes → left_by parts inner c ≡ inner
inner_stays parts boxes inner c on far = ap (λ (o : Option ℕ). left_by parts o c) on.inner_is ∙ by on.places boxes on.are far ∙ sym on.inner_is
  where
    by : (places bs : List ℕ) → ArePlaces (spine_of parts) places bs → IsApart c bs → left_by parts (first_of places) c ≡ first_of places
    by [] bs are f = refl
    by (i ∷ places) [] are f = absurd are
    by (i ∷ places) (b ∷ bs) are f =
        let back = spine_at parts i b (first_of places) are.0 in
        ap (λ (o : Option Fragment). left_with o i c) back.1 ∙ ap (λ (x : Bool). cond x back.0.outer (Some i)) (ne_eqb back.0.number c (λ e. f.0 (sym back.2 ∙ e)))

-- where it closes, it becomes that of the box around it
pub inner_leaves : (parts : List Fragment) (boxes : List ℕ) (inner : Option ℕ) (c : ℕ) → IsInnermost parts (c ∷ boxes) inner → IsInnermost parts boxes (left_by parts inner c)
inner_leaves parts boxes inner c on = by on.places on.are on.inner_is
  where
    by : (places : List ℕ) → ArePlaces (spine_of parts) places (c ∷ boxes) → inner ≡ first_of places → IsInnermost parts boxes (left_by parts inner c)
    by [] are is = absurd are
    by (i ∷ places) are is =
        let back = spine_at parts i c (first_of places) are.0 in
        record {
          places = places;
          are = are.2;
          inner_is = ap (λ (o : Option ℕ). left_by parts o c) is ∙ ap (λ (o : Option Fragment). left_with o i c) back.1 ∙ ap (λ (x : Bool). cond x back.0.outer (Some i)) (eq-eqb back.0.number c back.2) ∙ back.3;
        }

-- the walk along a run
pub record IsLeft (t : Tree) (parts : List Fragment) (from at : ℕ) (inner : Option ℕ) : Type 0 where
  pub split : IsSplit t from at
  pub on : IsInnermost parts (open_through t from (events_in t from at)) inner

pub left_start : (t : Tree) (parts : List Fragment) (from : ℕ) (inner : Option ℕ) → IsInnermost parts (open_before t.events from) inner → IsLeft t parts from from inner
left_start t parts from inner on = record { split = split_start t from; on = subst (λ l. IsInnermost parts l inner) (sym (through_none t from from (omega arith))) on }

pub left_other : (t : Tree) → IsTree t → (parts : List Fragment) (from at : ℕ) (inner : Option ℕ) (e : Event) → from ≤ at → slice_get t.events at ≡ Some e → ((b : ℕ) → e ≡ Closes b → ⊥) → IsLeft t parts from at inner → IsLeft t parts from (suc at) inner
left_other t tree parts from at inner e low there other l = record {
  split = split_step t tree from at e low there l.split;
  on = subst (λ bs. IsInnermost parts bs inner) (sym (through_more t from at e low there ∙ all_stay e (open_through t from (events_in t from at)) (none e other))) l.on;
}
  where
    none : (x : Event) → ((b : ℕ) → x ≡ Closes b → ⊥) → (b : ℕ) → closes_box b x ≡ false
    none (Opens d) o b = refl
    none (Closes d) o b = absurd (o d refl)
    none (Leaf d) o b = refl

pub left_closes : (t : Tree) → IsTree t → (parts : List Fragment) (from at c : ℕ) (inner : Option ℕ) → from ≤ at → slice_get t.events at ≡ Some (Closes c) → IsLeft t parts from at inner → IsLeft t parts from (suc at) (left_by parts inner c)
left_closes t tree parts from at c inner low there l = record { split = split_step t tree from at (Closes c) low there l.split; on = by (split_closing t tree from at c low there l.split) }
  where
    s : IsSplit t from at
    s = l.split

    next : open_through t from (events_in t from (suc at)) ≡ filter (λ b. not (closes_box b (Closes c))) (open_before t.events s.place)
    next = through_more t from at (Closes c) low there ∙ ap (filter (λ b. not (closes_box b (Closes c)))) s.through

    on : IsInnermost parts (open_before t.events s.place) inner
    on = subst (λ bs. IsInnermost parts bs inner) s.through l.on

    by : ClosesLate t from at c s ⊎ ClosesEarly t from at c s → IsInnermost parts (open_through t from (events_in t from (suc at))) (left_by parts inner c)
    by (inl f) = subst (λ bs. IsInnermost parts bs (left_by parts inner c)) (sym (next ∙ apart_stay c (open_before t.events s.place) f.2)) (subst (IsInnermost parts (open_before t.events s.place)) (sym (inner_stays parts (open_before t.events s.place) inner c on f.2)) on)
    by (inr f) = subst (λ bs. IsInnermost parts bs (left_by parts inner c)) (sym (next ∙ ap (filter (λ b. not (closes_box b (Closes c)))) f.3 ∙ first_leaves c (open_before t.events f.0) f.4)) (inner_leaves parts (open_before t.events f.0) inner c (subst (λ bs. IsInnermost parts bs inner) f.3 on))

pub inner_there : (parts : List Fragment) (boxes : List ℕ) (inner : Option ℕ) → IsInnermost parts boxes inner → (i : ℕ) → inner ≡ Some i → i < length parts
inner_there parts boxes inner on i e = by on.places boxes on.are (sym on.inner_is ∙ e)
  where
    by : (places bs : List ℕ) → ArePlaces (spine_of parts) places bs → first_of places ≡ Some i → i < length parts
    by [] bs are f = absurd (cc)
    by (j ∷ places) [] are f = absurd are
    by (j ∷ places) (b ∷ bs) are f =
        let same : j ≡ i = cc in
        let back = spine_at parts j b (first_of places) are.0 in
        let w = slice_get_within parts j back.0 back.1 in
        omega arith

-- the boxes that are open through a run were open somewhere
pub through_open : (t : Tree) → IsTree t → (from to : ℕ) → from ≤ to → to ≤ length t.events → AreOpenSomewhere t (open_through t from (events_in t from to))
through_open t tree from to order within = let s : IsSplit t from to = split_to t tree from to order within in (s.place, (let low = s.low in omega arith), s.through)

last_at : (o : Option Placed) (s : Placed) (solids : List Placed) → last_or o (s ∷ solids) ≡ slice_get (s ∷ solids) (length solids)
last_at o s [] = refl
last_at o s (r ∷ solids) = last_at (Some s) r solids

-- the last of some solids by its place
pub last_get : (solids : List Placed) (s : Placed) → slice_get solids (length solids - 1) ≡ Some s → last_or None solids ≡ Some s
last_get [] s e = absurd (cc)
last_get (r ∷ solids) s e = let n : length solids ≡ length (r ∷ solids) - 1 = omega arith in last_at None r solids ∙ ap (slice_get (r ∷ solids)) n ∙ e
