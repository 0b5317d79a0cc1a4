-- Which solids of a list begin notes: the first one of each note that is called on the page.
use Rattle.std.proofs.Common.{◌≡◌, ◌≢◌, ℕ, zero, suc, ◌+◌, ◌-◌, ◌<◌, ◌≤◌, ◌==◌, ◌&&◌, ◌||◌, ◌⊎◌, inl, inr, ℤ, Bool, true, false, not, cond, eqb, List, [], ◌∷◌, Option, Some, None, is_some, length, map, slice_get, refl, sym, ap, ◌∙◌, subst, arith, add-one}
use Rattle.std.proofs.lemmas.Bool.{cases_lt, eq-eqb, ne_eqb}
use Rattle.std.proofs.lemmas.Bool.Decides.{eqb_tells}
use Rattle.std.proofs.lemmas.Option.{slice_get_within}
use Rattle.std.proofs.Math.Bool.{and-false}
use Rattle.metrics.specs.Face.{FontFace}
use Rattle.boxes.specs.Tree.{Tree, IsTree}
use Rattle.boxes.specs.declared.place.Event.{Event}
use Rattle.boxes.specs.declared.place.Position.{Position}
use Rattle.line_fill.proofs.EndLemmas.{lines_go_on}
use Rattle.seams.specs.Runs.{is_solid_at, solid_after, solid_before}
use Rattle.seams.proofs.RunLemmas.{after_solid, solid_step}
use Rattle.cursor.specs.Remainder.{IsContent, IsLineSolid, IsRemainder, IsSolid, SolidView, leaf_measure}
use Rattle.cursor.specs.Remainder.IsContent.{of_line, of_open, of_close}
use Rattle.cursor.proofs.RemLemmas.{Stands, begins_of, found_of, place, solid_stands}
use Rattle.cursor.proofs.PartLemmas.{solid_itself, before_found}
use Rattle.note_list.specs.Calls.{start_place}
use Rattle.note_list.specs.Lists.{NotePart, is_first, noted}
use Rattle.note_list.specs.Reads.{has_begin}

-- ---- events

event_within : (t : Tree) (k : ℕ) → is_solid_at t.boxes (slice_get t.events k) ≡ true → k < length t.events
event_within t k is = go (slice_get t.events k) refl is
  where
    go : (o : Option Event) → slice_get t.events k ≡ o → is_solid_at t.boxes o ≡ true → k < length t.events
    go None e is = absurd (cc)
    go (Some event) e is = slice_get_within t.events k event e

-- where no solid stands before one, it is the first of all
none_before : (t : Tree) (m j : ℕ) → solid_before t m ≡ None → j < m → is_solid_at t.boxes (slice_get t.events j) ≡ false
none_before t zero j e h = absurd (omega arith)
none_before t (suc m) j e h = by (is_solid_at t.boxes (slice_get t.events m)) refl e (λ f l. none_before t m j f l) (cases_lt j m)
  where
    by : (b : Bool) → is_solid_at t.boxes (slice_get t.events m) ≡ b → cond b (Some m) (solid_before t m) ≡ None → (solid_before t m ≡ None → j < m → is_solid_at t.boxes (slice_get t.events j) ≡ false) → (j < m) ⊎ (m ≤ j) → is_solid_at t.boxes (slice_get t.events j) ≡ false
    by true is f more at = absurd (cc)
    by false is f more (inl l) = more f l
    by false is f more (inr l) = let same : j ≡ m = omega arith in ap (λ (k : ℕ). is_solid_at t.boxes (slice_get t.events k)) same ∙ is

first_of : (t : Tree) (m : ℕ) → is_solid_at t.boxes (slice_get t.events m) ≡ true → solid_before t m ≡ None → (d j : ℕ) → j + d ≡ m → solid_after t j ≡ Some m
first_of t m is none zero j e = let same : m ≡ j = omega arith in subst (λ (k : ℕ). solid_after t k ≡ Some m) same (solid_itself t m is)
first_of t m is none (suc d) j e =
    let within = event_within t m is in
    solid_step t j false (omega arith) (none_before t m j none (omega arith)) ∙ first_of t m is none d (suc j) (omega arith)

-- ---- first solids

-- a solid is the first of its body if none stands before it
pub first_is : (t : Tree) (at : Position) (first : Option ℕ) (b : Bool) → first ≡ solid_after t 0 → is_solid_at t.boxes (slice_get t.events at.event) ≡ true → (b ≡ true → first ≡ Some at.event) → (b ≡ false → first ≢ Some at.event) → b ≡ not (is_some (solid_before t at.event))
first_is t at first true e is hit miss = ap (λ (o : Option ℕ). not (is_some o)) (sym (before_found t 0 at.event (sym e ∙ hit refl)))
first_is t at first false e is hit miss = by (solid_before t at.event) refl
  where
    by : (o : Option ℕ) → solid_before t at.event ≡ o → false ≡ not (is_some o)
    by (Some p) f = refl
    by None f = absurd (miss refl (e ∙ first_of t at.event is f at.event 0 (omega arith)))

-- after a place that isn't before all solids no solid is the first
is_first_by : (t : Tree) (at : Position) (o : Option ℕ) → solid_before t at.event ≡ o → is_first t at ≡ (at.offset == 0 && not (is_some o))
is_first_by t at o e = ap (λ (x : Option ℕ). at.offset == 0 && not (is_some x)) e

pub not_first : (faces : List FontFace) (t : Tree) (width : ℤ) (from : Position) (s : SolidView) → Stands t from → is_first t from ≡ false → IsSolid faces t width from s → is_first t s.placed_at ≡ false
not_first faces t width from s holds none is = by (eqb_tells s.placed_at.event from.event)
  where
    begins : s.placed_at.offset ≡ cond (eqb s.placed_at.event from.event) from.offset 0
    begins = begins_of faces t width from s holds is

    same : solid_before t s.placed_at.event ≡ solid_before t from.event
    same = before_found t from.event s.placed_at.event is.found

    on : (offset : ℕ) → from.offset ≡ offset → is_first t s.placed_at ≡ false
    on zero e =
        let here : (from.offset == 0) ≡ true = eq-eqb from.offset 0 e in
        let free : not (is_some (solid_before t from.event)) ≡ false = subst (λ (b : Bool). (b && not (is_some (solid_before t from.event))) ≡ false) here none in
        ap (λ (o : Option ℕ). s.placed_at.offset == 0 && not (is_some o)) same ∙ ap (λ (b : Bool). s.placed_at.offset == 0 && b) free ∙ and-false (s.placed_at.offset == 0)
    on (suc n) e =
        let inside = holds.offset (omega arith) in
        let solid : is_solid_at t.boxes (slice_get t.events from.event) ≡ true = ap (is_solid_at t.boxes) inside.2 in
        let there : Some s.placed_at.event ≡ Some from.event = sym is.found ∙ solid_itself t from.event solid in
        let event : s.placed_at.event ≡ from.event = cc in
        let offset : s.placed_at.offset ≡ from.offset = begins ∙ ap (λ (b : Bool). cond b from.offset 0) (eq-eqb s.placed_at.event from.event event) in
        ap (λ (b : Bool). b && not (is_some (solid_before t s.placed_at.event))) (ne_eqb s.placed_at.offset 0 (λ z. omega arith))

    by : ((eqb s.placed_at.event from.event ≡ true) × (s.placed_at.event ≡ from.event)) ⊎ ((eqb s.placed_at.event from.event ≡ false) × (s.placed_at.event ≢ from.event)) → is_first t s.placed_at ≡ false
    by h = on from.offset refl

-- nor after a solid
pub end_not_first : (faces : List FontFace) (t : Tree) (width : ℤ) (from : Position) (s : SolidView) → IsTree t → Stands t from → IsSolid faces t width from s → is_first t s.end ≡ false
end_not_first faces t width from s tree holds is = by is.content
  where
    solid : is_solid_at t.boxes (slice_get t.events s.placed_at.event) ≡ true
    solid = (after_solid t from.event s.placed_at.event is.found).1

    next : (at : Position) → at ≡ place (s.placed_at.event + 1) 0 → is_first t at ≡ false
    next at e =
        let before : solid_before t (s.placed_at.event + 1) ≡ Some s.placed_at.event = ap (solid_before t) (add-one s.placed_at.event) ∙ ap (λ (b : Bool). cond b (Some s.placed_at.event) (solid_before t s.placed_at.event)) solid in
        ap (is_first t) e ∙ ap (λ (o : Option ℕ). not (is_some o)) before

    line : IsLineSolid faces t width from s → is_first t s.end ≡ false
    line l =
        let f = found_of faces t width from s tree holds is.found l in
        let b = lines_go_on faces l.leaf s.placed_at.offset (leaf_measure t width s.placed_at.event) l.line_of f.inside l.fills in
        on (eqb_tells l.line_of.to (length l.leaf.text)) b.0
      where
        on : ((eqb l.line_of.to (length l.leaf.text) ≡ true) × (l.line_of.to ≡ length l.leaf.text)) ⊎ ((eqb l.line_of.to (length l.leaf.text) ≡ false) × (l.line_of.to ≢ length l.leaf.text)) → s.placed_at.offset < l.line_of.to → is_first t s.end ≡ false
        on (inl h) more = next s.end (l.ends ∙ ap (λ (b : Bool). cond b (place (s.placed_at.event + 1) 0) (place s.placed_at.event l.line_of.to)) h.0)
        on (inr h) more =
            let at : s.end ≡ place s.placed_at.event l.line_of.to = l.ends ∙ ap (λ (b : Bool). cond b (place (s.placed_at.event + 1) 0) (place s.placed_at.event l.line_of.to)) h.0 in
            ap (is_first t) at ∙ ap (λ (b : Bool). b && not (is_some (solid_before t s.placed_at.event))) (ne_eqb l.line_of.to 0 (λ z. omega arith))

    by : IsContent faces t width from s → is_first t s.end ≡ false
    by (of_line l) = line l
    by (of_open b e p) = next s.end p.ends
    by (of_close b e p) = next s.end p.ends

-- ---- lists

-- no solid of a carried note begins it here
pub none_carried : (t : Tree) (p : NotePart) (solids : List SolidView) → p.called ≡ false → has_begin (map (noted t p) solids) ≡ false
none_carried t p [] e = refl
none_carried t p (s ∷ solids) e = ap (λ (b : Bool). (b && is_first t s.placed_at) || has_begin (map (noted t p) solids)) e ∙ none_carried t p solids e

-- nor does one after its first
pub none_later : (faces : List FontFace) (t : Tree) (width : ℤ) (p : NotePart) (from : Position) (solids : List SolidView) → IsTree t → Stands t from → is_first t from ≡ false → IsRemainder faces t width from solids → has_begin (map (noted t p) solids) ≡ false
none_later faces t width p from [] tree holds none rem = refl
none_later faces t width p from (s ∷ solids) tree holds none rem =
    let is : IsSolid faces t width from s = rem.1.0 in
    let end : rem.0 ≡ s.end = rem.1.1 in
    let own : (p.called && is_first t s.placed_at) ≡ false = ap (λ (b : Bool). p.called && b) (not_first faces t width from s holds none is) ∙ and-false p.called in
    ap (λ (b : Bool). b || has_begin (map (noted t p) solids)) own
    ∙ none_later faces t width p s.end solids tree (solid_stands faces t width from s tree holds is) (end_not_first faces t width from s tree holds is) (subst (λ (at : Position). IsRemainder faces t width at solids) end rem.2)

-- a called note begins with its first solid, where it has one
pub one_begins : (faces : List FontFace) (t : Tree) (width : ℤ) (p : NotePart) (solids : List SolidView) → p.called ≡ true → Stands t start_place → IsRemainder faces t width start_place solids → has_begin (map (noted t p) solids) ≡ is_some (solid_after t 0)
one_begins faces t width p [] called holds rem = ap is_some (sym rem)
one_begins faces t width p (s ∷ solids) called holds rem =
    let is : IsSolid faces t width start_place s = rem.1.0 in
    let zero_at : s.placed_at.offset ≡ 0 = begins_of faces t width start_place s holds is ∙ both (eqb s.placed_at.event 0) 0 in
    let before : solid_before t s.placed_at.event ≡ None = before_found t 0 s.placed_at.event is.found in
    let first : is_first t s.placed_at ≡ true = ap (λ (o : Option ℕ). s.placed_at.offset == 0 && not (is_some o)) before ∙ ap (λ (b : Bool). b && true) (eq-eqb s.placed_at.offset 0 zero_at) in
    ap (λ (b : Bool). (b && is_first t s.placed_at) || has_begin (map (noted t p) solids)) called ∙ ap (λ (b : Bool). b || has_begin (map (noted t p) solids)) first ∙ ap is_some (sym is.found)
  where
    both : (b : Bool) (n : ℕ) → cond b n n ≡ n
    both true n = refl
    both false n = refl
