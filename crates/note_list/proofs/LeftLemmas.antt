-- What is left of a list is what is left of its notes after the last solid that is placed.
use Rattle.std.proofs.Common.{◌≡◌, ℕ, zero, suc, ◌<◌, ◌≤◌, ℤ, nat_le, Bool, true, false, cond, List, [], ◌∷◌, ◌++◌, Option, Some, None, All, map, drop, slice_get, refl, sym, ap, ◌∙◌, subst, arith}
use Rattle.std.specs.List.{flat_map}
use Rattle.std.proofs.lemmas.Bool.{eq-eqb, ne_eqb}
use Rattle.std.proofs.lemmas.Bool.Decides.{nat_tests}
use Rattle.std.proofs.lemmas.List.Elements.{All-cons}
use Rattle.std.proofs.lemmas.Option.{same_Some}
use Rattle.metrics.specs.Face.{FontFace}
use Rattle.boxes.specs.declared.flow.Note.{Note}
use Rattle.boxes.specs.declared.place.Position.{Position}
use Rattle.cursor.specs.Remainder.{IsRemainder, IsSolid, SolidView}
use Rattle.cursor.proofs.RemLemmas.{Stands, begins_of, stands}
use Rattle.seams.specs.Runs.{solid_after}
use Rattle.note_list.specs.Conditions.{IsHeld}
use Rattle.note_list.specs.Left.{left_at, left_from, left_in, left_part}
use Rattle.note_list.specs.Lists.{AreNoted, NotePart, is_of, left_after, noted}
use Rattle.note_list.specs.declared.carried.Carried.{Carried}
use Rattle.note_list.specs.declared.solid.NotedSolid.{NotedSolid}

-- the place at which a part begins
abbrev pub start_of : NotePart → Carried
start_of p = record { note = p.note; at = p.at }

-- parts of notes whose numbers ascend from one on
abbrev pub Rise : ℕ → List NotePart → Type 0
Rise low [] = Unit {0}
Rise low (p ∷ parts) = (low ≤ p.note) × Rise (suc p.note) parts

skip_own : (note : Note) (p : NotePart) (solids : List SolidView) (more : List NotedSolid) → left_after (Some p.note) (map (noted note.body p) solids ++ more) ≡ left_after (Some p.note) more
skip_own note p [] more = refl
skip_own note p (s ∷ solids) more =
    ap (λ (b : Bool). cond b (left_after (Some p.note) (map (noted note.body p) solids ++ more)) (record { note = p.note; at = s.placed_at } ∷ left_after (Some p.note) (map (noted note.body p) solids ++ more))) (eq-eqb p.note p.note refl)
    ∙ skip_own note p solids more

-- what is left of a note is where its first solid stands
part_left : (faces : List FontFace) (notes : List Note) (width : ℤ) (p : NotePart) (note : Note) (s : SolidView) → slice_get notes p.note ≡ Some note → Stands note.body p.at → IsSolid faces note.body width p.at s → left_part notes (start_of p) ≡ record { note = p.note; at = s.placed_at } ∷ []
part_left faces notes width p note s has holds is =
    ap (left_in (start_of p)) has ∙ ap (left_at (start_of p)) is.found
    ∙ ap (λ (offset : ℕ). record { note = p.note; at = record { event = s.placed_at.event; offset = offset } } ∷ []) (sym (begins_of faces note.body width p.at s holds is))

none_left : (notes : List Note) (p : NotePart) (note : Note) → slice_get notes p.note ≡ Some note → solid_after note.body p.at.event ≡ None → left_part notes (start_of p) ≡ []
none_left notes p note has none = ap (left_in (start_of p)) has ∙ ap (left_at (start_of p)) none

pub from_low : (notes : List Note) (next : ℕ) (c : Carried) → next ≤ c.note → left_from notes next c ≡ left_part notes c
from_low notes next c low = let passes : nat_le next c.note ≡ true = grind (arith, nat_tests) in ap (λ (b : Bool). cond b (left_part notes c) []) passes

pub from_high : (notes : List Note) (next : ℕ) (c : Carried) → c.note < next → left_from notes next c ≡ []
from_high notes next c high = let fails : nat_le next c.note ≡ false = grind (arith, nat_tests) in ap (λ (b : Bool). cond b (left_part notes c) []) fails

abbrev Before : Option ℕ → ℕ → Type 0
Before None low = Unit {0}
Before (Some last) low = last < low

not_of : (last : Option ℕ) (low n : ℕ) → Before last low → low ≤ n → is_of last n ≡ false
not_of None low n before h = refl
not_of (Some last) low n before h = ne_eqb last n (λ e. omega arith)

-- nothing of a list is placed
pub left_none : (faces : List FontFace) (notes : List Note) (width : ℤ) (next low : ℕ) (last : Option ℕ) (parts : List NotePart) (list : List NotedSolid) → next ≤ low → Before last low → Rise low parts → All (λ p. IsHeld notes (start_of p)) parts → AreNoted faces notes width parts list →
    left_after last list ≡ flat_map (left_from notes next) (map start_of parts)
left_none faces notes width next low last [] list h before rise held are = ap (left_after last) are
left_none faces notes width next low last (p ∷ parts) list h before rise held (note, has, solids, rem, rest, more, is) =
    ap (left_after last) is ∙ by solids rem (λ l b. left_none faces notes width next (suc p.note) l parts rest (let r = rise.0 in omega arith) b rise.1 (λ k d i. held (suc k) d (omega arith)) more)
    ∙ ap (λ (cs : List Carried). cs ++ flat_map (left_from notes next) (map start_of parts)) (sym (from_low notes next (start_of p) (let l = rise.0 in omega arith)))
  where
    own : IsHeld notes (start_of p)
    own = held 0 p (omega arith)

    holds : Stands note.body p.at
    holds = let same : own.note ≡ note = same_Some _ _ (sym own.has ∙ has) in subst (λ (n : Note). Stands n.body p.at) same (stands own.note.body p.at own.holds)

    lower : (l : Option ℕ) → Before l low → Before l (suc p.note)
    lower None b = b
    lower (Some n) b = let r = rise.0 in omega arith

    by : (ss : List SolidView) → IsRemainder faces note.body width p.at ss → ((l : Option ℕ) → Before l (suc p.note) → left_after l rest ≡ flat_map (left_from notes next) (map start_of parts)) → left_after last (map (noted note.body p) ss ++ rest) ≡ left_part notes (start_of p) ++ flat_map (left_from notes next) (map start_of parts)
    by [] rem later = later last (lower last before) ∙ ap (λ (cs : List Carried). cs ++ flat_map (left_from notes next) (map start_of parts)) (sym (none_left notes p note has rem))
    by (s ∷ ss) rem later =
        ap (λ (b : Bool). cond b (left_after (Some p.note) (map (noted note.body p) ss ++ rest)) (record { note = p.note; at = s.placed_at } ∷ left_after (Some p.note) (map (noted note.body p) ss ++ rest))) (not_of last low p.note before rise.0)
        ∙ ap (λ (cs : List Carried). record { note = p.note; at = s.placed_at } ∷ cs) (skip_own note p ss rest ∙ later (Some p.note) (omega arith))
        ∙ ap (λ (cs : List Carried). cs ++ flat_map (left_from notes next) (map start_of parts)) (sym (part_left faces notes width p note s has holds rem.1.0))

-- the notes of a list are those of its parts
pub noted_low : (faces : List FontFace) (notes : List Note) (width : ℤ) (low : ℕ) (parts : List NotePart) (list : List NotedSolid) (k : ℕ) (s : NotedSolid) → Rise low parts → AreNoted faces notes width parts list → slice_get list k ≡ Some s → low ≤ s.note
noted_low faces notes width low [] list k s rise are e = absurd (let f : None ≡ Some s = sym (ap (λ (l : List NotedSolid). slice_get l k) are) ∙ e in cc)
noted_low faces notes width low (p ∷ parts) list k s rise (note, has, solids, rem, rest, more, is) e = by solids k (sym (ap (λ (l : List NotedSolid). slice_get l k) is) ∙ e) (λ i f. noted_low faces notes width (suc p.note) parts rest i s rise.1 more f)
  where
    by : (ss : List SolidView) (k : ℕ) → slice_get (map (noted note.body p) ss ++ rest) k ≡ Some s → ((i : ℕ) → slice_get rest i ≡ Some s → suc p.note ≤ s.note) → low ≤ s.note
    by [] k e later = let r = rise.0 in let l = later k e in omega arith
    by (x ∷ ss) zero e later = let same : noted note.body p x ≡ s = same_Some _ _ e in subst (λ (y : NotedSolid). low ≤ y.note) same rise.0
    by (x ∷ ss) (suc k) e later = by ss k e later

-- it doesn't matter from which number on notes are left where all are above it
flat_same : (notes : List Note) (next other low : ℕ) (parts : List NotePart) → next ≤ low → other ≤ low → Rise low parts → flat_map (left_from notes next) (map start_of parts) ≡ flat_map (left_from notes other) (map start_of parts)
flat_same notes next other low [] h i rise = refl
flat_same notes next other low (p ∷ parts) h i rise =
    let l = rise.0 in
    ap (λ (cs : List Carried). cs ++ flat_map (left_from notes next) (map start_of parts)) (from_low notes next (start_of p) (omega arith) ∙ sym (from_low notes other (start_of p) (omega arith)))
    ∙ ap (λ (cs : List Carried). left_from notes other (start_of p) ++ cs) (flat_same notes next other (suc p.note) parts (omega arith) (omega arith) rise.1)

-- some of a list is placed
pub left_some : (faces : List FontFace) (notes : List Note) (width : ℤ) (low : ℕ) (parts : List NotePart) (list : List NotedSolid) (k : ℕ) (s : NotedSolid) → Rise low parts → All (λ p. IsHeld notes (start_of p)) parts → AreNoted faces notes width parts list → slice_get list k ≡ Some s → IsHeld notes (record { note = s.note; at = s.end }) →
    left_after None (drop (suc k) list) ≡ left_part notes (record { note = s.note; at = s.end }) ++ flat_map (left_from notes (suc s.note)) (map start_of parts)
left_some faces notes width low [] list k s rise held are e end = absurd (let f : None ≡ Some s = sym (ap (λ (l : List NotedSolid). slice_get l k) are) ∙ e in cc)
left_some faces notes width low (p ∷ parts) list k s rise held (note, has, solids, rem, rest, more, is) e end =
    ap (λ (l : List NotedSolid). left_after None (drop (suc k) l)) is ∙ by p.at solids rem k (sym (ap (λ (l : List NotedSolid). slice_get l k) is) ∙ e) (λ i f. left_some faces notes width (suc p.note) parts rest i s rise.1 (λ j d l. held (suc j) d (omega arith)) more f end)
  where
    tail : List Carried
    tail = flat_map (left_from notes (suc s.note)) (map start_of parts)

    above : (n : ℕ) → p.note ≤ n → suc s.note ≡ suc n → left_from notes (suc s.note) (start_of p) ≡ []
    above n h e = from_high notes (suc s.note) (start_of p) (omega arith)

    goal_of : List Carried
    goal_of = left_part notes (record { note = s.note; at = s.end }) ++ (left_from notes (suc s.note) (start_of p) ++ tail)

    close : p.note ≤ s.note → left_part notes (record { note = s.note; at = s.end }) ++ tail ≡ goal_of
    close h = ap (λ (cs : List Carried). left_part notes (record { note = s.note; at = s.end }) ++ (cs ++ tail)) (sym (above s.note h refl))

    here : (x : SolidView) (ss : List SolidView) → noted note.body p x ≡ s → IsRemainder faces note.body width x.end ss → left_after None (map (noted note.body p) ss ++ rest) ≡ goal_of
    here x ss same r =
        let number : p.note ≡ s.note = ap (λ (y : NotedSolid). y.note) same in
        let place : x.end ≡ s.end = ap (λ (y : NotedSolid). y.end) same in
        let q : NotePart = record { note = p.note; at = x.end; called = p.called } in
        let own : IsHeld notes (start_of q) = subst (λ (at : Position). IsHeld notes (record { note = p.note; at = at })) (sym place) (subst (λ (n : ℕ). IsHeld notes (record { note = n; at = s.end })) (sym number) end) in
        let all : All (λ y. IsHeld notes (start_of y)) (q ∷ parts) = All-cons (λ y. IsHeld notes (start_of y)) q parts own (λ i d l. held (suc i) d (omega arith)) in
        let up : Rise p.note (q ∷ parts) = (omega arith, rise.1) in
        let are : AreNoted faces notes width (q ∷ parts) (map (noted note.body p) ss ++ rest) = (note, has, ss, r, rest, more, refl) in
        let left = left_none faces notes width p.note p.note None (q ∷ parts) (map (noted note.body p) ss ++ rest) (omega arith) tt up all are in
        let first : left_from notes p.note (start_of q) ≡ left_part notes (record { note = s.note; at = s.end }) = from_low notes p.note (start_of q) (omega arith) ∙ ap (λ (n : ℕ). left_part notes (record { note = n; at = x.end })) number ∙ ap (λ (at : Position). left_part notes (record { note = s.note; at = at })) place in
        left ∙ ap (λ (cs : List Carried). cs ++ flat_map (left_from notes p.note) (map start_of parts)) first
        ∙ ap (λ (cs : List Carried). left_part notes (record { note = s.note; at = s.end }) ++ cs) (flat_same notes p.note (suc s.note) (suc p.note) parts (omega arith) (omega arith) rise.1) ∙ close (omega arith)

    by : (at : Position) (ss : List SolidView) → IsRemainder faces note.body width at ss → (k : ℕ) → slice_get (map (noted note.body p) ss ++ rest) k ≡ Some s → ((i : ℕ) → slice_get rest i ≡ Some s → left_after None (drop (suc i) rest) ≡ left_part notes (record { note = s.note; at = s.end }) ++ flat_map (left_from notes (suc s.note)) (map start_of parts)) → left_after None (drop (suc k) (map (noted note.body p) ss ++ rest)) ≡ goal_of
    by at [] r k e later =
        let low_of = noted_low faces notes width (suc p.note) parts rest k s rise.1 more e in
        later k e ∙ close (omega arith)
    by at (x ∷ ss) r zero e later = here x ss (same_Some _ _ e) (subst (λ (w : Position). IsRemainder faces note.body width w ss) r.1.1 r.2)
    by at (x ∷ ss) r (suc k) e later = by r.0 ss r.2 k e later
