-- Notes that go on at their first solids have the lists that they had.
use Rattle.std.proofs.Common.{◌≡◌, ℕ, suc, ◌<◌, ◌==◌, ℤ, Bool, cond, List, [], ◌∷◌, ◌++◌, Option, None, Some, All, length, refl, sym, ap, ◌∙◌, subst, arith}
use Rattle.std.specs.List.{flat_map}
use Rattle.std.proofs.lemmas.Bool.{eq-eqb}
use Rattle.std.proofs.lemmas.List.Elements.{All-append, All-nil}
use Rattle.std.proofs.lemmas.Option.{slice_get_within, same_Some}
use Rattle.metrics.specs.Face.{FontFace}
use Rattle.boxes.specs.Tree.{Tree}
use Rattle.boxes.specs.declared.flow.Note.{Note}
use Rattle.boxes.specs.declared.place.Position.{Position}
use Rattle.cursor.specs.Remainder.{IsContent, IsRemainder, IsSolid, SolidView}
use Rattle.cursor.specs.Remainder.IsContent.{of_line, of_open, of_close}
use Rattle.cursor.proofs.PartLemmas.{solid_itself}
use Rattle.seams.specs.Runs.{solid_after}
use Rattle.seams.proofs.RunLemmas.{after_solid}
use Rattle.note_list.specs.Conditions.{IsHeld, NotesAscend}
use Rattle.note_list.specs.Left.{left_at, left_in, left_part}
use Rattle.note_list.specs.Lists.{AreNoted, NotePart, carried_parts}
use Rattle.note_list.specs.declared.carried.Carried.{Carried}
use Rattle.note_list.specs.declared.solid.NotedSolid.{NotedSolid}
use Rattle.note_list.proofs.PartLemmas.{GoesOn, RiseBy, part_goes, rise_ascends, rise_below, rise_carried, rise_part}

-- the place of the first solid at or after a place
abbrev first_place : Position → ℕ → Position
first_place from event = record { event = event; offset = cond (event == from.event) from.offset 0 }

-- the first solid from there is the first one from the place
solid_from : (faces : List FontFace) (t : Tree) (width : ℤ) (from : Position) (event : ℕ) (s : SolidView) → solid_after t from.event ≡ Some event → IsSolid faces t width (first_place from event) s → IsSolid faces t width from s
solid_from faces t width from event s found is = record { found = found ∙ ap (λ (k : ℕ). Some k) at; seam_is = is.seam_is; content = by is.content }
  where
    at : event ≡ s.placed_at.event
    at = same_Some _ _ (sym (solid_itself t event (after_solid t from.event event found).1) ∙ is.found)

    by : IsContent faces t width (first_place from event) s → IsContent faces t width from s
    by (of_line l) = of_line (record {
      number = l.number;
      leaf = l.leaf;
      line_of = l.line_of;
      names = l.names;
      has = l.has;
      begins = l.begins
          ∙ ap (λ (b : Bool). cond b (cond (event == from.event) from.offset 0) 0) (eq-eqb s.placed_at.event event (sym at))
          ∙ ap (λ (k : ℕ). cond (k == from.event) from.offset 0) at;
      fills = l.fills;
      line_is = l.line_is;
      kind_is = l.kind_is;
      ends = l.ends;
      height_is = l.height_is;
      text_is = l.text_is;
    })
    by (of_open b names edge) = of_open b names edge
    by (of_close b names edge) = of_close b names edge

-- and so are all solids from there on
solids_from : (faces : List FontFace) (t : Tree) (width : ℤ) (from : Position) (event : ℕ) (solids : List SolidView) → solid_after t from.event ≡ Some event → IsRemainder faces t width (first_place from event) solids → IsRemainder faces t width from solids
solids_from faces t width from event [] found rest =
    absurd (let own : solid_after t event ≡ Some event = solid_itself t event (after_solid t from.event event found).1 in let none : None ≡ Some event = sym rest ∙ own in cc)
solids_from faces t width from event (s ∷ solids) found rest = (rest.0, (solid_from faces t width from event s found rest.1.0, rest.1.1), rest.2)

-- the lists of notes, each from its first solid on, are those of the notes
pub settled_lists : (faces : List FontFace) (notes : List Note) (width : ℤ) (cs : List Carried) (more : List NotePart) (list : List NotedSolid) → All (IsHeld notes) cs → AreNoted faces notes width (carried_parts (flat_map (left_part notes) cs) ++ more) list → AreNoted faces notes width (carried_parts cs ++ more) list
settled_lists faces notes width [] more list held are = are
settled_lists faces notes width (c ∷ cs) more list held are =
    by (solid_after own.note.body c.at.event) refl (subst (λ (o : Option Note). AreNoted faces notes width (carried_parts (left_in c o ++ flat_map (left_part notes) cs) ++ more) list) own.has are)
    (λ xs a. settled_lists faces notes width cs more xs (λ k d l. held (suc k) d (omega arith)) a)
  where
    own : IsHeld notes c
    own = held 0 c (omega arith)

    by : (o : Option ℕ) → solid_after own.note.body c.at.event ≡ o → AreNoted faces notes width (carried_parts (left_at c o ++ flat_map (left_part notes) cs) ++ more) list → ((xs : List NotedSolid) → AreNoted faces notes width (carried_parts (flat_map (left_part notes) cs) ++ more) xs → AreNoted faces notes width (carried_parts cs ++ more) xs) → AreNoted faces notes width (carried_parts (c ∷ cs) ++ more) list
    by None none a later = (own.note, own.has, [], none, list, later list a, refl)
    by (Some event) found (note, has, solids, rest, xs, a, is) later =
        let same : own.note ≡ note = same_Some _ _ (sym own.has ∙ has) in
        (note, has, solids, solids_from faces note.body width c.at event solids (ap (λ (n : Note). solid_after n.body c.at.event) (sym same) ∙ found) rest, xs, later xs a, is)

-- they go on at solids
pub settled_goes : (notes : List Note) (cs : List Carried) → All (IsHeld notes) cs → All (GoesOn notes) (flat_map (left_part notes) cs)
settled_goes notes [] held = All-nil (GoesOn notes)
settled_goes notes (c ∷ cs) held = All-append (GoesOn notes) (left_part notes c) (flat_map (left_part notes) cs) (part_goes notes c (held 0 c (omega arith))) (settled_goes notes cs (λ k d l. held (suc k) d (omega arith)))

-- in the same order
settled_rise : (notes : List Note) (low high : ℕ) (cs : List Carried) → RiseBy low high cs → RiseBy low high (flat_map (left_part notes) cs)
settled_rise notes low high [] r = r
settled_rise notes low high (c ∷ cs) r = rise_part notes c low high (flat_map (left_part notes) cs) r.0 (settled_rise notes (suc c.note) high cs r.1)

rise_of : (notes : List Note) (to : ℕ) (cs : List Carried) → NotesAscend cs → All (λ c. c.note < to) cs → RiseBy 0 to (flat_map (left_part notes) cs)
rise_of notes to cs up below = settled_rise notes 0 to cs (rise_carried 0 to cs (omega arith) (λ c e. omega arith) up below)

pub settled_below : (notes : List Note) (to : ℕ) (cs : List Carried) → NotesAscend cs → All (λ c. c.note < to) cs → All (λ c. c.note < to) (flat_map (left_part notes) cs)
settled_below notes to cs up below = rise_below 0 to (flat_map (left_part notes) cs) (rise_of notes to cs up below)

pub settled_ascends : (notes : List Note) (cs : List Carried) → All (IsHeld notes) cs → NotesAscend cs → NotesAscend (flat_map (left_part notes) cs)
settled_ascends notes cs held up =
    let below : All (λ c. c.note < length notes) cs = λ k d l. let h = held k d l in slice_get_within notes _ h.note h.has in
    rise_ascends 0 (length notes) (flat_map (left_part notes) cs) (rise_of notes (length notes) cs up below)
