-- What is carried to a page, once what the page places is taken away from its front.
use Rattle.std.proofs.Common.{◌≡◌, ℕ, suc, ◌<◌, ◌≤◌, Bool, cond, List, [], ◌∷◌, ◌++◌, Option, None, Some, All, IfSome, length, drop, slice_get, refl, sym, ap, ◌∙◌, subst, arith}
use Rattle.std.specs.List.{flat_map}
use Rattle.std.proofs.lemmas.Bool.{eq-eqb}
use Rattle.std.proofs.lemmas.List.{append_assoc}
use Rattle.std.proofs.lemmas.List.Elements.{All-push}
use Rattle.std.proofs.lemmas.Option.{slice_get_within}
use Rattle.bk_num.specs.Limits.{most_entries}
use Rattle.boxes.specs.declared.flow.Note.{Note}
use Rattle.note_list.specs.Conditions.{IsAtSolid, IsHeld, NotesAscend}
use Rattle.note_list.specs.Left.{left_after_last, left_at, left_from, left_in, left_of_last, left_part, next_of, whole_notes}
use Rattle.note_list.specs.declared.carried.Carried.{Carried}
use Rattle.note_list.specs.declared.solid.NotedSolid.{NotedSolid}
use Rattle.note_list.proofs.LeftLemmas.{from_high, from_low}

-- some of a list were taken away, all below a number, and one more is
pub taken_more : (limit : ℕ) (start now next : List Carried) (part : Carried) → (below : List Carried) × (start ≡ below ++ now) × All (λ c. c.note < limit) below → slice_get now 0 ≡ Some part → part.note < limit → next ≡ drop 1 now → (below : List Carried) × (start ≡ below ++ next) × All (λ c. c.note < limit) below
taken_more limit start [] next part (below, is, all) first low rest = absurd (cc)
taken_more limit start (c ∷ now) next part (below, is, all) first low rest =
    let same : c ≡ part = cc in (
      below ++ part ∷ [],
      is ∙ ap (λ (x : Carried). below ++ x ∷ now) same ∙ sym (append_assoc below (part ∷ []) now) ∙ ap (λ (xs : List Carried). (below ++ part ∷ []) ++ xs) (sym rest),
      All-push (λ (x : Carried). x.note < limit) below part all low,
    )

-- the number of a note of few
pub last_few : (notes : List Note) (last : Option NotedSolid) → length notes ≤ most_entries → IfSome last (λ s. IsHeld notes (record { note = s.note; at = s.end })) → IfSome last (λ s. s.note < most_entries)
last_few notes None few held = tt
last_few notes (Some s) few held = let within = slice_get_within notes s.note held.note held.has in omega arith

-- a note that goes on at a solid is left there
part_stays : (notes : List Note) (c : Carried) → IsAtSolid notes c → left_part notes c ≡ c ∷ []
part_stays notes c is =
    ap (left_in c) is.has ∙ ap (left_at c) is.solid
    ∙ ap (λ (b : Bool). record { note = c.note; at = record { event = c.at.event; offset = cond b c.at.offset 0 } } ∷ []) (eq-eqb c.at.event c.at.event refl)

-- nothing is left of notes below a number
none_below : (notes : List Note) (next : ℕ) (cs : List Carried) → All (λ c. c.note < next) cs → flat_map (left_from notes next) cs ≡ []
none_below notes next [] low = refl
none_below notes next (c ∷ cs) low =
    ap (λ (xs : List Carried). xs ++ flat_map (left_from notes next) cs) (from_high notes next c (low 0 c (omega arith)))
    ∙ none_below notes next cs (λ k d l. low (suc k) d (omega arith))

-- and all is of those from it on
all_above : (notes : List Note) (next : ℕ) (cs : List Carried) → ((c : Carried) → slice_get cs 0 ≡ Some c → next ≤ c.note) → NotesAscend cs → All (IsAtSolid notes) cs → flat_map (left_from notes next) cs ≡ cs
all_above notes next [] first up stands = refl
all_above notes next (c ∷ cs) first up stands =
    let low : next ≤ c.note = first c refl in
    ap (λ (xs : List Carried). xs ++ flat_map (left_from notes next) cs) (from_low notes next c low ∙ part_stays notes c (stands 0 c (omega arith)))
    ∙ ap (λ (xs : List Carried). c ∷ xs) (all_above notes next cs (λ d e. let less = up 0 c d refl e in omega arith) (λ k a b e f. up (suc k) a b e f) (λ k d l. stands (suc k) d (omega arith)))

-- what holds of a list holds of its end
rest_ascends : (below rest : List Carried) → NotesAscend (below ++ rest) → NotesAscend rest
rest_ascends [] rest up = up
rest_ascends (c ∷ below) rest up = rest_ascends below rest (λ k a b e f. up (suc k) a b e f)

rest_stands : (notes : List Note) (below rest : List Carried) → All (IsAtSolid notes) (below ++ rest) → All (IsAtSolid notes) rest
rest_stands notes [] rest all = all
rest_stands notes (c ∷ below) rest all = rest_stands notes below rest (λ k d l. all (suc k) d (omega arith))

pub flat_append : {X A : Type 0} (f : X → List A) (xs ys : List X) → flat_map f (xs ++ ys) ≡ flat_map f xs ++ flat_map f ys
flat_append f [] ys = refl
flat_append {X} {A} f (x ∷ xs) ys = ap (λ (zs : List A). f x ++ zs) (flat_append f xs ys) ∙ sym (append_assoc (f x) (flat_map f xs) (flat_map f ys))

-- what is left of the last note, then what wasn't taken away, then the notes that are called
pub left_is : (notes : List Note) (carried rest : List Carried) (from to : ℕ) (last : Option NotedSolid) → (below : List Carried) × (carried ≡ below ++ rest) × All (λ c. c.note < next_of last) below → ((c : Carried) → slice_get rest 0 ≡ Some c → next_of last ≤ c.note) → NotesAscend carried → All (IsAtSolid notes) carried →
    (left_of_last notes last ++ rest) ++ flat_map (left_from notes (next_of last)) (whole_notes from to) ≡ left_after_last notes carried from to last
left_is notes carried rest from to last (below, is, low) first up stands =
    let f : Carried → List Carried = left_from notes (next_of last) in
    let called : List Carried = flat_map f (whole_notes from to) in
    let own : flat_map f carried ≡ rest =
    ap (flat_map f) is ∙ flat_append f below rest ∙ ap (λ (xs : List Carried). xs ++ flat_map f rest) (none_below notes (next_of last) below low)
    ∙ all_above notes (next_of last) rest first (rest_ascends below rest (subst NotesAscend is up)) (rest_stands notes below rest (subst (All (IsAtSolid notes)) is stands)) in
    append_assoc (left_of_last notes last) rest called
    ∙ ap (λ (xs : List Carried). left_of_last notes last ++ (xs ++ called)) (sym own)
    ∙ ap (λ (xs : List Carried). left_of_last notes last ++ xs) (sym (flat_append f carried (whole_notes from to)))
