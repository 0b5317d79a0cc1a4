-- How a note is read on, solid after solid, and what is read of a list then.
use Rattle.std.proofs.Common.{◌≡◌, ℕ, zero, suc, add-one, get_or, take, ◌+◌, ◌<◌, ◌≤◌, ⊎_elim, max, ℤ, ◌<ℤ◌, ◌&&◌, ◌||◌, Bool, true, false, List, [], ◌∷◌, ◌++◌, Some, None, All, is_some, length, map, drop, slice_get, refl, sym, ap, ◌∙◌, subst, arith}
use Rattle.std.proofs.lemmas.Bool.{cases_lt}
use Rattle.std.proofs.lemmas.List.{append_assoc, append-nil, map-append, take-append-drop}
use Rattle.std.proofs.lemmas.List.Elements.{All-drop, All-push}
use Rattle.std.proofs.lemmas.List.Folds.{list_any-append}
use Rattle.std.proofs.lemmas.Option.{get_or_from_slice_get, slice_get_within}
use Rattle.bk_num.proofs.ListLemmas.{all-get}
use Rattle.metrics.specs.Face.{FontFace}
use Rattle.boxes.specs.Tree.{Tree, IsTree, Holds}
use Rattle.boxes.specs.declared.flow.Note.{Note}
use Rattle.boxes.specs.declared.place.Position.{Position}
use Rattle.cursor.specs.Remainder.{IsRemainder, IsSolid, SolidView}
use Rattle.cursor.proofs.RemLemmas.{Stands, remainder_from, solid_stands, stands}
use Rattle.notes.specs.Notes.{area_of}
use Rattle.seams.specs.Runs.{solid_after}
use Rattle.note_list.specs.Calls.{start_place}
use Rattle.note_list.specs.Conditions.{CanBeCut, IsHeld}
use Rattle.note_list.specs.Lists.{AreNoted, NotePart, called_parts, carried_parts, noted, note_rows}
use Rattle.note_list.specs.Reads.{HasReadOn, IsReadOf, has_begin}
use Rattle.note_list.specs.declared.carried.Carried.{Carried}
use Rattle.note_list.specs.declared.list.NoteList.{NoteList}
use Rattle.note_list.specs.declared.solid.NotedSolid.{NotedSolid}
use Rattle.note_list.proofs.BeginLemmas.{end_not_first, none_carried, none_later, one_begins}
use Rattle.note_list.proofs.NotedLemmas.{called_next, called_none, noted_join, noted_one}

-- what is read of a note so far: its solids up to a place
pub record Reads (faces : List FontFace) (body : Tree) (width : ℤ) (p : NotePart) (at : Position) (old new : List NotedSolid) : Type 0 where
  pub solids : List SolidView
  pub is : new ≡ old ++ map (noted body p) solids
  pub goes : (rest : List SolidView) → IsRemainder faces body width at rest → IsRemainder faces body width p.at (solids ++ rest)

pub reads_start : (faces : List FontFace) (body : Tree) (width : ℤ) (p : NotePart) (old : List NotedSolid) → Reads faces body width p p.at old old
reads_start faces body width p old = record { solids = []; is = sym (append-nil old); goes = λ rest r. r }

pub reads_next : (faces : List FontFace) (body : Tree) (width : ℤ) (p : NotePart) (at : Position) (s : SolidView) (old mid new : List NotedSolid) → Reads faces body width p at old mid → IsSolid faces body width at s → new ≡ mid ++ noted body p s ∷ [] → Reads faces body width p s.end old new
reads_next faces body width p at s old mid new r is e = record {
  solids = r.solids ++ s ∷ [];
  is = e ∙ ap (λ (xs : List NotedSolid). xs ++ noted body p s ∷ []) r.is ∙ append_assoc old (map (noted body p) r.solids) (noted body p s ∷ []) ∙ ap (λ (xs : List NotedSolid). old ++ xs) (sym (map-append (noted body p) r.solids (s ∷ [])));
  goes = λ rest more. subst (IsRemainder faces body width p.at) (sym (append_assoc r.solids (s ∷ []) rest)) (r.goes (s ∷ rest) (s.end, (is, refl), more));
}

-- all of it is read
pub reads_all : (faces : List FontFace) (body : Tree) (width height : ℤ) (p : NotePart) (at : Position) (old new : NoteList) → Reads faces body width p at old.solids.items new.solids.items → solid_after body at.event ≡ None → new.over ≡ false → HasReadOn faces body width height p old new
reads_all faces body width height p at old new r none room = record {
  solids = r.solids ++ [];
  rest = r.goes [] none;
  more = [];
  is = ap (λ (ss : List SolidView). old.solids.items ++ map (noted body p) ss) (append-nil r.solids) ∙ sym r.is ∙ sym (append-nil new.solids.items);
  all = λ e. refl;
  past = λ e. absurd (let f : true ≡ false = sym e ∙ room in cc);
  none = refl;
}

-- or a prefix of it, up to the end of a solid
pub reads_over : (faces : List FontFace) (body : Tree) (width height : ℤ) (p : NotePart) (at : Position) (s : SolidView) (old new : NoteList) → IsTree body → Stands body at → IsSolid faces body width at s → Reads faces body width p s.end old.solids.items new.solids.items → new.over ≡ true →
    height <ℤ area_of (note_rows new.solids.items) (length new.solids.items) → HasReadOn faces body width height p old new
reads_over faces body width height p at s old new tree holds is r over past =
    let stands : Stands body s.end = solid_stands faces body width at s tree holds is in
    let rest = remainder_from faces body width s.end tree stands in
    record {
      solids = r.solids ++ rest.0;
      rest = r.goes rest.0 rest.1;
      more = map (noted body p) rest.0;
      is = ap (λ (xs : List NotedSolid). old.solids.items ++ xs) (map-append (noted body p) r.solids rest.0) ∙ sym (append_assoc old.solids.items (map (noted body p) r.solids) (map (noted body p) rest.0)) ∙ ap (λ (xs : List NotedSolid). xs ++ map (noted body p) rest.0) (sym r.is);
      all = λ e. absurd (let f : true ≡ false = sym over ∙ e in cc);
      past = λ e. past;
      none = none_later faces body width p s.end rest.0 tree stands (end_not_first faces body width at s tree holds is) rest.1;
    }

-- the solids that are read end at places of their notes' bodies
abbrev pub EndsIn : List Note → NotedSolid → Type 0
EndsIn notes s = IsHeld notes (record { note = s.note; at = s.end })

pub ends_next : (notes : List Note) (old new : List NotedSolid) (s : NotedSolid) (number : ℕ) (end : Position) (body : Tree) (note : Note) → slice_get notes number ≡ Some note → note.body ≡ body → s.note ≡ number → s.end ≡ end → Holds body end → new ≡ old ++ s ∷ [] → All (EndsIn notes) old → All (EndsIn notes) new
ends_next notes old new s number end body note has same number_is end_is holds items all =
    let here : Holds note.body s.end = subst (Holds note.body) (sym end_is) (subst (λ (t : Tree). Holds t end) (sym same) holds) in
    let own : EndsIn notes s = record { note = note; has = ap (slice_get notes) number_is ∙ has; holds = here } in
    subst (All (EndsIn notes)) (sym items) (All-push (EndsIn notes) old s all own)

-- ---- lists

-- a list of which a note is read on
pub list_read : (faces : List FontFace) (notes : List Note) (width height : ℤ) (p : NotePart) (note : Note) (old new : NoteList) → slice_get notes p.note ≡ Some note → old.over ≡ false → HasReadOn faces note.body width height p old new → new.begun ≡ old.begun → (list : List NotedSolid) → IsReadOf height list old →
    (more : List NotedSolid) × AreNoted faces notes width (p ∷ []) more × IsReadOf height (list ++ more) new
list_read faces notes width height p note old new has room h begun list r =
    let all : list ≡ old.solids.items = r.is ∙ ap (λ (xs : List NotedSolid). old.solids.items ++ xs) (r.all room) ∙ append-nil old.solids.items in (
      map (noted note.body p) h.solids,
      noted_one faces notes width p note h.solids has h.rest,
      record {
        more = h.more;
        is = ap (λ (xs : List NotedSolid). xs ++ map (noted note.body p) h.solids) all ∙ h.is;
        all = h.all;
        past = h.past;
        begun = begun ∙ r.begun ∙ ap has_begin (r.all room) ∙ sym h.none;
      },
    )

-- a list that has no room for a note
pub list_full : (faces : List FontFace) (notes : List Note) (width height : ℤ) (p : NotePart) (note : Note) (old new : NoteList) → IsTree note.body → Stands note.body p.at → slice_get notes p.note ≡ Some note → (p.called ≡ true → p.at ≡ start_place) → old.over ≡ true → new.solids.items ≡ old.solids.items → new.over ≡ old.over →
    new.begun ≡ ((p.called && is_some (solid_after note.body 0)) || old.begun) → (list : List NotedSolid) → IsReadOf height list old → (more : List NotedSolid) × AreNoted faces notes width (p ∷ []) more × IsReadOf height (list ++ more) new
list_full faces notes width height p note old new tree holds has start full items over begun list r = (
  own,
  noted_one faces notes width p note solids.0 has solids.1,
  record {
    more = r.more ++ own;
    is = ap (λ (xs : List NotedSolid). xs ++ own) r.is ∙ append_assoc old.solids.items r.more own ∙ ap (λ (xs : List NotedSolid). xs ++ (r.more ++ own)) (sym items);
    all = λ e. absurd (let f : true ≡ false = sym full ∙ sym over ∙ e in cc);
    past = λ e. subst (λ (xs : List NotedSolid). height <ℤ area_of (note_rows xs) (length xs)) (sym items) (r.past full);
    begun = begun ∙ ap (λ (b : Bool). b || old.begun) (sym (begins p.called refl)) ∙ ap (λ (b : Bool). has_begin own || b) r.begun ∙ swap (has_begin own) (has_begin r.more) ∙ sym (list_any-append (λ (s : NotedSolid). s.row.begins) r.more own);
  },
)
  where
    solids : (xs : List SolidView) × IsRemainder faces note.body width p.at xs
    solids = remainder_from faces note.body width p.at tree holds

    own : List NotedSolid
    own = map (noted note.body p) solids.0

    swap : (a b : Bool) → (a || b) ≡ (b || a)
    swap true true = refl
    swap true false = refl
    swap false true = refl
    swap false false = refl

    begins : (b : Bool) → p.called ≡ b → has_begin (map (noted note.body p) solids.0) ≡ (p.called && is_some (solid_after note.body 0))
    begins true e =
        one_begins faces note.body width p solids.0 e (subst (Stands note.body) (start e) holds) (subst (λ (at : Position). IsRemainder faces note.body width at solids.0) (start e) solids.1)
        ∙ ap (λ (b : Bool). b && is_some (solid_after note.body 0)) (sym e)
    begins false e = none_carried note.body p solids.0 e ∙ ap (λ (b : Bool). b && is_some (solid_after note.body 0)) (sym e)

-- what a list reads of parts, whatever it had read before
abbrev pub Calls : List FontFace → List Note → ℤ → ℤ → List NotePart → NoteList → NoteList → Type 0
Calls faces notes width height parts old new = (list : List NotedSolid) → IsReadOf height list old → (more : List NotedSolid) × AreNoted faces notes width parts more × IsReadOf height (list ++ more) new

pub call_start : (faces : List FontFace) (notes : List Note) (width height : ℤ) (from : ℕ) (l : NoteList) → Calls faces notes width height (called_parts from from) l l
call_start faces notes width height from l list r =
    ([], subst (λ (ps : List NotePart). AreNoted faces notes width ps []) (sym (called_none from from (omega arith))) refl, subst (λ (xs : List NotedSolid). IsReadOf height xs l) (sym (append-nil list)) r)

pub call_next : (faces : List FontFace) (notes : List Note) (width height : ℤ) (from note : ℕ) (old mid new : NoteList) → from ≤ note → Calls faces notes width height (called_parts from note) old mid → Calls faces notes width height (record { note = note; at = start_place; called = true } ∷ []) mid new → Calls faces notes width height (called_parts from (note + 1)) old new
call_next faces notes width height from note old mid new low first next list r =
    let a = first list r in
    let b = next (list ++ a.0) a.2 in (
      a.0 ++ b.0,
      subst (λ (ps : List NotePart). AreNoted faces notes width ps (a.0 ++ b.0)) (sym (called_next from note low)) (noted_join faces notes width (called_parts from note) (record { note = note; at = start_place; called = true } ∷ []) a.0 b.0 a.1 b.1),
      subst (λ (xs : List NotedSolid). IsReadOf height xs new) (append_assoc list a.0 b.0) b.2,
    )

pub call_end : (faces : List FontFace) (notes : List Note) (width height : ℤ) (from to note : ℕ) (old new : NoteList) → from ≤ note → note ≤ max from to → to ≤ note → Calls faces notes width height (called_parts from note) old new → Calls faces notes width height (called_parts from to) old new
call_end faces notes width height from to note old new low high end calls =
    subst (λ (ps : List NotePart). Calls faces notes width height ps old new) (⊎_elim
    (λ (h : from < to). ap (called_parts from) (let e : note ≡ to = omega arith in e))
    (λ (h : to ≤ from). called_none from note (omega arith) ∙ sym (called_none from to h))
    (cases_lt from to)) calls

-- the first of some notes, and one more
pub take_next : (xs : List Carried) (k : ℕ) (d : Carried) → k < length xs → take (k + 1) xs ≡ take k xs ++ get_or xs k d ∷ []
take_next xs k d low = ap (λ (n : ℕ). take n xs) (add-one k) ∙ by xs k low
  where
    by : (ys : List Carried) (n : ℕ) → n < length ys → take (suc n) ys ≡ take n ys ++ get_or ys n d ∷ []
    by [] n h = absurd (omega arith)
    by (y ∷ ys) zero h = refl
    by (y ∷ ys) (suc n) h = ap (λ (zs : List Carried). y ∷ zs) (by ys n (omega arith))

-- nothing is read where there are no parts
pub calls_none : (faces : List FontFace) (notes : List Note) (width height : ℤ) (l : NoteList) → Calls faces notes width height [] l l
calls_none faces notes width height l list r = ([], refl, subst (λ (xs : List NotedSolid). IsReadOf height xs l) (sym (append-nil list)) r)

-- parts are read one after another
pub calls_join : (faces : List FontFace) (notes : List Note) (width height : ℤ) (ps qs : List NotePart) (old mid new : NoteList) → Calls faces notes width height ps old mid → Calls faces notes width height qs mid new → Calls faces notes width height (ps ++ qs) old new
calls_join faces notes width height ps qs old mid new first next list r =
    let a = first list r in
    let b = next (list ++ a.0) a.2 in (
      a.0 ++ b.0,
      noted_join faces notes width ps qs a.0 b.0 a.1 b.1,
      subst (λ (xs : List NotedSolid). IsReadOf height xs new) (append_assoc list a.0 b.0) b.2,
    )

carried_join : (cs ds : List Carried) → carried_parts cs ++ carried_parts ds ≡ carried_parts (cs ++ ds)
carried_join cs ds = sym (map-append (λ (x : Carried). record { note = x.note; at = x.at; called = false }) cs ds)

-- one more of the carried notes is read
pub carry_next : (faces : List FontFace) (notes : List Note) (width height : ℤ) (carried : List Carried) (k : ℕ) (c : Carried) (old mid new : NoteList) → slice_get carried k ≡ Some c → Calls faces notes width height (carried_parts (take k carried)) old mid → Calls faces notes width height (record { note = c.note; at = c.at; called = false } ∷ []) mid new →
    Calls faces notes width height (carried_parts (take (k + 1) carried)) old new
carry_next faces notes width height carried k c old mid new has first next =
    let more : take (k + 1) carried ≡ take k carried ++ c ∷ [] =
    take_next carried k c (slice_get_within carried k c has) ∙ ap (λ (x : Carried). take k carried ++ x ∷ []) (get_or_from_slice_get carried k c c has) in
    subst (λ (cs : List Carried). Calls faces notes width height (carried_parts cs) old new) (sym more)
    (subst (λ (ps : List NotePart). Calls faces notes width height ps old new) (carried_join (take k carried) (c ∷ [])) (calls_join faces notes width height (carried_parts (take k carried)) (carried_parts (c ∷ [])) old mid new first next))

-- a list that has no room reads no more of them
carry_full : (faces : List FontFace) (notes : List Note) (width height : ℤ) (carried : List Carried) (l : NoteList) → All (λ n. CanBeCut faces n.body) notes → All (IsHeld notes) carried → l.over ≡ true → Calls faces notes width height (carried_parts carried) l l
carry_full faces notes width height [] l cut held full = calls_none faces notes width height l
carry_full faces notes width height (c ∷ cs) l cut held full =
    calls_join faces notes width height (part ∷ []) (carried_parts cs) l l l (list_full faces notes width height part own.note l l tree.is (stands own.note.body c.at own.holds) own.has (λ e. absurd (cc)) full refl refl refl)
    (carry_full faces notes width height cs l cut (λ k d low. held (suc k) d (omega arith)) full)
  where
    part : NotePart
    part = record { note = c.note; at = c.at; called = false }

    own : IsHeld notes c
    own = held 0 c (omega arith)

    tree : CanBeCut faces own.note.body
    tree = all-get (λ (n : Note). CanBeCut faces n.body) notes c.note own.note cut own.has

-- and so those that were read are all that it reads
pub carry_rest : (faces : List FontFace) (notes : List Note) (width height : ℤ) (carried : List Carried) (k : ℕ) (old new : NoteList) → All (λ n. CanBeCut faces n.body) notes → All (IsHeld notes) carried → new.over ≡ true → Calls faces notes width height (carried_parts (take k carried)) old new → Calls faces notes width height (carried_parts carried) old new
carry_rest faces notes width height carried k old new cut held full first =
    let rest = carry_full faces notes width height (drop k carried) new cut (All-drop (IsHeld notes) k carried held) full in
    subst (λ (cs : List Carried). Calls faces notes width height (carried_parts cs) old new) (take-append-drop k carried)
    (subst (λ (ps : List NotePart). Calls faces notes width height ps old new) (carried_join (take k carried) (drop k carried)) (calls_join faces notes width height (carried_parts (take k carried)) (carried_parts (drop k carried)) old new new first rest))

-- a new list has read nothing
pub read_none : (height : ℤ) (l : NoteList) → l.solids.items ≡ [] → l.over ≡ false → l.begun ≡ false → IsReadOf height [] l
read_none height l none room begun = record {
  more = [];
  is = sym (ap (λ (xs : List NotedSolid). xs ++ []) none);
  all = λ e. refl;
  past = λ e. absurd (let f : true ≡ false = sym e ∙ room in cc);
  begun = begun;
}

-- a list of which nothing else was read
pub read_same : (height : ℤ) (list : List NotedSolid) (old new : NoteList) → new.solids.items ≡ old.solids.items → new.over ≡ old.over → new.begun ≡ old.begun → IsReadOf height list old → IsReadOf height list new
read_same height list old new items over begun r = record {
  more = r.more;
  is = r.is ∙ ap (λ (xs : List NotedSolid). xs ++ r.more) (sym items);
  all = λ e. r.all (sym over ∙ e);
  past = λ e. subst (λ (xs : List NotedSolid). height <ℤ area_of (note_rows xs) (length xs)) (sym items) (r.past (sym over ∙ e));
  begun = begun ∙ r.begun;
}
