-- The lines that are read of a list of notes are those that may be looked at.
use Rattle.std.proofs.Common.{◌≡◌, ℕ, zero, suc, ◌+◌, ◌-◌, ◌<◌, ◌≤◌, ◌⊎◌, ⊎_elim, inl, inr, ℤ, pos, ◌≤ℤ◌, ◌<ℤ◌, Bool, true, false, cond, List, [], ◌∷◌, ◌++◌, length, length-append, take, refl, sym, ap, ◌∙◌, subst, arith}
use Rattle.std.specs.List.{filter, sum_by}
use Rattle.std.proofs.lemmas.Bool.{cases_lt}
use Rattle.std.proofs.lemmas.Int.{by_lt_z, ints}
use Rattle.std.proofs.lemmas.List.{length-map, map-append, take-append-le, take-take}
use Rattle.std.proofs.lemmas.List.Elements.{filter-append}
use Rattle.std.proofs.lemmas.List.Sums.{sum_by-append, sum_by-cons, sum_by-take-le}
use Rattle.std.proofs.Math.Seq.{take-append_seam, take-length}
use Rattle.page_list.proofs.FewLemmas.{steps_most}
use Rattle.metrics.specs.Face.{FontFace}
use Rattle.boxes.specs.Tree.{Tree}
use Rattle.boxes.specs.declared.flow.Flow.{Flow}
use Rattle.boxes.specs.declared.flow.Note.{Note}
use Rattle.boxes.specs.declared.frames.Frame.{Frame}
use Rattle.boxes.specs.declared.page.SolidKind.{SolidKind}
use Rattle.boxes.specs.declared.page.SolidKind.TheVariants.{Line, OpenEdge, CloseEdge}
use Rattle.cursor.specs.Remainder.{SolidView, steps_by, steps_in}
use Rattle.cursor.proofs.RemLemmas.{remainder_unique}
use Rattle.cuts.specs.declared.row.SolidRow.{SolidRow}
use Rattle.cuts.specs.Rows.{limit_of, rows_bottom}
use Rattle.notes.specs.Notes.{area_of}
use Rattle.notes.proofs.NoteLemmas.{area_never_falls, area_prefix}
use Rattle.notes.specs.declared.solid.NoteSolid.{NoteSolid}
use Rattle.line_fill.specs.Kept.{Asked}
use Rattle.line_fill.specs.declared.kept.KeptLeaf.{KeptLeaf}
use Rattle.note_list.specs.Known.{StepsForNotes, is_known_at, is_known_noted, is_line_kind, lines_of, new_in, new_noted, new_of, new_of_noted, noted_lines}
use Rattle.note_list.specs.Lists.{AreNoted, NotePart, carried_parts, note_rows}
use Rattle.note_list.proofs.NotedLemmas.{noted_unique}
use Rattle.note_list.specs.Reads.{IsCarriedList, IsReadOf}
use Rattle.note_list.specs.Short.{IsShortList, lines_in}
use Rattle.note_list.specs.declared.carried.Carried.{Carried}
use Rattle.note_list.specs.declared.list.NoteList.{NoteList}
use Rattle.note_list.specs.declared.solid.NotedSolid.{NotedSolid}
use Rattle.page_list.specs.Cuts.{parts_after, rows_of}
use Rattle.page_list.specs.Looked.{HaveOneLooked, IsLookedFlow, IsLookedNotes, IsNoteReach, IsReach, LooksAtNotes, new_looked_in, new_looked_noted, note_lines, taken_of}
use Rattle.page_list.specs.declared.cut.CutFrom.{CutFrom}

-- ---- lines that aren't known, among the first lines
-- how many of some things are lines
lines_size : {X : Type 0} (kind : X → SolidKind) (xs : List X) → length (filter (λ (x : X). is_line_kind (kind x)) xs) ≡ sum_by (λ (x : X). steps_by (kind x)) xs
lines_size kind [] = refl
lines_size {X} kind (x ∷ xs) =
    let own = by (kind x) in
    let rest = lines_size kind xs in
    let all = sum_by-cons (λ (y : X). steps_by (kind y)) x xs in
    omega (arith, own, rest, all)
  where
    by : (k : SolidKind) → length (cond (is_line_kind k) (x ∷ filter (λ (y : X). is_line_kind (kind y)) xs) (filter (λ (y : X). is_line_kind (kind y)) xs)) ≡ steps_by k + length (filter (λ (y : X). is_line_kind (kind y)) xs)
    by (OpenEdge b) = omega arith
    by (CloseEdge b) = omega arith
    by Line = omega arith

-- what counts lines alone counts the lines
lines_sum : {X : Type 0} (p : X → Bool) (f : X → ℕ) → ((x : X) → p x ≡ false → f x ≡ 0) → (xs : List X) → sum_by f (filter p xs) ≡ sum_by f xs
lines_sum p f off [] = refl
lines_sum p f off (x ∷ xs) =
    let own = by (p x) refl in
    let rest = lines_sum p f off xs in
    let all = sum_by-cons f x xs in
    omega (arith, own, rest, all)
  where
    by : (b : Bool) → p x ≡ b → sum_by f (cond b (x ∷ filter p xs) (filter p xs)) ≡ f x + sum_by f (filter p xs)
    by true e = sum_by-cons f x (filter p xs)
    by false e = let none = off x e in omega (arith, none)

first_within : {X : Type 0} (f : X → ℕ) (xs ys : List X) (n : ℕ) → length xs ≤ n → sum_by f xs ≤ sum_by f (take n (xs ++ ys))
first_within {X} f xs ys n h =
    let cut = sum_by-take-le f (take n (xs ++ ys)) (length xs) in
    let same : sum_by f (take (length xs) (take n (xs ++ ys))) ≡ sum_by f xs = ap (λ (zs : List X). sum_by f zs) (take-take (length xs) n (xs ++ ys) h ∙ take-append_seam xs ys) in
    omega (arith, cut, same)

few_of : {X : Type 0} (kind : X → SolidKind) (f : X → ℕ) → ((x : X) → is_line_kind (kind x) ≡ false → f x ≡ 0) → (xs ys : List X) (n : ℕ) → sum_by (λ (x : X). steps_by (kind x)) xs ≤ n → sum_by f xs ≤ sum_by f (take n (filter (λ (x : X). is_line_kind (kind x)) (xs ++ ys)))
few_of {X} kind f off xs ys n h =
    let size = lines_size kind xs in
    let same = lines_sum (λ (x : X). is_line_kind (kind x)) f off xs in
    let first = first_within f (filter (λ (x : X). is_line_kind (kind x)) xs) (filter (λ (x : X). is_line_kind (kind x)) ys) n (omega (arith, size, h)) in
    let joined : sum_by f (take n (filter (λ (x : X). is_line_kind (kind x)) (xs ++ ys))) ≡ sum_by f (take n (filter (λ (x : X). is_line_kind (kind x)) xs ++ filter (λ (x : X). is_line_kind (kind x)) ys)) = ap (λ (zs : List X). sum_by f (take n zs)) (filter-append (λ (x : X). is_line_kind (kind x)) xs ys) in
    omega (arith, same, first, joined)

-- an edge is no line
edge_none : (k : SolidKind) (b : Bool) → is_line_kind k ≡ false → cond b 0 (steps_by k) ≡ 0
edge_none (OpenEdge i) true e = refl
edge_none (OpenEdge i) false e = refl
edge_none (CloseEdge i) true e = refl
edge_none (CloseEdge i) false e = refl
edge_none Line b e = absurd (cc)

-- the first solids of a page have no more lines that aren't known than as many first lines, or more
pub new_few : (known : Asked → Bool) (t : Tree) (width : ℤ) (xs ys : List SolidView) (n : ℕ) → steps_in xs ≤ n → new_in known t width xs ≤ new_in known t width (take n (lines_of (xs ++ ys)))
new_few known t width xs ys n h = few_of (λ (s : SolidView). s.kind) (new_of known t width) (λ s e. edge_none s.kind (is_known_at known t width s.placed_at) e) xs ys n h

-- and so it is of notes
pub new_few_noted : (known : Asked → Bool) (notes : List Note) (width : ℤ) (xs ys : List NotedSolid) (n : ℕ) → lines_in xs ≤ n → new_noted known notes width xs ≤ new_noted known notes width (take n (noted_lines (xs ++ ys)))
new_few_noted known notes width xs ys n h = few_of (λ (s : NotedSolid). s.kind) (new_of_noted known notes width) (λ s e. edge_none s.kind (is_known_noted known notes width s) e) xs ys n h

-- ---- how far a list of notes is looked at
lines_cons : (s : NotedSolid) (list : List NotedSolid) → lines_in (s ∷ list) ≡ steps_by s.kind + lines_in list
lines_cons s list = sum_by-cons (λ (x : NotedSolid). steps_by x.kind) s list

-- all lines but one stand before the last solid
lines_last : (list : List NotedSolid) → lines_in list ≤ lines_in (take (length list - 1) list) + 1
lines_last [] = omega arith
lines_last (s ∷ []) = let c = lines_cons s [] in let m = steps_most s.kind in omega (arith, c, m)
lines_last (s ∷ x ∷ list) =
    let r = lines_last (x ∷ list) in
    let c = lines_cons s (x ∷ list) in
    let d = lines_cons s (take (length (x ∷ list) - 1) (x ∷ list)) in
    let n : length (s ∷ x ∷ list) - 1 ≡ suc (length (x ∷ list) - 1) = omega arith in
    let e : lines_in (take (length (s ∷ x ∷ list) - 1) (s ∷ x ∷ list)) ≡ lines_in (s ∷ take (length (x ∷ list) - 1) (x ∷ list)) = ap (λ (k : ℕ). lines_in (take k (s ∷ x ∷ list))) n in
    omega (arith, r, c, d, e)

module _ (height : ℤ) (list : List NotedSolid) (l : NoteList) (read : IsReadOf height list l) (short : IsShortList height l) (low : pos 0 ≤ℤ height) where
  abbrev items : List NotedSolid
  items = l.solids.items

  rows_are : note_rows list ≡ note_rows items ++ note_rows read.more
  rows_are = ap (λ (xs : List NotedSolid). note_rows xs) read.is ∙ map-append (λ (s : NotedSolid). s.row) items read.more

  count : length (note_rows items) ≡ length items
  count = length-map items (λ s. s.row)

  size : length list ≡ length items + length read.more
  size = ap (λ (xs : List NotedSolid). length xs) read.is ∙ length-append items read.more

  rows_size : length (note_rows list) ≡ length list
  rows_size = length-map list (λ s. s.row)

  area_is : (k : ℕ) → k ≤ length items → area_of (note_rows list) k ≡ area_of (note_rows items) k
  area_is k h = ap (λ rs. area_of rs k) rows_are ∙ area_prefix (note_rows items) (note_rows read.more) k (let c = count in omega (arith, h, c))

  lines_are : lines_in list ≡ lines_in items + lines_in read.more
  lines_are = ap (λ (xs : List NotedSolid). lines_in xs) read.is ∙ sum_by-append (λ (s : NotedSolid). steps_by s.kind) items read.more

  -- how far the list is looked at, where it was read so far
  looked_list : (n : ℕ) × IsNoteReach (note_rows list) height n × (lines_in items ≤ note_lines list n)
  looked_list = by l.over refl
    where
      by : (b : Bool) → l.over ≡ b → (n : ℕ) × IsNoteReach (note_rows list) height n × (lines_in items ≤ note_lines list n)
      by false e =
          let none = ap (λ (xs : List NotedSolid). length xs) (read.all e) in
          let s = size in
          let r = rows_size in
          let all : length list ≡ length items = omega (arith, none, s) in
          let whole : take (length list) list ≡ list = take-length list in
          let most : lines_in (take (length list) list) ≡ lines_in list = ap (λ (xs : List NotedSolid). lines_in xs) whole in
          let here = lines_are in (
            length list,
            record {
              within = omega (arith, r);
              inside = subst (λ (z : ℤ). z ≤ℤ height) (sym (area_is (length list) (omega (arith, all)))) (subst (λ (k : ℕ). area_of (note_rows items) k ≤ℤ height) (sym all) (short.all e));
              above = λ h. absurd (omega (arith, r, h));
            },
            omega (arith, most, here),
          )
      by true e = some (cases_lt 0 (length items))
        where
          over : height <ℤ area_of (note_rows items) (length items)
          over = read.past e

          some : (0 < length items) ⊎ (length items ≤ 0) → (n : ℕ) × IsNoteReach (note_rows list) height n × (lines_in items ≤ note_lines list n)
          some (inr none) =
              let zero_is : length items ≡ 0 = omega (arith, none) in
              let o : height <ℤ area_of (note_rows items) 0 = subst (λ (k : ℕ). height <ℤ area_of (note_rows items) k) zero_is over in
              absurd (omega (arith, ints, o, low))
          some (inl h) =
              let n : ℕ = length items - 1 in
              let s = size in
              let r = rows_size in
              let next : suc n ≡ length items = omega (arith, h) in
              let here = lines_are in
              let last = lines_last items in
              let same : lines_in (take n list) ≡ lines_in (take n items) = ap (λ (xs : List NotedSolid). lines_in (take n xs)) read.is ∙ ap (λ (xs : List NotedSolid). lines_in xs) (take-append-le n items read.more (omega arith)) in (
                n,
                record {
                  within = omega (arith, s, r);
                  inside = subst (λ (z : ℤ). z ≤ℤ height) (sym (area_is n (omega arith))) (short.before n (omega (arith, next)));
                  above = λ f. subst (λ (z : ℤ). height <ℤ z) (sym (area_is (suc n) (omega (arith, next)))) (subst (λ (k : ℕ). height <ℤ area_of (note_rows items) k) (sym next) over);
                },
                omega (arith, here, last, same),
              )

-- no more steps are taken for what is carried to a page of notes than it may look at
pub looked_carried : (faces : List FontFace) (flow : Flow) (frame : Frame) (carried : List Carried) (l : NoteList) (kept : List KeptLeaf) (old new : ℕ) → IsCarriedList faces flow.notes frame carried l → IsShortList frame.height l → pos 0 ≤ℤ frame.height → StepsForNotes flow.notes frame.width kept [] l.solids.items old new → LooksAtNotes faces flow frame carried kept old new
looked_carried faces flow frame carried l kept old new is short low steps = λ known are.
    let q = looked_list frame.height is.list l is.read short low in
    let few = new_few_noted known flow.notes frame.width l.solids.items is.read.more (note_lines is.list q.0) q.2 in
    let same : new_noted known flow.notes frame.width (take (note_lines is.list q.0) (noted_lines (l.solids.items ++ is.read.more))) ≡ new_looked_noted known flow frame is.list q.0 =
    ap (λ (xs : List NotedSolid). new_noted known flow.notes frame.width (take (note_lines is.list q.0) (noted_lines xs))) (sym is.read.is) in
    let count = steps known are in (
      new_looked_noted known flow frame is.list q.0,
      record { list = is.list; listed = is.listed; reach = q.0; reaches = q.1; lines_is = refl },
      omega (arith, few, same, count),
    )

-- ---- how far the solids of a page are looked at
pub reach_exists : (kept : Bool) (rows : List SolidRow) (height : ℤ) → (n : ℕ) × IsReach kept rows height n
reach_exists kept rows height = go (limit_of rows) 0 (omega arith) (λ k h. absurd (omega arith))
  where
    go : (left n : ℕ) → n + left ≡ limit_of rows → ((k : ℕ) → k < n → rows_bottom kept rows (suc k) ≤ℤ height) → (n : ℕ) × IsReach kept rows height n
    go zero n e inside = (n, record { within = omega (arith, e); inside = inside; below = λ h. absurd (omega (arith, e, h)) })
    go (suc left) n e inside = by_lt_z {P = (n : ℕ) × IsReach kept rows height n} height (rows_bottom kept rows (suc n))
        (λ over. (n, record { within = omega (arith, e); inside = inside; below = λ h. over }))
        (λ low. go left (suc n) (omega (arith, e)) (λ k h. ⊎_elim (λ (less : k < n). inside k less) (λ (last : n ≤ k). let same : n ≡ k = omega (arith, h, last) in subst (λ (i : ℕ). rows_bottom kept rows (suc i) ≤ℤ height) same low) (cases_lt k n)))

-- and the solids of its notes
pub note_reach_exists : (list : List NoteSolid) (height : ℤ) → pos 0 ≤ℤ height → (n : ℕ) × IsNoteReach list height n
note_reach_exists list height low = go (length list) 0 (omega arith) (omega (arith, ints, low))
  where
    go : (left n : ℕ) → n + left ≡ length list → area_of list n ≤ℤ height → (n : ℕ) × IsNoteReach list height n
    go zero n e inside = (n, record { within = omega (arith, e); inside = inside; above = λ h. absurd (omega (arith, e, h)) })
    go (suc left) n e inside = by_lt_z {P = (n : ℕ) × IsNoteReach list height n} height (area_of list (suc n))
        (λ over. (n, record { within = omega (arith, e); inside = inside; above = λ h. over }))
        (λ fits. go left (suc n) (omega (arith, e)) fits)

-- the first solids of a list have no more lines than may be looked at, where fewer of them aren't above the height
pub few_noted : (height : ℤ) (list items more : List NotedSolid) (n : ℕ) → list ≡ items ++ more → ((k : ℕ) → k < length items → area_of (note_rows items) k ≤ℤ height) → IsNoteReach (note_rows list) height n → lines_in items ≤ note_lines list n
few_noted height list items more n is before reach =
    let all : lines_in list ≡ lines_in items + lines_in more = ap (λ (xs : List NotedSolid). lines_in xs) is ∙ sum_by-append (λ (s : NotedSolid). steps_by s.kind) items more in
    let last = lines_last items in
    let same : lines_in (take (length items - 1) list) ≡ lines_in (take (length items - 1) items) = ap (λ (xs : List NotedSolid). lines_in (take (length items - 1) xs)) is ∙ ap (λ (xs : List NotedSolid). lines_in xs) (take-append-le (length items - 1) items more (omega arith)) in
    let up = noted_up list (length items - 1) n low in
    omega (arith, all, last, same, up)
  where
    noted_up : (xs : List NotedSolid) (j k : ℕ) → j ≤ k → lines_in (take j xs) ≤ lines_in (take k xs)
    noted_up xs j k h =
        let cut = sum_by-take-le (λ (s : NotedSolid). steps_by s.kind) (take k xs) j in
        let whole : lines_in (take j (take k xs)) ≡ lines_in (take j xs) = ap (λ (ys : List NotedSolid). lines_in ys) (take-take j k xs h) in
        omega (arith, cut, whole)

    rows_are : note_rows list ≡ note_rows items ++ note_rows more
    rows_are = ap (λ (xs : List NotedSolid). note_rows xs) is ∙ map-append (λ (s : NotedSolid). s.row) items more

    size : length (note_rows list) ≡ length items + length more
    size = length-map list (λ (s : NotedSolid). s.row) ∙ ap (λ (xs : List NotedSolid). length xs) is ∙ length-append items more

    count : length (note_rows items) ≡ length items
    count = length-map items (λ (s : NotedSolid). s.row)

    -- that many solids are within reach
    low : length items - 1 ≤ n
    low = by (cases_lt n (length items - 1))
      where
        by : (n < length items - 1) ⊎ (length items - 1 ≤ n) → length items - 1 ≤ n
        by (inr h) = h
        by (inl h) =
            let here : area_of (note_rows list) (suc n) ≡ area_of (note_rows items) (suc n) = ap (λ (rs : List NoteSolid). area_of rs (suc n)) rows_are ∙ area_prefix (note_rows items) (note_rows more) (suc n) (let c = count in omega (arith, h, c)) in
            let fits = before (suc n) (omega (arith, h)) in
            let all = size in
            let over = reach.above (omega (arith, h, all)) in
            absurd (omega (arith, ints, here, fits, over))

-- ---- there is one number
note_reach_one : (list : List NoteSolid) (height : ℤ) (m n : ℕ) → IsNoteReach list height m → IsNoteReach list height n → m ≡ n
note_reach_one list height m n p q = by (cases_lt m n) (cases_lt n m)
  where
    less : (i k : ℕ) → IsNoteReach list height i → IsNoteReach list height k → i < k → ⊥
    less i k a b h =
        let w = b.within in
        let o = a.above (omega (arith, h, w)) in
        let f = area_never_falls list (suc i) k (omega (arith, h)) in
        let g = b.inside in
        omega (arith, ints, o, f, g)

    by : (m < n) ⊎ (n ≤ m) → (n < m) ⊎ (m ≤ n) → m ≡ n
    by (inl h) x = absurd (less m n p q h)
    by (inr h) (inl k) = absurd (less n m q p k)
    by (inr h) (inr k) = omega (arith, h, k)

reach_one : (kept : Bool) (rows : List SolidRow) (height : ℤ) (m n : ℕ) → IsReach kept rows height m → IsReach kept rows height n → m ≡ n
reach_one kept rows height m n p q = by (cases_lt m n) (cases_lt n m)
  where
    less : (i k : ℕ) → IsReach kept rows height i → IsReach kept rows height k → i < k → ⊥
    less i k a b h =
        let w = b.within in
        let o = a.below (omega (arith, h, w)) in
        let g = b.inside i h in
        omega (arith, ints, o, g)

    by : (m < n) ⊎ (n ≤ m) → (n < m) ⊎ (m ≤ n) → m ≡ n
    by (inl h) x = absurd (less m n p q h)
    by (inr h) (inl k) = absurd (less n m q p k)
    by (inr h) (inr k) = omega (arith, h, k)

one_noted : (faces : List FontFace) (flow : Flow) (frame : Frame) (carried : List Carried) (known : Asked → Bool) (m n : ℕ) → IsLookedNotes faces flow frame carried known m → IsLookedNotes faces flow frame carried known n → m ≡ n
one_noted faces flow frame carried known m n p q =
    let list : p.list ≡ q.list = noted_unique faces flow.notes frame.width (carried_parts carried) p.list q.list p.listed q.listed in
    let reach : p.reach ≡ q.reach = note_reach_one (note_rows q.list) frame.height p.reach q.reach (subst (λ (xs : List NotedSolid). IsNoteReach (note_rows xs) frame.height p.reach) list p.reaches) q.reaches in
    p.lines_is ∙ (ap (λ (xs : List NotedSolid). new_looked_noted known flow frame xs p.reach) list ∙ (ap (new_looked_noted known flow frame q.list) reach ∙ sym q.lines_is))

one_flow : (faces : List FontFace) (flow : Flow) (frame : Frame) (from : CutFrom) (carried : List Carried) (known : Asked → Bool) (m n : ℕ) → IsLookedFlow faces flow frame from carried known m → IsLookedFlow faces flow frame from carried known n → m ≡ n
one_flow faces flow frame from carried known m n p q =
    let solids : p.solids ≡ q.solids = remainder_unique faces flow.main frame.width from.at p.solids q.solids p.rest q.rest in
    let reach : p.reach ≡ q.reach = reach_one from.kept (rows_of flow.main q.solids) frame.height p.reach q.reach (subst (λ (xs : List SolidView). IsReach from.kept (rows_of flow.main xs) frame.height p.reach) solids p.reaches) q.reaches in
    let taken : taken_of p.solids (rows_of flow.main p.solids) p.reach ≡ taken_of q.solids (rows_of flow.main q.solids) q.reach =
    ap (λ (xs : List SolidView). taken_of xs (rows_of flow.main xs) p.reach) solids ∙ ap (taken_of q.solids (rows_of flow.main q.solids)) reach in
    let parts : parts_after flow from.at carried p.solids (taken_of p.solids (rows_of flow.main p.solids) p.reach) ≡ parts_after flow from.at carried q.solids (taken_of q.solids (rows_of flow.main q.solids) q.reach) =
    ap (λ (xs : List SolidView). parts_after flow from.at carried xs (taken_of p.solids (rows_of flow.main p.solids) p.reach)) solids ∙ ap (parts_after flow from.at carried q.solids) taken in
    let list : p.list ≡ q.list = noted_unique faces flow.notes frame.width _ p.list q.list (subst (λ (ps : List NotePart). AreNoted faces flow.notes frame.width ps p.list) parts p.listed) q.listed in
    let fit : p.list_reach ≡ q.list_reach = note_reach_one (note_rows q.list) frame.height p.list_reach q.list_reach (subst (λ (xs : List NotedSolid). IsNoteReach (note_rows xs) frame.height p.list_reach) list p.list_reaches) q.list_reaches in
    let own : new_looked_in known flow frame p.solids (taken_of p.solids (rows_of flow.main p.solids) p.reach) ≡ new_looked_in known flow frame q.solids (taken_of q.solids (rows_of flow.main q.solids) q.reach) =
    ap (λ (xs : List SolidView). new_looked_in known flow frame xs (taken_of p.solids (rows_of flow.main p.solids) p.reach)) solids ∙ ap (new_looked_in known flow frame q.solids) taken in
    let notes : new_looked_noted known flow frame p.list p.list_reach ≡ new_looked_noted known flow frame q.list q.list_reach = ap (λ (xs : List NotedSolid). new_looked_noted known flow frame xs p.list_reach) list ∙ ap (new_looked_noted known flow frame q.list) fit in
    let a = p.lines_is in
    let b = q.lines_is in
    omega (arith, a, b, own, notes)

pub one_looked : HaveOneLooked
one_looked = record { noted = one_noted; flows = one_flow }
