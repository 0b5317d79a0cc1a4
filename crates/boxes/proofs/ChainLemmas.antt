-- The ends of chains stay as a tree grows.
use Rattle.std.proofs.Common.{◌≡◌, ◌<◌, ◌≤◌, ℕ, zero, suc, ◌+◌, ◌-◌, true, false, List, [], ◌∷◌, ◌++◌, Option, Some, None, length, drop, slice_get, slice_set, refl, sym, ap, ◌∙◌, subst, arith, ◌⊎◌, inl, inr, length-append}
use Rattle.std.proofs.lemmas.Bool.{cases_lt}
use Rattle.std.proofs.lemmas.List.{map-append, length-map, length-set}
use Rattle.std.proofs.lemmas.Option.{slice_get_within, slice_get-map}
use Rattle.boxes.specs.Chains.{opens_from, closed_with, closes_to, last_from, first_child_end, last_child_end}
use Rattle.boxes.specs.Tree.{first_of, is_opening}
use Rattle.boxes.specs.Fields.{events_of, start_with, opens_start, opened_chain, closed_chain, HaveChains, HaveEvents}
use Rattle.boxes.specs.declared.tree.Row.{Row}
use Rattle.boxes.specs.declared.tree.BoxRow.{BoxRow}
use Rattle.boxes.specs.declared.place.Event.{Event}
use Rattle.boxes.specs.declared.place.Event.TheVariants.{Opens, Closes, Leaf}
use Rattle.bk_num.proofs.ListLemmas.{get-before, get-end, get-keep, get-push, get-set, set-get, slice_get_at}

-- the start of the Opens before a place is as it was
pub start_push : (es : List Event) (e : Event) (k : ℕ) → k ≤ length es → opens_start (es ++ e ∷ []) k ≡ opens_start es k
start_push es e zero low = refl
start_push es e (suc k) low =
    ap (λ (o : Option Event). start_with (opens_start (es ++ e ∷ []) k) k o) (get-before es e k (omega arith))
    ∙ ap (λ (s : ℕ). start_with s k (slice_get es k)) (start_push es e k (omega arith))

pub start_low : (es : List Event) (k : ℕ) → opens_start es k ≤ k
start_low es zero = omega arith
start_low es (suc k) = by (slice_get es k) (start_low es k)
  where
    by : (o : Option Event) → opens_start es k ≤ k → start_with (opens_start es k) k o ≤ suc k
    by None low = omega arith
    by (Some (Opens b)) low = omega arith
    by (Some (Closes b)) low = omega arith
    by (Some (Leaf l)) low = omega arith

-- the Opens that stand up to a place begin where those up to another one of them do
pub start_same : (es : List Event) (m k : ℕ) → opens_start es m ≤ k → k ≤ m → opens_start es k ≡ opens_start es m
start_same es zero k low high = let z : k ≡ 0 = omega arith in ap (opens_start es) z
start_same es (suc m) k low high = by (λ above less. start_same es m k above less) (slice_get es m) refl low
  where
    last : k ≡ suc m → (o : Option Event) → slice_get es m ≡ o → opens_start es k ≡ start_with (opens_start es m) m o
    last same o at = ap (opens_start es) same ∙ ap (start_with (opens_start es m) m) at

    by : (opens_start es m ≤ k → k ≤ m → opens_start es k ≡ opens_start es m) → (o : Option Event) → slice_get es m ≡ o → start_with (opens_start es m) m o ≤ k → opens_start es k ≡ start_with (opens_start es m) m o
    by ih None at above = last (omega arith) None at
    by ih (Some (Closes b)) at above = last (omega arith) (Some (Closes b)) at
    by ih (Some (Leaf l)) at above = last (omega arith) (Some (Leaf l)) at
    by ih (Some (Opens b)) at above = cases (cases_lt m k)
      where
        cases : (m < k) ⊎ (k ≤ m) → opens_start es k ≡ opens_start es m
        cases (inr less) = ih above less
        cases (inl more) = last (omega arith) (Some (Opens b)) at

-- no Open stands right before the start
pub start_stops : (es : List Event) (m j : ℕ) → suc j ≡ opens_start es m → is_opening (slice_get es j) ≡ false
start_stops es zero j at = absurd (omega arith)
start_stops es (suc m) j at = by (start_stops es m j) (slice_get es m) refl at
  where
    here : (o : Option Event) → slice_get es m ≡ o → suc j ≡ suc m → is_opening o ≡ false → is_opening (slice_get es j) ≡ false
    here o is same stops = let n : j ≡ m = omega arith in ap (λ (k : ℕ). is_opening (slice_get es k)) n ∙ ap is_opening is ∙ stops

    by : (suc j ≡ opens_start es m → is_opening (slice_get es j) ≡ false) → (o : Option Event) → slice_get es m ≡ o → suc j ≡ start_with (opens_start es m) m o → is_opening (slice_get es j) ≡ false
    by ih None is at' = here None is at' refl
    by ih (Some (Opens b)) is at' = ih at'
    by ih (Some (Closes b)) is at' = here (Some (Closes b)) is at' refl
    by ih (Some (Leaf l)) is at' = here (Some (Leaf l)) is at' refl

-- a chain ends where the Opens begin with it
drop_there : (es : List Event) (k : ℕ) (e : Event) → slice_get es k ≡ Some e → drop k es ≡ e ∷ drop (suc k) es
drop_there [] k e h = absurd (cc)
drop_there (x ∷ xs) zero e h = let same : x ≡ e = cc in ap (λ (y : Event). y ∷ xs) same
drop_there (x ∷ xs) (suc k) e h = drop_there xs k e h

pub start_end : (es : List Event) (k b : ℕ) → slice_get es k ≡ Some (Opens b) → first_child_end es (opens_start es k) ≡ first_child_end es k
start_end es zero b at = refl
start_end es (suc k) b at = by (start_end es k) (slice_get es k) refl
  where
    here : (c : ℕ) → slice_get es k ≡ Some (Opens c) → first_child_end es k ≡ first_child_end es (suc k)
    here c is =
        ap (λ (l : List Event). last_from None (opens_from l)) (drop_there es k (Opens c) is)
        ∙ ap (λ (l : List Event). last_from (Some c) (opens_from l)) (drop_there es (suc k) (Opens b) at)
        ∙ sym (ap (λ (l : List Event). last_from None (opens_from l)) (drop_there es (suc k) (Opens b) at))

    by : ((c : ℕ) → slice_get es k ≡ Some (Opens c) → first_child_end es (opens_start es k) ≡ first_child_end es k) → (o : Option Event) → slice_get es k ≡ o → first_child_end es (start_with (opens_start es k) k o) ≡ first_child_end es (suc k)
    by ih None is = refl
    by ih (Some (Opens c)) is = ih c is ∙ here c is
    by ih (Some (Closes c)) is = refl
    by ih (Some (Leaf l)) is = refl

-- a chain that ended stays
pub opens_stay : (es fs : List Event) (j k : ℕ) → k ≤ j → j < length es → is_opening (slice_get es j) ≡ false → opens_from (drop k (es ++ fs)) ≡ opens_from (drop k es)
opens_stay [] fs j k low within stops = absurd (omega arith)
opens_stay (e ∷ es) fs zero (suc k) low within stops = absurd (omega arith)
opens_stay (e ∷ es) fs (suc j) (suc k) low within stops = opens_stay es fs j k (omega arith) (omega arith) stops
opens_stay (Opens b ∷ es) fs zero zero low within stops = absurd (cc)
opens_stay (Closes b ∷ es) fs zero zero low within stops = refl
opens_stay (Leaf l ∷ es) fs zero zero low within stops = refl
opens_stay (Opens b ∷ es) fs (suc j) zero low within stops = ap (λ (l : List ℕ). b ∷ l) (opens_stay es fs j 0 (omega arith) (omega arith) stops)
opens_stay (Closes b ∷ es) fs (suc j) zero low within stops = refl
opens_stay (Leaf l ∷ es) fs (suc j) zero low within stops = refl

-- an event that isn't an Open ends a chain as the end did
pub opens_push : (es : List Event) (e : Event) (k : ℕ) → k ≤ length es → is_opening (Some e) ≡ false → opens_from (drop k (es ++ e ∷ [])) ≡ opens_from (drop k es)
opens_push [] (Opens b) zero low other = absurd (cc)
opens_push [] (Closes b) zero low other = refl
opens_push [] (Leaf l) zero low other = refl
opens_push [] e (suc k) low other = absurd (omega arith)
opens_push (x ∷ es) e (suc k) low other = opens_push es e k (omega arith) other
opens_push (Opens b ∷ es) e zero low other = ap (λ (l : List ℕ). b ∷ l) (opens_push es e 0 (omega arith) other)
opens_push (Closes b ∷ es) e zero low other = refl
opens_push (Leaf l ∷ es) e zero low other = refl

drop_end : (es : List Event) (e : Event) → drop (length es) (es ++ e ∷ []) ≡ e ∷ []
drop_end [] e = refl
drop_end (x ∷ es) e = drop_end es e

-- the chain of an Open at the end is that box alone
pub opens_last : (es : List Event) (n : ℕ) → first_child_end (es ++ Opens n ∷ []) (length es) ≡ Some n
opens_last es n = ap (λ (l : List Event). last_from None (opens_from l)) (drop_end es (Opens n))

pub closes_push : (es : List Event) (e : Event) (k : ℕ) → k ≤ length es → closes_to (es ++ e ∷ []) k ≡ closes_to es k
closes_push es e zero low = refl
closes_push es e (suc k) low =
    ap (λ (o : Option Event). closed_with (closes_to (es ++ e ∷ []) k) o) (get-before es e k (omega arith))
    ∙ ap (λ (l : List ℕ). closed_with l (slice_get es k)) (closes_push es e k (omega arith))

-- a Close at the end goes on with the Closes before it
pub closes_last : (es : List Event) (n : ℕ) → closes_to (es ++ Closes n ∷ []) (suc (length es)) ≡ closes_to es (length es) ++ n ∷ []
closes_last es n =
    ap (λ (o : Option Event). closed_with (closes_to (es ++ Closes n ∷ []) (length es)) o) (get-end es (Closes n))
    ∙ ap (λ (l : List ℕ). l ++ n ∷ []) (closes_push es (Closes n) (length es) (omega arith))

-- what a box's row keeps of its chain after a write of another field
pub record IsChainSame (was now : BoxRow) : Type 0 where
  pub opens : now.opens ≡ was.opens
  pub end : now.end ≡ was.end

event_at : (rows : List Row) (k : ℕ) (row : Row) → slice_get rows k ≡ Some row → slice_get (events_of rows) k ≡ Some row.event
event_at rows k row h = rw (slice_get-map, h) refl

more : (rows : List Row) (row : Row) → events_of (rows ++ row ∷ []) ≡ events_of rows ++ row.event ∷ []
more rows row = map-append (λ (q : Row). q.event) rows (row ∷ [])

size : (rows : List Row) → length (events_of rows) ≡ length rows
size rows = rw length-map refl

-- the rows of boxes with one of them written
pub chains_set : (rows : List Row) (boxes : List BoxRow) (n : ℕ) (was now : BoxRow) → HaveChains rows boxes → slice_get boxes n ≡ Some was → IsChainSame was now → HaveChains rows (slice_set boxes n now)
chains_set rows boxes n was now h there same = record {
  tops = λ k b row e is. let t = h.tops k b row e is in top k row.chain t.0 t.1 t.2 (set-get boxes n row.chain now t.0 t.1);
  ends = λ b row e start. let r = old b row (get-set boxes n b now row e) in
      ap (first_child_end (events_of rows)) r.2 ∙ h.ends b r.0 r.1 (ap (opens_start (events_of rows)) (sym r.2) ∙ start ∙ r.2) ∙ ap (λ (x : ℕ). Some x) (sym r.3);
  ends_there = λ b row e. let r = old b row (get-set boxes n b now row e) in let low = h.ends_there b r.0 r.1 in let is = r.3 in rw length-set (omega arith);
  lasts = h.lasts;
  lasts_there = λ k b row e is. let low = h.lasts_there k b row e is in rw length-set low;
}
  where
    old : (b : ℕ) (row : BoxRow) → ((o : BoxRow) × (slice_get boxes b ≡ Some o) × (((b ≡ n) × (row ≡ now)) ⊎ ((b ≡ n → ⊥) × (row ≡ o)))) → (o : BoxRow) × (slice_get boxes b ≡ Some o) × (row.opens ≡ o.opens) × (row.end ≡ o.end)
    old b row (o, at, inl (here, is)) =
        let o_is : o ≡ was = (let p : Some o ≡ Some was = sym at ∙ ap (slice_get boxes) here ∙ there in cc) in
        (o, at, ap (λ (r : BoxRow). r.opens) is ∙ same.opens ∙ ap (λ (r : BoxRow). r.opens) (sym o_is), ap (λ (r : BoxRow). r.end) is ∙ same.end ∙ ap (λ (r : BoxRow). r.end) (sym o_is))
    old b row (o, at, inr (other, is)) = (o, at, ap (λ (r : BoxRow). r.opens) is, ap (λ (r : BoxRow). r.end) is)

    top : (k c : ℕ) (t : BoxRow) → slice_get boxes c ≡ Some t → t.opens ≡ opens_start (events_of rows) k → ((z : BoxRow) × (slice_get (slice_set boxes n now) c ≡ Some z) × (((c ≡ n) × (z ≡ now)) ⊎ ((c ≡ n → ⊥) × (z ≡ t)))) →
        (z : BoxRow) × (slice_get (slice_set boxes n now) c ≡ Some z) × (z.opens ≡ opens_start (events_of rows) k)
    top k c t at is (z, g, inl (here, z_is)) =
        let t_is : t ≡ was = (let p : Some t ≡ Some was = sym at ∙ ap (slice_get boxes) here ∙ there in cc) in
        (z, g, ap (λ (r : BoxRow). r.opens) z_is ∙ same.opens ∙ ap (λ (r : BoxRow). r.opens) (sym t_is) ∙ is)
    top k c t at is (z, g, inr (other, z_is)) = (z, g, ap (λ (r : BoxRow). r.opens) z_is ∙ is)

-- an event more that opens no box. `last` is what a Close keeps
pub chains_push : (rows : List Row) (boxes : List BoxRow) (row : Row) → HaveChains rows boxes → HaveEvents (events_of rows) boxes → is_opening (Some row.event) ≡ false →
    ((b : ℕ) → row.event ≡ Closes b → (last_child_end (events_of rows ++ row.event ∷ []) (length rows) ≡ Some row.chain) × (row.chain < length boxes)) → HaveChains (rows ++ row ∷ []) boxes
chains_push rows boxes row h events other last = record {
  tops = λ k b r e is. tops k b r is (get-push rows row r k e);
  ends = λ b r e start. ends b r e start;
  ends_there = h.ends_there;
  lasts = λ k b r e is. lasts k b r is (get-push rows row r k e);
  lasts_there = λ k b r e is. lasts_there k b r is (get-push rows row r k e);
}
  where
    es : List Event
    es = events_of rows

    starts : (k : ℕ) → k ≤ length rows → opens_start (events_of (rows ++ row ∷ [])) k ≡ opens_start (events_of rows) k
    starts k low = let n = size rows in ap (λ (l : List Event). opens_start l k) (more rows row) ∙ start_push (events_of rows) row.event k (omega arith)

    tops : (k b : ℕ) (r : Row) → r.event ≡ Opens b → ((k ≡ length rows) × (r ≡ row)) ⊎ (slice_get rows k ≡ Some r) → (top : BoxRow) × (slice_get boxes r.chain ≡ Some top) × (top.opens ≡ opens_start (events_of (rows ++ row ∷ [])) k)
    tops k b r is (inl (at, same)) = let p : row.event ≡ Opens b = ap (λ (q : Row). q.event) (sym same) ∙ is in absurd (let q : is_opening (Some row.event) ≡ true = ap (λ (e : Event). is_opening (Some e)) p in cc)
    tops k b r is (inr old) = let w = slice_get_within rows k r old in let t = h.tops k b r old is in (t.0, t.1, t.2 ∙ sym (starts k (omega arith)))

    ends : (b : ℕ) (r : BoxRow) → slice_get boxes b ≡ Some r → opens_start (events_of (rows ++ row ∷ [])) r.opens ≡ r.opens → first_child_end (events_of (rows ++ row ∷ [])) r.opens ≡ Some r.end
    ends b r e start =
        let w = slice_get_within (events_of rows) r.opens (Opens b) (events.opens b r e) in
        let n = size rows in
        ap (λ (l : List Event). first_child_end l r.opens) (more rows row)
        ∙ ap (last_from None) (opens_push (events_of rows) row.event r.opens (omega arith) other)
        ∙ h.ends b r e (sym (starts r.opens (omega arith)) ∙ start)

    lasts : (k b : ℕ) (r : Row) → r.event ≡ Closes b → ((k ≡ length rows) × (r ≡ row)) ⊎ (slice_get rows k ≡ Some r) → last_child_end (events_of (rows ++ row ∷ [])) k ≡ Some r.chain
    lasts k b r is (inl (at, same)) =
        let l = last b (ap (λ (q : Row). q.event) (sym same) ∙ is) in
        ap (λ (x : List Event). last_child_end x k) (more rows row) ∙ ap (last_child_end (events_of rows ++ row.event ∷ [])) at ∙ l.0 ∙ ap (λ (q : Row). Some q.chain) (sym same)
    lasts k b r is (inr old) =
        let w = slice_get_within rows k r old in
        let n = size rows in
        ap (λ (x : List Event). last_child_end x k) (more rows row) ∙ ap first_of (closes_push (events_of rows) row.event (suc k) (omega arith)) ∙ h.lasts k b r old is

    lasts_there : (k b : ℕ) (r : Row) → r.event ≡ Closes b → ((k ≡ length rows) × (r ≡ row)) ⊎ (slice_get rows k ≡ Some r) → r.chain < length boxes
    lasts_there k b r is (inl (at, same)) = let l = last b (ap (λ (q : Row). q.event) (sym same) ∙ is) in subst (λ (q : Row). q.chain < length boxes) (sym same) l.1
    lasts_there k b r is (inr old) = h.lasts_there k b r old is

-- what a Close keeps: the box of the Closes right before it, or its own
pub last_closed : (rows : List Row) (boxes : List BoxRow) (n : ℕ) → HaveChains rows boxes → n < length boxes →
    (last_child_end (events_of rows ++ Closes n ∷ []) (length rows) ≡ Some (closed_chain (slice_get rows (length rows - 1)) n)) × (closed_chain (slice_get rows (length rows - 1)) n < length boxes)
last_closed rows boxes n h low = by (length rows) refl
  where
    es : List Event
    es = events_of rows

    joined : (chain : List ℕ) (c : ℕ) → first_of chain ≡ Some c → first_of (chain ++ n ∷ []) ≡ Some c
    joined [] c f = absurd (cc)
    joined (x ∷ xs) c f = f

    after : (m : ℕ) → length rows ≡ m → last_child_end (events_of rows ++ Closes n ∷ []) m ≡ first_of (closes_to (events_of rows) m ++ n ∷ [])
    after m at = let k : m ≡ length (events_of rows) = sym at ∙ sym (size rows) in
        ap (λ (j : ℕ). last_child_end (events_of rows ++ Closes n ∷ []) j) k ∙ ap first_of (closes_last (events_of rows) n) ∙ ap (λ (j : ℕ). first_of (closes_to (events_of rows) j ++ n ∷ [])) (sym k)

    by : (m : ℕ) → length rows ≡ m → (last_child_end (events_of rows ++ Closes n ∷ []) (length rows) ≡ Some (closed_chain (slice_get rows (length rows - 1)) n)) × (closed_chain (slice_get rows (length rows - 1)) n < length boxes)
    by zero at =
        let none : slice_get rows (length rows - 1) ≡ None = empty rows at in
        (ap (last_child_end (events_of rows ++ Closes n ∷ [])) at ∙ after 0 at ∙ ap (λ (o : Option Row). Some (closed_chain o n)) (sym none), subst (λ (o : Option Row). closed_chain o n < length boxes) (sym none) low)
      where
        empty : (l : List Row) → length l ≡ 0 → slice_get l (length l - 1) ≡ None
        empty [] e = refl
        empty (x ∷ xs) e = absurd (omega arith)
    by (suc j) at =
        let there = slice_get_at rows j (omega arith) in
        let back : length rows - 1 ≡ j = omega arith in
        let here : slice_get rows (length rows - 1) ≡ Some there.0 = ap (slice_get rows) back ∙ there.1 in
        let two = close there.0 there.0.event refl there.1 in
        (ap (last_child_end (events_of rows ++ Closes n ∷ [])) at ∙ after (suc j) at ∙ two.0 ∙ ap (λ (o : Option Row). Some (closed_chain o n)) (sym here), subst (λ (o : Option Row). closed_chain o n < length boxes) (sym here) two.1)
      where
        close : (r : Row) (e : Event) → r.event ≡ e → slice_get rows j ≡ Some r → (first_of (closes_to (events_of rows) (suc j) ++ n ∷ []) ≡ Some (closed_chain (Some r) n)) × (closed_chain (Some r) n < length boxes)
        close r (Closes b) is g =
            let c : closed_chain (Some r) n ≡ r.chain = rw is refl in
            (joined (closes_to (events_of rows) (suc j)) r.chain (h.lasts j b r g is) ∙ ap (λ (x : ℕ). Some x) (sym c), subst (λ (x : ℕ). x < length boxes) (sym c) (h.lasts_there j b r g is))
        close r (Opens b) is g =
            let c : closed_chain (Some r) n ≡ n = rw is refl in
            let none : closes_to (events_of rows) (suc j) ≡ [] = ap (closed_with (closes_to (events_of rows) j)) (event_at rows j r g ∙ ap (λ (x : Event). Some x) is) in
            (ap (λ (l : List ℕ). first_of (l ++ n ∷ [])) none ∙ ap (λ (x : ℕ). Some x) (sym c), subst (λ (x : ℕ). x < length boxes) (sym c) low)
        close r (Leaf b) is g =
            let c : closed_chain (Some r) n ≡ n = rw is refl in
            let none : closes_to (events_of rows) (suc j) ≡ [] = ap (closed_with (closes_to (events_of rows) j)) (event_at rows j r g ∙ ap (λ (x : Event). Some x) is) in
            (ap (λ (l : List ℕ). first_of (l ++ n ∷ [])) none ∙ ap (λ (x : ℕ). Some x) (sym c), subst (λ (x : ℕ). x < length boxes) (sym c) low)

-- the box at which the Opens begin that a new box stands after: it opens at their start
pub top_opened : (rows : List Row) (boxes : List BoxRow) (made : BoxRow) (row : Row) → HaveChains rows boxes → row.event ≡ Opens (length boxes) → made.opens ≡ length rows → row.chain ≡ opened_chain (slice_get rows (length rows - 1)) (length boxes) →
    (top : BoxRow) × (slice_get (boxes ++ made ∷ []) row.chain ≡ Some top) × (top.opens ≡ opens_start (events_of (rows ++ row ∷ [])) (length rows))
top_opened rows boxes made row h ev at chain = by (length rows) refl
  where
    es : List Event
    es = events_of rows

    start : opens_start (events_of (rows ++ row ∷ [])) (length rows) ≡ opens_start (events_of rows) (length rows)
    start = let n = size rows in ap (λ (l : List Event). opens_start l (length rows)) (more rows row) ∙ start_push (events_of rows) row.event (length rows) (omega arith)

    own : row.chain ≡ length boxes → opens_start (events_of rows) (length rows) ≡ length rows → (top : BoxRow) × (slice_get (boxes ++ made ∷ []) row.chain ≡ Some top) × (top.opens ≡ opens_start (events_of (rows ++ row ∷ [])) (length rows))
    own is same = (made, ap (slice_get (boxes ++ made ∷ [])) is ∙ get-end boxes made, at ∙ sym (start ∙ same))

    by : (m : ℕ) → length rows ≡ m → (top : BoxRow) × (slice_get (boxes ++ made ∷ []) row.chain ≡ Some top) × (top.opens ≡ opens_start (events_of (rows ++ row ∷ [])) (length rows))
    by zero z =
        let none : slice_get rows (length rows - 1) ≡ None = empty rows z in
        own (chain ∙ ap (λ (o : Option Row). opened_chain o (length boxes)) none) (ap (opens_start (events_of rows)) z ∙ sym z)
      where
        empty : (l : List Row) → length l ≡ 0 → slice_get l (length l - 1) ≡ None
        empty [] e = refl
        empty (x ∷ xs) e = absurd (omega arith)
    by (suc j) s =
        let there = slice_get_at rows j (omega arith) in
        let back : length rows - 1 ≡ j = omega arith in
        let here : slice_get rows (length rows - 1) ≡ Some there.0 = ap (slice_get rows) back ∙ there.1 in
        opener there.0 there.0.event refl there.1 (chain ∙ ap (λ (o : Option Row). opened_chain o (length boxes)) here)
      where
        begun : (r : Row) (e : Event) → r.event ≡ e → slice_get rows j ≡ Some r → opens_start (events_of rows) (length rows) ≡ start_with (opens_start (events_of rows) j) j (Some e)
        begun r e is g = ap (opens_start (events_of rows)) s ∙ ap (start_with (opens_start (events_of rows) j) j) (event_at rows j r g ∙ ap (λ (x : Event). Some x) is)

        opener : (r : Row) (e : Event) → r.event ≡ e → slice_get rows j ≡ Some r → row.chain ≡ opened_chain (Some r) (length boxes) → (top : BoxRow) × (slice_get (boxes ++ made ∷ []) row.chain ≡ Some top) × (top.opens ≡ opens_start (events_of (rows ++ row ∷ [])) (length rows))
        opener r (Opens b) is g c =
            let t = h.tops j b r g is in
            let same : row.chain ≡ r.chain = c ∙ rw is refl in
            (t.0, ap (slice_get (boxes ++ made ∷ [])) same ∙ get-keep boxes (made ∷ []) r.chain t.0 t.1, t.2 ∙ sym (start ∙ begun r (Opens b) is g))
        opener r (Closes b) is g c = own (c ∙ rw is refl) (begun r (Closes b) is g ∙ sym s)
        opener r (Leaf b) is g c = own (c ∙ rw is refl) (begun r (Leaf b) is g ∙ sym s)

-- a box more, with the event that opens it, and with the end of its chain written
pub chains_opens : (rows : List Row) (boxes : List BoxRow) (made was now : BoxRow) (row : Row) → HaveChains rows boxes → HaveEvents (events_of rows) boxes → HaveEvents (events_of (rows ++ row ∷ [])) (boxes ++ made ∷ []) →
    row.event ≡ Opens (length boxes) → made.opens ≡ length rows → made.end ≡ length boxes → slice_get (boxes ++ made ∷ []) row.chain ≡ Some was → was.opens ≡ opens_start (events_of (rows ++ row ∷ [])) (length rows) →
    now.opens ≡ was.opens → now.end ≡ length boxes → HaveChains (rows ++ row ∷ []) (slice_set (boxes ++ made ∷ []) row.chain now)
chains_opens rows boxes made was now row h events grown ev at own_end there top same_opens end_is = record {
  tops = λ k b r e is. tops k b r is (get-push rows row r k e);
  ends = λ b r e start. ends b r start (get-set (boxes ++ made ∷ []) row.chain b now r e);
  ends_there = λ b r e. rw length-set (ends_there b r (get-set (boxes ++ made ∷ []) row.chain b now r e));
  lasts = λ k b r e is. lasts k b r is (get-push rows row r k e);
  lasts_there = λ k b r e is. rw length-set (lasts_there k b r is (get-push rows row r k e));
}
  where
    now_es : List Event
    now_es = events_of (rows ++ row ∷ [])

    m : length (events_of rows) ≡ length rows
    m = size rows

    wide : length (boxes ++ made ∷ []) ≡ length boxes + 1
    wide = rw length-append refl

    starts : (k : ℕ) → k ≤ length rows → opens_start (events_of (rows ++ row ∷ [])) k ≡ opens_start (events_of rows) k
    starts k low = let n = size rows in ap (λ (l : List Event). opens_start l k) (more rows row) ∙ start_push (events_of rows) row.event k (omega arith)

    here : slice_get (events_of (rows ++ row ∷ [])) (length rows) ≡ Some (Opens (length boxes))
    here = ap (slice_get (events_of (rows ++ row ∷ []))) (sym (size rows)) ∙ ap (λ (l : List Event). slice_get l (length (events_of rows))) (more rows row) ∙ get-end (events_of rows) row.event ∙ ap (λ (e : Event). Some e) ev

    opened : (k c : ℕ) (t : BoxRow) → slice_get (boxes ++ made ∷ []) c ≡ Some t → t.opens ≡ opens_start (events_of (rows ++ row ∷ [])) k →
        ((z : BoxRow) × (slice_get (slice_set (boxes ++ made ∷ []) row.chain now) c ≡ Some z) × (((c ≡ row.chain) × (z ≡ now)) ⊎ ((c ≡ row.chain → ⊥) × (z ≡ t)))) →
        (z : BoxRow) × (slice_get (slice_set (boxes ++ made ∷ []) row.chain now) c ≡ Some z) × (z.opens ≡ opens_start (events_of (rows ++ row ∷ [])) k)
    opened k c t g is (z, found, inl (this, z_is)) =
        let t_is : t ≡ was = (let p : Some t ≡ Some was = sym g ∙ ap (slice_get (boxes ++ made ∷ [])) this ∙ there in cc) in
        (z, found, ap (λ (q : BoxRow). q.opens) z_is ∙ same_opens ∙ ap (λ (q : BoxRow). q.opens) (sym t_is) ∙ is)
    opened k c t g is (z, found, inr (other, z_is)) = (z, found, ap (λ (q : BoxRow). q.opens) z_is ∙ is)

    tops : (k b : ℕ) (r : Row) → r.event ≡ Opens b → ((k ≡ length rows) × (r ≡ row)) ⊎ (slice_get rows k ≡ Some r) →
        (z : BoxRow) × (slice_get (slice_set (boxes ++ made ∷ []) row.chain now) r.chain ≡ Some z) × (z.opens ≡ opens_start (events_of (rows ++ row ∷ [])) k)
    tops k b r is (inl (place, same)) =
        let c : r.chain ≡ row.chain = ap (λ (q : Row). q.chain) same in
        opened k r.chain was (ap (slice_get (boxes ++ made ∷ [])) c ∙ there) (top ∙ ap (opens_start (events_of (rows ++ row ∷ []))) (sym place))
        (set-get (boxes ++ made ∷ []) row.chain r.chain now was (ap (slice_get (boxes ++ made ∷ [])) c ∙ there))
    tops k b r is (inr old) =
        let w = slice_get_within rows k r old in
        let t = h.tops k b r old is in
        let kept = get-keep boxes (made ∷ []) r.chain t.0 t.1 in
        opened k r.chain t.0 kept (t.2 ∙ sym (starts k (omega arith))) (set-get (boxes ++ made ∷ []) row.chain r.chain now t.0 kept)

    -- the chain that the new box ends
    ended : first_child_end (events_of (rows ++ row ∷ [])) (opens_start (events_of (rows ++ row ∷ [])) (length rows)) ≡ Some (length boxes)
    ended = start_end (events_of (rows ++ row ∷ [])) (length rows) (length boxes) here
        ∙ ap (λ (l : List Event). first_child_end l (length rows)) (more rows row)
        ∙ ap (λ (e : Event). first_child_end (events_of rows ++ e ∷ []) (length rows)) ev
        ∙ ap (first_child_end (events_of rows ++ Opens (length boxes) ∷ [])) (sym (size rows))
        ∙ opens_last (events_of rows) (length boxes)

    -- two boxes that open at one event are one box
    one_box : (b c : ℕ) (r q : BoxRow) → slice_get (boxes ++ made ∷ []) b ≡ Some r → slice_get (boxes ++ made ∷ []) c ≡ Some q → r.opens ≡ q.opens → b ≡ c
    one_box b c r q rb qc same =
        let p : Some (Opens b) ≡ Some (Opens c) = sym (grown.opens b r rb) ∙ ap (slice_get (events_of (rows ++ row ∷ []))) same ∙ grown.opens c q qc in cc

    ends : (b : ℕ) (r : BoxRow) → opens_start (events_of (rows ++ row ∷ [])) r.opens ≡ r.opens → ((o : BoxRow) × (slice_get (boxes ++ made ∷ []) b ≡ Some o) × (((b ≡ row.chain) × (r ≡ now)) ⊎ ((b ≡ row.chain → ⊥) × (r ≡ o)))) →
        first_child_end (events_of (rows ++ row ∷ [])) r.opens ≡ Some r.end
    ends b r start (o, g, inl (this, is)) =
        ap (first_child_end (events_of (rows ++ row ∷ []))) (ap (λ (q : BoxRow). q.opens) is ∙ same_opens ∙ top) ∙ ended ∙ ap (λ (x : ℕ). Some x) (sym (ap (λ (q : BoxRow). q.end) is ∙ end_is))
    ends b r start (o, g, inr (other, is)) = split (get-push boxes made o b g)
      where
        opens_is : r.opens ≡ o.opens
        opens_is = ap (λ (q : BoxRow). q.opens) is

        begins : opens_start (events_of (rows ++ row ∷ [])) o.opens ≡ o.opens
        begins = ap (opens_start (events_of (rows ++ row ∷ []))) (sym opens_is) ∙ start ∙ opens_is

        kept : slice_get boxes b ≡ Some o → o.opens < length rows → first_child_end (events_of (rows ++ row ∷ [])) o.opens ≡ first_child_end (events_of rows) o.opens
        kept old low = cases (cases_lt o.opens (opens_start (events_of rows) (length rows)))
          where
            cases : (o.opens < opens_start (events_of rows) (length rows)) ⊎ (opens_start (events_of rows) (length rows) ≤ o.opens) → first_child_end (events_of (rows ++ row ∷ [])) o.opens ≡ first_child_end (events_of rows) o.opens
            cases (inl less) = stops (opens_start (events_of rows) (length rows)) refl less
              where
                stops : (s : ℕ) → opens_start (events_of rows) (length rows) ≡ s → o.opens < s → first_child_end (events_of (rows ++ row ∷ [])) o.opens ≡ first_child_end (events_of rows) o.opens
                stops zero s_is below = absurd (omega arith)
                stops (suc j) s_is below =
                    let high = start_low (events_of rows) (length rows) in
                    let n = size rows in
                    ap (λ (l : List Event). first_child_end l o.opens) (more rows row)
                    ∙ ap (last_from None) (opens_stay (events_of rows) (row.event ∷ []) j o.opens (omega arith) (omega arith) (start_stops (events_of rows) (length rows) j (sym s_is)))
            cases (inr more_than) =
                let s = start_same (events_of rows) (length rows) o.opens more_than (omega arith) in
                let o_start : o.opens ≡ was.opens = sym begins ∙ starts o.opens (omega arith) ∙ s ∙ sym (starts (length rows) (omega arith)) ∙ sym top in
                absurd (other (one_box b row.chain o was g there o_start))

        split : ((b ≡ length boxes) × (o ≡ made)) ⊎ (slice_get boxes b ≡ Some o) → first_child_end (events_of (rows ++ row ∷ [])) r.opens ≡ Some r.end
        split (inl (new, o_is)) =
            let o_opens : o.opens ≡ length rows = ap (λ (q : BoxRow). q.opens) o_is ∙ at in
            let o_start : o.opens ≡ was.opens = sym begins ∙ ap (opens_start (events_of (rows ++ row ∷ []))) o_opens ∙ sym top in
            absurd (other (one_box b row.chain o was g there o_start))
        split (inr old) =
            let w = slice_get_within (events_of rows) o.opens (Opens b) (events.opens b o old) in
            let n = size rows in
            ap (first_child_end (events_of (rows ++ row ∷ []))) opens_is ∙ kept old (omega arith)
            ∙ h.ends b o old (sym (starts o.opens (omega arith)) ∙ begins) ∙ ap (λ (q : BoxRow). Some q.end) (sym is)

    ends_there : (b : ℕ) (r : BoxRow) → ((o : BoxRow) × (slice_get (boxes ++ made ∷ []) b ≡ Some o) × (((b ≡ row.chain) × (r ≡ now)) ⊎ ((b ≡ row.chain → ⊥) × (r ≡ o)))) → r.end < length (boxes ++ made ∷ [])
    ends_there b r (o, g, inl (this, is)) = let e : r.end ≡ length boxes = ap (λ (q : BoxRow). q.end) is ∙ end_is in let w = wide in omega arith
    ends_there b r (o, g, inr (other, is)) = split (get-push boxes made o b g)
      where
        split : ((b ≡ length boxes) × (o ≡ made)) ⊎ (slice_get boxes b ≡ Some o) → r.end < length (boxes ++ made ∷ [])
        split (inl (new, o_is)) = let e : r.end ≡ length boxes = ap (λ (q : BoxRow). q.end) (is ∙ o_is) ∙ own_end in let w = wide in omega arith
        split (inr old) = let low = h.ends_there b o old in let e : r.end ≡ o.end = ap (λ (q : BoxRow). q.end) is in let w = wide in omega arith

    lasts : (k b : ℕ) (r : Row) → r.event ≡ Closes b → ((k ≡ length rows) × (r ≡ row)) ⊎ (slice_get rows k ≡ Some r) → last_child_end (events_of (rows ++ row ∷ [])) k ≡ Some r.chain
    lasts k b r is (inl (place, same)) = let p : Opens (length boxes) ≡ Closes b = sym ev ∙ ap (λ (q : Row). q.event) (sym same) ∙ is in absurd (cc)
    lasts k b r is (inr old) =
        let w = slice_get_within rows k r old in
        let n = size rows in
        ap (λ (x : List Event). last_child_end x k) (more rows row) ∙ ap first_of (closes_push (events_of rows) row.event (suc k) (omega arith)) ∙ h.lasts k b r old is

    lasts_there : (k b : ℕ) (r : Row) → r.event ≡ Closes b → ((k ≡ length rows) × (r ≡ row)) ⊎ (slice_get rows k ≡ Some r) → r.chain < length (boxes ++ made ∷ [])
    lasts_there k b r is (inl (place, same)) = let p : Opens (length boxes) ≡ Closes b = sym ev ∙ ap (λ (q : Row). q.event) (sym same) ∙ is in absurd (cc)
    lasts_there k b r is (inr old) = let low = h.lasts_there k b r old is in let w = wide in omega arith

-- what is read of a box that opens: the end of its first-child chain
pub end_read : (rows : List Row) (boxes : List BoxRow) (k b : ℕ) (row : Row) (top : BoxRow) → HaveChains rows boxes → slice_get rows k ≡ Some row → row.event ≡ Opens b → slice_get boxes row.chain ≡ Some top →
    (Some top.end ≡ first_child_end (events_of rows) k) × (top.end < length boxes)
end_read rows boxes k b row top h at ev there =
    let t = h.tops k b row at ev in
    let same : t.0 ≡ top = (let p : Some t.0 ≡ Some top = sym t.1 ∙ there in cc) in
    let opens : top.opens ≡ opens_start (events_of rows) k = ap (λ (r : BoxRow). r.opens) (sym same) ∙ t.2 in
    let begins : opens_start (events_of rows) top.opens ≡ top.opens = ap (opens_start (events_of rows)) opens ∙ start_same (events_of rows) k (opens_start (events_of rows) k) (omega arith) (start_low (events_of rows) k) ∙ sym opens in
    let event : slice_get (events_of rows) k ≡ Some (Opens b) = event_at rows k row at ∙ ap (λ (e : Event). Some e) ev in
    (sym (sym (start_end (events_of rows) k b event) ∙ ap (first_child_end (events_of rows)) (sym opens) ∙ h.ends row.chain top there begins), h.ends_there row.chain top there)

-- another event begins no chain
pub no_chain : (rows : List Row) (k : ℕ) (row : Row) (e : Event) → slice_get rows k ≡ Some row → row.event ≡ e → is_opening (Some e) ≡ false → None ≡ first_child_end (events_of rows) k
no_chain rows k row (Opens b) at ev other = absurd (cc)
no_chain rows k row (Closes b) at ev other = sym (ap (λ (l : List Event). last_from None (opens_from l)) (drop_there (events_of rows) k (Closes b) (event_at rows k row at ∙ ap (λ (e : Event). Some e) ev)))
no_chain rows k row (Leaf l) at ev other = sym (ap (λ (l : List Event). last_from None (opens_from l)) (drop_there (events_of rows) k (Leaf l) (event_at rows k row at ∙ ap (λ (e : Event). Some e) ev)))
