-- What is kept of the solids that are read, with one solid more.
use Rattle.std.proofs.Common.{◌≡◌, ℕ, suc, ◌<◌, ◌≤◌, ◌^◌, ◌⊎◌, inl, inr, ℤ, pos, ◌≤ℤ◌, ◌<ℤ◌, ◌+ℤ◌, ◌||◌, Bool, true, false, cond, max, List, [], ◌∷◌, ◌++◌, All, length, refl, sym, ap, ◌∙◌, subst, arith}
use Rattle.std.specs.Int.{int_max}
use Rattle.std.proofs.lemmas.Int.{clamps, ints}
use Rattle.std.proofs.lemmas.List.{length-map, map-append}
use Rattle.std.proofs.lemmas.List.Elements.{All-push}
use Rattle.bk_num.specs.Limits.{most_entries}
use Rattle.bk_num.proofs.ListLemmas.{length-more}
use Rattle.notes.specs.declared.solid.NoteSolid.{NoteSolid}
use Rattle.notes.specs.Notes.{IsCarryCount, IsSmallNote, area_of, last_begin, must_of, note_bottom, note_extent}
use Rattle.notes.proofs.NoteLemmas.{IsReach, area_prefix, area_some, must_within}
use Rattle.note_list.specs.Lists.{note_rows}
use Rattle.note_list.specs.Reads.{HasReached, IsReadFor, IsReadOf, IsReady, has_begin}
use Rattle.note_list.specs.declared.list.NoteList.{NoteList}
use Rattle.notes.specs.declared.reach.Reach.{Reach}
use Rattle.cuts.proofs.ReachLemmas.{area_least}
use Rattle.note_list.specs.declared.solid.NotedSolid.{NotedSolid}
use Rattle.note_list.proofs.RowLemmas.{area_high, bottom_next, carry_prefix, extent_next, must_kept, must_next, need_past, need_told, reach_of}

-- the bounds of what is read
pub ready_reach : (l : NoteList) → IsReady l → IsReach (note_rows l.solids.items) (length l.solids.items) l.reach.bottom l.reach.extent
ready_reach l r =
    let rows : List NoteSolid = note_rows l.solids.items in
    let n : ℕ = length l.solids.items in
    let count : length rows ≡ n = length-map l.solids.items (λ s. s.row) in
    subst (λ (b : ℤ). IsReach rows n b l.reach.extent) (sym r.reached.bottom) (subst (λ (e : ℤ). IsReach rows n (note_bottom rows n) e) (sym r.reached.extent) (reach_of rows n (omega arith) r.small))

-- the area of all that is read
pub area_all : (l : NoteList) → IsReady l → 0 < length l.solids.items → pos 512 +ℤ l.reach.extent ≡ area_of (note_rows l.solids.items) (length l.solids.items)
area_all l r some = ap (λ (e : ℤ). pos 512 +ℤ e) r.reached.extent ∙ sym (area_some (note_rows l.solids.items) (length l.solids.items) some)

module _ (old : NoteList) (s : NotedSolid) (r : IsReady old) where
  abbrev xs : List NotedSolid
  xs = old.solids.items

  abbrev rows : List NoteSolid
  rows = note_rows xs

  abbrev more : List NotedSolid
  more = xs ++ s ∷ []

  count : length rows ≡ length xs
  count = length-map xs (λ x. x.row)

  rows_are : note_rows more ≡ rows ++ s.row ∷ []
  rows_are = map-append (λ (x : NotedSolid). x.row) xs (s ∷ [])

  at_end : (f : List NoteSolid → ℕ → ℤ) → f (note_rows more) (length more) ≡ f (rows ++ s.row ∷ []) (suc (length rows))
  at_end f = ap (λ (rs : List NoteSolid). f rs (length more)) rows_are ∙ ap (f (rows ++ s.row ∷ [])) (length-more xs s ∙ ap suc (sym count))

  at_all : (f : List NoteSolid → ℕ → ℤ) → f rows (length xs) ≡ f rows (length rows)
  at_all f = ap (f rows) (sym count)

  reached_more : (new : Reach) → new.bottom ≡ (old.reach.bottom +ℤ s.row.gap) +ℤ s.row.height → new.extent ≡ int_max old.reach.extent new.bottom → HasReached more new
  reached_more new b e =
      let bottom : new.bottom ≡ (note_bottom rows (length rows) +ℤ s.row.gap) +ℤ s.row.height = b ∙ ap (λ (z : ℤ). (z +ℤ s.row.gap) +ℤ s.row.height) (r.reached.bottom ∙ at_all note_bottom) in
      record {
        bottom = bottom ∙ sym (bottom_next rows s.row) ∙ sym (at_end note_bottom);
        extent = e ∙ ap (λ (z : ℤ). int_max z new.bottom) (r.reached.extent ∙ at_all note_extent) ∙ ap (int_max (note_extent rows (length rows))) bottom ∙ sym (extent_next rows s.row) ∙ sym (at_end note_extent);
      }

  prefix_area : (n : ℕ) → n ≤ length xs → area_of (note_rows more) n ≡ area_of rows n
  prefix_area n low = ap (λ (rs : List NoteSolid). area_of rs n) rows_are ∙ area_prefix rows (s.row ∷ []) n (let c = count in omega arith)

  area_more : (new : Reach) → HasReached more new → pos 512 +ℤ new.extent ≡ area_of (note_rows more) (suc (length rows))
  area_more new h =
      let last : length more ≡ suc (length rows) = length-more xs s ∙ ap suc (sym count) in
      ap (λ (e : ℤ). pos 512 +ℤ e) h.extent ∙ ap (λ (n : ℕ). pos 512 +ℤ note_extent (note_rows more) n) last ∙ sym (area_some (note_rows more) (suc (length rows)) (omega arith))

  needed_more : (new : Reach) (needed : ℤ) → HasReached more new → (b : Bool) → s.row.begins ≡ b → (b ≡ true → needed ≡ pos 512 +ℤ new.extent) → (b ≡ false → needed ≡ old.needed) → needed ≡ area_of (note_rows more) (must_of (note_rows more) old.own)
  needed_more new needed h true e all same =
      let c = count in
      let w = r.within in
      all refl ∙ area_more new h ∙ ap (area_of (note_rows more)) (sym (must_next rows s.row old.own e (omega arith)) ∙ ap (λ (rs : List NoteSolid). must_of rs old.own) (sym rows_are))
  needed_more new needed h false e all same =
      let c = count in
      let w = r.within in
      let within = must_within rows old.own (omega arith) in
      same refl ∙ r.needed_is ∙ sym (prefix_area (must_of rows old.own) (omega arith)) ∙ ap (area_of (note_rows more)) (sym (must_kept rows s.row old.own e) ∙ ap (λ (rs : List NoteSolid). must_of rs old.own) (sym rows_are))

  ready_by : (new : NoteList) → new.solids.items ≡ more → IsSmallNote s.row → length xs < most_entries → HasReached more new.reach → new.own ≡ old.own → new.own_area ≡ old.own_area → new.needed ≡ area_of (note_rows more) (must_of (note_rows more) old.own) → IsReady new
  ready_by new items small few reached own own_area needed =
      let len = length-more xs s in
      let w = r.within in
      record {
        few = subst (λ (ys : List NotedSolid). length ys ≤ most_entries) (sym items) (omega arith);
        small = subst (λ (ys : List NotedSolid). All IsSmallNote (note_rows ys)) (sym items) (subst (All IsSmallNote) (sym rows_are) (All-push IsSmallNote rows s.row r.small small));
        reached = subst (λ (ys : List NotedSolid). HasReached ys new.reach) (sym items) reached;
        within = subst (λ (ys : List NotedSolid). new.own ≤ length ys) (sym items) (omega arith);
        own_is = subst (λ (ys : List NotedSolid). new.own_area ≡ area_of (note_rows ys) new.own) (sym items) (own_area ∙ r.own_is ∙ sym (prefix_area old.own w) ∙ ap (area_of (note_rows more)) (sym own));
        needed_is = subst (λ (ys : List NotedSolid). new.needed ≡ area_of (note_rows ys) (must_of (note_rows ys) new.own)) (sym items) (needed ∙ ap (λ (k : ℕ). area_of (note_rows more) (must_of (note_rows more) k)) (sym own));
      }

-- one solid more
pub ready_more : (old new : NoteList) (s : NotedSolid) → IsReady old → IsSmallNote s.row → length old.solids.items < most_entries → new.solids.items ≡ old.solids.items ++ s ∷ [] → new.reach.bottom ≡ (old.reach.bottom +ℤ s.row.gap) +ℤ s.row.height → new.reach.extent ≡ int_max old.reach.extent new.reach.bottom → new.own ≡ old.own → new.own_area ≡ old.own_area
    → (s.row.begins ≡ true → new.needed ≡ pos 512 +ℤ new.reach.extent) → (s.row.begins ≡ false → new.needed ≡ old.needed) → IsReady new
ready_more old new s r small few items bottom extent own own_area all same =
    let reached = reached_more old s r new.reach bottom extent in
    ready_by old s r new items small few reached own own_area (needed_more old s r new.reach new.needed reached s.row.begins refl all same)

-- bounds of what is read with one solid more
pub reach_low : (old : NoteList) (s : NotedSolid) (bottom extent : ℤ) → IsReady old → bottom ≡ (old.reach.bottom +ℤ s.row.gap) +ℤ s.row.height → extent ≡ int_max old.reach.extent bottom → pos 0 ≤ℤ extent
reach_low old s bottom extent r b e = let least = (ready_reach old r).least in omega (arith, ints, clamps)

pub reach_high : (old : NoteList) (s : NotedSolid) (bottom extent : ℤ) → IsReady old → IsSmallNote s.row → length old.solids.items < most_entries → bottom ≡ (old.reach.bottom +ℤ s.row.gap) +ℤ s.row.height → extent ≡ int_max old.reach.extent bottom → extent ≤ℤ pos (2 ^ 59)
reach_high old s bottom extent r small few b e =
    let reach = ready_reach old r in
    let high = reach.high in
    let most = reach.most in
    let gap = small.gap in
    let height = small.height in
    let some = small.some in
    omega (arith, ints, clamps)

-- the area of what is read with one solid more
pub area_next : (old : NoteList) (s : NotedSolid) (items : List NotedSolid) (bottom extent : ℤ) → IsReady old → items ≡ old.solids.items ++ s ∷ [] → bottom ≡ (old.reach.bottom +ℤ s.row.gap) +ℤ s.row.height → extent ≡ int_max old.reach.extent bottom → pos 512 +ℤ extent ≡ area_of (note_rows items) (length items)
area_next old s items bottom extent r e b x =
    let reached = reached_more old s r (record { bottom = bottom; extent = extent }) b x in
    let last : length (old.solids.items ++ s ∷ []) ≡ suc (length (note_rows old.solids.items)) = length-more old.solids.items s ∙ ap suc (sym (count old s r)) in
    subst (λ (ys : List NotedSolid). pos 512 +ℤ extent ≡ area_of (note_rows ys) (length ys)) (sym e) (area_more old s r (record { bottom = bottom; extent = extent }) reached ∙ ap (area_of (note_rows (old.solids.items ++ s ∷ []))) (sym last))

-- areas that are kept are within 2^60
pub needed_small : (l : NoteList) → IsReady l → (pos 0 ≤ℤ l.needed) × (l.needed ≤ℤ pos (2 ^ 60))
needed_small l r =
    let rows = note_rows l.solids.items in
    let n : length rows ≡ length l.solids.items = length-map l.solids.items (λ x. x.row) in
    let w = r.within in
    let within = must_within rows l.own (omega arith) in
    let few = r.few in
    (subst (λ (z : ℤ). pos 0 ≤ℤ z) (sym r.needed_is) (area_least rows (must_of rows l.own)), subst (λ (z : ℤ). z ≤ℤ pos (2 ^ 60)) (sym r.needed_is) (area_high rows (must_of rows l.own) within (omega arith) r.small))

pub own_small : (l : NoteList) → IsReady l → (pos 0 ≤ℤ l.own_area) × (l.own_area ≤ℤ pos (2 ^ 60))
own_small l r =
    let rows = note_rows l.solids.items in
    let n : length rows ≡ length l.solids.items = length-map l.solids.items (λ x. x.row) in
    let w = r.within in
    let few = r.few in
    (subst (λ (z : ℤ). pos 0 ≤ℤ z) (sym r.own_is) (area_least rows l.own), subst (λ (z : ℤ). z ≤ℤ pos (2 ^ 60)) (sym r.own_is) (area_high rows l.own (omega arith) (omega arith) r.small))

-- ---- what is told of a list

pub rows_more : (xs more : List NotedSolid) → note_rows (xs ++ more) ≡ note_rows xs ++ note_rows more
rows_more xs more = map-append (λ (x : NotedSolid). x.row) xs more

begin_of : (n : ℕ) (more : List NotedSolid) (b : Bool) → has_begin more ≡ b → ((b ≡ true) × (n < last_begin n (note_rows more))) ⊎ ((b ≡ false) × (last_begin n (note_rows more) ≡ 0))
begin_of n [] b e = inr (sym e, refl)
begin_of n (s ∷ more) b e = by s.row.begins refl (begin_of (suc n) more (has_begin more) refl)
  where
    by : (a : Bool) → s.row.begins ≡ a → ((has_begin more ≡ true) × (suc n < last_begin (suc n) (note_rows more))) ⊎ ((has_begin more ≡ false) × (last_begin (suc n) (note_rows more) ≡ 0)) → ((b ≡ true) × (n < last_begin n (note_rows (s ∷ more)))) ⊎ ((b ≡ false) × (last_begin n (note_rows (s ∷ more)) ≡ 0))
    by true f rest =
        let own : last_begin n (note_rows (s ∷ more)) ≡ max (suc n) (last_begin (suc n) (note_rows more)) = ap (λ (x : Bool). max (cond x (suc n) 0) (last_begin (suc n) (note_rows more))) f in
        inl (sym e ∙ ap (λ (x : Bool). x || has_begin more) f, omega arith)
    by false f (inl h) =
        let own : last_begin n (note_rows (s ∷ more)) ≡ max 0 (last_begin (suc n) (note_rows more)) = ap (λ (x : Bool). max (cond x (suc n) 0) (last_begin (suc n) (note_rows more))) f in
        let l = h.1 in
        inl (sym e ∙ ap (λ (x : Bool). x || has_begin more) f ∙ h.0, omega arith)
    by false f (inr h) =
        let own : last_begin n (note_rows (s ∷ more)) ≡ max 0 (last_begin (suc n) (note_rows more)) = ap (λ (x : Bool). max (cond x (suc n) 0) (last_begin (suc n) (note_rows more))) f in
        let l = h.1 in
        inr (sym e ∙ ap (λ (x : Bool). x || has_begin more) f ∙ h.0, omega arith)

module _ (l : NoteList) (r : IsReady l) (height : ℤ) (list : List NotedSolid) (of : IsReadOf height list l) where
  abbrev read : List NoteSolid
  read = note_rows l.solids.items

  abbrev later : List NoteSolid
  later = note_rows of.more

  all_rows : note_rows list ≡ read ++ later
  all_rows = ap (λ (xs : List NotedSolid). note_rows xs) of.is ∙ rows_more l.solids.items of.more

  counted : length read ≡ length l.solids.items
  counted = length-map l.solids.items (λ x. x.row)

  -- the area of the carried solids that have to stand
  pub own_told : l.own_area ≡ area_of (note_rows list) l.own
  own_told = r.own_is ∙ sym (area_prefix read later l.own (let c = counted in let w = r.within in omega arith)) ∙ ap (λ (rs : List NoteSolid). area_of rs l.own) (sym all_rows)

  past_of : (b : Bool) → l.over ≡ b → l.begun ≡ true → height <ℤ area_of read (length l.solids.items)
  past_of true e h = of.past e
  past_of false e h = absurd (let none : has_begin of.more ≡ has_begin [] = ap has_begin (of.all e) in let f : true ≡ false = sym h ∙ of.begun ∙ none in cc)

  -- and of all that have to, where no note begins after those that are read
  pub needed_told : l.begun ≡ false → l.needed ≡ area_of (note_rows list) (must_of (note_rows list) l.own)
  needed_told e = by (begin_of (length read) of.more (has_begin of.more) refl)
    where
      by : ((has_begin of.more ≡ true) × (length read < last_begin (length read) later)) ⊎ ((has_begin of.more ≡ false) × (last_begin (length read) later ≡ 0)) → l.needed ≡ area_of (note_rows list) (must_of (note_rows list) l.own)
      by (inl h) = absurd (let f : true ≡ false = sym h.0 ∙ sym of.begun ∙ e in cc)
      by (inr h) = r.needed_is ∙ sym (need_told read later l.own (let c = counted in let w = r.within in omega arith) h.1) ∙ ap (λ (rs : List NoteSolid). area_of rs (must_of rs l.own)) (sym all_rows)

  -- or they take more room than there is, as those that are read do
  pub needed_past : l.begun ≡ true → (height <ℤ area_of read (length l.solids.items)) × (height <ℤ area_of (note_rows list) (must_of (note_rows list) l.own))
  needed_past e = (past_of l.over refl e, by (begin_of (length read) of.more (has_begin of.more) refl))
    where
      past : height <ℤ area_of read (length read)
      past = subst (λ (n : ℕ). height <ℤ area_of read n) (sym counted) (past_of l.over refl e)

      by : ((has_begin of.more ≡ true) × (length read < last_begin (length read) later)) ⊎ ((has_begin of.more ≡ false) × (last_begin (length read) later ≡ 0)) → height <ℤ area_of (note_rows list) (must_of (note_rows list) l.own)
      by (inl h) = subst (λ (rs : List NoteSolid). height <ℤ area_of rs (must_of rs l.own)) (sym all_rows) (need_past read later l.own height past h.1)
      by (inr h) = absurd (let f : true ≡ false = sym e ∙ of.begun ∙ h.0 in cc)

-- the count of the carried solids that have to stand, by those that are read
-- so enough is read for each room within the height
pub read_for : (height room : ℤ) (list : List NotedSolid) (l : NoteList) → room ≤ℤ height → IsReadOf height list l → IsReadFor room list l
read_for height room list l low of = record { more = of.more; is = of.is; enough = by l.over refl }
  where
    by : (b : Bool) → l.over ≡ b → (of.more ≡ []) ⊎ (room <ℤ area_of (note_rows l.solids.items) (length l.solids.items))
    by true e = inr (let p = of.past e in omega (arith, ints, low, p))
    by false e = inl (of.all e)

pub counts_told : (l : NoteList) (height : ℤ) (list : List NotedSolid) → pos 0 ≤ℤ height → IsReadOf height list l → IsCarryCount (note_rows l.solids.items) (length l.solids.items) height l.own → IsCarryCount (note_rows list) (length list) height l.own
counts_told l height list low of own = by l.over refl
  where
    count : length (note_rows l.solids.items) ≡ length l.solids.items
    count = length-map l.solids.items (λ x. x.row)

    rows_are : note_rows list ≡ note_rows l.solids.items ++ note_rows of.more
    rows_are = ap (λ (xs : List NotedSolid). note_rows xs) of.is ∙ rows_more l.solids.items of.more

    size : length list ≡ length (note_rows l.solids.items ++ note_rows of.more)
    size = sym (length-map list (λ x. x.row)) ∙ ap (λ (rs : List NoteSolid). length rs) rows_are

    own_rows : IsCarryCount (note_rows l.solids.items) (length (note_rows l.solids.items)) height l.own
    own_rows = subst (λ (n : ℕ). IsCarryCount (note_rows l.solids.items) n height l.own) (sym count) own

    on : (note_rows of.more ≡ []) ⊎ (height <ℤ area_of (note_rows l.solids.items) (length (note_rows l.solids.items))) → IsCarryCount (note_rows list) (length list) height l.own
    on which =
        subst (λ (n : ℕ). IsCarryCount (note_rows list) n height l.own) (sym size)
        (subst (λ (rs : List NoteSolid). IsCarryCount rs (length (note_rows l.solids.items ++ note_rows of.more)) height l.own) (sym rows_are)
        (carry_prefix (note_rows l.solids.items) (note_rows of.more) height l.own low which own_rows))

    by : (b : Bool) → l.over ≡ b → IsCarryCount (note_rows list) (length list) height l.own
    by true e = on (inr (subst (λ (n : ℕ). height <ℤ area_of (note_rows l.solids.items) n) (sym count) (of.past e)))
    by false e = on (inl (ap (λ (xs : List NotedSolid). note_rows xs) (of.all e)))
