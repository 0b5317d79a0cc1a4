-- Solids that are read ahead of a page are its first ones.
use Rattle.std.proofs.Common.{◌≡◌, ℕ, zero, suc, ◌+◌, ◌-◌, ◌<◌, ◌≤◌, ℤ, Bool, cond, eqb, List, [], ◌∷◌, ◌++◌, Some, None, slice_get, length, length-append, length-drop, map, take, drop, ◌⊎◌, inl, inr, refl, sym, ap, ◌∙◌, subst, arith}
use Rattle.std.specs.Option.{option_map}
use Rattle.std.proofs.lemmas.Bool.{cases_lt, eq-eqb}
use Rattle.std.proofs.lemmas.List.{drop_all, drop-map, length-map, length-take-le, map-append, take-append-le, take-map, drop-drop, drop-append-le}
use Rattle.std.proofs.lemmas.Option.{get_or_from_slice_get, slice_get-map, slice_get_within}
use Rattle.std.proofs.lemmas.List.Elements.{All-drop, All-head, All-nil, All-push, All-tail}
use Rattle.bk_num.proofs.ListLemmas.{get-take, get-drop}
use Rattle.boxes.proofs.ListLemmas.{get-end, slice_get_at, take-next}
use Rattle.boxes.specs.Tree.{Tree, Holds, IsTree}
use Rattle.boxes.specs.declared.flow.Note.{Note}
use Rattle.boxes.specs.declared.page.SolidKind.{SolidKind}
use Rattle.boxes.specs.declared.place.Position.{Position}
use Rattle.metrics.specs.Face.{FontFace}
use Rattle.line_fill.specs.Kept.{Asked, HasAsked, HoldsNow}
use Rattle.line_fill.specs.declared.kept.KeptLeaf.{KeptLeaf}
use Rattle.cursor.proofs.AskLemmas.{held_on}
use Rattle.cursor.proofs.RemLemmas.{left_from, solid_falls, stands}
use Rattle.cursor.proofs.WidthLemmas.{self_after}
use Rattle.cursor.specs.Asks.{AsksBy, IsHeldNow, KeepsHeld, asked_at}
use Rattle.cursor.specs.Fields.{solid_view}
use Rattle.cursor.specs.Remainder.{IsContent, IsRemainder, IsSolid, SolidView}
use Rattle.cursor.specs.Remainder.IsContent.{of_line, of_open, of_close}
use Rattle.cursor.specs.declared.solid.Solid.{Solid}
use Rattle.fragment.specs.declared.ahead.JoinedLines.{JoinedLines}
use Rattle.fragment.specs.Ahead.{AreAhead, AreJoinedWithin, Follow, IsAhead, IsPageAhead, IsReadSolid, end_of, page_of, page_views}
use Rattle.cuts.specs.Prefixes.{AreJoined}
use Rattle.cuts.specs.declared.row.SolidRow.{SolidRow}
use Rattle.page_list.specs.Cuts.{row_of, rows_of}
use Rattle.fragment.specs.Reads.{called_by}
use Rattle.fragment.proofs.PlaceLemmas.{called_on}
use Rattle.fragment.specs.declared.ahead.Ahead.{Ahead}

-- ---- a line that is held already is asked for again
asked_again : (a : Asked) (kept : List KeptLeaf) → HoldsNow kept a → HasAsked a kept kept
asked_again a kept now = record { asked = now; keeps = λ b h. h; keeps_now = λ b h. h; only = λ b h. inl h; only_now = λ b h. inl h }

pub asks_again : (faces : List FontFace) (t : Tree) (width : ℤ) (from : Position) (s : SolidView) (kept : List KeptLeaf) (steps : ℕ) → IsSolid faces t width from s → IsHeldNow t width kept s.placed_at → AsksBy s.kind t width s kept kept steps steps
asks_again faces t width from s kept steps is held = by is.content
  where
    as_kind : (k : SolidKind) → s.kind ≡ k → AsksBy k t width s kept kept steps steps → AsksBy s.kind t width s kept kept steps steps
    as_kind k e asks = subst (λ (x : SolidKind). AsksBy x t width s kept kept steps steps) (sym e) asks

    by : IsContent faces t width from s → AsksBy s.kind t width s kept kept steps steps
    by (of_line l) =
        let now = held l.number l.leaf l.names l.has in
        as_kind _ l.kind_is
        (record {
          number = l.number;
          leaf = l.leaf;
          names = l.names;
          has = l.has;
          asked = asked_again (asked_at t width s l.leaf) kept now;
          held = λ h. refl;
          fresh = λ none. absurd (none (now.0, now.1));
        })
    by (of_open b e l) = as_kind _ l.kind_is (refl, refl)
    by (of_close b e l) = as_kind _ l.kind_is (refl, refl)

-- ---- a solid is the first one at its own place
own_offset : (event offset : ℕ) → offset ≡ cond (eqb event event) offset 0
own_offset event offset = sym (ap (λ (b : Bool). cond b offset 0) (eq-eqb event event refl))

own_place : (faces : List FontFace) (t : Tree) (width : ℤ) (from : Position) (s : SolidView) → IsSolid faces t width from s → IsSolid faces t width s.placed_at s
own_place faces t width from s is = record { found = self_after t from.event s.placed_at.event is.found; seam_is = is.seam_is; content = by is.content }
  where
    by : IsContent faces t width from s → IsContent faces t width s.placed_at s
    by (of_line l) = of_line (record {
      number = l.number;
      leaf = l.leaf;
      line_of = l.line_of;
      names = l.names;
      has = l.has;
      begins = own_offset s.placed_at.event s.placed_at.offset;
      fills = l.fills;
      line_is = l.line_is;
      kind_is = l.kind_is;
      ends = l.ends;
      height_is = l.height_is;
      text_is = l.text_is;
    })
    by (of_open b e l) = of_open b e l
    by (of_close b e l) = of_close b e l

-- ---- solids one after the other
follow_at : (faces : List FontFace) (t : Tree) (width : ℤ) (from : Position) (xs : List SolidView) (k : ℕ) (s : SolidView) → Follow faces t width from xs → slice_get xs k ≡ Some s → Follow faces t width s.placed_at (drop k xs)
follow_at faces t width from [] k s r e = absurd (cc)
follow_at faces t width from (x ∷ xs) zero s r e =
    let same : x ≡ s = cc in
    subst (λ (v : SolidView). Follow faces t width v.placed_at (x ∷ xs)) same (r.0, (own_place faces t width from x r.1.0, r.1.1), r.2)
follow_at faces t width from (x ∷ xs) (suc k) s r e = follow_at faces t width r.0 xs k s r.2 e

-- ---- solids that are read ahead
pub ahead_on : (faces : List FontFace) (t : Tree) (width : ℤ) (old new : List KeptLeaf) (from : Position) (xs : List SolidView) → KeepsHeld old new → AreAhead faces t width old from xs → AreAhead faces t width new from xs
ahead_on faces t width old new from xs keeps a = record {
  follow = a.follow;
  are = λ k d h. let s = a.are k d h in record { placed = s.placed; ends = s.ends; small = s.small; held = held_on t width _ old new keeps s.held };
}

-- none are
ahead_none : (faces : List FontFace) (t : Tree) (width : ℤ) (kept : List KeptLeaf) (from : Position) (xs : List SolidView) (k : ℕ) → length xs ≤ k → AreAhead faces t width kept from (drop k xs)
ahead_none faces t width kept from xs k past =
    subst (AreAhead faces t width kept from) (sym (drop_all k xs past)) (record { follow = refl; are = All-nil (IsReadSolid t width kept) })

-- those from a solid on, at its own place
pub ahead_from : (faces : List FontFace) (t : Tree) (width : ℤ) (kept : List KeptLeaf) (from : Position) (xs : List SolidView) (k : ℕ) (s : SolidView) → AreAhead faces t width kept from xs → slice_get xs k ≡ Some s → AreAhead faces t width kept s.placed_at (drop k xs)
ahead_from faces t width kept from xs k s a e = record { follow = follow_at faces t width from xs k s a.follow e; are = All-drop (IsReadSolid t width kept) k xs a.are }

ahead_head : (faces : List FontFace) (t : Tree) (width : ℤ) (kept : List KeptLeaf) (from : Position) (x : SolidView) (xs : List SolidView) → AreAhead faces t width kept from (x ∷ xs) → AreAhead faces t width kept x.end xs
ahead_head faces t width kept from x xs a = record {
  follow = subst (λ (p : Position). Follow faces t width p xs) a.follow.1.1 a.follow.2;
  are = All-tail (IsReadSolid t width kept) x xs a.are;
}

-- ---- where solids end
pub end_is : (from : Position) (xs : List SolidView) (k : ℕ) (s : SolidView) → slice_get xs k ≡ Some s → end_of from xs (suc k) ≡ s.end
end_is from [] k s e = absurd (cc)
end_is from (x ∷ xs) zero s e = let same : x ≡ s = cc in by xs same
  where
    by : (ys : List SolidView) → x ≡ s → end_of from (x ∷ ys) 1 ≡ s.end
    by ys same = ap (λ (v : SolidView). v.end) same
end_is from (x ∷ xs) (suc k) s e = end_is x.end xs k s e

pub end_append : (from : Position) (xs ys : List SolidView) (k : ℕ) → k ≤ length xs → end_of from (xs ++ ys) k ≡ end_of from xs k
end_append from xs ys zero l = refl
end_append from [] ys (suc k) l = absurd (omega arith)
end_append from (x ∷ xs) ys (suc k) l = end_append x.end xs ys k (omega arith)

module _ (faces : List FontFace) (t : Tree) (width : ℤ) (kept : List KeptLeaf) where
  -- at a place of the tree
  pub ends_hold : (from : Position) (xs : List SolidView) (k : ℕ) → Holds t from → AreAhead faces t width kept from xs → k ≤ length xs → Holds t (end_of from xs k)
  ends_hold from xs zero here a l = here
  ends_hold from [] (suc k) here a l = absurd (omega arith)
  ends_hold from (x ∷ xs) (suc k) here a l = ends_hold x.end xs k (All-head (IsReadSolid t width kept) x xs a.are).ends (ahead_head faces t width kept from x xs a) (omega arith)

  -- the solids after the first ones are left from there on
  pub goes_from : (from : Position) (xs : List SolidView) (k : ℕ) (rest : List SolidView) → AreAhead faces t width kept from xs → k ≤ length xs → IsRemainder faces t width (end_of from xs k) rest → IsRemainder faces t width from (take k xs ++ rest)
  goes_from from xs zero rest a l r = subst (λ (ys : List SolidView). IsRemainder faces t width from (ys ++ rest)) (sym (none_first xs)) r
    where
      none_first : (ys : List SolidView) → take 0 ys ≡ []
      none_first [] = refl
      none_first (y ∷ ys) = refl
  goes_from from [] (suc k) rest a l r = absurd (omega arith)
  goes_from from (x ∷ xs) (suc k) rest a l r = (x.end, (a.follow.1.0, refl), goes_from x.end xs k rest (ahead_head faces t width kept from x xs a) (omega arith) r)

  -- the next one
  pub solid_next : (from : Position) (xs : List SolidView) (k : ℕ) (s : SolidView) → AreAhead faces t width kept from xs → slice_get xs k ≡ Some s → IsSolid faces t width (end_of from xs k) s
  solid_next from [] k s a e = absurd (cc)
  solid_next from (x ∷ xs) zero s a e = let same : x ≡ s = cc in subst (IsSolid faces t width from) same a.follow.1.0
  solid_next from (x ∷ xs) (suc k) s a e = solid_next x.end xs k s (ahead_head faces t width kept from x xs a) e

  pub solid_read : (from : Position) (xs : List SolidView) (k : ℕ) (s : SolidView) → AreAhead faces t width kept from xs → slice_get xs k ≡ Some s → IsReadSolid t width kept s
  solid_read from xs k s a e = subst (IsReadSolid t width kept) (get_or_from_slice_get xs k s s e) (a.are k s (slice_get_within xs k s e))

  -- with one more
  pub ahead_push : (from : Position) (xs : List SolidView) (s : SolidView) → AreAhead faces t width kept from xs → IsSolid faces t width (end_of from xs (length xs)) s → IsReadSolid t width kept s → AreAhead faces t width kept from (xs ++ s ∷ [])
  ahead_push from xs s a is read = record { follow = by from xs a.follow is; are = All-push (IsReadSolid t width kept) xs s a.are read }
    where
      by : (p : Position) (ys : List SolidView) → Follow faces t width p ys → IsSolid faces t width (end_of p ys (length ys)) s → Follow faces t width p (ys ++ s ∷ [])
      by p [] f is = (s.end, (is, refl), refl)
      by p (y ∷ ys) f is = (f.0, f.1, subst (λ (q : Position). Follow faces t width q (ys ++ s ∷ [])) (sym f.1.1) (by y.end ys (subst (λ (q : Position). Follow faces t width q ys) f.1.1 f.2) is))

  -- ---- along the solids
  pub falls_along : (from : Position) (xs : List SolidView) (k j : ℕ) → IsTree t → Holds t from → AreAhead faces t width kept from xs → k ≤ j → j ≤ length xs → left_from t (end_of from xs j) ≤ left_from t (end_of from xs k)
  falls_along from xs zero zero tree here a h l = omega arith
  falls_along from [] zero (suc j) tree here a h l = absurd (omega arith)
  falls_along from (x ∷ xs) zero (suc j) tree here a h l =
      let ends = (All-head (IsReadSolid t width kept) x xs a.are).ends in
      let rest = falls_along x.end xs zero j tree ends (ahead_head faces t width kept from x xs a) (omega arith) (omega arith) in
      let first = solid_falls faces t width from x tree (stands t from here) a.follow.1.0 in
      omega (arith, rest, first)
  falls_along from xs (suc k) zero tree here a h l = absurd (omega arith)
  falls_along from [] (suc k) (suc j) tree here a h l = absurd (omega arith)
  falls_along from (x ∷ xs) (suc k) (suc j) tree here a h l = falls_along x.end xs k j tree (All-head (IsReadSolid t width kept) x xs a.are).ends (ahead_head faces t width kept from x xs a) (omega arith) (omega arith)

  -- no fewer notes are called
  pub calls_along : (from : Position) (xs : List SolidView) (k j called : ℕ) (notes : List Note) → IsTree t → Holds t from → AreAhead faces t width kept from xs → k ≤ j → j ≤ length xs → called ≤ called_by t notes (end_of from xs k) → called ≤ called_by t notes (end_of from xs j)
  calls_along from xs zero zero called notes tree here a h l low = low
  calls_along from [] zero (suc j) called notes tree here a h l low = absurd (omega arith)
  calls_along from (x ∷ xs) zero (suc j) called notes tree here a h l low =
      let ends = (All-head (IsReadSolid t width kept) x xs a.are).ends in
      let on = called_on faces t width from x tree (stands t from here) a.follow.1.0 notes in
      calls_along x.end xs zero j called notes tree ends (ahead_head faces t width kept from x xs a) (omega arith) (omega arith) (omega (arith, on, low))
  calls_along from xs (suc k) zero called notes tree here a h l low = absurd (omega arith)
  calls_along from [] (suc k) (suc j) called notes tree here a h l low = absurd (omega arith)
  calls_along from (x ∷ xs) (suc k) (suc j) called notes tree here a h l low = calls_along x.end xs k j called notes tree (All-head (IsReadSolid t width kept) x xs a.are).ends (ahead_head faces t width kept from x xs a) (omega arith) (omega arith) low

-- ---- the first ones
pub take_more : {X : Type 0} (xs : List X) (k m n : ℕ) → n ≡ k + m → take n xs ≡ take k xs ++ take m (drop k xs)
take_more xs zero m n e = ap (λ (i : ℕ). take i xs) (let f : n ≡ m = omega (arith, e) in f) ∙ ap (λ ys. ys ++ take m xs) (sym (none_first xs))
  where
    none_first : {X : Type 0} (ys : List X) → take 0 ys ≡ []
    none_first [] = refl
    none_first (y ∷ ys) = refl
take_more xs (suc k) m zero e = absurd (omega arith)
take_more [] (suc k) zero (suc n) e = refl
take_more [] (suc k) (suc m) (suc n) e = refl
take_more {X} (y ∷ ys) (suc k) m (suc n) e = ap (λ (zs : List X). y ∷ zs) (take_more ys k m n (omega (arith, e)))

-- ---- from page to page
pub page_on : (faces : List FontFace) (t : Tree) (width : ℤ) (old new : List KeptLeaf) (from : Position) (a : Ahead) → KeepsHeld old new → IsPageAhead faces t width old from a → IsPageAhead faces t width new from a
page_on faces t width old new from a keeps is = record { wide = is.wide; within = is.within; are = ahead_on faces t width old new from (page_of a) keeps is.are; rows = is.rows; joined = is.joined }

pub stays_ahead : (faces : List FontFace) (t : Tree) (old new : List KeptLeaf) (a : Ahead) → KeepsHeld old new → IsAhead faces t old a → IsAhead faces t new a
stays_ahead faces t old new a keeps is = (is.0, page_on faces t a.width old new is.0 a keeps is.1)

-- ---- what a cut reads of a page's solids
-- lines that go on with their leaf, behind the first solids of a page
pub record IsPassed (t : Tree) (a : Ahead) (k m : ℕ) : Type 0 where
  pub more : List SolidView
  pub split : page_views a (k + m) ≡ page_views a k ++ more
  pub size : length more ≡ m
  pub joined : AreJoined (rows_of t more)
  pub within : k + m ≤ length (page_of a)

-- of some rows those from a number on are known to go on with their leaf
pub joined_rest : (joined : JoinedLines) (rows : List SolidRow) (first count from : ℕ) → AreJoinedWithin joined rows → first + count ≤ joined.to → joined.from ≤ first + from → AreJoined (drop from (take count (drop first rows)))
joined_rest joined rows first count from is far low k r e =
    let there = get-take (drop first rows) count (from + k) r (sym (get-drop (take count (drop first rows)) from k) ∙ e) in
    let inside = there.0 in
    is.are (first + (from + k)) r (omega (arith, low)) (omega (arith, far, inside)) (sym (get-drop rows first (from + k)) ∙ there.1)

-- behind the last one there is none
pub joined_none : (xs : List SolidRow) (count : ℕ) → AreJoined (drop count (take count xs))
joined_none xs count k r e =
    let there = get-take xs count (count + k) r (sym (get-drop (take count xs) count k) ∙ e) in
    let inside = there.0 in
    absurd (omega (arith, inside))

pub page_size : (a : Ahead) → length (page_of a) ≡ length a.solids.items - a.first
page_size a = length-drop a.first (map solid_view a.solids.items) ∙ ap (λ (n : ℕ). n - a.first) (length-map a.solids.items solid_view)

pub page_views_are : (a : Ahead) (k : ℕ) → map solid_view (take k (drop a.first a.solids.items)) ≡ page_views a k
page_views_are a k = sym (take-map solid_view k (drop a.first a.solids.items)) ∙ ap (take k) (sym (drop-map solid_view a.first a.solids.items))

module _ (faces : List FontFace) (t : Tree) (width : ℤ) (kept : List KeptLeaf) (from : Position) (a : Ahead) (is : IsPageAhead faces t width kept from a) where
  pub rows_size : length a.rows.items ≡ length a.solids.items
  rows_size = ap (λ (rs : List SolidRow). length rs) is.rows ∙ length-map (map solid_view a.solids.items) (row_of t) ∙ length-map a.solids.items solid_view

  pub page_row : (k : ℕ) (s : SolidView) (r : SolidRow) → slice_get (page_of a) k ≡ Some s → slice_get a.rows.items (a.first + k) ≡ Some r → r ≡ row_of t s
  page_row k s r e there =
      let at : slice_get (map solid_view a.solids.items) (a.first + k) ≡ Some s = sym (get-drop (map solid_view a.solids.items) a.first k) ∙ e in
      let row : slice_get a.rows.items (a.first + k) ≡ Some (row_of t s) = ap (λ (rs : List SolidRow). slice_get rs (a.first + k)) is.rows ∙ slice_get-map (row_of t) (map solid_view a.solids.items) (a.first + k) ∙ ap (option_map (row_of t)) at in
      let same : Some r ≡ Some (row_of t s) = sym there ∙ row in cc

  pub page_rows_are : (k : ℕ) → take k (drop a.first a.rows.items) ≡ rows_of t (page_views a k)
  page_rows_are k = ap (λ (rs : List SolidRow). take k (drop a.first rs)) is.rows ∙ ap (take k) (drop-map (row_of t) a.first (map solid_view a.solids.items)) ∙ take-map (row_of t) k (page_of a)

  pub passed_is : (k n m : ℕ) → (a.first + k) + n ≤ length a.rows.items → m ≤ n → ((i : ℕ) → i ≤ n → AreJoined (take i (drop (a.first + k) a.rows.items))) → IsPassed t a k m
  passed_is k n m room few joined =
      let size = page_size a in
      let rows = rows_size in
      let within = is.within in
      let left = length-drop k (page_of a) in
      record {
        more = take m (drop k (page_of a));
        split = take_more (page_of a) k m (k + m) refl;
        size = length-take-le m (drop k (page_of a)) (omega (arith, size, rows, within, left, room, few));
        joined = subst AreJoined same (joined m few);
        within = omega (arith, size, rows, within, room, few);
      }
    where
      same : take m (drop (a.first + k) a.rows.items) ≡ rows_of t (take m (drop k (page_of a)))
      same =
          ap (λ (rs : List SolidRow). take m (drop (a.first + k) rs)) is.rows
          ∙ ap (take m) (drop-map (row_of t) (a.first + k) (map solid_view a.solids.items))
          ∙ take-map (row_of t) m (drop (a.first + k) (map solid_view a.solids.items))
          ∙ ap (λ (vs : List SolidView). rows_of t (take m vs)) (sym (drop-drop k a.first (map solid_view a.solids.items)))

-- ---- a page's next solid
pub record IsStep (faces : List FontFace) (t : Tree) (width : ℤ) (kept : List KeptLeaf) (from : Position) (old new : Ahead) (k : ℕ) : Type 0 where
  pub solid : SolidView
  pub at : slice_get (page_of new) k ≡ Some solid
  pub is : IsSolid faces t width (end_of from (page_of old) k) solid
  pub read : IsReadSolid t width kept solid
  pub now : page_views new (k + 1) ≡ page_views old k ++ solid ∷ []
  pub ends : end_of from (page_of new) (k + 1) ≡ solid.end

pub step_is : (faces : List FontFace) (t : Tree) (width : ℤ) (kept : List KeptLeaf) (from : Position) (old new : Ahead) (k : ℕ) (more : List SolidView) → AreAhead faces t width kept from (page_of new) → page_of new ≡ page_of old ++ more → k ≤ length (page_of old) → k < length (page_of new) → IsStep faces t width kept from old new k
step_is faces t width kept from old new k more are grows low there =
    let s = slice_get_at (page_of new) k there in
    let one : suc k ≡ k + 1 = omega arith in
    let same : page_views new k ≡ page_views old k = ap (take k) grows ∙ take-append-le k (page_of old) more low in
    let here : end_of from (page_of new) k ≡ end_of from (page_of old) k = ap (λ (vs : List SolidView). end_of from vs k) grows ∙ end_append from (page_of old) more k low in
    record {
      solid = s.0;
      at = s.1;
      is = subst (λ (p : Position). IsSolid faces t width p s.0) here (solid_next faces t width kept from (page_of new) k s.0 are s.1);
      read = solid_read faces t width kept from (page_of new) k s.0 are s.1;
      now = ap (page_views new) (sym one) ∙ take-next (page_of new) k s.0 s.1 ∙ ap (λ (vs : List SolidView). vs ++ s.0 ∷ []) same;
      ends = ap (end_of from (page_of new)) (sym one) ∙ end_is from (page_of new) k s.0 s.1;
    }

-- ---- what is read changes
pub past_none : {X : Type 0} (xs : List X) (k : ℕ) → length xs ≤ k → slice_get xs k ≡ None
past_none [] zero l = refl
past_none [] (suc k) l = refl
past_none (x ∷ xs) zero l = absurd (omega arith)
past_none (x ∷ xs) (suc k) l = past_none xs k (omega arith)

-- with the next solid
pub page_grows : (a b : Ahead) (s : Solid) → a.first ≤ length a.solids.items → b.solids.items ≡ a.solids.items ++ s ∷ [] → b.first ≡ a.first → page_of b ≡ page_of a ++ solid_view s ∷ []
page_grows a b s within solids first =
    let size : length (map solid_view a.solids.items) ≡ length a.solids.items = length-map a.solids.items solid_view in
    ap (λ (n : ℕ). drop n (map solid_view b.solids.items)) first ∙ ap (λ (xs : List Solid). drop a.first (map solid_view xs)) solids ∙ ap (drop a.first) (map-append solid_view a.solids.items (s ∷ []))
    ∙ drop-append-le a.first (map solid_view a.solids.items) (solid_view s ∷ []) (omega (arith, within, size))

-- the last one is at its own number, and there the page ends
pub page_last : (a b : Ahead) (s : SolidView) (n : ℕ) → page_of b ≡ page_of a ++ s ∷ [] → n ≡ length (page_of a) → slice_get (page_of b) n ≡ Some s
page_last a b s n grows here = ap (λ (vs : List SolidView). slice_get vs n) grows ∙ ap (slice_get (page_of a ++ s ∷ [])) here ∙ get-end (page_of a) s

pub page_end : (from : Position) (a b : Ahead) (s : SolidView) → page_of b ≡ page_of a ++ s ∷ [] → end_of from (page_of b) (length (page_of b)) ≡ s.end
page_end from a b s grows =
    let size : length (page_of b) ≡ suc (length (page_of a)) = ap (λ (vs : List SolidView). length vs) grows ∙ length-append (page_of a) (s ∷ []) ∙ (let one : length (page_of a) + 1 ≡ suc (length (page_of a)) = omega arith in one) in
    ap (end_of from (page_of b)) size ∙ end_is from (page_of b) (length (page_of a)) s (page_last a b s (length (page_of a)) grows refl)

module _ (faces : List FontFace) (t : Tree) (width : ℤ) (kept : List KeptLeaf) where
  pub page_cleared : (at : Position) (b : Ahead) → b.solids.items ≡ [] → b.rows.items ≡ [] → b.joined.to ≡ 0 → b.width ≡ width → b.first ≡ 0 → IsPageAhead faces t width kept at b
  page_cleared at b none rows to wide first = record {
    wide = wide;
    within = omega (arith, first);
    are = subst (AreAhead faces t width kept at) (sym empty) (record { follow = refl; are = All-nil (IsReadSolid t width kept) });
    rows = rows ∙ ap (λ (xs : List Solid). rows_of t (map solid_view xs)) (sym none);
    joined = record { within = omega (arith, to); are = λ k r low high e. absurd (omega (arith, high, to)) };
  }
    where
      empty : page_of b ≡ []
      empty = ap (λ (n : ℕ). drop n (map solid_view b.solids.items)) first ∙ ap (λ (xs : List Solid). map solid_view xs) none

  pub page_begun : (at : Position) (a : Ahead) (s : Solid) → IsAhead faces t kept a → slice_get a.solids.items a.first ≡ Some s → s.placed_at ≡ at → a.width ≡ width → IsPageAhead faces t width kept at a
  page_begun at a s is there here wide =
      let view : slice_get (map solid_view a.solids.items) a.first ≡ Some (solid_view s) = slice_get-map solid_view a.solids.items a.first ∙ ap (option_map solid_view) there in
      let zero_at : a.first + 0 ≡ a.first = omega arith in
      let head : slice_get (page_of a) 0 ≡ Some (solid_view s) = get-drop (map solid_view a.solids.items) a.first 0 ∙ ap (slice_get (map solid_view a.solids.items)) zero_at ∙ view in
      let own : AreAhead faces t a.width kept s.placed_at (page_of a) = ahead_from faces t a.width kept is.0 (page_of a) 0 (solid_view s) is.1.are head in
      record {
        wide = wide;
        within = is.1.within;
        are = subst (λ (p : Position). AreAhead faces t width kept p (page_of a)) here (subst (λ (w : ℤ). AreAhead faces t w kept s.placed_at (page_of a)) wide own);
        rows = is.1.rows;
        joined = is.1.joined;
      }

  pub page_forgot : (at : Position) (a b : Ahead) → IsPageAhead faces t width kept at a → b.solids.items ≡ drop a.first a.solids.items → b.rows.items ≡ drop a.first a.rows.items → AreJoinedWithin b.joined b.rows.items → b.width ≡ a.width → b.first ≡ 0 → IsPageAhead faces t width kept at b
  page_forgot at a b is solids rows joined wide first = record {
    wide = wide ∙ is.wide;
    within = omega (arith, first);
    are = subst (AreAhead faces t width kept at) (sym same) is.are;
    rows = rows ∙ ap (drop a.first) is.rows ∙ drop-map (row_of t) a.first (map solid_view a.solids.items) ∙ ap (rows_of t) (sym views);
    joined = joined;
  }
    where
      views : map solid_view b.solids.items ≡ page_of a
      views = ap (λ (xs : List Solid). map solid_view xs) solids ∙ sym (drop-map solid_view a.first a.solids.items)

      same : page_of b ≡ page_of a
      same = ap (λ (n : ℕ). drop n (map solid_view b.solids.items)) first ∙ views

  pub page_ended : (from : Position) (a b : Ahead) → IsPageAhead faces t width kept from a → b.solids.items ≡ a.solids.items → b.rows.items ≡ a.rows.items → b.joined ≡ a.joined → b.width ≡ a.width → a.first ≤ b.first → b.first ≤ length a.solids.items → IsAhead faces t kept b
  page_ended from a b is solids rows joined wide low high = by (cases_lt (b.first - a.first) (length (page_of a)))
    where
      views : List SolidView
      views = map solid_view a.solids.items

      same : page_of b ≡ drop (b.first - a.first) (page_of a)
      same = ap (λ (xs : List Solid). drop b.first (map solid_view xs)) solids ∙ ap (λ (n : ℕ). drop n views) (let n : b.first ≡ a.first + (b.first - a.first) = omega (arith, low) in n) ∙ sym (drop-drop (b.first - a.first) a.first views)

      with_place : (at : Position) → AreAhead faces t width kept at (drop (b.first - a.first) (page_of a)) → IsAhead faces t kept b
      with_place at are = (
        at,
        record {
          wide = refl;
          within = subst (λ (xs : List Solid). b.first ≤ length xs) (sym solids) high;
          are = subst (AreAhead faces t b.width kept at) (sym same) (subst (λ (w : ℤ). AreAhead faces t w kept at (drop (b.first - a.first) (page_of a))) (sym (wide ∙ is.wide)) are);
          rows = rows ∙ is.rows ∙ ap (λ (xs : List Solid). rows_of t (map solid_view xs)) (sym solids);
          joined = subst (λ (j : JoinedLines). AreJoinedWithin j b.rows.items) (sym joined) (subst (λ (xs : List SolidRow). AreJoinedWithin a.joined xs) (sym rows) is.joined);
        },
      )

      by : (b.first - a.first < length (page_of a)) ⊎ (length (page_of a) ≤ b.first - a.first) → IsAhead faces t kept b
      by (inl less) = let s = slice_get_at (page_of a) (b.first - a.first) less in with_place s.0.placed_at (ahead_from faces t width kept from (page_of a) (b.first - a.first) s.0 is.are s.1)
      by (inr past) = with_place from (ahead_none faces t width kept from (page_of a) (b.first - a.first) past)

  pub page_pushed : (from : Position) (a b : Ahead) (s : Solid) (r : SolidRow) → IsPageAhead faces t width kept from a → b.solids.items ≡ a.solids.items ++ s ∷ [] → b.rows.items ≡ a.rows.items ++ r ∷ [] → r ≡ row_of t (solid_view s) → AreJoinedWithin b.joined b.rows.items → b.width ≡ a.width → b.first ≡ a.first →
      IsSolid faces t width (end_of from (page_of a) (length (page_of a))) (solid_view s) → IsReadSolid t width kept (solid_view s) → IsPageAhead faces t width kept from b
  page_pushed from a b s r is solids rows row joined wide first solid read =
      let within = is.within in
      let size : length b.solids.items ≡ length a.solids.items + 1 = ap (λ (xs : List Solid). length xs) solids ∙ length-append a.solids.items (s ∷ []) in
      record {
        wide = wide ∙ is.wide;
        within = omega (arith, first, within, size);
        are = subst (AreAhead faces t width kept from) (sym (page_grows a b s within solids first)) (ahead_push faces t width kept from (page_of a) (solid_view s) is.are solid read);
        rows = rows ∙ ap (λ (rs : List SolidRow). rs ++ r ∷ []) is.rows ∙ ap (λ (q : SolidRow). rows_of t (map solid_view a.solids.items) ++ q ∷ []) row ∙ sym (map-append (row_of t) (map solid_view a.solids.items) (solid_view s ∷ [])) ∙ ap (rows_of t) (sym (map-append solid_view a.solids.items (s ∷ []))) ∙ ap (λ (xs : List Solid). rows_of t (map solid_view xs)) (sym solids);
        joined = joined;
      }
