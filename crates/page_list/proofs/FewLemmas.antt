-- No more lines are read of a page's solids than it may look at.
use Rattle.std.proofs.Common.{◌≡◌, ℕ, zero, suc, ◌+◌, ◌-◌, ◌<◌, ◌≤◌, ◌⊎◌, inl, inr, ℤ, ◌<ℤ◌, Bool, true, false, cond, not, ltb, Option, None, Some, option_map, List, [], ◌∷◌, ◌++◌, length, length-append, map, max, slice_get, take, drop, append_assoc, refl, sym, ap, ◌∙◌, subst, arith}
use Rattle.std.specs.List.{fold, prefix_len}
use Rattle.std.proofs.lemmas.Bool.{cases_lt}
use Rattle.std.proofs.lemmas.Bool.Decides.{nat_tests}
use Rattle.std.proofs.lemmas.List.{drop-take, length-map, map-append, take-append-le, take-map, take-take}
use Rattle.std.proofs.lemmas.List.Sums.{sum_by-append, sum_by-cons, sum_by-take-drop}
use Rattle.std.proofs.lemmas.Option.{slice_get-map, slice_get_within}
use Rattle.std.proofs.Math.Nat.{le-max_left, le-max_right}
use Rattle.std.proofs.Math.Seq.{take-append_seam}
use Rattle.bk_num.proofs.ListLemmas.{get-append}
use Rattle.metrics.specs.Face.{FontFace}
use Rattle.boxes.specs.Tree.{Tree, IsTree, Holds}
use Rattle.boxes.specs.declared.frames.Frame.{Frame}
use Rattle.boxes.specs.declared.page.SolidKind.{SolidKind}
use Rattle.boxes.specs.declared.page.SolidKind.TheVariants.{Line, OpenEdge, CloseEdge}
use Rattle.boxes.specs.declared.props.BoxProps.{BoxProps}
use Rattle.seams.specs.Levels.{block_at, block_of, widows_in}
use Rattle.cursor.specs.Parted.{IsBreak}
use Rattle.cursor.specs.Remainder.{IsRemainder, SolidView, steps_by, steps_in, steps_of}
use Rattle.cursor.proofs.PartLemmas.{parted_lines}
use Rattle.cuts.specs.declared.look.Look.{Look}
use Rattle.cuts.specs.declared.row.SolidRow.{SolidRow}
use Rattle.cuts.specs.Prefixes.{AreFree, is_break, is_break_class}
use Rattle.cuts.specs.Rows.{limit_of, rows_bottom}
use Rattle.cuts.specs.Short.{AreParted, IsOver, IsShort, count_of}
use Rattle.cuts.proofs.AppendLemmas.{bottom-append, limit-free, limit-more}
use Rattle.cuts.proofs.ShortLemmas.{reads_few}
use Rattle.page_list.specs.Cuts.{row_of, rows_of}
use Rattle.page_list.specs.Looked.{AreFewLines, IsReach, has_line, is_edge, most_widows, taken_of, up_to_line}
use Rattle.page_list.specs.declared.cut.CutFrom.{CutFrom}

-- ---- the lines of the first solids
pub steps_most : (k : SolidKind) → steps_by k ≤ 1
steps_most (OpenEdge b) = omega arith
steps_most (CloseEdge b) = omega arith
steps_most Line = omega arith

steps_next : (xs : List SolidView) (k : ℕ) → steps_in (take (suc k) xs) ≤ steps_in (take k xs) + 1
steps_next [] k = omega arith
steps_next (x ∷ xs) zero = let c = sum_by-cons steps_of x [] in let m = steps_most x.kind in omega (arith, c, m)
steps_next (x ∷ xs) (suc k) =
    let r = steps_next xs k in
    let c = sum_by-cons steps_of x (take (suc k) xs) in
    let d = sum_by-cons steps_of x (take k xs) in
    omega (arith, r, c, d)

steps_up : (xs : List SolidView) (j k : ℕ) → j ≤ k → steps_in (take j xs) ≤ steps_in (take k xs)
steps_up xs zero k h = omega arith
steps_up xs (suc j) zero h = absurd (omega arith)
steps_up [] (suc j) (suc k) h = omega arith
steps_up (x ∷ xs) (suc j) (suc k) h =
    let r = steps_up xs j k (omega arith) in
    let c = sum_by-cons steps_of x (take j xs) in
    let d = sum_by-cons steps_of x (take k xs) in
    omega (arith, r, c, d)

-- those of the solids after the first n
steps_on : (xs : List SolidView) (n k : ℕ) → steps_in (take (n + k) xs) ≡ steps_in (take n xs) + steps_in (take k (drop n xs))
steps_on xs n k =
    let whole = sum_by-take-drop steps_of (take (n + k) xs) n in
    let first : steps_in (take n (take (n + k) xs)) ≡ steps_in (take n xs) = ap (λ (ys : List SolidView). steps_in ys) (take-take n (n + k) xs (omega arith)) in
    let later : steps_in (drop n (take (n + k) xs)) ≡ steps_in (take k (drop n xs)) = ap (λ (ys : List SolidView). steps_in ys) (drop-take n k xs) in
    omega (arith, whole, first, later)

-- up to and with the first line one line stands
first_edge : (y : SolidView) (ys : List SolidView) (rest : ℕ) → steps_by y.kind ≡ 0 → 0 < steps_in (y ∷ ys) → (0 < steps_in ys → 1 ≤ steps_in (take (suc rest) ys)) → 1 ≤ steps_in (take (suc (1 + rest)) (y ∷ ys))
first_edge y ys rest own h goes =
    let all = sum_by-cons steps_of y ys in
    let some = goes (omega (arith, h, own, all)) in
    let here = sum_by-cons steps_of y (take (suc rest) ys) in
    let next : 1 + rest ≡ suc rest = omega arith in
    let e : steps_in (take (suc (1 + rest)) (y ∷ ys)) ≡ steps_in (y ∷ take (suc rest) ys) = ap (λ (n : ℕ). steps_in (take (suc n) (y ∷ ys))) next in
    omega (arith, some, here, e)

first_by : (y : SolidView) (ys : List SolidView) (rest : ℕ) (k : SolidKind) → y.kind ≡ k → 0 < steps_in (y ∷ ys) → (0 < steps_in ys → 1 ≤ steps_in (take (suc rest) ys)) → 1 ≤ steps_in (take (suc (cond (is_edge k) (1 + rest) 0)) (y ∷ ys))
first_by y ys rest (OpenEdge b) same h goes = first_edge y ys rest (ap steps_by same) h goes
first_by y ys rest (CloseEdge b) same h goes = first_edge y ys rest (ap steps_by same) h goes
first_by y ys rest Line same h goes =
    let own : steps_by y.kind ≡ 1 = ap steps_by same in
    let here = sum_by-cons steps_of y [] in
    omega (arith, own, here)

first_line : (ys : List SolidView) → 0 < steps_in ys → 1 ≤ steps_in (take (suc (prefix_len (λ s. is_edge s.kind) ys)) ys)
first_line [] h = absurd (omega arith)
first_line (y ∷ ys) h = first_by y ys (prefix_len (λ s. is_edge s.kind) ys) y.kind refl h (first_line ys)

-- ---- which solids are lines
abbrev flags_of : List SolidView → List Bool
flags_of xs = map (λ (s : SolidView). not (is_edge s.kind)) xs

flag_steps : (k : SolidKind) → cond (not (is_edge k)) 1 0 ≡ steps_by k
flag_steps (OpenEdge b) = refl
flag_steps (CloseEdge b) = refl
flag_steps Line = refl

count_steps : (xs : List SolidView) → count_of (flags_of xs) ≡ steps_in xs
count_steps [] = refl
count_steps (x ∷ xs) = ap (λ (n : ℕ). n + count_of (flags_of xs)) (flag_steps x.kind) ∙ ap (λ (n : ℕ). steps_of x + n) (count_steps xs) ∙ sym (sum_by-cons steps_of x xs)

is_line : (k : SolidKind) → not (is_edge k) ≡ true → k ≡ Line
is_line (OpenEdge b) e = absurd (cc)
is_line (CloseEdge b) e = absurd (cc)
is_line Line e = refl

line_at : (xs : List SolidView) (k : ℕ) → slice_get (flags_of xs) k ≡ Some true → (s : SolidView) × (slice_get xs k ≡ Some s) × (s.kind ≡ Line)
line_at xs k e = by (slice_get xs k) refl (sym (slice_get-map (λ (s : SolidView). not (is_edge s.kind)) xs k) ∙ e)
  where
    by : (o : Option SolidView) → slice_get xs k ≡ o → option_map (λ (s : SolidView). not (is_edge s.kind)) o ≡ Some true → (s : SolidView) × (slice_get xs k ≡ Some s) × (s.kind ≡ Line)
    by None has is = absurd (cc)
    by (Some s) has is = (s, has, is_line s.kind (cc))

-- ---- no block asks for more widows than the most that a box asks for
fold_from : (a : ℕ) (xs : List ℕ) → a ≤ fold max a xs
fold_from a [] = omega arith
fold_from a (x ∷ xs) = let r = fold_from (max a x) xs in let m = le-max_left a x in omega (arith, r, m)

fold_most : (a : ℕ) (boxes : List BoxProps) (k : ℕ) (p : BoxProps) → slice_get boxes k ≡ Some p → p.widows ≤ fold max a (map (λ (q : BoxProps). q.widows) boxes)
fold_most a [] k p e = absurd (cc)
fold_most a (q ∷ boxes) zero p e =
    let same : q ≡ p = cc in
    let r = fold_from (max a q.widows) (map (λ (x : BoxProps). x.widows) boxes) in
    let m = le-max_right a q.widows in
    let w : q.widows ≡ p.widows = ap (λ (x : BoxProps). x.widows) same in
    omega (arith, r, m, w)
fold_most a (q ∷ boxes) (suc k) p e = fold_most (max a q.widows) boxes k p e

pub row_widows : (t : Tree) (s : SolidView) → (row_of t s).widows ≤ most_widows t
row_widows t s = by (block_at t s.placed_at.event) refl
  where
    at : (o : Option ℕ) (p : BoxProps) → block_of t o ≡ Some p → p.widows ≤ most_widows t
    at None p e = absurd (cc)
    at (Some b) p e = fold_most 0 t.boxes b p e

    by : (o : Option BoxProps) → block_at t s.placed_at.event ≡ o → widows_in o ≤ most_widows t
    by None e = omega arith
    by (Some p) e = at _ p e

-- ---- break points between the lines that are read
break_is : (s : SolidView) → IsBreak s → is_break_class s.seam.class ≡ true
break_is s (inl e) = ap is_break_class e
break_is s (inr e) = ap is_break_class e

module _ (faces : List FontFace) (t : Tree) (frame : Frame) (from : CutFrom) (tree : IsTree t) (holds : Holds t from.at) where
  module _ (views rest : List SolidView) (r : IsRemainder faces t frame.width from.at (views ++ rest)) where
    parted : AreParted (rows_of t views) (flags_of views)
    parted i k less a b =
        let x = line_at views i a in
        let y = line_at views k b in
        let iw = slice_get_within views i x.0 x.1 in
        let kw = slice_get_within views k y.0 y.1 in
        let p = parted_lines faces t frame.width from.at (views ++ rest) tree holds r i k x.0 y.0 less (get-append views rest i iw ∙ x.1) (get-append views rest k kw ∙ y.1) x.2 y.2 in
        let before = p.1 in
        let within = p.2 in
        let has : slice_get views p.0 ≡ Some p.3 = sym (get-append views rest p.0 (omega (arith, within, kw))) ∙ p.4 in (
          p.0,
          before,
          within,
          λ row e.
              let same : Some (row_of t p.3) ≡ Some row = sym (slice_get-map (row_of t) views p.0 ∙ ap (option_map (row_of t)) has) ∙ e in
              let is : row_of t p.3 ≡ row = cc in
              subst (λ (q : SolidRow). is_break q ≡ true) is (break_is p.3 p.5),
        )

    abbrev whole : ℕ
    whole = length views

    views_are : steps_in (take whole (views ++ rest)) ≡ steps_in views
    views_are = ap (λ (ys : List SolidView). steps_in ys) (take-append_seam views rest)

    rows_are : rows_of t (views ++ rest) ≡ rows_of t views ++ rows_of t rest
    rows_are = map-append (row_of t) views rest

    -- no more lines than up to the first solid that ends below the frame, and some
    few_over : (look : Look) → IsShort from.kept frame.height (most_widows t) (rows_of t views) look → (n : ℕ) → n < whole → frame.height <ℤ rows_bottom from.kept (rows_of t (views ++ rest)) (suc n) →
        steps_in views ≤ steps_in (take n (views ++ rest)) + 1 + (most_widows t + 1)
    few_over look short n inside below =
        let size : length (rows_of t views) ≡ whole = length-map views (row_of t) in
        let low : frame.height <ℤ rows_bottom from.kept (rows_of t views) (suc n) = subst (λ (z : ℤ). frame.height <ℤ z) (ap (λ (rs : List SolidRow). rows_bottom from.kept rs (suc n)) rows_are ∙ bottom-append from.kept (rows_of t views) (rows_of t rest) (suc n) (omega (arith, size, inside))) below in
        let over : IsOver from.kept (rows_of t views) frame.height n = (omega (arith, size, inside), low) in
        let flags : length (flags_of views) ≡ length (rows_of t views) = length-map views (λ (s : SolidView). not (is_edge s.kind)) ∙ sym size in
        let few = reads_few from.kept frame.height (most_widows t) (rows_of t views) (flags_of views) look n flags parted short over in
        let all = count_steps views in
        let first : count_of (take n (flags_of views)) ≡ steps_in (take n views) = ap count_of (take-map (λ (s : SolidView). not (is_edge s.kind)) n views) ∙ count_steps (take n views) in
        let same : steps_in (take n (views ++ rest)) ≡ steps_in (take n views) = ap (λ (ys : List SolidView). steps_in ys) (take-append-le n views rest (omega (arith, inside))) in
        omega (arith, few, all, first, same)

    -- the lines up to and with the first one from there on
    taken_over : (n : ℕ) (look : Look) → IsShort from.kept frame.height (most_widows t) (rows_of t views) look → n < whole → frame.height <ℤ rows_bottom from.kept (rows_of t (views ++ rest)) (suc n) →
        steps_in views ≤ steps_in (take (n + up_to_line (drop n (views ++ rest))) (views ++ rest)) + (most_widows t + 1)
    taken_over n look short inside below = by (has_line (drop n (views ++ rest))) refl
      where
        by : (b : Bool) → has_line (drop n (views ++ rest)) ≡ b → steps_in views ≤ steps_in (take (n + cond b (suc (prefix_len (λ s. is_edge s.kind) (drop n (views ++ rest)))) 0) (views ++ rest)) + (most_widows t + 1)
        by true e =
            let some : 0 < steps_in (drop n (views ++ rest)) = grind (arith, nat_tests) in
            let one = first_line (drop n (views ++ rest)) some in
            let on = steps_on (views ++ rest) n (suc (prefix_len (λ s. is_edge s.kind) (drop n (views ++ rest)))) in
            let few = few_over look short n inside below in
            omega (arith, one, on, few)
        by false e =
            let none : steps_in (drop n (views ++ rest)) ≤ 0 = grind (arith, nat_tests) in
            let cut = sum_by-take-drop steps_of (views ++ rest) n in
            let all = sum_by-append steps_of views rest in
            let up = steps_up (views ++ rest) n (n + 0) (omega arith) in
            omega (arith, none, cut, all, up)

    module _ (old more : List SolidView) (split : views ≡ old ++ more) (last : length more ≤ 1) (free : AreFree (rows_of t old)) where
      -- all solids but the last one stand before the first forced seam
      limit_low : whole ≤ limit_of (rows_of t (views ++ rest)) + 1
      limit_low =
          let joined : rows_of t (views ++ rest) ≡ rows_of t old ++ rows_of t (more ++ rest) = ap (rows_of t) (ap (λ (xs : List SolidView). xs ++ rest) split ∙ append_assoc old more rest) ∙ map-append (row_of t) old (more ++ rest) in
          let low = limit-more (rows_of t old) (rows_of t (more ++ rest)) (limit-free (rows_of t old) free) in
          let same : limit_of (rows_of t (views ++ rest)) ≡ limit_of (rows_of t old ++ rows_of t (more ++ rest)) = ap limit_of joined in
          let size : length (rows_of t old) ≡ length old = length-map old (row_of t) in
          let count : whole ≡ length old + length more = ap (λ (xs : List SolidView). length xs) split ∙ length-append old more in
          omega (arith, low, same, size, count, last)

      few_taken : (look : Look) → IsShort from.kept frame.height (most_widows t) (rows_of t views) look → (n : ℕ) → IsReach from.kept (rows_of t (views ++ rest)) frame.height n →
          steps_in views ≤ steps_in (take (taken_of (views ++ rest) (rows_of t (views ++ rest)) n) (views ++ rest)) + (most_widows t + 1)
      few_taken look short n reach = by (ltb n (limit_of (rows_of t (views ++ rest)))) refl (cases_lt n whole)
        where
          first : whole ≤ n → (k : ℕ) → n ≤ k → steps_in views ≤ steps_in (take k (views ++ rest)) + (most_widows t + 1)
          first all k up =
              let same = views_are in
              let mono = steps_up (views ++ rest) whole k (omega (arith, all, up)) in
              omega (arith, same, mono)

          by : (b : Bool) → ltb n (limit_of (rows_of t (views ++ rest))) ≡ b → (n < whole) ⊎ (whole ≤ n) →
              steps_in views ≤ steps_in (take (cond b (n + up_to_line (drop n (views ++ rest))) n) (views ++ rest)) + (most_widows t + 1)
          by true e (inl inside) =
              let below : n < limit_of (rows_of t (views ++ rest)) = grind (arith, nat_tests) in
              taken_over n look short inside (reach.below below)
          by true e (inr all) = first all (n + up_to_line (drop n (views ++ rest))) (omega arith)
          by false e (inr all) = first all n (omega arith)
          by false e (inl inside) =
              let past : limit_of (rows_of t (views ++ rest)) ≤ n = grind (arith, nat_tests) in
              let low = limit_low in
              let same = views_are in
              let mono = steps_up (views ++ rest) whole (suc n) (omega (arith, past, low)) in
              let next = steps_next (views ++ rest) n in
              omega (arith, same, mono, next)

  -- so it is, whatever follows, where all but the last of the solids that are read have no forced seam after the first
  pub few_lines : (views old more : List SolidView) (look : Look) → views ≡ old ++ more → length more ≤ 1 → AreFree (rows_of t old) → IsShort from.kept frame.height (most_widows t) (rows_of t views) look → AreFewLines faces t frame from views
  few_lines views old more look split last free short rest n r reach =
      let few = few_taken views rest r old more split last free look short n reach in
      let all = sum_by-append steps_of views rest in
      omega (arith, few, all)
