-- One stretch of a line: what is known after it.
use Rattle.std.proofs.Common.{◌≡◌, ◌≢◌, ℕ, zero, suc, ◌+◌, ◌-◌, ◌*◌, ◌<◌, ◌≤◌, ℤ, pos, ◌+ℤ◌, ◌≤ℤ◌, ◌<ℤ◌, ◌^◌, Bool, true, false, cond, ◌||◌, ◌&&◌, eqb, ltb, leb, List, [], length, get_or, max, Some, refl, sym, ◌∙◌, arith, ⊎_elim, inl, inr, ◌⊎◌, subst, add-zero}
use Rattle.std.specs.Bool.{MatchBool}
use Rattle.std.specs.List.{Contains}
use Rattle.std.specs.List.Sorted.{IsStrictlyIncreasing}
use Rattle.std.specs.Str.{IsCharBoundary}
use Rattle.std.proofs.lemmas.Bool.{cases_lt}
use Rattle.std.proofs.lemmas.Bool.Decides.{nat_tests, eqb_tells}
use Rattle.std.proofs.lemmas.Int.{ints}
use Rattle.std.proofs.lemmas.List.Elements.{Contains-get_or}
use Rattle.metrics.specs.Face.{FontFace}
use Rattle.metrics.specs.Widths.{byte_width, hyphen_width, sum_from}
use Rattle.boxes.specs.declared.leaf.Leaf.{Leaf}
use Rattle.boxes.specs.declared.leaf.Span.{Span}
use Rattle.line_fill.specs.declared.line_width.LineWidth.{LineWidth}
use Rattle.line_fill.specs.declared.found.Found.{Found}
use Rattle.line_fill.specs.Widths.{span_at, pen_of, unit_at, is_hyphened, hyphen_at, hyphen_in}
use Rattle.line_fill.specs.Fill.{FitsIn, IsFilled, AreWidths, AreFound, noted, chosen, passed_to}
use Rattle.line_fill.specs.Breaks.{at_ordinary}
use Rattle.line_fill.specs.LineEnd.{shown_len, stop_of, IsOrdinary, IsEmergency, IsLineEnd, ends_anywhere}
use Rattle.line_fill.proofs.LineLemmas.{IsNext, widths-mono, shown-le, sum_from-le, stop-step, stop-newline, stop-after, stop-last, between_places, none_there}
use Rattle.line_fill.proofs.WidthLemmas.{IsShown, run_shown, goes_on, stop_quiet}
use Rattle.line_fill.proofs.FoundLemmas.{Says, found_skip, found_noted, end_chosen}

passed_same : (u v : ℕ → ℕ) (text : List ℕ) (at n : ℕ) (r : LineWidth) → ((k : ℕ) → at ≤ k → k < at + n → u k ≡ v k) → passed_to u text at n r ≡ passed_to v text at n r
passed_same u v text at zero r h = refl
passed_same u v text at (suc n) r h =
    rw (passed_same u v text at n r (λ k a b. h k a (omega arith)), h (at + n) (omega arith) (omega arith)) refl

module _ (faces : List FontFace) (leaf : Leaf) (span : Span) (here : (k : ℕ) → span.from ≤ k → k < span.to → span_at leaf.spans k ≡ Some span) where
  pub unit_here : (from k : ℕ) → span.from ≤ k → k < span.to → byte_width (pen_of faces span) leaf.text (max from span.from) k ≡ unit_at faces leaf from k
  unfolding unit_at
  unit_here from k a b = rw (here k a b) refl

  pub hyphen_here : (to : ℕ) → IsCharBoundary leaf.text span.from → span.from < to → to ≤ span.to → cond (is_hyphened leaf.text to) (hyphen_width (pen_of faces span)) 0 ≡ hyphen_at faces leaf to
  unfolding is_hyphened hyphen_at
  hyphen_here to bound a b = ⊎_elim
      (λ (h : span.from < to - 1). rw (here (to - 2) (omega arith) (omega arith)) refl)
      (λ (h : to - 1 ≤ span.from). by (ltb to (length leaf.text)) (leb 2 to) (eqb (get_or leaf.text (to - 2) 0) 194) (eqb (get_or leaf.text (to - 1) 0) 173) (none h))
      (cases_lt span.from (to - 1))
    where
      none : to - 1 ≤ span.from → (ltb to (length leaf.text) ≡ false) ⊎ (eqb (get_or leaf.text (to - 1) 0) 173 ≡ false)
      none h =
          let e : to - 1 ≡ span.from = omega arith in
          ⊎_elim (λ (l : to < length leaf.text).
          ⊎_elim (λ (g : (eqb (get_or leaf.text (to - 1) 0) 173 ≡ true) × (get_or leaf.text (to - 1) 0 ≡ 173)).
          let v : get_or leaf.text span.from 0 ≡ 173 = rw e at g.1 in
          let w : 192 ≤ get_or leaf.text span.from 0 = bound.1 (omega arith) (omega arith) in
          absurd (omega arith))
          (λ (g : (eqb (get_or leaf.text (to - 1) 0) 173 ≡ false) × (get_or leaf.text (to - 1) 0 ≢ 173)). inr g.0)
          (eqb_tells (get_or leaf.text (to - 1) 0) 173))
          (λ (l : length leaf.text ≤ to). inl (grind (arith, nat_tests)))
          (cases_lt to (length leaf.text))

      by : (w x y z : Bool) → (w ≡ false) ⊎ (z ≡ false) → cond (w && (x && y && z)) (hyphen_width (pen_of faces span)) 0 ≡ cond (w && (x && y && z)) (hyphen_in faces (span_at leaf.spans (to - 2))) 0
      by false x y z h = refl
      by true false y z h = refl
      by true true false z h = refl
      by true true true false h = refl
      by true true true true h = absurd (⊎_elim (λ e. cc) (λ e. cc) h)

-- no hyphen is shown after a newline or at the end
no_hyphen : (faces : List FontFace) (leaf : Leaf) (to : ℕ) → (get_or leaf.text (to - 1) 0 ≡ 10) ⊎ (to ≡ length leaf.text) → hyphen_at faces leaf to ≡ 0
unfolding hyphen_at is_hyphened
no_hyphen faces leaf to (inl h) = let e : eqb (get_or leaf.text (to - 1) 0) 173 ≡ false = grind (arith, nat_tests) in rw e (by (ltb to (length leaf.text)) (leb 2 to) (eqb (get_or leaf.text (to - 2) 0) 194))
  where
    by : (x y z : Bool) → cond (x && (y && z && false)) (hyphen_in faces (span_at leaf.spans (to - 2))) 0 ≡ 0
    by false y z = refl
    by true false z = refl
    by true true false = refl
    by true true true = refl
no_hyphen faces leaf to (inr h) = let e : ltb to (length leaf.text) ≡ false = grind (arith, nat_tests) in rw e refl

-- what is shown up to the end of a stretch in one span, of which only the last byte may be a newline
pub shown_run : (faces : List FontFace) (leaf : Leaf) (span : Span) (from at to : ℕ) (r r' : LineWidth) →
    ((k : ℕ) → span.from ≤ k → k < span.to → span_at leaf.spans k ≡ Some span) → span.from ≤ at → at < to → to ≤ span.to → from ≤ at →
    AreWidths (unit_at faces leaf from) leaf.text from at r → ((k : ℕ) → at ≤ k → k + 1 < to → get_or leaf.text k 0 ≢ 10) →
    r' ≡ passed_to (byte_width (pen_of faces span) leaf.text (max from span.from)) leaf.text at (to - at) r →
    IsShown (unit_at faces leaf from) leaf.text from to r'
shown_run faces leaf span from at to r r' here low less high begun widths quiet r_is =
    let n = to - at - 1 in
    let s : suc n ≡ to - at = omega arith in
    let t : suc (at + n) ≡ to = omega arith in
    let same : passed_to (byte_width (pen_of faces span) leaf.text (max from span.from)) leaf.text at (suc n) r ≡ passed_to (unit_at faces leaf from) leaf.text at (suc n) r = passed_same _ _ leaf.text at (suc n) r (λ k a b. unit_here faces leaf span here from k (omega arith) (omega arith)) in
    let run : IsShown (unit_at faces leaf from) leaf.text from (suc (at + n)) (passed_to (unit_at faces leaf from) leaf.text at (suc n) r) = run_shown (unit_at faces leaf from) leaf.text from at n r begun widths (λ k a b. quiet k a (omega arith)) in
    let e : r' ≡ passed_to (unit_at faces leaf from) leaf.text at (suc n) r = rw (← s) at r_is ∙ same in
    subst (λ z. IsShown (unit_at faces leaf from) leaf.text from z r') t (rw e run)

-- a stretch inside a span from a place up to another
module _ (faces : List FontFace) (leaf : Leaf) (span : Span) (from : ℕ) (room : ℤ) (at to : ℕ) (r r' : LineWidth) (f : Found)
    (here : (k : ℕ) → span.from ≤ k → k < span.to → span_at leaf.spans k ≡ Some span)
    (ends_in : span.to ≤ length leaf.text) (low : span.from ≤ at) (less : at < to) (high : to ≤ span.to)
    (is : IsFilled faces leaf from room at r f)
    (quiet : (k : ℕ) → at ≤ k → k + 1 < to → get_or leaf.text k 0 ≢ 10)
    (r_is : r' ≡ passed_to (byte_width (pen_of faces span) leaf.text (max from span.from)) leaf.text at (to - at) r) where
  begins : from < to
  begins = let l = is.low in omega arith

  within_text : to - 1 < length leaf.text
  within_text = omega arith

  back : suc (to - 1) ≡ to
  back = omega arith

  pub shown_behind : IsShown (unit_at faces leaf from) leaf.text from to r'
  shown_behind = shown_run faces leaf span from at to r r' here low less high is.low is.widths quiet r_is

  stop_before : stop_of leaf.text from ≡ stop_of leaf.text (to - 1)
  stop_before = let e : at + (to - 1 - at) ≡ to - 1 = omega arith in is.same_stop ∙ rw e at (stop_quiet leaf.text at (to - 1 - at) (omega arith) (λ k a b. quiet k a (omega arith)))

  pub within : to ≤ stop_of leaf.text from
  within = rw stop_before (let s = stop-after leaf.text (to - 1) within_text in omega (arith, s))

  pub is_stop : (get_or leaf.text (to - 1) 0 ≡ 10) ⊎ (to ≡ length leaf.text) → to ≡ stop_of leaf.text from
  is_stop (inl h) = sym (stop_before ∙ stop-newline leaf.text (to - 1) within_text h ∙ back)
  is_stop (inr h) = sym (stop_before ∙ stop-last leaf.text (to - 1) (back ∙ h) ∙ back)

  pub goes : get_or leaf.text (to - 1) 0 ≢ 10 → stop_of leaf.text from ≡ stop_of leaf.text to
  goes n = stop_before ∙ rw back at (stop-step leaf.text (to - 1) within_text n)

  pub early : get_or leaf.text (to - 1) 0 ≢ 10 → to < length leaf.text → to < stop_of leaf.text from
  early n l = rw (goes n) (let s = stop-after leaf.text to l in omega (arith, s))

  pub misfits : room <ℤ r'.shown → (q : ℕ) → to ≤ q → FitsIn faces leaf from room q → ⊥
  misfits h q l fit = let m = widths-mono (unit_at faces leaf from) leaf.text from to q (let b = begins in omega arith) l in let s = shown_behind.shown in omega (arith, ints)

  pub fits_stop : (get_or leaf.text (to - 1) 0 ≡ 10) ⊎ (to ≡ length leaf.text) → r'.shown ≤ℤ room → FitsIn faces leaf from room to
  fits_stop s h = rw (no_hyphen faces leaf to s, add-zero) (let e = shown_behind.shown in rw e at h)

  pub says_fits : IsCharBoundary leaf.text span.from → (b : Bool) (hyphen : ℕ) → hyphen ≡ cond (is_hyphened leaf.text to) (hyphen_width (pen_of faces span)) 0 → MatchBool b ((r'.shown +ℤ pos hyphen) ≤ℤ room) (room <ℤ (r'.shown +ℤ pos hyphen)) → Says b (FitsIn faces leaf from room to)
  says_fits bound true hyphen e h = let s = shown_behind.shown in let w : hyphen ≡ hyphen_at faces leaf to = e ∙ hyphen_here faces leaf span here to bound (omega arith) high in omega (arith, ints)
  says_fits bound false hyphen e h = λ g. let s = shown_behind.shown in let w : hyphen ≡ hyphen_at faces leaf to = e ∙ hyphen_here faces leaf span here to bound (omega arith) high in omega (arith, ints)

  allowed_here : (q : ℕ) → at < q → q ≤ to → ends_anywhere (span_at leaf.spans (q - 1)) ≡ (span.wrap && span.anywhere)
  allowed_here q a b = rw (here (q - 1) (omega arith) (omega arith)) refl

  -- its places, where none of the lists stands between
  module _ (next next' : ℕ) (some : List ℕ) (some_is : some ≡ cond (span.wrap && span.anywhere) leaf.graphemes [])
      (up : IsStrictlyIncreasing leaf.places) (up' : IsStrictlyIncreasing some)
      (nexts : IsNext leaf.places at next) (nexts' : IsNext some at next')
      (below : next < length leaf.places → to ≤ get_or leaf.places next 0) (below' : next' < length some → to ≤ get_or some next' 0) where
    from_some : (b : Bool) → b ≡ (span.wrap && span.anywhere) → Contains (cond b leaf.graphemes []) to → Contains leaf.graphemes to × ((span.wrap && span.anywhere) ≡ true)
    from_some true e c = (c, sym e)
    from_some false e c = absurd (let l = c.1 in omega (arith, l))

    pub between : (q : ℕ) → IsOrdinary leaf.text leaf.places from q ⊎ IsEmergency leaf from q → (q ≤ at) ⊎ (to ≤ q)
    between q (inl o) = ⊎_elim (λ (s : q ≡ stop_of leaf.text from). inr (let w = within in omega arith)) (λ (k : Contains leaf.places q). between_places leaf.places at to next up nexts less below q k) o.named
    between q (inr e) = ⊎_elim
        (λ (h : at < q). ⊎_elim
        (λ (l : q < to).
        let a : (span.wrap && span.anywhere) ≡ true = sym (allowed_here q h (omega arith)) ∙ e.allowed in
        let g : some ≡ leaf.graphemes = some_is ∙ rw a refl in
        between_places some at to next' up' nexts' less below' q (rw g e.named))
        (λ (l : to ≤ q). inr l) (cases_lt q to))
        (λ (h : q ≤ at). inl h) (cases_lt at q)

    pub says_ordinary : get_or leaf.text (to - 1) 0 ≢ 10 → to < length leaf.text → (b : Bool) → MatchBool b ((next < length leaf.places) × (get_or leaf.places next 0 ≡ to)) (next < length leaf.places → get_or leaf.places next 0 ≢ to) → Says b (IsOrdinary leaf.text leaf.places from to)
    says_ordinary n l true h = record { after = begins; within = within; named = inr (subst (λ z. Contains leaf.places z) h.1 (Contains-get_or leaf.places next 0 h.0)) }
    says_ordinary n l false h = λ o. ⊎_elim (λ (s : to ≡ stop_of leaf.text from). let e = early n l in absurd (omega arith)) (λ (k : Contains leaf.places to). none_there leaf.places at to next up nexts less below h k) o.named

    pub says_emergency : get_or leaf.text (to - 1) 0 ≢ 10 → to < length leaf.text → (b : Bool) → MatchBool b ((next' < length some) × (get_or some next' 0 ≡ to)) (next' < length some → get_or some next' 0 ≢ to) → Says b (IsEmergency leaf from to)
    says_emergency n l true h =
        let c : Contains some to = subst (λ z. Contains some z) h.1 (Contains-get_or some next' 0 h.0) in
        let d = from_some (span.wrap && span.anywhere) refl (rw some_is at c) in
        record { after = begins; before = early n l; named = d.0; allowed = allowed_here to less (omega arith) ∙ d.1 }
    says_emergency n l false h = λ e.
        let a : (span.wrap && span.anywhere) ≡ true = sym (allowed_here to less (omega arith)) ∙ e.allowed in
        let g : some ≡ leaf.graphemes = some_is ∙ rw a refl in
        none_there some at to next' up' nexts' less below' h (rw g e.named)

    pub filled_by : (g : Found) → AreFound (FitsIn faces leaf from room) (IsOrdinary leaf.text leaf.places from) (IsEmergency leaf from) from to g → get_or leaf.text (to - 1) 0 ≢ 10 → to < length leaf.text → pos 0 ≤ℤ r'.total → r'.total ≤ℤ pos (2 ^ 27 * to) → IsFilled faces leaf from room to r' g
    filled_by g found n more least most = record {
      low = let b = begins in omega arith;
      more = more;
      widths = widths_on;
      not_negative = least;
      small = most;
      same_stop = goes n;
      found = found;
    }
      where
        widths_on : AreWidths (unit_at faces leaf from) leaf.text from to r'
        widths_on = subst (λ z. AreWidths (unit_at faces leaf from) leaf.text from z r') back (goes_on (unit_at faces leaf from) leaf.text from (to - 1) r' (let b = begins in omega arith) n (subst (λ z. IsShown (unit_at faces leaf from) leaf.text from z r') (sym back) shown_behind))

    pub filled_noted : (o e fit : Bool) → Says o (IsOrdinary leaf.text leaf.places from to) → Says e (IsEmergency leaf from to) → Says fit (FitsIn faces leaf from room to) → (o || e) ≡ true → AreFound (FitsIn faces leaf from room) (IsOrdinary leaf.text leaf.places from) (IsEmergency leaf from) from to (noted fit o e from to f)
    filled_noted o e fit so se sf some = found_noted (FitsIn faces leaf from room) (IsOrdinary leaf.text leaf.places from) (IsEmergency leaf from) from at to f is.low less is.found between o e fit so se sf (by o e so se some)
      where
        by : (o e : Bool) → Says o (IsOrdinary leaf.text leaf.places from to) → Says e (IsEmergency leaf from to) → (o || e) ≡ true → IsOrdinary leaf.text leaf.places from to ⊎ IsEmergency leaf from to
        by true e so se h = inl so
        by false true so se h = inr se
        by false false so se h = absurd cc

    pub filled_skip : Says false (IsOrdinary leaf.text leaf.places from to) → Says false (IsEmergency leaf from to) → AreFound (FitsIn faces leaf from room) (IsOrdinary leaf.text leaf.places from) (IsEmergency leaf from) from to f
    filled_skip so se = found_skip (FitsIn faces leaf from room) (IsOrdinary leaf.text leaf.places from) (IsEmergency leaf from) from at to f is.low less is.found between so se

    pub ends_chosen : room <ℤ r'.shown → IsOrdinary leaf.text leaf.places from to ⊎ IsEmergency leaf from to → IsLineEnd (FitsIn faces leaf from room) (IsOrdinary leaf.text leaf.places from) (IsEmergency leaf from) (chosen from to f)
    ends_chosen h some = end_chosen (FitsIn faces leaf from room) (IsOrdinary leaf.text leaf.places from) (IsEmergency leaf from) from at to f less is.found between (λ q o. ⊎_elim (λ (p : IsOrdinary leaf.text leaf.places from q). p.after) (λ (p : IsEmergency leaf from q). p.after) o) (misfits h) some

    pub stop_ordinary : (get_or leaf.text (to - 1) 0 ≡ 10) ⊎ (to ≡ length leaf.text) → IsOrdinary leaf.text leaf.places from to
    stop_ordinary s = record { after = begins; within = within; named = inl (is_stop s) }

    pub ends_there : (get_or leaf.text (to - 1) 0 ≡ 10) ⊎ (to ≡ length leaf.text) → r'.shown ≤ℤ room → IsLineEnd (FitsIn faces leaf from room) (IsOrdinary leaf.text leaf.places from) (IsEmergency leaf from) to
    ends_there s h = at_ordinary (stop_ordinary s) (fits_stop s h) (λ q o g. let w = o.within in let e = is_stop s in omega arith)

    -- a place at which something is found: a stop, or a place of the lists
    pub some_place : (st o e : Bool) → MatchBool st ((get_or leaf.text (to - 1) 0 ≡ 10) ⊎ (to ≡ length leaf.text)) ((get_or leaf.text (to - 1) 0 ≢ 10) × (to < length leaf.text)) → MatchBool o ((next < length leaf.places) × (get_or leaf.places next 0 ≡ to)) (next < length leaf.places → get_or leaf.places next 0 ≢ to) → MatchBool e ((next' < length some) × (get_or some next' 0 ≡ to)) (next' < length some → get_or some next' 0 ≢ to) → (st || o || e) ≡ true → IsOrdinary leaf.text leaf.places from to ⊎ IsEmergency leaf from to
    some_place true o e h i j k = inl (stop_ordinary h)
    some_place false true e h i j k = inl (says_ordinary h.0 h.1 true i)
    some_place false false true h i j k = inr (says_emergency h.0 h.1 true j)
    some_place false false false h i j k = absurd cc

-- what is known of a stretch and of the places after it
pub record Stretch (faces : List FontFace) (leaf : Leaf) (span : Span) (from : ℕ) (room : ℤ) (at to : ℕ) (r r' : LineWidth) (f : Found) (next next' : ℕ) (some : List ℕ) : Type 0 where
  pub here : (k : ℕ) → span.from ≤ k → k < span.to → span_at leaf.spans k ≡ Some span
  pub bound : IsCharBoundary leaf.text span.from
  pub ends_in : span.to ≤ length leaf.text
  pub few : length leaf.text < 2 ^ 32
  pub low : span.from ≤ at
  pub less : at < to
  pub high : to ≤ span.to
  pub is : IsFilled faces leaf from room at r f
  pub quiet : (k : ℕ) → at ≤ k → k + 1 < to → get_or leaf.text k 0 ≢ 10
  pub r_is : r' ≡ passed_to (byte_width (pen_of faces span) leaf.text (max from span.from)) leaf.text at (to - at) r
  pub least : pos 0 ≤ℤ r'.total
  pub most : r'.total ≤ℤ pos (2 ^ 27 * to)
  pub some_is : some ≡ cond (span.wrap && span.anywhere) leaf.graphemes []
  pub up : IsStrictlyIncreasing leaf.places
  pub up' : IsStrictlyIncreasing some
  pub nexts : IsNext leaf.places at next
  pub nexts' : IsNext some at next'
  pub below : next < length leaf.places → to ≤ get_or leaf.places next 0
  pub below' : next' < length some → to ≤ get_or some next' 0

module _ (faces : List FontFace) (leaf : Leaf) (span : Span) (from : ℕ) (room : ℤ) (at to : ℕ) (r r' : LineWidth) (f : Found) (next next' : ℕ) (some : List ℕ) (s : Stretch faces leaf span from room at to r r' f next next' some) where
  abbrev pub Stops : Bool → Type 0
  Stops b = MatchBool b ((get_or leaf.text (to - 1) 0 ≡ 10) ⊎ (to ≡ length leaf.text)) ((get_or leaf.text (to - 1) 0 ≢ 10) × (to < length leaf.text))

  abbrev pub Meets : List ℕ → ℕ → Bool → Type 0
  Meets xs n b = MatchBool b ((n < length xs) × (get_or xs n 0 ≡ to)) (n < length xs → get_or xs n 0 ≢ to)

  pub chosen_end : (st o e : Bool) → Stops st → Meets leaf.places next o → Meets some next' e → (st || o || e) ≡ true → room <ℤ r'.shown → IsLineEnd (FitsIn faces leaf from room) (IsOrdinary leaf.text leaf.places from) (IsEmergency leaf from) (chosen from to f)
  chosen_end st o e h i j k m = ends_chosen faces leaf span from room at to r r' f s.here s.ends_in s.low s.less s.high s.is s.quiet s.r_is next next' some s.some_is s.up s.up' s.nexts s.nexts' s.below s.below' m (some_place faces leaf span from room at to r r' f s.here s.ends_in s.low s.less s.high s.is s.quiet s.r_is next next' some s.some_is s.up s.up' s.nexts s.nexts' s.below s.below' st o e h i j k)

  pub stop_end : (st : Bool) → Stops st → st ≡ true → r'.shown ≤ℤ room → IsLineEnd (FitsIn faces leaf from room) (IsOrdinary leaf.text leaf.places from) (IsEmergency leaf from) to
  stop_end true h t m = ends_there faces leaf span from room at to r r' f s.here s.ends_in s.low s.less s.high s.is s.quiet s.r_is next next' some s.some_is s.up s.up' s.nexts s.nexts' s.below s.below' h m
  stop_end false h t m = absurd cc

  pub noted_filled : (st o e fit : Bool) (hyphen : ℕ) → Stops st → Meets leaf.places next o → Meets some next' e → (st || o || e) ≡ true → st ≡ false → hyphen ≡ cond (is_hyphened leaf.text to) (hyphen_width (pen_of faces span)) 0 → MatchBool fit ((r'.shown +ℤ pos hyphen) ≤ℤ room) (room <ℤ (r'.shown +ℤ pos hyphen)) → IsFilled faces leaf from room to r' (noted fit o e from to f)
  noted_filled true o e fit hyphen h i j k l w m = absurd cc
  noted_filled false o e fit hyphen h i j k l w m = filled_by faces leaf span from room at to r r' f s.here s.ends_in s.low s.less s.high s.is s.quiet s.r_is next next' some s.some_is s.up s.up' s.nexts s.nexts' s.below s.below' (noted fit o e from to f)
      (filled_noted faces leaf span from room at to r r' f s.here s.ends_in s.low s.less s.high s.is s.quiet s.r_is next next' some s.some_is s.up s.up' s.nexts s.nexts' s.below s.below' o e fit
      (says_ordinary faces leaf span from room at to r r' f s.here s.ends_in s.low s.less s.high s.is s.quiet s.r_is next next' some s.some_is s.up s.up' s.nexts s.nexts' s.below s.below' h.0 h.1 o i)
      (says_emergency faces leaf span from room at to r r' f s.here s.ends_in s.low s.less s.high s.is s.quiet s.r_is next next' some s.some_is s.up s.up' s.nexts s.nexts' s.below s.below' h.0 h.1 e j)
      (says_fits faces leaf span from room at to r r' f s.here s.ends_in s.low s.less s.high s.is s.quiet s.r_is s.bound fit hyphen w m) k) h.0 h.1 s.least s.most

  pub skipped_filled : (st o e : Bool) → Stops st → Meets leaf.places next o → Meets some next' e → (st || o || e) ≡ false → IsFilled faces leaf from room to r' f
  skipped_filled true o e h i j k = absurd cc
  skipped_filled false true e h i j k = absurd cc
  skipped_filled false false true h i j k = absurd cc
  skipped_filled false false false h i j k = filled_by faces leaf span from room at to r r' f s.here s.ends_in s.low s.less s.high s.is s.quiet s.r_is next next' some s.some_is s.up s.up' s.nexts s.nexts' s.below s.below' f
      (filled_skip faces leaf span from room at to r r' f s.here s.ends_in s.low s.less s.high s.is s.quiet s.r_is next next' some s.some_is s.up s.up' s.nexts s.nexts' s.below s.below'
      (says_ordinary faces leaf span from room at to r r' f s.here s.ends_in s.low s.less s.high s.is s.quiet s.r_is next next' some s.some_is s.up s.up' s.nexts s.nexts' s.below s.below' h.0 h.1 false i)
      (says_emergency faces leaf span from room at to r r' f s.here s.ends_in s.low s.less s.high s.is s.quiet s.r_is next next' some s.some_is s.up s.up' s.nexts s.nexts' s.below s.below' h.0 h.1 false j)) h.0 h.1 s.least s.most

  pub shown_bounds : (pos 0 ≤ℤ r'.shown) × (r'.shown ≤ℤ pos (2 ^ 60))
  shown_bounds =
      let i = shown_behind faces leaf span from room at to r r' f s.here s.ends_in s.low s.less s.high s.is s.quiet s.r_is in
      let t = i.total in
      let n = i.shown in
      let m = s.most in
      let c = s.ends_in in
      let b = s.few in
      let h = s.high in
      let l : shown_len leaf.text from (to - from) ≤ to - from = shown-le leaf.text from (to - from) in
      let d : shown_len leaf.text from (to - from) + ((to - from) - shown_len leaf.text from (to - from)) ≡ to - from = omega arith in
      let w : sum_from (unit_at faces leaf from) from (shown_len leaf.text from (to - from)) ≤ sum_from (unit_at faces leaf from) from (to - from) = rw d at (sum_from-le (unit_at faces leaf from) from (shown_len leaf.text from (to - from)) ((to - from) - shown_len leaf.text from (to - from))) in
      (omega (arith, ints), omega (arith, ints))
