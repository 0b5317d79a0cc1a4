-- What is left of the best plan of a paragraph's lines, after one of them.
use Rattle.std.proofs.Common.{◌≡◌, ℕ, zero, suc, ◌+◌, ◌-◌, ◌<◌, ◌≤◌, true, ℤ, pos, ◌-ℤ◌, ◌&&◌, List, [], ◌∷◌, length, get_or, drop, drop-cons, map, Option, None, Some, refl, sym, ◌∙◌, ap, subst, arith}
use Rattle.std.proofs.lemmas.Bool.{and_from, cond-true, cond_both, ne_eqb}
use Rattle.std.proofs.lemmas.Int.{ints}
use Rattle.std.proofs.lemmas.List.{drop-drop, drop-map, get_or-drop, get_or-map, length-drop}
use Rattle.std.specs.Str.{IsCharBoundary, IsUtf8}
use Rattle.line_fill.proofs.OffsetLemmas.{stops-count}
use Rattle.metrics.specs.Face.{FontFace}
use Rattle.metrics.specs.Widths.{char_at, has_width, is_lead, sum_from}
use Rattle.boxes.specs.Contents.{IsGoodLeaf}
use Rattle.boxes.specs.declared.leaf.Leaf.{Leaf}
use Rattle.line_fill.specs.Breaks.{indent_of, line_measure, shown_len, stop_of}
use Rattle.line_fill.specs.LineEnd.{IsEnd, at_plan}
use Rattle.line_fill.specs.Rests.{IsRestOfPlan, RestOfPlanIsPlan, begins_plain}
use Rattle.line_fill.specs.Stops.{first_wide, measures_of, next_of, offsets_of, stop_at, stops_of}
use Rattle.line_fill.specs.Widths.{unit_at}
use Rattle.line_fill.proofs.LaterLemmas.{IsLater, later-at, stop-most, stop-same}
use Rattle.line_fill.proofs.PlainLemmas.{IsPlain, plain-at}
use Rattle.line_fill.proofs.ShiftLemmas.{shown-later, shown-some, sum-later, unit-later}
use Rattle.total_fit.specs.declared.plan.Stop.{Stop}
use Rattle.total_fit.specs.declared.plan.Measures.{Measures}
use Rattle.total_fit.specs.Lines.{no_stop}
use Rattle.total_fit.specs.Plans.{IsBest, IsPlan}
use Rattle.total_fit.specs.Rests.{ends_after, measures_after, stop_from, stops_after}
use Rattle.total_fit.proofs.PlanLemmas.{plan-within}
use Rattle.total_fit.proofs.SuffixLemmas.{rest-of-best}

-- the first character with a width
wide-here : (text : List ℕ) (to n : ℕ) → IsPlain text to → first_wide text to (suc n) ≡ Some to
wide-here text to n plain =
    cond-true (is_lead (get_or text to 0) && has_width (char_at text to)) (Some to) (first_wide text (suc to) n)
    (and_from (is_lead (get_or text to 0)) (has_width (char_at text to)) plain.lead plain.wide)

wide-after : (text : List ℕ) (a n k : ℕ) → first_wide text a n ≡ Some k → a ≤ k
wide-after text a zero k e = absurd cc
wide-after text a (suc n) k e =
    cond_both (is_lead (get_or text a 0) && has_width (char_at text a)) (Some a) (first_wide text (suc a) n)
    (λ (o : Option ℕ). o ≡ Some k → a ≤ k)
    (λ t f. let g : a ≡ k = cc in omega arith)
    (λ t f. let g = wide-after text (suc a) n k f in omega arith) e

shift : (s t : Stop) (by : ℤ) → s.seen ≡ t.seen -ℤ by → s.hyphen ≡ t.hyphen → s.next ≡ t.next -ℤ by → s ≡ stop_from by t
shift s t by seen hyphen next = λ i. record { seen = seen i; hyphen = hyphen i; next = next i }

-- the numbers of a later stop, where a line begins plain at the place d bytes on
module _ (faces : List FontFace) (leaf : Leaf) (from d : ℕ) (plain : IsPlain leaf.text (from + d)) where
  -- where the line begins that begins there
  gap : ℤ
  gap = pos (sum_from (unit_at faces leaf from) from d + unit_at faces leaf from (from + d)) -ℤ pos (unit_at faces leaf (from + d) (from + d))

  same-units : (k : ℕ) → from + d < k → unit_at faces leaf from k ≡ unit_at faces leaf (from + d) k
  same-units k l = unit-later faces leaf from (from + d) k (char_at leaf.text (from + d)) plain.begun plain.paired (omega arith) l

  sum-gap : (m : ℕ) → 1 ≤ m →
      pos (sum_from (unit_at faces leaf (from + d)) (from + d) m) ≡ pos (sum_from (unit_at faces leaf from) from (d + m)) -ℤ gap
  unfolding gap
  sum-gap zero l = absurd (omega arith)
  sum-gap (suc m) l =
      let e = sum-later (unit_at faces leaf from) (unit_at faces leaf (from + d)) from d same-units m in
      omega (arith, ints, e)

  seen-gap : (n : ℕ) →
      pos (sum_from (unit_at faces leaf (from + d)) (from + d) (shown_len leaf.text (from + d) (suc n)))
      ≡ pos (sum_from (unit_at faces leaf from) from (shown_len leaf.text from (d + suc n))) -ℤ gap
  seen-gap n =
      sum-gap (shown_len leaf.text (from + d) (suc n)) (shown-some leaf.text from d plain.space plain.newline n)
      ∙ ap (λ (m : ℕ). pos (sum_from (unit_at faces leaf from) from m) -ℤ gap) (sym (shown-later leaf.text from d plain.space plain.newline n))

  next-gap : (q : ℕ) (o : Option ℕ) → from + d < q → ((k : ℕ) → o ≡ Some k → q ≤ k) →
      next_of faces leaf (from + d) q o ≡ next_of faces leaf from q o -ℤ gap
  next-gap q None l h =
      let i : d + (q - (from + d)) ≡ q - from = omega arith in
      subst (λ (m : ℕ). pos (sum_from (unit_at faces leaf (from + d)) (from + d) (q - (from + d))) ≡ pos (sum_from (unit_at faces leaf from) from m) -ℤ gap) i
      (sum-gap (q - (from + d)) (omega arith))
  next-gap q (Some k) l h =
      let g = h k refl in
      let i : d + (suc k - (from + d)) ≡ suc k - from = omega arith in
      let e : pos (sum_from (unit_at faces leaf (from + d)) (from + d) (suc k - (from + d))) ≡ pos (sum_from (unit_at faces leaf from) from (suc k - from)) -ℤ gap =
      subst (λ (m : ℕ). pos (sum_from (unit_at faces leaf (from + d)) (from + d) (suc k - (from + d))) ≡ pos (sum_from (unit_at faces leaf from) from m) -ℤ gap) i
      (sum-gap (suc k - (from + d)) (omega arith)) in
      omega (arith, ints, e)

  own-next : from + d < stop_of leaf.text from → (stop_at faces leaf from (from + d)).next ≡ gap
  unfolding gap stop_at
  own-next l =
      let n : suc (stop_of leaf.text from - suc (from + d)) ≡ stop_of leaf.text from - (from + d) = omega arith in
      let w : first_wide leaf.text (from + d) (stop_of leaf.text from - (from + d)) ≡ Some (from + d) =
      subst (λ (m : ℕ). first_wide leaf.text (from + d) m ≡ Some (from + d)) n
      (wide-here leaf.text (from + d) (stop_of leaf.text from - suc (from + d)) plain) in
      let i : suc (from + d) - from ≡ suc d = omega arith in
      ap (next_of faces leaf from (from + d)) w
      ∙ ap (λ (m : ℕ). pos (sum_from (unit_at faces leaf from) from m) -ℤ pos (unit_at faces leaf (from + d) (from + d))) i

  stop-gap : (q : ℕ) → from + d < stop_of leaf.text from → from + d < q →
      stop_at faces leaf (from + d) q ≡ stop_from gap (stop_at faces leaf from q)
  unfolding stop_at
  stop-gap q high l =
      let same : stop_of leaf.text (from + d) ≡ stop_of leaf.text from = stop-same leaf.text from (from + d) (omega arith) high in
      let i : suc (q - suc (from + d)) ≡ q - (from + d) = omega arith in
      let j : d + suc (q - suc (from + d)) ≡ q - from = omega arith in
      let seen : pos (sum_from (unit_at faces leaf (from + d)) (from + d) (shown_len leaf.text (from + d) (q - (from + d))))
      ≡ pos (sum_from (unit_at faces leaf from) from (shown_len leaf.text from (q - from))) -ℤ gap =
      ap (λ (m : ℕ). pos (sum_from (unit_at faces leaf (from + d)) (from + d) (shown_len leaf.text (from + d) m))) (sym i)
      ∙ seen-gap (q - suc (from + d))
      ∙ ap (λ (m : ℕ). pos (sum_from (unit_at faces leaf from) from (shown_len leaf.text from m)) -ℤ gap) j in
      let next : next_of faces leaf (from + d) q (first_wide leaf.text q (stop_of leaf.text (from + d) - q))
      ≡ next_of faces leaf from q (first_wide leaf.text q (stop_of leaf.text from - q)) -ℤ gap =
      ap (λ (s : ℕ). next_of faces leaf (from + d) q (first_wide leaf.text q (s - q))) same
      ∙ next-gap q (first_wide leaf.text q (stop_of leaf.text from - q)) l (λ k. wide-after leaf.text q (stop_of leaf.text from - q) k) in
      shift (stop_at faces leaf (from + d) q) (stop_at faces leaf from q) gap seen refl next

-- the same at a place
abbrev IsShifted : List FontFace → Leaf → ℕ → ℕ → ℕ → Type 0
IsShifted faces leaf from q to = stop_at faces leaf to q ≡ stop_from (stop_at faces leaf from to).next (stop_at faces leaf from q)

stop-shifted : (faces : List FontFace) (leaf : Leaf) (from d q : ℕ) → IsPlain leaf.text (from + d) → from + d < stop_of leaf.text from → from + d < q →
    IsShifted faces leaf from q (from + d)
stop-shifted faces leaf from d q plain high l =
    stop-gap faces leaf from d plain q high l
    ∙ ap (λ (by : ℤ). stop_from by (stop_at faces leaf from q)) (sym (own-next faces leaf from d plain high))

stop-later : (faces : List FontFace) (leaf : Leaf) (from to q : ℕ) → IsPlain leaf.text to → from ≤ to → to < stop_of leaf.text from → to < q →
    IsShifted faces leaf from q to
stop-later faces leaf from to q plain low high l =
    let i : from + (to - from) ≡ to = omega arith in
    subst (IsShifted faces leaf from q) i
    (stop-shifted faces leaf from (to - from) q (subst (IsPlain leaf.text) (sym i) plain) (omega arith) (omega arith))

-- maps that agree
map-agree : (f : ℕ → Stop) (h : Stop → Stop) (g : ℕ → Stop) (xs : List ℕ) → ((k : ℕ) → k < length xs → f (get_or xs k 0) ≡ h (g (get_or xs k 0))) →
    map f xs ≡ map h (map g xs)
map-agree f h g [] same = refl
map-agree f h g (x ∷ xs) same =
    let one : f x ≡ h (g x) = same 0 (omega arith) in
    let more = map-agree f h g xs (λ k l. same (suc k) (omega arith)) in
    ap (λ (y : Stop). y ∷ map f xs) one ∙ ap (λ (ys : List Stop). h (g x) ∷ ys) more

-- the stops of what is left are the later ones, measured from there
stops-later : (faces : List FontFace) (leaf : Leaf) (from to j : ℕ) → IsPlain leaf.text to → IsLater (IsCharBoundary leaf.text) leaf from to j →
    j < length (offsets_of leaf from) → to ≡ get_or (offsets_of leaf from) j 0 →
    stops_of faces leaf to ≡ stops_after (stops_of faces leaf from) (suc j)
unfolding stops_of
stops-later faces leaf from to j plain is l e =
    let low = is.after_from in
    let i : suc j - 1 ≡ j = omega arith in
    let here : get_or (map (stop_at faces leaf from) (offsets_of leaf from)) (suc j - 1) no_stop ≡ stop_at faces leaf from to =
    ap (λ (k : ℕ). get_or (map (stop_at faces leaf from) (offsets_of leaf from)) k no_stop) i
    ∙ get_or-map (stop_at faces leaf from) (offsets_of leaf from) j 0 no_stop l
    ∙ ap (stop_at faces leaf from) (sym e) in
    map-agree (stop_at faces leaf to) (stop_from (stop_at faces leaf from to).next) (stop_at faces leaf from) (offsets_of leaf to)
    (λ k g. stop-later faces leaf from to (get_or (offsets_of leaf to) k 0) plain (omega arith) is.before (is.later k g))
    ∙ ap (λ (xs : List ℕ). map (stop_from (stop_at faces leaf from to).next) (map (stop_at faces leaf from) xs)) is.offsets
    ∙ ap (map (stop_from (stop_at faces leaf from to).next)) (sym (drop-map (stop_at faces leaf from) (suc j) (offsets_of leaf from)))
    ∙ ap (λ (s : Stop). map (stop_from s.next) (drop (suc j) (map (stop_at faces leaf from) (offsets_of leaf from)))) (sym here)

-- no later line is the leaf's first
measures-later : (leaf : Leaf) (from to : ℕ) (measure : ℤ) → 0 < to → measures_of leaf to measure ≡ measures_after (measures_of leaf from measure)
unfolding measures_of line_measure indent_of
measures-later leaf from to measure some =
    let e = ne_eqb to 0 (λ z. omega arith) in
    let f : measure -ℤ pos 0 ≡ measure = omega (arith, ints) in
    rw (e, f) refl

-- the place after a line of a plan that isn't the last one
module _ (faces : List FontFace) (leaf : Leaf) (from : ℕ) (measure : ℤ) (to e next : ℕ) (ends : List ℕ) (good : IsGoodLeaf leaf)
    (best : IsBest (stops_of faces leaf from) (measures_of leaf from measure) (e ∷ next ∷ ends)) (at : to ≡ get_or (offsets_of leaf from) (e - 1) 0) where
  plan : IsPlan (stops_of faces leaf from) (measures_of leaf from measure) (e ∷ next ∷ ends)
  plan = best.plan

  counted : suc (e - 1) ≡ e
  counted = let p = plan.0 in omega arith

  many : e < length (offsets_of leaf from)
  many =
      let p = plan.2.0 in
      let w = plan-within (stops_of faces leaf from) (measures_of leaf from measure) next ends plan.2.2 in
      let n = stops-count faces leaf from in
      omega (arith, p, w, n)

  later : IsLater (IsCharBoundary leaf.text) leaf from to (e - 1)
  later = later-at (IsCharBoundary leaf.text) leaf from to (e - 1) good.places.ascend good.places.stand (rw counted many) at

  after-plan : from < to
  after-plan = later.after_from

  inside : to < length leaf.text
  inside = stop-most leaf.text from to (let l = after-plan in omega arith) later.before

  plain-here : IsUtf8 leaf.text → begins_plain leaf.text to ≡ true → IsPlain leaf.text to
  plain-here utf8 plain = plain-at leaf.text to plain utf8 later.holds inside

  stops-here : IsPlain leaf.text to → stops_of faces leaf to ≡ stops_after (stops_of faces leaf from) e
  stops-here plain =
      subst (λ (n : ℕ). stops_of faces leaf to ≡ stops_after (stops_of faces leaf from) n) counted
      (stops-later faces leaf from to (e - 1) plain later (let m = many in omega arith) at)

  pub rest-best : IsUtf8 leaf.text → begins_plain leaf.text to ≡ true → IsBest (stops_of faces leaf to) (measures_of leaf to measure) (ends_after e (next ∷ ends))
  rest-best utf8 plain =
      subst (λ (m : Measures). IsBest (stops_of faces leaf to) m (ends_after e (next ∷ ends)))
      (sym (measures-later leaf from to measure (let l = after-plan in omega arith)))
      (subst (λ (ss : List Stop). IsBest ss (measures_after (measures_of leaf from measure)) (ends_after e (next ∷ ends)))
      (sym (stops-here (plain-here utf8 plain)))
      (rest-of-best (stops_of faces leaf from) (measures_of leaf from measure) e (next ∷ ends) best))

  pub rest-offsets : offsets_of leaf to ≡ drop e (offsets_of leaf from)
  rest-offsets = subst (λ (n : ℕ). offsets_of leaf to ≡ drop n (offsets_of leaf from)) counted later.offsets

  pub rest-stands : (from < to) × (to < length leaf.text) × IsCharBoundary leaf.text to
  rest-stands = (after-plan, inside, later.holds)

ends-none : (ends : List ℕ) → ends_after 0 ends ≡ ends
ends-none [] = refl
ends-none (j ∷ js) = let e : j - 0 ≡ j = omega arith in rw e (ap (λ (ks : List ℕ). j ∷ ks) (ends-none js))

ends-twice : (last e : ℕ) (ends : List ℕ) → last ≤ e → ends_after (e - last) (ends_after last ends) ≡ ends_after e ends
ends-twice last e [] l = refl
ends-twice last e (j ∷ js) l =
    let i : j - last - (e - last) ≡ j - e = omega arith in
    rw i (ap (λ (ks : List ℕ). (j - e) ∷ ks) (ends-twice last e js l))

-- a plan is what is left of it before its first line
pub rest-begins : (faces : List FontFace) (leaf : Leaf) (from : ℕ) (measure : ℤ) (ends : List ℕ) →
    IsBest (stops_of faces leaf from) (measures_of leaf from measure) ends → IsRestOfPlan faces leaf from measure 0 from ends
rest-begins faces leaf from measure ends best = record {
  best = subst (IsBest (stops_of faces leaf from) (measures_of leaf from measure)) (sym (ends-none ends)) best;
  offsets = refl;
}

-- where the first line of what is left of a plan ends
module _ (faces : List FontFace) (leaf : Leaf) (from : ℕ) (measure : ℤ) (last at e : ℕ) (ends : List ℕ)
    (is : IsRestOfPlan faces leaf from measure last at (e ∷ ends)) where
  end-after : last < e
  end-after = let p = is.best.plan.0 in omega arith

  end-here : get_or (offsets_of leaf from) (e - 1) 0 ≡ get_or (offsets_of leaf at) (e - last - 1) 0
  end-here =
      let l = end-after in
      let i : last + (e - last - 1) ≡ e - 1 = omega arith in
      sym (ap (λ (xs : List ℕ). get_or xs (e - last - 1) 0) is.offsets ∙ get_or-drop last (offsets_of leaf from) (e - last - 1) 0
      ∙ ap (λ (k : ℕ). get_or (offsets_of leaf from) k 0) i)

  pub rest-few : length (stops_of faces leaf at) ≤ length (stops_of faces leaf from)
  rest-few =
      let m = stops-count faces leaf at in
      let n = stops-count faces leaf from in
      let k : length (offsets_of leaf at) ≡ length (offsets_of leaf from) - last = ap length is.offsets ∙ length-drop last (offsets_of leaf from) in
      omega (arith, m, n, k)

  -- it is the line that begins there
  pub rest-line : leaf.fit ≡ true → length (stops_of faces leaf from) ≤ 4096 →
      IsEnd faces leaf at measure (get_or (offsets_of leaf from) (e - 1) 0)
  rest-line fit few = at_plan fit (let f = rest-few in omega arith) (e - last) (ends_after last ends) is.best end-here

-- where it ends if it isn't the last one
pub rest-place : (faces : List FontFace) (leaf : Leaf) (from : ℕ) (measure : ℤ) (last at e next : ℕ) (ends : List ℕ) → IsGoodLeaf leaf →
    IsRestOfPlan faces leaf from measure last at (e ∷ next ∷ ends) →
    (at < get_or (offsets_of leaf from) (e - 1) 0) × (get_or (offsets_of leaf from) (e - 1) 0 < length leaf.text)
    × IsCharBoundary leaf.text (get_or (offsets_of leaf from) (e - 1) 0)
rest-place faces leaf from measure last at e next ends good is =
    rest-stands faces leaf at measure (get_or (offsets_of leaf from) (e - 1) 0) (e - last) (next - last) (ends_after last ends) good is.best
    (end-here faces leaf from measure last at e (next ∷ ends) is)

pub rest-is-plan : RestOfPlanIsPlan
rest-is-plan faces leaf from measure last at e next ends good utf8 is plain =
    let l = end-after faces leaf from measure last at e (next ∷ ends) is in
    let here = end-here faces leaf from measure last at e (next ∷ ends) is in
    let i : last + (e - last) ≡ e = omega arith in
    record {
      best = subst (IsBest (stops_of faces leaf (get_or (offsets_of leaf from) (e - 1) 0)) (measures_of leaf (get_or (offsets_of leaf from) (e - 1) 0) measure))
          (ends-twice last e (next ∷ ends) (omega arith))
          (rest-best faces leaf at measure (get_or (offsets_of leaf from) (e - 1) 0) (e - last) (next - last) (ends_after last ends) good is.best here utf8 plain);
      offsets = rest-offsets faces leaf at measure (get_or (offsets_of leaf from) (e - 1) 0) (e - last) (next - last) (ends_after last ends) good is.best here
          ∙ ap (drop (e - last)) is.offsets ∙ drop-drop (e - last) last (offsets_of leaf from)
          ∙ ap (λ (k : ℕ). drop k (offsets_of leaf from)) i;
    }

-- the same where a plan's ends are taken by their index
module _ (faces : List FontFace) (leaf : Leaf) (from : ℕ) (measure : ℤ) (last at i : ℕ) (ends : List ℕ)
    (is : IsRestOfPlan faces leaf from measure last at (drop i ends)) where
  taken : i < length ends → IsRestOfPlan faces leaf from measure last at (get_or ends i 0 ∷ drop (suc i) ends)
  taken h = subst (IsRestOfPlan faces leaf from measure last at) (drop-cons ends i 0 h) is

  taken-twice : i + 1 < length ends →
      IsRestOfPlan faces leaf from measure last at (get_or ends i 0 ∷ get_or ends (suc i) 0 ∷ drop (suc (suc i)) ends)
  taken-twice h =
      subst (λ (js : List ℕ). IsRestOfPlan faces leaf from measure last at (get_or ends i 0 ∷ js)) (drop-cons ends (suc i) 0 (omega arith))
      (taken (omega arith))

  -- the line that begins there
  pub line-at : i < length ends → leaf.fit ≡ true → length (stops_of faces leaf from) ≤ 4096 →
      IsEnd faces leaf at measure (get_or (offsets_of leaf from) (get_or ends i 0 - 1) 0)
  line-at h fit few = rest-line faces leaf from measure last at (get_or ends i 0) (drop (suc i) ends) (taken h) fit few

  -- where it ends if it isn't the last one
  pub place-at : IsGoodLeaf leaf → i + 1 < length ends →
      (at < get_or (offsets_of leaf from) (get_or ends i 0 - 1) 0)
      × (get_or (offsets_of leaf from) (get_or ends i 0 - 1) 0 < length leaf.text)
      × IsCharBoundary leaf.text (get_or (offsets_of leaf from) (get_or ends i 0 - 1) 0)
  place-at good h =
      rest-place faces leaf from measure last at (get_or ends i 0) (get_or ends (suc i) 0) (drop (suc (suc i)) ends) good (taken-twice h)

  -- and what is left after it
  pub rest-at : IsGoodLeaf leaf → IsUtf8 leaf.text → i + 1 < length ends →
      begins_plain leaf.text (get_or (offsets_of leaf from) (get_or ends i 0 - 1) 0) ≡ true →
      IsRestOfPlan faces leaf from measure (get_or ends i 0) (get_or (offsets_of leaf from) (get_or ends i 0 - 1) 0) (drop (i + 1) ends)
  rest-at good utf8 h plain =
      let n : suc i ≡ i + 1 = omega arith in
      let r = rest-is-plan faces leaf from measure last at (get_or ends i 0) (get_or ends (suc i) 0) (drop (suc (suc i)) ends) good utf8 (taken-twice h) plain in
      subst (IsRestOfPlan faces leaf from measure (get_or ends i 0) (get_or (offsets_of leaf from) (get_or ends i 0 - 1) 0))
      (sym (drop-cons ends (suc i) 0 (omega arith)) ∙ ap (λ (k : ℕ). drop k ends) n) r
