-- The stops after a stop, measured from where its line begins, are the rest of the paragraph.
use Rattle.std.proofs.Common.{◌≡◌, ℕ, suc, zero, ◌+◌, ◌-◌, ◌<◌, ◌≤◌, inl, inr, List, [], ◌∷◌, length, drop, map, get_or, refl, sym, ◌∙◌, ap, arith, ℤ, pos, ◌+ℤ◌, ◌-ℤ◌, eqb}
use Rattle.std.proofs.lemmas.Bool.{cases_eq, cond-false, ne_eqb}
use Rattle.std.proofs.lemmas.Int.{ints, clamps}
use Rattle.std.proofs.lemmas.List.{get_or-drop, length-drop, length-map}
use Rattle.std.specs.Int.{int_max}
use Rattle.total_fit.specs.declared.plan.Stop.{Stop}
use Rattle.total_fit.specs.Laws.{AreRestAfter}
use Rattle.total_fit.specs.Lines.{begin_of, hyphen_cost, no_stop, stop_of, width_of}
use Rattle.total_fit.specs.Rests.{stop_from, stops_after}

-- an element of a mapped list
at-map : (f : Stop → Stop) (ss : List Stop) (k : ℕ) (d e : Stop) → k < length ss → get_or (map f ss) k d ≡ f (get_or ss k e)
at-map f [] k d e l = absurd (omega arith)
at-map f (s ∷ ss) zero d e l = refl
at-map f (s ∷ ss) (suc k) d e l = at-map f ss k d e (omega arith)

-- the stop with one number is the stop with another
pub stop-after : (ss : List Stop) (e j : ℕ) → 0 < e → 0 < j → e + j ≤ length ss →
    stop_of (stops_after ss e) j ≡ stop_from (stop_of ss e).next (stop_of ss (e + j))
stop-after ss e j some more w =
    let l : j - 1 < length (drop e ss) = simp length-drop (omega arith) in
    let n : e + (j - 1) ≡ e + j - 1 = omega arith in
    at-map (stop_from (stop_of ss e).next) (drop e ss) (j - 1) no_stop no_stop l
    ∙ ap (stop_from (stop_of ss e).next) (get_or-drop e ss (j - 1) no_stop ∙ ap (λ (z : ℕ). get_or ss z no_stop) n)

pub length-after : (ss : List Stop) (e : ℕ) → length (stops_after ss e) ≡ length ss - e
length-after ss e = simp (length-map, length-drop)

-- where a line begins
begin-zero : (ss : List Stop) → begin_of ss 0 ≡ pos 0
begin-zero ss = refl

begin-some : (ss : List Stop) (i : ℕ) → 0 < i → begin_of ss i ≡ (stop_of ss i).next
begin-some ss i some = cond-false (eqb i 0) (pos 0) (stop_of ss i).next (ne_eqb i 0 (λ e. omega arith))

begin-after : (ss : List Stop) (e i : ℕ) → 0 < e → e + i ≤ length ss →
    begin_of (stops_after ss e) i ≡ begin_of ss (e + i) -ℤ (stop_of ss e).next
begin-after ss e i some w = elim (cases_eq i 0) [
  | inl z ↦ rw z (let n : e + 0 ≡ e = omega arith in rw n (rw (begin-some ss e some) (omega (arith, ints))))
  | inr ne ↦ (let p : 0 < i = omega arith in let q : 0 < e + i = omega arith in
      begin-some (stops_after ss e) i p ∙ ap (λ (s : Stop). s.next) (stop-after ss e i some p w)
      ∙ ap (λ (z : ℤ). z -ℤ (stop_of ss e).next) (sym (begin-some ss (e + i) q)))
]

same-width : (seen hyphen begin by : ℤ) → int_max (pos 0) (((seen -ℤ by) +ℤ hyphen) -ℤ (begin -ℤ by)) ≡ int_max (pos 0) ((seen +ℤ hyphen) -ℤ begin)
same-width seen hyphen begin by = omega (arith, ints, clamps)

pub width-after : (ss : List Stop) (e i j : ℕ) → 0 < e → i < j → e + j ≤ length ss →
    width_of (stops_after ss e) i j ≡ width_of ss (e + i) (e + j)
unfolding width_of
width-after ss e i j some l w =
    let b = begin-after ss e i some (omega arith) in
    let s = stop-after ss e j some (omega arith) w in
    rw (b, s) (same-width (stop_of ss (e + j)).seen (stop_of ss (e + j)).hyphen (begin_of ss (e + i)) (stop_of ss e).next)

pub rest-after : AreRestAfter
rest-after ss e some w =
    let n = length-after ss e in
    record {
      some = some;
      count = omega (arith, n);
      widths = λ i j l m. width-after ss e i j some l (omega (arith, n));
      hyphens = λ j l m. ap (λ (s : Stop). hyphen_cost s.hyphen) (stop-after ss e j some l (omega (arith, n)));
    }
