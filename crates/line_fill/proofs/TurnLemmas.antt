-- This pass becomes the pass before.
use Rattle.std.proofs.Common.{◌≡◌, ◌≢◌, ℕ, zero, suc, ◌+◌, ◌<◌, ◌≤◌, ◌⊎◌, inl, inr, List, [], ◌∷◌, Option, Some, None, Bool, true, false, cond, get_or, length, map, slice_get, arith, refl, sym, ◌∙◌, ap, subst}
use Rattle.std.specs.Prelude.{slice_set}
use Rattle.std.specs.List.{filter}
use Rattle.std.proofs.lemmas.Bool.{cases_lt}
use Rattle.std.proofs.lemmas.List.{length-set}
use Rattle.std.proofs.lemmas.Option.{slice_get_within, slice_get-get_or, same_Some, none-some}
use Rattle.bk_num.proofs.ListLemmas.{set-get}
use Rattle.metrics.specs.Face.{FontFace}
use Rattle.line_fill.specs.LineEnd.{IsLine}
use Rattle.line_fill.specs.Kept.{AreKept, Asked, HasTurned, KeepsPlaces, Stands}
use Rattle.line_fill.specs.KeptLines.{AreRising, before_of, is_asked, is_now, is_past, is_this}
use Rattle.line_fill.specs.KeptSearch.{IsLast}
use Rattle.line_fill.specs.KeptSound.{IsSoundBy}
use Rattle.line_fill.specs.KeptSteps.{AreTurned, AreTurnedTo, IsTurned, turned_lines}
use Rattle.line_fill.specs.declared.kept.KeptLeaf.{KeptLeaf}
use Rattle.line_fill.specs.declared.lines.KeptLine.{KeptLine}
use Rattle.line_fill.specs.declared.lines.Pass.{Pass}
use Rattle.line_fill.specs.declared.lines.Pass.TheVariants.{Now, Before, Ahead}
use Rattle.line_fill.proofs.SameLemmas.{print_same}

-- a line of this pass is asked for
this-past : (p : Pass) → is_this p ≡ true → is_past p ≡ true
this-past Now e = refl
this-past Before e = refl
this-past Ahead e = e

now-asked : (l : KeptLine) → is_now l ≡ true → is_asked l ≡ true
now-asked l e = this-past l.pass e

-- where a line of this pass stood
pub record Was (xs : List KeptLine) (y : KeptLine) : Type 0 where
  pub place : ℕ
  pub line : KeptLine
  pub there : slice_get xs place ≡ Some line
  pub now_is : is_now line ≡ true
  pub is : y ≡ before_of line

was_more : (x : KeptLine) (xs : List KeptLine) (y : KeptLine) → Was xs y → Was (x ∷ xs) y
was_more x xs y w = record { place = suc w.place; line = w.line; there = w.there; now_is = w.now_is; is = w.is }

pub turn_get : (xs : List KeptLine) (k : ℕ) (y : KeptLine) → slice_get (turned_lines xs) k ≡ Some y → Was xs y
turn_get [] k y e = absurd (none-some _ e)
turn_get (x ∷ xs) k y e = by (is_now x) refl k e (λ k' e'. turn_get xs k' y e')
  where
    by : (b : Bool) → is_now x ≡ b → (k : ℕ) → slice_get (map before_of (cond b (x ∷ filter is_now xs) (filter is_now xs))) k ≡ Some y → ((k' : ℕ) → slice_get (turned_lines xs) k' ≡ Some y → Was xs y) → Was (x ∷ xs) y
    by true n zero e' rest = record { place = zero; line = x; there = refl; now_is = n; is = same_Some _ _ (sym e') }
    by true n (suc k') e' rest = was_more x xs y (rest k' e')
    by false n k' e' rest = was_more x xs y (rest k' e')

pub get_turn : (xs : List KeptLine) (j : ℕ) (x : KeptLine) → slice_get xs j ≡ Some x → is_now x ≡ true → (k : ℕ) × (slice_get (turned_lines xs) k ≡ Some (before_of x))
get_turn [] j x e n = absurd (none-some _ e)
get_turn (z ∷ zs) zero x e n =
    let s : z ≡ x = same_Some _ _ e in
    let m : is_now z ≡ true = ap is_now s ∙ n in
    (zero, subst (λ (b : Bool). slice_get (map before_of (cond b (z ∷ filter is_now zs) (filter is_now zs))) zero ≡ Some (before_of x)) (sym m) (ap (λ (v : KeptLine). Some (before_of v)) s))
get_turn (z ∷ zs) (suc j) x e n = let r = get_turn zs j x e n in by (is_now z) refl r.0 r.1
  where
    by : (b : Bool) → is_now z ≡ b → (k : ℕ) → slice_get (turned_lines zs) k ≡ Some (before_of x) → (k : ℕ) × (slice_get (turned_lines (z ∷ zs)) k ≡ Some (before_of x))
    by true m k f = (suc k, subst (λ (b : Bool). slice_get (map before_of (cond b (z ∷ filter is_now zs) (filter is_now zs))) (suc k) ≡ Some (before_of x)) (sym m) f)
    by false m k f = (k, subst (λ (b : Bool). slice_get (map before_of (cond b (z ∷ filter is_now zs) (filter is_now zs))) k ≡ Some (before_of x)) (sym m) f)

tail_rise : (x : KeptLine) (xs : List KeptLine) → AreRising (x ∷ xs) → AreRising xs
tail_rise x xs up = λ i j a b h e f. up (suc i) (suc j) a b (omega arith) e f

pub rising_turn : (xs : List KeptLine) → AreRising xs → AreRising (turned_lines xs)
rising_turn [] up = λ i j a b h e f. absurd (none-some _ e)
rising_turn (x ∷ xs) up = by (rising_turn xs (tail_rise x xs up)) (is_now x) refl
  where
    first : AreRising (turned_lines xs) → (i j : ℕ) (a b : KeptLine) → i < j → slice_get (before_of x ∷ turned_lines xs) i ≡ Some a → slice_get (before_of x ∷ turned_lines xs) j ≡ Some b → a.line.from < b.line.from
    first rest zero zero a b h e f = absurd (omega arith)
    first rest zero (suc j) a b h e f =
        let w = turn_get xs j b f in
        let r = up zero (suc w.place) x w.line (omega arith) refl w.there in
        let s : a.line.from ≡ x.line.from = ap (λ (v : KeptLine). v.line.from) (sym (same_Some _ _ e)) in
        let t : b.line.from ≡ w.line.line.from = ap (λ (v : KeptLine). v.line.from) w.is in
        omega (arith, r, s, t)
    first rest (suc i) zero a b h e f = absurd (omega arith)
    first rest (suc i) (suc j) a b h e f = rest i j a b (omega arith) e f

    by : AreRising (turned_lines xs) → (b : Bool) → is_now x ≡ b → AreRising (map before_of (cond (is_now x) (x ∷ filter is_now xs) (filter is_now xs)))
    by rest true m = subst (λ (b : Bool). AreRising (map before_of (cond b (x ∷ filter is_now xs) (filter is_now xs)))) (sym m) (first rest)
    by rest false m = subst (λ (b : Bool). AreRising (map before_of (cond b (x ∷ filter is_now xs) (filter is_now xs)))) (sym m) rest

pub set_other : {X : Type 0} (xs : List X) (i k : ℕ) (y : X) → k ≢ i → slice_get (slice_set xs i y) k ≡ slice_get xs k
set_other [] i k y n = refl
set_other (x ∷ xs) zero zero y n = absurd (n refl)
set_other (x ∷ xs) zero (suc k) y n = refl
set_other (x ∷ xs) (suc i) zero y n = refl
set_other (x ∷ xs) (suc i) (suc k) y n = set_other xs i k y (λ e. n (ap suc e))

-- one leaf more is turned
pub turned_more : (old now : List KeptLeaf) (at : ℕ) (x y : KeptLeaf) → AreTurnedTo at old now → at < length now → x ≡ get_or now at x → IsTurned x y → AreTurnedTo (at + 1) old (slice_set now at y)
turned_more old now at x y t l e is = record {
  long = length-set now at y ∙ t.long;
  turned = λ k w h f. by k w h f (cases_lt k at);
  rest = λ k h. set_other now at k y (omega arith) ∙ t.rest k (omega arith);
}
  where
    has : slice_get now at ≡ Some x
    has = slice_get-get_or now at x l ∙ ap (λ (v : KeptLeaf). Some v) (sym e)

    here : (z : KeptLeaf) → slice_get (slice_set now at y) at ≡ Some z → ((at ≡ at) × (z ≡ y)) ⊎ ((at ≡ at → ⊥) × (z ≡ x)) → slice_get (slice_set now at y) at ≡ Some y
    here z f (inl p) = f ∙ ap (λ (v : KeptLeaf). Some v) p.1
    here z f (inr p) = absurd (p.0 refl)

    by : (k : ℕ) (w : KeptLeaf) → k < at + 1 → slice_get old k ≡ Some w → (k < at) ⊎ (at ≤ k) → (z : KeptLeaf) × (slice_get (slice_set now at y) k ≡ Some z) × IsTurned w z
    by k w h f (inl h') = let r = t.turned k w h' f in (r.0, set_other now at k y (omega arith) ∙ r.1, r.2)
    by k w h f (inr h') =
        let p : k ≡ at = omega arith in
        let s : w ≡ x = same_Some _ _ (sym f ∙ (sym (t.rest k h') ∙ (ap (slice_get now) p ∙ has))) in
        let r = set-get now at at y x has in
        (y, ap (slice_get (slice_set now at y)) p ∙ here r.0 r.1 r.2, subst (λ (v : KeptLeaf). IsTurned v y) (sym s) is)

module _ (old new : List KeptLeaf) (t : AreTurned old new) where
  back : (i : ℕ) (z : KeptLeaf) → slice_get new i ≡ Some z → (w : KeptLeaf) × (slice_get old i ≡ Some w) × IsTurned w z
  back i z e =
      let l = slice_get_within new i z e in
      let n : length new ≡ length old = t.long in
      let f = slice_get-get_or old i z (omega (arith, l, n)) in
      let r = t.turned i _ (omega (arith, l, n)) f in
      let s : r.0 ≡ z = same_Some _ _ (sym r.1 ∙ e) in
      (get_or old i z, f, subst (λ (v : KeptLeaf). IsTurned (get_or old i z) v) s r.2)

  there : (i : ℕ) (w : KeptLeaf) → slice_get old i ≡ Some w → (z : KeptLeaf) × (slice_get new i ≡ Some z) × IsTurned w z
  there i w e = t.turned i w (slice_get_within old i w e) e

  last_turn : (n p : ℕ) (o : Option ℕ) → IsLast old n p o → IsLast new n p o
  last_turn n p None l = λ j z h e q. let r = back j z e in l j r.0 h r.1 (sym r.2.same.print_is ∙ q)
  last_turn n p (Some i) l = let r = there i l.0 l.2 in (r.0, l.1, r.1, r.2.same.print_is ∙ l.3, λ j z h h' e q. let s = back j z e in l.4 j s.0 h h' s.1 (sym s.2.same.print_is ∙ q))

  pub sound_turn : (last : ℕ → Option ℕ) → IsSoundBy old last → IsSoundBy new last
  sound_turn last sound = record {
    chained = λ i z e. let r = back i z e in subst (λ (o : Option ℕ). IsLast new i z.print o) (sym r.2.same.before_is) (subst (λ (p : ℕ). IsLast new i p r.0.before) (sym r.2.same.print_is) (last_turn i r.0.print r.0.before (sound.chained i r.0 r.1)));
    printed = λ i z e. let r = back i z e in r.2.same.print_is ∙ (sound.printed i r.0 r.1 ∙ print_same (sym r.2.same.key_is) (sym r.2.same.measure_is));
    lasts = λ p. subst (λ (n : ℕ). IsLast new n p (last p)) (sym t.long) (last_turn (length old) p (last p) (sound.lasts p));
    rising = λ i z e. let r = back i z e in subst AreRising (sym r.2.lines_is) (rising_turn r.0.lines.items (sound.rising i r.0 r.1));
    once = λ i j z w e f k m. let r = back i z e in let s = back j w f in sound.once i j r.0 s.0 r.1 s.1 (sym r.2.same.key_is ∙ (k ∙ s.2.same.key_is)) (sym r.2.same.measure_is ∙ (m ∙ s.2.same.measure_is));
  }

  -- each line that stands is one of the pass
  was_line : (b : Asked) (l : KeptLine) → Stands new b l → (m : KeptLine) × Stands old b m × (is_now m ≡ true) × (l ≡ before_of m)
  was_line b l h =
      let r = back h.at h.leaf h.has in
      let e : slice_get (turned_lines r.0.lines.items) h.place ≡ Some l = subst (λ (ls : List KeptLine). slice_get ls h.place ≡ Some l) r.2.lines_is h.there in
      let w = turn_get r.0.lines.items h.place l e in
      (w.line, record { at = h.at; leaf = r.0; has = r.1; key_is = sym r.2.same.key_is ∙ h.key_is; measure_is = sym r.2.same.measure_is ∙ h.measure_is; place = w.place; there = w.there; from_is = ap (λ (v : KeptLine). v.line.from) (sym w.is) ∙ h.from_is }, w.now_is, w.is)

  -- and each line of the pass stands
  stays_line : (b : Asked) (l : KeptLine) → Stands old b l → is_now l ≡ true → Stands new b (before_of l)
  stays_line b l h n =
      let r = there h.at h.leaf h.has in
      let g = get_turn h.leaf.lines.items h.place l h.there n in
      record { at = h.at; leaf = r.0; has = r.1; key_is = r.2.same.key_is ∙ h.key_is; measure_is = r.2.same.measure_is ∙ h.measure_is; place = g.0; there = subst (λ (ls : List KeptLine). slice_get ls g.0 ≡ Some (before_of l)) (sym r.2.lines_is) g.1; from_is = h.from_is }

  pub has_turned : HasTurned old new
  has_turned = record {
    keeps = λ b h. (before_of h.0, record { stands = stays_line b h.0 h.1.stands h.2; asked = refl });
    only = λ b h. let w = was_line b h.0 h.1.stands in (w.0, record { stands = w.1; asked = now-asked w.0 w.2 }, w.2);
    none = λ b h. let w = was_line b h.0 h.1.stands in let e : false ≡ true = ap is_now (sym w.3) ∙ h.2 in absurd (never e);
  }
    where
      never : false ≡ true → ⊥
      never e = cc

  pub kept_turn : (faces : List FontFace) → AreKept faces old → AreKept faces new
  kept_turn faces k = λ b l leaf h e. let w = was_line b l h in subst (λ (v : KeptLine). IsLine faces leaf b.from b.measure v.line) (sym w.3) (k b w.0 leaf w.1 e)

  pub places_turn : KeepsPlaces old new
  places_turn = λ i k m l. let r = there i l.leaf l.has in record { leaf = r.0; has = r.1; key_is = r.2.same.key_is ∙ l.key_is; measure_is = r.2.same.measure_is ∙ l.measure_is }
