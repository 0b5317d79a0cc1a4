-- A leaf more, without lines.
use Rattle.std.proofs.Common.{◌≡◌, ◌≢◌, ℕ, suc, ℤ, ◌≤◌, ◌⊎◌, inl, inr, ⊎_elim, List, [], ◌∷◌, ◌++◌, Option, Some, None, Result, Ok, Err, Bool, true, false, cond, eqb, length, slice_get, arith, refl, sym, ◌∙◌, ap, subst, length-append}
use Rattle.std.specs.Prelude.{IfOk, OnOk, OnErr}
use Rattle.std.proofs.lemmas.Bool.Decides.{nat_tests}
use Rattle.std.proofs.lemmas.Option.{slice_get_within, none-some}
use Rattle.bk_num.proofs.ListLemmas.{get-push, get-keep, get-end, get-before}
use Rattle.line_fill.specs.Kept.{Grows, IsLeafAt}
use Rattle.line_fill.specs.KeptLines.{AreRising}
use Rattle.line_fill.specs.KeptSearch.{IsLast}
use Rattle.line_fill.specs.KeptSound.{IsSoundBy}
use Rattle.line_fill.specs.KeptSteps.{IsAdded}
use Rattle.line_fill.specs.declared.kept.KeptLeaf.{KeptLeaf}
use Rattle.line_fill.specs.declared.lines.KeptLine.{KeptLine}
use Rattle.line_fill.proofs.SameLemmas.{print_same}
use Rattle.line_fill.specs.Keys.{LeafKey, key_in, print_of}

empty_rise : AreRising []
empty_rise = λ i j a b h e e'. absurd (none-some _ e)

module _ (old : List KeptLeaf) (z : KeptLeaf) where
  -- the last of a print among the first ones stays
  last_keep : (n p : ℕ) (o : Option ℕ) → n ≤ length old → IsLast old n p o → IsLast (old ++ z ∷ []) n p o
  last_keep n p None few l = λ j x h e. l j x h (sym (get-before old z j (omega arith)) ∙ e)
  last_keep n p (Some i) few l = (l.0, l.1, get-keep old (z ∷ []) i l.0 l.2, l.3, λ j y h h' e. l.4 j y h h' (sym (get-before old z j (omega arith)) ∙ e))

  -- and with one more of another print
  last_more : (p : ℕ) (o : Option ℕ) → z.print ≢ p → IsLast old (length old) p o → IsLast (old ++ z ∷ []) (suc (length old)) p o
  last_more p None other l = λ j x h e. ⊎_elim (λ (w : (j ≡ length old) × (x ≡ z)). λ q. other (ap (λ (v : KeptLeaf). v.print) (sym w.1) ∙ q)) (λ (w : slice_get old j ≡ Some x). l j x (slice_get_within old j x w) w) (get-push old z x j e)
  last_more p (Some i) other l = (l.0, omega (arith, l.1), get-keep old (z ∷ []) i l.0 l.2, l.3, λ j y h h' e. ⊎_elim (λ (w : (j ≡ length old) × (y ≡ z)). λ q. other (ap (λ (v : KeptLeaf). v.print) (sym w.1) ∙ q)) (λ (w : slice_get old j ≡ Some y). l.4 j y h (slice_get_within old j y w) w) (get-push old z y j e))

  last_here : IsLast (old ++ z ∷ []) (suc (length old)) z.print (Some (length old))
  last_here = (z, omega arith, get-end old z, refl, λ j y h h' e. absurd (omega arith))

  push_sound : (last last' : ℕ → Option ℕ) → IsSoundBy old last → z.print ≡ print_of (key_in z) z.measure → z.before ≡ last z.print → z.lines.items ≡ [] → ((q : ℕ) → last' q ≡ cond (eqb z.print q) (Some (length old)) (last q)) → ((j : ℕ) → IsLeafAt old j (key_in z) z.measure → ⊥) → IsSoundBy (old ++ z ∷ []) last'
  push_sound last last' sound print before lines lasts none = record {
    chained = λ i x e. ⊎_elim
        (λ (w : (i ≡ length old) × (x ≡ z)). subst (λ (n : ℕ). IsLast (old ++ z ∷ []) n x.print x.before) (sym w.0) (subst (λ (v : KeptLeaf). IsLast (old ++ z ∷ []) (length old) v.print v.before) (sym w.1) (subst (λ (o : Option ℕ). IsLast (old ++ z ∷ []) (length old) z.print o) (sym before) (last_keep (length old) z.print (last z.print) (omega arith) (sound.lasts z.print)))))
        (λ (w : slice_get old i ≡ Some x). let n = slice_get_within old i x w in last_keep i x.print x.before (omega arith) (sound.chained i x w))
        (get-push old z x i e);
    printed = λ i x e. ⊎_elim
        (λ (w : (i ≡ length old) × (x ≡ z)). subst (λ (v : KeptLeaf). v.print ≡ print_of (key_in v) v.measure) (sym w.1) print)
        (λ (w : slice_get old i ≡ Some x). sound.printed i x w)
        (get-push old z x i e);
    lasts = λ p. let e : suc (length old) ≡ length (old ++ z ∷ []) = len in subst (λ (n : ℕ). IsLast (old ++ z ∷ []) n p (last' p)) e (subst (λ (o : Option ℕ). IsLast (old ++ z ∷ []) (suc (length old)) p o) (sym (lasts p)) (by p (eqb z.print p) refl));
    rising = λ i x e. ⊎_elim
        (λ (w : (i ≡ length old) × (x ≡ z)). subst (λ (v : KeptLeaf). AreRising v.lines.items) (sym w.1) (subst AreRising (sym lines) empty_rise))
        (λ (w : slice_get old i ≡ Some x). sound.rising i x w)
        (get-push old z x i e);
    once = λ i j x y e f k m. pair i j x y k m (get-push old z x i e) (get-push old z y j f);
  }
    where
      len : suc (length old) ≡ length (old ++ z ∷ [])
      len = let l = length-append old (z ∷ []) in omega (arith, l)

      by : (p : ℕ) (b : Bool) → eqb z.print p ≡ b → IsLast (old ++ z ∷ []) (suc (length old)) p (cond (eqb z.print p) (Some (length old)) (last p))
      by p true e = let s : z.print ≡ p = grind (arith, nat_tests, e) in subst (λ (b : Bool). IsLast (old ++ z ∷ []) (suc (length old)) p (cond b (Some (length old)) (last p))) (sym e) (subst (λ (q : ℕ). IsLast (old ++ z ∷ []) (suc (length old)) q (Some (length old))) s last_here)
      by p false e = let s : z.print ≢ p = λ h. grind (arith, nat_tests, e, h) in subst (λ (b : Bool). IsLast (old ++ z ∷ []) (suc (length old)) p (cond b (Some (length old)) (last p))) (sym e) (last_more p (last p) s (sound.lasts p))

      was : (i : ℕ) (x y : KeptLeaf) → x ≡ z → key_in y ≡ key_in x → y.measure ≡ x.measure → slice_get old i ≡ Some y → ⊥
      was i x y e k m f = none i (record { leaf = y; has = f; key_is = k ∙ ap key_in e; measure_is = m ∙ ap (λ (v : KeptLeaf). v.measure) e })

      pair : (i j : ℕ) (x y : KeptLeaf) → key_in x ≡ key_in y → x.measure ≡ y.measure → ((i ≡ length old) × (x ≡ z)) ⊎ (slice_get old i ≡ Some x) → ((j ≡ length old) × (y ≡ z)) ⊎ (slice_get old j ≡ Some y) → i ≡ j
      pair i j x y k m (inl p) (inl q) = p.0 ∙ sym q.0
      pair i j x y k m (inl p) (inr q) = absurd (was j x y p.1 (sym k) (sym m) q)
      pair i j x y k m (inr p) (inl q) = absurd (was i y x q.1 k m p)
      pair i j x y k m (inr p) (inr q) = sound.once i j x y p q k m

  push_grows : z.lines.items ≡ [] → Grows old (old ++ z ∷ [])
  push_grows lines = record {
    places = λ at key measure l. record { leaf = l.leaf; has = get-keep old (z ∷ []) at l.leaf l.has; key_is = l.key_is; measure_is = l.measure_is };
    same = record {
      keeps = λ b l h. let w = h.stands in record { stands = record { at = w.at; leaf = w.leaf; has = get-keep old (z ∷ []) w.at w.leaf w.has; key_is = w.key_is; measure_is = w.measure_is; place = w.place; there = w.there; from_is = w.from_is }; asked = h.asked };
      only = λ b l h. ⊎_elim
          (λ (w : (h.at ≡ length old) × (h.leaf ≡ z)). absurd (none-some _ (subst (λ (ls : List KeptLine). slice_get ls h.place ≡ Some l) (ap (λ (v : KeptLeaf). v.lines.items) w.1 ∙ lines) h.there)))
          (λ (w : slice_get old h.at ≡ Some h.leaf). record { at = h.at; leaf = h.leaf; has = w; key_is = h.key_is; measure_is = h.measure_is; place = h.place; there = h.there; from_is = h.from_is })
          (get-push old z h.leaf h.at h.has);
    };
  }

module _ (old new : List KeptLeaf) (last last' : ℕ → Option ℕ) (key : LeafKey) (print : ℕ) (measure : ℤ) (a : IsAdded old new last last' key print measure) where
  pub added_sound : IsSoundBy old last → print ≡ print_of key measure → ((j : ℕ) → IsLeafAt old j key measure → ⊥) → IsSoundBy new last'
  added_sound sound p none = subst (λ (xs : List KeptLeaf). IsSoundBy xs last') (sym a.leaves_is) (push_sound old a.leaf last last' sound (a.print_is ∙ (p ∙ print_same (sym a.key_is) (sym a.measure_is))) (a.before_is ∙ ap last (sym a.print_is)) a.lines_is (λ q. a.lasts_is q ∙ ap (λ (n : ℕ). cond (eqb n q) (Some (length old)) (last q)) (sym a.print_is)) (λ j l. none j (record { leaf = l.leaf; has = l.has; key_is = l.key_is ∙ a.key_is; measure_is = l.measure_is ∙ a.measure_is })))

  pub added_at : IsLeafAt new (length old) key measure
  added_at = record { leaf = a.leaf; has = ap (λ (xs : List KeptLeaf). slice_get xs (length old)) a.leaves_is ∙ get-end old a.leaf; key_is = a.key_is; measure_is = a.measure_is }

  pub added_grows : Grows old new
  added_grows = subst (λ (xs : List KeptLeaf). Grows old xs) (sym a.leaves_is) (push_grows old a.leaf a.lines_is)

-- nothing grows where nothing is added
pub same_grows : (old : List KeptLeaf) → Grows old old
same_grows old = record { places = λ at key measure l. l; same = record { keeps = λ b l h. h; only = λ b l h. h } }

-- the last of each print may be told by another function
pub sound_same : (old : List KeptLeaf) (last last' : ℕ → Option ℕ) → ((q : ℕ) → last' q ≡ last q) → IsSoundBy old last → IsSoundBy old last'
sound_same old last last' e sound = record { chained = sound.chained; printed = sound.printed; lasts = λ p. subst (λ (o : Option ℕ). IsLast old (length old) p o) (sym (e p)) (sound.lasts p); rising = sound.rising; once = sound.once }

pub record IsPlaced {E : Type 0} (old new : List KeptLeaf) (last' : ℕ → Option ℕ) (key : LeafKey) (measure : ℤ) (r : Result ℕ E) : Type 0 where
  pub sound : IsSoundBy new last'
  pub at : IfOk r (λ at. IsLeafAt new at key measure)
  pub grows : Grows old new

pub placed : {E : Type 0} (old new : List KeptLeaf) (last last' : ℕ → Option ℕ) (key : LeafKey) (print : ℕ) (measure : ℤ) (r : Result ℕ E) → IsSoundBy old last → print ≡ print_of key measure → ((j : ℕ) → IsLeafAt old j key measure → ⊥) → IfOk r (λ at. at ≡ length old) → OnOk r (IsAdded old new last last' key print measure) → OnErr r (new ≡ old) → OnErr r ((q : ℕ) → last' q ≡ last q) → IsPlaced old new last' key measure r
placed old new last last' key print measure (Ok at) sound p none len a e e' = record {
  sound = added_sound old new last last' key print measure a sound p none;
  at = subst (λ (n : ℕ). IsLeafAt new n key measure) (sym len) (added_at old new last last' key print measure a);
  grows = added_grows old new last last' key print measure a;
}
placed old new last last' key print measure (Err err) sound p none len a e e' = record {
  sound = subst (λ (xs : List KeptLeaf). IsSoundBy xs last') (sym e) (sound_same old last last' e' sound);
  at = tt;
  grows = subst (λ (xs : List KeptLeaf). Grows old xs) (sym e) (same_grows old);
}
