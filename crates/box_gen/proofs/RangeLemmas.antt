-- The styles of nodes stay in range where a node is added.
use Rattle.std.proofs.Common.{◌≡◌, ◌∙◌, ◌<◌, zero, suc, List, [], ◌∷◌, ◌++◌, Option, None, Some, length, refl, ap, subst, sym, arith, Bool, ◌⊎◌, inl, inr}
use Rattle.std.specs.Prelude.{slice_get}
use Rattle.std.proofs.lemmas.Int.{ints}
use Rattle.bk_num.specs.declared.values.Pseudo.{Pseudo}
use Rattle.bk_num.specs.declared.values.Pseudo.TheVariants as pseudo
use Rattle.bk_num.proofs.ListLemmas.{get-push}
use Rattle.style.specs.declared.style.Style.{Style}
use Rattle.style.specs.Nodes.{NodeStyles, change_last, no_styles, own_style, style_in, style_of, with_style}
use Rattle.style.specs.Styles.{initial_style}
use Rattle.box_gen.specs.Sources.{AreInRange, IsInRange}

pub range-push : (xs : List NodeStyles) (r : NodeStyles) → AreInRange xs → ((p : Pseudo) (s : Style) → style_in r p ≡ Some s → IsInRange s) → AreInRange (xs ++ r ∷ [])
range-push xs r all here n p s e = by (slice_get (xs ++ r ∷ []) n) refl e
  where
    old : (q : NodeStyles) → slice_get xs n ≡ Some q → style_in q p ≡ Some s → IsInRange s
    old q g h = all n p s (ap (λ o. style_of o p) g ∙ h)

    by : (o : Option NodeStyles) → slice_get (xs ++ r ∷ []) n ≡ o → style_of o p ≡ Some s → IsInRange s
    by None g h = cc
    by (Some q) g h = or (get-push xs r q n g)
      where
        or : ((n ≡ length xs) × (q ≡ r)) ⊎ (slice_get xs n ≡ Some q) → IsInRange s
        or (inl k) = here p s (sym (ap (λ x. style_in x p) k.1) ∙ h)
        or (inr k) = old q k h

pub range-none : AreInRange []
range-none n p s e = cc

pub range-text : (xs : List NodeStyles) → AreInRange xs → AreInRange (xs ++ no_styles ∷ [])
range-text xs all = range-push xs no_styles all none
  where
    none : (p : Pseudo) (s : Style) → style_in no_styles p ≡ Some s → IsInRange s
    none pseudo.Element s e = cc
    none pseudo.Before s e = cc
    none pseudo.After s e = cc
    none pseudo.Call s e = cc
    none pseudo.Marker s e = cc

pub range-own : (xs : List NodeStyles) (t : Style) (shown note in_note : Bool) → AreInRange xs → IsInRange t → AreInRange (xs ++ own_style t shown note in_note ∷ [])
range-own xs t shown note in_note all r = range-push xs (own_style t shown note in_note) all own
  where
    own : (p : Pseudo) (s : Style) → style_in (own_style t shown note in_note) p ≡ Some s → IsInRange s
    own pseudo.Element s e = let same : t ≡ s = cc in subst IsInRange same r
    own pseudo.Before s e = cc
    own pseudo.After s e = cc
    own pseudo.Call s e = cc
    own pseudo.Marker s e = cc

pub range-put : (xs : List NodeStyles) (q : Pseudo) (t : Style) → AreInRange xs → IsInRange t → AreInRange (change_last (with_style q t) xs)
range-put [] q t all r n p s e = all n p s e
range-put (x ∷ []) q t all r zero p s e = by q p e
  where
    by : (q p : Pseudo) → style_in (with_style q t x) p ≡ Some s → IsInRange s
    by pseudo.Element pseudo.Element h = let same : t ≡ s = cc in subst IsInRange same r
    by pseudo.Element pseudo.Before h = all 0 pseudo.Before s h
    by pseudo.Element pseudo.After h = all 0 pseudo.After s h
    by pseudo.Element pseudo.Call h = all 0 pseudo.Call s h
    by pseudo.Element pseudo.Marker h = all 0 pseudo.Marker s h
    by pseudo.Before pseudo.Element h = all 0 pseudo.Element s h
    by pseudo.Before pseudo.Before h = let same : t ≡ s = cc in subst IsInRange same r
    by pseudo.Before pseudo.After h = all 0 pseudo.After s h
    by pseudo.Before pseudo.Call h = all 0 pseudo.Call s h
    by pseudo.Before pseudo.Marker h = all 0 pseudo.Marker s h
    by pseudo.After pseudo.Element h = all 0 pseudo.Element s h
    by pseudo.After pseudo.Before h = all 0 pseudo.Before s h
    by pseudo.After pseudo.After h = let same : t ≡ s = cc in subst IsInRange same r
    by pseudo.After pseudo.Call h = all 0 pseudo.Call s h
    by pseudo.After pseudo.Marker h = all 0 pseudo.Marker s h
    by pseudo.Call pseudo.Element h = all 0 pseudo.Element s h
    by pseudo.Call pseudo.Before h = all 0 pseudo.Before s h
    by pseudo.Call pseudo.After h = all 0 pseudo.After s h
    by pseudo.Call pseudo.Call h = let same : t ≡ s = cc in subst IsInRange same r
    by pseudo.Call pseudo.Marker h = all 0 pseudo.Marker s h
    by pseudo.Marker pseudo.Element h = all 0 pseudo.Element s h
    by pseudo.Marker pseudo.Before h = all 0 pseudo.Before s h
    by pseudo.Marker pseudo.After h = all 0 pseudo.After s h
    by pseudo.Marker pseudo.Call h = all 0 pseudo.Call s h
    by pseudo.Marker pseudo.Marker h = let same : t ≡ s = cc in subst IsInRange same r
range-put (x ∷ []) q t all r (suc n) p s e = all (suc n) p s e
range-put (x ∷ (y ∷ ys)) q t all r zero p s e = all 0 p s e
range-put (x ∷ (y ∷ ys)) q t all r (suc n) p s e = range-put (y ∷ ys) q t (λ k u v h. all (suc k) u v h) r n p s e

-- a style that is given takes no node away
pub some-put : (xs : List NodeStyles) (q : Pseudo) (t : Style) → 0 < length xs → 0 < length (change_last (with_style q t) xs)
some-put [] q t l = l
some-put (x ∷ []) q t l = omega arith
some-put (x ∷ (y ∷ ys)) q t l = omega arith

pub initial-range : IsInRange initial_style
initial-range = record {
  size = omega (arith, ints);
  height = omega (arith, ints);
  border_top = omega (arith, ints);
  border_right = omega (arith, ints);
  border_bottom = omega (arith, ints);
  border_left = omega (arith, ints);
  padding_top = omega (arith, ints);
  padding_right = omega (arith, ints);
  padding_bottom = omega (arith, ints);
  padding_left = omega (arith, ints);
  given_top = tt;
  given_right = tt;
  given_bottom = tt;
  given_left = tt;
  width = tt;
  indent = tt;
}
