-- The face that families, a style and a weight choose is the first one of its name.
use Rattle.std.proofs.Common.{◌≡◌, ◌≢◌, ℕ, ◌<◌, ◌⊎◌, inl, inr, Bool, true, false, cond, not, ◌&&◌, ◌||◌, ◌==◌, ltb, leb, List, length, get_or, Option, None, Some, refl, sym, ap, ◌∙◌, arith}
use Rattle.std.specs.Prelude.{slice_get, unwrap_or}
use Rattle.std.specs.Bool.{beq}
use Rattle.std.specs.Cmp.{booleans_Decides}
use Rattle.std.specs.List.{list_any, position}
use Rattle.std.proofs.lemmas.Bool.Decides.{nat_tests}
use Rattle.std.proofs.lemmas.List.Folds.{list_any_at, list_any_none}
use Rattle.std.proofs.lemmas.Option.{slice_get_within, get_or_from_slice_get, slice_get-get_or}
use Rattle.std.proofs.lemmas.Slice.Eq.{bytes_eq-Decides}
use Rattle.bk_num.proofs.ListLemmas.{bytes_same}
use Rattle.metrics.specs.Face.{FontFace, no_face}
use Rattle.metrics.specs.Choice.{IsNearer, closer, lesser, GoesBefore, by_style, by_weight, HasName, IsChosen, apart, is_named, name_of}
use Rattle.metrics.proofs.ChoiceLemmas.{chosen, chosen_once, position-none, position-some, unlike_same}
use Rattle.metrics.specs.Chosen.{FaceIsChosen, face_by, goes_before, is_first, is_nearer}

nearer-yes : (asked m n : ℕ) → IsNearer asked m n → is_nearer asked m n ≡ true
nearer-yes asked m n (closer h) = grind (arith, nat_tests)
nearer-yes asked m n (lesser e h) = grind (arith, nat_tests)

nearer-is : (asked m n : ℕ) → is_nearer asked m n ≡ true → IsNearer asked m n
nearer-is asked m n e = by (ltb (apart m asked) (apart n asked)) refl e
  where
    by : (b : Bool) → ltb (apart m asked) (apart n asked) ≡ b → (b || ((apart m asked == apart n asked) && leb m n)) ≡ true → IsNearer asked m n
    by true l h = closer (grind (arith, nat_tests))
    by false l h = both (apart m asked == apart n asked) (leb m n) refl refl h
      where
        both : (p q : Bool) → (apart m asked == apart n asked) ≡ p → leb m n ≡ q → (p && q) ≡ true → IsNearer asked m n
        both true true a b k = lesser (grind (arith, nat_tests)) (grind (arith, nat_tests))
        both true false a b k = cc
        both false q a b k = cc

before-yes : (italic : Bool) (weight : ℕ) (f g : FontFace) → GoesBefore italic weight f g → goes_before italic weight f g ≡ true
before-yes italic weight f g (by_style a b) = by (beq f.italic g.italic) refl
  where
    by : (c : Bool) → beq f.italic g.italic ≡ c → cond c (is_nearer weight f.weight g.weight) (beq f.italic italic) ≡ true
    by true e = absurd (b (sym ((booleans_Decides f.italic g.italic).0 e) ∙ a))
    by false e = (booleans_Decides f.italic italic).1 a
before-yes italic weight f g (by_weight a n) = ap (λ (c : Bool). cond c (is_nearer weight f.weight g.weight) (beq f.italic italic)) ((booleans_Decides f.italic g.italic).1 a) ∙ nearer-yes weight f.weight g.weight n

before-is : (italic : Bool) (weight : ℕ) (f g : FontFace) → goes_before italic weight f g ≡ true → GoesBefore italic weight f g
before-is italic weight f g h = by (beq f.italic g.italic) refl h
  where
    by : (c : Bool) → beq f.italic g.italic ≡ c → cond c (is_nearer weight f.weight g.weight) (beq f.italic italic) ≡ true → GoesBefore italic weight f g
    by true e k = by_weight ((booleans_Decides f.italic g.italic).0 e) (nearer-is weight f.weight g.weight k)
    by false e k =
        let a : f.italic ≡ italic = (booleans_Decides f.italic italic).0 k in
        by_style a (λ q. let s : beq f.italic g.italic ≡ true = (booleans_Decides f.italic g.italic).1 (a ∙ sym q) in absurd (cc))

-- a chosen face goes before each of its name
first-before : (faces : List FontFace) (name : List ℕ) (italic : Bool) (weight k : ℕ) (c : IsChosen faces name italic weight k) (j : ℕ) (g : FontFace) → HasName faces name j g → GoesBefore italic weight c.face g
first-before faces name italic weight k c j g has = styled (beq g.italic italic) refl c.candidate.style
  where
    f : FontFace
    f = c.face

    styled : (b : Bool) → beq g.italic italic ≡ b → (f.italic ≡ italic) ⊎ ((i : ℕ) (o : FontFace) → HasName faces name i o → o.italic ≢ italic) → GoesBefore italic weight f g
    styled true e (inl s) = let q : g.italic ≡ italic = (booleans_Decides g.italic italic).0 e in by_weight (s ∙ sym q) (c.nearest j g (record { named = has; style = inl q }))
    styled false e (inl s) = by_style s (λ q. let y : beq g.italic italic ≡ true = (booleans_Decides g.italic italic).1 q in absurd (cc))
    styled b e (inr n) = by_weight (unlike_same f.italic g.italic italic (n k f c.candidate.named) (n j g has)) (c.nearest j g (record { named = has; style = inr n }))

named-at : (faces : List FontFace) (name : List ℕ) (j : ℕ) (d : FontFace) → j < length faces → is_named name (get_or faces j d) ≡ true → HasName faces name j (get_or faces j d)
named-at faces name j d l e = record { is = slice_get-get_or faces j d l; named = bytes_same (get_or faces j d).name name e }

first-yes : (faces : List FontFace) (name : List ℕ) (italic : Bool) (weight k : ℕ) (c : IsChosen faces name italic weight k) → is_first faces name italic weight c.face ≡ true
first-yes faces name italic weight k c =
    ap (λ (b : Bool). b && not (list_any late faces)) ((bytes_eq-Decides f.name name).1 c.candidate.named.named)
    ∙ ap not (list_any_none late faces (λ j d l. by j d l (is_named name (get_or faces j d)) refl))
  where
    f : FontFace
    f = c.face

    late : FontFace → Bool
    late g = is_named name g && not (goes_before italic weight f g)

    by : (j : ℕ) (d : FontFace) → j < length faces → (b : Bool) → is_named name (get_or faces j d) ≡ b → (b && not (goes_before italic weight f (get_or faces j d))) ≡ false
    by j d l true e = ap not (before-yes italic weight f (get_or faces j d) (first-before faces name italic weight k c j (get_or faces j d) (named-at faces name j d l e)))
    by j d l false e = refl

first-is : (faces : List FontFace) (name : List ℕ) (italic : Bool) (weight j : ℕ) (f : FontFace) → slice_get faces j ≡ Some f → is_first faces name italic weight f ≡ true → IsChosen faces name italic weight j
first-is faces name italic weight j f g h = both (is_named name f) refl (list_any late faces) refl h
  where
    late : FontFace → Bool
    late o = is_named name o && not (goes_before italic weight f o)

    before : list_any late faces ≡ false → (i : ℕ) (o : FontFace) → HasName faces name i o → GoesBefore italic weight f o
    before none i o has = before-is italic weight f o (by (goes_before italic weight f o) refl)
      where
        named : is_named name o ≡ true
        named = (bytes_eq-Decides o.name name).1 has.named

        by : (b : Bool) → goes_before italic weight f o ≡ b → b ≡ true
        by true e = refl
        by false e =
            let here : get_or faces i no_face ≡ o = get_or_from_slice_get faces i o no_face has.is in
            let passes : late o ≡ true = ap (λ (b : Bool). b && not (goes_before italic weight f o)) named ∙ ap not e in
            let any : list_any late faces ≡ true = list_any_at late faces i no_face (slice_get_within faces i o has.is) (ap late here ∙ passes) in
            absurd (cc)

    both : (a : Bool) → is_named name f ≡ a → (b : Bool) → list_any late faces ≡ b → (a && not b) ≡ true → IsChosen faces name italic weight j
    both true a false b k = chosen faces name italic weight j f (record { is = g; named = bytes_same f.name name a }) (before b)
    both true a true b k = cc
    both false a b c k = cc

pub face-is : FaceIsChosen
unfolding face_by
face-is faces families italic weight f good c = ap (λ (k : ℕ). record { 0 = k }) (sym (by (position first faces) refl))
  where
    name : List ℕ
    name = name_of faces families

    first : FontFace → Bool
    first = is_first faces name italic weight

    by : (o : Option ℕ) → position first faces ≡ o → unwrap_or o 0 ≡ f.0
    by None e =
        let here : get_or faces f.0 no_face ≡ c.face = get_or_from_slice_get faces f.0 c.face no_face c.candidate.named.is in
        let any : list_any first faces ≡ true = list_any_at first faces f.0 no_face (slice_get_within faces f.0 c.face c.candidate.named.is) (ap first here ∙ first-yes faces name italic weight f.0 c) in
        let none : list_any first faces ≡ false = position-none first faces e in
        absurd (cc)
    by (Some j) e =
        let p = position-some first faces j e in
        chosen_once faces name italic weight j f.0 good (first-is faces name italic weight j (get_or faces j no_face) (slice_get-get_or faces j no_face p.0) (p.1 no_face)) c

-- it is one of the faces
pub face-within : (faces : List FontFace) (families : List (List ℕ)) (italic : Bool) (weight : ℕ) → 0 < length faces → (face_by faces families italic weight).0 < length faces
unfolding face_by
face-within faces families italic weight some = by (position first faces) refl
  where
    first : FontFace → Bool
    first = is_first faces (name_of faces families) italic weight

    by : (o : Option ℕ) → position first faces ≡ o → unwrap_or o 0 < length faces
    by None e = some
    by (Some k) e = (position-some first faces k e).0
