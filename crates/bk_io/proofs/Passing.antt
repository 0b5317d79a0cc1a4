-- What passes a buffer on its way to a sink, one piece after another.
use Rattle.std.proofs.Common.{◌≡◌, ◌∙◌, ℕ, zero, suc, ◌+◌, ◌<◌, ◌≤◌, min, List, [], ◌∷◌, ◌++◌, take, drop, get_or, length, arith, subst, sym, append-nil, append_assoc, refl, ap, Option, Some, None, OnOk, Result, Ok, Err}
use Rattle.std.proofs.lemmas.List.{take-append-le, take_min}
use Rattle.std.specs.List.{flat_map}
use Rattle.std.specs.Io.KnownBytes.{Appends}
use Rattle.bk_io.specs.Sink.{AppendsAllOrPrefix}
use Rattle.bk_io.specs.Buffers.{Gives, Passes, TakesPrefix}
use Rattle.bk_io.proofs.Bytes.{Appends-more}

appends_more : (a b c : Option (List ℕ)) (xs ys : List ℕ) → Appends a b xs → Appends b c ys → Appends a c (xs ++ ys)
appends_more a b c xs ys x y = Appends-more a b c xs ys (xs ++ ys) x y refl

appends_none : (a : Option (List ℕ)) → Appends a a []
appends_none None = tt
appends_none (Some a) = sym (append-nil a)

take_after : (xs ys : List ℕ) (n : ℕ) → xs ++ take n ys ≡ take (length xs + n) (xs ++ ys)
take_after [] ys n = let e : n ≡ 0 + n = omega arith in ap (λ m. take m ys) e
take_after (x ∷ xs) ys n =
    let e : suc (length xs + n) ≡ suc (length xs) + n = omega arith in
    ap (λ zs. x ∷ zs) (take_after xs ys n) ∙ ap (λ m. take m (x ∷ (xs ++ ys))) e

take_longer : (xs ys : List ℕ) (n : ℕ) → take n xs ≡ take (min n (length xs)) (xs ++ ys)
take_longer xs ys n =
    let within : min n (length xs) ≤ length xs = omega arith in
    rw (take-append-le (min n (length xs)) xs ys within) (sym (take_min n xs))

-- nothing passes where nothing is done
pub passes_none : (a : Option (List ℕ)) (w : List ℕ) → Passes a w a w []
passes_none a w = ([], appends_none a, sym (append-nil w))

pub passes_more : (a b c : Option (List ℕ)) (w v u x y : List ℕ) → Passes a w b v x → Passes b v c u y → Passes a w c u (x ++ y)
passes_more a b c w v u x y p q = (
  p.0 ++ q.0,
  appends_more a b c p.0 q.0 p.1 q.1,
  append_assoc p.0 q.0 u ∙ ap (λ zs. p.0 ++ zs) q.2 ∙ sym (append_assoc p.0 v y) ∙ ap (λ zs. zs ++ y) p.2 ∙ append_assoc w x y,
)

pub passes_fails : (a b c : Option (List ℕ)) (w v x y : List ℕ) → Passes a w b v x → TakesPrefix b v c y → TakesPrefix a w c (x ++ y)
passes_fails a b c w v x y p q =
    let all : p.0 ++ (v ++ y) ≡ w ++ (x ++ y) = sym (append_assoc p.0 v y) ∙ ap (λ zs. zs ++ y) p.2 ∙ append_assoc w x y in (
      length p.0 + q.0,
      subst (λ zs. Appends a c zs) (take_after p.0 (v ++ y) q.0 ∙ ap (take (length p.0 + q.0)) all) (appends_more a b c p.0 (take q.0 (v ++ y)) p.1 q.1),
    )

-- a prefix is one of a longer list
pub prefix_more : (a c : Option (List ℕ)) (w x y : List ℕ) → TakesPrefix a w c x → TakesPrefix a w c (x ++ y)
prefix_more a c w x y h =
    (min h.0 (length (w ++ x)), subst (λ zs. Appends a c zs) (take_longer (w ++ x) y h.0 ∙ ap (take (min h.0 (length (w ++ x)))) (append_assoc w x y)) h.1)

pub gives_then : {E : Type 0} (a b c : Option (List ℕ)) (w v u x y : List ℕ) (r : Result Unit E) → Passes a w b v x → Gives b v c u y r → Gives a w c u (x ++ y) r
gives_then a b c w v u x y (Ok o) p q = passes_more a b c w v u x y p q
gives_then a b c w v u x y (Err e) p q = passes_fails a b c w v x y p q

pub gives_same : {E : Type 0} (a b : Option (List ℕ)) (w v x y : List ℕ) (r : Result Unit E) → x ≡ y → Gives a w b v x r → Gives a w b v y r
gives_same a b w v x y r e h = subst (λ z. Gives a w b v z r) e h

pub same_gives : {E : Type 0} (a b : Option (List ℕ)) (w v x y : List ℕ) (r : Result Unit E) → Gives a w b v x r → x ≡ y → Gives a w b v y r
same_gives a b w v x y r h e = gives_same a b w v x y r e h

-- two pieces
pub first_of_two : (a c : Option (List ℕ)) (w x y whole : List ℕ) → x ++ y ≡ whole → TakesPrefix a w c x → TakesPrefix a w c whole
first_of_two a c w x y whole e h = subst (λ z. TakesPrefix a w c z) e (prefix_more a c w x y h)

pub two_given : {E : Type 0} (a b c : Option (List ℕ)) (w v u x y whole : List ℕ) (r : Result Unit E) → x ++ y ≡ whole → Passes a w b v x → Gives b v c u y r → Gives a w c u whole r
two_given a b c w v u x y whole r e p q = gives_same a c w u (x ++ y) whole r e (gives_then a b c w v u x y r p q)

-- three pieces
pub first_of_three : (a c : Option (List ℕ)) (w x y z whole : List ℕ) → x ++ y ++ z ≡ whole → TakesPrefix a w c x → TakesPrefix a w c whole
first_of_three a c w x y z whole e h = first_of_two a c w (x ++ y) z whole e (prefix_more a c w x y h)

pub second_of_three : (a b c : Option (List ℕ)) (w v x y z whole : List ℕ) → x ++ y ++ z ≡ whole → Passes a w b v x → TakesPrefix b v c y → TakesPrefix a w c whole
second_of_three a b c w v x y z whole e p q = first_of_two a c w (x ++ y) z whole e (passes_fails a b c w v x y p q)

pub three_given : {E : Type 0} (a b c d : Option (List ℕ)) (w v u t x y z whole : List ℕ) (r : Result Unit E) →
    x ++ y ++ z ≡ whole → Passes a w b v x → Passes b v c u y → Gives c u d t z r → Gives a w d t whole r
three_given a b c d w v u t x y z whole r e p q s =
    two_given a c d w u t (x ++ y) z whole r e (passes_more a b c w v u x y p q) s

-- a piece for each element of a list
flat_split : {X : Type 0} (f : X → List ℕ) (xs : List X) (i : ℕ) (d : X) → i < length xs →
    (flat_map f (take i xs) ++ f (get_or xs i d)) ++ flat_map f (drop (suc i) xs) ≡ flat_map f xs
flat_split f [] i d low = absurd (omega arith)
flat_split f (x ∷ xs) zero d low = refl
flat_split f (x ∷ xs) (suc i) d low =
    ap (λ zs. zs ++ flat_map f (drop (suc i) xs)) (append_assoc (f x) (flat_map f (take i xs)) (f (get_or xs i d))) ∙
    append_assoc (f x) (flat_map f (take i xs) ++ f (get_or xs i d)) (flat_map f (drop (suc i) xs)) ∙
    ap (λ zs. f x ++ zs) (flat_split f xs i d (omega arith))

flat_step : {X : Type 0} (f : X → List ℕ) (xs : List X) (i : ℕ) (d : X) → i < length xs →
    flat_map f (take i xs) ++ f (get_or xs i d) ≡ flat_map f (take (suc i) xs)
flat_step f [] i d low = absurd (omega arith)
flat_step f (x ∷ xs) zero d low = sym (append-nil (f x))
flat_step f (x ∷ xs) (suc i) d low =
    append_assoc (f x) (flat_map f (take i xs)) (f (get_or xs i d)) ∙ ap (λ zs. f x ++ zs) (flat_step f xs i d (omega arith))

pub next_passes : {X : Type 0} (f : X → List ℕ) (a b c : Option (List ℕ)) (w v u : List ℕ) (xs : List X) (i : ℕ) (d : X) → i < length xs →
    Passes a w b v (flat_map f (take i xs)) → Passes b v c u (f (get_or xs i d)) → Passes a w c u (flat_map f (take (i + 1) xs))
next_passes f a b c w v u xs i d low p q =
    let next : suc i ≡ i + 1 = omega arith in
    subst (λ z. Passes a w c u z) (flat_step f xs i d low ∙ ap (λ n. flat_map f (take n xs)) next)
    (passes_more a b c w v u (flat_map f (take i xs)) (f (get_or xs i d)) p q)

pub next_fails : {X : Type 0} (f : X → List ℕ) (a b c : Option (List ℕ)) (w v : List ℕ) (xs : List X) (i : ℕ) (d : X) → i < length xs →
    Passes a w b v (flat_map f (take i xs)) → TakesPrefix b v c (f (get_or xs i d)) → TakesPrefix a w c (flat_map f xs)
next_fails f a b c w v xs i d low p q =
    second_of_three a b c w v (flat_map f (take i xs)) (f (get_or xs i d)) (flat_map f (drop (suc i) xs)) (flat_map f xs) (flat_split f xs i d low) p q

-- what is put with nothing that waits
pub given_put : {E : Type 0} (b c : Option (List ℕ)) (y : List ℕ) (r : Result Unit E) → AppendsAllOrPrefix b c y r → Gives b [] c [] y r
given_put b c y (Ok o) h = (y, h, append-nil y)
given_put b c y (Err e) h = h

pub put_given : {E : Type 0} (b c : Option (List ℕ)) (y : List ℕ) (r : Result Unit E) → Gives b [] c [] y r → AppendsAllOrPrefix b c y r
put_given b c y (Ok o) h = subst (λ (z : List ℕ). Appends b c z) (sym (append-nil h.0) ∙ h.2) h.1
put_given b c y (Err e) h = h

-- what is put after a buffer was emptied
pub put_after : {E : Type 0} (a b c : Option (List ℕ)) (w v y : List ℕ) (r : Result Unit E) →
    Passes a w b v [] → v ≡ [] → AppendsAllOrPrefix b c y r → Gives a w c v y r
put_after a b c w v y r p e h =
    subst (λ k. Gives a w c k y r) (sym e) (gives_then a b c w [] [] [] y r (subst (λ k. Passes a w b k []) e p) (given_put b c y r h))

-- all of what passed an empty buffer is put once that is emptied
pub flushed : {E : Type 0} (a b c : Option (List ℕ)) (w v u x : List ℕ) (r : Result Unit E) →
    w ≡ [] → Passes a w b v x → Gives b v c u [] r → OnOk r (u ≡ []) → AppendsAllOrPrefix a c x r
flushed a b c w v u x (Ok o) begun p q e =
    let all = passes_more a b c [] v u x [] (subst (λ k. Passes a k b v x) begun p) q in
    let same : all.0 ≡ x = sym (append-nil all.0) ∙ ap (λ k. all.0 ++ k) (sym e) ∙ all.2 ∙ append-nil x in
    subst (λ k. Appends a c k) same all.1
flushed a b c w v u x (Err f) begun p q e =
    subst (λ k. TakesPrefix a [] c k) (append-nil x) (passes_fails a b c [] v x [] (subst (λ k. Passes a k b v x) begun p) q)

-- an element that was read from a list
pub read_passes : {X : Type 0} (f : X → List ℕ) (a b c : Option (List ℕ)) (w v u : List ℕ) (xs : List X) (i : ℕ) (x : X) → i < length xs → x ≡ get_or xs i x →
    Passes a w b v (flat_map f (take i xs)) → Passes b v c u (f x) → Passes a w c u (flat_map f (take (i + 1) xs))
read_passes f a b c w v u xs i x low is p q = next_passes f a b c w v u xs i x low p (subst (λ z. Passes b v c u (f z)) is q)

pub read_fails : {X : Type 0} (f : X → List ℕ) (a b c : Option (List ℕ)) (w v : List ℕ) (xs : List X) (i : ℕ) (x : X) → i < length xs → x ≡ get_or xs i x →
    Passes a w b v (flat_map f (take i xs)) → TakesPrefix b v c (f x) → TakesPrefix a w c (flat_map f xs)
read_fails f a b c w v xs i x low is p q = next_fails f a b c w v xs i x low p (subst (λ z. TakesPrefix b v c (f z)) is q)
