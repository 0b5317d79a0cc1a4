-- what stands at a place of a list, after changes of the list
use Rattle.std.proofs.Common.{◌≡◌, ◌∙◌, ◌||◌, ℕ, suc, zero, ◌+◌, ◌<◌, ◌≤◌, List, [], ◌∷◌, ◌++◌, Option, None, Some, Bool, true, false, cond, All, is_some, length, map, take, drop, slice_get, slice_set, refl, ap, subst, arith, ◌⊎◌, inl, inr, get_or, filter, flat_map, append-nil, append_assoc, add-one, sym}
use Rattle.std.specs.List.{Contains, prefix_len, AllZip, list_any, range_with_len}
use Rattle.std.specs.Option.{option_map}
use Rattle.std.specs.Str.{bytes_eq}
use Rattle.std.specs.String.{string_bytes}
use Rattle.std.specs.declared.string.String.{String}
use Rattle.std.proofs.lemmas.Option.{slice_get-get_or, slice_get-map, slice_get_within, get_or_from_slice_get}
use Rattle.std.proofs.lemmas.Slice.Eq.{bytes_eq-Decides}
use Rattle.std.proofs.lemmas.List.{map-append}

-- one more at the end: the new one, or one of before
pub get-push : {A : Type 0} (xs : List A) (y x : A) (k : ℕ) → slice_get (xs ++ y ∷ []) k ≡ Some x → ((k ≡ length xs) × (x ≡ y)) ⊎ (slice_get xs k ≡ Some x)
get-push [] y x zero h = inl (refl, cc)
get-push [] y x (suc k) h = cc
get-push (a ∷ xs) y x zero h = inr h
get-push (a ∷ xs) y x (suc k) h = up (get-push xs y x k h)
  where
    up : ((k ≡ length xs) × (x ≡ y)) ⊎ (slice_get xs k ≡ Some x) → ((suc k ≡ length (a ∷ xs)) × (x ≡ y)) ⊎ (slice_get xs k ≡ Some x)
    up (inl (e, v)) = inl (ap (λ n. suc n) e, v)
    up (inr g) = inr g

-- what is there stays where more follows
pub get-keep : {A : Type 0} (xs ys : List A) (k : ℕ) (x : A) → slice_get xs k ≡ Some x → slice_get (xs ++ ys) k ≡ Some x
get-keep [] ys k x h = cc
get-keep (a ∷ xs) ys zero x h = h
get-keep (a ∷ xs) ys (suc k) x h = get-keep xs ys k x h

-- the new one at the end
pub get-end : {A : Type 0} (xs : List A) (x : A) → slice_get (xs ++ x ∷ []) (length xs) ≡ Some x
get-end [] x = refl
get-end (a ∷ xs) x = get-end xs x

-- a place before the end reads as before
pub get-before : {A : Type 0} (xs : List A) (y : A) (k : ℕ) → k < length xs → slice_get (xs ++ y ∷ []) k ≡ slice_get xs k
get-before [] y k l = absurd (omega arith)
get-before (a ∷ xs) y zero l = refl
get-before (a ∷ xs) y (suc k) l = get-before xs y k (omega arith)

-- what stands after a change by place
pub get-set : {A : Type 0} (xs : List A) (i k : ℕ) (y x : A) → slice_get (slice_set xs i y) k ≡ Some x → (old : A) × (slice_get xs k ≡ Some old) × (((k ≡ i) × (x ≡ y)) ⊎ ((k ≡ i → ⊥) × (x ≡ old)))
get-set [] i k y x h = cc
get-set (a ∷ xs) zero zero y x h = (a, refl, inl (refl, cc))
get-set (a ∷ xs) zero (suc k) y x h = (x, h, inr (λ e. omega arith, refl))
get-set (a ∷ xs) (suc i) zero y x h = (x, h, inr (λ e. omega arith, refl))
get-set {A} (a ∷ xs) (suc i) (suc k) y x h = up (get-set xs i k y x h)
  where
    up : ((old : A) × (slice_get xs k ≡ Some old) × (((k ≡ i) × (x ≡ y)) ⊎ ((k ≡ i → ⊥) × (x ≡ old)))) → (old : A) × (slice_get xs k ≡ Some old) × (((suc k ≡ suc i) × (x ≡ y)) ⊎ ((suc k ≡ suc i → ⊥) × (x ≡ old)))
    up (old, g, inl (e, v)) = (old, g, inl (ap (λ n. suc n) e, v))
    up (old, g, inr (e, v)) = (old, g, inr (λ s. e (omega arith), v))

-- what a change by place leaves
pub set-get : {A : Type 0} (xs : List A) (i k : ℕ) (y x : A) → slice_get xs k ≡ Some x → (z : A) × (slice_get (slice_set xs i y) k ≡ Some z) × (((k ≡ i) × (z ≡ y)) ⊎ ((k ≡ i → ⊥) × (z ≡ x)))
set-get [] i k y x h = cc
set-get (a ∷ xs) zero zero y x h = (y, refl, inl (refl, refl))
set-get (a ∷ xs) zero (suc k) y x h = (x, h, inr (λ e. omega arith, refl))
set-get (a ∷ xs) (suc i) zero y x h = (x, h, inr (λ e. omega arith, refl))
set-get {A} (a ∷ xs) (suc i) (suc k) y x h = up (set-get xs i k y x h)
  where
    up : ((z : A) × (slice_get (slice_set xs i y) k ≡ Some z) × (((k ≡ i) × (z ≡ y)) ⊎ ((k ≡ i → ⊥) × (z ≡ x)))) → (z : A) × (slice_get (slice_set xs i y) k ≡ Some z) × (((suc k ≡ suc i) × (z ≡ y)) ⊎ ((suc k ≡ suc i → ⊥) × (z ≡ x)))
    up (z, g, inl (e, v)) = (z, g, inl (ap (λ n. suc n) e, v))
    up (z, g, inr (e, v)) = (z, g, inr (λ s. e (omega arith), v))

-- what the first n hold
pub get-take : {A : Type 0} (xs : List A) (n k : ℕ) (x : A) → slice_get (take n xs) k ≡ Some x → (k < n) × (slice_get xs k ≡ Some x)
get-take [] zero k x h = cc
get-take [] (suc n) k x h = cc
get-take (a ∷ xs) zero k x h = cc
get-take (a ∷ xs) (suc n) zero x h = (omega arith, h)
get-take (a ∷ xs) (suc n) (suc k) x h = let r = get-take xs n k x h in let l = r.0 in (omega arith, r.1)

-- the first n hold what stands before n
pub take-get : {A : Type 0} (xs : List A) (n k : ℕ) (x : A) → k < n → slice_get xs k ≡ Some x → slice_get (take n xs) k ≡ Some x
take-get [] n k x l h = cc
take-get (a ∷ xs) zero k x l h = absurd (omega arith)
take-get (a ∷ xs) (suc n) zero x l h = h
take-get (a ∷ xs) (suc n) (suc k) x l h = take-get xs n k x (omega arith) h

-- each place below the length holds a value
pub slice_get_at : {A : Type 0} (xs : List A) (k : ℕ) → k < length xs → (x : A) × (slice_get xs k ≡ Some x)
slice_get_at [] k h = absurd (omega arith)
slice_get_at (a ∷ xs) zero h = (a, refl)
slice_get_at (a ∷ xs) (suc k) h = slice_get_at xs k (omega arith)

-- a place below the length reads as before where more follows
pub get-append : {A : Type 0} (xs ys : List A) (k : ℕ) → k < length xs → slice_get (xs ++ ys) k ≡ slice_get xs k
get-append [] ys k l = absurd (omega arith)
get-append (a ∷ xs) ys zero l = refl
get-append (a ∷ xs) ys (suc k) l = get-append xs ys k (omega arith)

-- a place that holds nothing is past the end
pub get-none : {A : Type 0} (xs : List A) (k : ℕ) → slice_get xs k ≡ None → length xs ≤ k
get-none [] k h = omega arith
get-none (a ∷ xs) zero h = cc
get-none (a ∷ xs) (suc k) h = let l = get-none xs k h in omega arith

-- the first values, with one more
pub take-next : {A : Type 0} (xs : List A) (k : ℕ) (x : A) → slice_get xs k ≡ Some x → take (suc k) xs ≡ take k xs ++ x ∷ []
take-next [] k x h = absurd cc
take-next (a ∷ xs) zero x h = let same : a ≡ x = cc in ap (λ y. y ∷ []) same
take-next (a ∷ xs) (suc k) x h = ap (λ l. a ∷ l) (take-next xs k x h)

-- what is left from a value on
pub drop-next : {A : Type 0} (xs : List A) (k : ℕ) (x : A) → slice_get xs k ≡ Some x → drop k xs ≡ x ∷ drop (suc k) xs
drop-next [] k x h = absurd cc
drop-next (a ∷ xs) zero x h = let same : a ≡ x = cc in ap (λ y. y ∷ xs) same
drop-next (a ∷ xs) (suc k) x h = drop-next xs k x h

-- a list's first value and those after it
pub head-same : {A : Type 0} {x y : A} {xs ys : List A} → x ∷ xs ≡ y ∷ ys → x ≡ y
head-same h = cc

pub tail-same : {A : Type 0} {x y : A} {xs ys : List A} → x ∷ xs ≡ y ∷ ys → xs ≡ ys
tail-same h = cc

-- ---- the values of a list

-- what holds of each value holds of the one at a place
pub all-get : {A : Type 0} (P : A → Type 0) (xs : List A) (k : ℕ) (x : A) → All P xs → slice_get xs k ≡ Some x → P x
all-get P xs k x h e = subst P (get_or_from_slice_get xs k x x e) (h k x (slice_get_within xs k x e))

-- a value of a list stands at a place, and what stands at a place is a value
pub contains-get : {A : Type 0} (xs : List A) (x : A) → Contains xs x → (k : ℕ) × (slice_get xs k ≡ Some x)
contains-get xs x h = (h.0, slice_get-get_or xs h.0 x h.1 ∙ ap (λ y. Some y) h.2)

pub get-contains : {A : Type 0} (xs : List A) (k : ℕ) (x : A) → slice_get xs k ≡ Some x → Contains xs x
get-contains xs k x h = (k, slice_get_within xs k x h, get_or_from_slice_get xs k x x h)

pub contains-none : {A : Type 0} (x : A) → Contains [] x → ⊥
contains-none x h = let low = h.1 in omega (arith, low)

pub contains-one : {A : Type 0} (x y : A) → Contains (x ∷ []) y → x ≡ y
contains-one x y (zero, less, same) = same
contains-one x y (suc k, less, same) = absurd (omega (arith, less))

pub contains-map : {A B : Type 0} (f : A → B) (xs : List A) (x : A) → Contains xs x → Contains (map f xs) (f x)
contains-map f xs x h = let g = contains-get xs x h in get-contains (map f xs) g.0 (f x) (slice_get-map f xs g.0 ∙ ap (option_map f) g.1)

-- how many values from the first on pass a test of what is made of them
pub prefix_len-map : {A B : Type 0} (f : A → B) (p : B → Bool) (xs : List A) → prefix_len p (map f xs) ≡ prefix_len (λ x. p (f x)) xs
prefix_len-map f p [] = refl
prefix_len-map f p (x ∷ xs) = ap (λ n. cond (p (f x)) (1 + n) 0) (prefix_len-map f p xs)

-- ---- texts and what may be missing

-- the test of texts tells them apart
pub bytes_same : (xs ys : List ℕ) → bytes_eq xs ys ≡ true → xs ≡ ys
bytes_same xs ys e = (bytes_eq-Decides xs ys).0 e

pub bytes_self : (xs : List ℕ) → bytes_eq xs xs ≡ true
bytes_self xs = (bytes_eq-Decides xs xs).1 refl

-- a name is among texts as it is among their bytes
pub any-map : {Y : Type 0} (bs : List ℕ) (ks : List (String Y)) → list_any (bytes_eq bs) (map (λ s. string_bytes s) ks) ≡ list_any (λ k. bytes_eq bs (string_bytes k)) ks
any-map bs [] = refl
any-map bs (k ∷ ks) = ap (λ b. bytes_eq bs (string_bytes k) || b) (any-map bs ks)

-- what isn't there is None
pub none-is : {A : Type 0} (o : Option A) → is_some o ≡ false → o ≡ None
none-is None h = refl
none-is (Some x) h = absurd cc

-- ---- one more value

pub length-more : {A : Type 0} (xs : List A) (x : A) → length (xs ++ x ∷ []) ≡ suc (length xs)
length-more [] x = refl
length-more (y ∷ xs) x = ap (λ n. suc n) (length-more xs x)

pub map-more : {A B : Type 0} (f : A → B) (old new : List A) (x : A) → new ≡ old ++ x ∷ [] → map f new ≡ map f old ++ f x ∷ []
map-more f old new x e = ap (map f) e ∙ map-append f old (x ∷ [])

pub pairs-more : {A B : Type 0} (R : A → B → Type 0) (xs : List A) (ys : List B) (x : A) (y : B) → AllZip R xs ys → R x y → AllZip R (xs ++ x ∷ []) (ys ++ y ∷ [])
pairs-more R [] [] x y h r = (r, tt)
pairs-more R [] (b ∷ bs) x y h r = absurd h
pairs-more R (a ∷ rest) [] x y h r = absurd h
pairs-more R (a ∷ rest) (b ∷ bs) x y h r = (h.0, pairs-more R rest bs x y h.1 r)

pub contains-first : {A : Type 0} (x : A) (xs : List A) → Contains (x ∷ xs) x
contains-first x xs = (0, omega arith, refl)

pub contains-more : {A : Type 0} (x : A) (xs : List A) (y : A) → Contains xs y → Contains (x ∷ xs) y
contains-more x xs y h = (suc h.0, omega (arith, h.1), h.2)

pub range-more : (a n : ℕ) → range_with_len a (suc n) ≡ range_with_len a n ++ (a + n) ∷ []
range-more a zero = let e : a ≡ a + 0 = omega arith in ap (λ x. x ∷ []) e
range-more a (suc n) = let e : (a + 1) + n ≡ a + suc n = omega arith in ap (λ l. a ∷ l) (range-more (a + 1) n ∙ ap (λ x. range_with_len (a + 1) n ++ x ∷ []) e)

-- what is joined of one more number
pub flat-more : {A : Type 0} (f : ℕ → List A) (a n : ℕ) → flat_map f (range_with_len a (suc n)) ≡ flat_map f (range_with_len a n) ++ f (a + n)
flat-more f a zero = let e : a ≡ a + zero = omega arith in append-nil (f a) ∙ ap f e
flat-more {A} f a (suc n) =
    let e : (a + 1) + n ≡ a + suc n = omega arith in
    let rest : List A = flat_map f (range_with_len (a + 1) n) in
    ap (λ z. f a ++ z) (flat-more f (a + 1) n) ∙ sym (append_assoc (f a) rest (f ((a + 1) + n))) ∙ ap (λ k. (f a ++ rest) ++ f k) e

pub flat-next : {A : Type 0} (f : ℕ → List A) (n : ℕ) → flat_map f (range_with_len 0 (n + 1)) ≡ flat_map f (range_with_len 0 n) ++ f n
flat-next f n =
    let more : n + 1 ≡ suc n = omega arith in
    let e : 0 + n ≡ n = omega arith in
    ap (λ k. flat_map f (range_with_len 0 k)) more ∙ flat-more f 0 n ∙ ap (λ k. flat_map f (range_with_len 0 n) ++ f k) e

-- ---- what stays and what is left

pub length-slice_set : {A : Type 0} (xs : List A) (i : ℕ) (y : A) → length (slice_set xs i y) ≡ length xs
length-slice_set [] i y = refl
length-slice_set (x ∷ xs) zero y = refl
length-slice_set (x ∷ xs) (suc i) y = ap (λ n. suc n) (length-slice_set xs i y)

pub get-taken : {A : Type 0} (xs : List A) (n k : ℕ) → k < n → slice_get (take n xs) k ≡ slice_get xs k
get-taken xs zero k l = absurd (omega (arith, l))
get-taken [] (suc n) k l = refl
get-taken (x ∷ xs) (suc n) zero l = refl
get-taken (x ∷ xs) (suc n) (suc k) l = get-taken xs n k (omega (arith, l))

pub get-drop : {A : Type 0} (xs : List A) (n k : ℕ) → slice_get (drop n xs) k ≡ slice_get xs (n + k)
get-drop xs zero k = let e : k ≡ 0 + k = omega arith in ap (slice_get xs) e
get-drop [] (suc n) k = refl
get-drop (x ∷ xs) (suc n) k = let e : suc (n + k) ≡ suc n + k = omega arith in get-drop xs n k ∙ ap (slice_get (x ∷ xs)) e

-- more values than there are
pub take-past : {A : Type 0} (xs : List A) (n : ℕ) → length xs ≤ n → take n xs ≡ xs
take-past [] zero h = refl
take-past [] (suc n) h = refl
take-past (x ∷ xs) zero h = absurd (omega arith)
take-past (x ∷ xs) (suc n) h = ap (λ l. x ∷ l) (take-past xs n (omega arith))

pub take-more : {A : Type 0} (xs : List A) (k : ℕ) (x : A) → slice_get xs k ≡ Some x → take (k + 1) xs ≡ take k xs ++ x ∷ []
take-more xs k x h = ap (λ n. take n xs) (add-one k) ∙ take-next xs k x h

pub drop-more : {A : Type 0} (xs : List A) (k : ℕ) (x : A) → k < length xs → x ≡ get_or xs k x → drop k xs ≡ x ∷ drop (k + 1) xs
drop-more xs k x l e = let s : suc k ≡ k + 1 = omega arith in drop-next xs k x (slice_get-get_or xs k x l ∙ ap (λ y. Some y) (sym e)) ∙ ap (λ n. x ∷ drop n xs) s

-- what holds at each place holds of each value
pub all-from : {A : Type 0} (P : A → Type 0) (xs : List A) → ((k : ℕ) (x : A) → slice_get xs k ≡ Some x → P x) → All P xs
all-from P xs h k d less = h k (get_or xs k d) (slice_get-get_or xs k d less)

pub map-same : {A B : Type 0} (f g : A → B) (xs : List A) → ((x : A) → f x ≡ g x) → map f xs ≡ map g xs
map-same f g [] h = refl
map-same f g (x ∷ xs) h = ap (λ y. y ∷ map f xs) (h x) ∙ ap (λ ys. g x ∷ ys) (map-same f g xs h)

pub filter-none : {A : Type 0} (p : A → Bool) (xs : List A) → ((x : A) → p x ≡ false) → filter p xs ≡ []
filter-none p [] none = refl
filter-none p (x ∷ xs) none = rw (none x) (filter-none p xs none)

pub contains-filter : {A : Type 0} (p : A → Bool) (xs : List A) (x : A) → p x ≡ true → Contains xs x → Contains (filter p xs) x
contains-filter p [] x t h = absurd (omega (arith, h.1))
contains-filter {A} p (y ∷ xs) x t (k, l, e) = by k l e (p y) refl (λ j m g. contains-filter p xs x t (j, m, g))
  where
    by : (k : ℕ) → k < length (y ∷ xs) → get_or (y ∷ xs) k x ≡ x → (b : Bool) → p y ≡ b → ((j : ℕ) → j < length xs → get_or xs j x ≡ x → Contains (filter p xs) x) → Contains (cond b (y ∷ filter p xs) (filter p xs)) x
    by zero l e true f again = (0, omega arith, e)
    by zero l e false f again = let z = ap p e in cc
    by (suc j) l e true f again = let r = again j (omega arith) e in (suc r.0, omega (arith, r.1), r.2)
    by (suc j) l e false f again = again j (omega arith) e
