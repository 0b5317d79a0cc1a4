-- a set of numbers has one ascending list
use Rattle.std.proofs.Common.{◌≡◌, ◌⊎◌, inl, inr, ℕ, zero, suc, ◌+◌, ◌<◌, ◌≤◌, List, [], ◌∷◌, map, get_or, refl, sym, ◌∙◌, ap, subst, arith}
use Rattle.std.specs.List.{Contains}
use Rattle.std.specs.List.Sorted.{IsStrictlyIncreasing}
use Rattle.bk_num.specs.declared.ids.NodeId.{NodeId}
use Rattle.bk_num.proofs.ListLemmas.{contains-none, contains-first, contains-more}
use Rattle.dom.specs.Nodes.{Node}
use Rattle.style.specs.Nodes.{NodeStyles}
use Rattle.gen_text.specs.References.{AreTargets}

cases : (x : ℕ) (xs : List ℕ) (t : ℕ) → Contains (x ∷ xs) t → (x ≡ t) ⊎ Contains xs t
cases x xs t (zero, less, is) = inl is
cases x xs t (suc k, less, is) = inr (k, omega (arith, less), is)

rest_up : (x : ℕ) (xs : List ℕ) → IsStrictlyIncreasing (x ∷ xs) → IsStrictlyIncreasing xs
rest_up x xs up k less = let e : suc k + 1 ≡ suc (k + 1) = omega arith in subst (λ (j : ℕ). get_or xs k 0 < get_or (x ∷ xs) j 0) e (up (suc k) (omega (arith, less)))

head_below : (x : ℕ) (xs : List ℕ) → IsStrictlyIncreasing (x ∷ xs) → (t : ℕ) → Contains xs t → x < t
head_below x [] up t h = absurd (contains-none t h)
head_below x (y ∷ ys) up t h = by (λ later. head_below y ys (rest_up x (y ∷ ys) up) t later) (cases y ys t h)
  where
    first : x < y
    first = up 0 (omega arith)

    by : (Contains ys t → y < t) → (y ≡ t) ⊎ Contains ys t → x < t
    by more (inl same) = subst (λ (k : ℕ). x < k) same first
    by more (inr later) = let below = more later in omega (arith, first, below)

abbrev Within : List ℕ → List ℕ → Type 0
Within xs ys = (t : ℕ) → Contains xs t → Contains ys t

head_least : (x y : ℕ) (xs ys : List ℕ) → IsStrictlyIncreasing (x ∷ xs) → Within (y ∷ ys) (x ∷ xs) → x ≤ y
head_least x y xs ys up within = by (cases x xs y (within y (contains-first y ys)))
  where
    by : (x ≡ y) ⊎ Contains xs y → x ≤ y
    by (inl same) = omega (arith, same)
    by (inr later) = let below = head_below x xs up y later in omega (arith, below)

rest_within : (x y : ℕ) (xs ys : List ℕ) → x ≡ y → IsStrictlyIncreasing (x ∷ xs) → Within (x ∷ xs) (y ∷ ys) → Within xs ys
rest_within x y xs ys same up within t h = by (cases y ys t (within t (contains-more x xs t h)))
  where
    by : (y ≡ t) ⊎ Contains ys t → Contains ys t
    by (inl e) = let below = head_below x xs up t h in absurd (omega (arith, below, e, same))
    by (inr later) = later

one : (xs ys : List ℕ) → IsStrictlyIncreasing xs → IsStrictlyIncreasing ys → Within xs ys → Within ys xs → xs ≡ ys
one [] [] up down f g = refl
one [] (y ∷ ys) up down f g = absurd (contains-none y (g y (contains-first y ys)))
one (x ∷ xs) [] up down f g = absurd (contains-none x (f x (contains-first x xs)))
one (x ∷ xs) (y ∷ ys) up down f g =
    let less = head_least x y xs ys up g in
    let more = head_least y x ys xs down f in
    let same : x ≡ y = omega (arith, less, more) in
    let rest = one xs ys (rest_up x xs up) (rest_up y ys down) (rest_within x y xs ys same up f) (rest_within y x ys xs (sym same) down g) in
    ap (λ k. k ∷ xs) same ∙ ap (λ l. y ∷ l) rest

abbrev node : ℕ → NodeId
node k = record { 0 = k }

ids : (a b : List NodeId) → map (λ (n : NodeId). n.0) a ≡ map (λ (n : NodeId). n.0) b → a ≡ b
ids [] [] e = refl
ids [] (m ∷ b) e = cc
ids (n ∷ a) [] e = cc
ids (n ∷ a) (m ∷ b) e =
    let head : n.0 ≡ m.0 = cc in
    let rest : map (λ (n : NodeId). n.0) a ≡ map (λ (n : NodeId). n.0) b = cc in
    let same : n ≡ m = ap node head in
    ap (λ k. k ∷ a) same ∙ ap (λ l. m ∷ l) (ids a b rest)

pub targets-one : (nodes : List Node) (styles : List NodeStyles) (a b : List NodeId) → AreTargets nodes styles a → AreTargets nodes styles b → a ≡ b
targets-one nodes styles a b f g = ids a b (one (map (λ n. n.0) a) (map (λ n. n.0) b) f.rises g.rises (λ t h. (g.named t).1 ((f.named t).0 h)) (λ t h. (f.named t).1 ((g.named t).0 h)))
