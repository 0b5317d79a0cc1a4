-- The greatest of values: of two at each place, of one among nothing, and of a longer row with nothing more.
use Rattle.std.proofs.Common.{◌≡◌, ◌≢◌, ℕ, zero, suc, ◌+◌, ◌<◌, ◌≤◌, max, add-one, refl, ap, arith, ⊎_elim}
use Rattle.std.proofs.lemmas.Bool.{cases_eq, cases_lt}
use Rattle.hyphen.specs.Pattern.{most}

pub most_max : (n : ℕ) (f g h : ℕ → ℕ) → ((m : ℕ) → m < n → h m ≡ max (f m) (g m)) → most n h ≡ max (most n f) (most n g)
unfolding most
most_max zero f g h each = refl
most_max (suc n) f g h each =
    let front : most n h ≡ max (most n f) (most n g) = most_max n f g h (λ m l. each m (omega arith)) in
    let last : h n ≡ max (f n) (g n) = each n (omega arith) in
    omega arith

pub most_none : (n : ℕ) (f : ℕ → ℕ) → ((m : ℕ) → m < n → f m ≡ 0) → most n f ≡ 0
unfolding most
most_none zero f each = refl
most_none (suc n) f each =
    let front : most n f ≡ 0 = most_none n f (λ m l. each m (omega arith)) in
    let last : f n ≡ 0 = each n (omega arith) in
    omega arith

pub most_one : (n m : ℕ) (f : ℕ → ℕ) → m < n → ((k : ℕ) → k < n → k ≢ m → f k ≡ 0) → most n f ≡ f m
unfolding most
most_one zero m f l each = absurd (omega arith)
most_one (suc n) m f l each = ⊎_elim
    (λ (e : m ≡ n).
    let front : most n f ≡ 0 = most_none n f (λ k b. each k (omega arith) (omega arith)) in
    let same : f m ≡ f n = ap f e in
    omega arith)
    (λ (d : m ≡ n → ⊥).
    let front : most n f ≡ f m = most_one n m f (omega arith) (λ k b. each k (omega arith)) in
    let last : f n ≡ 0 = each n (omega arith) (omega arith) in
    omega arith)
    (cases_eq m n)

pub most_more : (a b : ℕ) (f : ℕ → ℕ) → a ≤ b → ((k : ℕ) → a ≤ k → k < b → f k ≡ 0) → most b f ≡ most a f
unfolding most
most_more a zero f l each = let e : a ≡ 0 = omega arith in rw e refl
most_more a (suc b) f l each = ⊎_elim
    (λ (h : a < suc b).
    let front : most b f ≡ most a f = most_more a b f (omega arith) (λ k from to. each k from (omega arith)) in
    let last : f b ≡ 0 = each b (omega arith) (omega arith) in
    omega arith)
    (λ (h : suc b ≤ a). let e : a ≡ suc b = omega arith in rw e refl)
    (cases_lt a (suc b))

pub most_next : (n : ℕ) (f : ℕ → ℕ) → most (n + 1) f ≡ max (most n f) (f n)
unfolding most
most_next n f = rw add-one refl

pub most_same : (n : ℕ) (f g : ℕ → ℕ) → ((m : ℕ) → m < n → f m ≡ g m) → most n f ≡ most n g
unfolding most
most_same zero f g each = refl
most_same (suc n) f g each =
    let front : most n f ≡ most n g = most_same n f g (λ m l. each m (omega arith)) in
    let last : f n ≡ g n = each n (omega arith) in
    omega arith
