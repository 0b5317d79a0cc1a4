-- Ranks are a total order.
use Rattle.std.proofs.Common.{◌≡◌, ℕ, Bool, true, false, List, refl, sym, ◌∙◌, ap, arith}
use Rattle.std.specs.Cmp.Lexicographic.{slice_cmp}
use Rattle.std.proofs.lemmas.Cmp.{nat_list_cmp_total}
use Rattle.std.proofs.lemmas.Map.Text.{is_eq-slice_cmp}
use Rattle.std.proofs.lemmas.Slice.Eq.{bytes_eq-Decides}
use Rattle.std.specs.Int.{from_bool}
use Rattle.std.specs.Ordering.{nat_cmp, is_gt, is_eq, ordering_reverse}
use Rattle.std.specs.declared.cmp.Ordering.{Ordering}
use Rattle.std.specs.declared.cmp.Ordering.TheVariants.{Less, Equal, Greater}
use Rattle.style.specs.Ranking.{outranks}

-- what wins over another doesn't lose to it, and nothing wins over itself
pub above-not : (a b : List ℕ) → outranks a b ≡ true → outranks b a ≡ false
above-not a b h = by (slice_cmp nat_cmp a b) (slice_cmp nat_cmp b a) (nat_list_cmp_total.antisymm a b) h
  where
    by : (o p : Ordering) → o ≡ ordering_reverse p → is_gt o ≡ true → is_gt p ≡ false
    by o Less e g = refl
    by o Equal e g = refl
    by o Greater e g = let z : is_gt o ≡ false = ap is_gt e in cc

pub above-self : (a : List ℕ) → outranks a a ≡ false
above-self a = by (outranks a a) refl
  where
    by : (b : Bool) → outranks a a ≡ b → b ≡ false
    by true h = sym h ∙ above-not a a h
    by false h = refl

above-less : (a b : List ℕ) → outranks a b ≡ true → slice_cmp nat_cmp b a ≡ Less
above-less a b h = nat_list_cmp_total.antisymm b a ∙ ap ordering_reverse (by (slice_cmp nat_cmp a b) h)
  where
    by : (o : Ordering) → is_gt o ≡ true → o ≡ Greater
    by Less e = cc
    by Equal e = cc
    by Greater e = refl

less-above : (a b : List ℕ) → slice_cmp nat_cmp b a ≡ Less → outranks a b ≡ true
less-above a b e = ap is_gt (nat_list_cmp_total.antisymm a b ∙ ap ordering_reverse e)

pub above-trans : (a b c : List ℕ) → outranks a b ≡ true → outranks b c ≡ true → outranks a c ≡ true
above-trans a b c h g = less-above a c (nat_list_cmp_total.trans c b a (above-less b c g) (above-less a b h))

-- what isn't above the lower one isn't above the higher one
pub above-over : (d c b : List ℕ) → outranks d b ≡ false → outranks c b ≡ true → outranks d c ≡ false
above-over d c b low high = by (outranks d c) refl
  where
    by : (x : Bool) → outranks d c ≡ x → x ≡ false
    by true h = let z : outranks d b ≡ true = above-trans d c b h high in sym z ∙ low
    by false h = refl

-- what another is above, that isn't above a third, isn't above it either
pub above-below : (b x d : List ℕ) → outranks b x ≡ true → outranks b d ≡ false → outranks x d ≡ false
above-below b x d high low = by (outranks x d) refl
  where
    by : (v : Bool) → outranks x d ≡ v → v ≡ false
    by true h = let z : outranks b d ≡ true = above-trans b x d high h in sym z ∙ low
    by false h = refl

pub not-above : (b x d : List ℕ) → outranks b x ≡ false → outranks x d ≡ false → outranks b d ≡ false
not-above b x d low high = by (outranks b d) refl
  where
    of : (o : Ordering) → slice_cmp nat_cmp x d ≡ o → outranks b d ≡ true → outranks b x ≡ true
    of Less e h = less-above b x (nat_list_cmp_total.trans x d b e (above-less b d h))
    of Equal e h = less-above b x (nat_list_cmp_total.congr x d b e ∙ above-less b d h)
    of Greater e h = absurd (let z : outranks x d ≡ true = ap is_gt e in let w : true ≡ false = sym z ∙ high in cc)

    by : (v : Bool) → outranks b d ≡ v → v ≡ false
    by true h = let z : outranks b x ≡ true = of (slice_cmp nat_cmp x d) refl h in sym z ∙ low
    by false h = refl

-- ranks neither of which are above the others are the same
pub same-ranks : (a b : List ℕ) → outranks a b ≡ false → outranks b a ≡ false → a ≡ b
same-ranks a b h g = (bytes_eq-Decides a b).0 (sym (is_eq-slice_cmp a b) ∙ ap is_eq (by (slice_cmp nat_cmp a b) (slice_cmp nat_cmp b a) (nat_list_cmp_total.antisymm a b) h g))
  where
    by : (o p : Ordering) → o ≡ ordering_reverse p → is_gt o ≡ false → is_gt p ≡ false → o ≡ Equal
    by o Less e h g = let z : is_gt o ≡ true = ap is_gt e in cc
    by o Equal e h g = e
    by o Greater e h g = cc

pub same-rank : (s t : Bool) → from_bool s ≡ from_bool t → s ≡ t
same-rank true true e = refl
same-rank false false e = refl
same-rank true false e = absurd (omega (arith, e))
same-rank false true e = absurd (omega (arith, e))
