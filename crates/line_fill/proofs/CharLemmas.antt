-- Which character a byte begins, and whether it has a width.
use Rattle.std.proofs.Common.{◌≡◌, ℕ, suc, ◌+◌, ◌-◌, ◌<◌, Bool, true, false, cond, ◌&&◌, List, get_or, None, Some, refl, sym, ap, arith}
use Rattle.metrics.specs.Widths.{begun_at, char_at, has_width, is_lead}
use Rattle.line_fill.specs.Stops.{first_wide}

module _ (text : List ℕ) (at : ℕ) where
  -- whether a byte begins a character with a width, by the character that it begins
  pub wide-none : begun_at text at ≡ None → false ≡ (is_lead (get_or text at 0) && has_width (char_at text at))
  unfolding begun_at
  wide-none e = by (is_lead (get_or text at 0)) e
    where
      by : (b : Bool) → cond b (Some (char_at text at)) None ≡ None → false ≡ (b && has_width (char_at text at))
      by true h = absurd cc
      by false h = refl

  pub wide-some : (c : ℕ) → begun_at text at ≡ Some c → has_width c ≡ (is_lead (get_or text at 0) && has_width (char_at text at))
  unfolding begun_at
  wide-some c e = by (is_lead (get_or text at 0)) e
    where
      by : (b : Bool) → cond b (Some (char_at text at)) None ≡ Some c → has_width c ≡ (b && has_width (char_at text at))
      by true h = let s : char_at text at ≡ c = cc in ap has_width (sym s)
      by false h = absurd cc

-- the first character with a width is sought step by step
pub wide-here : (text : List ℕ) (at end : ℕ) → at < end → (is_lead (get_or text at 0) && has_width (char_at text at)) ≡ true → first_wide text at (end - at) ≡ Some at
wide-here text at end l h = let e : end - at ≡ suc (end - (at + 1)) = omega arith in rw (e, h) refl

pub wide-later : (text : List ℕ) (at end : ℕ) → at < end → (is_lead (get_or text at 0) && has_width (char_at text at)) ≡ false → first_wide text at (end - at) ≡ first_wide text (at + 1) (end - (at + 1))
wide-later text at end l h =
    let e : end - at ≡ suc (end - (at + 1)) = omega arith in
    let s : at + 1 ≡ suc at = omega arith in
    rw (e, h, s) refl
