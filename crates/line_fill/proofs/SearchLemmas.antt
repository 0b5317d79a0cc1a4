-- How the lines of a leaf are found.
use Rattle.std.proofs.Common.{◌≡◌, ◌≢◌, ℕ, ℤ, ◌<◌, ◌≤◌, ◌⊎◌, inl, inr, List, Some, slice_get, arith, sym, ◌∙◌, ap, subst}
use Rattle.std.proofs.lemmas.Bool.{cases_lt}
use Rattle.std.proofs.lemmas.Option.{same_Some}
use Rattle.line_fill.specs.Kept.{IsLeafAt}
use Rattle.line_fill.specs.KeptSearch.{ArePrinted, AreChained, IsLast}
use Rattle.line_fill.specs.declared.kept.KeptLeaf.{KeptLeaf}
use Rattle.line_fill.specs.Keys.{LeafKey, key_in, print_of}
use Rattle.line_fill.proofs.SameLemmas.{print_same}

module _ (leaves : List KeptLeaf) (key : LeafKey) (measure : ℤ) (print : ℕ) (printed : ArePrinted leaves) (same : print ≡ print_of key measure) where
  -- a leaf of a key has its print
  has_print : (j : ℕ) (x : KeptLeaf) → slice_get leaves j ≡ Some x → key_in x ≡ key → x.measure ≡ measure → x.print ≡ print
  has_print j x has e m = printed j x has ∙ (print_same e m ∙ sym same)

  -- no leaf of the key stands from a place on, if none stands at it and none after it
  pub none_more : (at end : ℕ) (kept : KeptLeaf) → slice_get leaves at ≡ Some kept → (key_in kept ≡ key → kept.measure ≡ measure → ⊥) → ((j : ℕ) (y : KeptLeaf) → at < j → j < end → slice_get leaves j ≡ Some y → y.print ≢ print) → ((j : ℕ) → end ≤ j → IsLeafAt leaves j key measure → ⊥) → (j : ℕ) → at ≤ j → IsLeafAt leaves j key measure → ⊥
  none_more at end kept has miss between past j h l = by (cases_lt at j) (cases_lt j end)
    where
      by : (at < j) ⊎ (j ≤ at) → (j < end) ⊎ (end ≤ j) → ⊥
      by (inl a) (inl b) = between j l.leaf a b l.has (has_print j l.leaf l.has l.key_is l.measure_is)
      by (inl a) (inr b) = past j b l
      by (inr a) b = let e : j ≡ at = omega arith in let s : l.leaf ≡ kept = same_Some _ _ (sym l.has ∙ (ap (slice_get leaves) e ∙ has)) in miss (ap key_in (sym s) ∙ l.key_is) (ap (λ (x : KeptLeaf). x.measure) (sym s) ∙ l.measure_is)

  -- none stands anywhere, if none of the print stands before an end, and none from it on
  pub none_left : (end : ℕ) → ((j : ℕ) (y : KeptLeaf) → j < end → slice_get leaves j ≡ Some y → y.print ≢ print) → ((j : ℕ) → end ≤ j → IsLeafAt leaves j key measure → ⊥) → (j : ℕ) → IsLeafAt leaves j key measure → ⊥
  none_left end before past j l = by (cases_lt j end)
    where
      by : (j < end) ⊎ (end ≤ j) → ⊥
      by (inl b) = before j l.leaf b l.has (has_print j l.leaf l.has l.key_is l.measure_is)
      by (inr b) = past j b l

-- the last of a print before a leaf that has it
pub last_before : (leaves : List KeptLeaf) (at print : ℕ) (kept x : KeptLeaf) → AreChained leaves → slice_get leaves at ≡ Some kept → slice_get leaves at ≡ Some x → x.print ≡ print → IsLast leaves at print kept.before
last_before leaves at print kept x chained has has' e =
    let s : kept ≡ x = same_Some _ _ (sym has ∙ has') in
    subst (λ (p : ℕ). IsLast leaves at p kept.before) (ap (λ (y : KeptLeaf). y.print) s ∙ e) (chained at kept has)
