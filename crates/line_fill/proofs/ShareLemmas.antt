-- An equal leaf is shared in place of one that is kept.
use Rattle.std.proofs.Common.{◌≡◌, ◌∙◌, ℕ, ℤ, List, Option, Some, get_or, length, slice_get, refl, sym, ap, subst}
use Rattle.std.specs.Prelude.{slice_set}
use Rattle.std.proofs.lemmas.Option.{slice_get_within, slice_get_read, same_Some}
use Rattle.line_fill.specs.Kept.{Grows, IsLeafAt}
use Rattle.line_fill.specs.KeptLines.{AreRising}
use Rattle.line_fill.specs.KeptSound.{IsSoundBy}
use Rattle.line_fill.specs.KeptSteps.{IsSameLeaf}
use Rattle.line_fill.specs.Keys.{LeafKey, key_in}
use Rattle.line_fill.specs.declared.kept.KeptLeaf.{KeptLeaf}
use Rattle.line_fill.specs.declared.lines.KeptLine.{KeptLine}
use Rattle.line_fill.proofs.SetLemmas.{sound_set, places_set, same_lines}

pub record IsShared (old new : List KeptLeaf) (last : ℕ → Option ℕ) (place : ℕ) (key : LeafKey) (measure : ℤ) : Type 0 where
  pub sound : IsSoundBy new last
  pub at : IsLeafAt new place key measure
  pub grows : Grows old new

pub shared : (old : List KeptLeaf) (last : ℕ → Option ℕ) (at : ℕ) (x y : KeptLeaf) (key : LeafKey) (measure : ℤ) → IsSoundBy old last → IsLeafAt old at key measure → x ≡ get_or old at x → key_in y ≡ key → y.measure ≡ x.measure → y.print ≡ x.print → y.before ≡ x.before → y.lines ≡ x.lines → IsShared old (slice_set old at y) last at key measure
shared old last at x y key measure sound l value key_is measure_is print_is before_is lines_is = record {
  sound = sound_set old at x y has same last sound (subst (λ (ls : List KeptLine). AreRising ls) (sym lines) (sound.rising at x has));
  at = places_set old at x y has same at key measure l;
  grows = record { places = places_set old at x y has same; same = same_lines old at x y has same lines };
}
  where
    has : slice_get old at ≡ Some x
    has = slice_get_read old (length old) at x refl (slice_get_within old at l.leaf l.has) value

    same_x : x ≡ l.leaf
    same_x = same_Some _ _ (sym has ∙ l.has)

    same : IsSameLeaf x y
    same = record { key_is = key_is ∙ sym (ap key_in same_x ∙ l.key_is); measure_is = measure_is; print_is = print_is; before_is = before_is }

    lines : y.lines.items ≡ x.lines.items
    lines = ap (λ ls. ls.items) lines_is
