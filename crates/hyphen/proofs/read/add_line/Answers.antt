use Rattle.std.proofs.Common.{◌≡◌, ◌∙◌, arith, ap, refl, sym, Some, None, [], ◌∷◌}
use Rattle.std.specs.Option.{option_map}
use Rattle.std.specs.Str.{chars}
use Rattle.hyphen.specs.Read.{pattern_view}
use Rattle.hyphen.specs.Text.{entry_of, pattern_of, single}
use Rattle.hyphen.proofs.LineLemmas.{entry_is, length-pattern, single-none, single-some}
use Rattle.hyphen.proofs.ReadLemmas.{value_at-none, value_at-one}
use Rattle.hyphen.proofs.read.add_line.Goals as goal

pub returns-then-is_skipped : goal.returns-then-is_skipped
returns-then-is_skipped c =
    let said = entry_is (chars c.args.line.now) c.deref.result.now c.deref-2.result.now c.trimmed-rest.result.now c.is_skipped.result (c.deref.ensures.value ∙ c.in_ok-line.ensures) (c.deref-2.ensures.value ∙ c.in_ok-line.ensures) c.trimmed-rest.ensures c.is_skipped.ensures in
    let skipped : entry_of (chars c.args.line.now) ≡ Some [] = rw c.if-is_skipped.true at said in
    rw skipped (refl, λ word place. omega (arith, value_at-none word place))

pub add-requires : goal.add-requires
add-requires c = (length-pattern c.trimmed-rest.result.now (pattern_view c.in-Some.pattern) (sym c.in_ok-pattern.ensures ∙ ap (option_map pattern_view) c.in-Some.is)).0

pub returns-in-Some : goal.returns-in-Some
returns-in-Some c =
    let said = entry_is (chars c.args.line.now) c.deref.result.now c.deref-2.result.now c.trimmed-rest.result.now c.is_skipped.result (c.deref.ensures.value ∙ c.in_ok-line.ensures) (c.deref-2.ensures.value ∙ c.in_ok-line.ensures) c.trimmed-rest.ensures c.is_skipped.ensures in
    let spelt : pattern_of c.trimmed-rest.result.now ≡ Some (pattern_view c.in-Some.pattern) = sym c.in_ok-pattern.ensures ∙ ap (option_map pattern_view) c.in-Some.is in
    let one : entry_of (chars c.args.line.now) ≡ Some (pattern_view c.in-Some.pattern ∷ []) = (rw c.if-is_skipped.false at said) ∙ ap single spelt ∙ single-some (pattern_view c.in-Some.pattern) in
    rw one (refl, λ word place. omega (arith, value_at-one (pattern_view c.in-Some.pattern) word place, c.in_ok-add-in-Some.ensures word place))

pub returns : goal.returns
returns c =
    let said = entry_is (chars c.args.line.now) c.deref.result.now c.deref-2.result.now c.trimmed-rest.result.now c.is_skipped.result (c.deref.ensures.value ∙ c.in_ok-line.ensures) (c.deref-2.ensures.value ∙ c.in_ok-line.ensures) c.trimmed-rest.ensures c.is_skipped.ensures in
    let spelt : pattern_of c.trimmed-rest.result.now ≡ None = sym c.in_ok-pattern.ensures ∙ ap (option_map pattern_view) c.in-None.is in
    let bad : entry_of (chars c.args.line.now) ≡ None = (rw c.if-is_skipped.false at said) ∙ ap single spelt ∙ single-none in
    rw bad refl
