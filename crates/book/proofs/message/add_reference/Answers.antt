use Rattle.std.proofs.Common.{List, ℕ, ℤ, [], ◌∷◌, codes, refl}
use Rattle.std.proofs.Math.Facts.{to_z-of_z}
use Rattle.std.specs.Fmt.{signed_decimal}
use Rattle.std.specs.List.{flat_map}
use Rattle.std.proofs.lemmas.Result.{err_from_is_err_and}
use Rattle.book.specs.Message.{shown_target}
use Rattle.bk_io.proofs.Passing.{first_of_three, second_of_three, three_given}
use Rattle.book.proofs.message.add_reference.Goals as goal

-- what stands after the target
abbrev end_of : ℤ → ℤ → List ℕ
end_of before after = flat_map (λ t. t) (codes " not settled: " ∷ signed_decimal before ∷ codes " then " ∷ signed_decimal after ∷ codes "\n" ∷ [])

pub returns-in_err-add_text-clause-bytes : goal.returns-in_err-add_text-clause-bytes
returns-in_err-add_text-clause-bytes g c =
    let p = err_from_is_err_and c.from_residual.result c.from_residual.ensures.1 in
    rw p.1 (first_of_three _ _ _ (codes "bookfmt: page reference to ") (shown_target c.args.target.now) (end_of c.args.before c.args.after) _ refl c.in_err-add_text.ensures.bytes)

pub returns-in_err-add_target-clause-bytes : goal.returns-in_err-add_target-clause-bytes
returns-in_err-add_target-clause-bytes g c =
    let p = err_from_is_err_and c.from_residual-in_err-add_target.result c.from_residual-in_err-add_target.ensures.1 in
    rw p.1 (second_of_three _ _ _ _ _ (codes "bookfmt: page reference to ") (shown_target c.args.target.now) (end_of c.args.before c.args.after) _ refl c.in_ok-add_text.ensures.bytes c.in_err-add_target.ensures.bytes)

pub returns-clause-bytes : goal.returns-clause-bytes
returns-clause-bytes g c =
    let numbers = rw (to_z-of_z c.ranges.before, to_z-of_z c.ranges.after) at c.add_numbers.ensures.bytes in
    three_given _ _ _ _ _ _ _ _ (codes "bookfmt: page reference to ") (shown_target c.args.target.now) (end_of c.args.before c.args.after) _ c.add_numbers.result refl
    c.in_ok-add_text.ensures.bytes c.in_ok-add_target.ensures.bytes numbers
