use Rattle.std.proofs.Common.{rules, ◌≡◌, ℕ, ◌≤◌, List, Option, None, Some, length, sym, ◌∙◌, arith, refl, ◌+ℤ◌, FitsSigned}
use Rattle.std.specs.Prelude.{IfNone}
use Rattle.std.specs.Int.{w64}
use Rattle.std.proofs.lemmas.Int.{to_z-of_z}
use Rattle.bk_num.specs.Numbers.{last_of}
use Rattle.counters.specs.declared.scopes.ScopeMark.{ScopeMark}
use Rattle.counters.specs.Chains.{all_of, beyond, chain}
use Rattle.counters.proofs.ChainLemmas.{added-past, next-reset, next-added, next-first}
use Rattle.counters.proofs.scopes.next_mark.Goals as goal

-- where a way outwards is found from the last mark
found : (marks : List ScopeMark) (place : ℕ) (last from r : Option ℕ) → last ≡ from → ((most : ℕ) → length marks ≤ most → chain most marks r ≡ beyond place (chain most marks last)) → all_of marks r ≡ beyond place (all_of marks from)
found marks place last from r e h = rw (← e) (h (length marks) (omega arith))

pub returns-in-Reset-clause-some : goal.returns-in-Reset-clause-some
returns-in-Reset-clause-some c =
    let fits : FitsSigned w64 c.in-Reset.number = search rules in
    rw (to_z-of_z w64 c.in-Reset.number fits) (next-reset c.args.marks.now c.args.event.now c.in-Reset.number c.reaching-outer.result _ c.in-Reset.is refl (found c.args.marks.now c.args.event.now.end c.last_mark-last.result (last_of (length c.args.marks.now)) c.reaching-outer.result c.last_mark-last.ensures c.reaching-outer.ensures.chain) c.reaching-outer.ensures.within)

pub returns-in_ok-value-in-Add-clause-some : goal.returns-in_ok-value-in-Add-clause-some
returns-in_ok-value-in-Add-clause-some c =
    let fits : FitsSigned w64 c.in_ok-value-in-Add.value = search rules in
    let sum : c.in_ok-value-in-Add.value ≡ c.in-Some.mark.value +ℤ c.in-Add.add = search rules in
    rw (to_z-of_z w64 c.in_ok-value-in-Add.value fits, sum) (next-added c.args.marks.now c.requires.falling c.args.event.now c.in-Add.add c.reaching.result c.in-Some.mark _ c.in-Add.is (sym c.front.ensures ∙ c.in-Some.is) refl (found c.args.marks.now c.args.event.now.at c.last_mark-last.result (last_of (length c.args.marks.now)) c.reaching.result c.last_mark-last.ensures c.reaching.ensures.chain))

pub returns-in_default-clause-some : goal.returns-in_default-clause-some
returns-in_default-clause-some c =
    let fits : FitsSigned w64 c.in-Add.add = search rules in
    rw (to_z-of_z w64 c.in-Add.add fits) (next-first c.args.marks.now c.args.event.now c.in-Add.add c.reaching.result _ c.in-Add.is (sym c.front.ensures ∙ c.in_default.is) refl (found c.args.marks.now c.args.event.now.at c.last_mark-last.result (last_of (length c.args.marks.now)) c.reaching.result c.last_mark-last.ensures c.reaching.ensures.chain))

none-if : {A P : Type 0} (r : Option A) → P → IfNone r P
none-if None p = p
none-if (Some x) p = tt

pub returns-in_err-value-in-Add-clause-none : goal.returns-in_err-value-in-Add-clause-none
returns-in_err-value-in-Add-clause-none c =
    let past : FitsSigned w64 (c.in-Some.mark.value +ℤ c.in-Add.add) → ⊥ = search rules in
    none-if _ (added-past c.args.marks.now c.requires.falling c.args.event.now c.in-Add.add c.reaching.result c.in-Some.mark c.in-Add.is (sym c.front.ensures ∙ c.in-Some.is) (found c.args.marks.now c.args.event.now.at c.last_mark-last.result (last_of (length c.args.marks.now)) c.reaching.result c.last_mark-last.ensures c.reaching.ensures.chain) past)
