use Rattle.std.proofs.Common.{◌≡◌, ℕ, ◌<◌, true, false, List, [], Option, Some, None, slice_get, refl, sym, ◌∙◌, ap, subst, arith}
use Rattle.std.specs.Prelude.{nat_le}
use Rattle.std.proofs.lemmas.Bool.Decides.{nat_tests}
use Rattle.counters.specs.declared.scopes.ScopeMark.{ScopeMark}
use Rattle.counters.specs.Chains.{chain, beyond, AreFalling}
use Rattle.counters.proofs.Heights.{height}
use Rattle.counters.proofs.ChainLemmas.{chain-none, chain-past, beyond-ended, beyond-held}
use Rattle.counters.proofs.scopes.reaching.Goals as goal

-- at no mark
past : (marks : List ScopeMark) (place : ℕ) (from head : Option ℕ) (most : ℕ) → beyond place (chain most marks head) ≡ beyond place (chain most marks from) → chain most marks head ≡ [] → chain most marks None ≡ beyond place (chain most marks from)
past marks place from head most inv e = chain-none marks most ∙ (let z : beyond place (chain most marks head) ≡ [] = ap (beyond place) e in sym z) ∙ inv

pub returns-in_default-mark_of-clause-chain : goal.returns-in_default-mark_of-clause-chain
returns-in_default-mark_of-clause-chain c = λ most l.
    let is : c.loop-head.head ≡ Some c.in-Some.index = c.in-Some.is in
    let g : slice_get c.args.marks.now c.in-Some.index ≡ None = sym c.mark_of.ensures ∙ c.in_default-mark_of.is in
    past c.args.marks.now c.args.place c.args.from c.loop-head.head most (c.loop-head.invariant most l) (rw is (chain-past c.args.marks.now most c.in-Some.index g))

pub returns-then-mark-place-clause-chain : goal.returns-then-mark-place-clause-chain
returns-then-mark-place-clause-chain c = λ most l.
    let is : c.loop-head.head ≡ Some c.in-Some.index = c.in-Some.is in
    let g : slice_get c.args.marks.now c.in-Some.index ≡ Some c.in-Some-mark_of.mark = sym c.mark_of.ensures ∙ c.in-Some-mark_of.is in
    let e : nat_le c.in-Some-mark_of.mark.end c.args.place ≡ false = grind (arith, nat_tests) in
    sym (beyond-held c.args.marks.now c.requires most c.in-Some.index c.args.place c.in-Some-mark_of.mark l g e) ∙ subst (λ o. beyond c.args.place (chain most c.args.marks.now o) ≡ beyond c.args.place (chain most c.args.marks.now c.args.from)) is (c.loop-head.invariant most l)

lower : (marks : List ScopeMark) (i : ℕ) (m : ScopeMark) (o : Option ℕ) → AreFalling marks → slice_get marks i ≡ Some m → m.outer ≡ o → height o < height (Some i)
lower marks i m None falls g e = omega arith
lower marks i m (Some j) falls g e = let f = falls i j m g e in omega arith

pub loop-head-smaller : goal.loop-head-smaller
loop-head-smaller c =
    let is : c.loop-head.head ≡ Some c.in-Some.index = c.in-Some.is in
    let g : slice_get c.args.marks.now c.in-Some.index ≡ Some c.in-Some-mark_of.mark = sym c.mark_of.ensures ∙ c.in-Some-mark_of.is in
    rw is (lower c.args.marks.now c.in-Some.index c.in-Some-mark_of.mark c.in-Some-mark_of.mark.outer c.requires g refl)

pub loop-head-preserved : goal.loop-head-preserved
loop-head-preserved c = λ most l.
    let is : c.loop-head.head ≡ Some c.in-Some.index = c.in-Some.is in
    let g : slice_get c.args.marks.now c.in-Some.index ≡ Some c.in-Some-mark_of.mark = sym c.mark_of.ensures ∙ c.in-Some-mark_of.is in
    let e : nat_le c.in-Some-mark_of.mark.end c.args.place ≡ true = grind (arith, nat_tests) in
    sym (beyond-ended c.args.marks.now c.requires most c.in-Some.index c.args.place c.in-Some-mark_of.mark l g e) ∙ subst (λ o. beyond c.args.place (chain most c.args.marks.now o) ≡ beyond c.args.place (chain most c.args.marks.now c.args.from)) is (c.loop-head.invariant most l)

none-is : (o : Option ℕ) → ((i : ℕ) → o ≡ Some i → ⊥) → o ≡ None
none-is None h = refl
none-is (Some i) h = absurd (h i refl)

pub returns-clause-chain : goal.returns-clause-chain
returns-clause-chain c = λ most l.
    let is : c.loop-head.head ≡ None = c.in_default.is in
    past c.args.marks.now c.args.place c.args.from c.loop-head.head most (c.loop-head.invariant most l) (rw is (chain-none c.args.marks.now most))
