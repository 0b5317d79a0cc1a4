use Rattle.std.proofs.Common.{◌≡◌, ℤ, sym, subst, Some, None, length, slice_get, arith, rules, FitsSigned, to_z, of_z, w64}
use Rattle.std.proofs.lemmas.Int.{to_z-of_z}
use Rattle.std.proofs.lemmas.Option.{slice_get_read}
use Rattle.line_fill.specs.Keys.{key_of, print_of}
use Rattle.line_fill.specs.KeptSearch.{IsLast}
use Rattle.line_fill.proofs.SearchLemmas.{none_more, none_left, last_before}
use Rattle.line_fill.proofs.search.find.Goals as goal
use Rattle.line_fill.proofs.search.find.Goals.{After-index-leaves-at}

last : (c : After-index-leaves-at) → IsLast c.args.leaves.now c.loop-next.end c.args.print (Some c.in-Some.at)
last c = rw c.in-Some.is at c.loop-next.invariant.1

there : (c : After-index-leaves-at) → slice_get c.args.leaves.now c.in-Some.at ≡ Some c.index-leaves-at.result
there c =
    let l = (last c).1 in
    let low = c.loop-next.invariant.0 in
    slice_get_read c.args.leaves.now (length c.args.leaves.now) c.in-Some.at c.index-leaves-at.result (search rules) (omega (arith, l, low)) c.index-leaves-at.is

pub returns-then-is_of-clause-some : goal.returns-then-is_of-clause-some
returns-then-is_of-clause-some c =
    let h = c.is_of.ensures.hit c.if-is_of.true in
    let fits : FitsSigned w64 c.args.measure = c.ranges.measure in
    record {
      leaf = c.index-leaves-at.result;
      has = there (goal.at.returns-then-is_of-clause-some c).After-index-leaves-at;
      key_is = h.0;
      measure_is = rw (to_z-of_z w64 c.args.measure fits) at h.1;
    }

pub loop-next-preserved : goal.loop-next-preserved
loop-next-preserved c =
    let a = (goal.at.loop-next-preserved c).After-index-leaves-at in
    let l = last a in
    let fits : FitsSigned w64 c.args.measure = c.ranges.measure in
    let low = c.loop-next.invariant.0 in
    let few = l.1 in
    let print : c.args.print ≡ print_of (key_of c.args.leaf.now) (to_z w64 (of_z w64 c.args.measure)) = subst (λ (m : ℤ). c.args.print ≡ print_of (key_of c.args.leaf.now) m) (sym (to_z-of_z w64 c.args.measure fits)) c.requires.print in (
      omega (arith, few, low),
      last_before c.args.leaves.now c.in-Some.at c.args.print c.index-leaves-at.result l.0 c.requires.chained (there a) l.2 l.3,
      none_more c.args.leaves.now (key_of c.args.leaf.now) (to_z w64 (of_z w64 c.args.measure)) c.args.print c.requires.printed print c.in-Some.at c.loop-next.end c.index-leaves-at.result (there a) (c.is_of.ensures.miss c.if-is_of.false) l.4 c.loop-next.invariant.2,
    )

pub returns-clause-none : goal.returns-clause-none
returns-clause-none c = λ _.
    let fits : FitsSigned w64 c.args.measure = c.ranges.measure in
    let last' : IsLast c.args.leaves.now c.loop-next.end c.args.print None = rw c.in_default.is at c.loop-next.invariant.1 in
    let past = rw (to_z-of_z w64 c.args.measure fits) at c.loop-next.invariant.2 in
    none_left c.args.leaves.now (key_of c.args.leaf.now) c.args.measure c.args.print c.requires.printed c.requires.print c.loop-next.end last' past
