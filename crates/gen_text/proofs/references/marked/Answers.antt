use Rattle.std.proofs.Common.{◌≡◌, ℕ, ◌+◌, length, refl, sym, subst, arith}
use Rattle.gen_text.proofs.MarkLemmas.{ListedBelow, listed_push, listed_skip, listed_all}
use Rattle.gen_text.proofs.references.marked.Goals.{then-mark+in_ok-push, else-mark}
use Rattle.gen_text.proofs.references.marked.Goals as goal

pub loop-index-preserved : goal.loop-index-preserved
loop-index-preserved c = elim c.if-mark.branch [
  | then-mark+in_ok-push w ↦ subst (λ l. ListedBelow c.args.marks.now (c.loop-index.index + 1) l.items) (sym w.list-is) (rw w.in_ok-push.ensures.items (listed_push c.args.marks.now c.loop-index.index c.loop-index.list.items _ refl w.if-mark.true c.loop-index.invariant))
  | else-mark w ↦ subst (λ l. ListedBelow c.args.marks.now (c.loop-index.index + 1) l.items) (sym w.list-is) (listed_skip c.args.marks.now c.loop-index.index c.loop-index.list.items w.if-mark.false c.loop-index.invariant)
]

pub returns : goal.returns
returns c =
    let e : c.loop-index.index ≡ length c.args.marks.now = grind arith in
    rw c.of.ensures (listed_all c.args.marks.now c.loop-index.list.items (subst (λ (k : ℕ). ListedBelow c.args.marks.now k c.loop-index.list.items) e c.loop-index.invariant))
