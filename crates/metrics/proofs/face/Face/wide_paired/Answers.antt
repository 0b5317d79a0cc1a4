use Rattle.std.proofs.Common.{◌≡◌, ◌∙◌, ap, arith, subst}
use Rattle.std.proofs.lemmas.Int.{ints}
use Rattle.metrics.specs.Face.{FontFace, IsWithinLimits, change_of}
use Rattle.metrics.proofs.PairLemmas.{paired_within}
use Rattle.metrics.proofs.face.Face.wide_paired.Goals as goal

pub changed-requires-clause-least : goal.changed-requires-clause-least
changed-requires-clause-least c =
    let w = paired_within c.args.self.now c.args.first c.args.c (subst IsWithinLimits c.self.view_is c.change_at-change.ensures.limits) in
    let d : c.change_at-change.result ≡ change_of c.args.self.now c.args.first c.args.c = c.change_at-change.ensures.value ∙ ap (λ (f : FontFace). change_of f c.args.first c.args.c) c.self.view_is in
    omega (arith, ints)

pub changed-requires-clause-most : goal.changed-requires-clause-most
changed-requires-clause-most c =
    let w = paired_within c.args.self.now c.args.first c.args.c (subst IsWithinLimits c.self.view_is c.change_at-change.ensures.limits) in
    let d : c.change_at-change.result ≡ change_of c.args.self.now c.args.first c.args.c = c.change_at-change.ensures.value ∙ ap (λ (f : FontFace). change_of f c.args.first c.args.c) c.self.view_is in
    omega (arith, ints)
