use Rattle.std.proofs.Common.{◌≡◌, ap, ◌∙◌, true}
use Rattle.metrics.specs.Face.{FontFace}
use Rattle.metrics.specs.Inside.{face_view}
use Rattle.metrics.specs.Text.{is_kept, is_next_pair}
use Rattle.metrics.proofs.PairLemmas.{pair_push}
use Rattle.metrics.proofs.face_lines.FaceLines.push_pair.Goals as goal

pub invariant_of-self-2 : goal.invariant_of-self-2
invariant_of-self-2 c =
    let next : is_next_pair (face_view c.self.inside) c.args.pair ≡ true = ap (λ (f : FontFace). is_next_pair f c.args.pair) c.self.view_is ∙ c.requires.next in
    let kept : is_kept (face_view c.self.inside) c.args.pair ≡ true = ap (λ (f : FontFace). is_kept f c.args.pair) c.self.view_is ∙ c.requires.kept in
    rw c.in_ok-push.ensures.items (pair_push (face_view c.self.inside) c.args.pair c.self.invariant next kept)
