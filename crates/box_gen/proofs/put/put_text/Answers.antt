use Rattle.std.proofs.Common.{ap, arith}
use Rattle.box_gen.specs.declared.put.TreeRoom.{TreeRoom}
use Rattle.box_gen.specs.Faces.{face_of}
use Rattle.box_gen.specs.Flow.{Built}
use Rattle.box_gen.specs.Leaves.{leaf_style_of}
use Rattle.box_gen.specs.Props.{anonymous_props}
use Rattle.box_gen.specs.Sites.{built_in, leaf_bytes}
use Rattle.box_gen.proofs.ByteLemmas.{bytes-any}
use Rattle.box_gen.proofs.put.put_text.Goals as goal

pub returns-clause-count : goal.returns-clause-count
returns-clause-count c =
    let run = c.args.run in
    let s = c.args.faced.now.style in
    let all = ap (λ (b : Built). leaf_bytes b.tree.leaves) c.in_ok-put_any.ensures.built in
    let any = bytes-any c.args.wrap (leaf_style_of s (face_of c.args.faced.now.faces s)) (anonymous_props s) (built_in c.args.site.now) run.text run.spans run.starts in
    let kept = c.in_ok-put_any.ensures.bytes in
    let bytes = c.bytes_of-bytes.ensures in
    let n = c.requires.count.count in
    let room = c.requires.room in
    let same = ap (λ (r : TreeRoom). r.bytes) c.in_ok-put_any.ensures.room in
    let most = c.requires.count.most in
    record { count = omega (arith, all, any, kept, bytes, n); few = omega (arith, kept, bytes, room, same); most = omega (arith, same, most) }
