use Rattle.std.proofs.Common.{arith, option_map}
use Rattle.soft_hyphens.specs.Words.{points_in}
use Rattle.box_gen.specs.Faces.{face_of}
use Rattle.box_gen.specs.Leaves.{leaf_style_of}
use Rattle.box_gen.specs.Props.{anonymous_props}
use Rattle.box_gen.specs.Sites.{built_in}
use Rattle.box_gen.proofs.ByteLemmas.{bytes-put}
use Rattle.box_gen.proofs.put.put_run.Goals as goal

pub returns-in-Err-clause-cause : goal.returns-in-Err-clause-cause
returns-in-Err-clause-cause c = λ e.
    let s = c.args.faced.now.style in
    let long = c.in-Err.ensures.cause e in
    let all = bytes-put (points_in (option_map (λ h. h.now) c.args.hyphenator)) (leaf_style_of s (face_of c.args.faced.now.faces s)) (anonymous_props s) c.args.wrap (built_in c.args.site.now) c.args.items in
    let n = c.requires.count.count in
    let f = c.requires.count.few in
    omega (arith, long, all, n, f)
