use Rattle.std.proofs.Common.{◌∙◌, refl}
use Rattle.box_gen.specs.Flow.{calls_of}
use Rattle.box_gen.specs.Sources.{source_in}
use Rattle.box_gen.proofs.BuildLemmas.{calls-each, finished}
use Rattle.box_gen.proofs.build.finish.Goals as goal

pub anchors_of-requires-clause-each : goal.anchors_of-requires-clause-each
anchors_of-requires-clause-each c =
    let src = source_in c.args.input.now in
    calls-each src c.args.walker.main.site c.args.walker.bodies.items (calls_of src c.args.walker.main.site.starts.items) c.requires.main c.requires.bodies refl

pub returns-clause-flow : goal.returns-clause-flow
returns-clause-flow c =
    let a = c.in_ok-anchors.ensures in
    finished (source_in c.args.input.now) c.args.walker.main.site c.args.walker.bodies.items c.of.result c.of-2.result c.of-3.result c.of-4.result c.requires.main c.requires.bodies (c.of.ensures ∙ a.notes) (c.of-2.ensures ∙ a.starts) (c.of-3.ensures ∙ a.strings) (c.of-4.ensures ∙ a.resets)
