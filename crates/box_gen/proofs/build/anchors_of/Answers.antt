use Rattle.std.proofs.Common.{◌∙◌, subst, sym}
use Rattle.box_gen.specs.Sources.{AreWithin, source_in}
use Rattle.box_gen.proofs.WithinLemmas.{own-within}
use Rattle.box_gen.proofs.build.anchors_of.Goals as goal

pub set_at-requires : goal.set_at-requires
set_at-requires c =
    let nodes = c.args.input.now.texts.now.dom.now in
    subst (AreWithin nodes) (sym (c.deref.ensures.value ∙ c.in_ok-calls.ensures.starts)) (own-within (source_in c.args.input.now) nodes c.args.places.items c.requires.within)
