use Rattle.paint.proofs.ReachLemmas.{handed, handed_none}
use Rattle.paint.proofs.parts.hand_on.Goals as goal

pub returns-in-Some : goal.returns-in-Some
returns-in-Some c =
    handed c.args.parts.now.items c.args.at c.in-Some.outer _ _ _ c.index-part.result.now c.index_mut.result.now c.index.result.now c.join.result c.requires.place c.requires.outers c.index-part.ensures c.index_mut.ensures.value c.index.ensures c.in-Some.is c.join.ensures

pub returns-in_default : goal.returns-in_default
returns-in_default c = handed_none c.args.parts.now.items c.args.at _ c.index-part.result.now c.requires.place c.index-part.ensures c.in_default.is
