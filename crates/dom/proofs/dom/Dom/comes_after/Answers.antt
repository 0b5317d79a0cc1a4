use Rattle.std.proofs.Common.{◌∙◌, refl}
use Rattle.dom.proofs.dom.Dom.comes_after.Goals as goal

pub returns : goal.returns
returns c = c.is_after.ensures ∙ rw (c.write_way-len_a.ensures.way, c.write_way-len_b.ensures.way) refl
