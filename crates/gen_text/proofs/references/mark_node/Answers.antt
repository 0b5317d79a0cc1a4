use Rattle.gen_text.specs.References.{links_of}
use Rattle.style.specs.Nodes.{style_at}
use Rattle.bk_num.specs.declared.values.Pseudo.TheVariants as pseudo
use Rattle.gen_text.proofs.MarkLemmas.{marks_four}
use Rattle.gen_text.proofs.references.mark_node.Goals as goal

pub returns-clause-marks : goal.returns-clause-marks
returns-clause-marks c =
    let styles = c.args.styles.now in
    let n = c.args.node.0 in
    marks_four c.args.dom.now styles n (links_of (style_at styles n pseudo.Before)) (links_of (style_at styles n pseudo.After)) (links_of (style_at styles n pseudo.Call)) (links_of (style_at styles n pseudo.Marker)) _ _ _ _ _ c.mark_pseudo.ensures.marks c.mark_pseudo-2.ensures.marks c.mark_pseudo-3.ensures.marks c.mark_pseudo-4.ensures.marks
