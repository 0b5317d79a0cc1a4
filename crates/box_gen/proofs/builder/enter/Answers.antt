use Rattle.std.proofs.Common.{◌∙◌, ◌∷◌, List, Option, ap, sym, inr}
use Rattle.std.specs.Prelude.{option_map}
use Rattle.bk_num.specs.declared.ids.NodeId.{NodeId}
use Rattle.style.specs.declared.style.Style.{Style}
use Rattle.box_gen.specs.Gather.{Gathered, begun, make}
use Rattle.box_gen.specs.Kinds.{role_in}
use Rattle.box_gen.specs.Sites.{built_in}
use Rattle.box_gen.specs.Sources.{source_in}
use Rattle.box_gen.specs.declared.input.NodeKind.{NodeKind}
use Rattle.box_gen.specs.Steps.{styles_of, walk_in}
use Rattle.box_gen.specs.Walk.{enter_node, innermost, walk}
use Rattle.box_gen.proofs.SoundLemmas.{styles-push}
use Rattle.box_gen.proofs.WalkLemmas.{own-of}
use Rattle.box_gen.proofs.builder.enter.Goals as goal

pub returns-in_ok-enter_block-in-Block-clause-walk : goal.returns-in_ok-enter_block-in-Block-clause-walk
returns-in_ok-enter_block-in-Block-clause-walk c =
    let src = source_in c.args.input.now in
    let styles = c.args.input.now.texts.now.styles.now in
    let old = c.args.builder.now in
    let new = c.enter_block.new.builder in
    let u : Style = c.in-Block.faced.now.style in
    let g : Gathered = begun src (innermost (styles_of styles old.blocks.items)) c.args.node.0 u (make (built_in old.site) old.run) in
    let own = own-of src c.args.node.0 u (inr (sym c.requires.kind.role ∙ ap role_in c.in-Block.is)) in
    ap (λ (x : Gathered). walk x (styles_of styles new.blocks.items) (option_map (λ (n : NodeId). n.0) new.unshown)) c.in_ok-enter_block-in-Block.ensures.gathered
    ∙ ap (λ (l : List Style). walk g l (option_map (λ (n : NodeId). n.0) new.unshown)) (ap (λ (l : List NodeId). styles_of styles l) c.in_ok-enter_block-in-Block.ensures.blocks ∙ styles-push styles old.blocks.items c.args.node u own)
    ∙ ap (λ (o : Option NodeId). walk g (u ∷ styles_of styles old.blocks.items) (option_map (λ (n : NodeId). n.0) o)) (c.in_ok-enter_block-in-Block.ensures.unshown ∙ c.requires.shown)
    ∙ sym (ap (λ (k : NodeKind). enter_node src c.args.node.0 (role_in k) (walk_in styles old)) c.in-Block.is)
