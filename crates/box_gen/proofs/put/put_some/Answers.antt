use Rattle.std.proofs.Common.{◌≡◌, ◌∙◌, ◌++◌, List, ap, ap₂, sym, subst}
use Rattle.boxes.specs.Tree.{HaveOwners}
use Rattle.boxes.specs.declared.leaf.Leaf.{Leaf}
use Rattle.boxes.specs.declared.props.BoxProps.{BoxProps}
use Rattle.box_gen.specs.declared.inline.InlineStart.{InlineStart}
use Rattle.box_gen.specs.declared.leaf.LeafStyle.{LeafStyle}
use Rattle.box_gen.specs.Faces.{face_of}
use Rattle.box_gen.specs.Props.{anonymous_props}
use Rattle.box_gen.specs.TextStyles.{IsGoodTextStyle}
use Rattle.box_gen.specs.Flow.{starts_by}
use Rattle.box_gen.specs.Sites.{built_in, with_text}
use Rattle.box_gen.proofs.PutLemmas.{leads-of, text-put}
use Rattle.box_gen.proofs.SoundLemmas.{style-good}
use Rattle.box_gen.proofs.put.put_some.Goals as goal

pub put_leaf-requires-clause-owners : goal.put_leaf-requires-clause-owners
put_leaf-requires-clause-owners c =
    let leads : c.of.result ≡ c.args.site.now.pending.items = c.of.ensures ∙ ap (λ v. v.items) c.replace-leads.ensures.value in
    let own : c.in_ok-leaf.leaf.leads ≡ c.args.site.now.pending.items = ap (λ (l : Leaf). l.leads) c.in_ok-leaf.ensures.leaf ∙ leads-of c.args.run.text c.args.run.spans c.leaf_style-look.result c.of.result ∙ leads in
    subst (HaveOwners c.args.site.now.tree.events) (sym own) c.requires.takes.owners

pub returns-clause-built : goal.returns-clause-built
returns-clause-built c =
    let leads : c.of.result ≡ c.args.site.now.pending.items = c.of.ensures ∙ ap (λ v. v.items) c.replace-leads.ensures.value in
    let starts = c.in_ok-push_starts.ensures ∙ ap (λ (l : List InlineStart). c.args.site.now.starts.items ++ starts_by c.leaf_event-event.result l) c.as_slice.ensures in
    text-put c.args.wrap c.leaf_style-look.result c.anonymous_props.result (built_in c.args.site.now) c.args.run.text c.args.run.spans c.args.run.starts c.put_leaf.new.tree c.in_ok-leaf.leaf c.of.result c.replace-leads.new.dest.items c.leaf_event-event.result c.push_starts.new.starts.items
    c.in_ok-put_leaf.ensures c.in_ok-leaf.ensures.leaf leads c.leaf_event-event.ensures starts (ap (λ v. v.items) c.replace-leads.ensures.after ∙ c.new.ensures.items)
    ∙ ap₂ (λ (look : LeafStyle) (anonymous : BoxProps). with_text c.args.wrap look anonymous (built_in c.args.site.now) c.args.run.text c.args.run.spans c.args.run.starts) c.leaf_style-look.ensures.value (c.anonymous_props.ensures ∙ ap anonymous_props c.style.ensures)

pub leaf_of-requires-clause-strut : goal.leaf_of-requires-clause-strut
leaf_of-requires-clause-strut c =
    let s = c.args.faced.now.style in
    subst IsGoodTextStyle (sym (ap (λ (l : LeafStyle). l.strut) c.leaf_style-look.ensures.value)) (style-good s s.white_space (face_of c.args.faced.now.faces s) c.requires.range)
