use Rattle.std.proofs.Common.{◌≤◌, map, option_map, rules, sym, subst}
use Rattle.bk_num.specs.Limits.{most_open}
use Rattle.boxes.specs.Tree.{IsWhole, depth_of}
use Rattle.boxes.specs.declared.flow.Assign.{Assign}
use Rattle.boxes.specs.declared.flow.Flow.{Flow}
use Rattle.boxes.specs.declared.flow.Note.{Note}
use Rattle.boxes.specs.declared.flow.Reset.{Reset}
use Rattle.page_seq.specs.Places.{NeverFall}
use Rattle.style.specs.declared.style.Style.{Style}
use Rattle.metrics.proofs.FaceLemmas.{face-within}
use Rattle.gen_text.specs.Texts.{source_in as text_source}
use Rattle.soft_hyphens.specs.Words.{points_in}
use Rattle.box_gen.specs.Faces.{AreFaced}
use Rattle.box_gen.specs.Flow.{bodies_of}
use Rattle.box_gen.specs.Notes.{AreNotesOf}
use Rattle.box_gen.specs.Sources.{source_of}
use Rattle.box_gen.specs.Trees.{Source}
use Rattle.box_gen.proofs.DepthLemmas.{few-open}
use Rattle.box_gen.proofs.FacedLemmas.{all-faced}
use Rattle.box_gen.proofs.NoteSums.{notes-are}
use Rattle.box_gen.proofs.OrderLemmas.{calls-never-fall, resets-never-fall, strings-never-fall}
use Rattle.box_gen.proofs.WholeLemmas.{whole}
use Rattle.box_gen.proofs.build.build_by.Goals as goal

pub returns-in-Ok-flow_of_given-clause-whole : goal.returns-in-Ok-flow_of_given-clause-whole
returns-in-Ok-flow_of_given-clause-whole c =
    let src : Source = source_of (text_source c.args.texts.now) c.args.faces.now (points_in (option_map (λ h. h.now) c.args.hyphenator)) in
    λ r. subst (λ (f : Flow). IsWhole f.main.events) (sym c.in-Ok-flow_of_given.ensures.flow) (whole src c.len.ensures.tree r)

pub returns-in-Ok-flow_of_given-clause-depth : goal.returns-in-Ok-flow_of_given-clause-depth
returns-in-Ok-flow_of_given-clause-depth c =
    let src : Source = source_of (text_source c.args.texts.now) c.args.faces.now (points_in (option_map (λ h. h.now) c.args.hyphenator)) in
    subst (λ (f : Flow). depth_of f.main.events ≤ most_open) (sym c.in-Ok-flow_of_given.ensures.flow) (few-open src c.len.ensures.tree)

pub returns-in-Ok-flow_of_given-clause-faced : goal.returns-in-Ok-flow_of_given-clause-faced
returns-in-Ok-flow_of_given-clause-faced c =
    let src : Source = source_of (text_source c.args.texts.now) c.args.faces.now (points_in (option_map (λ h. h.now) c.args.hyphenator)) in
    subst (λ (f : Flow). AreFaced c.args.faces.now f.main.leaves) (sym c.in-Ok-flow_of_given.ensures.flow)
    (all-faced c.args.faces.now src (λ (s : Style). face-within c.args.faces.now s.font_family s.font_style s.font_weight (search rules)) c.len.ensures.tree)

pub returns-in-Ok-flow_of_given-clause-strings : goal.returns-in-Ok-flow_of_given-clause-strings
returns-in-Ok-flow_of_given-clause-strings c =
    let src : Source = source_of (text_source c.args.texts.now) c.args.faces.now (points_in (option_map (λ h. h.now) c.args.hyphenator)) in
    subst (λ (f : Flow). NeverFall (map (λ (a : Assign). a.at) f.strings)) (sym c.in-Ok-flow_of_given.ensures.flow) (strings-never-fall src)

pub returns-in-Ok-flow_of_given-clause-resets : goal.returns-in-Ok-flow_of_given-clause-resets
returns-in-Ok-flow_of_given-clause-resets c =
    let src : Source = source_of (text_source c.args.texts.now) c.args.faces.now (points_in (option_map (λ h. h.now) c.args.hyphenator)) in
    subst (λ (f : Flow). NeverFall (map (λ (r : Reset). r.at) f.resets)) (sym c.in-Ok-flow_of_given.ensures.flow) (resets-never-fall src)

pub returns-in-Ok-flow_of_given-clause-calls : goal.returns-in-Ok-flow_of_given-clause-calls
returns-in-Ok-flow_of_given-clause-calls c =
    let src : Source = source_of (text_source c.args.texts.now) c.args.faces.now (points_in (option_map (λ h. h.now) c.args.hyphenator)) in
    subst (λ (f : Flow). NeverFall (map (λ (n : Note). n.call) f.notes)) (sym c.in-Ok-flow_of_given.ensures.flow) (calls-never-fall src (bodies_of src))

pub returns-in-Ok-flow_of_given-clause-notes : goal.returns-in-Ok-flow_of_given-clause-notes
returns-in-Ok-flow_of_given-clause-notes c =
    let src : Source = source_of (text_source c.args.texts.now) c.args.faces.now (points_in (option_map (λ h. h.now) c.args.hyphenator)) in
    subst (λ (f : Flow). AreNotesOf src f.notes) (sym c.in-Ok-flow_of_given.ensures.flow) (notes-are src)
