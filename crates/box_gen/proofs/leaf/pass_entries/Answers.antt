use Rattle.std.proofs.Common.{◌≡◌, ◌∙◌, ◌+◌, ◌<◌, ◌∷◌, ◌++◌, [], append_assoc, ℕ, List, Some, suc, length, map, slice_get, take, drop, get_or, ap, sym, subst, arith}
use Rattle.std.proofs.lemmas.List.{take-append-drop}
use Rattle.std.proofs.lemmas.Option.{get_or_from_slice_get, slice_get-get_or}
use Rattle.bk_num.proofs.ListLemmas.{take-next, drop-more}
use Rattle.box_gen.specs.declared.inline.StyledText.{StyledText}
use Rattle.box_gen.specs.declared.run.RunEntry.{RunEntry}
use Rattle.box_gen.specs.declared.run.RunEntry.TheVariants.{Text}
use Rattle.box_gen.specs.Items.{InlineItem, items_in, text_in}
use Rattle.box_gen.specs.Leaves.{HasRun}
use Rattle.box_gen.specs.Runs.{text_of}
use Rattle.box_gen.proofs.ItemLemmas.{entries-append}
use Rattle.box_gen.proofs.leaf.pass_entries.Goals as goal

pub loop-next-preserved : goal.loop-next-preserved
loop-next-preserved c =
    let texts : List StyledText = map text_in c.args.texts.now in
    let entries : List RunEntry = c.args.entries.now in
    let i : ℕ = c.loop-next.next-index in
    let x : RunEntry = get_or entries i (Text 0) in
    let there : slice_get entries i ≡ Some x = slice_get-get_or entries i (Text 0) c.loop-next-test.true in
    let step : suc i ≡ i + 1 = omega arith in
    let longer : take (i + 1) entries ≡ take i entries ++ x ∷ [] = ap (λ (k : ℕ). take k entries) (sym step) ∙ take-next entries i x there in
    subst (HasRun c.pass_within.new.pass) (sym (ap (items_in texts) longer ∙ entries-append texts (take i entries) (x ∷ []))) (c.in-Ok-pass_within.ensures.run (items_in texts (take i entries)) c.loop-next.invariant)

pub returns-in-Err-clause-cause : goal.returns-in-Err-clause-cause
returns-in-Err-clause-cause c = λ points e.
    let texts : List StyledText = map text_in c.args.texts.now in
    let entries : List RunEntry = c.args.entries.now in
    let i : ℕ = c.loop-next.next-index in
    let x : RunEntry = get_or entries i (Text 0) in
    let there : slice_get entries i ≡ Some x = slice_get-get_or entries i (Text 0) c.loop-next-test.true in
    let before : List InlineItem = items_in texts (take i entries) in
    let after : List InlineItem = items_in texts (drop (i + 1) entries) in
    let here : items_in texts entries ≡ (before ++ items_in texts (x ∷ [])) ++ after =
    ap (items_in texts) (sym (take-append-drop i entries)) ∙ entries-append texts (take i entries) (drop i entries)
    ∙ ap (λ (l : List RunEntry). before ++ items_in texts l) (drop-more entries i x c.loop-next-test.true (sym (get_or_from_slice_get entries i x x there)))
    ∙ ap (λ (l : List InlineItem). before ++ l) (entries-append texts (x ∷ []) (drop (i + 1) entries))
    ∙ sym (append_assoc before (items_in texts (x ∷ [])) after) in
    subst (λ (l : List InlineItem). c.args.most < length (text_of points l)) (sym here)
    (c.in-Err.ensures.cause points before after c.loop-next.invariant e)
