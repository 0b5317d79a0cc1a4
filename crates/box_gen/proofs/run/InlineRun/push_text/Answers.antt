use Rattle.std.proofs.Common.{◌≡◌, ◌∙◌, ◌∷◌, ◌++◌, [], ℕ, List, All, Some, length, map, slice_get, ap, ap₂, arith, subst, sym}
use Rattle.std.proofs.lemmas.List.{length-map, map-append}
use Rattle.bk_num.proofs.ListLemmas.{get-end}
use Rattle.box_gen.specs.declared.inline.StyledText.{StyledText}
use Rattle.box_gen.specs.declared.run.RunEntry.{RunEntry}
use Rattle.box_gen.specs.declared.run.RunEntry.TheVariants.{Text}
use Rattle.box_gen.specs.Items.{InlineItem, IsTextOf, items_in, text_in}
use Rattle.box_gen.proofs.ItemLemmas.{entries-append, entries-more, entry-text}
use Rattle.box_gen.proofs.run.InlineRun.push_text.Goals as goal

pub returns : goal.returns
returns c =
    let texts : List StyledText = map text_in c.self.inside.texts.items in
    let entries : List RunEntry = c.self.inside.entries.items in
    let x : StyledText = text_in c.args.text in
    let size : length texts ≡ length c.self.inside.texts.items = length-map c.self.inside.texts.items text_in in
    let last : c.in-Ok.number ≡ length texts = omega (arith, c.in-Ok.ensures, c.len.ensures, size) in
    let there : slice_get (texts ++ x ∷ []) c.in-Ok.number ≡ Some x = ap (slice_get (texts ++ x ∷ [])) last ∙ get-end texts x in
    let within : All (IsTextOf (length texts)) entries = subst (λ (n : ℕ). All (IsTextOf n) entries) (sym size) c.self.invariant in
    ap₂ items_in (ap (map text_in) c.in_ok-push.ensures.items ∙ map-append text_in c.self.inside.texts.items (c.args.text ∷ [])) c.in_ok-push-2.ensures.items
    ∙ entries-append (texts ++ x ∷ []) entries (Text c.in-Ok.number ∷ [])
    ∙ ap₂ (λ (l m : List InlineItem). l ++ m) (entries-more texts x entries within ∙ c.self.view_is) (entry-text (texts ++ x ∷ []) c.in-Ok.number x there)
