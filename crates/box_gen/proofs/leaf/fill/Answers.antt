use Rattle.std.proofs.Common.{◌≡◌, ◌∙◌, ◌+◌, ◌<◌, ◌∷◌, ◌++◌, [], ℕ, List, length, drop, get_or, ap, arith}
use Rattle.bk_num.proofs.ListLemmas.{drop-more}
use Rattle.boxes.specs.declared.leaf.Span.{Span}
use Rattle.box_gen.specs.declared.inline.InlineStart.{InlineStart}
use Rattle.box_gen.specs.declared.inline.ItemMark.{ItemMark}
use Rattle.box_gen.specs.declared.inline.ItemMark.TheVariants.{Text, Start}
use Rattle.box_gen.specs.Runs.{span_between, styles_in}
use Rattle.box_gen.proofs.FillLemmas.{IsFilled, fill-start, fill-text, filled-as}
use Rattle.box_gen.proofs.leaf.fill.Goals.{in-Text+in_ok-push_span-in-Text, in-Start+in_ok-push_start-in-Start}
use Rattle.box_gen.proofs.leaf.fill.Goals as goal

pub loop-mark-preserved : goal.loop-mark-preserved
loop-mark-preserved c =
    let inv = c.loop-mark.invariant in
    let marks : List ItemMark = c.args.marks.now in
    let ends : List ℕ = c.args.ends.now in
    let i : ℕ = c.loop-mark.mark-index in
    let next : ℕ = c.loop-mark.next in
    let at : ℕ = c.loop-mark.at in
    let spans : List Span = c.loop-mark.spans.items in
    let starts : List InlineStart = c.loop-mark.starts.items in
    let f : IsFilled marks ends c.args.spans.now.items c.args.starts.now.items i next at spans starts = record { each = inv.each; short = inv.short; stops = inv.ends; filled = inv.spans; noted = inv.starts } in
    let here : drop i marks ≡ c.mark-item.result ∷ drop (i + 1) marks = drop-more marks i c.mark-item.result c.loop-mark-test.true c.mark-item.is in
    let g : IsFilled marks ends c.args.spans.now.items c.args.starts.now.items (i + 1) c.match-mark.next c.match-mark.at c.match-mark.spans.items c.match-mark.starts.items = elim c.match-mark.branch [
      | in-Text+in_ok-push_span-in-Text w ↦
          let mark : drop i marks ≡ Text w.in-Text.style ∷ drop (i + 1) marks = here ∙ ap (λ (m : ItemMark). m ∷ drop (i + 1) marks) w.in-Text.is in
          let size = ap (λ (m : List ItemMark). length (styles_in m)) mark in
          let each = inv.each in
          let inside : next < length ends = omega (arith, each, size) in
          let to : ℕ = get_or ends next 0 in
          filled-as marks ends c.args.spans.now.items c.args.starts.now.items (i + 1) (next + 1) to (spans ++ span_between w.in-Text.style at to) starts c.match-mark.next c.match-mark.at c.match-mark.spans.items c.match-mark.starts.items
          w.next-is w.at-is (ap (λ v. v.items) w.spans-is ∙ w.in_ok-push_span-in-Text.ensures) (ap (λ v. v.items) w.starts-is)
          (fill-text marks ends c.args.spans.now.items c.args.starts.now.items i next at spans starts w.in-Text.style f mark inside (c.requires.short next 0 inside))
      | in-Start+in_ok-push_start-in-Start w ↦
          let mark : drop i marks ≡ Start w.in-Start.node ∷ drop (i + 1) marks = here ∙ ap (λ (m : ItemMark). m ∷ drop (i + 1) marks) w.in-Start.is in
          filled-as marks ends c.args.spans.now.items c.args.starts.now.items (i + 1) next at spans (starts ++ record { node = w.in-Start.node; offset = at } ∷ []) c.match-mark.next c.match-mark.at c.match-mark.spans.items c.match-mark.starts.items
          w.next-is w.at-is (ap (λ v. v.items) w.spans-is) (ap (λ v. v.items) w.starts-is ∙ w.in_ok-push_start-in-Start.ensures)
          (fill-start marks ends c.args.spans.now.items c.args.starts.now.items i next at spans starts w.in-Start.node f mark)
    ] in
    record { each = g.each; short = g.short; ends = g.stops; spans = g.filled; starts = g.noted }
