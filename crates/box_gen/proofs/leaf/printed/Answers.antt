use Rattle.std.proofs.Common.{◌≡◌, ◌∙◌, List, length, ap, sym}
use Rattle.inline_text.specs.Joined.{Laid}
use Rattle.inline_text.specs.Space.{collapsed}
use Rattle.soft_hyphens.proofs.TextLemmas.{ends-length}
use Rattle.box_gen.specs.declared.inline.ItemMark.{ItemMark}
use Rattle.box_gen.specs.Runs.{marks_in, parts_in, styles_in}
use Rattle.box_gen.proofs.TextLemmas.{collapsed-length}
use Rattle.box_gen.proofs.leaf.printed.Goals as goal

pub hyphenated-requires : goal.hyphenated-requires
hyphenated-requires c =
    let items = c.args.items.now in
    let done = c.in-Ok-finished.ensures items c.in-Ok.ensures.run in
    let marks : c.deref.result.now ≡ marks_in items = c.deref.ensures.value ∙ done.1 in
    ap (λ (j : Laid). length j.ends) done.0 ∙ ends-length 0 (collapsed (parts_in items)) ∙ collapsed-length items ∙ sym (ap (λ (l : List ItemMark). length (styles_in l)) marks)
