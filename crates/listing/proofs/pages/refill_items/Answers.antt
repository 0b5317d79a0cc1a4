use Rattle.std.proofs.Common.{◌≡◌, ◌<◌, ◌*◌, ◌∙◌, OnOk, List, ap, arith, drop, length, subst, sym}
use Rattle.std.specs.List.{All, flat_map}
use Rattle.std.proofs.lemmas.List.Elements.{All-drop, All-take}
use Rattle.boxes.specs.declared.page.Page.{Page}
use Rattle.page_seq.specs.Folds.{frames_on}
use Rattle.paint.specs.Order.{IsPageOf}
use Rattle.paint.specs.Pages.{items_of}
use Rattle.paint.specs.Views.{items_in}
use Rattle.listing.proofs.PlaceLemmas.{page_begins}
use Rattle.listing.proofs.pages.refill_items.Goals as goal

pub frames_on-on_page-requires-clause-per : goal.frames_on-on_page-requires-clause-per
frames_on-on_page-requires-clause-per c = c.requires.printer.per

pub frames_on-on_page-requires-clause-place : goal.frames_on-on_page-requires-clause-place
frames_on-on_page-requires-clause-place c =
    let few = c.requires.printer.few in
    let low = c.requires.place in
    omega arith

pub frames_on-on_page-requires-clause-some : goal.frames_on-on_page-requires-clause-some
frames_on-on_page-requires-clause-some c =
    let p = c.args.printer.now in
    subst (λ (fs : List Page). p.per * c.args.place < length fs) (sym c.as_slice-frames.ensures)
    (page_begins p.per c.args.place p.frames.now.pages p.list.now.pages c.folds_keep_all.ensures c.requires.printer.per c.requires.printer.pages c.requires.place)

pub refill_from-requires-clause-pages : goal.refill_from-requires-clause-pages
refill_from-requires-clause-pages c =
    let p = c.args.printer.now in
    let there : c.frames_on-on_page.result.now ≡ frames_on p.per p.frames.now.pages c.args.place = c.frames_on-on_page.ensures.frames ∙ ap (λ (fs : List Page). frames_on p.per fs c.args.place) c.as_slice-frames.ensures in
    subst (All (IsPageOf p.flow.now)) (sym there) (All-take (IsPageOf p.flow.now) p.per (drop (p.per * c.args.place) p.frames.now.pages) (All-drop (IsPageOf p.flow.now) (p.per * c.args.place) p.frames.now.pages c.requires.printer.frames))

pub returns-clause-items : goal.returns-clause-items
returns-clause-items c =
    let p = c.args.printer.now in
    let there : c.frames_on-on_page.result.now ≡ frames_on p.per p.frames.now.pages c.args.place = c.frames_on-on_page.ensures.frames ∙ ap (λ (fs : List Page). frames_on p.per fs c.args.place) c.as_slice-frames.ensures in
    subst (λ (fs : List Page). OnOk c.refill_from.result (items_in p.faces.now c.refill_from.new.items.items ≡ flat_map (items_of p.faces.now p.flow.now) fs)) there c.refill_from.ensures.items
