use Rattle.std.proofs.Common.{◌≡◌, List, refl, map, sym, ap, ◌∙◌}
use Rattle.boxes.specs.declared.flow.Assign.{Assign}
use Rattle.boxes.specs.declared.page.Page.{Page}
use Rattle.page_seq.specs.Places.{page_of}
use Rattle.strings.proofs.AssignedLemmas.{all_marked, number_at, one_more}
use Rattle.strings.proofs.assigned.by_name.Goals as goal

pub loop-place-init : goal.loop-place-init
loop-place-init c = λ name. rw (c.new-named.ensures.empty) refl

pub loop-place-preserved : goal.loop-place-preserved
loop-place-preserved c = λ name.
    let t = c.args.flow.now.main in
    let pages : List Page = c.as_slice-pages.result.now in
    let assigns : List Assign = c.as_slice-assigns.result.now in
    let place = c.loop-place.place in
    let d : Assign = c.index-assigns-place.result in
    let numbers = c.in_ok-numbers.ensures
    ∙ (ap (λ (ps : List Page). map (page_of t ps) (map (λ (a : Assign). a.at) c.args.flow.now.strings)) (sym c.as_slice-pages.ensures)
    ∙ ap (λ (xs : List Assign). map (page_of t pages) (map (λ (a : Assign). a.at) xs)) (sym c.as_slice-assigns.ensures)) in
    let number : c.index.result.now ≡ page_of t pages d.at = number_at t pages assigns c.in_ok-numbers.numbers.items place c.index.result.now d c.loop-place-test.true numbers c.index.ensures
    ∙ ap (λ (a : Assign). page_of t pages a.at) (sym c.index-assigns-place.is) in
    one_more t pages assigns place c.index.result.now d name c.as_str.result.now c.mark_on-mark.result _ _ c.loop-place-test.true c.index-assigns-place.is c.as_str.ensures number c.mark_on-mark.ensures (c.loop-place.invariant name) (c.in_ok-add.ensures name)

pub returns : goal.returns
returns c = λ name. all_marked c.args.flow.now.main c.as_slice-pages.result.now c.args.list.now.pages c.as_slice-assigns.result.now c.args.flow.now.strings c.loop-place.place name _ c.loop-place-test.false c.as_slice-pages.ensures c.as_slice-assigns.ensures (c.loop-place.invariant name)
