use Rattle.std.proofs.Common.{◌≡◌, List, take, drop, arith, sym, ap, ◌∙◌}
use Rattle.strings.specs.Assigned.{before_page, on_page, shown_of}
use Rattle.strings.specs.declared.assigned.Mark.{Mark}
use Rattle.strings.proofs.AssignedLemmas.{ends_meet, here_is, before_is}
use Rattle.strings.proofs.assigned.shown_among.Goals as goal

pub split_at-requires-2 : goal.split_at-requires-2
split_at-requires-2 c =
    let low = c.count_before-from.ensures in
    let less = ends_meet c.args.marks.now c.args.page c.count_before-from.result c.count_up_to-to.result low.within low.before c.count_up_to-to.ensures.after in
    let size = c.split_at.ensures.front_len in
    omega arith

pub returns : goal.returns
returns c =
    let marks : List Mark = c.args.marks.now in
    let page = c.args.page in
    let from = c.count_before-from.result in
    let to = c.count_up_to-to.result in
    let low = c.count_before-from.ensures in
    let high = c.count_up_to-to.ensures in
    let less = ends_meet marks page from to low.within low.before high.after in
    let here : c.split_at-2.result.1.now ≡ on_page page marks = c.split_at-2.ensures.back ∙ (ap (λ (ms : List Mark). drop from ms) c.split_at.ensures.front ∙ sym (here_is marks page from to high.within low.before low.after high.before high.after less)) in
    let before : c.split_at-2.result.0.now ≡ before_page page marks = c.split_at-2.ensures.front ∙ (ap (λ (ms : List Mark). take from ms) c.split_at.ensures.front ∙ sym (before_is marks page from to low.within low.before low.after less)) in
    c.shown_of.ensures ∙ (ap (λ (ms : List Mark). shown_of ms c.split_at-2.result.0.now) here ∙ ap (λ (ms : List Mark). shown_of (on_page page marks) ms) before)
