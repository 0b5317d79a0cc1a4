use Rattle.std.proofs.Common.{◌≤◌, ◌≡◌, ◌+◌, length, ap, subst, ℕ, Some, arith}
use Rattle.boxes.proofs.TreeFacts.{box_there}
use Rattle.boxes.specs.Tree.{open_before}
use Rattle.paint.specs.Parts.{IsAt, LeavesTo}
use Rattle.paint.proofs.PartLemmas.{content_bounded, inner_within, inside_bounded, pass_closes, pass_leaf, pass_opens, room_before, were_before}
use Rattle.paint.proofs.gather.pass.Goals as goal

pub open_part-requires-clause-number : goal.open_part-requires-clause-number
open_part-requires-clause-number c = box_there c.args.tree.now c.count-count.ensures.tree c.args.at c.in-Opens.number c.in-Opens.ensures

pub open_part-requires-clause-inner : goal.open_part-requires-clause-inner
open_part-requires-clause-inner c = inner_within c.args.parts.now.items (open_before c.args.tree.now.events c.args.at) c.args.inner c.args.at c.requires.at.on

pub open_part-requires-clause-few : goal.open_part-requires-clause-few
open_part-requires-clause-few c = room_before c.args.tree.now.events c.args.at c.in-Opens.number c.requires.depth c.in-Opens.ensures

pub open_part-requires-clause-around : goal.open_part-requires-clause-around
open_part-requires-clause-around c =
    let t = c.args.tree.now in
    let low : c.args.at ≤ length t.events = (let w = c.requires.within in omega arith) in
    content_bounded t c.count-count.ensures.tree c.args.origin.now c.args.parts.now.items (open_before t.events c.args.at) c.args.inner c.args.at c.args.at c.requires.origin c.requires.at.on c.requires.at.opened (were_before t.events c.args.at low)

pub open_part-requires-clause-above : goal.open_part-requires-clause-above
open_part-requires-clause-above c =
    let t = c.args.tree.now in
    let low : c.args.at ≤ length t.events = (let w = c.requires.within in omega arith) in
    inside_bounded t c.count-count.ensures.tree c.args.origin.now.width c.args.parts.now.items (open_before t.events c.args.at) c.args.inner c.args.at c.args.at c.requires.at.on c.requires.at.opened (were_before t.events c.args.at low)

pub outer_of-requires : goal.outer_of-requires
outer_of-requires c = λ x is. let w = inner_within c.args.parts.now.items (open_before c.args.tree.now.events c.args.at) c.args.inner c.args.at c.requires.at.on x is in let e = ap length c.deref.ensures.value in omega arith

pub returns-in_ok-open_part-in-Opens-clause-at : goal.returns-in_ok-open_part-in-Opens-clause-at
returns-in_ok-open_part-in-Opens-clause-at c =
    let t = c.args.tree.now in
    let m = c.args.origin.now.width in
    let low : c.args.at ≤ length t.events = (let w = c.requires.within in omega arith) in
    let place : length c.args.parts.now.items ≡ c.len-place.result = (let l = c.len-place.ensures in let k = c.args.parts.now.ok.0 in omega arith) in
    let new = c.open_part.new.parts.items in
    let around = content_bounded t c.count-count.ensures.tree c.args.origin.now c.args.parts.now.items (open_before t.events c.args.at) c.args.inner c.args.at c.args.at c.requires.origin c.requires.at.on c.requires.at.opened (were_before t.events c.args.at low) in
    let above = inside_bounded t c.count-count.ensures.tree m c.args.parts.now.items (open_before t.events c.args.at) c.args.inner c.args.at c.args.at c.requires.at.on c.requires.at.opened (were_before t.events c.args.at low) in
    let opened = c.in_ok-open_part-in-Opens.ensures in
    subst (λ (n : ℕ). IsAt t m new (record { event = c.args.at + 1; inner = Some n })) place
    (pass_opens t c.count-count.ensures.tree m c.args.parts.now.items new c.args.at c.in-Opens.number c.args.inner low c.in-Opens.ensures c.requires.at opened.part (record { around = around; content = opened.content; above = above; inside = opened.inside }))

pub returns-in-Closes-clause-at : goal.returns-in-Closes-clause-at
returns-in-Closes-clause-at c =
    pass_closes c.args.tree.now c.count-count.ensures.tree c.args.origin.now.width c.args.parts.now.items c.args.at c.in-Closes.field-0 c.args.inner c.outer_of.result c.in-Closes.ensures c.requires.at (subst (λ ps. LeavesTo ps c.args.inner c.outer_of.result) c.deref.ensures.value c.outer_of.ensures)

pub returns-in-Leaf-clause-at : goal.returns-in-Leaf-clause-at
returns-in-Leaf-clause-at c = pass_leaf c.args.tree.now c.args.origin.now.width c.args.parts.now.items c.args.at c.in-Leaf.field-0 c.args.inner c.in-Leaf.ensures c.requires.at
