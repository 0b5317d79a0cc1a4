use Rattle.std.proofs.Common.{◌<◌, ap, length, arith}
use Rattle.bk_num.proofs.ListLemmas.{slice_get_at}
use Rattle.computed.proofs.NameLemmas.{no-names, names-turn}
use Rattle.computed.proofs.WalkLemmas.{none-yet, nodes-turn, count-turn}
use Rattle.computed.proofs.AlikeLemmas.{none-noted, to-adds, firsts-turn, noted-turn}
use Rattle.computed.proofs.walk.add_all.Goals as goal

pub loop-index-init : goal.loop-index-init
loop-index-init c =
    let none = none-yet c.args.names.now c.args.dom.now c.args.winners.now.winners c.args.styles.now c.requires.styles in
    let noted = none-noted c.args.styles.now c.new-alike.result.firsts (ap (λ k. k.firsts) c.new-alike.ensures) in
    let numbered = no-names c.args.names.now c.args.winners.now.winners c.args.styles.now c.requires.names c.requires.styles in
    record { numbered = numbered; nodes = none.0; count = none.1; firsts = noted.0; noted = noted.1 }

pub loop-index-preserved : goal.loop-index-preserved
loop-index-preserved c =
    let len = c.len-index-end.ensures.len in
    let test = c.loop-index-test.true in
    let same = c.requires.count in
    let below : c.loop-index.index < length c.args.winners.now.winners = omega arith in
    let w = slice_get_at c.args.winners.now.winners c.loop-index.index below in
    let i = c.loop-index.invariant in
    let next = c.in_ok-add_next.ensures.adds in
    let adds = to-adds _ _ _ c.args.winners.now.winners c.loop-index.index w.0 _ _ _ _ next w.1 i.nodes i.firsts in
    record {
      numbered = names-turn c.loop-index.names c.add_next.new.names c.args.winners.now.winners c.loop-index.index w.0 c.loop-index.styles c.add_next.new.styles adds.row i.count w.1 adds.added i.numbered adds.numbered;
      nodes = nodes-turn c.loop-index.names c.add_next.new.names c.args.dom.now c.args.winners.now.winners c.loop-index.index w.0 c.loop-index.styles c.add_next.new.styles c.len-index-end.ensures.tree w.1 i.count i.nodes c.add_next.ensures.names adds;
      count = count-turn c.loop-index.names c.add_next.new.names c.args.dom.now c.loop-index.index w.0 c.loop-index.styles c.add_next.new.styles i.count adds;
      firsts = firsts-turn _ _ _ _ c.loop-index.index _ _ c.loop-index.styles c.add_next.new.styles i.count i.noted i.firsts next;
      noted = noted-turn _ _ _ _ c.loop-index.index _ _ _ _ i.noted next;
    }

pub returns : goal.returns
returns c =
    let len = c.len-index-end.ensures.len in
    let test = c.loop-index-test.false in
    let most = c.loop-index.auto.index-end in
    let rows = c.loop-index.invariant.count in
    record { count = omega arith; each = c.loop-index.invariant.nodes; numbered = c.loop-index.invariant.numbered }
