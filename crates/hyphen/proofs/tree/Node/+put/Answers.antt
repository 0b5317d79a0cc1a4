use Rattle.std.proofs.Common.{◌∙◌, ap, sym}
use Rattle.std.specs.Box.{with_value}
use Rattle.std.specs.BTreeMap.{get}
use Rattle.std.specs.Ordering.{nat_cmp}
use Rattle.hyphen.proofs.PutLemmas.{put_child, put_given, put_here}
use Rattle.hyphen.proofs.RollLemmas.{rolled_others, rolled_own}
use Rattle.hyphen.proofs.TreeLemmas.{node_absent}
use Rattle.hyphen.proofs.tree.Node.+put.Goals as goal

pub returns-in-None : goal.returns-in-None
returns-in-None t c = put_here c.args.self.now c.put_own.new.self c.args.letters.now c.args.values.items c.args.ends c.in-None.ensures.cases c.put_own.ensures

pub returns-in-Some-get_mut : goal.returns-in-Some-get_mut
returns-in-Some-get_mut t c =
    let boxed = c.in-Some-get_mut.node.now in
    let writes = c.get_mut.follows.holds (with_value boxed c.put.new.self) in
    put_child c.put.result c.args.self.now boxed c.deref_mut.result.now c.put.new.self (c.get_mut.follows.lender (with_value boxed c.put.new.self)) c.in-Some.letter.now c.args.letters.now c.in-Some.rest.now c.args.values.items c.args.ends c.in-Some.ensures.cases.0 c.in-Some-get_mut.ensures.value c.deref_mut.ensures.value writes.3 c.put.ensures

pub returns-in_ok-put-in-None-get_mut : goal.returns-in_ok-put-in-None-get_mut
returns-in_ok-put-in-None-get_mut t c =
    let same = c.get_mut.follows.holds-at-none in
    put_given c.give.result c.args.self.now _ c.give.new.self c.new-node.result c.put-in-None-get_mut.new.self c.in-Some.letter.now c.args.letters.now c.in-Some.rest.now c.args.values.items c.args.ends c.in-Some.ensures.cases.0 (rolled_own c.args.self.now c.get_mut.follows.lender-at-none) (λ d e q k apart. rolled_others c.args.self.now c.get_mut.follows.lender-at-none d (ap (λ m. get nat_cmp m d) same) e q k) (λ e q k. c.new-node.ensures e q k ∙ sym (node_absent c.args.self.now c.in-Some.letter.now c.in-None-get_mut.ensures.value e q k)) c.in_ok-put-in-None-get_mut.ensures c.give.ensures.own c.give.ensures.others c.give.ensures.node
