use Rattle.std.proofs.Common.{rules, ◌≡◌, ℤ, List, Option, get_or, refl, sym, ap, ◌∙◌, take_all, subst, FitsSigned, w64}
use Rattle.std.proofs.lemmas.Int.{to_z-of_z}
use Rattle.bk_num.specs.declared.ids.NodeId.{NodeId}
use Rattle.boxes.specs.declared.flow.Start.{Start}
use Rattle.gen_text.specs.Table.{Ascend}
use Rattle.refs.specs.Kept.{AreStartsOf, place_of, start_at}
use Rattle.refs.specs.Tables.{entry_of, number_from, start_of, table_of}
use Rattle.refs.proofs.StartLemmas.{start_found}
use Rattle.refs.proofs.TableLemmas.{entries_ascend, entry_more}
use Rattle.refs.proofs.shown.shown.Goals as goal

pub loop-node-preserved : goal.loop-node-preserved
loop-node-preserved c =
    let nodes : List NodeId = c.args.nodes.now in
    let flow = c.args.flow.now in
    let pages = c.args.list.now.pages in
    let i = c.loop-node.node-index in
    let none : NodeId = record { 0 = 0 } in
    let node : NodeId = get_or nodes i none in
    let fits : FitsSigned w64 c.number_of.result = search rules in
    let pushed = rw (to_z-of_z w64 c.number_of.result fits) at c.in_ok-push.ensures.items in
    let starts : AreStartsOf nodes flow.starts c.in_ok-found.found.items = subst (λ (ss : List Start). AreStartsOf nodes ss c.in_ok-found.found.items) c.as_slice.ensures c.in_ok-found.ensures in
    let start : c.start_at-start.result ≡ start_of flow.starts node = c.start_at-start.ensures ∙ (ap (λ (found : List (Option Start)). start_at found (place_of nodes node)) c.as_slice-in-loop-node.ensures.value ∙ start_found nodes flow.starts c.in_ok-found.found.items i none c.loop-node-test.true starts) in
    let number : c.number_of.result ≡ number_from flow pages (start_of flow.starts node) = c.number_of.ensures pages c.in_ok-known.ensures ∙ ap (number_from flow pages) start in
    entry_more (entry_of flow pages) nodes i none c.loop-node.entries.items c.push.new.self.items (record { node = node; number = c.number_of.result }) c.loop-node-test.true c.loop-node.invariant pushed (ap (λ (k : ℤ). record { node = node; number = k }) number)

pub of-requires-2 : goal.of-requires-2
of-requires-2 c =
    let nodes : List NodeId = c.args.nodes.now in
    let flow = c.args.flow.now in
    let pages = c.args.list.now.pages in
    let all : c.of.result ≡ table_of flow pages nodes = c.of.ensures ∙ (c.loop-node.invariant ∙ ap (table_of flow pages) (take_all c.loop-node.node-index nodes c.loop-node-test.false)) in
    subst Ascend (sym all) (entries_ascend (entry_of flow pages) nodes (λ n. refl) c.requires.nodes)
