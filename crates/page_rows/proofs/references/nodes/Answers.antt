use Rattle.std.proofs.Common.{rules}
use Rattle.std.proofs.lemmas.List.Sorted.{IsNonDecreasingBy-from_sort_by_key}
use Rattle.bk_num.specs.declared.ids.NodeId.{NodeId}
use Rattle.page_rows.proofs.references.nodes.Goals as goal

pub returns : goal.returns
returns c = IsNonDecreasingBy-from_sort_by_key (λ (n : NodeId). n.0) c.sort_by_key.new.self.items c.in_ok-sort_by_key.ensures.sorted (λ a r q k. search rules)
