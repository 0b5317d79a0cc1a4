use Rattle.std.proofs.Common.{◌≡◌, ◌∙◌, ap, length, map, sym}
use Rattle.std.specs.String.{string_bytes}
use Rattle.std.proofs.lemmas.List.{length-map}
use Rattle.std.proofs.lemmas.Result.{on_ok_weaker}
use Rattle.bk_num.specs.Names.{with_name}
use Rattle.named_lists.specs.Lists.{lists_in}
use Rattle.named_lists.proofs.ListLemmas.{is-unknown, on-both, with-known, with-unknown}
use Rattle.named_lists.proofs.lists.NamedLists.push.Goals as goal

pub add-requires-clause-new : goal.add-requires-clause-new
add-requires-clause-new g c = is-unknown (map (λ k. string_bytes k) c.self.inside.names.keys) c.args.name.now (sym c.number_of.ensures ∙ c.in-None.is)

pub returns-in-Some : goal.returns-in-Some
returns-in-Some g c =
    let names = map (λ k. string_bytes k) c.self.inside.names.keys in
    rw (← c.self.view_is) (on_ok_weaker c.push_at.result (λ e. ap (lists_in names) e ∙ with-known names c.self.inside.lists.items c.args.name.now c.args.item c.in-Some.index (sym c.number_of.ensures ∙ c.in-Some.is)) c.push_at.ensures.ok)

pub returns-in-None : goal.returns-in-None
returns-in-None g c =
    let names = map (λ k. string_bytes k) c.self.inside.names.keys in
    let lists = c.self.inside.lists.items in
    let len : length names ≡ length lists = length-map c.self.inside.names.keys (λ k. string_bytes k) ∙ c.self.invariant in
    rw (← c.self.view_is) (on-both c.add.result
    (λ n l. ap (λ v. lists_in v c.add.new.lists.items) n ∙ ap (lists_in (with_name names c.args.name.now)) l ∙ with-unknown names lists c.args.name.now c.args.item len (sym c.number_of.ensures ∙ c.in-None.is))
    c.add.ensures.names c.add.ensures.lists)
