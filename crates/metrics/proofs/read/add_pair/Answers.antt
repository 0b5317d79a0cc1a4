use Rattle.std.proofs.Common.{◌≡◌, ◌-◌, ◌∙◌, sym, ap, rules, true, length, Some, Ok}
use Rattle.std.specs.Prelude.{slice_get, slice_set}
use Rattle.std.proofs.lemmas.Option.{slice_get-get_or}
use Rattle.metrics.specs.declared.fault.MetricsWhy.TheVariants as why
use Rattle.metrics.specs.Face.{FontFace}
use Rattle.metrics.specs.Text.{is_kept, is_next_pair}
use Rattle.metrics.proofs.TextLemmas.{tested-ok, pair_added}
use Rattle.metrics.proofs.read.add_pair.Goals as goal

pub push_pair-requires-clause-next : goal.push_pair-requires-clause-next
push_pair-requires-clause-next c = sym c.is_next_pair.ensures ∙ tested-ok c.is_next_pair.result why.Order c.in_ok-check.field-0 (sym c.check.ensures ∙ c.in_ok-check.was)

pub push_pair-requires-clause-kept : goal.push_pair-requires-clause-kept
push_pair-requires-clause-kept c = sym c.is_kept.ensures ∙ tested-ok c.is_kept.result why.Pair c.«in_ok-check-2».field-0 (sym c.«check-2».ensures ∙ c.«in_ok-check-2».was)

pub returns : goal.returns
returns c =
    let faces = c.args.faces.now.items in
    let f = c.index_mut-face.result.now in
    let at = c.len-at.result - 1 in
    let next : is_next_pair f c.args.pair ≡ true = sym c.is_next_pair.ensures ∙ tested-ok c.is_next_pair.result why.Order c.in_ok-check.field-0 (sym c.check.ensures ∙ c.in_ok-check.was) in
    let kept : is_kept f c.args.pair ≡ true = sym c.is_kept.ensures ∙ tested-ok c.is_kept.result why.Pair c.«in_ok-check-2».field-0 (sym c.«check-2».ensures ∙ c.«in_ok-check-2».was) in
    let long : at ≡ length faces - 1 = search rules in
    let here : slice_get faces at ≡ Some f = slice_get-get_or faces at f (search rules) ∙ ap Some (sym c.index_mut-face.ensures.value) in
    pair_added faces at f c.args.pair long here next kept ∙ ap (λ (g : FontFace). Ok (slice_set faces at g)) (sym c.in_ok-push_pair.ensures)
