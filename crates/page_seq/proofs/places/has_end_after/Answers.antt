use Rattle.std.proofs.Common.{◌≡◌, false, sym, ap, ◌∙◌, arith}
use Rattle.std.specs.List.{list_any}
use Rattle.page_seq.specs.Places.{ends_after}
use Rattle.page_seq.proofs.PlaceLemmas.{no_end}
use Rattle.page_seq.proofs.places.has_end_after.Goals as goal

pub returns : goal.returns
returns c =
    let is : list_any (ends_after c.args.at) c.as_slice-solids.result.now ≡ false = no_end c.args.at c.as_slice-solids.result.now (λ j d h. c.loop-passed.invariant j d (omega arith) (omega arith)) in
    sym (ap (λ solids. list_any (ends_after c.args.at) solids) (sym c.as_slice-solids.ensures) ∙ is)
