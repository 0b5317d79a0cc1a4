use Rattle.std.proofs.Common.{◌≡◌, ◌++◌, drop, map}
use Rattle.page_ctx.specs.Groups.{winners_among}
use Rattle.page_ctx.specs.Winners.{candidate_in}
use Rattle.page_ctx.proofs.groups.winners_among.Given as goal

abbrev pub invariant-loop-property : goal.invariant-loop-property
invariant-loop-property l =
    map candidate_in l.winners ++ winners_among (drop l.property-index l.properties) (map candidate_in l.declared) ≡ winners_among l.properties (map candidate_in l.declared)
