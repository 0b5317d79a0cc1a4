use Rattle.fragment.proofs.AheadLemmas.{page_ended}
use Rattle.std.proofs.Common.{refl, arith}
use Rattle.fragment.proofs.ahead.Ahead.end.Goals as goal

pub returns : goal.returns
returns c faces t width kept from is =
    let within = is.within in
    page_ended faces t width kept from c.args.self.now _ is refl refl refl refl (omega (arith, within)) (omega (arith, within))
