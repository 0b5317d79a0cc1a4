use Rattle.std.proofs.Common.{pos, refl}
use Rattle.boxes.specs.declared.place.Position.{Position}
use Rattle.fragment.proofs.AheadLemmas.{page_cleared}
use Rattle.fragment.proofs.ahead.Ahead.none.Goals as goal

pub returns : goal.returns
returns c faces t kept =
    let at : Position = record { event = 0; offset = 0 } in
    (at, page_cleared faces t (pos 0) kept at _ c.new.ensures.items c.new-2.ensures.items refl refl refl)
