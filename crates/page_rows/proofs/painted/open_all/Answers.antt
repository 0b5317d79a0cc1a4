use Rattle.std.proofs.Common.{Result, Ok, Err, OnOk}
use Rattle.boxes.specs.Clones.{AreSliced}
use Rattle.page_rows.proofs.painted.open_all.Goals as goal

on_ok : {A E : Type 0} (P Q : Type 0) (r : Result A E) → (P → Q) → OnOk r P → OnOk r Q
on_ok P Q (Ok x) h p = h p
on_ok P Q (Err e) h p = tt

pub returns-clause-sliced : goal.returns-clause-sliced
returns-clause-sliced c =
    on_ok (AreSliced c.open-2.new.tree.boxes → AreSliced c.open-3.new.tree.boxes) (AreSliced c.args.tree.now.boxes → AreSliced c.open-3.new.tree.boxes) c.open-3.result
    (λ last sliced. last (c.in_ok-open-2.ensures.sliced (c.in_ok-open.ensures.sliced sliced)))
    c.open-3.ensures.sliced
