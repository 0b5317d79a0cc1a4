use Rattle.std.proofs.Common.{arith, ◌≡◌, ◌++◌, ◌+◌, ◌-◌, ◌/◌, ◌%◌, ◌∷◌, [], ap, ◌∙◌}
use Rattle.std.proofs.lemmas.List.{append_assoc}
use Rattle.counters.specs.Numerals.{letters}
use Rattle.counters.proofs.NumeralLemmas.{letters_step}
use Rattle.counters.proofs.numeral.+push_places.Goals as goal

pub returns-clause-ok : goal.returns-clause-ok
returns-clause-ok t c =
    let before = c.args.into.now.items in
    let others = letters c.args.first ((c.args.n - 1) / 26) in
    let last = (c.args.first + (c.args.n - 1) % 26) ∷ [] in
    let a : c.push_places.new.into.items ≡ before ++ others = c.in_ok-push_places.ensures.ok in
    let b : c.push_places.new.into.items ++ last ≡ before ++ (others ++ last) = ap (λ l. l ++ last) a ∙ append_assoc before others last in
    let e = rw b at c.push_bytes.ensures.ok in
    rw (letters_step c.args.first c.args.n (omega arith)) e
