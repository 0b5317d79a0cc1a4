use Rattle.std.proofs.Common.{◌≡◌, ◌∙◌, ap, sym, rules, arith}
use Rattle.std.specs.Prelude.{Some, None}
use Rattle.std.proofs.lemmas.Grind.{common_steps}
use Rattle.css_words.proofs.RepeatLemmas.{many_stops}
use Rattle.css_words.proofs.lists.read_more.Goals as goal

pub returns-in-None-clause-reads : goal.returns-in-None-clause-reads
returns-in-None-clause-reads g c =
    let e : g.N.ReadNext.parser c.args.next.now c.values.reader ≡ Some (None, c.next.new.reader) = first_of (search rules, grind (arith, common_steps)) in
    c.values.invariant.0
    ∙ many_stops (g.N.ReadNext.parser c.args.next.now) c.values.found.items c.values.reader c.next.new.reader e
    ∙ ap (λ z. Some (z, c.next.new.reader)) (sym c.of.ensures)
