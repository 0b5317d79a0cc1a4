use Rattle.std.proofs.Common.{◌≡◌, rules, subst, sym, FitsSigned, w64}
use Rattle.std.specs.List.{Contains, insert}
use Rattle.std.proofs.lemmas.Int.{to_z-of_z}
use Rattle.std.proofs.lemmas.List.Elements.{All-contains}
use Rattle.line_fill.specs.Filled.{AreFilled}
use Rattle.line_fill.specs.KeptLines.{AreRising, PutsAhead}
use Rattle.line_fill.specs.KeptSteps.{line_now}
use Rattle.line_fill.specs.KeptSteps.AsksLine.{fresh}
use Rattle.line_fill.proofs.AheadLemmas.{puts-on}
use Rattle.line_fill.proofs.InsertLemmas.{rising-insert}
use Rattle.line_fill.proofs.SetLemmas.{IsOwnLine}
use Rattle.line_fill.proofs.kept.ask_anew.Goals as goal

pub put_all_ahead-requires : goal.put_all_ahead-requires
put_all_ahead-requires g c =
    let items : c.insert.new.self.items ≡ insert c.args.kept.now.lines.items c.args.place (line_now c.in_ok-filled.filled.line) = search rules in
    subst AreRising (sym items) (rising-insert c.args.kept.now.lines.items c.args.from c.args.place (line_now c.in_ok-filled.filled.line) c.requires.rising c.requires.place c.requires.none c.in_ok-filled.ensures.lines.line.begins)

pub returns-clause-line : goal.returns-clause-line
returns-clause-line g c =
    let fits : FitsSigned w64 c.args.measure = c.ranges.measure in
    let filled : AreFilled c.args.faces.now c.args.leaf.now c.args.from c.args.measure c.in_ok-filled.filled = rw (to_z-of_z w64 c.args.measure fits) at c.in_ok-filled.ensures.lines in
    let items : c.insert.new.self.items ≡ insert c.args.kept.now.lines.items c.args.place (line_now c.in_ok-filled.filled.line) = search rules in
    let put : PutsAhead (λ l. Contains c.in_ok-filled.filled.ahead.items l) (insert c.args.kept.now.lines.items c.args.place (line_now c.in_ok-filled.filled.line)) c.put_all_ahead.new.lines.items = rw (items, c.as_slice.ensures.value) at c.put_all_ahead.ensures in
    let own = puts-on (λ l. Contains c.in_ok-filled.filled.ahead.items l) (IsOwnLine c.args.faces.now c.args.leaf.now c.args.measure) (insert c.args.kept.now.lines.items c.args.place (line_now c.in_ok-filled.filled.line)) c.put_all_ahead.new.lines.items
    (λ l has. All-contains (IsOwnLine c.args.faces.now c.args.leaf.now c.args.measure) c.in_ok-filled.filled.ahead.items l filled.ahead has) put in
    fresh c.args.place c.requires.place c.requires.none filled.line own c.line_from.ensures.step
