use Rattle.std.proofs.Common.{◌≡◌, None, rules, subst, sym}
use Rattle.std.specs.List.{insert}
use Rattle.line_fill.specs.KeptLines.{IsFound, IsPlace, PutsAhead}
use Rattle.line_fill.proofs.AheadLemmas.{line_ahead, put-one}
use Rattle.line_fill.proofs.lines.put_ahead.Goals as goal

pub returns-in-Ok : goal.returns-in-Ok
returns-in-Ok c =
    let gone : c.line_at.result ≡ None = search rules in
    let none : IsFound c.args.lines.now.items c.place_of-place.result c.args.line.from None = rw (c.as_slice-2.ensures.value, c.from-2.ensures, gone) at c.line_at.ensures.is in
    let place : IsPlace c.args.lines.now.items c.args.line.from c.place_of-place.result = rw (c.as_slice.ensures.value, c.from.ensures) at c.place_of-place.ensures in
    let items : c.insert.new.self.items ≡ insert c.args.lines.now.items c.place_of-place.result (line_ahead c.args.line) = search rules in
    subst (PutsAhead (λ l. l ≡ c.args.line) c.args.lines.now.items) (sym items) (put-one c.args.lines.now.items c.place_of-place.result c.args.line c.requires place none)
