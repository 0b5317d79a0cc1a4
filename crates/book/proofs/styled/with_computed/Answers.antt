use Rattle.std.proofs.Common.{refl}
use Rattle.book.proofs.styled.with_computed.Goals as goal

pub returns-clause-of : goal.returns-clause-of
returns-clause-of c = rw (c.into_inner-document.ensures, c.into_inner-computed.ensures) (record {
  passes = refl;
  grid = refl;
  output = refl;
  nodes = refl;
  faces = refl;
  points = refl;
  styles = record { sheets = c.args.document.value.read; read = c.requires.sheets.read; styles = c.requires.styles };
  values = c.requires.counters;
  rules = c.requires.sheets.pages;
})

pub returns-clause-good : goal.returns-clause-good
returns-clause-good c = rw c.into_inner-computed.ensures (record { ranges = c.requires.ranges; shown = c.requires.shown })
