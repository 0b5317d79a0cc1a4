use Rattle.std.proofs.Common.{◌∙◌, ap, length}
use Rattle.page_seq.proofs.NumberLemmas.{numbers-many}
use Rattle.listing.proofs.pages.margins_of.Goals as goal

pub returns-clause-can : goal.returns-clause-can
returns-clause-can c = record {
  strings = c.requires.strings;
  numbers = ap length c.requires.numbers ∙ numbers-many c.args.printer.now.flow.now.main c.args.printer.now.list.now.pages c.args.printer.now.flow.now.resets;
}
