use Rattle.paint.proofs.PrintLemmas.{pages-print-their-text}
use Rattle.paint.proofs.laws.pages_print_their_text.Goals as goal

pub returns : goal.returns
returns c = pages-print-their-text
