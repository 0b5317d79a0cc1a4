use Rattle.std.proofs.Common.{◌∙◌, ap}
use Rattle.css_tok.specs.Marks.{first_of}
use Rattle.css_words.proofs.ReadLemmas.{next_is, some_if}
use Rattle.css_words.proofs.reader.Reader.peek.Goals as goal

pub returns-clause-next : goal.returns-clause-next
returns-clause-next c = next_is _ _ _ _ c.self.invariant ∙ ap first_of c.self.view_is

pub returns-clause-some : goal.returns-clause-some
returns-clause-some c = some_if _ _ _ _ _ c.self.view_is
