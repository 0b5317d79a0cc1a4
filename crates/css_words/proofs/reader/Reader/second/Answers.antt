use Rattle.std.proofs.Common.{◌∙◌, ap}
use Rattle.css_tok.specs.Marks.{first_of, rest_of}
use Rattle.css_words.proofs.ReadLemmas.{later_is}
use Rattle.css_words.proofs.reader.Reader.second.Goals as goal

pub returns : goal.returns
returns c = later_is _ _ _ _ c.self.invariant ∙ ap (λ ts. first_of (rest_of ts)) c.self.view_is
