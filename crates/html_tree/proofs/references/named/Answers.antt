use Rattle.std.proofs.Common.{◌∙◌, ap}
use Rattle.html_tree.specs.Texts.{Reference, named, named_references}
use Rattle.html_tree.specs.Words.{starting}
use Rattle.html_tree.proofs.NameLemmas.{named-starting}
use Rattle.html_tree.proofs.references.named.Goals as goal

pub returns : goal.returns
returns c =
    let rows = c.rows_of.ensures ∙ ap (λ b. starting b named_references) c.byte_at.ensures in
    let all = ap (λ table. named table c.args.bytes.now) rows ∙ named-starting named_references c.args.bytes.now in
    record { character = c.find_name.ensures.character ∙ ap (λ (r : Reference). r.code) all; len = c.find_name.ensures.len ∙ ap (λ (r : Reference). r.len) all }
