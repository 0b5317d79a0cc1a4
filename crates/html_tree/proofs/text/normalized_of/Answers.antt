use Rattle.std.proofs.Common.{◌≡◌, false, not, is_some, ap, ◌∙◌}
use Rattle.memchr.specs.Find.{is_byte2}
use Rattle.html_tree.proofs.TextLemmas.{found-none, normalized-same}
use Rattle.html_tree.proofs.text.normalized_of.Goals as goal

pub returns-then-is_none : goal.returns-then-is_none
returns-then-is_none c =
    let none : is_some c.memchr2.result ≡ false = c.is_none.ensures ∙ ap not c.if-is_none.true in
    normalized-same c.args.text.now (found-none (is_byte2 13 0) c.args.text.now c.memchr2.result none (rw c.as_bytes.ensures.value at c.memchr2.ensures))
