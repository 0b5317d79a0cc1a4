use Rattle.std.proofs.Common.{◌≡◌, false, not, is_some, ap, ◌∙◌}
use Rattle.memchr.specs.Find.{is_byte}
use Rattle.html_tree.specs.Texts.{normalized, text_of}
use Rattle.html_tree.proofs.TextLemmas.{found-none, referred-same}
use Rattle.html_tree.proofs.text.text_of.Goals as goal

pub returns-then-is_none : goal.returns-then-is_none
unfolding text_of
returns-then-is_none c =
    let none : is_some c.memchr.result ≡ false = c.is_none.ensures ∙ ap not c.if-is_none.true in
    let bytes : c.as_bytes.result.now ≡ normalized c.args.text.now = c.as_bytes.ensures.value ∙ c.as_str.ensures.value ∙ c.in_ok-normalized.ensures in
    let own = referred-same (normalized c.args.text.now) (found-none (is_byte 38) (normalized c.args.text.now) c.memchr.result none (rw bytes at c.memchr.ensures)) in
    rw c.if-not-references.false (c.in_ok-normalized.ensures ∙ own)
