use Rattle.std.proofs.Common.{◌≡◌, length, string_bytes, sym, subst, arith}
use Rattle.std.specs.Str.{IsCharBoundary}
use Rattle.std.proofs.lemmas.Str.{IsCharBoundary-end}
use Rattle.inline_text.proofs.joined.JoinedText.reach.Goals as goal

pub invariant_of-self : goal.invariant_of-self
invariant_of-self c =
    let text = string_bytes c.self.inside.text in
    let at : c.len-at.result ≡ length text = omega (arith, c.len-at.ensures, c.self.inside.text.bytes.ok.0) in
    c.push_ends.ensures.stand text (subst (IsCharBoundary text) (sym at) (IsCharBoundary-end text)) c.self.invariant
