use Rattle.std.proofs.Common.{ℕ, List, string_bytes, sym, subst}
use Rattle.std.specs.Char.{encode_utf8}
use Rattle.std.specs.List.{All}
use Rattle.std.specs.Str.{IsCharBoundary}
use Rattle.std.proofs.lemmas.Str.{IsUtf8-encode}
use Rattle.inline_text.proofs.EndLemmas.{stand-more}
use Rattle.inline_text.proofs.joined.JoinedText.push.Goals as goal

pub invariant_of-self-2 : goal.invariant_of-self-2
invariant_of-self-2 c = subst (λ (t : List ℕ). All (IsCharBoundary t) c.self.inside.ends.items) (sym c.in_ok-push.ensures.bytes) (stand-more (string_bytes c.self.inside.text) (encode_utf8 c.args.c) c.self.inside.ends.items (IsUtf8-encode c.args.c c.ranges.c.0) c.self.invariant)
