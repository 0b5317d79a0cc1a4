use Rattle.std.proofs.Common.{ℕ, List, string_bytes, sym, subst}
use Rattle.std.specs.List.{All}
use Rattle.std.specs.Str.{IsCharBoundary}
use Rattle.inline_text.proofs.EndLemmas.{stand-more}
use Rattle.inline_text.proofs.joined.JoinedText.push_str.Goals as goal

pub invariant_of-self-2 : goal.invariant_of-self-2
invariant_of-self-2 c = subst (λ (t : List ℕ). All (IsCharBoundary t) c.self.inside.ends.items) (sym c.in_ok-push_str.ensures.bytes) (stand-more (string_bytes c.self.inside.text) c.args.more.now c.self.inside.ends.items c.utf8.more c.self.invariant)
