use Rattle.std.proofs.Common.{◌≡◌, ◌∙◌, ◌+◌, ◌<◌, ◌^◌, ℕ, List, length, sym, subst, arith}
use Rattle.std.specs.List.{All}
use Rattle.std.specs.Str.{IsUtf8}
use Rattle.hyphen.specs.Meaning.{value_in}
use Rattle.soft_hyphens.specs.Known.{word_points}
use Rattle.soft_hyphens.proofs.OffsetLemmas.{points-within}
use Rattle.soft_hyphens.proofs.walk.push_word.Goals as goal

fits : (value : List ℕ → ℕ → ℕ) (word points : List ℕ) (from : ℕ) → IsUtf8 word → points ≡ word_points value word → from + length word < 2 ^ 63 → All (λ (p : ℕ). from + p < 2 ^ 64) points
fits value word points from u is h =
    subst (All (λ (p : ℕ). from + p < 2 ^ 64)) (sym is) (λ k d l. omega (arith, points-within value word u k d l, h))

pub push_points-requires : goal.push_points-requires
push_points-requires c = fits (value_in c.args.hyphenator.now) c.args.word.now c.in-Some.points.now c.args.from c.utf8.word c.in-Some.ensures c.requires.stand

pub push_points-requires-in-None : goal.push_points-requires-in-None
push_points-requires-in-None c = fits (value_in c.args.hyphenator.now) c.args.word.now c.deref.result.now c.args.from c.utf8.word (c.deref.ensures.value ∙ c.in_ok-points-in-None.ensures) c.requires.stand
