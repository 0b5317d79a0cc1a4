use Rattle.std.proofs.Common.{◌≡◌, ◌∙◌, ℕ, Vec, sym, ap}
use Rattle.std.specs.Prelude.{Some, option_map}
use Rattle.std.specs.Global.{Global}
use Rattle.hyphen.specs.Meaning.{value_in}
use Rattle.hyphen.specs.declared.patterns.Patterns.{Patterns}
use Rattle.soft_hyphens.specs.Known.{points_of, word_points}
use Rattle.soft_hyphens.proofs.KnownLemmas.{known-is}
use Rattle.soft_hyphens.proofs.hyphenator.Hyphenator.known.Goals as goal

pub returns-in-Some : goal.returns-in-Some
returns-in-Some c =
    let has : points_of c.self.inside.known c.args.word.now ≡ Some c.in-Some.points.now.items = ap (option_map (λ (v : Vec ℕ Global). v.items)) (sym c.in-Some.ensures.value) in
    c.as_slice.ensures.value
    ∙ known-is (value_in c.self.inside.patterns.now) (points_of c.self.inside.known) c.args.word.now c.in-Some.points.now.items c.self.invariant has
    ∙ ap (λ (p : Patterns). word_points (value_in p) c.args.word.now) c.self.view_is
