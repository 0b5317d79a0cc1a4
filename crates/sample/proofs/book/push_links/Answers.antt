use Rattle.std.proofs.Common.{◌∙◌, ◌++◌, ℕ, List, sym, ap, string_bytes}
use Rattle.sample.specs.Html.{link}
use Rattle.sample.proofs.Appended.{appended}
use Rattle.sample.proofs.Repeats.{flat-one-more}
use Rattle.sample.proofs.book.push_links.Goals as goal

pub loop-before-preserved : goal.loop-before-preserved
loop-before-preserved c =
    appended _ _ _ _ _ c.loop-before.invariant c.in_ok-push_link.ensures ∙ ap (λ (z : List ℕ). string_bytes c.args.out.now ++ z) (sym (flat-one-more link c.loop-before.before))
