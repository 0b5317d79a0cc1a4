use Rattle.std.proofs.Common.{◌≡◌, ◌<◌, length, arith, sym}
use Rattle.std.specs.Cow.{cow_str_bytes}
use Rattle.std.proofs.lemmas.Bool.Decides.{nat_tests}
use Rattle.html_tree.proofs.BuildLemmas.{waiting-under, none-under}
use Rattle.html_tree.proofs.tree.Builder.is_joined.Goals as goal

pub returns-then-is_empty-clause-under : goal.returns-then-is_empty-clause-under
returns-then-is_empty-clause-under c =
    let empty : length (cow_str_bytes c.args.self.now.text) ≡ 0 = grind (arith, nat_tests) in
    sym (none-under c.args.self.now.dom c.args.self.now.parent.0 c.args.parent.0 (cow_str_bytes c.args.self.now.text) empty (c.requires.last empty))

pub returns-clause-under : goal.returns-clause-under
returns-clause-under c =
    let some : 0 < length (cow_str_bytes c.args.self.now.text) = grind (arith, nat_tests) in
    sym (waiting-under c.args.self.now.dom c.args.self.now.parent.0 (cow_str_bytes c.args.self.now.text) c.args.parent.0 some)
