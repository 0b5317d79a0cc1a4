use Rattle.std.proofs.Common.{sym}
use Rattle.html_tok.proofs.Through.{len_through_found, len_through_none}
use Rattle.html_tok.proofs.scan.length_through.Goals as goal

pub returns-in-Some : goal.returns-in-Some
returns-in-Some c = sym (len_through_found c.args.needle.now c.args.rest.now c.in-Some.at c.requires c.in-Some.ensures.0.before c.in-Some.ensures.1)

pub returns-in-None : goal.returns-in-None
returns-in-None c = let none = c.in-None.ensures in sym (len_through_none c.args.needle.now c.args.rest.now none)
