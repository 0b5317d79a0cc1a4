use Rattle.std.proofs.Common.{rules, ◌≡◌}
use Rattle.html_tok.specs.Pieces.{len_through}
use Rattle.html_tok.proofs.Ends.{through_boundary, through_some}
use Rattle.html_tok.proofs.tokens.length_through_ascii.Goals as goal

pub returns-clause-boundary : goal.returns-clause-boundary
returns-clause-boundary c =
    let e : c.length_through.result ≡ len_through c.args.needle.now c.args.rest.now = search rules in
    rw e (through_boundary c.args.needle.now c.requires.some c.args.rest.now c.utf8.rest c.requires.ascii)

pub returns-clause-some : goal.returns-clause-some
returns-clause-some c =
    let e : c.length_through.result ≡ len_through c.args.needle.now c.args.rest.now = search rules in
    λ l. rw e (through_some c.args.needle.now c.args.rest.now c.requires.some l)
