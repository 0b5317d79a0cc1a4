use Rattle.std.proofs.Common.{ap}
use Rattle.css_tok.specs.Tokens.{item_in}
use Rattle.unread_list.specs.Lines.{left_in}
use Rattle.unread_list.proofs.LineLemmas.{passes_first, passes_one, passes_none, if_ok_then}
use Rattle.unread_list.proofs.steps.pass_in_page.Goals as goal

pub returns-in_default-clause-passes : goal.returns-in_default-clause-passes
returns-in_default-clause-passes c = passes_none (left_in c.args.lines.now) (left_in c.next.new.self) c.args.lines.now.line c.next.new.self.line c.in_default.ensures.tokens (ap left_in c.in_default.ensures.end) (ap (λ l. l.line) c.in_default.ensures.end)

pub returns-in-Between-clause-passes : goal.returns-in-Between-clause-passes
returns-in-Between-clause-passes c = passes_one (item_in c.in-Some.token) (left_in c.args.lines.now) (left_in c.next.new.self) c.args.lines.now.line c.next.new.self.line c.in-Some.ensures.tokens c.in-Some.ensures.line

pub returns-in-Closer-clause-passes : goal.returns-in-Closer-clause-passes
returns-in-Closer-clause-passes c = passes_one (item_in c.in-Some.token) (left_in c.args.lines.now) (left_in c.next.new.self) c.args.lines.now.line c.next.new.self.line c.in-Some.ensures.tokens c.in-Some.ensures.line

pub returns-in-At-clause-passes : goal.returns-in-At-clause-passes
returns-in-At-clause-passes c = if_ok_then c.pass_page_at.result (passes_first (item_in c.in-Some.token) (left_in c.args.lines.now) (left_in c.next.new.self) (left_in c.pass_page_at.new.lines) c.args.lines.now.line c.next.new.self.line c.pass_page_at.new.lines.line c.in-Some.ensures.tokens c.in-Some.ensures.line) c.pass_page_at.ensures.passes
