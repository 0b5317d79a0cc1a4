use Rattle.page_ctx.proofs.groups.group_rules.Goals as goal

pub returns-clause-rules : goal.returns-clause-rules
returns-clause-rules c = c.in_ok-index.ensures.rules
