use Rattle.flow_rows.proofs.lines.ends_of.Given as goal

abbrev pub ghosts-ends_by : goal.ghosts-ends_by
ghosts-ends_by a = record { name = a.token.name; parts = a.token.parts }
