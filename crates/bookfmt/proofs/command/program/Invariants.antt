use Rattle.bookfmt.proofs.command.program.Given as goal

abbrev pub ghosts-end : goal.ghosts-end
ghosts-end a = record { name = a.token.name; parts = a.token.parts }
