use Rattle.book_rows.proofs.runs.run_counted.Given as goal

abbrev pub ghosts-outcome_of : goal.ghosts-outcome_of
ghosts-outcome_of g a = record { name = a.token.name; parts = a.token.parts }
