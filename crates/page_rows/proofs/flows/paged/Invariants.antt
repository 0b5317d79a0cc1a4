use Rattle.page_rows.proofs.flows.paged.Given as goal

abbrev pub ghosts-pages_of : goal.ghosts-pages_of
ghosts-pages_of a = record { name = a.token.name; parts = a.token.parts }
