use Rattle.page_rows.proofs.tree_pages.solids.Given as goal

abbrev pub ghosts-solids_counted : goal.ghosts-solids_counted
ghosts-solids_counted a = record { name = a.token.name; parts = a.token.parts }
