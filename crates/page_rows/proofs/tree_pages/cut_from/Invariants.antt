use Rattle.page_rows.proofs.tree_pages.cut_from.Given as goal

abbrev pub ghosts-cut_of : goal.ghosts-cut_of
ghosts-cut_of a = record { name = a.token.name; parts = a.token.parts }
