use Rattle.page_rows.proofs.tree_pages.walks.Given as goal

abbrev pub ghosts-walks_counted : goal.ghosts-walks_counted
ghosts-walks_counted a = record { name = a.token.name; parts = a.token.parts }
