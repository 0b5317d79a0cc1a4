use Rattle.book.proofs.lay_out.page_laws.Goals as goal

pub returns : goal.returns
returns c = record {
  main = c.main_stands_once.ensures;
  notes = c.notes_stand_once.ensures;
  breaks = c.breaks_hold.ensures;
  inside = c.pages_end_inside.ensures;
  begins = c.notes_begin_in_time.ensures;
  folds = c.folds_keep_all.ensures;
}
