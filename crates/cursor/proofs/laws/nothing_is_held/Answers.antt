use Rattle.cursor.proofs.laws.nothing_is_held.Goals as goal

pub returns : goal.returns
returns c a h = let has = h.1.stands.has in cc
