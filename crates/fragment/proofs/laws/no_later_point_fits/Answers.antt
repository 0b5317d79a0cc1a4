use Rattle.fragment.proofs.MissLemmas.{no_later_point_fits}
use Rattle.fragment.proofs.laws.no_later_point_fits.Goals as goal

pub returns : goal.returns
returns c = no_later_point_fits
