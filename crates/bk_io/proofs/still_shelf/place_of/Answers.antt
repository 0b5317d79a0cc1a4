use Rattle.std.proofs.Common.{rules, ◌≡◌, ap, Some, refl}
use Rattle.std.proofs.lemmas.Option.{slice_get_read}
use Rattle.bk_io.proofs.still_shelf.place_of.Goals as goal

pub returns-then-eq-clause-named : goal.returns-then-eq-clause-named
returns-then-eq-clause-named c =
    let e : c.index-files-i.result.0 ≡ c.args.name.now = search rules in
    rw (slice_get_read c.args.files.now _ c.loop-i.i _ refl c.loop-i-test.true c.index-files-i.is) (ap Some e)
