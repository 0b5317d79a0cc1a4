-- In which order the places of a flow stand.
use Rattle.std.specs.Prelude.{map}
use Rattle.page_seq.specs.Places.{NeverFall}
use Rattle.box_gen.specs.Flow.{built_of}
use Rattle.box_gen.specs.Trees.{Source}

-- the places at which elements begin never fall along their list
abbrev pub StartsNeverFall : Type 0
StartsNeverFall = (src : Source) → NeverFall (map (λ a. a.at) (built_of src).starts)
