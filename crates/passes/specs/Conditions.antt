-- What holds of a flow that settled.
use Rattle.std.specs.Prelude.{List, map}
use Rattle.std.specs.List.{All}
use Rattle.boxes.specs.declared.flow.Flow.{Flow}
use Rattle.box_gen.specs.Faces.{AreFaced}
use Rattle.box_gen.specs.Notes.{IsGoodBody}
use Rattle.metrics.specs.Face.{FontFace}
use Rattle.note_list.specs.Conditions.{CanBePaged}
use Rattle.page_seq.specs.Numbers.{IsSmallReset}
use Rattle.page_seq.specs.Places.{NeverFall}

-- it can be paged, all its faces are there, and its running strings and resets stand in order
pub record IsGoodFlow (faces : List FontFace) (flow : Flow) : Type 0 where
  pub paged : CanBePaged faces flow
  pub faced : AreFaced faces flow.main.leaves
  pub bodies : All (IsGoodBody faces) flow.notes
  pub strings : NeverFall (map (λ a. a.at) flow.strings)
  pub resets : NeverFall (map (λ r. r.at) flow.resets)
  pub small : All IsSmallReset flow.resets
