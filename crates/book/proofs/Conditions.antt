-- What is asked of a flow that is painted holds of one that settled.
use Rattle.std.proofs.Common.{List, subst}
use Rattle.std.proofs.lemmas.Option.{get_or_from_slice_get, slice_get_within}
use Rattle.metrics.specs.Face.{FontFace}
use Rattle.boxes.specs.declared.flow.Flow.{Flow}
use Rattle.box_gen.specs.Notes.{IsGoodBody}
use Rattle.paint.specs.Conditions.{CanFlowBePainted}
use Rattle.passes.specs.Conditions.{IsGoodFlow}

pub can_be_painted : (faces : List FontFace) (flow : Flow) → IsGoodFlow faces flow → CanFlowBePainted faces flow
can_be_painted faces flow good = record {
  main = record {
    depth = good.paged.main.tree.depth;
    faced = λ l leaf is. record { leaf_faces = (good.faced l leaf is).0; lead_faces = (good.faced l leaf is).1 };
  };
  notes = λ n note is.
      let body : IsGoodBody faces note = subst (IsGoodBody faces) (get_or_from_slice_get flow.notes n note note is) (good.bodies n note (slice_get_within flow.notes n note is)) in
      record {
        depth = body.depth;
        faced = λ l leaf e. record { leaf_faces = (body.faced l leaf e).0; lead_faces = (body.faced l leaf e).1 };
      };
  sliced = good.paged.sliced;
}
