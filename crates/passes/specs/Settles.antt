-- What the passes over a document answer.
use Rattle.std.specs.Prelude.{ℕ, List, Result, Ok, Err, map, option_map}
use Rattle.std.specs.String.{string_bytes}
use Rattle.bk_num.specs.declared.ids.NodeId.{NodeId}
use Rattle.counters.specs.At.{counter_values}
use Rattle.gen_text.specs.References.{AreTargets}
use Rattle.boxes.specs.Frames.{PageFrames}
use Rattle.passes.specs.declared.settle.Input.{Input}
use Rattle.passes.specs.declared.settle.Settled.{Settled}
use Rattle.passes.specs.declared.settle.PassErr.{PassErr}
use Rattle.passes.specs.declared.settle.PassErr.TheVariants as err
use Rattle.passes.specs.Passes.{End, settled, unsettled, long, many, EndsIn}
use Rattle.passes.specs.Work.{Work}
use Rattle.soft_hyphens.specs.Words.{points_in}

-- what the passes over a document read, with the frames of its pages, how many stand on each, and the elements that its
-- page references lead to
abbrev pub work_of : Input → PageFrames → ℕ → List NodeId → Work
work_of input frames per targets = record {
  nodes = input.dom.now;
  rows = input.styles.now;
  values = counter_values input.counters.now;
  asked = map (λ k. string_bytes k) input.asked.now.keys;
  faces = input.faces.now;
  points = points_in (option_map (λ p. p.now) input.patterns);
  frames = frames;
  per = per;
  targets = targets;
}

-- how the passes over a document end
pub record HasEnd (input : Input) (frames : PageFrames) (per limit : ℕ) (end : End) : Type 0 where
  pub targets : List NodeId
  pub are : AreTargets input.dom.now input.styles.now targets
  pub ends : EndsIn (work_of input frames per targets) limit end

-- they are answered as they end, or memory runs out
abbrev pub Settles : Input → PageFrames → ℕ → ℕ → Result Settled PassErr → Type 0
Settles input frames per limit (Ok s) = HasEnd input frames per limit (settled s.passes s.flow s.pages.pages s.table)
Settles input frames per limit (Err (err.NotSettled target before after)) =
    HasEnd input frames per limit (unsettled target before after)
Settles input frames per limit (Err err.Text) = HasEnd input frames per limit long
Settles input frames per limit (Err err.Pages) = HasEnd input frames per limit many
Settles input frames per limit (Err err.NoMemory) = Unit {0}
