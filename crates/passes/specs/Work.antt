-- What the passes over a document read, and the flow of a pass.
use Rattle.std.specs.Prelude.{◌≡◌, ℕ, ℤ, List, Option}
use Rattle.bk_num.specs.declared.ids.NodeId.{NodeId}
use Rattle.bk_num.specs.declared.values.Pseudo.{Pseudo}
use Rattle.boxes.specs.declared.flow.Flow.{Flow}
use Rattle.box_gen.specs.Flow.{flow_of}
use Rattle.box_gen.specs.Sources.{source_of}
use Rattle.box_gen.specs.Trees.{Source}
use Rattle.dom.specs.Nodes.{Node}
use Rattle.gen_text.specs.Texts.{TextSource}
use Rattle.gen_text.specs.declared.table.Entry.{Entry}
use Rattle.metrics.specs.Face.{FontFace}
use Rattle.boxes.specs.Frames.{PageFrames}
use Rattle.soft_hyphens.specs.Words.{Points}
use Rattle.style.specs.Nodes.{NodeStyles}

-- what is the same in all passes: nodes with their styles, the values of counters, the names of the strings that pages
-- ask for, faces, where words may be hyphenated, the frames of pages and how many stand on each, and the elements that
-- page references lead to
pub record Work : Type 0 where
  pub nodes : List Node
  pub rows : List NodeStyles
  pub values : ℕ → Pseudo → List ℕ → List ℤ
  pub asked : List (List ℕ)
  pub faces : List FontFace
  pub points : Option Points
  pub frames : PageFrames
  pub per : ℕ
  pub targets : List NodeId

-- what texts are generated from under a table
abbrev pub texts_for : Work → List Entry → TextSource
texts_for w table = record {
  nodes = w.nodes;
  styles = w.rows;
  values = w.values;
  table = table;
  asked = w.asked;
}

-- what boxes are made from under a table
abbrev pub source_for : Work → List Entry → Source
source_for w table = source_of (texts_for w table) w.faces w.points

-- the flow under a table: page references print the numbers that the table has (css-gcpm-3, target-counter)
pub record IsFlowUnder (w : Work) (table : List Entry) (flow : Flow) : Type 0 where
  pub is : flow ≡ flow_of (source_for w table)
