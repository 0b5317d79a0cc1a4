-- What is in a note has the input of its document.
use Rattle.std.specs.Prelude.{ℕ, true}
use Rattle.box_gen.specs.declared.input.FlowInput.{FlowInput}
use Rattle.box_gen.specs.Sources.{IsNodeOf}

-- a node of a document is one of what is in a note
pub node-in-note : (i : FlowInput) (n : ℕ) → IsNodeOf i n → IsNodeOf (record i { in_note = true }) n
node-in-note i n h = record {
  input = record { initial = h.input.initial; faces = h.input.faces; known = h.input.known; ranges = h.input.ranges };
  node = h.node;
}
