use Rattle.std.proofs.Common.{◌≡◌, ◌+◌, ◌-◌, ◌≤◌, length, drop}
use Rattle.html_tok.specs.Fields.{end_in}
use Rattle.html_tok.specs.Pieces.{text_len}
use Rattle.html_tok.proofs.scan.length_of_text.Given as goal

abbrev pub invariant-loop-found : goal.invariant-loop-found
invariant-loop-found l = record {
  within : l.from ≤ length l.rest;
  text : text_len (end_in l.until) l.rest ≡ l.from + text_len (end_in l.until) (drop l.from l.rest);
}

abbrev pub decreases-loop-found : goal.decreases-loop-found
decreases-loop-found l = length l.rest - l.from
