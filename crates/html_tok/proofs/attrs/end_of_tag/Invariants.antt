use Rattle.std.proofs.Common.{◌≡◌, ◌-◌, ◌≤◌, length, false, get_or}
use denote.Text.{Utf8}
use denote.Shadow.{shadow}
use Rattle.html_tok.specs.Classes.{is_between}
use Rattle.html_tok.specs.Tags.{end_after}
use Rattle.html_tok.proofs.TagLemmas.{shifted}
use Rattle.html_tok.proofs.attrs.end_of_tag.Given as goal

abbrev pub invariant-loop-rest : goal.invariant-loop-rest
invariant-loop-rest l = record {
  utf8 : shadow (Utf8 l.rest);
  within : length l.rest ≤ length l.text;
  begun : is_between (get_or l.rest 0 0) ≡ false;
  found : end_after 0 l.text ≡ shifted (length l.text - length l.rest) (end_after 0 l.rest);
}

abbrev pub decreases-loop-rest : goal.decreases-loop-rest
decreases-loop-rest l = length l.rest
