use Rattle.std.proofs.Common.{◌≡◌, ◌∙◌, ap, sym, subst}
use Rattle.std.specs.Str.{IsUtf8}
use Rattle.line_place.specs.Conditions.{IsInLeaf}
use Rattle.paint.specs.Items.{line_between, line_of}
use Rattle.paint.proofs.LineLemmas.{line_inside}
use Rattle.paint.proofs.lines.line_at.Goals as goal

pub returns : goal.returns
returns c =
    let leaf = c.args.leaf.now in
    let s = c.args.s.now in
    let utf8 : IsUtf8 leaf.text = rw (← c.as_str-text.ensures) c.as_str-text.utf8 in
    let is : c.line_between.result ≡ line_of leaf s = c.line_between.ensures.value ∙ ap (line_between leaf s.at.offset) c.end_in.ensures in
    record {
      line = is;
      inside = subst (IsInLeaf leaf) (sym is) (line_inside leaf s.at.offset (line_of leaf s).to c.requires.good utf8 c.requires.between);
    }
