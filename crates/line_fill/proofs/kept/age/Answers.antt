use Rattle.std.proofs.Common.{◌≡◌, length, map, arith, sym, ◌∙◌}
use Rattle.std.proofs.lemmas.List.{length-map, same_lists, get_or-map}
use Rattle.line_fill.specs.KeptLines.{before_of}
use Rattle.line_fill.proofs.kept.age.Goals as goal

pub returns : goal.returns
returns c =
    let i = c.loop-kept.invariant in
    let l : length (map before_of c.args.lines.now) ≡ length c.args.lines.now = length-map c.args.lines.now before_of in
    let e : length c.loop-kept.lines ≡ length c.args.lines.now = i.2 in
    same_lists c.loop-kept.lines (map before_of c.args.lines.now) (i.2 ∙ sym l) (λ k d h.
    i.0 k d (omega (arith, e)) ∙ sym (get_or-map before_of c.args.lines.now k d d (omega (arith, e))))
