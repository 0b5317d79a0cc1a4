use Rattle.std.proofs.Common.{◌∙◌, ◌++◌, ap, sym, append_assoc}
use Rattle.unread_list.proofs.steps.at_texts.Goals as goal

pub at_text-requires : goal.at_text-requires
at_text-requires c = record {
  rest = c.split.result.1.now;
  is = c.requires.at ∙ ap (λ z. c.args.token.now.slice.now ++ z) c.split.ensures.back ∙ sym (append_assoc c.args.token.now.slice.now c.split.result.0.now c.split.result.1.now);
}
