use Rattle.std.proofs.Common.{◌≡◌}
use Rattle.std.proofs.lemmas.Result.{IfOk-weaker}
use Rattle.gen_text.specs.Content.{IsTextOf, text_of}
use Rattle.gen_text.specs.Texts.{place_at, source_in}
use Rattle.gen_text.proofs.TextLemmas.{text-that}
use Rattle.gen_text.proofs.texts.content_text.Goals as goal

pub returns : goal.returns
returns c =
    let p = place_at (source_in c.args.texts.now) c.args.node.0 c.args.pseudo in
    IfOk-weaker c.eval.result (λ text. IsTextOf p c.args.content.now text) (λ text. text ≡ text_of p c.args.content.now) (λ text h. text-that p c.args.content.now text c.len.ensures.tree h) c.eval.ensures
