use Rattle.std.proofs.Common.{◌≡◌, ◌∙◌, sym, true}
use Rattle.bk_num.specs.Chars.{is_quote}
use Rattle.html_tok.proofs.TagLemmas.{after-first, quote-small}
use Rattle.html_tok.proofs.attrs.split_begun.Goals as goal

pub range_from-requires : goal.range_from-requires
range_from-requires c =
    let quote : is_quote c.first_byte-quote.result ≡ true = sym c.is_quote.ensures ∙ c.if-not-is_quote.false in
    let small = quote-small c.first_byte-quote.result quote in
    λ _. after-first c.args.text.now c.first_byte-quote.result c.utf8.text c.first_byte-quote.ensures small.0 small.1
