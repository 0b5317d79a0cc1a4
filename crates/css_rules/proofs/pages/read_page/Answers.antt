use Rattle.std.proofs.Common.{◌≡◌, refl, true, false, arith}
use Rattle.std.proofs.lemmas.Grind.{common_steps}
use Rattle.css_tok.specs.Tokens.{tokens_of}
use Rattle.css_rules.proofs.PageLemmas.{page_more, page_done}
use Rattle.css_rules.proofs.pages.read_page.Goals as goal

pub returns-then-not-more-clause-block : goal.returns-then-not-more-clause-block
returns-then-not-more-clause-block c =
    let done : c.in_ok-decl.field-0.more ≡ false = c.if-not-more.true in (
      refl,
      page_done c.in_ok-decl.field-0 (tokens_of c.args.tokens.now.rest.now) (tokens_of c.parts.tokens.rest.now) (tokens_of c.next_page_part.new.tokens.rest.now) c.parts.decls.items c.push_some.new.items.items c.parts.boxes.items c.push_some-in-parts.new.items.items done c.in_ok-decl.ensures.part c.parts.invariant.goes
          c.in_ok-push_some.ensures c.in_ok-push_some-2.ensures,
    )

pub parts-preserved : goal.parts-preserved
parts-preserved c =
    let more : c.in_ok-decl.field-0.more ≡ true = c.if-not-more.false in
    record {
      within = grind (arith, common_steps);
      goes = page_more c.in_ok-decl.field-0 (tokens_of c.args.tokens.now.rest.now) (tokens_of c.parts.tokens.rest.now) (tokens_of c.next_page_part.new.tokens.rest.now) c.parts.decls.items c.push_some.new.items.items c.parts.boxes.items c.push_some-in-parts.new.items.items more c.in_ok-decl.ensures.part c.parts.invariant.goes
          c.in_ok-push_some.ensures c.in_ok-push_some-2.ensures;
    }
