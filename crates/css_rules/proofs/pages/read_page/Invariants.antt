use Rattle.std.proofs.Common.{◌≤◌, ◌++◌, List, map, length}
use Rattle.css_tok.specs.Tokens.{Item, tokens_of}
use Rattle.css_rules.specs.Decls.{Decl, decl_in}
use Rattle.css_rules.specs.Pages.{BoxOf, box_in, IsPageBlock}
use Rattle.css_rules.proofs.pages.read_page.Given as goal

abbrev pub invariant-parts : goal.invariant-parts
invariant-parts l = record {
  within : length l.tokens.rest.now ≤ length l.fn.tokens.rest.now;
  goes : (ds : List Decl) (bs : List BoxOf) (rest : List Item) → IsPageBlock (tokens_of l.tokens.rest.now) ds bs rest → IsPageBlock (tokens_of l.fn.tokens.rest.now) (map decl_in l.decls.items ++ ds) (map box_in l.boxes.items ++ bs) rest;
}

abbrev pub decreases-parts : goal.decreases-parts
decreases-parts l = length l.tokens.rest.now
