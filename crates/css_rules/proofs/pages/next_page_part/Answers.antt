use Rattle.std.proofs.Common.{◌≡◌, ◌∙◌, sym, refl}
use Rattle.css_tok.specs.Tokens.{tokens_of, item_in}
use Rattle.css_rules.specs.Pages.{page_lead}
use Rattle.css_rules.specs.declared.pages.Lead.TheVariants as lead
use Rattle.css_rules.proofs.PageLemmas.{goes_between, ends_closer, ends_cut, at_goes, piece_goes}
use Rattle.css_rules.proofs.pages.next_page_part.Goals as goal

pub returns-in_default-clause-part : goal.returns-in_default-clause-part
returns-in_default-clause-part c = ends_cut (tokens_of c.args.tokens.now.rest.now) (tokens_of c.args.tokens.now.rest.now) c.in_default.ensures.tokens refl

pub returns-in_ok-part-in-Content-clause-part : goal.returns-in_ok-part-in-Content-clause-part
returns-in_ok-part-in-Content-clause-part c =
    let here : page_lead (item_in c.in-Some.token) ≡ lead.Content = sym c.page_lead.ensures ∙ c.in-Content.is in
    piece_goes c.in_ok-part-in-Content.part (tokens_of c.args.tokens.now.rest.now) (tokens_of c.next.new.self.rest.now) (tokens_of c.read_page_piece.new.tokens.rest.now) (item_in c.in-Some.token) c.in-Some.ensures.tokens here c.in_ok-part-in-Content.ensures.decl c.in_ok-part-in-Content.ensures.margin c.in_ok-part-in-Content.ensures.more c.in_ok-part-in-Content.ensures.rest

pub returns-in_ok-part-in-At-clause-part : goal.returns-in_ok-part-in-At-clause-part
returns-in_ok-part-in-At-clause-part c =
    let here : page_lead (item_in c.in-Some.token) ≡ lead.At = sym c.page_lead.ensures ∙ c.in-At.is in
    at_goes c.in_ok-part-in-At.part (tokens_of c.args.tokens.now.rest.now) (tokens_of c.next.new.self.rest.now) (tokens_of c.read_page_at.new.tokens.rest.now) (item_in c.in-Some.token) c.in-Some.ensures.tokens here c.in_ok-part-in-At.ensures.part

pub returns-in-Closer-clause-part : goal.returns-in-Closer-clause-part
returns-in-Closer-clause-part c = ends_closer (tokens_of c.args.tokens.now.rest.now) (tokens_of c.next.new.self.rest.now) (item_in c.in-Some.token) c.in-Some.ensures.tokens (sym c.page_lead.ensures ∙ c.in-Closer.is)

pub returns-in-Between-clause-part : goal.returns-in-Between-clause-part
returns-in-Between-clause-part c = λ ds bs rest block. goes_between (tokens_of c.args.tokens.now.rest.now) (tokens_of c.next.new.self.rest.now) (item_in c.in-Some.token) ds bs rest c.in-Some.ensures.tokens (sym c.page_lead.ensures ∙ c.in-Between.is) block
