use Rattle.std.proofs.Common.{◌∙◌, ap, sym, [], List}
use Rattle.css_tok.specs.Tokens.{tokens_of, item_in}
use Rattle.css_tok.specs.declared.tokens.CssToken.{CssToken}
use Rattle.css_rules.specs.Views.{items_in}
use Rattle.css_tok.specs.Marks.{rest_of, first_mark}
use Rattle.css_rules.specs.Parts.{joined, front_from, after_from}
use Rattle.css_rules.specs.Pages.{page_in}
use Rattle.css_rules.specs.Sheet.{kind_of_at}
use Rattle.css_rules.specs.declared.sheet.AtKind.TheVariants as at
use Rattle.css_rules.proofs.SheetLemmas.{kind_is, at_media, at_page, at_other}
use Rattle.css_rules.proofs.sheet.read_at.Goals as goal

pub returns-in-Media-clause-goes : goal.returns-in-Media-clause-goes
returns-in-Media-clause-goes c = λ here.
    let ts = tokens_of c.args.tokens.now.rest.now in
    let front = c.in_ok-end.ensures.found ∙ ap (λ s. front_from s [] ts) c.at_stop.ensures in
    let mark = c.in_ok-end.ensures.end ∙ ap (λ s. first_mark (after_from s [] ts)) c.at_stop.ensures in
    let rest = c.in_ok-end.ensures.rest ∙ ap (λ s. rest_of (after_from s [] ts)) c.at_stop.ensures in
    let is = sym c.in-Media.is ∙ c.at_kind.ensures ∙ ap (λ (z : List CssToken). kind_of_at c.args.inside (item_in c.args.token.now) (items_in z) c.in_ok-end.end.mark) c.deref.ensures.value in
    at_media c.args.inside (item_in c.args.token.now) ts (tokens_of c.take_until.new.tokens.rest.now) (kind_is c.args.inside (item_in c.args.token.now) ts _ c.in_ok-end.end.mark at.Media is front mark) rest here

pub returns-in_ok-page-in-Page-clause-goes : goal.returns-in_ok-page-in-Page-clause-goes
returns-in_ok-page-in-Page-clause-goes c = λ here.
    let ts = tokens_of c.args.tokens.now.rest.now in
    let front = c.in_ok-end.ensures.found ∙ ap (λ s. front_from s [] ts) c.at_stop.ensures in
    let mark = c.in_ok-end.ensures.end ∙ ap (λ s. first_mark (after_from s [] ts)) c.at_stop.ensures in
    let rest = c.in_ok-end.ensures.rest ∙ ap (λ s. rest_of (after_from s [] ts)) c.at_stop.ensures in
    let is = sym c.in-Page.is ∙ c.at_kind.ensures ∙ ap (λ (z : List CssToken). kind_of_at c.args.inside (item_in c.args.token.now) (items_in z) c.in_ok-end.end.mark) c.deref.ensures.value in
    let selectors = c.in_ok-page-in-Page.ensures.block.0 ∙ c.split.ensures.front ∙ ap (λ (z : List CssToken). joined (items_in z)) c.deref-in-Page.ensures.value ∙ ap joined front in
    at_page c.args.inside (item_in c.args.token.now) ts (tokens_of c.take_until.new.tokens.rest.now) (tokens_of c.read_page.new.tokens.rest.now) [] (page_in c.in_ok-page-in-Page.page) (kind_is c.args.inside (item_in c.args.token.now) ts _ c.in_ok-end.end.mark at.Page is front mark) rest selectors c.in_ok-page-in-Page.ensures.block.1 here

pub returns-in_ok-skip_block-in-Other-clause-goes : goal.returns-in_ok-skip_block-in-Other-clause-goes
returns-in_ok-skip_block-in-Other-clause-goes c = λ here.
    let ts = tokens_of c.args.tokens.now.rest.now in
    let front = c.in_ok-end.ensures.found ∙ ap (λ s. front_from s [] ts) c.at_stop.ensures in
    let mark = c.in_ok-end.ensures.end ∙ ap (λ s. first_mark (after_from s [] ts)) c.at_stop.ensures in
    let rest = c.in_ok-end.ensures.rest ∙ ap (λ s. rest_of (after_from s [] ts)) c.at_stop.ensures in
    let is = sym c.in-Other.is ∙ c.at_kind.ensures ∙ ap (λ (z : List CssToken). kind_of_at c.args.inside (item_in c.args.token.now) (items_in z) c.in_ok-end.end.mark) c.deref.ensures.value in
    at_other c.args.inside c.stays.result (item_in c.args.token.now) ts (tokens_of c.take_until.new.tokens.rest.now) (tokens_of c.skip_block.new.tokens.rest.now) c.in_ok-end.end.mark (kind_is c.args.inside (item_in c.args.token.now) ts _ c.in_ok-end.end.mark at.Other is front mark) mark rest c.in_ok-skip_block-in-Other.ensures.rest c.stays.ensures here
