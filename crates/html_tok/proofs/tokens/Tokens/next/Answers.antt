use Rattle.std.proofs.Common.{◌≡◌, ℕ, ◌<◌, ◌+◌, length, take, drop, arith, sym, ◌∙◌, refl, List, ◌∷◌, Option}
use Rattle.std.proofs.lemmas.Bool.Decides.{nat_tests}
use Rattle.html_tok.specs.Pieces.{Piece, KindView, piece_at, raw_after}
use Rattle.html_tok.specs.Fields.{awaited_in}
use Rattle.html_tok.specs.Listed.{view_at, tokens_after, kind_of}
use Rattle.html_tok.proofs.ListLemmas.{tokens-step, tokens-none}
use Rattle.html_tok.proofs.tokens.Tokens.next.Goals as goal

pub returns-then-is_empty-clause-none : goal.returns-then-is_empty-clause-none
returns-then-is_empty-clause-none c =
    let empty : length c.self.inside.rest.now ≡ 0 = grind (arith, nat_tests) in
    let none = sym c.self.view_is ∙ tokens-none c.self.inside.at (awaited_in c.self.inside.raw) c.self.inside.rest.now empty in
    (none, none)

-- what is seen of a token and of the tokens after it
read : (at : ℕ) (p : Piece) (bs slice rest : List ℕ) (kind : KindView) (len : ℕ) (awaited : Option (List ℕ)) → kind ≡ p.kind → len ≡ p.len → slice ≡ take len bs → rest ≡ drop len bs → awaited ≡ raw_after kind → view_at at bs p ∷ tokens_after 0 (at + p.len) (raw_after p.kind) (drop p.len bs) ≡ (record { at = at; slice = slice; kind = kind }) ∷ tokens_after 0 (at + len) awaited rest
read at p bs slice rest kind len awaited k l s r a = rw (s, r, a, k, l) refl

pub returns-clause-some : goal.returns-clause-some
returns-clause-some c =
    let some : 0 < length c.self.inside.rest.now = grind (arith, nat_tests) in
    sym c.self.view_is ∙ tokens-step c.self.inside.at (awaited_in c.self.inside.raw) c.self.inside.rest.now some
    ∙ read c.self.inside.at (piece_at (awaited_in c.self.inside.raw) c.self.inside.rest.now) c.self.inside.rest.now c.split_at.result.0.now c.split_at.result.1.now (kind_of c.piece-len.result.0) c.piece-len.result.1 (awaited_in c.raw_text_after-self-inside.result) c.piece-len.ensures.kind c.piece-len.ensures.len c.split_at.ensures.front c.split_at.ensures.back c.raw_text_after-self-inside.ensures
