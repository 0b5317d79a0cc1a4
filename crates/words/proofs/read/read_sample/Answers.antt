use Rattle.std.proofs.Common.{◌∙◌, ap, sym, subst, ℕ, List, codes, map, string_bytes, Err}
use Rattle.std.proofs.lemmas.Result.{err_from_is_err_and}
use Rattle.clap.specs.Words.{is_simple_and_free, matches_of}
use Rattle.words.specs.Asked.{asked_sample, number_in, sample}
use Rattle.words.specs.Grammar.{sample_app}
use Rattle.words.specs.Parsed.{IsLeaf, IsParseOf, ParseAnswers}
use Rattle.words.proofs.CommandLemmas.{given_answer, refused_answer, sample_is_leaf, sample_is_simple}
use Rattle.words.proofs.read.read_sample.Goals as goal

pub matches_by-requires-clause-simple : goal.matches_by-requires-clause-simple
matches_by-requires-clause-simple c = ap is_simple_and_free c.in_ok-sample_command.ensures ∙ sample_is_simple

pub matches_by-requires-clause-leaf : goal.matches_by-requires-clause-leaf
matches_by-requires-clause-leaf c = subst IsLeaf (sym c.in_ok-sample_command.ensures) sample_is_leaf

pub returns-in_err-matches-clause-answers : goal.returns-in_err-matches-clause-answers
unfolding asked_sample
returns-in_err-matches-clause-answers c =
    let words : List (List ℕ) = map (λ w. string_bytes w) c.args.words.now in
    let p = err_from_is_err_and c.from_residual-in_err-matches.result c.from_residual-in_err-matches.ensures.1 in
    rw (p.1, p.2) (refused_answer sample_app words (sample (number_in (matches_of sample_app words) (codes "n"))) c.in_err-matches.field-0.0
    (subst (λ a. ParseAnswers a words (Err c.in_err-matches.field-0.0)) c.in_ok-sample_command.ensures c.in_err-matches.ensures))

pub returns-clause-answers : goal.returns-clause-answers
unfolding asked_sample
returns-clause-answers c =
    let words : List (List ℕ) = map (λ w. string_bytes w) c.args.words.now in
    let parse = subst (λ a. IsParseOf a words c.in_ok-matches.matches) c.in_ok-sample_command.ensures c.in_ok-matches.ensures in
    given_answer sample_app words (sample (number_in (matches_of sample_app words) (codes "n"))) _ parse.faultless
    (ap sample (c.chapters_in-chapters.ensures.chapters ∙ ap (λ rows. number_in rows (codes "n")) parse.rows))
