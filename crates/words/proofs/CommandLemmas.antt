-- What a parse by `format` or `sample` gives each argument.
use Rattle.std.proofs.Common.{zero, suc, ◌≡◌, ◌<◌, ◌≤◌, codes, ℕ, true, false, List, [], length, is_some, Option, Some, Err, refl, sym, arith}
use Rattle.std.specs.List.{slice_index_or}
use Rattle.std.specs.Str.{bytes_eq}
use Rattle.std.specs.Prelude.{pos}
use Rattle.clap.specs.Words.{App, Rule, Text, fault_of, first_value, found_of, is_simple_and_free, one_text, rows_of, without_minus}
use Rattle.clap.specs.Facts.{args_of}
use Rattle.clap.specs.declared.builder.arg.Arg.{Arg}
use Rattle.clap.specs.declared.builder.value_parser.ValueParser.TheVariants as parser
use Rattle.clap.specs.declared.parser.matches.ArgMatches.{ArgMatches}
use Rattle.clap.specs.Words.{IsSignedIn}
use Rattle.clap.proofs.OnLiterals.{clap_on_literals}
use Rattle.words.specs.Grammar.{chapters_rule, columns_rule, format_app, gap_rule, name_rule, passes_rule, sample_app}
use Rattle.words.specs.Asked.{Answers, Asked, number_in, unless_fault}
use Rattle.words.specs.Parsed.{IsLeaf, IsParseBy, IsRefusal}
use Rattle.words.specs.declared.fault.WordsErr.{WordsErr}
use Rattle.words.specs.declared.fault.WordsErr.TheVariants as err
use Rattle.words.proofs.ArgumentLemmas.{IsPlainCommand, TakesOne, an_arg, arg_count, plain_command, required_given, takes_one}
use Rattle.words.proofs.NumberLemmas.{Reads, default_read, number_read, required_read}

-- what is asked for by words without a fault is what their matches ask for
pub given_answer : (app : App) (words : List Text) (given answer : Asked) → fault_of app words ≡ [] → answer ≡ given
    → answer ≡ unless_fault (fault_of app words) given
given_answer app words given answer faultless same = rw faultless same

-- a refusal is what is asked for by words with a fault
pub refused_answer : (app : App) (words : List Text) (given : Asked) (e : WordsErr) → IsRefusal (fault_of app words) e
    → Answers (unless_fault (fault_of app words) given) (Err e)
refused_answer app words given (err.Fault f) refusal = sym (refusal given)
refused_answer app words given err.NoMemory refusal = tt

pub format_is_simple : is_simple_and_free format_app ≡ true
unfolding format_app clap_on_literals
format_is_simple = refl

pub sample_is_simple : is_simple_and_free sample_app ≡ true
unfolding sample_app clap_on_literals
sample_is_simple = refl

pub format_is_leaf : IsLeaf format_app
unfolding format_app
format_is_leaf = record { leaf = refl; subs = refl }

pub sample_is_leaf : IsLeaf sample_app
unfolding sample_app
sample_is_leaf = record { leaf = refl; subs = refl }

passes_alone : (j : ℕ) (e : Rule) → j < 7 → bytes_eq (slice_index_or format_app.top.rules j e).id (codes "passes") ≡ true → j ≡ 0
unfolding format_app
passes_alone zero e lt h = refl
passes_alone (suc zero) e lt h = let bad : false ≡ true = h in cc
passes_alone (suc (suc zero)) e lt h = let bad : false ≡ true = h in cc
passes_alone (suc (suc (suc zero))) e lt h = let bad : false ≡ true = h in cc
passes_alone (suc (suc (suc (suc zero)))) e lt h = let bad : false ≡ true = h in cc
passes_alone (suc (suc (suc (suc (suc zero))))) e lt h = let bad : false ≡ true = h in cc
passes_alone (suc (suc (suc (suc (suc (suc zero)))))) e lt h = let bad : false ≡ true = h in cc
passes_alone (suc (suc (suc (suc (suc (suc (suc j))))))) e lt h = absurd (omega arith)

columns_alone : (j : ℕ) (e : Rule) → j < 7 → bytes_eq (slice_index_or format_app.top.rules j e).id (codes "columns") ≡ true → j ≡ 1
unfolding format_app
columns_alone zero e lt h = let bad : false ≡ true = h in cc
columns_alone (suc zero) e lt h = refl
columns_alone (suc (suc zero)) e lt h = let bad : false ≡ true = h in cc
columns_alone (suc (suc (suc zero))) e lt h = let bad : false ≡ true = h in cc
columns_alone (suc (suc (suc (suc zero)))) e lt h = let bad : false ≡ true = h in cc
columns_alone (suc (suc (suc (suc (suc zero))))) e lt h = let bad : false ≡ true = h in cc
columns_alone (suc (suc (suc (suc (suc (suc zero)))))) e lt h = let bad : false ≡ true = h in cc
columns_alone (suc (suc (suc (suc (suc (suc (suc j))))))) e lt h = absurd (omega arith)

gap_alone : (j : ℕ) (e : Rule) → j < 7 → bytes_eq (slice_index_or format_app.top.rules j e).id (codes "gap") ≡ true → j ≡ 2
unfolding format_app
gap_alone zero e lt h = let bad : false ≡ true = h in cc
gap_alone (suc zero) e lt h = let bad : false ≡ true = h in cc
gap_alone (suc (suc zero)) e lt h = refl
gap_alone (suc (suc (suc zero))) e lt h = let bad : false ≡ true = h in cc
gap_alone (suc (suc (suc (suc zero)))) e lt h = let bad : false ≡ true = h in cc
gap_alone (suc (suc (suc (suc (suc zero))))) e lt h = let bad : false ≡ true = h in cc
gap_alone (suc (suc (suc (suc (suc (suc zero)))))) e lt h = let bad : false ≡ true = h in cc
gap_alone (suc (suc (suc (suc (suc (suc (suc j))))))) e lt h = absurd (omega arith)

metrics_alone : (j : ℕ) (e : Rule) → j < 7 → bytes_eq (slice_index_or format_app.top.rules j e).id (codes "metrics") ≡ true → j ≡ 4
unfolding format_app
metrics_alone zero e lt h = let bad : false ≡ true = h in cc
metrics_alone (suc zero) e lt h = let bad : false ≡ true = h in cc
metrics_alone (suc (suc zero)) e lt h = let bad : false ≡ true = h in cc
metrics_alone (suc (suc (suc zero))) e lt h = let bad : false ≡ true = h in cc
metrics_alone (suc (suc (suc (suc zero)))) e lt h = refl
metrics_alone (suc (suc (suc (suc (suc zero))))) e lt h = let bad : false ≡ true = h in cc
metrics_alone (suc (suc (suc (suc (suc (suc zero)))))) e lt h = let bad : false ≡ true = h in cc
metrics_alone (suc (suc (suc (suc (suc (suc (suc j))))))) e lt h = absurd (omega arith)

html_alone : (j : ℕ) (e : Rule) → j < 7 → bytes_eq (slice_index_or format_app.top.rules j e).id (codes "html") ≡ true → j ≡ 5
unfolding format_app
html_alone zero e lt h = let bad : false ≡ true = h in cc
html_alone (suc zero) e lt h = let bad : false ≡ true = h in cc
html_alone (suc (suc zero)) e lt h = let bad : false ≡ true = h in cc
html_alone (suc (suc (suc zero))) e lt h = let bad : false ≡ true = h in cc
html_alone (suc (suc (suc (suc zero)))) e lt h = let bad : false ≡ true = h in cc
html_alone (suc (suc (suc (suc (suc zero))))) e lt h = refl
html_alone (suc (suc (suc (suc (suc (suc zero)))))) e lt h = let bad : false ≡ true = h in cc
html_alone (suc (suc (suc (suc (suc (suc (suc j))))))) e lt h = absurd (omega arith)

chapters_alone : (j : ℕ) (e : Rule) → j < 1 → bytes_eq (slice_index_or sample_app.top.rules j e).id (codes "n") ≡ true → j ≡ 0
chapters_alone zero e lt h = refl
chapters_alone (suc j) e lt h = absurd (omega arith)

module _ (m : ArgMatches) (by : IsParseBy format_app m) where
  format_plain : IsPlainCommand by.command
  unfolding format_app
  format_plain = plain_command by.command format_app by.shape refl refl refl

  format_args : length (args_of by.command) ≡ 7
  unfolding format_app
  format_args = arg_count by.command format_app by.shape

  format_arg : Arg
  format_arg =
      let count = format_args in
      an_arg (args_of by.command) (omega arith)

  takes_passes : TakesOne by.command 0 format_arg passes_rule
  unfolding format_app
  takes_passes = takes_one by.command format_app by.shape 0 format_arg passes_rule (omega arith) refl refl refl refl refl refl refl passes_alone

  takes_metrics : TakesOne by.command 4 format_arg (name_rule (codes "metrics"))
  unfolding format_app
  takes_metrics = takes_one by.command format_app by.shape 4 format_arg (name_rule (codes "metrics")) (omega arith) refl refl refl refl refl refl refl metrics_alone

  takes_html : TakesOne by.command 5 format_arg (name_rule (codes "html"))
  unfolding format_app
  takes_html = takes_one by.command format_app by.shape 5 format_arg (name_rule (codes "html")) (omega arith) refl refl refl refl refl refl refl html_alone

  pub metrics_given : is_some (first_value (found_of m) (codes "metrics")) ≡ true
  metrics_given = required_given by.command 4 format_arg (name_rule (codes "metrics")) takes_metrics m by.parsed format_plain refl

  pub html_given : is_some (first_value (found_of m) (codes "html")) ≡ true
  html_given = required_given by.command 5 format_arg (name_rule (codes "html")) takes_html m by.parsed format_plain refl

  passes_given : (t : Text) × (one_text (found_of m) (codes "passes") ≡ Some (without_minus t)) × IsSignedIn (pos 1) (pos 64) t
  passes_given = default_read by.command 0 format_arg passes_rule takes_passes m by.parsed format_plain (parser.Signed (pos 1) (pos 64)) refl refl (omega arith)

  pub passes_read : (r : Option ℕ) → Reads 8 (found_of m) (codes "passes") r
      → (n : ℕ) × (r ≡ Some n) × (1 ≤ n) × (n ≤ 64) × (n ≡ number_in (rows_of (found_of m)) (codes "passes"))
  passes_read r reads = number_read 8 1 64 (found_of m) (codes "passes") r passes_given.0 passes_given.1 reads (omega arith) passes_given.2

  takes_columns : TakesOne by.command 1 format_arg columns_rule
  unfolding format_app
  takes_columns = takes_one by.command format_app by.shape 1 format_arg columns_rule (omega arith) refl refl refl refl refl refl refl columns_alone

  columns_given : (t : Text) × (one_text (found_of m) (codes "columns") ≡ Some (without_minus t)) × IsSignedIn (pos 1) (pos 8) t
  columns_given = default_read by.command 1 format_arg columns_rule takes_columns m by.parsed format_plain (parser.Signed (pos 1) (pos 8)) refl refl (omega arith)

  pub columns_read : (r : Option ℕ) → Reads 8 (found_of m) (codes "columns") r
      → (n : ℕ) × (r ≡ Some n) × (1 ≤ n) × (n ≤ 8) × (n ≡ number_in (rows_of (found_of m)) (codes "columns"))
  columns_read r reads = number_read 8 1 8 (found_of m) (codes "columns") r columns_given.0 columns_given.1 reads (omega arith) columns_given.2

  takes_gap : TakesOne by.command 2 format_arg gap_rule
  unfolding format_app
  takes_gap = takes_one by.command format_app by.shape 2 format_arg gap_rule (omega arith) refl refl refl refl refl refl refl gap_alone

  gap_given : (t : Text) × (one_text (found_of m) (codes "gap") ≡ Some (without_minus t)) × IsSignedIn (pos 0) (pos 1000) t
  gap_given = default_read by.command 2 format_arg gap_rule takes_gap m by.parsed format_plain (parser.Signed (pos 0) (pos 1000)) refl refl (omega arith)

  pub gap_read : (r : Option ℕ) → Reads 16 (found_of m) (codes "gap") r
      → (n : ℕ) × (r ≡ Some n) × (0 ≤ n) × (n ≤ 1000) × (n ≡ number_in (rows_of (found_of m)) (codes "gap"))
  gap_read r reads = number_read 16 0 1000 (found_of m) (codes "gap") r gap_given.0 gap_given.1 reads (omega arith) gap_given.2

module _ (m : ArgMatches) (by : IsParseBy sample_app m) where
  sample_plain : IsPlainCommand by.command
  unfolding sample_app
  sample_plain = plain_command by.command sample_app by.shape refl refl refl

  sample_args : length (args_of by.command) ≡ 1
  unfolding sample_app
  sample_args = arg_count by.command sample_app by.shape

  sample_arg : Arg
  sample_arg =
      let count = sample_args in
      an_arg (args_of by.command) (omega arith)

  takes_chapters : TakesOne by.command 0 sample_arg chapters_rule
  unfolding sample_app
  takes_chapters = takes_one by.command sample_app by.shape 0 sample_arg chapters_rule (omega arith) refl refl refl refl refl refl refl chapters_alone

  chapters_given : (t : Text) × (one_text (found_of m) (codes "n") ≡ Some (without_minus t)) × IsSignedIn (pos 1) (pos 2000) t
  chapters_given = required_read by.command 0 sample_arg chapters_rule takes_chapters m by.parsed sample_plain (parser.Signed (pos 1) (pos 2000)) refl refl refl

  pub chapters_read : (r : Option ℕ) → Reads 32 (found_of m) (codes "n") r
      → (n : ℕ) × (r ≡ Some n) × (1 ≤ n) × (n ≤ 2000) × (n ≡ number_in (rows_of (found_of m)) (codes "n"))
  chapters_read r reads = number_read 32 1 2000 (found_of m) (codes "n") r chapters_given.0 chapters_given.1 reads (omega arith) chapters_given.2
