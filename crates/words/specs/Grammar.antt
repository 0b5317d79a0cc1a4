-- The command lines of `format` and `sample`, as `clap` reads them: each the words after the command's name.
use Rattle.std.specs.Prelude.{ℕ, ◌-◌, ◌^◌, List, [], ◌∷◌, Some, codes, pos, true}
use Rattle.clap.specs.Words.{App, Rule, new_app, new_rule, with_rule}
use Rattle.clap.specs.declared.builder.ArgAction.TheVariants.{Set, Append}
use Rattle.clap.specs.declared.builder.value_parser.ValueParser.TheVariants as parser

-- the most passes that may be asked for
abbrev pub most_passes : ℕ
most_passes = 64

-- how many passes may be made where none are asked for, as a word
abbrev pub default_passes : List ℕ
default_passes = codes "8"

-- the most columns of a page
abbrev pub most_columns : ℕ
most_columns = 8

-- how many columns a page has where none are asked for, as a word
abbrev pub default_columns : List ℕ
default_columns = codes "1"

-- the widest gap between columns, in px
abbrev pub widest_gap : ℕ
widest_gap = 1000

-- the gap where none is asked for, as a word
abbrev pub default_gap : List ℕ
default_gap = codes "16"

-- the most chapters of a sample
abbrev pub most_chapters : ℕ
most_chapters = 2000

-- an option that takes one whole number in a range, and has a default
abbrev pub option_rule : List ℕ → List ℕ → ℕ → ℕ → Rule
option_rule id default least most = record (new_rule id) {
  long = Some id;
  action = Some Set;
  defaults = default ∷ [];
  parser = Some (parser.Signed (pos least) (pos most));
}

-- `--passes`, from 1 to 64
abbrev pub passes_rule : Rule
passes_rule = option_rule (codes "passes") default_passes 1 most_passes

-- `--columns`, from 1 to 8
abbrev pub columns_rule : Rule
columns_rule = option_rule (codes "columns") default_columns 1 most_columns

-- `--gap`, whole px from 0 to 1,000
abbrev pub gap_rule : Rule
gap_rule = option_rule (codes "gap") default_gap 0 widest_gap

-- `--patterns`, the name of a file
abbrev pub patterns_rule : Rule
patterns_rule = record (new_rule (codes "patterns")) { long = Some (codes "patterns"); action = Some Set }

-- a name that has to be given at its place
abbrev pub name_rule : List ℕ → Rule
name_rule id = record (new_rule id) { action = Some Set; required = true }

-- any number of names, from their place on
abbrev pub names_rule : List ℕ → Rule
names_rule id = record (new_rule id) {
  action = Some Append;
  range = Some (record { start_inclusive = 0; end_inclusive = 2 ^ 64 - 1 });
}

-- a whole number of chapters from 1 on, which has to be given at its place
abbrev pub chapters_rule : Rule
chapters_rule = record (new_rule (codes "n")) {
  action = Some Set;
  required = true;
  parser = Some (parser.Signed (pos 1) (pos most_chapters));
}

-- a command whose words begin after its name
abbrev pub without_name : App → App
without_name app = record app { top = record app.top { no_binary_name = true } }

-- the options of `format`
abbrev pub format_options : App
format_options =
    with_rule
    (with_rule (with_rule (with_rule (without_name (new_app (codes "format"))) passes_rule) columns_rule) gap_rule)
    patterns_rule

-- `format [--passes N] [--columns N] [--gap PX] [--patterns FILE] METRICS HTML [CSS ...]`
unfoldable pub format_app : App
format_app = with_rule (with_rule (with_rule format_options (name_rule (codes "metrics"))) (name_rule (codes "html")))
    (names_rule (codes "css"))

-- `sample N`
unfoldable pub sample_app : App
sample_app = with_rule (without_name (new_app (codes "sample"))) chapters_rule
