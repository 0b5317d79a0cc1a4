-- The flows of the examples.
use Rattle.std.proofs.Common.{refl}
use Rattle.std.specs.Char.{encode_utf8}
use Rattle.std.specs.Str.{chars}
use Rattle.soft_hyphens.specs.Hyphenated.{hyphenated}
use Rattle.soft_hyphens.specs.Words.{counts, is_of_word, is_put, run_len, word_begin, word_end}
use Rattle.box_gen.specs.Leaves.{leaf_by}
use Rattle.box_gen.specs.Runs.{text_of, spans_of, starts_of}
use Rattle.box_gen.specs.Examples.{PartsText, Collapses, Hyphenates}

pub parts_text : PartsText
unfolding chars encode_utf8 hyphenated text_of spans_of starts_of leaf_by
parts_text = record { texts = refl; events = refl; nodes = refl }

pub collapses : Collapses
unfolding chars encode_utf8 hyphenated text_of spans_of starts_of leaf_by
collapses = record { normal = refl; kept = refl; starts = refl }

pub hyphenates : Hyphenates
unfolding chars encode_utf8 hyphenated text_of spans_of starts_of leaf_by counts is_of_word is_put run_len word_begin word_end
hyphenates = record { texts = refl; starts = refl; spans = refl }
