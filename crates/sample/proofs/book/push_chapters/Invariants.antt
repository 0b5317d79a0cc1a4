use Rattle.std.proofs.Common.{◌≡◌, ◌*◌, ◌++◌, string_bytes}
use Rattle.std.specs.List.{flat_map, range_with_len}
use Rattle.sample.specs.Html.{chapter_of}
use Rattle.sample.specs.Words.{words_end}
use Rattle.sample.proofs.book.push_chapters.Given as goal

abbrev pub invariant-loop-before : goal.invariant-loop-before
invariant-loop-before l = record {
  text : string_bytes l.out ≡ string_bytes l.fn.out ++ flat_map (chapter_of l.chapters) (range_with_len 1 l.before);
  state : l.draws ≡ words_end (212 * l.before) l.chapters;
}
