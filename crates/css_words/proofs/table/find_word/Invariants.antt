use Rattle.std.proofs.Common.{◌≡◌, drop, map}
use Rattle.css_words.specs.Table.{find_word}
use Rattle.css_words.proofs.table.find_word.Given as goal

abbrev pub invariant-loop-name : goal.invariant-loop-name
invariant-loop-name g l = find_word (map (λ r. (r.0.now, r.1)) l.rows) l.word ≡ find_word (map (λ r. (r.0.now, r.1)) (drop l.name-index l.rows)) l.word
