use Rattle.std.proofs.Common.{take}
use Rattle.match_table.specs.Index.{HaveWords, KeepsWords}
use Rattle.match_table.proofs.index.add_tests.Given as goal

abbrev pub invariant-loop-test : goal.invariant-loop-test
invariant-loop-test l = HaveWords l.words (take l.test-index l.tests) × KeepsWords l.fn.words l.words
