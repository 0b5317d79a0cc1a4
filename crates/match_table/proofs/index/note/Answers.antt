use Rattle.std.proofs.Common.{◌≡◌, ◌∙◌, map, position, [], sym, subst, refl, ◌<◌, ◌≤◌}
use Rattle.std.specs.Prelude.{Some}
use Rattle.std.specs.Str.{bytes_eq}
use Rattle.std.proofs.lemmas.List.{length-map}
use Rattle.match_table.specs.Index.{IsNoted}
use Rattle.match_table.proofs.IndexLemmas.{noted-none, noted-more, keeps-same, keeps-both, taken-all, get-mapped}
use Rattle.match_table.proofs.index.note.Goals as goal

pub loop-word-init : goal.loop-word-init
loop-word-init c = record {
  noted = noted-none c.args.words.now c.args.lists.now.items c.args.node;
  keeps = keeps-same c.args.lists.now.items;
  count = refl;
}

pub loop-word-preserved : goal.loop-word-preserved
loop-word-preserved c = record {
  noted = noted-more c.args.words.now c.loop-word.lists.items c.note_word.new.lists.items (map (λ w. w.now) c.args.found.now) c.loop-word.word-index c.args.node
      (subst (λ n. c.loop-word.word-index < n) (sym (length-map c.args.found.now (λ w. w.now))) c.loop-word-test.true)
      c.loop-word.invariant.noted c.in_ok-note_word.ensures.keeps
      (λ j at. c.in_ok-note_word.ensures.noted j (subst (λ z. position (bytes_eq z) c.args.words.now ≡ Some j) (get-mapped (λ w. w.now) c.args.found.now c.loop-word.word-index _ [] c.loop-word-test.true) at));
  keeps = keeps-both c.args.lists.now.items c.loop-word.lists.items c.note_word.new.lists.items c.loop-word.invariant.keeps c.in_ok-note_word.ensures.keeps;
  count = c.in_ok-note_word.ensures.count ∙ c.loop-word.invariant.count;
}

pub returns : goal.returns
returns c = record {
  noted = subst (λ z. IsNoted c.args.words.now c.loop-word.lists.items z c.args.node) (taken-all c.loop-word.word-index (map (λ w. w.now) c.args.found.now) (subst (λ n. n ≤ c.loop-word.word-index) (sym (length-map c.args.found.now (λ w. w.now))) c.loop-word-test.false)) c.loop-word.invariant.noted;
  keeps = c.loop-word.invariant.keeps;
  count = c.loop-word.invariant.count;
}
