use Rattle.std.proofs.Common.{◌∙◌, ◌+◌, ◌++◌, ℕ, List, sym, ap, append-nil, string_bytes}
use Rattle.sample.specs.Html.{chapter, chapter_of}
use Rattle.sample.specs.Words.{words_end}
use Rattle.sample.proofs.Appended.{appended}
use Rattle.sample.proofs.ChapterLemmas.{chapter-end, chapter_of-next}
use Rattle.sample.proofs.Repeats.{flat-one-more}
use Rattle.sample.proofs.WordLemmas.{words_end-none}
use Rattle.sample.proofs.book.push_chapters.Goals as goal

pub loop-before-init : goal.loop-before-init
loop-before-init c = record {
  text = sym (append-nil _);
  state = c.new-draws.ensures ∙ sym (words_end-none c.args.chapters);
}

pub loop-before-preserved : goal.loop-before-preserved
loop-before-preserved c =
    let n = c.args.chapters in
    let before = c.loop-before.before in
    let next : List ℕ → List ℕ = λ z. string_bytes c.loop-before.out ++ z in
    record {
      text = appended _ _ _ _ _ c.loop-before.invariant.text
          (c.in_ok-push_chapter.ensures.text ∙ ap (λ (y : ℕ). next (chapter (before + 1) y)) c.loop-before.invariant.state ∙ ap next (sym (chapter_of-next n before)))
          ∙ ap (λ (z : List ℕ). string_bytes c.args.out.now ++ z) (sym (flat-one-more (chapter_of n) before));
      state = c.in_ok-push_chapter.ensures.state ∙ ap (words_end 212) c.loop-before.invariant.state ∙ chapter-end n before;
    }
