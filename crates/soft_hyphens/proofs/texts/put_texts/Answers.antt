use Rattle.std.proofs.Common.{◌≡◌, ◌∙◌, ◌+◌, ◌∷◌, [], ℕ, leb, List, length, get_or, take, drop, ap, sym, subst, arith}
use Rattle.std.specs.List.{All}
use Rattle.std.specs.Str.{IsCharBoundary}
use Rattle.std.proofs.lemmas.List.{length_push}
use Rattle.std.proofs.lemmas.List.Elements.{All-drop}
use Rattle.std.proofs.lemmas.List.Sums.{prefix_len-le-length}
use Rattle.std.proofs.lemmas.Str.{IsCharBoundary-start}
use Rattle.inline_text.specs.Joined.{Laid}
use Rattle.soft_hyphens.specs.Pass.{softened}
use Rattle.soft_hyphens.proofs.LeftLemmas.{IsLeft, count_at, left-first, left-next, left-none}
use Rattle.soft_hyphens.proofs.SliceLemmas.{BeginAt, IsNext, begin-first, next-is, no-texts}
use Rattle.soft_hyphens.proofs.TextLemmas.{reached-one, laid_after}
use Rattle.soft_hyphens.proofs.texts.put_texts.Goals as goal

pub loop-index-init : goal.loop-index-init
loop-index-init c = record {
  at = IsCharBoundary-start c.args.text.now c.utf8.text;
  rest = c.requires.offsets;
  ends = ap (λ (l : Laid). length l.ends) c.in_ok-made.ensures;
  begin = λ ts t e. begin-first c.args.text.now c.args.ends.now ts t e;
  left = λ here ts t e none all. left-first here ts c.in_ok-made.made c.args.offsets.now c.in_ok-made.ensures none all;
}

pub split_at-requires : goal.split_at-requires
split_at-requires c =
    let bound = prefix_len-le-length (λ (o : ℕ). leb o (get_or c.args.ends.now c.loop-index.index 0)) c.loop-index.rest.now in
    omega (arith, bound, c.count_upto.ensures)

pub loop-index-preserved : goal.loop-index-preserved
loop-index-preserved c =
    let inv = c.loop-index.invariant in
    let text : List ℕ = c.args.text.now in
    let i : ℕ = c.loop-index.index in
    let at : ℕ = c.loop-index.at in
    let made : Laid = c.loop-index.made in
    let old : List ℕ = c.loop-index.rest.now in
    let l : Laid = record { bytes = text; ends = c.args.ends.now } in
    let end : ℕ = get_or c.args.ends.now i 0 in
    let stand : IsCharBoundary text end = c.requires.ends i 0 c.loop-index-test.true in
    let count : c.count_upto.result ≡ count_at l i old = c.count_upto.ensures in
    let front : c.split_at.result.0.now ≡ take (count_at l i old) old = c.split_at.ensures.front ∙ ap (λ (n : ℕ). take n old) count in
    let back : c.split_at.result.1.now ≡ drop (count_at l i old) old = c.split_at.ensures.back ∙ ap (λ (n : ℕ). drop n old) count in
    let put : List ℕ = softened text at c.split_at.result.0.now end in
    let one : c.reach.new.self ≡ laid_after made (put ∷ []) = c.in_ok-reach.ensures ∙ reached-one made c.put_text.new.made put i c.in_ok-put_text.ensures.bytes c.in_ok-put_text.ensures.ends inv.ends in
    let now : c.reach.new.self ≡ laid_after made (softened text at (take (count_at l i old) old) end ∷ []) = one ∙ ap (λ (os : List ℕ). laid_after made (softened text at os end ∷ [])) front in
    let next : (ts : List (List ℕ)) → BeginAt l ts i at → IsNext l ts i at _ = λ ts b. next-is l ts i at b c.loop-index-test.true in
    record {
      at = stand;
      rest = subst (All (IsCharBoundary text)) (sym back) (All-drop (IsCharBoundary text) (count_at l i old) old inv.rest);
      ends = ap (λ (x : Laid). length x.ends) one ∙ length_push made.ends _ ∙ ap (λ (n : ℕ). n + 1) inv.ends;
      begin = λ ts t e. let n = next ts (inv.begin ts t e) in subst (BeginAt l ts (i + 1)) (sym n.end) n.others;
      left = λ here ts t e none all.
          let b : BeginAt l ts i at = inv.begin ts t e in
          subst (IsLeft here ts c.reach.new.self (i + 1) end) (sym back)
          (left-next here ts l made c.reach.new.self i at old c.utf8.text inv.at stand (next ts b) b now (inv.left here ts t e none all));
    }

pub returns : goal.returns
returns c = λ here ts t e none all.
    let inv = c.loop-index.invariant in
    let i : ℕ = c.loop-index.index in
    let no_more : drop i ts ≡ [] = no-texts (record { bytes = c.args.text.now; ends = c.args.ends.now }) ts i c.loop-index.at (inv.begin ts t e) (omega (arith, c.loop-index-test.false)) in
    left-none here ts c.loop-index.made i c.loop-index.at c.loop-index.rest.now no_more (inv.left here ts t e none all)
