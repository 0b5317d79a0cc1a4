use Rattle.std.proofs.Common.{◌≡◌, ◌∙◌, ◌+◌, ◌-◌, ◌++◌, ℕ, Bool, true, false, ◌&&◌, leb, List, length, get_or, map, ap, sym, subst, arith}
use Rattle.std.specs.Prelude.{slice_get}
use Rattle.std.specs.List.{All}
use Rattle.std.specs.Str.{IsCharBoundary}
use Rattle.std.proofs.lemmas.List.Elements.{All-append}
use Rattle.hyphen.specs.Meaning.{value_in}
use Rattle.soft_hyphens.specs.Known.{word_points}
use Rattle.soft_hyphens.specs.Pass.{offsets_before}
use Rattle.soft_hyphens.specs.Walk.{IsOver, counts_by, word_text}
use Rattle.soft_hyphens.specs.Words.{codes_of, is_of_word, is_put, is_soft, points_with}
use Rattle.soft_hyphens.specs.declared.letter.Letter.{Letter}
use Rattle.soft_hyphens.specs.declared.walk.Walk.{Walk}
use Rattle.soft_hyphens.proofs.OffsetLemmas.{points-stand}
use Rattle.soft_hyphens.proofs.PutLemmas.{on-ok-more}
use Rattle.soft_hyphens.proofs.WalkLemmas.{ends-with, ends-without, few-word}
use Rattle.soft_hyphens.proofs.walk.end_word.Goals as goal

pub returns-then-not-may_have_points-clause-offsets : goal.returns-then-not-may_have_points-clause-offsets
returns-then-not-may_have_points-clause-offsets c = λ ls o is stop.
    let none : (leb 5 (c.args.walk.place - c.args.walk.first) && counts_by c.args.walk c.args.before_soft) ≡ false = sym c.may_have_points.ensures ∙ c.if-not-may_have_points.true in
    ends-without (value_in c.args.hyphenator.now) ls c.args.text.now c.args.walk c.args.before_soft c.args.offsets.now.items none o is stop

pub push_word-requires-clause-few : goal.push_word-requires-clause-few
push_word-requires-clause-few c =
    let may : (leb 5 (c.args.walk.place - c.args.walk.first) && counts_by c.args.walk c.args.before_soft) ≡ true = sym c.may_have_points.ensures ∙ c.if-not-may_have_points.false in
    omega (arith, few-word c.args.text.now c.args.walk c.args.before_soft c.args.offsets.now.items c.utf8.text c.requires may, ap (λ (l : List ℕ). length l) c.range-word.ensures.value)

pub returns-clause-offsets : goal.returns-clause-offsets
returns-clause-offsets c =
    let value : List ℕ → ℕ → ℕ = value_in c.args.hyphenator.now in
    let text : List ℕ = c.args.text.now in
    let w : Walk = c.args.walk in
    let soft : Bool = c.args.before_soft in
    let old : List ℕ = c.args.offsets.now.items in
    let new : List ℕ = c.push_word.new.offsets.items in
    let points : List ℕ → List ℕ = λ (word : List ℕ). old ++ map (λ (p : ℕ). w.from + p) (word_points value word) in
    let may : (leb 5 (w.place - w.first) && counts_by w soft) ≡ true = sym c.may_have_points.ensures ∙ c.if-not-may_have_points.false in
    on-ok-more c.push_word.result (new ≡ points c.range-word.result.now)
    ((ls : List Letter) → IsOver (points_with value) ls text w old → is_soft (slice_get ls w.place) ≡ soft → is_of_word (get_or (codes_of ls) w.place 0) ≡ false → new ≡ offsets_before (is_put (points_with value) ls) (codes_of ls) (w.place + 1))
    (λ now. λ ls o is stop. now ∙ ap points c.range-word.ensures.value ∙ ends-with value ls text w soft old may o is stop)
    c.push_word.ensures

pub returns-clause-stand : goal.returns-clause-stand
returns-clause-stand c =
    let text : List ℕ = c.args.text.now in
    let from : ℕ = c.args.walk.from in
    let points : List ℕ → List ℕ = λ (word : List ℕ). map (λ (p : ℕ). from + p) (word_points (value_in c.args.hyphenator.now) word) in
    let word : All (IsCharBoundary text) (points (word_text text c.args.walk)) = points-stand (value_in c.args.hyphenator.now) text from c.args.walk.at c.utf8.text c.requires.order c.requires.from c.requires.at in
    on-ok-more c.push_word.result _ _
    (λ now. subst (All (IsCharBoundary text)) (sym (now ∙ ap (λ (word : List ℕ). c.args.offsets.now.items ++ points word) c.range-word.ensures.value))
    (All-append (IsCharBoundary text) c.args.offsets.now.items (points (word_text text c.args.walk)) c.requires.stand word))
    c.push_word.ensures
