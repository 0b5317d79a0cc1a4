use Rattle.std.proofs.Common.{◌≡◌, ◌<◌, ◌++◌, ℕ, cond, List, Option, Some, None, length, take, drop, get_or, subst, sym, ap, ◌∙◌, arith, take_all}
use Rattle.std.specs.Option.{option_or}
use Rattle.std.proofs.lemmas.Grind.{common_steps}
use Rattle.boxes.specs.declared.page.Page.{Page}
use Rattle.page_seq.specs.Noted.{has_note}
use Rattle.page_seq.specs.Places.{first_place}
use Rattle.refs.specs.Kept.{begins_of}
use Rattle.refs.proofs.BeginLemmas.{all_begin, begins_more}
use Rattle.refs.proofs.begins.begins_of.Goals as goal

pub loop-number-preserved : goal.loop-number-preserved
loop-number-preserved c =
    let i = c.loop-number.number in
    let value : c.deref_mut.result.now ≡ c.loop-number.begins.items = c.deref_mut.ensures.value in
    let size : length c.notes_on.new.begins ≡ c.args.count = grind (arith, common_steps) in
    let now : take c.loop-number.begins.len (c.notes_on.new.begins ++ drop (length c.notes_on.new.begins) c.loop-number.begins.items) ≡ c.notes_on.new.begins = grind (arith, common_steps) in
    rw now (record {
      size = size;
      are = λ n d h. begins_more n (get_or c.loop-number.begins.items n d) (get_or c.notes_on.new.begins n d) c.as_slice-pages.result.now i c.index-pages-number.result c.loop-number-test.true c.index-pages-number.is (c.loop-number.invariant.are n d h) (subst (λ (bs : List (Option ℕ)). get_or c.notes_on.new.begins n d ≡ option_or (get_or bs n d) (cond (has_note n c.index-pages-number.result) (Some i) None)) value (c.notes_on.ensures n d (subst (λ (bs : List (Option ℕ)). n < length bs) (sym value) (omega (arith, c.loop-number.invariant.size)))));
    })

pub returns : goal.returns
returns c =
    let pages : List Page = c.as_slice-pages.result.now in
    let all : take c.loop-number.number pages ≡ pages = take_all c.loop-number.number pages c.loop-number-test.false in
    all_begin pages c.args.count c.loop-number.begins.items c.loop-number.invariant.size (λ n d h. c.loop-number.invariant.are n d h ∙ ap (λ (ps : List Page). first_place (has_note n) ps) all)
    ∙ ap (λ (ps : List Page). begins_of ps c.args.count) c.as_slice-pages.ensures
