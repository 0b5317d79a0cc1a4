use Rattle.std.proofs.Common.{◌≡◌, ◌<◌, Option, Some, None, length, slice_get, get_or, is_some, true, refl, ap, ◌∙◌, arith}
use Rattle.std.proofs.lemmas.Option.{slice_get-get_or}
use Rattle.bk_num.proofs.ListLemmas.{none-is}
use Rattle.boxes.specs.declared.flow.Start.{Start}
use Rattle.refs.proofs.StartLemmas.{absent_stays, known_stays, new_stands}
use Rattle.refs.proofs.starts.start_on.Goals as goal

-- what is told of a place whose value is there, or isn't
there : {X : Type 0} (o : Option X) → is_some o ≡ true → (x : X) × (o ≡ Some x)
there None e = absurd (cc)
there (Some x) e = (x, refl)

pub returns-then-is_none : goal.returns-then-is_none
returns-then-is_none c = λ starts are.
    let within : c.in-Some.place < length c.args.found.now = omega (arith, c.in-Some.ensures.within) in
    let has : slice_get c.args.found.now c.in-Some.place ≡ Some None = slice_get-get_or c.args.found.now c.in-Some.place None within ∙ ap (λ (o : Option Start). Some o) (none-is (get_or c.args.found.now c.in-Some.place None) c.if-is_none.ensures) in
    new_stands c.args.nodes.now starts c.args.found.now c.args.start c.in-Some.place c.in-Some.ensures.place has are

pub returns-else-is_none : goal.returns-else-is_none
returns-else-is_none c = λ starts are.
    let within : c.in-Some.place < length c.args.found.now = omega (arith, c.in-Some.ensures.within) in
    let old = there (get_or c.args.found.now c.in-Some.place None) c.if-is_none.ensures in
    let has : slice_get c.args.found.now c.in-Some.place ≡ Some (Some old.0) = slice_get-get_or c.args.found.now c.in-Some.place None within ∙ ap (λ (o : Option Start). Some o) old.1 in
    known_stays c.args.nodes.now starts c.args.found.now c.args.start old.0 c.in-Some.place c.in-Some.ensures.place has are

pub returns-in_default : goal.returns-in_default
returns-in_default c = λ starts are. absent_stays c.args.nodes.now starts c.args.found.now c.args.start c.in_default.ensures.place are
