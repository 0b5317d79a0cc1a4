use Rattle.std.proofs.Common.{◌≡◌, ℕ, List, Option, Some, None, length, slice_get, unwrap_or, ap, ◌∙◌}
use Rattle.std.proofs.lemmas.Option.{slice_get_within}
use Rattle.page_seq.specs.Noted.{begins_on}
use Rattle.page_seq.specs.Places.{anchor_of, page_of}
use Rattle.refs.proofs.BeginLemmas.{begin_at}
use Rattle.refs.proofs.numbers.PageNumbers.page_of_note.Goals as goal

pub returns-in-Some : goal.returns-in-Some
returns-in-Some c = λ pages known.
    let at = begin_at pages (length c.args.flow.now.notes) c.args.number c.args.self.now.notes.items known.notes (slice_get_within c.args.flow.now.notes c.args.number c.args.note.now c.requires) in
    let found : Some c.in-Some.page ≡ begins_on pages c.args.number = c.in-Some.ensures ∙ (ap (λ (bs : List (Option ℕ)). unwrap_or (slice_get bs c.args.number) None) c.as_slice.ensures.value ∙ ap (λ (o : Option (Option ℕ)). unwrap_or o None) at) in
    ap (λ (o : Option ℕ). unwrap_or o (page_of c.args.flow.now.main pages c.args.note.now.call)) found

pub returns-in-None : goal.returns-in-None
returns-in-None c = λ pages known.
    let at = begin_at pages (length c.args.flow.now.notes) c.args.number c.args.self.now.notes.items known.notes (slice_get_within c.args.flow.now.notes c.args.number c.args.note.now c.requires) in
    let found : None ≡ begins_on pages c.args.number = c.in-None.ensures ∙ (ap (λ (bs : List (Option ℕ)). unwrap_or (slice_get bs c.args.number) None) c.as_slice.ensures.value ∙ ap (λ (o : Option (Option ℕ)). unwrap_or o None) at) in
    c.page_of.ensures ∙ (known.finder (anchor_of c.args.flow.now.main c.args.note.now.call) ∙ ap (λ (o : Option ℕ). unwrap_or o (page_of c.args.flow.now.main pages c.args.note.now.call)) found)
