use Rattle.std.proofs.Common.{◌≡◌, ◌++◌, ◌∷◌, [], ℤ, true, not, ap, ◌∙◌, refl, arith, rules, to_z, of_z}
use Rattle.std.proofs.lemmas.Int.{to_z-of_z}
use mir.Val.{SFits}
use mir.Syntax.{w64}
use Rattle.std.specs.Result.{is_ok}
use Rattle.fragment.proofs.PlaceLemmas.{by_most}
use Rattle.fragment.proofs.ReadLemmas.{read_more}
use Rattle.fragment.proofs.page_notes.PageNotes.take.Goals as goal

pub call-requires-clause-within : goal.call-requires-clause-within
call-requires-clause-within g c =
    let most = by_most c.args.flow.now.main c.args.flow.now.notes c.args.end in
    let is = c.called_with-to.ensures in
    omega arith

pub returns-clause-read : goal.returns-clause-read
returns-clause-read g c at carried ends r =
    let ok : is_ok c.push.result ≡ true = c.is_err.ensures.negation ∙ ap not c.if-is_err.false in
    let fits : SFits w64 c.needed.result = search rules in
    let area : ℤ = to_z w64 (of_z w64 c.needed.result) in
    let added : c.push.new.self.items ≡ c.args.self.now.areas.items ++ area ∷ [] = c.push.ensures.items ∙ rw ok refl in
    let pushed : c.push.new.self.items ≡ c.args.self.now.areas.items ++ c.needed.result ∷ [] = added ∙ ap (λ (z : ℤ). c.args.self.now.areas.items ++ z ∷ []) (to_z-of_z w64 c.needed.result fits) in
    read_more c.args.faces.now c.args.flow.now c.args.frame at carried ends c.args.end c.args.self.now _ c.needed.result r c.requires.called c.called_with-to.ensures c.in_ok-call.ensures.own c.in_ok-call.ensures.list pushed c.needed.ensures.small
    (λ list is. c.needed.ensures.told c.args.frame.height list is) c.in_ok-call.ensures.ready c.in_ok-call.ensures.ends
