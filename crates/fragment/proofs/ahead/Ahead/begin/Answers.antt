use Rattle.std.proofs.Common.{FitsSigned, ◌∙◌, arith}
use Rattle.std.specs.Int.{w64}
use Rattle.std.proofs.lemmas.Int.{to_z-of_z}
use Rattle.std.proofs.lemmas.Option.{slice_get_within}
use Rattle.fragment.proofs.AheadLemmas.{page_begun, page_forgot}
use Rattle.fragment.proofs.ahead.Ahead.begin.Goals as goal

pub returns-then-self-len : goal.returns-then-self-len
returns-then-self-len c faces t kept is =
    let wide : FitsSigned w64 c.args.width = c.ranges.width in
    let b = c.begins.ensures c.if-not-begins.false in
    page_begun faces t c.args.width kept c.args.at c.args.self.now b.0 is b.1 b.2 (b.3 ∙ to_z-of_z w64 c.args.width wide)

pub forget-requires-clause-within : goal.forget-requires-clause-within
forget-requires-clause-within c =
    let b = c.begins.ensures c.if-not-begins.false in
    let within = slice_get_within c.args.self.now.solids.items c.args.self.now.first b.0 b.1 in
    omega (arith, within)

pub forget-requires-clause-rows : goal.forget-requires-clause-rows
forget-requires-clause-rows c = c.requires

pub returns : goal.returns
returns c faces t kept is =
    let wide : FitsSigned w64 c.args.width = c.ranges.width in
    let b = c.begins.ensures c.if-not-begins.false in
    page_forgot faces t c.args.width kept c.args.at c.args.self.now c.forget.new.self (page_begun faces t c.args.width kept c.args.at c.args.self.now b.0 is b.1 b.2 (b.3 ∙ to_z-of_z w64 c.args.width wide))
    c.forget.ensures.solids c.forget.ensures.rows (c.forget.ensures.joined is.1.joined) c.forget.ensures.width c.forget.ensures.first
