use Rattle.std.proofs.Common.{◌≡◌, ◌∙◌, ◌≤◌, ap, arith, pos, rules, find, to_z, of_z, w16}
use Rattle.std.proofs.lemmas.Int.{ints}
use Rattle.std.specs.Option.{option_map_or}
use Rattle.std.specs.Prelude.{Option}
use Rattle.metrics.specs.declared.pair.KernPair.{KernPair}
use Rattle.metrics.specs.Face.{is_pair_of}
use Rattle.metrics.proofs.BeginLemmas.{begins_rise, between_rises, find_between}
use Rattle.metrics.proofs.pairs.change_between.Goals as goal

pub slice_bounds-change_of-count : goal.slice_bounds-change_of-count
slice_bounds-change_of-count c = begins_rise c.args.pairs.now c.args.first c.args.from c.args.to c.requires.from c.requires.to

pub slice_bounds-change_of-start : goal.slice_bounds-change_of-start
slice_bounds-change_of-start c =
    let rise : c.args.from ≤ c.args.to = begins_rise c.args.pairs.now c.args.first c.args.from c.args.to c.requires.from c.requires.to in
    search rules

pub change_of-requires : goal.change_of-requires
change_of-requires c = between_rises c.args.pairs.now c.args.from c.args.to c.requires.rising c.requires.to.within

pub returns : goal.returns
returns c =
    let same : c.change_of.result ≡ option_map_or (λ (p : KernPair). p.change) (find (is_pair_of c.args.first c.args.second) c.args.pairs.now) (pos 0) = c.change_of.ensures ∙ ap (λ (o : Option KernPair). option_map_or (λ (p : KernPair). p.change) o (pos 0)) (find_between c.args.pairs.now c.args.first c.args.from c.args.to c.requires.from c.requires.to c.args.second) in
    let fits : to_z w16 (of_z w16 c.change_of.result) ≡ c.change_of.result = omega (arith, ints) in
    fits ∙ same
