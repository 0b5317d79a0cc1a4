use Rattle.std.proofs.Common.{◌++◌, option_map}
use Rattle.computed.specs.Names.{given_names}
use Rattle.computed.proofs.NameLemmas.{then-names}
use Rattle.computed.proofs.WalkLemmas.{then-extends, pseudo-keep}
use Rattle.computed.proofs.walk.generate.Goals as goal

pub returns-in_err-after-clause-names : goal.returns-in_err-after-clause-names
returns-in_err-after-clause-names c = then-extends c.args.names.now c.pseudo_style.new.names c.pseudo_style-2.new.names c.pseudo_style.ensures.names c.pseudo_style-2.ensures.names

pub returns-in_err-call-clause-names : goal.returns-in_err-call-clause-names
returns-in_err-call-clause-names c = then-extends c.args.names.now c.pseudo_style-2.new.names c.pseudo_style-3.new.names (then-extends c.args.names.now c.pseudo_style.new.names c.pseudo_style-2.new.names c.pseudo_style.ensures.names c.pseudo_style-2.ensures.names) c.pseudo_style-3.ensures.names

pub returns-in_err-marker-clause-names : goal.returns-in_err-marker-clause-names
returns-in_err-marker-clause-names c = then-extends c.args.names.now c.pseudo_style-3.new.names c.pseudo_style-4.new.names (then-extends c.args.names.now c.pseudo_style-2.new.names c.pseudo_style-3.new.names (then-extends c.args.names.now c.pseudo_style.new.names c.pseudo_style-2.new.names c.pseudo_style.ensures.names c.pseudo_style-2.ensures.names) c.pseudo_style-3.ensures.names) c.pseudo_style-4.ensures.names

pub returns-clause-styles : goal.returns-clause-styles
returns-clause-styles c =
    let after3 = c.pseudo_style-4.ensures.names in
    let after2 = then-extends c.pseudo_style-2.new.names c.pseudo_style-3.new.names c.pseudo_style-4.new.names c.pseudo_style-3.ensures.names after3 in
    let after1 = then-extends c.pseudo_style.new.names c.pseudo_style-2.new.names c.pseudo_style-4.new.names c.pseudo_style-2.ensures.names after2 in
    record {
      before = pseudo-keep c.pseudo_style.new.names c.pseudo_style-4.new.names after1 c.args.own.now c.args.root.now c.args.shown c.args.winners.now.before (option_map (λ b. b.value) c.in_ok-before.before) (rw (c.as_slice.ensures) at c.in_ok-before.ensures.style);
      after = pseudo-keep c.pseudo_style-2.new.names c.pseudo_style-4.new.names after2 c.args.own.now c.args.root.now c.args.shown c.args.winners.now.after (option_map (λ b. b.value) c.in_ok-after.after) (rw (c.as_slice-2.ensures) at c.in_ok-after.ensures.style);
      call = pseudo-keep c.pseudo_style-3.new.names c.pseudo_style-4.new.names after3 c.args.own.now c.args.root.now c.args.note c.args.winners.now.call (option_map (λ b. b.value) c.in_ok-call.call) (rw (c.as_slice-3.ensures) at c.in_ok-call.ensures.style);
      marker = rw (c.as_slice-4.ensures) at c.in_ok-marker.ensures.style;
    }

pub returns-clause-numbered : goal.returns-clause-numbered
returns-clause-numbered c =
    let g1 = given_names c.args.winners.now.before (option_map (λ b. b.value) c.in_ok-before.before) in
    let g2 = given_names c.args.winners.now.after (option_map (λ b. b.value) c.in_ok-after.after) in
    let g3 = given_names c.args.winners.now.call (option_map (λ b. b.value) c.in_ok-call.call) in
    let g4 = given_names c.args.winners.now.marker (option_map (λ b. b.value) c.in_ok-marker.marker) in
    let before = rw (c.as_slice.ensures) at c.in_ok-before.ensures.numbered in
    let after = rw (c.as_slice-2.ensures) at c.in_ok-after.ensures.numbered in
    let call = rw (c.as_slice-3.ensures) at c.in_ok-call.ensures.numbered in
    let marker = rw (c.as_slice-4.ensures) at c.in_ok-marker.ensures.numbered in
    let first = c.pseudo_style.new.names in
    let second = c.pseudo_style-2.new.names in
    let third = c.pseudo_style-3.new.names in
    let last = c.pseudo_style-4.new.names in
    then-names c.args.names.now first last g1 (g2 ++ (g3 ++ g4)) before
    (then-names first second last g2 (g3 ++ g4) after (then-names second third last g3 g4 call marker))

pub returns-clause-names : goal.returns-clause-names
returns-clause-names c = then-extends c.args.names.now c.pseudo_style-3.new.names c.pseudo_style-4.new.names (then-extends c.args.names.now c.pseudo_style-2.new.names c.pseudo_style-3.new.names (then-extends c.args.names.now c.pseudo_style.new.names c.pseudo_style-2.new.names c.pseudo_style.ensures.names c.pseudo_style-2.ensures.names) c.pseudo_style-3.ensures.names) c.pseudo_style-4.ensures.names
