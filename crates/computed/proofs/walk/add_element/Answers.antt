use Rattle.computed.specs.Rows.{styles_in}
use Rattle.computed.proofs.WalkLemmas.{then-extends, element-added}
use Rattle.computed.proofs.walk.add_element.Goals as goal

pub returns-clause-adds : goal.returns-clause-adds
returns-clause-adds c =
    let is = c.deref-style.ensures in
    let value = rw (c.style_above-above.ensures, c.root_above-root.ensures, c.as_slice.ensures) at c.in_ok-own.ensures.style in
    let styles = rw (c.size_for-size.ensures, c.root_above-root.ensures, is) at c.in_ok-generated.ensures.styles in
    let own = rw (c.as_slice.ensures) at c.in_ok-own.ensures.numbered in
    let shown = rw is at c.is_shown_below-shown.ensures in
    let note = rw is at c.is_note_below-note.ensures in
    let added = rw (c.into_inner.ensures) at c.in_ok-add_element.ensures.ok in
    element-added c.put_all.result c.args.names.now c.style_of.new.names c.generate.new.names c.generate.ensures.names _ c.args.winners.now c.args.styles.now c.add_element.new.self c.put_all.new.styles c.in_ok-own.own.value c.is_shown_below-shown.result c.is_note_below-note.result c.is_in_note_below-in_note.result (styles_in c.in_ok-generated.generated) value shown note c.is_in_note_below-in_note.ensures styles own c.in_ok-generated.ensures.numbered added c.put_all.ensures

pub returns-in_err-add_element-clause-names : goal.returns-in_err-add_element-clause-names
returns-in_err-add_element-clause-names c = then-extends c.args.names.now c.style_of.new.names c.generate.new.names c.style_of.ensures.names c.generate.ensures.names

pub returns-clause-names : goal.returns-clause-names
returns-clause-names c = then-extends c.args.names.now c.style_of.new.names c.generate.new.names c.style_of.ensures.names c.generate.ensures.names
