use Rattle.std.proofs.Common.{◌≡◌, ℕ, List}
use Rattle.bk_num.specs.declared.values.Pseudo.{Pseudo}
use Rattle.box_gen.specs.Sources.{AreInRange, IsRootShown}
use Rattle.computed.specs.Document.{AreDocumentStyles}
use Rattle.counters.specs.At.{counter_values}
use Rattle.counters.specs.Document.{values_of}
use Rattle.book.proofs.BoxLemmas.{boxed_has}
use Rattle.book.specs.declared.styled.Computed.{Computed}
use Rattle.book.proofs.styled.computed_of.Goals as goal

pub returns-clause-styles : goal.returns-clause-styles
returns-clause-styles c = boxed_has c.boxed.result _ (λ (it : Computed). AreDocumentStyles it.names c.args.dom.now c.args.sheets.now it.styles) c.boxed.ensures c.in_ok-styles.ensures.styles

pub returns-clause-ranges : goal.returns-clause-ranges
returns-clause-ranges c = boxed_has c.boxed.result _ (λ (it : Computed). AreInRange it.styles) c.boxed.ensures c.in_ok-styles.ensures.ranges

pub returns-clause-shown : goal.returns-clause-shown
returns-clause-shown c = boxed_has c.boxed.result _ (λ (it : Computed). IsRootShown it.styles) c.boxed.ensures c.in_ok-styles.ensures.shown

pub returns-clause-counters : goal.returns-clause-counters
returns-clause-counters c = boxed_has c.boxed.result _ (λ (it : Computed). (n : ℕ) (p : Pseudo) (x : List ℕ) → counter_values it.counters n p x ≡ values_of c.args.dom.now it.styles n p x) c.boxed.ensures c.in_ok-counters.ensures
