use Rattle.match_table.specs.Index.{IsNumberFor, IsKeyNumber}
use Rattle.match_table.proofs.IndexLemmas.{rarest-told, key-number, key-for, no-key}
use Rattle.match_table.proofs.index.number_of_key.Goals as goal

pub returns-in-Some : goal.returns-in-Some
returns-in-Some c = record {
  key = rarest-told c.args.lists.now (IsNumberFor c.in-Some.compound.now c.args.words.now) (IsKeyNumber c.args.selector.now c.args.words.now) c.number_for.result
      (λ i n. key-number c.args.selector.now c.in-Some.compound.now c.args.words.now i c.in-Some.ensures n)
      (λ i n. key-for c.args.selector.now c.in-Some.compound.now c.args.words.now i c.in-Some.ensures n) c.number_for.ensures.key;
  within = c.number_for.ensures.within;
}

pub returns-in-None : goal.returns-in-None
returns-in-None c = record { key = no-key c.args.lists.now c.args.words.now c.args.selector.now c.in-None.ensures; within = tt }
