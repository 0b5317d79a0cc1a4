use Rattle.std.proofs.Common.{◌≡◌, ◌∙◌, ℕ, suc, ◌+◌, List, [], ◌∷◌, ◌++◌, Bor, arith, ap, get_or, map, take, subst, sym}
use Rattle.std.specs.List.{AllZip}
use Rattle.std.proofs.lemmas.Grind.{common_steps}
use Rattle.std.proofs.lemmas.Result.{err_from_is_err_and}
use Rattle.bk_num.specs.Limits.{most_file_bytes}
use Rattle.bk_io.specs.Reads.{IsTextOf}
use Rattle.named_files.specs.declared.file.FileOf.TheVariants as file
use Rattle.named_files.proofs.TextLemmas.{earlier, name_is, next_pair}
use Rattle.named_files.proofs.read.sheet_texts.Goals as goal

abbrev none : Bor (List ℕ)
none = record { ref_ptr = (0, 0); now = [] }

pub returns-in_err-text-clause-fault : goal.returns-in_err-text-clause-fault
returns-in_err-text-clause-fault g c =
    let names = c.args.names.now in
    let i = c.loop-name.name-index in
    let told = g.F.Shelf.told c.args.shelf.now in
    let name = (get_or names i none).now in
    let p = err_from_is_err_and c.from_residual.result c.from_residual.ensures.1 in
    let number : c.loop-name.number ≡ suc i = omega (arith, c.loop-name.invariant.number) in
    rw (p.1, p.2) (record {
      place = i;
      is_sheet = c.in_err-text.ensures.file ∙ ap file.Sheet number;
      first = record {
        name = name;
        is = name_is names i none c.loop-name-test.true;
        cause = rw (c.loop-name.invariant.told, c.loop-name.invariant.count) at c.in_err-text.ensures.fault;
        first = earlier told names i c.loop-name.texts.items c.loop-name.invariant.texts;
      };
    })

pub returns-then-is_err-clause-fault : goal.returns-then-is_err-clause-fault
returns-then-is_err-clause-fault g c =
    let names = c.args.names.now in
    let i = c.loop-name.name-index in
    let number : c.loop-name.number ≡ suc i = omega (arith, c.loop-name.invariant.number) in
    record {
      place = i;
      is_sheet = ap file.Sheet number;
      first = record {
        name = (get_or names i none).now;
        is = name_is names i none c.loop-name-test.true;
        cause = tt;
        first = earlier (g.F.Shelf.told c.args.shelf.now) names i c.loop-name.texts.items c.loop-name.invariant.texts;
      };
    }

pub loop-name-preserved : goal.loop-name-preserved
loop-name-preserved g c =
    let names = c.args.names.now in
    let i = c.loop-name.name-index in
    let told = g.F.Shelf.told c.args.shelf.now in
    let now : c.push.new.self.items ≡ c.loop-name.texts.items ++ c.in_ok-text.text ∷ [] = grind (arith, common_steps) in
    record {
      number = omega (arith, c.loop-name.invariant.number);
      told = c.text_of.ensures.told ∙ c.loop-name.invariant.told;
      count = c.in_ok-text.ensures.count ∙ c.loop-name.invariant.count;
      texts = subst (λ z. AllZip (λ name text. IsTextOf (told name) most_file_bytes text) (map (λ (n : Bor (List ℕ)). n.now) (take (i + 1) names)) z) (sym now)
          (next_pair (λ name text. IsTextOf (told name) most_file_bytes text) names i none c.loop-name.texts.items c.in_ok-text.text c.loop-name-test.true c.loop-name.invariant.texts (rw c.loop-name.invariant.told at c.in_ok-text.ensures.text));
    }
