use Rattle.std.proofs.Common.{sym, length, length-append, ◌++◌, ◌∷◌, [], false, subst, ◌≡◌, None, position, is_ok, true, arith, ◌∙◌, ap, map}
use Rattle.std.specs.String.{string_bytes, string_eq}
use Rattle.std.specs.List.{list_any}
use Rattle.std.specs.Str.{bytes_eq}
use Rattle.bk_num.specs.Names.{with_name}
use Rattle.dom.specs.NameLists.{AreOnce}
use Rattle.std.proofs.lemmas.Grind.{common_steps}
use Rattle.dom.proofs.NameLemmas.{not-any, name-there, names-new, of_ok, once-with}
use Rattle.dom.proofs.names.Names.intern.Goals as goal

pub returns-in-Some-clause-names : goal.returns-in-Some-clause-names
returns-in-Some-clause-names c = sym (name-there c.args.self.now c.args.name.now c.in-Some.number (sym c.number.ensures.number ∙ c.in-Some.is))

pub returns-clause-names : goal.returns-clause-names
returns-clause-names c =
    let none : position (bytes_eq c.args.name.now) c.args.self.now ≡ None = grind (arith, common_steps) in
    let made : is_ok c.insert.result ≡ true = grind (arith, common_steps) in
    rw (← c.self.view_is) (ap (map (λ s. string_bytes s)) (of_ok c.insert.result _ made c.insert.ensures.keys) ∙ names-new (λ s. string_bytes s) c.self.inside.set.keys c.in-Ok.key c.args.name.now c.in-Ok.ensures.ok (rw (← c.self.view_is) at none))

pub invariant_of-self-2 : goal.invariant_of-self-2
invariant_of-self-2 c =
    let none : position (bytes_eq c.args.name.now) c.args.self.now ≡ None = grind (arith, common_steps) in
    let made : is_ok c.insert.result ≡ true = grind (arith, common_steps) in
    let names : map (λ s. string_bytes s) c.insert.new.self.keys ≡ with_name (map (λ s. string_bytes s) c.self.inside.set.keys) c.args.name.now = ap (map (λ s. string_bytes s)) (of_ok c.insert.result _ made c.insert.ensures.keys) ∙ names-new (λ s. string_bytes s) c.self.inside.set.keys c.in-Ok.key c.args.name.now c.in-Ok.ensures.ok (rw (← c.self.view_is) at none) in
    record {
      few = (let l = c.len-number.ensures.len in let n = of_ok c.insert.result _ made c.insert.ensures.keys in let none2 : list_any (string_eq c.in-Ok.key) c.self.inside.set.keys ≡ false = not-any c.self.inside.set.keys c.in-Ok.key c.args.name.now c.in-Ok.ensures.ok (rw (← c.self.view_is) at none) in let k : c.insert.new.self.keys ≡ c.self.inside.set.keys ++ c.in-Ok.key ∷ [] = rw none2 at n in let a = length-append c.self.inside.set.keys (c.in-Ok.key ∷ []) in let z : length c.insert.new.self.keys ≡ length (c.self.inside.set.keys ++ c.in-Ok.key ∷ []) = ap length k in grind (arith, common_steps));
      unique = c.insert.ensures.unique;
      once = subst AreOnce (sym names) (once-with (map (λ s. string_bytes s) c.self.inside.set.keys) c.args.name.now c.self.invariant.once);
    }
