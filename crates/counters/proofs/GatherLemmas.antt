-- events of places, and of counters, put together
use Rattle.std.proofs.Common.{◌≡◌, ℕ, ◌*◌, List, ◌++◌, Option, None, Some, length, refl, sym, ◌∙◌, ap, append_assoc}
use Rattle.std.specs.Prelude.{not, codes}
use Rattle.std.specs.Str.{bytes_eq}
use Rattle.std.proofs.lemmas.List.{map-append}
use Rattle.std.proofs.lemmas.List.Elements.{filter-append}
use Rattle.counters.specs.declared.scopes.Act.{Act}
use Rattle.counters.specs.declared.scopes.CounterEvent.{CounterEvent}
use Rattle.counters.specs.declared.log.EventPlace.{EventPlace}
use Rattle.counters.specs.declared.at.Spot.{Spot}
use Rattle.dom.specs.declared.walk.Step.{Step}
use Rattle.counters.specs.Document.{named, not_page, out_of, end_at, end_under}
use Rattle.counters.specs.Log.{placed}
use Rattle.counters.specs.Gather.{AreSpots, end_after, end_below}

pub placed-append : (p : EventPlace) (xs ys : List (List ℕ × Act)) → placed p (xs ++ ys) ≡ placed p xs ++ placed p ys
placed-append p xs ys = ap (named p.at p.end) (filter-append (λ c. not (bytes_eq c.0 (codes "page"))) xs ys) ∙ map-append (λ c. (c.0, record { at = p.at; end = p.end; act = c.1 })) (not_page xs) (not_page ys)

-- one list of changes more at a place
pub put : (p : EventPlace) (xs ys : List (List ℕ × Act)) (before middle after : List (List ℕ × CounterEvent)) → middle ≡ before ++ placed p xs → after ≡ middle ++ placed p ys → after ≡ before ++ placed p (xs ++ ys)
put p xs ys before middle after e f = f ∙ ap (λ l. l ++ placed p ys) e ∙ append_assoc before (placed p xs) (placed p ys) ∙ ap (λ l. before ++ l) (sym (placed-append p xs ys))

pub six-put : (p : EventPlace) (a b c d e f : List (List ℕ × Act)) (l0 l1 l2 l3 l4 l5 l6 : List (List ℕ × CounterEvent)) → l1 ≡ l0 ++ placed p a → l2 ≡ l1 ++ placed p b → l3 ≡ l2 ++ placed p c → l4 ≡ l3 ++ placed p d → l5 ≡ l4 ++ placed p e → l6 ≡ l5 ++ placed p f → l6 ≡ l0 ++ placed p (a ++ (b ++ (c ++ (d ++ (e ++ f)))))
six-put p a b c d e f l0 l1 l2 l3 l4 l5 l6 h1 h2 h3 h4 h5 h6 = joined a (b ++ (c ++ (d ++ (e ++ f)))) l0 l1 l6 h1 (joined b (c ++ (d ++ (e ++ f))) l1 l2 l6 h2 (joined c (d ++ (e ++ f)) l2 l3 l6 h3 (joined d (e ++ f) l3 l4 l6 h4 (put p e f l4 l5 l6 h5 h6))))
  where
    joined : (xs ys : List (List ℕ × Act)) (before middle after : List (List ℕ × CounterEvent)) → middle ≡ before ++ placed p xs → after ≡ middle ++ placed p ys → after ≡ before ++ placed p (xs ++ ys)
    joined xs ys before middle after = put p xs ys before middle after

pub ends-are : (steps : List Step) (spots : List Spot) (count : ℕ) (o : Option ℕ) → AreSpots steps spots → count ≡ length steps → end_below count spots o ≡ end_under steps o
ends-are steps spots count None h e = ap (λ (n : ℕ). 4 * n) e
ends-are steps spots count (Some p) h e = ap (λ (s : Spot). end_after count s.out) (h p) ∙ by (out_of steps p)
  where
    by : (q : Option ℕ) → end_after count q ≡ end_at steps q
    by None = ap (λ (n : ℕ). 4 * n) e
    by (Some i) = refl
