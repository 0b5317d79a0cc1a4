use Rattle.std.proofs.Common.{◌≡◌, ◌+◌, ◌-◌, suc, Some, slice_get, map, sym, ap, ◌∙◌, arith}
use Rattle.std.specs.Option.{option_map}
use Rattle.std.proofs.lemmas.Option.{slice_get-map}
use Rattle.bk_num.proofs.ListLemmas.{get-drop}
use Rattle.cursor.specs.Fields.{solid_view}
use Rattle.fragment.specs.Ahead.{end_of, page_of}
use Rattle.fragment.proofs.AheadLemmas.{end_is}
use Rattle.fragment.proofs.ahead.Ahead.end_of.Goals as goal

pub returns-else-count-eq0 : goal.returns-else-count-eq0
returns-else-count-eq0 c =
    let some = c.if-count-eq0.false in
    let last : suc (c.args.count - 1) ≡ c.args.count = omega (arith, some) in
    let at : slice_get c.args.self.now.solids.items (c.args.self.now.first + (c.args.count - 1)) ≡ Some c.solid.result.now = c.solid.ensures in
    let view : slice_get (page_of c.args.self.now) (c.args.count - 1) ≡ Some (solid_view c.solid.result.now) =
    get-drop (map solid_view c.args.self.now.solids.items) c.args.self.now.first (c.args.count - 1) ∙ slice_get-map solid_view c.args.self.now.solids.items (c.args.self.now.first + (c.args.count - 1)) ∙ ap (option_map solid_view) at in
    sym (end_is c.args.from (page_of c.args.self.now) (c.args.count - 1) (solid_view c.solid.result.now) view) ∙ ap (end_of c.args.from (page_of c.args.self.now)) last
