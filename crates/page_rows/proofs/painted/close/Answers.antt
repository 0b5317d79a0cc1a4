use Rattle.std.proofs.Common.{◌≡◌, refl}
use Rattle.boxes.specs.Tree.{Tree, innermost_of}
use Rattle.boxes.proofs.Building.{open_at_end, on_closed}
use Rattle.page_rows.proofs.painted.close.Goals as goal

pub returns-then-is_some : goal.returns-then-is_some
returns-then-is_some c =
    let t : Tree = c.args.tree.now in
    let some = open_at_end t.events _ _ _ c.count-then-count-lt-MOST_EVENTS.ensures.count c.around.ensures c.is_some.ensures c.if-is_some.true in
    record {
      leaves = on_closed (λ u. u.leaves ≡ t.leaves) (λ u b e. e) (innermost_of t.events) c.close_box.result t c.close_box.new.self some c.close_box.ensures.ok refl;
      boxes = on_closed (λ u. u.boxes ≡ t.boxes) (λ u b e. e) (innermost_of t.events) c.close_box.result t c.close_box.new.self some c.close_box.ensures.ok refl;
    }
