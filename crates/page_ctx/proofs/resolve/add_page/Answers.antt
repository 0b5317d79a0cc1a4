use Rattle.std.proofs.Common.{◌≡◌, ◌++◌, ◌∷◌, [], ◌∙◌, Some, ap, map}
use Rattle.bk_num.proofs.ListLemmas.{map-more}
use Rattle.page_ctx.specs.Cells.{cell_by}
use Rattle.page_ctx.specs.Settings.{PageSettingOf, setting_in, page_setting}
use Rattle.page_ctx.specs.Winners.{applied_in, applied_to, candidate_in, page_declared}
use Rattle.page_ctx.specs.Groups.{all_own, declared_at}
use Rattle.page_ctx.specs.Margins.{box_in, boxes_by, cells_in, margin_style, style_among}
use Rattle.page_ctx.proofs.TableLemmas.{both}
use Rattle.page_ctx.proofs.KeptLemmas.{boxes-kept, cell-kept, kept_boxes, kept_page, setting-kept}
use Rattle.page_ctx.proofs.resolve.add_page.Goals as goal

pub returns-clause-cell : goal.returns-clause-cell
returns-clause-cell c =
    let rules = c.args.rules.now.index.rules.now in
    let name = c.args.name.now in
    let first : map applied_in c.deref.result.now ≡ all_own (Some name) c.args.classes rules =
    ap (map applied_in) c.deref.ensures.value ∙ c.in_ok-applied.ensures ∙ both (λ o r. all_own o c.args.classes r) c.named.ensures.asked c.named.ensures.rules in
    let declared : map candidate_in c.deref-3.result.now ≡ kept_page name c.args.classes rules =
    ap (map candidate_in) c.deref-3.ensures.value ∙ c.in_ok-declared.ensures ∙ both (λ k r. k ++ page_declared r) (ap (map candidate_in) c.as_slice.ensures ∙ c.requires.kept.page) first in
    c.cell_by-cell.ensures.cell ∙ ap cell_by declared ∙ cell-kept name c.args.classes rules

pub returns-clause-boxes : goal.returns-clause-boxes
returns-clause-boxes c =
    let rules = c.args.rules.now.index.rules.now in
    let name = c.args.name.now in
    let applied : map applied_in c.in_ok-applied.applied.items ≡ all_own (Some name) c.args.classes rules = c.in_ok-applied.ensures ∙ both (λ o r. all_own o c.args.classes r) c.named.ensures.asked c.named.ensures.rules in
    let first : map applied_in c.deref.result.now ≡ all_own (Some name) c.args.classes rules = ap (map applied_in) c.deref.ensures.value ∙ applied in
    let last : map applied_in c.deref-4.result.now ≡ all_own (Some name) c.args.classes rules = ap (map applied_in) c.deref-4.ensures.value ∙ applied in
    let declared : map candidate_in c.deref-2.result.now ≡ kept_page name c.args.classes rules =
    ap (map candidate_in) c.deref-2.ensures.value ∙ c.in_ok-declared.ensures ∙ both (λ k r. k ++ page_declared r) (ap (map candidate_in) c.as_slice.ensures ∙ c.requires.kept.page) first in
    let setting : setting_in c.page_setting-setting.result ≡ page_setting (page_declared (applied_to name c.args.classes rules)) = c.page_setting-setting.ensures ∙ ap page_setting declared ∙ setting-kept name c.args.classes rules in
    let kept : map (map candidate_in) c.as_slice-2.result.now ≡ kept_boxes c.args.classes rules = ap (map (map candidate_in)) c.as_slice-2.ensures ∙ c.requires.kept.boxes in
    let found : map box_in c.in_ok-boxes_by.field-0 ≡ boxes_by (margin_style rules name c.args.classes) =
    c.in_ok-boxes_by.ensures
    ∙ ap (λ (s : PageSettingOf). boxes_by (style_among s (declared_at (map (map candidate_in) c.as_slice-2.result.now) (map applied_in c.deref-4.result.now)))) setting
    ∙ both (λ k r. boxes_by (style_among (page_setting (page_declared (applied_to name c.args.classes rules))) (declared_at k r))) kept last
    ∙ boxes-kept name c.args.classes rules in
    map-more (map box_in) c.args.boxes.now c.push.new.self _ c.in_ok-push.ensures.ok ∙ ap (λ z. cells_in c.args.boxes.now ++ z ∷ []) found
