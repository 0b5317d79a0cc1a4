-- Computed values keep their ranges.
use Rattle.std.proofs.Common.{◌≡◌, ◌∙◌, ◌≤ℤ◌, ℕ, zero, suc, ◌<◌, ℤ, pos, Bool, true, false, List, [], ◌∷◌, Option, None, Some, is_some, length, fold, unwrap_or, slice_get, refl, sym, subst, arith}
use Rattle.std.proofs.lemmas.Option.{same_Some}
use Rattle.bk_num.specs.declared.length.Len.{Len}
use Rattle.bk_num.specs.declared.length.Len.TheVariants as len
use Rattle.bk_num.specs.Ranges.{IsNotAuto, IsNotNegative}
use Rattle.bk_num.specs.Sides.{at, with_side}
use Rattle.bk_num.specs.declared.sides.BoxSide.{BoxSide}
use Rattle.bk_num.specs.declared.sides.BoxSide.TheVariants as side
use Rattle.bk_num.specs.declared.sides.Sides.{Sides}
use Rattle.bk_num.specs.declared.values.Pseudo.{Pseudo}
use Rattle.bk_num.specs.declared.values.Pseudo.TheVariants as pseudo
use Rattle.dom.specs.Nodes.{Node, IsTree, parents_of, parent_at, name_at}
use Rattle.dom.proofs.WalkLemmas.{parent-below}
use Rattle.style.specs.Nodes.{NodeStyles, style_in, style_of, style_at}
use Rattle.style.specs.Initial.{medium_width}
use Rattle.style.specs.Longs.{side_long}
use Rattle.style.specs.Ranges.{HasMargins, IsHeight, IsInRange}
use Rattle.style.specs.Sides.{border_widths, paddings}
use Rattle.style.specs.Initial.{zero_len}
use Rattle.style.specs.Styles.{initial_style}
use Rattle.style.specs.declared.style.Style.{Style}
use Rattle.style.specs.declared.values.LineHeight.{LineHeight}
use Rattle.style.specs.declared.values.BorderStyle.{BorderStyle}
use Rattle.style.specs.declared.values.BorderStyle.TheVariants as border
use Rattle.style.specs.declared.long.SideLong.{SideLong}
use Rattle.style.specs.declared.long.SideLong.TheVariants as given
use Rattle.style.specs.declared.long.Long.{Long}
use Rattle.style.specs.declared.long.Long.TheVariants as long
use Rattle.cascade.specs.declared.table.NodeWinners.{NodeWinners}
use Rattle.computed_values.specs.Values.{given_by, held_len, units_of, without_auto, width_of, size_of, height_of}
use Rattle.computed_values.proofs.RangeLemmas.{held_least, given_in, size_least, height_least}
use Rattle.computed.specs.Context.{bare, noted, settled, context_of, rem_of}
use Rattle.computed.specs.Applied.{begun, applied, applied_by, applied_side, applied_alone, computed_style}
use Rattle.computed.specs.declared.context.ElementContext.{ElementContext}
use Rattle.computed.specs.declared.values.LengthUse.TheVariants as use_of
use Rattle.computed.specs.Lengths.{border_in, chosen_length, length_for, length_in}
use Rattle.computed.specs.Walk.{IsStyle, HasPseudo, IsElement, IsNode, AreStyles, style_above, root_above, parent_row}
use Rattle.computed.proofs.OneLemmas.{past_within}

-- ---- what is kept, by the sides of a box

record IsPadding (l : Len) : Type 0 where
  least : IsNotNegative l
  given : IsNotAuto l

abbrev AreBorders : Sides ℤ → Type 0
AreBorders widths = (a : BoxSide) → pos 0 ≤ℤ at widths a

abbrev ArePaddings : Sides Len → Type 0
ArePaddings lengths = (a : BoxSide) → IsPadding (at lengths a)

record AreFont (z : ℤ) (h : LineHeight) : Type 0 where
  size : pos 0 ≤ℤ z
  height : IsHeight h

record AreMargins (t b : Len) : Type 0 where
  top : IsNotAuto t
  bottom : IsNotAuto b

abbrev IsRanged : Style → Type 0
IsRanged s = AreFont s.font_size s.line_height × AreBorders (border_widths s) × ArePaddings (paddings s) × AreMargins s.margin_top s.margin_bottom × IsNotNegative s.width × IsNotAuto s.text_indent

in_range_of : (s : Style) → IsRanged s → IsInRange s
in_range_of s (font, borders, paddings, margins, width, indent) = record {
  size = font.size;
  height = font.height;
  border_top = borders side.Top;
  border_right = borders side.Right;
  border_bottom = borders side.Bottom;
  border_left = borders side.Left;
  padding_top = (paddings side.Top).least;
  padding_right = (paddings side.Right).least;
  padding_bottom = (paddings side.Bottom).least;
  padding_left = (paddings side.Left).least;
  given_top = (paddings side.Top).given;
  given_right = (paddings side.Right).given;
  given_bottom = (paddings side.Bottom).given;
  given_left = (paddings side.Left).given;
  width = width;
  indent = indent;
}

margins_of : (s : Style) → IsRanged s → HasMargins s
margins_of s (font, borders, paddings, margins, width, indent) = record { top = margins.top; bottom = margins.bottom }

-- ---- one value

held_len_least : (l : Len) → IsNotNegative (held_len l)
held_len_least len.Auto = tt
held_len_least (len.Px p) = held_least p
held_len_least (len.Percent d) = held_least d.units

upright : (l : Len) → IsNotAuto (without_auto l)
upright len.Auto = tt
upright (len.Px p) = tt
upright (len.Percent d) = tt

held_given : (l : Len) → IsNotAuto l → IsNotAuto (held_len l)
held_given len.Auto h = h
held_given (len.Px p) h = tt
held_given (len.Percent d) h = tt

padding : (l : Len) → IsPadding (held_len (without_auto l))
padding l = record { least = held_len_least (without_auto l); given = held_given (without_auto l) (upright l) }

no_padding : IsPadding zero_len
no_padding = record { least = omega arith; given = tt }

width_least : (s : BorderStyle) (w : ℤ) → pos 0 ≤ℤ w → pos 0 ≤ℤ width_of s w
width_least border.Off w h = omega arith
width_least border.Hidden w h = omega arith
width_least border.Solid w h = h

medium_least : pos 0 ≤ℤ medium_width
medium_least = omega arith

-- ---- the context

initial_size : pos 0 ≤ℤ initial_style.font_size
initial_size = omega arith

noted_size : (p : Style) (root : ℤ) (c : ElementContext) (l : Long) → pos 0 ≤ℤ p.font_size → pos 0 ≤ℤ c.font_size → pos 0 ≤ℤ (noted p root c l).font_size
noted_size p root c (long.FontSize g) h k = given_in (λ z. pos 0 ≤ℤ z) (size_of p.font_size root) g p.font_size initial_style.font_size (size_least p.font_size root) h initial_size
noted_size p root c l h k = k

noted_sizes : (p : Style) (root : ℤ) (c : ElementContext) (ls : List Long) → pos 0 ≤ℤ p.font_size → pos 0 ≤ℤ c.font_size → pos 0 ≤ℤ (fold (noted p root) c ls).font_size
noted_sizes p root c [] h k = k
noted_sizes p root c (l ∷ ls) h k = noted_sizes p root (noted p root c l) ls h (noted_size p root c l h k)

settled_size : (root : Option ℤ) (c : ElementContext) → pos 0 ≤ℤ c.font_size → pos 0 ≤ℤ (settled root c).font_size
settled_size None c h = h
settled_size (Some r) c h = h

context_size : (p : Style) (root : Option ℤ) (ls : List Long) → pos 0 ≤ℤ p.font_size → pos 0 ≤ℤ (context_of p root ls).font_size
context_size p root ls h = settled_size root (fold (noted p (rem_of root)) (bare p) ls) (noted_sizes p (rem_of root) (bare p) ls h h)

-- ---- a style

begun_borders : (p : Style) (c : ElementContext) → AreBorders (border_widths (begun p c))
begun_borders p c side.Top = width_least c.border_styles.top medium_width medium_least
begun_borders p c side.Right = width_least c.border_styles.right medium_width medium_least
begun_borders p c side.Bottom = width_least c.border_styles.bottom medium_width medium_least
begun_borders p c side.Left = width_least c.border_styles.left medium_width medium_least

begun_paddings : (p : Style) (c : ElementContext) → ArePaddings (paddings (begun p c))
begun_paddings p c side.Top = no_padding
begun_paddings p c side.Right = no_padding
begun_paddings p c side.Bottom = no_padding
begun_paddings p c side.Left = no_padding

begun_in : (p : Style) (c : ElementContext) → IsRanged p → pos 0 ≤ℤ c.font_size → IsRanged (begun p c)
begun_in p c h k = (record { size = k; height = h.0.height }, begun_borders p c, begun_paddings p c, record { top = tt; bottom = tt }, tt, h.5)

-- what holds of all sides goes on to hold where it holds of the new value of one
put-all : {A : Type 0} (P : A → Type 0) (v : Sides A) (b : BoxSide) (x : A) → ((a : BoxSide) → P (at v a)) → P x → (a : BoxSide) → P (at (with_side b x v) a)
put-all P v side.Top x h p side.Top = p
put-all P v side.Top x h p side.Right = h side.Right
put-all P v side.Top x h p side.Bottom = h side.Bottom
put-all P v side.Top x h p side.Left = h side.Left
put-all P v side.Right x h p side.Top = h side.Top
put-all P v side.Right x h p side.Right = p
put-all P v side.Right x h p side.Bottom = h side.Bottom
put-all P v side.Right x h p side.Left = h side.Left
put-all P v side.Bottom x h p side.Top = h side.Top
put-all P v side.Bottom x h p side.Right = h side.Right
put-all P v side.Bottom x h p side.Bottom = p
put-all P v side.Bottom x h p side.Left = h side.Left
put-all P v side.Left x h p side.Top = h side.Top
put-all P v side.Left x h p side.Right = h side.Right
put-all P v side.Left x h p side.Bottom = h side.Bottom
put-all P v side.Left x h p side.Left = p

side_in : (p : Style) (c : ElementContext) (s : Style) (d : SideLong) → IsRanged p → IsRanged s → IsRanged (applied_side p c s d)
side_in p c s (given.Margin side.Top g) h k = (k.0, k.1, k.2, record { top = given_in IsNotAuto (length_for (use_of.Margin side.Top) c) g p.margin_top zero_len (λ m. upright (length_in c m)) h.3.top tt; bottom = k.3.bottom }, k.4, k.5)
side_in p c s (given.Margin side.Right g) h k = k
side_in p c s (given.Margin side.Bottom g) h k = (k.0, k.1, k.2, record { top = k.3.top; bottom = given_in IsNotAuto (length_for (use_of.Margin side.Bottom) c) g p.margin_bottom zero_len (λ m. upright (length_in c m)) h.3.bottom tt }, k.4, k.5)
side_in p c s (given.Margin side.Left g) h k = k
side_in p c s (given.Padding a g) h k = (
  k.0,
  k.1,
  put-all IsPadding (paddings s) a (chosen_length use_of.Padding c g (at (paddings p) a)) k.2
      (given_in IsPadding (length_for use_of.Padding c) g (at (paddings p) a) zero_len (λ m. padding (length_in c m)) (h.2 a) no_padding),
  k.3,
  k.4,
  k.5,
)
side_in p c s (given.BorderWidth a g) h k =
    let w = given_by (border_in c) g (at (border_widths p) a) medium_width in (
      k.0,
      put-all (λ z. pos 0 ≤ℤ z) (border_widths s) a (width_of (at c.border_styles a) w) k.1
          (width_least (at c.border_styles a) w (given_in (λ z. pos 0 ≤ℤ z) (border_in c) g (at (border_widths p) a) medium_width (λ m. held_least (units_of c.font_size c.root_size (pos 0) m)) (h.1 a) medium_least)),
      k.2,
      k.3,
      k.4,
      k.5,
    )
side_in p c s (given.BorderStyle a g) h k = k
side_in p c s (given.BorderColor a g) h k = k

alone_in : (p : Style) (c : ElementContext) (s : Style) (l : Long) → IsRanged p → IsRanged s → IsRanged (applied_alone p c s l)
alone_in p c s (long.Width g) h k = (k.0, k.1, k.2, k.3, given_in IsNotNegative (length_for use_of.Width c) g p.width len.Auto (λ m. held_len_least (length_in c m)) h.4 tt, k.5)
alone_in p c s (long.LineHeight g) h k = (record { size = k.0.size; height = given_in IsHeight (height_of c.font_size c.root_size) g p.line_height initial_style.line_height (height_least c.font_size c.root_size) h.0.height (omega arith) }, k.1, k.2, k.3, k.4, k.5)
alone_in p c s (long.TextIndent g) h k = (k.0, k.1, k.2, k.3, k.4, given_in IsNotAuto (length_for use_of.Indent c) g p.text_indent zero_len (λ m. upright (length_in c m)) h.5 tt)
alone_in p c s l h k = k

applied_in : (p : Style) (c : ElementContext) (s : Style) (l : Long) → IsRanged p → IsRanged s → IsRanged (applied p c s l)
applied_in p c s l h k = by (side_long l)
  where
    by : (o : Option SideLong) → IsRanged (applied_by p c s l o)
    by None = alone_in p c s l h k
    by (Some d) = side_in p c s d h k

all_applied : (p : Style) (c : ElementContext) (s : Style) (ls : List Long) → IsRanged p → IsRanged s → IsRanged (fold (applied p c) s ls)
all_applied p c s [] h k = k
all_applied p c s (l ∷ ls) h k = all_applied p c (applied p c s l) ls h (applied_in p c s l h k)

computed_in : (p : Style) (root : Option ℤ) (ls : List Long) → IsRanged p → IsRanged (computed_style p root ls)
computed_in p root ls h = let size = h.0.size in all_applied p (context_of p root ls) (begun p (context_of p root ls)) ls h (begun_in p (context_of p root ls) h (context_size p root ls size))

style_in_range : (names : List (List ℕ)) (p : Style) (root : Option ℤ) (w : List Long) (s : Style) → IsRanged p → IsStyle names p root w s → IsRanged s
style_in_range names p root w s h x = subst IsRanged (sym x.values) (computed_in p root w h)

pseudo_in_range : (names : List (List ℕ)) (own : Style) (root : ℤ) (allowed : Bool) (w : List Long) (o : Option Style) → IsRanged own → HasPseudo names own root allowed w o → (s : Style) → o ≡ Some s → IsRanged s
pseudo_in_range names own root allowed w None h x s e = cc
pseudo_in_range names own root allowed w (Some t) h x s e = subst IsRanged (same_Some _ _ e) (subst IsRanged (sym x.1.values) (computed_in own (Some root) w h))

-- ---- a document

initial_borders : AreBorders (border_widths initial_style)
initial_borders side.Top = omega arith
initial_borders side.Right = omega arith
initial_borders side.Bottom = omega arith
initial_borders side.Left = omega arith

initial_paddings : ArePaddings (paddings initial_style)
initial_paddings side.Top = no_padding
initial_paddings side.Right = no_padding
initial_paddings side.Bottom = no_padding
initial_paddings side.Left = no_padding

initial_in : IsRanged initial_style
initial_in = (record { size = omega arith; height = omega arith }, initial_borders, initial_paddings, record { top = tt; bottom = tt }, tt, tt)

module _ (names : List (List ℕ)) (rows : List NodeStyles) where
  abbrev IsRowInRange : NodeStyles → Type 0
  IsRowInRange r = (p : Pseudo) (s : Style) → style_in r p ≡ Some s → IsRanged s

  abbrev IsInRangeAt : ℕ → Type 0
  IsInRangeAt k = (r : NodeStyles) → slice_get rows k ≡ Some r → IsRowInRange r

  above_in : (parent : Option ℕ) → ((p : ℕ) → parent ≡ Some p → IsInRangeAt p) → IsRanged (style_above (parent_row rows parent))
  above_in None low = initial_in
  above_in (Some p) low = by (slice_get rows p) refl
    where
      own : (r : NodeStyles) (o : Option Style) → slice_get rows p ≡ Some r → r.own ≡ o → IsRanged (unwrap_or o initial_style)
      own r None e f = initial_in
      own r (Some s) e f = low p refl r e pseudo.Element s f

      by : (o : Option NodeStyles) → slice_get rows p ≡ o → IsRanged (style_above o)
      by None e = initial_in
      by (Some r) e = own r r.own e refl

  element_in : (parent : Option ℕ) (w : NodeWinners) (r : NodeStyles) → ((p : ℕ) → parent ≡ Some p → IsInRangeAt p) → IsElement names rows parent w r → IsRowInRange r
  element_in parent w r low x =
      let above = above_in parent low in
      let own : IsRanged x.style = style_in_range names (style_above (parent_row rows parent)) (root_above rows parent) w.own x.style above x.values in
      by own
    where
      by : IsRanged x.style → IsRowInRange r
      by own pseudo.Element s e = subst IsRanged (same_Some _ _ (sym x.own ∙ e)) own
      by own pseudo.Before s e = pseudo_in_range names x.style _ r.shown w.before r.before own x.before s e
      by own pseudo.After s e = pseudo_in_range names x.style _ r.shown w.after r.after own x.after s e
      by own pseudo.Call s e = pseudo_in_range names x.style _ r.note w.call r.call own x.call s e
      by own pseudo.Marker s e = pseudo_in_range names x.style _ r.note w.marker r.marker own x.marker s e

  none_in : IsRowInRange Rattle.style.specs.Nodes.no_styles
  none_in pseudo.Element s e = cc
  none_in pseudo.Before s e = cc
  none_in pseudo.After s e = cc
  none_in pseudo.Call s e = cc
  none_in pseudo.Marker s e = cc

  node_in : (parent : Option ℕ) (element : Bool) (w : NodeWinners) (r : NodeStyles) → ((p : ℕ) → parent ≡ Some p → IsInRangeAt p) → IsNode names rows parent element w r → IsRowInRange r
  node_in parent false w r low x = subst IsRowInRange (sym x) none_in
  node_in parent true w r low x = element_in parent w r low x

  module _ (dom : List Node) (winners : List NodeWinners) (tree : IsTree dom) (full : length winners ≡ length dom) (x : AreStyles names dom winners rows) where
    in_range_step : (k : ℕ) → ((j : ℕ) → j < k → IsInRangeAt j) → IsInRangeAt k
    in_range_step k before r e = by (slice_get winners k) refl
      where
        low : (p : ℕ) → parent_at (parents_of dom) k ≡ Some p → IsInRangeAt p
        low p f = before p (parent-below dom tree k p f)

        by : (o : Option NodeWinners) → slice_get winners k ≡ o → IsRowInRange r
        by None f = absurd (past_within winners rows k r (full ∙ sym x.count) f e)
        by (Some w) f = node_in (parent_at (parents_of dom) k) (is_some (name_at dom k)) w r low (x.each k w r f e)

    in_range_below : (n k : ℕ) → k < n → IsInRangeAt k
    in_range_below zero k l = absurd (omega arith)
    in_range_below (suc n) k l = in_range_step k (λ j m. in_range_below n j (omega arith))

    ranged : (k : ℕ) (p : Pseudo) (s : Style) → style_at rows k p ≡ Some s → IsRanged s
    ranged k p s e = by (slice_get rows k) refl e
      where
        by : (o : Option NodeStyles) → slice_get rows k ≡ o → style_of o p ≡ Some s → IsRanged s
        by None f g = cc
        by (Some r) f g = in_range_below (suc k) k (omega arith) r f p s g

    pub in_range : (k : ℕ) (p : Pseudo) (s : Style) → style_at rows k p ≡ Some s → IsInRange s × HasMargins s
    in_range k p s e = let h = ranged k p s e in (in_range_of s h, margins_of s h)
