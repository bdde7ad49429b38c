-- The rules of geometry and of lengths are judged: each looks at shapes, one or two at a time.
use Rattle.std.proofs.Common.{◌≡◌, ℕ, ◌<◌, ◌≤◌, Bool, List, length, subst, slice_index}
use Rattle.geom.specs.declared.shapes.Shape.{Shape}
use Rattle.layout_rules.specs.Layers.{is_metal}
use Rattle.layout_rules.specs.Limits.{Limits}
use Rattle.layout_rules.specs.Nets.{AreNets}
use Rattle.layout_rules.proofs.NetLaws.{AreNets-once}
use Rattle.layout_rules.specs.Reports.{Passes, PassTogether}
use Rattle.layout_rules.specs.GeometryRules.{SizesBroken, SpacingBroken, EnclosureBroken, CoverBroken, FramesBroken}
use Rattle.layout_rules.specs.GeometryRules.{is_too_small, are_too_close, is_bare, trespasses, collide}
use Rattle.layout_rules.specs.LengthRule.{net_length, IsTooLong, LengthsBroken}
use Rattle.layout_rules.proofs.Deciding.{dec_same, dec_both, dec_then, dec_equal, dec_below, dec_up_to, dec_all_those}
use Rattle.layout_rules.proofs.DecidedShapes.{dec_passes, passes_within, dec_together, together_within}
use Rattle.layout_rules.proofs.Judging.{Judged, judged_alone, judged_pairs}

abbrev pub passes_judged : (test : Shape → Bool) (shapes : List Shape) → Judged (λ a b. Passes test shapes a × (b ≡ a))
passes_judged test shapes = judged_alone (Passes test shapes) (length shapes) (dec_passes test shapes)
    (passes_within test shapes)

-- two shapes of which the lesser number is told first
abbrev pub in_order_judged : (test : Shape → Shape → Bool) (shapes : List Shape)
    → Judged (λ a b. (a < b) × PassTogether test shapes a b)
in_order_judged test shapes = judged_pairs (λ a b. (a < b) × PassTogether test shapes a b) (length shapes)
    (λ a b. dec_both (dec_below a b) (dec_together test shapes a b)) (λ a b h. together_within test shapes a b h.1)

module _ (limits : Limits) (shapes : List Shape) where
  abbrev pub sizes_judged : Judged (SizesBroken limits shapes)
  sizes_judged = passes_judged (is_too_small limits) shapes

  abbrev pub spacing_judged : Judged (SpacingBroken limits shapes)
  spacing_judged = in_order_judged (are_too_close limits.space) shapes

  abbrev pub enclosure_judged : Judged (EnclosureBroken limits shapes)
  enclosure_judged = passes_judged (is_bare limits shapes) shapes

  abbrev pub cover_judged : Judged (CoverBroken shapes)
  cover_judged = judged_pairs (CoverBroken shapes) (length shapes) (dec_together (trespasses shapes) shapes)
      (together_within (trespasses shapes) shapes)

  abbrev pub frames_judged : Judged (FramesBroken shapes)
  frames_judged = in_order_judged collide shapes

  -- a shape of metal that is the first of its net, which is too long by these nets
  abbrev TooLongBy : List ℕ → ℕ → Type 0
  TooLongBy nets a = Passes is_metal shapes a
      × ((c : ℕ) → Passes is_metal shapes c → slice_index nets c ≡ slice_index nets a → a ≤ c)
      × (limits.limit < net_length shapes nets (slice_index nets a))

  abbrev pub dec_too_long_by : (nets : List ℕ) (a : ℕ) → Dec (TooLongBy nets a)
  dec_too_long_by nets a = dec_same (λ h. (h.0, h.1.0, h.1.1)) (λ h. (h.0, (h.1, h.2)))
      (dec_both (dec_passes is_metal shapes a) (dec_both
      (dec_all_those (Passes is_metal shapes) (λ c. slice_index nets c ≡ slice_index nets a → a ≤ c) (length shapes)
      (dec_passes is_metal shapes) (passes_within is_metal shapes)
      (λ c. dec_then (dec_equal (slice_index nets c) (slice_index nets a)) (dec_up_to a c)))
      (dec_below limits.limit (net_length shapes nets (slice_index nets a)))))

  abbrev pub lengths_judged : (some : (ns : List ℕ) × AreNets shapes ns) → Judged (LengthsBroken limits shapes)
  lengths_judged some = judged_alone (IsTooLong limits shapes) (length shapes) dec_too_long
      (λ a h. passes_within is_metal shapes a h.metal)
    where
      nets : List ℕ
      nets = some.0

      are : AreNets shapes nets
      are = some.1

      by_these : (a : ℕ) → IsTooLong limits shapes a → TooLongBy nets a
      by_these a h = subst (λ (n : List ℕ). TooLongBy n a) (AreNets-once shapes h.nets nets h.are_nets are)
          (h.metal, h.least, h.too_long)

      dec_too_long : (a : ℕ) → Dec (IsTooLong limits shapes a)
      dec_too_long a = dec_same
          (λ h. record { metal = h.0; nets = nets; are_nets = are; least = h.1; too_long = h.2 })
          (by_these a) (dec_too_long_by nets a)
