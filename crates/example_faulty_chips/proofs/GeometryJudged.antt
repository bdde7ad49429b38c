-- Chips that break a rule of geometry or of lengths, or come up to its bound.
use Rattle.std.proofs.Common.{[], ◌∷◌, ◌++◌, refl}
use Rattle.geom.specs.FirstChip.{first_flat}
use Rattle.layout_rules.specs.declared.rule.Rule.TheVariants.{E5, G1, G2, G3, G4, G5}
use Rattle.layout_rules.specs.FirstLimits.{first_limits}
use Rattle.layout_rules.specs.Rules.{FirstBroken, KeepsRules}
use Rattle.layout_rules.proofs.RuleLaws.{rules}
use Rattle.example_faulty_chips.specs.GeometryChips.{with_wire_to, with_neighbour_at, with_via_at, with_metal_from}
use Rattle.example_faulty_chips.specs.GeometryChips.{with_pin_from}
use Rattle.example_faulty_chips.specs.GeometryChips.{with_buffer_at, with_low_buffer, with_limit}
use Rattle.layout_rules.proofs.FirstWire.{first_nets, first_paths}
use Rattle.layout_rules.proofs.NetPaths.{nets_from}
use Rattle.layout_rules.proofs.ShortLines.{lines_kept}
use Rattle.layout_rules.proofs.Worked.{breaks, keeps}

pub narrow_wire : FirstBroken (with_wire_to 5499) first_limits G1 5 5
unfolding with_wire_to first_flat rules
narrow_wire = breaks _ _ _ (nets_from _ first_nets first_paths refl refl refl)
    (lines_kept _ 3 4 13 14 refl refl refl refl refl) G1 5 5 refl

pub narrow_via : FirstBroken (with_via_at 4700 5299) first_limits G1 8 8
unfolding with_via_at first_flat rules
narrow_via = breaks _ _ _ (nets_from _ first_nets first_paths refl refl refl)
    (lines_kept _ 3 4 13 14 refl refl refl refl refl) G1 8 8 refl

pub low_pin : FirstBroken (with_pin_from 23001) first_limits G1 12 12
unfolding with_pin_from first_flat rules
low_pin = breaks _ _ _ (nets_from _ first_nets first_paths refl refl refl)
    (lines_kept _ 3 4 13 14 refl refl refl refl refl) G1 12 12 refl

pub wide_wire : KeepsRules (with_wire_to 5500) first_limits
unfolding with_wire_to first_flat rules
wide_wire = keeps _ _ _ (nets_from _ first_nets first_paths refl refl refl)
    (lines_kept _ 3 4 13 14 refl refl refl refl refl) refl

pub close_metal : FirstBroken (with_neighbour_at 6400) first_limits G2 7 15
unfolding with_neighbour_at first_flat rules
close_metal = breaks _ _ _ (nets_from _ (first_nets ++ (15 ∷ [])) (first_paths ++ ([] ∷ [])) refl refl refl)
    (lines_kept _ 3 4 13 14 refl refl refl refl refl) G2 7 15 refl

pub nearly_spaced_metal : FirstBroken (with_neighbour_at 6499) first_limits G2 7 15
unfolding with_neighbour_at first_flat rules
nearly_spaced_metal = breaks _ _ _ (nets_from _ (first_nets ++ (15 ∷ [])) (first_paths ++ ([] ∷ [])) refl refl refl)
    (lines_kept _ 3 4 13 14 refl refl refl refl refl) G2 7 15 refl

pub spaced_metal : KeepsRules (with_neighbour_at 6500) first_limits
unfolding with_neighbour_at first_flat rules
spaced_metal = keeps _ _ _ (nets_from _ (first_nets ++ (15 ∷ [])) (first_paths ++ ([] ∷ [])) refl refl refl)
    (lines_kept _ 3 4 13 14 refl refl refl refl refl) refl

pub bare_via : FirstBroken (with_via_at 4701 5301) first_limits G3 8 8
unfolding with_via_at first_flat rules
bare_via = breaks _ _ _ (nets_from _ first_nets first_paths refl refl refl)
    (lines_kept _ 3 4 13 14 refl refl refl refl refl) G3 8 8 refl

pub enclosed_via : KeepsRules (with_via_at 4700 5300) first_limits
unfolding with_via_at first_flat rules
enclosed_via = keeps _ _ _ (nets_from _ first_nets first_paths refl refl refl)
    (lines_kept _ 3 4 13 14 refl refl refl refl refl) refl

pub overhanging_wire : FirstBroken (with_wire_to 5600) first_limits G4 5 0
unfolding with_wire_to first_flat rules
overhanging_wire = breaks _ _ _ (nets_from _ first_nets first_paths refl refl refl)
    (lines_kept _ 3 4 13 14 refl refl refl refl refl) G4 5 0 refl

pub wider_wire : FirstBroken (with_wire_to 5501) first_limits G4 5 0
unfolding with_wire_to first_flat rules
wider_wire = breaks _ _ _ (nets_from _ first_nets first_paths refl refl refl)
    (lines_kept _ 3 4 13 14 refl refl refl refl refl) G4 5 0 refl

pub covering_metal : FirstBroken (with_metal_from 9500) first_limits G4 15 0
unfolding with_metal_from first_flat rules
covering_metal = breaks _ _ _ (nets_from _ (first_nets ++ (15 ∷ [])) (first_paths ++ ([] ∷ [])) refl refl refl)
    (lines_kept _ 3 4 13 14 refl refl refl refl refl) G4 15 0 refl

pub nearly_beside_metal : FirstBroken (with_metal_from 9999) first_limits G4 15 0
unfolding with_metal_from first_flat rules
nearly_beside_metal = breaks _ _ _ (nets_from _ (first_nets ++ (15 ∷ [])) (first_paths ++ ([] ∷ [])) refl refl refl)
    (lines_kept _ 3 4 13 14 refl refl refl refl refl) G4 15 0 refl

pub beside_metal : KeepsRules (with_metal_from 10000) first_limits
unfolding with_metal_from first_flat rules
beside_metal = keeps _ _ _ (nets_from _ (first_nets ++ (15 ∷ [])) (first_paths ++ ([] ∷ [])) refl refl refl)
    (lines_kept _ 3 4 13 14 refl refl refl refl refl) refl

pub overlapping_frames : FirstBroken (with_buffer_at 7000) first_limits G5 0 15
unfolding with_buffer_at first_flat rules
overlapping_frames = breaks _ _ _ (nets_from _ (first_nets ++ (15 ∷ 16 ∷ 17 ∷ [])) (first_paths ++ ([] ∷ [] ∷ [] ∷ []))
    refl refl refl)
    (lines_kept _ 3 4 13 14 refl refl refl refl refl) G5 0 15 refl

pub nearly_touching_frames : FirstBroken (with_buffer_at 7999) first_limits G5 0 15
unfolding with_buffer_at first_flat rules
nearly_touching_frames = breaks _ _ _
    (nets_from _ (first_nets ++ (15 ∷ 16 ∷ 17 ∷ [])) (first_paths ++ ([] ∷ [] ∷ [] ∷ []))
    refl refl refl)
    (lines_kept _ 3 4 13 14 refl refl refl refl refl) G5 0 15 refl

pub uneven_frames : FirstBroken with_low_buffer first_limits G5 0 15
unfolding with_low_buffer with_buffer_at first_flat rules
uneven_frames = breaks _ _ _ (nets_from _ (first_nets ++ (15 ∷ 16 ∷ 17 ∷ [])) (first_paths ++ ([] ∷ [] ∷ [] ∷ []))
    refl refl refl)
    (lines_kept _ 3 4 13 14 refl refl refl refl refl) G5 0 15 refl

pub touching_frames : KeepsRules (with_buffer_at 8000) first_limits
unfolding with_buffer_at first_flat rules
touching_frames = keeps _ _ _ (nets_from _ (first_nets ++ (15 ∷ 16 ∷ 17 ∷ [])) (first_paths ++ ([] ∷ [] ∷ [] ∷ []))
    refl refl refl)
    (lines_kept _ 3 4 13 14 refl refl refl refl refl) refl

pub long_wire : FirstBroken first_flat (with_limit 9999) E5 5 5
unfolding first_flat rules
long_wire = breaks _ _ _ (nets_from _ first_nets first_paths refl refl refl)
    (lines_kept _ 3 4 13 14 refl refl refl refl refl) E5 5 5 refl

pub short_wire : KeepsRules first_flat (with_limit 10000)
unfolding first_flat rules
short_wire = keeps _ _ _ (nets_from _ first_nets first_paths refl refl refl)
    (lines_kept _ 3 4 13 14 refl refl refl refl refl) refl
