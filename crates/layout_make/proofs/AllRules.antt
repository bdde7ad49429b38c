-- A drawing keeps all rules.
use Rattle.std.proofs.Common.{arith}
use Rattle.layout_rules.specs.declared.rule.Rule.TheVariants.{E1, E2, E3, E4, E5, E6, G1, G2, G3, G4, G5}
use Rattle.layout_rules.specs.Rules.{KeepsRules}
use Rattle.rowed.specs.PlacedNets.{PlacedView}
use Rattle.cell_library.specs.Library.{LibraryView, limits_of}
use Rattle.layout_make.specs.MayDraw.{MayDraw}
use Rattle.layout_make.specs.Laws.{flat_shapes, WiresJoinPins}
use Rattle.layout_make.specs.CellsAreDrawn.{CellsAreDrawn}
use Rattle.layout_make.proofs.Ready.{TracksLaw, may_ready, lawful, input_ports, output_ports, all_inputs, all_outputs}
use Rattle.layout_make.proofs.WiresJoined.{wires_joined, geometry_kept}
use Rattle.layout_make.proofs.CellsDrawn.{cells_drawn}
use Rattle.layout_make.proofs.Wiring.{flat, Ports, nets_kept, wires_up}
use Rattle.layout_make.proofs.LabelRule.{labels_kept}
use Rattle.layout_make.proofs.KeptCells.{cells_kept}
use Rattle.layout_make.proofs.KeptLines.{excitation_kept}
use Rattle.layout_make.proofs.KeptGeometry.{sizes_kept, spacing_kept, enclosure_kept, cover_kept, frames_kept}
use Rattle.layout_make.proofs.KeptGeometry.{lengths_kept}
use Rattle.layout_make.proofs.WireLengths.{short_wires}

pub ports_of : (p : PlacedView) (l : LibraryView) → MayDraw p l → Ports p
ports_of p l may =
    record {
      inputs = input_ports p may.placed;
      outputs = output_ports p may.placed;
      all_inputs = all_inputs p may.placed;
      all_outputs = all_outputs p may.placed;
    }

module _ (p : PlacedView) (l : LibraryView) (law : TracksLaw) (may : MayDraw p l) where
  pub keeps_rules : KeepsRules (flat p l) (limits_of l)
  keeps_rules E1 = cells_kept (flat_shapes p l) (geometry_kept p l (may_ready p l law may) (lawful l may.library)).e1
  keeps_rules E2 = excitation_kept p l (may_ready p l law may) (lawful l may.library)
  keeps_rules E3 = nets_kept p l (may_ready p l law may) (lawful l may.library) (ports_of p l may)
  keeps_rules E4 = wires_up p l (may_ready p l law may) (lawful l may.library) (ports_of p l may)
  keeps_rules E5 =
      let is = may_ready p l law may in
      lengths_kept l (flat_shapes p l)
      ((geometry_kept p l is (lawful l may.library)).e5 (short_wires p l is may.placed may.library may.short))
  keeps_rules E6 = labels_kept p l (may_ready p l law may) (lawful l may.library) (ports_of p l may)
      (let k = may.few_inputs in omega arith) (let k = may.few_outputs in omega arith)
  keeps_rules G1 = sizes_kept l (flat_shapes p l) (geometry_kept p l (may_ready p l law may) (lawful l may.library)).g1
  keeps_rules G2 =
      spacing_kept l (flat_shapes p l) (geometry_kept p l (may_ready p l law may) (lawful l may.library)).g2
  keeps_rules G3 =
      enclosure_kept l (flat_shapes p l) (geometry_kept p l (may_ready p l law may) (lawful l may.library)).g3
  keeps_rules G4 = cover_kept (flat_shapes p l) (geometry_kept p l (may_ready p l law may) (lawful l may.library)).g4
  keeps_rules G5 = frames_kept (flat_shapes p l) (geometry_kept p l (may_ready p l law may) (lawful l may.library)).g5

  pub keeps_cells : CellsAreDrawn p l
  keeps_cells = cells_drawn p l (may_ready p l law may) (lawful l may.library) (ports_of p l may)

  pub keeps_joined : WiresJoinPins p l
  keeps_joined = wires_joined p l (may_ready p l law may) (lawful l may.library)
