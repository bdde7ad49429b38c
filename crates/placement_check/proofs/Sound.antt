-- Drafts that pass all tests are placed nets that answer as the graph, and such drafts pass.
use Rattle.std.proofs.Common.{◌≡◌, ℕ, Bool, true, List, length, sym, subst, ◌∙◌}
use Rattle.std.specs.Prelude.{◌&&◌}
use Rattle.std.proofs.lemmas.Bool.{and_parts}
use Rattle.circuit.specs.OneAnswer.{HasOneAnswer}
use Rattle.circuit.specs.SameAnswers.{SameAnswers}
use Rattle.rowed.specs.declared.row_cell.RowCell.{RowCell}
use Rattle.rowed.specs.RowNets.{RowView, IsRowNet, IsAnswer}
use Rattle.rowed.specs.PlacedNets.{IsPlaced}
use Rattle.mig.specs.Graphs.{GraphView}
use Rattle.mig.specs.Graphs as graphs
use Rattle.placement_check.specs.Drafts.{IsSound}
use Rattle.placement_check.specs.Labels.{rows_fit}
use Rattle.rowed.specs.SeatTests.{each_seated}
use Rattle.placement_check.specs.Code.Rows.{is_net, is_sound}
use Rattle.placement_check.proofs.Numbered.{both}
use Rattle.placement_check.proofs.Netted.{tested_net, net_test}
use Rattle.rowed.proofs.SeatLaws.{rows_seated, rows_test}
use Rattle.placement_check.proofs.Labelled as labelled

module _ (g : GraphView) (rows : List (List RowCell)) (labels slots : List (List ℕ)) where
  tested : is_sound g rows labels slots ≡ true → IsSound g rows labels slots
  tested e =
      let parts = and_parts (rows_fit g rows labels && each_seated rows slots)
      (is_net g.inputs (length g.outputs) rows) e in
      let two = and_parts (rows_fit g rows labels) (each_seated rows slots) parts.0 in
      record {
        net = tested_net g.inputs (length g.outputs) rows parts.1;
        seated = rows_seated rows slots two.1;
        labelled = two.0;
      }

  -- a sound draft passes
  pub sound_test : (b : Bool) → b ≡ is_sound g rows labels slots → IsSound g rows labels slots → b ≡ true
  sound_test b is known =
      is ∙ both (rows_fit g rows labels && each_seated rows slots) (is_net g.inputs (length g.outputs) rows)
      (both (rows_fit g rows labels) (each_seated rows slots) known.labelled (rows_test rows slots known.seated))
      (net_test g.inputs (length g.outputs) rows known.net)

  module _ (b : Bool) (is : b ≡ is_sound g rows labels slots) (yes : b ≡ true) (inputs outputs : ℕ)
      (i : inputs ≡ g.inputs) (o : outputs ≡ length g.outputs) where
    abbrev net : RowView
    net = record { inputs = inputs; outputs = outputs; rows = rows }

    sound : IsSound g rows labels slots
    sound = tested (sym is ∙ yes)

    pub sound_net : IsRowNet net
    sound_net =
        subst (λ (n : ℕ). IsRowNet (record { inputs = n; outputs = outputs; rows = rows })) (sym i)
        (subst (λ (n : ℕ). IsRowNet (record { inputs = g.inputs; outputs = n; rows = rows })) (sym o) sound.net)

    pub sound_placed : IsPlaced (record { net = net; slots = slots; lag = 0 })
    sound_placed = record { net_keeps = sound_net; seated = sound.seated }

    pub sound_answers : HasOneAnswer g.inputs (length g.outputs) (graphs.IsAnswer g)
        → SameAnswers g.inputs inputs (length g.outputs) outputs (graphs.IsAnswer g) (IsAnswer net)
    sound_answers once = labelled.same_answers g net labels sound_net sound.labelled i o once
