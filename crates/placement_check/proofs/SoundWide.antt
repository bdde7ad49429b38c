-- Drafts that pass all tests of a wider net are placed nets that are wider and answer as the net, and such drafts pass.
use Rattle.std.proofs.Common.{◌≡◌, ℕ, Bool, true, List, sym, subst, ◌∙◌}
use Rattle.std.specs.Prelude.{◌&&◌}
use Rattle.std.proofs.lemmas.Bool.{and_parts}
use Rattle.circuit.specs.SameAnswers.{SameAnswers}
use Rattle.rowed.specs.declared.row_cell.RowCell.{RowCell}
use Rattle.rowed.specs.RowNets.{RowView, IsRowNet, IsAnswer}
use Rattle.rowed.specs.PlacedNets.{IsPlaced}
use Rattle.rowed.specs.SeatTests.{each_seated}
use Rattle.rowed.proofs.SeatLaws.{rows_seated, rows_test}
use Rattle.placement_check.specs.declared.marks.Mark.{Mark}
use Rattle.placement_check.specs.declared.marks.Place.{Place}
use Rattle.placement_check.specs.Wider.{is_widened, IsWide, IsWider}
use Rattle.placement_check.specs.Code.Rows.{is_net, is_wide}
use Rattle.placement_check.proofs.Numbered.{both}
use Rattle.placement_check.proofs.Netted.{tested_net, net_test}
use Rattle.placement_check.proofs.Widened as widened

module _ (net : RowView) (rows : List (List RowCell)) (slots : List (List ℕ)) (became : List ℕ)
    (places : List (List Place)) (marks : List (List Mark)) where
  tested : is_wide net rows slots became places marks ≡ true → IsWide net rows slots became places marks
  tested e =
      let parts = and_parts (is_widened net.rows rows became places marks && each_seated rows slots)
      (is_net net.inputs net.outputs rows) e in
      let two = and_parts (is_widened net.rows rows became places marks) (each_seated rows slots) parts.0 in
      record {
        keeps = tested_net net.inputs net.outputs rows parts.1;
        seated = rows_seated rows slots two.1;
        widened = two.0;
      }

  -- a wide draft passes
  pub wide_test : (b : Bool) → b ≡ is_wide net rows slots became places marks
      → IsWide net rows slots became places marks → b ≡ true
  wide_test b is known =
      is ∙ both (is_widened net.rows rows became places marks && each_seated rows slots)
      (is_net net.inputs net.outputs rows)
      (both (is_widened net.rows rows became places marks) (each_seated rows slots) known.widened
      (rows_test rows slots known.seated))
      (net_test net.inputs net.outputs rows known.keeps)

  module _ (b : Bool) (is : b ≡ is_wide net rows slots became places marks) (yes : b ≡ true) (inputs outputs : ℕ)
      (i : inputs ≡ net.inputs) (o : outputs ≡ net.outputs) where
    abbrev wide : RowView
    wide = record { inputs = inputs; outputs = outputs; rows = rows }

    known_wide : IsWide net rows slots became places marks
    known_wide = tested (sym is ∙ yes)

    pub wide_net : IsRowNet wide
    wide_net =
        subst (λ (n : ℕ). IsRowNet (record { inputs = n; outputs = outputs; rows = rows })) (sym i)
        (subst (λ (n : ℕ). IsRowNet (record { inputs = net.inputs; outputs = n; rows = rows })) (sym o)
        known_wide.keeps)

    pub wide_placed : IsPlaced (record { net = wide; slots = slots; lag = 0 })
    wide_placed = record { net_keeps = wide_net; seated = known_wide.seated }

    pub is_wider : IsWider net wide
    is_wider = record {
      became = became;
      places = places;
      marks = marks;
      same_inputs = i;
      same_outputs = o;
      widened = known_wide.widened;
    }

    pub wide_answers : IsRowNet net
        → SameAnswers net.inputs inputs net.outputs outputs (IsAnswer net) (IsAnswer wide)
    wide_answers known = widened.same_answers net wide known wide_net is_wider
