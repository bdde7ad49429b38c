-- Neighbouring rows of a placed net are the rows of a channel.
use Rattle.std.proofs.Common.{◌≡◌, ℕ, zero, suc, ◌+◌, ◌<◌, List, [], Some, length, get_or, slice_get, sym, ap, ◌∙◌}
use Rattle.std.proofs.Common.{subst, arith}
use Rattle.std.proofs.lemmas.List.Elements.{All-from_recursion}
use Rattle.std.proofs.lemmas.Option.{get_or_from_slice_get}
use Rattle.rowed.specs.declared.row_cell.RowCell.{RowCell}
use Rattle.rowed.specs.Limits.{slot_limit}
use Rattle.rowed.specs.PlacedNets.{PlacedRow, PlacedView, IsPlaced, row_of}
use Rattle.rowed.proofs.NeighbourLaws.{seated_at, channel_at, channel_fits, slots_below}
use Rattle.repeater_rows.specs.Code.Opening.{AreNeighbours}

pub moved_two : (P : PlacedRow → PlacedRow → Type 0) (a b c d : PlacedRow) → a ≡ c → b ≡ d → P a b → P c d
moved_two P a b c d e f h = subst (λ (x : PlacedRow). P c x) f (subst (λ (x : PlacedRow). P x b) e h)

pub are_neighbours : (p : PlacedView) (k n : ℕ) → n ≡ k + 1 → IsPlaced p → n < length p.net.rows
    → AreNeighbours (row_of p k) (row_of p n)
are_neighbours p k zero e known lt = absurd (omega arith)
are_neighbours p k (suc n) e known lt =
    let same : n ≡ k = omega arith in
    subst (λ (j : ℕ). AreNeighbours (row_of p j) (row_of p (suc n))) same (record {
      channel = channel_at p known n lt;
      few_slots = channel_fits p known n lt;
      pins_fit = All-from_recursion (λ (slot : ℕ). slot < slot_limit) (row_of p (suc n)).slots
          (slots_below 0 (row_of p (suc n)).cells (row_of p (suc n)).slots
          (seated_at p.net.rows p.slots known.seated (suc n) lt));
    })

-- a row of a net, as the code reads it
pub row_is : (p : PlacedView) (k : ℕ) (cells : List RowCell) (slots : List ℕ) → cells ≡ (row_of p k).cells
    → slots ≡ (row_of p k).slots
    → record { cells = cells; slots = slots } ≡ row_of p k
row_is p k cells slots c s = ap (λ (x : List RowCell). record { cells = x; slots = slots }) c
    ∙ ap (λ (x : List ℕ). record { cells = (row_of p k).cells; slots = x }) s

pub got_at : (xs : List (List ℕ)) (k : ℕ) (x : List ℕ) → slice_get xs k ≡ Some x → x ≡ get_or xs k []
got_at xs k x is = sym (get_or_from_slice_get xs k x [] is)
