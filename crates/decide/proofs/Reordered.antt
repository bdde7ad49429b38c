-- Circuits with their inputs in another order answer alike where the circuits do.
use Rattle.std.proofs.Common.{◌≡◌, ℕ, ◌<◌, Bool, false, List, map, length, get_or, slice_get, Some, refl, sym, ap, ◌∙◌}
use Rattle.std.proofs.Common.{subst, arith}
use Rattle.std.proofs.lemmas.Option.{slice_get-get_or, get_or_from_slice_get, slice_get_within}
use Rattle.std.proofs.lemmas.List.{length-map, get_or-map}
use Rattle.circuit.specs.Gates.{gate_value, Fits}
use Rattle.circuit.specs.declared.gate.Gate.{Gate}
use Rattle.circuit.specs.declared.gate.Gate.TheVariants.{Input, Zero, One, Buf, Inv, Maj}
use Rattle.circuit.specs.CellNets.{Reads, AreCells, value}
use Rattle.circuit.proofs.CellAnswers.{value_fits, one_value}
use Rattle.decide.specs.declared.edge.Edge.{Edge}
use Rattle.decide.specs.declared.edge.Node.{Node}
use Rattle.decide.specs.Code.GateFunctions.{AreValues}
use Rattle.decide.specs.Code.Outputs.{ReadValues}
use Rattle.decide.specs.Code.Orders.{IsOrder, renumber, arranged}

module _ (n : ℕ) (order rank : List ℕ) (is : IsOrder n order rank) where
  renumbered_reads : (i : ℕ) (g : Gate) → Reads n i g → Reads n i (renumber rank g)
  renumbered_reads i (Input k) reads = (let w = (is.stands k reads).within in let s = is.size in omega arith)
  renumbered_reads i Zero reads = reads
  renumbered_reads i One reads = reads
  renumbered_reads i (Buf x) reads = reads
  renumbered_reads i (Inv x) reads = reads
  renumbered_reads i (Maj x y z) reads = reads

  gate_same : (x : List Bool) (v : ℕ → Bool) (i : ℕ) (g : Gate) → Reads n i g
      → gate_value (arranged order x) v (renumber rank g) ≡ gate_value x v g
  gate_same x v i (Input k) reads =
      get_or-map (λ j. get_or x j false) order (get_or rank k 0) 0 false (is.stands k reads).within
      ∙ ap (λ j. get_or x j false) ((is.stands k reads).back)
  gate_same x v i Zero reads = refl
  gate_same x v i One reads = refl
  gate_same x v i (Buf y) reads = refl
  gate_same x v i (Inv y) reads = refl
  gate_same x v i (Maj y z w) reads = refl

  module _ (gates : List Gate) (ok : AreCells n gates) where
    abbrev pub again : List Gate
    again = map (renumber rank) gates

    -- each gate is one that was renumbered
    renumbered : (i : ℕ) (h : Gate) → slice_get again i ≡ Some h → (slice_get gates i ≡ Some (get_or gates i Zero))
        × (h ≡ renumber rank (get_or gates i Zero))
    renumbered i h at =
        let w = slice_get_within again i h at in
        let s = length-map gates (renumber rank) in
        let lt : i < length gates = omega arith in (
          slice_get-get_or gates i Zero lt,
          sym (get_or_from_slice_get again i h Zero at)
              ∙ get_or-map (renumber rank) gates i Zero Zero lt,
        )

    pub again_read : AreCells n again
    again_read i h at =
        let g = renumbered i h at in
        subst (λ f. Reads n i f) (sym g.1) (renumbered_reads i (get_or gates i Zero) (ok i (get_or gates i Zero) g.0))

    again_fits : (x : List Bool) → Fits (arranged order x) (value gates x) again
    again_fits x i h at =
        let g = renumbered i h at in
        value_fits n gates ok x i (get_or gates i Zero) g.0
        ∙ sym (gate_same x (value gates x) i (get_or gates i Zero) (ok i (get_or gates i Zero) g.0))
        ∙ ap (gate_value (arranged order x) (value gates x)) (sym g.1)

    pub again_value : (x : List Bool) (i : ℕ) → i < length gates → value gates x i ≡ value again (arranged order x) i
    again_value x i lt = one_value n again again_read (arranged order x) (value gates x) (again_fits x) i
        (let s = length-map gates (renumber rank) in omega arith)

  -- the diagram of the renumbered circuit has the values of the circuit at the words in the order
  pub again_values : (nodes : List Node) (edges : List Edge) (gates : List Gate) → AreCells n gates
      → AreValues nodes edges (map (renumber rank) gates) (length (map (renumber rank) gates))
      → ReadValues nodes (arranged order) edges gates
  again_values nodes edges gates ok values =
      let size = length-map gates (renumber rank) in
      record {
        size = values.size ∙ size;
        inside = λ i lt. values.inside i (omega arith);
        values = λ i lt x. values.values i (omega arith) (arranged order x) ∙ sym (again_value gates ok x i lt);
      }

  -- so the gates as the code has them
  pub read_again : (nodes : List Node) (edges : List Edge) (gates read : List Gate) → AreCells n gates
      → read ≡ map (renumber rank) gates → AreValues nodes edges read (length read)
      → ReadValues nodes (arranged order) edges gates
  read_again nodes edges gates read ok is values = again_values nodes edges gates ok
      (subst (λ (gs : List Gate). AreValues nodes edges gs (length gs)) is values)

  pub reads_again : (gates read : List Gate) → AreCells n gates → read ≡ map (renumber rank) gates → AreCells n read
  reads_again gates read ok is = subst (λ (gs : List Gate). AreCells n gs) (sym is) (again_read gates ok)

-- an order that undoes its ranks is as long as they are
pub undone_order : (order rank : List ℕ) → IsOrder (length rank) order rank → IsOrder (length order) rank order
    → IsOrder (length rank) rank order
undone_order order rank is si = subst (λ n. IsOrder n rank order) is.size si
