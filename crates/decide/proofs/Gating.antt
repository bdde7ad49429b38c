-- Edges of gates have the gates' values, and name subfunctions.
use Rattle.std.proofs.Common.{◌≡◌, ℕ, ◌+◌, ◌<◌, Bool, true, false, not, cond, List, [], ◌∷◌, ◌++◌, length, get_or, refl}
use Rattle.std.proofs.Common.{sym, ap, ◌∙◌, subst, arith, inl, inr, length-append}
use Rattle.std.proofs.lemmas.Option.{slice_get-get_or}
use Rattle.std.proofs.lemmas.Bool.{cases_lt}
use Rattle.std.proofs.Math.Seq.{get_or-append_seam}
use Rattle.std.proofs.lemmas.List.{get_or_append_left}
use Rattle.circuit.specs.PlainNets.{PlainView}
use Rattle.circuit.specs.declared.gate.Gate.{Gate}
use Rattle.circuit.specs.declared.gate.Gate.TheVariants.{Input}
use Rattle.decide.specs.declared.edge.Edge.{Edge}
use Rattle.decide.specs.declared.edge.Node.{Node}
use Rattle.circuit.specs.CellNets.{Reads, AreCells, value}
use Rattle.circuit.proofs.CellAnswers.{gate_same, value_fits}
use Rattle.decide.specs.Subfunctions.{gates_of}
use Rattle.decide.specs.Code.Diagrams.{regular, flip, inputs_of, node_value, edge_value, IsDiagram}
use Rattle.decide.specs.Code.Grown.{Grows, Represents, choice}
use Rattle.decide.specs.Code.Named.{IsNamed, AreNamed}
use Rattle.decide.specs.Code.GateFunctions.{edge_of, gate_function, AreValues}
use Rattle.decide.proofs.Functions.{zero_value}
use Rattle.decide.proofs.Choosing.{grown_value, grows_same, grows_then}
use Rattle.decide.proofs.Remembering.{inside_grown, inputs_same}

-- the choice between the constants by an input is the input
pub input_choice : (nodes : List Node) → IsDiagram nodes → (input : ℕ) (x : List Bool)
    → choice nodes input (record { node = 0; complemented = false })
    (record { node = 0; complemented = true }) x ≡ get_or x input false
input_choice nodes ok input x = go (get_or x input false) (node_value nodes x 0) (zero_value nodes ok x)
  where
    go : (b z : Bool) → z ≡ false → cond b (not z) z ≡ b
    go true z e = ap not e
    go false z e = e

pub has_input : (old new : List Node) → IsDiagram old → (edges : List Edge) (g : Gate) (input : ℕ)
    → g ≡ Input input → (e : Edge)
    → Represents new input (choice old input (record { node = 0; complemented = false })
    (record { node = 0; complemented = true })) e → Represents new 0 (gate_function old edges g) e
has_input old new ok edges g input is e has = record {
  inside = has.inside;
  from = omega arith;
  value = λ x. has.value x ∙ input_choice old ok input x ∙ sym (ap (λ (h : Gate). gate_function old edges h x) is);
}

pub named_input : (nodes : List Node) → IsDiagram nodes → (edges : List Edge) (g : Gate) (input : ℕ)
    → g ≡ Input input → (a b : PlainView)
    → IsNamed a b (gate_function nodes edges g)
    → IsNamed a b (choice nodes input (record { node = 0; complemented = false })
    (record { node = 0; complemented = true }))
named_input nodes ok edges g input is a b named = record {
  name = named.name;
  is_name = named.is_name;
  complemented = named.complemented;
  same = λ x long. named.same x long ∙ ap (flip named.complemented) (ap (λ (h : Gate). gate_function nodes edges h x) is
      ∙ sym (input_choice nodes ok input x));
}

pub has_constant : (nodes : List Node) → IsDiagram nodes → (edges : List Edge) (g : Gate) (complemented : Bool)
    → ((x : List Bool) → gate_function nodes edges g x ≡ complemented)
    → Represents nodes 0 (gate_function nodes edges g) (record { node = 0; complemented = complemented })
has_constant nodes ok edges g complemented is = record {
  inside = ok.some;
  from = omega arith;
  value = λ x. ap (flip complemented) (zero_value nodes ok x) ∙ constant complemented ∙ sym (is x);
}
  where
    constant : (b : Bool) → flip b false ≡ b
    constant true = refl
    constant false = refl

-- what holds as edges are computed for gates
pub record IsMaking (start now : List Node) (edges : List Edge) (gates : List Gate) (count : ℕ) : Type 0 where
  pub grows : Grows start now
  pub values : AreValues now edges gates count
  pub named : (a b : PlainView) (second : Bool) → inputs_of start ≡ a.inputs → gates_of a b second ≡ gates
      → AreNamed a b start → AreNamed a b now

pub making_begins : (nodes : List Node) (edges : List Edge) (gates : List Gate) → edges ≡ []
    → IsMaking nodes nodes edges gates 0
making_begins nodes edges gates empty = record {
  grows = grows_same nodes;
  values = record {
    size = ap length empty;
    inside = λ i lt. absurd (omega arith);
    values = λ i lt. absurd (omega arith);
  };
  named = λ a b second inputs same named. named;
}

module _ (start now : List Node) (ok : IsDiagram start) (ok' : IsDiagram now) (edges : List Edge) (gates : List Gate)
    (count : ℕ) (making : IsMaking start now edges gates count)
    (cells : AreCells (inputs_of start) gates) (within : count < length gates) where
  abbrev gate : Gate
  gate = get_or gates count (Input 0)

  reads : Reads (inputs_of start) count gate
  reads = cells count gate (slice_get-get_or gates count (Input 0) within)

  pub gate_reads : (read : List Edge) → read ≡ edges → Reads (inputs_of now) (length read) gate
  gate_reads read same =
      subst (λ n. Reads n (length read) gate) (sym (inputs_same start now ok ok' making.grows))
      (subst (λ n. Reads (inputs_of start) n gate) (sym (ap length same ∙ making.values.size)) reads)

  pub gate_inside : (read : List Edge) → read ≡ edges → (i : ℕ) → i < length read → (edge_of read i).node < length now
  gate_inside read same i lt = subst (λ (es : List Edge). (edge_of es i).node < length now) (sym same)
      (making.values.inside i (let s = ap length same ∙ making.values.size in omega arith))

  -- the function of the gate is its value
  gate_is : (read : List Edge) → read ≡ edges → (x : List Bool) → gate_function now read gate x ≡ value gates x count
  gate_is read same x =
      ap (λ (es : List Edge). gate_function now es gate x) same
      ∙ gate_same (inputs_of start) count gate reads x (λ i. edge_value now x (edge_of edges i)) (value gates x)
      (λ i lt. making.values.values i lt x)
      ∙ sym (value_fits (inputs_of start) gates cells x count gate (slice_get-get_or gates count (Input 0) within))

  -- so it is a subfunction
  gate_named : (read : List Edge) → read ≡ edges → (a b : PlainView) (second : Bool) → gates_of a b second ≡ gates
      → IsNamed a b (gate_function now read gate)
  gate_named read same a b second is = record {
    name = record { second = second; gate = count; values = [] };
    is_name = record {
      gate_within = subst (λ (gs : List Gate). count < length gs) (sym is) within;
      values_within = omega arith;
    };
    complemented = false;
    same = λ x long. ap (λ (gs : List Gate). value gs x count) is ∙ sym (gate_is read same x);
  }

  pub making_named : (read : List Edge) → read ≡ edges → (new : List Node)
      → ((a b : PlainView) → inputs_of now ≡ a.inputs → AreNamed a b now
      → IsNamed a b (gate_function now read gate) → AreNamed a b new)
      → (a b : PlainView) (second : Bool) → inputs_of start ≡ a.inputs → gates_of a b second ≡ gates
      → AreNamed a b start → AreNamed a b new
  making_named read same new step a b second inputs is named =
      step a b (inputs_same start now ok ok' making.grows ∙ inputs) (making.named a b second inputs is named)
      (gate_named read same a b second is)

  pub making_more : (read : List Edge) → read ≡ edges → (new : List Node) → IsDiagram new → Grows now new → (e : Edge)
      → Represents new 0 (gate_function now read gate) e
      → ((a b : PlainView) → inputs_of now ≡ a.inputs → AreNamed a b now
      → IsNamed a b (gate_function now read gate) → AreNamed a b new)
      → (more : List Edge) → more ≡ edges ++ e ∷ [] → IsMaking start new more gates (count + 1)
  making_more read same new ok'' grows e has step more is = record {
    grows = grows_then start now new making.grows grows;
    named = making_named read same new step;
    values = record {
      size = ap length is ∙ length-append edges (e ∷ []) ∙ ap (λ n. n + 1) making.values.size;
      inside = λ i lt. elim (cases_lt i count) [
        | inl less ↦ subst (λ (f : Edge). f.node < length new) (sym (before i less))
            (inside_grown now new ok' ok'' grows (edge_of edges i).node (making.values.inside i less))
        | inr ge ↦ subst (λ (f : Edge). f.node < length new)
            (sym (last i (let z : i ≡ count = omega arith in z))) has.inside
      ];
      values = λ i lt x. elim (cases_lt i count) [
        | inl less ↦ ap (edge_value new x) (before i less)
            ∙ grown_value now new ok' ok'' grows x (edge_of edges i) (making.values.inside i less)
            ∙ making.values.values i less x
        | inr ge ↦ (let z : i ≡ count = omega arith in ap (edge_value new x) (last i z) ∙ has.value x
            ∙ gate_is read same x ∙ ap (value gates x) (sym z))
      ];
    };
  }
    where
      before : (i : ℕ) → i < count → edge_of more i ≡ edge_of edges i
      before i less = ap (λ (es : List Edge). edge_of es i) is
          ∙ get_or_append_left edges (e ∷ []) (regular 0) i (let s = making.values.size in omega arith)

      last : (i : ℕ) → i ≡ count → edge_of more i ≡ e
      last i z = ap (λ (es : List Edge). edge_of es i) is
          ∙ ap (λ n. edge_of (edges ++ e ∷ []) n) (z ∙ sym making.values.size)
          ∙ get_or-append_seam edges e [] (regular 0)
