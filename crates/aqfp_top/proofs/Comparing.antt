-- From the clauses of the steps of a comparison to its own.
use Rattle.std.proofs.Common.{ℕ, List, [], ◌∷◌, Some, None, Result, Ok, Err, IfOk, IfErr}
use Rattle.std.proofs.Common.{OnOk, refl, inl, inr}
use Rattle.blif_read.specs.Parts.{NetView}
use Rattle.blif_read.specs.Netlist.{IsNetlist}
use Rattle.blif_flat.specs.DesignText as netlist
use Rattle.circuit_extracted.specs.Circuits.{CircuitView, KeepsFacts}
use Rattle.decide.specs.declared.verdict.Verdict.{Verdict}
use Rattle.aqfp_top.specs.Loads.{check_loads}
use Rattle.aqfp_top.specs.Designs.{IsNetlistFault}
use Rattle.aqfp_top.specs.Checks.{MakesCircuit}
use Rattle.aqfp_top.specs.Stages as stage
use Rattle.aqfp_top.specs.Stages.{Stage, FindsNone, IsFirst, Answers}
use Rattle.aqfp_top.specs.Due.{circuit_stages, comparing_stages}
use Rattle.aqfp_top.specs.Faults.{IsEqualFault}
use Rattle.aqfp_top.specs.Comparing.{MakesBoth, HasWidths, IsTrueOf, HasVerdict}
use Rattle.aqfp_top.specs.Code.Staging.{OrMemory}
use Rattle.aqfp_top.specs.Code.Loading.{IsFaultOfLoads}
use Rattle.aqfp_top.specs.Code.Building.{IsOutOrMemory}
use Rattle.aqfp_top.specs.Code.Checking.{circuit_then, IsCircuitFault}
use Rattle.aqfp_top.specs.Code.Comparing.{both_stages, AreWidths, AreOtherWidths, IsManyFault, IsComparingFault}
use Rattle.aqfp_top.specs.declared.fault.Large.TheVariants.{Functions, Design}
use Rattle.aqfp_top.specs.declared.fault.Fault.{Fault}
use Rattle.aqfp_top.specs.declared.fault.Fault.TheVariants.{BadBlif, BadDesign, TooLarge, Widths, Memory}
use Rattle.aqfp_top.proofs.EachFault.{each_of_loads, each_circuit, each_comparing, each_out}
use Rattle.aqfp_top.proofs.Staging.{past_all, found}
use Rattle.aqfp_top.proofs.OneFault.{says_no_fault}

-- The kinds of faults.

pub circuit_compares : (fault : Fault) → IsCircuitFault fault → IsComparingFault fault
circuit_compares fault wrong = each_circuit IsComparingFault (λ o k. tt) (λ n. tt) (λ f. tt) (λ k. tt)
    (λ r a b. tt) tt fault wrong

pub netlist_compares : (net : List ℕ) (fault : Fault) → OrMemory (IsNetlistFault net) fault → IsComparingFault fault
netlist_compares net (BadBlif fault) bad = tt
netlist_compares net (BadDesign line kind) bad = tt
netlist_compares net (TooLarge Design count) bad = tt
netlist_compares net Memory bad = tt
netlist_compares net _ bad = absurd bad

pub widths_compare : (circuit : CircuitView) (view : NetView) (fault : Fault)
    → AreOtherWidths circuit view fault → IsComparingFault fault
widths_compare circuit view (Widths a b c d) bad = tt
widths_compare circuit view _ bad = absurd bad

pub functions_compare : (circuit : CircuitView) (view : NetView) (fault : Fault)
    → OrMemory (IsManyFault circuit view) fault → IsComparingFault fault
functions_compare circuit view (TooLarge Functions count) bad = bad.0
functions_compare circuit view Memory bad = tt
functions_compare circuit view _ bad = absurd bad

-- Reading the chip and the netlist.

pub makes_both : (gds lib net : List ℕ) (circuit : CircuitView) (view : NetView) → MakesCircuit gds lib circuit
    → netlist.SaysNetlist net view → MakesBoth gds lib net circuit view
makes_both gds lib net circuit view makes says = record { makes = makes; says = says }

pub both_well : (gds lib net : List ℕ) (view : NetView) → IsFirst (circuit_stages gds lib) None
    → netlist.SaysNetlist net view → IsFirst (both_stages gds lib net) None
both_well gds lib net view before says =
    (before.0, (before.1.0, (before.1.1.0, (before.1.1.1.0, (says_no_fault net view says, tt)))))

pub circuit_answers : (gds lib net : List ℕ) (fault : Fault)
    → ((rest : List Stage) → Answers (circuit_then gds lib rest) (Some fault))
    → Answers (comparing_stages gds lib net) (Some fault)
circuit_answers gds lib net fault bad =
    bad (stage.Netlist net ∷ stage.Counts gds lib net ∷ stage.Comparison gds lib net ∷ [])

pub netlist_answers : (gds lib net : List ℕ) (fault : Fault) → IsFirst (circuit_stages gds lib) None
    → OrMemory (IsNetlistFault net) fault → Answers (comparing_stages gds lib net) (Some fault)
netlist_answers gds lib net fault before bad =
    past_all (circuit_stages gds lib)
    (stage.Netlist net ∷ stage.Counts gds lib net ∷ stage.Comparison gds lib net ∷ []) (Some fault) before
    (found (stage.Netlist net) (stage.Counts gds lib net ∷ stage.Comparison gds lib net ∷ []) fault bad)

pub ruleset reads = (circuit_compares, netlist_compares, makes_both, both_well, circuit_answers, netlist_answers)

-- Comparing them.

has_widths : (gds lib net : List ℕ) (circuit : CircuitView) (view : NetView) (a b c d : ℕ)
    → MakesBoth gds lib net circuit view → AreWidths circuit view a b c d → HasWidths gds lib net a b c d
has_widths gds lib net circuit view a b c d both w = record {
  circuit = circuit;
  view = view;
  both = both;
  inputs_are = w.inputs_are;
  outputs_are = w.outputs_are;
  net_inputs_are = w.net_inputs_are;
  net_outputs_are = w.net_outputs_are;
  other = w.other;
}

widths_found : (gds lib net : List ℕ) (circuit : CircuitView) (view : NetView) (fault : Fault)
    → MakesBoth gds lib net circuit view → AreOtherWidths circuit view fault
    → OrMemory (stage.Finds (stage.Counts gds lib net)) fault
widths_found gds lib net circuit view (Widths a b c d) both bad = has_widths gds lib net circuit view a b c d both bad
widths_found gds lib net circuit view _ both bad = absurd bad

pub widths_answer : (gds lib net : List ℕ) (circuit : CircuitView) (view : NetView) (fault : Fault)
    → MakesBoth gds lib net circuit view → IsFirst (both_stages gds lib net) None → AreOtherWidths circuit view fault
    → Answers (comparing_stages gds lib net) (Some fault)
widths_answer gds lib net circuit view fault both before bad =
    past_all (both_stages gds lib net)
    (stage.Counts gds lib net ∷ stage.Comparison gds lib net ∷ []) (Some fault) before
    (found (stage.Counts gds lib net) (stage.Comparison gds lib net ∷ []) fault
    (widths_found gds lib net circuit view fault both bad))

pub compared_well : (gds lib net : List ℕ) → IsFirst (both_stages gds lib net) None
    → FindsNone (stage.Counts gds lib net) → IsFirst (comparing_stages gds lib net) None
compared_well gds lib net before none =
    (before.0, (before.1.0, (before.1.1.0, (before.1.1.1.0, (before.1.1.1.1.0, (none, ((λ fault found. found), tt)))))))

-- whatever the comparison finds
pub always_well : (gds lib net : List ℕ) (result : Result Verdict Fault) → IsFirst (both_stages gds lib net) None
    → FindsNone (stage.Counts gds lib net) → OnOk result (IsFirst (comparing_stages gds lib net) None)
always_well gds lib net (Ok verdict) before none = compared_well gds lib net before none
always_well gds lib net (Err fault) before none = tt

pub functions_answer : (gds lib net : List ℕ) (circuit : CircuitView) (view : NetView) (fault : Fault)
    → MakesBoth gds lib net circuit view → IsFirst (both_stages gds lib net) None → FindsNone (stage.Counts gds lib net)
    → OrMemory (IsManyFault circuit view) fault → Answers (comparing_stages gds lib net) (Some fault)
functions_answer gds lib net circuit view (TooLarge Functions count) both before none bad =
    inr (
      compared_well gds lib net before none,
      inr
          (inr (inr (inr (inr (inr (inl (record { circuit = circuit; view = view; both = both; many = bad }))))))),
    )
functions_answer gds lib net circuit view Memory both before none bad = tt
functions_answer gds lib net circuit view _ both before none bad = absurd bad

pub comparison_answers : (gds lib net : List ℕ) (circuit : CircuitView) (view : NetView) (result : Result Verdict Fault)
    → MakesBoth gds lib net circuit view → IsFirst (both_stages gds lib net) None → FindsNone (stage.Counts gds lib net)
    → IfErr result (OrMemory (IsManyFault circuit view))
    → IfErr result (λ fault. Answers (comparing_stages gds lib net) (Some fault))
comparison_answers gds lib net circuit view (Ok verdict) both before none bad = tt
comparison_answers gds lib net circuit view (Err fault) both before none bad =
    functions_answer gds lib net circuit view fault both before none bad

has_verdict : (gds lib net : List ℕ) (circuit : CircuitView) (view : NetView) (verdict : Verdict)
    → MakesBoth gds lib net circuit view → KeepsFacts circuit → IsNetlist view → IsTrueOf circuit view verdict
    → HasVerdict gds lib net verdict
has_verdict gds lib net circuit view verdict both circuit_keeps net_keeps holds = record {
  circuit = circuit;
  view = view;
  both = both;
  circuit_keeps = circuit_keeps;
  net_keeps = net_keeps;
  holds = holds;
}

pub verdicts : (gds lib net : List ℕ) (circuit : CircuitView) (view : NetView) (result : Result Verdict Fault)
    → MakesBoth gds lib net circuit view → KeepsFacts circuit → IsNetlist view → IfOk result (IsTrueOf circuit view)
    → IfOk result (HasVerdict gds lib net)
verdicts gds lib net circuit view (Ok verdict) both circuit_keeps net_keeps holds =
    has_verdict gds lib net circuit view verdict both circuit_keeps net_keeps holds
verdicts gds lib net circuit view (Err fault) both circuit_keeps net_keeps holds = tt

pub ruleset compares = (widths_compare, functions_compare)

-- The faults with which the steps may end a comparison.

pub loads_equal : (fault : Fault) → IsFaultOfLoads check_loads fault → IsEqualFault fault
loads_equal fault only = each_of_loads IsEqualFault check_loads (λ p l. l) (λ p t l. l) (λ p l. l) tt fault only

circuit_equal : (fault : Fault) → IsCircuitFault fault → IsEqualFault fault
circuit_equal fault wrong = each_circuit IsEqualFault (λ o k. tt) (λ n. tt) (λ f. tt) (λ k. tt)
    (λ r a b. tt) tt fault wrong

pub wrong_is_equal : (fault : Fault) → IsComparingFault fault → IsEqualFault fault
wrong_is_equal fault wrong = each_comparing IsEqualFault circuit_equal (λ f. tt) (λ l k. tt) (λ n. tt)
    (λ a b c d. tt) refl fault wrong

pub out_is_equal : (result : Result (Unit {0}) Fault) → IfErr result IsOutOrMemory → IfErr result IsEqualFault
out_is_equal result only = each_out (λ r. IfErr r IsEqualFault) tt refl tt result only

pub ruleset ends = (loads_equal, wrong_is_equal)
