-- Whether the counts of a chip and of a netlist are the same has one answer.
use Rattle.std.proofs.Common.{ℕ, ◌≡◌, List, length, sym, ap, ◌∙◌}
use Rattle.blif_flat.proofs.SaidNets.{one_net}
use Rattle.geom.specs.declared.shapes.Flat.{Flat}
use Rattle.poly_cut.specs.declared.layout.WideLayout.{WideLayout}
use Rattle.gds_records.specs.Stream.{IsWideStream}
use Rattle.layout_rules.specs.declared.rule.Rule.TheVariants.{E1, E2, E6}
use Rattle.layout_rules.specs.Limits.{Limits}
use Rattle.layout_rules.specs.Rules.{Keeps}
use Rattle.blif_read.specs.Parts.{NetView}
use Rattle.circuit_extracted.specs.Circuits.{CircuitView}
use Rattle.shape_extract.specs.Extraction.{IsCircuitOf}
use Rattle.aqfp_top.specs.Comparing.{MakesBoth, HasWidths, IsWidthsFault}
use Rattle.aqfp_top.specs.declared.fault.Fault.{Fault}
use Rattle.aqfp_top.specs.declared.fault.Fault.TheVariants.{Widths}
use Rattle.aqfp_top.proofs.OneCheck.{same_circuit}

-- what holds of each fault of the stage holds of whatever it finds
each_widths : (P : Fault → Type 0) (gds lib net : List ℕ)
    → ((a b c d : ℕ) → HasWidths gds lib net a b c d → P (Widths a b c d)) → (fault : Fault)
    → IsWidthsFault gds lib net fault → P fault
each_widths P gds lib net widths (Widths a b c d) bad = widths a b c d bad
each_widths P gds lib net widths _ bad = absurd bad

module _ (one_layout : (bytes : List ℕ) (layout other : WideLayout) → IsWideStream bytes layout
    → IsWideStream bytes other → layout ≡ other)
    (one_circuit : (flat : Flat) (limits : Limits) (first second : CircuitView) → Keeps E1 flat limits
    → Keeps E2 flat limits → Keeps E6 flat limits → IsCircuitOf flat first
    → IsCircuitOf flat second → first ≡ second) where
  same_widths : (gds lib net : List ℕ) (a b c d e f g h : ℕ) → HasWidths gds lib net a b c d
      → HasWidths gds lib net e f g h → ◌≡◌ {A = Fault} (Widths a b c d) (Widths e f g h)
  same_widths gds lib net a b c d e f g h p q =
      let circuit : p.circuit ≡ q.circuit =
      same_circuit one_layout one_circuit gds lib p.circuit q.circuit p.both.makes q.both.makes in
      let view : p.view ≡ q.view = one_net net p.view q.view p.both.says q.both.says in
      let ins : a ≡ e = p.inputs_are ∙ (ap (λ (c : CircuitView). c.inputs) circuit ∙ sym q.inputs_are) in
      let outs : b ≡ f = p.outputs_are ∙ (ap (λ (c : CircuitView). length c.outputs) circuit ∙ sym q.outputs_are) in
      let net_ins : c ≡ g = p.net_inputs_are ∙ (ap (λ (n : NetView). n.inputs) view ∙ sym q.net_inputs_are) in
      let net_outs : d ≡ h = p.net_outputs_are
      ∙ (ap (λ (n : NetView). length n.outputs) view ∙ sym q.net_outputs_are) in
      λ i. Widths (ins i) (outs i) (net_ins i) (net_outs i)

  pub one_widths_fault : (gds lib net : List ℕ) (f g : Fault) → IsWidthsFault gds lib net f
      → IsWidthsFault gds lib net g → f ≡ g
  one_widths_fault gds lib net f g p q = each_widths (λ f. f ≡ g) gds lib net
      (λ a b c d x. each_widths (λ g. Widths a b c d ≡ g) gds lib net
      (λ e f g h y. same_widths gds lib net a b c d e f g h x y) g q) f p

  -- the same counts
  differ_not : (gds lib net : List ℕ) (a b c d : ℕ) (circuit : CircuitView) (view : NetView)
      → MakesBoth gds lib net circuit view → view.inputs ≡ circuit.inputs → length view.outputs ≡ length circuit.outputs
      → HasWidths gds lib net a b c d → ⊥
  differ_not gds lib net a b c d circuit view both ins outs w =
      let same : w.circuit ≡ circuit =
      same_circuit one_layout one_circuit gds lib w.circuit circuit w.both.makes both.makes in
      let net_same : w.view ≡ view = one_net net w.view view w.both.says both.says in
      let a_is : a ≡ circuit.inputs = w.inputs_are ∙ ap (λ (c : CircuitView). c.inputs) same in
      let b_is : b ≡ length circuit.outputs = w.outputs_are ∙ ap (λ (c : CircuitView). length c.outputs) same in
      let c_is : c ≡ circuit.inputs = w.net_inputs_are ∙ (ap (λ (n : NetView). n.inputs) net_same ∙ ins) in
      let d_is : d ≡ length circuit.outputs = w.net_outputs_are
      ∙ (ap (λ (n : NetView). length n.outputs) net_same ∙ outs) in
      w.other (a_is ∙ sym c_is, b_is ∙ sym d_is)

  pub widths_none : (gds lib net : List ℕ) (circuit : CircuitView) (view : NetView) → MakesBoth gds lib net circuit view
      → view.inputs ≡ circuit.inputs → length view.outputs ≡ length circuit.outputs
      → (fault : Fault) → ¬ IsWidthsFault gds lib net fault
  widths_none gds lib net circuit view both ins outs fault bad = each_widths (λ f. ⊥) gds lib net
      (λ a b c d x. differ_not gds lib net a b c d circuit view both ins outs x) fault bad
