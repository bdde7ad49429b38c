use Rattle.std.proofs.Common.{rules, ◌≡◌, List, [], ◌∷◌, ◌++◌, ap, refl, ◌∙◌}
use Rattle.circuit_extracted.specs.declared.cells.ExCell.{ExCell}
use Rattle.rowed.specs.declared.source.Source.{Source}
use Rattle.circuit_extracted.specs.FirstCircuit.{lower_buffer, upper_buffer, upper_output, first_nets, first_circuit}
use Rattle.circuit_extracted.proofs.first_circuit.two_buffers.Goals as goal

pub invariant_of-result : goal.invariant_of-result
unfolding first_circuit
invariant_of-result c =
    let a : c.push.new.self ≡ lower_buffer ∷ [] = c.in_ok-push.ensures.ok
    ∙ ap (λ (xs : List ExCell). xs ++ c.buffer.result ∷ []) c.new-cells.ensures
    ∙ ap (λ (x : ExCell). x ∷ []) c.buffer.ensures in
    let b : c.push-2.new.self ≡ lower_buffer ∷ upper_buffer ∷ [] = c.in_ok-push-2.ensures.ok
    ∙ ap (λ (xs : List ExCell). xs ++ c.buffer-2.result ∷ []) a
    ∙ ap (λ (x : ExCell). lower_buffer ∷ x ∷ []) c.buffer-2.ensures in
    let d : c.push-3.new.self ≡ upper_output ∷ [] = c.in_ok-push-3.ensures.ok
    ∙ ap (λ (xs : List Source). xs ++ upper_output ∷ []) c.new-outputs.ensures in
    let e : c.from_vec.result ≡ first_nets = c.from_vec.ensures ∙ search rules in
    rw (b, d, e) c.first_circuit_keeps.ensures

pub returns : goal.returns
unfolding first_circuit
returns c =
    let a : c.push.new.self ≡ lower_buffer ∷ [] = c.in_ok-push.ensures.ok
    ∙ ap (λ (xs : List ExCell). xs ++ c.buffer.result ∷ []) c.new-cells.ensures
    ∙ ap (λ (x : ExCell). x ∷ []) c.buffer.ensures in
    let b : c.push-2.new.self ≡ lower_buffer ∷ upper_buffer ∷ [] = c.in_ok-push-2.ensures.ok
    ∙ ap (λ (xs : List ExCell). xs ++ c.buffer-2.result ∷ []) a
    ∙ ap (λ (x : ExCell). lower_buffer ∷ x ∷ []) c.buffer-2.ensures in
    let d : c.push-3.new.self ≡ upper_output ∷ [] = c.in_ok-push-3.ensures.ok
    ∙ ap (λ (xs : List Source). xs ++ upper_output ∷ []) c.new-outputs.ensures in
    let e : c.from_vec.result ≡ first_nets = c.from_vec.ensures ∙ search rules in
    rw (b, d, e) refl
