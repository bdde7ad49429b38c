use Rattle.std.proofs.Common.{◌≡◌, ℕ, List, Option, Some, None, refl, sym, ap, ◌∙◌}
use Rattle.gds_records.specs.declared.fault.StreamKind.{StreamKind}
use Rattle.gds_records.specs.Faults.{IsStreamOrFaulty, a_stream, a_fault}
use Rattle.gds_records.specs.Scan.{IsBytes, first_fault, layout_in}
use Rattle.gds_records.proofs.Found.{no_fault, found, stream_no_fault, fault_found}
use Rattle.gds_records.proofs.laws.one_of_both.Goals as goal

apart : (p : ℕ × StreamKind) → None ≡ Some p → ⊥
apart p e = cc

same_some : (p r : ℕ × StreamKind) → Some p ≡ Some r → p ≡ r
same_some p r e = cc

alike : (p r : ℕ × StreamKind) → Some p ≡ Some r → (p.0 ≡ r.0) × (p.1 ≡ r.1)
alike p r e = let q = same_some p r e in (ap (λ (x : ℕ × StreamKind). x.0) q, ap (λ (x : ℕ × StreamKind). x.1) q)

either_found : (bytes : List ℕ) → IsBytes bytes → (f : Option (ℕ × StreamKind)) → first_fault bytes ≡ f
    → IsStreamOrFaulty bytes
either_found bytes fits None e = a_stream (layout_in bytes) (no_fault bytes fits e)
either_found bytes fits (Some p) e = a_fault p.0 p.1 (found bytes p.0 p.1 fits e)

pub returns-clause-some : goal.returns-clause-some
returns-clause-some c = λ bytes fits. either_found bytes fits (first_fault bytes) refl

pub returns-clause-one : goal.returns-clause-one
returns-clause-one c = λ bytes a o k s f. apart (o, k) (sym (stream_no_fault bytes a s) ∙ fault_found bytes o k f)

pub returns-clause-fault : goal.returns-clause-fault
returns-clause-fault c = λ bytes o q k l f g. alike (o, k) (q, l)
    (sym (fault_found bytes o k f) ∙ fault_found bytes q l g)
