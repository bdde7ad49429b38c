-- Bytes are a wide stream of one layout at most, or have one first fault, and never both.
use Rattle.std.proofs.Common.{ℕ, ◌≡◌, List, Option, Some, None, sym, ap, ◌∙◌}
use Rattle.poly_cut.specs.declared.layout.WideLayout.{WideLayout}
use Rattle.gds_records.specs.declared.fault.StreamKind.{StreamKind}
use Rattle.gds_records.specs.Stream.{IsWideStream}
use Rattle.gds_records.specs.Faults.{WideFault}
use Rattle.gds_records.specs.Scan.{wide_layout_in}
use Rattle.gds_records.specs.Profiles.{wide}
use Rattle.gds_records.specs.Profiled.{first_fault_in}

none_or_some : (p : ℕ × StreamKind) (found : Option (ℕ × StreamKind)) → found ≡ None → found ≡ Some p → ⊥
none_or_some p found none some = cc

same_some : (p q : ℕ × StreamKind) (found : Option (ℕ × StreamKind)) → found ≡ Some p → found ≡ Some q → p ≡ q
same_some p q found one other = cc

pub one_layout : ((bytes : List ℕ) (layout : WideLayout) → IsWideStream bytes layout → layout ≡ wide_layout_in bytes)
    → (bytes : List ℕ) (layout other : WideLayout) → IsWideStream bytes layout
    → IsWideStream bytes other → layout ≡ other
one_layout is_found bytes layout other s t = is_found bytes layout s ∙ sym (is_found bytes other t)

pub not_both : ((bytes : List ℕ) (layout : WideLayout) → IsWideStream bytes layout → first_fault_in wide bytes ≡ None)
    → ((bytes : List ℕ) (offset : ℕ) (kind : StreamKind) → WideFault bytes offset kind
    → first_fault_in wide bytes ≡ Some (offset, kind))
    → (bytes : List ℕ) (layout : WideLayout) (offset : ℕ) (kind : StreamKind) → IsWideStream bytes layout
    → WideFault bytes offset kind → ⊥
not_both none some bytes layout offset kind s f =
    none_or_some (offset, kind) (first_fault_in wide bytes) (none bytes layout s) (some bytes offset kind f)

pub one_fault : ((bytes : List ℕ) (offset : ℕ) (kind : StreamKind) → WideFault bytes offset kind
    → first_fault_in wide bytes ≡ Some (offset, kind))
    → (bytes : List ℕ) (offset other : ℕ) (kind second : StreamKind) → WideFault bytes offset kind
    → WideFault bytes other second → (offset ≡ other) × (kind ≡ second)
one_fault some bytes offset other kind second f g =
    let same = same_some (offset, kind) (other, second) (first_fault_in wide bytes) (some bytes offset kind f)
    (some bytes other second g) in
    (ap (λ (p : ℕ × StreamKind). p.0) same, ap (λ (p : ℕ × StreamKind). p.1) same)
