-- Why a reader of wide streams refuses, where it does.
use Rattle.std.proofs.Common.{◌≡◌, ◌⊎◌, inl, inr, ℕ, ◌<◌, ◌≤◌, List, Option, Some, None, refl, sym, ap, ◌∙◌, arith}
use Rattle.geom.specs.FlatForm.{shape_limit}
use Rattle.poly_cut.specs.declared.layout.WideLayout.{WideLayout}
use Rattle.poly_cut.specs.Counts.{wide_count, told}
use Rattle.gds_records.specs.declared.fault.StreamKind.{StreamKind}
use Rattle.gds_records.specs.Stream.{IsWideStream}
use Rattle.gds_records.specs.Scan.{wide_layout_in}
use Rattle.gds_records.specs.Profiles.{wide}
use Rattle.gds_records.specs.Profiled.{first_fault_in}
use Rattle.gds_records.specs.Faults.{WideFault}
use Rattle.gds_read.specs.declared.refusal.StreamRefusal.{StreamRefusal}
use Rattle.gds_read.specs.declared.refusal.StreamRefusal.TheVariants.{Bad, TooManyShapes, Memory}
use Rattle.gds_read.specs.WideReading.{IsWideReadAs, IsWideRefusedFor}

record IsOne (offset other : ℕ) (kind second : StreamKind) : Type 0 where
  place : offset ≡ other
  same_kind : kind ≡ second

one_of : (o : Option (ℕ × StreamKind)) (offset other : ℕ) (kind second : StreamKind) → o ≡ Some (offset, kind)
    → o ≡ Some (other, second) → IsOne offset other kind second
one_of None offset other kind second e f = absurd cc
one_of (Some p) offset other kind second e f =
    let q : (offset, kind) ≡ (other, second) = some_same (sym e ∙ f) in
    record { place = ap (λ (x : ℕ × StreamKind). x.0) q; same_kind = ap (λ (x : ℕ × StreamKind). x.1) q }
  where
    some_same : {a b : ℕ × StreamKind} → ◌≡◌ {A = Option (ℕ × StreamKind)} (Some a) (Some b) → a ≡ b
    some_same h = cc

module _ (found : (bytes : List ℕ) (layout : WideLayout) → IsWideStream bytes layout → layout ≡ wide_layout_in bytes)
    (none : (bytes : List ℕ) (layout : WideLayout) → IsWideStream bytes layout → first_fault_in wide bytes ≡ None)
    (fault : (bytes : List ℕ) (offset : ℕ) (kind : StreamKind) → WideFault bytes offset kind
    → first_fault_in wide bytes ≡ Some (offset, kind)) where
  size_is : (bytes : List ℕ) (layout other : WideLayout) → IsWideStream bytes layout → IsWideStream bytes other
      → wide_count layout ≡ wide_count other
  size_is bytes layout other s t = ap (λ (w : WideLayout). wide_count w)
      (found bytes layout s ∙ sym (found bytes other t))

  never : (bytes : List ℕ) (layout : WideLayout) (offset : ℕ) (kind : StreamKind) → IsWideStream bytes layout
      → WideFault bytes offset kind → ⊥
  never bytes layout offset kind s f = clash (first_fault_in wide bytes) (none bytes layout s)
      (fault bytes offset kind f)
    where
      clash : (o : Option (ℕ × StreamKind)) → o ≡ None → o ≡ Some (offset, kind) → ⊥
      clash None e f = cc
      clash (Some p) e f = cc

  pub none_taken : (bytes : List ℕ) (layout : WideLayout) (refusal : StreamRefusal) → IsWideStream bytes layout
      → wide_count layout ≤ shape_limit → IsWideRefusedFor bytes refusal → refusal ≡ Memory
  none_taken bytes layout (Bad offset kind) s h r = absurd (never bytes layout offset kind s r)
  none_taken bytes layout (TooManyShapes count) s h r = absurd
      (omega (arith, h, r.above, r.count_is, size_is bytes layout r.layout s r.stream))
  none_taken bytes layout Memory s h r = refl

  pub by_size : (bytes : List ℕ) (layout : WideLayout) (refusal : StreamRefusal) → IsWideStream bytes layout
      → shape_limit < wide_count layout → IsWideRefusedFor bytes refusal
      → (refusal ≡ TooManyShapes (told (wide_count layout))) ⊎ (refusal ≡ Memory)
  by_size bytes layout (Bad offset kind) s h r = absurd (never bytes layout offset kind s r)
  by_size bytes layout (TooManyShapes count) s h r = inl
      (ap (λ (n : ℕ). TooManyShapes n)
      (r.count_is ∙ ap (λ (n : ℕ). told n) (sym (size_is bytes layout r.layout s r.stream))))
  by_size bytes layout Memory s h r = inr refl

  pub by_fault : (bytes : List ℕ) (offset : ℕ) (kind : StreamKind) (refusal : StreamRefusal)
      → WideFault bytes offset kind → IsWideRefusedFor bytes refusal → (refusal ≡ Bad offset kind) ⊎ (refusal ≡ Memory)
  by_fault bytes offset kind (Bad other second) f r =
      let e = one_of (first_fault_in wide bytes) other offset second kind (fault bytes other second r)
      (fault bytes offset kind f) in
      inl (λ i. Bad (e.place i) (e.same_kind i))
  by_fault bytes offset kind (TooManyShapes count) f r = absurd (never bytes r.layout offset kind r.stream f)
  by_fault bytes offset kind Memory f r = inr refl

  pub not_read_large : (bytes : List ℕ) (layout other : WideLayout) → IsWideStream bytes layout
      → shape_limit < wide_count layout → IsWideReadAs bytes other → ⊥
  not_read_large bytes layout other s h r = omega
      (arith, h, r.flattenable.within, size_is bytes layout other s r.stream)

  pub not_read_faulty : (bytes : List ℕ) (offset : ℕ) (kind : StreamKind) (layout : WideLayout)
      → WideFault bytes offset kind → IsWideReadAs bytes layout → ⊥
  not_read_faulty bytes offset kind layout f r = never bytes layout offset kind r.stream f
