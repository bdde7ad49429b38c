-- A netlist is one of cells, or it has one first fault.
use Rattle.std.proofs.Common.{◌≡◌, ℕ, ◌<◌, Bool, true, false, List, length, Option, Some, None}
use Rattle.std.proofs.Common.{refl, ap, sym, ◌∙◌, subst, arith, inl, inr}
use Rattle.std.specs.Prelude.{slice_get}
use Rattle.std.specs.List.{list_all}
use Rattle.std.proofs.lemmas.Bool.{cases_eq, cases_lt}
use Rattle.std.proofs.lemmas.Option.{none-some, same_Some, slice_get_within}
use Rattle.circuit.specs.declared.gate.Gate.{Gate}
use Rattle.blif_read.specs.Parts.{NetView}
use Rattle.blif_read.specs.declared.netlist.Def.{Def}
use Rattle.cell_netlist.specs.Uses.{CellView, is_used_well, with_gates}
use Rattle.cell_netlist.specs.Levels.{LevelsFit, is_shown, level_in}
use Rattle.cell_netlist.specs.Faults.{IsSoundAt, IsSoundTo, HasFault, IsFaultOfDef, IsFed, IsUnfed, IsUnshown, IsFault}
use Rattle.cell_netlist.specs.Faults.{is_fed_well, IsCellNet}
use Rattle.cell_netlist.specs.Told.{IsNetOfCells, HasFirstFault}
use Rattle.cell_netlist.specs.declared.fault.CellFault.{CellFault}
use Rattle.cell_netlist.specs.declared.fault.CellFault.TheVariants.{Cover, Uses, Level, Outputs}
use Rattle.cell_netlist.proofs.OneGate.{gates_one}

both : (b : Bool) → b ≡ true → b ≡ false → ⊥
both b p q = let h : true ≡ false = sym p ∙ q in cc

gate_same : (o : Option (Option Gate)) (g h : Gate) → o ≡ Some (Some g) → o ≡ Some (Some h) → g ≡ h
gate_same o g h p q = same_Some g h (same_Some (Some g) (Some h) (sym p ∙ q))

gate_some : (o : Option (Option Gate)) (g : Gate) → o ≡ Some (Some g) → o ≡ Some None → ⊥
gate_some o g p q = none-some g (same_Some None (Some g) (sym q ∙ p))

-- a definition without fault has none
sound_none : (d : CellView) (j n : ℕ) (def : Def) (kind : CellFault) (level : ℕ → ℕ) → j < n → IsSoundAt d j def
    → LevelsFit d n level → HasFault d j def kind → ⊥
sound_none d j n def Cover level lt sound fit fault = gate_some (slice_get d.gates j) sound.gate sound.there fault
sound_none d j n def Uses level lt sound fit fault =
    let same = gate_same (slice_get d.gates j) fault.0 sound.gate fault.1 sound.there in
    both (is_used_well d j def sound.gate) sound.used_well (ap (is_used_well d j def) (sym same) ∙ fault.2)
sound_none d j n def Level level lt sound fit fault = elim fault.3 [
  | inl unfed ↦
      let same = gate_same (slice_get d.gates j) fault.0 sound.gate fault.1 sound.there in
      both (is_fed_well d j def sound.gate) sound.fed_well (ap (is_fed_well d j def) (sym same) ∙ unfed)
  | inr none ↦ none level (λ i gate low. fit i gate (omega (arith, low, lt)))
]
sound_none d j n def Outputs level lt sound fit fault = fault

-- a definition has one fault
kind_one : (d : CellView) (j : ℕ) (def : Def) (a b : CellFault) → HasFault d j def a → HasFault d j def b → a ≡ b
kind_one d j def Cover Cover p q = refl
kind_one d j def Cover Uses p q = absurd (gate_some (slice_get d.gates j) q.0 q.1 p)
kind_one d j def Cover Level p q = absurd (gate_some (slice_get d.gates j) q.0 q.1 p)
kind_one d j def Uses Cover p q = absurd (gate_some (slice_get d.gates j) p.0 p.1 q)
kind_one d j def Uses Uses p q = refl
kind_one d j def Uses Level p q =
    let same = gate_same (slice_get d.gates j) p.0 q.0 p.1 q.1 in
    absurd (both (is_used_well d j def q.0) q.2 (ap (is_used_well d j def) (sym same) ∙ p.2))
kind_one d j def Level Cover p q = absurd (gate_some (slice_get d.gates j) p.0 p.1 q)
kind_one d j def Level Uses p q =
    let same = gate_same (slice_get d.gates j) q.0 p.0 q.1 p.1 in
    absurd (both (is_used_well d j def p.0) p.2 (ap (is_used_well d j def) (sym same) ∙ q.2))
kind_one d j def Level Level p q = refl
kind_one d j def Outputs b p q = absurd p
kind_one d j def a Outputs p q = absurd q

-- no definition before a first one with a fault has one
not_before : (d : CellView) (line : ℕ) (kind : CellFault) (n : ℕ) → (a : IsFaultOfDef d line kind) → IsSoundTo d n
    → a.j < n → ⊥
not_before d line kind n a sound lt =
    sound_none d a.j n a.def kind sound.level lt (sound.each a.j a.def lt a.there) sound.fit a.fault

not_sound : (d : CellView) (line : ℕ) (kind : CellFault) → IsFaultOfDef d line kind
    → IsSoundTo d (length d.net.defs) → ⊥
not_sound d line kind a sound =
    not_before d line kind (length d.net.defs) a sound (slice_get_within d.net.defs a.j a.def a.there)

same_line : (d : CellView) (m n : ℕ) (j k : CellFault) → (a : IsFaultOfDef d m j) → (b : IsFaultOfDef d n k)
    → (m ≡ n) × (j ≡ k)
same_line d m n j k a b = elim (cases_eq a.j b.j) [
  | inl e ↦
      let def : a.def ≡ b.def = same_Some a.def b.def (sym a.there ∙ ap (slice_get d.net.defs) e ∙ b.there) in
      let fault : HasFault d b.j b.def j =
      subst (λ (x : Def). HasFault d b.j x j) def (subst (λ (i : ℕ). HasFault d i a.def j) e a.fault) in
      (a.line_is ∙ ap (λ (x : Def). x.line) def ∙ sym b.line_is, kind_one d b.j b.def j k fault b.fault)
  | inr ne ↦ elim (cases_lt a.j b.j) [
    | inl lt ↦ absurd (not_before d m j b.j a b.before lt)
    | inr le ↦ absurd (not_before d n k a.j b a.before (omega (arith, ne, le)))
  ]
]

-- the cases of a fault
data Case (d : CellView) (line : ℕ) (kind : CellFault) : Type 0 where
  of_def : IsFaultOfDef d line kind → Case d line kind
  unfed : line ≡ 0 → kind ≡ Uses → IsUnfed d → Case d line kind
  unshown : line ≡ 0 → kind ≡ Outputs → IsUnshown d → Case d line kind

case_of : (d : CellView) (line : ℕ) (kind : CellFault) → IsFault d line kind → Case d line kind
case_of d line Cover fault = of_def fault
case_of d line Uses fault = elim fault [
  | inl a ↦ of_def a
  | inr b ↦ unfed b.0 refl b.1
]
case_of d line Level fault = of_def fault
case_of d line Outputs fault = unshown fault.0 refl fault.1

-- an input without use, and all with one
unfed_not : (d : CellView) → IsUnfed d → IsFed d → ⊥
unfed_not d a b =
    let some = b.each_input a.input a.within in let none = a.unused in omega (arith, some, none)

fault_one : (d : CellView) (m n : ℕ) (j k : CellFault) → Case d m j → Case d n k → (m ≡ n) × (j ≡ k)
fault_one d m n j k (of_def a) (of_def b) = same_line d m n j k a b
fault_one d m n j k (of_def a) (unfed p q b) = absurd (not_sound d m j a b.sound)
fault_one d m n j k (of_def a) (unshown p q b) = absurd (not_sound d m j a b.fed.sound)
fault_one d m n j k (unfed p q a) (of_def b) = absurd (not_sound d n k b a.sound)
fault_one d m n j k (unfed p q a) (unfed s t b) = (p ∙ sym s, q ∙ sym t)
fault_one d m n j k (unfed p q a) (unshown s t b) = absurd (unfed_not d a b.fed)
fault_one d m n j k (unshown p q a) (of_def b) = absurd (not_sound d n k b a.fed.sound)
fault_one d m n j k (unshown p q a) (unfed s t b) = absurd (unfed_not d b a.fed)
fault_one d m n j k (unshown p q a) (unshown s t b) = (p ∙ sym s, q ∙ sym t)

pub first_fault_one : (net : NetView) (three : Bool) (m n : ℕ) (j k : CellFault) → HasFirstFault net three m j
    → HasFirstFault net three n k → (m ≡ n) × (j ≡ k)
first_fault_one net three m n j k a b =
    let gates = gates_one net.defs a.gates b.gates a.gates_are b.gates_are in
    let fault : IsFault (with_gates net b.gates three) m j =
    subst (λ (gs : List (Option Gate)). IsFault (with_gates net gs three) m j) gates a.fault in
    let d = with_gates net b.gates three in
    fault_one d m n j k (case_of d m j fault) (case_of d n k b.fault)

-- a netlist of cells has none
cells_none : (d : CellView) (level : ℕ → ℕ) (last line : ℕ) (kind : CellFault) → IsCellNet d level last
    → Case d line kind → ⊥
cells_none d level last line kind cells (of_def a) = not_sound d line kind a cells.fed.sound
cells_none d level last line kind cells (unfed p q a) = unfed_not d a cells.fed
cells_none d level last line kind cells (unshown p q a) = elim a.wrong [
  | inl e ↦ both (list_all (is_shown d) d.net.outputs) cells.shown e
  | inr none ↦ none level last cells.levels
]

pub cells_no_fault : (net : NetView) (three : Bool) (levels : List ℕ) (last line : ℕ) (kind : CellFault)
    → IsNetOfCells net three levels last → HasFirstFault net three line kind → ⊥
cells_no_fault net three levels last line kind a b =
    let gates = gates_one net.defs a.gates b.gates a.gates_are b.gates_are in
    let d = with_gates net b.gates three in
    let cells : IsCellNet d (level_in net.inputs levels) last =
    subst (λ (gs : List (Option Gate)). IsCellNet (with_gates net gs three) (level_in net.inputs levels) last) gates
    a.cells in
    cells_none d (level_in net.inputs levels) last line kind cells (case_of d line kind b.fault)

-- two last levels of a netlist of cells are one
pub last_one : (net : NetView) (three : Bool) (levels others : List ℕ) (m n : ℕ) → IsNetOfCells net three levels m
    → IsNetOfCells net three others n → m ≡ n
last_one net three levels others m n a b =
    let gates = gates_one net.defs a.gates b.gates a.gates_are b.gates_are in
    let first : IsCellNet (with_gates net b.gates three) (level_in net.inputs levels) m =
    subst (λ (gs : List (Option Gate)). IsCellNet (with_gates net gs three) (level_in net.inputs levels) m) gates
    a.cells in
    let low = first.lowest (level_in net.inputs others) n b.cells.levels in
    let high = b.cells.lowest (level_in net.inputs levels) m first.levels in
    omega (arith, low, high)
