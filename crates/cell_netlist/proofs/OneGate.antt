-- A definition computes one gate at most.
use Rattle.std.proofs.Common.{◌≡◌, ℕ, Bool, true, List, [], ◌∷◌, Option, Some, None, refl, ap, sym, ◌∙◌}
use Rattle.circuit.specs.Gates.{gate_value}
use Rattle.circuit.specs.declared.gate.Gate.{Gate}
use Rattle.circuit.specs.declared.gate.Gate.TheVariants.{Input, Zero, One, Buf, Inv, Maj}
use Rattle.blif_read.specs.declared.netlist.Def.{Def}
use Rattle.cell_netlist.specs.Kinds.{operands_of, IsCellGate, Computes, IsGateOf, AreGatesOf}

first_of : List ℕ → ℕ
first_of [] = 0
first_of (x ∷ xs) = x

rest_of : List ℕ → List ℕ
rest_of [] = []
rest_of (x ∷ xs) = xs

abbrev at_true : Gate → Bool
at_true gate = gate_value [] (λ (s : ℕ). true) gate

-- two gates of a cell with the same signals and the same value where all signals are true
one_gate : (g h : Gate) → IsCellGate g → IsCellGate h → operands_of g ≡ operands_of h → at_true g ≡ at_true h → g ≡ h
unfolding first_of rest_of
one_gate (Input i) h a b e v = absurd a
one_gate g (Input i) a b e v = absurd b
one_gate Zero Zero a b e v = refl
one_gate Zero One a b e v = absurd (cc)
one_gate Zero (Buf x) a b e v = absurd (cc)
one_gate Zero (Inv x) a b e v = absurd (cc)
one_gate Zero (Maj x y z) a b e v = absurd (cc)
one_gate One Zero a b e v = absurd (cc)
one_gate One One a b e v = refl
one_gate One (Buf x) a b e v = absurd (cc)
one_gate One (Inv x) a b e v = absurd (cc)
one_gate One (Maj x y z) a b e v = absurd (cc)
one_gate (Buf x) Zero a b e v = absurd (cc)
one_gate (Buf x) One a b e v = absurd (cc)
one_gate (Buf x) (Buf y) a b e v = ap (λ (n : ℕ). Buf n) (ap first_of e)
one_gate (Buf x) (Inv y) a b e v = absurd (cc)
one_gate (Buf x) (Maj p q r) a b e v = absurd (cc)
one_gate (Inv x) Zero a b e v = absurd (cc)
one_gate (Inv x) One a b e v = absurd (cc)
one_gate (Inv x) (Buf y) a b e v = absurd (cc)
one_gate (Inv x) (Inv y) a b e v = ap (λ (n : ℕ). Inv n) (ap first_of e)
one_gate (Inv x) (Maj p q r) a b e v = absurd (cc)
one_gate (Maj x y z) Zero a b e v = absurd (cc)
one_gate (Maj x y z) One a b e v = absurd (cc)
one_gate (Maj x y z) (Buf p) a b e v = absurd (cc)
one_gate (Maj x y z) (Inv p) a b e v = absurd (cc)
one_gate (Maj x y z) (Maj p q r) a b e v =
    ap (λ (n : ℕ). Maj n y z) (ap first_of e)
    ∙ ap (λ (n : ℕ). Maj p n z) (ap (λ (xs : List ℕ). first_of (rest_of xs)) e)
    ∙ ap (λ (n : ℕ). Maj p q n) (ap (λ (xs : List ℕ). first_of (rest_of (rest_of xs))) e)

computes_one : (def : Def) (g h : Gate) → Computes def g → Computes def h → g ≡ h
computes_one def g h a b =
    one_gate g h a.cell b.cell (sym a.named ∙ b.named) (sym (a.valued (λ (s : ℕ). true)) ∙ b.valued (λ (s : ℕ). true))

gate_one : (def : Def) (a b : Option Gate) → IsGateOf def a → IsGateOf def b → a ≡ b
gate_one def None None p q = refl
gate_one def None (Some h) p q = absurd (p h q)
gate_one def (Some g) None p q = absurd (q g p)
gate_one def (Some g) (Some h) p q = ap (λ (x : Gate). Some x) (computes_one def g h p q)

-- so there is one list of gates
pub gates_one : (defs : List Def) (a b : List (Option Gate)) → AreGatesOf defs a → AreGatesOf defs b → a ≡ b
gates_one [] [] [] p q = refl
gates_one [] [] (h ∷ b) p q = absurd q
gates_one [] (g ∷ a) b p q = absurd p
gates_one (def ∷ defs) [] b p q = absurd p
gates_one (def ∷ defs) (g ∷ a) [] p q = absurd q
gates_one (def ∷ defs) (g ∷ a) (h ∷ b) p q =
    ap (λ (x : Option Gate). x ∷ a) (gate_one def g h p.0 q.0)
    ∙ ap (λ (xs : List (Option Gate)). h ∷ xs) (gates_one defs a b p.1 q.1)
