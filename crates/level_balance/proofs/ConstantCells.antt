-- The plan has a cell of a constant for each use of it.
use Rattle.std.specs.Prelude.{◌≡◌, ℕ, suc, ◌+◌, ◌||◌, Bool, true, false, eqb, List, [], ◌∷◌, ◌++◌, length, drop}
use Rattle.std.specs.Prelude.{slice_get, Some}
use Rattle.std.proofs.Common.{refl, sym, ◌∙◌, arith}
use Rattle.std.proofs.lemmas.Bool.{eqb-true, eq-eqb, or_left, or_right}
use Rattle.circuit.specs.declared.cell_kind.CellKind.{CellKind}
use Rattle.circuit.specs.declared.cell_kind.CellKind.TheVariants.{Inverter, Majority, Zero, One}
use Rattle.circuit.specs.declared.gate.Gate.{Gate}
use Rattle.circuit.specs.declared.gate.Gate.TheVariants as gates
use Rattle.circuit.specs.PlainNets.{PlainView, is_constant, MayStand, IsPlainNet}
use Rattle.level_balance.specs.Uses.{operands, needed, counts, uses_from, uses, uses_of, use_count}
use Rattle.level_balance.specs.Plan.{Frame, frame, level_net}
use Rattle.level_balance.specs.Kinds.{one_of, cells_of, gate_kind}
use Rattle.level_balance.proofs.Frames.{counts_free}
use Rattle.level_balance.proofs.LawOfLaying.{drop_step}
use Rattle.level_balance.proofs.KindCounts.{IsApart, constants_of, gates_cells_of, plan_of_kind}

zero_uses : (n q : ℕ) (xs : List ℕ) → constants_of Zero n xs ≡ length (uses_of n q xs)
zero_uses n q [] = refl
zero_uses n q (x ∷ xs) = go (eqb x n) (eqb x (n + 1)) (zero_uses n (suc q) xs)
  where
    go : (a b : Bool) → constants_of Zero n xs ≡ length (uses_of n (suc q) xs)
        → (elim (a || b) as (λ (t : Bool). ℕ) [
          | true ↦ one_of Zero (elim a as (λ (t : Bool). CellKind) [ true ↦ Zero | false ↦ One ]) + constants_of Zero n
              xs
          | false ↦ constants_of Zero n xs
        ])
        ≡ length (elim a as (λ (t : Bool). List ℕ) [ true ↦ q ∷ uses_of n (suc q) xs | false ↦ uses_of n (suc q) xs ])
    go true b h = omega arith
    go false true h = omega arith
    go false false h = h

one_uses : (n q : ℕ) (xs : List ℕ) → constants_of One n xs ≡ length (uses_of (n + 1) q xs)
one_uses n q [] = refl
one_uses n q (x ∷ xs) = go (eqb x n) (eqb x (n + 1)) refl refl (one_uses n (suc q) xs)
  where
    go : (a b : Bool) → eqb x n ≡ a → eqb x (n + 1) ≡ b → constants_of One n xs ≡ length (uses_of (n + 1) (suc q) xs)
        → (elim (a || b) as (λ (t : Bool). ℕ) [
          | true ↦ one_of One (elim a as (λ (t : Bool). CellKind) [ true ↦ Zero | false ↦ One ]) + constants_of One n xs
          | false ↦ constants_of One n xs
        ])
        ≡ length (elim b as (λ (t : Bool). List ℕ) [
          | true ↦ q ∷ uses_of (n + 1)
              (suc q) xs
          | false ↦ uses_of (n + 1) (suc q) xs
        ])
    go true true e d h = absurd (let i = eqb-true x n e in let j = eqb-true x (n + 1) d in omega arith)
    go true false e d h = omega arith
    go false true e d h = omega arith
    go false false e d h = h

-- of this kind are constants alone
record IsConstants (k : CellKind) : Type 0 where
  pub apart : IsApart k
  pub inverter_other : one_of k Inverter ≡ 0
  pub majority_other : one_of k Majority ≡ 0

module _ (k : CellKind) (alone : IsConstants k) where
  own_other : (n i : ℕ) (g : Gate) → MayStand n i g → is_constant n i ≡ false → one_of k (gate_kind g) ≡ 0
  own_other n i (gates.Input j) may free = alone.apart.buffer
  own_other n i gates.Zero may free = let z : true ≡ false = sym (or_left _ _ (eq-eqb i n may)) ∙ free in cc
  own_other n i gates.One may free = let z : true ≡ false = sym (or_right _ _ (eq-eqb i (n + 1) may)) ∙ free in cc
  own_other n i (gates.Buf x) may free = alone.apart.buffer
  own_other n i (gates.Inv x) may free = alone.inverter_other
  own_other n i (gates.Maj x y z) may free = alone.majority_other

  constants_append : (n : ℕ) (xs ys : List ℕ) → constants_of k n (xs ++ ys) ≡ constants_of k n xs + constants_of k n ys
  constants_append n [] ys = omega arith
  constants_append n (x ∷ xs) ys = by (is_constant n x) refl (constants_append n xs ys)
    where
      by : (b : Bool) → is_constant n x ≡ b → constants_of k n (xs ++ ys) ≡ constants_of k n xs + constants_of k n ys
          → constants_of k n (x ∷ xs ++ ys) ≡ constants_of k n (x ∷ xs) + constants_of k n ys
      by true e h = rw (e, constants_of) (omega arith)
      by false e h = rw (e, constants_of) h

  gates_constants : (f : Frame) (all : List Gate)
      → ((i : ℕ) (g : Gate) → slice_get all i ≡ Some g → MayStand f.inputs i g)
      → (i : ℕ) (gs : List Gate) → drop i all ≡ gs
      → gates_cells_of k f i gs ≡ constants_of k f.inputs (uses_from f.inputs f.marks i gs)
  gates_constants f all stands i [] d = refl
  gates_constants f all stands i (g ∷ gs) d =
      let st = drop_step i all g gs d in
      by (counts f.inputs f.marks i) refl (stands i g st.0) (gates_constants f all stands (suc i) gs st.1)
    where
      by : (b : Bool) → counts f.inputs f.marks i ≡ b → MayStand f.inputs i g
          → gates_cells_of k f (suc i) gs ≡ constants_of k f.inputs (uses_from f.inputs f.marks (suc i) gs)
          → gates_cells_of k f i (g ∷ gs) ≡ constants_of k f.inputs (uses_from f.inputs f.marks i (g ∷ gs))
      by true c may h =
          rw (c, gates_cells_of, uses_from)
          (let own = own_other f.inputs i g may (counts_free f.inputs f.marks i c) in
          let both = constants_append f.inputs (operands g) (uses_from f.inputs f.marks (suc i) gs) in omega arith)
      by false c may h = rw (c, gates_cells_of, uses_from) h

  constant_cells : (net : PlainView) (three : Bool) → IsPlainNet net
      → cells_of k (level_net net three).rows ≡ constants_of k net.inputs (uses net (needed net))
  unfolding frame
  constant_cells net three known =
      let a = plan_of_kind k alone.apart net three known in
      let b = gates_constants (frame net three) net.gates known.gates_stand.stands 0 net.gates refl in
      let c = constants_append net.inputs (uses_from net.inputs (needed net) 0 net.gates) net.outputs in omega arith

pub zero_cells : (net : PlainView) (three : Bool) → IsPlainNet net
    → cells_of Zero (level_net net three).rows ≡ use_count (uses net (needed net)) net.inputs
zero_cells net three known =
    constant_cells Zero (record {
      apart = record { buffer = refl; two = refl; three = refl };
      inverter_other = refl;
      majority_other = refl;
    }) net three known
    ∙ zero_uses net.inputs 0 (uses net (needed net))

pub one_cells : (net : PlainView) (three : Bool) → IsPlainNet net
    → cells_of One (level_net net three).rows ≡ use_count (uses net (needed net)) (net.inputs + 1)
one_cells net three known =
    constant_cells One (record {
      apart = record { buffer = refl; two = refl; three = refl };
      inverter_other = refl;
      majority_other = refl;
    }) net three known
    ∙ one_uses net.inputs 0 (uses net (needed net))
