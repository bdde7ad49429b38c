-- Covers by their values.
use Rattle.std.proofs.Common.{◌≡◌, ◌≢◌, ℕ, Bool, true, false, not, List, [], ◌∷◌, map, length, refl, ap, sym, ◌∙◌}
use Rattle.std.proofs.Common.{arith, inl, inr}
use Rattle.std.specs.Prelude.{◌&&◌, ◌||◌, cond, eqb}
use Rattle.std.specs.List.{list_any}
use Rattle.std.proofs.lemmas.Bool.{cond-true, cond-false, eq-eqb}
use Rattle.std.proofs.lemmas.Bool.Decides.{eqb_tells}
use Rattle.circuit.specs.Function.{majority}
use Rattle.circuit.specs.declared.gate.Gate.{Gate}
use Rattle.circuit.specs.declared.gate.Gate.TheVariants.{Input, Zero, One, Buf, Inv, Maj}
use Rattle.blif_read.specs.Equations.{takes, matches, cover_value}
use Rattle.blif_read.specs.declared.netlist.Def.{Def}
use Rattle.blif_read.specs.declared.netlist.Cube.{Cube}
use Rattle.cell_netlist.specs.Kinds.{operands_of, IsCellGate, Computes}
use Rattle.cell_netlist.specs.Code.Covers.{takes_each, cover_at, IsMajority}

matches_each : (plane signals : List ℕ) (v : ℕ → Bool) → matches plane signals v ≡ takes_each plane (map v signals)
matches_each [] signals v = refl
matches_each (b ∷ bs) [] v = refl
matches_each (b ∷ bs) (s ∷ signals) v = ap (λ (x : Bool). takes b (v s) && x) (matches_each bs signals v)

any_each : (cubes : List Cube) (signals : List ℕ) (v : ℕ → Bool)
    → list_any (λ (cube : Cube). matches cube.plane signals v) cubes
    ≡ list_any (λ (cube : Cube). takes_each cube.plane (map v signals)) cubes
any_each [] signals v = refl
any_each (cube ∷ cubes) signals v =
    ap (λ (x : Bool). x || list_any (λ (cube : Cube). matches cube.plane signals v) cubes)
    (matches_each cube.plane signals v)
    ∙ ap (λ (x : Bool). takes_each cube.plane (map v signals) || x) (any_each cubes signals v)

on_each : (on a b : Bool) → a ≡ b
    → ◌≡◌ {A = Bool} (elim on [ true ↦ a | false ↦ not a ]) (elim on [ true ↦ b | false ↦ not b ])
on_each true a b e = e
on_each false a b e = ap not e

-- the value of a cover is that at the values of its inputs
pub by_values : (def : Def) (v : ℕ → Bool) → cover_value def v ≡ cover_at def (map v def.inputs)
by_values def v =
    on_each def.on (list_any (λ (cube : Cube). matches cube.plane def.inputs v) def.cubes)
    (list_any (λ (cube : Cube). takes_each cube.plane (map v def.inputs)) def.cubes)
    (any_each def.cubes def.inputs v)

pub with_inputs : (def : Def) (ss : List ℕ) (v : ℕ → Bool) → def.inputs ≡ ss
    → cover_value def v ≡ cover_at def (map v ss)
with_inputs def ss v e = by_values def v ∙ ap (λ (xs : List ℕ). cover_at def (map v xs)) e

-- without inputs

pub is_one : (def : Def) → def.inputs ≡ [] → cover_at def [] ≡ true → Computes def One
is_one def e is = record { cell = tt; named = e; valued = λ v. with_inputs def [] v e ∙ is }

pub is_zero : (def : Def) → def.inputs ≡ [] → cover_at def [] ≡ false → Computes def Zero
is_zero def e is = record { cell = tt; named = e; valued = λ v. with_inputs def [] v e ∙ is }

-- with one input

at_one : (def : Def) (x : ℕ) (f : Bool → Bool) → cover_at def (false ∷ []) ≡ f false → cover_at def (true ∷ []) ≡ f true
    → (b : Bool) → cover_at def (b ∷ []) ≡ f b
at_one def x f low high false = low
at_one def x f low high true = high

pub is_buffer : (def : Def) (x : ℕ) → def.inputs ≡ x ∷ [] → cover_at def (false ∷ []) ≡ false
    → cover_at def (true ∷ []) ≡ true → Computes def (Buf x)
is_buffer def x e low high = record {
  cell = tt;
  named = e;
  valued = λ v. with_inputs def (x ∷ []) v e ∙ at_one def x (λ b. b) low high (v x);
}

pub is_inverter : (def : Def) (x : ℕ) → def.inputs ≡ x ∷ [] → cover_at def (false ∷ []) ≡ true
    → cover_at def (true ∷ []) ≡ false → Computes def (Inv x)
is_inverter def x e low high = record {
  cell = tt;
  named = e;
  valued = λ v. with_inputs def (x ∷ []) v e ∙ at_one def x not low high (v x);
}

-- the length of the list tells the kinds of gates
named_long : (def : Def) (gate : Gate) → Computes def gate → length def.inputs ≡ length (operands_of gate)
named_long def gate is = ap length is.named

pub one_none : (def : Def) (x : ℕ) → def.inputs ≡ x ∷ [] → cover_at def (false ∷ []) ≡ cover_at def (true ∷ [])
    → (gate : Gate) → Computes def gate → ⊥
one_none def x e same (Input i) is = is.cell
one_none def x e same Zero is =
    let long = named_long def Zero is in let long' = ap length e in absurd (omega (arith, long, long'))
one_none def x e same One is =
    let long = named_long def One is in let long' = ap length e in absurd (omega (arith, long, long'))
one_none def x e same (Buf y) is =
    let low : cover_at def (false ∷ []) ≡ false =
    sym (with_inputs def (x ∷ []) (λ s. false) e) ∙ is.valued (λ s. false) in
    let high : cover_at def (true ∷ []) ≡ true = sym (with_inputs def (x ∷ []) (λ s. true) e) ∙ is.valued (λ s. true) in
    cc
one_none def x e same (Inv y) is =
    let low : cover_at def (false ∷ []) ≡ true =
    sym (with_inputs def (x ∷ []) (λ s. false) e) ∙ is.valued (λ s. false) in
    let high : cover_at def (true ∷ []) ≡ false =
    sym (with_inputs def (x ∷ []) (λ s. true) e) ∙ is.valued (λ s. true) in
    cc
one_none def x e same (Maj y z w) is =
    let long = named_long def (Maj y z w) is in let long' = ap length e in absurd (omega (arith, long, long'))

-- with three inputs

pub is_maj : (def : Def) (x y z : ℕ) → def.inputs ≡ x ∷ y ∷ z ∷ [] → (x ≡ y → ⊥) → (x ≡ z → ⊥) → (y ≡ z → ⊥)
    → IsMajority def → Computes def (Maj x y z)
is_maj def x y z e xy xz yz is = record {
  cell = (xy, xz, yz);
  named = e;
  valued = λ v. with_inputs def (x ∷ y ∷ z ∷ []) v e ∙ is (v x) (v y) (v z);
}

-- values of three signals that differ
pick : ℕ → ℕ → Bool → Bool → Bool → ℕ → Bool
pick x y a b c s = cond (eqb s x) a (cond (eqb s y) b c)

pick_x : (x y : ℕ) (a b c : Bool) (s : ℕ) → s ≡ x → pick x y a b c s ≡ a
unfolding pick
pick_x x y a b c s e = cond-true (eqb s x) a (cond (eqb s y) b c) (eq-eqb s x e)

not_eqb : (s x : ℕ) → (s ≡ x → ⊥) → eqb s x ≡ false
not_eqb s x ne = elim (eqb_tells s x) [ inl p ↦ absurd (ne p.1) | inr p ↦ p.0 ]

pick_y : (x y : ℕ) (a b c : Bool) (s : ℕ) → (s ≡ x → ⊥) → s ≡ y → pick x y a b c s ≡ b
unfolding pick
pick_y x y a b c s ne e =
    cond-false (eqb s x) a (cond (eqb s y) b c) (not_eqb s x ne) ∙ cond-true (eqb s y) b c (eq-eqb s y e)

pick_z : (x y : ℕ) (a b c : Bool) (s : ℕ) → (s ≡ x → ⊥) → (s ≡ y → ⊥) → pick x y a b c s ≡ c
unfolding pick
pick_z x y a b c s nx ny =
    cond-false (eqb s x) a (cond (eqb s y) b c) (not_eqb s x nx) ∙ cond-false (eqb s y) b c (not_eqb s y ny)

-- three lists of one item each, from an equation
first_same : (x y z a b c : ℕ) → (x ∷ y ∷ z ∷ []) ≡ (a ∷ b ∷ c ∷ []) → (x ≡ a) × (y ≡ b) × (z ≡ c)
first_same x y z a b c e = (cc, cc, cc)

apart_of : (a b c x y z : ℕ) → IsCellGate (Maj a b c) → (x ≡ a) → (y ≡ b) → (z ≡ c)
    → (x ≢ y) × (x ≢ z) × (y ≢ z)
apart_of a b c x y z cell p q r =
    (λ e. cell.0 (sym p ∙ e ∙ q), λ e. cell.1 (sym p ∙ e ∙ r), λ e. cell.2 (sym q ∙ e ∙ r))

majority_at : (x y z a b c : Bool) → x ≡ a → y ≡ b → z ≡ c → majority x y z ≡ majority a b c
majority_at x y z a b c p q r =
    ap (λ (t : Bool). majority t y z) p ∙ ap (λ (t : Bool). majority a t z) q ∙ ap (λ (t : Bool). majority a b t) r

three_at : (def : Def) (x y z : ℕ) → Computes def (Maj x y z) → IsMajority def
three_at def x y z is a b c =
    let v : ℕ → Bool = pick x y a b c in
    let px : v x ≡ a = pick_x x y a b c x refl in
    let py : v y ≡ b = pick_y x y a b c y (λ e. is.cell.0 (sym e)) refl in
    let pz : v z ≡ c = pick_z x y a b c z (λ e. is.cell.1 (sym e)) (λ e. is.cell.2 (sym e)) in
    let here : cover_at def (v x ∷ v y ∷ v z ∷ []) ≡ majority (v x) (v y) (v z) =
    sym (with_inputs def (x ∷ y ∷ z ∷ []) v is.named) ∙ is.valued v in
    ap (λ (t : Bool). cover_at def (t ∷ b ∷ c ∷ [])) (sym px)
    ∙ ap (λ (t : Bool). cover_at def (v x ∷ t ∷ c ∷ [])) (sym py)
    ∙ ap (λ (t : Bool). cover_at def (v x ∷ v y ∷ t ∷ [])) (sym pz)
    ∙ here ∙ majority_at (v x) (v y) (v z) a b c px py pz

-- a definition with three inputs computes a majority or no gate of a cell
pub three_none : (def : Def) (x y z : ℕ) → def.inputs ≡ x ∷ y ∷ z ∷ []
    → ((x ≢ y) → (x ≢ z) → (y ≢ z) → IsMajority def → ⊥) → (gate : Gate) → Computes def gate → ⊥
three_none def x y z e none (Input i) is = is.cell
three_none def x y z e none Zero is =
    let long = named_long def Zero is in let long' = ap length e in absurd (omega (arith, long, long'))
three_none def x y z e none One is =
    let long = named_long def One is in let long' = ap length e in absurd (omega (arith, long, long'))
three_none def x y z e none (Buf y') is =
    let long = named_long def (Buf y') is in let long' = ap length e in absurd (omega (arith, long, long'))
three_none def x y z e none (Inv y') is =
    let long = named_long def (Inv y') is in let long' = ap length e in absurd (omega (arith, long, long'))
three_none def x y z e none (Maj a b c) is =
    let same = first_same x y z a b c (sym e ∙ is.named) in
    let apart = apart_of a b c x y z is.cell same.0 same.1 same.2 in
    none apart.0 apart.1 apart.2 (three_at def a b c is)

-- lists by their length and their items

pub past : (plane : List ℕ) (values : List Bool) → values ≡ [] → takes_each plane values ≡ true
past [] values e = refl
past (b ∷ bs) values e = ap (takes_each (b ∷ bs)) e
