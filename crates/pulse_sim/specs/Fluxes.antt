-- The flux of a cell and the sign that it takes, after the AQFP literature: a gate that is excited takes the sign of
-- the sum of its input currents, and holds nothing while it is not excited.
use Rattle.std.specs.Prelude.{◌≡◌, ◌⊎◌, zero, suc, ℤ, pos, negsuc, neg_ℤ, Bool, true, false}
use Rattle.circuit.specs.declared.cell_kind.CellKind.{CellKind}
use Rattle.circuit.specs.declared.cell_kind.CellKind.TheVariants.{Buffer, Inverter, Zero, One, Split2, Split3, Majority}
use Rattle.pulse_sim.specs.declared.flux.Flux.{Flux}
use Rattle.pulse_sim.specs.declared.flux.Flux.TheVariants.{Minus, Off, Plus}

-- the sign of a truth value
abbrev pub sign : Bool → Flux
sign true = Plus
sign false = Minus

-- a flux as a number
abbrev pub amount : Flux → ℤ
amount Minus = negsuc 0
amount Off = pos 0
amount Plus = pos 1

-- where nothing decides a sign, either may come
abbrev pub EitherSign : Flux → Type 0
EitherSign flux = (flux ≡ Plus) ⊎ (flux ≡ Minus)

-- where nothing decides a sign, minus comes: so it is in a settled run
abbrev pub MinusAlone : Flux → Type 0
MinusAlone flux = flux ≡ Minus

-- a sign of a sum of fluxes; nothing decides that of 0
abbrev pub IsSignOf : (Flux → Type 0) → ℤ → Flux → Type 0
IsSignOf undecided (pos zero) flux = undecided flux
IsSignOf undecided (pos (suc n)) flux = flux ≡ Plus
IsSignOf undecided (negsuc n) flux = flux ≡ Minus

-- what a cell may take that switches on this sum of its feeds: a constant its own sign, an inverter the sign turned
-- round
abbrev pub MayTake : (Flux → Type 0) → CellKind → ℤ → Flux → Type 0
MayTake undecided Buffer sum flux = IsSignOf undecided sum flux
MayTake undecided Inverter sum flux = IsSignOf undecided (neg_ℤ sum) flux
MayTake undecided Zero sum flux = flux ≡ Minus
MayTake undecided One sum flux = flux ≡ Plus
MayTake undecided Split2 sum flux = IsSignOf undecided sum flux
MayTake undecided Split3 sum flux = IsSignOf undecided sum flux
MayTake undecided Majority sum flux = IsSignOf undecided sum flux
