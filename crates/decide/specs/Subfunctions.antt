-- The subfunctions of two circuits: what a gate gives where the first inputs have certain values.
use Rattle.std.specs.Prelude.{◌≡◌, ◌≢◌, ℕ, suc, ◌<◌, ◌≤◌, Bool, true, false, List, [], ◌∷◌, ◌++◌, length, drop}
use Rattle.std.specs.List.{AllByRecursion}
use Rattle.circuit.specs.PlainNets.{PlainView}
use Rattle.circuit.specs.declared.gate.Gate.{Gate}
use Rattle.circuit.specs.CellNets.{value}

-- a subfunction's name: a gate of the first circuit, or of the second one, and the values of the first inputs
pub record Name : Type 0 where
  pub second : Bool
  pub gate : ℕ
  pub values : List Bool

-- the gates of the second circuit where that is meant, else those of the first
abbrev pub gates_of : PlainView → PlainView → Bool → List Gate
gates_of a b false = a.gates
gates_of a b true = b.gates

-- the gate is there, and so are the inputs
pub record IsName (a b : PlainView) (name : Name) : Type 0 where
  pub gate_within : name.gate < length (gates_of a b name.second)
  pub values_within : length name.values ≤ a.inputs

-- the value at a word: that of the gate on the word that has the named values first
abbrev pub subvalue : PlainView → PlainView → Name → List Bool → Bool
subvalue a b name x = value (gates_of a b name.second) (name.values ++ drop (length name.values) x) name.gate

-- some word of n inputs gives different values
pub record Differ (n : ℕ) (f g : List Bool → Bool) : Type 0 where
  pub word : List Bool
  pub long : length word ≡ n
  pub differ : f word ≢ g word

-- every word of n inputs gives the same value
abbrev pub IsConstant : ℕ → (List Bool → Bool) → Type 0
IsConstant n f = (x y : List Bool) → length x ≡ n → length y ≡ n → f x ≡ f y

-- every two of a list are so related
abbrev pub EachTwo : {A : Type 0} → (A → A → Type 0) → List A → Type 0
EachTwo R [] = Unit {0}
EachTwo R (x ∷ xs) = AllByRecursion (R x) xs × EachTwo R xs

-- a list of names of which every two differ and none is constant
pub record AreSubfunctions (a b : PlainView) (names : List Name) : Type 0 where
  pub named : AllByRecursion (IsName a b) names
  pub distinct : EachTwo (λ m m'. Differ a.inputs (subvalue a b m) (subvalue a b m')) names
  pub varied : AllByRecursion (λ m. ¬ IsConstant a.inputs (subvalue a b m)) names

-- the two circuits have at most so many subfunctions
abbrev pub HasAtMost : PlainView → PlainView → ℕ → Type 0
HasAtMost a b most = (names : List Name) → length names ≡ suc most → ¬ AreSubfunctions a b names
