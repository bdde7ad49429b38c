-- The plan's rows of small nets, computed.
use Rattle.std.specs.Prelude.{◌≡◌, true, false, [], ◌∷◌, refl}
use Rattle.circuit.specs.declared.cell_kind.CellKind.TheVariants.{Buffer, Inverter, Zero, One, Split2, Split3, Majority}
use Rattle.level_balance.specs.Examples.{sizes, row_kinds, exclusive_or, three_outputs}

pub xor_sizes : sizes exclusive_or true ≡ 2 ∷ 4 ∷ 2 ∷ 3 ∷ 1 ∷ 1 ∷ []
unfolding sizes exclusive_or
xor_sizes = refl

pub xor_kinds : row_kinds exclusive_or true
    ≡ (Buffer ∷ Buffer ∷ []) ∷ (Split2 ∷ Split2 ∷ One ∷ Zero ∷ []) ∷ (Majority ∷ Majority ∷ [])
    ∷ (Buffer ∷ Inverter ∷ Zero ∷ []) ∷ (Majority ∷ []) ∷ (Buffer ∷ []) ∷ []
unfolding row_kinds exclusive_or
xor_kinds = refl

pub wide_splitter : row_kinds three_outputs true ≡ (Buffer ∷ []) ∷ (Split3 ∷ []) ∷ (Buffer ∷ Buffer ∷ Buffer ∷ []) ∷ []
unfolding row_kinds three_outputs
wide_splitter = refl

pub narrow_splitters : row_kinds three_outputs
    false ≡ (Buffer ∷ []) ∷ (Split2 ∷ []) ∷ (Split2 ∷ Buffer ∷ []) ∷ (Buffer ∷ Buffer ∷ Buffer ∷ []) ∷ []
unfolding row_kinds three_outputs
narrow_splitters = refl
