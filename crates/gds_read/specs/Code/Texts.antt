-- Parts of the bytes that are read, as a list of texts.
use Rattle.std.specs.Prelude.{ℕ, List, map}
use Rattle.std.proofs.Common.{Bor}

-- the bytes of borrowed parts
abbrev pub texts : List (Bor (List ℕ)) → List (List ℕ)
texts parts = map (λ t. t.now) parts
