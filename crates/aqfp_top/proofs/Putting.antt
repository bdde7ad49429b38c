-- What an attempt to put a line leaves.
use Rattle.std.proofs.Common.{ℕ, ◌≡◌, ◌⊎◌, inl, inr, List, Result, Ok, Err, OnOk, IfErr}
use Rattle.aq_base.specs.declared.store.StoreRefusal.{StoreRefusal}
use Rattle.aq_base.specs.Output.{Output, printed, PrintsPart}
use Rattle.aqfp_top.specs.Lines.{IsCutShort}

-- the sink has taken it, or some first bytes of it, and then no more
pub attempted : (o o' : Output) (line : List ℕ) (result : Result (Unit {0}) StoreRefusal)
    → OnOk result (o' ≡ printed line o)
    → IfErr result (PrintsPart o o' line) → (o' ≡ printed line o) ⊎ IsCutShort o o' line
attempted o o' line (Ok u) added part = inl added
attempted o o' line (Err why) added part = inr (record { why = why; part = part })
