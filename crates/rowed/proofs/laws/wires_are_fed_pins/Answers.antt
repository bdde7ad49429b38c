use Rattle.std.proofs.Common.{◌≡◌, ℕ, suc, ◌+◌, ◌<◌, length, Some, Contains, subst, arith}
use Rattle.rowed.specs.declared.source.Source.{Source}
use Rattle.rowed.specs.RowNets.{cell_at, fed_at}
use Rattle.rowed.specs.PlacedNets.{PlacedView, row_of}
use Rattle.rowed.specs.Channels.{Link, User, channel_links, link_to}
use Rattle.rowed.proofs.NumberedRows.{fed_link_at, user_of, to_tells, from_tells, SameUser}
use Rattle.rowed.proofs.laws.wires_are_fed_pins.Goals as goal

next : (k : ℕ) → suc k ≡ k + 1
next k = omega arith

-- what holds of row k + 1 as the row after row k
abbrev EndTells : PlacedView → ℕ → ℕ → Type 0
EndTells p k n = (v w : Link) (a : User (row_of p k) (row_of p n) v) (b : User (row_of p k) (row_of p n) w)
    → v.to ≡ w.to
    → SameUser (row_of p k) (row_of p n) v w a b

abbrev StartTells : PlacedView → ℕ → ℕ → Type 0
StartTells p k n = (v w : Link) (a : User (row_of p k) (row_of p n) v) (b : User (row_of p k) (row_of p n) w)
    → v.from ≡ w.from → SameUser (row_of p k) (row_of p n) v w a b

abbrev WireThere : PlacedView → ℕ → ℕ → Type 0
WireThere p k n = (number pin : ℕ) (s : Source) → fed_at (cell_at p.net.rows n number) pin ≡ Some s
    → Contains (channel_links (row_of p k) (row_of p n)) (link_to (row_of p k) (row_of p n) number pin s)

below : (p : PlacedView) (k : ℕ) → k + 1 < length p.net.rows → suc k < length p.net.rows
below p k lt = omega arith

pub returns : goal.returns
returns c = record {
  wire = λ p k number pin s known lt fed.
      subst (WireThere p k) (next k) (λ m i t at. fed_link_at p known k m i t (below p k lt) at) number pin s fed;
  user = λ p k w there. user_of (row_of p k) (row_of p (k + 1)) w there;
  by_end = λ p k v w a b known lt e. subst (EndTells p k) (next k) (to_tells p known k (below p k lt)) v w a b e;
  by_start = λ p k v w a b known lt e. subst (StartTells p k) (next k) (from_tells p known k (below p k lt)) v w a b e;
}
