use Rattle.std.proofs.Common.{◌≡◌, ℕ, suc, ◌+◌, ◌<◌, length, sym, subst, arith}
use Rattle.rowed.specs.PlacedNets.{row_of}
use Rattle.rowed.specs.Short.{IsShort}
use Rattle.rowed.proofs.NumberedRows.{short_channel, short_channels}
use Rattle.rowed.proofs.laws.short_by_channel.Goals as goal

next : (k : ℕ) → suc k ≡ k + 1
next k = omega arith

pub returns : goal.returns
returns c = record {
  each = λ p reach k known short lt.
      let h : suc k < length p.net.rows = omega arith in
      subst (λ (n : ℕ). IsShort reach (row_of p k) (row_of p n)) (next k) (short_channel p known reach short k h);
  all = λ p reach known each. short_channels p known reach (λ k lt.
      let h : k + 1 < length p.net.rows = omega (arith, lt) in
      subst (λ (n : ℕ). IsShort reach (row_of p k) (row_of p n)) (sym (next k)) (each k h));
}
