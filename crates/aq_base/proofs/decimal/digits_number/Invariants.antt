use Rattle.std.proofs.Common.{ℕ, ◌≡◌, ◌<◌, take, get_or}
use Rattle.std.specs.Char.{IsAsciiDigit}
use Rattle.std.specs.Str.Parse.{digits_value}
use Rattle.aq_base.proofs.decimal.digits_number.Given as goal

abbrev pub invariant-loop-byte : goal.invariant-loop-byte
invariant-loop-byte l = record {
  digits : (k : ℕ) → k < l.byte-index → IsAsciiDigit (get_or l.text k 0);
  so_far : l.number ≡ digits_value 10 (take l.byte-index l.text);
}
