-- How long the sample's netlist is at most.
use Rattle.std.proofs.Common.{ℕ, zero, suc, ◌+◌, ◌-◌, ◌*◌, ◌≤◌, ◌<◌, List, length, arith, length-append}
use Rattle.std.proofs.lemmas.Fmt.{length-decimal-le_succ}
use Rattle.sample_adder.specs.declared.adder.Signal.{Signal}
use Rattle.sample_adder.specs.Adder.{name_of, first_bit, second_bit, sum_bit, carry_bit, one_set, both_set, carried_on}
use Rattle.sample_adder.specs.Adder.{exclusive_rows, both_rows, either_rows, gate, half_adder, full_adder, full_adders}
use Rattle.sample_adder.specs.Adder.{summand_names, sum_names, head, foot, adder}

name_bytes : (signal : Signal) → signal.number ≤ 64 → length (name_of signal) ≤ 66
name_bytes signal few =
    let digits = length-decimal-le_succ signal.number (omega arith) in
    omega arith

gate_bytes : (x y out : Signal) (rows : List ℕ) → x.number ≤ 64 → y.number ≤ 64 → out.number ≤ 64 → length rows ≤ 10 →
    length (gate x y out rows) ≤ 218
unfolding gate
gate_bytes x y out rows p q r s = simp length-append (omega (arith, name_bytes x p, name_bytes y q, name_bytes out r))

half_bytes : length half_adder ≤ 436
unfolding half_adder
half_bytes =
    let zero : 0 ≤ 64 = omega arith in
    let one : 1 ≤ 64 = omega arith in
    let sum = gate_bytes (first_bit 0) (second_bit 0) (sum_bit 0) exclusive_rows zero zero zero (omega arith) in
    let carry = gate_bytes (first_bit 0) (second_bit 0) (carry_bit 1) both_rows zero zero one (omega arith) in
    simp length-append (omega arith)

full_bytes : (i : ℕ) → i < 64 → length (full_adder i) ≤ 1090
unfolding full_adder
full_bytes i small =
    let here : i ≤ 64 = omega arith in
    let next : i + 1 ≤ 64 = omega arith in
    let p = gate_bytes (first_bit i) (second_bit i) (one_set i) exclusive_rows here here here (omega arith) in
    let s = gate_bytes (one_set i) (carry_bit i) (sum_bit i) exclusive_rows here here here (omega arith) in
    let g = gate_bytes (first_bit i) (second_bit i) (both_set i) both_rows here here here (omega arith) in
    let h = gate_bytes (one_set i) (carry_bit i) (carried_on i) both_rows here here here (omega arith) in
    let c = gate_bytes (both_set i) (carried_on i) (carry_bit (i + 1)) either_rows here here next (omega arith) in
    simp length-append (omega arith)

all_full_bytes : (n : ℕ) → n < 64 → length (full_adders n) ≤ 1090 * n
all_full_bytes zero small = omega arith
all_full_bytes (suc n) small =
    simp length-append (omega (arith, all_full_bytes n (omega arith), full_bytes (n + 1) (omega arith)))

summand_bytes : (bits : ℕ) → bits ≤ 64 → length (summand_names bits) ≤ 134 * bits
summand_bytes zero few = omega arith
summand_bytes (suc i) few =
    let here : i ≤ 64 = omega arith in
    let front = summand_bytes i here in
    simp length-append (omega (arith, front, name_bytes (first_bit i) here, name_bytes (second_bit i) here))

sum_bytes : (count : ℕ) → count ≤ 65 → length (sum_names count) ≤ 67 * count
sum_bytes zero few = omega arith
sum_bytes (suc i) few =
    simp length-append (omega (arith, sum_bytes i (omega arith), name_bytes (sum_bit i) (omega arith)))

head_bytes : (bits : ℕ) → bits ≤ 64 → length (head bits) ≤ 14000
unfolding head
head_bytes bits few = simp length-append (omega (arith, summand_bytes bits few, sum_bytes (bits + 1) (omega arith)))

foot_bytes : (bits : ℕ) → bits ≤ 64 → length (foot bits) ≤ 160
unfolding foot
foot_bytes bits few = simp length-append (omega (arith, name_bytes (carry_bit bits) few, name_bytes (sum_bit bits) few))

-- far below the 16 MiB that a netlist may have
pub adder_bytes : (bits : ℕ) → bits ≤ 64 → length (adder bits) ≤ 16777216
unfolding adder
adder_bytes bits few =
    let adders = all_full_bytes (bits - 1) (omega arith) in
    simp length-append (omega (arith, head_bytes bits few, half_bytes, adders, foot_bytes bits few))
