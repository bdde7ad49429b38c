-- The sample netlist in the Berkeley form: the sum of two numbers of so many bits, by a half adder and full adders.
use Rattle.std.specs.Prelude.{ℕ, zero, suc, ◌+◌, ◌-◌, List, [], ◌∷◌, ◌++◌, codes}
use Rattle.std.specs.Fmt.{decimal}
use Rattle.sample_adder.specs.declared.adder.Signal.{Signal}

-- a signal's name is its letter and its number
abbrev pub name_of : Signal → List ℕ
name_of signal = signal.letter ∷ decimal signal.number

-- bit i of the two numbers, of their sum, and the carry into it
abbrev pub first_bit : ℕ → Signal
first_bit i = record { letter = 97; number = i }

-- bit i of the second number, counted from the lowest: b0, b1 and so on
abbrev pub second_bit : ℕ → Signal
second_bit i = record { letter = 98; number = i }

-- bit i of the sum: s0, s1 and so on; the last is the carry out of the highest bits
abbrev pub sum_bit : ℕ → Signal
sum_bit i = record { letter = 115; number = i }

-- the carry into bit i, from the bits below it: c1, c2 and so on
abbrev pub carry_bit : ℕ → Signal
carry_bit i = record { letter = 99; number = i }

-- inside a full adder: one of its two bits is set, both are, or one is and the carry too
abbrev pub one_set : ℕ → Signal
one_set i = record { letter = 112; number = i }

-- bit i of both numbers is set, which gives a carry by itself: g1, g2 and so on
abbrev pub both_set : ℕ → Signal
both_set i = record { letter = 103; number = i }

-- one of the two bits is set and the carry comes in, which carries it on: h1, h2 and so on
abbrev pub carried_on : ℕ → Signal
carried_on i = record { letter = 104; number = i }

-- the rows of an exclusive or, of an and, and of an or
abbrev pub exclusive_rows : List ℕ
exclusive_rows = codes "10 1\n01 1\n"

-- the cover of an and, as a .names table of BLIF has it: true where both inputs are
abbrev pub both_rows : List ℕ
both_rows = codes "11 1\n"

-- the cover of an or: true where either input is, a dash standing for any value
abbrev pub either_rows : List ℕ
either_rows = codes "1- 1\n-1 1\n"

-- a signal of two others, by its rows
unfoldable pub gate : Signal → Signal → Signal → List ℕ → List ℕ
gate x y out rows =
    codes ".names " ++ name_of x ++ codes " " ++ name_of y ++ codes " " ++ name_of out ++ codes "\n" ++ rows

-- the sum and the carry of the lowest bits
unfoldable pub half_adder : List ℕ
half_adder =
    gate (first_bit 0) (second_bit 0) (sum_bit 0) exclusive_rows
    ++ gate (first_bit 0) (second_bit 0) (carry_bit 1) both_rows

-- the sum and the carry of two bits and the carry into them
unfoldable pub full_adder : ℕ → List ℕ
full_adder i =
    gate (first_bit i) (second_bit i) (one_set i) exclusive_rows
    ++ gate (one_set i) (carry_bit i) (sum_bit i) exclusive_rows
    ++ gate (first_bit i) (second_bit i) (both_set i) both_rows
    ++ gate (one_set i) (carry_bit i) (carried_on i) both_rows
    ++ gate (both_set i) (carried_on i) (carry_bit (i + 1)) either_rows

-- so many full adders, from bit 1 on
abbrev pub full_adders : ℕ → List ℕ
full_adders zero = []
full_adders (suc n) = full_adders n ++ full_adder (n + 1)

-- the names of the lowest so many bits of both numbers, and of their sum
abbrev pub summand_names : ℕ → List ℕ
summand_names zero = []
summand_names (suc i) = summand_names i ++ codes " " ++ name_of (first_bit i) ++ codes " " ++ name_of (second_bit i)

-- the names of the lowest so many bits of the sum, each after a blank
abbrev pub sum_names : ℕ → List ℕ
sum_names zero = []
sum_names (suc i) = sum_names i ++ codes " " ++ name_of (sum_bit i)

-- the lines before the adders, and those after them: the last carry is the last bit of the sum
unfoldable pub head : ℕ → List ℕ
head bits =
    codes ".model adder\n.inputs" ++ summand_names bits ++ codes "\n.outputs" ++ sum_names (bits + 1) ++ codes "\n"

-- the highest bit of the sum, which is the last carry, and the end of the model
unfoldable pub foot : ℕ → List ℕ
foot bits =
    codes ".names " ++ name_of (carry_bit bits) ++ codes " " ++ name_of (sum_bit bits) ++ codes "\n1 1\n.end\n"

-- the netlist for numbers of so many bits, at least one
unfoldable pub adder : ℕ → List ℕ
adder bits = head bits ++ half_adder ++ full_adders (bits - 1) ++ foot bits
