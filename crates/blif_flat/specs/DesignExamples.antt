-- Small designs, for the laws that compute their netlists: a half adder in a call, a call inside a call, and a model
-- that calls itself.
use Rattle.std.specs.Prelude.{ℕ, true, List, [], ◌∷◌, ◌++◌, codes, map}
use Rattle.blif_read.specs.declared.netlist.Cube.{Cube}
use Rattle.blif_read.specs.declared.netlist.Def.{Def}

-- a text of some lines
abbrev pub text_of : List (List ℕ) → List ℕ
text_of [] = []
text_of (line ∷ lines) = line ++ 10 ∷ text_of lines

-- a definition of a signal that is true at these planes of these signals
abbrev pub cube_of : List ℕ → Cube
cube_of plane = record { plane = plane }

-- a definition in this line by these planes, which list where the signal is true
abbrev pub def_at : ℕ → List ℕ → List (List ℕ) → Def
def_at line inputs planes = record { line = line; inputs = inputs; on = true; cubes = map cube_of planes }

-- a half adder that the first model calls: p is the sum of x and y modulo 2, and q the carry
abbrev pub half_adder : List ℕ
half_adder = text_of (
    codes ".model top" ∷ codes ".inputs a b" ∷ codes ".outputs s c"
    ∷ codes ".subckt half x=a y=b p=s q=c" ∷ codes ".end"
    ∷ codes ".model half" ∷ codes ".inputs x y" ∷ codes ".outputs p q" ∷ codes ".names x y p" ∷ codes "10 1"
    ∷ codes "01 1" ∷ codes ".names x y q" ∷ codes "11 1" ∷ codes ".end" ∷ []
    )

-- the second call of the first model is the third of all: the first one calls a model itself
abbrev pub nested : List ℕ
nested = text_of (
    codes ".model top" ∷ codes ".inputs a" ∷ codes ".outputs y" ∷ codes ".subckt middle i=a o=t"
    ∷ codes ".subckt low i=t o=y" ∷ codes ".model middle" ∷ codes ".inputs i" ∷ codes ".outputs o"
    ∷ codes ".subckt low i=i o=o" ∷ codes ".model low" ∷ codes ".inputs i" ∷ codes ".outputs o" ∷ codes ".names i o"
    ∷ codes "0 1" ∷ []
    )

-- a design of one model, whose only call names the model itself
abbrev pub calls_itself : List ℕ
calls_itself = text_of (
    codes ".model a" ∷ codes ".inputs x" ∷ codes ".outputs y" ∷ codes ".subckt a x=x y=y" ∷ []
    )
