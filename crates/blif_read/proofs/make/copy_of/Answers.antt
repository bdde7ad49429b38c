use Rattle.std.proofs.Common.{◌≡◌, ap, ℕ, Bool, List, refl}
use Rattle.std.specs.List.{each_same}
use Rattle.std.proofs.lemmas.List.Elements.{same_from_all_zip}
use Rattle.blif_read.specs.declared.netlist.Def.{Def}
use Rattle.blif_read.specs.declared.netlist.Cube.{Cube}
use Rattle.blif_read.specs.declared.build.Parts.{Parts}
use Rattle.blif_read.specs.contracts.netlist.DefClone.TheImpl as defs
use Rattle.blif_read.specs.contracts.netlist.CubeClone.TheImpl as cubes
use Rattle.blif_read.proofs.make.copy_of.Goals as goal

abbrev cube_with : List ℕ → Cube
cube_with plane = record { plane = plane }

abbrev def_with : ℕ → List ℕ → Bool → List Cube → Def
def_with line inputs on cubes = record { line = line; inputs = inputs; on = on; cubes = cubes }

abbrev parts_with : List Def → List ℕ → Parts
parts_with defs outputs = record { defs = defs; outputs = outputs }

-- a clone is equal
cube_same : (x y : Cube) → cubes.is_clone-value.it x y → y ≡ x
cube_same x y h = ap cube_with h

same_def : {l m : ℕ} {i j : List ℕ} {o p : Bool} {c d : List Cube} → l ≡ m → i ≡ j → o ≡ p → c ≡ d
    → def_with l i o c ≡ def_with m j p d
same_def a b c d = rw (a, b, c, d) refl

def_same : (x y : Def) → defs.is_clone-value.it x y → y ≡ x
def_same x y h = same_def h.0 (each_same x.inputs y.inputs h.1.0) h.1.1.0
    (same_from_all_zip cubes.is_clone-value.it x.cubes y.cubes h.1.1.1 cube_same)

same_parts : {d e : List Def} {o p : List ℕ} → d ≡ e → o ≡ p → parts_with d o ≡ parts_with e p
same_parts a b = rw (a, b) refl

pub returns : goal.returns
returns c = same_parts (same_from_all_zip defs.is_clone-value.it _ _ c.in_ok-clone.ensures.cases def_same)
    (each_same _ _ c.in_ok-clone-2.ensures.cases)
