-- The value of a cover is that of its definition, and a literal is the value for `1` and its inverse for `0`.
use Rattle.std.specs.Prelude.{◌≡◌, ℕ, ◌&&◌, ◌||◌, ◌==◌, Bool, true, false, not, cond, eqb, List, [], ◌∷◌, map}
use Rattle.std.specs.List.{list_any}
use Rattle.std.proofs.Common.{refl, sym, ap, ◌∙◌}
use Rattle.std.proofs.lemmas.Bool.{eqb-true}
use Rattle.blif_read.specs.Faults.{is_plane_byte}
use Rattle.blif_read.specs.Equations.{takes, matches, cover_value}
use Rattle.blif_read.specs.declared.netlist.Cube.{Cube}
use Rattle.blif_read.specs.declared.netlist.Def.{Def}
use Rattle.maj_mapping.specs.Values.{takes_all, some_takes, cover}

matches_is : (bs ss : List ℕ) (v : ℕ → Bool) → takes_all bs (map v ss) ≡ matches bs ss v
matches_is [] ss v = refl
matches_is (b ∷ bs) [] v = refl
matches_is (b ∷ bs) (s ∷ ss) v = ap (λ t. takes b (v s) && t) (matches_is bs ss v)

some_is : (cs : List Cube) (ss : List ℕ) (v : ℕ → Bool)
    → some_takes cs (map v ss) ≡ list_any (λ cube. matches cube.plane ss v) cs
some_is [] ss v = refl
some_is (c ∷ cs) ss v = ap (λ t. t || some_takes cs (map v ss)) (matches_is c.plane ss v)
    ∙ ap (λ t. matches c.plane ss v || t) (some_is cs ss v)

by_on : (on a b : Bool) → a ≡ b → cond on a (not a) ≡ (elim on as (λ (x : Bool). Bool) [ true ↦ b | false ↦ not b ])
by_on true a b e = e
by_on false a b e = ap not e

-- it is the value of the definition under any valuation of signals
pub cover_is : (d : Def) (v : ℕ → Bool) → cover d (map v d.inputs) ≡ cover_value d v
cover_is d v = by_on d.on _ _ (some_is d.cubes d.inputs v)

-- a literal: the value for `1`, its inverse for `0`, and nothing for `-`
by_tests : (one zero any : Bool) (x : Bool) → (one ≡ true → any ≡ false) → (one ≡ true → zero ≡ false)
    → (zero ≡ true → any ≡ false) → (zero || one || any) ≡ true
    → cond one x (cond zero (not x) true) ≡ (elim x as (λ (t : Bool). Bool) [ true ↦ any || one | false ↦ any || zero ])
by_tests true zero true x a b c h = absurd (let e : true ≡ false = a refl in cc)
by_tests true true false x a b c h = absurd (let e : true ≡ false = b refl in cc)
by_tests true false false true a b c h = refl
by_tests true false false false a b c h = refl
by_tests false true true x a b c h = absurd (let e : true ≡ false = c refl in cc)
by_tests false true false true a b c h = refl
by_tests false true false false a b c h = refl
by_tests false false true true a b c h = refl
by_tests false false true false a b c h = refl
by_tests false false false x a b c h = absurd (let e : false ≡ true = h in cc)

takes_by : (b : ℕ) (x : Bool)
    → takes b x ≡ (elim x as (λ (t : Bool). Bool) [ true ↦ (b == 45) || (b == 49) | false ↦ (b == 45) || (b == 48) ])
takes_by b true = refl
takes_by b false = refl

pub literal_takes : (b : ℕ) (x : Bool) → is_plane_byte b ≡ true
    → cond (eqb b 49) x (cond (eqb b 48) (not x) true) ≡ takes b x
literal_takes b x h =
    by_tests (eqb b 49) (eqb b 48) (eqb b 45) x
    (λ e. ap (λ k. eqb k 45) (eqb-true b 49 e))
    (λ e. ap (λ k. eqb k 48) (eqb-true b 49 e))
    (λ e. ap (λ k. eqb k 45) (eqb-true b 48 e)) h
    ∙ sym (takes_by b x)
