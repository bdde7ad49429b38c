use Rattle.std.proofs.Common.{◌≡◌, ◌<◌, ◌∙◌, ◌++◌, sym, ap, subst, refl, arith, ℕ, List, [], ◌∷◌, true}
use Rattle.std.specs.List.{IsDistinct}
use Rattle.std.specs.Str.{bytes_eq}
use Rattle.blif_read.specs.Netlist.{AreParts}
use Rattle.blif_read.specs.declared.netlist.Def.{Def}
use Rattle.blif_read.specs.declared.netlist.Cube.{Cube}
use Rattle.blif_read.proofs.Making.{net_of}
use Rattle.test_netlists.proofs.made_netlists.inverter_of.Goals as goal

abbrev inverter : List ℕ → List Cube → Def
inverter inputs cubes = record { line = 7; inputs = inputs; on = true; cubes = cubes }

abbrev cube_of : List ℕ → Cube
cube_of plane = record { plane = plane }

two_names : IsDistinct bytes_eq ((97 ∷ []) ∷ (121 ∷ []) ∷ [])
unfolding IsDistinct
two_names = ((refl, tt), (tt, tt))

parts : (feed : ℕ) → feed < 2
    → AreParts (net_of 1 ((97 ∷ []) ∷ (121 ∷ []) ∷ []) (inverter (feed ∷ []) (cube_of (48 ∷ []) ∷ []) ∷ []) (1 ∷ []))
parts feed lt = record {
  distinct = two_names;
  count = refl;
  each_def = (record { names = (lt, tt); planes = (record { size = refl; bytes = refl }, tt); empty = λ e. refl }, tt);
  each_output = (omega arith, tt);
  some_output = omega arith;
  small = omega arith;
}

same_net : {n m : List (List ℕ)} {d e : List Def} {o p : List ℕ} → n ≡ m → d ≡ e → o ≡ p
    → net_of 1 n d o ≡ net_of 1 m e p
same_net a b c = rw (a, b, c) refl

pub make_netlist-requires : goal.make_netlist-requires
make_netlist-requires c =
    let names : c.push-2.new.self ≡ (97 ∷ []) ∷ (121 ∷ []) ∷ [] = c.in_ok-push-2.ensures.ok
    ∙ ap (λ (xs : List (List ℕ)). xs ++ c.in_ok-copy-2.field-0
    ∷ []) (c.in_ok-push.ensures.ok ∙ ap (λ (xs : List (List ℕ)). xs ++ c.in_ok-copy.field-0
    ∷ []) c.new-names.ensures)
    ∙ ap (λ (x : List ℕ). x ∷ c.in_ok-copy-2.field-0 ∷ []) c.in_ok-copy.ensures ∙ ap (λ (x : List ℕ). (97 ∷ []) ∷ x
    ∷ []) c.in_ok-copy-2.ensures in
    let inputs : c.push-3.new.self ≡ c.args.feed ∷ [] =
    c.in_ok-push-3.ensures.ok ∙ ap (λ (xs : List ℕ). xs ++ c.args.feed ∷ []) c.new-inputs.ensures in
    let cubes : c.push-4.new.self ≡ cube_of (48 ∷ []) ∷ [] = c.in_ok-push-4.ensures.ok
    ∙ ap (λ (xs : List Cube). xs ++ cube_of c.in_ok-plane.plane ∷ []) c.new-cubes.ensures ∙ ap
    (λ (x : List ℕ). cube_of x ∷ []) c.in_ok-plane.ensures in
    let defs : c.push-5.new.self ≡ inverter (c.args.feed ∷ []) (cube_of (48 ∷ []) ∷ []) ∷ [] = c.in_ok-push-5.ensures.ok
    ∙ ap (λ (xs : List Def). xs ++ inverter c.push-3.new.self c.push-4.new.self ∷ []) c.new-defs.ensures
    ∙ ap (λ (xs : List ℕ). inverter xs c.push-4.new.self
    ∷ []) inputs ∙ ap (λ (xs : List Cube). inverter (c.args.feed ∷ []) xs ∷ []) cubes in
    let outputs : c.push-6.new.self ≡ 1 ∷ [] =
    c.in_ok-push-6.ensures.ok ∙ ap (λ (xs : List ℕ). xs ++ 1 ∷ []) c.new-outputs.ensures in
    subst AreParts (sym (same_net names defs outputs)) (parts c.args.feed c.requires)
