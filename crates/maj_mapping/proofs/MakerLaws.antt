-- What a maker of gates keeps.
use Rattle.std.specs.Prelude.{◌≡◌, ℕ, suc, ◌+◌, ◌<◌, ◌^◌, Bool, true, false, List, [], ◌∷◌, ◌++◌, length}
use Rattle.std.specs.Prelude.{slice_index_or, slice_set, Option, Some, None}
use Rattle.std.proofs.Common.{refl, sym, ap, ◌∙◌, subst, arith, inl, inr, length-append}
use Rattle.std.proofs.lemmas.Bool.{cases_eq, ne_eqb, eq-eqb}
use Rattle.std.proofs.lemmas.List.{get_or-set_same, get_or-set_other}
use Rattle.circuit.specs.declared.gate.Gate.{Gate}
use Rattle.circuit.specs.declared.gate.Gate.TheVariants.{Inv}
use Rattle.maj_mapping.specs.Operations.{inverts, inverter_from}
use Rattle.maj_mapping.specs.Code.Makers.{not_made, made_by, IsMaker, NoInverter}

-- the index with one more gate
abbrev pub or_then : Option ℕ → Bool → ℕ → Option ℕ
or_then (Some k) b j = Some k
or_then None true j = Some j
or_then None false j = None

inverter_after : (x i : ℕ) (gs : List Gate) (g : Gate) (j : ℕ) → j ≡ i + length gs
    → inverter_from x i (gs ++ g ∷ []) ≡ or_then (inverter_from x i gs) (inverts x g) j
inverter_after x i [] g j e = go (inverts x g)
  where
    go : (b : Bool) → (elim b as (λ (t : Bool). Option ℕ) [ true ↦ Some i | false ↦ None ]) ≡ or_then None b j
    go true = ap (λ (k : ℕ). Some k) (let z : i ≡ j = omega arith in z)
    go false = refl
inverter_after x i (h ∷ gs) g j e = go (inverts x h) (inverter_after x (suc i) gs g j (omega arith))
  where
    go : (b : Bool) → inverter_from x (suc i) (gs ++ g ∷ []) ≡ or_then (inverter_from x (suc i) gs) (inverts x g) j
        → (elim b as (λ (t : Bool). Option ℕ) [
          | true ↦ Some i
          | false ↦ inverter_from x (suc i)
              (gs ++ g ∷ [])
        ]) ≡ or_then
        (elim b as (λ (t : Bool). Option ℕ) [ true ↦ Some i | false ↦ inverter_from x (suc i) gs ]) (inverts x g) j
    go true r = refl
    go false r = r

made_is : (at : ℕ) → at + 1 < 2 ^ 32 → made_by at ≡ Some at
made_is at lt = rw (ne_eqb at not_made (λ e. omega arith), made_by) refl

or_none : (o : Option ℕ) (j : ℕ) → or_then o false j ≡ o
or_none None j = refl
or_none (Some k) j = refl

pub maker_same : (n : ℕ) (gs : List Gate) (is is' : List ℕ)
    → ((x : ℕ) → slice_index_or is' x not_made ≡ slice_index_or is x not_made) → IsMaker n gs is → IsMaker n gs is'
maker_same n gs is is' same ok = record {
  index = λ x. ap made_by (same x) ∙ ok.index x;
  numbered = ok.numbered;
  small = ok.small;
}

pub maker_make : (n : ℕ) (gs : List Gate) (is : List ℕ) (g : Gate) → IsMaker n gs is → NoInverter g
    → length gs + 1 < 2 ^ 32 → IsMaker n (gs ++ g ∷ []) is
maker_make n gs is g ok plain room = record {
  index = λ x. ok.index x ∙ sym (inverter_after x 0 gs g (length gs) (omega arith)
      ∙ ap (λ (b : Bool). or_then (inverter_from x 0 gs) b (length gs)) (plain x)
      ∙ or_none (inverter_from x 0 gs) (length gs));
  numbered = ok.numbered;
  small = simp length-append (omega arith);
}

pub maker_invert : (n : ℕ) (gs : List Gate) (is : List ℕ) (x : ℕ) → IsMaker n gs is → x < length is
    → inverter_from x 0 gs ≡ None → length gs + 1 < 2 ^ 32 → IsMaker n (gs ++ Inv x ∷ []) (slice_set is x (length gs))
maker_invert n gs is x ok low free room = record {
  index = λ y. elim (cases_eq y x) [
    | inl same ↦
        (let a : made_by (slice_index_or (slice_set is x (length gs)) x not_made) ≡ Some (length gs) = ap made_by
        (get_or-set_same is x (length gs) not_made low) ∙ made_is (length gs) room in
        let b : inverts x (Inv x) ≡ true = eq-eqb x x refl in
        let c : inverter_from x 0 (gs ++ Inv x ∷ []) ≡ Some (length gs) = inverter_after x 0 gs (Inv x) (length gs)
        (omega arith) ∙ ap (λ (o : Option ℕ). or_then o (inverts x (Inv x)) (length gs)) free
        ∙ ap (λ (t : Bool). or_then None t (length gs)) b in
        subst (λ z. made_by (slice_index_or (slice_set is x (length gs)) z not_made) ≡ inverter_from z 0
        (gs ++ Inv x ∷ [])) (sym same) (a ∙ sym c))
    | inr other ↦
        ap made_by (get_or-set_other is x y (length gs) not_made other) ∙ ok.index y
        ∙ sym (inverter_after y 0 gs (Inv x) (length gs) (omega arith)
        ∙ ap (λ (t : Bool). or_then (inverter_from y 0 gs) t (length gs)) (ne_eqb y x other)
        ∙ or_none (inverter_from y 0 gs) (length gs))
  ];
  numbered = ok.numbered;
  small = simp length-append (omega arith);
}
