-- The values that stand at outputs, read one after another.
use Rattle.std.proofs.Common.{◌≡◌, ℕ, suc, ◌+◌, ◌<◌, ◌≤◌, Bool, false, List, [], ◌∷◌, length, get_or, set, Some, refl}
use Rattle.std.proofs.Common.{sym, ap, ◌∙◌, arith, inl, inr, slice_get, map}
use Rattle.std.proofs.lemmas.List.{get_or-set_other, get_or-set_same, length-set}
use Rattle.std.proofs.lemmas.Bool.{cases_eq}
use Rattle.std.proofs.lemmas.Option.{same_Some, slice_get-get_or, slice_get_within}
use Rattle.rowed.specs.declared.source.Source.{Source}
use Rattle.pulse_sim.specs.declared.flux.Flux.{Flux}
use Rattle.pulse_sim.specs.declared.flux.Flux.TheVariants.{Off}
use Rattle.pulse_sim.specs.Pulsing.{is_plus}
use Rattle.pulse_sim.specs.Shows.{fluxes_at}

-- the first n values are those at the first n outputs
pub record AreShown (n : ℕ) (outputs : List Source) (fluxes : List Flux) (word : List Bool) : Type 0 where
  pub long : length word ≡ length outputs
  pub shown : (k : ℕ) (source : Source) → k < n → slice_get outputs k ≡ Some source
      → get_or word k false ≡ is_plus (get_or fluxes source.cell Off)

pub shown_none : (outputs : List Source) (fluxes : List Flux) (word : List Bool) → length word ≡ length outputs
    → AreShown 0 outputs fluxes word
shown_none outputs fluxes word long = record { long = long; shown = λ k source lk at. absurd (omega arith) }

pub shown_more : (n : ℕ) (outputs : List Source) (fluxes : List Flux) (word : List Bool) (d : Source) (value : Bool)
    → AreShown n outputs fluxes word → n < length outputs
    → value ≡ is_plus (get_or fluxes (get_or outputs n d).cell Off) → AreShown (n + 1) outputs fluxes (set word n value)
shown_more n outputs fluxes word d value are lt is = record {
  long = length-set word n value ∙ are.long;
  shown = λ k source lk at. elim (cases_eq k n) [
    | inl e ↦
        let same : get_or outputs n d ≡ source = same_Some (get_or outputs n d) source
        (sym (slice_get-get_or outputs n d lt) ∙ (ap (λ (x : ℕ). slice_get outputs x) (sym e) ∙ at)) in
        let within : n < length word = omega (arith, are.long) in
        ap (λ (x : ℕ). get_or (set word n value) x false) e
        ∙ (get_or-set_same word n value false within
        ∙ (is ∙ ap (λ (x : Source). is_plus (get_or fluxes x.cell Off)) same))
    | inr ne ↦ get_or-set_other word n k value false ne ∙ are.shown k source (omega arith) at
  ];
}

all_values : (outputs : List Source) (fluxes : List Flux) (word : List Bool) → length word ≡ length outputs
    → ((k : ℕ) (source : Source) → slice_get outputs k ≡ Some source
    → get_or word k false ≡ is_plus (get_or fluxes source.cell Off)) → word ≡ map is_plus (fluxes_at outputs fluxes)
all_values [] fluxes [] long each = refl
all_values [] fluxes (value ∷ word) long each = absurd cc
all_values (source ∷ outputs) fluxes [] long each = absurd cc
all_values (source ∷ outputs) fluxes (value ∷ word) long each =
    let rest : word ≡ map is_plus (fluxes_at outputs fluxes) = all_values outputs fluxes word (omega arith)
    (λ k other at. each (suc k) other at) in
    ap (λ (x : Bool). x ∷ word) (each 0 source refl)
    ∙ ap (λ (x : List Bool). is_plus (get_or fluxes source.cell Off) ∷ x) rest

pub shown_all : (n : ℕ) (outputs : List Source) (fluxes : List Flux) (word : List Bool) → length outputs ≤ n
    → AreShown n outputs fluxes word → word ≡ map is_plus (fluxes_at outputs fluxes)
shown_all n outputs fluxes word all are = all_values outputs fluxes word are.long
    (λ k source at. (let within : k < length outputs =
    slice_get_within outputs k source at in are.shown k source (omega arith) at))
