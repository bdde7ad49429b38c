-- Where no walk comes back to a model that it is in, a chain of calls has no more models than there are, and each of
-- them keeps what models without faults do.
use Rattle.std.proofs.Common.{◌≡◌, ℕ, zero, suc, ◌+◌, ◌<◌, List, [], ◌∷◌, length, Option, Some, None, refl, sym, ap}
use Rattle.std.proofs.Common.{◌∙◌, subst, arith, inl, inr}
use Rattle.std.specs.Prelude.{slice_index_or}
use Rattle.std.specs.List.{AllByRecursion}
use Rattle.std.specs.Str.{bytes_eq}
use Rattle.std.proofs.lemmas.Bool.{cases_Bool}
use Rattle.std.proofs.lemmas.List.Elements.{Contains-get_or}
use Rattle.std.proofs.lemmas.List.Quantifiers.{position-Some}
use Rattle.std.proofs.lemmas.Option.{slice_get-get_or}
use Rattle.blif_read.specs.Walk.{first_of, on, closes}
use Rattle.blif_read.specs.Code.Marking.{Apart}
use Rattle.blif_read.proofs.Closing.{closes_off, closes_on, first_of_or, path_fits}
use Rattle.blif_read.proofs.Distinct.{none_or}
use Rattle.blif_read.specs.declared.models.Call.{Call}
use Rattle.blif_read.specs.declared.models.BlifModel.{BlifModel}
use Rattle.blif_flat.specs.Designs.{model_number, model_at, called, no_model, first_model}
use Rattle.blif_flat.specs.DesignFaults.{AreJoined, number_in, calls_of, callees}
use Rattle.blif_flat.specs.DesignText.{IsLaidOut}
use Rattle.blif_flat.specs.declared.design.FlatKind.TheVariants.{UnknownModel}
use Rattle.blif_flat.proofs.Members.{Among, among_flat, at_among, all_from, contained}
use Rattle.blif_flat.proofs.JoinedModels.{IsJoined, is_joined}

-- a model whose chains of calls have fewer models than steps, each of which is joined
abbrev pub IsSound : ℕ → List BlifModel → BlifModel → Type 0
IsSound zero models model = ⊥
IsSound (suc steps) models model = IsJoined models model
    × AllByRecursion (λ c. IsSound steps models (called models c)) model.calls

each_none : (f : ℕ → Option (List ℕ)) (xs : List ℕ) → first_of f xs ≡ None → AllByRecursion (λ x. f x ≡ None) xs
each_none f [] e = tt
each_none f (x ∷ xs) e =
    let both = none_or (f x) (first_of f xs) (sym (first_of_or f x xs) ∙ e) in
    (both.0, each_none f xs both.1)

number_below : (models : List BlifModel) (name : List ℕ) (n : ℕ) → model_number models name ≡ Some n → n < length models
number_below models [] n e = absurd (cc)
number_below models (byte ∷ bytes) n e = (position-Some (λ m. bytes_eq (byte ∷ bytes) m.name) models n no_model e).0

-- the number of the model that a call names
record HasNumber (models : List BlifModel) (call : Call) : Type 0 where
  number : ℕ
  is : model_number models call.model ≡ Some number

module _ (models : List BlifModel) (joined : AreJoined models) where
  abbrev model : ℕ → BlifModel
  model n = slice_index_or models n no_model

  has_number : (n : ℕ) → n < length models → (call : Call) → Among call (model n).calls → HasNumber models call
  has_number n small call h = by (model_number models call.model) refl
    where
      by : (o : Option ℕ) → model_number models call.model ≡ o → HasNumber models call
      by (Some m) e = record { number = m; is = e }
      by None e = absurd (joined call.line UnknownModel record {
        call = call;
        there = record {
          model = model n;
          among = Contains-get_or models n no_model small;
          there = contained (model n).calls call h;
        };
        none = e;
        at = refl;
      })

  calls_are : (n : ℕ) → n < length models → calls_of models n ≡ (model n).calls
  calls_are n small = ap (λ (o : Option BlifModel). elim o as (λ (x : Option BlifModel). List Call)
      [ None ↦ [] | Some m ↦ m.calls ]) (slice_get-get_or models n no_model small)

  among_callees : (n : ℕ) → n < length models → (call : Call) → Among call (model n).calls → (m : ℕ)
      → model_number models call.model ≡ Some m → Among m (callees models n)
  among_callees n small call h m e =
      among_flat (λ c. number_in (model_number models c.model)) (calls_of models n) call m
      (subst (Among call) (sym (calls_are n small)) h)
      (subst (λ o. Among m (number_in o)) (sym e) (inl refl))

  sound : (steps : ℕ) (path : List ℕ) (n : ℕ) → n < length models → AllByRecursion (λ q. q < length models) path
      → Apart path → steps + length path ≡ length models → closes (callees models) (suc steps) path n ≡ None
      → IsSound steps models (model n)
  sound zero path n small below apart count none = elim (cases_Bool (on path n)) [
    | inl met ↦ absurd (let some = closes_on (callees models) zero path n met in cc)
    | inr new ↦ absurd (let fits = path_fits (length models) (n ∷ path) (new, apart) (small, below) in omega arith)
  ]
  sound (suc steps) path n small below apart count none = elim (cases_Bool (on path n)) [
    | inl met ↦ absurd (let some = closes_on (callees models) (suc steps) path n met in cc)
    | inr new ↦
        let each = each_none (closes (callees models) (suc steps) (n ∷ path)) (callees models n)
        (sym (closes_off (callees models) (suc steps) path n new) ∙ none) in (
          is_joined models joined (model n) (Contains-get_or models n no_model small),
          all_from (λ c. IsSound steps models (called models c)) (model n).calls
              (λ c h.
              (let has = has_number n small c h in
              subst (λ o. IsSound steps models (model_at models o)) (sym has.is)
              (sound steps (n ∷ path) has.number (number_below models c.model has.number has.is) (small, below)
              (new, apart) (omega (arith, count))
              (at_among (λ q. closes (callees models) (suc steps) (n ∷ path) q ≡ None)
              (callees models n) has.number each
              (among_callees n small c h has.number has.is))))),
        )
  ]

pub some_model : (models : List BlifModel) → 0 < length (first_model models).outputs → 0 < length models
some_model [] h = absurd (omega (arith, h))
some_model (m ∷ models) h = omega arith

pub first_is_sound : (models : List BlifModel) → IsLaidOut models → 0 < length models
    → IsSound (length models) models (first_model models)
first_is_sound models ok some =
    let count : length models + 0 ≡ length models = omega arith in
    let steps : length models + 1 ≡ suc (length models) = omega arith in
    sound models ok.joined (length models) [] 0 some tt tt count
    (subst (λ n. closes (callees models) n [] 0 ≡ None) steps ok.straight)
