-- The ports of a call, as the program goes over them.
use Rattle.std.proofs.Common.{◌≡◌, ℕ, ◌+◌, ◌<◌, ◌≤◌, false, List, [], ◌∷◌, ◌++◌, drop, get_or, length, filter, Option}
use Rattle.std.proofs.Common.{Some, None, refl, sym, ap, ◌∙◌}
use Rattle.std.specs.Prelude.{is_some}
use Rattle.std.specs.List.{flat_map}
use Rattle.std.proofs.lemmas.Grind.{flat_map-append}
use Rattle.std.proofs.lemmas.List.{drop_all}
use Rattle.blif_read.specs.Parts.{is_defined}
use Rattle.blif_read.specs.declared.models.Named.{Named}
use Rattle.blif_read.specs.declared.models.Port.{Port}
use Rattle.blif_read.specs.declared.models.Call.{Call}
use Rattle.blif_read.specs.declared.models.BlifModel.{BlifModel}
use Rattle.blif_flat.specs.Designs.{names_in, model_number, model_at, called, input_ports, output_ports, driven, used}
use Rattle.blif_flat.specs.Designs.{no_model}
use Rattle.blif_flat.specs.Code.Joining.{least_of, undefined_at, undefined_in, Driving, drive_all, driving, undriven}
use Rattle.blif_flat.specs.Code.Joining.{call_faults, model_told, told_in}
use Rattle.blif_flat.specs.declared.faults.drivers.Drivers.{Drivers}
use Rattle.blif_flat.specs.declared.faults.order.Told.{Told}
use Rattle.blif_flat.proofs.Least.{least_append}
use Rattle.blif_flat.proofs.Indexes.{drop_item}

none_kept : (ports : List Port) → filter (λ (p : Port). is_defined [] p.formal) ports ≡ []
none_kept [] = refl
none_kept (p ∷ ps) = none_kept ps

none_called : (models : List BlifModel) (call : Call) → is_some (model_number models call.model) ≡ false
    → called models call ≡ no_model
none_called models call e = by (model_number models call.model) e
  where
    by : (o : Option ℕ) → is_some o ≡ false → model_at models o ≡ no_model
    by None e = refl
    by (Some n) e = absurd (cc)

-- a call that names no model drives nothing and uses nothing
pub no_outputs : (models : List BlifModel) (call : Call) → false ≡ is_some (model_number models call.model)
    → output_ports models call ≡ []
no_outputs models call e = ap (λ m. filter (λ (p : Port). is_defined (names_in m.outputs) p.formal) call.ports)
    (none_called models call (sym e)) ∙ none_kept call.ports

pub no_inputs : (models : List BlifModel) (call : Call) → false ≡ is_some (model_number models call.model)
    → input_ports models call ≡ []
no_inputs models call e = ap (λ m. filter (λ (p : Port). is_defined (names_in m.inputs) p.formal) call.ports)
    (none_called models call (sym e)) ∙ none_kept call.ports

-- ---- uses, one list after another

pub told_more : (best : Option Told) (lines : List ℕ → Option ℕ) (xs ys : List Named)
    → least_of best (undefined_in lines (xs ++ ys)) ≡ least_of
    (least_of best (undefined_in lines xs)) (undefined_in lines ys)
told_more best lines xs ys = ap (least_of best) (flat_map-append (undefined_at lines) xs ys)
    ∙ least_append best (undefined_in lines xs) (undefined_in lines ys)

pub told_step : {X : Type 0} (f : X → List Named) (lines : List ℕ → Option ℕ) (best next whole : Option Told)
    (xs : List X) (i : ℕ) (x : X) → i < length xs → x ≡ get_or xs i x → next ≡ least_of best (undefined_in lines (f x))
    → least_of best (undefined_in lines (flat_map f (drop i xs))) ≡ whole
    → least_of next (undefined_in lines (flat_map f (drop (i + 1) xs))) ≡ whole
told_step f lines best next whole xs i x lt is n w =
    ap (λ o. least_of o (undefined_in lines (flat_map f (drop (i + 1) xs)))) n
    ∙ sym (told_more best lines (f x) (flat_map f (drop (i + 1) xs)))
    ∙ ap (λ zs. least_of best (undefined_in lines (flat_map f zs))) (sym (drop_item xs i x lt is)) ∙ w

pub call_step : (f : Call → List Told) (best next whole : Option Told) (xs : List Call) (i : ℕ) (x : Call)
    → i < length xs → x ≡ get_or xs i x → next ≡ least_of best (f x)
    → least_of best (flat_map f (drop i xs)) ≡ whole → least_of next (flat_map f (drop (i + 1) xs)) ≡ whole
call_step f best next whole xs i x lt is n w =
    ap (λ o. least_of o (flat_map f (drop (i + 1) xs))) n
    ∙ sym (least_append best (f x) (flat_map f (drop (i + 1) xs)))
    ∙ ap (λ zs. least_of best (flat_map f zs)) (sym (drop_item xs i x lt is)) ∙ w

pub uses_joined : (lines : List ℕ → Option ℕ) (xs ys zs : List Named) (best first second third : Option Told)
    → first ≡ least_of best (undefined_in lines xs) → second ≡ least_of first (undefined_in lines ys)
    → third ≡ least_of second (undefined_in lines zs) → third ≡ least_of best (undefined_in lines ((xs ++ ys) ++ zs))
uses_joined lines xs ys zs best first second third a b c =
    c ∙ ap (λ o. least_of o (undefined_in lines zs)) (b ∙ ap (λ o. least_of o (undefined_in lines ys)) a
    ∙ sym (told_more best lines xs ys)) ∙ sym (told_more best lines (xs ++ ys) zs)

-- ---- a model's faults

pub told_models : (models : List BlifModel) (best next whole : Option Told) (ms : List BlifModel) (i : ℕ)
    (m : BlifModel) → i < length ms → m ≡ get_or ms i m → next ≡ model_told models best m
    → told_in models best (drop i ms) ≡ whole → told_in models next (drop (i + 1) ms) ≡ whole
told_models models best next whole ms i m lt is n w =
    ap (λ o. told_in models o (drop (i + 1) ms)) n ∙ ap (told_in models best) (sym (drop_item ms i m lt is)) ∙ w

pub told_end : (models : List BlifModel) (best whole : Option Told) (ms : List BlifModel) (i : ℕ) → length ms ≤ i
    → told_in models best (drop i ms) ≡ whole → best ≡ whole
told_end models best whole ms i le w = ap (told_in models best) (sym (drop_all i ms le)) ∙ w

pub model_joined : (models : List BlifModel) (model : BlifModel) (best calls told : Option Told) (start end : Drivers)
    → calls ≡ least_of best (flat_map (call_faults models) model.calls) → driving start ≡ undriven calls
    → driving end ≡ drive_all (driving start) (driven models model)
    → told ≡ least_of (driving end).told (undefined_in (driving end).lines (used models model))
    → told ≡ model_told models best model
model_joined models model best calls told start end a b c d =
    d ∙ ap (λ (x : Driving). least_of x.told (undefined_in x.lines (used models model)))
    (c ∙ ap (λ x. drive_all x (driven models model)) (b ∙ ap undriven a))
