-- The faults that the program meets are those that belong to lines: each of them is one, and none comes before all of
-- them.
use Rattle.std.proofs.Common.{◌≡◌, ℕ, ◌+◌, Bool, true, false, not, ◌⊎◌, inl, inr, List, [], ◌∷◌, ◌++◌, Option, Some}
use Rattle.std.proofs.Common.{None, Contains, refl, sym, ap, ◌∙◌, subst, arith}
use Rattle.std.specs.Prelude.{slice_get, is_some, max}
use Rattle.std.specs.List.{flat_map}
use Rattle.std.proofs.lemmas.List.Elements.{Contains-append_left, Contains-append_right, Contains-append_cases}
use Rattle.blif_read.specs.declared.models.Named.{Named}
use Rattle.blif_read.specs.declared.models.Call.{Call}
use Rattle.blif_read.specs.declared.models.BlifModel.{BlifModel}
use Rattle.blif_flat.specs.Designs.{model_number, model_at, called, driven, used}
use Rattle.blif_flat.specs.DesignFaults.{IsModelTwice, HasCall, IsUnknown, HasPorts, IsDrivenTwice, IsUndefined}
use Rattle.blif_flat.specs.DesignFaults.{HasFault, fits}
use Rattle.blif_flat.specs.Code.Joining.{at_line, least_of, where_so, is_twice, twice_named, call_faults, drive_all}
use Rattle.blif_flat.specs.Code.Joining.{undriven, undefined_at, undefined_in, model_told, told_in, IsTold}
use Rattle.blif_flat.specs.declared.design.FlatKind.{FlatKind}
use Rattle.blif_flat.specs.declared.design.FlatKind.TheVariants.{ModelTwice, UnknownModel, Ports, Duplicate, Undefined}
use Rattle.blif_flat.specs.declared.design.FlatKind.TheVariants.{Recursive, NoOutputs}
use Rattle.blif_flat.specs.declared.faults.order.Told.{Told}
use Rattle.blif_flat.proofs.Least.{IsBestOf, best_of_list, before_both, before_itself, least_append, in_where, where_in}
use Rattle.blif_flat.proofs.Least.{none_in, head_or, head_in, in_flat, flat_in}
use Rattle.blif_flat.proofs.NamedTwice.{twice_sound, twice_cover, is_twice_at}
use Rattle.blif_flat.proofs.DrivenTwice.{lines_all, twice_driven, drive_lines, drive_told, AreLines, no_lines}
use Rattle.blif_flat.proofs.DrivenTwice.{lines_append, line_defined, TellsPair, driven_sound, ComesFirst, driven_cover}

-- ---- the faults of a list

abbrev lines_of : List BlifModel → BlifModel → List ℕ → Option ℕ
lines_of models m = lines_all (λ name. None) (driven models m)

abbrev pub model_faults : List BlifModel → BlifModel → List Told
model_faults models m = flat_map
    (call_faults models) m.calls ++ (twice_driven (λ name. None) (driven models m) ++ undefined_in
    (lines_of models m) (used models m))

abbrev pub line_faults : List BlifModel → List Told
line_faults models = twice_named models 0 models ++ flat_map (model_faults models) models

model_all : (models : List BlifModel) (best : Option Told) (m : BlifModel)
    → model_told models best m ≡ least_of best (model_faults models m)
model_all models best m =
    let calls = flat_map (call_faults models) m.calls in
    let d = undriven (least_of best calls) in
    let twice = twice_driven (λ name. None) (driven models m) in
    ap (λ f. least_of (drive_all d (driven models m)).told (undefined_in f (used models m)))
    (drive_lines d (driven models m))
    ∙ ap (λ o. least_of o (undefined_in (lines_of models m) (used models m))) (drive_told d (driven models m))
    ∙ sym (least_append best calls (twice ++ undefined_in (lines_of models m) (used models m))
    ∙ least_append (least_of best calls) twice (undefined_in (lines_of models m) (used models m)))

models_all : (models : List BlifModel) (best : Option Told) (ms : List BlifModel)
    → told_in models best ms ≡ least_of best (flat_map (model_faults models) ms)
models_all models best [] = refl
models_all models best (m ∷ ms) =
    models_all models (model_told models best m) ms
    ∙ ap (λ o. least_of o (flat_map (model_faults models) ms)) (model_all models best m)
    ∙ sym (least_append best (model_faults models m) (flat_map (model_faults models) ms))

-- ---- each is a fault of its line

has_fault : (models : List BlifModel) (told : Told) (kind : FlatKind) → told.kind ≡ kind
    → HasFault models told.line kind → HasFault models told.line told.kind
has_fault models told kind e h = subst (HasFault models told.line) (sym e) h

call_sound : (models : List BlifModel) (call : Call) (told : Told) → HasCall models call
    → Contains (call_faults models call) told → HasFault models told.line told.kind
call_sound models call told has c = by (model_number models call.model) refl c
  where
    unknown : model_number models call.model ≡ None → (at_line call.line UnknownModel ≡ told) ⊎ Contains [] told
        → HasFault models told.line told.kind
    unknown e (inl f) = subst (λ t. HasFault models t.line t.kind) f
        (record { call = call; there = has; none = e; at = refl })
    unknown e (inr d) = absurd (none_in told d)

    wrong : (b : Bool) → not b ≡ true → b ≡ false
    wrong true e = absurd (cc)
    wrong false e = refl

    by : (o : Option ℕ) → model_number models call.model ≡ o
        → Contains (elim o as (λ (x : Option ℕ). List Told) [
          | None ↦ at_line call.line UnknownModel ∷ []
          | Some n ↦ where_so
              (not (fits (model_at models (Some n)) call)) call.line Ports
        ]) told
        → HasFault models told.line told.kind
    by None e c = unknown e (head_or (at_line call.line UnknownModel) [] told c)
    by (Some n) e c =
        let w = in_where (not (fits (model_at models (Some n)) call)) call.line Ports told c in
        subst (λ t. HasFault models t.line t.kind) w.1
        (record {
          call = call;
          there = has;
          wrong = ap (λ o. fits (model_at models o) call) e ∙ wrong (fits (model_at models (Some n)) call) w.0;
          at = refl;
        })

driven_told : (models : List BlifModel) (m : BlifModel) (told : Told) → Contains models m
    → TellsPair (driven models m) told → HasFault models told.line told.kind
driven_told models m told c p = has_fault models told Duplicate p.kind
    (record {
      model = m;
      one = p.one;
      other = p.other;
      first = p.first;
      second = p.second;
      among = c;
      apart = p.apart;
      is_first = p.is_first;
      is_second = p.is_second;
      name = p.name;
      at = p.at;
    })

all_lines : (models : List BlifModel) (m : BlifModel) → AreLines (lines_of models m) (driven models m)
all_lines models m = lines_append (λ name. None) [] (driven models m) no_lines

use_sound : (models : List BlifModel) (m : BlifModel) (taken : Named) (told : Told) → Contains models m
    → Contains (used models m) taken → Contains (undefined_at (lines_of models m) taken) told
    → HasFault models told.line told.kind
use_sound models m taken told c u d =
    let w = in_where (not (is_some (lines_of models m taken.name))) taken.line Undefined told d in
    subst (λ t. HasFault models t.line t.kind) w.1
    (record {
      model = m;
      taken = taken;
      among = c;
      there = u;
      undriven =
          sym (line_defined (lines_of models m) (driven models m) taken.name (all_lines models m))
          ∙ wrong (is_some (lines_of models m taken.name)) w.0;
      at = refl;
    })
  where
    wrong : (b : Bool) → not b ≡ true → b ≡ false
    wrong true e = absurd (cc)
    wrong false e = refl

model_sound : (models : List BlifModel) (m : BlifModel) (told : Told) → Contains models m
    → Contains (model_faults models m) told → HasFault models told.line told.kind
model_sound models m told among c =
    by (Contains-append_cases (flat_map (call_faults models) m.calls) (twice ++ uses) told c)
  where
    twice : List Told
    twice = twice_driven (λ name. None) (driven models m)

    uses : List Told
    uses = undefined_in (lines_of models m) (used models m)

    behind : Contains twice told ⊎ Contains uses told → HasFault models told.line told.kind
    behind (inl d) = driven_told models m told among (driven_sound (λ name. None) [] (driven models m) told no_lines d)
    behind (inr d) = let r = in_flat (undefined_at (lines_of models m))
        (used models m) told d in use_sound models m r.one told among r.among r.there

    by : Contains (flat_map (call_faults models) m.calls) told ⊎ Contains (twice ++ uses) told
        → HasFault models told.line told.kind
    by (inl d) = let r = in_flat (call_faults models) m.calls told d in call_sound models r.one told
        (record { model = m; among = among; there = r.among }) r.there
    by (inr d) = behind (Contains-append_cases twice uses told d)

pub fault_sound : (models : List BlifModel) (told : Told) → Contains (line_faults models) told
    → HasFault models told.line told.kind
fault_sound models told c =
    by (Contains-append_cases (twice_named models 0 models) (flat_map (model_faults models) models) told c)
  where
    whole : (k : ℕ) → slice_get models (0 + k) ≡ slice_get models k
    whole k = let e : 0 + k ≡ k = omega arith in ap (slice_get models) e

    by : Contains (twice_named models 0 models) told ⊎ Contains (flat_map (model_faults models) models) told
        → HasFault models told.line told.kind
    by (inl d) = let t = twice_sound models 0 models told whole d in has_fault models told ModelTwice t.kind t.is
    by (inr d) = let r = in_flat (model_faults models) models told d in model_sound models r.one told r.among r.there

-- ---- none comes before all of them

abbrev Covers : List Told → ℕ → FlatKind → Type 0
Covers list line kind = ComesFirst list (at_line line kind)

exactly : (list : List Told) (line : ℕ) (kind : FlatKind) → Contains list (at_line line kind) → Covers list line kind
exactly list line kind c = record { one = at_line line kind; among = c; first = before_itself (at_line line kind) }

covers_left : (xs ys : List Told) (line : ℕ) (kind : FlatKind) → Covers xs line kind → Covers (xs ++ ys) line kind
covers_left xs ys line kind c =
    record { one = c.one; among = Contains-append_left xs ys c.one c.among; first = c.first }

covers_right : (xs ys : List Told) (line : ℕ) (kind : FlatKind) → Covers ys line kind → Covers (xs ++ ys) line kind
covers_right xs ys line kind c =
    record { one = c.one; among = Contains-append_right xs ys c.one c.among; first = c.first }

covers_flat : {X : Type 0} (f : X → List Told) (xs : List X) (x : X) (line : ℕ) (kind : FlatKind) → Contains xs x
    → Covers (f x) line kind → Covers (flat_map f xs) line kind
covers_flat f xs x line kind among c =
    record { one = c.one; among = flat_in f xs x c.one among c.among; first = c.first }

call_cover : (models : List BlifModel) (call : Call)
    → (model_number models call.model ≡ None → Covers (call_faults models call) call.line UnknownModel)
call_cover models call e =
    subst (λ o. Covers (elim o as (λ (x : Option ℕ). List Told) [
      | None ↦ at_line call.line UnknownModel ∷ []
      | Some n ↦ where_so
          (not (fits (model_at models (Some n)) call)) call.line Ports
    ]) call.line UnknownModel)
    (sym e) (exactly (at_line call.line UnknownModel ∷ []) call.line UnknownModel
    (head_in (at_line call.line UnknownModel) []))

ports_cover : (models : List BlifModel) (call : Call) → fits (called models call) call ≡ false
    → Covers (call_faults models call) call.line Ports
ports_cover models call e = by (model_number models call.model) e
  where
    by : (o : Option ℕ) → fits (model_at models o) call ≡ false
        → Covers (elim o as (λ (x : Option ℕ). List Told) [
          | None ↦ at_line call.line UnknownModel ∷ []
          | Some n ↦ where_so
              (not (fits (model_at models (Some n)) call)) call.line Ports
        ]) call.line Ports
    by None e = record {
      one = at_line call.line UnknownModel;
      among = head_in (at_line call.line UnknownModel) [];
      first = inr (refl, omega arith);
    }
    by (Some n) e = exactly (where_so (not (fits (model_at models (Some n)) call)) call.line Ports) call.line Ports
        (where_in (not (fits (model_at models (Some n)) call)) call.line Ports (ap not e))

in_model : (models : List BlifModel) (m : BlifModel) (line : ℕ) (kind : FlatKind) → Contains models m
    → Covers (model_faults models m) line kind → Covers (line_faults models) line kind
in_model models m line kind among c = covers_right (twice_named models 0 models)
    (flat_map (model_faults models) models) line kind (covers_flat (model_faults models) models m line kind among c)

in_call : (models : List BlifModel) (call : Call) (line : ℕ) (kind : FlatKind) → HasCall models call
    → Covers (call_faults models call) line kind → Covers (line_faults models) line kind
in_call models call line kind has c =
    in_model models has.model line kind has.among
    (covers_left (flat_map (call_faults models) has.model.calls)
    (twice_driven (λ name. None) (driven models has.model) ++ undefined_in (lines_of models has.model)
    (used models has.model)) line kind
    (covers_flat (call_faults models) has.model.calls call line kind has.there c))

-- a fault of a line, with its line as the fault says it
at_told : (models : List BlifModel) (kind : FlatKind) (l line : ℕ) → l ≡ line → Covers (line_faults models) l kind
    → Covers (line_faults models) line kind
at_told models kind l line e c = subst (λ n. Covers (line_faults models) n kind) e c

twice_covers : (models : List BlifModel) (line : ℕ) → IsModelTwice models line
    → Covers (line_faults models) line ModelTwice
twice_covers models line h =
    let is = is_twice_at models h.earlier h.later h.first h.second h.before h.is_first h.name h.named in
    let z : h.later ≡ 0 + h.later = omega arith in
    at_told models ModelTwice h.second.line line h.at
    (covers_left (twice_named models 0 models) (flat_map (model_faults models) models) h.second.line ModelTwice
    (exactly (twice_named models 0 models) h.second.line ModelTwice
    (twice_cover models 0 models h.later h.second h.is_second (ap (λ n. is_twice models n h.second) (sym z) ∙ is))))

pair_covers : (models : List BlifModel) (line : ℕ) → IsDrivenTwice models line
    → Covers (line_faults models) line Duplicate
pair_covers models line h =
    at_told models Duplicate (max h.first.line h.second.line) line h.at
    (in_model models h.model (max h.first.line h.second.line) Duplicate h.among
    (covers_right (flat_map (call_faults models) h.model.calls)
    (twice_driven (λ name. None) (driven models h.model) ++ undefined_in (lines_of models h.model)
    (used models h.model)) (max h.first.line h.second.line) Duplicate
    (covers_left (twice_driven (λ name. None) (driven models h.model))
    (undefined_in (lines_of models h.model) (used models h.model)) (max h.first.line h.second.line) Duplicate
    (driven_cover (λ name. None) [] (driven models h.model) h.one h.other h.first h.second no_lines h.apart
    (omega arith) h.is_first h.is_second h.name))))

use_covers : (models : List BlifModel) (line : ℕ) → IsUndefined models line → Covers (line_faults models) line Undefined
use_covers models line h =
    let off : is_some (lines_of models h.model h.taken.name) ≡ false = line_defined (lines_of models h.model)
    (driven models h.model) h.taken.name (all_lines models h.model) ∙ h.undriven in
    at_told models Undefined h.taken.line line h.at
    (in_model models h.model h.taken.line Undefined h.among
    (covers_right (flat_map (call_faults models) h.model.calls)
    (twice_driven (λ name. None) (driven models h.model) ++ undefined_in (lines_of models h.model)
    (used models h.model)) h.taken.line Undefined
    (covers_right (twice_driven (λ name. None) (driven models h.model))
    (undefined_in (lines_of models h.model) (used models h.model)) h.taken.line Undefined
    (covers_flat (undefined_at (lines_of models h.model)) (used models h.model) h.taken h.taken.line Undefined h.there
    (exactly (undefined_at (lines_of models h.model) h.taken) h.taken.line Undefined
    (where_in (not (is_some (lines_of models h.model h.taken.name))) h.taken.line Undefined (ap not off)))))))

unknown_covers : (models : List BlifModel) (line : ℕ) → IsUnknown models line
    → Covers (line_faults models) line UnknownModel
unknown_covers models line h = at_told models UnknownModel h.call.line line h.at
    (in_call models h.call h.call.line UnknownModel h.there (call_cover models h.call h.none))

ports_covers : (models : List BlifModel) (line : ℕ) → HasPorts models line → Covers (line_faults models) line Ports
ports_covers models line h = at_told models Ports h.call.line line h.at
    (in_call models h.call h.call.line Ports h.there (ports_cover models h.call h.wrong))

pub fault_cover : (models : List BlifModel) (line : ℕ) (kind : FlatKind) → HasFault models line kind
    → Covers (line_faults models) line kind
fault_cover models line ModelTwice h = twice_covers models line h
fault_cover models line UnknownModel h = unknown_covers models line h
fault_cover models line Ports h = ports_covers models line h
fault_cover models line Duplicate h = pair_covers models line h
fault_cover models line Undefined h = use_covers models line h
fault_cover models line Recursive h = absurd h
fault_cover models line NoOutputs h = absurd h

-- ---- the one that is told

best_told : (models : List BlifModel) (told : Option Told)
    → IsBestOf None (line_faults models) told → IsTold models told
best_told models None h = λ line kind f. let c = fault_cover models line kind f in none_in c.one
    (subst (λ list. Contains list c.one) h.1 c.among)
best_told models (Some told) h = record {
  is = fault_sound models told (by h.from);
  first = λ other late f. let c = fault_cover models other late f in before_both told c.one (at_line other late)
      (h.before_each c.one c.among) c.first;
}
  where
    by : (None ≡ Some told) ⊎ Contains (line_faults models) told → Contains (line_faults models) told
    by (inl e) = absurd (cc)
    by (inr c) = c

pub told_first : (models : List BlifModel) (told : Option Told)
    → told ≡ told_in models (least_of None (twice_named models 0 models)) models → IsTold models told
told_first models told e =
    best_told models told (subst (IsBestOf None (line_faults models))
    (least_append None (twice_named models 0 models) (flat_map (model_faults models) models)
    ∙ sym (models_all models (least_of None (twice_named models 0 models)) models) ∙ sym e)
    (best_of_list None (line_faults models)))
