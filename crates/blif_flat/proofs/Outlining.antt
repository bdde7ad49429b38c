-- The places of a model's signals, part by part of its block.
use Rattle.std.proofs.Common.{◌≡◌, ℕ, zero, suc, ◌+◌, ◌<◌, ◌≤◌, List, [], ◌∷◌, ◌++◌, map, length, take, get_or}
use Rattle.std.proofs.Common.{slice_get, refl, sym, ap, ◌∙◌, subst, arith, Option, Some, None, replicate, Bor}
use Rattle.std.proofs.Common.{append_assoc, length-append, flat_map, filter}
use Rattle.std.specs.Prelude.{slice_index_or}
use Rattle.std.specs.List.{AllByRecursion}
use Rattle.std.proofs.lemmas.List.{map-append, append-nil, take_more, take_all, length-map, length-replicate}
use Rattle.std.proofs.lemmas.List.Concat.{flat_map-append}
use Rattle.blif_read.specs.declared.models.Call.{Call}
use Rattle.blif_read.specs.declared.models.Named.{Named}
use Rattle.blif_read.specs.declared.models.NamedDef.{NamedDef}
use Rattle.blif_read.specs.declared.models.BlifModel.{BlifModel}
use Rattle.blif_flat.specs.Designs.{names_in, model_number, model_at, no_model, actual_of, distinct_outputs, formals}
use Rattle.blif_read.specs.Parts.{is_defined}
use Rattle.blif_flat.specs.declared.models.outlines.Outline.{Outline}
use Rattle.blif_flat.specs.Code.Blocks.{call_names, block_names, own_names, wide}
use Rattle.blif_flat.specs.Code.Joins.{ports_for, actuals_in, ArePlaces}
use Rattle.blif_flat.specs.Code.Outlines.{IsOutline, HasOutline}
use Rattle.blif_flat.proofs.Members.{map_map}
use Rattle.blif_flat.proofs.Joining.{outputs_actuals}

-- the outline that was found is that of the model
pub found_outline : (models : List BlifModel) (outlines : List Outline) (n : ℕ) (outline : Outline)
    → Some outline ≡ slice_get outlines n
    → HasOutline models outlines n → IsOutline models (slice_index_or models n no_model) outline
found_outline models outlines n outline at has =
    subst (IsOutline models (slice_index_or models n no_model)) (some_same (sym has.at ∙ sym at)) has.is
  where
    some_same : {X : Type 0} {x y : X} → Some x ≡ Some y → x ≡ y
    some_same e = cc

pub all_at : {X : Type 0} (P : X → Type 0) (xs : List X) (i : ℕ) (x : X) → AllByRecursion P xs → i < length xs
    → x ≡ get_or xs i x → P x
all_at P [] i x all lt is = absurd (omega arith)
all_at P (y ∷ xs) zero x all lt is = subst P (sym is) all.0
all_at P (y ∷ xs) (suc i) x all lt is = all_at P xs i x all.1 (omega arith) is

abbrev somes : List (List ℕ) → List (Option (List ℕ))
somes names = map (λ n. Some n) names

-- what a call adds, where its model is known
names_at : List BlifModel → Call → Option ℕ → List (Option (List ℕ))
names_at models call o = replicate (wide models (model_at models o)) None ++ map (λ o. Some (actual_of call o))
    (filter (is_defined (formals call)) (distinct_outputs (model_at models o)))

names_are : (models : List BlifModel) (call : Call) → names_at models call (model_number models call.model) ≡ call_names
    (wide models) models call
unfolding names_at
names_are models call = refl

call_adds : (models : List BlifModel) (n : ℕ) (call : Call) (outline : Outline) (keys : List (List ℕ))
    (ports : List (Option ℕ)) → IsOutline models (slice_index_or models n no_model) outline
    → keys ≡ distinct_outputs (slice_index_or models n no_model) → ports ≡ ports_for keys (formals call)
    → replicate outline.width None ++ somes (actuals_in call ports) ≡ names_at models call (Some n)
unfolding names_at
call_adds models n call outline keys ports is k p =
    let outs = distinct_outputs (slice_index_or models n no_model) in
    let joined : actuals_in call ports ≡ map (actual_of call) (filter (is_defined (formals call)) outs) =
    ap (actuals_in call) (p ∙ ap (λ names. ports_for names (formals call)) k) ∙ outputs_actuals call outs in
    (λ i. replicate (is.width i) None ++ somes (joined i))
    ∙ ap (λ back. replicate (wide models (slice_index_or models n no_model)) None ++ back)
    (map_map (λ n. Some n) (actual_of call) (filter (is_defined (formals call)) outs))

pub call_places : (models : List BlifModel) (n : ℕ) (call : Call) (outline : Outline) (keys : List (List ℕ))
    (ports seen : List (Option ℕ)) (old new : List (Bor (List ℕ) × ℕ)) (count inner next : ℕ)
    → model_number models call.model ≡ Some n
    → IsOutline models (slice_index_or models n no_model) outline
    → keys ≡ distinct_outputs (slice_index_or models n no_model) → seen ≡ ports
    → ports ≡ ports_for keys (formals call)
    → ((names : List (Option (List ℕ))) → ArePlaces old count names
    → ArePlaces old inner (names ++ replicate outline.width None))
    → ((names : List (Option (List ℕ))) → ArePlaces old inner names
    → ArePlaces new next (names ++ map (λ n. Some n) (actuals_in call seen)))
    → (names : List (Option (List ℕ))) → ArePlaces old count names
    → ArePlaces new next (names ++ call_names (wide models) models call)
call_places models n call outline keys ports seen old new count inner next at is k s p passes adds names places =
    let whole : (names ++ replicate outline.width None) ++ somes (actuals_in call seen) ≡ names ++ call_names
    (wide models) models call =
    append_assoc names (replicate outline.width None) (somes (actuals_in call seen))
    ∙ ap (λ back. names ++ back) (call_adds models n call outline keys seen is k (s ∙ p)
    ∙ ap (names_at models call) (sym at) ∙ names_are models call) in
    subst (ArePlaces new next) whole (adds (names ++ replicate outline.width None) (passes names places))

-- how much a call adds
pub call_places_count : (models : List BlifModel) (n : ℕ) (call : Call) (outline : Outline) (keys : List (List ℕ))
    (ports seen : List (Option ℕ)) → model_number models call.model ≡ Some n
    → IsOutline models (slice_index_or models n no_model) outline
    → keys ≡ distinct_outputs (slice_index_or models n no_model) → seen ≡ ports
    → ports ≡ ports_for keys (formals call)
    → outline.width + length (actuals_in call seen) ≡ length (call_names (wide models) models call)
call_places_count models n call outline keys ports seen at is k s p =
    let whole : length (replicate outline.width None ++ somes (actuals_in call seen)) ≡ length
    (call_names (wide models) models call) =
    ap length (call_adds models n call outline keys seen is k (s ∙ p) ∙ ap (names_at models call) (sym at)
    ∙ names_are models call) in
    let parts = length-append (replicate {A = Option (List ℕ)} outline.width None) (somes (actuals_in call seen)) in
    let inner = length-replicate {A = Option (List ℕ)} outline.width None in
    let outer = length-map (actuals_in call seen) (λ n. Some n) in
    omega arith

-- ---- one part more

pub part_more : {X : Type 0} (f : X → List (Option (List ℕ))) (xs : List X) (i : ℕ) (x : X)
    (old middle new : List (Bor (List ℕ) × ℕ)) (count between next : ℕ) → i < length xs → x ≡ get_or xs i x
    → ((names : List (Option (List ℕ))) → ArePlaces old count names
    → ArePlaces middle between (names ++ flat_map f (take i xs)))
    → ((names : List (Option (List ℕ))) → ArePlaces middle between names → ArePlaces new next (names ++ f x))
    → (names : List (Option (List ℕ))) → ArePlaces old count names
    → ArePlaces new next (names ++ flat_map f (take (i + 1) xs))
part_more f xs i x old middle new count between next lt is before adds names places =
    let more : flat_map f (take (i + 1) xs) ≡ flat_map f (take i xs) ++ f x =
    ap (flat_map f) (take_more xs i x lt ∙ ap (λ y. take i xs ++ y ∷ []) (sym is))
    ∙ flat_map-append f (take i xs) (x ∷ []) ∙ ap (λ back. flat_map f (take i xs) ++ back) (append-nil (f x)) in
    subst (ArePlaces new next) (append_assoc names (flat_map f (take i xs)) (f x)
    ∙ ap (λ back. names ++ back) (sym more)) (adds (names ++ flat_map f (take i xs)) (before names places))

pub all_parts : {X : Type 0} (f : X → List (Option (List ℕ))) (xs ys : List X) (i : ℕ)
    (old new : List (Bor (List ℕ) × ℕ)) (count next : ℕ) → ys ≡ xs → length ys ≤ i
    → ((names : List (Option (List ℕ))) → ArePlaces old count names
    → ArePlaces new next (names ++ flat_map f (take i xs)))
    → (names : List (Option (List ℕ))) → ArePlaces old count names → ArePlaces new next (names ++ flat_map f xs)
all_parts f xs ys i old new count next same le h names places =
    subst (λ zs. ArePlaces new next (names ++ flat_map f zs))
    (take_all i xs (subst (λ zs. length zs ≤ i) same le)) (h names places)

flat_ones : {X : Type 0} (g : X → List ℕ) (xs : List X)
    → flat_map (λ x. Some (g x) ∷ []) xs ≡ map (λ n. Some n) (map g xs)
flat_ones g [] = refl
flat_ones g (x ∷ xs) = ap (λ back. Some (g x) ∷ back) (flat_ones g xs)

-- the names of a block, part by part
pub block_parts_are : (models : List BlifModel) (model : BlifModel)
    → flat_map (λ (n : Named). Some n.name ∷ []) model.inputs ++ flat_map
    (λ (d : NamedDef). Some d.output ∷ []) model.defs ++ flat_map (call_names (wide models) models) model.calls
    ≡ block_names (wide models) models model
block_parts_are models model =
    let ins : flat_map (λ (n : Named). Some n.name ∷ []) model.inputs ≡ somes (names_in model.inputs) = flat_ones
    (λ (n : Named). n.name) model.inputs in
    let outs : flat_map (λ (d : NamedDef). Some d.output ∷ []) model.defs ≡ somes (map (λ d. d.output) model.defs) =
    flat_ones (λ (d : NamedDef). d.output) model.defs in
    let own : somes (own_names model) ≡ somes (names_in model.inputs) ++ somes (map (λ d. d.output) model.defs) =
    map-append (λ n. Some n) (names_in model.inputs) (map (λ d. d.output) model.defs) in
    (λ i. (ins i ++ outs i) ++ flat_map (call_names (wide models) models) model.calls)
    ∙ ap (λ front. front ++ flat_map (call_names (wide models) models) model.calls) (sym own)

places_start : (entries : List (Bor (List ℕ) × ℕ)) → entries ≡ [] → ArePlaces entries 0 []
places_start entries e = subst (λ es. ArePlaces es 0 []) (sym e) record { found = λ t. refl; count = refl }

-- all parts of a block
pub places_whole : (models : List BlifModel) (model : BlifModel) (ins : List Named) (defs : List NamedDef)
    (calls : List Call) (e0 e1 e2 e3 : List (Bor (List ℕ) × ℕ)) (n1 n2 n3 : ℕ) → ins ≡ model.inputs → defs ≡ model.defs
    → calls ≡ model.calls → e0 ≡ []
    → ((names : List (Option (List ℕ))) → ArePlaces e0 0 names
    → ArePlaces e1 n1 (names ++ flat_map (λ n. Some n.name ∷ []) ins))
    → ((names : List (Option (List ℕ))) → ArePlaces e1 n1 names
    → ArePlaces e2 n2 (names ++ flat_map (λ d. Some d.output ∷ []) defs))
    → ((names : List (Option (List ℕ))) → ArePlaces e2 n2 names
    → ArePlaces e3 n3 (names ++ flat_map (call_names (wide models) models) calls))
    → ArePlaces e3 n3 (block_names (wide models) models model)
places_whole models model ins defs calls e0 e1 e2 e3 n1 n2 n3 i d c e f g h =
    let ins_at = flat_map (λ (n : Named). Some n.name ∷ []) ins in
    let defs_at = flat_map (λ (x : NamedDef). Some x.output ∷ []) defs in
    subst (ArePlaces e3 n3) ((λ j.
    (flat_map (λ (n : Named). Some n.name ∷ []) (i j) ++ flat_map (λ (x : NamedDef). Some x.output ∷ [])
    (d j)) ++ flat_map (call_names (wide models) models) (c j)) ∙ block_parts_are models model)
    (h (ins_at ++ defs_at) (g ins_at (f [] (places_start e0 e))))
