-- Models that have the name of an earlier one, as they are met in order.
use Rattle.std.proofs.Common.{◌≡◌, ◌≢◌, ℕ, zero, suc, ◌+◌, ◌<◌, Bool, true, false, ◌⊎◌, inl, inr, List, [], ◌∷◌, Option}
use Rattle.std.proofs.Common.{Some, None, Contains, refl, sym, ap, ◌∙◌, subst, arith}
use Rattle.std.specs.Prelude.{slice_get, nat_lt}
use Rattle.std.proofs.lemmas.Bool.{ltb-true, lt-ltb}
use Rattle.std.proofs.lemmas.List.Elements.{Contains-append_left, Contains-append_right, Contains-append_cases}
use Rattle.blif_read.specs.declared.models.BlifModel.{BlifModel}
use Rattle.blif_flat.specs.Designs.{model_number}
use Rattle.blif_flat.specs.DesignFaults.{IsModelTwice}
use Rattle.blif_flat.specs.Code.Joining.{at_line, where_so, is_twice, twice_named}
use Rattle.blif_flat.specs.declared.design.FlatKind.TheVariants.{ModelTwice}
use Rattle.blif_flat.specs.declared.faults.order.Told.{Told}
use Rattle.blif_flat.proofs.Least.{in_where, where_in, none_in}
use Rattle.blif_flat.proofs.Places.{number_found, number_finds}

pub record TellsTwice (models : List BlifModel) (told : Told) : Type 0 where
  pub kind : told.kind ≡ ModelTwice
  pub is : IsModelTwice models told.line

-- these models stand in a list from number n on
abbrev pub StandFrom : List BlifModel → ℕ → List BlifModel → Type 0
StandFrom models n ms = (k : ℕ) → slice_get models (n + k) ≡ slice_get ms k

stand_tail : (models : List BlifModel) (n : ℕ) (m : BlifModel) (ms : List BlifModel) → StandFrom models n (m ∷ ms)
    → StandFrom models (suc n) ms
stand_tail models n m ms h k = let e : suc n + k ≡ n + suc k = omega arith in ap (slice_get models) e ∙ h (suc k)

stand_head : (models : List BlifModel) (n : ℕ) (m : BlifModel) (ms : List BlifModel) → StandFrom models n (m ∷ ms)
    → slice_get models n ≡ Some m
stand_head models n m ms h = let e : n ≡ n + 0 = omega arith in ap (slice_get models) e ∙ h 0

twice_here : (models : List BlifModel) (n : ℕ) (m : BlifModel) → slice_get models n ≡ Some m
    → is_twice models n m ≡ true → TellsTwice models (at_line m.line ModelTwice)
twice_here models n m at e = by (model_number models m.name) refl e
  where
    by : (o : Option ℕ) → model_number models m.name ≡ o
        → elim o as (λ (x : Option ℕ). Bool) [ None ↦ false | Some first ↦ nat_lt first n ] ≡ true
        → TellsTwice models (at_line m.line ModelTwice)
    by None f e = absurd (cc)
    by (Some first) f e =
        let named = number_found models m.name first f in record {
          kind = refl;
          is = record {
            earlier = first;
            later = n;
            first = named.one;
            second = m;
            before = ltb-true first n e;
            is_first = named.is;
            is_second = at;
            name = named.same;
            named = named.some;
            at = refl;
          };
        }

pub twice_sound : (models : List BlifModel) (n : ℕ) (ms : List BlifModel) (told : Told) → StandFrom models n ms
    → Contains (twice_named models n ms) told → TellsTwice models told
twice_sound models n [] told h c = absurd (none_in told c)
twice_sound models n (m ∷ ms) told h c = by (λ d. twice_sound models (suc n) ms told (stand_tail models n m ms h) d)
    (Contains-append_cases (where_so (is_twice models n m) m.line ModelTwice) (twice_named models (suc n) ms) told c)
  where
    by : (Contains (twice_named models (suc n) ms) told → TellsTwice models told)
        → Contains (where_so (is_twice models n m) m.line ModelTwice) told
        ⊎ Contains (twice_named models (suc n) ms) told → TellsTwice models told
    by more (inl d) = let w = in_where (is_twice models n m) m.line ModelTwice told d in subst (TellsTwice models) w.1
        (twice_here models n m (stand_head models n m ms h) w.0)
    by more (inr d) = more d

pub is_twice_at : (models : List BlifModel) (earlier later : ℕ) (first second : BlifModel) → earlier < later
    → slice_get models earlier ≡ Some first → first.name ≡ second.name → second.name ≢ []
    → is_twice models later second ≡ true
is_twice_at models earlier later first second lt f n some =
    let found = number_finds models second.name earlier first f n some in
    ap (λ o. elim o as (λ (x : Option ℕ). Bool) [ None ↦ false | Some first ↦ nat_lt first later ]) found.is
    ∙ (let l = found.low in lt-ltb found.number later (omega arith))

pub twice_cover : (models : List BlifModel) (n : ℕ) (ms : List BlifModel) (k : ℕ) (second : BlifModel)
    → slice_get ms k ≡ Some second → is_twice models (n + k) second ≡ true
    → Contains (twice_named models n ms) (at_line second.line ModelTwice)
twice_cover models n [] k second s t = absurd (cc)
twice_cover models n (m ∷ ms) zero second s t =
    let same : m ≡ second = cc in
    let z : n + 0 ≡ n = omega arith in
    Contains-append_left (where_so (is_twice models n m) m.line ModelTwice) (twice_named models (suc n) ms)
    (at_line second.line ModelTwice)
    (subst (λ x. Contains (where_so (is_twice models n m) m.line ModelTwice) (at_line x.line ModelTwice)) same
    (where_in (is_twice models n m) m.line ModelTwice (ap (λ x. is_twice models n x) same
    ∙ ap (λ j. is_twice models j second) (sym z) ∙ t)))
twice_cover models n (m ∷ ms) (suc k) second s t =
    let z : suc n + k ≡ n + suc k = omega arith in
    Contains-append_right (where_so (is_twice models n m) m.line ModelTwice) (twice_named models (suc n) ms)
    (at_line second.line ModelTwice)
    (twice_cover models (suc n) ms k second s (ap (λ j. is_twice models j second) z ∙ t))
