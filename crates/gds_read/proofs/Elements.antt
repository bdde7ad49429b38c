-- A name that no structure has.
use Rattle.std.proofs.Common.{◌≡◌, ◌<◌, ◌^◌, arith, ℕ, suc, List, [], ◌∷◌, map, length, Bool, true, false, ◌||◌, Option}
use Rattle.std.proofs.Common.{Some, None, Bor, refl, sym, ap, ◌∙◌}
use Rattle.std.proofs.lemmas.List.{length-map}
use Rattle.gds_records.specs.Records.{same}
use Rattle.gds_records.specs.Drawing.{place_of}
use Rattle.gds_records.specs.Steps.{is_listed}
use Rattle.gds_records.specs.Whole.{Outline}
use Rattle.gds_read.specs.declared.outline.NamedOutline.{NamedOutline}
use Rattle.gds_read.specs.Code.Numbering.{number_in, IsNumbering}
use Rattle.gds_read.specs.Code.Outlining.{outline_of, names_in}

unplaced : (t : List ℕ) (ns : List (List ℕ)) → is_listed t ns ≡ false → place_of t ns ≡ length ns
unplaced t [] e = refl
unplaced t (n ∷ ns) e = step (same t n) (is_listed t ns) (place_of t ns) (unplaced t ns) e
  where
    step : (b l : Bool) (p : ℕ) → (l ≡ false → p ≡ length ns) → (b || l) ≡ false
        → (elim b as (λ (x : Bool). ℕ) [ true ↦ 0 | false ↦ suc p ]) ≡ suc (length ns)
    step true l p h e = absurd cc
    step false l p h e = ap (λ (k : ℕ). suc k) (h e)

not_placed : (l : Bool) (p : ℕ) → None ≡ (elim l as (λ (x : Bool). Option ℕ) [ true ↦ Some p | false ↦ None ])
    → l ≡ false
not_placed true p e = absurd cc
not_placed false p e = refl

placed : (l : Bool) (p n : ℕ) → Some n ≡ (elim l as (λ (x : Bool). Option ℕ) [ true ↦ Some p | false ↦ None ]) → n ≡ p
placed true p n e = cc
placed false p n e = absurd cc

pub some_number : (entries : List (Bor (List ℕ) × ℕ)) (ss : List NamedOutline) (t : List ℕ) (n : ℕ)
    → IsNumbering entries (names_in ss) → Some n ≡ number_in entries t → n ≡ place_of t (names_in ss)
some_number entries ss t n is e = placed (is_listed t (names_in ss)) (place_of t (names_in ss)) n (e ∙ is.each t)

pub few_names : (entries : List (Bor (List ℕ) × ℕ)) (ss : List NamedOutline) → IsNumbering entries (names_in ss)
    → length ss < 2 ^ 32
few_names entries ss is = omega (
  arith,
  is.few,
  length-map ss outline_of,
  length-map (map outline_of ss)
      (λ (o : Outline). o.name),
)

pub no_number : (entries : List (Bor (List ℕ) × ℕ)) (ss : List NamedOutline) (t : List ℕ)
    → IsNumbering entries (names_in ss) → None ≡ number_in entries t → length ss ≡ place_of t (names_in ss)
no_number entries ss t is e =
    let l : is_listed t (names_in ss) ≡ false = not_placed (is_listed t (names_in ss)) (place_of t (names_in ss))
    (e ∙ is.each t) in
    sym (length-map ss outline_of) ∙ sym (length-map (map outline_of ss) (λ s. s.name))
    ∙ sym (unplaced t (names_in ss) l)
