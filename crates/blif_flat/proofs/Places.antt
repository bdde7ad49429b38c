-- Places of elements in lists, and the first model that has a name.
use Rattle.std.proofs.Common.{◌≡◌, ◌≢◌, ℕ, zero, suc, ◌<◌, ◌≤◌, true, false, cond, ◌⊎◌, inl, inr, List, [], ◌∷◌, ◌++◌}
use Rattle.std.proofs.Common.{length, Some, None, Contains, refl, sym, ap, ◌∙◌, arith, get_or}
use Rattle.std.specs.Prelude.{slice_get, nat_lt}
use Rattle.std.specs.List.{position_or_len}
use Rattle.std.specs.Str.{bytes_eq}
use Rattle.std.proofs.lemmas.Option.{slice_get-get_or, slice_get_within, get_or_from_slice_get}
use Rattle.std.proofs.lemmas.Bool.{lt-ltb, cases_lt}
use Rattle.std.proofs.lemmas.List.Quantifiers.{position-Some}
use Rattle.std.proofs.lemmas.List.Sums.{fails_before_first}
use Rattle.blif_read.specs.declared.models.BlifModel.{BlifModel}
use Rattle.blif_flat.specs.Designs.{model_number, no_model}
use Rattle.blif_flat.proofs.Numbering.{bytes_same}
use Rattle.blif_flat.proofs.Members.{same_bytes}

pub at_place : {X : Type 0} (xs : List X) (x : X) (c : Contains xs x) → slice_get xs c.0 ≡ Some x
at_place xs x c = slice_get-get_or xs c.0 x c.1 ∙ ap Some c.2

pub in_place : {X : Type 0} (xs : List X) (k : ℕ) (x : X) → slice_get xs k ≡ Some x → Contains xs x
in_place xs k x e = (k, slice_get_within xs k x e, get_or_from_slice_get xs k x x e)

pub get_front : {X : Type 0} (xs ys : List X) (k : ℕ) → k < length xs → slice_get (xs ++ ys) k ≡ slice_get xs k
get_front [] ys k lt = absurd (omega arith)
get_front (x ∷ xs) ys zero lt = refl
get_front (x ∷ xs) ys (suc k) lt = get_front xs ys k (omega arith)

pub get_behind : {X : Type 0} (xs ys : List X) (y : X) → slice_get (xs ++ y ∷ ys) (length xs) ≡ Some y
get_behind [] ys y = refl
get_behind (x ∷ xs) ys y = get_behind xs ys y

-- ---- the first model that has a name

-- the number of a name is that of a model that has it, and the name is not empty
pub record IsNamed (models : List BlifModel) (name : List ℕ) (n : ℕ) : Type 0 where
  pub one : BlifModel
  pub is : slice_get models n ≡ Some one
  pub same : one.name ≡ name
  pub some : name ≢ []

pub number_found : (models : List BlifModel) (name : List ℕ) (n : ℕ)
    → model_number models name ≡ Some n → IsNamed models name n
number_found models [] n e = absurd (cc)
number_found models (b ∷ bs) n e =
    let p = position-Some (λ m. bytes_eq (b ∷ bs) m.name) models n no_model e in record {
      one = get_or models n no_model;
      is = slice_get-get_or models n no_model p.0;
      same = sym (bytes_same (b ∷ bs) (get_or models n no_model).name p.1);
      some = λ f. absurd (cc);
    }

-- no later number is found than that of a model that has the name
pub record IsFound (models : List BlifModel) (name : List ℕ) (n : ℕ) : Type 0 where
  pub number : ℕ
  pub is : model_number models name ≡ Some number
  pub low : number ≤ n

pub number_finds : (models : List BlifModel) (name : List ℕ) (n : ℕ) (m : BlifModel) → slice_get models n ≡ Some m
    → m.name ≡ name → name ≢ [] → IsFound models name n
number_finds models [] n m e s some = absurd (some refl)
number_finds models (b ∷ bs) n m e s some = by (cases_lt n (position_or_len (λ m. bytes_eq (b ∷ bs) m.name) models))
  where
    within : n < length models
    within = slice_get_within models n m e

    by : (n < position_or_len (λ m. bytes_eq (b ∷ bs) m.name) models)
        ⊎ (position_or_len (λ m. bytes_eq (b ∷ bs) m.name) models ≤ n) → IsFound models (b ∷ bs) n
    by (inl lt) =
        let off : bytes_eq (b ∷ bs) (get_or models n m).name ≡ false = fails_before_first
        (λ m. bytes_eq (b ∷ bs) m.name) models n m lt in
        let on : bytes_eq (b ∷ bs) (get_or models n m).name ≡ true = same_bytes (b ∷ bs) (get_or models n m).name
        (sym s ∙ ap (λ x. x.name) (sym (get_or_from_slice_get models n m m e))) in
        absurd (cc)
    by (inr le) =
        let w = within in
        let t : nat_lt (position_or_len (λ m. bytes_eq (b ∷ bs) m.name) models) (length models) ≡ true =
        lt-ltb (position_or_len (λ m. bytes_eq (b ∷ bs) m.name) models) (length models) (omega arith) in record {
          number = position_or_len (λ m. bytes_eq (b ∷ bs) m.name) models;
          is = ap (λ x. cond x (Some (position_or_len (λ m. bytes_eq (b ∷ bs) m.name) models)) None) t;
          low = le;
        }
