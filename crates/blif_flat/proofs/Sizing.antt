-- Sizes of models, model by model in an order of their calls.
use Rattle.std.proofs.Common.{◌≡◌, ℕ, zero, suc, ◌+◌, ◌*◌, ◌^◌, ◌-◌, ◌<◌, ◌≤◌, ◌||◌, List, [], ◌∷◌, ◌++◌, length, take}
use Rattle.std.proofs.Common.{get_or, set, reverse, arith, true, refl, sym, ap, subst, ◌∙◌, inl, inr, min, Option, Some}
use Rattle.std.proofs.Common.{None, get_or-set_other, get_or-set_same}
use Rattle.std.specs.Prelude.{nat_eq, slice_index_or}
use Rattle.std.specs.List.{AllByRecursion, flat_map, sum_by}
use Rattle.std.proofs.lemmas.Bool.{cases_Bool, eqb-true, eqb-false}
use Rattle.std.proofs.lemmas.List.{take_more, take_all, get_or_read}
use Rattle.std.proofs.lemmas.List.Sums.{sum_by-cons, sum_by-append}
use Rattle.blif_read.specs.Walk.{on}
use Rattle.blif_read.specs.Walked.{Settled}
use Rattle.blif_read.proofs.Closing.{all_map}
use Rattle.blif_read.specs.declared.models.Call.{Call}
use Rattle.blif_read.specs.declared.models.BlifModel.{BlifModel}
use Rattle.blif_flat.specs.Designs.{model_number, no_model, model_at, first_model, distinct_outputs}
use Rattle.blif_flat.specs.DesignFaults.{number_in as listed, callees, calls_of}
use Rattle.blif_flat.specs.DesignSize.{definition_size, call_size, model_size, design_size}
use Rattle.blif_flat.specs.Code.Calls.{IsCallOrder}
use Rattle.blif_flat.specs.Code.Sizes.{told, called_size, size_of_call, told_at, size_by, TellsCalls}
use Rattle.blif_flat.proofs.Settling.{agrees, order_fits, next_done, next_reads, settled_to, all_to, reads_done}

-- the model of a number
abbrev pub at : List BlifModel → ℕ → BlifModel
at models n = slice_index_or models n no_model

pub calls_at : (models : List BlifModel) (n : ℕ) → calls_of models n ≡ (at models n).calls
calls_at [] n = refl
calls_at (m ∷ ms) zero = refl
calls_at (m ∷ ms) (suc n) = calls_at ms n

pub callees_at : (models : List BlifModel) (n : ℕ)
    → callees models n ≡ flat_map (λ c. listed (model_number models c.model)) (at models n).calls
callees_at models n = ap (flat_map (λ c. listed (model_number models c.model))) (calls_at models n)

none_size : (steps : ℕ) (models : List BlifModel) → model_size steps models no_model ≡ 0
none_size zero models = refl
none_size (suc steps) models = refl

-- what holds of the models that calls name holds of the model of each
pub each_called : (models : List BlifModel) (P : BlifModel → Type 0) (o : Option ℕ) (rest : List ℕ) → P no_model
    → AllByRecursion (λ q. P (at models q)) (listed o ++ rest)
    → P (model_at models o) × AllByRecursion (λ q. P (at models q)) rest
each_called models P None rest n h = (n, h)
each_called models P (Some q) rest n h = (h.0, h.1)

sum_calls : (f g : BlifModel → ℕ) (models : List BlifModel) (calls : List Call) → f no_model ≡ g no_model
    → AllByRecursion (λ q. f (at models q) ≡ g (at models q))
    (flat_map (λ c. listed (model_number models c.model)) calls)
    → sum_by (call_size f models) calls ≡ sum_by (call_size g models) calls
sum_calls f g models [] n h = refl
sum_calls f g models (c ∷ cs) n h =
    let both = each_called models (λ m. f m ≡ g m) (model_number models c.model)
    (flat_map (λ c. listed (model_number models c.model)) cs) n h in
    let rest : sum_by (call_size f models) cs ≡ sum_by (call_size g models) cs = sum_calls f g models cs n both.1 in
    let here : call_size f models c ≡ call_size g models c = omega (arith, both.0) in
    sum_by-cons (call_size f models) c cs ∙ (λ i. here i + rest i) ∙ sym (sum_by-cons (call_size g models) c cs)

Agree : List BlifModel → ℕ → ℕ → ℕ → Type 0
Agree models j k n = model_size j models (at models n) ≡ model_size k models (at models n)

one_step : (models : List BlifModel) (j k n : ℕ) → AllByRecursion (Agree models j k) (callees models n)
    → Agree models (suc j) (suc k) n
unfolding Agree
one_step models j k n h = ap (λ x. sum_by definition_size (at models n).defs + x)
    (sum_calls (model_size j models) (model_size k models) models (at models n).calls (none_size j models
    ∙ sym (none_size k models))
    (subst (AllByRecursion (λ q. model_size j models (at models q) ≡ model_size k models (at models q)))
    (callees_at models n) h))

-- one step more finds the same size
more_steps : (models : List BlifModel) (done : List ℕ) (n : ℕ) → Settled 0 (callees models) done → on done n ≡ true
    → length done ≤ length models
    → model_size (suc (length models)) models (at models n) ≡ model_size (length models) models (at models n)
unfolding Agree
more_steps models done n s e le = agrees (callees models) (Agree models) (one_step models) done s n e
    (suc (length models)) (length models) (omega arith) le

-- ---- sizes of a table

told_in : (x s r m : ℕ) → min (x + (min s m + r)) m ≡ min ((x + s) + r) m
told_in x s r m = omega arith

told_same : (x a b r m : ℕ) → min a m ≡ b → min (x + (b + r)) m ≡ min ((x + a) + r) m
told_same x a b r m e = ap (λ y. min (x + (y + r)) m) (sym e) ∙ told_in x a r m

told_calls : (f : BlifModel → ℕ) (models : List BlifModel) (table : List ℕ) (calls : List Call)
    (x m : ℕ) → 1 ≤ m → f no_model ≡ 0
    → AllByRecursion (λ q. slice_index_or table q 0 ≡ min (called_size (at models q) (f (at models q))) m)
    (flat_map (λ c. listed (model_number models c.model)) calls)
    → min (x + sum_by (λ c. told_at table (model_number models c.model)) calls) m ≡ min
    (x + sum_by (call_size f models) calls) m
told_calls f models table [] x m le n h = refl
told_calls f models table (c ∷ cs) x m le n h =
    let both = one (model_number models c.model) h in
    let there = told_calls f models table cs (x + call_size f models c) m le n both.1 in
    ap (λ s. min (x + s) m) (sum_by-cons (λ c. told_at table (model_number models c.model)) c cs)
    ∙ told_same x (call_size f models c) (told_at table (model_number models c.model))
    (sum_by (λ c. told_at table (model_number models c.model)) cs) m (sym both.0)
    ∙ there
    ∙ (let a : (x + call_size f models c) + sum_by
    (call_size f models) cs ≡ x + (call_size f models c + sum_by (call_size f models) cs) =
    omega arith in ap (λ s. min s m) a)
    ∙ ap (λ s. min (x + s) m) (sym (sum_by-cons (call_size f models) c cs))
  where
    one : (o : Option ℕ) → AllByRecursion
        (λ q. slice_index_or table q 0 ≡ min (called_size (at models q) (f (at models q))) m)
        (listed o ++ flat_map (λ c. listed (model_number models c.model)) cs)
        → (told_at table o ≡ min (called_size (model_at models o) (f (model_at models o))) m)
        × AllByRecursion (λ q. slice_index_or table q 0 ≡ min (called_size (at models q) (f (at models q))) m)
        (flat_map (λ c. listed (model_number models c.model)) cs)
    one None h = (
      (let e : called_size no_model (f no_model) ≡ 1 = ap (called_size no_model) n in let l : min 1 m ≡ 1 =
          omega arith in sym l ∙ ap (λ s. min s m) (sym e)),
      h,
    )
    one (Some q) h = (h.0, h.1)

-- what the table tells of a model whose calls it has
pub model_told : (models : List BlifModel) (table done : List ℕ) (n : ℕ) → Settled 0 (callees models) done
    → on done n ≡ true → length done ≤ length models
    → AllByRecursion (λ q. slice_index_or table q 0 ≡ told (size_of_call models q)) (callees models n)
    → told (size_by models table (at models n)) ≡ told (model_size (length models) models (at models n))
model_told models table done n s e le h =
    told_calls (model_size (length models) models) models table (at models n).calls
    (sum_by definition_size (at models n).defs) (2 ^ 64 - 1) (omega arith) (none_size (length models) models)
    (subst (AllByRecursion (λ q. slice_index_or table q 0 ≡ told (size_of_call models q))) (callees_at models n) h)
    ∙ ap told (more_steps models done n s e le)

tells_each : (models : List BlifModel) (table done xs : List ℕ) → TellsCalls models done table
    → AllByRecursion (λ q. on done q ≡ true) xs
    → AllByRecursion (λ q. slice_index_or table q 0 ≡ told (size_of_call models q)) xs
tells_each models table done xs t all = all_map (λ q. on done q ≡ true)
    (λ q. slice_index_or table q 0 ≡ told (size_of_call models q)) xs t all

pub same_is : (q : ℕ) → nat_eq q q ≡ true
same_is q = elim (cases_Bool (nat_eq q q)) [ inl same ↦ same | inr other ↦ absurd (eqb-false q q other refl) ]

-- one model more in the table
pub tells_more : (models : List BlifModel) (done table : List ℕ) (n v : ℕ) → n < length table
    → v ≡ told (size_of_call models n) → TellsCalls models done table
    → TellsCalls models (n ∷ done) (set table n v)
tells_more models done table n v lt is t q e = elim (cases_Bool (nat_eq q n)) [
  | inl same ↦
      let at_n : q ≡ n = eqb-true q n same in
      subst (λ x. get_or (set table n v) x 0 ≡ told (size_of_call models x)) (sym at_n)
      (get_or-set_same table n v 0 lt ∙ is)
  | inr other ↦ get_or-set_other table n q v 0 (eqb-false q n other) ∙ t q (subst (λ b. b || on done q ≡ true) other e)
]

-- the next model in the order
pub next_told : (models : List BlifModel) (order table : List ℕ) (i d : ℕ) → IsCallOrder models order → i < length order
    → TellsCalls models (reverse (take i order)) table
    → told (size_by models table (at models (get_or order i d))) ≡ told
    (model_size (length models) models (at models (get_or order i d)))
next_told models order table i d o lt t =
    let whole = next_done order i d lt in
    let s = subst (Settled 0 (callees models)) whole (settled_to (callees models) order (i + 1) o.settled) in
    let b = subst (AllByRecursion (λ n. n < length models)) whole
    (all_to (λ n. n < length models) order (i + 1) o.bounded) in
    let fits = order_fits (callees models) (length models) (get_or order i d ∷ reverse (take i order)) s b in
    model_told models table (get_or order i d ∷ reverse (take i order)) (get_or order i d) s
    (let same = same_is (get_or order i d) in rw same refl) fits
    (tells_each models table (reverse (take i order)) (callees models (get_or order i d)) t
    (next_reads (callees models) order i d lt o.settled))

-- the first model
pub first_told : (models : List BlifModel) (order table : List ℕ) → IsCallOrder models order
    → TellsCalls models (reverse order) table
    → told (size_by models table (first_model models)) ≡ told (design_size models)
unfolding design_size
first_told models order table o t =
    model_told models table (reverse order) 0 o.settled o.rooted
    (order_fits (callees models) (length models) (reverse order) o.settled o.bounded)
    (tells_each models table (reverse order) (callees models 0) t
    (reads_done (callees models) (reverse order) 0 o.settled o.rooted))

-- ---- sums in the code

-- one item more in a sum
pub sized_more : {X : Type 0} (g : X → ℕ) (base i : ℕ) (xs ys : List X) (x : X) (size entry next : ℕ) → ys ≡ xs
    → i < length ys → x ≡ get_or ys i x → size ≡ told (base + sum_by g (take i xs))
    → entry ≡ g x → next ≡ min (size + entry) (2 ^ 64 - 1) → next ≡ told (base + sum_by g (take (i + 1) xs))
sized_more g base i xs ys x size entry next same lt is s e n =
    let there = subst (λ zs. i < length zs) same lt in
    let item = subst (λ zs. x ≡ get_or zs i x) same is in
    let more : sum_by g (take (i + 1) xs) ≡ sum_by g (take i xs) + g x =
    ap (sum_by g) (take_more xs i x there) ∙ ap (λ z. sum_by g (take i xs ++ z ∷ [])) (sym item)
    ∙ sum_by-append g (take i xs) (x ∷ [])
    ∙ ap (λ z. sum_by g (take i xs) + z) (sum_by-cons g x [] ∙ zero_more (g x)) in
    n ∙ told_sum (base + sum_by g (take i xs)) (g x) size entry (2 ^ 64 - 1) s e
    ∙ ap told (let a : (base + sum_by g (take i xs)) + g x ≡ base + (sum_by g (take i xs) + g x) = omega arith in a
    ∙ ap (λ z. base + z) (sym more))
  where
    zero_more : (n : ℕ) → n + 0 ≡ n
    zero_more n = omega arith

    told_sum : (a b s e m : ℕ) → s ≡ min a m → e ≡ b → min (s + e) m ≡ min (a + b) m
    told_sum a b s e m h k = omega arith

-- the whole sum
pub sized_all : {X : Type 0} (g : X → ℕ) (base i : ℕ) (xs ys : List X) (size : ℕ) → ys ≡ xs → length ys ≤ i
    → size ≡ told (base + sum_by g (take i xs)) → size ≡ told (base + sum_by g xs)
sized_all g base i xs ys size same le s = s
    ∙ ap (λ zs. told (base + sum_by g zs)) (take_all i xs (subst (λ zs. length zs ≤ i) same le))

-- the table after the next model of an order
pub table_next : (models : List BlifModel) (order table seen : List ℕ) (i : ℕ) (m : BlifModel) (size v : ℕ)
    → IsCallOrder models order → i < length order → length table ≡ length models
    → TellsCalls models (reverse (take i order)) table → get_or order i 0 < length models
    → m ≡ get_or models (get_or order i 0) m → seen ≡ table → size ≡ told (size_by models seen m)
    → v ≡ told (called_size m size)
    → TellsCalls models (reverse (take (i + 1) order)) (set table (get_or order i 0) v)
table_next models order table seen i m size v o lt few t small is same s w =
    let n = get_or order i 0 in
    let here : m ≡ at models n = get_or_read models n m small is no_model in
    let size_told : size ≡ told (model_size (length models) models (at models n)) = s
    ∙ ap (λ x. told (size_by models x m)) same ∙ ap (λ x. told (size_by models table x)) here
    ∙ next_told models order table i 0 o lt t in
    let call_told : v ≡ told (size_of_call models n) = w ∙ ap (λ x. told (called_size x size)) here
    ∙ ap (λ x. told (called_size (at models n) x)) size_told
    ∙ told_call (at models n) (model_size (length models) models (at models n)) in
    let lt2 : n < length table = omega arith in
    subst (λ done. TellsCalls models done (set table n v)) (sym (next_done order i 0 lt))
    (tells_more models (reverse (take i order)) table n v lt2 call_told t)
  where
    told_last : (a b m : ℕ) → min (a + min b m) m ≡ min (a + b) m
    told_last a b m = omega arith

    told_call : (model : BlifModel) (b : ℕ) → told (called_size model (told b)) ≡ told (called_size model b)
    told_call model b = told_last (1 + 4 * length model.inputs + 4 * length (distinct_outputs model)) b (2 ^ 64 - 1)

-- the size that is answered
pub size_told : (models : List BlifModel) (order table seen : List ℕ) (m : BlifModel) (size : ℕ)
    → IsCallOrder models order → 0 < length models → TellsCalls models (reverse order) table
    → seen ≡ table → m ≡ get_or models 0 m → size ≡ told (size_by models seen m) → size ≡ told (design_size models)
size_told models order table seen m size o some t same is s =
    let here : m ≡ first_model models = get_or_read models 0 m some is no_model in
    s ∙ ap (λ x. told (size_by models x m)) same ∙ ap (λ x. told (size_by models table x)) here
    ∙ first_told models order table o t
