-- Models that models call, and the walk through calls.
use Rattle.std.proofs.Common.{◌≡◌, ℕ, zero, suc, ◌+◌, ◌-◌, ◌<◌, List, [], ◌∷◌, ◌++◌, length, take, get_or, slice_get}
use Rattle.std.proofs.Common.{arith, false, cond, Option, Some, None, Bor, refl, sym, ap, subst, ◌∙◌, inl, inr, reverse}
use Rattle.std.proofs.Common.{Vec, Global}
use Rattle.std.specs.Prelude.{nat_lt, slice_index_or}
use Rattle.std.specs.List.{position_or_len, flat_map, AllByRecursion}
use Rattle.std.specs.Option.{option_map}
use Rattle.std.specs.Str.{bytes_eq}
use Rattle.std.proofs.lemmas.Bool.{cases_Bool, ltb-true}
use Rattle.std.proofs.lemmas.Option.{slice_get-map}
use Rattle.std.proofs.lemmas.List.{length-map, take_more, length-take}
use Rattle.blif_read.proofs.Within.{all_join}
use Rattle.blif_read.specs.Parts.{operands, operands_at}
use Rattle.blif_read.specs.Walk.{closes}
use Rattle.blif_read.specs.Walked.{IsWithin, Settled, AreLedTo}
use Rattle.blif_read.specs.Walked.{IsOrderFrom, IsLedFrom, cycle_in}
use Rattle.blif_read.specs.declared.walk.Walked.{Walked}
use Rattle.blif_read.specs.declared.walk.Walked.TheVariants.{Order, Cycle}
use Rattle.blif_read.specs.declared.netlist.Def.{Def}
use Rattle.blif_read.specs.declared.models.Call.{Call}
use Rattle.blif_read.specs.declared.models.BlifModel.{BlifModel}
use Rattle.blif_flat.specs.Designs.{model_number}
use Rattle.blif_flat.specs.DesignFaults.{number_in as listed, callees, calls_of, loop_of, last_of_loop, loop_line}
use Rattle.blif_flat.specs.DesignFaults.{IsRecursive}
use Rattle.blif_flat.specs.Code.Numbering.{number_in, number_or, IsNumbering}
use Rattle.blif_flat.specs.Code.Calls.{has_name, call_def, call_defs, IsCallOrder}
use Rattle.blif_flat.proofs.Numbering.{numbered_more, bytes_back}

-- one model more
pub model_at : (models : List BlifModel) (i : ℕ) (m : BlifModel) (old new : List (Bor (List ℕ) × ℕ)) (number : ℕ)
    → i < length models → m ≡ slice_index_or models i m → number ≡ i
    → IsNumbering has_name old (take i models)
    → ((t : List ℕ) → number_in new t ≡ number_or (number_in old t) (bytes_eq m.name t) number)
    → IsNumbering has_name new (take (i + 1) models)
model_at models i m old new number lt is n h add =
    let size : number ≡ length (take i models) = n ∙ sym (omega (arith, length-take i models)) in
    let more : take i models ++ m ∷ [] ≡ take (i + 1) models = sym (take_more models i m lt
    ∙ ap (λ x. take i models ++ x ∷ []) (sym is)) in
    subst (IsNumbering has_name new) more
    (numbered_more has_name old new (take i models) m number h size
    (λ t. add t ∙ ap (λ b. number_or (number_in old t) b number) (bytes_back m.name t)))

-- what the number of a model is
pub number_at : (models : List BlifModel) (entries : List (Bor (List ℕ) × ℕ)) (name : List ℕ)
    → IsNumbering has_name entries models → (length name ≡ 0 → ⊥) → number_in entries name ≡ model_number models name
number_at models entries [] is some = absurd (some refl)
number_at models entries (b ∷ bs) is some = is (b ∷ bs)

-- the number of a model is that of a model
pub below : (models : List BlifModel) (name : List ℕ)
    → AllByRecursion (λ n. n < length models) (listed (model_number models name))
below models [] = tt
below models (b ∷ bs) = at (position_or_len (λ m. bytes_eq (b ∷ bs) m.name) models)
  where
    at : (n : ℕ) → AllByRecursion (λ k. k < length models) (listed (cond (nat_lt n (length models)) (Some n) None))
    at n = elim (cases_Bool (nat_lt n (length models))) [
      | inl lt ↦ subst (λ b. AllByRecursion (λ k. k < length models) (listed (cond b (Some n) None))) (sym lt)
          (ltb-true n (length models) lt, tt)
      | inr ge ↦ subst (λ b. AllByRecursion (λ k. k < length models) (listed (cond b (Some n) None))) (sym ge) tt
    ]

each_below : (models : List BlifModel) (calls : List Call)
    → AllByRecursion (λ n. n < length models) (flat_map (λ c. listed (model_number models c.model)) calls)
each_below models [] = tt
each_below models (c ∷ cs) = all_join (λ n. n < length models) (listed (model_number models c.model))
    (flat_map (λ c. listed (model_number models c.model)) cs) (below models c.model) (each_below models cs)

pub callees_below : (models : List BlifModel) (n : ℕ) → AllByRecursion (λ m. m < length models) (callees models n)
callees_below models n = each_below models (calls_of models n)

-- the definitions read what the models call
reads_at : (models : List BlifModel) (o : Option BlifModel)
    → operands_at (option_map (call_def models) o) ≡ flat_map (λ c. listed (model_number models c.model))
    (elim o as (λ (x : Option BlifModel). List Call) [ None ↦ [] | Some model ↦ model.calls ])
reads_at models None = refl
reads_at models (Some m) = refl

reads_same : (models : List BlifModel) (n : ℕ) → operands 0 (call_defs models) n ≡ callees models n
reads_same models n =
    let no : nat_lt n 0 ≡ false = grind arith in
    let same : n - 0 ≡ n = omega arith in
    ap (λ b. cond b [] (operands_at (slice_get (call_defs models) (n - 0)))) no
    ∙ ap (λ k. operands_at (slice_get (call_defs models) k)) same
    ∙ ap operands_at (slice_get-map (call_def models) models n) ∙ reads_at models (slice_get models n)

pub same_reads : (models : List BlifModel) → operands 0 (call_defs models) ≡ callees models
same_reads models = λ i n. reads_same models n i

nth_below : (total : ℕ) (xs : List ℕ) (k : ℕ) → AllByRecursion (λ n. n < total) xs → k < length xs
    → slice_index_or xs k 0 < total
nth_below total [] k all lt = absurd (omega arith)
nth_below total (x ∷ xs) zero all lt = all.0
nth_below total (x ∷ xs) (suc k) all lt = nth_below total xs k all.1 (omega arith)

pub calls_within : (models : List BlifModel) → IsWithin (operands 0 (call_defs models)) (length (call_defs models))
calls_within models s k lt = subst (λ reads. k < length (reads s)
    → slice_index_or (reads s) k 0 < length (call_defs models)) (sym (same_reads models))
    (λ l. let n = nth_below (length models) (callees models s) k (callees_below models s) l in let size =
    length-map models (call_def models) in omega arith) lt

pub order_of_calls : (models : List BlifModel) (order : List ℕ) → IsOrderFrom (call_defs models) 0 order
    → IsCallOrder models order
order_of_calls models order o = record {
  settled = subst (λ reads. Settled 0 reads (reverse order)) (same_reads models) o.settled;
  bounded = subst (λ n. AllByRecursion (λ s. s < n) (reverse order)) (length-map models (call_def models)) o.bounded;
  rooted = o.rooted;
  led = subst (λ reads. AreLedTo reads 0 (reverse order)) (same_reads models) o.led;
}

pub loop_same : (models : List BlifModel)
    → closes (operands 0 (call_defs models)) (length (call_defs models) + 1) [] 0 ≡ loop_of models
loop_same models = ap (λ n. closes (operands 0 (call_defs models)) (n + 1) [] 0) (length-map models (call_def models))
    ∙ ap (λ reads. closes reads (length models + 1) [] 0) (same_reads models)

-- what a walk over the definitions says of the models
pub straight : (models : List BlifModel) (defs : List Def) (walked : Walked) (order : Vec ℕ Global)
    → defs ≡ call_defs models → walked ≡ Order order
    → cycle_in walked ≡ closes (operands 0 defs) (length defs + 1) [] 0 → loop_of models ≡ None
straight models defs walked order d w c =
    sym (loop_same models) ∙ ap (λ ds. closes (operands 0 ds) (length ds + 1) [] 0) (sym d) ∙ sym c ∙ ap cycle_in w

pub ordered : (models : List BlifModel) (defs : List Def) (walked : Walked) (order : Vec ℕ Global)
    → defs ≡ call_defs models → walked ≡ Order order
    → IsLedFrom defs 0 walked → IsCallOrder models order.items
ordered models defs walked order d w o =
    order_of_calls models order.items
    (subst (λ ds. IsOrderFrom ds 0 order.items) d (subst (λ x. IsLedFrom defs 0 x) w o))

pub recursive : (models : List BlifModel) (defs : List Def) (walked : Walked) (loop : Vec ℕ Global) (line : ℕ)
    → defs ≡ call_defs models → walked ≡ Cycle loop
    → cycle_in walked ≡ closes (operands 0 defs) (length defs + 1) [] 0 → line ≡ loop_line models loop.items
    → IsRecursive models line
recursive models defs walked loop line d w c l = record {
  loop = loop.items;
  first = sym (loop_same models)
      ∙ ap (λ ds. closes (operands 0 ds) (length ds + 1) [] 0) (sym d) ∙ sym c ∙ ap cycle_in w;
  at = sym l;
}

pub last_at : (xs : List ℕ) (n : ℕ) → suc n ≡ length xs → get_or xs n 0 ≡ last_of_loop xs
last_at [] n e = absurd (omega arith)
last_at (x ∷ []) n e = let z : n ≡ 0 = omega arith in ap (λ k. get_or (x ∷ []) k 0) z
last_at (x ∷ y ∷ xs) zero e = absurd (omega arith)
last_at (x ∷ y ∷ xs) (suc n) e = last_at (y ∷ xs) n (omega arith)
