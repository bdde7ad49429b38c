-- A netlist is made from its parts.
use Rattle.std.proofs.Common.{◌≡◌, ℕ, ◌+◌, ◌<◌, ◌^◌, List, [], ◌∷◌, length, Some, None, Vec, Global, drop, get_or}
use Rattle.std.proofs.Common.{drop-cons, add-one, sym, ap, ◌∙◌, subst, arith}
use Rattle.std.specs.List.{AllByRecursion}
use Rattle.std.specs.Str.{bytes_eq}
use Rattle.indexmap.specs.IndexSet.{insert_key, insert_all}
use Rattle.blif_read.specs.Parts.{NetView, operands}
use Rattle.blif_read.specs.Walked.{IsWithin}
use Rattle.blif_read.specs.Netlist.{IsDef, IsNetlist, AreParts}
use Rattle.blif_read.specs.Walk.{first_cycle}
use Rattle.blif_read.specs.Walked.{IsOrder, IsComplete, cycle_in}
use Rattle.blif_read.specs.declared.netlist.Def.{Def}
use Rattle.blif_read.specs.declared.build.Parts.{Parts as Built}
use Rattle.blif_read.specs.declared.walk.Walked.{Walked}
use Rattle.blif_read.specs.declared.walk.Walked.TheVariants.{Order, Cycle}
use Rattle.blif_read.proofs.Within.{IsWithinDef}
use Rattle.blif_read.proofs.Whole.{within, at_order}
use Rattle.blif_read.proofs.Heights.{order_ranks}
use Rattle.blif_read.proofs.Facts.{nothing_past}
use Rattle.blif_read.proofs.Distinct.{all_inserted}

names_within : (n : ℕ) (defs : List Def) → AllByRecursion (IsDef n) defs → AllByRecursion (IsWithinDef n) defs
names_within n [] h = tt
names_within n (def ∷ defs) h = (h.0.names, names_within n defs h.1)

abbrev pub net_of : ℕ → List (List ℕ) → List Def → List ℕ → NetView
net_of inputs names defs outputs = record { inputs = inputs; names = names; defs = defs; outputs = outputs }

module _ (inputs : ℕ) (names : List (List ℕ)) (defs : List Def) (outputs : List ℕ)
    (parts : AreParts (net_of inputs names defs outputs)) where
  pub few_parts : (ds : List Def) → ds ≡ defs → inputs + length ds < 2 ^ 32
  few_parts ds same = let c = parts.count in let s = parts.small in omega (arith, ap length same)

  pub parts_within : (ds : List Def) → ds ≡ defs → IsWithin (operands inputs ds) (inputs + length ds)
  parts_within ds same = subst (λ xs. IsWithin (operands inputs xs) (inputs + length xs)) (sym same)
      (within inputs defs (names_within (inputs + length defs) defs
      (subst (λ n. AllByRecursion (IsDef n) defs) parts.count parts.each_def)))

  pub keys_made : (keys given : List (List ℕ)) → given ≡ names → keys ≡ insert_all bytes_eq [] given → keys ≡ names
  keys_made keys given g k = k ∙ ap (insert_all bytes_eq []) g ∙ all_inserted [] names parts.distinct

  order_is : (ds : List Def) → ds ≡ defs → (w : Walked) (order : Vec ℕ Global) → w ≡ Order order
      → IsComplete inputs ds w → IsOrder inputs defs order.items
  order_is ds same w order e h = subst (λ xs. IsOrder inputs xs order.items) same (at_order w inputs ds order e h)

  pub order_made : (ds copied : List Def) → ds ≡ defs → copied ≡ defs → (w : Walked) (order : Vec ℕ Global)
      → w ≡ Order order → IsComplete inputs ds w → IsOrder inputs copied order.items
  order_made ds copied same c w order e h = subst (λ xs. IsOrder inputs xs order.items) (sym c)
      (order_is ds same w order e h)

  pub facts_made : (ds : List Def) → ds ≡ defs → (w : Walked) (order : Vec ℕ Global) → w ≡ Order order
      → IsComplete inputs ds w → IsNetlist (net_of inputs names defs outputs)
  facts_made ds same w order e h = record {
    distinct = parts.distinct;
    count = parts.count;
    each_def = parts.each_def;
    each_output = parts.each_output;
    some_output = parts.some_output;
    no_cycle = order_ranks inputs defs order.items (order_is ds same w order e h) (nothing_past inputs defs);
    small = parts.small;
  }

  pub made_view : (keys given : List (List ℕ)) → given ≡ names → keys ≡ insert_all bytes_eq [] given → (p : Built)
      → p ≡ record { defs = defs; outputs = outputs }
      → net_of inputs keys p.defs p.outputs ≡ net_of inputs names defs outputs
  made_view keys given g k p e = ap (λ ks. net_of inputs ks p.defs p.outputs) (keys_made keys given g k)
      ∙ ap (λ (x : Built). net_of inputs names x.defs x.outputs) e

  pub made_of : (ds : List Def) → ds ≡ defs → (w : Walked) (order : Vec ℕ Global) → w ≡ Order order
      → IsComplete inputs ds w → (keys given : List (List ℕ)) → given ≡ names → keys ≡ insert_all bytes_eq [] given
      → (p : Built) → p ≡ record { defs = defs; outputs = outputs } → IsNetlist (net_of inputs keys p.defs p.outputs)
  made_of ds same w order e h keys given g k p c = subst IsNetlist (sym (made_view keys given g k p c))
      (facts_made ds same w order e h)

  pub none_made : (ds : List Def) → ds ≡ defs → (w : Walked) (order : Vec ℕ Global) → w ≡ Order order
      → cycle_in w ≡ first_cycle inputs ds → first_cycle inputs defs ≡ None
  none_made ds same w order e h = ap (first_cycle inputs) (sym same) ∙ sym h ∙ ap cycle_in e

  pub cycle_made : (ds : List Def) → ds ≡ defs → (w : Walked) (cycle : Vec ℕ Global) (told : List ℕ) → w ≡ Cycle cycle
      → cycle_in w ≡ first_cycle inputs ds → told ≡ cycle.items → first_cycle inputs defs ≡ Some told
  cycle_made ds same w cycle told e h t = ap (first_cycle inputs) (sym same) ∙ sym h ∙ ap cycle_in e
      ∙ ap (λ xs. Some xs) (sym t)

-- a copy of one more name
pub next_key : (keys new names : List (List ℕ)) (i : ℕ) (name copied : List ℕ) (whole : List (List ℕ))
    → i < length names → name ≡ get_or names i name → copied ≡ name → new ≡ insert_key bytes_eq keys copied
    → insert_all bytes_eq keys (drop i names) ≡ whole → insert_all bytes_eq new (drop (i + 1) names) ≡ whole
next_key keys new names i name copied whole lt is c k w =
    let here : drop i names ≡ name ∷ drop (i + 1) names = drop-cons names i name lt
    ∙ ap (λ m. get_or names i name ∷ drop m names) (sym (add-one i)) ∙ ap (λ x. x ∷ drop (i + 1) names) (sym is) in
    ap (λ ks. insert_all bytes_eq ks (drop (i + 1) names)) (k ∙ ap (insert_key bytes_eq keys) c)
    ∙ ap (insert_all bytes_eq keys) (sym here) ∙ w
