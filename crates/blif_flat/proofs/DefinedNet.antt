-- The netlist that is said by lines that are written definition by definition, and that its text says it.
use Rattle.std.proofs.Common.{◌≡◌, ℕ, zero, suc, ◌+◌, ◌-◌, ◌<◌, ◌≤◌, ◌||◌, cond, nat_lt, Bool, true, false, List, []}
use Rattle.std.proofs.Common.{◌∷◌, ◌++◌, length, map, Option, Some, None, refl, sym, ap, ◌∙◌, subst, arith, inl, inr}
use Rattle.std.proofs.Common.{codes, append-nil}
use Rattle.std.specs.Prelude.{slice_get, nat_eq}
use Rattle.std.specs.List.{flat_map, AllByRecursion, range_with_len}
use Rattle.std.specs.Option.{option_or, option_map}
use Rattle.std.proofs.lemmas.Bool.{le-ltb, cases_lt, lt-ltb, cases_Bool, eqb-true}
use Rattle.std.proofs.lemmas.List.{map-append}
use Rattle.std.proofs.lemmas.List.FromFn.{length-map-range_with_len}
use Rattle.blif_read.specs.Lines.{Line, is_empty}
use Rattle.blif_read.specs.Statements.{inputs_in, outputs_in, defined_in}
use Rattle.blif_read.specs.Parts.{NetView, signals, number, definitions, netlist_of, operands, operands_at}
use Rattle.blif_read.specs.Faults.{line_fault, outputs_fault, undefined_fault, told_cycle, cycle_fault, fault_of}
use Rattle.blif_read.specs.Walk.{on, first_cycle, Leads, IsCycle}
use Rattle.blif_read.specs.Says.{SaysNet}
use Rattle.blif_read.specs.Netlist.{IsRankedBy}
use Rattle.blif_read.specs.Equations.{Fits}
use Rattle.blif_read.proofs.OneAnswer.{equation, cover_equation, is_ranked}
use Rattle.circuit.specs.Ranked.{Solves, solution}
use Rattle.circuit.proofs.Solutions.{some_solution}
use Rattle.blif_read.proofs.Cycles.{first_is_cycle}
use Rattle.blif_flat.specs.BlifText.{line_text}
use Rattle.blif_flat.proofs.WrittenLines.{IsToken, IsWritten, numbered, written_lines}
use Rattle.blif_flat.proofs.NumberedNames.{AreNames, numbers_are, range_apart}
use Rattle.blif_flat.proofs.Definitions.{Definition, line, AreDefined, body, whole, tokens_are}
use Rattle.blif_flat.proofs.DefinedLines.{all_read, body_inputs, body_outputs, body_defined, body_read, body_used}
use Rattle.blif_flat.proofs.DefinedLines.{body_written, head_passes, all_defined, skips}

-- the netlist of the definitions
abbrev pub net_of : (ℕ → List ℕ) → ℕ → List Definition → List ℕ → NetView
net_of name inputs ds outs = record {
  inputs = inputs;
  names = map name (range_with_len 0 (inputs + length ds));
  defs = all_read 4 ds;
  outputs = outs;
}

-- ---- each signal is computed from earlier ones

reads_below : (s n : ℕ) (ds : List Definition) (j : ℕ) → AreDefined s ds
    → AllByRecursion (λ t. t < s + j) (operands_at (slice_get (all_read n ds) j))
reads_below s n [] j each = tt
reads_below s n (d ∷ ds) zero each = let e : s
    ≡ s + 0 = omega arith in subst (λ x. AllByRecursion (λ t. t < x) d.feeds) e each.0.feeds
reads_below s n (d ∷ ds) (suc j) each =
    let e : s + 1 + j ≡ s + suc j = omega arith in
    subst (λ x. AllByRecursion (λ t. t < x) (operands_at (slice_get (all_read (n + 1 + length d.rows) ds) j))) e
    (reads_below (s + 1) (n + 1 + length d.rows) ds j each.1)

operands_below : (inputs n : ℕ) (ds : List Definition) → AreDefined inputs ds → (s : ℕ)
    → AllByRecursion (λ t. t < s) (operands inputs (all_read n ds) s)
operands_below inputs n ds each s = elim (cases_lt s inputs) [
  | inl small ↦ let k : nat_lt s inputs ≡ true = lt-ltb s inputs small in
      subst (λ b. AllByRecursion (λ t. t < s) (cond b [] (operands_at (slice_get (all_read n ds) (s - inputs)))))
      (sym k) tt
  | inr large ↦
      let k : nat_lt s inputs ≡ false = le-ltb s inputs large in
      let e : inputs + (s - inputs) ≡ s = omega (arith, large) in
      subst (λ b. AllByRecursion (λ t. t < s) (cond b [] (operands_at (slice_get (all_read n ds) (s - inputs)))))
      (sym k)
      (subst (λ x. AllByRecursion (λ t. t < x) (operands_at (slice_get (all_read n ds) (s - inputs)))) e
      (reads_below inputs n ds (s - inputs) each))
]

pub ranked_by_number : (inputs n : ℕ) (ds : List Definition) → AreDefined inputs ds
    → IsRankedBy (λ s. s) inputs (all_read n ds)
ranked_by_number inputs n ds each = record { lower = operands_below inputs n ds each }

-- ---- so there is no cycle

on_below : (s t : ℕ) (xs : List ℕ) → AllByRecursion (λ x. x < s) xs → on xs t ≡ true → t < s
on_below s t [] each e = absurd (cc)
on_below s t (x ∷ xs) each e = elim (cases_Bool (nat_eq t x)) [
  | inl same ↦ let is : t ≡ x = eqb-true t x same in let below = each.0 in omega (arith, is, below)
  | inr other ↦ on_below s t xs each.1 (subst (λ b. b || on xs t ≡ true) other e)
]

module _ (reads : ℕ → List ℕ) (below : (s : ℕ) → AllByRecursion (λ t. t < s) (reads s)) where
  leads_down : (s t : ℕ) (middle : List ℕ) → Leads reads (s ∷ middle ++ t ∷ []) → t < s
  leads_down s t [] leads = on_below s t (reads s) (below s) leads.0
  leads_down s t (m ∷ middle) leads =
      let first = on_below s m (reads s) (below s) leads.0 in
      let rest = leads_down m t middle leads.1 in
      omega (arith, first, rest)

  no_cycle : (cycle : List ℕ) → IsCycle reads cycle → ⊥
  no_cycle [] is = is
  no_cycle (s ∷ signals) is = let down = leads_down s s signals is in omega (arith, down)

acyclic : (inputs n : ℕ) (ds : List Definition) → AreDefined inputs ds → (o : Option (List ℕ))
    → first_cycle inputs (all_read n ds) ≡ o → o ≡ None
acyclic inputs n ds each None e = refl
acyclic inputs n ds each (Some cycle) e = absurd
    (no_cycle (operands inputs (all_read n ds)) (operands_below inputs n ds each) cycle
    (first_is_cycle inputs (all_read n ds) cycle e))

-- ---- the lines say the netlist

module _ (name : ℕ → List ℕ) (inputs : ℕ) (ds : List Definition) (outs : List ℕ) where
  abbrev lines : List Line
  lines = numbered 1 (whole name inputs ds outs)

  abbrev net : NetView
  net = net_of name inputs ds outs

  inputs_said : AreDefined inputs ds → flat_map inputs_in lines ≡ map name (range_with_len 0 inputs)
  inputs_said each = ap (λ x. map name (range_with_len 0 inputs) ++ x) (body_inputs name inputs 4 ds each)
      ∙ append-nil (map name (range_with_len 0 inputs))

  defined_said : AreDefined inputs ds → flat_map defined_in lines ≡ map name (range_with_len inputs (length ds))
  defined_said each = body_defined name inputs 4 ds each

  outputs_said : AreDefined inputs ds → flat_map outputs_in lines ≡ map name outs
  outputs_said each = ap (λ x. map name outs ++ x) (body_outputs name inputs 4 ds each) ∙ append-nil (map name outs)

  signals_said : AreDefined inputs ds → signals lines ≡ net.names
  signals_said each =
      let e : 0 + inputs ≡ inputs = omega arith in
      (λ i. inputs_said each i ++ defined_said each i)
      ∙ sym (map-append name (range_with_len 0 inputs) (range_with_len inputs (length ds)))
      ∙ ap (map name) (sym (range_apart 0 inputs (length ds)
      ∙ ap (λ a. range_with_len 0 inputs ++ range_with_len a (length ds)) e))

  module _ (names : AreNames name (inputs + length ds)) (each : AreDefined inputs ds)
      (shown : AllByRecursion (λ s. s < inputs + length ds) outs) where
    net_said : netlist_of lines ≡ net
    net_said =
        let count : length (flat_map inputs_in lines) ≡ inputs = ap length (inputs_said each)
        ∙ length-map-range_with_len name 0 inputs in
        let all = signals_said each in
        let defs : definitions (signals lines) lines ≡ all_read 4 ds =
        ap (λ ns. definitions ns lines) all ∙ body_read name (inputs + length ds) names inputs 4 ds
        (omega arith) each in
        let outputs : map (number (signals lines)) (flat_map outputs_in lines) ≡ outs =
        (λ i. map (number (all i)) (outputs_said each i)) ∙ numbers_are name (inputs + length ds) names outs shown in
        λ i. record { inputs = count i; names = all i; defs = defs i; outputs = outputs i }

    used_said : undefined_fault (signals lines) lines ≡ None
    used_said =
        let total = inputs + length ds in
        let second = line 3 (codes ".outputs" ∷ map name outs) in
        let rest = numbered 4 (body name inputs ds) in
        ap (λ ns. undefined_fault ns lines) (signals_said each)
        ∙ skips name total names second rest (all_defined name total names outs shown)
        ∙ body_used name total names inputs 4 ds (omega arith) each

    some_shown : (xs : List ℕ) → 0 < length xs → is_empty (map name xs) ≡ false
    some_shown [] some = absurd (omega (arith, some))
    some_shown (x ∷ xs) some = refl

    no_fault : 0 < length outs → fault_of lines ≡ None
    no_fault some =
        let single : line_fault false [] lines ≡ None = head_passes name
        (inputs + length ds) names inputs ds outs refl each shown in
        let outputs : outputs_fault lines ≡ None = ap (λ xs. cond (is_empty xs) (outputs_fault []) None)
        (outputs_said each) ∙ ap (λ b. cond b (outputs_fault []) None) (some_shown outs some) in
        let cycle : cycle_fault (netlist_of lines) ≡ None = ap cycle_fault net_said
        ∙ ap (option_map (told_cycle inputs net.names net.defs))
        (acyclic inputs 4 ds each (first_cycle inputs net.defs) refl) in
        λ i. option_or (single i) (option_or (outputs i) (option_or (used_said i) (cycle i)))

    tokens_in : (s n : ℕ) → s + n ≤ inputs + length ds → AllByRecursion IsToken (map name (range_with_len s n))
    tokens_in s zero h = tt
    tokens_in s (suc n) h = (names.token s (omega arith), tokens_in (s + 1) n (omega arith))

    all_written : AllByRecursion IsWritten (whole name inputs ds outs)
    all_written = (
      (refl, (refl, tt)),
      (
        (refl, tokens_in 0 inputs (omega arith)),
        (
          (refl, tokens_are name (inputs + length ds) names outs shown),
          body_written name (inputs + length ds) names inputs ds (omega arith) each,
        ),
      ),
    )

    -- the text says the netlist of the definitions
    pub text_says : 0 < length outs → SaysNet (flat_map line_text (whole name inputs ds outs)) net
    text_says some =
        let cut = written_lines (whole name inputs ds outs) all_written in
        record { sound = ap fault_of cut ∙ no_fault some; parts = sym (ap netlist_of cut ∙ net_said) }

-- ---- each word has a valuation

pub some_fits : (name : ℕ → List ℕ) (inputs : ℕ) (ds : List Definition) (outs : List ℕ) → AreDefined inputs ds
    → (word : List Bool) → Fits inputs (all_read 4 ds) word
    (solution (λ s. s) (equation (net_of name inputs ds outs) word))
some_fits name inputs ds outs each word =
    let net = net_of name inputs ds outs in
    let v = solution (λ s. s) (equation net word) in
    let solves : Solves (equation net word) v = some_solution (λ s. s) (equation net word)
    (is_ranked net word (λ s. s) (ranked_by_number inputs 4 ds each)) in
    record {
      bits = λ i lt. solves i ∙ (let k : nat_lt i inputs ≡ true = lt-ltb i inputs lt in rw k refl);
      covers = λ j def is. solves (inputs + j) ∙
          (let k : nat_lt (inputs + j) inputs ≡ false = le-ltb (inputs + j) inputs (omega arith) in
          let m : inputs + j - inputs ≡ j = omega arith in rw (k, m) (ap (λ o. cover_equation o v) is));
    }
