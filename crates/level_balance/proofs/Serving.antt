-- The walk that counts over one array: what it has at each gate is what the plan fixes.
use Rattle.std.proofs.Common.{◌≡◌, ℕ, suc, ◌+◌, ◌-◌, ◌<◌, ◌≤◌, ◌^◌, min, Bool, true, false, ◌&&◌, ◌||◌, not, ltb}
use Rattle.std.proofs.Common.{cond, List, [], ◌∷◌, length, drop, replicate, get_or, slice_get, slice_set, Some, refl}
use Rattle.std.proofs.Common.{sym, ap, ◌∙◌, subst, arith, inl, inr}
use Rattle.std.proofs.lemmas.Bool.{cases_eq}
use Rattle.std.proofs.lemmas.List.{length-set, get_or-set_same, get_or-set_other}
use Rattle.std.proofs.lemmas.Option.{slice_get_within}
use Rattle.circuit.specs.declared.gate.Gate.{Gate}
use Rattle.circuit.specs.declared.gate.Gate.TheVariants as gates
use Rattle.circuit.specs.PlainNets.{PlainView, is_constant, IsPlainNet}
use Rattle.level_balance.specs.Uses.{operands, counts, use_count}
use Rattle.level_balance.specs.Levels.{depth, greatest, level_of}
use Rattle.level_balance.specs.Plan.{Frame, frame}
use Rattle.level_balance.specs.Counts.{tree_cells, cell_count, capped}
use Rattle.level_balance.specs.Trees.{tree_rows, tree_end}
use Rattle.level_balance.specs.Code.Served.{used_each, counts_by, used_below, greatest_end, raised_to, level_over}
use Rattle.level_balance.specs.Code.Served.{led_cells, leads_cells, at_place, own_end, user_cells, users_cells}
use Rattle.level_balance.specs.Code.Served.{all_ends}
use Rattle.level_balance.proofs.LawOfLaying.{drop_step}
use Rattle.level_balance.proofs.Frames.{IsPlain, lev, frame_fits}
use Rattle.level_balance.proofs.Plain.{is_plain}
use Rattle.level_balance.proofs.Outlined.{uses_low, all_out}
use Rattle.level_balance.proofs.Marks.{AllIn, mark}
use Rattle.level_balance.proofs.UsedBelow.{fans_length, needed_has_uses, fans_counted}
use Rattle.level_balance.proofs.ByUsers.{by_users, same_cells}

-- levels from where trees end
greatest_is : (f : Frame) (end : ℕ → ℕ) (xs : List ℕ) → AllIn (λ x. end x ≡ tree_end f x) xs
    → greatest_end f.inputs end xs ≡ greatest f.inputs f.base f.uses f.levels xs
greatest_is f end [] h = refl
greatest_is f end (x ∷ xs) h = by (is_constant f.inputs x) refl (greatest_is f end xs h.1)
  where
    by : (c : Bool) → is_constant f.inputs x ≡ c
        → greatest_end f.inputs end xs ≡ greatest f.inputs f.base f.uses f.levels xs
        → greatest_end f.inputs end (x ∷ xs) ≡ greatest f.inputs f.base f.uses f.levels (x ∷ xs)
    by true e same = rw (e, greatest_end, raised_to, greatest) same
    by false e same = rw (e, greatest_end, raised_to, greatest, h.0, same) refl

level_is : (f : Frame) (end : ℕ → ℕ) (g : Gate) → AllIn (λ x. end x ≡ tree_end f x) (operands g)
    → level_over f.inputs end g ≡ level_of f.inputs f.base f.uses f.levels g
level_is f end (gates.Input i) h = refl
level_is f end gates.Zero h = refl
level_is f end gates.One h = refl
level_is f end (gates.Buf x) h = ap suc (greatest_is f end (x ∷ []) h)
level_is f end (gates.Inv x) h = ap suc (greatest_is f end (x ∷ []) h)
level_is f end (gates.Maj x y z) h = ap suc (greatest_is f end (x ∷ y ∷ z ∷ []) h)

leads_same : (f : Frame) (end : ℕ → ℕ) (r : ℕ) (xs : List ℕ) → AllIn (λ x. end x ≡ tree_end f x) xs
    → leads_cells f.inputs end r xs ≡ leads_cells f.inputs (tree_end f) r xs
leads_same f end r [] h = refl
leads_same f end r (x ∷ xs) h = by (is_constant f.inputs x) refl (leads_same f end r xs h.1)
  where
    by : (c : Bool) → is_constant f.inputs x ≡ c
        → leads_cells f.inputs end r xs ≡ leads_cells f.inputs (tree_end f) r xs
        → leads_cells f.inputs end r (x ∷ xs) ≡ leads_cells f.inputs (tree_end f) r (x ∷ xs)
    by true e same = rw (e, leads_cells, led_cells) (ap (λ (t : ℕ). 1 + t) same)
    by false e same = rw (e, leads_cells, led_cells) (let k = h.0 in omega arith)

-- the array at gate i
pub record Reached (f : Frame) (m i : ℕ) (ends : List ℕ) : Type 0 where
  pub size : length ends ≡ m
  pub done : (j : ℕ) → j < i → j < m → at_place ends j ≡ tree_end f j
  pub ahead : (j : ℕ) → i ≤ j → j < m → at_place ends j ≡ use_count f.uses j

module _ (f : Frame) (net : PlainView) (plain : IsPlain net)
    (levels_are : (i : ℕ) (g : Gate) → slice_get net.gates i ≡ Some g
    → get_or f.levels i 0 ≡ level_of f.inputs f.base f.uses f.levels g)
    (marks_are : (i : ℕ) → i < length net.gates → mark f.marks i ≡ ltb 0 (use_count f.uses i)) where
  abbrev m : ℕ
  m = length net.gates

  ends_in : (i : ℕ) (ends xs : List ℕ) → Reached f m i ends → i ≤ m → AllIn (λ x. x < i) xs
      → AllIn (λ x. at_place ends x ≡ tree_end f x) xs
  ends_in i ends [] at le low = tt
  ends_in i ends (x ∷ xs) at le low = (let lt = low.0 in at.done x lt (omega arith), ends_in i ends xs at le low.1)

  module _ (i : ℕ) (g : Gate) (ends : List ℕ) (is : slice_get net.gates i ≡ Some g) (at : Reached f m i ends) where
    here : i < m
    here = slice_get_within net.gates i g is

    each_end : AllIn (λ x. at_place ends x ≡ tree_end f x) (operands g)
    each_end = let lt = here in ends_in i ends (operands g) at (omega arith) (plain.lower i g is)

    level_here : level_over f.inputs (at_place ends) g ≡ get_or f.levels i 0
    level_here = level_is f (at_place ends) g each_end ∙ sym (levels_are i g is)

    fan_here : at_place ends i ≡ use_count f.uses i
    fan_here = at.ahead i (omega arith) here

    counts_here : counts_by f.inputs (at_place ends i) i ≡ counts f.inputs f.marks i
    counts_here = ap (λ (b : Bool). ltb i f.inputs || (b && not (is_constant f.inputs i))) (ap (ltb 0) fan_here
        ∙ sym (marks_are i here))

    end_here : own_end f.inputs f.base ends i g ≡ tree_end f i
    end_here = ap (λ (t : ℕ). t + depth f.base (at_place ends i)) level_here
        ∙ ap (λ (t : ℕ). get_or f.levels i 0 + depth f.base t) fan_here

    abbrev after : List ℕ
    after = slice_set ends i (own_end f.inputs f.base ends i g)

    reached_next : Reached f m (suc i) after
    reached_next =
        let v = own_end f.inputs f.base ends i g in
        let size = at.size in
        let lt = here in
        record {
          size = length-set ends i v ∙ at.size;
          done = λ j below within. elim (cases_eq j i) [
            | inl same ↦ ap (λ (t : ℕ). at_place after t) same ∙ get_or-set_same ends i v 0 (omega arith) ∙ end_here
                ∙ ap (tree_end f) (sym same)
            | inr other ↦ get_or-set_other ends i j v 0 other ∙ at.done j (omega arith) within
          ];
          ahead = λ j above within. get_or-set_other ends i j v 0 (λ e. omega arith) ∙ at.ahead j (omega arith) within;
        }

    -- the cells of gate i, in the plan's words
    abbrev cells_here : Bool → ℕ
    cells_here b = elim b [
      | true ↦ suc (tree_cells f.base (tree_rows f i) (use_count f.uses i)) + leads_cells f.inputs
          (tree_end f) (get_or f.levels i 0) (operands g)
      | false ↦ 0
    ]

    cells_are : user_cells f.inputs f.base ends i g ≡ cells_here (counts f.inputs f.marks i)
    cells_are =
        let fan = at_place ends i in
        let L = level_over f.inputs (at_place ends) g in
        let tree : suc (tree_cells f.base (depth f.base fan) fan) ≡ suc
        (tree_cells f.base (tree_rows f i) (use_count f.uses i)) =
        ap (λ (t : ℕ). suc (tree_cells f.base (depth f.base t) t)) fan_here in
        let lead : leads_cells f.inputs (at_place ends) L (operands g) ≡ leads_cells f.inputs (tree_end f)
        (get_or f.levels i 0) (operands g) =
        leads_same f (at_place ends) L (operands g) each_end
        ∙ ap (λ (t : ℕ). leads_cells f.inputs (tree_end f) t (operands g)) level_here in
        ap (λ (c : Bool). elim c as (λ (b : Bool). ℕ) [
          | true ↦ suc (tree_cells f.base (depth f.base fan) fan) + leads_cells f.inputs (at_place ends) L
              (operands g)
          | false ↦ 0
        ]) counts_here
        ∙ ap (λ (t : ℕ). elim (counts f.inputs f.marks i) as (λ (b : Bool). ℕ) [ true ↦ t | false ↦ 0 ])
        (let z : suc (tree_cells f.base (depth f.base fan) fan) + leads_cells f.inputs (at_place ends) L (operands g)
        ≡ suc (tree_cells f.base (tree_rows f i) (use_count f.uses i)) + leads_cells f.inputs (tree_end f)
        (get_or f.levels i 0) (operands g) = omega (arith, tree, lead) in z)

  all_served : (i : ℕ) (gs : List Gate) (ends : List ℕ) → drop i net.gates ≡ gs → i + length gs ≡ m → Reached f m i ends
      → (users_cells f.inputs f.base ends i gs ≡ by_users f i gs) × Reached f m m (all_ends f.inputs f.base ends i gs)
  all_served i [] ends d size at = (refl, subst (λ (t : ℕ). Reached f m t ends) (let z : i ≡ m = omega arith in z) at)
  all_served i (g ∷ gs) ends d size at =
      let st = drop_step i net.gates g gs d in
      let next = reached_next i g ends st.0 at in
      let rest = all_served (suc i) gs (after i g ends st.0 at) st.1 (omega arith) next in (
        ap (λ (t : ℕ). t + users_cells f.inputs f.base (after i g ends st.0 at) (suc i) gs) (cells_are i g ends st.0 at)
            ∙ ap (λ (t : ℕ). cells_here i g ends st.0 at (counts f.inputs f.marks i) + t) rest.0
            ∙ go (counts f.inputs f.marks i),
        rest.1,
      )
    where
      go : (b : Bool) → (elim b as (λ (t : Bool). ℕ) [
        | true ↦ suc (tree_cells f.base (tree_rows f i) (use_count f.uses i)) + leads_cells f.inputs (tree_end f)
            (get_or f.levels i 0) (operands g)
        | false ↦ 0
      ]) + by_users f (suc i) gs
          ≡ (elim b as (λ (t : Bool). ℕ) [
            | true ↦ suc (tree_cells f.base (tree_rows f i) (use_count f.uses i)) + leads_cells f.inputs (tree_end f)
                (get_or f.levels i 0) (operands g) + by_users f (suc i) gs
            | false ↦ by_users f (suc i) gs
          ])
      go true = refl
      go false = omega arith

  -- all cells, where the array begins with the numbers of uses
  pub all_counted : (fans : List ℕ) → Reached f m 0 fans → AllIn (λ o. o < m) net.outputs
      → f.last ≡ suc (greatest f.inputs f.base f.uses f.levels net.outputs)
      → (let ends = at_place (all_ends f.inputs f.base fans 0 net.gates) in
      users_cells f.inputs f.base fans 0 net.gates + leads_cells f.inputs ends
      (suc (greatest_end f.inputs ends net.outputs)) net.outputs
      ≡ by_users f 0 net.gates + leads_cells f.inputs (tree_end f) f.last net.outputs)
  all_counted fans at shown last =
      let E = all_ends f.inputs f.base fans 0 net.gates in
      let s = all_served 0 net.gates fans refl (omega arith) at in
      let each = ends_in m E net.outputs s.1 (omega arith) shown in
      let row : suc (greatest_end f.inputs (at_place E) net.outputs) ≡ f.last =
      ap suc (greatest_is f (at_place E) net.outputs each) ∙ sym last in
      let lead : leads_cells f.inputs (at_place E)
      (suc (greatest_end f.inputs (at_place E) net.outputs)) net.outputs ≡ leads_cells f.inputs
      (tree_end f) f.last net.outputs =
      leads_same f (at_place E) _ net.outputs each
      ∙ ap (λ (t : ℕ). leads_cells f.inputs (tree_end f) t net.outputs) row in
      omega (arith, s.0, lead)

-- the numbers of uses with which the walk begins
abbrev pub first_fans : PlainView → List ℕ
first_fans net = used_below net.inputs (length net.gates) net.gates
    (used_each (replicate (length net.gates) 0) net.outputs)

-- the count over the array is that of the plan
pub count_is : (net : PlainView) (three : Bool) → IsPlainNet net
    → (let b : ℕ = cond three 3 2 in
    let fans = first_fans net in
    let ends = at_place (all_ends net.inputs b fans 0 net.gates) in
    users_cells net.inputs b fans 0 net.gates + leads_cells net.inputs ends
    (suc (greatest_end net.inputs ends net.outputs)) net.outputs + length net.outputs
    ≡ cell_count net three)
unfolding frame cell_count
count_is net three known =
    let f = frame net three in
    let plain = is_plain net known in
    let b : ℕ = cond three 3 2 in
    let begun : Reached f (length net.gates) 0 (first_fans net) = record {
      size = fans_length net known;
      done = λ j lt within. absurd (omega arith);
      ahead = λ j le within. fans_counted net known j within;
    } in
    let marks = λ (i : ℕ) (lt : i < length net.gates). needed_has_uses net known i
    ∙ ap (ltb 0) (fans_counted net known i lt) in
    let a = all_counted f net plain (λ i g e. lev net plain b i g e) marks (first_fans net) begun plain.shown refl in
    let c = same_cells f net (frame_fits net three plain)
    (all_out (length net.gates) f.uses (uses_low net known f.marks f.uses refl)) in
    omega (arith, a, c)

pub begun_length : (net : PlainView) → IsPlainNet net → (fans : List ℕ) → fans ≡ first_fans net
    → length fans ≡ length net.gates
begun_length net known fans is = ap length is ∙ fans_length net known

summed : (cells x leads y part total k : ℕ) → cells ≡ capped x → leads ≡ capped y
    → part ≡ min (cells + leads) (2 ^ 64 - 1) → total ≡ min (part + k) (2 ^ 64 - 1) → total ≡ capped (x + y + k)
summed cells x leads y part total k ce le pe te = omega arith

-- the code's count: base, numbers of uses, ends and how it reads them, and its sums
pub counted_is : (net : PlainView) (three : Bool) → IsPlainNet net
    → (b : ℕ) (fans ends ends0 ends1 : List ℕ) (cells last leads part total : ℕ)
    → b ≡ cond three 3 2 → fans ≡ first_fans net
    → cells ≡ capped (users_cells net.inputs b fans 0 net.gates) → ends ≡ all_ends net.inputs b fans 0 net.gates
    → ends0 ≡ ends → ends1 ≡ ends
    → last ≡ suc (greatest_end net.inputs (at_place ends0) net.outputs)
    → leads ≡ capped (leads_cells net.inputs (at_place ends1) last net.outputs)
    → part ≡ min (cells + leads) (2 ^ 64 - 1) → total ≡ min (part + length net.outputs) (2 ^ 64 - 1)
    → total ≡ capped (cell_count net three)
counted_is net three known b fans ends ends0 ends1 cells last leads part total be fe ce ee q0 q1 re le pe te =
    let n = net.inputs in
    let B : ℕ = cond three 3 2 in
    let F = first_fans net in
    let E = all_ends n B F 0 net.gates in
    let end_is : ends ≡ E = ee ∙ ap (λ (k : ℕ). all_ends n k fans 0 net.gates) be
    ∙ ap (λ (k : List ℕ). all_ends n B k 0 net.gates) fe in
    let last_is : last ≡ suc (greatest_end n (at_place E) net.outputs) = re
    ∙ ap (λ (k : List ℕ). suc (greatest_end n (at_place k) net.outputs)) (q0 ∙ end_is) in
    let cells_is : cells ≡ capped (users_cells n B F 0 net.gates) =
    ce ∙ ap (λ (k : ℕ). capped (users_cells n k fans 0 net.gates)) be
    ∙ ap (λ (k : List ℕ). capped (users_cells n B k 0 net.gates)) fe in
    let leads_is : leads ≡ capped
    (leads_cells n (at_place E) (suc (greatest_end n (at_place E) net.outputs)) net.outputs) =
    le ∙ ap (λ (k : List ℕ). capped (leads_cells n (at_place k) last net.outputs)) (q1 ∙ end_is)
    ∙ ap (λ (k : ℕ). capped (leads_cells n (at_place E) k net.outputs)) last_is in
    summed cells _ leads _ part total (length net.outputs) cells_is leads_is pe te
    ∙ ap capped (count_is net three known)
