-- How large the numbers of a plan are: uses, levels, and the rows where trees end.
use Rattle.std.proofs.Common.{◌≡◌, ℕ, zero, suc, ◌+◌, ◌-◌, ◌*◌, ◌/◌, ◌<◌, ◌≤◌, ◌^◌, max, min, Bool, true, false, List}
use Rattle.std.proofs.Common.{[], ◌∷◌, ◌++◌, length, drop, replicate, get_or, set, slice_index_or, slice_set, Option}
use Rattle.std.proofs.Common.{Some, refl, sym, ap, ◌∙◌, subst, arith, inl, inr, drop-cons, add-one, le_trans}
use Rattle.std.proofs.Common.{length-append}
use Rattle.std.proofs.lemmas.Bool.{cases_eq, cases_lt}
use Rattle.std.proofs.lemmas.List.{get_or_past, get_or-set_same, get_or-set_other, length-set}
use Rattle.std.proofs.lemmas.Option.{slice_get-get_or}
use Rattle.std.proofs.Math.Nat.{div-le_of_le-mul, pow-le-pow_left}
use Rattle.circuit.specs.declared.gate.Gate.{Gate}
use Rattle.circuit.specs.declared.gate.Gate.TheVariants as gates
use Rattle.circuit.specs.PlainNets.{is_constant}
use Rattle.level_balance.specs.Uses.{operands, counts, uses_from}
use Rattle.level_balance.specs.Levels.{depth, user_rows_from}
use Rattle.level_balance.specs.Code.Arrays.{greatest_by, level_by, levels_by}
use Rattle.level_balance.specs.Counts.{capped}
use Rattle.level_balance.specs.Code.Steps.{counted_operands}
use Rattle.level_balance.specs.Code.Served.{used_each, counts_by, operands_used, used_below, raised_to, greatest_end}
use Rattle.level_balance.specs.Code.Served.{level_over, at_place, own_end, user_cells, users_cells, all_ends, IsAtMost}
use Rattle.level_balance.proofs.Used.{uses_step}
use Rattle.level_balance.proofs.Trees.{IsBase}
use Rattle.level_balance.proofs.ShortestTrees.{least_exponent}

pub more_at_most : (most most' : ℕ) (xs : List ℕ) → most ≤ most' → IsAtMost most xs → IsAtMost most' xs
more_at_most most most' xs le h = λ x. let e = h x in omega arith

pub set_at_most : (most : ℕ) (xs : List ℕ) (i v : ℕ) → v ≤ most → IsAtMost most xs → IsAtMost most (slice_set xs i v)
set_at_most most xs i v le h = λ x. elim (cases_eq x i) [
  | inr other ↦ (let e = get_or-set_other xs i x v 0 other in let k = h x in omega arith)
  | inl same ↦ elim (cases_lt i (length xs)) [
    | inl lt ↦ (let e : get_or (set xs i v) x 0 ≡ v = ap (λ (t : ℕ). get_or (set xs i v) t 0) same
        ∙ get_or-set_same xs i v 0 lt in omega arith)
    | inr past ↦ (let size = length-set xs i v in let e = get_or_past (set xs i v) x 0 (omega arith) in omega arith)
  ]
]

-- one more use
pub one_more_at_most : (most : ℕ) (fans : List ℕ) (x : ℕ) → IsAtMost most fans
    → IsAtMost (suc most) (slice_set fans x (suc (slice_index_or fans x 0)))
one_more_at_most most fans x h = let k = h x in set_at_most (suc most) fans x (suc (get_or fans x 0)) (omega arith)
    (more_at_most most (suc most) fans (omega arith) h)

pub used_at_most : (most : ℕ) (fans xs : List ℕ) → IsAtMost most fans → IsAtMost (most + length xs) (used_each fans xs)
used_at_most most fans [] h = more_at_most most (most + 0) fans (omega arith) h
used_at_most most fans (x ∷ xs) h =
    let more = set fans x (suc (get_or fans x 0)) in
    more_at_most (suc most + length xs) (most + suc (length xs)) (used_each more xs) (omega arith)
    (used_at_most (suc most) more xs (one_more_at_most most fans x h))

pub few_operands : (g : Gate) → length (operands g) ≤ 3
few_operands (gates.Input i) = omega arith
few_operands gates.Zero = omega arith
few_operands gates.One = omega arith
few_operands (gates.Buf x) = omega arith
few_operands (gates.Inv x) = omega arith
few_operands (gates.Maj x y z) = omega arith

few_counted : (n : ℕ) (marks : List Bool) (i : ℕ) (g : Gate) → length (counted_operands n marks i g) ≤ 3
few_counted n marks i g = go (counts n marks i)
  where
    go : (b : Bool) → length (elim b as (λ (t : Bool). List ℕ) [ true ↦ operands g | false ↦ [] ]) ≤ 3
    go true = few_operands g
    go false = omega arith

pub used_append : (fans xs ys : List ℕ) → used_each fans (xs ++ ys) ≡ used_each (used_each fans xs) ys
used_append fans [] ys = refl
used_append fans (x ∷ xs) ys = used_append (slice_set fans x (suc (slice_index_or fans x 0))) xs ys

few_used : (n fan i : ℕ) (g : Gate) → length (operands_used n fan i (Some g)) ≤ 3
few_used n fan i g = go (counts_by n fan i)
  where
    go : (b : Bool) → length (elim b as (λ (t : Bool). List ℕ) [ true ↦ operands g | false ↦ [] ]) ≤ 3
    go true = few_operands g
    go false = omega arith

-- the walk that counts uses, where the gates below `left` are left
pub record FansSo (n : ℕ) (gates : List Gate) (outs : List ℕ) (left : ℕ) (fans : List ℕ) : Type 0 where
  pub within : left ≤ length gates
  pub few : IsAtMost (2 ^ 32 + 3 * (length gates - left)) fans
  pub same : used_below n left gates fans ≡ used_below n (length gates) gates
      (used_each (replicate (length gates) 0) outs)

pub fans_begin : (n : ℕ) (gates : List Gate) (outs fans0 fans : List ℕ) → fans0 ≡ replicate (length gates) 0
    → fans ≡ used_each fans0 outs → IsAtMost (2 ^ 32) fans → FansSo n gates outs (length gates) fans
fans_begin n gates outs fans0 fans none is few = record {
  within = omega arith;
  few = more_at_most (2 ^ 32) (2 ^ 32 + 3 * (length gates - length gates)) fans (omega arith) few;
  same = ap (used_below n (length gates) gates) (is ∙ ap (λ (xs : List ℕ). used_each xs outs) none);
}

pub fans_turn : (n : ℕ) (gates : List Gate) (outs : List ℕ) (d : Gate) (left : ℕ) (fans fans' : List ℕ) → 0 < left
    → fans' ≡ used_each fans (operands_used n (at_place fans (left - 1)) (left - 1) (Some (get_or gates (left - 1) d)))
    → FansSo n gates outs left fans → FansSo n gates outs (left - 1) fans'
fans_turn n gates outs d zero fans fans' lt is so = absurd (omega arith)
fans_turn n gates outs d (suc k) fans fans' lt is so = subst Turns (let z : k ≡ suc k - 1 = omega arith in z) turn is
  where
    Turns : ℕ → Type 0
    Turns j = fans' ≡ used_each fans (operands_used n (at_place fans j) j (Some (get_or gates j d)))
        → FansSo n gates outs j fans'

    turn : Turns k
    turn e =
        let within = so.within in
        let g = get_or gates k d in
        let os = operands_used n (at_place fans k) k (Some g) in
        let count = few_used n (at_place fans k) k g in
        let most = 2 ^ 32 + 3 * (length gates - suc k) in
        record {
          within = omega arith;
          few = subst (IsAtMost (2 ^ 32 + 3 * (length gates - k))) (sym e)
              (more_at_most (most + length os) (2 ^ 32 + 3 * (length gates - k)) (used_each fans os) (omega arith)
              (used_at_most most fans os so.few));
          same = ap (used_below n k gates)
              (e ∙ ap (λ (o : Option Gate). used_each fans (operands_used n (at_place fans k) k o))
              (sym (slice_get-get_or gates k d (omega arith)))) ∙ so.same;
        }

pub output_turn : (outs fans fans' : List ℕ) (i most : ℕ) (goal : List ℕ) → i < length outs
    → fans' ≡ slice_set fans (get_or outs i 0) (suc (slice_index_or fans (get_or outs i 0) 0))
    → IsAtMost (most + i) fans → used_each fans (drop i outs) ≡ goal → IsAtMost (most + (i + 1)) fans'
    × (used_each fans' (drop (i + 1) outs) ≡ goal)
output_turn outs fans fans' i most goal lt is low same =
    let x = get_or outs i 0 in (
      subst (IsAtMost (most + (i + 1))) (sym is)
          (more_at_most (suc (most + i)) (most + (i + 1)) _ (omega arith) (one_more_at_most (most + i) fans x low)),
      ap (λ (k : ℕ). used_each fans' (drop k outs)) (add-one i)
          ∙ ap (λ (a : List ℕ). used_each a (drop (suc i) outs)) is
          ∙ ap (used_each fans) (sym (drop-cons outs i 0 lt)) ∙ same,
    )

-- rows where trees end
pub raised_low : (n : ℕ) (ends : List ℕ) (most x row : ℕ) → IsAtMost most ends → row ≤ most
    → raised_to n (at_place ends) x row ≤ most
raised_low n ends most x row h le = go (is_constant n x) (h x)
  where
    go : (b : Bool) → get_or ends x 0 ≤ most
        → (elim b as (λ (t : Bool). ℕ) [ true ↦ row | false ↦ max (get_or ends x 0) row ]) ≤ most
    go true e = le
    go false e = omega arith

pub greatest_low : (n : ℕ) (ends : List ℕ) (most : ℕ) (xs : List ℕ) → IsAtMost most ends
    → greatest_end n (at_place ends) xs ≤ most
greatest_low n ends most [] h = omega arith
greatest_low n ends most (x ∷ xs) h = raised_low n ends most x (greatest_end n (at_place ends) xs) h
    (greatest_low n ends most xs h)

pub level_low : (n : ℕ) (ends : List ℕ) (most : ℕ) (g : Gate) → IsAtMost most ends
    → level_over n (at_place ends) g ≤ suc most
level_low n ends most (gates.Input i) h = omega arith
level_low n ends most gates.Zero h = omega arith
level_low n ends most gates.One h = omega arith
level_low n ends most (gates.Buf x) h = let e = greatest_low n ends most (x ∷ []) h in omega arith
level_low n ends most (gates.Inv x) h = let e = greatest_low n ends most (x ∷ []) h in omega arith
level_low n ends most (gates.Maj x y z) h = let e = greatest_low n ends most (x ∷ y ∷ z ∷ []) h in omega arith

-- trees are low
pub is_base : (b : ℕ) → 2 ≤ b → b ≤ 3 → IsBase b
is_base b two three = elim (cases_eq b 2) [ inl same ↦ inl same | inr other ↦ inr (let z : b ≡ 3 = omega arith in z) ]

pub depth_low : (b f : ℕ) → 2 ≤ b → b ≤ 3 → f ≤ 2 ^ 40 → depth b f ≤ 40
depth_low b f two three le = (least_exponent b f (is_base b two three)).least 40 (le_trans le (pow-le-pow_left two 40))

pub own_at_most : (n b : ℕ) (ends : List ℕ) (i : ℕ) (g : Gate) (most : ℕ) → 2 ≤ b → b ≤ 3 → most ≤ 2 ^ 40
    → IsAtMost most ends → IsAtMost (most + 41) (slice_set ends i (own_end n b ends i g))
own_at_most n b ends i g most two three small h =
    let l = level_low n ends most g h in
    let k = h i in
    let d = depth_low b (get_or ends i 0) two three (omega arith) in
    set_at_most (most + 41) ends i (own_end n b ends i g) (omega arith)
    (more_at_most most (most + 41) ends (omega arith) h)

-- signals of a tree
pub over_low : (c b most : ℕ) → 2 ≤ b → b ≤ 3 → 1 ≤ most → c ≤ most → (c + b - 1) / b ≤ most
over_low c b most two three some le = div-le_of_le-mul b (lift b two three)
  where
    lift : (b : ℕ) → 2 ≤ b → b ≤ 3 → c + b - 1 ≤ b * most
    lift zero two three = absurd (omega arith)
    lift (suc zero) two three = absurd (omega arith)
    lift (suc (suc zero)) two three = omega arith
    lift (suc (suc (suc zero))) two three = omega arith
    lift (suc (suc (suc (suc b)))) two three = absurd (omega arith)

-- one gate of the walk that counts cells
pub record TotalSo (n b : ℕ) (gates : List Gate) (fans : List ℕ) (i : ℕ) (ends : List ℕ) (total : ℕ) : Type 0 where
  pub size : length ends ≡ length gates
  pub small : total < 2 ^ 64
  pub low : IsAtMost (2 ^ 35 + 41 * i) ends
  pub cells : capped (total + users_cells n b ends i (drop i gates)) ≡ capped (users_cells n b fans 0 gates)
  pub same : all_ends n b ends i (drop i gates) ≡ all_ends n b fans 0 gates

pub total_turn : (n b : ℕ) (gates : List Gate) (d : Gate) (fans : List ℕ) (i : ℕ) (ends ends' : List ℕ)
    (cells total total' : ℕ) → 2 ≤ b → b ≤ 3 → i < length gates → length gates < 2 ^ 32
    → cells ≡ capped (user_cells n b ends i (get_or gates i d))
    → ends' ≡ slice_set ends i (own_end n b ends i (get_or gates i d)) → total' ≡ min (total + cells) (2 ^ 64 - 1)
    → TotalSo n b gates fans i ends total → TotalSo n b gates fans (i + 1) ends' total'
total_turn n b gates d fans i ends ends' cells total total' two three lt most ce ee te so =
    let g = get_or gates i d in
    let next = slice_set ends i (own_end n b ends i g) in
    let rest = drop (suc i) gates in
    let list : drop i gates ≡ g ∷ rest = drop-cons gates i d lt in
    record {
      size = ap length ee ∙ length-set ends i (own_end n b ends i g) ∙ so.size;
      small = omega arith;
      low = subst (IsAtMost (2 ^ 35 + 41 * (i + 1))) (sym ee)
          (more_at_most (2 ^ 35 + 41 * i + 41) (2 ^ 35 + 41 * (i + 1)) next (omega arith)
          (own_at_most n b ends i g (2 ^ 35 + 41 * i) two three (omega arith) so.low));
      cells = ap (λ (k : ℕ). capped (total' + users_cells n b ends' k (drop k gates))) (add-one i)
          ∙ ap (λ (e : List ℕ). capped (total' + users_cells n b e (suc i) rest)) ee
          ∙ summed total (user_cells n b ends i g) (users_cells n b next (suc i) rest) cells total' _ ce te
          (ap (λ (k : List Gate). capped (total + users_cells n b ends i k)) (sym list) ∙ so.cells);
      same = ap (λ (k : ℕ). all_ends n b ends' k (drop k gates)) (add-one i)
          ∙ ap (λ (e : List ℕ). all_ends n b e (suc i) rest) ee ∙ ap (all_ends n b ends i) (sym list) ∙ so.same;
    }
  where
    summed : (total x rest cells total' goal : ℕ) → cells ≡ capped x → total' ≡ min (total + cells) (2 ^ 64 - 1)
        → capped (total + (x + rest)) ≡ goal → capped (total' + rest) ≡ goal
    summed total x rest cells total' goal ce te h = omega arith

-- levels from arrays
greatest_by_low : (n b : ℕ) (fans done : List ℕ) (most : ℕ) (xs : List ℕ) → 2 ≤ b → b ≤ 3 → IsAtMost (2 ^ 40) fans
    → IsAtMost most done → greatest_by n b fans done xs ≤ most + 40
greatest_by_low n b fans done most [] two three few h = omega arith
greatest_by_low n b fans done most (x ∷ xs) two three few h =
    by (is_constant n x) refl (greatest_by_low n b fans done most xs two three few h)
  where
    by : (c : Bool) → is_constant n x ≡ c → greatest_by n b fans done xs ≤ most + 40
        → greatest_by n b fans done (x ∷ xs) ≤ most + 40
    by true e low = rw (e, greatest_by) low
    by false e low =
        rw (e, greatest_by)
        (let here = h x in let d = depth_low b (get_or fans x 0) two three (few x) in omega arith)

level_by_low : (n b : ℕ) (fans done : List ℕ) (most : ℕ) (g : Gate) → 2 ≤ b → b ≤ 3 → IsAtMost (2 ^ 40) fans
    → IsAtMost most done → level_by n b fans done g ≤ most + 41
level_by_low n b fans done most (gates.Input i) two three few h = omega arith
level_by_low n b fans done most gates.Zero two three few h = omega arith
level_by_low n b fans done most gates.One two three few h = omega arith
level_by_low n b fans done most (gates.Buf x) two three few h = let e = greatest_by_low n b fans done most
    (x ∷ []) two three few h in omega arith
level_by_low n b fans done most (gates.Inv x) two three few h = let e = greatest_by_low n b fans done most
    (x ∷ []) two three few h in omega arith
level_by_low n b fans done most (gates.Maj x y z) two three few h = let e = greatest_by_low n b fans done most
    (x ∷ y ∷ z ∷ []) two three few h in omega arith

pub push_at_most : (most : ℕ) (xs : List ℕ) (v : ℕ) → v ≤ most → IsAtMost most xs → IsAtMost most (xs ++ v ∷ [])
push_at_most most [] v le h = λ x. go x
  where
    go : (x : ℕ) → get_or (v ∷ []) x 0 ≤ most
    go zero = le
    go (suc x) = omega arith
push_at_most most (y ∷ xs) v le h = λ x. go (push_at_most most xs v le (λ k. h (suc k))) x
  where
    go : IsAtMost most (xs ++ v ∷ []) → (x : ℕ) → get_or ((y ∷ xs) ++ v ∷ []) x 0 ≤ most
    go later zero = h 0
    go later (suc x) = later x

-- one gate of the walk that gives levels
pub record LevelsSo (n b : ℕ) (fans : List ℕ) (gates : List Gate) (i : ℕ) (levels : List ℕ) : Type 0 where
  pub few : IsAtMost (41 * i) levels
  pub same : levels_by n b fans levels (drop i gates) ≡ levels_by n b fans [] gates

pub levels_turn : (n b : ℕ) (fans : List ℕ) (gates : List Gate) (d : Gate) (i : ℕ) (levels levels0 : List ℕ) (level : ℕ)
    (levels' : List ℕ) → 2 ≤ b → b ≤ 3 → IsAtMost (2 ^ 40) fans → i < length gates
    → levels0 ≡ levels → level ≡ level_by n b fans levels0 (get_or gates i d) → levels' ≡ levels ++ level ∷ []
    → LevelsSo n b fans gates i levels → LevelsSo n b fans gates (i + 1) levels'
levels_turn n b fans gates d i levels levels0 level levels' two three few lt re le me so =
    let g = get_or gates i d in
    let rest = drop (suc i) gates in
    let is : level ≡ level_by n b fans levels g = le ∙ ap (λ (k : List ℕ). level_by n b fans k g) re in
    let low = level_by_low n b fans levels (41 * i) g two three few so.few in
    record {
      few = subst (IsAtMost (41 * (i + 1))) (sym me)
          (push_at_most (41 * (i + 1)) levels level (omega arith)
          (more_at_most (41 * i) (41 * (i + 1)) levels (omega arith) so.few));
      same = ap (λ (k : ℕ). levels_by n b fans levels' (drop k gates)) (add-one i)
          ∙ ap (λ (k : List ℕ). levels_by n b fans k rest) (me ∙ ap (λ (k : ℕ). levels ++ k ∷ []) is)
          ∙ ap (levels_by n b fans levels) (sym (drop-cons gates i d lt)) ∙ so.same;
    }

-- rows of users
append_at_most : (most : ℕ) (xs ys : List ℕ) → IsAtMost most xs → IsAtMost most ys → IsAtMost most (xs ++ ys)
append_at_most most [] ys h k = k
append_at_most most (x ∷ xs) ys h k = λ j. go (append_at_most most xs ys (λ i. h (suc i)) k) j
  where
    go : IsAtMost most (xs ++ ys) → (j : ℕ) → get_or ((x ∷ xs) ++ ys) j 0 ≤ most
    go later zero = h 0
    go later (suc j) = later j

copies_at_most : (most k v : ℕ) → v ≤ most → IsAtMost most (replicate k v)
copies_at_most most k v le = λ x. go k x
  where
    go : (k x : ℕ) → get_or (replicate k v) x 0 ≤ most
    go zero x = omega arith
    go (suc k) zero = le
    go (suc k) (suc x) = go k x

users_at_most : (n : ℕ) (marks : List Bool) (ls : List ℕ) (most i : ℕ) (gs : List Gate) → IsAtMost most ls
    → IsAtMost most (user_rows_from n marks ls i gs)
users_at_most n marks ls most i [] h = λ x. omega arith
users_at_most n marks ls most i (g ∷ gs) h = by (counts n marks i) refl (users_at_most n marks ls most (suc i) gs h)
  where
    by : (b : Bool) → counts n marks i ≡ b → IsAtMost most (user_rows_from n marks ls (suc i) gs)
        → IsAtMost most (user_rows_from n marks ls i (g ∷ gs))
    by true c k =
        rw (c, user_rows_from)
        (append_at_most most (replicate (length (operands g)) (get_or ls i 0)) (user_rows_from n marks ls (suc i) gs)
        (copies_at_most most (length (operands g)) (get_or ls i 0) (h i)) k)
    by false c k = rw (c, user_rows_from) k

pub user_rows_low : (n : ℕ) (marks : List Bool) (ls ls' : List ℕ) (gs : List Gate) (outs last : ℕ) (rows : List ℕ)
    → rows ≡ user_rows_from n marks ls' 0 gs ++ replicate outs last → ls' ≡ ls → IsAtMost (2 ^ 39) ls
    → last ≤ 2 ^ 41 → IsAtMost (2 ^ 41) rows
user_rows_low n marks ls ls' gs outs last rows is same h le =
    subst (IsAtMost (2 ^ 41)) (sym is) (append_at_most (2 ^ 41) (user_rows_from n marks ls' 0 gs) (replicate outs last)
    (users_at_most n marks ls' (2 ^ 41) 0 gs
    (subst (IsAtMost (2 ^ 41)) (sym same) (more_at_most (2 ^ 39) (2 ^ 41) ls (omega arith) h)))
    (copies_at_most (2 ^ 41) outs last le))

-- how many uses there are
uses_few_from : (n : ℕ) (marks : List Bool) (i : ℕ) (gs : List Gate) → length (uses_from n marks i gs) ≤ 3 * length gs
uses_few_from n marks i [] = omega arith
uses_few_from n marks i (g ∷ gs) =
    let a = ap length (uses_step n marks i g gs) in
    let b = length-append (counted_operands n marks i g) (uses_from n marks (suc i) gs) in
    let c = few_counted n marks i g in
    let d = uses_few_from n marks (suc i) gs in omega arith

pub uses_few : (n : ℕ) (marks : List Bool) (gs : List Gate) (outs us : List ℕ) → us ≡ uses_from n marks 0 gs ++ outs
    → length gs < 2 ^ 32 → length outs < 2 ^ 32 → length us ≤ 2 ^ 40
uses_few n marks gs outs us is few shown =
    let a = ap length is in
    let b = length-append (uses_from n marks 0 gs) outs in
    let c = uses_few_from n marks 0 gs in omega arith
