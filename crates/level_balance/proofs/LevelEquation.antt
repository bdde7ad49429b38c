-- Each level is one more than the greatest row where an operand's tree ends, and no rows with room for the trees are
-- lower.
use Rattle.std.proofs.Common.{◌≡◌, ◌⊎◌, ℕ, zero, suc, ◌+◌, ◌<◌, ◌≤◌, max, Bool, true, false, eqb, ltb, List, [], ◌∷◌}
use Rattle.std.proofs.Common.{slice_get, slice_index_or, Some, Contains, refl, sym, ap, ◌∙◌, subst, arith, inl, inr}
use Rattle.std.proofs.Common.{get_or}
use Rattle.std.proofs.lemmas.Bool.{cases_Bool, ne_eqb, or_from, ltb-true, ltb-false}
use Rattle.std.proofs.lemmas.Option.{slice_get-get_or, slice_get_within}
use Rattle.circuit.specs.declared.gate.Gate.{Gate}
use Rattle.circuit.specs.declared.gate.Gate.TheVariants as gates
use Rattle.circuit.specs.PlainNets.{PlainView, is_constant, MayStand, IsPlainNet}
use Rattle.level_balance.specs.Uses.{operands, needed, counts}
use Rattle.level_balance.specs.Levels.{greatest, level_of}
use Rattle.level_balance.specs.Plan.{Frame, frame}
use Rattle.level_balance.specs.Trees.{tree_rows, tree_end}
use Rattle.level_balance.specs.Heights.{IsOneAbove, HaveRoom}
use Rattle.level_balance.proofs.LawOfGates.{In}
use Rattle.level_balance.proofs.Marks.{all_in}
use Rattle.level_balance.proofs.Frames.{greatest_above, counts_marked, lev}
use Rattle.level_balance.proofs.Plain.{is_plain, free_operand}
use Rattle.level_balance.proofs.KeptNet.{frame_inputs}
use Rattle.level_balance.proofs.NeededPaths.{in_contains, contains_in, operand_marked, marked_needed, counts_needed}

below_or_not : (a b : ℕ) → (a < b) ⊎ (b ≤ a)
below_or_not a b = elim (cases_Bool (ltb a b)) [
  | inl less ↦ inl
      (ltb-true a b less)
  | inr more ↦ inr (ltb-false a b more)
]

abbrev greatest_in : Frame → List ℕ → ℕ
greatest_in f xs = greatest f.inputs f.base f.uses f.levels xs

-- one of these, no constant, whose tree ends in this row
abbrev Ends : Frame → List ℕ → ℕ → Type 0
Ends f xs row = (x : ℕ) × In x xs × (is_constant f.inputs x ≡ false) × (row ≡ tree_end f x)

ends_later : (f : Frame) (y : ℕ) (ys : List ℕ) (row : ℕ) → Ends f ys row → Ends f (y ∷ ys) row
ends_later f y ys row h = (h.0, inr h.1, h.2, h.3)

-- the greatest is 0, or a row where a tree ends
greatest_ends : (f : Frame) (xs : List ℕ) → (greatest_in f xs ≡ 0) ⊎ Ends f xs (greatest_in f xs)
greatest_ends f [] = inl refl
greatest_ends f (y ∷ ys) = go (is_constant f.inputs y) refl (greatest_ends f ys)
  where
    larger : is_constant f.inputs y ≡ false → (m : ℕ) → (m ≡ 0) ⊎ Ends f ys m → (tree_end f y < m) ⊎ (m ≤ tree_end f y)
        → (max (tree_end f y) m ≡ 0) ⊎ Ends f (y ∷ ys) (max (tree_end f y) m)
    larger free m h (inr le) = inr (y, inl refl, free, omega arith)
    larger free m (inl none) (inl lt) = absurd (omega arith)
    larger free m (inr ends) (inl lt) = let same : max (tree_end f y) m ≡ m = omega arith in inr
        (ends.0, inr ends.1, ends.2, same ∙ ends.3)

    go : (c : Bool) → is_constant f.inputs y ≡ c → (greatest_in f ys ≡ 0) ⊎ Ends f ys (greatest_in f ys)
        → (greatest_in f (y ∷ ys) ≡ 0) ⊎ Ends f (y ∷ ys) (greatest_in f (y ∷ ys))
    go true e (inl none) = rw (e, greatest_in, greatest) (inl none)
    go true e (inr ends) = rw (e, greatest_in, greatest) (inr (ends_later f y ys (greatest_in f ys) ends))
    go false e h =
        rw (e, greatest_in, greatest)
        (larger e (greatest_in f ys) h (below_or_not (tree_end f y) (greatest_in f ys)))

one_above : (f : Frame) (xs : List ℕ) (x : ℕ) → In x xs → is_constant f.inputs x ≡ false
    → IsOneAbove f xs (suc (greatest_in f xs))
one_above f xs x here free = record {
  above = λ y c e. let le = greatest_above f.inputs f.base f.uses f.levels xs y (contains_in xs y c) e in omega arith;
  touched = elim (greatest_ends f xs) [
    | inl none ↦ (let le = greatest_above f.inputs f.base f.uses f.levels xs x here free in
        (x, in_contains xs x here, free, omega arith))
    | inr ends ↦ (ends.0, in_contains xs ends.0 ends.1, ends.2, ap suc ends.3)
  ];
}

greatest_none : (f : Frame) (xs : List ℕ) → ((x : ℕ) → In x xs → is_constant f.inputs x ≡ true) → greatest_in f xs ≡ 0
greatest_none f xs all = elim (greatest_ends f xs) [
  | inl none ↦ none
  | inr ends ↦ (let z : true ≡ false = sym (all ends.0 ends.1) ∙ ends.2 in cc)
]

level_low : (n b : ℕ) (us ls : List ℕ) (i : ℕ) (g : Gate) → MayStand n i g → i ≤ n + 1 → level_of n b us ls g ≡ 0
level_low n b us ls i (gates.Input k) may le = refl
level_low n b us ls i gates.Zero may le = refl
level_low n b us ls i gates.One may le = refl
level_low n b us ls i (gates.Buf x) may le = absurd (let k = may.0 in omega arith)
level_low n b us ls i (gates.Inv x) may le = absurd (let k = may.0 in omega arith)
level_low n b us ls i (gates.Maj x y z) may le = absurd (let k = may.0 in omega arith)

level_high : (n b : ℕ) (us ls : List ℕ) (i : ℕ) (g : Gate) → MayStand n i g → n + 1 < i
    → level_of n b us ls g ≡ suc (greatest n b us ls (operands g))
level_high n b us ls i (gates.Input k) may lt = absurd (let small = may.1 in omega arith)
level_high n b us ls i gates.Zero may lt = absurd (omega arith)
level_high n b us ls i gates.One may lt = absurd (omega arith)
level_high n b us ls i (gates.Buf x) may lt = refl
level_high n b us ls i (gates.Inv x) may lt = refl
level_high n b us ls i (gates.Maj x y z) may lt = refl

no_operands : (n i x : ℕ) (g : Gate) → MayStand n i g → i ≤ n + 1 → Contains (operands g) x → ⊥
no_operands n i x (gates.Input k) may le c = contains_in [] x c
no_operands n i x gates.Zero may le c = contains_in [] x c
no_operands n i x gates.One may le c = contains_in [] x c
no_operands n i x (gates.Buf y) may le c = let k = may.0 in omega arith
no_operands n i x (gates.Inv y) may le c = let k = may.0 in omega arith
no_operands n i x (gates.Maj y z t) may le c = let k = may.0 in omega arith

module _ (net : PlainView) (three : Bool) (known : IsPlainNet net) where
  abbrev f : Frame
  f = frame net three

  frame_level : (i : ℕ) (g : Gate) → slice_get net.gates i ≡ Some g
      → slice_index_or f.levels i 0 ≡ level_of net.inputs f.base f.uses f.levels g
  unfolding frame
  frame_level i g e = lev net (is_plain net known) (frame net three).base i g e

  frame_last : f.last ≡ suc (greatest_in f net.outputs)
  unfolding frame
  frame_last = refl

  pub low_level : (i : ℕ) (g : Gate) → slice_get net.gates i ≡ Some g → i ≤ net.inputs + 1
      → slice_index_or f.levels i 0 ≡ 0
  low_level i g e le = frame_level i g e
      ∙ level_low net.inputs f.base f.uses f.levels i g (known.gates_stand.stands i g e) le

  free_high : (i : ℕ) → net.inputs + 1 < i → is_constant net.inputs i ≡ false
  free_high i lt = or_from (eqb i net.inputs) (eqb i (net.inputs + 1)) (ne_eqb i net.inputs (λ e. omega arith))
      (ne_eqb i (net.inputs + 1) (λ e. omega arith))

  same_constant : (x : ℕ) (c : Bool) → is_constant net.inputs x ≡ c → is_constant f.inputs x ≡ c
  same_constant x c e = ap (λ n. is_constant n x) (frame_inputs net three) ∙ e

  pub one_above_operands : (i : ℕ) (g : Gate) → slice_get net.gates i ≡ Some g → net.inputs + 1 < i
      → IsOneAbove f (operands g) (slice_index_or f.levels i 0)
  one_above_operands i g e lt =
      let may = known.gates_stand.stands i g e in
      let is : slice_index_or f.levels i 0 ≡ suc (greatest_in f (operands g)) =
      frame_level i g e ∙ level_high net.inputs f.base f.uses f.levels i g may lt
      ∙ ap (λ n. suc (greatest n f.base f.uses f.levels (operands g))) (sym (frame_inputs net three)) in
      elim (free_operand net.inputs i g may (free_high i lt)) [
        | inl small ↦ absurd (omega arith)
        | inr free ↦ subst (IsOneAbove f (operands g)) (sym is)
            (one_above f (operands g) free.0 free.1 (same_constant free.0 false free.2))
      ]

  pub one_above_outputs : (x : ℕ) → Contains net.outputs x → is_constant net.inputs x ≡ false
      → IsOneAbove f net.outputs f.last
  one_above_outputs x c free = subst (IsOneAbove f net.outputs) (sym frame_last)
      (one_above f net.outputs x (contains_in net.outputs x c) (same_constant x false free))

  pub last_of_constants : ((x : ℕ) → Contains net.outputs x → is_constant net.inputs x ≡ true) → f.last ≡ 1
  last_of_constants all = frame_last
      ∙ ap suc (greatest_none f net.outputs (λ x h. same_constant x true (all x (in_contains net.outputs x h))))

  pub levels_room : HaveRoom net f (λ i. slice_index_or f.levels i 0)
  levels_room i x g counted e c free = go (below_or_not (net.inputs + 1) i)
    where
      go : (net.inputs + 1 < i) ⊎ (i ≤ net.inputs + 1)
          → slice_index_or f.levels x 0 + tree_rows f x < slice_index_or f.levels i 0
      go (inl high) = (one_above_operands i g e high).above x c (same_constant x false free)
      go (inr low) = absurd (no_operands net.inputs i x g (known.gates_stand.stands i g e) low c)

  operand_counts : (i x : ℕ) (g : Gate) → counts net.inputs (needed net) i ≡ true → slice_get net.gates i ≡ Some g
      → net.inputs + 1 < i → Contains (operands g) x → is_constant net.inputs x ≡ false
      → counts net.inputs (needed net) x ≡ true
  operand_counts i x g counted e high c free =
      elim ((counts_needed net known i).0 counted) [
        | inl small ↦ absurd (omega arith)
        | inr why ↦ counts_marked net.inputs (needed net) x
            (operand_marked net known i x (Some g) e ((marked_needed net known i).1 why.1) c) free
      ]

  -- rows with room for the trees are no lower, gate by gate
  lowest_at : (rows : ℕ → ℕ) → HaveRoom net f rows → (i : ℕ) (g : Gate) → slice_get net.gates i ≡ Some g
      → counts net.inputs (needed net) i ≡ true
      → ((x : ℕ) (h : Gate) → x < i → slice_get net.gates x ≡ Some h → counts net.inputs (needed net) x ≡ true
      → slice_index_or f.levels x 0 ≤ rows x) → slice_index_or f.levels i 0 ≤ rows i
  lowest_at rows room i g e counted below = go (below_or_not (net.inputs + 1) i)
    where
      go : (net.inputs + 1 < i) ⊎ (i ≤ net.inputs + 1) → slice_index_or f.levels i 0 ≤ rows i
      go (inr low) = let z = low_level i g e low in omega arith
      go (inl high) =
          let touched = (one_above_operands i g e high).touched in
          let x = touched.0 in
          let free : is_constant net.inputs x ≡ false = ap (λ n. is_constant n x)
          (sym (frame_inputs net three)) ∙ touched.2 in
          let lt : x < i = all_in (λ y. y < i) (operands g) x ((is_plain net known).lower i g e)
          (contains_in (operands g) x touched.1) in
          let within = slice_get_within net.gates i g e in
          let here = slice_get-get_or net.gates x gates.Zero (omega arith) in
          let under : slice_index_or f.levels x 0 ≤ rows x = below x (get_or net.gates x gates.Zero) lt here
          (operand_counts i x g counted e high touched.1 free) in
          let over : rows x + tree_rows f x < rows i = room i x g counted e touched.1 free in
          let is : slice_index_or f.levels i 0 ≡ suc (slice_index_or f.levels x 0 + tree_rows f x) = touched.3 in
          omega arith

  lowest_below : (rows : ℕ → ℕ) → HaveRoom net f rows → (k i : ℕ) (g : Gate) → i < k → slice_get net.gates i ≡ Some g
      → counts net.inputs (needed net) i ≡ true → slice_index_or f.levels i 0 ≤ rows i
  lowest_below rows room zero i g lt e counted = absurd (omega arith)
  lowest_below rows room (suc k) i g lt e counted = lowest_at rows room i g e counted
      (λ x h less at inner. lowest_below rows room k x h (omega arith) at inner)

  pub lowest : (rows : ℕ → ℕ) → HaveRoom net f rows → (i : ℕ) (g : Gate) → slice_get net.gates i ≡ Some g
      → counts net.inputs (needed net) i ≡ true → slice_index_or f.levels i 0 ≤ rows i
  lowest rows room i g e counted = lowest_below rows room (suc i) i g (omega arith) e counted
