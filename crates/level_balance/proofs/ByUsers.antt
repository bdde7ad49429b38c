-- The cells of a plan by users: the sum over gates of the sums over their uses is the sum over all uses.
use Rattle.std.proofs.Common.{◌≡◌, ℕ, zero, suc, ◌+◌, ◌-◌, ◌<◌, ◌≤◌, Bool, true, false, eqb, List, [], ◌∷◌, ◌++◌}
use Rattle.std.proofs.Common.{length, drop, replicate, get_or, slice_get, Some, refl, sym, ap, ◌∙◌, arith, inl, inr}
use Rattle.std.proofs.Common.{append_assoc}
use Rattle.std.proofs.lemmas.Bool.{cases_eq, eq-eqb, ne_eqb, cases_Bool}
use Rattle.circuit.specs.declared.gate.Gate.{Gate}
use Rattle.circuit.specs.PlainNets.{PlainView, is_constant}
use Rattle.level_balance.specs.Uses.{operands, counts, uses_from, uses_of, use_count}
use Rattle.level_balance.specs.Levels.{user_rows_from}
use Rattle.level_balance.specs.Plan.{Frame}
use Rattle.level_balance.specs.Counts.{constants_in, tree_cells, lead_cells, gates_cells}
use Rattle.level_balance.specs.Trees.{tree_rows, tree_end}
use Rattle.level_balance.specs.Code.Served.{led_cells, leads_cells}
use Rattle.level_balance.proofs.LawOfLaying.{OperandsCount, drop_step}
use Rattle.level_balance.proofs.Law.{FrameFits}
use Rattle.level_balance.proofs.Frames.{counts_free}
use Rattle.level_balance.proofs.Linked.{uses_same, uses_other}
use Rattle.level_balance.proofs.Marks.{AllIn}

-- the sum over the numbers below m
abbrev upto : ℕ → (ℕ → ℕ) → ℕ
upto zero h = 0
upto (suc m) h = upto m h + h m

upto_none : (m : ℕ) → upto m (λ j. 0) ≡ 0
upto_none zero = refl
upto_none (suc m) = let e = upto_none m in omega arith

upto_add : (m : ℕ) (a b : ℕ → ℕ) → upto m (λ j. a j + b j) ≡ upto m a + upto m b
upto_add zero a b = refl
upto_add (suc m) a b = let e = upto_add m a b in omega arith

upto_same : (m : ℕ) (a b : ℕ → ℕ) → ((j : ℕ) → a j ≡ b j) → upto m a ≡ upto m b
upto_same zero a b h = refl
upto_same (suc m) a b h = let e = upto_same m a b h in let k = h m in omega arith

-- v at place h alone
abbrev alone : ℕ → ℕ → ℕ → ℕ
alone h v j = elim (eqb h j) [ true ↦ v | false ↦ 0 ]

alone_here : (h v j : ℕ) → h ≡ j → alone h v j ≡ v
alone_here h v j e = rw (eq-eqb h j e, alone) refl

alone_there : (h v j : ℕ) → (h ≡ j → ⊥) → alone h v j ≡ 0
alone_there h v j other = rw (ne_eqb h j other, alone) refl

upto_past : (m h v : ℕ) → m ≤ h → upto m (alone h v) ≡ 0
upto_past zero h v le = refl
upto_past (suc m) h v le = let e = upto_past m h v (omega arith) in let z = alone_there h v m
    (λ e. omega arith) in omega arith

upto_alone : (m h v : ℕ) → h < m → upto m (alone h v) ≡ v
upto_alone zero h v lt = absurd (omega arith)
upto_alone (suc m) h v lt = elim (cases_eq h m) [
  | inl same ↦ (let e = upto_past m h v (omega arith) in let z = alone_here h v m same in omega arith)
  | inr other ↦ (let e = upto_alone m h v (omega arith) in let z = alone_there h v m other in omega arith)
]

-- w over the uses q of gate j
abbrev over_uses : (ℕ → ℕ → ℕ) → ℕ → List ℕ → ℕ
over_uses w j [] = 0
over_uses w j (q ∷ qs) = w q j + over_uses w j qs

-- w over all uses from use q on
abbrev along : (ℕ → ℕ → ℕ) → ℕ → List ℕ → ℕ
along w q [] = 0
along w q (h ∷ hs) = w q h + along w (suc q) hs

one_use : (w : ℕ → ℕ → ℕ) (q h j : ℕ) (hs : List ℕ)
    → over_uses w j (uses_of j q (h ∷ hs)) ≡ alone h (w q h) j + over_uses w j (uses_of j (suc q) hs)
one_use w q h j hs = elim (cases_eq h j) [
  | inl same ↦ (let a = ap (over_uses w j) (uses_same j q h hs same) in let b = alone_here h (w q h) j same in let c =
      ap (w q) same in omega arith)
  | inr other ↦ (let a = ap (over_uses w j) (uses_other j q h hs other) in let b = alone_there h
      (w q h) j other in omega arith)
]

by_uses : (w : ℕ → ℕ → ℕ) (m q : ℕ) (us : List ℕ) → AllIn (λ x. x < m) us
    → upto m (λ j. over_uses w j (uses_of j q us)) ≡ along w q us
by_uses w m q [] low = upto_none m
by_uses w m q (x ∷ us) low =
    upto_same m (λ j. over_uses w j (uses_of j q (x ∷ us)))
    (λ j. alone x (w q x) j + over_uses w j (uses_of j (suc q) us)) (λ j. one_use w q x j us)
    ∙ upto_add m (alone x (w q x)) (λ j. over_uses w j (uses_of j (suc q) us))
    ∙ (let a = upto_alone m x (w q x) low.0 in let b = by_uses w m (suc q) us low.1 in omega arith)

-- v over uses and the rows of their users
abbrev paired : (ℕ → ℕ → ℕ) → List ℕ → List ℕ → ℕ
paired v rows [] = 0
paired v [] (x ∷ xs) = v 0 x + paired v [] xs
paired v (r ∷ rows) (x ∷ xs) = v r x + paired v rows xs

along_later : (v : ℕ → ℕ → ℕ) (r : ℕ) (rows : List ℕ) (q : ℕ) (us : List ℕ)
    → along (λ p x. v (get_or (r ∷ rows) p 0) x) (suc q) us ≡ along (λ p x. v (get_or rows p 0) x) q us
along_later v r rows q [] = refl
along_later v r rows q (x ∷ us) = ap (λ (k : ℕ). v (get_or rows q 0) x + k) (along_later v r rows (suc q) us)

along_none : (v : ℕ → ℕ → ℕ) (q p : ℕ) (us : List ℕ)
    → along (λ k x. v (get_or [] k 0) x) q us ≡ along (λ k x. v (get_or [] k 0) x) p us
along_none v q p [] = refl
along_none v q p (x ∷ us) = ap (λ (k : ℕ). v 0 x + k) (along_none v (suc q) (suc p) us)

along_paired : (v : ℕ → ℕ → ℕ) (rows us : List ℕ) → along (λ p x. v (get_or rows p 0) x) 0 us ≡ paired v rows us
along_paired v rows [] = refl
along_paired v [] (x ∷ us) = ap (λ (k : ℕ). v 0 x + k) (along_none v 1 0 us ∙ along_paired v [] us)
along_paired v (r ∷ rows) (x ∷ us) = ap (λ (k : ℕ). v r x + k) (along_later v r rows 0 us ∙ along_paired v rows us)

abbrev each : (ℕ → ℕ) → List ℕ → ℕ
each h [] = 0
each h (x ∷ xs) = h x + each h xs

paired_each : (v : ℕ → ℕ → ℕ) (l : ℕ) (xs rows us : List ℕ)
    → paired v (replicate (length xs) l ++ rows) (xs ++ us) ≡ each (v l) xs + paired v rows us
paired_each v l [] rows us = omega arith
paired_each v l (x ∷ xs) rows us = let e = paired_each v l xs rows us in omega arith

paired_last : (v : ℕ → ℕ → ℕ) (l : ℕ) (xs : List ℕ) → paired v (replicate (length xs) l) xs ≡ each (v l) xs
paired_last v l [] = refl
paired_last v l (x ∷ xs) = let e = paired_last v l xs in omega arith

module _ (f : Frame) where
  -- the buffers of a use of gate x by a user in row r
  abbrev waits : ℕ → ℕ → ℕ
  waits r x = elim (counts f.inputs f.marks x) [ true ↦ r - 1 - tree_end f x | false ↦ 0 ]

  -- the buffers of all uses by the gates from gate i on
  abbrev served_from : ℕ → List Gate → ℕ
  served_from i [] = 0
  served_from i (g ∷ gs) = elim (counts f.inputs f.marks i) [
    | true ↦ each (waits (get_or f.levels i 0))
        (operands g) + served_from (suc i) gs
    | false ↦ served_from (suc i) gs
  ]

  paired_served : (i : ℕ) (gs : List Gate) (outs : List ℕ)
      → paired waits (user_rows_from f.inputs f.marks f.levels i gs ++ replicate (length outs) f.last)
      (uses_from f.inputs f.marks i gs ++ outs) ≡ served_from i gs + each (waits f.last) outs
  paired_served i [] outs = let e = paired_last waits f.last outs in omega arith
  paired_served i (g ∷ gs) outs = by (counts f.inputs f.marks i) refl (paired_served (suc i) gs outs)
    where
      by : (b : Bool) → counts f.inputs f.marks i ≡ b
          → paired waits (user_rows_from f.inputs f.marks f.levels (suc i) gs ++ replicate (length outs) f.last)
          (uses_from f.inputs f.marks (suc i) gs ++ outs) ≡ served_from (suc i) gs + each (waits f.last) outs
          → paired waits (user_rows_from f.inputs f.marks f.levels i (g ∷ gs) ++ replicate (length outs) f.last)
          (uses_from f.inputs f.marks i (g ∷ gs) ++ outs) ≡ served_from i (g ∷ gs) + each (waits f.last) outs
      by false c h = rw (c, user_rows_from, uses_from, served_from) h
      by true c h =
          let l = get_or f.levels i 0 in
          let us = uses_from f.inputs f.marks (suc i) gs in
          let rows = user_rows_from f.inputs f.marks f.levels (suc i) gs in
          let lasts = replicate (length outs) f.last in
          rw (c, user_rows_from, uses_from, served_from)
          (ap (λ (k : List ℕ). paired waits k ((operands g ++ us) ++ outs))
          (append_assoc (replicate (length (operands g)) l) rows lasts)
          ∙ ap (λ (k : List ℕ). paired waits (replicate (length (operands g)) l ++ (rows ++ lasts)) k)
          (append_assoc (operands g) us outs)
          ∙ paired_each waits l (operands g) (rows ++ lasts) (us ++ outs) ∙ (let z = h in omega arith))

  -- what leads operands is their constants, and the buffers of the others
  leads_are : (i r : ℕ) (xs : List ℕ) → OperandsCount f i xs
      → leads_cells f.inputs (tree_end f) r xs ≡ constants_in f.inputs xs + each (waits r) xs
  leads_are i r [] h = refl
  leads_are i r (x ∷ xs) h = elim (cases_Bool (is_constant f.inputs x)) [
    | inl con ↦ (let e = leads_are i r xs h.1 in let no = constant_waits x r con in one con e no)
    | inr free ↦ (let e = leads_are i r xs h.1 in let c = h.0 free in other free e (free_waits x r c.0))
  ]
    where
      constant_waits : (x r : ℕ) → is_constant f.inputs x ≡ true → waits r x ≡ 0
      constant_waits x r con = elim (cases_Bool (counts f.inputs f.marks x)) [
        | inl c ↦ (let z : true ≡ false = sym con ∙ counts_free f.inputs f.marks x c in cc)
        | inr out ↦ rw (out, waits) refl
      ]

      free_waits : (x r : ℕ) → counts f.inputs f.marks x ≡ true → waits r x ≡ r - 1 - tree_end f x
      free_waits x r c = rw (c, waits) refl

      one : is_constant f.inputs x ≡ true → leads_cells f.inputs (tree_end f) r xs ≡ constants_in f.inputs xs + each
          (waits r) xs → waits r x ≡ 0
          → leads_cells f.inputs (tree_end f) r (x ∷ xs) ≡ constants_in f.inputs (x ∷ xs) + each (waits r) (x ∷ xs)
      one con e none =
          let a : led_cells f.inputs (tree_end f) r x ≡ 1 = rw (con, led_cells) refl in
          let b : constants_in f.inputs (x ∷ xs) ≡ suc (constants_in f.inputs xs) =
          rw (con, constants_in) refl in omega arith

      other : is_constant f.inputs x ≡ false → leads_cells f.inputs (tree_end f) r xs ≡ constants_in f.inputs xs + each
          (waits r) xs → waits r x ≡ r - 1 - tree_end f x
          → leads_cells f.inputs (tree_end f) r (x ∷ xs) ≡ constants_in f.inputs (x ∷ xs) + each (waits r) (x ∷ xs)
      other free e is =
          let a : led_cells f.inputs (tree_end f) r x ≡ r - 1 - tree_end f x = rw (free, led_cells) refl in
          let b : constants_in f.inputs (x ∷ xs) ≡ constants_in f.inputs xs =
          rw (free, constants_in) refl in omega arith

  -- a gate's own cells, and its tree's
  abbrev tree_count : ℕ → ℕ
  tree_count i = tree_cells f.base (tree_rows f i) (use_count f.uses i)

  -- the cells of the gates from gate i on, by users
  abbrev pub by_users : ℕ → List Gate → ℕ
  by_users i [] = 0
  by_users i (g ∷ gs) = elim (counts f.inputs f.marks i) [
    | true ↦ suc (tree_count i) + leads_cells f.inputs (tree_end f) (get_or f.levels i 0)
        (operands g) + by_users (suc i) gs
    | false ↦ by_users (suc i) gs
  ]

  -- the cells of these gates but for buffers
  abbrev still : ℕ → List Gate → ℕ
  still i [] = 0
  still i (g ∷ gs) = elim (counts f.inputs f.marks i) [
    | true ↦ constants_in f.inputs
        (operands g) + 1 + tree_count i + still (suc i) gs
    | false ↦ still (suc i) gs
  ]

  -- the buffers that lead from these gates
  abbrev led_from : ℕ → List Gate → ℕ
  led_from i [] = 0
  led_from i (g ∷ gs) = elim (counts f.inputs f.marks i) [
    | true ↦ lead_cells f (tree_end f i)
        (uses_of i 0 f.uses) + led_from (suc i) gs
    | false ↦ led_from (suc i) gs
  ]

  gates_are : (i : ℕ) (gs : List Gate) → gates_cells f i gs ≡ still i gs + led_from i gs
  gates_are i [] = refl
  gates_are i (g ∷ gs) = by (counts f.inputs f.marks i) refl (gates_are (suc i) gs)
    where
      by : (b : Bool) → counts f.inputs f.marks i ≡ b
          → gates_cells f (suc i) gs ≡ still (suc i) gs + led_from (suc i) gs
          → gates_cells f i (g ∷ gs) ≡ still i (g ∷ gs) + led_from i (g ∷ gs)
      by true c h = rw (c, gates_cells, still, led_from) (omega arith)
      by false c h = rw (c, gates_cells, still, led_from) h

  -- the buffers of a gate, use by use
  abbrev waits_at : ℕ → ℕ → ℕ
  waits_at q j = waits (get_or f.user_rows q 0) j

  leads_over : (j : ℕ) (qs : List ℕ) → counts f.inputs f.marks j ≡ true
      → over_uses waits_at j qs ≡ lead_cells f (tree_end f j) qs
  leads_over j [] c = refl
  leads_over j (q ∷ qs) c = let e = leads_over j qs c in let z : waits_at q j ≡ get_or f.user_rows q 0 - 1 - tree_end f
      j = rw (c, waits) refl in omega arith

  none_over : (j : ℕ) (qs : List ℕ) → counts f.inputs f.marks j ≡ false → over_uses waits_at j qs ≡ 0
  none_over j [] c = refl
  none_over j (q ∷ qs) c = let e = none_over j qs c in let z : waits_at q j ≡ 0 = rw (c, waits) refl in omega arith

  led_upto : (i : ℕ) (gs : List Gate) → upto (i + length gs) (λ j. over_uses waits_at j (uses_of j 0 f.uses)) ≡ upto i
      (λ j. over_uses waits_at j (uses_of j 0 f.uses)) + led_from i gs
  led_upto i [] =
      let z : i + 0 ≡ i = omega arith in
      let e = ap (λ (k : ℕ). upto k (λ j. over_uses waits_at j (uses_of j 0 f.uses))) z in omega arith
  led_upto i (g ∷ gs) = elim (cases_Bool (counts f.inputs f.marks i)) [
    | inl c ↦ (let h = leads_over i (uses_of i 0 f.uses) c in let s : led_from i (g ∷ gs) ≡ lead_cells f (tree_end f i)
        (uses_of i 0 f.uses) + led_from (suc i) gs = rw (c, led_from) refl in let m =
        more (led_upto (suc i) gs) in omega arith)
    | inr out ↦ (let h = none_over i (uses_of i 0 f.uses) out in let s : led_from i (g ∷ gs) ≡ led_from (suc i) gs =
        rw (out, led_from) refl in let m = more (led_upto (suc i) gs) in omega arith)
  ]
    where
      more : upto (suc i + length gs) (λ j. over_uses waits_at j (uses_of j 0 f.uses)) ≡ upto (suc i)
          (λ j. over_uses waits_at j (uses_of j 0 f.uses)) + led_from (suc i) gs
          → upto (i + length (g ∷ gs)) (λ j. over_uses waits_at j (uses_of j 0 f.uses))
          ≡ (upto i (λ j. over_uses waits_at j (uses_of j 0 f.uses)) + over_uses waits_at i
          (uses_of i 0 f.uses)) + led_from (suc i) gs
      more later =
          ap (λ (k : ℕ). upto k (λ j. over_uses waits_at j (uses_of j 0 f.uses)))
          (let z : i + length (g ∷ gs) ≡ suc i + length gs = omega arith in z)
          ∙ later

  users_are : (all : List Gate) (i : ℕ) (gs : List Gate) → drop i all ≡ gs
      → ((j : ℕ) (g : Gate) → slice_get all j ≡ Some g → counts f.inputs f.marks j ≡ true
      → OperandsCount f j (operands g))
      → by_users i gs ≡ still i gs + served_from i gs
  users_are all i [] d h = refl
  users_are all i (g ∷ gs) d h =
      let st = drop_step i all g gs d in
      by (counts f.inputs f.marks i) refl (users_are all (suc i) gs st.1 h)
      (λ c. leads_are i (get_or f.levels i 0) (operands g) (h i g st.0 c))
    where
      by : (b : Bool) → counts f.inputs f.marks i ≡ b → by_users (suc i) gs ≡ still (suc i) gs + served_from (suc i) gs
          → (counts f.inputs f.marks i ≡ true
          → leads_cells f.inputs (tree_end f) (get_or f.levels i 0) (operands g)
          ≡ constants_in f.inputs (operands g) + each (waits (get_or f.levels i 0)) (operands g))
          → by_users i (g ∷ gs) ≡ still i (g ∷ gs) + served_from i (g ∷ gs)
      by true c e l = rw (c, by_users, still, served_from) (let a = l c in omega arith)
      by false c e l = rw (c, by_users, still, served_from) e

  -- the cells by gates and those by users
  pub same_cells : (net : PlainView) → FrameFits net f → AllIn (λ x. x < length net.gates) f.uses
      → gates_cells f 0 net.gates + constants_in f.inputs net.outputs ≡ by_users 0 net.gates + leads_cells f.inputs
      (tree_end f) f.last net.outputs
  same_cells net fits low =
      let a = gates_are 0 net.gates in
      let b : upto (length net.gates) (λ j. over_uses waits_at j (uses_of j 0 f.uses)) ≡ 0 + led_from 0 net.gates =
      ap (λ (k : ℕ). upto k (λ j. over_uses waits_at j (uses_of j 0 f.uses)))
      (let z : length net.gates ≡ 0 + length net.gates = omega arith in z) ∙ led_upto 0 net.gates in
      let c = by_uses waits_at (length net.gates) 0 f.uses low in
      let d : along waits_at 0 f.uses ≡ paired waits f.user_rows f.uses = along_paired waits f.user_rows f.uses in
      let e : paired waits f.user_rows f.uses ≡ served_from 0 net.gates + each (waits f.last) net.outputs =
      ap (λ (k : List ℕ). paired waits k f.uses) fits.rows_are ∙ ap (paired waits _) fits.uses_are
      ∙ paired_served 0 net.gates net.outputs in
      let g = users_are net.gates 0 net.gates refl (λ j h is c. (fits.gate_fits j h is c).operands_count) in
      let o = leads_are (length net.gates) f.last net.outputs fits.outputs_count in
      omega arith
