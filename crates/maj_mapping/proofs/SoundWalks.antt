-- The law of the plan: in each valuation each mapped signal's gate has the signal's value.
use Rattle.std.specs.Prelude.{◌≡◌, ℕ, zero, suc, ◌+◌, ◌-◌, ◌<◌, ◌≤◌, ltb, Bool, false, List, [], ◌∷◌, ◌++◌, map, length}
use Rattle.std.specs.Prelude.{replicate, slice_get, slice_index_or, slice_set, Option, Some, None, unwrap_or}
use Rattle.std.specs.List.{fold}
use Rattle.std.proofs.Common.{refl, sym, ap, ◌∙◌, subst, arith, inl, inr}
use Rattle.std.proofs.lemmas.Bool.{cases_eq, cases_lt, le-ltb}
use Rattle.std.proofs.lemmas.Option.{slice_get_cases, same_Some, none-some}
use Rattle.std.proofs.lemmas.List.{length-set, get_or-set_same, get_or-set_other, length-append, length-replicate}
use Rattle.circuit.specs.declared.gate.Gate.{Gate}
use Rattle.circuit.specs.declared.gate.Gate.TheVariants.{Input, Zero, One}
use Rattle.blif_read.specs.declared.netlist.Def.{Def}
use Rattle.blif_read.specs.Parts.{NetView}
use Rattle.circuit.specs.Gates.{Fits}
use Rattle.circuit.specs.PlainNets.{MayStand, AreGates}
use Rattle.blif_read.specs.Equations as equations
use Rattle.maj_mapping.specs.Values.{cover, HasPlanes}
use Rattle.maj_mapping.proofs.ValueLaws.{cover_is}
use Rattle.maj_mapping.specs.Covers.{define}
use Rattle.maj_mapping.specs.Plan.{Mapping, gate_at, gate_or, input_gates, input_names, start, leave_by, def_of}
use Rattle.maj_mapping.specs.Plan.{inputs_by, leave, visit, signals, mapped, map_net}
use Rattle.maj_mapping.proofs.DefineRight.{define_is_right}
use Rattle.maj_mapping.specs.Counts.{AllBelow}
use Rattle.maj_mapping.proofs.Ordered.{RanksBelow, IsOrdered}

abbrev pub IsMapped : Mapping → ℕ → Type 0
IsMapped m s = (g : ℕ) × (gate_at m.gate_of s ≡ Some g)

abbrev pub AllMapped : Mapping → List ℕ → Type 0
AllMapped m [] = Unit {0}
AllMapped m (s ∷ ss) = IsMapped m s × AllMapped m ss

pub record Sound (net : NetView) (m : Mapping) : Type 0 where
  pub good : AreGates net.inputs m.gates
  pub size : length m.gate_of ≡ signals net
  pub inputs_mapped : (s : ℕ) → s < net.inputs → IsMapped m s
  pub inside : (s g : ℕ) → gate_at m.gate_of s ≡ Some g → g < length m.gates
  pub value : (word : List Bool) (u v : ℕ → Bool) → equations.Fits net.inputs net.defs word u → Fits word v m.gates
      → (s g : ℕ) → gate_at m.gate_of s ≡ Some g → v g ≡ u s

pub record After (net : NetView) (m m' : Mapping) : Type 0 where
  pub sound : Sound net m'
  pub earlier : (word : List Bool) (v : ℕ → Bool) → Fits word v m'.gates → Fits word v m.gates
  pub kept : (s : ℕ) → IsMapped m s → IsMapped m' s

after_same : (net : NetView) (m : Mapping) → Sound net m → After net m m
after_same net m ok = record { sound = ok; earlier = λ word v fits. fits; kept = λ s h. h }

after_then : (net : NetView) (a b c : Mapping) → After net a b → After net b c → After net a c
after_then net a b c f g =
    record {
      sound = g.sound;
      earlier = λ word v fits. f.earlier word v (g.earlier word v fits);
      kept = λ s h. g.kept s (f.kept s h);
    }

gate_or_is : (m : Mapping) (s g : ℕ) → gate_at m.gate_of s ≡ Some g → gate_or m.gate_of s ≡ g
gate_or_is m s g e = ap (λ (o : Option ℕ). unwrap_or o 0) e

gates_below : (net : NetView) (m : Mapping) → Sound net m → (ss : List ℕ) → AllMapped m ss
    → AllBelow (length m.gates) (map (gate_or m.gate_of) ss)
gates_below net m ok [] h = tt
gates_below net m ok (s ∷ ss) h = (
  subst (λ g. g < length m.gates) (sym (gate_or_is m s h.0.0 h.0.1))
      (ok.inside s h.0.0 h.0.1),
  gates_below net m ok ss h.1,
)

pub gates_value : (net : NetView) (m : Mapping) → Sound net m → (word : List Bool) (u v : ℕ → Bool)
    → equations.Fits net.inputs net.defs word u → Fits word v m.gates → (ss : List ℕ) → AllMapped m ss
    → map v (map (gate_or m.gate_of) ss) ≡ map u ss
gates_value net m ok word u v solves fits [] h = refl
gates_value net m ok word u v solves fits (s ∷ ss) h =
    rw (
      gate_or_is m s h.0.0 h.0.1,
      ok.value word u v solves fits s h.0.0 h.0.1,
      gates_value net m ok word u
          v solves fits ss h.1,
    ) refl

pub def_of_is : (net : NetView) (s : ℕ) → net.inputs ≤ s → def_of net s ≡ slice_get net.defs (s - net.inputs)
def_of_is net s le = let k : ltb s net.inputs ≡ false = le-ltb s net.inputs le in rw (k, def_of) refl

-- a signal that gets its gate
leave_right : (net : NetView) (m : Mapping) (s : ℕ) (d : Def) → HasPlanes d.cubes → Sound net m → net.inputs ≤ s
    → s < signals net → def_of net s ≡ Some d → AllMapped m d.inputs → After net m (leave_by net m s (Some d))
    × IsMapped (leave_by net m s (Some d)) s
unfolding leave_by
leave_right net m s d planes ok above lt is h =
    let xs = map (gate_or m.gate_of) d.inputs in
    let r = define_is_right net.inputs m.gates ok.good xs d planes (gates_below net m ok d.inputs h) in
    let made = define net.inputs m.gates xs d in
    let inside : s < length m.gate_of = omega (arith, ok.size) in
    let here : gate_at (slice_set m.gate_of s (Some made.at)) s ≡ Some made.at = get_or-set_same m.gate_of s
    (Some made.at) None inside in (
      record {
        sound = record {
          good = r.good;
          size = length-set m.gate_of s (Some made.at) ∙ ok.size;
          inputs_mapped = λ t low. let g = ok.inputs_mapped t low in
              (g.0, get_or-set_other m.gate_of s t (Some made.at) None (λ e. omega arith) ∙ g.1);
          inside = λ t g e. elim (cases_eq t s) [
            | inl same ↦ subst (λ k. k < length made.gates)
                (same_Some made.at g (sym here
                ∙ ap (gate_at (slice_set m.gate_of s (Some made.at))) (sym same) ∙ e)) r.inside
            | inr other ↦ (let lt : g < length m.gates = ok.inside t g
                (sym (get_or-set_other m.gate_of s t (Some made.at) None other) ∙ e) in omega (arith, r.grown))
          ];
          value = λ word u v solves fits t g e. elim (cases_eq t s) [
            | inl same ↦ (let at : made.at ≡ g = same_Some made.at g
                (sym here ∙ ap (gate_at (slice_set m.gate_of s (Some made.at))) (sym same) ∙ e) in
                ap v (sym at) ∙ r.value word v fits
                ∙ ap (cover d) (gates_value net m ok word u v solves (r.earlier word v fits) d.inputs h)
                ∙ cover_is d u ∙ sym (solves.covers (s - net.inputs) d (sym (def_of_is net s above) ∙ is))
                ∙ ap u (let k : net.inputs + (s - net.inputs) ≡ t = omega arith in k))
            | inr other ↦ ok.value word u v solves (r.earlier word v fits) t g
                (sym (get_or-set_other m.gate_of s t (Some made.at) None other) ∙ e)
          ];
        };
        earlier = r.earlier;
        kept = λ t g. elim (cases_eq t s) [
          | inl same ↦ (made.at, ap (gate_at (slice_set m.gate_of s (Some made.at))) same ∙ here)
          | inr other ↦ (g.0, get_or-set_other m.gate_of s t (Some made.at) None other ∙ g.1)
        ];
      },
      (made.at, here),
    )

-- a walk that is right for signals of a rank below k
abbrev pub WalksBelow : (net : NetView) → (ℕ → ℕ) → ℕ → (Mapping → ℕ → Mapping) → Type 0
WalksBelow net rank k walk = (m : Mapping) (s : ℕ) → Sound net m → s < signals net → rank s < k
    → After net m (walk m s) × IsMapped (walk m s) s

pub fold_right : (net : NetView) (rank : ℕ → ℕ) (k : ℕ) (walk : Mapping → ℕ → Mapping) → WalksBelow net rank k walk
    → (m : Mapping) (ss : List ℕ) → Sound net m → AllBelow (signals net) ss → RanksBelow rank k ss
    → After net m (fold walk m ss) × AllMapped (fold walk m ss) ss
fold_right net rank k walk h m [] ok below ranks = (after_same net m ok, tt)
fold_right net rank k walk h m (s ∷ ss) ok below ranks =
    let one = h m s ok below.0 ranks.0 in
    let rest = fold_right net rank k walk h (walk m s) ss one.0.sound below.1 ranks.1 in
    (after_then net m _ _ one.0 rest.0, (rest.0.kept s one.1, rest.1))

pub ranks_more : (rank : ℕ → ℕ) (k l : ℕ) (ss : List ℕ) → k ≤ l → RanksBelow rank k ss → RanksBelow rank l ss
ranks_more rank k l [] le h = tt
ranks_more rank k l (s ∷ ss) le h = (omega (arith, h.0), ranks_more rank k l ss le h.1)

pub def_of_some : (net : NetView) (s : ℕ) → net.inputs ≤ s → s < signals net → (d : Def) × (def_of net s ≡ Some d)
def_of_some net s le lt =
    elim (slice_get_cases net.defs (s - net.inputs)).1 [
      | inl h ↦ (
        h.0,
        def_of_is net s le
            ∙ h.2,
      )
      | inr h ↦ absurd (omega (arith, h.0))
    ]

visit_case : (net : NetView) (ok : IsOrdered net) (k : ℕ) → WalksBelow net ok.rank k (visit net k)
    → (m : Mapping) (s : ℕ) → Sound net m → s < signals net → ok.rank s < suc k → (o : Option ℕ)
    → gate_at m.gate_of s ≡ o
    → After net m (elim o as (λ (t : Option ℕ). Mapping) [
      | Some g ↦ m
      | None ↦ leave net
          (fold (visit net k) m (inputs_by (def_of net s))) s
    ])
    × IsMapped (elim o as (λ (t : Option ℕ). Mapping) [
      | Some g ↦ m
      | None ↦ leave net
          (fold (visit net k) m (inputs_by (def_of net s))) s
    ]) s
visit_case net ok k walks m s sound lt low (Some g) e = (after_same net m sound, (g, e))
visit_case net ok k walks m s sound lt low None e = elim (cases_lt s net.inputs) [
  | inl small ↦ (let i = sound.inputs_mapped s small in absurd (none-some i.0 (sym e ∙ i.1)))
  | inr large ↦
      (let found = def_of_some net s large lt in
      let d = found.0 in
      let is : net.inputs + (s - net.inputs) ≡ s = omega arith in
      let ranks = subst (λ t. RanksBelow ok.rank (ok.rank t) d.inputs) is
      (ok.falls (s - net.inputs) d (sym (def_of_is net s large) ∙ found.1)) in
      let f = fold_right net ok.rank k (visit net k) walks m d.inputs sound
      (ok.known (s - net.inputs) d (sym (def_of_is net s large) ∙ found.1))
      (ranks_more ok.rank _ _ d.inputs (omega arith) ranks) in
      let l = leave_right net (fold (visit net k) m d.inputs) s d
      (ok.planes (s - net.inputs) d (sym (def_of_is net s large) ∙ found.1)) f.0.sound large lt found.1 f.1 in
      rw found.1 (after_then net m _ _ f.0 l.0, l.1))
]

pub visit_right : (net : NetView) (ok : IsOrdered net) (k : ℕ) → WalksBelow net ok.rank k (visit net k)
unfolding visit
visit_right net ok zero m s sound lt low = absurd (omega arith)
visit_right net ok (suc k) m s sound lt low = visit_case net ok k (visit_right net ok k) m s sound lt low _ refl

-- the start
input_gates_at : (i k j : ℕ) (hs : List Gate) → j < k → slice_get (input_gates i k ++ hs) j ≡ Some (Input (i + j))
input_gates_at i zero j hs lt = absurd (omega arith)
input_gates_at i (suc k) zero hs lt = ap (λ (x : ℕ). Some (Input x)) (let e : i ≡ i + 0 = omega arith in e)
input_gates_at i (suc k) (suc j) hs lt = input_gates_at (suc i) k j hs (omega arith)
    ∙ ap (λ (x : ℕ). Some (Input x)) (let e : suc i + j ≡ i + suc j = omega arith in e)

after_inputs : (i k j : ℕ) (hs : List Gate) → slice_get (input_gates i k ++ hs) (k + j) ≡ slice_get hs j
after_inputs i zero j hs = ap (slice_get hs) (let e : 0 + j ≡ j = omega arith in e)
after_inputs i (suc k) j hs = ap (slice_get (input_gates i (suc k) ++ hs))
    (let e : suc k + j ≡ suc (k + j) = omega arith in e) ∙ after_inputs (suc i) k j hs

input_names_at : (i k j : ℕ) (hs : List (Option ℕ)) → j < k
    → slice_index_or (input_names i k ++ hs) j None ≡ Some (i + j)
input_names_at i zero j hs lt = absurd (omega arith)
input_names_at i (suc k) zero hs lt = ap (λ (x : ℕ). Some x) (let e : i ≡ i + 0 = omega arith in e)
input_names_at i (suc k) (suc j) hs lt = input_names_at (suc i) k j hs (omega arith)
    ∙ ap (λ (x : ℕ). Some x) (let e : suc i + j ≡ i + suc j = omega arith in e)

none_at : (m j : ℕ) → slice_index_or (replicate {A = Option ℕ} m None) j None ≡ None
none_at zero j = refl
none_at (suc m) zero = refl
none_at (suc m) (suc j) = none_at m j

after_names : (i k m j : ℕ) → k ≤ j → slice_index_or (input_names i k ++ replicate m None) j None ≡ None
after_names i zero m j le = none_at m j
after_names i (suc k) m zero le = absurd (omega arith)
after_names i (suc k) m (suc j) le = after_names (suc i) k m j (omega arith)

names_length : (i k : ℕ) → length (input_names i k) ≡ k
names_length i zero = refl
names_length i (suc k) = ap suc (names_length (suc i) k)

pub gates_length : (i k : ℕ) → length (input_gates i k) ≡ k
gates_length i zero = refl
gates_length i (suc k) = ap suc (gates_length (suc i) k)

constants_stand : (n j : ℕ) (g : Gate) → slice_get (Zero ∷ One ∷ []) j ≡ Some g → MayStand n (n + j) g
constants_stand n zero g e = subst (MayStand n (n + 0)) (same_Some Zero g e) (omega arith)
constants_stand n (suc zero) g e = subst (MayStand n (n + 1)) (same_Some One g e) refl
constants_stand n (suc (suc j)) g e = cc

start_good : (n : ℕ) → AreGates n (input_gates 0 n ++ Zero ∷ One ∷ [])
start_good n = record {
  zero_at = ap (slice_get (input_gates 0 n ++ Zero ∷ One ∷ [])) (let e : n ≡ n + 0 = omega arith in e)
      ∙ after_inputs 0 n 0 (Zero ∷ One ∷ []);
  one_at = after_inputs 0 n 1 (Zero ∷ One ∷ []);
  stands = λ i g e. elim (cases_lt i n) [
    | inl small ↦ subst (MayStand n i)
        (same_Some _ g (sym (input_gates_at 0 n i (Zero ∷ One ∷ []) small) ∙ e)) (omega arith, small)
    | inr large ↦ (let k : n + (i - n) ≡ i = omega arith in subst (λ t. MayStand n t g) k
        (constants_stand n (i - n) g (sym (after_inputs 0 n (i - n) (Zero ∷ One ∷ []))
        ∙ ap (slice_get (input_gates 0 n ++ Zero ∷ One ∷ [])) k ∙ e)))
  ];
}

start_named : (net : NetView) (s g : ℕ)
    → gate_at (input_names 0 net.inputs ++ replicate (length net.defs) None) s ≡ Some g → (s < net.inputs) × (g ≡ s)
start_named net s g e = elim (cases_lt s net.inputs) [
  | inl small ↦ (
    small,
    same_Some g (0 + s)
        (sym e ∙ input_names_at 0 net.inputs s (replicate (length net.defs) None) small) ∙ omega arith,
  )
  | inr large ↦ absurd (none-some g (sym (after_names 0 net.inputs (length net.defs) s large) ∙ e))
]

pub start_right : (net : NetView) → Sound net (start net)
unfolding start
start_right net = record {
  good = start_good net.inputs;
  size = length-append (input_names 0 net.inputs) (replicate (length net.defs) None)
      ∙ (let a = names_length 0 net.inputs in let b = length-replicate {A = Option ℕ}
      (length net.defs) None in omega arith);
  inputs_mapped = λ s lt. (0 + s, input_names_at 0 net.inputs s (replicate (length net.defs) None) lt);
  inside = λ s g e. let k = start_named net s g e in let a = length-append (input_gates 0 net.inputs)
      (Zero ∷ One ∷ []) in let b = gates_length 0 net.inputs in omega arith;
  value = λ word u v solves fits s g e.
      let k = start_named net s g e in
      let is = fits s (Input (0 + s)) (input_gates_at 0 net.inputs s (Zero ∷ One ∷ []) k.0) in
      ap v k.1 ∙ is ∙ ap (λ i. slice_index_or word i false) (let z : 0 + s ≡ s = omega arith in z)
      ∙ sym (solves.bits s k.0);
}

pub low_ranks : (net : NetView) (ok : IsOrdered net) (ss : List ℕ) → AllBelow (signals net) ss
    → RanksBelow ok.rank (suc (signals net)) ss
low_ranks net ok [] h = tt
low_ranks net ok (s ∷ ss) h = (let k = ok.low s in omega arith, low_ranks net ok ss h.1)

-- the whole walk is sound, and gives each output its gate
pub mapped_right : (net : NetView) → IsOrdered net → Sound net (mapped net) × AllMapped (mapped net) net.outputs
unfolding mapped
mapped_right net ok =
    let f = fold_right net ok.rank (suc (signals net)) (visit net (suc (signals net)))
    (visit_right net ok (suc (signals net))) (start net) net.outputs (start_right net) ok.shown
    (low_ranks net ok net.outputs ok.shown) in
    (f.0.sound, f.1)

-- the law: outputs have their values
pub same_outputs : (net : NetView) → IsOrdered net → (word : List Bool) (u v : ℕ → Bool)
    → equations.Fits net.inputs net.defs word u → Fits word v (map_net net).gates
    → map v (map_net net).outputs ≡ map u net.outputs
unfolding map_net
same_outputs net ok word u v solves fits = let f =
    mapped_right net ok in gates_value net _ f.0 word u v solves fits net.outputs f.1

-- the mapped gates stand, and each output is one
pub mapped_gates : (net : NetView) → IsOrdered net → AreGates net.inputs (map_net net).gates
    × AllBelow (length (map_net net).gates) (map_net net).outputs
unfolding map_net
mapped_gates net ok = let f = mapped_right net ok in (f.0.good, gates_below net _ f.0 net.outputs f.1)
