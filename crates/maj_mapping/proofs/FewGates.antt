-- How many gates the whole net has: each definition is mapped once at most, and adds few; so 32 bits number all gates.
use Rattle.std.specs.Prelude.{◌≡◌, ℕ, zero, suc, ◌+◌, ◌-◌, ◌*◌, ◌<◌, ◌≤◌, ◌^◌, Bool, true, false, cond, List, [], ◌∷◌}
use Rattle.std.specs.Prelude.{map, length, slice_get, slice_set, Option, Some, None, unwrap_or}
use Rattle.std.specs.List.{fold, sum_by}
use Rattle.std.proofs.Common.{refl, sym, ap, ◌∙◌, subst, arith, inl, inr, length-append}
use Rattle.std.proofs.lemmas.Bool.{cases_lt}
use Rattle.std.proofs.lemmas.List.Sums.{sum_by-cons}
use Rattle.std.proofs.lemmas.Option.{none-some}
use Rattle.std.proofs.lemmas.List.{get_or-set_same, get_or-set_other}
use Rattle.circuit.specs.declared.gate.Gate.TheVariants.{Zero, One}
use Rattle.blif_read.specs.declared.netlist.Cube.{Cube}
use Rattle.blif_read.specs.declared.netlist.Def.{Def}
use Rattle.blif_read.specs.Parts.{NetView}
use Rattle.blif_read.specs.Netlist.{IsNetlist, cube_size, def_size}
use Rattle.maj_mapping.specs.Counts.{AllBelow, most_gates, most_of_all}
use Rattle.maj_mapping.proofs.Ordered.{RanksBelow, IsOrdered, ordered}
use Rattle.maj_mapping.specs.Covers.{define}
use Rattle.maj_mapping.specs.Counts.{is_literal, literal_count, cube_literals}
use Rattle.maj_mapping.specs.Plan.{Mapping, gate_at, gate_or, start, input_gates, leave_by, def_of, inputs_by, leave}
use Rattle.maj_mapping.specs.Plan.{visit, signals, mapped, map_net}
use Rattle.maj_mapping.proofs.Right.{past_constants}
use Rattle.maj_mapping.specs.Counts.{most_gates}
use Rattle.maj_mapping.proofs.DefineRight.{define_is_right}
use Rattle.maj_mapping.proofs.SoundWalks.{Sound, WalksBelow, fold_right, ranks_more, low_ranks, gates_length, def_of_is}
use Rattle.maj_mapping.proofs.SoundWalks.{def_of_some, start_right, visit_right}

-- what the definitions that are mapped may have added; the first of them defines signal s
abbrev cost : Option ℕ → Def → ℕ
cost None d = 0
cost (Some g) d = most_gates d

abbrev spent : List (Option ℕ) → ℕ → List Def → ℕ
spent gate_of s [] = 0
spent gate_of s (d ∷ ds) = cost (gate_at gate_of s) d + spent gate_of (suc s) ds

cost_le : (o : Option ℕ) (d : Def) → cost o d ≤ most_gates d
cost_le None d = omega arith
cost_le (Some g) d = omega arith

spent_le : (gate_of : List (Option ℕ)) (s : ℕ) (ds : List Def) → spent gate_of s ds ≤ most_of_all ds
spent_le gate_of s [] = omega arith
spent_le gate_of s (d ∷ ds) = omega (arith, cost_le (gate_at gate_of s) d, spent_le gate_of (suc s) ds)

spent_past : (gate_of : List (Option ℕ)) (s g from : ℕ) (ds : List Def) → s < from
    → spent (slice_set gate_of s (Some g)) from ds ≡ spent gate_of from ds
spent_past gate_of s g from [] lt = refl
spent_past gate_of s g from (d ∷ ds) lt =
    let here : gate_at (slice_set gate_of s (Some g)) from ≡ gate_at gate_of from = get_or-set_other gate_of s from
    (Some g) None (λ e. omega arith) in
    let a = ap (λ o. cost o d) here in
    let b = spent_past gate_of s g (suc from) ds (omega arith) in
    omega arith

spent_more : (gate_of : List (Option ℕ)) (s g from k : ℕ) (ds : List Def) (d : Def) → s ≡ from + k → s < length gate_of
    → gate_at gate_of s ≡ None → slice_get ds k ≡ Some d
    → spent (slice_set gate_of s (Some g)) from ds ≡ spent gate_of from ds + most_gates d
spent_more gate_of s g from k [] d e lt free is = absurd (let z : None ≡ Some d = is in cc)
spent_more gate_of s g from zero (x ∷ xs) d e lt free is =
    let at : s ≡ from = omega arith in
    let same : x ≡ d = cc in
    let here : gate_at (slice_set gate_of s (Some g)) from ≡ Some g = ap (gate_at (slice_set gate_of s (Some g)))
    (sym at) ∙ get_or-set_same gate_of s (Some g) None lt in
    let before : gate_at gate_of from ≡ None = ap (gate_at gate_of) (sym at) ∙ free in
    let a : cost (gate_at (slice_set gate_of s (Some g)) from) x ≡ most_gates d =
    ap (λ o. cost o x) here ∙ ap most_gates same in
    let b : cost (gate_at gate_of from) x ≡ 0 = ap (λ o. cost o x) before in
    let c = spent_past gate_of s g (suc from) xs (omega arith) in
    omega arith
spent_more gate_of s g from (suc k) (x ∷ xs) d e lt free is =
    let here : gate_at (slice_set gate_of s (Some g)) from ≡ gate_at gate_of from = get_or-set_other gate_of s from
    (Some g) None (λ z. omega arith) in
    let a = ap (λ o. cost o x) here in
    let b = spent_more gate_of s g (suc from) k xs d (omega arith) lt free is in
    omega arith

-- from m to m' only what was spent is added, and signals of rank r or more keep what they had
record Within (net : NetView) (rank : ℕ → ℕ) (r : ℕ) (m m' : Mapping) : Type 0 where
  room : length m'.gates + spent m.gate_of net.inputs net.defs ≤ length m.gates + spent m'.gate_of net.inputs net.defs
  others : (t : ℕ) → r ≤ rank t → gate_at m'.gate_of t ≡ gate_at m.gate_of t

abbrev SpendsBelow : NetView → (ℕ → ℕ) → ℕ → (Mapping → ℕ → Mapping) → Type 0
SpendsBelow net rank k walk = (m : Mapping) (s : ℕ) → Sound net m → s < signals net → rank s < k
    → Within net rank (suc (rank s)) m (walk m s)

fold_within : (net : NetView) (rank : ℕ → ℕ) (k r : ℕ) (walk : Mapping → ℕ → Mapping) → WalksBelow net rank k walk
    → SpendsBelow net rank k walk → r ≤ k → (m : Mapping) (ss : List ℕ) → Sound net m → AllBelow (signals net) ss
    → RanksBelow rank r ss → Within net rank r m (fold walk m ss)
fold_within net rank k r walk walks spends le m [] ok below ranks = record { room = omega arith; others = λ t h. refl }
fold_within net rank k r walk walks spends le m (s ∷ ss) ok below ranks =
    let low = ranks.0 in
    let one = spends m s ok below.0 (omega arith) in
    let sound = (walks m s ok below.0 (omega arith)).0.sound in
    let rest = fold_within net rank k r walk walks spends le (walk m s) ss sound below.1 ranks.1 in
    record {
      room = omega (arith, one.room, rest.room);
      others = λ t h. rest.others t h ∙ one.others t (omega arith);
    }

operands_below : (net : NetView) (m : Mapping) → Sound net m → (ss : List ℕ)
    → AllBelow (length m.gates) (map (gate_or m.gate_of) ss)
operands_below net m ok [] = tt
operands_below net m ok (s ∷ ss) = (below (gate_at m.gate_of s) refl, operands_below net m ok ss)
  where
    below : (o : Option ℕ) → gate_at m.gate_of s ≡ o → unwrap_or o 0 < length m.gates
    below (Some g) e = ok.inside s g e
    below None e = let k = past_constants net.inputs m.gates ok.good in omega arith

leave_within : (net : NetView) (ok : IsOrdered net) (m : Mapping) (s : ℕ) (d : Def) → Sound net m → net.inputs ≤ s
    → s < signals net → slice_get net.defs (s - net.inputs) ≡ Some d → gate_at m.gate_of s ≡ None
    → Within net ok.rank (suc (ok.rank s)) m (leave_by net m s (Some d))
unfolding leave_by
leave_within net ok m s d sound above lt is free =
    let xs = map (gate_or m.gate_of) d.inputs in
    let made = define net.inputs m.gates xs d in
    let right = define_is_right net.inputs m.gates sound.good xs d (ok.planes (s - net.inputs) d is)
    (operands_below net m sound d.inputs) in
    let more = spent_more m.gate_of s made.at net.inputs (s - net.inputs) net.defs d (omega arith)
    (omega (arith, sound.size)) free is in
    record {
      room = omega (arith, right.few);
      others = λ t h. get_or-set_other m.gate_of s t (Some made.at) None (λ e. let same = ap ok.rank e in omega arith);
    }

visit_case : (net : NetView) (ok : IsOrdered net) (k : ℕ) → WalksBelow net ok.rank k (visit net k)
    → SpendsBelow net ok.rank k (visit net k) → (m : Mapping) (s : ℕ) → Sound net m → s < signals net
    → ok.rank s < suc k → (o : Option ℕ) → gate_at m.gate_of s ≡ o
    → Within net ok.rank (suc (ok.rank s)) m
    (elim o as (λ (t : Option ℕ). Mapping) [
      | Some g ↦ m
      | None ↦ leave net
          (fold (visit net k) m (inputs_by (def_of net s))) s
    ])
visit_case net ok k walks spends m s sound lt low (Some g) e = record { room = omega arith; others = λ t h. refl }
visit_case net ok k walks spends m s sound lt low None e = elim (cases_lt s net.inputs) [
  | inl small ↦ (let i = sound.inputs_mapped s small in absurd (none-some i.0 (sym e ∙ i.1)))
  | inr large ↦
      (let found = def_of_some net s large lt in
      let d = found.0 in
      let at : slice_get net.defs (s - net.inputs) ≡ Some d = sym (def_of_is net s large) ∙ found.1 in
      let is : net.inputs + (s - net.inputs) ≡ s = omega arith in
      let ranks = subst (λ t. RanksBelow ok.rank (ok.rank t) d.inputs) is (ok.falls (s - net.inputs) d at) in
      let known = ok.known (s - net.inputs) d at in
      let f = fold_within net ok.rank k (ok.rank s) (visit net k) walks spends
      (omega arith) m d.inputs sound known ranks in
      let g = fold_right net ok.rank k (visit net k) walks m d.inputs sound known
      (ranks_more ok.rank _ _ d.inputs (omega arith) ranks) in
      let l = leave_within net ok (fold (visit net k) m d.inputs) s d g.0.sound large lt at
      (f.others s (omega arith) ∙ e) in
      rw found.1 (record {
        room = omega (arith, f.room, l.room);
        others = λ t h. l.others t h ∙ f.others t (omega arith);
      }))
]

visit_within : (net : NetView) (ok : IsOrdered net) (k : ℕ) → SpendsBelow net ok.rank k (visit net k)
unfolding visit
visit_within net ok zero m s sound lt low = absurd (omega arith)
visit_within net ok (suc k) m s sound lt low = visit_case net ok k (visit_right net ok k)
    (visit_within net ok k) m s sound lt low (gate_at m.gate_of s) refl

literals_le : (bs : List ℕ) → literal_count bs ≤ length bs
literals_le [] = omega arith
literals_le (b ∷ bs) = go (is_literal b) (literals_le bs)
  where
    go : (t : Bool) → literal_count bs ≤ length bs → cond t 1 0 + literal_count bs ≤ suc (length bs)
    go true h = omega arith
    go false h = omega arith

cubes_le : (cs : List Cube) → 2 * cube_literals cs + length cs ≤ 2 * sum_by cube_size cs
cubes_le [] = omega arith
cubes_le (c ∷ cs) = omega (arith, literals_le c.plane, cubes_le cs, sum_by-cons cube_size c cs)

total_le : (ds : List Def) → most_of_all ds ≤ 2 * sum_by def_size ds + 10 * length ds
total_le [] = omega arith
total_le (d ∷ ds) = omega (arith, cubes_le d.cubes, total_le ds, sum_by-cons def_size d ds)

mapped_few : (net : NetView) → IsOrdered net → length (mapped net).gates ≤ net.inputs + 2 + most_of_all net.defs
unfolding mapped start
mapped_few net ok =
    let deep = suc (signals net) in
    let w = fold_within net ok.rank deep deep (visit net deep) (visit_right net ok deep) (visit_within net ok deep)
    (omega arith) (start net) net.outputs (start_right net) ok.shown (low_ranks net ok net.outputs ok.shown) in
    let first = length-append (input_gates 0 net.inputs) (Zero ∷ One ∷ []) in
    let inputs = gates_length 0 net.inputs in
    let most = spent_le (fold (visit net deep) (start net) net.outputs).gate_of net.inputs net.defs in
    omega (arith, w.room)

pub few_in_all : (net : NetView) → IsNetlist net → length (map_net net).gates ≤ net.inputs + 2 + most_of_all net.defs
unfolding map_net
few_in_all net ok = mapped_few net (ordered net ok)

pub few_gates : (net : NetView) → IsNetlist net → length (map_net net).gates < 2 ^ 32
unfolding map_net
few_gates net ok =
    let few = mapped_few net (ordered net ok) in
    let all = total_le net.defs in
    let small = ok.small in
    let count = ok.count in
    omega arith
