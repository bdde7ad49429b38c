-- The walk with a stack in place of the recursion: what is left to do, how many turns it takes, and one turn.
use Rattle.std.specs.Prelude.{◌≡◌, ℕ, zero, suc, ◌+◌, ◌-◌, ◌<◌, ◌≤◌, ltb, Bool, true, false, not, is_some, List, []}
use Rattle.std.specs.Prelude.{◌∷◌, ◌++◌, length, drop, slice_get, Option, Some, None}
use Rattle.std.specs.List.{fold}
use Rattle.std.proofs.Common.{refl, sym, ap, ◌∙◌, subst, arith, inl, inr}
use Rattle.std.proofs.lemmas.List.{drop_all}
use Rattle.std.proofs.lemmas.Option.{same_Some, get_or_from_slice_get}
use Rattle.std.proofs.lemmas.Bool.{cases_lt, ltb-false}
use Rattle.blif_read.specs.declared.netlist.Def.{Def}
use Rattle.blif_read.specs.Parts.{NetView}
use Rattle.maj_mapping.specs.declared.walk.Visit.{Visit}
use Rattle.maj_mapping.specs.Counts.{AllBelow}
use Rattle.maj_mapping.specs.Code.MakerView.{MakerView}
use Rattle.maj_mapping.specs.Plan.{Mapping, gate_at, def_of, inputs_by, leave, visit, signals}
use Rattle.maj_mapping.proofs.Ordered.{IsOrdered, RanksBelow}
use Rattle.maj_mapping.proofs.SoundWalks.{def_of_is}
use Rattle.maj_mapping.proofs.Growing.{leave_grows, visit_grows, walks_grow}
use Rattle.maj_mapping.specs.Code.Walks.{deep, walk, mapping, IsStanding}

abbrev pub inputs_of : NetView → ℕ → List ℕ
inputs_of net s = inputs_by (def_of net s)

abbrev pub walk_all : NetView → Mapping → List ℕ → Mapping
walk_all net m ss = fold (visit net (deep net)) m ss

-- the turns of the loop for a list of signals, where each signal takes so many more
abbrev turns_with : (Mapping → ℕ → ℕ) → (Mapping → ℕ → Mapping) → Mapping → List ℕ → ℕ
turns_with extra go m [] = 0
turns_with extra go m (s ∷ ss) = suc (extra m s + turns_with extra go (go m s) ss)

-- the turns that a walk takes: one for each input that is looked at, and one to leave each signal
unfoldable pub turns : NetView → ℕ → Mapping → ℕ → ℕ
turns net zero m s = 0
turns net (suc k) m s = elim (gate_at m.gate_of s) [
  | Some g ↦ 0
  | None ↦ suc
      (turns_with (turns net k) (visit net k) m (inputs_of net s))
]

abbrev pub turns_all : NetView → Mapping → List ℕ → ℕ
turns_all net m ss = turns_with (turns net (deep net)) (visit net (deep net)) m ss

-- what is left of a visit, and of a stack whose top is its last item
abbrev pub end_visit : NetView → Mapping → Visit → Mapping
end_visit net m v = leave net (walk_all net m (drop v.at (inputs_of net v.signal))) v.signal

abbrev pub finish : NetView → Mapping → List Visit → Mapping
finish net m [] = m
finish net m (v ∷ vs) = end_visit net (finish net m vs) v

abbrev pub turns_left : NetView → Mapping → List Visit → ℕ
turns_left net m [] = 0
turns_left net m (v ∷ vs) = turns_left net m vs + suc
    (turns_all net (finish net m vs) (drop v.at (inputs_of net v.signal)))

pub finish_push : (net : NetView) (m : Mapping) (vs : List Visit) (v : Visit)
    → finish net m (vs ++ v ∷ []) ≡ finish net (end_visit net m v) vs
finish_push net m [] v = refl
finish_push net m (x ∷ vs) v = ap (λ (t : Mapping). end_visit net t x) (finish_push net m vs v)

pub turns_push : (net : NetView) (m : Mapping) (vs : List Visit) (v : Visit)
    → turns_left net m (vs ++ v ∷ []) ≡ turns_left net (end_visit net m v) vs + suc
    (turns_all net m (drop v.at (inputs_of net v.signal)))
turns_push net m [] v = omega arith
turns_push net m (x ∷ vs) v =
    let a = turns_push net m vs v in
    let b = ap (λ (t : Mapping). turns_all net t (drop x.at (inputs_of net x.signal))) (finish_push net m vs v) in
    omega arith

-- what is left to do takes no gate away
finish_grows : (net : NetView) (m : Mapping) (vs : List Visit) → length m.gates ≤ length (finish net m vs).gates
finish_grows net m [] = omega arith
finish_grows net m (v ∷ vs) =
    let t = finish net m vs in
    let ss = drop v.at (inputs_of net v.signal) in
    omega (
      arith,
      finish_grows net m vs,
      walks_grow (visit net (deep net))
          (visit_grows net (deep net)) t ss,
      leave_grows net (walk_all net t ss) v.signal,
    )

-- the ranks of a signal's inputs are below its own
ranks_of : (net : NetView) (ok : IsOrdered net) (s : ℕ) → RanksBelow ok.rank (ok.rank s) (inputs_of net s)
ranks_of net ok s = go (ltb s net.inputs) refl (slice_get net.defs (s - net.inputs)) refl
  where
    go : (b : Bool) → ltb s net.inputs ≡ b → (o : Option Def) → slice_get net.defs (s - net.inputs) ≡ o
        → RanksBelow ok.rank (ok.rank s) (inputs_by (elim b as (λ (t : Bool). Option Def) [ true ↦ None | false ↦ o ]))
    go true e o h = tt
    go false e None h = tt
    go false e (Some d) h = subst (λ t. RanksBelow ok.rank (ok.rank t) d.inputs)
        (let le : net.inputs ≤ s = ltb-false s net.inputs e in let z : net.inputs + (s - net.inputs) ≡ s =
        omega arith in z) (ok.falls (s - net.inputs) d h)

-- any two bounds that are deep enough give the same walk and the same turns
record Same (net : NetView) (k l : ℕ) (m : Mapping) (s : ℕ) : Type 0 where
  place : visit net k m s ≡ visit net l m s
  time : turns net k m s ≡ turns net l m s

record SameAll (net : NetView) (k l : ℕ) (m : Mapping) (ss : List ℕ) : Type 0 where
  place : fold (visit net k) m ss ≡ fold (visit net l) m ss
  time : turns_with (turns net k) (visit net k) m ss ≡ turns_with (turns net l) (visit net l) m ss

same_list : (net : NetView) (rank : ℕ → ℕ) (r k l : ℕ) → ((m : Mapping) (s : ℕ) → rank s < r → Same net k l m s)
    → (m : Mapping) (ss : List ℕ) → RanksBelow rank r ss → SameAll net k l m ss
same_list net rank r k l h m [] low = record { place = refl; time = refl }
same_list net rank r k l h m (s ∷ ss) low =
    let a = h m s low.0 in
    let b = same_list net rank r k l h (visit net l m s) ss low.1 in
    record {
      place = ap (λ (t : Mapping). fold (visit net k) t ss) a.place ∙ b.place;
      time = (let c = ap (λ (t : Mapping). turns_with (turns net k) (visit net k) t ss) a.place in let d =
          a.time in let e = b.time in omega arith);
    }

same_visit : (net : NetView) (ok : IsOrdered net) (k l : ℕ) (m : Mapping) (s : ℕ) → ok.rank s < k
    → ok.rank s < l → Same net k l m s
unfolding visit turns
same_visit net ok zero l m s a b = absurd (omega arith)
same_visit net ok (suc k) zero m s a b = absurd (omega arith)
same_visit net ok (suc k) (suc l) m s a b =
    let all = same_list net ok.rank (ok.rank s) k l (λ n t low. same_visit net ok k l n t (omega arith) (omega arith)) m
    (inputs_of net s) (ranks_of net ok s) in
    record {
      place = ap (λ (t : Mapping). elim (gate_at m.gate_of s) as (λ (o : Option ℕ). Mapping)
          [ Some g ↦ m | None ↦ leave net t s ]) all.place;
      time = ap (λ (t : ℕ). elim (gate_at m.gate_of s) as (λ (o : Option ℕ). ℕ) [ Some g ↦ 0 | None ↦ suc t ]) all.time;
    }

-- a signal with a gate
pub walk_some : (net : NetView) (m : Mapping) (s g : ℕ) → gate_at m.gate_of s ≡ Some g → (walk net m s ≡ m)
    × (turns net (deep net) m s ≡ 0)
unfolding visit turns
walk_some net m s g e = (
  ap (λ (o : Option ℕ). elim o as (λ (t : Option ℕ). Mapping) [
    | Some h ↦ m
    | None ↦ leave net
        (fold (visit net (signals net)) m (inputs_of net s)) s
  ]) e,
  ap (λ (o : Option ℕ). elim o as (λ (t : Option ℕ). ℕ) [
    | Some h ↦ 0
    | None ↦ suc
        (turns_with (turns net (signals net)) (visit net (signals net)) m (inputs_of net s))
  ]) e,
)

-- a signal without one
pub walk_none : (net : NetView) (ok : IsOrdered net) (m : Mapping) (s : ℕ) → s < signals net
    → gate_at m.gate_of s ≡ None
    → (walk net m s ≡ leave net (walk_all net m (inputs_of net s)) s)
    × (turns net (deep net) m s ≡ suc (turns_all net m (inputs_of net s)))
unfolding visit turns
walk_none net ok m s lt e =
    let low = ok.low s in
    let all = same_list net ok.rank (ok.rank s) (signals net) (deep net)
    (λ n t r. same_visit net ok (signals net) (deep net) n t (omega arith) (omega arith)) m
    (inputs_of net s) (ranks_of net ok s) in (
      ap (λ (o : Option ℕ). elim o as (λ (t : Option ℕ). Mapping) [
        | Some h ↦ m
        | None ↦ leave net
            (fold (visit net (signals net)) m (inputs_of net s)) s
      ]) e ∙ ap (λ (t : Mapping). leave net t s) all.place,
      ap (λ (o : Option ℕ). elim o as (λ (t : Option ℕ). ℕ) [
        | Some h ↦ 0
        | None ↦ suc
            (turns_with (turns net (signals net)) (visit net (signals net)) m (inputs_of net s))
      ]) e ∙ ap suc all.time,
    )

-- one turn of the loop: the same is left to do, in fewer turns
pub record Turned (net : NetView) (m : Mapping) (stack : List Visit) (m' : Mapping) (stack' : List Visit) : Type 0 where
  pub same : finish net m' stack' ≡ finish net m stack
  pub fewer : turns_left net m' stack' < turns_left net m stack

pub turn_leave : (net : NetView) (m : Mapping) (vs : List Visit) (v : Visit) → length (inputs_of net v.signal) ≤ v.at
    → Turned net m (vs ++ v ∷ []) (leave net m v.signal) vs
turn_leave net m vs v le =
    let d : drop v.at (inputs_of net v.signal) ≡ [] = drop_all v.at (inputs_of net v.signal) le in
    let e : end_visit net m v ≡ leave net m v.signal = ap (λ (t : List ℕ). leave net (walk_all net m t) v.signal) d in
    record {
      same = sym (finish_push net m vs v ∙ ap (λ (t : Mapping). finish net t vs) e);
      fewer = (let a = turns_push net m vs v in let b = ap (λ (t : Mapping). turns_left net t vs) e in omega arith);
    }

abbrev pub further : Visit → Visit
further v = record { signal = v.signal; at = v.at + 1 }

pub turn_known : (net : NetView) (m : Mapping) (vs : List Visit) (v : Visit) (x : ℕ) (rest : List ℕ) (g : ℕ)
    → drop v.at (inputs_of net v.signal) ≡ x ∷ rest → drop (v.at + 1) (inputs_of net v.signal) ≡ rest
    → gate_at m.gate_of x ≡ Some g
    → Turned net m (vs ++ v ∷ []) m (vs ++ further v ∷ [])
turn_known net m vs v x rest g d d' e =
    let w = walk_some net m x g e in
    let ends : end_visit net m v ≡ end_visit net m (further v) =
    ap (λ (t : List ℕ). leave net (walk_all net m t) v.signal) d
    ∙ ap (λ (t : Mapping). leave net (walk_all net t rest) v.signal) w.0
    ∙ ap (λ (t : List ℕ). leave net (walk_all net m t) v.signal) (sym d') in
    record {
      same = finish_push net m vs (further v) ∙ ap (λ (t : Mapping). finish net t vs) (sym ends)
          ∙ sym (finish_push net m vs v);
      fewer = (let a = turns_push net m vs v in let b = turns_push net m vs (further v) in let c =
          ap (λ (t : Mapping). turns_left net t vs) ends in
          let f = ap (turns_all net m) d in let h = ap (turns_all net m) d' in let i = w.1 in let j =
          ap (λ (t : Mapping). turns_all net t rest) w.0 in omega arith);
    }

pub turn_new : (net : NetView) (ok : IsOrdered net) (m : Mapping) (vs : List Visit) (v : Visit) (x : ℕ) (rest : List ℕ)
    → drop v.at (inputs_of net v.signal) ≡ x ∷ rest → drop (v.at + 1) (inputs_of net v.signal) ≡ rest → x < signals net
    → gate_at m.gate_of x ≡ None
    → Turned net m (vs ++ v ∷ []) m ((vs ++ further v ∷ []) ++ record { signal = x; at = 0 } ∷ [])
turn_new net ok m vs v x rest d d' lt e =
    let w = walk_none net ok m x lt e in
    let fresh : Visit = record { signal = x; at = 0 } in
    let ends : end_visit net m v ≡ end_visit net (end_visit net m fresh) (further v) =
    ap (λ (t : List ℕ). leave net (walk_all net m t) v.signal) d
    ∙ ap (λ (t : Mapping). leave net (walk_all net t rest) v.signal) w.0
    ∙ ap (λ (t : List ℕ). leave net (walk_all net (end_visit net m fresh) t) v.signal) (sym d') in
    record {
      same = finish_push net m (vs ++ further v ∷ []) fresh ∙ finish_push net (end_visit net m fresh) vs (further v)
          ∙ ap (λ (t : Mapping). finish net t vs) (sym ends) ∙ sym (finish_push net m vs v);
      fewer = (let a = turns_push net m vs v in let b = turns_push net m (vs ++ further v ∷ []) fresh in let b2 =
          turns_push net (end_visit net m fresh) vs (further v) in let c =
          ap (λ (t : Mapping). turns_left net t vs) ends in
          let f = ap (turns_all net m) d in let h = ap (turns_all net (end_visit net m fresh)) d' in let i =
          w.1 in let j = ap (λ (t : Mapping). turns_all net t rest) w.0 in omega arith);
    }

-- each visit is of a defined signal
abbrev pub AllVisits : NetView → List Visit → Type 0
AllVisits net [] = Unit {0}
AllVisits net (v ∷ vs) = (net.inputs ≤ v.signal) × (v.signal < signals net) × AllVisits net vs

pub visits_split : (net : NetView) (vs : List Visit) (v : Visit) → AllVisits net (vs ++ v ∷ []) → AllVisits net vs
    × (net.inputs ≤ v.signal) × (v.signal < signals net)
visits_split net [] v h = (tt, h.0, h.1)
visits_split net (x ∷ vs) v h = let r = visits_split net vs v h.2 in ((h.0, h.1, r.0), r.1, r.2)

pub visits_push : (net : NetView) (vs : List Visit) (v : Visit) → AllVisits net vs → net.inputs ≤ v.signal
    → v.signal < signals net → AllVisits net (vs ++ v ∷ [])
visits_push net [] v h a b = (a, b, tt)
visits_push net (x ∷ vs) v h a b = (h.0, h.1, visits_push net vs v h.2 a b)

-- what the loop keeps: the same is left to do
pub record Walking (net : NetView) (goal : Mapping) (maker : MakerView) (gate_of : List (Option ℕ))
    (stack : List Visit) : Type 0 where
  pub left : finish net (mapping maker gate_of) stack ≡ goal
  pub standing : IsStanding net maker gate_of
  pub visits : AllVisits net stack

-- what a turn of the code comes to
pub record Next (net : NetView) (goal : Mapping) (maker : MakerView) (gate_of : List (Option ℕ)) (stack : List Visit)
    (maker' : MakerView) (gate_of' : List (Option ℕ)) (stack' : List Visit) : Type 0 where
  pub walking : Walking net goal maker' gate_of' stack'
  pub fewer : turns_left net (mapping maker' gate_of') stack' < turns_left net (mapping maker gate_of) stack

inputs_are : (net : NetView) (s : ℕ) (d : Def) → net.inputs ≤ s → slice_get net.defs (s - net.inputs) ≡ Some d
    → inputs_of net s ≡ d.inputs
inputs_are net s d le e = ap inputs_by (def_of_is net s le ∙ e)

drop_at : (xs : List ℕ) (i x : ℕ) → slice_get xs i ≡ Some x → drop i xs ≡ x ∷ drop (i + 1) xs
drop_at [] i x e = cc
drop_at (y ∷ ys) zero x e = ap (λ (k : ℕ). k ∷ ys) (same_Some y x e)
drop_at (y ∷ ys) (suc i) x e = drop_at ys i x e
    ∙ ap (λ (k : ℕ). x ∷ drop k (y ∷ ys)) (let z : suc (i + 1) ≡ suc i + 1 = omega arith in z)

pub input_signal : (net : NetView) → IsOrdered net → (k : ℕ) (d : Def) (i x : ℕ) → slice_get net.defs k ≡ Some d
    → slice_get d.inputs i ≡ Some x → x < signals net
input_signal net ok k d i x e h = go d.inputs i h (ok.known k d e)
  where
    go : (xs : List ℕ) (i : ℕ) → slice_get xs i ≡ Some x → AllBelow (signals net) xs → x < signals net
    go [] i h low = cc
    go (y ∷ ys) zero h low = subst (λ t. t < signals net) (same_Some y x h) low.0
    go (y ∷ ys) (suc i) h low = go ys i h low.1

none_is : (o : Option ℕ) (b : Bool) → is_some o ≡ not b → b ≡ true → o ≡ None
none_is None b e t = refl
none_is (Some k) true e t = cc
none_is (Some k) false e t = cc

some_is : (o : Option ℕ) (b : Bool) → is_some o ≡ not b → b ≡ false → (g : ℕ) × (o ≡ Some g)
some_is (Some k) b e t = (k, refl)
some_is None true e t = cc
some_is None false e t = cc

module _ (net : NetView) (ok : IsOrdered net) (goal : Mapping) (maker : MakerView) (gate_of : List (Option ℕ))
    (stack vs : List Visit) (v : Visit) (is : stack ≡ vs ++ v ∷ []) (h : Walking net goal maker gate_of stack) where
  abbrev m : Mapping
  m = mapping maker gate_of

  pub top_visit : AllVisits net vs × (net.inputs ≤ v.signal) × (v.signal < signals net)
  top_visit = visits_split net vs v (subst (AllVisits net) is h.visits)

  pub next_leave : (d : Def) (maker' : MakerView) (gate_of' : List (Option ℕ))
      → slice_get net.defs (v.signal - net.inputs) ≡ Some d → length d.inputs ≤ v.at
      → mapping maker' gate_of' ≡ leave net m v.signal → IsStanding net maker' gate_of'
      → Next net goal maker gate_of stack maker' gate_of' vs
  next_leave d maker' gate_of' e le made standing =
      let t = top_visit in
      let same = inputs_are net v.signal d t.1 e in
      let turn = turn_leave net m vs v (let z = ap (λ (xs : List ℕ). length xs) same in omega arith) in
      record {
        walking = record {
          left = ap (λ (k : Mapping). finish net k vs) made ∙ turn.same ∙ ap (finish net m) (sym is) ∙ h.left;
          standing = standing;
          visits = t.0;
        };
        fewer = (let a = turn.fewer in let b = ap (λ (k : Mapping). turns_left net k vs) made in let c =
            ap (turns_left net m) is in omega arith);
      }

  pub leave_room : (d : Def) (most : ℕ) → slice_get net.defs (v.signal - net.inputs) ≡ Some d → length d.inputs ≤ v.at
      → length goal.gates < most → length (leave net m v.signal).gates < most
  leave_room d most e le few =
      let t = top_visit in
      let same = inputs_are net v.signal d t.1 e in
      let turn = turn_leave net m vs v (let z = ap (λ (xs : List ℕ). length xs) same in omega arith) in
      let all : finish net (leave net m v.signal) vs ≡ goal = turn.same ∙ ap (finish net m) (sym is) ∙ h.left in
      let sizes = ap (λ (k : Mapping). length k.gates) all in
      omega (arith, sizes, finish_grows net (leave net m v.signal) vs, few)

  pub next_known : (d : Def) (x : ℕ) (o : Option ℕ) (b : Bool) → slice_get net.defs (v.signal - net.inputs) ≡ Some d
      → slice_get d.inputs v.at ≡ Some x → slice_get gate_of x ≡ Some o → is_some o ≡ not b → b ≡ false
      → Next net goal maker gate_of stack maker gate_of (vs ++ further v ∷ [])
  next_known d x o b e at got test no_gate =
      let t = top_visit in
      let same = inputs_are net v.signal d t.1 e in
      let g = some_is o b test no_gate in
      let rest = drop_at d.inputs v.at x at in
      let turn = turn_known net m vs v x (drop (v.at + 1) d.inputs) g.0 (ap (drop v.at) same ∙ rest)
      (ap (drop (v.at + 1)) same) (get_or_from_slice_get gate_of x o None got ∙ g.1) in
      record {
        walking = record {
          left = turn.same ∙ ap (finish net m) (sym is) ∙ h.left;
          standing = h.standing;
          visits = visits_push net vs (further v) t.0 t.1 t.2;
        };
        fewer = (let a = turn.fewer in let c = ap (turns_left net m) is in omega arith);
      }

  pub next_new : (d : Def) (x : ℕ) (o : Option ℕ) (b : Bool) → slice_get net.defs (v.signal - net.inputs) ≡ Some d
      → slice_get d.inputs v.at ≡ Some x → slice_get gate_of x ≡ Some o → is_some o ≡ not b → b ≡ true
      → Next net goal maker gate_of stack maker gate_of ((vs ++ further v ∷ []) ++ record { signal = x; at = 0 } ∷ [])
  next_new d x o b e at got test no_gate =
      let t = top_visit in
      let same = inputs_are net v.signal d t.1 e in
      let free : gate_at gate_of x ≡ None = get_or_from_slice_get gate_of x o None got ∙ none_is o b test no_gate in
      let low = input_signal net ok (v.signal - net.inputs) d v.at x e at in
      let high : net.inputs ≤ x =
      elim (cases_lt x net.inputs) [
        | inl small ↦ absurd
            (h.standing.inputs_mapped x small free)
        | inr large ↦ large
      ] in
      let rest = drop_at d.inputs v.at x at in
      let turn = turn_new net ok m vs v x (drop (v.at + 1) d.inputs) (ap (drop v.at) same ∙ rest)
      (ap (drop (v.at + 1)) same) low free in
      record {
        walking = record {
          left = turn.same ∙ ap (finish net m) (sym is) ∙ h.left;
          standing = h.standing;
          visits = visits_push net (vs ++ further v ∷ [])
              (record { signal = x; at = 0 }) (visits_push net vs (further v) t.0 t.1 t.2) high low;
        };
        fewer = (let a = turn.fewer in let c = ap (turns_left net m) is in omega arith);
      }

-- the start: nothing to do where the root has its gate, and else one visit
pub begin_known : (net : NetView) (maker : MakerView) (gate_of : List (Option ℕ)) (root : ℕ) (o : Option ℕ) (b : Bool)
    → IsStanding net maker gate_of → slice_get gate_of root ≡ Some o → is_some o ≡ not b → b ≡ false
    → Walking net (walk net (mapping maker gate_of) root) maker gate_of []
begin_known net maker gate_of root o b standing got test no_gate =
    let g = some_is o b test no_gate in
    record {
      left = sym (walk_some net (mapping maker gate_of) root g.0 (get_or_from_slice_get gate_of root o None got
          ∙ g.1)).0;
      standing = standing;
      visits = tt;
    }

pub begin_new : (net : NetView) → IsOrdered net
    → (maker : MakerView) (gate_of : List (Option ℕ)) (root : ℕ) (o : Option ℕ) (b : Bool) → root < signals net
    → IsStanding net maker gate_of → slice_get gate_of root ≡ Some o → is_some o ≡ not b → b ≡ true
    → Walking net (walk net (mapping maker gate_of) root) maker gate_of (record { signal = root; at = 0 } ∷ [])
begin_new net ok maker gate_of root o b lt standing got test no_gate =
    let free : gate_at gate_of root ≡ None = get_or_from_slice_get gate_of root o None got ∙ none_is o b test no_gate in
    let high : net.inputs ≤ root =
    elim (cases_lt root net.inputs) [
      | inl small ↦ absurd
          (standing.inputs_mapped root small free)
      | inr large ↦ large
    ] in
    record {
      left = sym (walk_none net ok (mapping maker gate_of) root lt free).0;
      standing = standing;
      visits = (high, lt, tt);
    }
