-- Signals and their literals.
use Rattle.std.specs.Prelude.{◌≡◌, ℕ, zero, suc, ◌+◌, ◌-◌, ◌<◌, ◌≤◌, ◌&&◌, ◌||◌, Bool, true, false, not, cond, List, []}
use Rattle.std.specs.Prelude.{◌∷◌, length, map, Option, Some, None, slice_get, slice_set}
use Rattle.std.specs.List.{AllByRecursion, list_any}
use Rattle.std.proofs.Common.{refl, sym, ap, ◌∙◌, subst, arith, inl, inr}
use Rattle.std.proofs.lemmas.List.{length-set, get_or-set_same, get_or-set_other, length-map}
use Rattle.std.proofs.lemmas.Option.{same_Some, slice_get_within}
use Rattle.std.proofs.lemmas.Bool.{cases_eq}
use Rattle.blif_read.specs.Parts.{NetView}
use Rattle.blif_read.specs.Netlist.{IsNetlist, IsDef, IsPlane}
use Rattle.blif_read.specs.Equations as equations
use Rattle.blif_read.specs.declared.netlist.Cube.{Cube}
use Rattle.blif_read.specs.declared.netlist.Def.{Def}
use Rattle.blif_read.proofs.OneAnswer.{some_valuation}
use Rattle.circuit.specs.SameAnswers.{SameAnswers}
use Rattle.mig.specs.Graphs.{GraphView, literal_value, Fits, IsGraph, IsAnswer}
use Rattle.mig.specs.Building.{BuilderView, Grown, Gives, limit, AllThere}
use Rattle.mig.proofs.Built.{fits_before, limit_grows, even_value}
use Rattle.mig.proofs.Valued.{some_fits}
use Rattle.mig_from_netlist.specs.Code.Covers.{takes_all, some_takes, cover, HavePlanes}
use Rattle.mig.specs.Carried.{literal_at, AreLiterals}
use Rattle.mig_from_netlist.specs.Code.Mapped.{IsFirst, IsMapped}
use Rattle.mig.specs.Passes.{IsRebuilt}
use Rattle.mig_from_netlist.specs.Passes.{IsGraphOf}

-- covers of signals are covers of their values
plane_of_signals : (plane signals : List ℕ) (v : ℕ → Bool)
    → takes_all plane (map v signals) ≡ equations.matches plane signals v
plane_of_signals [] signals v = refl
plane_of_signals (b ∷ bs) [] v = refl
plane_of_signals (b ∷ bs) (s ∷ signals) v = ap (λ t. equations.takes b (v s) && t) (plane_of_signals bs signals v)

planes_of_signals : (cubes : List Cube) (signals : List ℕ) (v : ℕ → Bool)
    → some_takes cubes (map v signals) ≡ list_any (λ cube. equations.matches cube.plane signals v) cubes
planes_of_signals [] signals v = refl
planes_of_signals (c ∷ cs) signals v =
    ap (λ t. t || some_takes cs (map v signals)) (plane_of_signals c.plane signals v)
    ∙ ap (λ t. equations.matches c.plane signals v || t) (planes_of_signals cs signals v)

by_on : (on : Bool) (a b : Bool) → a ≡ b
    → cond on a (not a) ≡ (elim on as (λ (x : Bool). Bool) [ true ↦ b | false ↦ not b ])
by_on true a b e = e
by_on false a b e = ap not e

pub cover_of_signals : (def : Def) (v : ℕ → Bool) → cover def (map v def.inputs) ≡ equations.cover_value def v
cover_of_signals def v = by_on def.on _ _ (planes_of_signals def.cubes def.inputs v)

-- literals of signals
head_same : {A : Type 0} {x y : A} {xs ys : List A} → x ∷ xs ≡ y ∷ ys → x ≡ y
head_same e = cc

tail_same : {A : Type 0} {x y : A} {xs ys : List A} → x ∷ xs ≡ y ∷ ys → xs ≡ ys
tail_same e = cc

module _ (net : NetView) (b : BuilderView) (m : List (Option ℕ)) (ok : IsMapped net b m) where
  pub literals_there : (signals literals : List ℕ) → AreLiterals m signals literals → AllThere b literals
  literals_there [] [] are = tt
  literals_there [] (l ∷ ls) are = absurd (let z : Some l ∷ map Some ls ≡ [] = are in cc)
  literals_there (s ∷ ss) [] are = tt
  literals_there (s ∷ ss) (l ∷ ls) are = (ok.there s l (sym (head_same are)), literals_there ss ls (tail_same are))

  pub literals_show : (signals literals : List ℕ) → AreLiterals m signals literals
      → (word : List Bool) (v values : ℕ → Bool) → Fits b.inputs b.nodes word v
      → equations.Fits net.inputs net.defs word values → map (literal_value v) literals ≡ map values signals
  literals_show [] [] are word v values fit fits = refl
  literals_show [] (l ∷ ls) are word v values fit fits = absurd (let z : Some l ∷ map Some ls ≡ [] = are in cc)
  literals_show (s ∷ ss) [] are word v values fit fits =
      absurd (let z : [] ≡ literal_at m s ∷ map (literal_at m) ss = are in cc)
  literals_show (s ∷ ss) (l ∷ ls) are word v values fit fits =
      ap (λ t. t ∷ map (literal_value v) ls) (ok.right s l (sym (head_same are)) word v values fit fits)
      ∙ ap (λ ts. values s ∷ ts) (literals_show ss ls (tail_same are) word v values fit fits)

literals_size : (m : List (Option ℕ)) (signals literals : List ℕ) → AreLiterals m signals literals
    → length literals ≡ length signals
literals_size m signals literals are = sym (length-map literals Some) ∙ ap length are
    ∙ length-map signals (literal_at m)

def_at : (P : Def → Type 0) (defs : List Def) (k : ℕ) (d : Def) → AllByRecursion P defs → slice_get defs k ≡ Some d
    → P d
def_at P [] k d all is = absurd (cc)
def_at P (x ∷ xs) zero d all is = subst P (same_Some x d is) all.0
def_at P (x ∷ xs) (suc k) d all is = def_at P xs k d all.1 is

have_planes : (n k : ℕ) (cubes : List Cube) → k ≡ n → AllByRecursion (IsPlane n) cubes → HavePlanes k cubes
have_planes n k [] e h = tt
have_planes n k (c ∷ cs) e h = (h.0.size ∙ sym e, have_planes n k cs e h.1)

-- literals as the code reads them
pub are_seen : (m read : List (Option ℕ)) (signals inputs literals given : List ℕ) → read ≡ m → signals ≡ inputs
    → given ≡ literals → AreLiterals read signals literals → AreLiterals m inputs given
are_seen m read signals inputs literals given r s g are = ap (map Some) g ∙ are
    ∙ ap (λ ms. map (literal_at ms) signals) r ∙ ap (map (literal_at m)) s

-- a definition as the code reads it
pub def_is : (net : NetView) (defs : List Def) (n place signal : ℕ) (d : Def) → defs ≡ net.defs → n ≡ net.inputs
    → place ≡ signal - n → slice_get defs place ≡ Some d
    → slice_get net.defs (signal - net.inputs) ≡ Some d
def_is net defs n place signal d e i p is = ap (λ ds. slice_get ds (signal - net.inputs)) (sym e)
    ∙ ap (λ k. slice_get defs (signal - k)) (sym i) ∙ ap (slice_get defs) (sym p) ∙ is

pub planes_of : (net : NetView) → IsNetlist net → (k : ℕ) (d : Def) → slice_get net.defs k ≡ Some d
    → (m : List (Option ℕ)) (given : List ℕ) → AreLiterals m d.inputs given → HavePlanes (length given) d.cubes
planes_of net ok k d is m given are =
    have_planes (length d.inputs) (length given) d.cubes (literals_size m d.inputs given are)
    (def_at (IsDef (length net.names)) net.defs k d ok.each_def is).planes

pub mapped_later : (net : NetView) (a b : BuilderView) (m : List (Option ℕ)) → Grown a b → IsMapped net a m
    → IsMapped net b m
mapped_later net a b m grown ok = record {
  same_inputs = grown.same_inputs ∙ ok.same_inputs;
  size = ok.size;
  there = λ s l is. (let one = ok.there s l is in let two = limit_grows a b grown in omega arith);
  right = λ s l is word v values fit fits. ok.right s l is word v values (fits_before a b grown word v fit) fits;
}

-- a signal gets its literal
module _ (net : NetView) (a b : BuilderView) (m next : List (Option ℕ)) (signal l : ℕ) (d : Def)
    (high : net.inputs ≤ signal) (is : slice_get net.defs (signal - net.inputs) ≡ Some d)
    (ok : IsMapped net a m) (grown : Grown a b) (e : next ≡ slice_set m signal (Some l)) where
  value_is : (given : List ℕ) → AreLiterals m d.inputs given → Gives b l (λ v. cover d (map (literal_value v) given))
      → (word : List Bool) (v values : ℕ → Bool)
      → Fits b.inputs b.nodes word v → equations.Fits net.inputs net.defs word values
      → literal_value v l ≡ values signal
  value_is given are gives word v values fit fits =
      gives.shows word v fit
      ∙ ap (cover d)
      (literals_show net a m ok d.inputs given are word v values (fits_before a b grown word v fit) fits)
      ∙ cover_of_signals d values
      ∙ sym (fits.covers (signal - net.inputs) d is)
      ∙ ap values (let z : net.inputs + (signal - net.inputs) ≡ signal = omega arith in z)

  pub mapped_next : (given : List ℕ) → AreLiterals m d.inputs given
      → Gives b l (λ v. cover d (map (literal_value v) given)) → IsMapped net b next
  mapped_next given are gives =
      let within : signal < length m =
      (let z = slice_get_within net.defs (signal - net.inputs) d is in let y = ok.size in omega arith) in
      let here : literal_at next signal ≡ Some l = ap (λ ms. literal_at ms signal) e
      ∙ get_or-set_same m signal (Some l) None within in
      let other : (s : ℕ) → (s ≡ signal → ⊥)
      → literal_at next s ≡ literal_at m s = λ s ne. ap (λ ms. literal_at ms s) e
      ∙ get_or-set_other m signal s (Some l) None ne in
      let later = mapped_later net a b m grown ok in
      record {
        same_inputs = later.same_inputs;
        size = ap length e ∙ length-set m signal (Some l) ∙ ok.size;
        there = λ s k at. elim (cases_eq s signal) [
          | inl same ↦ subst (λ j. j < limit b)
              (same_Some l k (sym here ∙ ap (literal_at next) (sym same) ∙ at)) gives.below
          | inr ne ↦ later.there s k (sym (other s ne) ∙ at)
        ];
        right = λ s k at word v values fit fits. elim (cases_eq s signal) [
          | inl same ↦ ap (literal_value v) (sym (same_Some l k (sym here ∙ ap (literal_at next) (sym same) ∙ at)))
              ∙ value_is given are gives word v values fit fits ∙ ap values (sym same)
          | inr ne ↦ later.right s k (sym (other s ne) ∙ at) word v values fit fits
        ];
      }

-- the inputs have their literals
pub first_mapped : (net : NetView) (b : BuilderView) (m : List (Option ℕ)) (n defs : ℕ) → n ≡ net.inputs
    → defs ≡ length net.defs → b ≡ record { inputs = n; nodes = [] } → IsFirst n (n + defs) m → IsMapped net b m
first_mapped net b m n defs e d is first =
    let same : b.inputs ≡ net.inputs = ap (λ (t : BuilderView). t.inputs) is ∙ e in
    record {
      same_inputs = same;
      size = first.sized ∙ ap (λ k. k + defs) e ∙ ap (λ k. net.inputs + k) d;
      there = λ s l at. (let one = (first.each s l at).0 in let two = (first.each s l at).1 in omega arith);
      right = λ s l at word v values fit fits.
          let low : s < net.inputs = (let one = (first.each s l at).0 in omega arith) in
          ap (literal_value v) (first.each s l at).1 ∙ even_value v (1 + s)
          ∙ fit.of_input s (subst (λ k. s < k) (sym same) low) ∙ sym (fits.bits s low);
    }

-- the answers are the same
pub is_graph_of : (net : NetView) (b : BuilderView) (m : List (Option ℕ)) (signals literals : List ℕ)
    (graph : GraphView) → IsNetlist net → IsMapped net b m → signals ≡ net.outputs → AreLiterals m signals literals
    → graph ≡ record { inputs = b.inputs; nodes = b.nodes; outputs = literals } → IsGraph graph → IsGraphOf net graph
is_graph_of net b m signals literals graph ok mapped s are is keeps = record {
  net_keeps = ok;
  graph_keeps = keeps;
  same = subst
      (λ (g : GraphView). SameAnswers net.inputs g.inputs (length net.outputs) (length g.outputs)
      (equations.IsAnswer net) (IsAnswer g)) (sym is) (record {
        same_inputs = mapped.same_inputs;
        same_outputs = literals_size m signals literals are ∙ ap length s;
        there = λ x y long answer.
            let nodes_keep = (subst IsGraph is keeps).are_nodes in
            let found = some_fits b.inputs b.nodes nodes_keep x in record {
              values = found.0;
              fit = found.1;
              shown = answer.shown ∙ ap (map answer.values) (sym s)
                  ∙ sym (literals_show net b m mapped signals literals are x found.0 answer.values found.1 answer.fit);
            };
        back = λ x y long answer.
            let found = some_valuation net x ok in record {
              values = found.0;
              fit = found.1;
              shown = answer.shown
                  ∙ literals_show net b m mapped signals literals are x answer.values found.0 answer.fit found.1
                  ∙ ap (map found.0) s;
            };
      });
}

-- a graph that is made of a graph of the netlist is one too
pub graph_then : (net : NetView) (from to : GraphView) → IsGraphOf net from → IsRebuilt from to → IsGraphOf net to
graph_then net from to first next = record {
  net_keeps = first.net_keeps;
  graph_keeps = next.keeps;
  same = record {
    same_inputs = next.same.same_inputs ∙ first.same.same_inputs;
    same_outputs = next.same.same_outputs ∙ first.same.same_outputs;
    there = λ x y long answer.
        next.same.there x y (long ∙ sym first.same.same_inputs) (first.same.there x y long answer);
    back = λ x y long answer. first.same.back x y long (next.same.back x y (long ∙ sym first.same.same_inputs) answer);
  };
}
