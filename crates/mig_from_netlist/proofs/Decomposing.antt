-- Tables by their parts.
use Rattle.std.specs.Prelude.{◌≡◌, ℕ, zero, suc, ◌+◌, ◌<◌, ◌≤◌, ◌^◌, ◌&&◌, Bool, true, false, not, cond, List, [], ◌∷◌}
use Rattle.std.specs.Prelude.{◌++◌, length, map, Some, slice_get, bit_and, bit_xor, ◌⊎◌, Result, Ok, Err, OnOk}
use Rattle.std.specs.Option.{option_map}
use Rattle.std.specs.Int.{bit_not}
use Rattle.std.proofs.Common.{refl, sym, ap, ◌∙◌, subst, arith, w64, inl, inr}
use Rattle.std.proofs.lemmas.List.{length-map}
use Rattle.std.proofs.lemmas.Option.{slice_get-map, get_or_from_slice_get, same_Some}
use Rattle.circuit.specs.Function.{majority}
use Rattle.mig.specs.Graphs.{literal_value, node_value, Fits, turned}
use Rattle.mig.specs.Building.{BuilderView, Grown, Gives, AllThere}
use Rattle.mig.proofs.Built.{gives_later, limit_grows}
use Rattle.mig.proofs.Folded.{turned_value, turned_below}
use Rattle.truth_tables.specs.Tables.{holds, index, mask}
use Rattle.mig_from_netlist.specs.Code.Parts.{AreParts, Implies}
use Rattle.mig_from_netlist.specs.declared.parts.Parts.{Parts}
use Rattle.mig_from_netlist.specs.declared.decompose.Known.{Known}
use Rattle.mig_from_netlist.specs.Code.Known.{value_at, AreKnown}
use Rattle.truth_tables.proofs.Bits.{holds_and, holds_xor, holds_not, holds_none, holds_all, holds_index, holds_mask, index_below}
use Rattle.mig_from_netlist.proofs.GateValues.{zero_value, one_value}

module _ (inputs : List ℕ) (few : length inputs ≤ 6) (v : ℕ → Bool) where
  place : ℕ
  place = index (map (literal_value v) inputs)

  low_place : place < 64
  unfolding place
  low_place =
      index_below (map (literal_value v) inputs) (subst (λ n. n ≤ 6) (sym (length-map inputs (literal_value v))) few)

  -- what two tables have to do with one another at each place they have at this one
  at_place : (t : ℕ) → value_at t inputs v ≡ holds t place
  unfolding place
  at_place t = refl

  holds_x : (k x : ℕ) → slice_get inputs k ≡ Some x → holds place k ≡ literal_value v x
  unfolding place
  holds_x k x is =
      holds_index (map (literal_value v) inputs) k
      ∙ get_or_from_slice_get (map (literal_value v) inputs) k (literal_value v x) false
      (slice_get-map (literal_value v) inputs k ∙ ap (option_map (literal_value v)) is)

  -- a table is its high part or its low part
  pub value_apart : (table x : ℕ) (parts : Parts) → AreParts table parts → slice_get inputs parts.place ≡ Some x
      → value_at table inputs v ≡ cond (literal_value v x) (value_at parts.high inputs v) (value_at parts.low inputs v)
  value_apart table x parts are is = go (literal_value v x) (holds_x parts.place x is)
    where
      go : (b : Bool) → holds place parts.place ≡ b
          → value_at table inputs v ≡ cond b (value_at parts.high inputs v) (value_at parts.low inputs v)
      go true e = at_place table ∙ are.high place low_place e ∙ sym (at_place parts.high)
      go false e = at_place table ∙ are.low place low_place e ∙ sym (at_place parts.low)

  implied : (a b : ℕ) → Implies a b → (value_at a inputs v && not (value_at b inputs v)) ≡ false
  unfolding place
  implied a b is = is place low_place

  pub opposite : (a b : ℕ) → bit_xor a b ≡ 18446744073709551615
      → cond (value_at a inputs v) (not (value_at b inputs v)) (value_at b inputs v) ≡ true
  unfolding place
  opposite a b is = sym (holds_xor a b place) ∙ ap (λ n. holds n place) is ∙ holds_all place low_place

  pub none_value : value_at 0 inputs v ≡ false
  unfolding place
  none_value = holds_none place

  pub all_value : value_at 18446744073709551615 inputs v ≡ true
  unfolding place
  all_value = holds_all place low_place

  pub other_value : (t : ℕ) → t < 2 ^ 64 → value_at (bit_not w64 t) inputs v ≡ not (value_at t inputs v)
  unfolding place
  other_value t fits = holds_not t place fits low_place

  -- a mask has the value of its input
  pub mask_value : (place_of x : ℕ) → place_of < 6 → slice_get inputs place_of ≡ Some x
      → value_at (mask place_of) inputs v ≡ literal_value v x
  mask_value place_of x low is =
      at_place (mask place_of) ∙ holds_mask place_of place low low_place ∙ holds_x place_of x is

  pub majority_value : (made x y z : ℕ) → ((i : ℕ) → holds made i ≡ majority (holds x i) (holds y i) (holds z i))
      → value_at made inputs v ≡ majority (value_at x inputs v) (value_at y inputs v) (value_at z inputs v)
  unfolding place
  majority_value made x y z is = is place

rising : (x h l : Bool) → (l && not h) ≡ false → majority x h l ≡ cond x h l
rising true true l e = refl
rising true false true e = absurd (let k : true ≡ false = e in cc)
rising true false false e = refl
rising false true true e = refl
rising false true false e = refl
rising false false true e = absurd (let k : true ≡ false = e in cc)
rising false false false e = refl

falling : (x h l : Bool) → (h && not l) ≡ false → majority (not x) h l ≡ cond x h l
falling true true true e = refl
falling true true false e = absurd (let k : true ≡ false = e in cc)
falling true false true e = refl
falling true false false e = refl
falling false true true e = refl
falling false true false e = absurd (let k : true ≡ false = e in cc)
falling false false true e = refl
falling false false false e = refl

turning : (x h l : Bool) → cond l (not h) h ≡ true → cond x (not l) l ≡ cond x h l
turning true true true e = absurd (let k : false ≡ true = e in cc)
turning true true false e = refl
turning true false true e = refl
turning true false false e = absurd (let k : false ≡ true = e in cc)
turning false h l e = refl

-- the literals are of a builder before
module _ (inputs : List ℕ) (few : length inputs ≤ 6) (table x : ℕ) (parts : Parts) (are : AreParts table parts)
    (at : slice_get inputs parts.place ≡ Some x) (old new : BuilderView) (grown : Grown old new) where
  pub complements_value : (low : ℕ) → Gives old low (value_at parts.low inputs)
      → bit_xor parts.low parts.high ≡ 18446744073709551615
      → (word : List Bool) (v : ℕ → Bool) → Fits new.inputs new.nodes word v
      → cond (literal_value v x) (not (literal_value v low)) (literal_value v low) ≡ value_at table inputs v
  complements_value low given other word v fit =
      ap (λ b. cond (literal_value v x) (not b) b)
      ((gives_later old new low (value_at parts.low inputs) grown given).shows word v fit)
      ∙ turning (literal_value v x) (value_at parts.high inputs v) (value_at parts.low inputs v)
      (opposite inputs few v parts.low parts.high other)
      ∙ sym (value_apart inputs few v table x parts are at)

  module _ (high low : ℕ) (one : Gives old high (value_at parts.high inputs))
      (two : Gives old low (value_at parts.low inputs)) where
    both : (f : Bool → Bool → Bool) (word : List Bool) (v : ℕ → Bool) → Fits new.inputs new.nodes word v
        → f (literal_value v high) (literal_value v low) ≡ f (value_at parts.high inputs v)
        (value_at parts.low inputs v)
    both f word v fit =
        ap (λ b. f b (literal_value v low))
        ((gives_later old new high (value_at parts.high inputs) grown one).shows word v fit)
        ∙ ap (f (value_at parts.high inputs v))
        ((gives_later old new low (value_at parts.low inputs) grown two).shows word v fit)

    pub rising_value : Implies parts.low parts.high
        → (word : List Bool) (v : ℕ → Bool) → Fits new.inputs new.nodes word v
        → node_value v (record { x = x; y = high; z = low }) ≡ value_at table inputs v
    unfolding node_value
    rising_value is word v fit =
        both (λ a b. majority (literal_value v x) a b) word v fit
        ∙ rising (literal_value v x) (value_at parts.high inputs v) (value_at parts.low inputs v)
        (implied inputs few v parts.low parts.high is)
        ∙ sym (value_apart inputs few v table x parts are at)

    pub falling_value : (t : ℕ) → t ≡ turned x → Implies parts.high parts.low
        → (word : List Bool) (v : ℕ → Bool) → Fits new.inputs new.nodes word v
        → node_value v (record { x = t; y = high; z = low }) ≡ value_at table inputs v
    unfolding node_value
    falling_value t e is word v fit =
        both (λ a b. majority (literal_value v t) a b) word v fit
        ∙ ap (λ a. majority a (value_at parts.high inputs v) (value_at parts.low inputs v))
        (ap (literal_value v) e ∙ turned_value v x)
        ∙ falling (literal_value v x) (value_at parts.high inputs v) (value_at parts.low inputs v)
        (implied inputs few v parts.high parts.low is)
        ∙ sym (value_apart inputs few v table x parts are at)

    pub choice_is_value : (word : List Bool) (v : ℕ → Bool) → Fits new.inputs new.nodes word v
        → cond (literal_value v x) (literal_value v high) (literal_value v low) ≡ value_at table inputs v
    choice_is_value word v fit = both (λ a b. cond (literal_value v x) a b) word v fit
        ∙ sym (value_apart inputs few v table x parts are at)

-- literals that are made without a node
pub gives_none : (b : BuilderView) (inputs : List ℕ) → length inputs ≤ 6 → Gives b 0 (value_at 0 inputs)
gives_none b inputs few =
    record { below = omega arith; shows = λ word v fit. zero_value v fit.none ∙ sym (none_value inputs few v) }

pub gives_all : (b : BuilderView) (inputs : List ℕ) → length inputs ≤ 6
    → Gives b 1 (value_at 18446744073709551615 inputs)
gives_all b inputs few =
    record { below = omega arith; shows = λ word v fit. one_value v fit.none ∙ sym (all_value inputs few v) }

pub gives_other : (b : BuilderView) (inputs : List ℕ) (t l : ℕ) → length inputs ≤ 6 → t < 2 ^ 64
    → Gives b l (value_at (bit_not w64 t) inputs) → Gives b (turned l) (value_at t inputs)
gives_other b inputs t l few fits given = record {
  below = turned_below (1 + b.inputs + length b.nodes) l given.below;
  shows = λ word v fit. turned_value v l ∙ ap not (given.shows word v fit ∙ other_value inputs few v t fits)
      ∙ not_not (value_at t inputs v);
}
  where
    not_not : (a : Bool) → not (not a) ≡ a
    not_not true = refl
    not_not false = refl

-- what is known stays known
pub known_later : (a b : BuilderView) (inputs : List ℕ) (memo : List Known) → Grown a b → AreKnown a inputs memo
    → AreKnown b inputs memo
known_later a b inputs memo grown known =
    record { each = λ k one is. gives_later a b one.literal (value_at one.table inputs) grown (known.each k one is) }

pub there_later : (a b : BuilderView) (inputs : List ℕ) → Grown a b → AllThere a inputs → AllThere b inputs
there_later a b [] grown there = tt
there_later a b (x ∷ xs) grown there =
    (let one = there.0 in let two = limit_grows a b grown in omega arith, there_later a b xs grown there.1)

at_end : (memo : List Known) (one other : Known) (k : ℕ) → slice_get (memo ++ one ∷ []) k ≡ Some other
    → (slice_get memo k ≡ Some other) ⊎ (one ≡ other)
at_end [] one other zero is = inr (same_Some one other is)
at_end [] one other (suc k) is = absurd (cc)
at_end (m ∷ ms) one other zero is = inl is
at_end (m ∷ ms) one other (suc k) is = at_end ms one other k is

pub known_more : (b : BuilderView) (inputs : List ℕ) (memo more : List Known) (one : Known) → more ≡ memo ++ one ∷ []
    → Gives b one.literal (value_at one.table inputs)
    → AreKnown b inputs memo → AreKnown b inputs more
known_more b inputs memo more one e given known = record {
  each = λ k other is. elim (at_end memo one other k (ap (λ ms. slice_get ms k) (sym e) ∙ is)) [
    | inl old ↦ known.each k other old
    | inr new ↦ subst (λ (t : Known). Gives b t.literal (value_at t.table inputs)) new given
  ];
}

pub implies_where : (a b : ℕ) → b < 2 ^ 64 → bit_and a (bit_not w64 b) ≡ 0 → Implies a b
implies_where a b fits is i lt =
    ap (λ t. holds a i && t) (sym (holds_not b i fits lt)) ∙ sym (holds_and a (bit_not w64 b) i)
    ∙ ap (λ n. holds n i) is ∙ holds_none i

pub gives_turned : (b : BuilderView) (inputs : List ℕ) (t l given : ℕ) → length inputs ≤ 6 → t < 2 ^ 64
    → given ≡ turned l
    → Gives b l (value_at (bit_not w64 t) inputs) → Gives b given (value_at t inputs)
gives_turned b inputs t l given few fits e gives =
    subst (λ k. Gives b k (value_at t inputs)) (sym e) (gives_other b inputs t l few fits gives)

pub known_kept : {A E : Type 0} (r : Result A E) (before after : BuilderView) (memo more : List Known)
    (inputs : List ℕ) (table literal : ℕ)
    → OnOk r (more ≡ memo ++ record { table = table; literal = literal } ∷ []) → Grown before after
    → AreKnown before inputs memo
    → Gives after literal (value_at table inputs) → OnOk r (AreKnown after inputs more)
known_kept (Err e) before after memo more inputs table literal is grown known given = tt
known_kept (Ok o) before after memo more inputs table literal is grown known given =
    known_more after inputs memo more (record { table = table; literal = literal }) is given
    (known_later before after inputs memo grown known)
