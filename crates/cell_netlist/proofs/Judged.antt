-- Definitions judged one after another.
use Rattle.std.proofs.Common.{◌≡◌, ℕ, zero, suc, ◌+◌, ◌<◌, Bool, true, false, not, List, [], ◌∷◌, ◌++◌, length}
use Rattle.std.proofs.Common.{take, get_or, Option, Some, refl, ap, sym, ◌∙◌, subst, arith, inl, inr, append_assoc}
use Rattle.std.specs.Prelude.{◌&&◌, ◌||◌, slice_index_or, slice_get, slice_set, nat_lt, nat_eq}
use Rattle.std.specs.List.{list_any}
use Rattle.std.proofs.lemmas.Bool.{cases_eq, ltb-true, ltb-false}
use Rattle.std.proofs.lemmas.Bool.Decides.{eqb_tells}
use Rattle.std.proofs.lemmas.Option.{same_Some, none-some, slice_get_within}
use Rattle.std.proofs.lemmas.List.{get_or_past, get_or-set_same, get_or-set_other, length-set}
use Rattle.std.proofs.lemmas.Slice.Zip.{AllZip-long}
use Rattle.union_find.specs.Forests.{Forest, HasHeights}
use Rattle.circuit.specs.declared.gate.Gate.{Gate}
use Rattle.blif_read.specs.Parts.{NetView}
use Rattle.blif_read.specs.declared.netlist.Def.{Def}
use Rattle.cell_netlist.specs.Kinds.{IsGateOf}
use Rattle.cell_netlist.specs.Uses.{CellView, named, uses, is_input, is_name, may_have, shares_input, is_used_well}
use Rattle.cell_netlist.specs.Faults.{IsSoundAt, IsSoundTo, HasFault, IsFaultOfDef}
use Rattle.cell_netlist.specs.declared.fault.CellFault.{CellFault}
use Rattle.cell_netlist.specs.Tables.{IsTableOf}
use Rattle.cell_netlist.specs.Code.Tables.{IsTaken, shares, take_all}
use Rattle.cell_netlist.specs.Code.Progress.{IsSoundGate, IsJudged, IsLevelled, level_of}

-- taken inputs

taken_is : (d : CellView) (taken : List Bool) (others : List ℕ) (s : ℕ) → IsTaken taken d.net.inputs others
    → slice_index_or taken s false ≡ (is_input d s && list_any (nat_eq s) others)
taken_is d taken others s known = by (nat_lt s d.net.inputs) refl
  where
    by : (b : Bool) → nat_lt s d.net.inputs ≡ b
        → slice_index_or taken s false ≡ (is_input d s && list_any (nat_eq s) others)
    by true e = known.each s (ltb-true s d.net.inputs e) ∙ ap (λ (b : Bool). b && list_any (nat_eq s) others) (sym e)
    by false e =
        let le = ltb-false s d.net.inputs e in
        get_or_past taken s false (omega (arith, le, known.long))
        ∙ ap (λ (b : Bool). b && list_any (nat_eq s) others) (sym e)

pub shares_is : (d : CellView) (taken : List Bool) (signals others : List ℕ) → IsTaken taken d.net.inputs others
    → shares taken signals ≡ shares_input d signals others
shares_is d taken [] others known = refl
shares_is d taken (s ∷ signals) others known =
    ap (λ (b : Bool). b || shares taken signals) (taken_is d taken others s known)
    ∙ ap (λ (b : Bool). (is_input d s && list_any (nat_eq s) others) || b) (shares_is d taken signals others known)

-- uses that are right or wrong

pub fine_then : (d : CellView) (j : ℕ) (def : Def) (gate : Gate) (u s : Bool)
    → u ≡ (is_name d (d.net.inputs + j) || may_have d gate (uses d (d.net.inputs + j)))
    → s ≡ shares_input d def.inputs (named (take j d.net.defs)) → u ≡ true → not s ≡ is_used_well d j def gate
fine_then d j def gate u s p q t =
    ap (λ (b : Bool). true && not b) q
    ∙ ap (λ (b : Bool). b && not (shares_input d def.inputs (named (take j d.net.defs)))) (sym t ∙ p)

pub fine_else : (d : CellView) (j : ℕ) (def : Def) (gate : Gate) (u : Bool)
    → u ≡ (is_name d (d.net.inputs + j) || may_have d gate (uses d (d.net.inputs + j))) → u ≡ false
    → u ≡ is_used_well d j def gate
fine_else d j def gate u p t =
    t ∙ ap (λ (b : Bool). b && not (shares_input d def.inputs (named (take j d.net.defs)))) (sym t ∙ p)

pub gate_below : (net : NetView) (gates : List (Option Gate)) (used shown : List ℕ) (j : ℕ) (def : Def)
    → IsTableOf net gates used shown → slice_get net.defs j ≡ Some def → j < length gates
gate_below net gates used shown j def known there =
    let lt = slice_get_within net.defs j def there in
    let long = AllZip-long IsGateOf net.defs gates known.gates_are in
    omega (arith, lt, long)

-- one more definition

any_last : (t s : ℕ) (xs : List ℕ) → list_any (nat_eq t) (xs ++ s ∷ []) ≡ (list_any (nat_eq t) xs || nat_eq t s)
any_last t s [] = or_false (nat_eq t s)
  where
    or_false : (b : Bool) → (b || false) ≡ b
    or_false true = refl
    or_false false = refl
any_last t s (x ∷ xs) =
    ap (λ (b : Bool). nat_eq t x || b) (any_last t s xs) ∙ or_assoc (nat_eq t x) (list_any (nat_eq t) xs) (nat_eq t s)
  where
    or_assoc : (a b c : Bool) → (a || (b || c)) ≡ ((a || b) || c)
    or_assoc true b c = refl
    or_assoc false b c = refl

or_true : (b c : Bool) → c ≡ true → (b || c) ≡ true
or_true true c e = refl
or_true false c e = e

or_none : (b c : Bool) → c ≡ false → (b || c) ≡ b
or_none true c e = refl
or_none false c e = e

take_last : (taken : List Bool) (inputs s : ℕ) (xs : List ℕ) → IsTaken taken inputs xs
    → IsTaken (slice_set taken s true) inputs (xs ++ s ∷ [])
take_last taken inputs s xs known = record {
  long = length-set taken s true ∙ known.long;
  each = λ t lt. elim (eqb_tells t s) [
    | inl p ↦
        let within : s < length taken = let e = p.1 in omega (arith, lt, e, known.long) in
        ap (λ (n : ℕ). slice_index_or (slice_set taken s true) n false) p.1
        ∙ get_or-set_same taken s true false within
        ∙ sym (any_last t s xs ∙ or_true (list_any (nat_eq t) xs) (nat_eq t s) p.0)
    | inr p ↦
        get_or-set_other taken s t true false p.1 ∙ known.each t lt
        ∙ sym (any_last t s xs ∙ or_none (list_any (nat_eq t) xs) (nat_eq t s) p.0)
  ];
}

pub take_more : (taken : List Bool) (inputs : ℕ) (xs signals : List ℕ) → IsTaken taken inputs xs
    → IsTaken (take_all taken signals) inputs (xs ++ signals)
take_more taken inputs xs [] known = subst (λ (ys : List ℕ). IsTaken taken inputs ys) (sym (append_none xs)) known
  where
    append_none : (xs : List ℕ) → xs ++ [] ≡ xs
    append_none [] = refl
    append_none (x ∷ xs) = ap (λ (ys : List ℕ). x ∷ ys) (append_none xs)
take_more taken inputs xs (s ∷ signals) known =
    subst (λ (ys : List ℕ). IsTaken (take_all (slice_set taken s true) signals) inputs ys)
    (append_assoc xs (s ∷ []) signals)
    (take_more (slice_set taken s true) inputs (xs ++ s ∷ []) signals (take_last taken inputs s xs known))

pub named_more : (defs : List Def) (j : ℕ) (def : Def) → slice_get defs j ≡ Some def
    → named (take (suc j) defs) ≡ named (take j defs) ++ def.inputs
named_more [] j def there = absurd (none-some def there)
named_more (x ∷ defs) zero def there =
    ap (λ (d : Def). d.inputs ++ []) (same_Some x def there) ∙ append_none def.inputs
  where
    append_none : (xs : List ℕ) → xs ++ [] ≡ xs
    append_none [] = refl
    append_none (x ∷ xs) = ap (λ (ys : List ℕ). x ∷ ys) (append_none xs)
named_more (x ∷ defs) (suc j) def there =
    ap (λ (ys : List ℕ). x.inputs ++ ys) (named_more defs j def there)
    ∙ sym (append_assoc x.inputs (named (take j defs)) def.inputs)

same_def : (defs : List Def) (i j : ℕ) (a b : Def) → i ≡ j → slice_get defs i ≡ Some a → slice_get defs j ≡ Some b
    → a ≡ b
same_def defs i j a b e p q = same_Some a b (sym p ∙ ap (slice_get defs) e ∙ q)

sound_at : (d : CellView) (j : ℕ) (def : Def) (gate : Gate) → IsSoundGate d j def gate → IsSoundAt d j def
sound_at d j def gate known = record {
  gate = gate;
  there = known.there;
  used_well = known.used_well;
  fed_well = known.fed_well;
}

pub judged_more : (d : CellView) (j : ℕ) (def : Def) (gate : Gate) (f g : Forest) (taken new : List Bool)
    → slice_get d.net.defs j ≡ Some def → IsJudged d j f taken → IsSoundGate d j def gate → IsLevelled d (suc j) g
    → new ≡ take_all taken def.inputs → IsJudged d (j + 1) g new
judged_more d j def gate f g taken new there known sound levelled is =
    let e : suc j ≡ j + 1 = omega arith in
    record {
      each = λ i other lt at. elim (cases_eq i j) [
        | inl same ↦
            let d_is : def ≡ other = sym (same_def d.net.defs i j other def same at there) in
            subst (λ (k : ℕ). IsSoundAt d k other) (sym same)
            (subst (λ (x : Def). IsSoundAt d j x) d_is (sound_at d j def gate sound))
        | inr ne ↦ known.each i other (omega (arith, ne)) at
      ];
      levelled = subst (λ (n : ℕ). IsLevelled d n g) e levelled;
      taken_are =
          subst (λ (xs : List Bool). IsTaken xs d.net.inputs (named (take (j + 1) d.net.defs))) (sym is)
          (subst (λ (ys : List ℕ). IsTaken (take_all taken def.inputs) d.net.inputs ys)
          (sym (named_more d.net.defs j def there) ∙ ap (λ (n : ℕ). named (take n d.net.defs)) e)
          (take_more taken d.net.inputs (named (take j d.net.defs)) def.inputs known.taken_are));
    }

-- the first definition with a fault

item_there : (defs : List Def) (j : ℕ) (def : Def) → j < length defs → def ≡ get_or defs j def
    → slice_get defs j ≡ Some def
item_there [] j def lt is = absurd (omega (arith, lt))
item_there (x ∷ defs) zero def lt is = ap Some (sym is)
item_there (x ∷ defs) (suc j) def lt is = item_there defs j def (omega (arith, lt)) is

pub there_of : (net : NetView) (defs : List Def) (j : ℕ) (def : Def) → defs ≡ net.defs → j < length defs
    → def ≡ get_or defs j def → slice_get net.defs j ≡ Some def
there_of net defs j def e lt is = ap (λ (xs : List Def). slice_get xs j) (sym e) ∙ item_there defs j def lt is

pub sound_to : (d : CellView) (n : ℕ) (f : Forest) (taken : List Bool) → IsJudged d n f taken → HasHeights f
    → IsSoundTo d n
sound_to d n f taken known some = record {
  each = known.each;
  level = level_of d.net.inputs some.heights;
  fit = known.levelled.fits some.heights some.obey;
}

pub fault_of_def : (d : CellView) (j : ℕ) (def : Def) (kind : CellFault) (f : Forest) (taken : List Bool)
    → slice_get d.net.defs j ≡ Some def → IsJudged d j f taken → HasHeights f → HasFault d j def kind
    → IsFaultOfDef d def.line kind
fault_of_def d j def kind f taken there known some fault = record {
  j = j;
  def = def;
  there = there;
  before = sound_to d j f taken known some;
  fault = fault;
  line_is = refl;
}
