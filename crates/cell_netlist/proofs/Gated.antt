-- Gates and counts of lists that grow by one.
use Rattle.std.proofs.Common.{◌≡◌, ℕ, zero, suc, ◌+◌, ◌<◌, ◌≤◌, ◌^◌, Bool, List, [], ◌∷◌, ◌++◌, length, take, get_or}
use Rattle.std.proofs.Common.{Option, ap, sym, ◌∙◌, subst, arith, inl, inr}
use Rattle.std.specs.Prelude.{slice_index, eqb, nat_eq, ◌&&◌}
use Rattle.std.specs.List.{count_by, sum_by}
use Rattle.std.proofs.lemmas.Bool.Decides.{eqb_tells}
use Rattle.std.proofs.lemmas.List.Sums.{count_by_more_no, count_by_more_yes, count_by-le-length, sum_by-cons}
use Rattle.circuit.specs.declared.gate.Gate.{Gate}
use Rattle.std.proofs.lemmas.List.{get_or_default, length-take}
use Rattle.blif_read.specs.declared.netlist.Def.{Def}
use Rattle.std.proofs.Common.{length-append}
use Rattle.blif_read.specs.Netlist.{def_size, IsNetlist}
use Rattle.blif_read.specs.Parts.{NetView}
use Rattle.cell_netlist.specs.Kinds.{IsGateOf, AreGatesOf}
use Rattle.cell_netlist.specs.Uses.{CellView, named, uses, gate_of, is_name, is_buffer_of_buffer}
use Rattle.cell_netlist.specs.Tables.{AreCounts, IsBumped}

zip_pushed : (defs : List Def) (gates : List (Option Gate)) (i : ℕ) (def : Def) (gate : Option Gate)
    → AreGatesOf (take i defs) gates → def ≡ get_or defs i def → i < length defs → IsGateOf def gate
    → AreGatesOf (take (suc i) defs) (gates ++ gate ∷ [])
zip_pushed [] gates i def gate known is lt here = absurd (omega (arith, lt))
zip_pushed (x ∷ defs) [] zero def gate known is lt here = (subst (λ (d : Def). IsGateOf d gate) is here, tt)
zip_pushed (x ∷ defs) (g ∷ gates) zero def gate known is lt here = absurd known
zip_pushed (x ∷ defs) [] (suc i) def gate known is lt here = absurd known
zip_pushed (x ∷ defs) (g ∷ gates) (suc i) def gate known is lt here =
    (known.0, zip_pushed defs gates i def gate known.1 is (omega (arith, lt)) here)

pub gates_pushed : (defs : List Def) (gates : List (Option Gate)) (i : ℕ) (def : Def) (gate : Option Gate)
    → AreGatesOf (take i defs) gates → def ≡ get_or defs i def → i < length defs → IsGateOf def gate
    → AreGatesOf (take (i + 1) defs) (gates ++ gate ∷ [])
gates_pushed defs gates i def gate known is lt here =
    let e : i + 1 ≡ suc i = omega arith in
    subst (λ (n : ℕ). AreGatesOf (take n defs) (gates ++ gate ∷ [])) (sym e)
    (zip_pushed defs gates i def gate known is lt here)

-- a count that is one more at a number
pub counted : (counts new : List ℕ) (bound i x : ℕ) (numbers : List ℕ) → AreCounts counts bound (take i numbers)
    → IsBumped counts new x → x ≡ get_or numbers i 0 → i < length numbers → AreCounts new bound (take (i + 1) numbers)
counted counts new bound i x numbers known bumped is lt = record {
  long = bumped.long ∙ known.long;
  each = λ s low. elim (eqb_tells s (get_or numbers i 0)) [
    | inl p ↦
        let more = count_by_more_yes (λ (n : ℕ). nat_eq s n) numbers i 0 lt p.0 in
        let old = known.each s low in
        let at_x : s ≡ x = p.1 ∙ sym is in
        let within : x < length counts = omega (arith, at_x, low, known.long) in
        let here = bumped.at within in
        let new_s : slice_index new s ≡ slice_index new x = ap (slice_index new) at_x in
        let old_s : slice_index counts s ≡ slice_index counts x = ap (slice_index counts) at_x in
        omega (arith, more, old, here, new_s, old_s)
    | inr p ↦
        let more = count_by_more_no (λ (n : ℕ). nat_eq s n) numbers i 0 lt p.0 in
        let old = known.each s low in
        let same = bumped.other s (λ e. p.1 (e ∙ is)) in
        omega (arith, more, old, same)
  ];
}

pub count_small : (counts numbers : List ℕ) (bound i s : ℕ) → AreCounts counts bound (take i numbers) → s < bound
    → slice_index counts s ≤ length (take i numbers)
count_small counts numbers bound i s known lt =
    let is = known.each s lt in
    let few = count_by-le-length (λ (n : ℕ). nat_eq s n) (take i numbers) in
    omega (arith, is, few)

pub bump_fits : (counts numbers : List ℕ) (bound i s : ℕ) → AreCounts counts bound (take i numbers) → s < bound
    → i < length numbers → length numbers < 2 ^ 32 → slice_index counts s + 1 < 2 ^ 32
bump_fits counts numbers bound i s known lt more few =
    let most = count_small counts numbers bound i s known lt in
    let short = length-take i numbers in
    omega (arith, most, short)

-- definitions name at most as many signals as they hold
named_few : (defs : List Def) → length (named defs) ≤ sum_by def_size defs
named_few [] = omega arith
named_few (def ∷ defs) =
    let rest = named_few defs in
    let first : length (named (def ∷ defs)) ≡ length def.inputs + length (named defs) =
    length-append def.inputs (named defs) in
    let size : sum_by def_size (def ∷ defs) ≡ def_size def + sum_by def_size defs =
    sum_by-cons def_size def defs in
    omega (arith, rest, first, size)

pub signals_few : (net : NetView) (xs : List ℕ) (defs : List Def) → IsNetlist net → xs ≡ named defs → defs ≡ net.defs
    → length xs < 2 ^ 32
signals_few net xs defs known is same =
    let few = named_few net.defs in
    let long : length xs ≡ length (named net.defs) = ap length (is ∙ ap named same) in
    let small = known.small in
    omega (arith, few, long, small)

-- what is read of a list of counts
pub read_is : (xs : List ℕ) (bound i n d : ℕ) (numbers : List ℕ) → AreCounts xs bound numbers → i < bound
    → n ≡ get_or xs i d → n ≡ count_by (nat_eq i) numbers
read_is xs bound i n d numbers known lt is =
    is ∙ get_or_default xs i d 0 (omega (arith, lt, known.long)) ∙ known.each i lt

pub name_is : (d : CellView) (s : ℕ) (gate : Option Gate) (b : Bool) (n m : ℕ) → b ≡ is_buffer_of_buffer d gate
    → gate ≡ gate_of d s → n ≡ count_by (nat_eq s) d.net.outputs → m ≡ uses d s
    → (b && eqb n 1 && eqb m 0) ≡ is_name d s
name_is d s gate b n m p q r t =
    ap (λ (x : Bool). x && eqb n 1 && eqb m 0) (p ∙ ap (is_buffer_of_buffer d) q)
    ∙ ap (λ (k : ℕ). is_buffer_of_buffer d (gate_of d s) && eqb k 1 && eqb m 0) r
    ∙ ap (λ (k : ℕ). is_buffer_of_buffer d (gate_of d s) && eqb (count_by (nat_eq s) d.net.outputs) 1 && eqb k 0) t
