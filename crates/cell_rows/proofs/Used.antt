-- Uses of signals, counted one definition after another.
use Rattle.std.proofs.Common.{◌≡◌, ℕ, zero, suc, ◌+◌, ◌<◌, ◌≤◌, ◌^◌, List, [], ◌∷◌, ◌++◌, length, take, get_or, Some}
use Rattle.std.proofs.Common.{drop, replicate}
use Rattle.std.proofs.Common.{refl, ap, sym, ◌∙◌, subst, arith, append_assoc, length-append}
use Rattle.std.specs.Prelude.{slice_get, slice_index, nat_eq}
use Rattle.std.proofs.lemmas.List.{append-nil, take_more, take_all, length-take, length-replicate}
use Rattle.std.proofs.lemmas.List.Sums.{count_by-le-length}
use Rattle.std.proofs.Math.Seq.{take-append_seam}
use Rattle.blif_read.specs.Parts.{NetView}
use Rattle.blif_read.specs.Netlist.{IsNetlist}
use Rattle.blif_read.specs.declared.netlist.Def.{Def}
use Rattle.cell_netlist.specs.Tables.{AreCounts, IsBumped}
use Rattle.cell_netlist.specs.Uses.{named}
use Rattle.cell_netlist.proofs.Gated.{signals_few}
use Rattle.cell_netlist.proofs.Judged.{named_more}
use Rattle.cell_rows.proofs.Laid.{counted_push}

named_take : (defs : List Def) (n : ℕ) → length (named (take n defs)) ≤ length (named defs)
named_take defs zero = omega arith
named_take [] (suc n) = omega arith
named_take (def ∷ defs) (suc n) =
    let rest = named_take defs n in
    let some : length (named (take (suc n) (def ∷ defs))) ≡ length def.inputs + length (named (take n defs)) =
    length-append def.inputs (named (take n defs)) in
    let all : length (named (def ∷ defs)) ≡ length def.inputs + length (named defs) =
    length-append def.inputs (named defs) in
    omega (arith, rest, some, all)

none_at : (n s : ℕ) → slice_index (replicate n 0) s ≡ 0
none_at zero s = refl
none_at (suc n) zero = refl
none_at (suc n) (suc s) = none_at n s

-- nothing is counted yet
pub none_used : (used : List ℕ) (n bound : ℕ) → n ≡ bound → used ≡ replicate n 0 → AreCounts used bound []
none_used used n bound same is = record {
  long = ap length is ∙ length-replicate n 0 ∙ same;
  each = λ s lt. ap (λ (xs : List ℕ). slice_index xs s) is ∙ none_at n s;
}

-- no signal of a definition is counted yet
pub used_first : (seen inputs used : List ℕ) (bound : ℕ) → AreCounts used bound seen
    → AreCounts used bound (seen ++ take 0 inputs)
used_first seen inputs used bound known =
    subst (λ (xs : List ℕ). AreCounts used bound xs) (sym (append-nil seen)) known

-- one more
pub used_more : (seen inputs used new : List ℕ) (i x bound : ℕ) → AreCounts used bound (seen ++ take i inputs)
    → IsBumped used new x → x ≡ get_or inputs i 0 → i < length inputs
    → AreCounts new bound (seen ++ take (i + 1) inputs)
used_more seen inputs used new i x bound known bumped is lt =
    subst (λ (xs : List ℕ). AreCounts new bound xs)
    (append_assoc seen (take i inputs) (x ∷ [])
    ∙ ap (λ (n : ℕ). seen ++ (take i inputs ++ n ∷ [])) is
    ∙ ap (λ (xs : List ℕ). seen ++ xs) (sym (take_more inputs i 0 lt)))
    (counted_push used new bound x (seen ++ take i inputs) known bumped)

-- all
pub used_all : (defs : List Def) (j n : ℕ) (def : Def) (used : List ℕ) (bound : ℕ) → slice_get defs j ≡ Some def
    → n ≡ length def.inputs → AreCounts used bound (named (take j defs) ++ take n def.inputs)
    → AreCounts used bound (named (take (j + 1) defs))
used_all defs j n def used bound here long known =
    let one : suc j ≡ j + 1 = omega arith in
    subst (λ (xs : List ℕ). AreCounts used bound xs)
    (ap (λ (xs : List ℕ). named (take j defs) ++ xs) (take_all n def.inputs (omega (arith, long)))
    ∙ sym (named_more defs j def here)
    ∙ ap (λ (m : ℕ). named (take m defs)) one)
    known

-- each count has room for one more
pub used_fits : (net : NetView) (j i bound : ℕ) (def : Def) (used : List ℕ) → IsNetlist net
    → slice_get net.defs j ≡ Some def → AreCounts used bound (named (take j net.defs) ++ take i def.inputs)
    → i < length def.inputs → (s : ℕ) → s < length used → slice_index used s + 1 < 2 ^ 32
used_fits net j i bound def used known here counts lt s low =
    let long = counts.long in
    let is = counts.each s (omega (arith, low, long)) in
    let few = count_by-le-length (λ (n : ℕ). nat_eq s n) (named (take j net.defs) ++ take i def.inputs) in
    let size = length-append (named (take j net.defs)) (take i def.inputs) in
    let short = length-take i def.inputs in
    let next = ap (λ (xs : List ℕ). length xs) (named_more net.defs j def here) in
    let both = length-append (named (take j net.defs)) def.inputs in
    let most = named_take net.defs (suc j) in
    let small = signals_few net (named net.defs) net.defs known refl refl in
    omega (arith, is, few, size, short, next, both, most, small, lt)

-- what a slice becomes in its `Vec`
pub written : {A : Type 0} (n : ℕ) (new old : List A) → n ≡ length old → length new ≡ length old
    → take n (new ++ drop (length new) old) ≡ new
written n new old long same =
    ap (λ (k : ℕ). take k (new ++ drop (length new) old)) (long ∙ sym same)
    ∙ take-append_seam new (drop (length new) old)
