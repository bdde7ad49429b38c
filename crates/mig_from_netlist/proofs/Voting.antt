-- Majorities of two inputs and a table.
use Rattle.std.specs.Prelude.{◌≡◌, ℕ, zero, suc, ◌+◌, ◌<◌, ◌≤◌, ◌^◌, Bool, not, List, [], ◌∷◌, length, Some}
use Rattle.std.specs.Prelude.{slice_get}
use Rattle.std.specs.Int.{bit_not}
use Rattle.std.proofs.Common.{refl, sym, ap, ◌∙◌, subst, arith, w64, lit<}
use Rattle.circuit.specs.Function.{majority}
use Rattle.mig.specs.Graphs.{literal_value, node_value, Fits, turned}
use Rattle.mig.specs.Building.{BuilderView, Grown, Gives, AllThere, limit}
use Rattle.mig.proofs.Built.{gives_later}
use Rattle.mig.proofs.Folded.{turned_value, turned_below}
use Rattle.truth_tables.specs.Tables.{holds, mask}
use Rattle.mig_from_netlist.specs.Code.Known.{value_at}
use Rattle.mig_from_netlist.specs.declared.decompose.Known.{Known}
use Rattle.mig_from_netlist.proofs.Decomposing.{mask_value, majority_value, other_value}

there_get : (b : BuilderView) (xs : List ℕ) (k x : ℕ) → AllThere b xs → slice_get xs k ≡ Some x → x < limit b
there_get b [] k x there is = absurd (cc)
there_get b (y ∷ ys) zero x there is = (let e : y ≡ x = cc in subst (λ z. z < limit b) e there.0)
there_get b (y ∷ ys) (suc k) x there is = there_get b ys k x there.1 is

-- an input has the value of its mask
pub gives_input : (inputs : List ℕ) (place x table : ℕ) (b : BuilderView) → place < 6 → length inputs ≤ 6
    → AllThere b inputs → slice_get inputs place ≡ Some x → table ≡ mask place → Gives b x (value_at table inputs)
gives_input inputs place x table b low few there at is = record {
  below = there_get b inputs place x there at;
  shows = λ word v fit. sym (ap (λ t. value_at t inputs v) is ∙ mask_value inputs few v place x low at);
}

pub mask_fits : (place : ℕ) → mask place < 2 ^ 64
mask_fits zero = lit< tt
mask_fits (suc zero) = lit< tt
mask_fits (suc (suc zero)) = lit< tt
mask_fits (suc (suc (suc zero))) = lit< tt
mask_fits (suc (suc (suc (suc zero)))) = lit< tt
mask_fits (suc (suc (suc (suc (suc place))))) = lit< tt

-- its complement has the value of the table's complement
pub gives_turned_input : (inputs : List ℕ) (place x table given : ℕ) (b : BuilderView) → place < 6 → given ≡ turned x
    → length inputs ≤ 6 → AllThere b inputs → slice_get inputs place ≡ Some x → table ≡ mask place
    → Gives b given (value_at (bit_not w64 table) inputs)
gives_turned_input inputs place x table given b low e few there at is =
    let fits = subst (λ t. t < 2 ^ 64) (sym is) (mask_fits place) in
    let one = gives_input inputs place x table b low few there at is in
    subst (λ l. Gives b l (value_at (bit_not w64 table) inputs)) (sym e) (record {
      below = turned_below (1 + b.inputs + length b.nodes) x one.below;
      shows = λ word v fit. turned_value v x ∙ ap not (one.shows word v fit) ∙ sym (other_value inputs few v table fits);
    })

-- the majority of three literals has the majority of their tables
pub votes_value : (inputs : List ℕ) (table made : ℕ) (x y z : Known) (old new : BuilderView) → length inputs ≤ 6
    → Grown old new
    → Gives old x.literal (value_at x.table inputs) → Gives old y.literal (value_at y.table inputs)
    → Gives old z.literal (value_at z.table inputs)
    → ((i : ℕ) → holds made i ≡ majority (holds x.table i) (holds y.table i) (holds z.table i)) → made ≡ table
    → (word : List Bool) (v : ℕ → Bool) → Fits new.inputs new.nodes word v
    → node_value v (record { x = x.literal; y = y.literal; z = z.literal }) ≡ value_at table inputs v
unfolding node_value
votes_value inputs table made x y z old new few grown gx gy gz is e word v fit =
    ap (λ a. majority a (literal_value v y.literal) (literal_value v z.literal))
    ((gives_later old new x.literal (value_at x.table inputs) grown gx).shows word v fit)
    ∙ ap (λ a. majority (value_at x.table inputs v) a (literal_value v z.literal))
    ((gives_later old new y.literal (value_at y.table inputs) grown gy).shows word v fit)
    ∙ ap (majority (value_at x.table inputs v) (value_at y.table inputs v))
    ((gives_later old new z.literal (value_at z.table inputs) grown gz).shows word v fit)
    ∙ sym (majority_value inputs few v made x.table y.table z.table is)
    ∙ ap (λ t. value_at t inputs v) e
