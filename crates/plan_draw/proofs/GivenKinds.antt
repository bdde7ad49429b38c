-- The library gives the kinds of all cells of a netlist of cells: a splitter of three stands only where it has one.
use Rattle.std.proofs.Common.{◌≡◌, ℕ, ◌+◌, Bool, true, false, cond, List, Option, Some, None, refl, ap, sym, ◌∙◌, subst}
use Rattle.std.specs.Prelude.{◌&&◌, ◌||◌, nat_le, eqb, is_some}
use Rattle.std.proofs.lemmas.Bool.{eqb-true}
use Rattle.circuit.specs.declared.gate.Gate.{Gate}
use Rattle.circuit.specs.declared.gate.Gate.TheVariants.{Input, Zero, One, Buf, Inv, Maj}
use Rattle.circuit.specs.declared.cell_kind.CellKind.{CellKind}
use Rattle.circuit.specs.declared.cell_kind.CellKind.TheVariants as kinds
use Rattle.rowed.specs.declared.row_cell.RowCell.{RowCell}
use Rattle.rowed.specs.RowNets.{cell_at}
use Rattle.cell_library.specs.declared.draft.Pins.{Pins}
use Rattle.cell_library.specs.Library.{LibraryView, pins_of, IsGiven}
use Rattle.cell_library.specs.Laws.{IsLibrary}
use Rattle.layout_make.specs.MayDraw.{GivesKinds}
use Rattle.plan_build.specs.Plans.{three_of}
use Rattle.plan_build.proofs.KeptKinds.{rows_from}
use Rattle.cell_netlist.specs.Uses.{CellView, uses, is_input, may_have}
use Rattle.cell_rows.specs.Laws.{AreCells}
use Rattle.cell_rows.specs.CellRows.{kind_giving, kind_of, rows_of}
use Rattle.cell_rows.proofs.Defined.{defined, may_be_used}
use Rattle.cell_rows.proofs.Standing.{at_cell, cell_is}

module _ (l : LibraryView) (known : IsLibrary l) where
  -- a buffer with three uses stands only where the library has splitters of three
  three_given : (has : Bool) → has ≡ three_of l → (d : CellView) (x n : ℕ) → d.three ≡ has → n ≡ 3
      → may_have d (Buf x) n ≡ true → IsGiven l kinds.Split3
  three_given true e d x n is three may = go (pins_of l kinds.Split3) refl e
    where
      go : (o : Option Pins) → pins_of l kinds.Split3 ≡ o → true ≡ is_some o → IsGiven l kinds.Split3
      go None q e = absurd (cc)
      go (Some pins) q e = ap is_some q
  three_given false e d x n is three may =
      let here : (nat_le 1 3 && nat_le 3 (cond false 3 2)) || (is_input d x && false) ≡ true =
      ap (λ (b : Bool). (nat_le 1 3 && nat_le 3 (cond b 3 2)) || (is_input d x && eqb 3 0)) (sym is)
      ∙ ap (may_have d (Buf x)) (sym three) ∙ may in
      absurd (never (is_input d x) here)
    where
      never : (b : Bool) → (b && false) ≡ true → ⊥
      never true e = cc
      never false e = cc

  giving : (d : CellView) (x n : ℕ) → d.three ≡ three_of l → may_have d (Buf x) n ≡ true → IsGiven l (kind_giving n)
  giving d x n is may = by (eqb n 2) (eqb n 3) refl
    where
      by : (p q : Bool) → eqb n 3 ≡ q → IsGiven l (cond p kinds.Split2 (cond q kinds.Split3 kinds.Buffer))
      by true q e = known.given kinds.Split2 (λ e. absurd cc)
      by false true e = three_given d.three is d x n refl (eqb-true n 3 e) may
      by false false e = known.given kinds.Buffer (λ e. absurd cc)

  kind_given : (d : CellView) (g : Gate) (n : ℕ) → d.three ≡ three_of l → may_have d g n ≡ true
      → IsGiven l (kind_of n g)
  kind_given d (Input i) n is may = known.given kinds.Buffer (λ e. absurd cc)
  kind_given d Zero n is may = known.given kinds.Zero (λ e. absurd cc)
  kind_given d One n is may = known.given kinds.One (λ e. absurd cc)
  kind_given d (Buf x) n is may = giving d x n is may
  kind_given d (Inv x) n is may = known.given kinds.Inverter (λ e. absurd cc)
  kind_given d (Maj x y z) n is may = known.given kinds.Majority (λ e. absurd cc)

  cell_given : (d : CellView) (levels : List ℕ) (last : ℕ) → AreCells d levels last → d.three ≡ three_of l
      → (r c : ℕ) (cell : RowCell) → cell_at (rows_of d levels last).rows r c ≡ Some cell → IsGiven l cell.kind
  cell_given d levels last cells is r c cell e =
      let at = at_cell cells r c cell e in
      let x = defined cells at.j at.is_cell.below in
      subst (λ (k : CellKind). IsGiven l k) (ap (λ (y : RowCell). y.kind) (sym (at.cell_is ∙ cell_is levels x)))
      (kind_given d x.gate (uses d (d.net.inputs + at.j)) is (may_be_used x at.is_cell.no_name))

  pub kinds_given : (d : CellView) (levels : List ℕ) (last : ℕ) → AreCells d levels last → d.three ≡ three_of l
      → GivesKinds l (rows_of d levels last).rows
  kinds_given d levels last cells is =
      rows_from (IsGiven l) (rows_of d levels last).rows (cell_given d levels last cells is)
