use Rattle.std.proofs.Common.{◌%◌, ◌^◌, Some, subst, sym, ap, ◌∙◌}
use Rattle.poly_cut.specs.declared.layout.Point.{Point}
use Rattle.poly_cut.proofs.Reaching.{all_rows, this_row}
use Rattle.poly_cut.proofs.GridPlaces.{far_near, grid_place}
use Rattle.poly_cut.specs.Conditions.{far}
use Rattle.poly_cut.specs.Bounds.{IsNear}
use Rattle.poly_cut.proofs.grids.grid_point.Goals as goal

pub far-row-requires-clause-step : goal.far-row-requires-clause-step
far-row-requires-clause-step c = (all_rows c.args.at.now c.args.grid.now c.requires.grid).row_step

pub far-requires-clause-point : goal.far-requires-clause-point
far-requires-clause-point c =
    subst (λ (p : Point). IsNear (2 ^ 56) p) (sym c.far-row.ensures)
    (far_near c.args.at.now c.args.grid.now c.args.number c.requires.grid c.requires.within)

pub far-requires-clause-step : goal.far-requires-clause-step
far-requires-clause-step c =
    (this_row c.args.grid.now.rows c.args.grid.now c.args.at.now c.args.at.now
    (all_rows c.args.at.now c.args.grid.now c.requires.grid)).step_near

pub returns : goal.returns
returns c =
    grid_place c.args.at.now c.args.grid.now c.args.number c.requires.grid.columns.0 c.requires.within
    ∙ ap (λ (p : Point). Some (far (c.args.number % c.args.grid.now.columns) c.args.grid.now.column_step p))
    (sym c.far-row.ensures) ∙ ap Some (sym c.far.ensures)
