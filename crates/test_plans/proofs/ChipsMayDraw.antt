-- The nets of the tests may be drawn with library A.
use Rattle.std.proofs.Common.{refl}
use Rattle.cell_library.specs.Laws.{IsLibrary}
use Rattle.cell_library.specs.LibraryA.{library_a_view}
use Rattle.layout_make.specs.MayDraw.{MayDraw}
use Rattle.layout_make.specs.Chips.{third_placed}
use Rattle.test_plans.specs.TestChips.{crossing_placed, column_placed}
use Rattle.layout_make.proofs.TestedDrawing.{may_draw_from_test}

pub may_third : IsLibrary library_a_view → MayDraw third_placed library_a_view
may_third known = may_draw_from_test third_placed library_a_view known (record {
  placed = refl;
  given = refl;
  short = refl;
  narrow = refl;
  low = refl;
  lag = refl;
  few_inputs = refl;
  few_outputs = refl;
})

pub may_crossing : IsLibrary library_a_view → MayDraw crossing_placed library_a_view
may_crossing known = may_draw_from_test crossing_placed library_a_view known (record {
  placed = refl;
  given = refl;
  short = refl;
  narrow = refl;
  low = refl;
  lag = refl;
  few_inputs = refl;
  few_outputs = refl;
})

pub may_column : IsLibrary library_a_view → MayDraw column_placed library_a_view
may_column known = may_draw_from_test column_placed library_a_view known (record {
  placed = refl;
  given = refl;
  short = refl;
  narrow = refl;
  low = refl;
  lag = refl;
  few_inputs = refl;
  few_outputs = refl;
})
