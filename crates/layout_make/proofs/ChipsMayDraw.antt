-- Worked chips may be drawn with the least and the wide library.
use Rattle.std.proofs.Common.{refl, rules}
use Rattle.cell_library.specs.Laws.{IsLibrary}
use Rattle.layout_make.specs.MayDraw.{MayDraw}
use Rattle.layout_make.specs.Chips.{first_placed, third_placed, least_library, wide_library}
use Rattle.layout_make.proofs.TestedDrawing.{may_draw_from_test}

least_keeps : IsLibrary least_library
least_keeps = search rules

wide_keeps : IsLibrary wide_library
wide_keeps = search rules

pub may_least : MayDraw third_placed least_library
may_least = may_draw_from_test third_placed least_library least_keeps (record {
  placed = refl;
  given = refl;
  short = refl;
  narrow = refl;
  low = refl;
  lag = refl;
  few_inputs = refl;
  few_outputs = refl;
})

pub may_wide : MayDraw first_placed wide_library
may_wide = may_draw_from_test first_placed wide_library wide_keeps (record {
  placed = refl;
  given = refl;
  short = refl;
  narrow = refl;
  low = refl;
  lag = refl;
  few_inputs = refl;
  few_outputs = refl;
})
