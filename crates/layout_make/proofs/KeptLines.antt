-- What is kept of the rule of excitation lines, as the rule reports it.
use Rattle.std.proofs.Common.{◌≡◌, ℕ, true, Some, sym, subst, slice_get}
use Rattle.cell_library.specs.Library.{LibraryView}
use Rattle.geom.specs.declared.shapes.Shape.{Shape}
use Rattle.layout_rules.specs.Layers.{is_frame}
use Rattle.layout_rules.specs.Reports.{ReportsNone}
use Rattle.layout_rules.specs.ExcitationRule.{IsExcited, ExcitationBroken}
use Rattle.layout_rules.proofs.LinesAgree.{excitation_none, laid_out, none_cut_off, path_excited}
use Rattle.rowed.specs.PlacedNets.{PlacedView}
use Rattle.layout_make.specs.Laws.{flat_shapes}
use Rattle.layout_make.specs.Tags.{sheet, tags}
use Rattle.layout_make.proofs.Lawful.{IsLawful}
use Rattle.layout_make.proofs.ReadyNets.{IsReady}
use Rattle.layout_make.proofs.FlatLaw.{flat_is_tags}
use Rattle.layout_make.proofs.Whole.{drawn, has_cells}
use Rattle.layout_make.proofs.Routes.{AreWound}
use Rattle.layout_make.proofs.LineAll.{drawn_lines}

module _ (p : PlacedView) (l : LibraryView) (is : IsReady p l) (laws : IsLawful l) where
  wound : AreWound (flat_shapes p l)
  wound = subst AreWound (sym (flat_is_tags p l laws))
      (drawn_lines (sheet p l) (tags p l) (drawn p l is laws) (has_cells p l is laws))

  pub excitation_kept : ReportsNone (ExcitationBroken (flat_shapes p l))
  excitation_kept = excitation_none (flat_shapes p l) wound.none

  -- each frame is excited
  pub frame_excited : (f : ℕ) (frame : Shape) → slice_get (flat_shapes p l) f ≡ Some frame → is_frame frame ≡ true
      → IsExcited (flat_shapes p l) frame
  frame_excited f frame is_f so =
      path_excited (flat_shapes p l) (laid_out (flat_shapes p l) excitation_kept)
      (none_cut_off (flat_shapes p l) excitation_kept) frame (wound.excited f frame is_f so)
