-- A chip with its odd rows delayed may be drawn, and has two elements more at most.
use Rattle.std.proofs.Common.{ℕ, zero, suc, ◌+◌, ◌≤◌, ◌<◌, ◌^◌, inl, inr, refl, arith}
use Rattle.rowed.specs.Limits.{width_limit, element_limit}
use Rattle.rowed.specs.PlacedNets.{PlacedView, lagged}
use Rattle.cell_library.specs.Library.{LibraryView}
use Rattle.layout_make.specs.MayDraw.{MayDraw}
use Rattle.layout_make.specs.Size.{element_number, lag_count}
use Rattle.layout_make.proofs.SizeBounds.{number_small, lag_few}
use Rattle.plan_limits.specs.Delayed.{IsDelayed}

pub still_draws : (l : LibraryView) (chip : PlacedView) (lag : ℕ) → MayDraw chip l → lag ≤ width_limit
    → MayDraw (lagged chip lag) l
still_draws l chip lag may small = record {
  placed = record { net_keeps = may.placed.net_keeps; seated = may.placed.seated };
  library = may.library;
  given = may.given;
  short = may.short;
  narrow = may.narrow;
  low = may.low;
  lag = small;
  few_inputs = may.few_inputs;
  few_outputs = may.few_outputs;
}

pub is_delayed : (chip : PlacedView) (lag : ℕ) → element_number chip + 2 ≤ element_limit
    → IsDelayed chip (lagged chip lag)
is_delayed chip lag few = record { is = refl; few = inr (omega (arith, few, lag_few lag)) }

pub not_delayed : (chip : PlacedView) → IsDelayed chip chip
not_delayed chip = record { is = refl; few = inl refl }

pub countable : (l : LibraryView) (chip : PlacedView) → MayDraw chip l → element_number chip < 2 ^ 63
countable l chip may = number_small chip l may

pub ruleset delays = (still_draws, is_delayed, not_delayed, countable)
