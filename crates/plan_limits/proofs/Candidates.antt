-- A placed net from its repeaters to a chip that may be drawn.
use Rattle.std.proofs.Common.{ℕ, ◌≡◌, ◌≤◌, refl, sym, ap, subst}
use Rattle.std.proofs.Common.{arith}
use Rattle.blif_read.specs.Parts.{NetView}
use Rattle.blif_read.specs.Netlist.{IsNetlist}
use Rattle.rowed.specs.PlacedNets.{PlacedView, IsPlaced, placed_rows}
use Rattle.rowed.specs.Short.{AreShort}
use Rattle.rowed.specs.Counts.{cells_in}
use Rattle.rowed.specs.Limits.{cell_limit}
use Rattle.repeater_rows.specs.Repeaters.{repeated}
use Rattle.repeater_rows.specs.Passes.{AreRepeated}
use Rattle.repeater_rows.proofs.KeptLaws.{no_lag}
use Rattle.cell_library.specs.Library.{LibraryView}
use Rattle.cell_library.specs.Laws.{IsLibrary}
use Rattle.cell_library.specs.Reach.{reach_of}
use Rattle.cell_library.proofs.PinCounts.{two_reach}
use Rattle.plan_build.specs.Plans.{channel_of}
use Rattle.plan_build.specs.Laws.{AnswersAs}
use Rattle.plan_build.proofs.SameThen.{same_then}
use Rattle.plan_limits.specs.Drawable.{IsDrawable}
use Rattle.plan_limits.specs.Code.Limits.{IsShortened, KeepsLimits}

-- with its repeaters
pub is_shortened : (l : LibraryView) (net : NetView) (p out : PlacedView) (reach height channel : ℕ)
    → reach ≡ reach_of l → height ≡ l.height → channel ≡ channel_of l → IsLibrary l
    → AnswersAs net p → AreRepeated p reach height channel out
    → ((p : PlacedView) (reach : ℕ) → IsPlaced p → 2 ≤ reach → AreShort reach (placed_rows (repeated p reach)))
    → ((p out : PlacedView) (reach height channel : ℕ) → AreRepeated p reach height channel out
    → cells_in out.net.rows ≤ cell_limit)
    → IsShortened l net p out
is_shortened l net p out reach height channel r h c known answers given shorts few =
    let is : AreRepeated p (reach_of l) l.height (channel_of l) out =
    subst (λ n. AreRepeated p (reach_of l) l.height n out) c
    (subst (λ n. AreRepeated p (reach_of l) n channel out) h
    (subst (λ n. AreRepeated p n height channel out) r given)) in
    record {
      is_chip = is.is_plan;
      keeps = is.out_keeps;
      answers = same_then _ _ _ _ _ _ _ _ _ answers is.same;
      short = subst (λ (q : PlacedView). AreShort (reach_of l) (placed_rows q)) (sym is.is_plan)
          (shorts p (reach_of l) is.net_keeps (two_reach l (reach_of l) known refl));
      few_cells = few p out (reach_of l) l.height (channel_of l) is;
      low = is.not_tall;
    }

pub is_drawable : (l : LibraryView) (net : NetView) (placed chip : PlacedView) → IsLibrary l → IsNetlist net
    → IsShortened l net placed chip → KeepsLimits l chip → IsDrawable l net placed chip
is_drawable l net placed chip lawful keeps short limits = record {
  is_chip = short.is_chip;
  draws = record {
    placed = short.keeps;
    library = lawful;
    given = limits.given;
    short = short.short;
    narrow = limits.narrow;
    low = short.low;
    lag = omega (arith, ap (λ (q : PlacedView). q.lag) short.is_chip, no_lag placed (reach_of l));
    few_inputs = omega (arith, short.answers.same_inputs, keeps.count, keeps.small);
    few_outputs = omega (arith, short.answers.same_outputs, keeps.small);
  };
  answers = short.answers;
  few = limits.few;
}

pub ruleset shortens = (is_shortened)

pub ruleset drawn = (is_drawable)
