-- The five rules of circuits in turn: the first broken one, or all kept.
use Rattle.std.proofs.Common.{◌≡◌, ℕ, ◌<◌, List, Option, Some, None, refl, arith}
use Rattle.geom.specs.declared.shapes.Flat.{Flat}
use Rattle.layout_rules.specs.declared.rule.Rule.{Rule}
use Rattle.layout_rules.specs.declared.rule.Rule.TheVariants.{E1, E2, E3, E4, E5, E6, G1, G2, G3, G4, G5}
use Rattle.layout_rules.specs.Limits.{Limits}
use Rattle.layout_rules.specs.Reports.{ReportsNone}
use Rattle.layout_rules.specs.RuleTable.{place, first_of_geometry}
use Rattle.layout_rules.specs.Rules.{Broken, Keeps, KeepsCircuitRules}
use Rattle.layout_rules.proofs.RuleLaws.{KeepsBelow, KeepsBelow-none, KeepsBelow-more}
use Rattle.shape_extract.specs.declared.search.Report.{Report}
use Rattle.shape_extract.specs.declared.rules.first_broken.BrokenRule.{BrokenRule}
use Rattle.geom.specs.declared.shapes.Shape.{Shape}
use Rattle.shape_extract.specs.Code.Lines.{ExcitesFrames}
use Rattle.layout_rules.specs.ExcitationRule.{IsExcitedAt}
use Rattle.shape_extract.specs.Searches.{Finds}
use Rattle.shape_extract.specs.Extracts.{BreaksCircuit, KeepsFive}
use Rattle.shape_extract.specs.Code.FirstRule.{FindsRule}

-- all five are the rules of circuits
pub all_kept : (flat : Flat) → KeepsFive flat → (limits : Limits) → KeepsCircuitRules flat limits
all_kept flat five limits E1 h = five.cells
all_kept flat five limits E2 h = five.lines
all_kept flat five limits E3 h = five.nets
all_kept flat five limits E4 h = five.rows
all_kept flat five limits E6 h = five.labels
all_kept flat five limits E5 h = absurd (omega arith)
all_kept flat five limits G1 h = absurd (omega arith)
all_kept flat five limits G2 h = absurd (omega arith)
all_kept flat five limits G3 h = absurd (omega arith)
all_kept flat five limits G4 h = absurd (omega arith)
all_kept flat five limits G5 h = absurd (omega arith)

-- a search that finds nothing
pub found_none : (report : ℕ → ℕ → Type 0) (found : Option Report) → Finds report found
    → ((r : Report) → found ≡ Some r → ⊥) → ReportsNone report
found_none report None finds none = finds
found_none report (Some r) finds none = absurd (none r refl)

-- where nothing is found, all frames are excited
pub excites_none : (shapes : List Shape) (found : Option Report) → ExcitesFrames shapes found
    → ((r : Report) → found ≡ Some r → ⊥) → (f : ℕ) → IsExcitedAt shapes f
excites_none shapes None excites none = excites
excites_none shapes (Some r) excites none = absurd (none r refl)

abbrev told : Rule → Report → BrokenRule
told rule r = record { rule = rule; first = r.first; second = r.second }

-- a search that finds the first report of a rule where those before it are kept
pub breaks : (flat : Flat) (rule : Rule) (found : Option Report) (r : Report) (b : BrokenRule)
    → place rule < first_of_geometry
    → ((limits : Limits) → Finds (Broken rule flat limits) found) → found ≡ Some r → b ≡ told rule r
    → ((limits : Limits) → KeepsBelow (place rule) flat limits) → BreaksCircuit flat b.rule b.first b.second
breaks flat rule found r b h finds e is before =
    rw is (record {
      of_circuit = h;
      first = λ limits. record {
        report = rw e at (finds limits);
        kept_before = before limits;
      };
    })

pub cells_below : (flat : Flat) (limits : Limits) → Keeps E1 flat limits → KeepsBelow 1 flat limits
cells_below flat limits one = KeepsBelow-more flat limits 0 E1 (omega arith) (KeepsBelow-none flat limits) one

pub lines_below : (flat : Flat) (limits : Limits) → Keeps E1 flat limits → Keeps E2 flat limits
    → KeepsBelow 2 flat limits
lines_below flat limits one two = KeepsBelow-more flat limits 1 E2 (omega arith) (cells_below flat limits one) two

pub nets_below : (flat : Flat) (limits : Limits) → Keeps E1 flat limits → Keeps E2 flat limits → Keeps E3 flat limits
    → KeepsBelow 3 flat limits
nets_below flat limits one two three = KeepsBelow-more flat limits 2 E3 (omega arith)
    (lines_below flat limits one two) three

pub rows_below : (flat : Flat) (limits : Limits) → Keeps E1 flat limits → Keeps E2 flat limits → Keeps E3 flat limits
    → Keeps E4 flat limits → KeepsBelow 4 flat limits
rows_below flat limits one two three four = KeepsBelow-more flat limits 3 E4 (omega arith)
    (nets_below flat limits one two three) four

-- no rule is broken first
pub none_found : (flat : Flat) (found : Option BrokenRule) → FindsRule flat found
    → ((b : BrokenRule) → found ≡ Some b → ⊥) → KeepsFive flat
none_found flat None finds none = finds
none_found flat (Some b) finds none = absurd (none b refl)
