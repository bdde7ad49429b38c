-- The parts of the rule of excitation lines in their turn.
use Rattle.std.proofs.Common.{ℕ, List, Some, None, inl, inr}
use Rattle.std.specs.Prelude.{Option}
use Rattle.geom.specs.declared.shapes.Shape.{Shape}
use Rattle.layout_rules.specs.declared.layers.TheConstants.{EVEN_LINE, ODD_LINE}
use Rattle.layout_rules.specs.Reports.{ReportsNone, IsFirstReport, Alone, Afterwards, Passes}
use Rattle.layout_rules.proofs.ReportLaws.{Afterwards-first, Afterwards-second}
use Rattle.layout_rules.specs.ExcitationRule.{is_no_part, LacksOneStart, IsMisjoined, IsCutOff, IsNotCrossed}
use Rattle.layout_rules.specs.ExcitationRule.{IsUnexcited, ExcitationBroken, AreLaidOut}
use Rattle.layout_rules.specs.Code.ChainRule.{IsChainUncrossed, IsChainUnexcited}
use Rattle.layout_rules.proofs.LinesAgree.{path_parts, chain_parts, path_excited}
use Rattle.shape_extract.specs.declared.search.Report.{Report}
use Rattle.shape_extract.specs.Searches.{Finds}
use Rattle.shape_extract.specs.Code.Lines.{ExcitesFrames, ChainsExciteFrames}
use Rattle.shape_extract.proofs.Searching.{after_none}

-- reports of the same numbers are found the same
finds_same : (report other : ℕ → ℕ → Type 0) → ((a b : ℕ) → report a b → other a b)
    → ((a b : ℕ) → other a b → report a b) → (found : Option Report) → Finds report found → Finds other found
finds_same report other to from None none = λ a b h. none a b (from a b h)
finds_same report other to from (Some found) first =
    record { reported = to found.first found.second first.reported; least = λ c d h. first.least c d (from c d h) }

module _ (shapes : List Shape) where
  abbrev pub AlongChains : ℕ → ℕ → Type 0
  AlongChains = Afterwards (Alone (IsCutOff shapes))
      (Afterwards (Alone (IsChainUncrossed shapes)) (Alone (IsChainUnexcited shapes)))

  abbrev pub AlongLines : ℕ → ℕ → Type 0
  AlongLines = Afterwards (Alone (IsCutOff shapes))
      (Afterwards (Alone (IsNotCrossed shapes)) (Alone (IsUnexcited shapes)))

  abbrev AfterStarts : ℕ → ℕ → Type 0
  AfterStarts = Afterwards (Alone (IsMisjoined shapes)) AlongLines

  abbrev AfterEven : ℕ → ℕ → Type 0
  AfterEven = Afterwards (Alone (LacksOneStart shapes ODD_LINE)) AfterStarts

  abbrev AfterParts : ℕ → ℕ → Type 0
  AfterParts = Afterwards (Alone (LacksOneStart shapes EVEN_LINE)) AfterEven

  pub by_part : (a b : ℕ) → IsFirstReport (Alone (Passes is_no_part shapes)) a b
      → IsFirstReport (ExcitationBroken shapes) a b
  by_part a b first = Afterwards-first (Alone (Passes is_no_part shapes)) AfterParts a b first

  module _ (parts : ReportsNone (Alone (Passes is_no_part shapes))) where
    pub by_even : (a b : ℕ) → IsFirstReport (Alone (LacksOneStart shapes EVEN_LINE)) a b
        → IsFirstReport (ExcitationBroken shapes) a b
    by_even a b first = Afterwards-second (Alone (Passes is_no_part shapes)) AfterParts a b parts
        (Afterwards-first (Alone (LacksOneStart shapes EVEN_LINE)) AfterEven a b first)

    module _ (even : ReportsNone (Alone (LacksOneStart shapes EVEN_LINE))) where
      pub by_odd : (a b : ℕ) → IsFirstReport (Alone (LacksOneStart shapes ODD_LINE)) a b
          → IsFirstReport (ExcitationBroken shapes) a b
      by_odd a b first =
          Afterwards-second (Alone (Passes is_no_part shapes)) AfterParts a b parts
          (Afterwards-second (Alone (LacksOneStart shapes EVEN_LINE)) AfterEven a b even
          (Afterwards-first (Alone (LacksOneStart shapes ODD_LINE)) AfterStarts a b first))

      module _ (odd : ReportsNone (Alone (LacksOneStart shapes ODD_LINE))) where
        pub by_contacts : (a b : ℕ) → IsFirstReport (Alone (IsMisjoined shapes)) a b
            → IsFirstReport (ExcitationBroken shapes) a b
        by_contacts a b first =
            Afterwards-second (Alone (Passes is_no_part shapes)) AfterParts a b parts
            (Afterwards-second (Alone (LacksOneStart shapes EVEN_LINE)) AfterEven a b even
            (Afterwards-second (Alone (LacksOneStart shapes ODD_LINE)) AfterStarts a b odd
            (Afterwards-first (Alone (IsMisjoined shapes)) AlongLines a b first)))

pub by_lines : (shapes : List Shape) → AreLaidOut shapes → (found : Option Report) → Finds (AlongLines shapes) found
    → Finds (ExcitationBroken shapes) found
by_lines shapes lines found finds =
    after_none (Alone (Passes is_no_part shapes)) (AfterParts shapes) found lines.parts
    (after_none (Alone (LacksOneStart shapes EVEN_LINE)) (AfterEven shapes) found lines.even
    (after_none (Alone (LacksOneStart shapes ODD_LINE)) (AfterStarts shapes) found lines.odd
    (after_none (Alone (IsMisjoined shapes)) (AlongLines shapes) found lines.contacts finds)))

-- the parts along the lines by chains are those by paths
pub along_lines : (shapes : List Shape) → AreLaidOut shapes → (found : Option Report) → Finds (AlongChains shapes) found
    → Finds (AlongLines shapes) found
along_lines shapes lines found finds = finds_same (AlongChains shapes) (AlongLines shapes) to from found finds
  where
    to : (a b : ℕ) → AlongChains shapes a b → AlongLines shapes a b
    to a b (inl h) = inl h
    to a b (inr (none, h)) = inr (none, path_parts shapes lines none a b h)

    from : (a b : ℕ) → AlongLines shapes a b → AlongChains shapes a b
    from a b (inl h) = inl h
    from a b (inr (none, h)) = inr (none, chain_parts shapes lines none a b h)

-- and so are the frames that are excited
pub excites_frames : (shapes : List Shape) → AreLaidOut shapes → ReportsNone (Alone (IsCutOff shapes))
    → (found : Option Report) → ChainsExciteFrames shapes found → ExcitesFrames shapes found
excites_frames shapes lines cut None excited =
    λ f frame is so. path_excited shapes lines cut frame (excited f frame is so)
excites_frames shapes lines cut (Some report) excited = tt
