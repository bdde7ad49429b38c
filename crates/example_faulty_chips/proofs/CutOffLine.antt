-- A line that does not begin at the start of its layer: no chain of contacts leads to it.
use Rattle.std.proofs.Common.{ℕ, ◌≤◌, List, [], ◌∷◌, refl, arith, inl, inr}
use Rattle.geom.specs.FirstChip.{first_flat}
use Rattle.layout_rules.specs.declared.layers.TheConstants.{START}
use Rattle.layout_rules.specs.declared.rule.Rule.TheVariants.{E2}
use Rattle.layout_rules.specs.Layers.{is_line}
use Rattle.layout_rules.specs.FirstLimits.{first_limits}
use Rattle.layout_rules.specs.Reports.{Passes, Alone}
use Rattle.layout_rules.specs.ExcitationLines.{Contact, IsPart, IsChain, IsReached}
use Rattle.layout_rules.specs.ExcitationRule.{IsCutOff}
use Rattle.layout_rules.specs.Rules.{FirstBroken}
use Rattle.layout_rules.proofs.ReportLaws.{Afterwards-first, least_first}
use Rattle.layout_rules.proofs.Computed.{found_first}
use Rattle.layout_rules.proofs.JudgedLines.{layout_judged}
use Rattle.layout_rules.proofs.Places.{IsOneOf, place_of, at_one}
use Rattle.layout_rules.proofs.Lines.{line_of, IsShortLine, part_place, contact_place, start_reached, bar_reached}
use Rattle.example_faulty_chips.specs.LineChips.{with_cut_off_line}
use Rattle.example_faulty_chips.proofs.LinesJudged.{lines_broken}

even : IsShortLine with_cut_off_line.shapes 3 4
unfolding with_cut_off_line first_flat
even = line_of _ _ refl refl refl refl refl refl refl refl refl refl

odd : IsShortLine with_cut_off_line.shapes 13 14
unfolding with_cut_off_line first_flat
odd = line_of _ _ refl refl refl refl refl refl refl refl refl refl

abbrev begun : List ℕ
begun = 3 ∷ 4 ∷ 13 ∷ 14 ∷ []

abbrev parts : List ℕ
parts = 3 ∷ 4 ∷ 13 ∷ 14 ∷ 15 ∷ 16 ∷ 17 ∷ []

part_at : (n : ℕ) → Passes is_line with_cut_off_line.shapes n → IsOneOf n parts
unfolding with_cut_off_line first_flat
part_at n h = place_of is_line with_cut_off_line.shapes n h

even_begun : (n : ℕ) → IsOneOf n (3 ∷ 4 ∷ []) → IsOneOf n begun
even_begun n h = at_one (λ m. IsOneOf m begun) n (3 ∷ 4 ∷ []) h (inl refl, (inr (inl refl), tt))

odd_begun : (n : ℕ) → IsOneOf n (13 ∷ 14 ∷ []) → IsOneOf n begun
odd_begun n h = at_one (λ m. IsOneOf m begun) n (13 ∷ 14 ∷ []) h
    (inr (inr (inl refl)), (inr (inr (inr (inl refl))), tt))

start_begun : (n : ℕ) → IsPart with_cut_off_line.shapes START n → IsOneOf n begun
unfolding with_cut_off_line first_flat
start_begun n h = at_one (λ m. IsOneOf m begun) n (3 ∷ 13 ∷ []) (part_place with_cut_off_line.shapes START n h)
    (inl refl, (inr (inr (inl refl)), tt))

next_begun : (a n : ℕ) → IsOneOf a begun → Contact with_cut_off_line.shapes a n → IsOneOf n begun
unfolding with_cut_off_line first_flat
next_begun a n h k = at_one (λ m. Contact with_cut_off_line.shapes m n → IsOneOf n begun) a begun h (
  λ c. even_begun n (contact_place with_cut_off_line.shapes 3 n _ refl c),
  (
    λ c. even_begun n (contact_place with_cut_off_line.shapes 4 n _ refl c),
    (
      λ c. odd_begun n (contact_place with_cut_off_line.shapes 13 n _ refl c),
      (λ c. odd_begun n (contact_place with_cut_off_line.shapes 14 n _ refl c), tt),
    ),
  ),
) k

-- a chain from a start stays on the two lines that begin there
chain_begun : (rest : List ℕ) (n : ℕ) → IsChain with_cut_off_line.shapes (n ∷ rest) → IsOneOf n begun
chain_begun [] n start = start_begun n start
chain_begun (a ∷ rest) n chain = next_begun a n (chain_begun rest a chain.1) chain.0

below : (n : ℕ) → IsOneOf n begun → n ≤ 14
below n h = at_one (λ m. m ≤ 14) n begun h (omega arith, (omega arith, (omega arith, (omega arith, tt))))

broken : IsCutOff with_cut_off_line.shapes 15
unfolding with_cut_off_line first_flat
broken = record {
  part = record { shape = _; shape_is = refl; passes_so = refl };
  not_reached = λ r. let le : 15 ≤ 14 = below 15 (chain_begun r.rest 15 r.chain) in omega arith;
}

least : (n : ℕ) → IsCutOff with_cut_off_line.shapes n → 15 ≤ n
least n h = at_one (λ m. (IsReached with_cut_off_line.shapes m → ⊥) → 15 ≤ m) n parts (part_at n h.part) (
  λ no. absurd (no (start_reached with_cut_off_line.shapes 3 4 even)),
  (
    λ no. absurd (no (bar_reached with_cut_off_line.shapes 3 4 even)),
    (
      λ no. absurd (no (start_reached with_cut_off_line.shapes 13 14 odd)),
      (
        λ no. absurd (no (bar_reached with_cut_off_line.shapes 13 14 odd)),
        (λ no. omega arith, (λ no. omega arith, (λ no. omega arith, tt))),
      ),
    ),
  ),
) h.not_reached

pub cut_off_line : FirstBroken with_cut_off_line first_limits E2 15 15
unfolding with_cut_off_line first_flat
cut_off_line = lines_broken with_cut_off_line 15 refl
    (found_first (layout_judged with_cut_off_line.shapes _ (inr (record {
      first = 15;
      second = 15;
      is_first = Afterwards-first (Alone (IsCutOff with_cut_off_line.shapes)) _ 15 15
          (least_first (IsCutOff with_cut_off_line.shapes) 15 broken least);
    }))) 15 15 refl)
