-- The verdict on a chip, computed: what is told first of its rules is the first that is broken. Nets are given with the
-- numbers, and what excitation lines break with them, since neither is cheap to find.
use Rattle.std.proofs.Common.{◌≡◌, ℕ, suc, ◌+◌, true, List, [], ◌∷◌, length, Option, Some, None, sym, subst, arith, inl}
use Rattle.std.proofs.Common.{inr, ◌==◌}
use Rattle.std.proofs.lemmas.Bool.{and_parts, eqb-true}
use Rattle.std.proofs.lemmas.Option.{same_Some}
use Rattle.geom.specs.declared.shapes.Flat.{Flat}
use Rattle.layout_rules.specs.declared.rule.Rule.{Rule}
use Rattle.layout_rules.specs.declared.rule.Rule.TheVariants.{E1, E2, E3, E4, E5, E6, G1, G2, G3, G4, G5}
use Rattle.layout_rules.specs.Limits.{Limits}
use Rattle.layout_rules.specs.Nets.{AreNets}
use Rattle.layout_rules.specs.Reports.{ReportsNone, IsFirstReport}
use Rattle.layout_rules.specs.RuleTable.{place}
use Rattle.layout_rules.specs.Rules.{Broken, KeepsRules, FirstBroken}
use Rattle.layout_rules.proofs.RuleLaws.{rules, stand_from, rules_stand, KeepsBelow, KeepsBelow-none, KeepsBelow-more}
use Rattle.layout_rules.proofs.RuleLaws.{KeepsRules-below}
use Rattle.layout_rules.proofs.Judging.{Judged}
use Rattle.layout_rules.proofs.JudgedCells.{cells_judged}
use Rattle.layout_rules.proofs.JudgedNets.{nets_judged, rows_judged}
use Rattle.layout_rules.proofs.JudgedLabels.{labels_judged}
use Rattle.layout_rules.proofs.JudgedGeometry.{sizes_judged, spacing_judged, enclosure_judged, cover_judged}
use Rattle.layout_rules.proofs.JudgedGeometry.{frames_judged}
use Rattle.layout_rules.proofs.JudgedGeometry.{lengths_judged}

-- the two numbers of the first report, if there is one
abbrev pub found : {report : ℕ → ℕ → Type 0} → Judged report → Option (ℕ × ℕ)
found (inl none) = None
found (inr h) = Some (h.first, h.second)

pub found_none : {report : ℕ → ℕ → Type 0} (j : Judged report) → found j ≡ None → ReportsNone report
found_none (inl none) e = none
found_none (inr h) e = absurd cc

pub found_first : {report : ℕ → ℕ → Type 0} (j : Judged report) (a b : ℕ) → found j ≡ Some (a, b)
    → IsFirstReport report a b
found_first (inl none) a b e = absurd cc
found_first {report} (inr h) a b e = subst (λ (t : ℕ × ℕ). IsFirstReport report t.0 t.1)
    (same_Some (h.first, h.second) (a, b) e) h.is_first

-- a rule with the two numbers of its first report
abbrev pub Told : Type 0
Told = Rule × (ℕ × ℕ)

module _ (flat : Flat) (limits : Limits) (some : (ns : List ℕ) × AreNets flat.shapes ns)
    (lines : Judged (Broken E2 flat limits)) where
  abbrev rule_judged : (rule : Rule) → Judged (Broken rule flat limits)
  rule_judged E1 = cells_judged flat.shapes
  rule_judged E2 = lines
  rule_judged E3 = nets_judged flat some
  rule_judged E4 = rows_judged flat some
  rule_judged E5 = lengths_judged limits flat.shapes some
  rule_judged E6 = labels_judged flat
  rule_judged G1 = sizes_judged limits flat.shapes
  rule_judged G2 = spacing_judged limits flat.shapes
  rule_judged G3 = enclosure_judged limits flat.shapes
  rule_judged G4 = cover_judged limits flat.shapes
  rule_judged G5 = frames_judged limits flat.shapes

  abbrev told_or : (rule : Rule) → Judged (Broken rule flat limits) → Option Told → Option Told
  told_or rule (inl none) rest = rest
  told_or rule (inr h) rest = Some (rule, (h.first, h.second))

  -- what the rules of a list tell first
  abbrev pub told_first : List Rule → Option Told
  told_first [] = None
  told_first (rule ∷ rest) = told_or rule (rule_judged rule) (told_first rest)

  abbrev IsTold : Told → Type 0
  IsTold t = FirstBroken flat limits t.0 t.1.0 t.1.1

  -- the rules below n are kept, and rule n is told, or those behind it tell
  one_told : (n : ℕ) (rule : Rule) (rest : Option Told) → place rule ≡ n → KeepsBelow n flat limits → (t : Told)
      → (KeepsBelow (suc n) flat limits → rest ≡ Some t → IsTold t) → (j : Judged (Broken rule flat limits))
      → told_or rule j rest ≡ Some t → IsTold t
  one_told n rule rest here kept t later (inl none) e = later (KeepsBelow-more flat limits n rule here kept none) e
  one_told n rule rest here kept t later (inr h) e = subst IsTold (same_Some (rule, (h.first, h.second)) t e) (record {
    report = h.is_first;
    kept_before = subst (λ (m : ℕ). KeepsBelow m flat limits) (sym here) kept;
  })

  first_so : (n : ℕ) (rest : List Rule) → stand_from n rest ≡ true → KeepsBelow n flat limits → (t : Told)
      → told_first rest ≡ Some t → IsTold t
  first_so n [] stand kept t is = absurd cc
  first_so n (rule ∷ rest) stand kept t is =
      let both : ((place rule == n) ≡ true) × (stand_from (suc n) rest ≡ true) =
      and_parts (place rule == n) (stand_from (suc n) rest) stand in
      one_told n rule (told_first rest) (eqb-true (place rule) n both.0) kept t
      (λ more e. first_so (suc n) rest both.1 more t e) (rule_judged rule) is

  none_told : (n : ℕ) (rule : Rule) (rest : Option Told) → place rule ≡ n → KeepsBelow n flat limits → (m : ℕ)
      → (KeepsBelow (suc n) flat limits → rest ≡ None → KeepsBelow m flat limits)
      → (j : Judged (Broken rule flat limits))
      → told_or rule j rest ≡ None → KeepsBelow m flat limits
  none_told n rule rest here kept m later (inl none) e = later (KeepsBelow-more flat limits n rule here kept none) e
  none_told n rule rest here kept m later (inr h) e = absurd cc

  all_so : (n : ℕ) (rest : List Rule) → stand_from n rest ≡ true → KeepsBelow n flat limits → told_first rest ≡ None
      → KeepsBelow (n + length rest) flat limits
  all_so n [] stand kept is = subst (λ (m : ℕ). KeepsBelow m flat limits) (omega arith) kept
  all_so n (rule ∷ rest) stand kept is =
      let both : ((place rule == n) ≡ true) × (stand_from (suc n) rest ≡ true) =
      and_parts (place rule == n) (stand_from (suc n) rest) stand in
      none_told n rule (told_first rest) (eqb-true (place rule) n both.0) kept (n + length (rule ∷ rest))
      (λ more e. subst (λ (m : ℕ). KeepsBelow m flat limits) (omega arith) (all_so (suc n) rest both.1 more e))
      (rule_judged rule) is

  -- the first that is broken, and that all are kept, by computing
  pub first_broken : (t : Told) → told_first rules ≡ Some t → IsTold t
  first_broken t is = first_so 0 rules rules_stand (KeepsBelow-none flat limits) t is

  pub all_kept : told_first rules ≡ None → KeepsRules flat limits
  unfolding rules
  all_kept is = KeepsRules-below flat limits (all_so 0 rules rules_stand (KeepsBelow-none flat limits) is)
