-- Every layout keeps all rules or has a first broken one: the rules are judged in the order in which they are tried.
use Rattle.std.proofs.Common.{◌≡◌, ℕ, suc, ◌+◌, ◌⊎◌, true, List, [], ◌∷◌, length, sym, subst, arith, inl, inr, ◌==◌}
use Rattle.std.proofs.lemmas.Bool.{and_parts, eqb-true}
use Rattle.geom.specs.declared.shapes.Flat.{Flat}
use Rattle.layout_rules.specs.declared.rule.Rule.{Rule}
use Rattle.layout_rules.specs.declared.rule.Rule.TheVariants.{E1, E2, E3, E4, E5, E6, G1, G2, G3, G4, G5}
use Rattle.layout_rules.specs.Limits.{Limits}
use Rattle.layout_rules.specs.RuleTable.{place}
use Rattle.layout_rules.specs.Rules.{Broken, KeepsRules, HasFirstBroken}
use Rattle.layout_rules.proofs.RuleLaws.{rules, stand_from, rules_stand, KeepsBelow, KeepsBelow-none, KeepsBelow-more}
use Rattle.layout_rules.proofs.RuleLaws.{KeepsRules-below}
use Rattle.layout_rules.proofs.Judging.{Judged}
use Rattle.layout_rules.proofs.JudgedCells.{cells_judged}
use Rattle.layout_rules.proofs.JudgedLines.{chains_judged}
use Rattle.layout_rules.proofs.LinesAgree.{excitation_none, excitation_first}
use Rattle.layout_rules.proofs.NetsExist.{some_nets}
use Rattle.layout_rules.proofs.JudgedNets.{nets_judged, rows_judged}
use Rattle.layout_rules.proofs.JudgedLabels.{labels_judged}
use Rattle.layout_rules.proofs.JudgedGeometry.{sizes_judged, spacing_judged, enclosure_judged, cover_judged}
use Rattle.layout_rules.proofs.JudgedGeometry.{frames_judged, lengths_judged}

module _ (flat : Flat) (limits : Limits) where
  rule_judged : (rule : Rule) → Judged (Broken rule flat limits)
  rule_judged E1 = cells_judged flat.shapes
  rule_judged E2 = elim (chains_judged flat.shapes) [
    | inl none ↦ inl (excitation_none flat.shapes none)
    | inr found ↦ inr (record {
      first = found.first;
      second = found.second;
      is_first = excitation_first flat.shapes found.first found.second found.is_first;
    })
  ]
  rule_judged E3 = nets_judged flat (some_nets flat.shapes)
  rule_judged E4 = rows_judged flat (some_nets flat.shapes)
  rule_judged E5 = lengths_judged limits flat.shapes (some_nets flat.shapes)
  rule_judged E6 = labels_judged flat
  rule_judged G1 = sizes_judged limits flat.shapes
  rule_judged G2 = spacing_judged limits flat.shapes
  rule_judged G3 = enclosure_judged limits flat.shapes
  rule_judged G4 = cover_judged limits flat.shapes
  rule_judged G5 = frames_judged limits flat.shapes

  -- of the rules so far all are kept, or one is broken first
  abbrev So : ℕ → Type 0
  So n = KeepsBelow n flat limits ⊎ HasFirstBroken flat limits

  one_more : (n : ℕ) (rule : Rule) → place rule ≡ n → So n → So (suc n)
  one_more n rule e (inr broken) = inr broken
  one_more n rule e (inl kept) = elim (rule_judged rule) [
    | inl none ↦ inl (KeepsBelow-more flat limits n rule e kept none)
    | inr found ↦ inr (record {
      rule = rule;
      first = found.first;
      second = found.second;
      is_first = record {
        report = found.is_first;
        kept_before = subst (λ (m : ℕ). KeepsBelow m flat limits) (sym e) kept;
      };
    })
  ]

  -- the rules of a list, which have the places from n on, are judged in turn
  in_turn : (n : ℕ) (rest : List Rule) → stand_from n rest ≡ true → So n → So (n + length rest)
  in_turn n [] e so = subst So (omega arith) so
  in_turn n (rule ∷ rest) e so =
      let both : ((place rule == n) ≡ true) × (stand_from (suc n) rest ≡ true)
      = and_parts (place rule == n) (stand_from (suc n) rest) e in
      subst So (omega arith) (in_turn (suc n) rest both.1 (one_more n rule (eqb-true (place rule) n both.0) so))

  pub some_verdict : KeepsRules flat limits ⊎ HasFirstBroken flat limits
  some_verdict = elim all [
    | inl kept ↦ inl (KeepsRules-below flat limits kept)
    | inr broken ↦ inr broken
  ]
    where
      all : So (length rules)
      all = subst So (omega arith) (in_turn 0 rules rules_stand (inl (KeepsBelow-none flat limits)))
