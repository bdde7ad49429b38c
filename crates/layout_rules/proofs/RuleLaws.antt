-- The first broken rule and its report are one, and whoever keeps all rules has none.
use Rattle.std.proofs.Common.{◌≡◌, ℕ, suc, ◌<◌, ◌≤◌, ◌⊎◌, Bool, true, ◌&&◌, List, [], ◌∷◌, Some, length, refl, sym, ap}
use Rattle.std.proofs.Common.{◌∙◌, subst, arith, inl, inr, slice_get, ◌==◌}
use Rattle.std.proofs.lemmas.Bool.{cases_order}
use Rattle.std.proofs.lemmas.Option.{same_Some, slice_get_within}
use Rattle.geom.specs.declared.shapes.Flat.{Flat}
use Rattle.layout_rules.specs.declared.rule.Rule.{Rule}
use Rattle.layout_rules.specs.declared.rule.Rule.TheVariants.{E1, E2, E3, E4, E5, E6, G1, G2, G3, G4, G5}
use Rattle.layout_rules.specs.Limits.{Limits}
use Rattle.layout_rules.specs.Reports.{IsFirstReport}
use Rattle.layout_rules.specs.RuleTable.{place}
use Rattle.layout_rules.specs.Rules.{Broken, Keeps, KeepsRules, KeepsBefore}
use Rattle.layout_rules.specs.Rules.{FirstBroken, IsOneReport}

-- all rules in the order of their places
unfoldable pub rules : List Rule
rules = E1 ∷ E2 ∷ E3 ∷ E4 ∷ E6 ∷ G1 ∷ G2 ∷ G3 ∷ G4 ∷ G5 ∷ E5 ∷ []

-- these rules have the places from n on
abbrev pub stand_from : ℕ → List Rule → Bool
stand_from n [] = true
stand_from n (rule ∷ rest) = place rule == n && stand_from (suc n) rest

pub rules_stand : stand_from 0 rules ≡ true
unfolding rules
rules_stand = refl

at_place : (rule : Rule) → slice_get rules (place rule) ≡ Some rule
unfolding rules
at_place E1 = refl
at_place E2 = refl
at_place E3 = refl
at_place E4 = refl
at_place E5 = refl
at_place E6 = refl
at_place G1 = refl
at_place G2 = refl
at_place G3 = refl
at_place G4 = refl
at_place G5 = refl

-- two rules have two places
pub same_place : (rule other : Rule) → place rule ≡ place other → rule ≡ other
same_place rule other e = same_Some rule other (sym (at_place rule) ∙ (ap (slice_get rules) e ∙ at_place other))

pub same_report : {report : ℕ → ℕ → Type 0} {a b c d : ℕ} → IsFirstReport report a b
    → IsFirstReport report c d → (a ≡ c) × (b ≡ d)
same_report {report} {a} {b} {c} {d} one other = both (one.least c d other.reported) (other.least a b one.reported)
  where
    both : (a < c) ⊎ ((a ≡ c) × (b ≤ d)) → (c < a) ⊎ ((c ≡ a) × (d ≤ b)) → (a ≡ c) × (b ≡ d)
    both (inl h) (inl k) = absurd (omega arith)
    both (inl h) (inr k) = absurd (omega arith)
    both (inr h) (inl k) = absurd (omega arith)
    both (inr h) (inr k) = (h.0, omega arith)

pub FirstBroken-once : (flat : Flat) (limits : Limits) (rule other : Rule) (a b c d : ℕ)
    → FirstBroken flat limits rule a b → FirstBroken flat limits other c d → IsOneReport rule other a b c d
FirstBroken-once flat limits rule other a b c d one two = elim (cases_order (place rule) (place other)) [
  | inl e ↦
      let same : rule ≡ other = same_place rule other e in
      let report : IsFirstReport (Broken rule flat limits) c d =
      subst (λ (r : Rule). IsFirstReport (Broken r flat limits) c d) (sym same) two.report in
      let numbers : (a ≡ c) × (b ≡ d) = same_report one.report report in
      record { one_rule = same; one_first = numbers.0; one_second = numbers.1 }
  | inr ne ↦ elim ne [
    | inl h ↦ absurd (two.kept_before rule h a b one.report.reported)
    | inr h ↦ absurd (one.kept_before other h c d two.report.reported)
  ]
]

-- the rules with a place below n are kept
abbrev pub KeepsBelow : ℕ → Flat → Limits → Type 0
KeepsBelow n flat limits = (rule : Rule) → place rule < n → Keeps rule flat limits

pub KeepsBelow-none : (flat : Flat) (limits : Limits) → KeepsBelow 0 flat limits
KeepsBelow-none flat limits rule h = absurd (omega arith)

-- one rule more
pub KeepsBelow-more : (flat : Flat) (limits : Limits) (n : ℕ) (rule : Rule) → place rule ≡ n → KeepsBelow n flat limits
    → Keeps rule flat limits → KeepsBelow (suc n) flat limits
KeepsBelow-more flat limits n rule e below kept other h = elim (cases_order (place other) n) [
  | inl same ↦ subst (λ (r : Rule). Keeps r flat limits) (same_place rule other (e ∙ sym same)) kept
  | inr ne ↦ elim ne [ inl less ↦ below other less | inr more ↦ absurd (omega arith) ]
]

pub KeepsRules-below : (flat : Flat) (limits : Limits) → KeepsBelow (length rules) flat limits → KeepsRules flat limits
KeepsRules-below flat limits below rule = below rule (slice_get_within rules (place rule) rule (at_place rule))

-- the same, by the rules themselves: before the first nothing is asked, and each that is kept leads to the next
pub KeepsBefore-first : (flat : Flat) (limits : Limits) → KeepsBefore E1 flat limits
KeepsBefore-first flat limits = KeepsBelow-none flat limits

pub KeepsBefore-next : (flat : Flat) (limits : Limits) (rule next : Rule) → place next ≡ suc (place rule)
    → KeepsBefore rule flat limits → Keeps rule flat limits → KeepsBefore next flat limits
KeepsBefore-next flat limits rule next e before kept =
    subst (λ (n : ℕ). KeepsBelow n flat limits) (sym e) (KeepsBelow-more flat limits (place rule) rule refl before kept)
