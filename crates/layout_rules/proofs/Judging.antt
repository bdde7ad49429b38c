-- A rule reports nothing, or has a first report: from decided faults below a bound, through searches in turn.
use Rattle.std.proofs.Common.{ℕ, ◌<◌, ◌≤◌, ◌⊎◌, inl, inr}
use Rattle.std.proofs.lemmas.Bool.{cases_lt}
use Rattle.layout_rules.specs.Reports.{ReportsNone, ReportsNoneAt, Alone, Afterwards, Otherwise, IsFirstReport}
use Rattle.layout_rules.specs.Reports.{IsFirstAt}
use Rattle.layout_rules.proofs.ReportLaws.{IsFirstReport-at, Alone-first, Alone-none, Afterwards-first}
use Rattle.layout_rules.proofs.ReportLaws.{Afterwards-second, Afterwards-none}
use Rattle.layout_rules.proofs.ReportLaws.{Otherwise-first, Otherwise-second, Otherwise-none}
use Rattle.layout_rules.proofs.Deciding.{Least, none_or_least}

pub record HasFirst (report : ℕ → ℕ → Type 0) : Type 0 where
  pub first : ℕ
  pub second : ℕ
  pub is_first : IsFirstReport report first second

pub record HasFirstAt (report : ℕ → ℕ → Type 0) (a : ℕ) : Type 0 where
  pub second : ℕ
  pub is_first : IsFirstAt report a second

-- none is reported, or one first
abbrev pub Judged : (ℕ → ℕ → Type 0) → Type 0
Judged report = ReportsNone report ⊎ HasFirst report

abbrev pub JudgedAt : (ℕ → ℕ → Type 0) → ℕ → Type 0
JudgedAt report a = ReportsNoneAt report a ⊎ HasFirstAt report a

-- ---- at one first number

abbrev pub judged_at : (report : ℕ → ℕ → Type 0) (a n : ℕ) → ((b : ℕ) → Dec (report a b))
    → ((b : ℕ) → report a b → b < n) → JudgedAt report a
judged_at report a n decided within = elim (none_or_least (report a) n decided within) [
  | inl none ↦ inl none
  | inr least ↦ inr (record { second = least.number; is_first = first least })
]
  where
    first : (least : Least (report a)) → IsFirstAt report a least.number
    first least = record {
      reported = least.holds;
      least = λ d h. not_below d least.number (λ lt. least.none_below d lt h);
    }
      where
        not_below : (d b : ℕ) → (d < b → ⊥) → b ≤ d
        not_below d b none = elim (cases_lt d b) [ inl lt ↦ absurd (none lt) | inr le ↦ le ]

abbrev pub alone_at : (fault : ℕ → Type 0) (a : ℕ) → Dec (fault a) → JudgedAt (Alone fault) a
alone_at fault a (yes h) = inr (record { second = a; is_first = Alone-first fault a h })
alone_at fault a (no none) = inl (Alone-none fault a none)

abbrev pub otherwise_at : (first second : ℕ → ℕ → Type 0) (a : ℕ) → JudgedAt first a → JudgedAt second a
    → JudgedAt (Otherwise first second) a
otherwise_at first second a (inr found) other =
    inr (record { second = found.second; is_first = Otherwise-first first second a found.second found.is_first })
otherwise_at first second a (inl none) (inr found) =
    inr (record { second = found.second; is_first = Otherwise-second first second a found.second none found.is_first })
otherwise_at first second a (inl none) (inl neither) = inl (Otherwise-none first second a none neither)

-- ---- at all of them

abbrev pub judged : (report : ℕ → ℕ → Type 0) (n : ℕ) → ((a : ℕ) → JudgedAt report a)
    → ((a b : ℕ) → report a b → a < n) → Judged report
judged report n at within =
    elim (none_or_least (HasFirstAt report) n (λ a. found_at a (at a)) (λ a h. within a h.second h.is_first.reported)) [
      | inl none ↦ inl (λ a. none_at a (at a) (none a))
      | inr least ↦ inr (record {
        first = least.number;
        second = least.holds.second;
        is_first = IsFirstReport-at report least.number least.holds.second least.holds.is_first
            (λ c lt. none_at c (at c) (least.none_below c lt));
      })
    ]
  where
    found_at : (a : ℕ) → JudgedAt report a → Dec (HasFirstAt report a)
    found_at a (inl none) = no (λ h. none h.second h.is_first.reported)
    found_at a (inr found) = yes found

    none_at : (a : ℕ) → JudgedAt report a → (HasFirstAt report a → ⊥) → ReportsNoneAt report a
    none_at a (inl none) not_so = none
    none_at a (inr found) not_so = absurd (not_so found)

abbrev pub judged_pairs : (report : ℕ → ℕ → Type 0) (n : ℕ) → ((a b : ℕ) → Dec (report a b))
    → ((a b : ℕ) → report a b → (a < n) × (b < n)) → Judged report
judged_pairs report n decided within = judged report n (λ a. judged_at report a n (decided a) (λ b h. (within a b h).1))
    (λ a b h. (within a b h).0)

abbrev pub judged_alone : (fault : ℕ → Type 0) (n : ℕ) → ((a : ℕ) → Dec (fault a))
    → ((a : ℕ) → fault a → a < n) → Judged (Alone fault)
judged_alone fault n decided within = judged (Alone fault) n (λ a. alone_at fault a (decided a)) (λ a b h. within a h.0)

abbrev pub judged_afterwards : (first second : ℕ → ℕ → Type 0) → Judged first → Judged second
    → Judged (Afterwards first second)
judged_afterwards first second (inr found) other = inr (record {
  first = found.first;
  second = found.second;
  is_first = Afterwards-first first second found.first found.second found.is_first;
})
judged_afterwards first second (inl none) (inr found) = inr (record {
  first = found.first;
  second = found.second;
  is_first = Afterwards-second first second found.first found.second none found.is_first;
})
judged_afterwards first second (inl none) (inl neither) = inl (Afterwards-none first second none neither)
