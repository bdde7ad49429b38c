-- How the first report of a rule comes from searches over its parts.
use Rattle.std.proofs.Common.{◌≡◌, ℕ, ◌<◌, ◌≤◌, refl, sym, subst, arith, inl, inr}
use Rattle.std.proofs.lemmas.Bool.{cases_order}
use Rattle.layout_rules.specs.Reports.{ReportsNone, ReportsNoneAt, Alone, Afterwards, Otherwise, IsFirstReport}
use Rattle.layout_rules.specs.Reports.{IsFirstAt}

-- the least second at the least first number that has one
pub IsFirstReport-at : (report : ℕ → ℕ → Type 0) (a b : ℕ) → IsFirstAt report a b
    → ((c : ℕ) → c < a → ReportsNoneAt report c) → IsFirstReport report a b
IsFirstReport-at report a b here before = record {
  reported = here.reported;
  least = λ c d h. elim (cases_order a c) [
    | inl e ↦ inr (e, here.least d (subst (λ (n : ℕ). report n d) (sym e) h))
    | inr ne ↦ elim ne [ inl less ↦ inl less | inr more ↦ absurd (before c more d h) ]
  ];
}

-- a fault of one number
pub Alone-first : (fault : ℕ → Type 0) (a : ℕ) → fault a → IsFirstAt (Alone fault) a a
Alone-first fault a h = record { reported = (h, refl); least = λ d k. (let e : d ≡ a = k.1 in omega arith) }

-- a fault of one number, and none of a lesser one
pub least_first : (fault : ℕ → Type 0) (k : ℕ) → fault k → ((c : ℕ) → fault c → k ≤ c) → IsFirstReport (Alone fault) k k
least_first fault k here least = IsFirstReport-at (Alone fault) k k (Alone-first fault k here)
    (λ c less d h. let le : k ≤ c = least c h.0 in omega arith)

-- a fault of one number alone
pub alone_first : (fault : ℕ → Type 0) (k : ℕ) → fault k → ((c : ℕ) → fault c → c ≡ k)
    → IsFirstReport (Alone fault) k k
alone_first fault k here only = least_first fault k here (λ c h. let same : c ≡ k = only c h in omega arith)

pub Alone-none : (fault : ℕ → Type 0) (a : ℕ) → (fault a → ⊥) → ReportsNoneAt (Alone fault) a
Alone-none fault a h b k = h k.0

-- of two searches in turn, the first that finds something
pub Afterwards-first : (first second : ℕ → ℕ → Type 0) (a b : ℕ) → IsFirstReport first a b
    → IsFirstReport (Afterwards first second) a b
Afterwards-first first second a b found = record {
  reported = inl found.reported;
  least = λ c d h. elim h [ inl one ↦ found.least c d one | inr rest ↦ absurd (rest.0 a b found.reported) ];
}

pub Afterwards-second : (first second : ℕ → ℕ → Type 0) (a b : ℕ) → ReportsNone first → IsFirstReport second a b
    → IsFirstReport (Afterwards first second) a b
Afterwards-second first second a b none found = record {
  reported = inr (none, found.reported);
  least = λ c d h. elim h [ inl one ↦ absurd (none c d one) | inr rest ↦ found.least c d rest.1 ];
}

pub Afterwards-none : (first second : ℕ → ℕ → Type 0) → ReportsNone first → ReportsNone second
    → ReportsNone (Afterwards first second)
Afterwards-none first second none other a b h = elim h [ inl one ↦ none a b one | inr rest ↦ other a b rest.1 ]

-- of two searches at one number, the first that finds something
pub Otherwise-first : (first second : ℕ → ℕ → Type 0) (a b : ℕ) → IsFirstAt first a b
    → IsFirstAt (Otherwise first second) a b
Otherwise-first first second a b found = record {
  reported = inl found.reported;
  least = λ d h. elim h [ inl one ↦ found.least d one | inr rest ↦ absurd (rest.0 b found.reported) ];
}

pub Otherwise-second : (first second : ℕ → ℕ → Type 0) (a b : ℕ) → ReportsNoneAt first a → IsFirstAt second a b
    → IsFirstAt (Otherwise first second) a b
Otherwise-second first second a b none found = record {
  reported = inr (none, found.reported);
  least = λ d h. elim h [ inl one ↦ absurd (none d one) | inr rest ↦ found.least d rest.1 ];
}

pub Otherwise-none : (first second : ℕ → ℕ → Type 0) (a : ℕ) → ReportsNoneAt first a → ReportsNoneAt second a
    → ReportsNoneAt (Otherwise first second) a
Otherwise-none first second a none other b h = elim h [ inl one ↦ none b one | inr rest ↦ other b rest.1 ]

-- searches in turn that report nothing, and a fault of one number that none has
pub first_kept : (first second : ℕ → ℕ → Type 0) → ReportsNone (Afterwards first second) → ReportsNone first
first_kept first second h a b f = h a b (inl f)

pub second_kept : (first second : ℕ → ℕ → Type 0) → ReportsNone (Afterwards first second) → ReportsNone second
second_kept first second h a b s = h a b (inr (λ c d f. h c d (inl f), s))

pub alone_kept : (fault : ℕ → Type 0) → ReportsNone (Alone fault) → (n : ℕ) → fault n → ⊥
alone_kept fault h n f = h n n (f, refl)
