-- What the walk closes is a cycle.
use Rattle.std.proofs.Common.{◌≡◌, ℕ, zero, suc, ◌+◌, ◌||◌, Bool, true, false, List, [], ◌∷◌, ◌++◌, length, reverse}
use Rattle.std.proofs.Common.{Option, Some, None, refl, sym, ap, ◌∙◌, subst, arith, inl, inr, append_assoc}
use Rattle.std.specs.Prelude.{nat_eq}
use Rattle.std.specs.List.{before_first, position_or_len, range_with_len}
use Rattle.std.proofs.lemmas.Bool.{cases_Bool, eqb-true, eqb-false}
use Rattle.std.proofs.lemmas.List.{reverse-append}
use Rattle.blif_read.specs.Parts.{operands}
use Rattle.blif_read.specs.Walk.{first_of, on, since, closes, first_cycle, Leads, IsCycle}
use Rattle.blif_read.specs.declared.netlist.Def.{Def}

-- the nearest signal of the path reads s, and each other reads the one that is nearer
abbrev Arrives : (ℕ → List ℕ) → ℕ → List ℕ → Type 0
Arrives reads s [] = Unit {0}
Arrives reads s (p ∷ path) = (on (reads p) s ≡ true) × Arrives reads p path

stops : (p : ℕ → Bool) (x : ℕ) (xs : List ℕ) → p x ≡ true → before_first p (x ∷ xs) ≡ []
stops p x xs e = rw e refl

passes : (p : ℕ → Bool) (x : ℕ) (xs : List ℕ) → p x ≡ false → before_first p (x ∷ xs) ≡ x ∷ before_first p xs
passes p x xs e = rw e (let s : 1 + position_or_len p xs ≡ suc (position_or_len p xs) = omega arith in rw s refl)

-- the path from the last visit of s on leads to s
leads : (reads : ℕ → List ℕ) (s x : ℕ) (path tail : List ℕ) → Arrives reads x path → on path s ≡ true
    → Leads reads (x ∷ tail) → Leads reads (s ∷ reverse (before_first (nat_eq s) path) ++ x ∷ tail)
leads reads s x [] tail a e l = absurd (cc)
leads reads s x (p ∷ path) tail a e l = elim (cases_Bool (nat_eq s p)) [
  | inl same ↦
      let is : p ≡ s = sym (eqb-true s p same) in
      subst (λ front. Leads reads (s ∷ reverse front ++ x ∷ tail)) (sym (stops (nat_eq s) p path same))
      (subst (λ q. on (reads q) x ≡ true) is a.0, l)
  | inr other ↦
      let rest : on path s ≡ true = subst (λ b. b || on path s ≡ true) other e in
      let shape : reverse (before_first (nat_eq s) (p ∷ path)) ++ x ∷ tail ≡ reverse
      (before_first (nat_eq s) path) ++ p ∷ x ∷ tail =
      ap (λ front. reverse front ++ x ∷ tail) (passes (nat_eq s) p path other)
      ∙ ap (λ front. front ++ x ∷ tail) (reverse-append (p ∷ []) (before_first (nat_eq s) path))
      ∙ append_assoc (reverse (before_first (nat_eq s) path)) (p ∷ []) (x ∷ tail) in
      subst (λ more. Leads reads (s ∷ more)) (sym shape) (leads reads s p path (x ∷ tail) a.1 rest (a.0, l))
]

-- the item that gives the first answer
record Gives {Y : Type 0} (f : ℕ → Option Y) (xs : List ℕ) (y : Y) : Type 0 where
  item : ℕ
  among : on xs item ≡ true
  gives : f item ≡ Some y

or_true : (a : Bool) {b : Bool} → b ≡ true → a || b ≡ true
or_true true e = refl
or_true false e = e

same_is : (q : ℕ) (b : Bool) → nat_eq q q || b ≡ true
same_is q b = elim (cases_Bool (nat_eq q q)) [ inl same ↦ rw same refl | inr other ↦ absurd (eqb-false q q other refl) ]

given : {Y : Type 0} (f : ℕ → Option Y) (xs : List ℕ) (y : Y) → first_of f xs ≡ Some y → Gives f xs y
given f [] y e = absurd (cc)
given {Y = Y} f (x ∷ xs) y e = one (f x) refl (λ rest. given f xs y rest) e
  where
    one : (o : Option Y) → f x ≡ o → (first_of f xs ≡ Some y → Gives f xs y)
        → (elim o as (λ (z : Option Y). Option Y) [ Some z ↦ Some z | None ↦ first_of f xs ]) ≡ Some y
        → Gives f (x ∷ xs) y
    one (Some z) is later e = record { item = x; among = same_is x (on xs x); gives = is ∙ e }
    one None is later e = let found =
        later e in record { item = found.item; among = or_true (nat_eq found.item x) found.among; gives = found.gives }

closed : (reads : ℕ → List ℕ) (steps : ℕ) (path : List ℕ) (s : ℕ) (cycle : List ℕ) → Arrives reads s path
    → closes reads steps path s ≡ Some cycle → IsCycle reads cycle
closed reads zero path s cycle a e = absurd (cc)
closed reads (suc steps) path s cycle a e = one (on path s) refl
    (λ next among. closed reads steps (s ∷ path) next cycle (among, a)) e
  where
    one : (b : Bool) → on path s ≡ b
        → ((next : ℕ) → on (reads s) next ≡ true → closes reads steps (s ∷ path) next ≡ Some cycle
        → IsCycle reads cycle) → (elim b as (λ (x : Bool). Option (List ℕ))
        [ true ↦ Some (since s path) | false ↦ first_of (closes reads steps (s ∷ path)) (reads s) ]) ≡ Some cycle
        → IsCycle reads cycle
    one true is later e = let whole : since s path ≡ cycle = cc in subst (IsCycle reads) whole
        (leads reads s s path [] a is tt)
    one false is later e = let next = given (closes reads steps (s ∷ path))
        (reads s) cycle e in later next.item next.among next.gives

pub first_is_cycle : (inputs : ℕ) (defs : List Def) (cycle : List ℕ) → first_cycle inputs defs ≡ Some cycle
    → IsCycle (operands inputs defs) cycle
first_is_cycle inputs defs cycle e =
    let start = given (closes (operands inputs defs) (inputs + length defs + 1) [])
    (range_with_len inputs (length defs)) cycle e in
    closed (operands inputs defs) (inputs + length defs + 1) [] start.item cycle tt start.gives
