-- Facts of records that rest on what came before them, over the parts of a stream.
use Rattle.std.proofs.Common.{ℕ, List, [], ◌∷◌, ◌++◌, Bool, true, false, eqb, sym, subst, append_assoc}
use Rattle.std.specs.List.{AllByRecursion}
use Rattle.gds_records.specs.Records.{Record}
use Rattle.gds_records.specs.Drawing.{starts, up_to, parts, element_parts}

-- the fact of each record, from this state on
abbrev pub From : {S : Type 0} → (S → Record → S) → (S → Record → Type 0) → S → List Record → Type 0
From next Fact s [] = Unit {0}
From next Fact s (r ∷ rs) = Fact s r × From next Fact (next s r) rs

-- from some state on
pub record Kept {S : Type 0} (next : S → Record → S) (Fact : S → Record → Type 0) (q : List Record) : Type 0 where
  pub state : S
  pub good : From next Fact state q

module _ {S : Type 0} (next : S → Record → S) (Fact : S → Record → Type 0) where
  pub front_kept : (s : S) (xs ys : List Record) → From next Fact s (xs ++ ys) → From next Fact s xs
  front_kept s [] ys g = tt
  front_kept s (x ∷ xs) ys g = (g.0, front_kept (next s x) xs ys g.1)

  pub back_kept : (s : S) (xs ys : List Record) → From next Fact s (xs ++ ys) → Kept next Fact ys
  back_kept s [] ys g = record { state = s; good = g }
  back_kept s (x ∷ xs) ys g = back_kept (next s x) xs ys g.1

  pub starts_kept : (s : S) (rs : List Record) → From next Fact s rs → AllByRecursion (Kept next Fact) (starts rs)
  starts_kept s [] g = tt
  starts_kept s (r ∷ rs) g = turn (eqb r.kind 5) (starts_kept (next s r) rs g.1)
    where
      turn : (z : Bool) → AllByRecursion (Kept next Fact) (starts rs)
          → AllByRecursion (Kept next Fact)
          (elim z as (λ (x : Bool). List (List Record)) [ true ↦ rs ∷ starts rs | false ↦ starts rs ])
      turn true h = (record { state = next s r; good = g.1 }, h)
      turn false h = h

  up_to_kept : (k : ℕ) (s : S) (rs : List Record) → From next Fact s rs → From next Fact s (up_to k rs)
  up_to_kept k s [] g = tt
  up_to_kept k s (r ∷ rs) g = turn (eqb r.kind k) (up_to_kept k (next s r) rs g.1)
    where
      turn : (z : Bool) → From next Fact (next s r) (up_to k rs)
          → From next Fact s (elim z as (λ (x : Bool). List Record) [ true ↦ [] | false ↦ r ∷ up_to k rs ])
      turn true h = tt
      turn false h = (g.0, h)

  parts_kept : (k : ℕ) (s : S) (front rs : List Record) → From next Fact s (front ++ rs)
      → AllByRecursion (Kept next Fact) (parts k front rs)
  parts_kept k s front [] g = tt
  parts_kept k s front (r ∷ rs) g =
      let h : From next Fact s ((front ++ r ∷ []) ++ rs) = subst (λ (x : List Record). From next Fact s x)
      (sym (append_assoc front (r ∷ []) rs)) g in
      let b = back_kept s (front ++ r ∷ []) rs h in
      turn (eqb r.kind k) h (parts_kept k b.state [] rs b.good) (parts_kept k s (front ++ r ∷ []) rs h)
    where
      turn : (z : Bool) → From next Fact s ((front ++ r ∷ []) ++ rs) → AllByRecursion (Kept next Fact) (parts k [] rs)
          → AllByRecursion (Kept next Fact) (parts k (front ++ r ∷ []) rs)
          → AllByRecursion (Kept next Fact)
          (elim z as (λ (x : Bool). List (List Record)) [
            | true ↦ (front ++ r ∷ []) ∷ parts k [] rs
            | false ↦ parts k (front ++ r ∷ []) rs
          ])
      turn true h a b = (record { state = s; good = front_kept s (front ++ r ∷ []) rs h }, a)
      turn false h a b = b

  pub elements_kept : (p : List Record) → Kept next Fact p → AllByRecursion (Kept next Fact) (element_parts p)
  elements_kept [] a = tt
  elements_kept (r ∷ rs) a = parts_kept 17 (next a.state r) [] (up_to 7 rs) (up_to_kept 7 (next a.state r) rs a.good.1)
