-- Lengths of nets, added up shape by shape.
use Rattle.std.proofs.Common.{◌≡◌, ◌≢◌, ℕ, ◌+◌, ◌-◌, ◌^◌, ◌<◌, ◌≤◌, Bool, true, false, min, List, length, get_or, take}
use Rattle.std.proofs.Common.{set, refl, sym, ap, ◌∙◌, arith, inl, inr, eq-eqb}
use Rattle.std.specs.Prelude.{slice_index, sum_by, zip}
use Rattle.std.proofs.Math.ListN.{length-set}
use Rattle.std.proofs.lemmas.Bool.{cases_eq, ne_eqb}
use Rattle.std.proofs.lemmas.List.{take_all, get_or-set_same, get_or-set_other}
use Rattle.std.proofs.lemmas.List.Sums.{sum_by_more}
use Rattle.std.proofs.lemmas.Slice.Zip.{get_or-zip, length-zip}
use Rattle.geom.specs.declared.shapes.Shape.{Shape}
use Rattle.layout_rules.specs.Layers.{is_metal}
use Rattle.layout_rules.specs.LengthRule.{longer_side, length_in}
use Rattle.shape_extract.specs.Lengths.{AreLengths}

-- the lengths of the first n shapes
pub record LengthsOf (n : ℕ) (shapes : List Shape) (nets lengths : List ℕ) : Type 0 where
  pub at : (net : ℕ) → net < length lengths
      → slice_index lengths net ≡ min (sum_by (length_in net) (take n (zip shapes nets))) (2 ^ 64 - 1)

module _ (shapes : List Shape) (nets lengths : List ℕ) (n : ℕ) (s : Shape) (lt : n < length shapes)
    (long : length nets ≡ length shapes) (is : s ≡ get_or shapes n s) where
  here : ℕ → ℕ
  here net = length_in net (s, get_or nets n 0)

  one_more : (net : ℕ) → sum_by (length_in net) (take (n + 1) (zip shapes nets))
      ≡ sum_by (length_in net) (take n (zip shapes nets)) + here net
  unfolding here
  one_more net =
      let within : n < length (zip shapes nets) = omega (arith, length-zip shapes nets) in
      let item : get_or (zip shapes nets) n (s, 0) ≡ (s, get_or nets n 0) = get_or-zip shapes nets n (s, 0) lt
      (omega arith) ∙ ap (λ (t : Shape). (t, get_or nets n 0)) (sym is) in
      sum_by_more (length_in net) (zip shapes nets) n (s, 0) within
      ∙ ap (λ (p : Shape × ℕ). sum_by (length_in net) (take n (zip shapes nets)) + length_in net p) item

  nothing : (net : ℕ) (b : Bool) → is_metal s ≡ b → (b ≡ true → net ≢ get_or nets n 0) → here net ≡ 0
  unfolding here
  nothing net false e ne = rw e refl
  nothing net true e ne = rw (e, ne_eqb (get_or nets n 0) net (λ q. ne refl (sym q))) refl

  own : (net : ℕ) → is_metal s ≡ true → net ≡ get_or nets n 0 → here net ≡ longer_side s.rect
  unfolding here
  own net e same = rw (e, eq-eqb (get_or nets n 0) net (sym same)) refl

  pub lengths_same : is_metal s ≡ false → LengthsOf n shapes nets lengths → LengthsOf (n + 1) shapes nets lengths
  lengths_same e are = record {
    at = λ net lt. (let none : here net ≡ 0 = nothing net false e (λ k. absurd cc) in
        omega (arith, are.at net lt, one_more net));
  }

  pub lengths_more : is_metal s ≡ true → get_or nets n 0 < length lengths → LengthsOf n shapes nets lengths → (v : ℕ)
      → v ≡ min (get_or lengths (get_or nets n 0) 0 + longer_side s.rect) (2 ^ 64 - 1)
      → LengthsOf (n + 1) shapes nets (set lengths (get_or nets n 0) v)
  lengths_more e within are v v_is = record {
    at = λ net net_lt. elim (cases_eq net (get_or nets n 0)) [
      | inl same ↦
          let written : get_or (set lengths (get_or nets n 0) v) net 0 ≡ v =
          ap (λ (k : ℕ). get_or (set lengths (get_or nets n 0) v) k 0) same
          ∙ get_or-set_same lengths (get_or nets n 0) v 0 within in
          let add : here net ≡ longer_side s.rect = own net e same in
          let old : get_or lengths net 0 ≡ get_or lengths (get_or nets n 0) 0 =
          ap (λ (k : ℕ). get_or lengths k 0) same in
          omega (arith, are.at net (omega arith), one_more net)
      | inr other ↦
          let kept : get_or (set lengths (get_or nets n 0) v) net 0 ≡ get_or lengths net 0 =
          get_or-set_other lengths (get_or nets n 0) net v 0 other in
          let none : here net ≡ 0 = nothing net true e (λ k. other) in
          omega (
            arith,
            length-set lengths (get_or nets n 0) v,
            are.at net
                (omega (arith, length-set lengths (get_or nets n 0) v)),
            one_more net,
          )
    ];
  }

pub lengths_all : (n : ℕ) (shapes : List Shape) (nets lengths : List ℕ) → length shapes ≤ n
    → LengthsOf n shapes nets lengths → AreLengths shapes nets lengths
lengths_all n shapes nets lengths all are net lt =
    are.at net lt ∙ ap (λ (l : List (Shape × ℕ)). min (sum_by (length_in net) l) (2 ^ 64 - 1))
    (take_all n (zip shapes nets) (omega (arith, length-zip shapes nets)))
