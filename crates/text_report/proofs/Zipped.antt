-- Shapes with their nets, as one list.
use Rattle.std.proofs.Common.{◌≡◌, ℕ, zero, suc, ◌<◌, List, [], ◌∷◌, length, get_or, Some, sym, ap, ◌∙◌, arith}
use Rattle.std.specs.Prelude.{slice_get, slice_index, zip}
use Rattle.std.proofs.lemmas.Option.{same_Some}
use Rattle.std.proofs.lemmas.Slice.Zip.{get_or-zip, length-zip}
use Rattle.geom.specs.declared.shapes.Shape.{Shape}

-- the shape that was read with its net
pub zip_read : (shapes : List Shape) (nets : List ℕ) (n : ℕ) (s : Shape) → n < length shapes
    → length nets ≡ length shapes → s ≡ get_or shapes n s → get_or (zip shapes nets) n (s, 0) ≡ (s, get_or nets n 0)
zip_read shapes nets n s lt long is =
    get_or-zip shapes nets n (s, 0) lt (omega (arith, long))
    ∙ ap (λ (t : Shape). (t, get_or nets n 0)) (sym is)

pub zip_long : (shapes : List Shape) (nets : List ℕ) → length nets ≡ length shapes
    → length (zip shapes nets) ≡ length shapes
zip_long shapes nets long = omega (arith, length-zip shapes nets)

-- what stands at a number of the pairs
pub zip_at : (shapes : List Shape) (nets : List ℕ) (n : ℕ) (pair : Shape × ℕ) → slice_get (zip shapes nets) n ≡ Some
    pair
    → (slice_get shapes n ≡ Some pair.0) × (slice_index nets n ≡ pair.1)
zip_at [] nets n pair e = absurd cc
zip_at (s ∷ ss) [] n pair e = absurd cc
zip_at (s ∷ ss) (m ∷ ms) zero pair e =
    let same : (s, m) ≡ pair = same_Some (s, m) pair e in
    (ap (λ (p : Shape × ℕ). Some p.0) same, ap (λ (p : Shape × ℕ). p.1) same)
zip_at (s ∷ ss) (m ∷ ms) (suc n) pair e = zip_at ss ms n pair e
