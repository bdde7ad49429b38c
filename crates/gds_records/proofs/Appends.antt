-- What a buffer has after one thing and another were put behind it.
use Rattle.std.proofs.Common.{◌≡◌, ℕ, ℤ, List, [], ◌++◌, sym, ap, ◌∙◌, append_assoc, append-nil}
use Rattle.std.specs.Int.{w32, to_be_bytes, cast_unsigned}
use Rattle.std.specs.List.{flat_map}
use Rattle.geom.specs.declared.layout.Element.TheVariants.{Box}
use Rattle.geom.specs.declared.shapes.Shape.{Shape}
use Rattle.gds_records.specs.declared.codes.TheConstants.{XY, FOUR_BYTE_INTEGER, ASCII_STRING}
use Rattle.gds_records.specs.Records.{record_with, spelled}
use Rattle.gds_records.specs.Writing.{corner_bits, element_records, point, padded}
use Rattle.gds_records.specs.Code.Buffer.{Gains, boundary_records}

pub then : {m n k a b : List ℕ} → Gains m n a → Gains n k b → Gains m k (a ++ b)
then {m = m} {a = a} {b = b} e f = record { whole = f.whole ∙ ap (λ (x : List ℕ). x ++ b) e.whole ∙ append_assoc m a b }

pub last : {m n a : List ℕ} → Gains m n a → Gains m n (a ++ [])
last {m = m} {a = a} e = record { whole = e.whole ∙ ap (λ (x : List ℕ). m ++ x) (sym (append-nil a)) }

-- coordinates by their bits
pub boundary_at : {m n : List ℕ} (x0 y0 x1 y1 : ℕ) (s : Shape) → x0 ≡ cast_unsigned w32 s.rect.x0
    → y0 ≡ cast_unsigned w32 s.rect.y0 → x1 ≡ cast_unsigned w32 s.rect.x1 → y1 ≡ cast_unsigned w32 s.rect.y1
    → Gains m n (flat_map spelled (boundary_records s.layer s.datatype (corner_bits x0 y0 x1 y1)))
    → Gains m n (flat_map spelled (element_records [] (Box s)))
boundary_at {m} {n} x0 y0 x1 y1 s a b c d g =
    record {
      whole = g.whole ∙ (λ i. m ++ flat_map spelled
          (boundary_records s.layer s.datatype (corner_bits (a i) (b i) (c i) (d i))));
    }

pub point_at : {m n : List ℕ} (p q : ℕ) (x y : ℤ) → p ≡ cast_unsigned w32 x → q ≡ cast_unsigned w32 y
    → Gains m n (spelled (record_with XY FOUR_BYTE_INTEGER (to_be_bytes w32 p ++ to_be_bytes w32 q)))
    → Gains m n (spelled (record_with XY FOUR_BYTE_INTEGER (point x y)))
point_at {m} {n} p q x y a b g =
    record {
      whole = g.whole
          ∙ (λ i. m ++ spelled (record_with XY FOUR_BYTE_INTEGER (to_be_bytes w32 (a i) ++ to_be_bytes w32 (b i))));
    }

-- a text that is another's
pub text_at : {m n : List ℕ} (kind : ℕ) (t u : List ℕ) → t ≡ u
    → Gains m n (spelled (record_with kind ASCII_STRING (padded t)))
    → Gains m n (spelled (record_with kind ASCII_STRING (padded u)))
text_at {m} {n} kind t u e g =
    record { whole = g.whole ∙ (λ i. m ++ spelled (record_with kind ASCII_STRING (padded (e i)))) }
