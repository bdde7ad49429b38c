-- The two cells of the first chip lie along their lines from 0 to 8,000 nanometres.
use Rattle.std.proofs.Common.{◌≡◌, ℕ, zero, suc, ◌≤◌, true, false, [], ◌∷◌, length, Some, refl, sym, ap, ◌∙◌, arith}
use Rattle.std.specs.Prelude.{slice_get, pos, negsuc}
use Rattle.std.proofs.lemmas.Option.{same_Some, slice_get_within}
use Rattle.std.proofs.lemmas.Slice.Zip.{AllZip-long}
use Rattle.geom.specs.declared.shapes.Shape.{Shape}
use Rattle.geom.specs.FirstChip.{drawn, first_flat}
use Rattle.layout_rules.specs.declared.layers.TheConstants.{EVEN_LINE, ODD_LINE}
use Rattle.layout_rules.specs.Layers.{is_frame}
use Rattle.layout_rules.specs.ExcitationLines.{IsLine}
use Rattle.layout_rules.specs.LinePlaces.{IsPlaced}
use Rattle.circuit_extracted.specs.FirstCircuit.{first_circuit}
use Rattle.shape_extract.specs.Extraction.{IsCellFrom, IsCircuitOf}
use Rattle.shape_extract.proofs.Each.{each_at}
use Rattle.pulse_sim.specs.Travelling.{IsSkew, skew_of}
use Rattle.layout_realises.specs.Rates.{IsSkewOf}

-- where the excitation has passed a cell; it comes to each at once
abbrev pub first_near : ℕ → ℕ
first_near c = 0

abbrev pub first_far : ℕ → ℕ
first_far zero = 8000
first_far (suc zero) = 8000
first_far (suc (suc c)) = 0

abbrev Known : ℕ → Shape → Type 0
Known n s = is_frame s ≡ true → IsPlaced first_flat.shapes s 0 8000

no_frame : {P : Type 0} → false ≡ true → P
no_frame e = absurd cc

pub beyond : (c : ℕ) → 2 ≤ c → first_far c ≤ first_near c
beyond zero le = absurd (omega arith)
beyond (suc zero) le = absurd (omega arith)
beyond (suc (suc c)) le = omega arith

module _ (even : IsLine first_flat.shapes EVEN_LINE (3 ∷ 4 ∷ []))
    (odd : IsLine first_flat.shapes ODD_LINE (13 ∷ 14 ∷ [])) where
  lower : IsPlaced first_flat.shapes (drawn 20 1 (pos 0) (pos 0) (pos 8000) (pos 10000)) 0 8000
  unfolding first_flat
  lower = record {
    bar = 4;
    is_bar = record { shape = _; shape_is = refl; line_so = refl; datatype_is = refl };
    over = refl;
    before = 3;
    before_shape = drawn 14 2 (negsuc 3999) (pos 0) (pos 0) (pos 10000);
    before_shape_is = refl;
    distance = 0;
    comes = record {
      layer = EVEN_LINE;
      path = 3 ∷ 4 ∷ [];
      line = even;
      place = 0;
      within = omega arith;
      first_is = refl;
      second_is = refl;
      distance_is = refl;
    };
    near_is = refl;
    far_is = refl;
  }

  upper : IsPlaced first_flat.shapes (drawn 20 1 (pos 0) (pos 14000) (pos 8000) (pos 24000)) 0 8000
  unfolding first_flat
  upper = record {
    bar = 14;
    is_bar = record { shape = _; shape_is = refl; line_so = refl; datatype_is = refl };
    over = refl;
    before = 13;
    before_shape = drawn 15 2 (negsuc 3999) (pos 14000) (pos 0) (pos 24000);
    before_shape_is = refl;
    distance = 0;
    comes = record {
      layer = ODD_LINE;
      path = 13 ∷ 14 ∷ [];
      line = odd;
      place = 0;
      within = omega arith;
      first_is = refl;
      second_is = refl;
      distance_is = refl;
    };
    near_is = refl;
    far_is = refl;
  }

  known : (f : ℕ) (s : Shape) → slice_get first_flat.shapes f ≡ Some s → Known f s
  unfolding first_flat
  known = each_at Known first_flat.shapes (
    λ e. lower,
    (
      no_frame,
      (
        no_frame,
        (
          no_frame,
          (
            no_frame,
            (
              no_frame,
              (
                no_frame,
                (
                  no_frame,
                  (
                    no_frame,
                    (
                      no_frame,
                      (
                        λ e. upper,
                        (no_frame, (no_frame, (no_frame, (no_frame, tt)))),
                      ),
                    ),
                  ),
                ),
              ),
            ),
          ),
        ),
      ),
    ),
  )

  module _ (is : IsCircuitOf first_flat first_circuit) where
    two : length is.frames ≡ 2
    unfolding first_circuit
    two = (let long = AllZip-long (IsCellFrom first_flat is.frames) first_circuit.cells is.frames is.cells in omega arith)

    is_one : (c f : ℕ) (frame : Shape) → slice_get is.frames c ≡ Some f → slice_get first_flat.shapes f ≡ Some frame
        → is_frame frame ≡ true
    is_one c f frame at got =
        let passes = is.are_frames.only c f at in
        ap is_frame (same_Some frame passes.shape (sym got ∙ passes.shape_is)) ∙ passes.passes_so

    placed : (c f : ℕ) (frame : Shape) → slice_get is.frames c ≡ Some f → slice_get first_flat.shapes f ≡ Some frame
        → IsPlaced first_flat.shapes frame (first_near c) (first_far c)
    placed zero f frame at got = known f frame got (is_one zero f frame at got)
    placed (suc zero) f frame at got = known f frame got (is_one 1 f frame at got)
    placed (suc (suc c)) f frame at got =
        absurd (let lt = slice_get_within is.frames (suc (suc c)) f at in omega (arith, two, lt))

    none : (c : ℕ) → length is.frames ≤ c → (first_near c ≡ 0) × (first_far c ≡ 0)
    none zero le = absurd (omega (arith, two, le))
    none (suc zero) le = absurd (omega (arith, two, le))
    none (suc (suc c)) le = (refl, refl)

    pub first_skew : IsSkew first_circuit first_near first_far (skew_of first_circuit first_near first_far)
        → IsSkewOf first_flat first_circuit 8000
    unfolding first_circuit
    first_skew skew = record {
      near = first_near;
      far = first_far;
      places = record { frames = is.frames; are_frames = is.are_frames; placed = placed; no_more = none };
      is_skew = skew;
    }
