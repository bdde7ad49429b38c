-- The circuit of the first chip is that of its two frames.
use Rattle.std.proofs.Common.{◌≡◌, ◌≢◌, ℕ, zero, suc, ◌<◌, ◌≤◌, true, false, List, [], ◌∷◌, Some, refl, sym, ap, subst}
use Rattle.std.proofs.Common.{◌∙◌, arith, eq-eqb, Bool, inl, inr, ◌&&◌, ◌||◌}
use Rattle.std.specs.Prelude.{slice_get, slice_index, pos, not, ◌==◌}
use Rattle.std.proofs.lemmas.Bool.{or_cases, and_from, both_ways, eqb-true}
use Rattle.std.proofs.lemmas.Option.{same_Some}
use Rattle.circuit.specs.CellKinds.{inputs_of}
use Rattle.circuit.specs.declared.cell_kind.CellKind.TheVariants.{Buffer}
use Rattle.rowed.specs.declared.source.Source.{Source}
use Rattle.geom.specs.declared.shapes.Shape.{Shape}
use Rattle.geom.specs.FirstChip.{drawn, first_flat}
use Rattle.geom.specs.Rectangle.{overlap}
use Rattle.layout_rules.specs.declared.layers.TheConstants.{INPUT_PIN, OUTPUT_PIN, BAR, START}
use Rattle.layout_rules.specs.Layers.{is_frame, is_line}
use Rattle.layout_rules.proofs.NetLaws.{one_number}
use Rattle.layout_rules.specs.Reports.{Passes}
use Rattle.layout_rules.specs.Pins.{lies_in, IsPinOf}
use Rattle.layout_rules.specs.Labels.{letter_i}
use Rattle.layout_rules.specs.ExcitationLines.{meet, phase_of}
use Rattle.layout_rules.specs.CircuitRules.{IsSource}
use Rattle.layout_rules.proofs.LinePaths.{path_from_chain}
use Rattle.layout_rules.proofs.LinesAgree.{laid_out, none_cut_off}
use Rattle.layout_rules.proofs.FirstChipKeeps.{excitation_kept as lines_kept}
use Rattle.circuit_extracted.specs.declared.cells.Feed.TheVariants.{Nothing}
use Rattle.circuit_extracted.specs.declared.cells.ExCell.{ExCell}
use Rattle.circuit_extracted.specs.Circuits.{feed_at}
use Rattle.shape_extract.specs.Frames.{comes_before, HasPlace, AreFrames}
use Rattle.shape_extract.specs.Extraction.{IsNamed, IsDrivenBy, IsFeedAt, IsInPhase, IsCellFrom, IsOutputFrom}
use Rattle.shape_extract.specs.Extraction.{IsCircuitOf}
use Rattle.circuit_extracted.specs.FirstCircuit.{lower_buffer, upper_buffer, upper_output, first_nets, first_circuit}
use Rattle.shape_extract.proofs.Each.{all_pass, passes_at}
use Rattle.shape_extract.proofs.FirstNets.{first_nets_are}

abbrev frames : List ℕ
frames = 0 ∷ 10 ∷ []

abbrev lower_frame : Shape
lower_frame = drawn 20 1 (pos 0) (pos 0) (pos 8000) (pos 10000)

abbrev upper_frame : Shape
upper_frame = drawn 20 1 (pos 0) (pos 14000) (pos 8000) (pos 24000)

-- ---- the frames

-- computed: the other shapes are no frames
placed : all_pass (λ f s. not (is_frame s) || (f == 0 || f == 10)) 0 first_flat.shapes ≡ true
unfolding first_flat
placed = refl

place_of : (f : ℕ) (b : Bool) → b ≡ true → (not b || (f == 0 || f == 10)) ≡ true → HasPlace frames f
place_of f true e h = elim (or_cases (f == 0) (f == 10) h) [
  | inl first ↦ record { place = 0; there = ap Some (sym (eqb-true f 0 first)) }
  | inr other ↦ record { place = 1; there = ap Some (sym (eqb-true f 10 other)) }
]
place_of f false e h = absurd cc

only_frames : (c f : ℕ) → slice_get frames c ≡ Some f → Passes is_frame first_flat.shapes f
unfolding first_flat
only_frames zero f is = subst (Passes is_frame first_flat.shapes) (same_Some 0 f is)
    (record { shape = _; shape_is = refl; passes_so = refl })
only_frames (suc zero) f is = subst (Passes is_frame first_flat.shapes) (same_Some 10 f is)
    (record { shape = _; shape_is = refl; passes_so = refl })
only_frames (suc (suc c)) f is = absurd cc

in_order : (c d f g : ℕ) (s t : Shape) → c < d → slice_get frames c ≡ Some f → slice_get frames d ≡ Some g
    → slice_get first_flat.shapes f ≡ Some s → slice_get first_flat.shapes g ≡ Some t → comes_before s f t g ≡ true
unfolding first_flat
in_order zero zero f g s t lt at_c at_d at_f at_g = absurd (omega arith)
in_order zero (suc zero) f g s t lt at_c at_d at_f at_g =
    let lower : slice_get first_flat.shapes 0 ≡ Some s = subst (λ (n : ℕ). slice_get first_flat.shapes n ≡ Some s)
    (sym (same_Some 0 f at_c)) at_f in
    let upper : slice_get first_flat.shapes 10 ≡ Some t = subst (λ (n : ℕ). slice_get first_flat.shapes n ≡ Some t)
    (sym (same_Some 10 g at_d)) at_g in
    ap (λ (n : ℕ). comes_before s n t g) (sym (same_Some 0 f at_c))
    ∙ ap (λ (n : ℕ). comes_before s 0 t n) (sym (same_Some 10 g at_d))
    ∙ ap (λ (x : Shape). comes_before x 0 t 10) (sym (same_Some lower_frame s lower))
    ∙ ap (λ (x : Shape). comes_before lower_frame 0 x 10) (sym (same_Some upper_frame t upper))
in_order zero (suc (suc d)) f g s t lt at_c at_d at_f at_g = absurd cc
in_order (suc c) zero f g s t lt at_c at_d at_f at_g = absurd (omega arith)
in_order (suc zero) (suc zero) f g s t lt at_c at_d at_f at_g = absurd (omega arith)
in_order (suc (suc c)) (suc zero) f g s t lt at_c at_d at_f at_g = absurd cc
in_order (suc c) (suc (suc d)) f g s t lt at_c at_d at_f at_g = absurd cc

frames_are : AreFrames first_flat.shapes frames
frames_are = record {
  each = λ f passes. place_of f (is_frame passes.shape) passes.passes_so
      (passes_at _ first_flat.shapes placed f passes.shape passes.shape_is);
  only = only_frames;
  in_order = in_order;
}

-- ---- pins, bars and labels

pin_of : (f layer number p : ℕ) (pin frame : Shape) → slice_get first_flat.shapes p ≡ Some pin
    → slice_get first_flat.shapes f ≡ Some frame → lies_in pin frame ≡ true → pin.layer ≡ layer → pin.datatype ≡ number
    → IsPinOf first_flat.shapes f layer number p
pin_of f layer number p pin frame a b c d e =
    record { pin = pin; frame = frame; pin_is = a; frame_is = b; lies_so = c; of_layer = d; of_number = e }

-- the bar b after the start a
excited : (a b phase : ℕ) (start bar frame : Shape) → a ≢ b → slice_get first_flat.shapes a ≡ Some start
    → slice_get first_flat.shapes b ≡ Some bar
    → is_line start ≡ true → start.datatype ≡ START → is_line bar ≡ true → bar.datatype ≡ BAR → meet start bar ≡ true
    → phase_of start bar ≡ phase → overlap bar.rect frame.rect ≡ true
    → IsInPhase first_flat.shapes frame phase
excited a b phase start bar frame apart at_a at_b start_line start_part bar_line bar_part meets phase_is over = record {
  number = b;
  bar = record {
    is_bar = record { shape = bar; shape_is = at_b; line_so = bar_line; datatype_is = bar_part };
    before = a;
    before_shape = start;
    before_shape_is = at_a;
    is_before = path_from_chain first_flat.shapes (laid_out first_flat.shapes lines_kept)
        (none_cut_off first_flat.shapes lines_kept) a b (record {
          rest = [];
          chain = (
            record { apart = apart; first = start; second = bar; first_is = at_a; second_is = at_b; meet_so = meets },
            record { shape = start; shape_is = at_a; line_so = start_line; datatype_is = start_part },
          );
          onward = tt;
        });
    phase_is = phase_is;
  };
  over = over;
}

-- a buffer has no feed past its first
no_more : (cell : ExCell) → cell.feed1 ≡ Nothing → cell.feed2 ≡ Nothing → (i : ℕ) → inputs_of Buffer ≤ i
    → feed_at cell i ≡ Nothing
no_more cell second third zero le = absurd (omega arith)
no_more cell second third (suc zero) le = second
no_more cell second third (suc (suc zero)) le = third
no_more cell second third (suc (suc (suc i))) le = refl

-- ---- the lower buffer

lower_named : IsNamed first_flat letter_i 0 1
unfolding first_flat
lower_named = record {
  place = 0;
  mark = record { label = _; pin = _; label_is = refl; pin_is = refl; marks_so = refl };
  numbered = record { text_is = refl; decimal_so = refl; number_is = refl };
}

lower_feeds : (i : ℕ) → i < inputs_of Buffer → IsFeedAt first_flat frames 0 i (feed_at lower_buffer i)
unfolding first_flat
lower_feeds zero lt = record {
  number = 1;
  pin = pin_of 0 INPUT_PIN 0 1 _ _ refl refl refl refl refl;
  feeds = lower_named;
}
lower_feeds (suc i) lt = absurd (omega arith)

lower_cell : IsCellFrom first_flat frames lower_buffer 0
unfolding first_flat
lower_cell = record {
  frame = lower_frame;
  frame_is = refl;
  kind_is = refl;
  row_is = refl;
  excited = excited 3 4 0 _ _ lower_frame (λ e. absurd cc) refl refl refl refl refl refl refl refl refl;
  feeds = lower_feeds;
  no_more = no_more lower_buffer refl refl;
}

-- ---- the upper buffer

lower_driver : IsSource first_flat.shapes 11 2
unfolding first_flat
lower_driver = record { pin = _; pin_is = refl; of_layer = refl; joined = first_nets_are.joined 11 (omega arith) }

-- computed: the other shapes are no output pins or have another net
abbrev may_drive : ℕ → Shape → Bool
may_drive q s = not (s.layer == OUTPUT_PIN && slice_index first_nets 11 == slice_index first_nets q) || q == 2

alone : all_pass may_drive 0 first_flat.shapes ≡ true
unfolding first_flat
alone = refl

one_driver : (q : ℕ) → IsSource first_flat.shapes 11 q → q ≡ 2
unfolding first_flat
one_driver q is =
    let net = one_number first_flat.shapes first_nets first_nets_are 11 q (omega arith) is.joined in
    let both = and_from (is.pin.layer == OUTPUT_PIN) (slice_index first_nets 11 == slice_index first_nets q)
    (eq-eqb is.pin.layer OUTPUT_PIN is.of_layer)
    (eq-eqb (slice_index first_nets 11) (slice_index first_nets q) net) in
    elim (or_cases _ (q == 2) (passes_at may_drive first_flat.shapes alone q is.pin is.pin_is)) [
      | inl other ↦ absurd (both_ways _ (ap not both) other)
      | inr two ↦ eqb-true q 2 two
    ]

upper_driven : IsDrivenBy first_flat frames (record { cell = 0; output = 0 }) 11
unfolding first_flat
upper_driven = record {
  input = record { pin = _; pin_is = refl; of_layer = refl; labelled_so = refl };
  driver = 2;
  driver_is = lower_driver;
  only = one_driver;
  output = record { frame = 0; frame_is = refl; pin = pin_of 0 OUTPUT_PIN 0 2 _ _ refl refl refl refl refl };
}

upper_feeds : (i : ℕ) → i < inputs_of Buffer → IsFeedAt first_flat frames 10 i (feed_at upper_buffer i)
unfolding first_flat
upper_feeds zero lt = record {
  number = 11;
  pin = pin_of 10 INPUT_PIN 0 11 _ _ refl refl refl refl refl;
  feeds = upper_driven;
}
upper_feeds (suc i) lt = absurd (omega arith)

upper_cell : IsCellFrom first_flat frames upper_buffer 10
unfolding first_flat
upper_cell = record {
  frame = upper_frame;
  frame_is = refl;
  kind_is = refl;
  row_is = refl;
  excited = excited 13 14 1 _ _ upper_frame (λ e. absurd cc) refl refl refl refl refl refl refl refl refl;
  feeds = upper_feeds;
  no_more = no_more upper_buffer refl refl;
}

-- ---- the circuit

upper_shown : IsOutputFrom first_flat frames 0 upper_output
unfolding first_flat
upper_shown = record {
  number = 12;
  named = record {
    place = 1;
    mark = record { label = _; pin = _; label_is = refl; pin_is = refl; marks_so = refl };
    numbered = record { text_is = refl; decimal_so = refl; number_is = refl };
  };
  output = record { frame = 10; frame_is = refl; pin = pin_of 10 OUTPUT_PIN 0 12 _ _ refl refl refl refl refl };
}

outputs : (n : ℕ) (source : Source) → slice_get first_circuit.outputs n ≡ Some source
    → IsOutputFrom first_flat frames n source
unfolding first_circuit
outputs zero source is = subst (IsOutputFrom first_flat frames 0) (same_Some upper_output source is) upper_shown
outputs (suc n) source is = absurd cc

pub first_circuit_is : IsCircuitOf first_flat first_circuit
unfolding first_flat first_circuit
first_circuit_is = record {
  frames = frames;
  are_frames = frames_are;
  cells = (lower_cell, (upper_cell, tt));
  rows = refl;
  inputs = refl;
  output_count = refl;
  outputs = outputs;
  wires = refl;
  nets = first_nets_are;
}
