-- The first chip, changed so that it is no circuit.
use Rattle.std.specs.Prelude.{pos, List, ℕ, [], ◌∷◌}
use Rattle.geom.specs.declared.shapes.Flat.{Flat}
use Rattle.geom.specs.FirstChip.{first_flat, drawn, labelled}
use Rattle.example_faulty_chips.specs.Changes.{with_shape, without_shape, and_shape, with_label, without_label, and_label}
use Rattle.example_faulty_chips.specs.GeometryChips.{with_buffer_at}

-- nothing at all
unfoldable pub empty_chip : Flat
empty_chip = record { shapes = []; labels = [] }

-- the lower frame has a number that is no kind's
unfoldable pub with_unknown_kind : Flat
with_unknown_kind = with_shape 0 (drawn 20 8 (pos 0) (pos 0) (pos 8000) (pos 10000)) first_flat

-- the lower frame has no input pin
unfoldable pub without_input : Flat
without_input = without_shape 1 first_flat

-- a pin beside the lower frame
unfoldable pub with_stray_pin : Flat
with_stray_pin = and_shape (drawn 21 0 (pos 9000) (pos 0) (pos 10000) (pos 1000)) first_flat

-- lower metal leads from the lower output to the upper one
unfoldable pub with_joined_outputs : Flat
with_joined_outputs = and_shape (drawn 10 0 (pos 4500) (pos 10000) (pos 5500) (pos 23000)) first_flat

-- lower metal leads from the lower input to the upper one
unfoldable pub with_joined_inputs : Flat
with_joined_inputs = and_shape (drawn 10 0 (pos 2500) (pos 1000) (pos 3500) (pos 14000)) first_flat

-- the wire between the cells lacks its upper metal, shape 7, so that the upper input has the number 10
unfoldable pub with_cut_wire : Flat
with_cut_wire = without_shape 7 first_flat

-- the upper input has a label too
unfoldable pub with_labelled_wire : Flat
with_labelled_wire = and_label (labelled (pos 3000) (pos 14500) (73 ∷ 49 ∷ [])) first_flat

-- a second buffer in the lower row, whose input has no label
unfoldable pub with_unlabelled_buffer : Flat
with_unlabelled_buffer = without_label 2 (with_buffer_at 8000)

-- the output of that buffer leads back to its input by lower metal
unfoldable pub with_wire_within_a_row : Flat
with_wire_within_a_row = and_shape (drawn 10 0 (pos 10500) (pos 500) (pos 13500) (pos 9500)) with_unlabelled_buffer

-- the lower input has this text in place of `I0`
unfoldable pub with_text : List ℕ → Flat
with_text text = with_label 0 (labelled (pos 3000) (pos 500) text) first_flat

-- the upper output has no label
unfoldable pub without_output_label : Flat
without_output_label = without_label 1 first_flat

-- two buffers in the lower row, whose inputs are both `I0`
unfoldable pub with_repeated_label : Flat
with_repeated_label = with_label 2 (labelled (pos 11000) (pos 500) (73 ∷ 48 ∷ [])) (with_buffer_at 8000)
