-- A chip changed in one place.
use Rattle.std.specs.Prelude.{ℕ, ◌++◌, [], ◌∷◌, take, drop, suc, slice_set}
use Rattle.geom.specs.declared.shapes.Shape.{Shape}
use Rattle.geom.specs.declared.shapes.Label.{Label}
use Rattle.geom.specs.declared.shapes.Flat.{Flat}

-- the shape of this number is another one
abbrev pub with_shape : ℕ → Shape → Flat → Flat
with_shape n shape flat = record { shapes = slice_set flat.shapes n shape; labels = flat.labels }

-- the shape of this number is left out, so that later ones come one number earlier
abbrev pub without_shape : ℕ → Flat → Flat
without_shape n flat = record { shapes = take n flat.shapes ++ drop (suc n) flat.shapes; labels = flat.labels }

-- a shape is added after all others
abbrev pub and_shape : Shape → Flat → Flat
and_shape shape flat = record { shapes = flat.shapes ++ (shape ∷ []); labels = flat.labels }

-- the label of this number is another one, labels being counted from 0 here
abbrev pub with_label : ℕ → Label → Flat → Flat
with_label n label flat = record { shapes = flat.shapes; labels = slice_set flat.labels n label }

-- the label of this number is left out
abbrev pub without_label : ℕ → Flat → Flat
without_label n flat = record { shapes = flat.shapes; labels = take n flat.labels ++ drop (suc n) flat.labels }

-- a label is added after all others
abbrev pub and_label : Label → Flat → Flat
and_label label flat = record { shapes = flat.shapes; labels = flat.labels ++ (label ∷ []) }
