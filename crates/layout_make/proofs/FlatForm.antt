-- A structure of a kind, moved, is the cell in its place.
use Rattle.std.proofs.Common.{◌≡◌, ℕ, ◌+◌, ◌*◌, refl, sym, ap, ◌∙◌, arith, List, [], ◌∷◌, ◌++◌, map, pos, ℤ}
use Rattle.std.proofs.lemmas.List.{map-append}
use Rattle.circuit.specs.declared.cell_kind.CellKind.{CellKind}
use Rattle.circuit.specs.CellKinds.{inputs_of, outputs_of}
use Rattle.geom.specs.Rectangle.{Rectangle}
use Rattle.geom.specs.declared.shapes.Shape.{Shape}
use Rattle.geom.specs.FlatForm.{moved_shape}
use Rattle.sorting.specs.Numbers.{numbers}
use Rattle.cell_library.specs.Library.{input_column_of, output_column_of}
use Rattle.layout_make.proofs.Lawful.{IsLawful}
use Rattle.layout_make.specs.Sheet.{Sheet, Tag, Frame, InPin, OutPin, shape_of, lower_edge}
use Rattle.layout_make.specs.Tags.{cell_tags}
use Rattle.layout_make.specs.Draw.{alone}
use Rattle.layout_make.proofs.Columns.{centre_least, centre_moved, edge_zero}

same_rect : (a b c d e f g h : ℤ) → a ≡ e → b ≡ f → c ≡ g → d ≡ h
    → ◌≡◌ {A = Rectangle} (record { x0 = a; y0 = b; x1 = c; y1 = d }) (record { x0 = e; y0 = f; x1 = g; y1 = h })
same_rect a b c d e f g h p q r s = cc

same_shape : (l d : ℕ) (r q : Rectangle) → r ≡ q → ◌≡◌ {A = Shape} (record { layer = l; datatype = d; rect = r })
    (record { layer = l; datatype = d; rect = q })
same_shape l d r q e = ap (λ (x : Rectangle). record { layer = l; datatype = d; rect = x }) e

-- to a slot of a row
abbrev pub shift : Sheet → ℕ → ℕ → Shape → Shape
shift s r slot a = moved_shape (pos (slot * (s.library.columns * s.library.pitch))) (pos (lower_edge s r)) a

moved_frame : (s : Sheet) (r slot : ℕ) (k : CellKind)
    → shift s r slot (shape_of (alone s.library) (Frame 0 0 k)) ≡ shape_of s (Frame r slot k)
moved_frame s r slot k =
    let z = edge_zero s.library (λ n. 0) in
    same_shape _ _ _ _ (same_rect _ _ _ _ _ _ _ _ (ap pos (omega arith)) (ap pos (omega arith)) (ap pos (omega arith))
    (ap pos (omega arith)))

moved_in : (s : Sheet) → IsLawful s.library → (r slot column i : ℕ)
    → shift s r slot (shape_of (alone s.library) (InPin 0 (0 * s.library.columns + column) i)) ≡ shape_of s
    (InPin r (slot * s.library.columns + column) i)
moved_in s laws r slot column i =
    let z = edge_zero s.library (λ n. 0) in
    let e = centre_moved s.library slot column in
    let f = centre_least s.library (0 * s.library.columns + column) in
    same_shape _ _ _ _ (same_rect _ _ _ _ _ _ _ _ (ap pos (omega arith)) (ap pos (omega arith)) (ap pos (omega arith))
    (ap pos (omega arith)))

moved_out : (s : Sheet) → IsLawful s.library → (r slot column i : ℕ)
    → shift s r slot (shape_of (alone s.library) (OutPin 0 (0 * s.library.columns + column) i)) ≡ shape_of s
    (OutPin r (slot * s.library.columns + column) i)
moved_out s laws r slot column i =
    let z = edge_zero s.library (λ n. 0) in
    let e = centre_moved s.library slot column in
    let f = centre_least s.library (0 * s.library.columns + column) in
    same_shape _ _ _ _ (same_rect _ _ _ _ _ _ _ _ (ap pos (omega arith)) (ap pos (omega arith)) (ap pos (omega arith))
    (ap pos (omega arith)))

-- item by item
same_map : {A : Type 0} (s : Sheet) (r slot : ℕ) (f g : A → Tag)
    → ((x : A) → shift s r slot (shape_of (alone s.library) (f x)) ≡ shape_of s (g x)) → (xs : List A)
    → map (shift s r slot) (map (shape_of (alone s.library)) (map f xs)) ≡ map (shape_of s) (map g xs)
same_map s r slot f g same [] = refl
same_map s r slot f g same (x ∷ xs) =
    ap (λ (a : Shape). a ∷ map (shift s r slot) (map (shape_of (alone s.library)) (map f xs))) (same x)
    ∙ ap (λ (zs : List Shape). shape_of s (g x) ∷ zs) (same_map s r slot f g same xs)

pub moved_cell : (s : Sheet) → IsLawful s.library → (r slot : ℕ) (k : CellKind)
    → map (shift s r slot) (map (shape_of (alone s.library)) (cell_tags s.library 0 0 k)) ≡ map (shape_of s)
    (cell_tags s.library r slot k)
moved_cell s laws r slot k =
    let l = s.library in
    let near = shape_of (alone l) in
    let in0 : ℕ → Tag = λ i. InPin 0 (0 * l.columns + input_column_of l k i) i in
    let out0 : ℕ → Tag = λ o. OutPin 0 (0 * l.columns + output_column_of l k o) o in
    let in1 : ℕ → Tag = λ i. InPin r (slot * l.columns + input_column_of l k i) i in
    let out1 : ℕ → Tag = λ o. OutPin r (slot * l.columns + output_column_of l k o) o in
    let ins = numbers 0 (inputs_of k) in
    let outs = numbers 0 (outputs_of k) in
    ap (λ (a : Shape). a ∷ map (shift s r slot) (map near (map in0 ins ++ map out0 outs))) (moved_frame s r slot k)
    ∙ ap (λ (zs : List Shape). shape_of s (Frame r slot k) ∷ zs) (
    ap (map (shift s r slot)) (map-append near (map in0 ins) (map out0 outs))
    ∙ map-append (shift s r slot) (map near (map in0 ins)) (map near (map out0 outs))
    ∙ ap (λ (zs : List Shape). zs ++ map (shift s r slot) (map near (map out0 outs)))
    (same_map s r slot in0 in1 (λ i. moved_in s laws r slot (input_column_of l k i) i) ins)
    ∙ ap (λ (zs : List Shape). map (shape_of s) (map in1 ins) ++ zs)
    (same_map s r slot out0 out1 (λ o. moved_out s laws r slot (output_column_of l k o) o) outs)
    ∙ sym (map-append (shape_of s) (map in1 ins) (map out1 outs))
    )
