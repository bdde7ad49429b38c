-- The cells of every placed net are drawn, with every library.
use Rattle.std.proofs.Common.{◌≡◌, ℕ, zero, suc, ◌+◌, ◌*◌, ◌<◌, ◌≤◌, ◌⊎◌, inl, inr, true, refl, sym, ap, subst, ◌∙◌}
use Rattle.std.proofs.Common.{arith, List, [], ◌∷◌, map, length, Some, slice_get, pos, int_lt}
use Rattle.std.proofs.Math.Nat.{mul-le-mul_right}
use Rattle.std.proofs.lemmas.Option.{same_Some}
use Rattle.std.proofs.lemmas.Bool.Decides.{nat_tests}
use Rattle.cell_library.specs.Library.{LibraryView}
use Rattle.layout_make.proofs.Lawful.{IsLawful}
use Rattle.circuit.specs.declared.cell_kind.CellKind.{CellKind}
use Rattle.circuit.specs.CellKinds.{slots_of}
use Rattle.geom.specs.declared.shapes.Shape.{Shape}
use Rattle.layout_make.specs.Sheet.{Tag, Frame, shape_of, place_of, lower_edge}
use Rattle.layout_make.specs.Tags.{At, sheet, tags}
use Rattle.layout_make.proofs.SheetKeeps.{IsDrawn}
use Rattle.rowed.specs.PlacedNets.{PlacedView}
use Rattle.layout_make.specs.Spots.{Spot, spots}
use Rattle.layout_make.proofs.ReadyNets.{IsReady}
use Rattle.sorting.specs.Numbers.{numbers}
use Rattle.layout_rules.specs.Rows.{AreRows}
use Rattle.layout_make.specs.Laws.{FrameAt}
use Rattle.layout_make.specs.CellsAreDrawn.{Before, CellsAreDrawn}
use Rattle.layout_make.proofs.FlatLaw.{flat_is_tags, labels_flat}
use Rattle.layout_make.proofs.Joins.{to_map}
use Rattle.layout_make.proofs.ChannelWires.{packed_apart}
use Rattle.layout_make.proofs.Origins.{frame_stands}
use Rattle.layout_make.proofs.Whole.{drawn, has_cells, spot_row, frame_from}
use Rattle.layout_make.proofs.DrawnRules.{frame_at}
use Rattle.layout_make.proofs.KeptLines.{frame_excited}
use Rattle.layout_make.proofs.LineAll.{drawn_rows, edges_of, at_edge, edge_rises, shape_at, slot_wide}
use Rattle.layout_make.proofs.Labelled.{input_marked, output_marked}
use Rattle.layout_make.proofs.PinsDrawn.{pins_drawn}
use Rattle.layout_make.proofs.Wiring.{Ports}
use Rattle.layout_make.proofs.PinCounts.{slots_some}

length_count : (k n : ℕ) → length (numbers k n) ≡ n
length_count k zero = refl
length_count k (suc n) = let x = length_count (suc k) n in omega arith

length_map : {A B : Type 0} (f : A → B) (xs : List A) → length (map f xs) ≡ length xs
length_map f [] = refl
length_map f (x ∷ xs) = let k = length_map f xs in omega arith

same_frame : (p : PlacedView) (l : LibraryView) (r n a b : ℕ) → IsDrawn (sheet p l) (tags p l) → FrameAt p l r n a
    → FrameAt p l r n b → a ≡ b
same_frame p l r n a b is f g =
    let e : f.spot ≡ g.spot = same_Some _ _ (sym f.place ∙ g.place) in
    is.once a b (Frame r g.spot.slot g.spot.cell.kind)
    (subst (λ (x : Spot). At (tags p l) a (Frame r x.slot x.cell.kind)) e f.at) g.at

less : (a b : ℕ) → a < b → int_lt (pos a) (pos b) ≡ true
less a b h = grind (arith, nat_tests)

slots_rise : (l : LibraryView) → 1 ≤ l.columns * l.pitch → (a n b : ℕ) → 1 ≤ n → a + n ≤ b
    → a * (l.columns * l.pitch) < b * (l.columns * l.pitch)
slots_rise l wide a n b some le =
    let k : (a + 1) * (l.columns * l.pitch) ≤ b * (l.columns * l.pitch) = mul-le-mul_right (l.columns * l.pitch)
    (let m : a + 1 ≤ b = omega arith in m) in omega arith

ordered : (p : PlacedView) (l : LibraryView) → IsReady p l → IsLawful l → (r n q m : ℕ) (x y : Spot)
    → slice_get (spots p r) n ≡ Some x → slice_get (spots p q) m ≡ Some y → (r < q) ⊎ ((r ≡ q) × (n < m))
    → Before (place_of (sheet p l) (Frame r x.slot x.cell.kind)) (place_of (sheet p l) (Frame q y.slot y.cell.kind))
unfolding sheet
ordered p l is laws r n q m x y xa ya (inl lt) =
    inl (less (lower_edge (sheet p l) r) (lower_edge (sheet p l) q) (edge_rises (sheet p l) laws r q lt))
ordered p l is laws r n q m x y xa ya (inr h) =
    let ya' : slice_get (spots p r) m ≡ Some y = ap (λ (k : ℕ). slice_get (spots p k) m) h.0 ∙ ya in
    let a = packed_apart 0 (spots p r) n m x y (is.packed r) xa ya' h.1 in
    inr (
      ap (λ (k : ℕ). pos (lower_edge (sheet p l) k)) h.0,
      less (x.slot * (l.columns * l.pitch))
          (y.slot * (l.columns * l.pitch))
          (slots_rise l (slot_wide (sheet p l) laws) x.slot (slots_of x.cell.kind) y.slot (slots_some x.cell.kind) a),
    )

rows_are : (p : PlacedView) (l : LibraryView) → (sheet p l).rows ≡ length p.net.rows
unfolding sheet
rows_are p l = refl

pub cells_drawn : (p : PlacedView) (l : LibraryView) → IsReady p l → IsLawful l → Ports p → CellsAreDrawn p l
cells_drawn p l is laws ports =
    let same = flat_is_tags p l laws in
    let whole = drawn p l is laws in
    let cells = has_cells p l is laws in
    record {
      rows = subst (λ (ss : List Shape). AreRows ss (edges_of (sheet p l))) (sym same)
          (drawn_rows (sheet p l) (tags p l) whole cells);
      count = length_map (λ r. pos (lower_edge (sheet p l) r)) (numbers 0 (sheet p l).rows)
          ∙ length_count 0 (sheet p l).rows ∙ rows_are p l;
      excited = frame_excited p l is laws;
      frame = λ r n x at. (let f = frame_stands p l r x (spot_row p r x (n, at)) (n, at) in
          (f.0, record { spot = x; place = at; at = f.1 }));
      frame_once = λ r n a b f g. same_frame p l r n a b whole f g;
      frame_is = λ r n m f. record {
        spot = f.spot;
        place = f.place;
        shape = shape_of (sheet p l) (Frame r f.spot.slot f.spot.cell.kind);
        at = ap (λ (ss : List Shape). slice_get ss m) same ∙ to_map (shape_of (sheet p l)) (tags p l) m
            (Frame r f.spot.slot f.spot.cell.kind) f.at;
        of_layer = refl;
        of_kind = refl;
        of_row = at_edge (sheet p l) r (whole.fits m (Frame r f.spot.slot f.spot.cell.kind) f.at).0;
      };
      each_frame = λ m a at e.
          let f = frame_at (sheet p l) (tags p l) m a (ap (λ (ss : List Shape). slice_get ss m) (sym same) ∙ at) e in
          let g = frame_from p l m f.0 f.1 f.2 f.3 in (
            f.0,
            g.place.0,
            record {
              spot = g.spot;
              place = g.place.1;
              at = subst (λ (t : Tag). At (tags p l) m t)
                  (ap (λ (n : ℕ). Frame f.0 n f.2) (sym g.slot_so) ∙ ap (λ (k : CellKind). Frame f.0 g.spot.slot k)
                  (sym g.kind_so)) f.3;
            },
          );
      ordered = λ r n q m i j a b f g ia jb o.
          let sa = shape_at (sheet p l) (tags p l) i (Frame r f.spot.slot f.spot.cell.kind) a f.at
          (ap (λ (ss : List Shape). slice_get ss i) (sym same) ∙ ia) in
          let sb = shape_at (sheet p l) (tags p l) j (Frame q g.spot.slot g.spot.cell.kind) b g.at
          (ap (λ (ss : List Shape). slice_get ss j) (sym same) ∙ jb) in
          subst (λ (z : Shape). Before a.rect z.rect) sb
          (subst (λ (z : Shape). Before z.rect (place_of (sheet p l) (Frame q g.spot.slot g.spot.cell.kind))) sa
          (ordered p l is laws r n q m f.spot g.spot f.place g.place o));
      pins = pins_drawn p l is laws ports;
      labels_are = labels_flat p l;
      inputs = input_marked p l is laws ports.inputs;
      outputs = output_marked p l is laws ports.outputs;
    }
