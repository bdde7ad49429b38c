-- What the code adds for a row is what is drawn of it.
use Rattle.std.proofs.Common.{◌≡◌, ℕ, zero, suc, min, Option, None, ◌+◌, ◌-◌, ◌*◌, ◌<◌, ◌≤◌, refl, sym, ap, subst, ◌∙◌}
use Rattle.std.proofs.Common.{arith, List, [], ◌∷◌, ◌++◌, length, map, append_assoc, Some, Result, Err, IfErr}
use Rattle.std.proofs.Common.{slice_get, slice_index_or, ◌%◌, ℤ, pos, neg_ℤ, ◌≤ℤ◌}
use Rattle.std.proofs.lemmas.Int.{ints}
use Rattle.std.specs.List.{flat_map}
use Rattle.std.proofs.Math.Nat.{mul-le-mul_right}
use Rattle.std.proofs.lemmas.Option.{same_Some}
use Rattle.std.proofs.lemmas.List.{map-append, append-nil}
use Rattle.circuit.specs.CellKinds.{number_of, slots_of, inputs_of, outputs_of}
use Rattle.circuit.specs.declared.cell_kind.CellKind.{CellKind}
use Rattle.geom.specs.declared.layout.Element.{Element}
use Rattle.geom.specs.declared.layout.Element.TheVariants.{Box}
use Rattle.geom.specs.declared.layout.Structure.{Structure}
use Rattle.rowed.specs.declared.row_cell.RowCell.{RowCell}
use Rattle.rowed.specs.declared.wire.Wire.{Wire}
use Rattle.sorting.specs.Numbers.{numbers}
use Rattle.rowed.specs.RowNets.{row_at}
use Rattle.rowed.specs.PlacedNets.{PlacedView, IsPlaced, placed_rows}
use Rattle.sorting.proofs.SortingLaws.{by_key_length}
use Rattle.rowed.specs.declared.source.Source.{Source}
use Rattle.rowed.specs.Extent.{widest}
use Rattle.rowed.specs.Counts.{fed, row_feeds, wires_in}
use Rattle.rowed.proofs.SpanLaws.{long_row}
use Rattle.channel_route.specs.Crossing.{crossing, IsOver}
use Rattle.layout_rules.specs.declared.layers.TheConstants.{FRAME, INPUT_PIN, OUTPUT_PIN, EVEN_LINE, ODD_LINE, BAR}
use Rattle.layout_rules.specs.declared.layers.TheConstants.{START}
use Rattle.channel_route.specs.Tracks.{route_of, tracks_used}
use Rattle.channel_route.specs.Routes.{Refuses}
use Rattle.channel_route.specs.declared.channel.Tracks.{Tracks}
use Rattle.channel_route.specs.declared.channel.RouteRefusal.{RouteRefusal}
use Rattle.channel_route.specs.declared.channel.RouteRefusal.TheVariants.{Full}
use Rattle.cell_library.specs.Library.{LibraryView, input_column_of, output_column_of}
use Rattle.layout_make.proofs.Lawful.{IsLawful}
use Rattle.layout_make.specs.Sheet.{Sheet, Tag, Frame, InPin, OutPin, upright, shape_of, edge, track_centre, lower_edge}
use Rattle.layout_make.specs.Sheet.{Lead, Over, RightOf, lead_first, lead_use, lead_flank, flank_rect, step_low}
use Rattle.layout_make.specs.Spots.{Spot, spots_of, spots}
use Rattle.layout_make.proofs.ReadyNets.{IsReady}
use Rattle.layout_make.specs.Channel.{pin_wire, wires_into, from_of, channel}
use Rattle.layout_make.specs.Size.{element_number}
use Rattle.rowed.specs.Limits.{element_limit}
use Rattle.layout_make.specs.MayDraw.{MayDraw}
use Rattle.layout_make.proofs.Ready.{TracksLaw, may_ready}
use Rattle.layout_make.proofs.WireLengths.{few_over}
use Rattle.layout_make.specs.Tags.{sheet, wire_place, wire_tags, cell_tags, lag_tags}
use Rattle.layout_make.specs.Draw.{boxes, alone}
use Rattle.layout_make.specs.Draw as Draw
use Rattle.layout_make.specs.Code.Boxes.{boxed, in_box, out_box, frame_box, bend_of, wire_boxes, channel_boxes}
use Rattle.layout_make.specs.Code.Boxes.{cell_boxes, place_box, lead_box, bar_box, row_boxes, lead_low, lag_boxes}
use Rattle.layout_make.proofs.Drawn.{once_channel}
use Rattle.layout_make.proofs.Sound.{tracks_apart, wire_at, wire_is}

-- wires

zip_boxes : (s : Sheet) (r row next : ℕ) (ws : List Wire) (ts : List ℕ) → length ts ≡ length ws
    → ((i : ℕ) (w : Wire) (t : ℕ) → slice_get ws i ≡ Some w → slice_get ts i ≡ Some t
    → wire_boxes s.library row next w t ≡ boxes s (wire_tags r w)) → channel_boxes s.library row next ws ts ≡ boxes s
    (flat_map (wire_tags r) ws)
zip_boxes s r row next [] ts e each = refl
zip_boxes s r row next (w ∷ ws) [] e each = absurd (omega arith)
zip_boxes s r row next (w ∷ ws) (t ∷ ts) e each =
    ap (λ (zs : List Element). zs ++ channel_boxes s.library row next ws ts) (each 0 w t refl refl)
    ∙ ap (λ (zs : List Element). boxes s (wire_tags r w) ++ zs)
    (zip_boxes s r row next ws ts (omega arith) (λ i v u a b. each (suc i) v u a b))
    ∙ sym (map-append (λ (t : Tag). Box (shape_of s t)) (wire_tags r w) (flat_map (wire_tags r) ws))

same_wire : (s : Sheet) (r : ℕ) (w : Wire) (t : ℕ) → s.to r w.from_column ≡ w.to_column → s.track r w.from_column ≡ t
    → wire_boxes s.library (lower_edge s r) (lower_edge s (suc r)) w t ≡ boxes s (wire_tags r w)
unfolding track_centre
same_wire s r w t to at =
    ap (λ (u : ℕ). wire_boxes s.library (lower_edge s r) (lower_edge s (suc r)) w u) (sym at)
    ∙ ap (λ (c : ℕ). wire_boxes s.library (lower_edge s r) (lower_edge s (suc r))
    (record { from_slot = w.from_slot; to_slot = w.to_slot; from_column = w.from_column; to_column = c })
    (s.track r w.from_column)) (sym to)

pub channel_drawn : (p : PlacedView) (l : LibraryView) → IsReady p l → IsLawful l → (r : ℕ)
    → channel_boxes l (lower_edge (sheet p l) r) (lower_edge (sheet p l) (suc r)) (channel p l r)
    (route_of (channel p l r)) ≡ boxes (sheet p l) (flat_map (wire_tags r) (channel p l r))
unfolding sheet
channel_drawn p l is laws r =
    let ws = channel p l r in
    let apart = tracks_apart p l is laws r in
    zip_boxes (sheet p l) r (lower_edge (sheet p l) r) (lower_edge (sheet p l) (suc r)) ws (route_of ws) apart.one_each
    (λ i w t a b.
    let place : wire_place ws w.from_column ≡ i = once_channel p l is r (wire_place ws w.from_column) i w
    (wire_at p l is laws r w (i, a)) a in
    same_wire (sheet p l) r w t (wire_is p l is laws r w (i, a)).1
    (ap (λ (n : ℕ). slice_index_or (route_of ws) n 0) place ∙ got (route_of ws) i t b))
  where
    got : (ts : List ℕ) (i t : ℕ) → slice_get ts i ≡ Some t → slice_index_or ts i 0 ≡ t
    got [] i t e = absurd cc
    got (u ∷ ts) zero t e = same_Some _ _ e
    got (u ∷ ts) (suc i) t e = got ts i t e

-- the bends of a channel are below the next row
pub bends_below : (l : LibraryView) (used : ℕ → ℕ) (r t : ℕ) → t < used r → bend_of l (edge l used r) t ≤ edge l used
    (suc r)
unfolding edge
bends_below l used r t lt =
    let m : (t + 1) * l.pitch ≤ (used r + 1) * l.pitch = mul-le-mul_right l.pitch
    (let h : t + 1 ≤ used r + 1 = omega arith in h) in
    omega arith

-- the cell of a structure by itself

fused : (f : ℕ → Element) (g : ℕ → Tag) (s : Sheet) → ((i : ℕ) → f i ≡ Box (shape_of s (g i))) → (ns : List ℕ)
    → map f ns ≡ boxes s (map g ns)
fused f g s same [] = refl
fused f g s same (n ∷ ns) = ap (λ (z : Element). z ∷ map f ns) (same n)
    ∙ ap (λ (zs : List Element). Box (shape_of s (g n)) ∷ zs) (fused f g s same ns)

strip : (l : LibraryView) (layer d a b c e f g : ℕ) → a ≡ b → c ≡ e → f ≡ g → boxed layer d (upright l a c f) ≡ boxed
    layer d (upright l b e g)
strip l layer d a b c e f g p q r =
    ap (λ (x : ℕ). boxed layer d (upright l x c f)) p ∙ ap (λ (x : ℕ). boxed layer d (upright l b x f)) q
    ∙ ap (λ (x : ℕ). boxed layer d (upright l b e x)) r

same_in : (l : LibraryView) (k : CellKind) (i : ℕ)
    → in_box l k i ≡ Box (shape_of (alone l) (InPin 0 (0 * l.columns + input_column_of l k i) i))
unfolding edge
same_in l k i = strip l INPUT_PIN i (input_column_of l k i) (0 * l.columns + input_column_of l k i) 0 0 l.pin
    (0 + l.pin) (omega arith) refl (omega arith)

same_out : (l : LibraryView) (k : CellKind) (i : ℕ)
    → out_box l k i ≡ Box (shape_of (alone l) (OutPin 0 (0 * l.columns + output_column_of l k i) i))
unfolding edge
same_out l k i = strip l OUTPUT_PIN i (output_column_of l k i) (0 * l.columns + output_column_of l k i)
    (l.height - l.pin) (0 + l.height - l.pin) l.height (0 + l.height) (omega arith) (omega arith) (omega arith)

same_frame : (l : LibraryView) (k : CellKind) → frame_box l k ≡ Box (shape_of (alone l) (Frame 0 0 k))
unfolding edge
same_frame l k = area_of 0 (0 * (l.columns * l.pitch)) (slots_of k * (l.columns * l.pitch))
    ((0 + slots_of k) * (l.columns * l.pitch)) l.height (0 + l.height) (omega arith) (omega arith) (omega arith)
  where
    area_of : (a b c d e f : ℕ) → a ≡ b → c ≡ d → e ≡ f
        → boxed FRAME (number_of k) (record { left = a; low = 0; right = c; high = e }) ≡ boxed FRAME (number_of k)
        (record { left = b; low = 0; right = d; high = f })
    area_of a b c d e f p q r =
        ap (λ (x : ℕ). boxed FRAME (number_of k) (record { left = x; low = 0; right = c; high = e })) p
        ∙ ap (λ (x : ℕ). boxed FRAME (number_of k) (record { left = b; low = 0; right = x; high = e })) q
        ∙ ap (λ (x : ℕ). boxed FRAME (number_of k) (record { left = b; low = 0; right = d; high = x })) r

pub cell_alone : (l : LibraryView) (k : CellKind) → cell_boxes l k ≡ boxes (alone l) (cell_tags l 0 0 k)
cell_alone l k =
    let ins = map (λ (i : ℕ). InPin 0 (0 * l.columns + input_column_of l k i) i) (numbers 0 (inputs_of k)) in
    let outs = map (λ (o : ℕ). OutPin 0 (0 * l.columns + output_column_of l k o) o) (numbers 0 (outputs_of k)) in
    ap (λ (z : Element). z
    ∷ (map (in_box l k) (numbers 0 (inputs_of k)) ++ map (out_box l k) (numbers 0 (outputs_of k)))) (same_frame l k)
    ∙ ap (λ (zs : List Element). Box (shape_of (alone l) (Frame 0 0 k))
    ∷ (zs ++ map (out_box l k) (numbers 0 (outputs_of k))))
    (fused (in_box l k) (λ (i : ℕ). InPin 0 (0 * l.columns + input_column_of l k i) i) (alone l) (same_in l k)
    (numbers 0 (inputs_of k)))
    ∙ ap (λ (zs : List Element). Box (shape_of (alone l) (Frame 0 0 k)) ∷ (boxes (alone l) ins ++ zs))
    (fused (out_box l k) (λ (o : ℕ). OutPin 0 (0 * l.columns + output_column_of l k o) o) (alone l) (same_out l k)
    (numbers 0 (outputs_of k)))
    ∙ ap (λ (zs : List Element). Box (shape_of (alone l) (Frame 0 0 k)) ∷ zs)
    (sym (map-append (λ (t : Tag). Box (shape_of (alone l) t)) ins outs))

-- the wires of a channel are the fed pins of the row above it

pin_long : (l : LibraryView) (lower : List Spot) (x : Spot) (i : ℕ) (o : Option Source) (more : List Wire)
    → length (pin_wire l lower x i o more) ≡ fed o + length more
pin_long l lower x i None more = omega arith
pin_long l lower x i (Some s) more = omega arith

into_long : (l : LibraryView) (lower : List Spot) (cells : List RowCell) (slots : List ℕ) → length slots ≡ length cells
    → length (wires_into l lower (spots_of cells slots)) ≡ row_feeds cells
into_long l lower [] slots e = refl
into_long l lower (c ∷ cells) [] e = absurd (omega arith)
into_long l lower (c ∷ cells) (s ∷ slots) e =
    let x : Spot = record { cell = c; slot = s } in
    let rest = wires_into l lower (spots_of cells slots) in
    let two = pin_wire l lower x 2 c.source2 rest in
    let one = pin_wire l lower x 1 c.source1 two in
    let h = into_long l lower cells slots (omega arith) in
    let a = pin_long l lower x 0 c.source0 one in
    let b = pin_long l lower x 1 c.source1 two in
    let d = pin_long l lower x 2 c.source2 rest in
    omega arith

pub channel_long : (p : PlacedView) (l : LibraryView) → IsPlaced p → (r : ℕ)
    → length (channel p l r) ≡ row_feeds (row_at p.net.rows (suc r))
channel_long p l is r = by_key_length from_of (wires_into l (spots p r) (spots p (suc r)))
    ∙ into_long l (spots p r) (row_at p.net.rows (suc r)) (slice_index_or p.slots (suc r) [])
    (long_row p.net.rows p.slots (suc r) is.seated)

feeds_within : (rows : List (List RowCell)) (r : ℕ) → row_feeds (row_at rows r) ≤ wires_in rows
feeds_within [] r = omega arith
feeds_within (row ∷ rows) zero = omega arith
feeds_within (row ∷ rows) (suc r) = let k = feeds_within rows r in omega arith

pub few_wires : (p : PlacedView) (l : LibraryView) → IsPlaced p → element_number p ≤ element_limit
    → (r : ℕ) (ws : List Wire) → ws ≡ channel p l r → length ws < 4294967296
few_wires p l is small r ws e =
    let a = channel_long p l is r in
    let b = feeds_within p.net.rows (suc r) in
    let d = ap length e in
    omega arith

pub full_said : (result : Result Tracks RouteRefusal) (ws : List Wire) (capacity : ℕ) (refusal : RouteRefusal)
    (column : ℕ) (wires : List ℕ) → IfErr result (Refuses ws capacity) → result ≡ Err refusal
    → refusal ≡ Full column wires → IsOver ws capacity column
full_said result ws capacity refusal column wires said e f =
    (subst (Refuses ws capacity) f (subst (λ (r : Result Tracks RouteRefusal). IfErr r (Refuses ws capacity)) e said)).0

pub never_over_full : (p : PlacedView) (l : LibraryView) → TracksLaw → MayDraw p l
    → (r : ℕ) (ws : List Wire) (capacity x : ℕ) → ws ≡ channel p l r → capacity ≡ l.capacity → IsOver ws capacity x → ⊥
never_over_full p l law may r ws capacity x e f over =
    let is = may_ready p l law may in
    let few = few_over p l is may.placed may.library may.short r x in
    let same = ap (λ (vs : List Wire). length (crossing x vs)) e in
    let o = over.over in
    omega arith

-- where a slot begins

pub slot_fits : (s c p : ℕ) → s < 4294967296 → c ≤ 1000 → p ≤ 1000000 → s * (c * p) < 9223372036854775808
slot_fits s c p a b d =
    let m : c * p ≤ 1000 * p = mul-le-mul_right p b in
    let n : s * (c * p) ≤ 4294967296 * (c * p) = mul-le-mul_right (c * p) (let h : s ≤ 4294967296 = omega arith in h) in
    omega arith

pub same_structure : (l : LibraryView) (k : CellKind) (name : List ℕ) (elements : List Element)
    → name ≡ Draw.kind_name k → elements ≡ cell_boxes l k
    → ◌≡◌ {A = Structure} (record { name = name; elements = elements }) (Draw.cell_structure l k)
same_structure l k name elements e f =
    ap (λ (n : List ℕ). made n elements) e ∙ ap (λ (es : List Element). made (Draw.kind_name k) es) (f ∙ cell_alone l k)
  where
    made : List ℕ → List Element → Structure
    made n es = record { name = n; elements = es }

-- the channel above a row

pub next_is : (p : PlacedView) (l : LibraryView) (r row height used pitch : ℕ) → row ≡ lower_edge (sheet p l) r
    → height ≡ l.height → used ≡ tracks_used (channel p l r) → pitch ≡ l.pitch
    → row + height + (used + 1) * pitch ≡ lower_edge (sheet p l) (r + 1)
unfolding sheet edge
next_is p l r row height used pitch a b c d =
    ap (λ (x : ℕ). x + height + (used + 1) * pitch) a
    ∙ ap (λ (x : ℕ). lower_edge (sheet p l) r + x + (used + 1) * pitch) b
    ∙ ap (λ (x : ℕ). lower_edge (sheet p l) r + l.height + (x + 1) * pitch) c
    ∙ ap (λ (x : ℕ). lower_edge (sheet p l) r + l.height + (tracks_used (channel p l r) + 1) * x) d
    ∙ ap (lower_edge (sheet p l)) (let h : suc r ≡ r + 1 = omega arith in h)

pub bends_fit : (p : PlacedView) (l : LibraryView) → IsReady p l → IsLawful l → (r row next : ℕ) (tracks : List ℕ)
    → row ≡ lower_edge (sheet p l) r → next ≡ lower_edge (sheet p l) (r + 1) → tracks ≡ route_of (channel p l r)
    → (n t : ℕ) → slice_get tracks n ≡ Some t → bend_of l row t ≤ next
unfolding sheet
bends_fit p l is laws r row next tracks a b c n t at =
    let ws = channel p l r in
    let apart = tracks_apart p l is laws r in
    let got = ap (λ (ts : List ℕ). slice_get ts n) (sym c) ∙ at in
    let lt : n < length ws = (let w = within (route_of ws) n t got in let e = apart.one_each in omega arith) in
    let below : t < tracks_used ws = (let k = apart.below_used n lt in let e = at_index (route_of ws) n t got in
    omega arith) in
    let k = bends_below l (λ (q : ℕ). tracks_used (channel p l q)) r t below in
    let e = ap (lower_edge (sheet p l)) (let h : suc r ≡ r + 1 = omega arith in h) in
    omega arith
  where
    within : (ts : List ℕ) (i t : ℕ) → slice_get ts i ≡ Some t → i < length ts
    within [] i t e = absurd cc
    within (u ∷ ts) zero t e = omega arith
    within (u ∷ ts) (suc i) t e = let k = within ts i t e in omega arith

    at_index : (ts : List ℕ) (i t : ℕ) → slice_get ts i ≡ Some t → slice_index_or ts i 0 ≡ t
    at_index [] i t e = absurd cc
    at_index (u ∷ ts) zero t e = same_Some _ _ e
    at_index (u ∷ ts) (suc i) t e = at_index ts i t e

pub channel_added : (p : PlacedView) (l : LibraryView) → IsReady p l → IsLawful l
    → (r row next : ℕ) (wires : List Wire) (tracks : List ℕ) (old new : List Element) → row ≡ lower_edge (sheet p l) r
    → next ≡ lower_edge (sheet p l) (r + 1) → wires ≡ channel p l r → tracks ≡ route_of (channel p l r)
    → new ≡ old ++ channel_boxes l row next wires tracks
    → new ≡ old ++ boxes (sheet p l) (flat_map (wire_tags r) (channel p l r))
channel_added p l is laws r row next wires tracks old new a b c d e =
    e ∙ ap (λ (x : ℕ). old ++ channel_boxes l x next wires tracks) a
    ∙ ap (λ (x : ℕ). old ++ channel_boxes l (lower_edge (sheet p l) r) x wires tracks)
    (b ∙ ap (lower_edge (sheet p l)) (let h : r + 1 ≡ suc r = omega arith in h))
    ∙ ap (λ (ws : List Wire). old ++ channel_boxes l (lower_edge (sheet p l) r) (lower_edge (sheet p l) (suc r)) ws
    tracks) c
    ∙ ap (λ (ts : List ℕ). old ++ channel_boxes l (lower_edge (sheet p l) r) (lower_edge (sheet p l) (suc r))
    (channel p l r) ts) d
    ∙ ap (λ (es : List Element). old ++ es) (channel_drawn p l is laws r)

-- the rows so far

pub record SoFar (p : PlacedView) (l : LibraryView) (n : ℕ) (items : List Element) (row one two : ℕ) : Type 0 where
  pub drawn : items ≡ flat_map (Draw.row_elements p l) (numbers 0 n)
  pub edge_is : row ≡ lower_edge (sheet p l) (min n (length p.net.rows - 1))
  pub one_is : one ≡ lower_edge (sheet p l) (n - 1)
  pub two_is : two ≡ lower_edge (sheet p l) (n - 2)

pub so_far : (p : PlacedView) (l : LibraryView) (items : List Element) → items ≡ [] → SoFar p l 0 items 0 0 0
unfolding sheet edge
so_far p l items e =
    record {
      drawn = e;
      edge_is = ap (lower_edge (sheet p l))
          (let h : 0 ≡ min 0 (length p.net.rows - 1) = omega arith in h);
      one_is = refl;
      two_is = refl;
    }

pub edge_here : (p : PlacedView) (l : LibraryView) (n : ℕ) (items : List Element) (row one two : ℕ)
    → SoFar p l n items row one two → n < length p.net.rows → row ≡ lower_edge (sheet p l) n
edge_here p l n items row one two so lt = so.edge_is
    ∙ ap (lower_edge (sheet p l)) (let h : min n (length p.net.rows - 1) ≡ n = omega arith in h)

-- a lead begins on its own row, two rows below, or below the rows
pub lead_at : (p : PlacedView) (l : LibraryView) (n : ℕ) (items : List Element) (row one two : ℕ)
    → SoFar p l n items row one two → n < length p.net.rows
    → lead_low l p.lag n row two ≡ step_low (sheet p l) (lead_first p.lag (suc n))
unfolding sheet
lead_at p l zero items row one two so lt = ap (λ (m : ℕ). pos m) (edge_here p l zero items row one two so lt)
lead_at p l (suc zero) items row one two so lt = go p.lag
  where
    go : (lag : ℕ) → lead_low l lag 1 row two ≡ step_low (sheet p l) (lead_first lag 2)
    go zero = ap (λ (m : ℕ). pos m) (edge_here p l (suc zero) items row one two so lt)
    go (suc lag) = refl
lead_at p l (suc (suc n)) items row one two so lt = ap (λ (m : ℕ). pos m) (so.two_is
    ∙ ap (lower_edge (sheet p l)) (let h : suc (suc n) - 2 ≡ n = omega arith in h))

under : (a b : ℕ) → a ≤ b → pos a ≤ℤ pos b
under a b h = grind (arith, ints)

neg_under : (a b : ℕ) → neg_ℤ (pos a) ≤ℤ pos b
neg_under a b = grind (arith, ints)

-- and not above its row
pub lead_below : (l : LibraryView) (lag n edge two : ℕ) → two ≤ edge → lead_low l lag n edge two ≤ℤ pos edge
lead_below l lag zero edge two h = under edge edge (omega arith)
lead_below l zero (suc zero) edge two h = under edge edge (omega arith)
lead_below l (suc lag) (suc zero) edge two h = neg_under (2 * l.height) edge
lead_below l lag (suc (suc n)) edge two h = under two edge h

pub ruleset low_leads = (lead_below)

same_lead : (l : LibraryView) (right lag n : ℕ) (low : ℤ) (row : ℕ) → lead_box l right lag n low row ≡ Box (record {
  layer = EVEN_LINE + suc (suc n) % 2;
  datatype = lead_use lag (suc n);
  rect = flank_rect l right (lead_flank (suc n)) low (pos (row + l.height));
})
same_lead l right lag n low row =
    ap (λ (m : ℕ). Box (record {
      layer = EVEN_LINE + m;
      datatype = lead_use lag (suc n);
      rect = flank_rect l right (lead_flank (suc n)) low (pos (row + l.height));
    })) (let k : n % 2 ≡ suc (suc n) % 2 = omega arith in k)

same_bar : (l : LibraryView) (right n row : ℕ) → bar_box l right n row ≡ Box (record {
  layer = EVEN_LINE + suc (suc n) % 2;
  datatype = BAR;
  rect = flank_rect l right Over (pos row) (pos (row + l.height));
})
same_bar l right n row =
    ap (λ (m : ℕ). Box (record {
      layer = EVEN_LINE + m;
      datatype = BAR;
      rect = flank_rect l right Over (pos row) (pos (row + l.height));
    })) (let k : n % 2 ≡ suc (suc n) % 2 = omega arith in k)

pub row_drawn : (p : PlacedView) (l : LibraryView) (n : ℕ)
    → row_boxes l (Draw.used_kinds p) (widest (placed_rows p) * (l.columns * l.pitch)) p.lag n (spots p n)
    (step_low (sheet p l) (lead_first p.lag (suc n))) (lower_edge (sheet p l) n)
    ++ boxes (sheet p l) (flat_map (wire_tags n) (channel p l n)) ≡ Draw.row_elements p l n
unfolding sheet
row_drawn p l n =
    let right = widest (placed_rows p) * (l.columns * l.pitch) in
    let places = map (place_box l (Draw.used_kinds p) (lower_edge (sheet p l) n)) (spots p n) in
    let wires = boxes (sheet p l) (flat_map (wire_tags n) (channel p l n)) in
    let low = step_low (sheet p l) (lead_first p.lag (suc n)) in
    let row = lower_edge (sheet p l) n in
    append_assoc places (lead_box l right p.lag n low row ∷ bar_box l right n row ∷ []) wires
    ∙ ap (λ (x : Element). places ++ (x ∷ bar_box l right n row ∷ wires)) (same_lead l right p.lag n low row)
    ∙ ap (λ (x : Element). places ++ (Box (shape_of (sheet p l) (Lead (suc n))) ∷ x ∷ wires))
    (same_bar l right n row)

-- the start and the bar of a delay
abbrev lag_two : LibraryView → ℕ → List Element
lag_two l w = Box (record {
  layer = ODD_LINE;
  datatype = START;
  rect = flank_rect l w RightOf (neg_ℤ (pos (2 * l.height))) (neg_ℤ (pos l.height));
})
    ∷ Box (record {
      layer = ODD_LINE;
      datatype = BAR;
      rect = flank_rect l w Over (neg_ℤ (pos (2 * l.height))) (neg_ℤ (pos l.height));
    })
    ∷ []

pub lag_drawn : (p : PlacedView) (l : LibraryView) → lag_boxes l p.lag ≡ boxes (sheet p l) (lag_tags p.lag)
unfolding sheet
lag_drawn p l = go p.lag refl
  where
    go : (lag : ℕ) → p.lag ≡ lag → lag_boxes l lag ≡ boxes (sheet p l) (lag_tags lag)
    go zero e = refl
    go (suc lag) e = ap (lag_two l) (sym e)

pub flat_last : (f : ℕ → List Element) (n : ℕ) → flat_map f (numbers 0 n) ++ f n ≡ flat_map f (numbers 0 (n + 1))
flat_last f n = ap (λ (m : ℕ). flat_map f (numbers 0 n) ++ f m) (let h : n ≡ 0 + n = omega arith in h) ∙ go 0 n
    ∙ ap (λ (m : ℕ). flat_map f (numbers 0 m)) (let h : suc n ≡ n + 1 = omega arith in h)
  where
    go : (k n : ℕ) → flat_map f (numbers k n) ++ f (k + n) ≡ flat_map f (numbers k (suc n))
    go k zero = ap f (let h : k + zero ≡ k = omega arith in h) ∙ sym (append-nil (f k))
    go k (suc n) = append_assoc (f k) (flat_map f (numbers (suc k) n)) (f (k + suc n))
        ∙ ap (λ (es : List Element). f k ++ es)
        (ap (λ (m : ℕ). flat_map f (numbers (suc k) n) ++ f m) (let h : k + suc n ≡ suc k + n = omega arith in h)
        ∙ go (suc k) n)
