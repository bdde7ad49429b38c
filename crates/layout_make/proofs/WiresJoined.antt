-- The wires of every placed net join its pins, and what is kept of the rules of geometry.
use Rattle.std.proofs.Common.{◌≡◌, ℕ, suc, Bool, true, false, refl, sym, ap, subst, ◌∙◌, arith, List, if◌then◌else◌}
use Rattle.cell_library.specs.Library.{LibraryView}
use Rattle.layout_make.proofs.Lawful.{IsLawful}
use Rattle.geom.specs.declared.shapes.Shape.{Shape}
use Rattle.layout_rules.specs.Touch.{Joined}
use Rattle.layout_make.specs.Sheet.{Tag, InPin, OutPin}
use Rattle.layout_make.specs.Nets.{Into, From, output_net}
use Rattle.layout_make.proofs.SheetKeeps.{IsWire, IsRouted, WiresShort}
use Rattle.layout_make.specs.Tags.{At, sheet, tags}
use Rattle.rowed.specs.PlacedNets.{PlacedView}
use Rattle.layout_make.specs.Spots.{spots}
use Rattle.layout_make.proofs.ReadyNets.{IsReady}
use Rattle.layout_make.specs.Laws.{Is, flat_shapes, InAt, Drives, WiresJoinPins}
use Rattle.layout_make.proofs.KeptRules.{E1, G1, G2, G3, G4, G5}
use Rattle.layout_make.proofs.Lengths.{NetsShort}
use Rattle.layout_make.proofs.FlatLaw.{flat_is_tags}
use Rattle.layout_make.proofs.Joins.{shapes_of, joined_net, pins_joined}
use Rattle.layout_make.specs.Channel.{in_column, out_column}
use Rattle.layout_make.specs.declared.marks.Ports.{Ports as Side}
use Rattle.layout_make.specs.declared.marks.Ports.TheVariants.{Inputs, Outputs}
use Rattle.layout_make.proofs.Sides.{pin_tag}
use Rattle.layout_make.proofs.ChannelWires.{pin_tells}
use Rattle.layout_make.proofs.Sound.{wired_column, wire_is}
use Rattle.layout_make.proofs.Origins.{pin_stands}
use Rattle.layout_make.proofs.Whole.{drawn, has_cells, input_wire, spot_row, pin_from}
use Rattle.layout_make.proofs.DrawnRules.{pin_tag_at, drawn_g1, drawn_g2, drawn_g3, drawn_g4, drawn_g5}
use Rattle.layout_make.proofs.Pins.{drawn_e1}
use Rattle.layout_make.proofs.NetLengths.{drawn_short}

-- two output pins of one net are one pin

net_parts : (r c q d : ℕ) → Into r c ≡ Into q d → (r ≡ q) × (c ≡ d)
net_parts r c q d e = (cc, cc)

from_parts : (r c q d : ℕ) → From r c ≡ From q d → (r ≡ q) × (c ≡ d)
from_parts r c q d e = (cc, cc)

same_output_net : (p : PlacedView) (l : LibraryView) → IsRouted (sheet p l)
    → ((r c : ℕ) → (sheet p l).wired r c ≡ true → IsWire (sheet p l) r c) → (r c q d : ℕ)
    → output_net (sheet p l) r c ≡ output_net (sheet p l) q d → (r ≡ q) × (c ≡ d)
same_output_net p l is wires r c q d e = go ((sheet p l).wired r c) ((sheet p l).wired q d) refl refl e
  where
    go : (a b : Bool) → (sheet p l).wired r c ≡ a → (sheet p l).wired q d ≡ b
        → (if a then Into (suc r) ((sheet p l).to r c) else From r c) ≡ (if b then Into (suc q) ((sheet p l).to q d)
        else From q d) → (r ≡ q) × (c ≡ d)
    go true true x y e =
        let k = net_parts (suc r) ((sheet p l).to r c) (suc q) ((sheet p l).to q d) e in
        let row : r ≡ q = (let m = k.0 in omega arith) in
        let w = wires r c x in
        let v = subst (λ (n : ℕ). IsWire (sheet p l) n d) (sym row) (wires q d y) in
        (row, is.one_end r c d w v (k.1 ∙ ap (λ (n : ℕ). (sheet p l).to n d) (sym row)))
    go true false x y e = absurd cc
    go false true x y e = absurd cc
    go false false x y e = from_parts r c q d e

-- a column from which the sheet has a wire is a wire
pub wires_all : (p : PlacedView) (l : LibraryView) → IsReady p l → IsLawful l → (r c : ℕ)
    → (sheet p l).wired r c ≡ true → IsWire (sheet p l) r c
wires_all p l is laws r c e =
    let w = wired_column p l r c e in
    subst (λ (n : ℕ). IsWire (sheet p l) r n) w.2 (wire_is p l is laws r w.0 w.1).0

abbrev drawn_shapes : PlacedView → LibraryView → List Shape
drawn_shapes p l = shapes_of (sheet p l) (tags p l)

-- pins of one side in one column are one
pub one_pin : (p : PlacedView) (l : LibraryView) → IsReady p l → IsLawful l → (side : Side) (i j r c m q d n : ℕ)
    → At (tags p l) i (pin_tag side r c m) → At (tags p l) j (pin_tag side q d n) → r ≡ q → c ≡ d → i ≡ j
one_pin p l is laws side i j r c m q d n ai aj er ec =
    let aj' : At (tags p l) j (pin_tag side r c n) = subst (λ (t : Tag). At (tags p l) j t)
    (ap (λ (x : ℕ). pin_tag side x d n) (sym er) ∙ ap (λ (x : ℕ). pin_tag side r x n) (sym ec)) aj in
    let a = pin_from p l side i r c m ai in
    let b = pin_from p l side j r c n aj' in
    let k = pin_tells l laws side (spots p r) (is.given r) a.place.0 b.place.0 m n a.spot b.spot (is.packed r) a.place.1
    b.place.1 a.below b.below (sym a.column_so ∙ b.column_so) in
    (drawn p l is laws).once i j (pin_tag side r c n)
    (subst (λ (x : ℕ). At (tags p l) i (pin_tag side r c x)) k.1 ai) aj'

joined_outs : (p : PlacedView) (l : LibraryView) → IsReady p l → IsLawful l → (i j r c m q d n : ℕ)
    → At (tags p l) i (OutPin r c m) → At (tags p l) j (OutPin q d n) → output_net (sheet p l) r c ≡ output_net
    (sheet p l) q d → i ≡ j
joined_outs p l is laws i j r c m q d n ai aj e =
    let k = same_output_net p l (drawn p l is laws).routed (wires_all p l is laws) r c q d e in
    one_pin p l is laws Outputs i j r c m q d n ai aj k.0 k.1

wired_net : (p : PlacedView) (l : LibraryView) (r c : ℕ) → IsWire (sheet p l) r c
    → output_net (sheet p l) r c ≡ Into (suc r) ((sheet p l).to r c)
wired_net p l r c w = ap (λ (b : Bool). if b then Into (suc r) ((sheet p l).to r c) else From r c) w.wired_so

-- no output pin has the net of an input of the first row
no_output : (p : PlacedView) (l : LibraryView) (r c d : ℕ) → output_net (sheet p l) r c ≡ Into 0 d → ⊥
no_output p l r c d e = go ((sheet p l).wired r c) e
  where
    go : (b : Bool) → (if b then Into (suc r) ((sheet p l).to r c) else From r c) ≡ Into 0 d → ⊥
    go true e = absurd (let k = net_parts (suc r) ((sheet p l).to r c) 0 d e in let m = k.0 in omega arith)
    go false e = absurd cc

drawn_drives : (p : PlacedView) (l : LibraryView) → IsReady p l → IsLawful l → flat_shapes p l ≡ drawn_shapes p l
    → (r n i m : ℕ) → InAt p l (suc r) n i m → Drives p l r n i m
drawn_drives p l is laws same r n i m at =
    let w = input_wire p l is laws r n i at.spot at.input in
    let out = pin_stands p l Outputs r w.spot w.source.output (spot_row p r w.spot (w.source.cell, w.place))
    (w.source.cell, w.place) w.below in
    let whole = drawn p l is laws in
    let at' : At (tags p l) m (InPin (suc r) ((sheet p l).to r (out_column l w.spot w.source.output)) i) = subst
    (λ (c : ℕ). At (tags p l) m (InPin (suc r) c i)) (sym w.to_so) at.at in
    let joined = pins_joined (sheet p l) (tags p l) whole r (out_column l w.spot w.source.output) w.source.output i
    out.0 m w.wire out.1 at' in
    record {
      spot = at.spot;
      source = w.source;
      place = at.input.at;
      source_is = w.source_is;
      pin = out.0;
      out_at = record { spot = w.spot; output = record { at = w.place; below = w.below }; at = out.1 };
      joined = subst (λ (ss : List Shape). Joined ss out.0 m) (sym same) joined;
      only = λ q b is_b e j.
          let u = pin_tag_at (sheet p l) (tags p l) Outputs q b (subst (λ (ss : List Shape). Is ss q b) same is_b) e in
          let net = joined_net (sheet p l) (tags p l) whole q m (OutPin u.0 u.1 u.2)
          (InPin (suc r) ((sheet p l).to r (out_column l w.spot w.source.output)) i) u.3 at'
          (subst (λ (ss : List Shape). Joined ss q m) same j) in
          joined_outs p l is laws q out.0 u.0 u.1 u.2 r (out_column l w.spot w.source.output) w.source.output u.3 out.1
          (net ∙ sym (wired_net p l r (out_column l w.spot w.source.output) w.wire));
    }

pub wires_joined : (p : PlacedView) (l : LibraryView) → IsReady p l → IsLawful l → WiresJoinPins p l
wires_joined p l is laws =
    let same = flat_is_tags p l laws in
    let whole = drawn p l is laws in
    record {
      drives = drawn_drives p l is laws same;
      lone = λ n i m q b at is_b e j.
          let u = pin_tag_at (sheet p l) (tags p l) Outputs q b (subst (λ (ss : List Shape). Is ss q b) same is_b) e in
          no_output p l u.0 u.1 (in_column l at.spot i)
          (joined_net (sheet p l) (tags p l) whole q m (OutPin u.0 u.1 u.2) (InPin 0 (in_column l at.spot i) i) u.3
          at.at (subst (λ (ss : List Shape). Joined ss q m) same j));
      one_output = λ i j a b ia jb ea eb h.
          let u = pin_tag_at (sheet p l) (tags p l) Outputs i a (subst (λ (ss : List Shape). Is ss i a) same ia) ea in
          let v = pin_tag_at (sheet p l) (tags p l) Outputs j b (subst (λ (ss : List Shape). Is ss j b) same jb) eb in
          joined_outs p l is laws i j u.0 u.1 u.2 v.0 v.1 v.2 u.3 v.3
          (joined_net (sheet p l) (tags p l) whole i j (OutPin u.0 u.1 u.2) (OutPin v.0 v.1 v.2) u.3 v.3
          (subst (λ (ss : List Shape). Joined ss i j) same h));
      one_input = λ i j a b ia jb ea eb h.
          let u = pin_tag_at (sheet p l) (tags p l) Inputs i a (subst (λ (ss : List Shape). Is ss i a) same ia) ea in
          let v = pin_tag_at (sheet p l) (tags p l) Inputs j b (subst (λ (ss : List Shape). Is ss j b) same jb) eb in
          let k = net_parts u.0 u.1 v.0 v.1
          (joined_net (sheet p l) (tags p l) whole i j (InPin u.0 u.1 u.2) (InPin v.0 v.1 v.2) u.3 v.3
          (subst (λ (ss : List Shape). Joined ss i j) same h)) in
          one_pin p l is laws Inputs i j u.0 u.1 u.2 v.0 v.1 v.2 u.3 v.3 k.0 k.1;
    }

-- the six rules of geometry
pub record GeometryKept (p : PlacedView) (l : LibraryView) : Type 0 where
  pub e1 : E1 (flat_shapes p l)
  pub g1 : G1 l (flat_shapes p l)
  pub g2 : G2 l (flat_shapes p l)
  pub g3 : G3 l (flat_shapes p l)
  pub g4 : G4 (flat_shapes p l)
  pub g5 : G5 (flat_shapes p l)
  pub e5 : WiresShort (sheet p l) → NetsShort (flat_shapes p l) l.limit

pub geometry_kept : (p : PlacedView) (l : LibraryView) → IsReady p l → IsLawful l → GeometryKept p l
unfolding sheet
geometry_kept p l is laws =
    let same = sym (flat_is_tags p l laws) in
    let whole = drawn p l is laws in
    let cells = has_cells p l is laws in
    record {
      e1 = subst (λ (ss : List Shape). E1 ss) same (drawn_e1 (sheet p l) (tags p l) whole cells);
      g1 = subst (λ (ss : List Shape). G1 l ss) same (drawn_g1 (sheet p l) (tags p l) whole);
      g2 = subst (λ (ss : List Shape). G2 l ss) same (drawn_g2 (sheet p l) (tags p l) whole);
      g3 = subst (λ (ss : List Shape). G3 l ss) same (drawn_g3 (sheet p l) (tags p l) whole);
      g4 = subst (λ (ss : List Shape). G4 ss) same (drawn_g4 (sheet p l) (tags p l) whole cells);
      g5 = subst (λ (ss : List Shape). G5 ss) same (drawn_g5 (sheet p l) (tags p l) whole cells);
      e5 = λ short. subst (λ (ss : List Shape). NetsShort ss l.limit) same
          (drawn_short (sheet p l) (tags p l) whole short);
    }
