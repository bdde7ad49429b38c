-- What is kept of the rule of cells, as the rule reports it.
use Rattle.std.proofs.Common.{◌≡◌, ℕ, true, ◌&&◌, refl, sym, ap, subst, ◌∙◌, inl, inr, List}
use Rattle.std.proofs.lemmas.Option.{same_Some}
use Rattle.std.proofs.lemmas.Bool.{and_parts, and_from, eqb-true, eq-eqb}
use Rattle.geom.specs.declared.shapes.Shape.{Shape}
use Rattle.geom.specs.Rectangle.{within}
use Rattle.layout_rules.specs.Layers.{is_frame, is_pin}
use Rattle.layout_rules.specs.Pins.{lies_in, LiesIn, IsPinOf}
use Rattle.layout_rules.specs.Reports.{ReportsNone}
use Rattle.layout_rules.specs.CircuitRules.{HasPins, CellsBroken}
use Rattle.layout_make.proofs.Layered as layered
use Rattle.layout_make.proofs.KeptRules as kept

-- a pin in a frame, in both forms

pub pin_of : (shapes : List Shape) (f p layer i : ℕ) → layered.is_pin layer ≡ true → kept.LiesIn shapes f p layer i
    → IsPinOf shapes f layer i p
pin_of shapes f p layer i l h = record {
  pin = h.pin;
  frame = h.frame;
  pin_is = h.pin_is;
  frame_is = h.frame_is;
  lies_so = and_from (is_pin h.pin && is_frame h.frame) (within h.pin.rect h.frame.rect)
      (and_from (is_pin h.pin) (is_frame h.frame) (ap layered.is_pin h.of_layer ∙ l)
      (eq-eqb h.frame.layer 20 h.of_frame)) h.inside;
  of_layer = h.of_layer;
  of_number = h.of_number;
}

lies_parts : (pin frame : Shape) → lies_in pin frame ≡ true → (layered.is_pin pin.layer ≡ true) × (frame.layer ≡ 20)
    × (within pin.rect frame.rect ≡ true)
lies_parts pin frame e =
    let a = and_parts (is_pin pin && is_frame frame) (within pin.rect frame.rect) e in
    let b = and_parts (is_pin pin) (is_frame frame) a.0 in
    (b.0, eqb-true frame.layer 20 b.1, a.1)

pub of_pin : (shapes : List Shape) (f p layer i : ℕ) → IsPinOf shapes f layer i p → kept.LiesIn shapes f p layer i
of_pin shapes f p layer i h =
    let k = lies_parts h.pin h.frame h.lies_so in
    record {
      frame = h.frame;
      pin = h.pin;
      frame_is = h.frame_is;
      pin_is = h.pin_is;
      of_frame = k.1;
      of_layer = h.of_layer;
      of_number = h.of_number;
      inside = k.2;
    }

pub lies_of : (shapes : List Shape) (p f : ℕ) (h : LiesIn shapes p f)
    → kept.LiesIn shapes f p h.pin.layer h.pin.datatype
lies_of shapes p f h =
    let k = lies_parts h.pin h.frame h.lies_so in
    record {
      frame = h.frame;
      pin = h.pin;
      frame_is = h.frame_is;
      pin_is = h.pin_is;
      of_frame = k.1;
      of_layer = refl;
      of_number = refl;
      inside = k.2;
    }

pub of_lies : (shapes : List Shape) (f p layer i : ℕ) → layered.is_pin layer ≡ true → kept.LiesIn shapes f p layer i
    → LiesIn shapes p f
of_lies shapes f p layer i l h = let k = pin_of shapes f p layer i l h in
    record { pin = k.pin; frame = k.frame; pin_is = k.pin_is; frame_is = k.frame_is; lies_so = k.lies_so }

pins_of : (shapes : List Shape) (f layer n : ℕ) → layered.is_pin layer ≡ true → kept.HasPins shapes f layer n
    → HasPins shapes f layer n
pins_of shapes f layer n l h = record {
  each = λ i lt. (let p = h.each i lt in (p.0, pin_of shapes f p.0 layer i l p.1));
  one = λ i p q a b. h.one i p q (of_pin shapes f p layer i a) (of_pin shapes f q layer i b);
  no_other = λ i p a. h.no_other i p (of_pin shapes f p layer i a);
}

pub cells_kept : (shapes : List Shape) → kept.E1 shapes → ReportsNone (CellsBroken shapes)
cells_kept shapes e a b (inl h) =
    h.none e.some.0 (record { shape = e.some.1; shape_is = e.some.2; passes_so = eq-eqb e.some.1.layer 20 e.some.3 })
cells_kept shapes e a b (inr (none, (inl h, same))) =
    let c = e.cells a h.frame.shape h.frame.shape_is (eqb-true h.frame.shape.layer 20 h.frame.passes_so) in
    h.not_so
    (record {
      kind = c.kind;
      kind_is = c.kind_so;
      inputs = pins_of shapes a 21 _ refl c.inputs;
      outputs = pins_of shapes a 22 _ refl c.outputs;
    })
cells_kept shapes e a b (inr (none, (inr h, same))) =
    let pin = h.pin.shape in
    let f = e.each_in a pin h.pin.shape_is h.pin.passes_so in
    h.not_so (record {
      frame = f.0;
      lies = of_lies shapes f.0 a pin.layer pin.datatype h.pin.passes_so f.1;
      only = λ g lies.
          let k = lies_of shapes a g lies in
          let same : lies.pin ≡ pin = same_Some _ _ (sym lies.pin_is ∙ h.pin.shape_is) in
          e.one_frame g f.0 a pin.layer pin.datatype h.pin.passes_so
          (subst (λ (x : Shape). kept.LiesIn shapes g a x.layer x.datatype) same k) f.1;
    })
