-- The label of a pin, read from the table of labels.
use Rattle.std.proofs.Common.{◌≡◌, ℕ, ◌<◌, ◌^◌, true, List, length, get_or, Some, None, sym, ap, ◌∙◌, arith}
use Rattle.std.specs.Prelude.{slice_get}
use Rattle.std.proofs.lemmas.Option.{same_Some, slice_get_within}
use Rattle.geom.specs.declared.shapes.Shape.{Shape}
use Rattle.geom.specs.declared.shapes.Label.{Label}
use Rattle.geom.specs.declared.shapes.Flat.{Flat}
use Rattle.layout_rules.specs.Labels.{marks, Marks, is_decimal, tail, number_of_label}
use Rattle.layout_rules.specs.Layers.{is_pin}
use Rattle.layout_rules.specs.Reports.{ReportsNone, Passes}
use Rattle.layout_rules.specs.CircuitRules.{LabelsBroken}
use Rattle.geom.specs.FlatForm.{flat_count}
use Rattle.geom.proofs.Filing.{read_at}
use Rattle.shape_extract.specs.Code.Marking.{AreMarks, label_in}
use Rattle.shape_extract.specs.Passing.{PassesIn}
use Rattle.shape_extract.specs.Code.PinNames.{IsNameOf}
use Rattle.shape_extract.specs.declared.tables.mark_table.Mark.{Mark}
use Rattle.shape_extract.specs.declared.tables.mark_table.Mark.TheVariants.{Unmarked}
use Rattle.shape_extract.proofs.MarkTable.{mark_of, label_at, none_at}
use Rattle.shape_extract.proofs.KeptPins.{decimal_marked, input_named, output_named, label_bound}

-- what a label on a pin says
pub record Says (flat : Flat) (p : ℕ) (label : Label) : Type 0 where
  pub decimal : is_decimal (tail label.text) ≡ true
  pub below : number_of_label label < 2 ^ 32
  pub name : IsNameOf flat p (number_of_label label)

module _ (flat : Flat) (marking : List Mark) (are : AreMarks flat.shapes flat.labels marking) (p : ℕ)
    (pin : Passes is_pin flat.shapes p) where
  module _ (l : ℕ) (e : label_in (get_or marking p Unmarked) ≡ Some l) where
    here : PassesIn (λ label. marks label pin.shape) flat.labels l
    here = label_at flat.labels pin.shape (get_or marking p Unmarked) l
        (mark_of flat marking are p pin.shape pin.shape_is) e

    pub label_there : l < length flat.labels
    unfolding here
    label_there = slice_get_within flat.labels l here.item here.item_is

    -- the label as it is read
    pub label_says : (labels : List Label) (label : Label) → labels ≡ flat.labels → label ≡ get_or labels l label
        → ReportsNone (LabelsBroken flat) → flat_count flat < 2 ^ 32 → Says flat p label
    unfolding here
    label_says labels label same read kept few =
        let is : slice_get flat.labels l ≡ Some label = read_at flat.labels l label label_there (rw same at read) in
        let mark : Marks flat l p = record {
          label = label;
          pin = pin.shape;
          label_is = is;
          pin_is = pin.shape_is;
          marks_so = ap (λ (x : Label). marks x pin.shape) (same_Some label here.item (sym is ∙ here.item_is))
              ∙ here.passes_so;
        } in
        record {
          decimal = decimal_marked flat kept l p mark;
          below = label_bound flat kept l p mark (omega (arith, few));
          name = record {
            input = λ on. input_named flat kept l p mark (ap (λ (s : Shape). s.layer)
                (same_Some pin.shape on.shape (sym pin.shape_is ∙ on.shape_is)) ∙ on.of_layer);
            output = λ on. output_named flat kept l p mark (ap (λ (s : Shape). s.layer)
                (same_Some pin.shape on.shape (sym pin.shape_is ∙ on.shape_is)) ∙ on.of_layer);
          };
        }

  pub no_label : label_in (get_or marking p Unmarked) ≡ None → (l : ℕ) → Marks flat l p → ⊥
  no_label e l m = none_at flat.labels pin.shape (get_or marking p Unmarked)
      (mark_of flat marking are p pin.shape pin.shape_is) e l m.label m.label_is
      (ap (marks m.label) (same_Some pin.shape m.pin (sym pin.shape_is ∙ m.pin_is)) ∙ m.marks_so)
