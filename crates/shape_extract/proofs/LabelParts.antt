-- What the rule of labels reports of a label by itself and of a port.
use Rattle.std.proofs.Common.{◌≡◌, ◌≢◌, ℕ, ◌-◌, ◌≤◌, Bool, true, false, ◌&&◌, List, length, get_or, Some, None, refl}
use Rattle.std.proofs.Common.{sym, ap, subst, ◌∙◌, arith, eq-eqb}
use Rattle.std.specs.Prelude.{slice_get, slice_index, count_by, ◌==◌}
use Rattle.std.specs.List.{list_any}
use Rattle.std.proofs.lemmas.Bool.{both_ways, and_parts, eqb-true, false_from_ne_true}
use Rattle.std.proofs.lemmas.Option.{same_Some, get_or_from_slice_get}
use Rattle.geom.specs.declared.shapes.Shape.{Shape}
use Rattle.geom.specs.declared.shapes.Label.{Label}
use Rattle.geom.specs.declared.shapes.Flat.{Flat}
use Rattle.layout_rules.specs.declared.layers.TheConstants.{LABELS}
use Rattle.layout_rules.specs.Labels.{marks, is_numbered}
use Rattle.layout_rules.specs.Reports.{Alone}
use Rattle.layout_rules.proofs.ReportLaws.{Alone-first, Alone-none}
use Rattle.layout_rules.specs.CircuitRules.{is_port, is_port_label, IsLabelAt, IsNoPortLabel, IsUnlabelledPort}
use Rattle.shape_extract.specs.Searches.{FindsAt, AreThose}
use Rattle.shape_extract.specs.Passing.{PassesIn}
use Rattle.shape_extract.specs.declared.tables.ports.Port.{Port}
use Rattle.shape_extract.specs.Code.Ports.{port_of, ports_of, crosses}
use Rattle.shape_extract.proofs.PortPins.{port_got, crosses_port}
use Rattle.shape_extract.proofs.Passing.{counted_one, found_one, any_of_one}

module _ (shapes : List Shape) (label : Label) (found : List ℕ) (are : AreThose (PassesIn (marks label) shapes) found)
    (numbered : is_numbered label ≡ true) where
  pub not_one : (length found ≡ 1 → ⊥) → false ≡ is_port_label shapes label
  not_one ne = sym (false_from_ne_true (is_port_label shapes label) (λ h. (
      let both = and_parts (is_numbered label && count_by (marks label) shapes == 1)
      (list_any (λ pin. marks label pin && is_port shapes pin) shapes) h in
      let one : count_by (marks label) shapes ≡ 1 = eqb-true (count_by (marks label) shapes) 1
      (and_parts (is_numbered label) (count_by (marks label) shapes == 1) both.0).1 in
      ne (found_one (marks label) shapes found are one)
      )))

  one_pin : (n : ℕ) (port : Port) → length found ≡ 1 → slice_index found 0 ≡ n
      → slice_get (ports_of shapes) n ≡ Some port → crosses port ≡ is_port_label shapes label
  one_pin n port one is got =
      let first : PassesIn (marks label) shapes n = subst (PassesIn (marks label) shapes) is
      (are.each 0 (omega arith)) in
      let same : port ≡ port_of shapes first.item = same_Some port (port_of shapes first.item)
      (sym got ∙ port_got shapes n first.item first.item_is) in
      let counted : (count_by (marks label) shapes == 1) ≡ true = eq-eqb (count_by (marks label) shapes) 1
      (counted_one (marks label) shapes found are one) in
      let any : list_any (λ pin. marks label pin && is_port shapes pin) shapes ≡ is_port shapes first.item = any_of_one
      (marks label) shapes found are (is_port shapes) n first.item one is first.item_is in
      ap crosses same ∙ (crosses_port shapes first.item ∙ (sym any
      ∙ (ap (λ (b : Bool). (true && b) && list_any (λ pin. marks label pin && is_port shapes pin) shapes) (sym counted)
      ∙ ap (λ (b : Bool). (b && count_by (marks label) shapes == 1) && list_any
      (λ pin. marks label pin && is_port shapes pin) shapes) (sym numbered))))

  -- the same for the port that is read
  pub one_port : (ports : List Port) (d : Port) → ports ≡ ports_of shapes → length found ≡ 1
      → crosses (get_or ports (slice_index found 0) d) ≡ is_port_label shapes label
  one_port ports d e one =
      let first : PassesIn (marks label) shapes (slice_index found 0) = are.each 0 (omega arith) in
      let got : slice_get (ports_of shapes) (slice_index found 0) ≡ Some (port_of shapes first.item) = port_got shapes
      (slice_index found 0) first.item first.item_is in
      let is : get_or (ports_of shapes) (slice_index found 0) d ≡ port_of shapes first.item = get_or_from_slice_get
      (ports_of shapes) (slice_index found 0) (port_of shapes first.item) d got in
      ap (λ (l : List Port). crosses (get_or l (slice_index found 0) d)) e
      ∙ (ap crosses is ∙ one_pin (slice_index found 0) (port_of shapes first.item) one refl got)

-- ---- labels by themselves

module _ (flat : Flat) (a : ℕ) (label : Label) (past : length flat.shapes ≤ a)
    (got : slice_get flat.labels (a - length flat.shapes) ≡ Some label) where
  place_is : (at : IsLabelAt flat a) → at.label ≡ label
  place_is at =
      let place : at.place ≡ a - length flat.shapes = omega (arith, at.number_is) in
      same_Some at.label label (sym at.label_is ∙ (ap (slice_get flat.labels) place ∙ got))

  pub no_port_label : label.layer ≡ LABELS → is_port_label flat.shapes label ≡ false
      → FindsAt (Alone (IsNoPortLabel flat)) a (Some a)
  no_port_label layer no_port = Alone-first (IsNoPortLabel flat) a (record {
    at = record {
      place = a - length flat.shapes;
      label = label;
      label_is = got;
      of_layer = layer;
      number_is = omega arith;
    };
    not_so = no_port;
  })

  pub no_label : label.layer ≢ LABELS → FindsAt (Alone (IsNoPortLabel flat)) a None
  no_label ne = Alone-none (IsNoPortLabel flat) a
      (λ fault. ne (ap (λ (l : Label). l.layer) (sym (place_is fault.at)) ∙ fault.at.of_layer))

  pub port_label : is_port_label flat.shapes label ≡ true → FindsAt (Alone (IsNoPortLabel flat)) a None
  port_label port = Alone-none (IsNoPortLabel flat) a
      (λ fault. both_ways (is_port_label flat.shapes label)
      (ap (is_port_label flat.shapes) (sym (place_is fault.at)) ∙ fault.not_so) port)

-- ---- ports

module _ (flat : Flat) (a : ℕ) (s : Shape) (shape_is : slice_get flat.shapes a ≡ Some s) where
  pub port_read : (ports : List Port) (d : Port) → ports ≡ ports_of flat.shapes
      → crosses (get_or ports a d) ≡ is_port flat.shapes s
  port_read ports d e =
      let is : get_or (ports_of flat.shapes) a d ≡ port_of flat.shapes s = get_or_from_slice_get
      (ports_of flat.shapes) a (port_of flat.shapes s) d (port_got flat.shapes a s shape_is) in
      ap (λ (l : List Port). crosses (get_or l a d)) e ∙ (ap crosses is ∙ crosses_port flat.shapes s)

  pub unlabelled : is_port flat.shapes s ≡ true → (count_by (λ label. marks label s) flat.labels ≡ 1 → ⊥)
      → FindsAt (Alone (IsUnlabelledPort flat)) a (Some a)
  unlabelled port ne = Alone-first (IsUnlabelledPort flat) a (record {
    port = record { shape = s; shape_is = shape_is; passes_so = port };
    not_one = ne;
  })

  here : (fault : IsUnlabelledPort flat a) → fault.port.shape ≡ s
  here fault = same_Some fault.port.shape s (sym fault.port.shape_is ∙ shape_is)

  pub not_port : is_port flat.shapes s ≡ false → FindsAt (Alone (IsUnlabelledPort flat)) a None
  not_port inner = Alone-none (IsUnlabelledPort flat) a
      (λ fault. both_ways (is_port flat.shapes s) inner
      (ap (is_port flat.shapes) (sym (here fault)) ∙ fault.port.passes_so))

  pub labelled_once : count_by (λ label. marks label s) flat.labels ≡ 1 → FindsAt (Alone (IsUnlabelledPort flat)) a None
  labelled_once one = Alone-none (IsUnlabelledPort flat) a
      (λ fault. fault.not_one (ap (λ (x : Shape). count_by (λ label. marks label x) flat.labels) (here fault) ∙ one))
