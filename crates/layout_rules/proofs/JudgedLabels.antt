-- The rule of labels is judged: labels by themselves, the pins that want one, and the labels' numbers.
use Rattle.std.proofs.Common.{◌≡◌, ℕ, ◌+◌, ◌<◌, ◌≤◌, ◌⊎◌, true, false, length, Some, arith, slice_get, count_by}
use Rattle.std.proofs.lemmas.Option.{slice_get_within}
use Rattle.geom.specs.declared.shapes.Label.{Label}
use Rattle.geom.specs.declared.shapes.Flat.{Flat}
use Rattle.layout_rules.specs.declared.layers.TheConstants.{LABELS}
use Rattle.layout_rules.specs.Labels.{marks, number_of_label}
use Rattle.layout_rules.specs.Reports.{Alone, Afterwards}
use Rattle.layout_rules.specs.CircuitRules.{is_port, is_port_label, port_count, have_one_name, LabelsBroken}
use Rattle.layout_rules.specs.CircuitRules.{IsLabelAt, IsNoPortLabel, IsUnlabelledPort, IsRepeated, IsMisnumbered}
use Rattle.layout_rules.proofs.Deciding.{dec_same, dec_both, dec_either, dec_not, dec_true, dec_false, dec_equal}
use Rattle.layout_rules.proofs.Deciding.{dec_below, dec_up_to, dec_some_item}
use Rattle.layout_rules.proofs.Judging.{Judged, judged_alone, judged_afterwards}
use Rattle.layout_rules.proofs.DecidedShapes.{dec_passes_with, passes_within}

module _ (flat : Flat) where
  -- a label with this number, of which something holds
  abbrev SomeLabel : (ℕ → Label → Type 0) → ℕ → Type 0
  SomeLabel Q n = (place : ℕ)
      × ((label : Label) × (slice_get flat.labels place ≡ Some label)
      × ((label.layer ≡ LABELS) × (n ≡ length flat.shapes + place) × Q place label))

  abbrev pub dec_label : (Q : ℕ → Label → Type 0) (n : ℕ)
      → ((place : ℕ) (label : Label) → Dec (Q place label)) → Dec (SomeLabel Q n)
  dec_label Q n decided = dec_some_item flat.labels (λ place label. (label.layer ≡ LABELS)
      × (n ≡ length flat.shapes + place) × Q place label)
      (λ place label is. dec_same (λ h. (h.0, h.1.0, h.1.1)) (λ h. (h.0, (h.1, h.2)))
      (dec_both (dec_equal label.layer LABELS)
      (dec_both (dec_equal n (length flat.shapes + place)) (decided place label))))

  abbrev pub label_at : (Q : ℕ → Label → Type 0) (n : ℕ) → SomeLabel Q n → IsLabelAt flat n
  label_at Q n h = record { place = h.0; label = h.1.0; label_is = h.1.1; of_layer = h.1.2.0; number_is = h.1.2.1 }

  abbrev pub some_label : (Q : ℕ → Label → Type 0) (n : ℕ) (at : IsLabelAt flat n) → Q at.place at.label → SomeLabel Q n
  some_label Q n at q = (at.place, (at.label, at.label_is, (at.of_layer, at.number_is, q)))

  abbrev pub count : ℕ
  count = length flat.shapes + length flat.labels

  pub label_within : (n : ℕ) → IsLabelAt flat n → n < count
  label_within n at = let lt : at.place < length flat.labels =
      slice_get_within flat.labels at.place at.label at.label_is in let e = at.number_is in omega arith

  abbrev IsNoPort : ℕ → Label → Type 0
  IsNoPort place label = is_port_label flat.shapes label ≡ false

  abbrev pub dec_no_port : (n : ℕ) → Dec (IsNoPortLabel flat n)
  dec_no_port n = dec_same (λ h. record { at = label_at IsNoPort n h; not_so = h.1.2.2 })
      (λ h. some_label IsNoPort n h.at h.not_so)
      (dec_label IsNoPort n (λ place label. dec_false (is_port_label flat.shapes label)))

  abbrev pub dec_unlabelled : (p : ℕ) → Dec (IsUnlabelledPort flat p)
  dec_unlabelled p = dec_same
      (λ h. record { port = h.0; not_one = h.1 }) (λ h. (h.port, h.not_one))
      (dec_passes_with (is_port flat.shapes) flat.shapes p
      (λ s. count_by (λ label. marks label s) flat.labels ≡ 1 → ⊥)
      (λ s. dec_not (dec_equal (count_by (λ label. marks label s) flat.labels) 1)))

  abbrev pub dec_repeated : (place : ℕ) (label : Label) → Dec (IsRepeated flat place label)
  dec_repeated place label = dec_same
      (λ h. record {
        earlier = h.0;
        other = h.1.0;
        before = h.1.2.0;
        other_is = h.1.1;
        of_layer = h.1.2.1.0;
        one_name = h.1.2.1.1;
      })
      (λ h. (h.earlier, (h.other, h.other_is, (h.before, (h.of_layer, h.one_name)))))
      (dec_some_item flat.labels (λ earlier other. (earlier < place)
      × ((other.layer ≡ LABELS) × (have_one_name other label ≡ true)))
      (λ earlier other is. dec_both (dec_below earlier place)
      (dec_both (dec_equal other.layer LABELS) (dec_true (have_one_name other label)))))

  abbrev IsWrong : ℕ → Label → Type 0
  IsWrong place label = (port_count flat.shapes label ≤ number_of_label label) ⊎ IsRepeated flat place label

  abbrev pub dec_misnumbered : (n : ℕ) → Dec (IsMisnumbered flat n)
  dec_misnumbered n = dec_same (λ h. record { at = label_at IsWrong n h; wrong = h.1.2.2 })
      (λ h. some_label IsWrong n h.at h.wrong)
      (dec_label IsWrong n (λ place label. dec_either (dec_up_to (port_count flat.shapes label) (number_of_label label))
      (dec_repeated place label)))

  abbrev pub labels_judged : Judged (LabelsBroken flat)
  labels_judged = judged_afterwards (Alone (IsNoPortLabel flat))
      (Afterwards (Alone (IsUnlabelledPort flat)) (Alone (IsMisnumbered flat)))
      (judged_alone (IsNoPortLabel flat) count dec_no_port (λ n h. label_within n h.at))
      (judged_afterwards (Alone (IsUnlabelledPort flat)) (Alone (IsMisnumbered flat))
      (judged_alone (IsUnlabelledPort flat) (length flat.shapes) dec_unlabelled
      (λ p h. passes_within (is_port flat.shapes) flat.shapes p h.port))
      (judged_alone (IsMisnumbered flat) count dec_misnumbered (λ n h. label_within n h.at)))
