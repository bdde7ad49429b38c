-- Names of labels that are seen, and what the rule of labels reports of their numbers.
use Rattle.std.proofs.Common.{◌≡◌, ◌≢◌, ℕ, ◌+◌, ◌<◌, ◌≤◌, Bool, true, false, ◌&&◌, ◌||◌, List, length, Some, refl, sym}
use Rattle.std.proofs.Common.{ap, subst, ◌∙◌, arith, inl, inr, eq-eqb}
use Rattle.std.specs.Prelude.{slice_get, slice_index, ◌==◌, if◌then◌else◌}
use Rattle.std.proofs.lemmas.List.{get_or-set_same, get_or-set_other}
use Rattle.std.proofs.Math.ListN.{length-set}
use Rattle.std.proofs.lemmas.Bool.{cases_eq, cases_lt, both_ways, and_from, and_parts, or_cases, eqb-true, ne_eqb}
use Rattle.std.proofs.lemmas.Option.{same_Some}
use Rattle.geom.specs.declared.shapes.Label.{Label}
use Rattle.geom.specs.declared.shapes.Flat.{Flat}
use Rattle.layout_rules.specs.declared.layers.TheConstants.{LABELS}
use Rattle.layout_rules.specs.Labels.{letter_i, letter_o, is_decimal, tail, is_numbered, number_of_label}
use Rattle.layout_rules.specs.Pins.{entry_count, exit_count}
use Rattle.layout_rules.specs.Reports.{Alone, ReportsNone, ReportsNoneAt, IsFirstReport}
use Rattle.layout_rules.proofs.ReportLaws.{Alone-first, Alone-none, IsFirstReport-at}
use Rattle.layout_rules.specs.CircuitRules.{is_port_label, port_count, have_one_name, IsNoPortLabel, IsRepeated}
use Rattle.layout_rules.specs.CircuitRules.{IsMisnumbered}
use Rattle.layout_rules.proofs.ReportLaws.{alone_kept}
use Rattle.shape_extract.specs.Code.LabelNames.{name_count, name_place, is_seen, IsTaken, IsRefused}
use Rattle.shape_extract.proofs.Reported.{misnumbered_within}
use Rattle.shape_extract.proofs.Kept.{settled_true}
use Rattle.shape_extract.proofs.Searching.{NoneBelow, none_more, none_all}

-- ---- names and their places

-- the letters of two labels with numbers are the same where both or neither are those of inputs
same_letters : (a b : ℕ) → (a == letter_i || a == letter_o) ≡ true → (b == letter_i || b == letter_o) ≡ true
    → (a == letter_i) ≡ (b == letter_i) → a ≡ b
same_letters a b p q e = elim (cases_eq a letter_i) [
  | inl i ↦ i ∙ sym (eqb-true b letter_i (sym e ∙ eq-eqb a letter_i i))
  | inr ne ↦
      let other : (b == letter_i) ≡ false = sym e ∙ ne_eqb a letter_i ne in
      only_o a p (ne_eqb a letter_i ne) ∙ sym (only_o b q other)
]
  where
    only_o : (x : ℕ) → (x == letter_i || x == letter_o) ≡ true → (x == letter_i) ≡ false → x ≡ letter_o
    only_o x h other = elim (or_cases (x == letter_i) (x == letter_o) h) [
      | inl i ↦ absurd
          (both_ways (x == letter_i) other i)
      | inr o ↦ eqb-true x letter_o o
    ]

module _ (entries exits : ℕ) (a b : Label) where
  -- one name has one place
  pub one_place : have_one_name a b ≡ true → name_place entries a ≡ name_place entries b
  one_place h =
      let both : ((slice_index a.text 0 == slice_index b.text 0) ≡ true)
      × ((number_of_label a == number_of_label b) ≡ true) = and_parts (slice_index a.text 0 == slice_index b.text 0)
      (number_of_label a == number_of_label b) h in
      let letter : slice_index a.text 0 ≡ slice_index b.text 0 = eqb-true (slice_index a.text 0)
      (slice_index b.text 0) both.0 in
      let number : number_of_label a ≡ number_of_label b = eqb-true (number_of_label a) (number_of_label b) both.1 in
      ap (λ (l : ℕ). (if l == letter_i then number_of_label a else entries + number_of_label a)) letter
      ∙ ap (λ (n : ℕ). (if slice_index b.text 0 == letter_i then n else entries + n)) number

  -- two names with one place are one
  pub one_name : is_numbered a ≡ true → is_numbered b ≡ true → number_of_label a < name_count entries exits a
      → number_of_label b < name_count entries exits b → name_place entries a ≡ name_place entries b
      → have_one_name a b ≡ true
  one_name p q fits more e = by_test (slice_index a.text 0 == letter_i) (slice_index b.text 0 == letter_i) refl refl
    where
      letters : Label → Bool
      letters l = slice_index l.text 0 == letter_i || slice_index l.text 0 == letter_o

      joined : slice_index a.text 0 ≡ slice_index b.text 0 → number_of_label a ≡ number_of_label b
          → have_one_name a b ≡ true
      joined letter number = and_from (slice_index a.text 0 == slice_index b.text 0)
          (number_of_label a == number_of_label b) (eq-eqb (slice_index a.text 0) (slice_index b.text 0) letter)
          (eq-eqb (number_of_label a) (number_of_label b) number)

      letter_of : (slice_index a.text 0 == letter_i) ≡ (slice_index b.text 0 == letter_i)
          → slice_index a.text 0 ≡ slice_index b.text 0
      letter_of same = same_letters (slice_index a.text 0) (slice_index b.text 0)
          (and_parts (slice_index a.text 0 == letter_i || slice_index a.text 0 == letter_o)
          (is_decimal (tail a.text)) p).0
          (and_parts (slice_index b.text 0 == letter_i || slice_index b.text 0 == letter_o)
          (is_decimal (tail b.text)) q).0 same

      by_test : (x y : Bool) → (slice_index a.text 0 == letter_i) ≡ x → (slice_index b.text 0 == letter_i) ≡ y
          → have_one_name a b ≡ true
      by_test true true i j =
          let place : number_of_label a ≡ number_of_label b = rw (i, j) at e in
          joined (letter_of (i ∙ sym j)) place
      by_test true false i j =
          let place : number_of_label a ≡ entries + number_of_label b = rw (i, j) at e in
          let low : number_of_label a < entries = rw i at fits in
          absurd (omega arith)
      by_test false true i j =
          let place : entries + number_of_label a ≡ number_of_label b = rw (i, j) at e in
          let low : number_of_label b < entries = rw j at more in
          absurd (omega arith)
      by_test false false i j =
          let place : entries + number_of_label a ≡ entries + number_of_label b = rw (i, j) at e in
          joined (letter_of (i ∙ sym j)) (omega arith)

pub place_within : (entries exits : ℕ) (label : Label) → number_of_label label < name_count entries exits label
    → name_place entries label < entries + exits
place_within entries exits label fits = by_test (slice_index label.text 0 == letter_i) refl
  where
    by_test : (b : Bool) → (slice_index label.text 0 == letter_i) ≡ b → name_place entries label < entries + exits
    by_test true e = let low : number_of_label label < entries = rw e at fits in rw e (omega arith)
    by_test false e = let low : number_of_label label < exits = rw e at fits in rw e (omega arith)

-- ---- the labels that are seen

-- an earlier label has the name of this place
pub record IsSeen (flat : Flat) (entries n place : ℕ) : Type 0 where
  pub number : ℕ
  pub label : Label
  pub before : number < n
  pub label_is : slice_get flat.labels number ≡ Some label
  pub of_layer : label.layer ≡ LABELS
  pub place_is : name_place entries label ≡ place

pub record SeenBelow (n : ℕ) (flat : Flat) (entries exits : ℕ) (seen : List Bool) : Type 0 where
  pub long : length seen ≡ entries + exits
  pub none : NoneBelow (Alone (IsMisnumbered flat)) (length flat.shapes + n)
  pub fits : (k : ℕ) (label : Label) → k < n → slice_get flat.labels k ≡ Some label → label.layer ≡ LABELS
      → number_of_label label < name_count entries exits label
  pub each : (k : ℕ) (label : Label) → k < n → slice_get flat.labels k ≡ Some label → label.layer ≡ LABELS
      → is_seen seen (name_place entries label) ≡ true
  pub only : (place : ℕ) → is_seen seen place ≡ true → IsSeen flat entries n place

module _ (flat : Flat) (entries exits : ℕ) (entries_is : entries ≡ entry_count flat.shapes)
    (exits_is : exits ≡ exit_count flat.shapes) (kept : ReportsNone (Alone (IsNoPortLabel flat))) where
  pub numbered : (k : ℕ) (label : Label) → slice_get flat.labels k ≡ Some label → label.layer ≡ LABELS
      → is_numbered label ≡ true
  numbered k label got layer =
      let port : is_port_label flat.shapes label ≡ true = settled_true (is_port_label flat.shapes label)
      (λ e. alone_kept (IsNoPortLabel flat) kept (length flat.shapes + k) (record {
        at = record { place = k; label = label; label_is = got; of_layer = layer; number_is = refl };
        not_so = e;
      })) in
      (and_parts (is_numbered label) _ (and_parts (is_numbered label && _) _ port).0).0

  pub decimal_tail : (k : ℕ) (label : Label) → slice_get flat.labels k ≡ Some label → label.layer ≡ LABELS
      → is_decimal (tail label.text) ≡ true
  decimal_tail k label got layer =
      (and_parts (slice_index label.text 0 == letter_i || slice_index label.text 0 == letter_o)
      (is_decimal (tail label.text)) (numbered k label got layer)).1

  count_is : (label : Label) → port_count flat.shapes label ≡ name_count entries exits label
  count_is label = ap (λ (n : ℕ). (if slice_index label.text 0 == letter_i then n else exit_count flat.shapes))
      (sym entries_is) ∙ ap (λ (n : ℕ). (if slice_index label.text 0 == letter_i then entries else n)) (sym exits_is)

  module _ (n : ℕ) (seen : List Bool) (are : SeenBelow n flat entries exits seen) (label : Label)
      (got : slice_get flat.labels n ≡ Some label) where
    -- a report of this number is one of this label
    here_is : (fault : IsMisnumbered flat (length flat.shapes + n)) → (fault.at.place ≡ n) × (label ≡ fault.at.label)
    here_is fault =
        let place : fault.at.place ≡ n = omega (arith, fault.at.number_is) in
        (place, same_Some label fault.at.label (sym got ∙ (ap (slice_get flat.labels) (sym place) ∙ fault.at.label_is)))

    no_more : ReportsNoneAt (Alone (IsMisnumbered flat)) (length flat.shapes + n)
        → NoneBelow (Alone (IsMisnumbered flat)) (length flat.shapes + (n + 1))
    no_more none =
        let e : length flat.shapes + n + 1 ≡ length flat.shapes + (n + 1) = omega arith in
        subst (NoneBelow (Alone (IsMisnumbered flat))) e
        (none_more (Alone (IsMisnumbered flat)) (length flat.shapes + n) are.none none)

    wider : (place : ℕ) → IsSeen flat entries n place → IsSeen flat entries (n + 1) place
    wider place s = record {
      number = s.number;
      label = s.label;
      before = omega (arith, s.before);
      label_is = s.label_is;
      of_layer = s.of_layer;
      place_is = s.place_is;
    }

    pub seen_skip : label.layer ≢ LABELS → SeenBelow (n + 1) flat entries exits seen
    seen_skip ne = record {
      long = are.long;
      none = no_more (Alone-none (IsMisnumbered flat) (length flat.shapes + n)
          (λ fault. ne (ap (λ (l : Label). l.layer) (here_is fault).1 ∙ fault.at.of_layer)));
      fits = λ k other lt at layer. elim (cases_eq k n) [
        | inl e ↦ absurd (ne (ap (λ (l : Label). l.layer)
            (same_Some label other (sym got ∙ (ap (slice_get flat.labels) (sym e) ∙ at))) ∙ layer))
        | inr less ↦ are.fits k other (omega arith) at layer
      ];
      each = λ k other lt at layer. elim (cases_eq k n) [
        | inl e ↦ absurd (ne (ap (λ (l : Label). l.layer)
            (same_Some label other (sym got ∙ (ap (slice_get flat.labels) (sym e) ∙ at))) ∙ layer))
        | inr less ↦ are.each k other (omega arith) at layer
      ];
      only = λ place e. wider place (are.only place e);
    }

    module _ (layer_so : label.layer ≡ LABELS) (new : List Bool) where
      -- an earlier label with its name has taken its place
      repeated_seen : IsRepeated flat n label → is_seen seen (name_place entries label) ≡ true
      repeated_seen r = rw (one_place entries exits r.other label r.one_name) at
          (are.each r.earlier r.other r.before r.other_is r.of_layer)

      pub seen_take : IsTaken entries exits label seen new → SeenBelow (n + 1) flat entries exits new
      seen_take taken = record {
        long = ap length taken.new_is ∙ (length-set {A = Bool} seen (name_place entries label) true ∙ are.long);
        none = no_more (Alone-none (IsMisnumbered flat) (length flat.shapes + n) (λ fault. (
            let here : (fault.at.place ≡ n) × (label ≡ fault.at.label) = here_is fault in
            elim fault.wrong [
              | inl high ↦
                  let h : port_count flat.shapes label ≤ number_of_label label =
                  rw here.1 high in
                  omega (arith, taken.fits, count_is label)
              | inr again ↦
                  let r : IsRepeated flat n label = rw here.1 (rw here.0 at again) in
                  both_ways (is_seen seen (name_place entries label)) taken.free (repeated_seen r)
            ]
            )));
        fits = λ k other lt at layer. elim (cases_eq k n) [
          | inl e ↦ rw (same_Some label other (sym got ∙ (ap (slice_get flat.labels) (sym e) ∙ at))) at taken.fits
          | inr less ↦ are.fits k other (omega arith) at layer
        ];
        each = λ k other lt at layer. elim (cases_eq (name_place entries other) (name_place entries label)) [
          | inl e ↦ rw e here_seen
          | inr ne ↦ elim (cases_eq k n) [
            | inl same ↦ absurd (ne (ap (name_place entries)
                (sym (same_Some label other (sym got ∙ (ap (slice_get flat.labels) (sym same) ∙ at))))))
            | inr less ↦ still (name_place entries other) ne ∙ are.each k other (omega arith) at layer
          ]
        ];
        only = λ place e. elim (cases_eq place (name_place entries label)) [
          | inl same ↦ record {
            number = n;
            label = label;
            before = omega arith;
            label_is = got;
            of_layer = layer_so;
            place_is = sym same;
          }
          | inr ne ↦ wider place (are.only place (sym (still place ne) ∙ e))
        ];
      }
        where
          lt_seen : name_place entries label < length seen
          lt_seen = omega (arith, place_within entries exits label taken.fits, are.long)

          here_seen : is_seen new (name_place entries label) ≡ true
          here_seen = ap (λ (l : List Bool). is_seen l (name_place entries label)) taken.new_is
              ∙ get_or-set_same {A = Bool} seen (name_place entries label) true false lt_seen

          still : (place : ℕ) → place ≢ name_place entries label → is_seen new place ≡ is_seen seen place
          still place ne = ap (λ (l : List Bool). is_seen l place) taken.new_is
              ∙ get_or-set_other {A = Bool} seen (name_place entries label) place true false ne

      refused_fault : IsRefused entries exits label seen new → IsMisnumbered flat (length flat.shapes + n)
      refused_fault refused = record {
        at = record { place = n; label = label; label_is = got; of_layer = layer_so; number_is = refl };
        wrong = elim refused.wrong [
          | inl high ↦ inl (omega (arith, high, count_is label))
          | inr taken ↦ elim (cases_lt (number_of_label label) (name_count entries exits label)) [
            | inl less ↦
                let s : IsSeen flat entries n (name_place entries label) = are.only (name_place entries label) taken in
                inr (record {
                  earlier = s.number;
                  other = s.label;
                  before = s.before;
                  other_is = s.label_is;
                  of_layer = s.of_layer;
                  one_name = one_name entries exits s.label label (numbered s.number s.label s.label_is s.of_layer)
                      (numbered n label got layer_so)
                      (are.fits s.number s.label s.before s.label_is s.of_layer) less s.place_is;
                })
            | inr more ↦ inl (omega (arith, count_is label))
          ]
        ];
      }

      pub refused_first : IsRefused entries exits label seen new
          → IsFirstReport (Alone (IsMisnumbered flat)) (length flat.shapes + n) (length flat.shapes + n)
      refused_first refused = IsFirstReport-at (Alone (IsMisnumbered flat)) (length flat.shapes + n)
          (length flat.shapes + n) (Alone-first (IsMisnumbered flat) (length flat.shapes + n)
          (refused_fault refused)) are.none

pub seen_all : (flat : Flat) (entries exits n : ℕ) (seen : List Bool) → length flat.labels ≤ n
    → SeenBelow n flat entries exits seen → ReportsNone (Alone (IsMisnumbered flat))
seen_all flat entries exits n seen all are = none_all (Alone (IsMisnumbered flat))
    (length flat.shapes + length flat.labels) (length flat.shapes + n) are.none (omega arith)
    (λ a b h. misnumbered_within flat a h.0)
