-- The table of labels, filled label by label.
use Rattle.std.proofs.Common.{◌≡◌, ◌≢◌, ℕ, ◌+◌, ◌<◌, ◌≤◌, Bool, true, false, inl, inr, ◌&&◌, List, ◌++◌, length, get_or}
use Rattle.std.proofs.Common.{take, drop, replicate, append-nil, Some, None, refl, sym, ap, subst, ◌∙◌, arith}
use Rattle.std.specs.Prelude.{slice_get, slice_index, slice_set, count_by, not, ◌==◌}
use Rattle.std.specs.List.{list_any}
use Rattle.std.proofs.Math.ListN.{length-set}
use Rattle.std.proofs.lemmas.Bool.{cases_eq, cases_lt, both_ways, false_from_ne_true}
use Rattle.std.proofs.lemmas.List.{take_all, drop_all, get_or-replicate, length-replicate}
use Rattle.std.proofs.lemmas.List.Sums.{count_by_more_yes, count_by_more_no}
use Rattle.std.proofs.lemmas.Option.{same_Some, slice_get_within, slice_get-get_or, get_or_from_slice_get}
use Rattle.geom.specs.declared.shapes.Shape.{Shape}
use Rattle.geom.specs.declared.shapes.Label.{Label}
use Rattle.geom.specs.declared.shapes.Flat.{Flat}
use Rattle.layout_rules.specs.Labels.{marks, is_labelled}
use Rattle.layout_rules.specs.declared.layers.TheConstants.{INPUT_PIN}
use Rattle.layout_rules.proofs.PlaceLaws.{PassesAt, list_any-at, list_any-place}
use Rattle.shape_extract.specs.Extraction.{is_wired}
use Rattle.shape_extract.specs.Passing.{PassesIn}
use Rattle.shape_extract.specs.Searches.{SaysWhether, AreThose}
use Rattle.shape_extract.specs.Code.Marking.{with_label, has_label, has_one, label_in, IsMarkOf, AreMarks, IsNoted}
use Rattle.shape_extract.specs.declared.tables.mark_table.Mark.{Mark}
use Rattle.shape_extract.specs.declared.tables.mark_table.Mark.TheVariants.{Unmarked, Once, Often}
use Rattle.shape_extract.proofs.Each.{item_at}
use Rattle.shape_extract.proofs.FramePlaces.{read_same, read_other}

-- ---- one label

-- the first n of the shapes of these numbers have one label more, and all others what they had
pub record NotedTo (n label : ℕ) (numbers : List ℕ) (old new : List Mark) : Type 0 where
  pub long : length new ≡ length old
  pub hit : (k : ℕ) (m : Mark) → k < n → k < length numbers → slice_get old (slice_index numbers k) ≡ Some m
      → slice_get new (slice_index numbers k) ≡ Some (with_label m label)
  pub later : (k : ℕ) (m : Mark) → n ≤ k → k < length numbers → slice_get old (slice_index numbers k) ≡ Some m
      → slice_get new (slice_index numbers k) ≡ Some m
  pub miss : (p : ℕ) (m : Mark) → ((k : ℕ) → k < length numbers → slice_index numbers k ≢ p) → slice_get old p ≡ Some m
      → slice_get new p ≡ Some m

pub noted_none : (label : ℕ) (numbers : List ℕ) (old : List Mark) → NotedTo 0 label numbers old old
noted_none label numbers old = record {
  long = refl;
  hit = λ k m lt. absurd (omega arith);
  later = λ k m le lt is. is;
  miss = λ p m other is. is;
}

module _ (n label : ℕ) (numbers : List ℕ) (old new : List Mark) (m v : Mark) (rising : (j k : ℕ) → j < k
    → k < length numbers → slice_index numbers j < slice_index numbers k)
    (lt : n < length numbers) (within : slice_index numbers n < length new) (noted : NotedTo n label numbers old new)
    (is : slice_get new (slice_index numbers n) ≡ Some m) (v_is : v ≡ with_label m label) where
  apart : (k : ℕ) → k < length numbers → k ≢ n → slice_index numbers k ≢ slice_index numbers n
  apart k k_lt ne e = elim (cases_lt k n) [
    | inl less ↦ (let q : slice_index numbers k < slice_index numbers n = rising k n less lt in omega arith)
    | inr more ↦ (let q : slice_index numbers n < slice_index numbers k = rising n k (omega arith) k_lt in omega arith)
  ]

  pub noted_more : NotedTo (n + 1) label numbers old (slice_set new (slice_index numbers n) v)
  noted_more = record {
    long = length-set new (slice_index numbers n) v ∙ noted.long;
    hit = λ k o k_lt in_list got. elim (cases_eq k n) [
      | inl e ↦
          let here : slice_get old (slice_index numbers n) ≡ Some o =
          sym (ap (λ (j : ℕ). slice_get old (slice_index numbers j)) e) ∙ got in
          let same : m ≡ o = same_Some m o (sym is ∙ noted.later n o (omega arith) lt here) in
          read_same new (slice_index numbers n) (slice_index numbers k) v within (ap (slice_index numbers) e)
          ∙ ap Some (v_is ∙ ap (λ (x : Mark). with_label x label) same)
      | inr ne ↦ read_other new (slice_index numbers n) (slice_index numbers k) v (with_label o label)
          (apart k in_list ne) (noted.hit k o (omega arith) in_list got)
    ];
    later = λ k o le in_list got. read_other new (slice_index numbers n) (slice_index numbers k) v o
        (apart k in_list (λ e. omega arith)) (noted.later k o (omega arith) in_list got);
    miss = λ p o other got. read_other new (slice_index numbers n) p v o (λ e. other n lt (sym e))
        (noted.miss p o other got);
  }

pub noted_all : (n label : ℕ) (numbers : List ℕ) (old new : List Mark) → length numbers ≤ n
    → NotedTo n label numbers old new → IsNoted label numbers old new
noted_all n label numbers old new all noted =
    record { long = noted.long; hit = λ k m lt. noted.hit k m (omega arith) lt; miss = noted.miss }

-- ---- label by label

-- the mark says how many of the first n labels mark the shape
pub record NoneTo (n : ℕ) (labels : List Label) (s : Shape) : Type 0 where
  pub count_is : count_by (λ label. marks label s) (take n labels) ≡ 0
  pub none : (l : ℕ) (label : Label) → l < n → slice_get labels l ≡ Some label → marks label s ≡ true → ⊥

abbrev pub IsMarkTo : ℕ → List Label → Shape → Mark → Type 0
IsMarkTo n labels s Unmarked = NoneTo n labels s
IsMarkTo n labels s (Once l) = (count_by (λ label. marks label s) (take n labels) ≡ 1)
    × PassesIn (λ label. marks label s) labels l
IsMarkTo n labels s (Often l) = (1 < count_by (λ label. marks label s) (take n labels))
    × PassesIn (λ label. marks label s) labels l

pub record MarksTo (n : ℕ) (shapes : List Shape) (labels : List Label) (marking : List Mark) : Type 0 where
  pub long : length marking ≡ length shapes
  pub each : (p : ℕ) (s : Shape) (m : Mark) → slice_get shapes p ≡ Some s
      → slice_get marking p ≡ Some m → IsMarkTo n labels s m

module _ (n : ℕ) (labels : List Label) (s : Shape) (label : Label) (label_is : slice_get labels n ≡ Some label) where
  lt : n < length labels
  lt = slice_get_within labels n label label_is

  here : get_or labels n label ≡ label
  here = get_or_from_slice_get labels n label label label_is

  more_yes : marks label s ≡ true
      → count_by (λ l. marks l s) (take (n + 1) labels) ≡ count_by (λ l. marks l s) (take n labels) + 1
  unfolding lt here
  more_yes e = count_by_more_yes (λ (l : Label). marks l s) labels n label lt (ap (λ (l : Label). marks l s) here ∙ e)

  more_no : marks label s ≡ false
      → count_by (λ l. marks l s) (take (n + 1) labels) ≡ count_by (λ l. marks l s) (take n labels)
  unfolding lt here
  more_no e = count_by_more_no (λ (l : Label). marks l s) labels n label lt (ap (λ (l : Label). marks l s) here ∙ e)

  passing : marks label s ≡ true → PassesIn (λ l. marks l s) labels n
  passing e = record { item = label; item_is = label_is; passes_so = e }

  mark_yes : (m : Mark) → marks label s ≡ true → IsMarkTo n labels s m → IsMarkTo (n + 1) labels s (with_label m n)
  mark_yes Unmarked e h = (omega (arith, more_yes e, h.count_is), passing e)
  mark_yes (Once l) e h = (omega (arith, more_yes e, h.0), passing e)
  mark_yes (Often l) e h = (omega (arith, more_yes e, h.0), passing e)

  none_next : marks label s ≡ false → NoneTo n labels s → (l : ℕ) (other : Label) → l < n + 1
      → slice_get labels l ≡ Some other → marks other s ≡ true → ⊥
  none_next e h l other l_lt is so = elim (cases_eq l n) [
    | inl same ↦ both_ways (marks label s) e
        (ap (λ (x : Label). marks x s) (same_Some label other (sym label_is ∙ (ap (slice_get labels) (sym same) ∙ is)))
        ∙ so)
    | inr ne ↦ h.none l other (omega arith) is so
  ]

  mark_no : (m : Mark) → marks label s ≡ false → IsMarkTo n labels s m → IsMarkTo (n + 1) labels s m
  mark_no Unmarked e h = record { count_is = more_no e ∙ h.count_is; none = none_next e h }
  mark_no (Once l) e h = (more_no e ∙ h.0, h.1)
  mark_no (Often l) e h = (omega (arith, more_no e, h.0), h.1)

module _ (n : ℕ) (shapes : List Shape) (labels : List Label) (label : Label) (numbers : List ℕ) (old new : List Mark)
    (label_is : slice_get labels n ≡ Some label) (are : AreThose (PassesIn (marks label) shapes) numbers)
    (noted : IsNoted n numbers old new) (before : MarksTo n shapes labels old) where
  next_of : (p : ℕ) (s : Shape) (o m : Mark) → slice_get shapes p ≡ Some s → slice_get old p ≡ Some o
      → slice_get new p ≡ Some m → (b : Bool) → marks label s ≡ b → IsMarkTo (n + 1) labels s m
  next_of p s o m s_is o_is m_is true e =
      let k = are.complete p (record { item = s; item_is = s_is; passes_so = e }) in
      let at : slice_get old (slice_index numbers k.0) ≡ Some o = ap (slice_get old) k.1.1 ∙ o_is in
      let same : with_label o n ≡ m = same_Some (with_label o n) m (sym (noted.hit k.0 o k.1.0 at)
      ∙ (ap (slice_get new) k.1.1 ∙ m_is)) in
      subst (IsMarkTo (n + 1) labels s) same (mark_yes n labels s label label_is o e (before.each p s o s_is o_is))
  next_of p s o m s_is o_is m_is false e =
      let other : (k : ℕ) → k < length numbers → slice_index numbers k ≢ p = λ k lt at. (
      let pass : PassesIn (marks label) shapes (slice_index numbers k) = are.each k lt in
      both_ways (marks label s) e
      (ap (marks label) (same_Some s pass.item (sym s_is ∙ (ap (slice_get shapes) (sym at) ∙ pass.item_is)))
      ∙ pass.passes_so)
      ) in
      let same : o ≡ m = same_Some o m (sym (noted.miss p o other o_is) ∙ m_is) in
      subst (IsMarkTo (n + 1) labels s) same (mark_no n labels s label label_is o e (before.each p s o s_is o_is))

  pub marks_more : MarksTo (n + 1) shapes labels new
  marks_more = record {
    long = noted.long ∙ before.long;
    each = λ p s m s_is m_is. (
        let lt : p < length old = (let q = slice_get_within shapes p s s_is in omega (arith, before.long)) in
        let o = item_at old p lt in
        next_of p s o.0 m s_is o.1 m_is (marks label s) refl
        );
  }

-- the numbers are those of shapes, rising
pub marked_within : (shapes : List Shape) (labels : List Label) (label : Label) (n : ℕ) (numbers : List ℕ)
    (marking : List Mark) → AreThose (PassesIn (marks label) shapes) numbers → MarksTo n shapes labels marking → (k : ℕ)
    → k < length numbers → slice_index numbers k < length marking
marked_within shapes labels label n numbers marking are before k lt =
    (let pass = are.each k lt in let q = slice_get_within shapes
    (slice_index numbers k) pass.item pass.item_is in omega (arith, before.long))

-- a table that is filled with the mark of none
unmarked_all : (n : ℕ) (marking : List Mark) → marking ≡ replicate n Unmarked → (p : ℕ) (m : Mark)
    → slice_get marking p ≡ Some m → m ≡ Unmarked
unmarked_all n marking e p m is =
    let lt : p < length marking = slice_get_within marking p m is in
    let long : length marking ≡ n = ap length e ∙ length-replicate n Unmarked in
    sym (get_or_from_slice_get marking p m Unmarked is)
    ∙ (ap (λ (ms : List Mark). get_or ms p Unmarked) e ∙ get_or-replicate n p Unmarked Unmarked (omega arith))

-- what is written back in the place of all
pub put_back : {A : Type 0} (n : ℕ) (old new : List A) → length new ≡ length old → n ≡ length old
    → take n (new ++ drop (length new) old) ≡ new
put_back n old new long e = ap (λ rest. take n (new ++ rest)) (drop_all (length new) old (omega arith))
    ∙ (ap (take n) (append-nil new) ∙ take_all n new (omega arith))

marks_none : (shapes : List Shape) (labels : List Label) (marking : List Mark) → length marking ≡ length shapes
    → ((p : ℕ) (m : Mark) → slice_get marking p ≡ Some m → m ≡ Unmarked) → MarksTo 0 shapes labels marking
marks_none shapes labels marking long none = record {
  long = long;
  each = λ p s m s_is m_is. subst (IsMarkTo 0 labels s) (sym (none p m m_is))
      (record { count_is = refl; none = λ l label lt. absurd (omega arith) });
}

pub marks_blank : (shapes : List Shape) (labels : List Label) (marking : List Mark) (n : ℕ)
    → marking ≡ replicate n Unmarked → n ≡ length shapes → MarksTo 0 shapes labels marking
marks_blank shapes labels marking n e long = marks_none shapes labels marking
    (ap length e ∙ (length-replicate n Unmarked ∙ long)) (unmarked_all n marking e)

mark_all : (n : ℕ) (labels : List Label) (s : Shape) (m : Mark) → take n labels ≡ labels → length labels ≤ n
    → IsMarkTo n labels s m → IsMarkOf labels s m
mark_all n labels s Unmarked whole all h = record {
  count_is = ap (count_by (λ (l : Label). marks l s)) (sym whole) ∙ h.count_is;
  none = λ l label is.
      (let lt = slice_get_within labels l label is in h.none l label (omega arith) is);
}
mark_all n labels s (Once l) whole all h = (ap (count_by (λ (l : Label). marks l s)) (sym whole) ∙ h.0, h.1)
mark_all n labels s (Often l) whole all h =
    (let k = ap (count_by (λ (l : Label). marks l s)) whole in let z = h.0 in omega arith, h.1)

pub marks_all : (n : ℕ) (shapes : List Shape) (labels : List Label) (marking : List Mark) → length labels ≤ n
    → MarksTo n shapes labels marking → AreMarks shapes labels marking
marks_all n shapes labels marking all are =
    record {
      long = are.long;
      each = λ p s m s_is m_is. mark_all n labels s m (take_all n labels all) all (are.each p s m s_is m_is);
    }

-- ---- what the table says

pub labelled_so : (labels : List Label) (s : Shape) (m : Mark) → IsMarkOf labels s m
    → has_label m ≡ list_any (λ label. marks label s) labels
labelled_so labels s Unmarked h =
    sym (false_from_ne_true (list_any (λ (l : Label). marks l s) labels)
    (λ any. (let at : PassesAt (λ (l : Label). marks l s) labels = list_any-place
    (λ (l : Label). marks l s) labels any in h.none at.place at.item at.item_is at.passes_so)))
labelled_so labels s (Once l) h =
    sym (list_any-at (λ (l : Label). marks l s) labels l h.1.item h.1.item_is h.1.passes_so)
labelled_so labels s (Often l) h =
    sym (list_any-at (λ (l : Label). marks l s) labels l h.1.item h.1.item_is h.1.passes_so)

pub one_so : (labels : List Label) (s : Shape) (m : Mark) → IsMarkOf labels s m
    → SaysWhether (has_one m) (count_by (λ label. marks label s) labels ≡ 1)
one_so labels s Unmarked h = λ one. (let z = h.count_is in omega arith)
one_so labels s (Once l) h = h.0
one_so labels s (Often l) h = λ one. (let z = h.0 in omega arith)

module _ (flat : Flat) (marking : List Mark) (are : AreMarks flat.shapes flat.labels marking) (a : ℕ) (s : Shape)
    (got : slice_get flat.shapes a ≡ Some s) where
  pub mark_of : IsMarkOf flat.labels s (get_or marking a Unmarked)
  mark_of =
      let lt : a < length flat.shapes = slice_get_within flat.shapes a s got in
      are.each a s (get_or marking a Unmarked) got (slice_get-get_or marking a Unmarked (omega (arith, are.long)))

  pub labelled_at : has_label (get_or marking a Unmarked) ≡ is_labelled flat s
  unfolding mark_of
  labelled_at = labelled_so flat.labels s (get_or marking a Unmarked) mark_of

  pub one_at : SaysWhether (has_one (get_or marking a Unmarked)) (count_by (λ label. marks label s) flat.labels ≡ 1)
  unfolding mark_of
  one_at = one_so flat.labels s (get_or marking a Unmarked) mark_of

  wired_is : (b : Bool) → b ≡ (s.layer == INPUT_PIN && not (has_label (get_or marking a Unmarked)))
      → is_wired flat s ≡ b
  wired_is b e = ap (λ (l : Bool). s.layer == INPUT_PIN && not l) (sym labelled_at) ∙ sym e

  here_is : get_or flat.shapes a s ≡ s
  here_is = get_or_from_slice_get flat.shapes a s s got

  module _ (wires : ℕ) (counted : wires ≡ count_by (is_wired flat) (take a flat.shapes)) where
    pub wired_yes : true ≡ (s.layer == INPUT_PIN && not (has_label (get_or marking a Unmarked)))
        → wires + 1 ≡ count_by (is_wired flat) (take (a + 1) flat.shapes)
    wired_yes e = ap (λ (x : ℕ). x + 1) counted
        ∙ sym (count_by_more_yes (is_wired flat) flat.shapes a s (slice_get_within flat.shapes a s got)
        (ap (is_wired flat) here_is ∙ wired_is true e))

    pub wired_no : false ≡ (s.layer == INPUT_PIN && not (has_label (get_or marking a Unmarked)))
        → wires ≡ count_by (is_wired flat) (take (a + 1) flat.shapes)
    wired_no e = counted ∙ sym (count_by_more_no (is_wired flat) flat.shapes a s (slice_get_within flat.shapes a s got)
        (ap (is_wired flat) here_is ∙ wired_is false e))

-- the label in a mark marks the shape
pub label_at : (labels : List Label) (s : Shape) (m : Mark) (l : ℕ) → IsMarkOf labels s m → label_in m ≡ Some l
    → PassesIn (λ label. marks label s) labels l
label_at labels s Unmarked l h e = absurd cc
label_at labels s (Once k) l h e = subst (PassesIn (λ label. marks label s) labels) (same_Some k l e) h.1
label_at labels s (Often k) l h e = subst (PassesIn (λ label. marks label s) labels) (same_Some k l e) h.1

-- and where there is none, none does
pub none_at : (labels : List Label) (s : Shape) (m : Mark) → IsMarkOf labels s m → label_in m ≡ None
    → (l : ℕ) (label : Label) → slice_get labels l ≡ Some label → marks label s ≡ true → ⊥
none_at labels s Unmarked h e l label is so = h.none l label is so
none_at labels s (Once k) h e l label is so = absurd cc
none_at labels s (Often k) h e l label is so = absurd cc
