-- Two lines of one start and one bar excite the rows, as a test.
use Rattle.std.proofs.Common.{◌≡◌, ℕ, ◌&&◌, ◌||◌, Bool, true, List, [], ◌∷◌, Some, rules}
use Rattle.std.specs.Prelude.{slice_get, ◌==◌, not, count_by, ◌%◌}
use Rattle.std.specs.Str.{bytes_eq}
use Rattle.std.proofs.lemmas.Bool.{and_parts, eqb-true}
use Rattle.std.proofs.lemmas.Slice.Eq.{bytes_eq-Decides}
use Rattle.geom.specs.declared.shapes.Shape.{Shape}
use Rattle.geom.specs.Rectangle.{overlap, within}
use Rattle.layout_rules.specs.declared.layers.TheConstants.{EVEN_LINE, ODD_LINE, BAR, START}
use Rattle.layout_rules.specs.Layers.{is_line, is_frame}
use Rattle.layout_rules.specs.ExcitationLines.{meet, enters, phase_of}
use Rattle.layout_rules.specs.ExcitationRule.{is_no_part, ExcitationBroken}
use Rattle.layout_rules.specs.Reports.{ReportsNone}
use Rattle.layout_rules.specs.Rows.{row_of}
use Rattle.layout_rules.proofs.Lines.{IsShortLine, AreLines, is_start_on, is_part, excitation_kept}
use Rattle.layout_rules.proofs.Places.{places}

pub same_list : (xs ys : List ℕ) → bytes_eq xs ys ≡ true → xs ≡ ys
same_list xs ys h = search (rules, bytes_eq-Decides)

-- s and t, the shapes of these numbers, are a start and its bar, and meet no other shape
abbrev pub short_line : List Shape → ℕ → ℕ → Shape → Shape → Bool
short_line shapes a b s t =
    (is_part START s && is_part BAR t)
    && ((meet s t && meet t s)
    && (bytes_eq (places (meet s) shapes) (a ∷ b ∷ []) && bytes_eq (places (meet t) shapes) (a ∷ b ∷ [])))

abbrev pub short_line_so : (shapes : List Shape) (a b : ℕ) (s t : Shape) → slice_get shapes a ≡ Some s
    → slice_get shapes b ≡ Some t
    → short_line shapes a b s t ≡ true → IsShortLine shapes a b
short_line_so shapes a b s t s_is t_is h =
    let two : ((is_part START s && is_part BAR t) ≡ true) × (((meet s t && meet t s)
    && (bytes_eq (places (meet s) shapes) (a ∷ b ∷ []) && bytes_eq (places (meet t) shapes) (a ∷ b ∷ []))) ≡ true) =
    and_parts _ _ h in
    let parts : (is_part START s ≡ true) × (is_part BAR t ≡ true) = and_parts _ _ two.0 in
    let start : (is_line s ≡ true) × ((s.datatype == START) ≡ true) = and_parts _ _ parts.0 in
    let bar : (is_line t ≡ true) × ((t.datatype == BAR) ≡ true) = and_parts _ _ parts.1 in
    let rest : ((meet s t && meet t s) ≡ true) × ((bytes_eq (places (meet s) shapes) (a ∷ b ∷ [])
    && bytes_eq (places (meet t) shapes) (a ∷ b ∷ [])) ≡ true) = and_parts _ _ two.1 in
    let meets : (meet s t ≡ true) × (meet t s ≡ true) = and_parts _ _ rest.0 in
    let alone : (bytes_eq (places (meet s) shapes) (a ∷ b ∷ []) ≡ true)
    × (bytes_eq (places (meet t) shapes) (a ∷ b ∷ []) ≡ true) = and_parts _ _ rest.1 in
    record {
      s = s;
      t = t;
      s_is = s_is;
      t_is = t_is;
      s_line = start.0;
      t_line = bar.0;
      s_start = eqb-true s.datatype START start.1;
      t_bar = eqb-true t.datatype BAR bar.1;
      there = meets.0;
      back = meets.1;
      of_start = same_list _ _ alone.0;
      of_bar = same_list _ _ alone.1;
    }

-- the bar t behind the start s alone lies over the frame, contains it, and has the phase of its row
abbrev excites : List Shape → Shape → Shape → Shape → Bool
excites shapes s t frame =
    (phase_of s t == row_of shapes frame.rect.y0 % 4 && overlap t.rect frame.rect)
    && (within frame.rect t.rect && count_by (λ l. is_line l && overlap l.rect frame.rect) shapes == 1)

-- a chip with the start s and bar t of the even line, and u and v of the odd one
module _ (shapes : List Shape) (a b c d : ℕ) (s t u v : Shape) where
  -- all that stands on the layers of lines
  abbrev pub parts_test : Bool
  parts_test =
      (bytes_eq (places is_no_part shapes) [] && bytes_eq (places is_line shapes) (a ∷ b ∷ c ∷ d ∷ []))
      && ((bytes_eq (places (is_start_on EVEN_LINE) shapes) (a ∷ []) && bytes_eq
      (places (is_start_on ODD_LINE) shapes) (c ∷ []))
      && (bytes_eq (places (is_part BAR) shapes) (b ∷ d ∷ []) && (s.layer == EVEN_LINE && u.layer == ODD_LINE)))

  -- the starts enter their bars, and each frame is excited
  abbrev excited_test : Bool
  excited_test =
      (enters s t && enters u v)
      && bytes_eq (places (λ f. is_frame f && not (excites shapes s t f || excites shapes u v f)) shapes) []

  abbrev pub stand_test : Bool
  stand_test = (short_line shapes a b s t && short_line shapes c d u v) && parts_test

  abbrev pub lines_test : Bool
  lines_test = stand_test && excited_test

  module _ (s_is : slice_get shapes a ≡ Some s) (t_is : slice_get shapes b ≡ Some t)
      (u_is : slice_get shapes c ≡ Some u) (v_is : slice_get shapes d ≡ Some v) where
    abbrev pub are_lines : stand_test ≡ true → AreLines shapes a b c d
    are_lines h =
        let both : _ × _ = and_parts _ _ h in
        let lines : _ × _ = and_parts _ _ both.0 in
        let two : _ × _ = and_parts _ _ both.1 in
        let all : _ × _ = and_parts _ _ two.0 in
        let rest : _ × _ = and_parts _ _ two.1 in
        let starts : _ × _ = and_parts _ _ rest.0 in
        let bars : _ × _ = and_parts _ _ rest.1 in
        let layers : _ × _ = and_parts _ _ bars.1 in
        record {
          even = short_line_so shapes a b s t s_is t_is lines.0;
          odd = short_line_so shapes c d u v u_is v_is lines.1;
          no_others = same_list _ _ all.0;
          even_start = same_list _ _ starts.0;
          odd_start = same_list _ _ starts.1;
          on_even = eqb-true s.layer EVEN_LINE layers.0;
          on_odd = eqb-true u.layer ODD_LINE layers.1;
          parts = same_list _ _ all.1;
          bars = same_list _ _ bars.0;
        }

    lines_so : lines_test ≡ true → ReportsNone (ExcitationBroken shapes)
    lines_so h =
        let two : _ × _ = and_parts _ _ h in
        let excited : _ × _ = and_parts _ _ two.1 in
        let enter : _ × _ = and_parts _ _ excited.0 in
        let none : places (λ f. is_frame f && not (excites shapes s t f || excites shapes u v f)) shapes ≡ [] =
        same_list _ _ excited.1 in
        excitation_kept shapes a b c d (are_lines two.0) enter.0 enter.1 none

-- the lines of a chip keep their rule, by what is computed of their shapes
pub lines_kept : (shapes : List Shape) (a b c d : ℕ) {s t u v : Shape} → slice_get shapes a ≡ Some s
    → slice_get shapes b ≡ Some t → slice_get shapes c ≡ Some u → slice_get shapes d ≡ Some v
    → lines_test shapes a b c d s t u v ≡ true → ReportsNone (ExcitationBroken shapes)
lines_kept shapes a b c d {s} {t} {u} {v} s_is t_is u_is v_is h = lines_so shapes a b c d s t u v s_is t_is u_is v_is h
