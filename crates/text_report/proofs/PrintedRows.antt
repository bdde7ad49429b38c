-- Printing the report row by row.
use Rattle.std.proofs.Common.{◌≡◌, ℕ, zero, suc, ◌+◌, ◌-◌, ◌<◌, ◌≤◌, List, [], ◌++◌, length, Result, Ok, Err}
use Rattle.std.proofs.Common.{OnOk}
use Rattle.std.proofs.Common.{IfErr, refl, sym, ap, subst, ◌∙◌, arith, append_assoc, append-nil, add-one}
use Rattle.std.specs.Prelude.{slice_index, Bool, max}
use Rattle.std.proofs.Math.Path.{fun_ext}
use Rattle.aq_base.specs.Output.{Output, printed}
use Rattle.aq_base.specs.declared.store.StoreRefusal.{StoreRefusal}
use Rattle.geom.specs.declared.shapes.Flat.{Flat}
use Rattle.circuit_extracted.specs.Circuits.{CircuitView}
use Rattle.pulse_sim.specs.Travelling.{skew_of, even_of, odd_of}
use Rattle.text_answers.specs.Counts.{counts_line}
use Rattle.text_answers.specs.WordLines.{answers_text, answers_to}
use Rattle.text_answers.specs.Printing.{PrintsWithin, IsPrinted, PutsPage, RefusesPage}
use Rattle.text_answers.proofs.Pages.{within_first, nothing_printed, all_put}
use Rattle.text_report.specs.declared.figures.Figures.{Figures}
use Rattle.text_report.specs.declared.kinds.Kinds.{Kinds}
use Rattle.text_report.specs.declared.tables.RowTable.{RowTable}
use Rattle.text_report.specs.Kinds.{kinds_of, junction_count, cells_in}
use Rattle.text_report.specs.Outline.{chip_width, chip_height}
use Rattle.text_report.specs.Wires.{wires, wires_from, longest_of}
use Rattle.text_report.specs.ReportText.{kinds_line, junctions_line, size_line, longest_line, skew_line, row_text}
use Rattle.text_report.specs.ReportText.{row_line, row_lines, head_text, report_text}
use Rattle.text_report.specs.Code.Figures.{AreFigures, head_of, row_of_table, rows_of_table, text_of}

-- before the first row
pub text_begins : (old : Output) (page : List ℕ) (figures : Figures) (limit : ℕ) → page ≡ head_of figures limit
    → IsPrinted old old page (text_of figures limit 0)
text_begins old page figures limit made =
    nothing_printed old page (head_of figures limit ++ []) (append-nil (head_of figures limit) ∙ sym made)

-- one row more
pub text_more : (figures : Figures) (limit row : ℕ)
    → text_of figures limit row ++ row_of_table figures.rows row ≡ text_of figures limit (row + 1)
text_more figures limit row =
    append_assoc (head_of figures limit) (rows_of_table figures.rows row) (row_of_table figures.rows row)
    ∙ ap (λ (n : ℕ). text_of figures limit n) (sym (add-one row))

-- more rows
record Begins (shorter longer : List ℕ) : Type 0 where
  rest : List ℕ
  whole_is : longer ≡ shorter ++ rest

rows_after : (table : RowTable) (k m : ℕ) → Begins (rows_of_table table k) (rows_of_table table (k + m))
rows_after table k zero = record {
  rest = [];
  whole_is = (let same : ◌≡◌ {A = ℕ} (k + 0) k = omega arith in ap (rows_of_table table) same)
      ∙ sym (append-nil (rows_of_table table k));
}
rows_after table k (suc m) =
    let one : Begins (rows_of_table table k) (rows_of_table table (k + m)) = rows_after table k m in
    record {
      rest = one.rest ++ row_of_table table (k + m);
      whole_is = (let same : ◌≡◌ {A = ℕ} (k + suc m) (suc (k + m)) = omega arith in ap (rows_of_table table) same)
          ∙ (ap (λ (t : List ℕ). t ++ row_of_table table (k + m)) one.whole_is
          ∙ append_assoc (rows_of_table table k) one.rest (row_of_table table (k + m)));
    }

pub prefix_of_rows : (figures : Figures) (limit k n : ℕ) (before now : Output) (why : StoreRefusal) → k ≤ n
    → PrintsWithin before now (text_of figures limit k) why → PrintsWithin before now (text_of figures limit n) why
prefix_of_rows figures limit k n before now why le part =
    let more : Begins (rows_of_table figures.rows k) (rows_of_table figures.rows (k + (n - k))) =
    rows_after figures.rows k (n - k) in
    let same : ◌≡◌ {A = ℕ} n (k + (n - k)) = omega arith in
    let whole : text_of figures limit n ≡ text_of figures limit k ++ more.rest =
    ap (λ (m : ℕ). text_of figures limit m) same
    ∙ (ap (λ (t : List ℕ). head_of figures limit ++ t) more.whole_is
    ∙ sym (append_assoc (head_of figures limit) (rows_of_table figures.rows k) more.rest)) in
    rw whole (within_first more.rest part)

-- the last page is put
pub all_rows : (figures : Figures) (limit rows k : ℕ) (before old now : Output) (page left : List ℕ)
    (result : Result (Unit {0}) StoreRefusal) → k ≡ rows → IsPrinted before old page (text_of figures limit k)
    → OnOk result (PutsPage old now page left) → OnOk result (left ≡ [])
    → OnOk result (now ≡ printed (text_of figures limit rows) before)
all_rows figures limit rows k before old now page left (Ok x) end is put empty =
    all_put before now (text_of figures limit rows)
    (subst (λ (n : ℕ). IsPrinted before now [] (text_of figures limit n)) end
    (subst (λ (l : List ℕ). IsPrinted before now l (text_of figures limit k)) empty
    (put before (text_of figures limit k) is)))
all_rows figures limit rows k before old now page left (Err e) end is put empty = tt

pub rows_refused : (figures : Figures) (limit rows k : ℕ) (before old now : Output) (page : List ℕ)
    (result : Result (Unit {0}) StoreRefusal) → k ≡ rows → IsPrinted before old page (text_of figures limit k)
    → IfErr result (RefusesPage old now page) → IfErr result (PrintsWithin before now (text_of figures limit rows))
rows_refused figures limit rows k before old now page (Ok x) end is refused = tt
rows_refused figures limit rows k before old now page (Err why) end is refused =
    subst (λ (n : ℕ). PrintsWithin before now (text_of figures limit n) why) end
    (refused before (text_of figures limit k) is)

-- where no word is given, the counts line alone is printed
pub counts_alone : (circuit : CircuitView) (words : List (List Bool)) → words ≡ []
    → answers_text circuit (answers_to circuit words) ≡ counts_line circuit
unfolding answers_text
counts_alone circuit words none =
    ap (λ (w : List (List Bool)). answers_text circuit (answers_to circuit w)) none ∙ append-nil (counts_line circuit)

-- ---- the figures of a chip make its report

module _ (flat : Flat) (circuit : CircuitView) (near far : ℕ → ℕ) (figures : Figures) (limit : ℕ)
    (are : AreFigures flat circuit near far figures)
    (greater : skew_of circuit near far ≡ max (even_of circuit near far) (odd_of circuit near far)) where
  skew_is : skew_line (max figures.even figures.odd) figures.even figures.odd
      ≡ skew_line (skew_of circuit near far) (even_of circuit near far) (odd_of circuit near far)
  skew_is =
      ap (λ (n : ℕ). skew_line (max n figures.odd) n figures.odd) are.even_is
      ∙ ap (λ (n : ℕ). skew_line (max (even_of circuit near far) n) (even_of circuit near far) n) are.odd_is
      ∙ ap (λ (n : ℕ). skew_line n (even_of circuit near far) (odd_of circuit near far)) (sym greater)

  head_is : head_of figures limit ≡ head_text flat circuit near far limit
  unfolding head_of head_text
  head_is =
      let end : List ℕ = skew_line (max figures.even figures.odd) figures.even figures.odd in
      ap (λ (k : Kinds). kinds_line k ++ junctions_line figures.junctions ++ size_line figures.width figures.height
      ++ longest_line figures.longest limit ++ end) are.kinds_are
      ∙ (ap (λ (n : ℕ). kinds_line (kinds_of circuit.cells) ++ junctions_line n
      ++ size_line figures.width figures.height ++ longest_line figures.longest limit ++ end) are.junctions_are
      ∙ (ap (λ (n : ℕ). kinds_line (kinds_of circuit.cells) ++ junctions_line (junction_count circuit.cells)
      ++ size_line n figures.height ++ longest_line figures.longest limit ++ end) are.width_is
      ∙ (ap (λ (n : ℕ). kinds_line (kinds_of circuit.cells) ++ junctions_line (junction_count circuit.cells)
      ++ size_line (chip_width flat.shapes) n ++ longest_line figures.longest limit ++ end) are.height_is
      ∙ (ap (λ (n : ℕ). kinds_line (kinds_of circuit.cells) ++ junctions_line (junction_count circuit.cells)
      ++ size_line (chip_width flat.shapes) (chip_height flat.shapes) ++ longest_line n limit ++ end) are.longest_is
      ∙ ap (λ (text : List ℕ). kinds_line (kinds_of circuit.cells) ++ junctions_line (junction_count circuit.cells)
      ++ size_line (chip_width flat.shapes) (chip_height flat.shapes)
      ++ longest_line (longest_of flat circuit (wires flat circuit)) limit ++ text) skew_is))))

  row_is : (row : ℕ) → row < circuit.rows → row_of_table figures.rows row ≡ row_line flat circuit near far row
  row_is row lt =
      let rows = figures.rows in
      let cells : ℕ = cells_in row circuit.cells in
      let count : ℕ = length (wires_from flat circuit row) in
      ap (λ (n : ℕ). row_text row n (slice_index rows.wires.items row) (slice_index rows.longest.items row)
      (slice_index rows.skews.items row)) (are.rows_are.cells_are.each row lt)
      ∙ (ap (λ (n : ℕ). row_text row cells n (slice_index rows.longest.items row) (slice_index rows.skews.items row))
      (are.rows_are.wires_are.each row lt)
      ∙ (ap (λ (n : ℕ). row_text row cells count n (slice_index rows.skews.items row))
      (are.rows_are.longest_are.each row lt)
      ∙ ap (λ (n : ℕ). row_text row cells count (longest_of flat circuit (wires_from flat circuit row)) n)
      (are.rows_are.skews_are.each row lt)))

  rows_are : (n : ℕ) → n ≤ circuit.rows → rows_of_table figures.rows n ≡ row_lines flat circuit near far n
  rows_are zero le = refl
  rows_are (suc row) le =
      ap (λ (t : List ℕ). t ++ row_of_table figures.rows row) (rows_are row (omega arith))
      ∙ ap (λ (t : List ℕ). row_lines flat circuit near far row ++ t) (row_is row (omega arith))

  pub report_is : counts_line circuit ++ text_of figures limit circuit.rows ≡ report_text flat circuit near far limit
  unfolding report_text
  report_is =
      ap (λ (t : List ℕ). counts_line circuit ++ t)
      (ap (λ (t : List ℕ). t ++ rows_of_table figures.rows circuit.rows) head_is
      ∙ ap (λ (t : List ℕ). head_text flat circuit near far limit ++ t) (rows_are circuit.rows (omega arith)))

-- ---- by any places of the cells

pub same_report : (flat : Flat) (circuit : CircuitView) (near far other_near other_far : ℕ → ℕ) (limit : ℕ)
    → ((c : ℕ) → (near c ≡ other_near c) × (far c ≡ other_far c))
    → report_text flat circuit near far limit ≡ report_text flat circuit other_near other_far limit
same_report flat circuit near far other_near other_far limit same =
    ap (λ (n : ℕ → ℕ). report_text flat circuit n far limit) (fun_ext (λ (c : ℕ). (same c).0))
    ∙ ap (λ (n : ℕ → ℕ). report_text flat circuit other_near n limit) (fun_ext (λ (c : ℕ). (same c).1))

-- ---- and so from the figures, by any places of the cells

pub the_report : (flat : Flat) (circuit : CircuitView) (near far other_near other_far : ℕ → ℕ) (figures : Figures)
    (limit other_limit : ℕ) → AreFigures flat circuit near far figures
    → skew_of circuit near far ≡ max (even_of circuit near far) (odd_of circuit near far)
    → limit ≡ other_limit
    → ((c : ℕ) → (near c ≡ other_near c) × (far c ≡ other_far c))
    → counts_line circuit ++ text_of figures limit circuit.rows
    ≡ report_text flat circuit other_near other_far other_limit
the_report flat circuit near far other_near other_far figures limit other_limit are greater limit_is same =
    report_is flat circuit near far figures limit are greater
    ∙ (ap (λ (n : ℕ). report_text flat circuit near far n) limit_is
    ∙ same_report flat circuit near far other_near other_far other_limit same)
