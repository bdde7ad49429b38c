-- Rows that pass the tests keep the facts of a row, and the other way round.
use Rattle.std.proofs.Common.{◌≡◌, ◌+◌, ◌*◌, ◌<◌, ◌≤◌, ℕ, zero, suc, List, [], ◌∷◌, Bool, true, false, Option, Some}
use Rattle.std.proofs.Common.{None, length, map, refl, sym, ap, ◌∙◌, subst, arith, ltb}
use Rattle.std.specs.Prelude.{◌&&◌, not, nat_le, is_some, slice_get}
use Rattle.std.proofs.lemmas.Bool.{and_parts, eqb-true, ltb-true, lt-ltb, leb-true, le-leb, le-ltb, not-true}
use Rattle.std.proofs.lemmas.Bool.{not_from_false}
use Rattle.std.proofs.lemmas.Option.{same_Some, none-some}
use Rattle.circuit.specs.CellKinds.{inputs_of, outputs_of}
use Rattle.circuit.specs.declared.cell_kind.CellKind.{CellKind}
use Rattle.circuit.specs.declared.cell_kind.CellKind.TheVariants.{Buffer, Inverter, Zero, One, Split2, Split3, Majority}
use Rattle.rowed.specs.declared.source.Source.{Source}
use Rattle.rowed.specs.declared.row_cell.RowCell.{RowCell}
use Rattle.rowed.specs.RowCells.{source_at}
use Rattle.rowed.specs.RowNets.{outputs_at, fed_at, input_at, output_at, is_input, pins_at, ExactlyOne}
use Rattle.rowed.proofs.RowsAbove.{FeedsOne, FirstCell, FirstRow, CellAbove, RowAbove}
use Rattle.placement_check.specs.Numbering.{AreDistinct, IsNumbering}
use Rattle.placement_check.specs.Code.Cells.{pins_are, is_fed, may_begin, is_first, are_first, is_buffer, may_end}
use Rattle.placement_check.specs.Code.Cells.{is_upper, is_before, are_before, are_above, key_of, pins_of}
use Rattle.placement_check.specs.Code.Numbering.{is_numbering, are_distinct}
use Rattle.placement_check.specs.Code.Rows.{row_limit, has_size, is_first_row, is_end, is_row_above}
use Rattle.placement_check.proofs.Numbered.{both, numbering, test_numbering, distinct_keys, test_distinct}

-- the pins of a cell that have sources

abbrev pin_at : Option Source → Option Source → Option Source → ℕ → Option Source
pin_at a b c zero = a
pin_at a b c (suc zero) = b
pin_at a b c (suc (suc zero)) = c
pin_at a b c (suc (suc (suc i))) = None

pin_is : (cell : RowCell) (i : ℕ) → source_at cell i ≡ pin_at cell.source0 cell.source1 cell.source2 i
pin_is cell zero = refl
pin_is cell (suc zero) = refl
pin_is cell (suc (suc zero)) = refl
pin_is cell (suc (suc (suc i))) = refl

no_pin : (i : ℕ) → is_some (pin_at None None None i) ≡ ltb i 0
no_pin zero = refl
no_pin (suc zero) = refl
no_pin (suc (suc zero)) = refl
no_pin (suc (suc (suc i))) = sym (le-ltb (suc (suc (suc i))) 0 (omega arith))

one_pin : (a : Source) (i : ℕ) → is_some (pin_at (Some a) None None i) ≡ ltb i 1
one_pin a zero = refl
one_pin a (suc zero) = refl
one_pin a (suc (suc zero)) = refl
one_pin a (suc (suc (suc i))) = sym (le-ltb (suc (suc (suc i))) 1 (omega arith))

three_pins : (a b c : Source) (i : ℕ) → is_some (pin_at (Some a) (Some b) (Some c) i) ≡ ltb i 3
three_pins a b c zero = refl
three_pins a b c (suc zero) = refl
three_pins a b c (suc (suc zero)) = refl
three_pins a b c (suc (suc (suc i))) = sym (le-ltb (suc (suc (suc i))) 3 (omega arith))

pins_fed : (a b c : Option Source) (n : ℕ) → pins_are a b c n ≡ true → (i : ℕ) → is_some (pin_at a b c i) ≡ ltb i n
pins_fed None None None n e i = no_pin i ∙ ap (ltb i) (sym (eqb-true n 0 e))
pins_fed None None (Some c) n e i = absurd (cc)
pins_fed None (Some b) c n e i = absurd (cc)
pins_fed (Some a) None None n e i = one_pin a i ∙ ap (ltb i) (sym (eqb-true n 1 e))
pins_fed (Some a) None (Some c) n e i = absurd (cc)
pins_fed (Some a) (Some b) None n e i = absurd (cc)
pins_fed (Some a) (Some b) (Some c) n e i = three_pins a b c i ∙ ap (ltb i) (sym (eqb-true n 3 e))

fed : (cell : RowCell) (n : ℕ) → is_fed cell n ≡ true → (i : ℕ) → is_some (source_at cell i) ≡ ltb i n
fed cell n e i = ap is_some (pin_is cell i) ∙ pins_fed cell.source0 cell.source1 cell.source2 n e i

-- a pin that is fed is one of three
few_pins : (cell : RowCell) (i : ℕ) (s : Source) → source_at cell i ≡ Some s → i < 3
few_pins cell zero s e = omega arith
few_pins cell (suc zero) s e = omega arith
few_pins cell (suc (suc zero)) s e = omega arith
few_pins cell (suc (suc (suc i))) s e = absurd (none-some s e)

-- a number that is shown, by the list of numbers

shown_there : (number : RowCell → Option ℕ) (cells : List RowCell) (c : ℕ) (cell : RowCell) (i : ℕ)
    → slice_get cells c ≡ Some cell
    → number cell ≡ Some i → slice_get (map number cells) c ≡ Some (Some i)
shown_there number [] c cell i is e = absurd (none-some cell is)
shown_there number (x ∷ cells) zero cell i is e = ap Some (ap number (same_Some x cell is) ∙ e)
shown_there number (x ∷ cells) (suc c) cell i is e = shown_there number cells c cell i is e

shown_back : (number : RowCell → Option ℕ) (cells : List RowCell) (c i : ℕ)
    → slice_get (map number cells) c ≡ Some (Some i)
    → (cell : RowCell) × (slice_get cells c ≡ Some cell) × (number cell ≡ Some i)
shown_back number [] c i e = absurd (none-some (Some i) e)
shown_back number (x ∷ cells) zero i e = (x, refl, same_Some (number x) (Some i) e)
shown_back number (x ∷ cells) (suc c) i e = shown_back number cells c i e

abbrev input_of : RowCell → Option ℕ
input_of cell = cell.input

abbrev output_of : RowCell → Option ℕ
output_of cell = cell.output

input_cell : (o : Option RowCell) (i : ℕ) → input_at o ≡ Some i
    → (cell : RowCell) × (o ≡ Some cell) × (cell.input ≡ Some i)
input_cell None i e = absurd (none-some i e)
input_cell (Some cell) i e = (cell, refl, e)

output_cell : (o : Option RowCell) (i : ℕ) → output_at o ≡ Some i
    → (cell : RowCell) × (o ≡ Some cell) × (cell.output ≡ Some i)
output_cell None i e = absurd (none-some i e)
output_cell (Some cell) i e = (cell, refl, e)

fed_cell : (o : Option RowCell) (i : ℕ) (s : Source) → fed_at o i ≡ Some s
    → (cell : RowCell) × (o ≡ Some cell) × (source_at cell i ≡ Some s)
fed_cell None i s e = absurd (none-some s e)
fed_cell (Some cell) i s e = (cell, refl, e)

each_input : (count : ℕ) (cells : List RowCell) → IsNumbering count (map input_of cells) → (i : ℕ) → i < count
    → ExactlyOne (λ (c : ℕ). input_at (slice_get cells c) ≡ Some i)
each_input count cells known i lt =
    let one = known.each i lt in
    let there = shown_back input_of cells one.which i one.there in
    record {
      which = one.which;
      there = ap input_at there.1 ∙ there.2;
      only = λ c e.
          let cell = input_cell (slice_get cells c) i e in
          one.only c (shown_there input_of cells c cell.0 i cell.1 cell.2);
    }

each_output : (count : ℕ) (cells : List RowCell) → IsNumbering count (map output_of cells) → (i : ℕ) → i < count
    → ExactlyOne (λ (c : ℕ). output_at (slice_get cells c) ≡ Some i)
each_output count cells known i lt =
    let one = known.each i lt in
    let there = shown_back output_of cells one.which i one.there in
    record {
      which = one.which;
      there = ap output_at there.1 ∙ there.2;
      only = λ c e.
          let cell = output_cell (slice_get cells c) i e in
          one.only c (shown_there output_of cells c cell.0 i cell.1 cell.2);
    }

-- the first row

begin_input : (kind : CellKind) (b : Bool) → may_begin kind b ≡ true → b ≡ is_input 0 kind
begin_input Buffer b e = e
begin_input Inverter b e = absurd (cc)
begin_input Zero b e = not-true b e
begin_input One b e = not-true b e
begin_input Split2 b e = absurd (cc)
begin_input Split3 b e = absurd (cc)
begin_input Majority b e = absurd (cc)

begin_pins : (kind : CellKind) (b : Bool) → may_begin kind b ≡ true → 0 ≡ pins_at 0 kind
begin_pins Buffer b e = refl
begin_pins Inverter b e = absurd (cc)
begin_pins Zero b e = refl
begin_pins One b e = refl
begin_pins Split2 b e = absurd (cc)
begin_pins Split3 b e = absurd (cc)
begin_pins Majority b e = absurd (cc)

first_at : (cells : List RowCell) → are_first cells ≡ true → (c : ℕ) (cell : RowCell) → slice_get cells c ≡ Some cell
    → is_first cell ≡ true
first_at [] e c cell is = absurd (none-some cell is)
first_at (x ∷ cells) e zero cell is =
    subst (λ (y : RowCell). is_first y ≡ true) (same_Some x cell is) (and_parts (is_first x) (are_first cells) e).0
first_at (x ∷ cells) e (suc c) cell is = first_at cells (and_parts (is_first x) (are_first cells) e).1 c cell is

record FirstTests (cell : RowCell) : Type 0 where
  begins : may_begin cell.kind (is_some cell.input) ≡ true
  no_output : is_some cell.output ≡ false
  no_source : is_fed cell 0 ≡ true

first_tests : (cell : RowCell) → is_first cell ≡ true → FirstTests cell
first_tests cell e =
    let parts = and_parts (may_begin cell.kind (is_some cell.input) && not (is_some cell.output)) (is_fed cell 0) e in
    let ends = and_parts (may_begin cell.kind (is_some cell.input)) (not (is_some cell.output)) parts.0 in
    record { begins = ends.0; no_output = not-true (is_some cell.output) ends.1; no_source = parts.1 }

no_source_at : (cell : RowCell) → is_fed cell 0 ≡ true → (i : ℕ) (s : Source) → source_at cell i ≡ Some s → ⊥
no_source_at cell e i s is =
    let some : is_some (source_at cell i) ≡ true = ap is_some is in
    let none : is_some (source_at cell i) ≡ false = fed cell 0 e i ∙ le-ltb i 0 (omega arith) in
    absurd (cc)

first_cell : (inputs : ℕ) (cells : List RowCell) → are_first cells ≡ true → IsNumbering inputs (map input_of cells)
    → (c : ℕ) (cell : RowCell)
    → slice_get cells c ≡ Some cell → FirstCell inputs cell
first_cell inputs cells stand numbered c cell is =
    let tests = first_tests cell (first_at cells stand c cell is) in
    record {
      fed = λ i. fed cell 0 tests.no_source i ∙ ap (ltb i) (begin_pins cell.kind (is_some cell.input) tests.begins);
      none_before = no_source_at cell tests.no_source;
      input = begin_input cell.kind (is_some cell.input) tests.begins;
      input_below = λ i e. numbered.below c i (shown_there input_of cells c cell i is e);
      no_output = tests.no_output;
    }

size_is : (cells : List RowCell) → has_size cells ≡ true → (0 < length cells) × (length cells ≤ row_limit)
size_is cells e =
    let parts = and_parts (ltb 0 (length cells)) (nat_le (length cells) row_limit) e in
    (ltb-true 0 (length cells) parts.0, leb-true (length cells) row_limit parts.1)

size_test : (cells : List RowCell) → 0 < length cells → length cells ≤ row_limit → has_size cells ≡ true
size_test cells some few =
    both (ltb 0 (length cells)) (nat_le (length cells) row_limit) (lt-ltb 0 (length cells) some)
    (le-leb (length cells) row_limit few)

record FirstRowTests (inputs : ℕ) (cells : List RowCell) : Type 0 where
  size : has_size cells ≡ true
  stand : are_first cells ≡ true
  numbered : is_numbering inputs (map input_of cells) ≡ true

first_row_tests : (inputs : ℕ) (cells : List RowCell) → is_first_row inputs cells ≡ true → FirstRowTests inputs cells
first_row_tests inputs cells e =
    let parts = and_parts (has_size cells && are_first cells) (is_numbering inputs (map input_of cells)) e in
    let two = and_parts (has_size cells) (are_first cells) parts.0 in
    record { size = two.0; stand = two.1; numbered = parts.1 }

pub first_size : (inputs : ℕ) (cells : List RowCell) → is_first_row inputs cells ≡ true → length cells ≤ row_limit
first_size inputs cells e = (size_is cells (first_row_tests inputs cells e).size).1

pub first_row : (inputs : ℕ) (cells : List RowCell) → is_first_row inputs cells ≡ true → FirstRow inputs cells
first_row inputs cells e =
    let tests = first_row_tests inputs cells e in
    let numbered = numbering inputs (map input_of cells) tests.numbered in
    record {
      some = (size_is cells tests.size).0;
      stands = first_cell inputs cells tests.stand numbered;
      feeds_one = λ c d i j s a b.
          let cell = fed_cell (slice_get cells c) i s a in
          absurd (no_source_at cell.0 (first_tests cell.0 (first_at cells tests.stand c cell.0 cell.1)).no_source i s
          cell.2);
      each_input = each_input inputs cells numbered;
    }

-- another row

buffer_is : (kind : CellKind) → is_buffer kind ≡ true → kind ≡ Buffer
buffer_is Buffer e = refl
buffer_is kind e = absurd (cc)

end_output : (last : Bool) (kind : CellKind) (o : Bool) → may_end last kind o ≡ true → o ≡ last
end_output true kind o e = (and_parts o (is_buffer kind) e).0
end_output false kind o e = not-true o e

end_kind : (last : Bool) (kind : CellKind) (o : Bool) → may_end last kind o ≡ true → last ≡ true → kind ≡ Buffer
end_kind true kind o e is = buffer_is kind (and_parts o (is_buffer kind) e).1
end_kind false kind o e is = absurd (cc)

above_at : (below : List RowCell) (last : Bool) (cells : List RowCell) → are_above below last cells ≡ true
    → (c : ℕ) (cell : RowCell) → slice_get cells c ≡ Some cell
    → (is_upper last cell ≡ true) × (are_before below cell ≡ true)
above_at below last [] e c cell is = absurd (none-some cell is)
above_at below last (x ∷ cells) e zero cell is =
    let here = and_parts (is_upper last x) (are_before below x)
    (and_parts (is_upper last x && are_before below x) (are_above below last cells) e).0 in
    let same : x ≡ cell = same_Some x cell is in (
      subst (λ (y : RowCell). is_upper last y ≡ true) same here.0,
      subst (λ (y : RowCell). are_before below y ≡ true) same here.1,
    )
above_at below last (x ∷ cells) e (suc c) cell is =
    above_at below last cells (and_parts (is_upper last x && are_before below x) (are_above below last cells) e).1 c
    cell is

before_is : (below : List RowCell) (o : Option Source) (s : Source) → is_before below o ≡ true → o ≡ Some s
    → s.output < outputs_at (slice_get below s.cell)
before_is below None s e is = absurd (none-some s is)
before_is below (Some t) s e is =
    let test = subst (λ (u : Source). ltb u.output (outputs_at (slice_get below u.cell)) ≡ true) (same_Some t s is) e in
    ltb-true s.output (outputs_at (slice_get below s.cell)) test

sources_before : (below : List RowCell) (cell : RowCell) → are_before below cell ≡ true → (i : ℕ) (s : Source)
    → source_at cell i ≡ Some s → s.output < outputs_at (slice_get below s.cell)
sources_before below cell e zero s is =
    before_is below cell.source0 s (and_parts (is_before below cell.source0) (is_before below cell.source1)
    (and_parts (is_before below cell.source0 && is_before below cell.source1) (is_before below cell.source2) e).0).0 is
sources_before below cell e (suc zero) s is =
    before_is below cell.source1 s (and_parts (is_before below cell.source0) (is_before below cell.source1)
    (and_parts (is_before below cell.source0 && is_before below cell.source1) (is_before below cell.source2) e).0).1 is
sources_before below cell e (suc (suc zero)) s is =
    before_is below cell.source2 s (and_parts (is_before below cell.source0 && is_before below cell.source1)
    (is_before below cell.source2) e).1 is
sources_before below cell e (suc (suc (suc i))) s is = absurd (none-some s is)

record UpperTests (last : Bool) (cell : RowCell) : Type 0 where
  ends : may_end last cell.kind (is_some cell.output) ≡ true
  no_input : is_some cell.input ≡ false
  sources : is_fed cell (inputs_of cell.kind) ≡ true

upper_tests : (last : Bool) (cell : RowCell) → is_upper last cell ≡ true → UpperTests last cell
upper_tests last cell e =
    let parts = and_parts (may_end last cell.kind (is_some cell.output) && not (is_some cell.input))
    (is_fed cell (inputs_of cell.kind)) e in
    let ends = and_parts (may_end last cell.kind (is_some cell.output)) (not (is_some cell.input)) parts.0 in
    record { ends = ends.0; no_input = not-true (is_some cell.input) ends.1; sources = parts.1 }

-- only cells of the last row show outputs
output_below : (outputs : ℕ) (last : Bool) (cells : List RowCell)
    → (last ≡ true → IsNumbering outputs (map output_of cells)) → (c : ℕ) (cell : RowCell)
    → slice_get cells c ≡ Some cell → is_some cell.output ≡ last → (i : ℕ) → cell.output ≡ Some i → i < outputs
output_below outputs true cells known c cell is some i e =
    (known refl).below c i (shown_there output_of cells c cell i is e)
output_below outputs false cells known c cell is some i e =
    let h : is_some cell.output ≡ true = ap is_some e in absurd (cc)

cell_above : (outputs : ℕ) (last : Bool) (below cells : List RowCell) → are_above below last cells ≡ true
    → (last ≡ true → IsNumbering outputs (map output_of cells)) → (c : ℕ) (cell : RowCell)
    → slice_get cells c ≡ Some cell → CellAbove outputs last below cell
cell_above outputs last below cells stand numbered c cell is =
    let here = above_at below last cells stand c cell is in
    let tests = upper_tests last cell here.0 in
    let output = end_output last cell.kind (is_some cell.output) tests.ends in
    record {
      fed = fed cell (inputs_of cell.kind) tests.sources;
      before = sources_before below cell here.1;
      no_input = tests.no_input;
      output = output;
      output_below = output_below outputs last cells numbered c cell is output;
      last_kind = end_kind last cell.kind (is_some cell.output) tests.ends;
    }

-- the keys of pins

pin_there : (cells : List RowCell) (c i : ℕ) (s : Source) → fed_at (slice_get cells c) i ≡ Some s
    → slice_get (pins_of cells) (3 * c + i) ≡ Some (Some (3 * s.cell + s.output))
pin_there [] c i s e = absurd (none-some s e)
pin_there (x ∷ cells) zero zero s e = ap (λ (o : Option Source). Some (key_of o)) e
pin_there (x ∷ cells) zero (suc zero) s e = ap (λ (o : Option Source). Some (key_of o)) e
pin_there (x ∷ cells) zero (suc (suc zero)) s e = ap (λ (o : Option Source). Some (key_of o)) e
pin_there (x ∷ cells) zero (suc (suc (suc i))) s e = absurd (none-some s e)
pin_there (x ∷ cells) (suc c) i s e =
    let at : suc (suc (suc (3 * c + i))) ≡ 3 * suc c + i = omega arith in
    subst (λ (n : ℕ). slice_get (pins_of (x ∷ cells)) n ≡ Some (Some (3 * s.cell + s.output))) at
    (pin_there cells c i s e)

-- a key, by its pin
record Pin (cells : List RowCell) (n key : ℕ) : Type 0 where
  cell : ℕ
  pin : ℕ
  source : Source
  fed : fed_at (slice_get cells cell) pin ≡ Some source
  key_is : key ≡ 3 * source.cell + source.output
  at : n ≡ 3 * cell + pin

source_of : (o : Option Source) (key : ℕ) → key_of o ≡ Some key
    → (s : Source) × (o ≡ Some s) × (key ≡ 3 * s.cell + s.output)
source_of None key e = absurd (none-some key e)
source_of (Some s) key e = (s, refl, sym (same_Some (3 * s.cell + s.output) key e))

pin_back : (cells : List RowCell) (n key : ℕ) → slice_get (pins_of cells) n ≡ Some (Some key) → Pin cells n key
pin_back [] n key e = absurd (none-some (Some key) e)
pin_back (x ∷ cells) zero key e =
    let s = source_of x.source0 key (same_Some (key_of x.source0) (Some key) e) in
    record { cell = 0; pin = 0; source = s.0; fed = s.1; key_is = s.2; at = omega arith }
pin_back (x ∷ cells) (suc zero) key e =
    let s = source_of x.source1 key (same_Some (key_of x.source1) (Some key) e) in
    record { cell = 0; pin = 1; source = s.0; fed = s.1; key_is = s.2; at = omega arith }
pin_back (x ∷ cells) (suc (suc zero)) key e =
    let s = source_of x.source2 key (same_Some (key_of x.source2) (Some key) e) in
    record { cell = 0; pin = 2; source = s.0; fed = s.1; key_is = s.2; at = omega arith }
pin_back (x ∷ cells) (suc (suc (suc n))) key e =
    let p = pin_back cells n key e in
    let at = p.at in
    record { cell = suc p.cell; pin = p.pin; source = p.source; fed = p.fed; key_is = p.key_is; at = omega arith }

pin_below : (cells : List RowCell) (c i : ℕ) (s : Source) → fed_at (slice_get cells c) i ≡ Some s → i < 3
pin_below cells c i s e = let cell = fed_cell (slice_get cells c) i s e in few_pins cell.0 i s cell.2

feeds_one : (bound : ℕ) (cells : List RowCell) → AreDistinct bound (pins_of cells) → FeedsOne cells
feeds_one bound cells known c d i j s a b =
    let same = known.apart (3 * c + i) (3 * d + j) (3 * s.cell + s.output) (pin_there cells c i s a)
    (pin_there cells d j s b) in
    let low = pin_below cells c i s a in
    let lower = pin_below cells d j s b in
    (omega arith, omega arith)

few_outputs : (kind : CellKind) → outputs_of kind ≤ 3
few_outputs Buffer = omega arith
few_outputs kind = omega arith

output_is : (below : List RowCell) (c n : ℕ) → n < outputs_at (slice_get below c) → (c < length below) × (n < 3)
output_is [] c n lt = absurd (omega arith)
output_is (x ∷ below) zero n lt = (omega arith, let few = few_outputs x.kind in omega arith)
output_is (x ∷ below) (suc c) n lt = let more = output_is below c n lt in (omega (arith, more.0), more.1)

same_source : (s t : Source) → s.cell ≡ t.cell → s.output ≡ t.output → s ≡ t
same_source s t p q = ap (λ (n : ℕ). record { cell = n; output = s.output }) p
    ∙ ap (λ (n : ℕ). record { cell = t.cell; output = n }) q

distinct_pins : (below cells : List RowCell) → FeedsOne cells
    → ((c i : ℕ) (s : Source) → fed_at (slice_get cells c) i ≡ Some s → s.output < outputs_at (slice_get below s.cell))
    → AreDistinct (3 * length below) (pins_of cells)
distinct_pins below cells one before = record {
  below = λ n key e.
      let p = pin_back cells n key e in
      let low = output_is below p.source.cell p.source.output (before p.cell p.pin p.source p.fed) in
      omega (arith, low.0, low.1, p.key_is);
  apart = λ m n key a b.
      let p = pin_back cells m key a in
      let q = pin_back cells n key b in
      let low = output_is below p.source.cell p.source.output (before p.cell p.pin p.source p.fed) in
      let lower = output_is below q.source.cell q.source.output (before q.cell q.pin q.source q.fed) in
      let keys : 3 * p.source.cell + p.source.output ≡ 3 * q.source.cell + q.source.output = sym p.key_is ∙ q.key_is in
      let same : p.source ≡ q.source = same_source p.source q.source (omega (arith, low.1, lower.1, keys))
      (omega (arith, low.1, lower.1, keys)) in
      let here = one p.cell q.cell p.pin q.pin q.source (p.fed ∙ ap Some same) q.fed in
      omega (arith, here.0, here.1, p.at, q.at);
}

record AboveTests (outputs : ℕ) (last : Bool) (below cells : List RowCell) : Type 0 where
  size : has_size cells ≡ true
  stand : are_above below last cells ≡ true
  distinct : are_distinct (3 * length below) (pins_of cells) ≡ true
  ends : is_end outputs last cells ≡ true

above_tests : (outputs : ℕ) (last : Bool) (below cells : List RowCell) → is_row_above outputs last below cells ≡ true
    → AboveTests outputs last below cells
above_tests outputs last below cells e =
    let a = has_size cells in
    let b = are_above below last cells in
    let c = are_distinct (3 * length below) (pins_of cells) in
    let parts = and_parts (a && b && c) (is_end outputs last cells) e in
    let three = and_parts (a && b) c parts.0 in
    let two = and_parts a b three.0 in
    record { size = two.0; stand = two.1; distinct = three.1; ends = parts.1 }

end_numbering : (outputs : ℕ) (last : Bool) (cells : List RowCell) → is_end outputs last cells ≡ true → last ≡ true
    → IsNumbering outputs (map output_of cells)
end_numbering outputs true cells e is = numbering outputs (map output_of cells) e
end_numbering outputs false cells e is = absurd (cc)

pub above_size : (outputs : ℕ) (last : Bool) (below cells : List RowCell)
    → is_row_above outputs last below cells ≡ true → length cells ≤ row_limit
above_size outputs last below cells e = (size_is cells (above_tests outputs last below cells e).size).1

pub row_above : (outputs : ℕ) (last : Bool) (below cells : List RowCell) → is_row_above outputs last below cells ≡ true
    → RowAbove outputs last below cells
row_above outputs last below cells e =
    let tests = above_tests outputs last below cells e in
    let numbered = end_numbering outputs last cells tests.ends in
    record {
      some = (size_is cells tests.size).0;
      stands = cell_above outputs last below cells tests.stand numbered;
      feeds_one = feeds_one (3 * length below) cells (distinct_keys (3 * length below) (pins_of cells) tests.distinct);
      each_output = λ is. each_output outputs cells (numbered is);
    }

-- and back: facts of rows, by the tests

no_pins : (a b c : Option Source) → ((s : Source) → a ≡ Some s → ⊥) → ((s : Source) → b ≡ Some s → ⊥)
    → ((s : Source) → c ≡ Some s → ⊥)
    → pins_are a b c 0 ≡ true
no_pins None None None p q r = refl
no_pins (Some s) b c p q r = absurd (p s refl)
no_pins None (Some s) c p q r = absurd (q s refl)
no_pins None None (Some s) p q r = absurd (r s refl)

zero_test : (a b c : Option Source) → is_some a ≡ false → is_some b ≡ false → is_some c ≡ false
    → pins_are a b c 0 ≡ true
zero_test None None None p q r = refl
zero_test (Some s) b c p q r = absurd (cc)
zero_test None (Some s) c p q r = absurd (cc)
zero_test None None (Some s) p q r = absurd (cc)

one_test : (a b c : Option Source) → is_some a ≡ true → is_some b ≡ false → is_some c ≡ false → pins_are a b c 1 ≡ true
one_test (Some s) None None p q r = refl
one_test None b c p q r = absurd (cc)
one_test (Some s) (Some t) c p q r = absurd (cc)
one_test (Some s) None (Some t) p q r = absurd (cc)

three_test : (a b c : Option Source) → is_some a ≡ true → is_some b ≡ true → is_some c ≡ true → pins_are a b c 3 ≡ true
three_test (Some s) (Some t) (Some u) p q r = refl
three_test None b c p q r = absurd (cc)
three_test (Some s) None c p q r = absurd (cc)
three_test (Some s) (Some t) None p q r = absurd (cc)

kind_fed : (kind : CellKind) (a b c : Option Source) → is_some a ≡ ltb 0 (inputs_of kind)
    → is_some b ≡ ltb 1 (inputs_of kind)
    → is_some c ≡ ltb 2 (inputs_of kind) → pins_are a b c (inputs_of kind) ≡ true
kind_fed Buffer a b c p q r = one_test a b c p q r
kind_fed Inverter a b c p q r = one_test a b c p q r
kind_fed Zero a b c p q r = zero_test a b c p q r
kind_fed One a b c p q r = zero_test a b c p q r
kind_fed Split2 a b c p q r = one_test a b c p q r
kind_fed Split3 a b c p q r = one_test a b c p q r
kind_fed Majority a b c p q r = three_test a b c p q r

some_pin : (o : Option Source) → is_some o ≡ true → ((s : Source) → o ≡ Some s → ⊥) → ⊥
some_pin None e none = absurd (cc)
some_pin (Some s) e none = none s refl

begin_test : (kind : CellKind) (input : Bool) (a : Option Source) → input ≡ is_input 0 kind
    → is_some a ≡ ltb 0 (pins_at 0 kind)
    → ((s : Source) → a ≡ Some s → ⊥) → may_begin kind input ≡ true
begin_test Buffer input a is fed none = is
begin_test Inverter input a is fed none = absurd (some_pin a fed none)
begin_test Zero input a is fed none = not_from_false input is
begin_test One input a is fed none = not_from_false input is
begin_test Split2 input a is fed none = absurd (some_pin a fed none)
begin_test Split3 input a is fed none = absurd (some_pin a fed none)
begin_test Majority input a is fed none = absurd (some_pin a fed none)

first_test : (inputs : ℕ) (cell : RowCell) → FirstCell inputs cell → is_first cell ≡ true
first_test inputs cell known =
    both (may_begin cell.kind (is_some cell.input) && not (is_some cell.output)) (is_fed cell 0)
    (both (may_begin cell.kind (is_some cell.input)) (not (is_some cell.output))
    (begin_test cell.kind (is_some cell.input) cell.source0 known.input (known.fed 0) (known.none_before 0))
    (not_from_false (is_some cell.output) known.no_output))
    (no_pins cell.source0 cell.source1 cell.source2 (known.none_before 0) (known.none_before 1) (known.none_before 2))

all_first : (cells : List RowCell) → ((c : ℕ) (cell : RowCell) → slice_get cells c ≡ Some cell → is_first cell ≡ true)
    → are_first cells ≡ true
all_first [] each = refl
all_first (x ∷ cells) each = both (is_first x) (are_first cells) (each 0 x refl)
    (all_first cells (λ c cell is. each (suc c) cell is))

shown_numbers : (number : RowCell → Option ℕ) (number_at : Option RowCell → Option ℕ) (count : ℕ) (cells : List RowCell)
    → ((cell : RowCell) → number_at (Some cell) ≡ number cell) → ((i : ℕ) → number_at None ≡ Some i → ⊥)
    → ((c : ℕ) (cell : RowCell) → slice_get cells c ≡ Some cell → (i : ℕ) → number cell ≡ Some i → i < count)
    → ((i : ℕ) → i < count → ExactlyOne (λ (c : ℕ). number_at (slice_get cells c) ≡ Some i))
    → IsNumbering count (map number cells)
shown_numbers number number_at count cells some none below each = record {
  below = λ c i e. let there = shown_back number cells c i e in below c there.0 there.1 i there.2;
  each = λ i lt.
      let one = each i lt in
      let cell = shown_cell (slice_get cells one.which) i one.there in
      record {
        which = one.which;
        there = shown_there number cells one.which cell.0 i cell.1 cell.2;
        only = λ c e.
            let there = shown_back number cells c i e in
            one.only c (ap number_at there.1 ∙ some there.0 ∙ there.2);
      };
}
  where
    shown_cell : (o : Option RowCell) (i : ℕ) → number_at o ≡ Some i
        → (cell : RowCell) × (o ≡ Some cell) × (number cell ≡ Some i)
    shown_cell None i e = absurd (none i e)
    shown_cell (Some cell) i e = (cell, refl, sym (some cell) ∙ e)

pub first_row_test : (inputs : ℕ) (cells : List RowCell) → length cells ≤ row_limit → FirstRow inputs cells
    → is_first_row inputs cells ≡ true
first_row_test inputs cells few known =
    both (has_size cells && are_first cells) (is_numbering inputs (map input_of cells))
    (both (has_size cells) (are_first cells) (size_test cells known.some few)
    (all_first cells (λ c cell is. first_test inputs cell (known.stands c cell is))))
    (test_numbering inputs (map input_of cells)
    (shown_numbers input_of input_at inputs cells (λ cell. refl) (λ i e. none-some i e)
    (λ c cell is i e. (known.stands c cell is).input_below i e) known.each_input))

end_test : (last : Bool) (kind : CellKind) (output : Bool) → output ≡ last → (last ≡ true → kind ≡ Buffer)
    → may_end last kind output ≡ true
end_test true kind output is buffer =
    both output (is_buffer kind) is (ap is_buffer (buffer refl))
end_test false kind output is buffer = not_from_false output is

before_test : (below : List RowCell) (o : Option Source)
    → ((s : Source) → o ≡ Some s → s.output < outputs_at (slice_get below s.cell)) → is_before below o ≡ true
before_test below None before = refl
before_test below (Some s) before = lt-ltb s.output (outputs_at (slice_get below s.cell)) (before s refl)

above_test : (outputs : ℕ) (last : Bool) (below : List RowCell) (cell : RowCell) → CellAbove outputs last below cell
    → (is_upper last cell && are_before below cell) ≡ true
above_test outputs last below cell known =
    both (is_upper last cell) (are_before below cell)
    (both (may_end last cell.kind (is_some cell.output) && not (is_some cell.input)) (is_fed cell (inputs_of cell.kind))
    (both (may_end last cell.kind (is_some cell.output)) (not (is_some cell.input))
    (end_test last cell.kind (is_some cell.output) known.output known.last_kind)
    (not_from_false (is_some cell.input) known.no_input))
    (kind_fed cell.kind cell.source0 cell.source1 cell.source2 (known.fed 0) (known.fed 1) (known.fed 2)))
    (both (is_before below cell.source0 && is_before below cell.source1) (is_before below cell.source2)
    (both (is_before below cell.source0) (is_before below cell.source1)
    (before_test below cell.source0 (known.before 0)) (before_test below cell.source1 (known.before 1)))
    (before_test below cell.source2 (known.before 2)))

all_above : (below : List RowCell) (last : Bool) (cells : List RowCell)
    → ((c : ℕ) (cell : RowCell) → slice_get cells c ≡ Some cell → (is_upper last cell && are_before below cell) ≡ true)
    → are_above below last cells ≡ true
all_above below last [] each = refl
all_above below last (x ∷ cells) each =
    both (is_upper last x && are_before below x) (are_above below last cells) (each 0 x refl)
    (all_above below last cells (λ c cell is. each (suc c) cell is))

last_test : (outputs : ℕ) (last : Bool) (cells : List RowCell)
    → (last ≡ true → IsNumbering outputs (map output_of cells)) → is_end outputs last cells ≡ true
last_test outputs true cells known = test_numbering outputs (map output_of cells) (known refl)
last_test outputs false cells known = refl

pub row_above_test : (outputs : ℕ) (last : Bool) (below cells : List RowCell) → length cells ≤ row_limit
    → RowAbove outputs last below cells
    → is_row_above outputs last below cells ≡ true
row_above_test outputs last below cells few known =
    let a = has_size cells in
    let b = are_above below last cells in
    let c = are_distinct (3 * length below) (pins_of cells) in
    both (a && b && c) (is_end outputs last cells)
    (both (a && b) c
    (both a b (size_test cells known.some few)
    (all_above below last cells (λ c cell is. above_test outputs last below cell (known.stands c cell is))))
    (test_distinct (3 * length below) (pins_of cells) (distinct_pins below cells known.feeds_one
    (λ c i s e. let cell = fed_cell (slice_get cells c) i s e in (known.stands c cell.0 cell.1).before i s cell.2))))
    (last_test outputs last cells (λ is.
    shown_numbers output_of output_at outputs cells (λ cell. refl) (λ i e. none-some i e)
    (λ c cell at i e. (known.stands c cell at).output_below i e) (known.each_output is)))
