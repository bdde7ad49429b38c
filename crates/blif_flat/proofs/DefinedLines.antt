-- What the lines of a netlist say that is written definition by definition: it has no fault, and it is its definitions.
use Rattle.std.proofs.Common.{◌≡◌, ℕ, zero, suc, ◌+◌, ◌<◌, ◌≤◌, not, true, false, List, [], ◌∷◌, ◌++◌, length, map}
use Rattle.std.proofs.Common.{None, refl, sym, ap, ◌∙◌, subst, arith, codes, append-nil}
use Rattle.std.specs.List.{list_any, list_all, flat_map, AllByRecursion, range_with_len}
use Rattle.std.proofs.lemmas.Bool.{and_from}
use Rattle.blif_read.proofs.Within.{all_join}
use Rattle.blif_read.specs.Lines.{Line}
use Rattle.blif_read.specs.Statements.{word, front_of, inputs_in, outputs_in, defined_in, used_in}
use Rattle.blif_read.specs.Parts.{signals, number, is_defined, rows_before_others, plane, is_false, says_zero}
use Rattle.blif_read.specs.Parts.{definition, definition_at, definitions}
use Rattle.blif_read.specs.Faults.{is_control, before_of, adds_again, line_fault, undefined_fault}
use Rattle.blif_read.specs.declared.words.Statement.TheVariants.{Row}
use Rattle.blif_read.specs.declared.netlist.Def.{Def}
use Rattle.blif_flat.proofs.WrittenLines.{IsToken, IsWritten, numbered}
use Rattle.blif_flat.proofs.NumberedNames.{AreNames, IsEarlier, in_order, all_earlier, numbers_are, defined_is}
use Rattle.blif_flat.proofs.Definitions.{Definition, line, IsRow, IsDefinition, AreDefined, names_tokens, body, whole}
use Rattle.blif_flat.proofs.Definitions.{front_is, last_is, passes, no_kind, clear_line, off_both, names_written}
use Rattle.blif_flat.proofs.Definitions.{tokens_are, within, body_passes}

rows_written : (width : ℕ) (rows : List (List (List ℕ))) → AllByRecursion (IsRow width) rows
    → AllByRecursion IsWritten rows
rows_written width [] all = tt
rows_written width (row ∷ rows) all = (all.0.written, rows_written width rows all.1)

-- ---- the names of a row, which are none

no_inputs : (n : ℕ) (row : List (List ℕ)) → word (line n row) ≡ Row → inputs_in (line n row) ≡ []
no_inputs n row w = rw w refl

no_outputs : (n : ℕ) (row : List (List ℕ)) → word (line n row) ≡ Row → outputs_in (line n row) ≡ []
no_outputs n row w = rw w refl

no_defined : (n : ℕ) (row : List (List ℕ)) → word (line n row) ≡ Row → defined_in (line n row) ≡ []
no_defined n row w = rw w refl

no_used : (n : ℕ) (row : List (List ℕ)) → word (line n row) ≡ Row → used_in (line n row) ≡ []
no_used n row w = rw w refl

-- lines of which rows say nothing
over_rows : (f : Line → List (List ℕ)) (names : List (List ℕ)) (width n : ℕ) (rows rest : List (List (List ℕ)))
    → ((m : ℕ) (row : List (List ℕ)) → word (line m row) ≡ Row → f (line m row) ≡ [])
    → AllByRecursion (IsRow width) rows
    → ((m : ℕ) → flat_map f (numbered m rest) ≡ names) → flat_map f (numbered n (rows ++ rest)) ≡ names
over_rows f names width n [] rest none each later = later n
over_rows f names width n (row ∷ rows) rest none each later =
    ap (λ x. x ++ flat_map f (numbered (n + 1) (rows ++ rest))) (none n row each.0.is_row)
    ∙ over_rows f names width (n + 1) rows rest none each.1 later

module _ (name : ℕ → List ℕ) where
  pub body_inputs : (s n : ℕ) (ds : List Definition) → AreDefined s ds
      → flat_map inputs_in (numbered n (body name s ds)) ≡ []
  body_inputs s n [] each = refl
  body_inputs s n (d ∷ ds) each = over_rows inputs_in [] (length d.feeds) (n + 1) d.rows
      (body name (s + 1) ds) no_inputs each.0.rows (λ m. body_inputs (s + 1) m ds each.1)

  pub body_outputs : (s n : ℕ) (ds : List Definition) → AreDefined s ds
      → flat_map outputs_in (numbered n (body name s ds)) ≡ []
  body_outputs s n [] each = refl
  body_outputs s n (d ∷ ds) each = over_rows outputs_in [] (length d.feeds) (n + 1) d.rows
      (body name (s + 1) ds) no_outputs each.0.rows (λ m. body_outputs (s + 1) m ds each.1)

  pub body_defined : (s n : ℕ) (ds : List Definition) → AreDefined s ds
      → flat_map defined_in (numbered n (body name s ds)) ≡ map name (range_with_len s (length ds))
  body_defined s n [] each = refl
  body_defined s n (d ∷ ds) each =
      ap (λ x. x ++ flat_map defined_in (numbered (n + 1) (d.rows ++ body name (s + 1) ds)))
      (last_is (map name d.feeds) (name s))
      ∙ ap (λ x. name s ∷ x) (over_rows defined_in (map name (range_with_len (s + 1) (length ds))) (length d.feeds)
      (n + 1) d.rows (body name (s + 1) ds) no_defined each.0.rows (λ m. body_defined (s + 1) m ds each.1))

-- ---- the definitions

-- what a definition on line n is read as
abbrev pub read_as : ℕ → Definition → Def
read_as n d = record { line = n; inputs = d.feeds; on = true; cubes = map plane d.rows }

abbrev pub all_read : ℕ → List Definition → List Def
all_read n [] = []
all_read n (d ∷ ds) = read_as n d ∷ all_read (n + 1 + length d.rows) ds

rows_follow : (width n : ℕ) (rows rest : List (List (List ℕ))) → AllByRecursion (IsRow width) rows
    → ((m : ℕ) → rows_before_others (numbered m rest) ≡ []) → rows_before_others (numbered n (rows ++ rest)) ≡ rows
rows_follow width n [] rest each stop = stop n
rows_follow width n (row ∷ rows) rest each stop = rw each.0.is_row
    (ap (λ x. row ∷ x) (rows_follow width (n + 1) rows rest each.1 stop))

none_zero : (width : ℕ) (rows : List (List (List ℕ))) → AllByRecursion (IsRow width) rows
    → list_any says_zero rows ≡ false
none_zero width [] each = refl
none_zero width (row ∷ rows) each = off_both (says_zero row) (list_any says_zero rows) (ap is_false each.0.value)
    (none_zero width rows each.1)

over_definitions : (names : List (List ℕ)) (width n : ℕ) (rows rest : List (List (List ℕ))) (defs : ℕ → List Def)
    → AllByRecursion (IsRow width) rows
    → ((m : ℕ) → definitions names (numbered m rest) ≡ defs m)
    → definitions names (numbered n (rows ++ rest)) ≡ defs (n + length rows)
over_definitions names width n [] rest defs each later = later n ∙ (let e : n ≡ n + 0 = omega arith in ap defs e)
over_definitions names width n (row ∷ rows) rest defs each later =
    let none : definition_at names (line n row) (numbered (n + 1) (rows ++ rest))
    ≡ [] = (let w : word (line n row) ≡ Row = each.0.is_row in rw w refl) in
    let e : n + 1 + length rows ≡ n + suc (length rows) = omega arith in
    ap (λ x. x ++ definitions names (numbered (n + 1) (rows ++ rest))) none
    ∙ over_definitions names width (n + 1) rows rest defs each.1 later ∙ ap defs e

body_stops : (name : ℕ → List ℕ) (s m : ℕ) (ds : List Definition)
    → rows_before_others (numbered m (body name s ds)) ≡ []
body_stops name s m [] = refl
body_stops name s m (d ∷ ds) = refl

module _ (name : ℕ → List ℕ) (total : ℕ) (names : AreNames name total) where
  abbrev all_names : List (List ℕ)
  all_names = map name (range_with_len 0 total)

  one_read : (s n : ℕ) (d : Definition) → s ≤ total → IsDefinition s d
      → definition all_names n (map name d.feeds ++ name s ∷ []) d.rows ≡ read_as n d
  one_read s n d h is =
      let feeds : map (number all_names) (front_of (map name d.feeds ++ name s ∷ [])) ≡ d.feeds =
      ap (map (number all_names)) (front_is (map name d.feeds) (name s))
      ∙ numbers_are name total names d.feeds (within name total names s total h d.feeds is.feeds) in
      let positive : not (list_any says_zero d.rows) ≡ true = ap not (none_zero (length d.feeds) d.rows is.rows) in
      λ i. record { line = n; inputs = feeds i; on = positive i; cubes = map plane d.rows }

  pub body_read : (s n : ℕ) (ds : List Definition) → s + length ds ≤ total → AreDefined s ds
      → definitions all_names (numbered n (body name s ds)) ≡ all_read n ds
  body_read s n [] h each = refl
  body_read s n (d ∷ ds) h each =
      let rest = numbered (n + 1) (d.rows ++ body name (s + 1) ds) in
      let follow : rows_before_others rest ≡ d.rows = rows_follow (length d.feeds) (n + 1) d.rows
      (body name (s + 1) ds) each.0.rows (λ m. body_stops name (s + 1) m ds) in
      ap (λ rows. definition all_names n (map name d.feeds ++ name s ∷ []) rows ∷ definitions all_names rest) follow
      ∙ ap (λ def. def ∷ definitions all_names rest) (one_read s n d (omega arith) each.0)
      ∙ ap (λ defs. read_as n d ∷ defs) (over_definitions all_names (length d.feeds) (n + 1) d.rows
      (body name (s + 1) ds) (λ m. all_read m ds) each.0.rows (λ m. body_read (s + 1) m ds (omega arith) each.1))

  -- ---- each name that is used is defined

  pub all_defined : (signals : List ℕ) → AllByRecursion (λ s. s < total) signals
      → list_all (is_defined all_names) (map name signals) ≡ true
  all_defined [] each = refl
  all_defined (s ∷ signals) each = and_from (is_defined all_names (name s))
      (list_all (is_defined all_names) (map name signals)) (defined_is name total names s each.0)
      (all_defined signals each.1)

  pub skips : (l : Line) (lines : List Line) → list_all (is_defined all_names) (used_in l) ≡ true
      → undefined_fault all_names (l ∷ lines) ≡ undefined_fault all_names lines
  skips l lines e = rw e refl

  over_used : (width n : ℕ) (rows rest : List (List (List ℕ))) → AllByRecursion (IsRow width) rows
      → ((m : ℕ) → undefined_fault all_names (numbered m rest) ≡ None)
      → undefined_fault all_names (numbered n (rows ++ rest)) ≡ None
  over_used width n [] rest each later = later n
  over_used width n (row ∷ rows) rest each later =
      skips (line n row) (numbered (n + 1) (rows ++ rest))
      (ap (list_all (is_defined all_names)) (no_used n row each.0.is_row))
      ∙ over_used width (n + 1) rows rest each.1 later

  pub body_used : (s n : ℕ) (ds : List Definition) → s + length ds ≤ total → AreDefined s ds
      → undefined_fault all_names (numbered n (body name s ds)) ≡ None
  body_used s n [] h each = refl
  body_used s n (d ∷ ds) h each =
      let l = line n (names_tokens name s d) in
      let used : list_all (is_defined all_names) (used_in l) ≡ true =
      ap (list_all (is_defined all_names)) (front_is (map name d.feeds) (name s))
      ∙ all_defined d.feeds (within name total names s total (omega arith) d.feeds each.0.feeds) in
      skips l (numbered (n + 1) (d.rows ++ body name (s + 1) ds)) used
      ∙ over_used (length d.feeds) (n + 1) d.rows (body name (s + 1) ds) each.0.rows
      (λ m. body_used (s + 1) m ds (omega arith) each.1)

  pub body_written : (s : ℕ) (ds : List Definition) → s + length ds ≤ total → AreDefined s ds
      → AllByRecursion IsWritten (body name s ds)
  body_written s [] h each = ((refl, tt), tt)
  body_written s (d ∷ ds) h each = (
    names_written name total names s d (omega arith) each.0,
    all_join IsWritten d.rows (body name (s + 1) ds) (rows_written (length d.feeds) d.rows each.0.rows)
        (body_written (s + 1) ds (omega arith) each.1),
  )

  -- ---- all lines

  pub head_passes : (inputs : ℕ) (ds : List Definition) (outs : List ℕ) → inputs + length ds ≡ total
      → AreDefined inputs ds → AllByRecursion (λ s. s < total) outs
      → line_fault false [] (numbered 1 (whole name inputs ds outs)) ≡ None
  head_passes inputs ds outs h each shown =
      let input_names = map name (range_with_len 0 inputs) in
      let model = line 1 (codes ".model" ∷ codes "aqfp" ∷ []) in
      let first = line 2 (codes ".inputs" ∷ input_names) in
      let second = line 3 (codes ".outputs" ∷ map name outs) in
      let rest = numbered 4 (body name inputs ds) in
      let inputs_clear = clear_line (codes ".inputs" ∷ input_names) (refl, tokens_in 0 inputs (omega (arith, h))) in
      let outs_clear = clear_line (codes ".outputs" ∷ map name outs) (refl, tokens_are name total names outs shown) in
      passes [] model (first ∷ second ∷ rest) refl refl
      ∙ passes (model ∷ []) first (second ∷ rest)
      (no_kind (before_of (model ∷ [])) first (off_both
      (list_any (list_any is_control) (codes ".inputs" ∷ input_names)) false inputs_clear refl) refl refl refl)
      (ap (adds_again []) (append-nil input_names) ∙ in_order name total names 0 inputs [] (omega (arith, h)) tt)
      ∙ passes (first ∷ model ∷ []) second rest
      (no_kind (before_of (first ∷ model ∷ [])) second
      (off_both (list_any (list_any is_control) (codes ".outputs" ∷ map name outs)) false outs_clear refl) refl
      refl refl)
      refl
      ∙ body_passes name total names inputs 4 ds (second ∷ first ∷ model ∷ []) (omega (arith, h)) each (record {
        going = refl;
        known = subst (AllByRecursion (IsEarlier name inputs))
            (sym (ap (λ x. x ++ []) (append-nil input_names) ∙ append-nil input_names))
            (all_earlier name total names 0 inputs inputs (omega arith));
      })
    where
      tokens_in : (s n : ℕ) → s + n ≤ total → AllByRecursion IsToken (map name (range_with_len s n))
      tokens_in s zero h = tt
      tokens_in s (suc n) h = (names.token s (omega arith), tokens_in (s + 1) n (omega arith))
