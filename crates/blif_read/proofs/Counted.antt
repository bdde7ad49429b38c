-- What a netlist counts, names, outputs, operands, rows and plane bytes, has each a byte of its own in the tokens of
-- the lines.
use Rattle.std.proofs.Common.{◌≡◌, ℕ, ◌+◌, ◌≤◌, ◌<◌, min, Bool, true, false, cond, List, [], ◌∷◌, map, length, take}
use Rattle.std.proofs.Common.{drop, refl, ap, arith, length-append}
use Rattle.std.specs.List.{slice_split, filter, flat_map, sum_by, AllByRecursion}
use Rattle.std.proofs.lemmas.List.{length-map, take_all}
use Rattle.std.proofs.lemmas.List.Sums.{sum_by-cons, sum_by-append}
use Rattle.blif_read.specs.Lines.{Line, is_blank, is_token, tokens_of, cut, has_tokens, joined, physical_lines}
use Rattle.blif_read.specs.Lines.{without_comment, logical_lines}
use Rattle.blif_read.specs.Statements.{word, arguments, is_row, front_of, last_of, inputs_in, outputs_in, defined_in}
use Rattle.blif_read.specs.Parts.{signals, number, plane, definition, definition_at, definitions, rows_before_others}
use Rattle.blif_read.specs.Parts.{netlist_of}
use Rattle.blif_read.specs.Netlist.{cube_size, def_size, size_of}
use Rattle.blif_read.specs.Code.Reading.{lines_from}
use Rattle.blif_read.specs.Code.Size.{bytes_of, token_bytes, IsCut, AreCut}
use Rattle.blif_read.proofs.TextSize.{text_bytes}
use Rattle.blif_read.specs.declared.words.Statement.{Statement}
use Rattle.blif_read.specs.declared.words.Statement.TheVariants.{Model, Inputs, Outputs, Names, Subckt, End, Passed}
use Rattle.blif_read.specs.declared.words.Statement.TheVariants.{Other, Row}
use Rattle.blif_read.specs.declared.netlist.Def.{Def}

pub filled : (parts : List (List ℕ)) → AllByRecursion (λ t. 0 < length t) (filter is_token parts)
filled [] = tt
filled ([] ∷ parts) = filled parts
filled ((b ∷ bs) ∷ parts) = (omega arith, filled parts)

cut_line : (b : Bool) (tokens : List (List ℕ)) (n : ℕ) (rest : List Line)
    → has_tokens (record { number = n; tokens = tokens }) ≡ b → AllByRecursion (λ t. 0 < length t) tokens
    → AllByRecursion IsCut rest → AllByRecursion IsCut (cond b (record { number = n; tokens = tokens } ∷ rest) rest)
cut_line false tokens n rest e f h = h
cut_line true [] n rest e f h = absurd (cc)
cut_line true (t ∷ ts) n rest e f h = (record { tokens = omega arith; filled = f }, h)

each_is_cut : (lines : List (ℕ × List ℕ)) → AllByRecursion IsCut (filter has_tokens (map cut lines))
each_is_cut [] = tt
each_is_cut (line ∷ lines) = cut_line (has_tokens (cut line)) (tokens_of line.1) line.0
    (filter has_tokens (map cut lines)) refl (filled (slice_split is_blank line.1)) (each_is_cut lines)

-- each token has a byte
pub token_each : (tokens : List (List ℕ)) → AllByRecursion (λ t. 0 < length t) tokens
    → length tokens ≤ token_bytes tokens
token_each [] f = omega arith
token_each (t ∷ ts) f = let h = token_each ts f.1 in let g = f.0 in omega (arith, sum_by-cons length t ts)

argument_bytes : (tokens : List (List ℕ)) → 0 < length tokens → AllByRecursion (λ t. 0 < length t) tokens
    → length (drop 1 tokens) + 1 ≤ token_bytes tokens
argument_bytes [] s f = absurd (omega arith)
argument_bytes (t ∷ ts) s f = let h = token_each (t ∷ ts) f in omega arith

-- the row of a cover has a byte for its plane's bytes and one for its value
row_bytes : (tokens : List (List ℕ)) → 0 < length tokens → AllByRecursion (λ t. 0 < length t) tokens
    → cube_size (plane tokens) ≤ token_bytes tokens
row_bytes [] s f = absurd (omega arith)
row_bytes (t ∷ []) s f = let h = f.0 in omega (arith, sum_by-cons length t [])
row_bytes (t ∷ u ∷ ts) s f = let h = token_each (u ∷ ts) f.1 in omega (arith, sum_by-cons length t (u ∷ ts))

front_and_last : (args : List (List ℕ)) → length (front_of args) + length (last_of args) ≡ length args
front_and_last [] = refl
front_and_last (a ∷ []) = refl
front_and_last (a ∷ b ∷ args) = let h = front_and_last (b ∷ args) in omega arith

-- the size of the rows at the front of the lines, which the definition before them counts
abbrev rows_size : List Line → ℕ
rows_size lines = sum_by cube_size (map plane (rows_before_others lines))

-- what one line adds: at most its bytes, and the size of the rows behind it
line_counts : (w : Statement) (args tokens : List (List ℕ)) (rows : List (List (List ℕ))) (def : Def)
    → length args + 1 ≤ token_bytes tokens → cube_size (plane tokens) ≤ token_bytes tokens
    → def_size def ≡ length (front_of args) + sum_by cube_size (map plane rows)
    → length (elim w as (λ (x : Statement). List (List ℕ)) [ Inputs ↦ args | _ ↦ [] ]) + length
    (elim w as (λ (x : Statement). List (List ℕ)) [ Names ↦ last_of args | _ ↦ [] ])
    + length (elim w as (λ (x : Statement). List (List ℕ)) [ Outputs ↦ args | _ ↦ [] ]) + min 1
    (length (elim w as (λ (x : Statement). List (List ℕ)) [ Outputs ↦ args | _ ↦ [] ]))
    + sum_by def_size (elim w as (λ (x : Statement). List Def) [ Names ↦ def ∷ [] | _ ↦ [] ]) + sum_by cube_size
    (map plane (cond (is_row w) (tokens ∷ rows) []))
    ≤ token_bytes tokens + sum_by cube_size (map plane rows)
line_counts Model args tokens rows def a r d = omega arith
line_counts Inputs args tokens rows def a r d = omega arith
line_counts Outputs args tokens rows def a r d = omega arith
line_counts Names args tokens rows def a r d = omega (arith, front_and_last args)
line_counts Subckt args tokens rows def a r d = omega arith
line_counts End args tokens rows def a r d = omega arith
line_counts Passed args tokens rows def a r d = omega arith
line_counts Other args tokens rows def a r d = omega arith
line_counts Row args tokens rows def a r d = omega (arith, sum_by-cons cube_size (plane tokens) (map plane rows))

definition_size : (names : List (List ℕ)) (n : ℕ) (args : List (List ℕ)) (rows : List (List (List ℕ)))
    → def_size (definition names n args rows) ≡ length (front_of args) + sum_by cube_size (map plane rows)
definition_size names n args rows = ap (λ k. k + sum_by cube_size (map plane rows))
    (length-map (front_of args) (number names))

counts : (names : List (List ℕ)) (lines : List Line) → AllByRecursion IsCut lines
    → length (flat_map inputs_in lines) + length (flat_map defined_in lines) + length
    (flat_map outputs_in lines) + min 1 (length (flat_map outputs_in lines)) + sum_by def_size
    (definitions names lines) + rows_size lines ≤ bytes_of lines
counts names [] c = omega arith
counts names (l ∷ ls) c =
    let h = counts names ls c.1 in
    let here = line_counts (word l) (arguments l) l.tokens (rows_before_others ls)
    (definition names l.number (arguments l) (rows_before_others ls))
    (argument_bytes l.tokens c.0.tokens c.0.filled) (row_bytes l.tokens c.0.tokens c.0.filled)
    (definition_size names l.number (arguments l) (rows_before_others ls)) in
    omega (
      arith,
      length-append (inputs_in l) (flat_map inputs_in ls),
      length-append (defined_in l)
          (flat_map defined_in ls),
      length-append (outputs_in l) (flat_map outputs_in ls),
      sum_by-append def_size
          (definition_at names l ls) (definitions names ls),
      sum_by-cons (λ line. token_bytes line.tokens) l ls,
    )

-- the netlist of lines that name an output is smaller than their bytes
pub netlist_size : (lines : List Line) → AllByRecursion IsCut lines → 0 < length (flat_map outputs_in lines)
    → size_of (netlist_of lines) < bytes_of lines
netlist_size lines c some =
    let h = counts (signals lines) lines c in
    omega (
      arith,
      length-append (flat_map inputs_in lines) (flat_map defined_in lines),
      length-map
          (flat_map outputs_in lines) (number (signals lines)),
    )

pub few_signals : (lines : List Line) → AllByRecursion IsCut lines → length (signals lines) ≤ bytes_of lines
few_signals lines c =
    let h = counts (signals lines) lines c in
    omega (arith, length-append (flat_map inputs_in lines) (flat_map defined_in lines))

line_each : (lines : List Line) → AllByRecursion IsCut lines → length lines ≤ bytes_of lines
line_each [] c = omega arith
line_each (l ∷ ls) c =
    let h = line_each ls c.1 in
    let g = token_each l.tokens c.0.filled in
    let s = c.0.tokens in
    omega (arith, sum_by-cons (λ line. token_bytes line.tokens) l ls)

pub text_is_cut : (text : List ℕ) → AreCut (length text) (logical_lines text)
text_is_cut text = record {
  each = each_is_cut (joined 1 (map without_comment (physical_lines text)));
  fits = text_bytes text;
}

-- a text has no more logical lines than bytes
pub lines_of_text : (text : List ℕ) → take (length text) (lines_from 1 text) ≡ logical_lines text
lines_of_text text =
    let c = text_is_cut text in
    let h = line_each (logical_lines text) c.each in
    let f = c.fits in
    take_all (length text) (logical_lines text) (omega arith)
