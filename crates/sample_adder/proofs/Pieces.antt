-- How many inputs a piece of a text names, which is put together of whole lines.
use Rattle.std.proofs.Common.{◌≡◌, ℕ, suc, ◌+◌, true, List, [], ◌∷◌, ◌++◌, length, ap, ◌∙◌, arith, append_assoc}
use Rattle.std.proofs.Common.{append-nil, codes, length-append}
use Rattle.std.specs.List.{filter, flat_map, list_all}
use Rattle.std.proofs.lemmas.Bool.{and_from}
use Rattle.std.proofs.lemmas.Grind.{flat_map-append}
use Rattle.std.proofs.lemmas.List.Folds.{list_all-append}
use Rattle.blif_read.specs.Lines.{Line, cut, has_tokens, tokens_of}
use Rattle.blif_read.specs.Statements.{inputs_in}
use Rattle.blif_read.proofs.PlainLines.{is_plain, lines_from, first_line, tokens_apart}

abbrev names_of : List Line → ℕ
names_of lines = length (flat_map inputs_in lines)

-- how many inputs are named in a text whose first line has number n
abbrev pub named_from : ℕ → List ℕ → ℕ
named_from n text = names_of (lines_from n text)

-- whole lines that name so many inputs, whatever stands before and behind them
pub record IsPiece (piece : List ℕ) (names : ℕ) : Type 0 where
  pub lines : ℕ
  pub counts : (n : ℕ) (rest : List ℕ) → named_from n (piece ++ rest) ≡ names + named_from (n + lines) rest

pub no_piece : IsPiece [] 0
no_piece = record {
  lines = 0;
  counts = λ n rest. let same : n ≡ n + 0 = omega arith in omega (arith, ap (λ m. named_from m rest) same);
}

pub both_pieces : {a b : List ℕ} {x y : ℕ} → IsPiece a x → IsPiece b y → IsPiece (a ++ b) (x + y)
both_pieces {a} {b} {x} {y} p q = record {
  lines = p.lines + q.lines;
  counts = λ n rest.
      let apart = ap (named_from n) (append_assoc a b rest) in
      let same : n + p.lines + q.lines ≡ n + (p.lines + q.lines) = omega arith in
      let end = ap (λ m. named_from m rest) same in
      omega (arith, apart, p.counts n (b ++ rest), q.counts (n + p.lines) rest, end);
}

-- a line that begins with this token, and has so many others
pub record IsLine (line token : List ℕ) (others : ℕ) : Type 0 where
  pub rest : List (List ℕ)
  pub tokens : tokens_of line ≡ token ∷ rest
  pub count : length rest ≡ others
  pub plain : list_all is_plain line ≡ true

-- how many inputs a line with these tokens names
abbrev names_in : ℕ → List (List ℕ) → ℕ
names_in n tokens = names_of (filter has_tokens (record { number = n; tokens = tokens } ∷ []))

a_line : (line : List ℕ) (names : ℕ) → list_all is_plain line ≡ true → ((n : ℕ) → names_in n (tokens_of line) ≡ names) →
    IsPiece (line ++ 10 ∷ []) names
a_line line names plain here = record {
  lines = 1;
  counts = λ n rest.
      let own = filter has_tokens (cut (n, line) ∷ []) in
      ap (named_from n) (append_assoc line (10 ∷ []) rest)
      ∙ ap names_of (first_line n line rest plain)
      ∙ ap length (flat_map-append inputs_in own (lines_from (n + 1) rest))
      ∙ length-append (flat_map inputs_in own) (flat_map inputs_in (lines_from (n + 1) rest))
      ∙ ap (λ k. k + named_from (n + 1) rest) (here n);
}

-- the statement of the inputs names a signal by each token that follows
pub inputs_piece : {line : List ℕ} {k : ℕ} → IsLine line (codes ".inputs") k → IsPiece (line ++ 10 ∷ []) k
inputs_piece {line} {k} l =
    a_line line k l.plain (λ n. ap (names_in n) l.tokens ∙ ap length (append-nil l.rest) ∙ l.count)

-- another line names none
pub other_piece : {line token : List ℕ} {k : ℕ} → IsLine line token k →
    ((n : ℕ) (rest : List (List ℕ)) → names_in n (token ∷ rest) ≡ 0) → IsPiece (line ++ 10 ∷ []) 0
other_piece {line} {token} {k} l none = a_line line 0 l.plain (λ n. ap (names_in n) l.tokens ∙ none n l.rest)

-- bytes that are one token of a line
pub record IsName (name : List ℕ) : Type 0 where
  pub alone : tokens_of name ≡ name ∷ []
  pub plain : list_all is_plain name ≡ true

pub with_name : {line token : List ℕ} {k : ℕ} (name : List ℕ) → IsLine line token k → IsName name →
    IsLine (line ++ 32 ∷ name) token (suc k)
with_name {line} {token} {k} name l word = record {
  rest = l.rest ++ name ∷ [];
  tokens = tokens_apart line name ∙ ap (λ front. front ++ tokens_of name) l.tokens
      ∙ ap (λ back. token ∷ (l.rest ++ back)) word.alone;
  count = length-append l.rest (name ∷ []) ∙ (let e : length l.rest ≡ k = l.count in omega arith);
  plain = list_all-append is_plain line (32 ∷ name) ∙ and_from (list_all is_plain line) _ l.plain word.plain;
}
