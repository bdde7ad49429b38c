-- The logical lines of a text that is written line by line, and in a line token by token.
use Rattle.std.proofs.Common.{◌≡◌, ℕ, ◌+◌, true, List, [], ◌∷◌, ◌++◌, refl, ap, ◌∙◌, append_assoc, append-nil}
use Rattle.std.specs.List.{filter, list_all, flat_map, AllByRecursion}
use Rattle.std.proofs.lemmas.Bool.{and_from}
use Rattle.std.proofs.lemmas.List.Folds.{list_all-append}
use Rattle.blif_read.specs.Lines.{Line, cut, tokens_of, has_tokens, logical_lines}
use Rattle.blif_read.proofs.PlainLines.{is_inked, is_plain, lines_from, first_line, tokens_apart, one_token}
use Rattle.blif_read.proofs.PlainLines.{inked_plain}
use Rattle.blif_flat.specs.BlifText.{spaced, line_text}

-- bytes that are one token of a line
abbrev pub IsToken : List ℕ → Type 0
IsToken [] = ⊥
IsToken (b ∷ bytes) = list_all is_inked (b ∷ bytes) ≡ true

alone : (token : List ℕ) → IsToken token → tokens_of token ≡ token ∷ []
alone [] is = absurd is
alone (b ∷ bytes) is = one_token b bytes is

plain_token : (token : List ℕ) → IsToken token → list_all is_plain token ≡ true
plain_token [] is = absurd is
plain_token (b ∷ bytes) is = inked_plain (b ∷ bytes) is

-- a token and what follows it, each behind a blank
cut_line : (token : List ℕ) (tokens : List (List ℕ)) → IsToken token → AllByRecursion IsToken tokens →
    tokens_of (token ++ spaced tokens) ≡ token ∷ tokens
cut_line token [] is each = ap tokens_of (append-nil token) ∙ alone token is
cut_line token (next ∷ tokens) is each =
    tokens_apart token (next ++ spaced tokens)
    ∙ ap (λ front. front ++ tokens_of (next ++ spaced tokens)) (alone token is)
    ∙ ap (λ back. token ∷ back) (cut_line next tokens each.0 each.1)

plain_line : (token : List ℕ) (tokens : List (List ℕ)) → IsToken token → AllByRecursion IsToken tokens →
    list_all is_plain (token ++ spaced tokens) ≡ true
plain_line token [] is each = ap (list_all is_plain) (append-nil token) ∙ plain_token token is
plain_line token (next ∷ tokens) is each =
    list_all-append is_plain token (32 ∷ next ++ spaced tokens)
    ∙ and_from (list_all is_plain token) _ (plain_token token is) (plain_line next tokens each.0 each.1)

-- a line of tokens, of which there is one
abbrev pub IsWritten : List (List ℕ) → Type 0
IsWritten [] = ⊥
IsWritten (token ∷ tokens) = IsToken token × AllByRecursion IsToken tokens

-- lines with their numbers
abbrev pub numbered : ℕ → List (List (List ℕ)) → List Line
numbered n [] = []
numbered n (tokens ∷ lines) = record { number = n; tokens = tokens } ∷ numbered (n + 1) lines

own_line : (n : ℕ) (line : List ℕ) (token : List ℕ) (tokens : List (List ℕ)) → tokens_of line ≡ token ∷ tokens →
    filter has_tokens (cut (n, line) ∷ []) ≡ record { number = n; tokens = token ∷ tokens } ∷ []
own_line n line token tokens e = ap (λ (ts : List (List ℕ)). filter has_tokens
    (record { number = n; tokens = ts } ∷ [])) e

written_from : (n : ℕ) (lines : List (List (List ℕ))) → AllByRecursion IsWritten lines →
    lines_from n (flat_map line_text lines) ≡ numbered n lines
written_from n [] each = refl
written_from n ([] ∷ lines) each = absurd each.0
written_from n ((token ∷ tokens) ∷ lines) each =
    let line = token ++ spaced tokens in
    let rest = flat_map line_text lines in
    let apart : (token ++ spaced tokens ++ 10 ∷ []) ++ rest ≡ line ++ 10 ∷ rest = simp append_assoc in
    ap (lines_from n) apart
    ∙ first_line n line rest (plain_line token tokens each.0.0 each.0.1)
    ∙ ap (λ own. own ++ lines_from (n + 1) rest)
    (own_line n line token tokens (cut_line token tokens each.0.0 each.0.1))
    ∙ ap (λ back. record { number = n; tokens = token ∷ tokens } ∷ back) (written_from (n + 1) lines each.1)

-- the logical lines of what is written are the lines that were to be written
pub written_lines : (lines : List (List (List ℕ))) → AllByRecursion IsWritten lines →
    logical_lines (flat_map line_text lines) ≡ numbered 1 lines
written_lines lines each = written_from 1 lines each
