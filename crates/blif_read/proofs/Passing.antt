-- The tokens of a logical line, which stand in one physical line behind another.
use Rattle.std.proofs.Common.{◌≡◌, ℕ, zero, suc, ◌+◌, ◌-◌, ◌≤◌, ◌<◌, ◌&&◌, ◌||◌, Bool, true, false, cond, not, List, []}
use Rattle.std.proofs.Common.{◌∷◌, ◌++◌, length, take, drop, Option, Some, None, IfSome, Bor, refl, sym, ap, ◌∙◌, arith}
use Rattle.std.proofs.Common.{append_assoc, is_some, length-append}
use Rattle.std.specs.Prelude.{◌==◌, slice_index}
use Rattle.std.specs.Option.{option_copied}
use Rattle.std.specs.List.{slice_split, onto_first, position, position_or_len, filter, sum_by}
use Rattle.std.proofs.lemmas.List.{append-nil, take_all}
use Rattle.std.proofs.lemmas.List.Sums.{sum_by-cons}
use Rattle.blif_read.specs.Lines.{Line, is_token, is_blank, is_feed, is_number_sign, is_backslash, is_empty, tokens_of}
use Rattle.blif_read.specs.Lines.{physical_lines, without_comment, before_backslash, has_tokens}
use Rattle.blif_read.specs.Code.Reading.{begins_filled, begins_row, lines_of, IsFirst, IsPassed, before_end, content_of}
use Rattle.blif_read.specs.Code.Reading.{goes_on, joined_on, if_joined, joined_tokens, first_tokens, tokens_left}
use Rattle.blif_read.specs.Code.Reading.{lines_from, left}
use Rattle.blif_read.specs.Code.Ends.{first_of}
use Rattle.blif_read.specs.Statements.{begins_with_dot, statement_of, word}
use Rattle.blif_read.specs.declared.words.Statement.TheVariants.{Row}
use Rattle.blif_read.proofs.Cuts.{HasFirst, has_part, tokens_from, tokens_none}
use Rattle.blif_read.proofs.Joining.{left_from, line_ends, line_goes_on}
use Rattle.blif_read.proofs.TextSize.{taken, split_bytes, stripped_bytes, filtered_bytes}
use Rattle.blif_read.proofs.Counted.{filled, token_each}

-- a part of a line up to a blank, which is a token where it isn't empty
one_token : (front : List ℕ) → 0 < length front → filter is_token (front ∷ []) ≡ front ∷ []
one_token [] lt = absurd (omega arith)
one_token (b ∷ bs) lt = refl

no_token : (front : List ℕ) → (0 < length front → ⊥) → filter is_token (front ∷ []) ≡ []
no_token [] not_lt = refl
no_token (b ∷ bs) not_lt = absurd (not_lt (omega arith))

pub token_before : (line : List ℕ) (i : ℕ) (front back rest : List ℕ) (whole : List (List ℕ))
    → position is_blank line ≡ Some i → front ≡ take i line → back ≡ drop i line → rest ≡ drop 1 back
    → 0 < length front → tokens_of line ≡ whole → whole ≡ front ∷ tokens_of rest
token_before line i front back rest whole e f b r lt w = sym (ap (λ ts. ts ++ tokens_of rest) (sym (one_token front lt))
    ∙ tokens_from line i front back rest [] (filter is_token (front ∷ [])) whole e f b r refl w)

pub blank_before : (line : List ℕ) (i : ℕ) (front back rest : List ℕ) (whole : List (List ℕ))
    → position is_blank line ≡ Some i → front ≡ take i line → back ≡ drop i line → rest ≡ drop 1 back
    → (0 < length front → ⊥) → tokens_of line ≡ whole → tokens_of rest ≡ whole
blank_before line i front back rest whole e f b r not_lt w = ap (λ ts. ts ++ tokens_of rest)
    (sym (no_token front not_lt))
    ∙ tokens_from line i front back rest [] (filter is_token (front ∷ [])) whole e f b r refl w

pub last_token : (rest : List ℕ) (whole : List (List ℕ)) → position is_blank rest ≡ None → 0 < length rest
    → tokens_of rest ≡ whole → whole ≡ rest ∷ tokens_of []
last_token rest whole e lt w = sym w ∙ tokens_none rest e ∙ one_token rest lt

pub no_last_token : (rest : List ℕ) (whole : List (List ℕ)) → position is_blank rest ≡ None → (0 < length rest → ⊥)
    → tokens_of rest ≡ whole → whole ≡ []
no_last_token rest whole e not_lt w = sym w ∙ tokens_none rest e ∙ no_token rest not_lt

-- a token begins with a first byte that is no blank
filled_first : (b : ℕ) (bs : List ℕ) (h : HasFirst (slice_split is_blank bs)) → is_blank b ≡ false
    → tokens_of (b ∷ bs) ≡ (b ∷ h.first) ∷ filter is_token h.others
filled_first b bs h e = ap (λ x. filter is_token
    (cond x ([] ∷ slice_split is_blank bs) (onto_first b (slice_split is_blank bs)))) e
    ∙ ap (λ parts. filter is_token (onto_first b parts)) h.is

not_on : (b : Bool) → not b ≡ true → b ≡ false
not_on true e = absurd (cc)
not_on false e = refl

neither : (b c : Bool) → not (b || c) ≡ true → (b ≡ false) × (c ≡ false)
neither true c e = absurd (cc)
neither false true e = absurd (cc)
neither false false e = (refl, refl)

pub filled_token : (line : List ℕ) → begins_filled line ≡ true → not (is_empty (tokens_of line)) ≡ true
filled_token [] h = absurd (cc)
filled_token (b ∷ bs) h = ap (λ ts. not (is_empty ts))
    (filled_first b bs (has_part is_blank bs) (not_on (is_blank b) h))

pub row_first : (line : List ℕ) (n : ℕ) (more : List (List ℕ)) → begins_row line ≡ true
    → begins_with_dot (first_of (take n (tokens_of line ++ more))) ≡ false
row_first [] n more h = absurd (cc)
row_first (b ∷ bs) zero more h = refl
row_first (b ∷ bs) (suc n) more h =
    let both = neither (is_blank b) (b == 46) h in
    ap (λ ts. begins_with_dot (first_of (take (suc n) (ts ++ more)))) (filled_first b bs (has_part is_blank bs) both.0)
    ∙ both.1

-- a line whose first token begins with no dot
pub row_word : (number : ℕ) (tokens : List (List ℕ)) → begins_with_dot (first_of tokens) ≡ false
    → Row ≡ word (record { number = number; tokens = tokens })
row_word number [] h = refl
row_word number (t ∷ ts) h = sym (ap (λ b. cond b (statement_of t) Row) h)

-- what the first physical line of a text adds
lines_on : (g : Bool) (more : Option (List ℕ))
    → if_joined g (joined_tokens (lines_of more)) ≡ joined_tokens (lines_of (joined_on g more))
lines_on true more = refl
lines_on false more = refl

module _ (text body content : List ℕ) (more : Option (List ℕ)) (g : Bool) (f : IsFirst text body more)
    (c : content ≡ before_end body (before_backslash body)) (b : g ≡ is_some (before_backslash body)) where
  is_content : content ≡ content_of f.line
  is_content = c ∙ ap (λ x. before_end x (before_backslash x)) f.is

  is_joined : g ≡ goes_on f.line
  is_joined = b ∙ ap (λ x. is_some (before_backslash x)) f.is

  pub first_part : first_tokens text ≡ tokens_left content (joined_on g more)
  first_part = ap joined_tokens f.cut
      ∙ ap (λ x. tokens_of x ++ if_joined (goes_on f.line) (joined_tokens (lines_of more))) (sym is_content)
      ∙ ap (λ x. tokens_of content ++ if_joined x (joined_tokens (lines_of more))) (sym is_joined)
      ∙ ap (λ ts. tokens_of content ++ ts) (lines_on g more)

-- each token has a byte of its own
few_tokens : (line : List ℕ) → length (tokens_of line) ≤ length line
few_tokens line =
    let a = token_each (tokens_of line) (filled (slice_split is_blank line)) in
    let b = filtered_bytes is_token length (slice_split is_blank line) in
    let c = split_bytes is_blank line in
    omega arith

few_bytes : (line : List ℕ) → length (content_of line) ≤ length line
few_bytes line =
    let a = taken (position_or_len is_number_sign line) line in
    let b = one (without_comment line)
    (is_backslash (slice_index (without_comment line) (length (without_comment line) - 1))) in
    omega arith
  where
    one : (xs : List ℕ) (b : Bool) → length (before_end xs (cond b (Some (take (length xs - 1) xs)) None)) ≤ length xs
    one xs true = taken (length xs - 1) xs
    one xs false = omega arith

few_joined : (b : Bool) (tokens : List (List ℕ)) → length (if_joined b tokens) ≤ length tokens
few_joined true tokens = omega arith
few_joined false tokens = omega arith

few_in_lines : (lines : List (List ℕ)) → length (joined_tokens lines) ≤ sum_by length lines
few_in_lines [] = omega arith
few_in_lines (line ∷ lines) =
    let a = few_tokens (content_of line) in
    let b = few_bytes line in
    let c = few_joined (goes_on line) (joined_tokens lines) in
    let d = few_in_lines lines in
    omega (
      arith,
      length-append (tokens_of (content_of line))
          (if_joined (goes_on line) (joined_tokens lines)),
      sum_by-cons length line lines,
    )

-- all tokens of a text's first line, which has no more tokens than the text has bytes
pub all_tokens : (text : List ℕ) (tokens : List (List ℕ)) → first_tokens text ≡ tokens
    → take (length text) tokens ≡ first_tokens text
all_tokens text tokens e =
    let a = few_in_lines (physical_lines text) in
    let b = stripped_bytes (slice_split is_feed text) in
    let c = split_bytes is_feed text in
    ap (take (length text)) (sym e) ∙ take_all (length text) (first_tokens text) (omega arith)

-- the part of a physical line is passed over, or the line goes on with a text
pub part_behind : (line : List ℕ) (more : Option (List ℕ)) (text : List ℕ) (part : List ℕ) (next : Option (List ℕ))
    (whole : List (List ℕ)) → tokens_of line ≡ [] → more ≡ Some text → first_tokens text ≡ tokens_left part next
    → tokens_left line more ≡ whole → tokens_left part next ≡ whole
part_behind line more text part next whole e m f w = sym f ∙ ap (λ ts. ts ++ first_tokens text) (sym e)
    ∙ ap (λ o. tokens_of line ++ joined_tokens (lines_of o)) (sym m) ∙ w

pub part_token : (line rest token : List ℕ) (more : Option (List ℕ)) (whole : List (List ℕ))
    → tokens_of line ≡ token ∷ tokens_of rest → tokens_left line more ≡ whole → whole ≡ token ∷ tokens_left rest more
part_token line rest token more whole e w = sym w ∙ ap (λ ts. ts ++ joined_tokens (lines_of more)) e

pub no_part : (line : List ℕ) (more : Option (List ℕ)) (whole : List (List ℕ)) → tokens_of line ≡ [] → more ≡ None
    → tokens_left line more ≡ whole → whole ≡ []
no_part line more whole e m w = sym w ∙ ap (λ ts. ts ++ joined_tokens (lines_of more)) e
    ∙ ap (λ o. joined_tokens (lines_of o)) m

-- A logical line that is passed over: the tokens so far stand before those of the text that is left.
pub record Passing (n : ℕ) (text rest : List ℕ) (next : ℕ) (any : Bool) : Type 0 where
  pub before : List (List ℕ)
  pub lines : left n before next (Some rest) ≡ lines_from n text
  pub tokens : before ++ first_tokens rest ≡ first_tokens text
  pub some : any ≡ not (is_empty before)

pub passing_none : (n : ℕ) (text : List ℕ) → Passing n text text n false
passing_none n text = record { before = []; lines = left_from n text; tokens = refl; some = refl }

some_of : (xs ys : List (List ℕ)) → not (is_empty (xs ++ ys)) ≡ (not (is_empty xs) || not (is_empty ys))
some_of [] ys = refl
some_of (x ∷ xs) ys = refl

on_with : (g : Bool) (more : Option (List ℕ)) (text : List ℕ) → joined_on g more ≡ Some text
    → (g ≡ true) × (more ≡ Some text)
on_with true more text e = (refl, e)
on_with false more text e = absurd (cc)

off_with : (g : Bool) (more : Option (List ℕ)) → joined_on g more ≡ None → g && is_some more ≡ false
off_with true None e = refl
off_with true (Some text) e = absurd (cc)
off_with false more e = refl

module _ (n : ℕ) (text rest : List ℕ) (next : ℕ) (any : Bool) (p : Passing n text rest next any) (body content : List ℕ)
    (more : Option (List ℕ)) (g : Bool) (f : IsFirst rest body more)
    (c : content ≡ before_end body (before_backslash body)) (b : g ≡ is_some (before_backslash body))
    (on : Option (List ℕ)) (o : on ≡ joined_on g more) (any_now : Bool)
    (a : any_now ≡ any || not (is_empty (tokens_of content))) where
  abbrev so_far : List (List ℕ)
  so_far = p.before ++ tokens_of content

  some_now : any_now ≡ not (is_empty so_far)
  some_now = a ∙ ap (λ x. x || not (is_empty (tokens_of content))) p.some ∙ sym (some_of p.before (tokens_of content))

  tokens_now : so_far ++ joined_tokens (lines_of on) ≡ first_tokens text
  tokens_now = append_assoc p.before (tokens_of content) (joined_tokens (lines_of on))
      ∙ ap (λ x. p.before ++ (tokens_of content ++ joined_tokens (lines_of x))) o
      ∙ ap (λ ts. p.before ++ ts) (sym (first_part rest body content more g f c b)) ∙ p.tokens

  content_line : tokens_of content ≡ tokens_of (content_of f.line)
  content_line = ap tokens_of (is_content rest body content more g f c b)

  pub passing_on : (behind : List ℕ) → on ≡ Some behind → Passing n text behind (next + 1) any_now
  passing_on behind s =
      let both = on_with g more behind (sym o ∙ s) in record {
        before = so_far;
        lines = ap (λ ts. left n (p.before ++ ts) (next + 1) (Some behind)) content_line
            ∙ sym (line_goes_on n next p.before rest f.line behind (f.cut ∙ ap (λ x. f.line ∷ lines_of x) both.1)
            (sym (is_joined rest body content more g f c b) ∙ both.0)) ∙ p.lines;
        tokens = ap (λ x. so_far ++ joined_tokens (lines_of x)) (sym s) ∙ tokens_now;
        some = some_now;
      }

  all_now : on ≡ None → so_far ≡ first_tokens text
  all_now s = sym (append-nil so_far) ∙ ap (λ x. so_far ++ joined_tokens (lines_of x)) (sym s) ∙ tokens_now

  pub passed_all : on ≡ None → IsPassed n text any_now (next + 1) more
  passed_all s = record {
    some = some_now ∙ ap (λ ts. not (is_empty ts)) (all_now s);
    lines = sym p.lines ∙ line_ends n next p.before rest f.line more f.cut
        (ap (λ x. x && is_some more) (sym (is_joined rest body content more g f c b)) ∙ off_with g more (sym o ∙ s))
        ∙ ap (λ ts. filter has_tokens (record { number = n; tokens = p.before ++ ts } ∷ []) ++ left (next + 1) []
        (next + 1) more) (sym content_line)
        ∙ ap (λ ts. filter has_tokens (record { number = n; tokens = ts } ∷ []) ++ left (next + 1) []
        (next + 1) more) (all_now s);
  }

-- the line that was passed over has tokens, or none
has_some : (n : ℕ) (tokens : List (List ℕ)) → not (is_empty tokens) ≡ true
    → filter has_tokens (record { number = n; tokens = tokens } ∷ []) ≡ record { number = n; tokens = tokens } ∷ []
has_some n [] e = absurd (cc)
has_some n (t ∷ ts) e = refl

has_none : (n : ℕ) (tokens : List (List ℕ)) → not (is_empty tokens) ≡ false
    → filter has_tokens (record { number = n; tokens = tokens } ∷ []) ≡ []
has_none n [] e = refl
has_none n (t ∷ ts) e = absurd (cc)

pub passed_some : (n : ℕ) (text : List ℕ) (any : Bool) (next : ℕ) (more : Option (List ℕ)) (all : List Line)
    → IsPassed n text any next more → any ≡ true → left n [] n (Some text) ≡ all
    → all ≡ record { number = n; tokens = first_tokens text } ∷ left next [] next more
passed_some n text any next more all p a w = sym w ∙ left_from n text ∙ p.lines
    ∙ ap (λ ls. ls ++ left next [] next more) (has_some n (first_tokens text) (sym p.some ∙ a))

pub passed_none : (n : ℕ) (text : List ℕ) (any : Bool) (next : ℕ) (more : Option (List ℕ)) (all : List Line)
    → IsPassed n text any next more → any ≡ false → left n [] n (Some text) ≡ all
    → left next [] next more ≡ all
passed_none n text any next more all p a w = ap (λ ls. ls ++ left next [] next more)
    (sym (has_none n (first_tokens text) (sym p.some ∙ a))) ∙ sym p.lines ∙ sym (left_from n text) ∙ w

abbrev line_at : ℕ → List (List ℕ) → Line
line_at number tokens = record { number = number; tokens = tokens }

-- the line that was found, as the reader tells it
pub line_told : (all behind : List Line) (first number next n : ℕ) (text told rest : List ℕ)
    → all ≡ line_at first (first_tokens text) ∷ behind
    → number ≡ first → told ≡ text → next ≡ n → lines_from n rest ≡ behind
    → all ≡ line_at number (first_tokens told) ∷ lines_from next rest
line_told all behind first number next n text told rest w f t x l =
    w ∙ ap (λ ls. line_at first (first_tokens text) ∷ ls) (sym l)
    ∙ ap (λ k. line_at first (first_tokens text) ∷ lines_from k rest) (sym x)
    ∙ ap (λ k. line_at k (first_tokens text) ∷ lines_from next rest) (sym f)
    ∙ ap (λ k. line_at number (first_tokens k) ∷ lines_from next rest) (sym t)

-- the text behind is shorter
pub less_behind : (g : Bool) (more : Option (Bor (List ℕ))) (on : Option (List ℕ)) (n : ℕ) (text : List ℕ)
    → IfSome more (λ rest. length rest.now < n) → on ≡ joined_on g (option_copied more)
    → on ≡ Some text → length text < n
less_behind true None on n text s o e = absurd (let none : Some text ≡ None = sym e ∙ o in cc)
less_behind true (Some rest) on n text s o e = let same : Some rest.now ≡ Some text = sym o
    ∙ e in let is : rest.now ≡ text = cc in omega (arith, ap length is)
less_behind false more on n text s o e = absurd (let none : Some text ≡ None = sym e ∙ o in cc)

pub fits_behind : (more : Option (Bor (List ℕ))) (n k m : ℕ) → IfSome more (λ rest. length rest.now < n) → k + n ≤ m
    → IfSome more (λ rest. k + 1 + length rest.now ≤ m)
fits_behind None n k m s h = tt
fits_behind (Some rest) n k m s h = let t = s in omega arith
