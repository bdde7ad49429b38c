-- The models of a text, part by part and line by line.
use Rattle.std.proofs.Common.{◌≡◌, ℕ, suc, ◌+◌, ◌<◌, ◌≤◌, not, cond, List, [], ◌∷◌, length, take, drop, Option, Some}
use Rattle.std.proofs.Common.{None, IfSome, true, false, nat_lt, refl, sym, ap, ◌∙◌, subst, arith, inl, inr}
use Rattle.std.specs.List.{position, position_or_len}
use Rattle.std.specs.Option.{option_map}
use Rattle.std.proofs.lemmas.Bool.{cases_Bool, ltb-true, ltb-false, lt-ltb, le-ltb}
use Rattle.std.proofs.lemmas.List.{drop-drop, length-take-le}
use Rattle.blif_read.specs.Lines.{Line}
use Rattle.blif_read.specs.Statements.{word, is_model}
use Rattle.blif_read.specs.Models.{onto, ended, parts_behind, parts_of, is_equals_sign, formal_in, actual_in}
use Rattle.blif_read.proofs.Cuts.{at_some, at_none, before_at}

-- behind the first `=` of a token
pub behind_sign : (token : List ℕ) (i : ℕ) (back rest : List ℕ) → position is_equals_sign token ≡ Some i
    → back ≡ drop i token → rest ≡ drop 1 back → rest ≡ actual_in token
behind_sign token i back rest e b r =
    let both = at_some _ _ _ e in
    let below : position_or_len is_equals_sign token < length token = ltb-true _ _ both.0 in
    let long : length (formal_in token) ≡ i = ap length (before_at is_equals_sign token i e)
    ∙ length-take-le i token (omega arith) in
    r ∙ ap (drop 1) b ∙ drop-drop 1 i token
    ∙ ap (λ n. drop n token) (let n : i + 1 ≡ suc (length (formal_in token)) = omega arith in n)

behind_at : (xs : List Line) (i : ℕ) → position_or_len (λ x. is_model (word x)) xs ≡ i → i < length xs
    → parts_behind xs ≡ take i xs ∷ parts_of (drop i xs)
behind_at [] i e lt = absurd (omega arith)
behind_at (x ∷ xs) i e lt = elim (cases_Bool (is_model (word x))) [
  | inl on ↦
      let z : 0 ≡ i = sym (ap (λ b. cond (not b) (1 + position_or_len (λ x. is_model (word x)) xs) 0) on) ∙ e in
      subst (λ n. parts_behind (x ∷ xs) ≡ take n (x ∷ xs) ∷ parts_of (drop n (x ∷ xs))) z
      (ap (λ b. ended b (onto x (parts_behind xs))) on)
  | inr off ↦
      let one : 1 + position_or_len (λ x. is_model (word x)) xs ≡ i =
      sym (ap (λ b. cond (not b) (1 + position_or_len (λ x. is_model (word x)) xs) 0) off) ∙ e in
      let z : suc (position_or_len (λ x. is_model (word x)) xs) ≡ i = omega arith in
      subst (λ n. parts_behind (x ∷ xs) ≡ take n (x ∷ xs) ∷ parts_of (drop n (x ∷ xs))) z
      (ap (λ b. ended b (onto x (parts_behind xs))) off ∙ ap (onto x) (behind_at xs _ refl (omega arith)))
]

behind_none : (xs : List Line) → length xs ≤ position_or_len (λ x. is_model (word x)) xs → parts_behind xs ≡ xs ∷ []
behind_none [] le = refl
behind_none (x ∷ xs) le = elim (cases_Bool (is_model (word x))) [
  | inl on ↦
      let z : position_or_len (λ x. is_model (word x)) (x ∷ xs) ≡ 0 =
      ap (λ b. cond (not b) (1 + position_or_len (λ x. is_model (word x)) xs) 0) on in
      absurd (omega arith)
  | inr off ↦
      let z : position_or_len (λ x. is_model (word x)) (x ∷ xs) ≡ 1 + position_or_len (λ x. is_model (word x)) xs =
      ap (λ b. cond (not b) (1 + position_or_len (λ x. is_model (word x)) xs) 0) off in
      ap (λ b. ended b (onto x (parts_behind xs))) off ∙ ap (onto x) (behind_none xs (omega arith))
]

-- the first model ends where the next begins
pub first_cut : (lines tail part more : List Line) (x : Line) (i : ℕ) → position (λ x. is_model (word x)) tail ≡ Some i
    → lines ≡ x ∷ tail → part ≡ take (i + 1) lines → more ≡ drop i tail
    → parts_of lines ≡ part ∷ parts_of more
first_cut lines tail part more x i e is p m =
    let both = at_some _ _ _ e in
    let below : position_or_len (λ x. is_model (word x)) tail < length tail = ltb-true _ _ both.0 in
    let n : i + 1 ≡ suc i = omega arith in
    let front : take (suc i) (x ∷ tail) ≡ part = ap (λ ls. take (suc i) ls) (sym is)
    ∙ ap (λ k. take k lines) (sym n) ∙ sym p in
    ap parts_of is ∙ ap (onto x) (behind_at tail i both.1 (omega arith))
    ∙ ap (λ ys. ys ∷ parts_of (drop i tail)) front ∙ ap (λ ys. part ∷ parts_of ys) (sym m)

-- no other model begins
pub last_cut : (lines tail : List Line) (x : Line) → position (λ x. is_model (word x)) tail ≡ None → lines ≡ x ∷ tail
    → parts_of lines ≡ lines ∷ []
last_cut lines tail x e is =
    let le : length tail ≤ position_or_len (λ x. is_model (word x)) tail = ltb-false _ _ (at_none _ _ e) in
    ap parts_of is ∙ ap (onto x) (behind_none tail le) ∙ ap (λ ls. ls ∷ []) (sym is)

-- what is left of lines behind some that begin no model
pub record IsBehind (at : ℕ) (rest lines : List Line) : Type 0 where
  pub place : at + position_or_len (λ x. is_model (word x)) rest ≡ position_or_len (λ x. is_model (word x)) lines
  pub left : rest ≡ drop at lines
  pub count : at + length rest ≡ length lines

pub behind_none_yet : (rest lines : List Line) → rest ≡ lines → IsBehind 0 rest lines
behind_none_yet rest lines same =
    let here = ap (position_or_len (λ x. is_model (word x))) same in
    let long = ap length same in
    record { place = omega arith; left = same; count = omega arith }

module _ (at : ℕ) (old rest lines : List Line) (line : Line) (behind : IsBehind at old lines)
    (is : old ≡ line ∷ rest) where
  pub behind_more : is_model (word line) ≡ false → IsBehind (at + 1) rest lines
  behind_more off =
      let here = ap (position_or_len (λ x. is_model (word x))) is in
      let none = ap (λ b. cond (not b) (1 + position_or_len (λ x. is_model (word x)) rest) 0) off in
      let place = behind.place in
      let long = ap length is in
      let count = behind.count in
      record {
        place = omega arith;
        left = ap (drop 1) (sym is) ∙ ap (drop 1) behind.left ∙ drop-drop 1 at lines;
        count = omega arith;
      }

  pub model_at : is_model (word line) ≡ true → position (λ x. is_model (word x)) lines ≡ Some at
  model_at on =
      let here = ap (position_or_len (λ x. is_model (word x))) is in
      let some = ap (λ b. cond (not b) (1 + position_or_len (λ x. is_model (word x)) rest) 0) on in
      let place = behind.place in
      let long = ap length is in
      let count = behind.count in
      let same : position_or_len (λ x. is_model (word x)) lines ≡ at = omega arith in
      ap (λ n. cond (nat_lt n (length lines)) (Some n) None) same
      ∙ ap (λ b. cond b (Some at) None) (lt-ltb at (length lines) (omega arith))

-- no line is left
pub no_model : (at : ℕ) (rest lines : List Line) → IsBehind at rest lines → rest ≡ []
    → position (λ x. is_model (word x)) lines ≡ None
no_model at rest lines behind is =
    let here = ap (position_or_len (λ x. is_model (word x))) is in
    let place = behind.place in
    let long = ap length is in
    let count = behind.count in
    ap (λ b. cond b (Some (position_or_len (λ x. is_model (word x)) lines)) None)
    (le-ltb (position_or_len (λ x. is_model (word x)) lines) (length lines) (omega arith))

-- the place of a model that was found
pub place_at : (found : Option (ℕ × List Line)) (i : ℕ) (more : List Line) (o : Option ℕ)
    → option_map (λ f. f.0) found ≡ o → found ≡ Some (i, more) → o ≡ Some i
place_at found i more o e s = sym e ∙ ap (option_map (λ f. f.0)) s

pub lines_at : (found : Option (ℕ × List Line)) (i : ℕ) (more tail : List Line)
    → IfSome found (λ f. f.1 ≡ drop f.0 tail) → found ≡ Some (i, more) → more ≡ drop i tail
lines_at found i more tail r s = let P : Option (ℕ × List Line)
    → Type 0 = λ o. IfSome o (λ f. f.1 ≡ drop f.0 tail) in subst P s r

pub no_place : (found : Option (ℕ × List Line)) (o : Option ℕ) → option_map (λ f. f.0) found ≡ o
    → found ≡ None → o ≡ None
no_place found o e s = sym e ∙ ap (option_map (λ f. f.0)) s
