-- The names of a circuit's signals: inputs, cells and outputs, in this order. They are tokens, and differ.
use Rattle.std.proofs.Common.{◌≡◌, ℕ, ◌+◌, ◌-◌, ◌<◌, ◌^◌, ◌==◌, cond, nat_lt, true, false, List, ◌∷◌, refl, sym, ap}
use Rattle.std.proofs.Common.{◌∙◌, subst, arith, inl, inr}
use Rattle.std.specs.Fmt.{decimal}
use Rattle.std.specs.List.{list_all}
use Rattle.std.proofs.lemmas.Bool.{and_from, lt-ltb, le-ltb, cases_lt}
use Rattle.std.proofs.lemmas.Fmt.{decimal_injective}
use Rattle.blif_flat.specs.BlifText.{input_name, cell_name, output_name}
use Rattle.blif_read.proofs.PlainLines.{is_inked, inked_decimal}
use Rattle.blif_flat.proofs.WrittenLines.{IsToken}
use Rattle.blif_flat.proofs.NumberedNames.{AreNames}

-- the names of signals, of which so many are inputs and then so many are cells
abbrev pub signal_name : ℕ → ℕ → ℕ → List ℕ
signal_name inputs cells s = cond (nat_lt s inputs) (input_name s)
    (cond (nat_lt s (inputs + cells)) (cell_name (s - inputs)) (output_name (s - (inputs + cells))))

module _ (inputs cells : ℕ) where
  abbrev name : ℕ → List ℕ
  name s = signal_name inputs cells s

  pub named_input : (s : ℕ) → s < inputs → name s ≡ input_name s
  named_input s h = let k : nat_lt s inputs ≡ true = lt-ltb s inputs h in rw k refl

  pub named_cell : (c : ℕ) → c < cells → name (inputs + c) ≡ cell_name c
  named_cell c h =
      let k : nat_lt (inputs + c) inputs ≡ false = le-ltb (inputs + c) inputs (omega arith) in
      let m : nat_lt (inputs + c) (inputs + cells) ≡ true = lt-ltb (inputs + c) (inputs + cells) (omega arith) in
      let e : inputs + c - inputs ≡ c = omega arith in
      rw (k, m) (ap cell_name e)

  pub named_output : (k : ℕ) → name (inputs + cells + k) ≡ output_name k
  named_output n =
      let k : nat_lt (inputs + cells + n) inputs ≡ false = le-ltb (inputs + cells + n) inputs (omega arith) in
      let m : nat_lt (inputs + cells + n) (inputs + cells)
      ≡ false = le-ltb (inputs + cells + n) (inputs + cells) (omega arith) in
      let e : inputs + cells + n - (inputs + cells) ≡ n = omega arith in
      rw (k, m) (ap output_name e)

  -- where the signals of a letter begin
  abbrev first_of : ℕ → ℕ
  first_of letter = cond (letter == 73) 0 (cond (letter == 110) inputs (inputs + cells))

  -- a name is a letter and a number, and the signal follows from these
  record IsSpelled (s : ℕ) : Type 0 where
    letter : ℕ
    number : ℕ
    is : name s ≡ letter ∷ decimal number
    inked : is_inked letter ≡ true
    small : number < 2 ^ 64
    signal : s ≡ first_of letter + number

  module _ (outputs : ℕ) (few_inputs : inputs < 2 ^ 64) (few_cells : cells < 2 ^ 32)
      (few_outputs : outputs < 2 ^ 32) where
    spelled : (s : ℕ) → s < inputs + (cells + outputs) → IsSpelled s
    spelled s h = elim (cases_lt s inputs) [
      | inl input ↦ record {
        letter = 73;
        number = s;
        is = named_input s input;
        inked = refl;
        small = omega (arith, input, few_inputs);
        signal = omega arith;
      }
      | inr past ↦ elim (cases_lt s (inputs + cells)) [
        | inl cell ↦
            let e : inputs + (s - inputs) ≡ s = omega (arith, past) in
            let below : s - inputs < cells = omega (arith, past, cell) in
            record {
              letter = 110;
              number = s - inputs;
              is = ap name (sym e) ∙ named_cell (s - inputs) below;
              inked = refl;
              small = omega (arith, below, few_cells);
              signal = sym e;
            }
        | inr output ↦
            let e : inputs + cells + (s - (inputs + cells)) ≡ s = omega (arith, output) in
            record {
              letter = 79;
              number = s - (inputs + cells);
              is = ap name (sym e) ∙ named_output (s - (inputs + cells));
              inked = refl;
              small = omega (arith, output, h, few_outputs);
              signal = sym e;
            }
      ]
    ]

    spelled_token : (s : ℕ) → IsSpelled s → IsToken (name s)
    spelled_token s is = subst IsToken (sym is.is)
        (and_from (is_inked is.letter) (list_all is_inked (decimal is.number)) is.inked
        (inked_decimal is.number is.small))

    same_head : (a b : ℕ) (xs ys : List ℕ) → a ∷ xs ≡ b ∷ ys → a ≡ b
    same_head a b xs ys e = cc

    same_rest : (a b : ℕ) (xs ys : List ℕ) → a ∷ xs ≡ b ∷ ys → xs ≡ ys
    same_rest a b xs ys e = cc

    spelled_apart : (s t : ℕ) → IsSpelled s → IsSpelled t → name s ≡ name t → s ≡ t
    spelled_apart s t p q e =
        let same : p.letter ∷ decimal p.number ≡ q.letter ∷ decimal q.number = sym p.is ∙ e ∙ q.is in
        let letters : p.letter ≡ q.letter = same_head p.letter q.letter (decimal p.number) (decimal q.number) same in
        let numbers : p.number ≡ q.number = decimal_injective p.number q.number p.small q.small
        (same_rest p.letter q.letter (decimal p.number) (decimal q.number) same) in
        p.signal ∙ (λ i. first_of (letters i) + numbers i) ∙ sym q.signal

    pub are_names : AreNames name (inputs + (cells + outputs))
    are_names = record {
      token = λ s h. spelled_token s (spelled s h);
      differ = λ s t h k e. spelled_apart s t (spelled s h) (spelled t k) e;
    }
