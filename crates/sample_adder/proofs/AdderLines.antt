-- The lines of the sample's netlist, piece by piece: only the statement of the inputs names inputs.
use Rattle.std.proofs.Common.{◌≡◌, ℕ, zero, suc, ◌+◌, ◌-◌, ◌*◌, ◌≤◌, ◌<◌, true, List, [], ◌∷◌, ◌++◌, refl, ap, subst}
use Rattle.std.proofs.Common.{◌∙◌, arith, append_assoc, append-nil, codes}
use Rattle.std.specs.Fmt.{decimal}
use Rattle.std.specs.List.{list_all}
use Rattle.std.proofs.lemmas.Bool.{and_from}
use Rattle.blif_read.specs.Lines.{tokens_of}
use Rattle.blif_read.specs.Parts.{NetView}
use Rattle.blif_read.specs.Says.{SaysNet}
use Rattle.sample_adder.specs.declared.adder.Signal.{Signal}
use Rattle.sample_adder.specs.Adder.{name_of, first_bit, second_bit, sum_bit, carry_bit, exclusive_rows, both_rows}
use Rattle.sample_adder.specs.Adder.{either_rows, gate, half_adder, full_adder, full_adders, summand_names, sum_names}
use Rattle.sample_adder.specs.Adder.{head, foot, adder}
use Rattle.blif_read.proofs.PlainLines.{is_inked, is_plain, one_token, inked_plain, inked_decimal}
use Rattle.sample_adder.proofs.Pieces.{named_from, IsPiece, no_piece, both_pieces, IsLine, inputs_piece, other_piece}
use Rattle.sample_adder.proofs.Pieces.{IsName, with_name}

-- a signal's name is one token
record IsSignal (signal : Signal) : Type 0 where
  letter : is_inked signal.letter ≡ true
  number : signal.number ≤ 64

known : (letter number : ℕ) → is_inked letter ≡ true → number ≤ 64 →
    IsSignal (record { letter = letter; number = number })
known letter number inked few = record { letter = inked; number = few }

a_name : (signal : Signal) → IsSignal signal → IsName (name_of signal)
a_name signal s =
    let digits = inked_decimal signal.number (omega arith) in
    let inked = and_from (is_inked signal.letter) (list_all is_inked (decimal signal.number)) s.letter digits in
    record { alone = one_token signal.letter (decimal signal.number) inked; plain = inked_plain (name_of signal) inked }

and_signal : {line token : List ℕ} {k : ℕ} (signal : Signal) → IsLine line token k → IsSignal signal →
    IsLine (line ++ 32 ∷ name_of signal) token (suc k)
and_signal signal l s = with_name (name_of signal) l (a_name signal s)

-- lines of one token and of two
bare : (token : List ℕ) → tokens_of token ≡ token ∷ [] → list_all is_plain token ≡ true → IsLine token token 0
bare token alone plain = record { rest = []; tokens = alone; count = refl; plain = plain }

pair : (line token other : List ℕ) → tokens_of line ≡ token ∷ other ∷ [] → list_all is_plain line ≡ true →
    IsLine line token 1
pair line token other tokens plain = record { rest = other ∷ []; tokens = tokens; count = refl; plain = plain }

exclusive_piece : IsPiece exclusive_rows 0
exclusive_piece =
    let first = other_piece (pair (codes "10 1") (codes "10") (codes "1") refl refl) (λ n rest. refl) in
    let second = other_piece (pair (codes "01 1") (codes "01") (codes "1") refl refl) (λ n rest. refl) in
    both_pieces first second

both_piece : IsPiece both_rows 0
both_piece = other_piece (pair (codes "11 1") (codes "11") (codes "1") refl refl) (λ n rest. refl)

either_piece : IsPiece either_rows 0
either_piece =
    let first = other_piece (pair (codes "1- 1") (codes "1-") (codes "1") refl refl) (λ n rest. refl) in
    let second = other_piece (pair (codes "-1 1") (codes "-1") (codes "1") refl refl) (λ n rest. refl) in
    both_pieces first second

gate_piece : {x y out : Signal} {rows : List ℕ} → IsSignal x → IsSignal y → IsSignal out → IsPiece rows 0 →
    IsPiece (gate x y out rows) 0
unfolding gate
gate_piece {x} {y} {out} {rows} p q r s =
    let line = and_signal out (and_signal y (and_signal x (bare (codes ".names") refl refl) p) q) r in
    let all = both_pieces (other_piece line (λ n rest. refl)) s in
    subst (λ (text : List ℕ). IsPiece text 0) (simp append_assoc) all

half_piece : IsPiece half_adder 0
unfolding half_adder
half_piece =
    let a = known 97 0 refl (omega arith) in
    let b = known 98 0 refl (omega arith) in
    both_pieces (gate_piece a b (known 115 0 refl (omega arith)) exclusive_piece)
    (gate_piece a b (known 99 1 refl (omega arith)) both_piece)

full_piece : (i : ℕ) → i < 64 → IsPiece (full_adder i) 0
unfolding full_adder
full_piece i small =
    let few : i ≤ 64 = omega arith in
    let a = known 97 i refl few in
    let b = known 98 i refl few in
    let c = known 99 i refl few in
    let p = known 112 i refl few in
    let g = known 103 i refl few in
    let h = known 104 i refl few in
    let one = both_pieces (gate_piece a b p exclusive_piece) (gate_piece p c (known 115 i refl few) exclusive_piece) in
    let two = both_pieces (both_pieces one (gate_piece a b g both_piece)) (gate_piece p c h both_piece) in
    both_pieces two (gate_piece g h (known 99 (i + 1) refl (omega arith)) either_piece)

full_pieces : (n : ℕ) → n < 64 → IsPiece (full_adders n) 0
full_pieces zero small = no_piece
full_pieces (suc n) small = both_pieces (full_pieces n (omega arith)) (full_piece (n + 1) (omega arith))

-- the statement of the inputs names two for each bit
inputs_line : (bits : ℕ) → bits ≤ 64 → IsLine (codes ".inputs" ++ summand_names bits) (codes ".inputs") (2 * bits)
inputs_line zero few = bare (codes ".inputs") refl refl
inputs_line (suc i) few =
    let first = and_signal (first_bit i) (inputs_line i (omega arith)) (known 97 i refl (omega arith)) in
    let both = and_signal (second_bit i) first (known 98 i refl (omega arith)) in
    let count : suc (suc (2 * i)) ≡ 2 * suc i = omega arith in
    subst (IsLine (codes ".inputs" ++ summand_names (suc i)) (codes ".inputs")) count
    (subst (λ (line : List ℕ). IsLine line (codes ".inputs") (suc (suc (2 * i)))) (simp append_assoc) both)

outputs_line : (count : ℕ) → count ≤ 65 → IsLine (codes ".outputs" ++ sum_names count) (codes ".outputs") count
outputs_line zero few = bare (codes ".outputs") refl refl
outputs_line (suc i) few =
    subst (λ (line : List ℕ). IsLine line (codes ".outputs") (suc i)) (simp append_assoc)
    (and_signal (sum_bit i) (outputs_line i (omega arith)) (known 115 i refl (omega arith)))

head_text : (feed m i s o t : List ℕ) →
    (m ++ feed) ++ (((i ++ s) ++ feed) ++ ((o ++ t) ++ feed))
    ≡ ((((m ++ (feed ++ i)) ++ s) ++ (feed ++ o)) ++ t) ++ feed
head_text feed m i s o t = simp append_assoc

head_piece : (bits : ℕ) → bits ≤ 64 → IsPiece (head bits) (2 * bits)
unfolding head
head_piece bits few =
    let model = other_piece (pair (codes ".model adder") (codes ".model") (codes "adder") refl refl) (λ n rest. refl) in
    let inputs = inputs_piece (inputs_line bits few) in
    let outputs = other_piece (outputs_line (bits + 1) (omega arith)) (λ n rest. refl) in
    let text = head_text (codes "\n") (codes ".model adder") (codes ".inputs") (summand_names bits) (codes ".outputs")
    (sum_names (bits + 1)) in
    let all = both_pieces model (both_pieces inputs outputs) in
    let count : 0 + (2 * bits + 0) ≡ 2 * bits = omega arith in
    subst (IsPiece (head bits)) count (subst (λ (text : List ℕ). IsPiece text (0 + (2 * bits + 0))) text all)

foot_text : (feed blank n c s r e : List ℕ) →
    (((n ++ (blank ++ c)) ++ (blank ++ s)) ++ feed) ++ ((r ++ feed) ++ (e ++ feed))
    ≡ ((((n ++ blank) ++ c) ++ blank) ++ s) ++ (feed ++ (r ++ (feed ++ (e ++ feed))))
foot_text feed blank n c s r e = simp append_assoc

foot_piece : (bits : ℕ) → bits ≤ 64 → IsPiece (foot bits) 0
unfolding foot
foot_piece bits few =
    let carry = and_signal (carry_bit bits) (bare (codes ".names") refl refl) (known 99 bits refl few) in
    let line = and_signal (sum_bit bits) carry (known 115 bits refl few) in
    let row = other_piece (pair (codes "1 1") (codes "1") (codes "1") refl refl) (λ n rest. refl) in
    let end = other_piece (bare (codes ".end") refl refl) (λ n rest. refl) in
    let text = foot_text (codes "\n") (codes " ") (codes ".names") (name_of (carry_bit bits)) (name_of (sum_bit bits))
    (codes "1 1") (codes ".end") in
    let all = both_pieces (other_piece line (λ n rest. refl)) (both_pieces row end) in
    subst (λ (text : List ℕ). IsPiece text 0) text all

adder_piece : (bits : ℕ) → bits ≤ 64 → IsPiece (adder bits) (2 * bits)
unfolding adder
adder_piece bits few =
    let front = both_pieces (head_piece bits few) half_piece in
    let all = both_pieces (both_pieces front (full_pieces (bits - 1) (omega arith))) (foot_piece bits few) in
    let count : 2 * bits + 0 + 0 + 0 ≡ 2 * bits = omega arith in
    subst (IsPiece (adder bits)) count all

nothing_left : (n : ℕ) → named_from n [] ≡ 0
nothing_left n = refl

pub adder_inputs : (bits : ℕ) (net : NetView) → 1 ≤ bits → bits ≤ 64 → SaysNet (adder bits) net → net.inputs ≡ 2 * bits
adder_inputs bits net some few says =
    let piece = adder_piece bits few in
    let whole = ap (named_from 1) (append-nil (adder bits)) in
    let named : named_from 1 (adder bits) ≡ 2 * bits =
    omega (arith, whole, piece.counts 1 [], nothing_left (1 + piece.lines)) in
    ap (λ view. view.inputs) says.parts ∙ named
