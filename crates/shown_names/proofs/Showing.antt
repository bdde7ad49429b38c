-- What is shown of bytes: how much it is, that no control byte is in it, and that plain bytes stay.
use Rattle.std.specs.Prelude.{ℕ, ◌≡◌, ◌≤◌, ◌<◌, ◌*◌, ◌==◌, Bool, true, false, nat_lt, nat_le}
use Rattle.std.specs.Prelude.{List, [], ◌∷◌, ◌++◌, length, codes, refl}
use Rattle.std.specs.List.{list_any}
use Rattle.std.proofs.Common.{ap, ◌∙◌, arith, inl, inr, length-append}
use Rattle.std.proofs.lemmas.Bool.{ltb-true, eqb-true, or_cases, or_parts, cases_Bool, agree_below_at, cond_both, le-leb, lt-leb}
use Rattle.std.proofs.lemmas.List.Folds.{list_any-append}
use Rattle.shown_names.specs.Names.{is_control, shown_byte, shown_bytes, beginning, shown_name}

-- At most four bytes are put for each.

byte_room : (byte : ℕ) → length (shown_byte byte) ≤ 4
byte_room byte = cond_both (is_control byte) _ _ (λ bytes. length bytes ≤ 4) (λ e. omega arith) (λ e. omega arith)

pub bytes_room : (bytes : List ℕ) → length (shown_bytes bytes) ≤ 4 * length bytes
bytes_room [] = omega arith
bytes_room (byte ∷ more) =
    omega (arith, byte_room byte, bytes_room more, length-append (shown_byte byte) (shown_bytes more))

-- No control byte is put.

abbrev puts_control : ℕ → Bool
puts_control byte = list_any is_control (shown_byte byte)

spelled_well : (byte : ℕ) → byte < 128 → puts_control byte ≡ false
spelled_well byte low = agree_below_at puts_control (λ b. false) 128 byte refl low

control_is_low : (byte : ℕ) → is_control byte ≡ true → byte < 128
control_is_low byte e = elim (or_cases (nat_lt byte 32) (byte == 127) e) [
  | inl low ↦ omega (arith, ltb-true byte 32 low)
  | inr last ↦ omega (arith, eqb-true byte 127 last)
]

byte_is_plain : (byte : ℕ) → is_control byte ≡ false → shown_byte byte ≡ byte ∷ []
byte_is_plain byte e = rw e refl

byte_puts_none : (byte : ℕ) → puts_control byte ≡ false
byte_puts_none byte = elim (cases_Bool (is_control byte)) [
  | inl control ↦ spelled_well byte (control_is_low byte control)
  | inr plain ↦ rw (byte_is_plain byte plain, plain) refl
]

bytes_put_none : (bytes : List ℕ) → list_any is_control (shown_bytes bytes) ≡ false
bytes_put_none [] = refl
bytes_put_none (byte ∷ more) =
    list_any-append is_control (shown_byte byte) (shown_bytes more)
    ∙ rw (byte_puts_none byte, bytes_put_none more) refl

pub name_puts_none : (name : List ℕ) → list_any is_control (shown_name name) ≡ false
unfolding shown_name
name_puts_none name =
    cond_both (nat_le (length name) 200) _ _ (λ bytes. list_any is_control bytes ≡ false)
    (λ e. bytes_put_none name)
    (λ e. list_any-append is_control (shown_bytes (beginning name)) (codes "..")
    ∙ rw (bytes_put_none (beginning name)) refl)

-- Bytes without a control byte stay.

pub bytes_stay : (bytes : List ℕ) → list_any is_control bytes ≡ false → shown_bytes bytes ≡ bytes
bytes_stay [] plain = refl
bytes_stay (byte ∷ more) plain =
    let parts = or_parts (is_control byte) (list_any is_control more) plain in
    ap (λ shown. shown ++ shown_bytes more) (byte_is_plain byte parts.0)
    ∙ ap (λ shown. byte ∷ shown) (bytes_stay more parts.1)

pub name_stays : (name : List ℕ) → length name ≤ 200 → list_any is_control name ≡ false → shown_name name ≡ name
unfolding shown_name
name_stays name short plain = rw (le-leb (length name) 200 short) (bytes_stay name plain)

-- A name that is shown whole, and one that is cut.

pub short_name : (name : List ℕ) → length name ≤ 200 → shown_name name ≡ shown_bytes name
unfolding shown_name
short_name name short = rw (le-leb (length name) 200 short) refl

pub long_name : (name : List ℕ) → 200 < length name → shown_name name ≡ shown_bytes (beginning name) ++ codes ".."
unfolding shown_name
long_name name long = rw (lt-leb (length name) 200 long) refl
