-- Fields of records that some bytes spell.
use Rattle.std.proofs.Common.{◌≡◌, ℕ, ◌<◌, List, [], ◌∷◌, drop, length, Bool, true, false, eqb, refl, ap, ◌∙◌, arith}
use Rattle.std.proofs.lemmas.Bool.Decides.{nat_tests}
use Rattle.gds_records.specs.Records.{Record}
use Rattle.gds_records.specs.Faults.{here_record, kind_of, length_of}
use Rattle.gds_records.specs.Drawing.{field, has}
use Rattle.gds_read.specs.Code.Decoding.{IsSpelled, records_in}
use Rattle.gds_read.proofs.Decoded.{goes, records_none}

pub no_bytes : (bytes : List ℕ) → length bytes ≡ 0 → bytes ≡ []
no_bytes [] e = refl
no_bytes (b ∷ bytes) e = absurd (omega arith)

pub none_left : (bytes : List ℕ) → length bytes ≡ 0 → records_in bytes ≡ []
none_left bytes e = ap (λ (x : List ℕ). records_in x) (no_bytes bytes e) ∙ records_none

-- the first record, and those behind it
pub split_records : (bytes : List ℕ) → IsSpelled bytes → 0 < length bytes
    → records_in bytes ≡ here_record bytes ∷ records_in (drop (length_of bytes) bytes)
split_records bytes s h = (goes bytes (drop (length_of bytes) bytes) s h refl).records

picked : (t : Bool) (a b : List ℕ) → t ≡ true → (elim t as (λ (x : Bool). List ℕ) [ true ↦ a | false ↦ b ]) ≡ a
picked t a b e = rw e refl

chosen : (t b : Bool) → t ≡ true → (elim t as (λ (x : Bool). Bool) [ true ↦ true | false ↦ b ]) ≡ true
chosen t b e = rw e refl

field_first : (r : Record) (rs : List Record) (kind : ℕ) (z : Bool) → eqb r.kind kind ≡ z → z ≡ true
    → field kind (r ∷ rs) ≡ r.content
field_first r rs kind z e f = picked (eqb r.kind kind) r.content (field kind rs) (e ∙ f)

pub field_here : (bytes : List ℕ) (kind : ℕ) → IsSpelled bytes → 0 < length bytes → kind_of bytes ≡ kind
    → field kind (records_in bytes) ≡ (here_record bytes).content
field_here bytes kind s h e =
    let z : eqb (kind_of bytes) kind ≡ true = grind (arith, nat_tests) in
    ap (λ (x : List Record). field kind x) (split_records bytes s h)
    ∙ field_first (here_record bytes) (records_in (drop (length_of bytes) bytes)) kind true z refl

has_first : (r : Record) (rs : List Record) (kind : ℕ) → eqb r.kind kind ≡ true → has kind (r ∷ rs) ≡ true
has_first r rs kind e = chosen (eqb r.kind kind) (has kind rs) e

pub has_here : (bytes : List ℕ) (kind : ℕ) → IsSpelled bytes → 0 < length bytes → kind_of bytes ≡ kind
    → has kind (records_in bytes) ≡ true
has_here bytes kind s h e =
    let z : eqb (kind_of bytes) kind ≡ true = grind (arith, nat_tests) in
    ap (λ (x : List Record). has kind x) (split_records bytes s h)
    ∙ has_first (here_record bytes) (records_in (drop (length_of bytes) bytes)) kind z

pub field_none : (bytes : List ℕ) (kind : ℕ) → length bytes ≡ 0 → field kind (records_in bytes) ≡ []
field_none bytes kind e = ap (λ (x : List Record). field kind x) (none_left bytes e)

pub has_none : (bytes : List ℕ) (kind : ℕ) → length bytes ≡ 0 → has kind (records_in bytes) ≡ false
has_none bytes kind e = ap (λ (x : List Record). has kind x) (none_left bytes e)
