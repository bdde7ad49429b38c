-- Records, of which a stream is a list (GDSII Stream Format manual: a two-byte length that counts its four-byte head, a
-- byte for the record type, one for the data type, and the data).
use Rattle.std.specs.Prelude.{ℕ, zero, suc, ◌+◌, ◌==◌, List, [], ◌∷◌, ◌++◌, Bool, true, false, length, map}
use Rattle.std.specs.Int.{w16, to_be_bytes, from_be_bytes}

-- a record type, a data type, and the data without the head
pub record Record : Type 0 where
  pub kind : ℕ
  pub form : ℕ
  pub content : List ℕ

-- a record from its record type, data type and data
abbrev pub record_with : ℕ → ℕ → List ℕ → Record
record_with kind form content = record { kind = kind; form = form; content = content }

-- the bytes of a record
abbrev pub spelled : Record → List ℕ
spelled r = to_be_bytes w16 (4 + length r.content) ++ r.kind ∷ r.form ∷ r.content

-- the record types of records in turn
abbrev pub kinds : List Record → List ℕ
kinds rs = map (λ r. r.kind) rs

-- the number in two bytes, without sign
abbrev pub number : List ℕ → ℕ
number bytes = from_be_bytes w16 bytes

-- a byte before a text without trailing zero bytes
abbrev pub kept : ℕ → List ℕ → List ℕ
kept zero [] = []
kept zero (c ∷ cs) = zero ∷ c ∷ cs
kept (suc b) cs = suc b ∷ cs

-- a text is its data without trailing zero bytes
abbrev pub trimmed : List ℕ → List ℕ
trimmed [] = []
trimmed (b ∷ bs) = kept b (trimmed bs)

-- whether two texts are equal
abbrev pub same : List ℕ → List ℕ → Bool
same [] [] = true
same [] (b ∷ bs) = false
same (a ∷ as') [] = false
same (a ∷ as') (b ∷ bs) = elim (a == b) [ true ↦ same as' bs | false ↦ false ]
