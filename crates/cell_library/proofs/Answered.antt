-- What a judgement of the table of a text says of the text.
use Rattle.std.proofs.Common.{ℕ, ◌≡◌, ◌⊎◌, inl, inr, List, Some, None, Result, Ok, Err, refl, sym, ap, subst, ◌∙◌, ◌<◌}
use Rattle.std.proofs.Common.{arith, IsUtf8}
use Rattle.std.proofs.lemmas.Bool.{cases_lt}
use Rattle.toml.specs.Data.{Members}
use Rattle.toml.specs.Parse.{parse_document}
use Rattle.cell_library.specs.declared.fault.LibraryFault.{LibraryFault}
use Rattle.cell_library.specs.declared.fault.LibraryFault.TheVariants.{Text, Key, Value, Law, Missing}
use Rattle.cell_library.specs.declared.fault.LibraryRefusal.{LibraryRefusal}
use Rattle.cell_library.specs.declared.fault.LibraryRefusal.TheVariants.{Bad, Memory}
use Rattle.cell_library.specs.declared.laws.Law.{Law as LawName}
use Rattle.cell_library.specs.Library.{LibraryView}
use Rattle.cell_library.specs.Laws.{Holds, BreaksFirst}
use Rattle.cell_library.specs.Faults.{table_fault}
use Rattle.cell_library.specs.Says.{library_of, LibFault, IsDocument, SaysLibrary, HasFault, Answers}
use Rattle.cell_library.specs.Code.Stages.{IsJudged}

-- the answer on a text that is a document
pub answered : (text : List ℕ) (ms : Members) (result : Result LibraryView LibraryRefusal) → IsDocument text ms
    → IsJudged ms result → Answers text result
answered text ms (Ok l) d j = record { table = ms; document = d; faultless = j.0; values = j.1; laws = j.2 }
answered text ms (Err (Bad Text)) d j = absurd j
answered text ms (Err (Bad (Key key))) d j = record { table = ms; document = d; first = j }
answered text ms (Err (Bad (Value key z))) d j = record { table = ms; document = d; first = j }
answered text ms (Err (Bad (Law number))) d j = record { table = ms; document = d; first = j }
answered text ms (Err (Bad (Missing kind))) d j = record { table = ms; document = d; first = j }
answered text ms (Err Memory) d j = tt

one_table : (text : List ℕ) (a b : Members) → IsDocument text a → IsDocument text b → a ≡ b
one_table text a b da db = let e : Some a ≡ Some b = sym da.parsed ∙ db.parsed in cc

not_refused : (text : List ℕ) (ms : Members) → IsDocument text ms → (IsUtf8 text → parse_document text ≡ None) → ⊥
not_refused text ms d refused = let e : Some ms ≡ None = sym d.parsed ∙ refused d.utf8 in cc

-- a table with a fault is no library
excludes : (ms : Members) (fault : LibraryFault) (l : LibraryView) → LibFault ms fault → table_fault ms ≡ None
    → l ≡ library_of ms → ((law : LawName) → Holds law l) → ⊥
excludes ms Text l first none values laws = first
excludes ms (Key key) l first none values laws = let e : Some (Key key) ≡ None = sym first ∙ none in cc
excludes ms (Value key z) l first none values laws = let e : Some (Value key z) ≡ None = sym first ∙ none in cc
excludes ms (Missing kind) l first none values laws = let e : Some (Missing kind) ≡ None = sym first ∙ none in cc
excludes ms (Law number) l first none values laws = first.1.broken
    (subst (λ (x : LibraryView). Holds first.1.law x) values (laws first.1.law))

not_both : (text : List ℕ) (fault : LibraryFault) (l : LibraryView) → HasFault text fault → SaysLibrary text l → ⊥
not_both text fault l h s =
    let same : h.table ≡ s.table = one_table text h.table s.table h.document s.document in
    excludes s.table fault l (subst (λ (ms : Members). LibFault ms fault) same h.first) s.faultless s.values s.laws

-- two first broken laws have one number
lower_broken : (l : LibraryView) (m n : ℕ) (x : BreaksFirst l m) (y : BreaksFirst l n) → m < n → ⊥
lower_broken l m n x y lower = x.broken (y.before x.law (omega (arith, x.number_is)))

one_number : (l : LibraryView) (m n : ℕ) → BreaksFirst l m → BreaksFirst l n → m ≡ n
one_number l m n x y =
    elim (cases_lt m n) [
      | inl lower ↦ absurd (lower_broken l m n x y lower)
      | inr not_lower ↦ elim (cases_lt n m) [
        | inl lower ↦ absurd (lower_broken l n m y x lower)
        | inr not_higher ↦ omega (arith, not_lower, not_higher)
      ]
    ]

-- a fault is one before the laws, or a broken law
abbrev IsBroken : LibraryView → LibraryFault → Type 0
IsBroken l (Law number) = BreaksFirst l number
IsBroken l fault = ⊥

early_or_law : (ms : Members) (fault : LibraryFault) → LibFault ms fault → (table_fault ms ≡ Some fault)
    ⊎ ((table_fault ms ≡ None) × IsBroken (library_of ms) fault)
early_or_law ms Text first = absurd first
early_or_law ms (Key key) first = inl first
early_or_law ms (Value key z) first = inl first
early_or_law ms (Law number) first = inr first
early_or_law ms (Missing kind) first = inl first

one_law : (l : LibraryView) (f g : LibraryFault) → IsBroken l f → IsBroken l g → f ≡ g
one_law l (Law m) (Law n) x y = ap (λ k. Law k) (one_number l m n x y)
one_law l (Law m) Text x y = absurd y
one_law l (Law m) (Key key) x y = absurd y
one_law l (Law m) (Value key z) x y = absurd y
one_law l (Law m) (Missing kind) x y = absurd y
one_law l Text g x y = absurd x
one_law l (Key key) g x y = absurd x
one_law l (Value key z) g x y = absurd x
one_law l (Missing kind) g x y = absurd x

-- a table has one first fault
one_fault : (ms : Members) (f g : LibraryFault) → LibFault ms f → LibFault ms g → f ≡ g
one_fault ms f g hf hg =
    elim (early_or_law ms f hf) [
      | inl a ↦ elim (early_or_law ms g hg) [
        | inl b ↦ let e : Some f ≡ Some g = sym a ∙ b in cc
        | inr b ↦ let e : Some f ≡ None = sym a ∙ b.0 in cc
      ]
      | inr a ↦ elim (early_or_law ms g hg) [
        | inl b ↦ let e : Some g ≡ None = sym b ∙ a.0 in cc
        | inr b ↦ one_law (library_of ms) f g a.1 b.1
      ]
    ]

same_fault : (text : List ℕ) (f g : LibraryFault) → HasFault text f → HasFault text g
    → ◌≡◌ {A = Result LibraryView LibraryRefusal} (Err (Bad f)) (Err (Bad g))
same_fault text f g a b =
    let same : a.table ≡ b.table = one_table text a.table b.table a.document b.document in
    ap (λ x. Err (Bad x)) (one_fault b.table f g (subst (λ (ms : Members). LibFault ms f) same a.first) b.first)

-- a text with a fault
pub faulty_answer : (text : List ℕ) (result : Result LibraryView LibraryRefusal) (fault : LibraryFault)
    → Answers text result → HasFault text fault → (result ≡ Err (Bad fault)) ⊎ (result ≡ Err Memory)
faulty_answer text (Ok l) fault answer h = absurd (not_both text fault l h answer)
faulty_answer text (Err (Bad Text)) fault answer h = absurd (not_refused text h.table h.document answer)
faulty_answer text (Err (Bad (Key key))) fault answer h = inl (same_fault text (Key key) fault answer h)
faulty_answer text (Err (Bad (Value key z))) fault answer h = inl (same_fault text (Value key z) fault answer h)
faulty_answer text (Err (Bad (Law number))) fault answer h = inl (same_fault text (Law number) fault answer h)
faulty_answer text (Err (Bad (Missing kind))) fault answer h = inl (same_fault text (Missing kind) fault answer h)
faulty_answer text (Err Memory) fault answer h = inr refl
