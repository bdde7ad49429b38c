-- What may follow a record type in a language: its derivative (Brzozowski, Derivatives of Regular Expressions, 1964).
use Rattle.std.specs.Prelude.{ℕ, List, [], ◌∷◌, Bool, true, false, eqb, ◌&&◌, ◌||◌}
use Rattle.gds_records.specs.Language.{Language, Nothing, Empty, One, Then, Either, Many}

-- whether the empty word is among the words
abbrev pub speaks_nothing : Language → Bool
speaks_nothing Nothing = false
speaks_nothing Empty = true
speaks_nothing (One kind) = false
speaks_nothing (Then a b) = speaks_nothing a && speaks_nothing b
speaks_nothing (Either a b) = speaks_nothing a || speaks_nothing b
speaks_nothing (Many a) = true

-- a then b, and nothing where one is
abbrev pub then : Language → Language → Language
then Nothing b = Nothing
then Empty b = b
then (One kind) b = Then (One kind) b
then (Then a c) b = Then (Then a c) b
then (Either a c) b = Then (Either a c) b
then (Many a) b = Then (Many a) b

-- a or b, where a has words, and where b is nothing a alone
abbrev pub join : Language → Language → Language
join a Nothing = a
join a Empty = Either a Empty
join a (One kind) = Either a (One kind)
join a (Then b c) = Either a (Then b c)
join a (Either b c) = Either a (Either b c)
join a (Many b) = Either a (Many b)

-- a or b, where nothing adds nothing
abbrev pub either : Language → Language → Language
either Nothing b = b
either Empty b = join Empty b
either (One kind) b = join (One kind) b
either (Then a c) b = join (Then a c) b
either (Either a c) b = join (Either a c) b
either (Many a) b = join (Many a) b

-- the words that follow this kind
abbrev pub after : ℕ → Language → Language
after k Nothing = Nothing
after k Empty = Nothing
after k (One kind) = elim (eqb kind k) [ true ↦ Empty | false ↦ Nothing ]
after k (Then a b) = elim (speaks_nothing a) [
  | true ↦ either (then (after k a) b) (after k b)
  | false ↦ then (after k a) b
]
after k (Either a b) = either (after k a) (after k b)
after k (Many a) = then (after k a) (Many a)

-- the words that follow these kinds in turn
abbrev pub after_all : List ℕ → Language → Language
after_all [] a = a
after_all (k ∷ ks) a = after_all ks (after k a)
