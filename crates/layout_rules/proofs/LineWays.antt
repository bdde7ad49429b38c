-- To which shapes a chain of contacts leads, and which shape comes before which, is decided.
use Rattle.std.proofs.Common.{◌≡◌, ◌≢◌, ℕ, zero, suc, ◌<◌, ◌⊎◌, true, List, [], ◌∷◌, length, Some, refl, sym, ap, subst}
use Rattle.std.proofs.Common.{arith, inl, inr, slice_get}
use Rattle.std.proofs.lemmas.Bool.{cases_eq}
use Rattle.std.proofs.lemmas.Option.{slice_get_within}
use Rattle.geom.specs.declared.shapes.Shape.{Shape}
use Rattle.layout_rules.specs.declared.layers.TheConstants.{START}
use Rattle.layout_rules.specs.Layers.{is_line}
use Rattle.layout_rules.specs.ExcitationLines.{meet, Contact, IsPart, IsChain, IsReached}
use Rattle.layout_rules.specs.Code.LineChains.{NeverTurnsBack, ChainBefore}
use Rattle.layout_rules.proofs.Deciding.{dec_same, dec_both, dec_either, dec_not, dec_true, dec_equal, dec_some}
use Rattle.layout_rules.proofs.Deciding.{dec_item, dec_about}
use Rattle.layout_rules.proofs.Reaching.{IsAmong, Way, dec_way, way_step, way_over, way_keeps}

-- the numbers below a bound
abbrev numbers : ℕ → List ℕ
numbers zero = []
numbers (suc n) = n ∷ numbers n

is_number : (n k : ℕ) → k < n → IsAmong k (numbers n)
is_number zero k lt = absurd (omega arith)
is_number (suc n) k lt = elim (cases_eq k n) [ inl e ↦ inl e | inr ne ↦ inr (is_number n k (omega arith)) ]

-- a number in front of each of others, and then more pairs
abbrev in_front : ℕ → List ℕ → List (ℕ × ℕ) → List (ℕ × ℕ)
in_front a [] more = more
in_front a (b ∷ bs) more = (a, b) ∷ in_front a bs more

abbrev pairs : List ℕ → List ℕ → List (ℕ × ℕ)
pairs [] seconds = []
pairs (a ∷ firsts) seconds = in_front a seconds (pairs firsts seconds)

among_more : (p : ℕ × ℕ) (a : ℕ) (bs : List ℕ) (more : List (ℕ × ℕ)) → IsAmong p more → IsAmong p (in_front a bs more)
among_more p a [] more among = among
among_more p a (b ∷ bs) more among = inr (among_more p a bs more among)

among_these : (a b : ℕ) (bs : List ℕ) (more : List (ℕ × ℕ)) → IsAmong b bs → IsAmong (a, b) (in_front a bs more)
among_these a b [] more among = absurd among
among_these a b (c ∷ bs) more (inl e) = inl (ap (λ (n : ℕ). (a, n)) e)
among_these a b (c ∷ bs) more (inr among) = inr (among_these a b bs more among)

is_pair : (firsts seconds : List ℕ) (a b : ℕ) → IsAmong a firsts → IsAmong b seconds
    → IsAmong (a, b) (pairs firsts seconds)
is_pair [] seconds a b one other = absurd one
is_pair (c ∷ cs) seconds a b (inl e) other =
    subst (λ (n : ℕ). IsAmong (n, b) (in_front c seconds (pairs cs seconds))) (sym e)
    (among_these c b seconds (pairs cs seconds) other)
is_pair (c ∷ cs) seconds a b (inr one) other = among_more (a, b) c seconds (pairs cs seconds)
    (is_pair cs seconds a b one other)

module _ (shapes : List Shape) where
  abbrev pub dec_contact : (i j : ℕ) → Dec (Contact shapes i j)
  dec_contact i j = dec_same
      (λ h. record {
        apart = h.0;
        first = h.1.0;
        first_is = h.1.1;
        second = h.1.2.0;
        second_is = h.1.2.1;
        meet_so = h.1.2.2;
      })
      (λ c. (c.apart, (c.first, c.first_is, (c.second, c.second_is, c.meet_so))))
      (dec_both (dec_not (dec_equal i j))
      (dec_item shapes i (λ s. (t : Shape) × (slice_get shapes j ≡ Some t) × (meet s t ≡ true))
      (λ s is. dec_item shapes j (λ t. meet s t ≡ true) (λ t there. dec_true (meet s t)))))

  pub contact_within : (i j : ℕ) → Contact shapes i j → j < length shapes
  contact_within i j c = slice_get_within shapes j c.second c.second_is

  starts_within : (i j : ℕ) → Contact shapes i j → i < length shapes
  starts_within i j c = slice_get_within shapes i c.first c.first_is

  abbrev pub dec_part : (datatype i : ℕ) → Dec (IsPart shapes datatype i)
  dec_part datatype i = dec_same
      (λ h. record { shape = h.0; shape_is = h.1; line_so = h.2.0; datatype_is = h.2.1 })
      (λ p. (p.shape, p.shape_is, (p.line_so, p.datatype_is)))
      (dec_item shapes i (λ s. (is_line s ≡ true) × (s.datatype ≡ datatype))
      (λ s is. dec_both (dec_true (is_line s)) (dec_equal s.datatype datatype)))

  -- a part, and what is said further of its shape
  abbrev pub dec_part_with : (datatype i : ℕ) (Q : Shape → Type 0) → ((s : Shape) → Dec (Q s))
      → Dec ((part : IsPart shapes datatype i) × Q part.shape)
  dec_part_with datatype i =
      dec_about shapes (IsPart shapes datatype i) i (λ p. p.shape) (λ p. p.shape_is) (dec_part datatype i)

  pub part_within : (datatype i : ℕ) → IsPart shapes datatype i → i < length shapes
  part_within datatype i p = slice_get_within shapes i p.shape p.shape_is

  stops : List ℕ
  stops = numbers (length shapes)

  is_stop : (k : ℕ) → k < length shapes → IsAmong k stops
  unfolding stops
  is_stop k lt = is_number (length shapes) k lt

  -- ---- chains from a start

  abbrev IsLedTo : ℕ → Type 0
  IsLedTo i = (start : ℕ) × (IsPart shapes START start × Way (Contact shapes) stops start i)

  chain_way : (rest : List ℕ) (i : ℕ) → IsChain shapes (i ∷ rest) → IsPart shapes START i ⊎ IsLedTo i
  chain_way [] i part = inl part
  chain_way (a ∷ rest) i chain = inr (onward (chain_way rest a chain.1))
    where
      step : Way (Contact shapes) stops a i
      step = way_step (Contact shapes) stops a i chain.0

      onward : IsPart shapes START a ⊎ IsLedTo a → IsLedTo i
      onward (inl start) = (a, (start, step))
      onward (inr led) = (
        led.0,
        (led.1.0, way_over (Contact shapes) stops led.0 a i (is_stop a (starts_within a i chain.0)) led.1.1 step),
      )

  reached_by : (i : ℕ) → IsPart shapes START i ⊎ IsLedTo i → IsReached shapes i
  reached_by i (inl part) = record { rest = []; chain = part }
  reached_by i (inr led) = way_keeps (Contact shapes) (IsReached shapes)
      (λ x y step r. record { rest = x ∷ r.rest; chain = (step, r.chain) })
      stops led.0 i led.1.1 (record { rest = []; chain = led.1.0 })

  pub dec_reached : (i : ℕ) → Dec (IsReached shapes i)
  dec_reached i = dec_same (reached_by i) (λ r. chain_way r.rest i r.chain)
      (dec_either (dec_part START i)
      (dec_some (λ start. IsPart shapes START start × Way (Contact shapes) stops start i) (length shapes)
      (λ start. dec_both (dec_part START start) (dec_way (Contact shapes) dec_contact stops start i))
      (λ start h. part_within START start h.0)))

  -- ---- chains that never turn back

  -- a contact of two, and then one of the second and another
  abbrev Onward : ℕ × ℕ → ℕ × ℕ → Type 0
  Onward p q = (p.1 ≡ q.0) × (Contact shapes q.0 q.1 × (q.1 ≢ p.0))

  dec_onward : (p q : ℕ × ℕ) → Dec (Onward p q)
  dec_onward p q = dec_both (dec_equal p.1 q.0) (dec_both (dec_contact q.0 q.1) (dec_not (dec_equal q.1 p.0)))

  contacts : List (ℕ × ℕ)
  contacts = pairs stops stops

  is_contact : (i j : ℕ) → Contact shapes i j → IsAmong (i, j) contacts
  unfolding contacts
  is_contact i j c = is_pair stops stops i j (is_stop i (starts_within i j c)) (is_stop j (contact_within i j c))

  -- the start and its contact
  abbrev IsOutset : ℕ → ℕ → Type 0
  IsOutset a b = IsPart shapes START a × Contact shapes a b

  dec_outset : (a b : ℕ) → Dec (IsOutset a b)
  dec_outset a b = dec_both (dec_part START a) (dec_contact a b)

  abbrev IsLedFrom : ℕ → ℕ → ℕ → ℕ → Type 0
  IsLedFrom s t a b = IsOutset s t × Way Onward contacts (s, t) (a, b)

  abbrev AreLedTo : ℕ → ℕ → Type 0
  AreLedTo a b = (s : ℕ) × ((t : ℕ) × IsLedFrom s t a b)

  before_way : (rest : List ℕ) (a b : ℕ) → IsChain shapes (b ∷ a ∷ rest) → NeverTurnsBack (b ∷ a ∷ rest)
      → IsOutset a b ⊎ AreLedTo a b
  before_way [] a b chain onward = inl (chain.1, chain.0)
  before_way (c ∷ rest) a b chain onward = inr (further (before_way rest c a chain.1 onward.1))
    where
      step : Way Onward contacts (c, a) (a, b)
      step = way_step Onward contacts (c, a) (a, b) (refl, (chain.0, onward.0))

      further : IsOutset c a ⊎ AreLedTo c a → AreLedTo a b
      further (inl outset) = (c, (a, (outset, step)))
      further (inr led) = (
        led.0,
        (
          led.1.0,
          (
            led.1.1.0,
            way_over Onward contacts (led.0, led.1.0) (c, a) (a, b) (is_contact c a chain.1.0) led.1.1.1 step,
          ),
        ),
      )

  before_start : (a b : ℕ) → IsOutset a b → ChainBefore shapes a b
  before_start a b outset = record { rest = []; chain = (outset.1, outset.0); onward = tt }

  before_next : (p q : ℕ × ℕ) → Onward p q → ChainBefore shapes p.0 p.1 → ChainBefore shapes q.0 q.1
  before_next p q step before =
      let on : ChainBefore shapes p.0 q.0 = subst (ChainBefore shapes p.0) step.0 before in
      record { rest = p.0 ∷ on.rest; chain = (step.1.0, on.chain); onward = (step.1.1, on.onward) }

  before_by : (a b : ℕ) → IsOutset a b ⊎ AreLedTo a b → ChainBefore shapes a b
  before_by a b (inl outset) = before_start a b outset
  before_by a b (inr led) = way_keeps Onward (λ p. ChainBefore shapes p.0 p.1) before_next contacts
      (led.0, led.1.0) (a, b) led.1.1.1
      (before_start led.0 led.1.0 led.1.1.0)

  pub dec_before : (a b : ℕ) → Dec (ChainBefore shapes a b)
  dec_before a b = dec_same (before_by a b) (λ h. before_way h.rest a b h.chain h.onward)
      (dec_either (dec_outset a b)
      (dec_some (λ s. (t : ℕ) × IsLedFrom s t a b) (length shapes)
      (λ s. dec_some (λ t. IsLedFrom s t a b) (length shapes)
      (λ t. dec_both (dec_outset s t) (dec_way Onward dec_onward contacts (s, t) (a, b)))
      (λ t h. contact_within s t h.0.1))
      (λ s h. part_within START s h.1.0.0)))
