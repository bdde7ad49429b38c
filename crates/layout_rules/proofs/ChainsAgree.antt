-- Where lines are laid out, chains that never turn back go one way: no part comes twice, and one part comes before
-- each.
use Rattle.std.proofs.Common.{◌≡◌, ◌≢◌, ℕ, zero, suc, ◌+◌, ◌-◌, ◌<◌, ◌≤◌, ◌⊎◌, inl, inr, true, ◌&&◌, List, [], ◌∷◌}
use Rattle.std.proofs.Common.{length, get_or, Some, refl, sym, ap, subst, ◌∙◌, arith, slice_get, ◌==◌, nat_lt}
use Rattle.std.proofs.lemmas.Bool.{cases_eq, cases_lt, and_parts, and_from, or_cases, eqb-true, lt-ltb}
use Rattle.std.proofs.lemmas.Option.{same_Some}
use Rattle.geom.specs.declared.shapes.Shape.{Shape}
use Rattle.layout_rules.specs.declared.layers.TheConstants.{EVEN_LINE, ODD_LINE, BAR, LINK, START}
use Rattle.layout_rules.specs.Layers.{is_line}
use Rattle.layout_rules.proofs.LineLaws.{Contact-back}
use Rattle.layout_rules.specs.Reports.{Passes}
use Rattle.layout_rules.proofs.ReportLaws.{alone_kept}
use Rattle.layout_rules.specs.ExcitationLines.{Contact, IsPart, IsChain, phase_of}
use Rattle.layout_rules.specs.ExcitationRule.{is_no_part, LacksOneStart, HasItsContacts, IsMisjoined, AreLaidOut}
use Rattle.layout_rules.specs.Code.LineChains.{NeverTurnsBack, ChainBefore, HasChainPhase}
use Rattle.layout_rules.proofs.Deciding.{settled}

-- the least shape of a layer
pub record LeastOn (layer : ℕ) (shapes : List Shape) : Type 0 where
  pub number : ℕ
  pub shape : Shape
  pub shape_is : slice_get shapes number ≡ Some shape
  pub of_layer : shape.layer ≡ layer
  pub least : (c : ℕ) (s : Shape) → slice_get shapes c ≡ Some s → s.layer ≡ layer → number ≤ c

-- a layer that has a shape has a least one
pub first_on : (layer : ℕ) (shapes : List Shape) (i : ℕ) (s : Shape) → slice_get shapes i ≡ Some s
    → s.layer ≡ layer → LeastOn layer shapes
first_on layer [] i s is on = absurd cc
first_on layer (t ∷ ts) zero s is on = record {
  number = 0;
  shape = t;
  shape_is = refl;
  of_layer = ap (λ (x : Shape). x.layer) (same_Some t s is) ∙ on;
  least = λ c x q r. omega arith;
}
first_on layer (t ∷ ts) (suc i) s is on = by_layer (first_on layer ts i s is on) (cases_eq t.layer layer)
  where
    by_layer : LeastOn layer ts → (t.layer ≡ layer) ⊎ (t.layer ≢ layer) → LeastOn layer (t ∷ ts)
    by_layer rest (inl e) = record {
      number = 0;
      shape = t;
      shape_is = refl;
      of_layer = e;
      least = λ c x q r. omega arith;
    }
    by_layer rest (inr ne) = record {
      number = suc rest.number;
      shape = rest.shape;
      shape_is = rest.shape_is;
      of_layer = rest.of_layer;
      least = elim [
        | zero ↦ λ x q r. absurd (ne (ap (λ (y : Shape). y.layer) (same_Some t x q) ∙ r))
        | suc c ↦ λ x q r. (let h = rest.least c x q r in omega arith)
      ];
    }

-- ---- the parts of the rule

module _ (shapes : List Shape) (lines : AreLaidOut shapes) where
  is_part : (i : ℕ) (s : Shape) → slice_get shapes i ≡ Some s → is_line s ≡ true → s.datatype ≤ 2
  is_part i s is line = elim (cases_lt 2 s.datatype) [
    | inl lt ↦ absurd (alone_kept (Passes is_no_part shapes) lines.parts i
        (record {
          shape = s;
          shape_is = is;
          passes_so = and_from (is_line s) (nat_lt START s.datatype) line (lt-ltb 2 s.datatype lt);
        }))
    | inr le ↦ le
  ]

  pub contact_line : (v a : ℕ) (c : Contact shapes v a) → is_line c.first ≡ true
  contact_line v a c = (and_parts (is_line c.first) (c.first.layer == c.second.layer)
      (and_parts (is_line c.first && c.first.layer == c.second.layer) _ c.meet_so).0).0

  pub contact_layer : (v a : ℕ) (c : Contact shapes v a) → c.first.layer ≡ c.second.layer
  contact_layer v a c = eqb-true c.first.layer c.second.layer
      (and_parts (is_line c.first) (c.first.layer == c.second.layer)
      (and_parts (is_line c.first && c.first.layer == c.second.layer) _ c.meet_so).0).1

  its_contacts : (v a : ℕ) → Contact shapes v a → (HasItsContacts shapes v → ⊥) → ⊥
  its_contacts v a c not_so = alone_kept (IsMisjoined shapes) lines.contacts v
      (record {
        part = record { shape = c.first; shape_is = c.first_is; passes_so = contact_line v a c };
        not_so = not_so;
      })

  pub part_of : (v a datatype : ℕ) (c : Contact shapes v a) → c.first.datatype ≡ datatype → IsPart shapes datatype v
  part_of v a datatype c e =
      record { shape = c.first; shape_is = c.first_is; line_so = contact_line v a c; datatype_is = e }

  -- a start has one contact
  pub start_one : (v a b : ℕ) → IsPart shapes START v → Contact shapes v a → Contact shapes v b → a ≡ b
  start_one v a b start ca cb = settled a b
      (λ ne. its_contacts v a ca (λ has. let one = has.start start in ne (one.only a ca ∙ sym (one.only b cb))))

  among_two : (one other a b c : ℕ) → (a ≡ one) ⊎ (a ≡ other) → (b ≡ one) ⊎ (b ≡ other) → (c ≡ one) ⊎ (c ≡ other)
      → a ≢ b → a ≢ c → b ≢ c → ⊥
  among_two one other a b c (inl p) (inl q) s ab ac bc = ab (p ∙ sym q)
  among_two one other a b c (inl p) (inr q) (inl s) ab ac bc = ac (p ∙ sym s)
  among_two one other a b c (inl p) (inr q) (inr s) ab ac bc = bc (q ∙ sym s)
  among_two one other a b c (inr p) (inr q) s ab ac bc = ab (p ∙ sym q)
  among_two one other a b c (inr p) (inl q) (inr s) ab ac bc = ac (p ∙ sym s)
  among_two one other a b c (inr p) (inl q) (inl s) ab ac bc = bc (q ∙ sym s)

  -- of three contacts two are one
  pub two_contacts : (v a b c : ℕ) → Contact shapes v a → Contact shapes v b
      → Contact shapes v c → a ≢ b → a ≢ c → b ≡ c
  two_contacts v a b c ca cb cc' ab ac = settled b c (λ bc. its_contacts v a ca (λ has.
      elim (cases_eq ca.first.datatype BAR) [
        | inl e ↦ let two = has.bar (part_of v a BAR ca e) in among_two two.one two.other a b c (two.only a ca)
            (two.only b cb) (two.only c cc') ab ac bc
        | inr not_bar ↦ elim (cases_eq ca.first.datatype LINK) [
          | inl e ↦ let two = has.link (part_of v a LINK ca e) in among_two two.one two.other a b c (two.only a ca)
              (two.only b cb) (two.only c cc') ab ac bc
          | inr not_link ↦
              let few : ca.first.datatype ≤ 2 = is_part v ca.first ca.first_is (contact_line v a ca) in
              let e : ca.first.datatype ≡ START = omega arith in
              ab (start_one v a b (part_of v a START ca e) ca cb)
        ]
      ]))

  -- two starts of one layer are one
  pub one_start : (s t : ℕ) (p : IsPart shapes START s) (q : IsPart shapes START t)
      → p.shape.layer ≡ q.shape.layer → s ≡ t
  one_start s t p q same = settled s t (λ ne.
      elim (or_cases (p.shape.layer == EVEN_LINE) (p.shape.layer == ODD_LINE) p.line_so) [
        | inl even ↦ lacks EVEN_LINE (eqb-true p.shape.layer EVEN_LINE even) ne
            (alone_kept (LacksOneStart shapes EVEN_LINE) lines.even)
        | inr odd ↦ lacks ODD_LINE (eqb-true p.shape.layer ODD_LINE odd) ne
            (alone_kept (LacksOneStart shapes ODD_LINE) lines.odd)
      ])
    where
      lacks : (layer : ℕ) → p.shape.layer ≡ layer → s ≢ t → ((n : ℕ) → LacksOneStart shapes layer n → ⊥) → ⊥
      lacks layer on ne none =
          let first = first_on layer shapes s p.shape p.shape_is on in
          none first.number (record {
            shape = first.shape;
            shape_is = first.shape_is;
            of_layer = first.of_layer;
            least = first.least;
            not_one = λ one. ne (one.only s (record { start = p; of_layer = on })
                ∙ sym (one.only t (record { start = q; of_layer = sym same ∙ on })));
          })

  -- ---- chains by place: place 0 is the last part, and the greatest place is a start

  abbrev pub at : List ℕ → ℕ → ℕ
  at chain k = get_or chain k 0

  pub chain_contact : (chain : List ℕ) → IsChain shapes chain → (k : ℕ) → suc k < length chain
      → Contact shapes (at chain (suc k)) (at chain k)
  chain_contact [] is k lt = absurd is
  chain_contact (a ∷ []) is k lt = absurd (omega arith)
  chain_contact (b ∷ a ∷ rest) is zero lt = is.0
  chain_contact (b ∷ a ∷ rest) is (suc k) lt = chain_contact (a ∷ rest) is.1 k (omega arith)

  pub chain_start : (chain : List ℕ) → IsChain shapes chain → (k : ℕ) → suc k ≡ length chain
      → IsPart shapes START (at chain k)
  chain_start [] is k e = absurd is
  chain_start (a ∷ []) is zero e = is
  chain_start (a ∷ []) is (suc k) e = absurd (omega arith)
  chain_start (b ∷ a ∷ rest) is zero e = absurd (omega arith)
  chain_start (b ∷ a ∷ rest) is (suc k) e = chain_start (a ∷ rest) is.1 k (omega arith)

  pub turns : (chain : List ℕ) → NeverTurnsBack chain → (k : ℕ) → suc (suc k) < length chain
      → at chain k ≢ at chain (suc (suc k))
  turns [] is k lt = absurd (omega arith)
  turns (a ∷ []) is k lt = absurd (omega arith)
  turns (b ∷ a ∷ []) is k lt = absurd (omega arith)
  turns (b ∷ a ∷ c ∷ rest) is zero lt = is.0
  turns (b ∷ a ∷ c ∷ rest) is (suc k) lt = turns (a ∷ c ∷ rest) is.1 k (omega arith)

  module _ (chain : List ℕ) (is : IsChain shapes chain) (onward : NeverTurnsBack chain) where
    -- no part comes twice: by how far apart the two places are, and then by how far the second is from the start
    abbrev pub Apart : ℕ → Type 0
    Apart gap = (i j : ℕ) → j ≡ i + suc gap → j < length chain → at chain i ≡ at chain j → ⊥

    apart_more : (gap : ℕ) → Apart gap → (left i j : ℕ) → j ≡ i + suc (suc (suc gap)) → suc (j + left) ≡ length chain
        → at chain i ≡ at chain j → ⊥
    apart_more gap less zero i j e long same =
        let from_i : Contact shapes (at chain i) (at chain (suc i)) = Contact-back
        (chain_contact chain is i (omega arith)) in
        let from_j : Contact shapes (at chain j) (at chain (suc i)) =
        subst (λ (v : ℕ). Contact shapes v (at chain (suc i))) same from_i in
        let k : ℕ = suc i + suc gap in
        let next : suc k ≡ j = omega arith in
        let down : Contact shapes (at chain j) (at chain k) =
        subst (λ (m : ℕ). Contact shapes (at chain m) (at chain k)) next (chain_contact chain is k (omega arith)) in
        less (suc i) k refl (omega arith)
        (start_one (at chain j) (at chain (suc i)) (at chain k) (chain_start chain is j (omega arith)) from_j down)
    apart_more gap less (suc left) i j e long same =
        let from_i : Contact shapes (at chain i) (at chain (suc i)) = Contact-back
        (chain_contact chain is i (omega arith)) in
        let from_j : Contact shapes (at chain j) (at chain (suc i)) =
        subst (λ (v : ℕ). Contact shapes v (at chain (suc i))) same from_i in
        let k : ℕ = suc i + suc gap in
        let next : suc k ≡ j = omega arith in
        let down : Contact shapes (at chain j) (at chain k) =
        subst (λ (m : ℕ). Contact shapes (at chain m) (at chain k)) next (chain_contact chain is k (omega arith)) in
        let up : Contact shapes (at chain j) (at chain (suc j)) = Contact-back
        (chain_contact chain is j (omega arith)) in
        let no_turn : at chain k ≢ at chain (suc j) = subst (λ (m : ℕ). at chain k ≢ at chain (suc m)) next
        (turns chain onward k (omega arith)) in
        elim (cases_eq (at chain k) (at chain (suc i))) [
          | inl back ↦ less (suc i) k refl (omega arith) (sym back)
          | inr ne ↦ apart_more gap less left (suc i) (suc j) (omega arith) (omega arith)
              (sym (two_contacts (at chain j) (at chain k) (at chain (suc j))
              (at chain (suc i)) down up from_j no_turn ne))
        ]

    pub apart : (gap : ℕ) → Apart gap
    apart zero i j e lt same =
        let next : suc i ≡ j = omega arith in
        (chain_contact chain is i (omega arith)).apart (ap (at chain) next ∙ sym same)
    apart (suc zero) i j e lt same =
        let next : suc (suc i) ≡ j = omega arith in
        turns chain onward i (omega arith) (same ∙ ap (at chain) (sym next))
    apart (suc (suc gap)) i j e lt same = apart_more gap (apart gap) (length chain - suc j) i j e (omega arith) same

  module _ (chain other : List ℕ) (is : IsChain shapes chain) (other_is : IsChain shapes other)
      (onward : NeverTurnsBack chain) (other_onward : NeverTurnsBack other)
      (starts : (i j : ℕ) → suc i ≡ length chain → suc j ≡ length other → at chain i ≡ at other j) where
    -- from the start on, chains go one way
    agree : (p i j : ℕ) → suc (i + p) ≡ length chain → suc (j + p) ≡ length other → at chain i ≡ at other j
    agree zero i j e f = starts i j (omega arith) (omega arith)
    agree (suc zero) i j e f =
        let same : at chain (suc i) ≡ at other (suc j) = starts (suc i) (suc j) (omega arith) (omega arith) in
        start_one (at chain (suc i)) (at chain i) (at other j) (chain_start chain is (suc i) (omega arith))
        (chain_contact chain is i (omega arith))
        (subst (λ (v : ℕ). Contact shapes v (at other j)) (sym same) (chain_contact other other_is j (omega arith)))
    agree (suc (suc p)) i j e f =
        let here : at chain (suc i) ≡ at other (suc j) = agree (suc p) (suc i) (suc j) (omega arith) (omega arith) in
        let there : at chain (suc (suc i)) ≡ at other (suc (suc j)) = agree p (suc (suc i)) (suc (suc j))
        (omega arith) (omega arith) in
        two_contacts (at chain (suc i)) (at chain (suc (suc i))) (at chain i) (at other j)
        (Contact-back (chain_contact chain is (suc i) (omega arith))) (chain_contact chain is i (omega arith))
        (subst (λ (v : ℕ). Contact shapes v (at other j)) (sym here) (chain_contact other other_is j (omega arith)))
        (λ q. turns chain onward i (omega arith) (sym q))
        (λ q. turns other other_onward j (omega arith) (sym q ∙ there))

    not_longer : 1 ≤ length other → at chain 0 ≡ at other 0 → length other < length chain → ⊥
    not_longer some same lt =
        let d : ℕ = length chain - length other in
        let e : at chain d ≡ at other 0 = agree (length other - 1) d 0 (omega arith) (omega arith) in
        apart chain is onward (d - 1) 0 d (omega arith) (omega arith) (same ∙ sym e)

  pub chain_some : (chain : List ℕ) → IsChain shapes chain → 1 ≤ length chain
  chain_some [] is = absurd is
  chain_some (a ∷ rest) is = omega arith

  -- all parts of a chain are on one layer
  pub start_layer : (chain : List ℕ) → IsChain shapes chain → (k : ℕ) → suc k ≡ length chain
      → (start : IsPart shapes START (at chain k)) → (s : Shape) → slice_get shapes (at chain 0) ≡ Some s
      → start.shape.layer ≡ s.layer
  start_layer [] is k e start s s_is = absurd is
  start_layer (a ∷ []) is zero e start s s_is = ap (λ (x : Shape). x.layer)
      (same_Some start.shape s (sym start.shape_is ∙ s_is))
  start_layer (a ∷ []) is (suc k) e start s s_is = absurd (omega arith)
  start_layer (b ∷ a ∷ rest) is zero e start s s_is = absurd (omega arith)
  start_layer (b ∷ a ∷ rest) is (suc k) e start s s_is =
      start_layer (a ∷ rest) is.1 k (omega arith) start is.0.first is.0.first_is ∙ contact_layer a b is.0
      ∙ ap (λ (x : Shape). x.layer) (same_Some is.0.second s (sym is.0.second_is ∙ s_is))

  -- two parts before one are the same
  pub one_before : (a c b : ℕ) → ChainBefore shapes a b → ChainBefore shapes c b → a ≡ c
  one_before a c b first second =
      let chain : List ℕ = b ∷ a ∷ first.rest in
      let other : List ℕ = b ∷ c ∷ second.rest in
      let shape : Shape = first.chain.0.second in
      let shape_is : slice_get shapes b ≡ Some shape = first.chain.0.second_is in
      let starts : (i j : ℕ) → suc i ≡ length (b ∷ a ∷ first.rest) → suc j ≡ length (b ∷ c ∷ second.rest)
      → at (b ∷ a ∷ first.rest) i ≡ at (b ∷ c ∷ second.rest) j =
      λ i j e f.
      let p = chain_start (b ∷ a ∷ first.rest) first.chain i e in
      let q = chain_start (b ∷ c ∷ second.rest) second.chain j f in
      one_start _ _ p q (start_layer (b ∷ a ∷ first.rest) first.chain i e p shape shape_is
      ∙ sym (start_layer (b ∷ c ∷ second.rest) second.chain j f q shape shape_is)) in
      let back : (j i : ℕ) → suc j ≡ length (b ∷ c ∷ second.rest) → suc i ≡ length (b ∷ a ∷ first.rest)
      → at (b ∷ c ∷ second.rest) j ≡ at (b ∷ a ∷ first.rest) i = λ j i f e. sym (starts i j e f) in
      let lengths : length (b ∷ a ∷ first.rest) ≡ length (b ∷ c ∷ second.rest) = settled _ _
      (λ ne. elim (cases_lt (length (b ∷ c ∷ second.rest)) (length (b ∷ a ∷ first.rest))) [
        | inl lt ↦ not_longer (b ∷ a ∷ first.rest)
            (b ∷ c ∷ second.rest) first.chain second.chain first.onward second.onward starts (omega arith) refl lt
        | inr ge ↦ not_longer (b ∷ c ∷ second.rest)
            (b ∷ a ∷ first.rest) second.chain first.chain second.onward first.onward back
            (omega arith) refl (omega arith)
      ]) in
      agree (b ∷ a ∷ first.rest) (b ∷ c ∷ second.rest) first.chain second.chain first.onward second.onward starts
      (length first.rest) 1 1 (omega arith) (omega arith)

  pub one_phase_of : (b p q : ℕ) → (first : HasChainPhase shapes b p) (second : HasChainPhase shapes b q) → p ≡ q
  one_phase_of b p q first second =
      let befores : first.before ≡ second.before =
      one_before first.before second.before b first.is_before second.is_before in
      let shape : first.before_shape ≡ second.before_shape = same_Some first.before_shape second.before_shape
      (sym first.before_shape_is ∙ ap (λ (n : ℕ). slice_get shapes n) befores ∙ second.before_shape_is) in
      let bar : first.is_bar.shape ≡ second.is_bar.shape = same_Some first.is_bar.shape second.is_bar.shape
      (sym first.is_bar.shape_is ∙ second.is_bar.shape_is) in
      sym first.phase_is ∙ ap (λ (x : Shape). phase_of x first.is_bar.shape) shape
      ∙ ap (λ (x : Shape). phase_of second.before_shape x) bar ∙ second.phase_is
