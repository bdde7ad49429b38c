-- What the walk along lines keeps, and the routes that it leaves.
use Rattle.std.proofs.Common.{◌≡◌, ◌≢◌, ℕ, zero, suc, ◌+◌, ◌<◌, ◌≤◌, ◌⊎◌, inl, inr, List, [], ◌∷◌, ◌++◌, length, set}
use Rattle.std.proofs.Common.{refl, sym, ap, subst, ◌∙◌, arith}
use Rattle.std.specs.Prelude.{slice_index}
use Rattle.std.proofs.lemmas.List.{length-set}
use Rattle.std.proofs.lemmas.Bool.{cases_eq, cases_lt}
use Rattle.std.proofs.lemmas.Option.{slice_get_within}
use Rattle.geom.specs.declared.shapes.Shape.{Shape}
use Rattle.layout_rules.specs.declared.layers.TheConstants.{START}
use Rattle.layout_rules.specs.ExcitationLines.{Contact, IsPart, IsChain}
use Rattle.layout_rules.specs.Code.LineChains.{NeverTurnsBack, ChainBefore}
use Rattle.shape_extract.specs.Searches.{AreThose}
use Rattle.shape_extract.specs.Code.Lines.{AreWalked}
use Rattle.shape_extract.specs.Code.LineWalk.{Follows, IsLineWalk, HasStarts, HasContacts, IsSpreadAlong, IsBegun}
use Rattle.shape_extract.proofs.NetWalk.{sum_lowered, long_more, old_place, new_place, at_set, off_set}

-- ---- one more shape is reached

-- what is asked of the shape j that is reached from m
abbrev Comes : List Shape → List ℕ → ℕ → ℕ → Type 0
Comes shapes order j m = IsPart shapes START j
    ⊎ ((p : ℕ) × ((p < length order) × ((slice_index order p ≡ m) × Contact shapes m j)))

module _ (shapes : List Shape) (before order : List ℕ) (j m : ℕ) (w : IsLineWalk shapes before order)
    (lj : j < length shapes) (lm : m < length shapes) (free : length shapes ≤ slice_index before j) where
  lj2 : j < length before
  lj2 = omega (arith, w.long)

  -- no shape of the order is new
  not_new : (p : ℕ) → p < length order → slice_index order p ≢ j
  not_new p lp e = absurd (let f : slice_index before (slice_index order p) ≡ slice_index before j =
      ap (slice_index before) e in omega (arith, w.reached p lp))

  last_is : (p : ℕ) → length order ≤ p → p < length (order ++ (j ∷ [])) → slice_index (order ++ (j ∷ [])) p ≡ j
  last_is p ge lp = let e : p ≡ length order =
      omega (arith, long_more order j) in ap (slice_index (order ++ (j ∷ []))) e ∙ new_place order j

  same_before : (p : ℕ) → p < length order
      → slice_index (set before j m) (slice_index (order ++ (j ∷ [])) p) ≡ slice_index before (slice_index order p)
  same_before p lt = ap (slice_index (set before j m)) (old_place order j p lt)
      ∙ off_set before j m (slice_index order p) (not_new p lt)

  still_follows : (p : ℕ) → p < length order → Follows shapes before order p
      → Follows shapes (set before j m) (order ++ (j ∷ [])) p
  still_follows p lt f =
      let earlier : f.earlier < length order = omega (arith, f.is_earlier) in
      let there : slice_index (order ++ (j ∷ [])) f.earlier ≡ slice_index order f.earlier =
      old_place order j f.earlier earlier in
      let here : slice_index (order ++ (j ∷ [])) p ≡ slice_index order p = old_place order j p lt in
      record {
        earlier = f.earlier;
        is_earlier = f.is_earlier;
        number_is = there ∙ (f.number_is ∙ sym (same_before p lt));
        contact = rw there (rw here f.contact);
      }

  new_comes : Comes shapes order j m → (p : ℕ) → length order ≤ p → p < length (order ++ (j ∷ []))
      → IsPart shapes START (slice_index (order ++ (j ∷ [])) p) ⊎ Follows shapes (set before j m) (order ++ (j ∷ [])) p
  new_comes comes p ge lp = elim comes [
    | inl start ↦ inl (subst (IsPart shapes START) (sym (last_is p ge lp)) start)
    | inr from ↦
        let there : slice_index (order ++ (j ∷ [])) from.0 ≡ m = old_place order j from.0 from.1.0 ∙ from.1.1.0 in
        inr (record {
          earlier = from.0;
          is_earlier = omega (arith, from.1.0);
          number_is = there ∙ sym (at_set before j m (slice_index (order ++ (j ∷ [])) p) (last_is p ge lp) lj2);
          contact = rw there (rw (last_is p ge lp) from.1.1.1);
        })
  ]

  pub reach : Comes shapes order j m → IsLineWalk shapes (set before j m) (order ++ (j ∷ []))
  reach comes = record {
    long = length-set before j m ∙ w.long;
    within = λ p lp. elim (cases_lt p (length order)) [
      | inl lt ↦ omega (arith, old_place order j p lt, w.within p lt)
      | inr ge ↦ omega (arith, last_is p ge lp)
    ];
    reached = λ p lp. elim (cases_lt p (length order)) [
      | inl lt ↦ omega (arith, same_before p lt, w.reached p lt)
      | inr ge ↦ omega (arith, at_set before j m (slice_index (order ++ (j ∷ [])) p) (last_is p ge lp) lj2)
    ];
    placed = λ k lk mk. elim (cases_eq k j) [
      | inl e ↦ (length order, (omega (arith, long_more order j), new_place order j ∙ sym e))
      | inr ne ↦
          let p = w.placed k lk (omega (arith, off_set before j m k ne)) in
          (p.0, (omega (arith, long_more order j, p.1.0), old_place order j p.0 p.1.0 ∙ p.1.1))
    ];
    once = λ p q lt lq. elim (cases_lt q (length order)) [
      | inl less ↦ λ e. w.once p q lt less (sym (old_place order j p (omega arith)) ∙ (e ∙ old_place order j q less))
      | inr ge ↦ λ e. (let lp : p < length order = omega (arith, long_more order j) in not_new p lp
          (sym (old_place order j p lp) ∙ (e ∙ last_is q ge lq)))
    ];
    come = λ p lp. elim (cases_lt p (length order)) [
      | inl lt ↦ elim (w.come p lt) [
        | inl start ↦ inl (subst (IsPart shapes START) (sym (old_place order j p lt)) start)
        | inr follows ↦ inr (still_follows p lt follows)
      ]
      | inr ge ↦ new_comes comes p ge lp
    ];
  }

-- ---- the contacts of one shape

pub spread_none : (shapes : List Shape) (numbers before order : List ℕ) → IsLineWalk shapes before order
    → IsSpreadAlong 0 shapes numbers before order before order
spread_none shapes numbers before order w = record {
  walk = w;
  kept = λ k lk. refl;
  reached = λ p lp. absurd (omega arith);
  longer = omega arith;
  prefix = λ p lp. refl;
  less = omega arith;
}

module _ (shapes : List Shape) (numbers before order new more : List ℕ) (from i : ℕ)
    (s : IsSpreadAlong i shapes numbers before order new more) where
  pub spread_new : from < length shapes → slice_index before from < length shapes
      → length shapes ≤ slice_index new (slice_index numbers i) → Contact shapes from (slice_index numbers i)
      → IsSpreadAlong (i + 1) shapes numbers before order (set new (slice_index numbers i) from)
      (more ++ (slice_index numbers i ∷ []))
  spread_new lf reached free contact =
      let j : ℕ = slice_index numbers i in
      let lj : j < length shapes = slice_get_within shapes j contact.second contact.second_is in
      let ln : j < length new = omega (arith, s.walk.long) in
      let from_is : slice_index new from ≡ slice_index before from = s.kept from reached in
      let at = s.walk.placed from lf (omega arith) in
      record {
        walk = reach shapes new more j from s.walk lj lf free (inr (at.0, (at.1.0, (at.1.1, contact))));
        kept = λ k lk. off_set new j from k
            (λ e. absurd (let f : slice_index new k ≡ slice_index new j = ap (slice_index new) e in omega
            (arith, s.kept k lk))) ∙ s.kept k lk;
        reached = λ p lp. elim (cases_eq (slice_index numbers p) j) [
          | inl e ↦ omega (arith, at_set new j from (slice_index numbers p) e ln)
          | inr ne ↦ elim (cases_eq p i) [
            | inl same ↦ absurd (ne (ap (slice_index numbers) same))
            | inr other ↦ omega (arith, off_set new j from (slice_index numbers p) ne, s.reached p (omega arith))
          ]
        ];
        longer = omega (arith, long_more more j, s.longer);
        prefix = λ p lp. old_place more j p (omega (arith, s.longer)) ∙ s.prefix p lp;
        less = omega (arith, long_more more j, sum_lowered new j from ln (omega arith), s.less);
      }

  pub spread_old : slice_index new (slice_index numbers i) < length shapes
      → IsSpreadAlong (i + 1) shapes numbers before order new more
  spread_old here = record {
    walk = s.walk;
    kept = s.kept;
    reached = λ p lp. elim (cases_eq p i) [
      | inl e ↦ rw e here
      | inr ne ↦ s.reached p (omega arith)
    ];
    longer = s.longer;
    prefix = s.prefix;
    less = s.less;
  }

-- ---- the contacts of the next shape of the order

pub contacts_more : (shapes : List Shape) (numbers before order new more : List ℕ) (done : ℕ)
    → IsLineWalk shapes before order → HasContacts shapes before order done → done < length order
    → AreThose (Contact shapes (slice_index order done)) numbers
    → IsSpreadAlong (length numbers) shapes numbers before order new more → HasContacts shapes new more (done + 1)
contacts_more shapes numbers before order new more done w so_far ld are s p j lp contact =
    let lo : p < length order = omega arith in
    let there : Contact shapes (slice_index order p) j = rw (s.prefix p lo) at contact in
    elim (cases_eq p done) [
      | inl e ↦
          let k = are.complete j (rw e at there) in
          rw k.1.1 at (s.reached k.0 k.1.0)
      | inr ne ↦ let known = so_far p j (omega arith) there in omega (arith, s.kept j known)
    ]

pub starts_still : (shapes : List Shape) (numbers before order new more : List ℕ) (n : ℕ) → HasStarts shapes before
    → IsSpreadAlong n shapes numbers before order new more → HasStarts shapes new
starts_still shapes numbers before order new more n starts s i start = let known =
    starts i start in omega (arith, s.kept i known)

-- ---- the starts

pub record IsBegunTo (n : ℕ) (shapes : List Shape) (before order : List ℕ) : Type 0 where
  pub walk : IsLineWalk shapes before order
  pub starts : (k : ℕ) → k < n → IsPart shapes START k → slice_index before k < length shapes
  pub later : (k : ℕ) → n ≤ k → k < length shapes → slice_index before k ≡ length shapes

pub begun_none : (shapes : List Shape) (before order : List ℕ) → length order ≡ 0 → length before ≡ length shapes
    → ((k : ℕ) → k < length shapes → slice_index before k ≡ length shapes) → IsBegunTo 0 shapes before order
begun_none shapes before order empty long none = record {
  walk = record {
    long = long;
    within = λ p lp. absurd (omega arith);
    reached = λ p lp. absurd (omega arith);
    placed = λ k lk mk. absurd (omega (arith, none k lk));
    once = λ p q lt lq. absurd (omega arith);
    come = λ p lp. absurd (omega arith);
  };
  starts = λ k lk. absurd (omega arith);
  later = λ k ge lk. none k lk;
}

module _ (shapes : List Shape) (before order : List ℕ) (n : ℕ) (b : IsBegunTo n shapes before order)
    (ln : n < length shapes) where
  pub begun_start : IsPart shapes START n → IsBegunTo (n + 1) shapes (set before n n) (order ++ (n ∷ []))
  begun_start start =
      let lb : n < length before = omega (arith, b.walk.long) in
      record {
        walk = reach shapes before order n n b.walk ln ln (omega (arith, b.later n (omega arith) ln)) (inl start);
        starts = λ k lk is. elim (cases_eq k n) [
          | inl e ↦ omega (arith, at_set before n n k e lb)
          | inr ne ↦ omega (arith, off_set before n n k ne, b.starts k (omega arith) is)
        ];
        later = λ k ge lk. off_set before n n k (λ e. absurd (omega arith)) ∙ b.later k (omega arith) lk;
      }

  pub begun_other : (IsPart shapes START n → ⊥) → IsBegunTo (n + 1) shapes before order
  begun_other not_so = record {
    walk = b.walk;
    starts = λ k lk is. elim (cases_eq k n) [
      | inl e ↦ absurd
          (not_so (subst (IsPart shapes START) e is))
      | inr ne ↦ b.starts k (omega arith) is
    ];
    later = λ k ge lk. b.later k (omega arith) lk;
  }

pub begun_all : (shapes : List Shape) (before order : List ℕ) (n : ℕ) → length shapes ≤ n
    → IsBegunTo n shapes before order → IsBegun shapes before order
begun_all shapes before order n all b = record {
  walk = b.walk;
  starts = λ i start. (let lt : i < length shapes =
      slice_get_within shapes i start.shape start.shape_is in b.starts i (omega arith) start);
}

-- ---- routes

onward_more : (b a : ℕ) (rest : List ℕ) → NeverTurnsBack (a ∷ rest)
    → ((c : ℕ) (more : List ℕ) → rest ≡ c ∷ more → b ≢ c) → NeverTurnsBack (b ∷ a ∷ rest)
onward_more b a [] onward apart = tt
onward_more b a (c ∷ rest) onward apart = (apart c rest refl, onward)

module _ (shapes : List Shape) (before order : List ℕ) (w : IsLineWalk shapes before order) where
  -- a way from a start to the shape at this place, by earlier places
  record Route (p : ℕ) : Type 0 where
    pub rest : List ℕ
    pub chain : IsChain shapes (slice_index order p ∷ rest)
    pub onward : NeverTurnsBack (slice_index order p ∷ rest)
    pub back : (c : ℕ) (more : List ℕ) → rest ≡ c ∷ more → (q : ℕ) × ((q < p) × (slice_index order q ≡ c))

  before_from : (p : ℕ) → p < length order → (f : Follows shapes before order p) → Route f.earlier
      → ChainBefore shapes (slice_index order f.earlier) (slice_index order p)
  before_from p lp f r = record {
    rest = r.rest;
    chain = (f.contact, r.chain);
    onward = onward_more (slice_index order p) (slice_index order f.earlier) r.rest r.onward (λ c more e same.
        let q = r.back c more e in
        w.once q.0 p (omega (arith, q.1.0, f.is_earlier)) lp (q.1.1 ∙ sym same));
  }

  route : (n p : ℕ) → p < n → p < length order → Route p
  route zero p lt lp = absurd (omega arith)
  route (suc n) p lt lp = elim (w.come p lp) [
    | inl start ↦ record { rest = []; chain = start; onward = tt; back = λ c more e. absurd cc }
    | inr f ↦
        let b = before_from p lp f (route n f.earlier (omega (arith, f.is_earlier)) (omega (arith, f.is_earlier))) in
        record {
          rest = slice_index order f.earlier ∷ b.rest;
          chain = b.chain;
          onward = b.onward;
          back = λ c more e. (f.earlier, (f.is_earlier, (let same : slice_index order f.earlier ≡ c = cc in same)));
        }
  ]

  come_from : (p : ℕ) → p < length order → IsPart shapes START (slice_index order p)
      ⊎ ChainBefore shapes (slice_index before (slice_index order p)) (slice_index order p)
  come_from p lp = elim (w.come p lp) [
    | inl start ↦ inl start
    | inr f ↦ inr (rw f.number_is at
        (before_from p lp f (route (suc f.earlier) f.earlier (omega arith) (omega (arith, f.is_earlier)))))
  ]

  -- what a chain leads to is reached
  chain_reached : HasStarts shapes before → HasContacts shapes before order (length order) → (i : ℕ) (rest : List ℕ)
      → IsChain shapes (i ∷ rest) → slice_index before i < length shapes
  chain_reached starts contacts i [] start = starts i start
  chain_reached starts contacts b (a ∷ rest) chain =
      let known : slice_index before a < length shapes = chain_reached starts contacts a rest chain.1 in
      let la : a < length shapes = slice_get_within shapes a chain.0.first chain.0.first_is in
      let p = w.placed a la known in
      contacts p.0 b p.1.0 (rw p.1.1 chain.0)

  pub walked : HasStarts shapes before → (done : ℕ) → length order ≤ done → HasContacts shapes before order done
      → AreWalked shapes before
  walked starts done all contacts = record {
    long = w.long;
    all = λ i reached. chain_reached starts (λ p j lp k. contacts p j (omega arith) k) i reached.rest reached.chain;
    come = λ i known li. (
        let p = w.placed i li known in
        rw p.1.1 at (come_from p.0 p.1.0)
        );
  }
