-- The rule of the excitation lines says the same by paths and by chains.
use Rattle.std.proofs.Common.{◌≡◌, ◌≢◌, ℕ, inl, inr, List, [], ◌∷◌, sym, ap, ◌∙◌, arith}
use Rattle.std.proofs.lemmas.Option.{same_Some}
use Rattle.geom.specs.declared.shapes.Shape.{Shape}
use Rattle.layout_rules.specs.declared.layers.TheConstants.{EVEN_LINE, ODD_LINE, BAR, START}
use Rattle.layout_rules.specs.Reports.{ReportsNone, Alone, Afterwards, IsFirstReport}
use Rattle.layout_rules.proofs.ReportLaws.{first_kept, second_kept, alone_kept}
use Rattle.layout_rules.specs.ExcitationLines.{IsPart, IsChain, BarHasPhase, leaves}
use Rattle.layout_rules.specs.ExcitationRule.{LacksOneStart, IsMisjoined, IsCutOff, AreLaidOut, LeavesWrongly}
use Rattle.layout_rules.specs.ExcitationRule.{IsNotCrossed, IsExcited, IsUnexcited, ExcitationBroken}
use Rattle.layout_rules.specs.Code.LineChains.{NeverTurnsBack, ChainBefore, HasChainPhase}
use Rattle.layout_rules.specs.Code.ChainRule.{ChainLeavesWrongly, IsChainUncrossed, IsChainExcited, IsChainUnexcited}
use Rattle.layout_rules.specs.Code.ChainRule.{ChainsBroken}
use Rattle.layout_rules.proofs.ChainsAgree.{one_before, one_phase_of as one_chain_phase}
use Rattle.layout_rules.proofs.LinePaths.{chain_from_path, path_from_chain}

-- the parts that are tried after each other one
abbrev AfterContacts : List Shape → ℕ → ℕ → Type 0
AfterContacts shapes = Afterwards (Alone (IsCutOff shapes))
    (Afterwards (Alone (IsNotCrossed shapes)) (Alone (IsUnexcited shapes)))

abbrev AfterOdd : List Shape → ℕ → ℕ → Type 0
AfterOdd shapes = Afterwards (Alone (IsMisjoined shapes)) (AfterContacts shapes)

abbrev AfterEven : List Shape → ℕ → ℕ → Type 0
AfterEven shapes = Afterwards (Alone (LacksOneStart shapes ODD_LINE)) (AfterOdd shapes)

abbrev AfterParts : List Shape → ℕ → ℕ → Type 0
AfterParts shapes = Afterwards (Alone (LacksOneStart shapes EVEN_LINE)) (AfterEven shapes)

start_no_bar : START ≢ BAR
start_no_bar e = omega arith

-- a chain that goes over a bar comes to the bar before
over_bar : (shapes : List Shape) (b after : ℕ) → IsPart shapes BAR b → (chain : ChainBefore shapes b after)
    → (before : ℕ) × (ChainBefore shapes before b × (after ≢ before))
over_bar shapes b after bar chain = by_rest chain.rest chain.chain chain.onward
  where
    by_rest : (rest : List ℕ) → IsChain shapes (after ∷ b ∷ rest) → NeverTurnsBack (after ∷ b ∷ rest) → (before : ℕ)
        × (ChainBefore shapes before b × (after ≢ before))
    by_rest [] is onward = absurd
        (start_no_bar (sym is.1.datatype_is
        ∙ ap (λ (s : Shape). s.datatype) (same_Some is.1.shape bar.shape (sym is.1.shape_is ∙ bar.shape_is))
        ∙ bar.datatype_is))
    by_rest (c ∷ rest) is onward = (c, (record { rest = rest; chain = is.1; onward = onward.1 }, onward.0))

pub chain_phase : (shapes : List Shape) (b phase : ℕ) → BarHasPhase shapes b phase → HasChainPhase shapes b phase
chain_phase shapes b phase has = record {
  is_bar = has.is_bar;
  before = has.before;
  before_shape = has.before_shape;
  before_shape_is = has.before_shape_is;
  is_before = chain_from_path shapes has.before b has.is_before;
  phase_is = has.phase_is;
}

pub chain_excited : (shapes : List Shape) (frame : Shape) → IsExcited shapes frame → IsChainExcited shapes frame
unfolding chain_phase
chain_excited shapes frame is = record {
  bar = is.bar;
  phase = chain_phase shapes is.bar _ is.phase;
  over = is.over;
  contains = is.contains;
  only = is.only;
}

module _ (shapes : List Shape) (lines : AreLaidOut shapes) (cut : ReportsNone (Alone (IsCutOff shapes))) where
  pub path_phase : (b phase : ℕ) → HasChainPhase shapes b phase → BarHasPhase shapes b phase
  path_phase b phase has = record {
    is_bar = has.is_bar;
    before = has.before;
    before_shape = has.before_shape;
    before_shape_is = has.before_shape_is;
    is_before = path_from_chain shapes lines cut has.before b has.is_before;
    phase_is = has.phase_is;
  }

  pub path_excited : (frame : Shape) → IsChainExcited shapes frame → IsExcited shapes frame
  unfolding path_phase
  path_excited frame is = record {
    bar = is.bar;
    phase = path_phase is.bar _ is.phase;
    over = is.over;
    contains = is.contains;
    only = is.only;
  }

  chain_unexcited : (f : ℕ) → IsUnexcited shapes f → IsChainUnexcited shapes f
  chain_unexcited f un = record { frame = un.frame; not_so = λ is. un.not_so (path_excited un.frame.shape is) }

  path_unexcited : (f : ℕ) → IsChainUnexcited shapes f → IsUnexcited shapes f
  path_unexcited f un = record { frame = un.frame; not_so = λ is. un.not_so (chain_excited shapes un.frame.shape is) }

  -- what comes after the bar by its line is another contact than the one before it
  chain_leaves : (b before : ℕ) (bar before_shape : Shape) → IsPart shapes BAR b → ChainBefore shapes before b
      → LeavesWrongly shapes b bar before_shape → ChainLeavesWrongly shapes b before bar before_shape
  chain_leaves b before bar before_shape part comes wrongly =
      let goes : ChainBefore shapes b wrongly.after = chain_from_path shapes b wrongly.after wrongly.is_after in
      let over : (other : ℕ) × (ChainBefore shapes other b × (wrongly.after ≢ other)) =
      over_bar shapes b wrongly.after part goes in
      let same : over.0 ≡ before = one_before shapes lines (over.0) before b over.1.0 comes in
      let shape : wrongly.after_shape ≡ goes.chain.0.second = same_Some wrongly.after_shape goes.chain.0.second
      (sym wrongly.after_shape_is ∙ goes.chain.0.second_is) in
      record {
        after = wrongly.after;
        contact = goes.chain.0;
        onward = λ e. over.1.1 (e ∙ sym same);
        wrong = ap (λ (s : Shape). leaves before_shape bar s) (sym shape) ∙ wrongly.wrong;
      }

  path_leaves : (b before : ℕ) (bar before_shape : Shape) → ChainBefore shapes before b
      → ChainLeavesWrongly shapes b before bar before_shape → LeavesWrongly shapes b bar before_shape
  path_leaves b before bar before_shape comes wrongly = record {
    after = wrongly.after;
    after_shape = wrongly.contact.second;
    after_shape_is = wrongly.contact.second_is;
    is_after = path_from_chain shapes lines cut b wrongly.after
        (record {
          rest = before ∷ comes.rest;
          chain = (wrongly.contact, comes.chain);
          onward = (wrongly.onward, comes.onward);
        });
    wrong = wrongly.wrong;
  }

  chain_uncrossed : (b : ℕ) → IsNotCrossed shapes b → IsChainUncrossed shapes b
  chain_uncrossed b un =
      let comes : ChainBefore shapes un.before b = chain_from_path shapes un.before b un.is_before in
      record {
        bar = un.bar;
        before = un.before;
        before_shape = un.before_shape;
        before_shape_is = un.before_shape_is;
        is_before = comes;
        wrong = elim un.wrong [
          | inl e ↦ inl e
          | inr l ↦ inr
              (chain_leaves b un.before un.bar.shape un.before_shape un.bar comes l)
        ];
      }

  path_uncrossed : (b : ℕ) → IsChainUncrossed shapes b → IsNotCrossed shapes b
  path_uncrossed b un = record {
    bar = un.bar;
    before = un.before;
    before_shape = un.before_shape;
    before_shape_is = un.before_shape_is;
    is_before = path_from_chain shapes lines cut un.before b un.is_before;
    wrong = elim un.wrong [
      | inl e ↦ inl e
      | inr l ↦ inr
          (path_leaves b un.before un.bar.shape un.before_shape un.is_before l)
    ];
  }

  -- the last two parts
  pub chain_parts : (a b : ℕ) → Afterwards (Alone (IsNotCrossed shapes)) (Alone (IsUnexcited shapes)) a b
      → Afterwards (Alone (IsChainUncrossed shapes)) (Alone (IsChainUnexcited shapes)) a b
  chain_parts a b (inl h) = inl (chain_uncrossed a h.0, h.1)
  chain_parts a b (inr (none, h)) = inr (λ c d k. none c d (path_uncrossed c k.0, k.1), (chain_unexcited a h.0, h.1))

  pub path_parts : (a b : ℕ) → Afterwards (Alone (IsChainUncrossed shapes)) (Alone (IsChainUnexcited shapes)) a b
      → Afterwards (Alone (IsNotCrossed shapes)) (Alone (IsUnexcited shapes)) a b
  path_parts a b (inl h) = inl (path_uncrossed a h.0, h.1)
  path_parts a b (inr (none, h)) = inr (λ c d k. none c d (chain_uncrossed c k.0, k.1), (path_unexcited a h.0, h.1))

-- ---- all six parts

module _ (shapes : List Shape) where
  pub by_chains : (a b : ℕ) → ExcitationBroken shapes a b → ChainsBroken shapes a b
  by_chains a b (inl h) = inl h
  by_chains a b (inr (n, inl h)) = inr (n, inl h)
  by_chains a b (inr (n, inr (m, inl h))) = inr (n, inr (m, inl h))
  by_chains a b (inr (n, inr (m, inr (l, inl h)))) = inr (n, inr (m, inr (l, inl h)))
  by_chains a b (inr (n, inr (m, inr (l, inr (k, inl h))))) = inr (n, inr (m, inr (l, inr (k, inl h))))
  by_chains a b (inr (n, inr (m, inr (l, inr (k, inr (j, h)))))) = inr (
    n,
    inr (
      m,
      inr (
        l,
        inr (
          k,
          inr (
            j,
            chain_parts shapes (record { parts = n; even = m; odd = l; contacts = k }) j a b h,
          ),
        ),
      ),
    ),
  )

  pub by_paths : (a b : ℕ) → ChainsBroken shapes a b → ExcitationBroken shapes a b
  by_paths a b (inl h) = inl h
  by_paths a b (inr (n, inl h)) = inr (n, inl h)
  by_paths a b (inr (n, inr (m, inl h))) = inr (n, inr (m, inl h))
  by_paths a b (inr (n, inr (m, inr (l, inl h)))) = inr (n, inr (m, inr (l, inl h)))
  by_paths a b (inr (n, inr (m, inr (l, inr (k, inl h))))) = inr (n, inr (m, inr (l, inr (k, inl h))))
  by_paths a b (inr (n, inr (m, inr (l, inr (k, inr (j, h)))))) = inr (
    n,
    inr (
      m,
      inr (
        l,
        inr (
          k,
          inr (
            j,
            path_parts shapes (record { parts = n; even = m; odd = l; contacts = k }) j a b h,
          ),
        ),
      ),
    ),
  )

  -- so one of them reports nothing, or first something, where the other does
  pub excitation_none : ReportsNone (ChainsBroken shapes) → ReportsNone (ExcitationBroken shapes)
  excitation_none none a b h = none a b (by_chains a b h)

  pub excitation_first : (a b : ℕ) → IsFirstReport (ChainsBroken shapes) a b
      → IsFirstReport (ExcitationBroken shapes) a b
  excitation_first a b first = record {
    reported = by_paths a b first.reported;
    least = λ c d h. first.least c d (by_chains c d h);
  }

-- ---- what is known where nothing is reported

module _ (shapes : List Shape) (kept : ReportsNone (ExcitationBroken shapes)) where
  after_parts : ReportsNone (AfterParts shapes)
  after_parts = second_kept _ _ kept

  after_even : ReportsNone (AfterEven shapes)
  after_even = second_kept _ _ after_parts

  after_odd : ReportsNone (AfterOdd shapes)
  after_odd = second_kept _ _ after_even

  after_contacts : ReportsNone (AfterContacts shapes)
  after_contacts = second_kept _ _ after_odd

  pub laid_out : AreLaidOut shapes
  laid_out = record {
    parts = first_kept _ _ kept;
    even = first_kept _ _ after_parts;
    odd = first_kept _ _ after_even;
    contacts = first_kept _ _ after_odd;
  }

  pub none_cut_off : ReportsNone (Alone (IsCutOff shapes))
  none_cut_off = first_kept _ _ after_contacts

  pub each_excited : (f : ℕ) → IsUnexcited shapes f → ⊥
  each_excited = alone_kept (IsUnexcited shapes) (second_kept _ _ (second_kept _ _ after_contacts))

  -- a bar has one phase
  pub one_phase_of : (b p q : ℕ) → BarHasPhase shapes b p → BarHasPhase shapes b q → p ≡ q
  one_phase_of b p q first second = one_chain_phase shapes laid_out b p q (chain_phase shapes b p first)
      (chain_phase shapes b q second)
