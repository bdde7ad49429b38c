use Rattle.std.proofs.Common.{◌≡◌, ℕ, ◌+◌, ◌-◌, suc, Bool, List, map, sym, ap, subst, ◌∙◌, arith}
use Rattle.poly_cut.specs.Code.Holding.{some_held, held}
use Rattle.poly_cut.specs.declared.layout.WideStructure.{WideStructure}
use Rattle.poly_cut.proofs.Held.{same_marks, settled}
use Rattle.poly_cut.proofs.holding.marks.Goals as goal

-- the marks of one round more
round : (ss : List WideStructure) (depth : ℕ) (marks given above : List Bool) → given ≡ marks → marks ≡ held depth ss
    → above ≡ map (λ (s : WideStructure). some_held given s.items) ss → above ≡ held (suc depth) ss
round ss depth marks given above old is made = made
    ∙ ap (λ (l : List Bool). map (λ (s : WideStructure). some_held l s.items) ss) (old ∙ is)

pub levels-preserved : goal.levels-preserved
levels-preserved c =
    let next : c.levels.depth + 1 ≡ suc c.levels.depth = omega arith in
    record {
      is = rw next (round c.args.structures.now c.levels.depth c.levels.marks.items c.as_slice.result.now
          c.in_ok-above.above.items c.as_slice.ensures.value c.levels.invariant.is c.in_ok-above.ensures);
      within = omega arith;
    }

pub returns : goal.returns
returns c = let all : c.levels.depth ≡ 65 = omega arith in
    subst (λ (d : ℕ). c.levels.marks.items ≡ held d c.args.structures.now) all c.levels.invariant.is

pub returns-then-eq : goal.returns-then-eq
returns-then-eq c =
    let ss = c.args.structures.now in
    let above = round ss c.levels.depth c.levels.marks.items c.as_slice.result.now c.in_ok-above.above.items
    c.as_slice.ensures.value c.levels.invariant.is c.in_ok-above.ensures in
    let same = same_marks c.in_ok-above.above.items c.levels.marks.items (sym c.eq.ensures ∙ c.if-eq.true) in
    let within = c.levels.invariant.within in
    let all : (65 - c.levels.depth) + c.levels.depth ≡ 65 = omega arith in
    c.levels.invariant.is
    ∙ sym (settled c.levels.depth ss (sym above ∙ same ∙ c.levels.invariant.is) (65 - c.levels.depth))
    ∙ ap (λ (d : ℕ). held d ss) all
