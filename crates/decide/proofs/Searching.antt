-- The search for the least word on which two functions differ.
use Rattle.std.proofs.Common.{◌≡◌, ◌≢◌, ℕ, ◌+◌, ◌<◌, ◌≤◌, ◌⊎◌, Bool, true, false, List, [], ◌∷◌, ◌++◌, length, take}
use Rattle.std.proofs.Common.{get_or, refl, sym, ap, ◌∙◌, subst, arith, inl, inr, length-append, MatchBool}
use Rattle.std.proofs.lemmas.Bool.{cases_eq}
use Rattle.std.proofs.lemmas.List.{take_more, length-take-le}
use Rattle.std.proofs.Math.Seq.{take-length}
use Rattle.decide.specs.declared.edge.Edge.{Edge}
use Rattle.decide.specs.declared.edge.Node.{Node}
use Rattle.decide.specs.Code.Diagrams.{flip, level_of, inputs_of, node_value, edge_value, cofactor, IsDiagram}
use Rattle.decide.specs.Verdicts.{Before}
use Rattle.decide.specs.Code.Least.{IsLeastWord}
use Rattle.decide.proofs.Functions.{edge_same, below_inputs, cofactor_value, cofactor_cases, is_cofactor}
use Rattle.decide.proofs.Canonical.{same_cofactors, flip_same}

-- before a word with one more value
pub before_more : (xs ys : List Bool) (a b : Bool) → length xs ≡ length ys → Before (xs ++ a ∷ []) (ys ++ b ∷ [])
    → (Before xs ys) ⊎ ((xs ≡ ys) × (a ≡ false) × (b ≡ true))
before_more [] [] a b long (inl p) = inr (refl, p.0, p.1)
before_more [] [] a b long (inr p) = absurd p.1
before_more [] (y ∷ ys) a b long before = absurd (omega arith)
before_more (x ∷ xs) [] a b long before = absurd (omega arith)
before_more (x ∷ xs) (y ∷ ys) a b long (inl p) = inl (inl p)
before_more (x ∷ xs) (y ∷ ys) a b long (inr p) = elim (before_more xs ys a b (omega arith) p.1) [
  | inl q ↦ inl (inr (p.0, q))
  | inr q ↦ inr (ap (λ b. b ∷ xs) p.0 ∙ ap (λ zs. y ∷ zs) q.0, q.1, q.2)
]

pub same_more : (xs ys : List Bool) (a b : Bool) → xs ++ a ∷ [] ≡ ys ++ b ∷ [] → (xs ≡ ys) × (a ≡ b)
same_more [] [] a b e = (refl, cc)
same_more [] (y ∷ ys) a b e = absurd (let n = ap length e in let m = length-append ys (b ∷ []) in omega arith)
same_more (x ∷ xs) [] a b e = absurd (let n = ap length e in let m = length-append xs (a ∷ []) in omega arith)
same_more (x ∷ xs) (y ∷ ys) a b e =
    let head : x ≡ y = cc in
    let tail : xs ++ a ∷ [] ≡ ys ++ b ∷ [] = cc in
    let rest = same_more xs ys a b tail in
    (ap (λ b. b ∷ xs) head ∙ ap (λ zs. y ∷ zs) rest.0, rest.1)

module _ (nodes : List Node) (ok : IsDiagram nodes) (first second : Edge) where
  -- the word so far, and the two functions where the first inputs have its values
  pub record IsSearch (word : List Bool) (f g : Edge) (input : ℕ) : Type 0 where
    pub size : length word ≡ input
    pub f_inside : f.node < length nodes
    pub g_inside : g.node < length nodes
    pub f_from : input ≤ level_of nodes f.node
    pub g_from : input ≤ level_of nodes g.node
    pub differ : f ≢ g
    pub along : (x : List Bool) → input ≤ length x → take input x ≡ word
        → (edge_value nodes x first ≡ edge_value nodes x f) × (edge_value nodes x second ≡ edge_value nodes x g)
    pub before : (x : List Bool) → input ≤ length x → Before (take input x) word
        → edge_value nodes x first ≡ edge_value nodes x second

  pub search_begins : (word : List Bool) → word ≡ [] → first.node < length nodes → second.node < length nodes
      → first ≢ second → IsSearch word first second 0
  search_begins word empty p q other = record {
    size = ap length empty;
    f_inside = p;
    g_inside = q;
    f_from = omega arith;
    g_from = omega arith;
    differ = other;
    along = λ x long same. (refl, refl);
    before = λ x long before. absurd (subst (λ w. Before [] w) empty before);
  }

  -- where the low cofactors are the same, the high ones are not
  high_differ : (f g : Edge) (v : ℕ) → f.node < length nodes → g.node < length nodes → v < inputs_of nodes → f ≢ g
      → cofactor nodes f v false ≡ cofactor nodes g v false → cofactor nodes f v true ≢ cofactor nodes g v true
  high_differ f g v p q some other low high = elim (cases_eq (level_of nodes f.node) v) [
    | inl reads ↦ other (same_cofactors nodes ok f g v p q some reads low high)
    | inr not_f ↦ elim (cases_eq (level_of nodes g.node) v) [
      | inl reads ↦ other (sym (same_cofactors nodes ok g f v q p some reads (sym low) (sym high)))
      | inr not_g ↦ elim (cofactor_cases nodes ok f v false p some) [
        | inl (node, level, h) ↦ not_f level
        | inr (level, h) ↦ elim (cofactor_cases nodes ok g v false q some) [
          | inl (node', level', h') ↦ not_g level'
          | inr (level', h') ↦ other (sym h ∙ low ∙ h')
        ]
      ]
    ]
  ]

  module _ (word : List Bool) (f g : Edge) (input : ℕ) (search : IsSearch word f g input)
      (some : input < inputs_of nodes) where
    at : (x : List Bool) → input < length x → take (input + 1) x ≡ take input x ++ get_or x input false ∷ []
    at x lt = take_more x input false lt

    sides_differ : (side : Bool) → MatchBool side (cofactor nodes f input false ≡ cofactor nodes g input false)
        (cofactor nodes f input false ≡ cofactor nodes g input false → ⊥)
        → cofactor nodes f input side ≢ cofactor nodes g input side
    sides_differ true same = high_differ f g input search.f_inside search.g_inside some search.differ same
    sides_differ false other = other

    along_side : (side : Bool) (x : List Bool) → take input x ≡ word → input < length x → get_or x input false ≡ side
        → (edge_value nodes x first ≡ edge_value nodes x (cofactor nodes f input side))
        × (edge_value nodes x second ≡ edge_value nodes x (cofactor nodes g input side))
    along_side side x same lt is =
        let along = search.along x (omega arith) same in (
          along.0 ∙ cofactor_value nodes ok x f input side search.f_inside some is,
          along.1
              ∙ cofactor_value nodes ok x g input side search.g_inside some is,
        )

    low_same : (side : Bool) → side ≡ true
        → MatchBool side (cofactor nodes f input false ≡ cofactor nodes g input false)
        (cofactor nodes f input false ≡ cofactor nodes g input false → ⊥)
        → cofactor nodes f input false ≡ cofactor nodes g input false
    low_same true is same = same
    low_same false is other = absurd (let z : false ≡ true = is in cc)

    pub search_more : (side : Bool) (f' g' : Edge) (more : List Bool)
        → MatchBool side (cofactor nodes f input false ≡ cofactor nodes g input false)
        (cofactor nodes f input false ≡ cofactor nodes g input false → ⊥)
        → f' ≡ cofactor nodes f input side → g' ≡ cofactor nodes g input side → more ≡ word ++ side ∷ []
        → IsSearch more f' g' (input + 1)
    search_more side f' g' more test fs gs is =
        let hf = is_cofactor nodes ok f input side search.f_inside some search.f_from in
        let hg = is_cofactor nodes ok g input side search.g_inside some search.g_from in
        rw (fs, gs, is) (record {
          size = length-append word (side ∷ []) ∙ ap (λ n. n + 1) search.size;
          f_inside = hf.inside;
          g_inside = hg.inside;
          f_from = (let l = hf.level in omega arith);
          g_from = (let l = hg.level in omega arith);
          differ = sides_differ side test;
          along = λ x long same. (let both = same_more (take input x) word (get_or x input false) side
              (sym (at x (omega arith)) ∙ same) in along_side side x both.0 (omega arith) both.1);
          before = λ x long before.
              elim (before_more (take input x) word (get_or x input false) side (length-take-le input x (omega arith)
              ∙ sym search.size) (subst (λ zs. Before zs (word ++ side ∷ [])) (at x (omega arith)) before)) [
                | inl earlier ↦ search.before x (omega arith) earlier
                | inr here ↦
                    (let along = along_side false x here.0 (omega arith) here.1 in
                    along.0 ∙ ap (edge_value nodes x) (low_same side here.2 test) ∙ sym along.1)
              ];
        })

  -- at the end both functions are constants
  pub search_ends : (word : List Bool) (f g : Edge) (input : ℕ) → IsSearch word f g input → input ≡ inputs_of nodes
      → IsLeastWord input (λ x. edge_value nodes x first) (λ x. edge_value nodes x second) word
  search_ends word f g input search all =
      let whole : (x : List Bool) → length x ≡ input
      → take input x ≡ x = λ x long. ap (λ n. take n x) (sym long) ∙ take-length x in
      let along = search.along word (let s = search.size in omega arith) (whole word search.size) in
      let constant : (e : Edge) → e.node < length nodes → input ≤ level_of nodes e.node
      → e.node ≡ 0 = λ e inside from. elim (cases_eq e.node 0) [
        | inl z ↦ z
        | inr some ↦ absurd (let b = below_inputs nodes ok e.node (omega arith) inside in omega arith)
      ] in
      let p : f.node ≡ 0 = constant f search.f_inside search.f_from in
      let q : g.node ≡ 0 = constant g search.g_inside search.g_from in
      record {
        long = search.size;
        differ = λ same. search.differ
            (edge_same f g (p ∙ sym q) (flip_same f.complemented g.complemented (node_value nodes word 0)
            (ap (λ i. flip f.complemented (node_value nodes word i)) (sym p) ∙ sym along.0 ∙ same ∙ along.1
            ∙ ap (λ i. flip g.complemented (node_value nodes word i)) q)));
        least = λ x long before. search.before x (omega arith)
            (subst (λ zs. Before zs word) (sym (whole x long)) before);
      }
