-- Halves of subfunctions are subfunctions, and a diagram of subfunctions has no more nodes than there are of them.
use Rattle.std.proofs.Common.{◌≡◌, ℕ, zero, suc, ◌+◌, ◌-◌, ◌<◌, ◌≤◌, Bool, true, false, List, [], ◌∷◌, ◌++◌, length}
use Rattle.std.proofs.Common.{drop, get_or, set, refl, sym, ap, ◌∙◌, arith, inl, inr, append_assoc, length-append}
use Rattle.std.proofs.Common.{length-drop, replicate}
use Rattle.std.specs.List.{AllByRecursion}
use Rattle.std.proofs.lemmas.Bool.{cases_lt}
use Rattle.std.proofs.Math.Seq.{drop-append_seam, get_or-append_seam}
use Rattle.std.proofs.lemmas.List.{get_or-set_same, drop-set-lt, length-set, length-replicate}
use Rattle.circuit.specs.PlainNets.{PlainView}
use Rattle.decide.specs.declared.edge.Edge.{Edge}
use Rattle.decide.specs.declared.edge.Node.{Node}
use Rattle.circuit.specs.CellNets.{value}
use Rattle.decide.specs.Subfunctions.{Name, IsName, subvalue, gates_of, Differ, IsConstant, EachTwo, AreSubfunctions}
use Rattle.decide.specs.Subfunctions.{HasAtMost}
use Rattle.decide.specs.Code.Diagrams.{flip, inputs_of, node_value, IsDiagram}
use Rattle.decide.specs.Code.Named.{IsNamed, AreNamed}
use Rattle.decide.proofs.Functions.{zero_value}
use Rattle.decide.proofs.Canonical.{edges_differ}

pub named_same : (a b : PlainView) (f g : List Bool → Bool) → IsNamed a b f
    → ((x : List Bool) → f x ≡ g x) → IsNamed a b g
named_same a b f g named same =
    record {
      name = named.name;
      is_name = named.is_name;
      complemented = named.complemented;
      same = λ x long. named.same x long ∙ ap (flip named.complemented) (same x);
    }

-- a function that does not read the inputs up to v, and is a named one where input v is so
pub named_cofactor : (a b : PlainView) (f g : List Bool → Bool) (v : ℕ) (side : Bool) → v < a.inputs → IsNamed a b f
    → ((x : List Bool) → get_or x v false ≡ side → g x ≡ f x)
    → ((x y : List Bool) → drop (v + 1) x ≡ drop (v + 1) y → g x ≡ g y) → IsNamed a b g
named_cofactor a b f g v side some named cofactor reads = elim (cases_lt v (length named.name.values)) [
  | inl inside ↦
      record {
        name = named.name;
        is_name = named.is_name;
        complemented = named.complemented;
        same = λ x long.
            (let p = named.name.values in
            let y = set x v side in
            let m = named.name in
            ap (λ (zs : List Bool). value (gates_of a b m.second) (p ++ zs) m.gate)
            (sym (drop-set-lt (length p) x v side inside))
            ∙ named.same y (length-set x v side ∙ long)
            ∙ ap (flip named.complemented) (sym (cofactor y (get_or-set_same x v side false (omega arith)))
            ∙ reads y x (drop-set-lt (v + 1) x v side (omega arith))));
      }
  | inr past ↦
      (let m = named.name in
      let p = m.values in
      let k = length p in
      let q = replicate (v - k) false ++ side ∷ [] in
      let kq : length q ≡ (v - k) + 1 = simp (length-append, length-replicate) in
      let size : length (p ++ q) ≡ v + 1 = (let z = length-append p q in omega arith) in
      record {
        name = record { second = m.second; gate = m.gate; values = p ++ q };
        is_name = record { gate_within = named.is_name.gate_within; values_within = omega arith };
        complemented = named.complemented;
        same = λ x long.
            (let rest = drop (v + 1) x in
            let y = p ++ (q ++ rest) in
            let long' : length y ≡ a.inputs =
            (let c = length-append p (q ++ rest) in let d = length-append q rest in let e = length-drop
            (v + 1) x in omega arith) in
            let falses = replicate (v - k) false in
            let seam : length (p ++ falses) ≡ v =
            (let c = length-append p falses in let d = length-replicate (v - k) false in omega arith) in
            let split : y ≡ (p ++ falses) ++ side ∷ rest = ap (λ (zs : List Bool). p ++ zs)
            (append_assoc falses (side ∷ []) rest) ∙ sym (append_assoc p falses (side ∷ rest)) in
            let at : get_or y v false ≡ side =
            (ap (λ (zs : List Bool). get_or zs v false) split
            ∙ ap (λ (n : ℕ). get_or ((p ++ falses) ++ side ∷ rest) n false) (sym seam)
            ∙ get_or-append_seam (p ++ falses) side rest false) in
            let tail : drop (v + 1) y ≡ rest = ap (λ (zs : List Bool). drop (v + 1) zs) (sym (append_assoc p q rest))
            ∙ ap (λ (n : ℕ). drop n ((p ++ q) ++ rest)) (sym size) ∙ drop-append_seam (p ++ q) rest in
            ap (λ (n : ℕ). value (gates_of a b m.second) ((p ++ q) ++ drop n x) m.gate) size
            ∙ ap (λ (zs : List Bool). value (gates_of a b m.second) zs m.gate) (append_assoc p q rest)
            ∙ ap (λ (zs : List Bool). value (gates_of a b m.second) (p ++ zs) m.gate)
            (sym (drop-append_seam p (q ++ rest)))
            ∙ named.same y long'
            ∙ ap (flip named.complemented) (sym (cofactor y at) ∙ reads y x tail));
      })
]

module _ (a b : PlainView) (nodes : List Node) (ok : IsDiagram nodes) (inputs : inputs_of nodes ≡ a.inputs)
    (named : AreNamed a b nodes) where
  size : ℕ
  size = length nodes

  some_above : (k : ℕ) → 0 < suc k
  some_above k = omega arith

  lower : (k n : ℕ) → suc k < n → k < n
  lower k n lt = omega arith

  the : (k : ℕ) → suc k < length nodes → IsNamed a b (λ x. node_value nodes x (suc k))
  the k lt = named (suc k) (some_above k) lt

  edge : (k : ℕ) → suc k < length nodes → Edge
  edge k lt = record { node = suc k; complemented = (the k lt).complemented }

  -- the names of the nodes up to one, that one first
  names_to : (k : ℕ) → k < length nodes → List Name
  names_to zero lt = []
  names_to (suc k) lt = (the k lt).name ∷ names_to k (lower k (length nodes) lt)

  length-names : (k : ℕ) (lt : k < length nodes) → length (names_to k lt) ≡ k
  unfolding names_to
  length-names zero lt = refl
  length-names (suc k) lt = ap suc (length-names k (lower k (length nodes) lt))

  each_name : (k : ℕ) (lt : k < length nodes) → AllByRecursion (IsName a b) (names_to k lt)
  unfolding names_to
  each_name zero lt = tt
  each_name (suc k) lt = ((the k lt).is_name, each_name k (lower k (length nodes) lt))

  abbrev DifferNames : Name → Name → Type 0
  DifferNames m m' = Differ a.inputs (subvalue a b m) (subvalue a b m')

  two : (i j : ℕ) (lt : suc i < length nodes) (lt' : suc j < length nodes) → j < i
      → DifferNames (the i lt).name (the j lt').name
  unfolding edge
  two i j lt lt' less =
      let d = edges_differ nodes ok (edge i lt) (edge j lt') lt lt'
      (λ p. absurd (let z : suc i ≡ suc j = ap (λ (e : Edge). e.node) p in omega arith)) in
      record {
        word = d.word;
        long = d.long ∙ inputs;
        differ = λ p. d.differ (sym ((the i lt).same d.word (d.long ∙ inputs)) ∙ p
            ∙ (the j lt').same d.word (d.long ∙ inputs));
      }

  from_all : (i : ℕ) (lt : suc i < length nodes) (k : ℕ) (ltk : k < length nodes) → k ≤ i
      → AllByRecursion (DifferNames (the i lt).name) (names_to k ltk)
  unfolding names_to
  from_all i lt zero ltk le = tt
  from_all i lt (suc k) ltk le =
      (two i k lt ltk (omega arith), from_all i lt k (lower k (length nodes) ltk) (omega arith))

  each_two : (k : ℕ) (lt : k < length nodes) → EachTwo DifferNames (names_to k lt)
  unfolding names_to
  each_two zero lt = tt
  each_two (suc k) lt = (
    from_all k lt k (lower k (length nodes) lt) (omega arith),
    each_two k
        (lower k (length nodes) lt),
  )

  flip_false : (c : Bool) → flip c false ≡ c
  flip_false true = refl
  flip_false false = refl

  varied : (k : ℕ) (lt : suc k < length nodes) → ¬ IsConstant a.inputs (subvalue a b (the k lt).name)
  unfolding edge
  varied k lt constant =
      let falses = replicate a.inputs false in
      let n = length-replicate a.inputs false in
      let c = subvalue a b (the k lt).name falses in
      let d = edges_differ nodes ok (edge k lt) (record { node = 0; complemented = c }) lt ok.some
      (λ p. absurd (let z : suc k ≡ 0 = ap (λ (e : Edge). e.node) p in omega arith)) in
      d.differ (sym ((the k lt).same d.word (d.long ∙ inputs)) ∙ constant d.word falses (d.long ∙ inputs) n
      ∙ sym (flip_false c) ∙ ap (flip c) (sym (zero_value nodes ok d.word)))

  each_varied : (k : ℕ) (lt : k < length nodes)
      → AllByRecursion (λ m. ¬ IsConstant a.inputs (subvalue a b m)) (names_to k lt)
  unfolding names_to
  each_varied zero lt = tt
  each_varied (suc k) lt = (varied k lt, each_varied k (lower k (length nodes) lt))

  pub some_names : (most : ℕ) → length nodes ≡ suc (suc most) → (names : List Name) × (length names ≡ suc most)
      × AreSubfunctions a b names
  some_names most e =
      let lt : suc most < length nodes = omega arith in (
        names_to (suc most) lt,
        length-names
            (suc most) lt,
        record {
          named = each_name (suc most) lt;
          distinct = each_two (suc most) lt;
          varied = each_varied (suc most) lt;
        },
      )

-- more nodes than subfunctions cannot be
pub no_more : (a b : PlainView) (nodes : List Node) (most : ℕ) → IsDiagram nodes → inputs_of nodes ≡ a.inputs
    → AreNamed a b nodes → length nodes ≡ suc (suc most) → ¬ HasAtMost a b most
no_more a b nodes most ok inputs named size has =
    let some = some_names a b nodes ok inputs named most size in
    has some.0 some.1 some.2
