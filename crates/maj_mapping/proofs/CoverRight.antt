-- What folds in halves and cubes keep and give.
use Rattle.std.specs.Prelude.{◌≡◌, ℕ, zero, suc, ◌+◌, ◌-◌, ◌*◌, ◌/◌, ◌<◌, ◌≤◌, ◌&&◌, ◌||◌, Bool, true, false, not, cond}
use Rattle.std.specs.Prelude.{eqb, List, [], ◌∷◌, ◌++◌, map, length, take, drop}
use Rattle.std.proofs.Common.{refl, sym, ap, ◌∙◌, arith, length-take, length-drop}
use Rattle.std.proofs.lemmas.List.{take-append-drop, map-append}
use Rattle.std.specs.List.{list_all}
use Rattle.std.proofs.lemmas.Bool.{and_parts}
use Rattle.blif_read.specs.Faults.{is_plane_byte}
use Rattle.circuit.specs.declared.gate.Gate.{Gate}
use Rattle.blif_read.specs.declared.netlist.Cube.{Cube}
use Rattle.blif_read.specs.declared.netlist.Def.{Def}
use Rattle.circuit.specs.Gates.{Fits}
use Rattle.circuit.specs.PlainNets.{AreGates}
use Rattle.maj_mapping.proofs.ValueLaws.{literal_takes}
use Rattle.maj_mapping.specs.Values.{takes_all, some_takes, cover, HasPlanes}
use Rattle.maj_mapping.specs.Operations.{Made, MadeAll, inv, and, or, halves}
use Rattle.maj_mapping.specs.Counts.{literal_count, cube_literals}
use Rattle.maj_mapping.specs.Covers.{first, literals, or_all, cube_made, cubes_made, by_cubes}
use Rattle.maj_mapping.proofs.Right.{Right, past_constants, at_zero, at_one, right_keep, and_is_right, or_is_right}
use Rattle.maj_mapping.proofs.Right.{inv_is_right}
use Rattle.maj_mapping.proofs.RightAll.{RightAll}
use Rattle.maj_mapping.specs.Counts.{AllBelow}
use Rattle.maj_mapping.proofs.Below.{below_more, below_take, below_drop}

-- a list of truth values under an operation
abbrev pub joined : (Bool → Bool → Bool) → Bool → List Bool → Bool
joined g e [] = e
joined g e (x ∷ xs) = g x (joined g e xs)

-- an operation of gates that gives g of truth values, where g is associative and e changes nothing
pub record IsJoin (n : ℕ) (op : List Gate → ℕ → ℕ → Made) (g : Bool → Bool → Bool) (e : Bool) : Type 0 where
  pub op_right : (gs : List Gate) → AreGates n gs → (x y : ℕ) → x < length gs → y < length gs
      → Right n gs (op gs x y) 1 (λ v. g (v x) (v y))
  pub assoc : (a b c : Bool) → g (g a b) c ≡ g a (g b c)
  pub left : (a : Bool) → g e a ≡ a
  pub right : (a : Bool) → g a e ≡ a

joined_append : (n : ℕ) (op : List Gate → ℕ → ℕ → Made) (g : Bool → Bool → Bool) (e : Bool) → IsJoin n op g e
    → (xs ys : List Bool) → joined g e (xs ++ ys) ≡ g (joined g e xs) (joined g e ys)
joined_append n op g e h [] ys = sym (h.left (joined g e ys))
joined_append n op g e h (x ∷ xs) ys = ap (g x) (joined_append n op g e h xs ys)
    ∙ sym (h.assoc x (joined g e xs) (joined g e ys))

pub halves_are_right : (n none : ℕ) (op : List Gate → ℕ → ℕ → Made) (g : Bool → Bool → Bool)
    (e : Bool) → IsJoin n op g e
    → (k : ℕ) (gs : List Gate) (xs : List ℕ) → AreGates n gs → AllBelow (length gs) xs → none < length gs
    → ((word : List Bool) (v : ℕ → Bool) → Fits word v gs → v none ≡ e) → length xs ≤ suc k
    → Right n gs (halves op none k gs xs) (length xs - 1) (λ v. joined g e (map v xs))
halves_are_right n none op g e h k gs [] ok below lt is le = right_keep n gs none _ _ ok lt is
halves_are_right n none op g e h k gs (x ∷ []) ok below lt is le = right_keep n gs x _ _ ok below.0
    (λ word v fits. sym (h.right (v x)))
halves_are_right n none op g e h zero gs (x ∷ y ∷ xs) ok below lt is le = absurd (omega arith)
halves_are_right n none op g e h (suc k) gs (x ∷ y ∷ xs) ok below lt is le =
    let all = x ∷ y ∷ xs in
    let m : ℕ = (length all + 1) / 2 in
    let small : m < length all = omega arith in
    let some : 1 ≤ m = omega arith in
    let ll : length (take m all) ≡ m = length-take m all ∙ omega arith in
    let lr : length (drop m all) ≡ length all - m = length-drop m all in
    let l = halves_are_right n none op g e h k gs (take m all) ok (below_take _ m all below) lt is (omega arith) in
    let a = halves op none k gs (take m all) in
    let r = halves_are_right n none op g e h k a.gates (drop m all) l.good
    (below_more _ _ (drop m all) l.grown (below_drop _ m all below)) (omega arith)
    (λ word v fits. is word v (l.earlier word v fits)) (omega arith) in
    let b = halves op none k a.gates (drop m all) in
    let o = h.op_right b.gates r.good a.at b.at (omega (arith, l.inside, r.grown)) r.inside in
    record {
      good = o.good;
      inside = o.inside;
      grown = omega arith;
      few = omega arith;
      earlier = λ word v fits. l.earlier word v (r.earlier word v (o.earlier word v fits));
      value = λ word v fits.
          let fb = o.earlier word v fits in
          let fa = r.earlier word v fb in
          o.value word v fits ∙ ap (λ (t : Bool). g t (v b.at)) (l.value word v fa)
          ∙ ap (g (joined g e (map v (take m all)))) (r.value word v fb)
          ∙ sym (joined_append n op g e h (map v (take m all)) (map v (drop m all)))
          ∙ ap (joined g e) (sym (map-append v (take m all) (drop m all)) ∙ ap (map v) (take-append-drop m all));
    }

pub and_join : (n : ℕ) → IsJoin n (and n) (λ a b. a && b) true
and_join n = record {
  op_right = λ gs ok x y lx ly. and_is_right n gs ok x y lx ly;
  assoc = elim [ true ↦ λ b c. refl | false ↦ λ b c. refl ];
  left = λ a. refl;
  right = elim [ true ↦ refl | false ↦ refl ];
}

pub or_join : (n : ℕ) → IsJoin n (or n) (λ a b. a || b) false
or_join n = record {
  op_right = λ gs ok x y lx ly. or_is_right n gs ok x y lx ly;
  assoc = elim [ true ↦ λ b c. refl | false ↦ λ b c. refl ];
  left = λ a. refl;
  right = elim [ true ↦ refl | false ↦ refl ];
}

-- literals
-- the values of the literals of a plane
abbrev pub literal_values : List ℕ → List Bool → List Bool
literal_values [] xs = []
literal_values (b ∷ bs) [] = []
literal_values (b ∷ bs) (x ∷ xs) =
    elim (eqb b 49) [
      | true ↦ x ∷ literal_values bs xs
      | false ↦ elim (eqb b 48)
          [ true ↦ not x ∷ literal_values bs xs | false ↦ literal_values bs xs ]
    ]

literals_match : (bs : List ℕ) (xs : List Bool) → list_all is_plane_byte bs ≡ true
    → joined (λ a b. a && b) true (literal_values bs xs) ≡ takes_all bs xs
literals_match [] xs h = refl
literals_match (b ∷ bs) [] h = refl
literals_match (b ∷ bs) (x ∷ xs) h =
    let both = and_parts (is_plane_byte b) (list_all is_plane_byte bs) h in
    go (eqb b 49) (eqb b 48) (literals_match bs xs both.1)
    ∙ ap (λ (t : Bool). t && takes_all bs xs) (literal_takes b x both.0)
  where
    go : (p q : Bool) → joined (λ a c. a && c) true (literal_values bs xs) ≡ takes_all bs xs
        → joined (λ a c. a && c) true
        (elim p as (λ (t : Bool). List Bool) [
          | true ↦ x ∷ literal_values bs xs
          | false ↦ elim q as (λ (t : Bool). List Bool)
              [ true ↦ not x ∷ literal_values bs xs | false ↦ literal_values bs xs ]
        ])
        ≡ (cond p x (cond q (not x) true) && takes_all bs xs)
    go true q h = ap (λ (t : Bool). x && t) h
    go false true h = ap (λ (t : Bool). not x && t) h
    go false false h = h

-- several gates, at most as many as they may cost
pub record RightSome (n : ℕ) (gs : List Gate) (m : MadeAll) (most cost : ℕ) (fs : (ℕ → Bool) → List Bool) : Type 0 where
  pub all : RightAll n gs m cost fs
  pub number : length m.ats ≤ most

-- no gate
none_made : (n : ℕ) (gs : List Gate) (most cost : ℕ) → AreGates n gs
    → RightSome n gs (record { gates = gs; ats = [] }) most cost (λ v. [])
none_made n gs most cost ok = record {
  all = record {
    good = ok;
    inside = tt;
    grown = omega arith;
    few = omega arith;
    earlier = λ word v fits. fits;
    values = λ word v fits. refl;
  };
  number = omega arith;
}

-- one more gate before the others
some_kept : (n : ℕ) (gs : List Gate) (x : ℕ) (m : MadeAll) (most cost : ℕ) (fs : (ℕ → Bool) → List Bool) → x < length gs
    → RightSome n gs m most cost fs → RightSome n gs (first x m) (1 + most) (1 + cost) (λ v. v x ∷ fs v)
some_kept n gs x m most cost fs lt r = record {
  all = record {
    good = r.all.good;
    inside = (omega (arith, r.all.grown), r.all.inside);
    grown = r.all.grown;
    few = omega (arith, r.all.few);
    earlier = r.all.earlier;
    values = λ word v fits. ap (λ (t : List Bool). v x ∷ t) (r.all.values word v fits);
  };
  number = omega (arith, r.number);
}

some_made : (n : ℕ) (gs : List Gate) (a : Made) (m : MadeAll) (ca most cost : ℕ) (f : (ℕ → Bool) → Bool)
    (fs : (ℕ → Bool) → List Bool)
    → Right n gs a ca f → RightSome n a.gates m most cost fs
    → RightSome n gs (first a.at m) (1 + most) (ca + cost) (λ v. f v ∷ fs v)
some_made n gs a m ca most cost f fs r s = record {
  all = record {
    good = s.all.good;
    inside = (omega (arith, s.all.grown, r.inside), s.all.inside);
    grown = omega (arith, s.all.grown, r.grown);
    few = omega (arith, s.all.few, r.few);
    earlier = λ word v fits. r.earlier word v (s.all.earlier word v fits);
    values = λ word v fits. ap (λ (b : Bool). b ∷ map v m.ats) (r.value word v (s.all.earlier word v fits))
        ∙ ap (λ (t : List Bool). f v ∷ t) (s.all.values word v fits);
  };
  number = omega (arith, s.number);
}

some_same : (n : ℕ) (gs : List Gate) (m : MadeAll) (most most' cost cost' : ℕ) (fs : (ℕ → Bool) → List Bool)
    → most' ≡ most → cost' ≡ cost → RightSome n gs m most cost fs → RightSome n gs m most' cost' fs
some_same n gs m most most' cost cost' fs e d r = rw (e, d) r

-- one gate of all of them
some_joined : (n : ℕ) (gs : List Gate) (m : MadeAll) (a : Made) (most cost all : ℕ) (fs : (ℕ → Bool) → List Bool)
    (f : List Bool → Bool) (g : (ℕ → Bool) → Bool) → cost + most ≤ all → ((v : ℕ → Bool) → f (fs v) ≡ g v)
    → RightSome n gs m most cost fs → Right n m.gates a (length m.ats - 1) (λ v. f (map v m.ats)) → Right n gs a all g
some_joined n gs m a most cost all fs f g le same l r = record {
  good = r.good;
  inside = r.inside;
  grown = omega (arith, r.grown, l.all.grown);
  few = omega (arith, r.few, l.all.few, l.number);
  earlier = λ word v fits. l.all.earlier word v (r.earlier word v fits);
  value = λ word v fits. r.value word v fits ∙ ap f (l.all.values word v (r.earlier word v fits)) ∙ same v;
}

pub literals_are_right : (n : ℕ) (gs : List Gate) → AreGates n gs → (bs xs : List ℕ) → AllBelow (length gs) xs
    → RightSome n gs (literals n gs bs xs) (literal_count bs) (literal_count bs) (λ v. literal_values bs (map v xs))
literals_are_right n gs ok [] xs below = none_made n gs _ _ ok
literals_are_right n gs ok (b ∷ bs) [] below = none_made n gs _ _ ok
literals_are_right n gs ok (b ∷ bs) (x ∷ xs) below =
    let r = inv_is_right n gs ok x below.0 in
    let m = inv n gs x in
    go (eqb b 49) (eqb b 48) (literals_are_right n gs ok bs xs below.1) r
    (literals_are_right n m.gates r.good bs xs (below_more _ _ xs r.grown below.1))
  where
    go : (p q : Bool)
        → RightSome n gs (literals n gs bs xs) (literal_count bs) (literal_count bs) (λ v. literal_values bs (map v xs))
        → Right n gs (inv n gs x) 1 (λ v. not (v x))
        → RightSome n (inv n gs x).gates (literals n (inv n gs x).gates bs xs) (literal_count bs) (literal_count bs)
        (λ v. literal_values bs (map v xs))
        → RightSome n gs
        (elim p as (λ (t : Bool). MadeAll) [
          | true ↦ first x
              (literals n gs bs xs)
          | false ↦ elim q as (λ (t : Bool). MadeAll) [
            | true ↦ first (inv n gs x).at
                (literals n (inv n gs x).gates bs xs)
            | false ↦ literals n gs bs xs
          ]
        ])
        (cond (p || q) 1 0 + literal_count bs) (cond (p || q) 1 0 + literal_count bs)
        (λ v. elim p as (λ (t : Bool). List Bool) [
          | true ↦ v x ∷ literal_values bs
              (map v xs)
          | false ↦ elim q as (λ (t : Bool). List Bool) [
            | true ↦ not (v x) ∷ literal_values bs
                (map v xs)
            | false ↦ literal_values bs (map v xs)
          ]
        ])
    go true q same r after = some_kept n gs x _ _ _ _ below.0 same
    go false true same r after = some_made n gs (inv n gs x) _ 1 _ _ _ _ r after
    go false false same r after = some_same n gs _ _ _ _ _ _ (omega arith) (omega arith) same

pub cube_is_right : (n : ℕ) (gs : List Gate) → AreGates n gs → (xs bs : List ℕ) → list_all is_plane_byte bs ≡ true
    → AllBelow (length gs) xs → Right n gs (cube_made n gs xs bs) (2 * literal_count bs) (λ v. takes_all bs (map v xs))
cube_is_right n gs ok xs bs plane below =
    let l = literals_are_right n gs ok bs xs below in
    let m = literals n gs bs xs in
    let k = past_constants n m.gates l.all.good in
    some_joined n gs m _ _ _ _ _ (joined (λ a b. a && b) true) _ (omega arith)
    (λ v. literals_match bs (map v xs) plane) l
    (halves_are_right n (n + 1) (and n) _ true (and_join n) (length m.ats) m.gates m.ats l.all.good l.all.inside k
    (λ word v fits. at_one n m.gates l.all.good word v fits) (omega arith))

abbrev pub cube_values : List Cube → List Bool → List Bool
cube_values [] xs = []
cube_values (c ∷ cs) xs = takes_all c.plane xs ∷ cube_values cs xs

values_some : (cs : List Cube) (xs : List Bool) → joined (λ a b. a || b) false (cube_values cs xs) ≡ some_takes cs xs
values_some [] xs = refl
values_some (c ∷ cs) xs = ap (λ (t : Bool). takes_all c.plane xs || t) (values_some cs xs)

pub cubes_are_right : (n : ℕ) (gs : List Gate) → AreGates n gs → (xs : List ℕ) (cs : List Cube) → HasPlanes cs
    → AllBelow (length gs) xs
    → RightSome n gs (cubes_made n gs xs cs) (length cs) (2 * cube_literals cs) (λ v. cube_values cs (map v xs))
cubes_are_right n gs ok xs [] planes below = none_made n gs _ _ ok
cubes_are_right n gs ok xs (c ∷ cs) planes below =
    let r = cube_is_right n gs ok xs c.plane planes.0 below in
    let m = cube_made n gs xs c.plane in
    let s = cubes_are_right n m.gates r.good xs cs planes.1 (below_more _ _ xs r.grown below) in
    some_same n gs _ _ _ _ _ _ (omega arith) (omega arith) (some_made n gs m _ _ _ _ _ _ r s)

-- the `or` of the cubes
pub any_is_right : (n : ℕ) (gs : List Gate) → AreGates n gs → (xs : List ℕ) (cs : List Cube) → HasPlanes cs
    → AllBelow (length gs) xs
    → Right n (cubes_made n gs xs cs).gates (or_all n (cubes_made n gs xs cs).gates (cubes_made n gs xs cs).ats)
    (length (cubes_made n gs xs cs).ats - 1) (λ v. joined (λ a b. a || b) false (map v (cubes_made n gs xs cs).ats))
any_is_right n gs ok xs cs planes below =
    let l = cubes_are_right n gs ok xs cs planes below in
    let m = cubes_made n gs xs cs in
    let k = past_constants n m.gates l.all.good in
    halves_are_right n n (or n) _ false (or_join n) (length m.ats) m.gates m.ats l.all.good l.all.inside (omega arith)
    (λ word v fits. at_zero n m.gates l.all.good word v fits) (omega arith)

-- a gate or its inverse
inv_unless : (n : ℕ) (gs : List Gate) (a : Made) (cost : ℕ) (f : (ℕ → Bool) → Bool) → Right n gs a cost f → (b : Bool)
    → Right n gs (elim b as (λ (t : Bool). Made) [ true ↦ a | false ↦ inv n a.gates a.at ]) (cost + 1)
    (λ v. cond b (f v) (not (f v)))
inv_unless n gs a cost f r true = record {
  good = r.good;
  inside = r.inside;
  grown = r.grown;
  few = omega (arith, r.few);
  earlier = r.earlier;
  value = r.value;
}
inv_unless n gs a cost f r false =
    let i = inv_is_right n a.gates r.good a.at r.inside in
    record {
      good = i.good;
      inside = i.inside;
      grown = omega (arith, i.grown, r.grown);
      few = omega (arith, i.few, r.few);
      earlier = λ word v fits. r.earlier word v (i.earlier word v fits);
      value = λ word v fits. i.value word v fits ∙ ap not (r.value word v (i.earlier word v fits));
    }

pub cubes_are_cover : (n : ℕ) (gs : List Gate) → AreGates n gs → (xs : List ℕ) (d : Def) → HasPlanes d.cubes
    → AllBelow (length gs) xs → Right n gs (by_cubes n gs xs d) (2 * cube_literals d.cubes + length d.cubes + 1)
    (λ v. cover d (map v xs))
cubes_are_cover n gs ok xs d planes below =
    let m = cubes_made n gs xs d.cubes in
    inv_unless n gs (or_all n m.gates m.ats) (2 * cube_literals d.cubes + length d.cubes)
    (λ v. some_takes d.cubes (map v xs))
    (some_joined n gs m _ _ _ _ _ (joined (λ a b. a || b) false) _ (omega arith)
    (λ v. values_some d.cubes (map v xs)) (cubes_are_right n gs ok xs d.cubes planes below)
    (any_is_right n gs ok xs d.cubes planes below)) d.on
