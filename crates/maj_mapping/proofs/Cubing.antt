-- Literals and cubes, made one after the other: what is left makes the whole.
use Rattle.std.proofs.Common.{◌≡◌, ℕ, zero, suc, ◌+◌, ◌<◌, ◌≤◌, Bool, true, false, List, [], ◌∷◌, ◌++◌, length, drop}
use Rattle.std.proofs.Common.{get_or, refl, sym, ap, ◌∙◌, subst, arith, drop-cons, add-one, append_assoc, append-nil}
use Rattle.std.specs.Prelude.{eqb}
use Rattle.std.specs.List.{list_all}
use Rattle.std.proofs.lemmas.List.{drop_all}
use Rattle.circuit.specs.declared.gate.Gate.{Gate}
use Rattle.circuit.specs.PlainNets.{AreGates}
use Rattle.blif_read.specs.Faults.{is_plane_byte}
use Rattle.blif_read.specs.declared.netlist.Cube.{Cube}
use Rattle.blif_read.specs.declared.netlist.Def.{Def}
use Rattle.maj_mapping.specs.declared.maker.Join.TheVariants.{And, Or}
use Rattle.maj_mapping.specs.Operations.{Made, MadeAll, inv}
use Rattle.maj_mapping.specs.Values.{HasPlanes}
use Rattle.maj_mapping.specs.Covers.{first, literals, fold, cube_made, cubes_made, by_cubes}
use Rattle.maj_mapping.specs.Code.Literals.{literal}
use Rattle.maj_mapping.specs.Code.MakerView.{MakerView, with_gates}
use Rattle.maj_mapping.specs.Counts.{AllBelow}
use Rattle.maj_mapping.proofs.Below.{below_more}
use Rattle.maj_mapping.proofs.Right.{inv_is_right}
use Rattle.maj_mapping.proofs.CoverRight.{cube_is_right, any_is_right}
use Rattle.maj_mapping.proofs.Growing.{literals_grow, cubes_grow, any_within}

-- gates that were made before the others
abbrev pub after : List ℕ → MadeAll → MadeAll
after ats m = record { gates = m.gates; ats = ats ++ m.ats }

after_first : (ats : List ℕ) (x : ℕ) (m : MadeAll) → after (ats ++ x ∷ []) m ≡ after ats (first x m)
after_first ats x m = ap (λ xs. record { gates = m.gates; ats = xs }) (append_assoc ats (x ∷ []) m.ats)

-- the maker has come so far: what is left makes the whole
pub record Making (start : MakerView) (xs : List ℕ) (whole : MadeAll) (rest : List Gate → MadeAll) (maker : MakerView)
    (made : List ℕ) : Type 0 where
  pub same : maker.inputs ≡ start.inputs
  pub good : AreGates start.inputs maker.gates
  pub below : AllBelow (length maker.gates) xs
  pub left : after made (rest maker.gates) ≡ whole

-- literals
abbrev pub Literals : MakerView → List ℕ → List ℕ → MakerView → List ℕ → ℕ → Type 0
Literals start bs xs maker made k =
    Making start xs (literals start.inputs start.gates bs xs)
    (λ gs. literals start.inputs gs (drop k bs) (drop k xs)) maker made

literal_right : (n : ℕ) (gs : List Gate) → AreGates n gs → (xs : List ℕ) (b x : ℕ) → x < length gs
    → AllBelow (length gs) xs
    → AreGates n (literal n gs b x).gates × AllBelow (length (literal n gs b x).gates) xs
literal_right n gs ok xs b x lt below = go (eqb b 49) (eqb b 48)
  where
    go : (p q : Bool) → AreGates n
        (elim p as (λ (t : Bool). MadeAll) [
          | true ↦ record { gates = gs; ats = x ∷ [] }
          | false ↦ elim q as (λ (t : Bool). MadeAll) [
            | true ↦ record {
              gates = (inv n gs x).gates;
              ats = (inv n gs x).at ∷ [];
            }
            | false ↦ record { gates = gs; ats = [] }
          ]
        ]).gates
        × AllBelow (length (elim p as (λ (t : Bool). MadeAll) [
          | true ↦ record { gates = gs; ats = x ∷ [] }
          | false ↦ elim q as (λ (t : Bool). MadeAll) [
            | true ↦ record {
              gates = (inv n gs x).gates;
              ats = (inv n gs x).at ∷ [];
            }
            | false ↦ record { gates = gs; ats = [] }
          ]
        ]).gates) xs
    go true q = (ok, below)
    go false true = let r = inv_is_right n gs ok x lt in (r.good, below_more _ _ xs r.grown below)
    go false false = (ok, below)

literal_first : (n : ℕ) (gs : List Gate) (b x : ℕ) (bs xs : List ℕ)
    → after (literal n gs b x).ats (literals n (literal n gs b x).gates bs xs) ≡ literals n gs (b ∷ bs) (x ∷ xs)
literal_first n gs b x bs xs = go (eqb b 49) (eqb b 48)
  where
    go : (p q : Bool) → (let l =
        elim p as (λ (t : Bool). MadeAll) [
          | true ↦ record { gates = gs; ats = x ∷ [] }
          | false ↦ elim q as (λ (t : Bool). MadeAll) [
            | true ↦ record {
              gates = (inv n gs x).gates;
              ats = (inv n gs x).at ∷ [];
            }
            | false ↦ record { gates = gs; ats = [] }
          ]
        ] in after l.ats (literals n l.gates bs xs))
        ≡ (elim p as (λ (t : Bool). MadeAll) [
          | true ↦ first x
              (literals n gs bs xs)
          | false ↦ elim q as (λ (t : Bool). MadeAll) [
            | true ↦ first (inv n gs x).at
                (literals n (inv n gs x).gates bs xs)
            | false ↦ literals n gs bs xs
          ]
        ])
    go true q = refl
    go false true = refl
    go false false = refl

pub one_literal : (start : MakerView) (bs xs : List ℕ) (maker next : MakerView) (made more : List ℕ) (k x : ℕ)
    → k < length bs → k < length xs → x ≡ get_or xs k x → Literals start bs xs maker made k
    → next ≡ with_gates maker (literal maker.inputs maker.gates (get_or bs k 0) x).gates
    → more ≡ made ++ (literal maker.inputs maker.gates (get_or bs k 0) x).ats
    → Literals start bs xs next more (k + 1)
one_literal start bs xs maker next made more k x lb lx at m is add =
    let n = start.inputs in
    let b = get_or bs k 0 in
    let l = literal n maker.gates b x in
    let same_made : literal maker.inputs maker.gates b x ≡ l = ap (λ i. literal i maker.gates b x) m.same in
    let gates : next.gates ≡ l.gates = ap (λ (t : MakerView). t.gates) is ∙ ap (λ (t : MadeAll). t.gates) same_made in
    let ats : more ≡ made ++ l.ats = add ∙ ap (λ (t : MadeAll). made ++ t.ats) same_made in
    let right = literal_right n maker.gates m.good xs b x
    (subst (λ t. t < length maker.gates) (sym at) (inside_at xs k x lx m.below)) m.below in
    let rest_b : drop k bs ≡ b ∷ drop (k + 1) bs = drop-cons bs k 0 lb ∙ ap (λ j. b ∷ drop j bs) (sym (add-one k)) in
    let rest_x : drop k xs ≡ x ∷ drop (k + 1) xs = drop-cons xs k x lx ∙ ap (λ t. t ∷ drop (suc k) xs) (sym at)
    ∙ ap (λ j. x ∷ drop j xs) (sym (add-one k)) in
    record {
      same = ap (λ (t : MakerView). t.inputs) is ∙ m.same;
      good = subst (AreGates n) (sym gates) right.0;
      below = subst (λ gs. AllBelow (length gs) xs) (sym gates) right.1;
      left = ap (λ gs. after more (literals n gs (drop (k + 1) bs) (drop (k + 1) xs))) gates
          ∙ ap (λ ms. after ms (literals n l.gates (drop (k + 1) bs) (drop (k + 1) xs))) ats
          ∙ ap (λ ms. record { gates = (literals n l.gates (drop (k + 1) bs) (drop (k + 1) xs)).gates; ats = ms })
          (append_assoc made l.ats _)
          ∙ ap (after made) (literal_first n maker.gates b x (drop (k + 1) bs) (drop (k + 1) xs))
          ∙ ap (λ bb. after made (literals n maker.gates bb (x ∷ drop (k + 1) xs))) (sym rest_b)
          ∙ ap (λ xx. after made (literals n maker.gates (drop k bs) xx)) (sym rest_x)
          ∙ m.left;
    }
  where
    inside_at : (xs : List ℕ) (k e : ℕ) → k < length xs → AllBelow (length maker.gates) xs
        → get_or xs k e < length maker.gates
    inside_at [] k e lt h = absurd (omega arith)
    inside_at (y ∷ ys) zero e lt h = h.0
    inside_at (y ∷ ys) (suc k) e lt h = inside_at ys k e (omega arith) h.1

no_inputs : (n : ℕ) (gs : List Gate) (bs xs : List ℕ) → xs ≡ [] → literals n gs bs xs ≡ record { gates = gs; ats = [] }
no_inputs n gs bs xs e = ap (literals n gs bs) e ∙ none bs
  where
    none : (bs : List ℕ) → literals n gs bs [] ≡ record { gates = gs; ats = [] }
    none [] = refl
    none (b ∷ bs) = refl

ended : (start : MakerView) (xs : List ℕ) (whole : MadeAll) (rest : List Gate → MadeAll) (maker : MakerView)
    (made : List ℕ) → Making start xs whole rest maker made
    → rest maker.gates ≡ record { gates = maker.gates; ats = [] }
    → (maker ≡ with_gates start whole.gates) × (made ≡ whole.ats)
ended start xs whole rest maker made m e =
    let all : (record { gates = maker.gates; ats = made }) ≡ whole = ap (λ ms. record { gates = maker.gates; ats = ms })
    (sym (append-nil made)) ∙ ap (after made) (sym e) ∙ m.left in (
      ap (λ i. with_gates (record { inputs = i; gates = maker.gates }) maker.gates) m.same
          ∙ ap (λ (t : MadeAll). with_gates start t.gates) all,
      ap (λ (t : MadeAll). t.ats) all,
    )

pub past_inputs : (start : MakerView) (bs xs : List ℕ) (maker : MakerView) (made : List ℕ) (k : ℕ)
    → Literals start bs xs maker made k → length xs ≤ k
    → (maker ≡ with_gates start (literals start.inputs start.gates bs xs).gates)
    × (made ≡ (literals start.inputs start.gates bs xs).ats)
past_inputs start bs xs maker made k m past = ended start xs _
    (λ gs. literals start.inputs gs (drop k bs) (drop k xs)) maker made m
    (no_inputs start.inputs maker.gates (drop k bs) (drop k xs) (drop_all k xs past))

-- cubes
abbrev pub Cubes : MakerView → List ℕ → List Cube → MakerView → List ℕ → ℕ → Type 0
Cubes start xs cs maker made k = Making start xs (cubes_made start.inputs start.gates xs cs)
    (λ gs. cubes_made start.inputs gs xs (drop k cs)) maker made

planes_at : (cs : List Cube) (k : ℕ) (d : Cube) → k < length cs → HasPlanes cs
    → list_all is_plane_byte (get_or cs k d).plane ≡ true
planes_at [] k d lt h = absurd (omega arith)
planes_at (c ∷ cs) zero d lt h = h.0
planes_at (c ∷ cs) (suc k) d lt h = planes_at cs k d (omega arith) h.1

pub one_cube : (start : MakerView) (xs : List ℕ) (cs : List Cube) (maker next : MakerView) (made more plane : List ℕ)
    (k gate : ℕ) (c : Cube) → HasPlanes cs → k < length cs → c ≡ get_or cs k c → plane ≡ c.plane
    → Cubes start xs cs maker made k
    → next ≡ with_gates maker (cube_made maker.inputs maker.gates xs plane).gates
    → gate ≡ (cube_made maker.inputs maker.gates xs plane).at → more ≡ made ++ gate ∷ []
    → Cubes start xs cs next more (k + 1)
one_cube start xs cs maker next made more read k gate c planes lt at r m is g add =
    let n = start.inputs in
    let plane : list_all is_plane_byte c.plane ≡ true = subst (λ (t : Cube). list_all is_plane_byte t.plane ≡ true)
    (sym at) (planes_at cs k c lt planes) in
    let l = cube_made n maker.gates xs c.plane in
    let same_made : cube_made maker.inputs maker.gates xs read ≡ l = ap (cube_made maker.inputs maker.gates xs) r
    ∙ ap (λ i. cube_made i maker.gates xs c.plane) m.same in
    let gates : next.gates ≡ l.gates = ap (λ (t : MakerView). t.gates) is ∙ ap (λ (t : Made). t.gates) same_made in
    let ats : more ≡ made ++ l.at ∷ [] = add ∙ ap (λ x. made ++ x ∷ []) (g ∙ ap (λ (t : Made). t.at) same_made) in
    let right = cube_is_right n maker.gates m.good xs c.plane plane m.below in
    let rest : drop k cs ≡ c ∷ drop (k + 1) cs = drop-cons cs k c lt ∙ ap (λ (t : Cube). t ∷ drop (suc k) cs) (sym at)
    ∙ ap (λ j. c ∷ drop j cs) (sym (add-one k)) in
    record {
      same = ap (λ (t : MakerView). t.inputs) is ∙ m.same;
      good = subst (AreGates n) (sym gates) right.good;
      below = subst (λ gs. AllBelow (length gs) xs) (sym gates) (below_more _ _ xs right.grown m.below);
      left = ap (λ gs. after more (cubes_made n gs xs (drop (k + 1) cs))) gates
          ∙ ap (λ ms. after ms (cubes_made n l.gates xs (drop (k + 1) cs))) ats
          ∙ after_first made l.at (cubes_made n l.gates xs (drop (k + 1) cs))
          ∙ ap (λ cc. after made (cubes_made n maker.gates xs cc)) (sym rest)
          ∙ m.left;
    }

-- the `and` of the literals, as the code has them
pub cube_whole : (maker one : MakerView) (plane inputs ats read : List ℕ)
    → one ≡ with_gates maker (literals maker.inputs maker.gates plane inputs).gates
    → ats ≡ (literals maker.inputs maker.gates plane inputs).ats → read ≡ ats
    → (fold And one.inputs one.gates read ≡ cube_made maker.inputs maker.gates inputs plane)
    × (one.inputs ≡ maker.inputs)
cube_whole maker one plane inputs ats read e a r = (rw (r, a, e) refl, rw e refl)

-- the `or` of the cubes, as the code has them
pub record AnyMade (maker two : MakerView) (xs : List ℕ) (d : Def) (any : ℕ) : Type 0 where
  pub is : two ≡ with_gates maker
      (fold Or maker.inputs (cubes_made maker.inputs maker.gates xs d.cubes).gates
      (cubes_made maker.inputs maker.gates xs d.cubes).ats).gates
  pub at : any ≡ (fold Or maker.inputs (cubes_made maker.inputs maker.gates xs d.cubes).gates
      (cubes_made maker.inputs maker.gates xs d.cubes).ats).at

pub any_made : (maker one two : MakerView) (xs ats read : List ℕ) (d : Def) (cs : List Cube) (any : ℕ) → cs ≡ d.cubes
    → one ≡ with_gates maker (cubes_made maker.inputs maker.gates xs cs).gates
    → ats ≡ (cubes_made maker.inputs maker.gates xs cs).ats → read ≡ ats
    → two ≡ with_gates one (fold Or one.inputs one.gates read).gates → any ≡ (fold Or one.inputs one.gates read).at
    → AnyMade maker two xs d any
any_made maker one two xs ats read d cs any c e a r t y = record {
  is = t ∙ rw (r, a, e, c) refl;
  at = y ∙ rw (r, a, e, c) refl;
}

pub any_inside : (maker two : MakerView) (xs : List ℕ) (d : Def) (any : ℕ) → AreGates maker.inputs maker.gates
    → HasPlanes d.cubes → AllBelow (length maker.gates) xs → AnyMade maker two xs d any → any < length two.gates
any_inside maker two xs d any good planes below m =
    let right = any_is_right maker.inputs maker.gates good xs d.cubes planes below in
    rw (m.is, m.at) right.inside

on_is : (on : Bool) (a b : Made) → on ≡ true → (elim on as (λ (x : Bool). Made) [ true ↦ a | false ↦ b ]) ≡ a
on_is true a b e = refl
on_is false a b e = absurd (let z : false ≡ true = e in cc)

off_is : (on : Bool) (a b : Made) → on ≡ false → (elim on as (λ (x : Bool). Made) [ true ↦ a | false ↦ b ]) ≡ b
off_is false a b e = refl
off_is true a b e = absurd (let z : true ≡ false = e in cc)

pub by_cubes_on : (maker two : MakerView) (xs : List ℕ) (d : Def) (any : ℕ) → d.on ≡ true → AnyMade maker two xs d any
    → (two ≡ with_gates maker (by_cubes maker.inputs maker.gates xs d).gates)
    × (any ≡ (by_cubes maker.inputs maker.gates xs d).at)
by_cubes_on maker two xs d any on m =
    let whole = on_is d.on _ (inv maker.inputs _ _) on in
    (m.is ∙ ap (λ (t : Made). with_gates maker t.gates) (sym whole), m.at ∙ ap (λ (t : Made). t.at) (sym whole))

pub by_cubes_off : (maker two : MakerView) (xs : List ℕ) (d : Def) (any : ℕ) → d.on ≡ false → AnyMade maker two xs d any
    → (inv two.inputs two.gates any ≡ by_cubes maker.inputs maker.gates xs d) × (two.inputs ≡ maker.inputs)
by_cubes_off maker two xs d any on m =
    let whole = off_is d.on (fold Or maker.inputs (cubes_made maker.inputs maker.gates xs d.cubes).gates
    (cubes_made maker.inputs maker.gates xs d.cubes).ats) _ on in
    ((rw (m.is, m.at) refl) ∙ sym whole, rw m.is refl)

-- each part has at most the gates of the whole
pub literal_room : (start : MakerView) (bs xs : List ℕ) (maker : MakerView) (made : List ℕ) (k x most : ℕ)
    → k < length bs → k < length xs → x ≡ get_or xs k x → Literals start bs xs maker made k
    → length (literals start.inputs start.gates bs xs).gates < most
    → length (literal maker.inputs maker.gates (get_or bs k 0) x).gates < most
literal_room start bs xs maker made k x most lb lx at m few =
    let n = start.inputs in
    let b = get_or bs k 0 in
    let l = literal n maker.gates b x in
    let bs' = drop (k + 1) bs in
    let xs' = drop (k + 1) xs in
    let same_made : literal maker.inputs maker.gates b x ≡ l = ap (λ i. literal i maker.gates b x) m.same in
    let size = ap (λ (t : MadeAll). length t.gates) same_made in
    let rest_b : drop k bs ≡ b ∷ bs' = drop-cons bs k 0 lb ∙ ap (λ j. b ∷ drop j bs) (sym (add-one k)) in
    let rest_x : drop k xs ≡ x ∷ xs' = drop-cons xs k x lx ∙ ap (λ t. t ∷ drop (suc k) xs) (sym at)
    ∙ ap (λ j. x ∷ drop j xs) (sym (add-one k)) in
    let whole : length (literals n maker.gates (drop k bs) (drop k xs)).gates ≡ length
    (literals n start.gates bs xs).gates = ap (λ (t : MadeAll). length t.gates) m.left in
    let first_b : length (literals n maker.gates (b ∷ bs') (x ∷ xs')).gates ≡ length
    (literals n maker.gates (drop k bs) (drop k xs)).gates =
    rw (rest_b, rest_x) refl in
    let one : length (literals n l.gates bs' xs').gates ≡ length (literals n maker.gates (b ∷ bs') (x ∷ xs')).gates =
    ap (λ (t : MadeAll). length t.gates) (literal_first n maker.gates b x bs' xs') in
    omega (arith, size, whole, first_b, one, literals_grow n l.gates bs' xs', few)

pub cube_room : (start : MakerView) (xs : List ℕ) (cs : List Cube) (maker : MakerView) (made plane : List ℕ)
    (k most : ℕ) (c : Cube) → k < length cs → c ≡ get_or cs k c → plane ≡ c.plane → Cubes start xs cs maker made k
    → length (cubes_made start.inputs start.gates xs cs).gates < most
    → length (cube_made maker.inputs maker.gates xs plane).gates < most
cube_room start xs cs maker made read k most c lt at r m few =
    let n = start.inputs in
    let l = cube_made n maker.gates xs c.plane in
    let cs' = drop (k + 1) cs in
    let same_made : cube_made maker.inputs maker.gates xs read ≡ l = ap (cube_made maker.inputs maker.gates xs) r
    ∙ ap (λ i. cube_made i maker.gates xs c.plane) m.same in
    let size = ap (λ (t : Made). length t.gates) same_made in
    let rest : drop k cs ≡ c ∷ cs' = drop-cons cs k c lt ∙ ap (λ (t : Cube). t ∷ drop (suc k) cs) (sym at)
    ∙ ap (λ j. c ∷ drop j cs) (sym (add-one k)) in
    let whole : length (cubes_made n maker.gates xs (drop k cs)).gates ≡ length (cubes_made n start.gates xs cs).gates =
    ap (λ (t : MadeAll). length t.gates) m.left in
    let one : length (cubes_made n l.gates xs cs').gates ≡ length (cubes_made n maker.gates xs (drop k cs)).gates =
    ap (λ cc. length (cubes_made n maker.gates xs cc).gates) (sym rest) in
    omega (arith, size, whole, one, cubes_grow n l.gates xs cs', few)

pub any_room : (maker one : MakerView) (xs ats read : List ℕ) (d : Def) (cs : List Cube) (most : ℕ) → cs ≡ d.cubes
    → one ≡ with_gates maker (cubes_made maker.inputs maker.gates xs cs).gates
    → ats ≡ (cubes_made maker.inputs maker.gates xs cs).ats → read ≡ ats
    → length (by_cubes maker.inputs maker.gates xs d).gates < most
    → length (fold Or one.inputs one.gates read).gates < most
any_room maker one xs ats read d cs most c e a r few = rw (r, a, e, c)
    (let within = any_within maker.inputs maker.gates xs d in omega (arith, within, few))
