-- Lists of literals, joined, and covers by their planes.
use Rattle.std.specs.Prelude.{◌≡◌, ◌≢◌, ◌⊎◌, ℕ, zero, suc, ◌+◌, ◌<◌, ◌≤◌, ◌&&◌, ◌||◌, ◌==◌, Bool, true, false, not}
use Rattle.std.specs.Prelude.{cond, List, [], ◌∷◌, ◌++◌, length, map, take, drop, Some, slice_get}
use Rattle.std.proofs.Common.{refl, sym, ap, ◌∙◌, subst, arith, inl, inr, get_or, drop-cons, add-one}
use Rattle.std.proofs.lemmas.List.{map-append, take-append-drop, drop_all}
use Rattle.std.proofs.lemmas.Bool.Decides.{eqb_tells}
use Rattle.blif_read.specs.Equations.{takes}
use Rattle.blif_read.specs.declared.netlist.Cube.{Cube}
use Rattle.blif_read.specs.declared.netlist.Def.{Def}
use Rattle.mig.specs.Graphs.{literal_value, Fits, turned}
use Rattle.mig.specs.Building.{BuilderView, Grown, Gives, limit, AllThere}
use Rattle.mig.proofs.Built.{grown_then, fits_before}
use Rattle.mig.proofs.Folded.{turned_value, turned_below}
use Rattle.mig_from_netlist.specs.declared.fold.Join.{Join}
use Rattle.mig_from_netlist.specs.declared.fold.Join.TheVariants.{And, Or}
use Rattle.mig_from_netlist.specs.Code.Covers.{takes_all, some_takes, cover}
use Rattle.mig_from_netlist.specs.Code.Joins.{join, none, joined, literals_of, AreCubes}
use Rattle.mig_from_netlist.proofs.GateValues.{zero_value, one_value}
use Rattle.mig_from_netlist.proofs.Planes.{at_one, at_zero, at_dash, at_other}
use Rattle.mig_from_netlist.proofs.Decomposing.{there_later}

-- lists of literals that are there
pub there_append : (b : BuilderView) (xs ys : List ℕ) → AllThere b xs → AllThere b ys → AllThere b (xs ++ ys)
there_append b [] ys p q = q
there_append b (x ∷ xs) ys p q = (p.0, there_append b xs ys p.1 q)

pub there_drop : (b : BuilderView) (k : ℕ) (xs : List ℕ) → AllThere b xs → AllThere b (drop k xs)
there_drop b zero xs p = p
there_drop b (suc k) [] p = p
there_drop b (suc k) (x ∷ xs) p = there_drop b k xs p.1

-- joined lists
assoc : (which : Join) (a b c : Bool) → join which (join which a b) c ≡ join which a (join which b c)
assoc And true b c = refl
assoc And false b c = refl
assoc Or true b c = refl
assoc Or false b c = refl

none_left : (which : Join) (a : Bool) → join which (none which) a ≡ a
none_left And a = refl
none_left Or a = refl

pub joined_append : (which : Join) (xs ys : List Bool)
    → joined which (xs ++ ys) ≡ join which (joined which xs) (joined which ys)
joined_append which [] ys = sym (none_left which (joined which ys))
joined_append which (x ∷ xs) ys = ap (join which x) (joined_append which xs ys)
    ∙ sym (assoc which x (joined which xs) (joined which ys))

pub gives_none_joined : (b : BuilderView) (which : Join) (l : ℕ) (xs : List ℕ) → xs ≡ [] → l ≡ cond (none which) 1 0
    → Gives b l (λ v. joined which (map (literal_value v) xs))
gives_none_joined b And l xs e is = subst (λ k. Gives b k (λ v. joined And (map (literal_value v) xs))) (sym is)
    (record {
      below = omega arith;
      shows = λ word v fit. one_value v fit.none ∙ ap (λ ys. joined And (map (literal_value v) ys)) (sym e);
    })
gives_none_joined b Or l xs e is = subst (λ k. Gives b k (λ v. joined Or (map (literal_value v) xs))) (sym is)
    (record {
      below = omega arith;
      shows = λ word v fit. zero_value v fit.none ∙ ap (λ ys. joined Or (map (literal_value v) ys)) (sym e);
    })

-- the halves joined
pub split_whole : (k : ℕ) (xs left right : List ℕ) → left ≡ take k xs → right ≡ drop k xs → left ++ right ≡ xs
split_whole k xs left right l r =
    ap (λ ys. ys ++ right) l ∙ ap (λ ys. take k xs ++ ys) r ∙ take-append-drop k xs

pub fold_value : (which : Join) (b : BuilderView) (xs left right : List ℕ) {first second : ℕ} → left ++ right ≡ xs
    → Gives b first (λ v. joined which (map (literal_value v) left))
    → Gives b second (λ v. joined which (map (literal_value v) right))
    → (word : List Bool) (v : ℕ → Bool) → Fits b.inputs b.nodes word v
    → join which (literal_value v first) (literal_value v second) ≡ joined which (map (literal_value v) xs)
fold_value which b xs left right {first} {second} is one two word v fit =
    let value = literal_value v in
    ap (λ a. join which a (value second)) (one.shows word v fit)
    ∙ ap (join which (joined which (map value left))) (two.shows word v fit)
    ∙ sym (joined_append which (map value left) (map value right))
    ∙ ap (joined which) (sym (map-append value left right) ∙ ap (map value) is)

and_true : (a : Bool) → (a && true) ≡ a
and_true true = refl
and_true false = refl

abbrev byte_by : (ℕ → Bool) → ℕ → Bool → Bool → Bool → Bool
byte_by v x p q r = joined And (map (literal_value v) (cond p [] (cond q (x ∷ []) (cond r (turned x ∷ []) (0 ∷ [])))))

abbrev Tells : ℕ → ℕ → Type 0
Tells a b = (((a == b) ≡ true) × (a ≡ b)) ⊎ (((a == b) ≡ false) × (a ≢ b))

-- the literals of a byte
byte_cases : (b x : ℕ) (v : ℕ → Bool) → v 0 ≡ false → Tells b 45 → Tells b 49 → Tells b 48
    → byte_by v x (b == 45) (b == 49) (b == 48) ≡ takes b (literal_value v x)
byte_cases b x v none (inl p) q r = ap (λ t. byte_by v x t (b == 49) (b == 48)) p.0 ∙ sym (at_dash (literal_value v x))
    ∙ ap (λ c. takes c (literal_value v x)) (sym p.1)
byte_cases b x v none (inr p) (inl q) r = ap (λ t. byte_by v x t (b == 49) (b == 48)) p.0
    ∙ ap (λ t. byte_by v x false t (b == 48)) q.0 ∙ and_true (literal_value v x)
    ∙ sym (at_one (literal_value v x)) ∙ ap (λ c. takes c (literal_value v x)) (sym q.1)
byte_cases b x v none (inr p) (inr q) (inl r) = ap (λ t. byte_by v x t (b == 49) (b == 48)) p.0
    ∙ ap (λ t. byte_by v x false t (b == 48)) q.0 ∙ ap (byte_by v x false false) r.0
    ∙ and_true (literal_value v (turned x)) ∙ turned_value v x ∙ sym (at_zero (literal_value v x))
    ∙ ap (λ c. takes c (literal_value v x)) (sym r.1)
byte_cases b x v none (inr p) (inr q) (inr r) = ap (λ t. byte_by v x t (b == 49) (b == 48)) p.0
    ∙ ap (λ t. byte_by v x false t (b == 48)) q.0 ∙ ap (byte_by v x false false) r.0
    ∙ and_true (literal_value v 0) ∙ zero_value v none ∙ sym (at_other b (literal_value v x) p.1 q.1 r.1)

byte_value : (b x : ℕ) (v : ℕ → Bool) → v 0 ≡ false
    → joined And (map (literal_value v) (literals_of b x)) ≡ takes b (literal_value v x)
byte_value b x v none = byte_cases b x v none (eqb_tells b 45) (eqb_tells b 49) (eqb_tells b 48)

byte_there : (g : BuilderView) (b x : ℕ) → x < limit g → AllThere g (literals_of b x)
byte_there g b x lt = go (b == 45) (b == 49) (b == 48)
  where
    go : (p q r : Bool) → AllThere g (cond p [] (cond q (x ∷ []) (cond r (turned x ∷ []) (0 ∷ []))))
    go true q r = tt
    go false true r = (lt, tt)
    go false false true = (turned_below (1 + g.inputs + length g.nodes) x lt, tt)
    go false false false = (omega arith, tt)

-- the literals of the first bytes of a plane
pub record Literals (plane inputs made : List ℕ) (k : ℕ) : Type 0 where
  pub there : (b : BuilderView) → AllThere b inputs → AllThere b made
  pub value : (v : ℕ → Bool) → v 0 ≡ false
      → (joined And (map (literal_value v) made) && takes_all (drop k plane) (map (literal_value v) (drop k inputs))) ≡
      takes_all plane (map (literal_value v) inputs)

there_get : (b : BuilderView) (xs : List ℕ) (k x : ℕ) → AllThere b xs → slice_get xs k ≡ Some x → x < limit b
there_get b [] k x there is = absurd (cc)
there_get b (y ∷ ys) zero x there is = (let e : y ≡ x = cc in subst (λ z. z < limit b) e there.0)
there_get b (y ∷ ys) (suc k) x there is = there_get b ys k x there.1 is

drop_get : (xs : List ℕ) (k x : ℕ) → slice_get xs k ≡ Some x → drop k xs ≡ x ∷ drop (suc k) xs
drop_get [] k x is = absurd (cc)
drop_get (y ∷ ys) zero x is = (let e : y ≡ x = cc in ap (λ z. z ∷ ys) e)
drop_get (y ∷ ys) (suc k) x is = drop_get ys k x is

pub one_literal : (plane inputs made more : List ℕ) (k x d : ℕ) → k < length plane → slice_get inputs k ≡ Some x
    → more ≡ made ++ literals_of (get_or plane k d) x
    → Literals plane inputs made k → Literals plane inputs more (k + 1)
one_literal plane inputs made more k x d lt at e so_far =
    let b = get_or plane k d in record {
      there = λ g all. subst (AllThere g) (sym e)
          (there_append g made (literals_of b x) (so_far.there g all)
          (byte_there g b x (there_get g inputs k x all at)));
      value = λ v none.
          ap (λ j. joined And (map (literal_value v) more) && takes_all (drop j plane)
          (map (literal_value v) (drop j inputs))) (add-one k)
          ∙ ap (λ xs. joined And xs && takes_all (drop (suc k) plane) (map (literal_value v) (drop (suc k) inputs)))
          (ap (map (literal_value v)) e ∙ map-append (literal_value v) made (literals_of b x))
          ∙ ap (λ t. t && takes_all (drop (suc k) plane) (map (literal_value v) (drop (suc k) inputs)))
          (joined_append And (map (literal_value v) made) (map (literal_value v) (literals_of b x))
          ∙ ap (λ t. joined And (map (literal_value v) made) && t) (byte_value b x v none))
          ∙ assoc And (joined And (map (literal_value v) made)) (takes b (literal_value v x))
          (takes_all (drop (suc k) plane) (map (literal_value v) (drop (suc k) inputs)))
          ∙ ap (λ bs. joined And (map (literal_value v) made) && takes_all bs
          (literal_value v x ∷ map (literal_value v) (drop (suc k) inputs))) (sym (drop-cons plane k d lt))
          ∙ ap (λ xs. joined And (map (literal_value v) made) && takes_all (drop k plane) (map (literal_value v) xs))
          (sym (drop_get inputs k x at))
          ∙ so_far.value v none;
    }

no_more : (bs : List ℕ) (xs : List Bool) → bs ≡ [] ⊎ xs ≡ [] → takes_all bs xs ≡ true
no_more bs xs (inl e) = ap (λ cs. takes_all cs xs) e
no_more bs xs (inr e) = ap (takes_all bs) e ∙ at_none bs
  where
    at_none : (bs : List ℕ) → takes_all bs [] ≡ true
    at_none [] = refl
    at_none (b ∷ bs) = refl

pub all_literals : (plane inputs made : List ℕ) (k : ℕ) (v : ℕ → Bool) → v 0 ≡ false
    → (length plane ≤ k) ⊎ (length inputs ≤ k) → Literals plane inputs made k
    → joined And (map (literal_value v) made) ≡ takes_all plane (map (literal_value v) inputs)
all_literals plane inputs made k v none past so_far =
    and_true (joined And (map (literal_value v) made))
    ∙ ap (λ t. joined And (map (literal_value v) made) && t)
    (sym (no_more (drop k plane) (map (literal_value v) (drop k inputs)) (ended past)))
    ∙ so_far.value v none
  where
    and_true : (a : Bool) → a ≡ (a && true)
    and_true true = refl
    and_true false = refl

    ended : (length plane ≤ k) ⊎ (length inputs ≤ k)
        → (drop k plane ≡ []) ⊎ (map (literal_value v) (drop k inputs) ≡ [])
    ended (inl p) = inl (drop_all k plane p)
    ended (inr p) = inr (ap (map (literal_value v)) (drop_all k inputs p))

-- the first cubes
pub record Cubes (first b : BuilderView) (made : List ℕ) (cubes : List Cube) (inputs : List ℕ) (k : ℕ) : Type 0 where
  pub grown : Grown first b
  pub there : AllThere b made
  pub value : (word : List Bool) (v : ℕ → Bool) → Fits b.inputs b.nodes word v
      → (joined Or (map (literal_value v) made) || some_takes (drop k cubes) (map (literal_value v) inputs)) ≡
      some_takes cubes (map (literal_value v) inputs)

pub one_cube : {first before b : BuilderView} {made more : List ℕ} {cubes : List Cube} {inputs plane : List ℕ}
    {k l : ℕ} (d : Cube) → k < length cubes → more ≡ made ++ l ∷ [] → Grown before b
    → plane ≡ (get_or cubes k d).plane → Gives b l (λ v. takes_all plane (map (literal_value v) inputs))
    → Cubes first before made cubes inputs k → Cubes first b more cubes inputs (k + 1)
one_cube {first} {before} {b} {made} {more} {cubes} {inputs} {plane} {k} {l} d lt e grown p given so_far = record {
  grown = grown_then first before b so_far.grown grown;
  there = subst (AllThere b) (sym e)
      (there_append b made (l ∷ []) (there_later before b made grown so_far.there) (given.below, tt));
  value = λ word v fit.
      let xs = map (literal_value v) inputs in
      let ys = map (literal_value v) made in
      ap (λ j. joined Or (map (literal_value v) more) || some_takes (drop j cubes) xs) (add-one k)
      ∙ ap (λ zs. joined Or zs || some_takes (drop (suc k) cubes) xs)
      (ap (map (literal_value v)) e ∙ map-append (literal_value v) made (l ∷ []))
      ∙ ap (λ t. t || some_takes (drop (suc k) cubes) xs)
      (joined_append Or ys (literal_value v l ∷ []) ∙ ap (λ t. joined Or ys || t) (or_false (literal_value v l)
      ∙ given.shows word v fit ∙ ap (λ bs. takes_all bs xs) p))
      ∙ assoc Or (joined Or ys) (takes_all (get_or cubes k d).plane xs) (some_takes (drop (suc k) cubes) xs)
      ∙ ap (λ cs. joined Or ys || some_takes cs xs) (sym (drop-cons cubes k d lt))
      ∙ so_far.value word v (fits_before before b grown word v fit);
}
  where
    or_false : (a : Bool) → (a || false) ≡ a
    or_false true = refl
    or_false false = refl

pub all_cubes : (first b : BuilderView) (made : List ℕ) (cubes : List Cube) (inputs : List ℕ) (k : ℕ)
    → length cubes ≤ k → Cubes first b made cubes inputs k → AreCubes b made cubes inputs
all_cubes first b made cubes inputs k past so_far = record {
  there = so_far.there;
  value = λ word v fit.
      or_false (joined Or (map (literal_value v) made))
      ∙ ap (λ cs. joined Or (map (literal_value v) made) || some_takes cs (map (literal_value v) inputs))
      (sym (drop_all k cubes past))
      ∙ so_far.value word v fit;
}
  where
    or_false : (a : Bool) → a ≡ (a || false)
    or_false true = refl
    or_false false = refl

pub cube_value : (b : BuilderView) (plane inputs made given : List ℕ) → given ≡ made
    → ((v : ℕ → Bool) → v 0 ≡ false
    → joined And (map (literal_value v) made) ≡ takes_all plane (map (literal_value v) inputs))
    → (word : List Bool) (v : ℕ → Bool) → Fits b.inputs b.nodes word v
    → joined And (map (literal_value v) given) ≡ takes_all plane (map (literal_value v) inputs)
cube_value b plane inputs made given e value word v fit = ap (λ xs. joined And (map (literal_value v) xs)) e
    ∙ value v fit.none

pub cubes_later : {before b : BuilderView} {made given : List ℕ} {read cubes : List Cube} {inputs : List ℕ}
    → Grown before b → given ≡ made → read ≡ cubes → AreCubes before made read inputs → AreCubes b given cubes inputs
cubes_later {before} {b} {made} {given} {read} {cubes} {inputs} grown e r are = record {
  there = subst (AllThere b) (sym e) (there_later before b made grown are.there);
  value = λ word v fit. ap (λ xs. joined Or (map (literal_value v) xs)) e
      ∙ are.value word v (fits_before before b grown word v fit)
      ∙ ap (λ cs. some_takes cs (map (literal_value v) inputs)) r;
}

cover_is : (def : Def) (on : Bool) (xs : List Bool) → def.on ≡ on
    → cond on (some_takes def.cubes xs) (not (some_takes def.cubes xs)) ≡ cover def xs
cover_is def on xs is = ap (λ t. cond t (some_takes def.cubes xs) (not (some_takes def.cubes xs))) (sym is)

-- a cover is one of its cubes, or none of them
pub on_gives : (def : Def) (b : BuilderView) (inputs made : List ℕ) {l : ℕ} → def.on ≡ true
    → AreCubes b made def.cubes inputs → Gives b l (λ v. joined Or (map (literal_value v) made))
    → Gives b l (λ v. cover def (map (literal_value v) inputs))
on_gives def b inputs made on are gives = record {
  below = gives.below;
  shows = λ word v fit. gives.shows word v fit ∙ are.value word v fit
      ∙ cover_is def true (map (literal_value v) inputs) on;
}

pub off_gives : (def : Def) (b : BuilderView) (inputs made : List ℕ) {l t : ℕ} → def.on ≡ false → t ≡ turned l
    → AreCubes b made def.cubes inputs → Gives b l (λ v. joined Or (map (literal_value v) made))
    → Gives b t (λ v. cover def (map (literal_value v) inputs))
off_gives def b inputs made {l} off is are gives =
    subst (λ k. Gives b k (λ v. cover def (map (literal_value v) inputs))) (sym is) (record {
      below = turned_below (1 + b.inputs + length b.nodes) l gives.below;
      shows = λ word v fit. turned_value v l ∙ ap not (gives.shows word v fit ∙ are.value word v fit)
          ∙ cover_is def false (map (literal_value v) inputs) off;
    })
