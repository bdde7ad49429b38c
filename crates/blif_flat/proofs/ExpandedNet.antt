-- The netlist of a design answers each word as its first model does.
use Rattle.std.proofs.Common.{◌≡◌, ℕ, zero, suc, ◌+◌, ◌<◌, ◌==◌, ◌&&◌, ◌||◌, Bool, true, false, not, List, [], ◌∷◌}
use Rattle.std.proofs.Common.{◌++◌, map, length, Some, refl, sym, ap, ◌∙◌, subst, arith, length-append}
use Rattle.std.specs.Prelude.{slice_get, slice_index_or}
use Rattle.std.specs.List.{list_any, AllByRecursion}
use Rattle.std.specs.Str.{bytes_eq}
use Rattle.std.proofs.lemmas.Bool.{and_parts, and_from, eqb-true, eq-eqb}
use Rattle.std.proofs.lemmas.List.{length-map}
use Rattle.std.proofs.lemmas.Option.{slice_get-get_or}
use Rattle.blif_read.specs.Lines.{logical_lines}
use Rattle.blif_read.specs.Parts.{NetView}
use Rattle.blif_read.specs.Says.{SaysNet}
use Rattle.blif_read.specs.Equations.{takes, matches, cover_value, IsAnswer}
use Rattle.blif_read.specs.declared.netlist.Cube.{Cube}
use Rattle.blif_read.specs.declared.models.Named.{Named}
use Rattle.blif_read.specs.declared.models.BlifModel.{BlifModel}
use Rattle.blif_flat.specs.Designs.{names_in, first_model}
use Rattle.blif_flat.specs.DesignText.{is_design, IsBuildable, OfModels, SaysExpansion, SaysNetlist}
use Rattle.blif_flat.specs.NetMeaning.{NetMeans}
use Rattle.blif_flat.specs.Expansion.{Wire, wire, same_wire, WireDef, definitions, wires, number, numbered, expansion}
use Rattle.blif_flat.specs.Meaning.{takes_all, DesignAnswers}
use Rattle.blif_flat.proofs.Members.{Among, AreApart, all_from, at_among, map_map, map_same, Picks, at_place, place_of}
use Rattle.blif_flat.proofs.Members.{there, same_bytes}
use Rattle.blif_flat.proofs.SoundModels.{IsSound, some_model, first_is_sound}
use Rattle.blif_flat.proofs.HeldWires.{Values, at, held_value, Holds, means_from_wires}
use Rattle.blif_flat.proofs.WiresOfMeaning.{IsSolved, wires_from_meaning}
use Rattle.blif_flat.proofs.Blocks.{block_reads, output_is_there}
use Rattle.blif_flat.proofs.DistinctWires.{block_apart}
use Rattle.blif_flat.proofs.Numbering.{bytes_same}

pub picks_wire : (x : Wire) → Picks (same_wire x) x
picks_wire x = record {
  yes = and_from (x.call == x.call) (bytes_eq x.name x.name) (eq-eqb x.call x.call refl)
      (same_bytes x.name x.name refl);
  alone = λ y e.
      (let both = and_parts (x.call == y.call) (bytes_eq x.name y.name) e in
      let calls = eqb-true x.call y.call both.0 in
      let names = bytes_same x.name y.name both.1 in
      λ i. record { call = sym calls i; name = sym names i });
}

-- ---- a cover by wires and the same cover by numbers

same_match : (plane : List ℕ) (ws : List Wire) (xs : List Wire) (v : ℕ → Bool) (w : Values)
    → AllByRecursion (λ x. v (number ws x) ≡ at w x) xs
    → matches plane (map (number ws) xs) v ≡ takes_all plane (map (at w) xs)
same_match [] ws xs v w h = refl
same_match (b ∷ plane) ws [] v w h = refl
same_match (b ∷ plane) ws (x ∷ xs) v w h = λ i. takes b (h.0 i) && same_match plane ws xs v w h.1 i

some_match : (cubes : List Cube) (ws : List Wire) (xs : List Wire) (v : ℕ → Bool) (w : Values)
    → AllByRecursion (λ x. v (number ws x) ≡ at w x) xs
    → list_any (λ c. matches c.plane (map (number ws) xs) v) cubes ≡ list_any
    (λ c. takes_all c.plane (map (at w) xs)) cubes
some_match [] ws xs v w h = refl
some_match (c ∷ cubes) ws xs v w h = λ i. same_match c.plane ws xs v w h i || some_match cubes ws xs v w h i

by_on : (on : Bool) (a b : Bool) → a ≡ b → (elim on as (λ (x : Bool). Bool) [ true ↦ a | false ↦ not a ])
    ≡ (elim on as (λ (x : Bool). Bool) [ true ↦ b | false ↦ not b ])
by_on true a b e = e
by_on false a b e = ap not e

same_value : (d : WireDef) (ws : List Wire) (v : ℕ → Bool) (w : Values)
    → AllByRecursion (λ x. v (number ws x) ≡ at w x) d.inputs
    → cover_value (numbered ws d) v ≡ held_value d (map (at w) d.inputs)
same_value d ws v w h = by_on d.on _ _ (some_match d.cubes ws d.inputs v w h)

-- ---- places in lists

at_front : {X : Type 0} (xs ys : List X) (i : ℕ) (d : X) → i < length xs
    → slice_index_or (xs ++ ys) i d ≡ slice_index_or xs i d
at_front [] ys i d lt = absurd (omega arith)
at_front (x ∷ xs) ys zero d lt = refl
at_front (x ∷ xs) ys (suc i) d lt = at_front xs ys i d (omega arith)

at_back : {X : Type 0} (xs ys : List X) (j : ℕ) (y d : X) → slice_get ys j ≡ Some y
    → slice_index_or (xs ++ ys) (length xs + j) d ≡ y
at_back [] ys j y d e = let n : 0 + j ≡ j = omega arith in ap (λ k. slice_index_or ys k d) n ∙ found ys j e
  where
    found : (zs : List _) (k : ℕ) → slice_get zs k ≡ Some y → slice_index_or zs k d ≡ y
    found [] k g = absurd (cc)
    found (z ∷ zs) zero g = cc
    found (z ∷ zs) (suc k) g = found zs k g
at_back (x ∷ xs) ys j y d e =
    let n : suc (length xs) + j ≡ suc (length xs + j) = omega arith in
    ap (λ k. slice_index_or (x ∷ xs ++ ys) k d) n ∙ at_back xs ys j y d e

get_back : {X : Type 0} (xs ys : List X) (j : ℕ) → slice_get (xs ++ ys) (length xs + j) ≡ slice_get ys j
get_back [] ys j = let n : 0 + j ≡ j = omega arith in ap (slice_get ys) n
get_back (x ∷ xs) ys j =
    let n : suc (length xs) + j ≡ suc (length xs + j) = omega arith in
    ap (slice_get (x ∷ xs ++ ys)) n ∙ get_back xs ys j

mapped_at : {X Y : Type 0} (f : X → Y) (xs : List X) (i : ℕ) (d : X) (e : Y) → i < length xs
    → slice_index_or (map f xs) i e ≡ f (slice_index_or xs i d)
mapped_at f [] i d e lt = absurd (omega arith)
mapped_at f (x ∷ xs) zero d e lt = refl
mapped_at f (x ∷ xs) (suc i) d e lt = mapped_at f xs i d e (omega arith)

get_mapped : {X Y : Type 0} (f : X → Y) (xs : List X) (j : ℕ) (x : X) → slice_get xs j ≡ Some x
    → slice_get (map f xs) j ≡ Some (f x)
get_mapped f [] j x e = absurd (cc)
get_mapped f (y ∷ xs) zero x e = let same : y ≡ x = cc in ap (λ z. Some (f z)) same
get_mapped f (y ∷ xs) (suc j) x e = get_mapped f xs j x e

-- what a mapped list has at a place
record IsMappedAt {X Y : Type 0} (f : X → Y) (xs : List X) (j : ℕ) (y : Y) : Type 0 where
  of : X
  at_it : slice_get xs j ≡ Some of
  is : f of ≡ y

unmapped : {X Y : Type 0} (f : X → Y) (xs : List X) (j : ℕ) (y : Y) → slice_get (map f xs) j ≡ Some y
    → IsMappedAt f xs j y
unmapped f [] j y e = absurd (cc)
unmapped f (x ∷ xs) zero y e = record { of = x; at_it = refl; is = cc }
unmapped f (x ∷ xs) (suc j) y e = let more = unmapped f xs j y e in record
    { of = more.of; at_it = more.at_it; is = more.is }

by_places : {X : Type 0} (P : X → Type 0) (xs : List X) → ((j : ℕ) (x : X) → slice_get xs j ≡ Some x → P x)
    → AllByRecursion P xs
by_places P [] each = tt
by_places P (x ∷ xs) each = (each 0 x refl, by_places P xs (λ j y e. each (suc j) y e))

same_words : (xs word : List Bool) → length xs ≡ length word
    → ((i : ℕ) → i < length xs → slice_index_or xs i false ≡ slice_index_or word i false) → xs ≡ word
same_words [] [] n each = refl
same_words [] (b ∷ word) n each = absurd (omega (arith, n))
same_words (x ∷ xs) [] n each = absurd (omega (arith, n))
same_words (x ∷ xs) (b ∷ word) n each =
    let front : x ≡ b = each 0 (omega arith) in
    let back : xs ≡ word = same_words xs word (omega (arith, n)) (λ i lt. each (suc i) (omega arith)) in
    λ i. front i ∷ back i

-- ---- the law

module _ (models : List BlifModel) (sound : IsSound (length models) models (first_model models)) where
  abbrev ws : List Wire
  ws = wires models

  abbrev inputs : List (List ℕ)
  inputs = names_in (first_model models).inputs

  abbrev outputs : List (List ℕ)
  outputs = names_in (first_model models).outputs

  abbrev ds : List WireDef
  ds = definitions models

  apart : AreApart ws
  apart = block_apart models (length models) 0 (first_model models) sound

  input_count : length (map (wire 0) inputs) ≡ length (first_model models).inputs
  input_count = length-map inputs (wire 0) ∙ length-map (first_model models).inputs (λ n. n.name)

  -- the wire of a number
  abbrev wire_at : ℕ → Wire
  wire_at n = slice_index_or ws n (wire 0 [])

  wire_of_number : (x : Wire) → Among x ws → wire_at (number ws x) ≡ x
  wire_of_number x h = at_place (same_wire x) x (wire 0 []) (picks_wire x) ws h

  number_of_output : (j : ℕ) (d : WireDef) → slice_get ds j ≡ Some d
      → number ws d.output ≡ length (first_model models).inputs + j
  number_of_output j d e =
      place_of (same_wire d.output) d.output (picks_wire d.output) ws (length (map (wire 0) inputs) + j) apart
      (get_back (map (wire 0) inputs) (map (λ x. x.output) ds) j ∙ get_mapped (λ (x : WireDef). x.output) ds j d e)
      ∙ ap (λ n. n + j) input_count

  reads : AllByRecursion (λ d. AllByRecursion (λ x. Among x ws) d.inputs) ds
  reads = block_reads models ws (length models) 0 (first_model models) sound (λ x h. h)

  input_at : (i : ℕ) → i < length (first_model models).inputs → wire_at i ≡ wire 0 (slice_index_or inputs i [])
  input_at i lt =
      let count = length-map (first_model models).inputs (λ (n : Named). n.name) in
      let within : i < length (map (wire 0) inputs) = (let n = input_count in omega (arith, n, lt)) in
      at_front (map (wire 0) inputs) (map (λ x. x.output) ds) i (wire 0 []) within
      ∙ mapped_at (wire 0) inputs i [] (wire 0 []) (omega (arith, count, lt))

  output_at : (j : ℕ) (d : WireDef) → slice_get ds j ≡ Some d
      → wire_at (length (first_model models).inputs + j) ≡ d.output
  output_at j d e = ap (λ n. wire_at (n + j)) (sym input_count)
      ∙ at_back (map (wire 0) inputs) (map (λ x. x.output) ds) j d.output (wire 0 [])
      (get_mapped (λ (x : WireDef). x.output) ds j d e)

  -- ---- from what the first model means to the netlist

  to_net : (word answer : List Bool) → DesignAnswers models word answer → IsAnswer (expansion models) word answer
  unfolding expansion
  to_net word answer m =
      let s : IsSolved models (length models) 0 (first_model models) word answer =
      wires_from_meaning models (length models) 0 (first_model models) word answer sound m in
      let w = s.values in
      let v = λ (n : ℕ). at w (wire_at n) in
      let held : AllByRecursion (Holds w) ds = s.hold w (λ j low high. refl) in
      let count = length-map (first_model models).inputs (λ (n : Named). n.name) in
      record {
        values = v;
        fit = record {
          bits = λ i lt. ap (at w) (input_at i lt)
              ∙ sym (mapped_at (w 0) inputs i [] false (omega (arith, count, lt)))
              ∙ ap (λ xs. slice_index_or xs i false) s.bits;
          covers = λ j def e.
              (let m = unmapped (numbered ws) ds j def e in
              let within = there ds j m.of m.at_it in
              ap (at w) (output_at j m.of m.at_it)
              ∙ at_among (Holds w) ds m.of held within
              ∙ sym (same_value m.of ws v w
              (all_from (λ x. v (number ws x) ≡ at w x) m.of.inputs
              (λ x h. ap (at w) (wire_of_number x
              (at_among (λ y. Among y ws) m.of.inputs x
              (at_among (λ d. AllByRecursion (λ y. Among y ws) d.inputs) ds m.of reads within) h)))))
              ∙ ap (λ d. cover_value d v) m.is);
        };
        shown = s.shown
            ∙ sym (map_map v (λ o. number ws (wire 0 o)) outputs
            ∙ map_same (λ o. v (number ws (wire 0 o))) (w 0) outputs
            (all_from (λ o. v (number ws (wire 0 o)) ≡ w 0 o) outputs
            (λ o h. ap (at w) (wire_of_number (wire 0 o)
            (output_is_there models (length models) 0 (first_model models) sound o h)))));
      }

  -- ---- from the netlist to what the first model means

  to_design : (word answer : List Bool) → length word ≡ length (first_model models).inputs
      → IsAnswer (expansion models) word answer → DesignAnswers models word answer
  unfolding expansion
  to_design word answer size a =
      let v = a.values in
      let w : Values = λ k s. v (number ws (wire k s)) in
      let count = length-map (first_model models).inputs (λ (n : Named). n.name) in
      let held : AllByRecursion (Holds w) ds = by_places (Holds w) ds
      (λ j d e. ap v (number_of_output j d e)
      ∙ a.fit.covers j (numbered ws d) (get_mapped (numbered ws) ds j d e)
      ∙ same_value d ws v w (all_from (λ x. v (number ws x) ≡ at w x) d.inputs (λ x h. refl))) in
      let whole : length ws ≡ length (map (wire 0) inputs) + length (map (λ x. x.output) ds) =
      length-append (map (wire 0) inputs) (map (λ x. x.output) ds) in
      let bit : (i : ℕ) → i < length (map (w 0) inputs)
      → slice_index_or (map (w 0) inputs) i false ≡ slice_index_or word i false = λ i lt.
      (let short : i < length (first_model models).inputs =
      (let n = length-map inputs (w 0) in omega (arith, n, count, lt)) in
      let within : i < length ws = (let n = input_count in omega (arith, n, whole, short)) in
      mapped_at (w 0) inputs i [] false (omega (arith, count, short))
      ∙ ap v (place_of (same_wire (wire 0 (slice_index_or inputs i []))) (wire 0 (slice_index_or inputs i []))
      (picks_wire (wire 0 (slice_index_or inputs i []))) ws i apart
      (slice_get-get_or ws i (wire 0 []) within ∙ ap Some (input_at i short)))
      ∙ a.fit.bits i short) in
      let bits : map (w 0) inputs ≡ word = same_words (map (w 0) inputs) word
      (length-map inputs (w 0) ∙ count ∙ sym size) bit in
      let shown : map (w 0) outputs ≡ answer =
      sym (a.shown ∙ map_map v (λ o. number ws (wire 0 o)) outputs) in
      subst (λ x. DesignAnswers models x answer) bits
      (subst (DesignAnswers models (map (w 0) inputs)) shown
      (means_from_wires models w (length models) 0 (first_model models) sound held))

pub sound_means : (models : List BlifModel) → IsSound (length models) models (first_model models)
    → NetMeans models (expansion models)
unfolding expansion
sound_means models sound word answer size = (to_net models sound word answer, to_design models sound word answer size)

pub net_means : (models : List BlifModel) → IsBuildable models → NetMeans models (expansion models)
net_means models ok =
    sound_means models (first_is_sound models ok.laid_out (some_model models ok.some_output))

pub said_means : (text : List ℕ) (net : NetView) → is_design (logical_lines text) ≡ true → SaysNetlist text net
    → OfModels text (λ models. NetMeans models net)
said_means text net design says =
    let of = subst (λ b. elim b as (λ (x : Bool). Type 0) [
      | true ↦ OfModels text
          (SaysExpansion net)
      | false ↦ SaysNet text net
    ])
    design says in
    record {
      models = of.models;
      said = of.said;
      fact = subst (NetMeans of.models) (sym of.fact.is) (net_means of.models of.fact.buildable);
    }
