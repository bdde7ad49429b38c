-- What each model keeps where no line of a design has a fault: what it drives differs, what it uses is driven, and the
-- ports of its calls fit.
use Rattle.std.proofs.Common.{◌≡◌, ℕ, ◌⊎◌, ◌&&◌, Bool, true, false, not, cond, max, List, [], ◌∷◌, ◌++◌, map, refl, sym}
use Rattle.std.proofs.Common.{ap, ◌∙◌, subst, inl, inr, Contains, filter, flat_map}
use Rattle.std.specs.Prelude.{slice_index_or}
use Rattle.std.specs.List.{list_any, list_all, AllByRecursion}
use Rattle.std.specs.Str.{bytes_eq}
use Rattle.std.proofs.lemmas.Bool.{and_parts, or_parts, not-true, true_from_ne_false, true≢false}
use Rattle.std.proofs.lemmas.List.{map-append}
use Rattle.indexmap.specs.IndexSet.{insert_all, insert_key}
use Rattle.blif_read.specs.Parts.{is_defined}
use Rattle.blif_read.specs.Faults.{adds_again}
use Rattle.blif_read.specs.Models.{named}
use Rattle.blif_read.specs.declared.models.Named.{Named}
use Rattle.blif_read.specs.declared.models.Port.{Port}
use Rattle.blif_read.specs.declared.models.Call.{Call}
use Rattle.blif_read.specs.declared.models.NamedDef.{NamedDef}
use Rattle.blif_read.specs.declared.models.BlifModel.{BlifModel}
use Rattle.blif_flat.specs.Designs.{names_in, called, input_ports, output_ports, actuals, driven, used}
use Rattle.blif_flat.specs.Designs.{distinct_outputs, formals, actual_of, joined_outputs}
use Rattle.blif_flat.specs.DesignFaults.{fits, AreJoined}
use Rattle.blif_flat.specs.declared.design.FlatKind.TheVariants.{Ports, Duplicate, Undefined}
use Rattle.blif_flat.proofs.Members.{Among, AreApart, among_left, among_right, among_parts, among_map, image}
use Rattle.blif_flat.proofs.Members.{among_flat, at_among, all_from, among_filter, passes, same_bytes, among_any}
use Rattle.blif_flat.proofs.Members.{any_among, apart_join, apart_map, apart_filter, one_image, apart_from_places}
use Rattle.blif_flat.proofs.Members.{map_map, contained}
use Rattle.blif_flat.proofs.Numbering.{bytes_same}

-- the names that a model drives
abbrev pub driven_names : List BlifModel → BlifModel → List (List ℕ)
driven_names models model = names_in model.inputs ++ map (λ d. d.output) model.defs
    ++ flat_map (λ c. map (λ p. p.actual) (output_ports models c)) model.calls

-- a call whose ports fit, in a model that drives these names
pub record IsJoinedCall (models : List BlifModel) (names : List (List ℕ)) (call : Call) : Type 0 where
  pub apart : AreApart (formals call)
  pub given : AllByRecursion (λ i. Among (actual_of call i) names) (names_in (called models call).inputs)

pub record IsJoined (models : List BlifModel) (model : BlifModel) : Type 0 where
  pub apart : AreApart (driven_names models model)
  pub defs : AllByRecursion (λ d. AllByRecursion (λ s. Among s (driven_names models model)) d.inputs) model.defs
  pub calls : AllByRecursion (IsJoinedCall models (driven_names models model)) model.calls
  pub outputs : AllByRecursion (λ o. Among o (driven_names models model)) (names_in model.outputs)

-- ---- the ports of a call

-- names that are inserted one by one are those that were there and those that come, each once
inserted_apart : (b : Bool) (ks : List (List ℕ)) (k : List ℕ) → list_any (bytes_eq k) ks ≡ b → AreApart ks
    → AreApart (cond b ks (ks ++ k ∷ []))
inserted_apart true ks k e a = a
inserted_apart false ks k e a = apart_join ks (k ∷ []) a (tt, tt) off
  where
    off : (x y : List ℕ) → Among x ks → Among y (k ∷ []) → x ≡ y → ⊥
    off x y h (inl same) eq = true≢false (sym (any_among ks k (subst (λ z. Among z ks) (eq ∙ sym same) h)) ∙ e)
    off x y h (inr none) eq = none

all_apart : (ks xs : List (List ℕ)) → AreApart ks → AreApart (insert_all bytes_eq ks xs)
all_apart ks [] a = a
all_apart ks (x ∷ xs) a = all_apart (insert_key bytes_eq ks x) xs
    (inserted_apart (list_any (bytes_eq x) ks) ks x refl a)

one_known : (b : Bool) (ks : List (List ℕ)) (k x : List ℕ) → Among x ks → Among x (cond b ks (ks ++ k ∷ []))
one_known true ks k x h = h
one_known false ks k x h = among_left x ks (k ∷ []) h

stays : (ks xs : List (List ℕ)) (x : List ℕ) → Among x ks → Among x (insert_all bytes_eq ks xs)
stays ks [] x h = h
stays ks (y ∷ xs) x h = stays (insert_key bytes_eq ks y) xs x (one_known (list_any (bytes_eq y) ks) ks y x h)

one_new : (b : Bool) (ks : List (List ℕ)) (k : List ℕ) → list_any (bytes_eq k) ks ≡ b
    → Among k (cond b ks (ks ++ k ∷ []))
one_new true ks k e = among_any ks k e
one_new false ks k e = among_right k ks (k ∷ []) (inl refl)

comes : (ks xs : List (List ℕ)) (x : List ℕ) → Among x xs → Among x (insert_all bytes_eq ks xs)
comes ks [] x h = absurd h
comes ks (y ∷ xs) x (inl e) = stays (insert_key bytes_eq ks y) xs x
    (subst (λ z. Among z (insert_key bytes_eq ks y)) e (one_new (list_any (bytes_eq y) ks) ks y refl))
comes ks (y ∷ xs) x (inr h) = comes (insert_key bytes_eq ks y) xs x h

one_from : (b : Bool) (ks : List (List ℕ)) (k x : List ℕ) → Among x (cond b ks (ks ++ k ∷ [])) → Among x ks ⊎ (k ≡ x)
one_from true ks k x h = inl h
one_from false ks k x h = elim (among_parts x ks (k ∷ []) h) [
  | inl a ↦ inl a
  | inr b ↦ elim b [ inl e ↦ inr e | inr none ↦ absurd none ]
]

came : (ks xs : List (List ℕ)) (x : List ℕ) → Among x (insert_all bytes_eq ks xs) → Among x ks ⊎ Among x xs
came ks [] x h = inl h
came ks (y ∷ xs) x h = elim (came (insert_key bytes_eq ks y) xs x h) [
  | inl a ↦ elim (one_from (list_any (bytes_eq y) ks) ks y x a) [ inl k ↦ inl k | inr e ↦ inr (inl e) ]
  | inr b ↦ inr (inr b)
]

-- the first port of a formal is its only one
first_of_formal : (b : Bool) (y p : Port) (ports : List Port) → (b ≡ true → y.actual ≡ p.actual)
    → (b ≡ false → slice_index_or (map (λ q. q.actual) ports) 0 [] ≡ p.actual)
    → slice_index_or (map (λ q. q.actual) (cond b (y ∷ ports) ports)) 0 [] ≡ p.actual
first_of_formal true y p ports f g = f refl
first_of_formal false y p ports f g = g refl

only_port : (ports : List Port) (p : Port) → AreApart (map (λ q. q.formal) ports) → Among p ports
    → slice_index_or (map (λ q. q.actual) (filter (λ q. bytes_eq p.formal q.formal) ports)) 0 [] ≡ p.actual
only_port [] p a h = absurd h
only_port (y ∷ ports) p a (inl e) =
    first_of_formal (bytes_eq p.formal y.formal) y p (filter (λ q. bytes_eq p.formal q.formal) ports)
    (λ _. ap (λ (q : Port). q.actual) e)
    (λ off. absurd (true≢false (sym (same_bytes p.formal y.formal (ap (λ (q : Port). q.formal) (sym e))) ∙ off)))
only_port (y ∷ ports) p a (inr h) =
    first_of_formal (bytes_eq p.formal y.formal) y p (filter (λ q. bytes_eq p.formal q.formal) ports)
    (λ on. absurd (at_among (λ f. y.formal ≡ f → ⊥) (map (λ q. q.formal) ports) p.formal a.0
    (among_map (λ (q : Port). q.formal) p ports h) (sym (bytes_same p.formal y.formal on))))
    (λ off. only_port ports p a.1 h)

module _ (models : List BlifModel) (call : Call) (apart : AreApart (formals call)) where
  -- an output port joins the signal of the called model that it names
  pub port_actual : (p : Port) → Among p (output_ports models call) → actual_of call p.formal ≡ p.actual
  port_actual p h = only_port call.ports p apart
      (passes (λ q. is_defined (names_in (called models call).outputs) q.formal) call.ports p h).there

  pub port_joined : (p : Port) → Among p (output_ports models call) → Among p.formal (joined_outputs models call)
  port_joined p h =
      let is = passes (λ q. is_defined (names_in (called models call).outputs) q.formal) call.ports p h in
      among_filter (is_defined (formals call)) (distinct_outputs (called models call)) p.formal
      (comes [] (names_in (called models call).outputs) p.formal
      (among_any (names_in (called models call).outputs) p.formal is.test))
      (any_among (formals call) p.formal (among_map (λ (q : Port). q.formal) p call.ports is.there))

  -- an output that is joined is an output, and has a port
  pub joined_is_output : (o : List ℕ) → Among o (joined_outputs models call)
      → Among o (names_in (called models call).outputs)
  joined_is_output o h =
      elim (came [] (names_in (called models call).outputs) o
      (passes (is_defined (formals call)) (distinct_outputs (called models call)) o h).there) [
        | inl none ↦ absurd none
        | inr is ↦ is
      ]

  pub record HasPort (o : List ℕ) : Type 0 where
    pub port : Port
    pub there : Among port (output_ports models call)
    pub formal : port.formal ≡ o

  pub joined_port : (o : List ℕ) → Among o (joined_outputs models call) → HasPort o
  joined_port o h =
      let has = (passes (is_defined (formals call)) (distinct_outputs (called models call)) o h).test in
      let at = image (λ (p : Port). p.formal) call.ports o (among_any (formals call) o has) in
      record {
        port = at.of;
        there = among_filter (λ q. is_defined (names_in (called models call).outputs) q.formal) call.ports at.of
            at.there (any_among (names_in (called models call).outputs) at.of.formal
            (subst (λ f. Among f (names_in (called models call).outputs)) (sym at.is) (joined_is_output o h)));
        formal = at.is;
      }

  pub joined_actual : (o : List ℕ) (h : Among o (joined_outputs models call))
      → actual_of call o ≡ (joined_port o h).port.actual
  joined_actual o h = ap (actual_of call) (sym (joined_port o h).formal)
      ∙ port_actual (joined_port o h).port (joined_port o h).there

  pub actual_is_driven : (o : List ℕ) → Among o (joined_outputs models call)
      → Among (actual_of call o) (map (λ p. p.actual) (output_ports models call))
  actual_is_driven o h = subst (λ s. Among s (map (λ p. p.actual) (output_ports models call)))
      (sym (joined_actual o h))
      (among_map (λ (p : Port). p.actual) (joined_port o h).port (output_ports models call) (joined_port o h).there)

  -- what output ports join differs, so what joined outputs join does
  pub actuals_apart : AreApart (map (λ p. p.actual) (output_ports models call))
      → AreApart (map (actual_of call) (joined_outputs models call))
  actuals_apart differ = apart_map (actual_of call) (joined_outputs models call)
      (λ o u h k e.
      (let a = joined_port o h in let b = joined_port u k in
      let one : a.port ≡ b.port = one_image (λ (p : Port). p.actual) (output_ports models call) a.port b.port differ
      a.there b.there (sym (joined_actual o h) ∙ e ∙ joined_actual u k) in
      sym a.formal ∙ ap (λ (p : Port). p.formal) one ∙ b.formal))
      (apart_filter (is_defined (formals call)) (distinct_outputs (called models call))
      (all_apart [] (names_in (called models call).outputs) tt))

-- ---- what a model keeps where no line has a fault

pub flat_names : {X : Type 0} (f : X → List Named) (g : X → List (List ℕ))
    → ((x : X) → names_in (f x) ≡ g x) → (xs : List X)
    → names_in (flat_map f xs) ≡ flat_map g xs
flat_names f g same [] = refl
flat_names f g same (x ∷ xs) = map-append (λ (n : Named). n.name) (f x) (flat_map f xs)
    ∙ (λ i. same x i ++ flat_names f g same xs i)

driven_are : (models : List BlifModel) (model : BlifModel) → names_in (driven models model) ≡ driven_names models model
driven_are models model =
    let ports = flat_map (λ c. actuals c.line (output_ports models c)) model.calls in
    let outputs = map (λ d. named d.line d.output) model.defs in
    map-append (λ (n : Named). n.name) (model.inputs ++ outputs) ports
    ∙ ap (λ front. front ++ names_in ports)
    (map-append (λ (n : Named). n.name) model.inputs outputs
    ∙ ap (λ back. names_in model.inputs ++ back)
    (map_map (λ (n : Named). n.name) (λ (d : NamedDef). named d.line d.output) model.defs))
    ∙ ap (λ back. names_in model.inputs ++ map (λ d. d.output) model.defs ++ back)
    (flat_names (λ c. actuals c.line (output_ports models c))
    (λ c. map (λ p. p.actual) (output_ports models c))
    (λ c. map_map (λ (n : Named). n.name) (λ (p : Port). named c.line p.actual) (output_ports models c)) model.calls)

-- names of which none is added again are all different, and none of those that were known
again_apart : (known names : List (List ℕ)) → adds_again known names ≡ false
    → AreApart names × AllByRecursion (λ n. Among n known → ⊥) names
again_apart known [] e = (tt, tt)
again_apart known (n ∷ names) e =
    let both = or_parts (list_any (bytes_eq n) known) (adds_again (n ∷ known) names) e in
    let more = again_apart (n ∷ known) names both.1 in (
      (
        all_from (λ m. n ≡ m → ⊥) names
            (λ m h same. at_among (λ x. Among x (n ∷ known) → ⊥) names m more.1 h (inl same)),
        more.0,
      ),
      (
        λ h. true≢false (sym (any_among known n h) ∙ both.0),
        all_from (λ m. Among m known → ⊥) names
            (λ m h k. at_among (λ x. Among x (n ∷ known) → ⊥) names m more.1 h (inr k)),
      ),
    )

record DoFit (model : BlifModel) (call : Call) : Type 0 where
  apart : AreApart (formals call)
  ported : list_all (λ n. is_defined (formals call) n.name) model.inputs ≡ true

do_fit : (model : BlifModel) (call : Call) → fits model call ≡ true → DoFit model call
do_fit model call e =
    let a = call.well_formed in
    let b = list_all (λ p. is_defined (names_in model.inputs ++ names_in model.outputs) p.formal) call.ports in
    let c = not (adds_again [] (formals call)) in
    let d = list_all (λ n. is_defined (formals call) n.name) model.inputs in
    let f = list_all (λ n. not (is_defined (names_in model.outputs) n.name)) model.inputs in
    let four = (and_parts (a && b && c && d) f e).0 in
    let last = and_parts (a && b && c) d four in
    record {
      apart = (again_apart [] (formals call)
          (not-true (adds_again [] (formals call)) (and_parts (a && b) c last.0).1)).0;
      ported = last.1;
    }

each_named : (p : List ℕ → Bool) (names : List Named) → list_all (λ n. p n.name) names ≡ true
    → AllByRecursion (λ n. p n ≡ true) (names_in names)
each_named p [] e = tt
each_named p (n ∷ names) e = let both = and_parts (p n.name) (list_all (λ m. p m.name) names) e in
    (both.0, each_named p names both.1)

module _ (models : List BlifModel) (joined : AreJoined models) (model : BlifModel) (among : Contains models model) where
  abbrev names : List (List ℕ)
  names = driven_names models model

  differ : AreApart names
  differ = subst AreApart (driven_are models model)
      (apart_from_places (λ (n : Named). n.name) (driven models model)
      (λ i j x y lt at to same. joined (max x.line y.line) Duplicate record {
        model = model;
        one = i;
        other = j;
        first = x;
        second = y;
        among = among;
        apart = lt;
        is_first = at;
        is_second = to;
        name = same;
        at = refl;
      }))

  use_is_driven : (user : Named) → Among user (used models model) → Among user.name names
  use_is_driven user h = subst (Among user.name) (driven_are models model)
      (among_any (names_in (driven models model)) user.name
      (true_from_ne_false (is_defined (names_in (driven models model)) user.name)
      (λ off. joined user.line Undefined record {
        model = model;
        taken = user;
        among = among;
        there = contained (used models model) user h;
        undriven = off;
        at = refl;
      })))

  abbrev by_defs : List Named
  by_defs = flat_map (λ d. map (named d.line) d.inputs) model.defs

  abbrev by_calls : List Named
  by_calls = flat_map (λ c. actuals c.line (input_ports models c)) model.calls

  fit : (call : Call) → Among call model.calls → DoFit (called models call) call
  fit call h = do_fit (called models call) call
      (true_from_ne_false (fits (called models call) call)
      (λ off. joined call.line Ports record {
        call = call;
        there = record { model = model; among = among; there = contained model.calls call h };
        wrong = off;
        at = refl;
      }))

  input_given : (call : Call) → Among call model.calls → (i : List ℕ) → Among i (names_in (called models call).inputs)
      → Among (actual_of call i) names
  input_given call h i k =
      let ok = fit call h in
      let has = at_among (λ n. is_defined (formals call) n ≡ true) (names_in (called models call).inputs) i
      (each_named (is_defined (formals call)) (called models call).inputs ok.ported) k in
      let at = image (λ (p : Port). p.formal) call.ports i (among_any (formals call) i has) in
      let inside : Among at.of (input_ports models call) =
      among_filter (λ q. is_defined (names_in (called models call).inputs) q.formal) call.ports at.of at.there
      (any_among (names_in (called models call).inputs) at.of.formal
      (subst (λ f. Among f (names_in (called models call).inputs)) (sym at.is) k)) in
      let is : at.of.actual ≡ actual_of call i =
      sym (only_port call.ports at.of ok.apart at.there) ∙ ap (actual_of call) at.is in
      subst (λ s. Among s names) is
      (use_is_driven (named call.line at.of.actual)
      (among_left (named call.line at.of.actual) (by_defs ++ by_calls) model.outputs
      (among_right (named call.line at.of.actual) by_defs by_calls
      (among_flat (λ c. actuals c.line (input_ports models c)) model.calls call (named call.line at.of.actual) h
      (among_map (λ (p : Port). named call.line p.actual) at.of (input_ports models call) inside)))))

  pub is_joined : IsJoined models model
  is_joined = record {
    apart = differ;
    defs = all_from (λ d. AllByRecursion (λ s. Among s names) d.inputs) model.defs
        (λ d h. all_from (λ s. Among s names) d.inputs
        (λ s k. use_is_driven (named d.line s)
        (among_left (named d.line s) (by_defs ++ by_calls) model.outputs
        (among_left (named d.line s) by_defs by_calls
        (among_flat (λ e. map (named e.line) e.inputs) model.defs d (named d.line s) h
        (among_map (named d.line) s d.inputs k))))));
    calls = all_from (IsJoinedCall models names) model.calls
        (λ call h. record {
          apart = (fit call h).apart;
          given = all_from (λ i. Among (actual_of call i) names) (names_in (called models call).inputs)
              (input_given call h);
        });
    outputs = all_from (λ o. Among o names) (names_in model.outputs)
        (λ o h.
        (let at = image (λ (n : Named). n.name) model.outputs o h in
        subst (λ s. Among s names) at.is
        (use_is_driven at.of (among_right at.of (by_defs ++ by_calls) model.outputs at.there))));
  }
