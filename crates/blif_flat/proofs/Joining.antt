-- Ports of calls by names, and places of names, one by one.
use Rattle.std.proofs.Common.{◌≡◌, ℕ, zero, suc, ◌+◌, ◌<◌, ◌≤◌, ◌^◌, ◌||◌, Bool, true, false, not, cond, List, [], ◌∷◌}
use Rattle.std.proofs.Common.{◌++◌, map, length, take, drop, get_or, slice_get, filter, IfSome, refl, sym, ap, ◌∙◌}
use Rattle.std.proofs.Common.{subst, arith, inl, inr, Option, Some, None, replicate, Bor, append_assoc, length-append}
use Rattle.std.proofs.Common.{drop-cons, add-one}
use Rattle.std.specs.Prelude.{nat_lt, slice_index_or}
use Rattle.std.specs.List.{AllByRecursion, IsDistinct, list_any, position, position_or_len, flat_map}
use Rattle.std.specs.Str.{bytes_eq}
use Rattle.std.proofs.lemmas.Bool.{cases_Bool, true≢false, lt-ltb, ltb-true}
use Rattle.std.proofs.lemmas.List.{map-append, length-map, length-replicate, append-nil, take_more, length-take}
use Rattle.std.proofs.lemmas.List.Concat.{flat_map-append}
use Rattle.blif_read.specs.declared.models.Call.{Call}
use Rattle.blif_read.specs.declared.models.Port.{Port}
use Rattle.blif_read.specs.Parts.{is_defined}
use Rattle.blif_flat.specs.Designs.{formals, actual_of}
use Rattle.blif_flat.specs.Code.Numbering.{number_in, number_or}
use Rattle.blif_flat.specs.Code.Blocks.{is_that}
use Rattle.blif_flat.specs.Code.Joins.{ports_for, noted, actual_at, actual_in, actuals_in, first_actual, exits_in}
use Rattle.blif_flat.specs.Code.Joins.{ArePlaces}
use Rattle.blif_flat.proofs.Numbering.{position_cons, position_push, numbered_more, bytes_same, bytes_back}

abbrev next : Option ℕ → Option ℕ
next (Some n) = Some (suc n)
next None = None

noted_next : (h : Option ℕ) (ports : List (Option ℕ)) (at : Option ℕ) (port : ℕ)
    → noted (h ∷ ports) (next at) port ≡ h ∷ noted ports at port
noted_next h ports None port = refl
noted_next h ports (Some at) port = refl

unchanged : (o : Option ℕ) (b : Bool) (n : ℕ) → b ≡ false → number_or o b n ≡ o
unchanged (Some m) b n e = refl
unchanged None true n e = absurd (true≢false e)
unchanged None false n e = refl

off_parts : (a b : Bool) → a || b ≡ false → (a ≡ false) × (b ≡ false)
off_parts true b e = absurd (true≢false e)
off_parts false b e = (refl, e)

-- names that differ from a formal have the ports that they had
others_same : (f : List ℕ) (fs ks : List (List ℕ)) → list_any (bytes_eq f) ks ≡ false
    → ports_for ks (fs ++ f ∷ []) ≡ ports_for ks fs
others_same f fs [] e = refl
others_same f fs (k ∷ ks) e =
    let both = off_parts (bytes_eq f k) (list_any (bytes_eq f) ks) e in
    let here : position (bytes_eq k) (fs ++ f ∷ []) ≡ position (bytes_eq k) fs = position_push (bytes_eq k) fs f
    ∙ unchanged (position (bytes_eq k) fs) (bytes_eq k f) (length fs) (bytes_back k f ∙ both.0) in
    λ i. here i ∷ others_same f fs ks both.1 i

none_of_all : (p : List ℕ → Bool) (xs : List (List ℕ)) → AllByRecursion (λ x. p x ≡ false) xs → list_any p xs ≡ false
none_of_all p [] h = refl
none_of_all p (x ∷ xs) h = (λ i. h.0 i || list_any p xs) ∙ none_of_all p xs h.1

-- one port more
pub port_more : (f : List ℕ) (fs ks : List (List ℕ)) → IsDistinct bytes_eq ks
    → ports_for ks (fs ++ f ∷ []) ≡ noted (ports_for ks fs) (position (bytes_eq f) ks) (length fs)
unfolding IsDistinct
port_more f fs [] d = refl
port_more f fs (k ∷ ks) d = elim (cases_Bool (bytes_eq f k)) [
  | inl same ↦
      let is : f ≡ k = bytes_same f k same in
      let here : position (bytes_eq k) (fs ++ f ∷ []) ≡ number_or (position (bytes_eq k) fs) true (length fs) =
      position_push (bytes_eq k) fs f
      ∙ ap (λ b. number_or (position (bytes_eq k) fs) b (length fs)) (bytes_back k f ∙ same) in
      let off : list_any (bytes_eq f) ks ≡ false = subst (λ x. list_any (bytes_eq x) ks ≡ false) (sym is)
      (none_of_all (bytes_eq k) ks d.0) in
      let at : position (bytes_eq f) (k ∷ ks) ≡ Some 0 = position_cons (bytes_eq f) k ks
      ∙ ap (λ (b : Bool). elim b as (λ (x : Bool). Option ℕ) [
        | true ↦ Some 0
        | false ↦ next
            (position (bytes_eq f) ks)
      ]) same in
      (λ i. here i ∷ others_same f fs ks off i) ∙ ap (λ o. noted (ports_for (k ∷ ks) fs) o (length fs)) (sym at)
  | inr other ↦
      let here : position (bytes_eq k) (fs ++ f ∷ []) ≡ position (bytes_eq k) fs = position_push (bytes_eq k) fs f
      ∙ unchanged (position (bytes_eq k) fs) (bytes_eq k f) (length fs) (bytes_back k f ∙ other) in
      let at : position (bytes_eq f) (k ∷ ks) ≡ next (position (bytes_eq f) ks) = position_cons (bytes_eq f) k ks
      ∙ ap (λ (b : Bool). elim b as (λ (x : Bool). Option ℕ) [
        | true ↦ Some 0
        | false ↦ next
            (position (bytes_eq f) ks)
      ]) other in
      (λ i. here i ∷ port_more f fs ks d.1 i)
      ∙ sym (noted_next (position (bytes_eq k) fs) (ports_for ks fs) (position (bytes_eq f) ks) (length fs))
      ∙ ap (λ o. noted (ports_for (k ∷ ks) fs) o (length fs)) (sym at)
]

pub no_ports : (ks : List (List ℕ)) → replicate (length ks) None ≡ ports_for ks []
no_ports [] = refl
no_ports (k ∷ ks) = λ i. None ∷ no_ports ks i

-- ---- places

pub name_more : (old new : List (Bor (List ℕ) × ℕ)) (count total : ℕ) (name : List ℕ) (names : List (Option (List ℕ)))
    → ((t : List ℕ) → number_in new t ≡ number_or (number_in old t) (bytes_eq name t) count)
    → total ≡ count + 1 → ArePlaces old count names → ArePlaces new total (names ++ Some name ∷ [])
name_more old new count total name names add more is = record {
  found = numbered_more is_that old new names (Some name) count is.found (sym is.count)
      (λ t. add t ∙ ap (λ b. number_or (number_in old t) b count) (bytes_back name t));
  count = length-append names (Some name ∷ []) ∙ (let c = is.count in omega arith);
}

hidden_position : (t : List ℕ) (names : List (Option (List ℕ))) (by : ℕ)
    → position (is_that t) (names ++ replicate by None) ≡ position (is_that t) names
hidden_position t names zero = ap (position (is_that t)) (append-nil names)
hidden_position t names (suc by) =
    ap (position (is_that t)) (sym (append_assoc names (None ∷ []) (replicate by None)))
    ∙ hidden_position t (names ++ None ∷ []) by
    ∙ position_push (is_that t) names None ∙ unchanged (position (is_that t) names) false (length names) refl

pub passed_places : (entries : List (Bor (List ℕ) × ℕ)) (count by total : ℕ) (names : List (Option (List ℕ)))
    → total ≡ count + by → ArePlaces entries count names → ArePlaces entries total (names ++ replicate by None)
passed_places entries count by total names more is = record {
  found = λ t. is.found t ∙ sym (hidden_position t names by);
  count = length-append names (replicate by None)
      ∙ (let c = is.count in let l : length (replicate {A = Option (List ℕ)} by None) ≡ by =
      length-replicate by None in omega arith);
}

pub first_at_most : (p : Option (List ℕ) → Bool) (xs : List (Option (List ℕ))) → position_or_len p xs ≤ length xs
first_at_most p [] = omega arith
first_at_most p (x ∷ xs) = turn (p x) (position_or_len p xs) (length xs) (first_at_most p xs)
  where
    turn : (b : Bool) (n m : ℕ) → n ≤ m → cond (not b) (1 + n) 0 ≤ suc m
    turn true n m le = omega arith
    turn false n m le = omega arith

pub place_missing : (entries : List (Bor (List ℕ) × ℕ)) (count : ℕ) (name : List ℕ) (names : List (Option (List ℕ)))
    → number_in entries name ≡ None → ArePlaces entries count names → count ≡ position_or_len (is_that name) names
place_missing entries count name names e is =
    elim (cases_Bool (nat_lt (position_or_len (is_that name) names) (length names))) [
      | inl lt ↦ absurd (let f : None ≡ Some (position_or_len (is_that name) names) = sym e ∙ is.found name
          ∙ ap (λ b. cond b (Some (position_or_len (is_that name) names)) None) lt in cc)
      | inr ge ↦ (let le = first_at_most (is_that name) names in let c = is.count in let no : position_or_len
          (is_that name) names < length names → ⊥ =
          (λ l. true≢false (sym (lt-ltb (position_or_len (is_that name) names) (length names) l) ∙ ge)) in omega arith)
    ]

-- ---- actuals

-- what the next item gives, and what those behind it give
pub rest_taken : {X Y : Type 0} (f : X → List Y) (xs : List X) (i : ℕ) (d : X) → i < length xs
    → length (flat_map f (drop i xs)) ≡ length (f (get_or xs i d)) + length (flat_map f (drop (i + 1) xs))
rest_taken f xs i d lt =
    ap (λ ys. length (flat_map f ys)) (drop-cons xs i d lt ∙ ap (λ k. get_or xs i d ∷ drop k xs) (sym (add-one i)))
    ∙ length-append (f (get_or xs i d)) (flat_map f (drop (i + 1) xs))

-- how many there are with those that are left to take
pub room_taken : {X Y : Type 0} (f : X → List Y) (xs : List X) (i : ℕ) (d x : X) (before next whole : ℕ) → i < length xs
    → x ≡ get_or xs i d → next ≡ before + length (f x)
    → before + length (flat_map f (drop i xs)) ≡ whole → next + length (flat_map f (drop (i + 1) xs)) ≡ whole
room_taken f xs i d x before next whole lt is n room =
    let rest = rest_taken f xs i d lt in
    let here = ap (λ y. length (f y)) is in
    omega arith

pub room_left : {X Y : Type 0} (f : X → List Y) (xs : List X) (i : ℕ) (d x : X) (before whole : ℕ)
    → i < length xs → x ≡ get_or xs i d
    → before + length (flat_map f (drop i xs)) ≡ whole → whole < 2 ^ 32 → before + length (f x) < 2 ^ 32
room_left f xs i d x before whole lt is room few =
    let behind = room_taken f xs i d x before (before + length (f x)) whole lt is refl room in
    omega arith

abbrev somes : List (List ℕ) → List (Option (List ℕ))
somes names = map (λ n. Some n) names

pub actuals_more : (call : Call) (ports : List (Option ℕ)) (i : ℕ) (d : Option ℕ) → i < length ports
    → actuals_in call (take (i + 1) ports) ≡ actuals_in call (take i ports) ++ actual_in call (get_or ports i d)
actuals_more call ports i d lt = ap (actuals_in call) (take_more ports i d lt)
    ∙ flat_map-append (actual_in call) (take i ports) (get_or ports i d ∷ [])
    ∙ ap (λ back. actuals_in call (take i ports) ++ back) (append-nil (actual_in call (get_or ports i d)))

pub actuals_step : (old middle new : List (Bor (List ℕ) × ℕ)) (count between total : ℕ) (call : Call)
    (ports : List (Option ℕ)) (i : ℕ) (d : Option ℕ) → i < length ports
    → ((names : List (Option (List ℕ))) → ArePlaces old count names
    → ArePlaces middle between (names ++ map (λ n. Some n) (actuals_in call (take i ports))))
    → ((names : List (Option (List ℕ))) → ArePlaces middle between names
    → ArePlaces new total (names ++ map (λ n. Some n) (actual_in call (get_or ports i d))))
    → (names : List (Option (List ℕ))) → ArePlaces old count names
    → ArePlaces new total (names ++ map (λ n. Some n) (actuals_in call (take (i + 1) ports)))
actuals_step old middle new count between total call ports i d lt before add names is =
    subst (ArePlaces new total)
    (append_assoc names (somes (actuals_in call (take i ports))) (somes (actual_in call (get_or ports i d)))
    ∙ ap (λ ns. names ++ ns) (sym (ap somes (actuals_more call ports i d lt)
    ∙ map-append (λ n. Some n) (actuals_in call (take i ports)) (actual_in call (get_or ports i d)))))
    (add (names ++ somes (actuals_in call (take i ports))) (before names is))

-- ---- ports of a call

pub position_within : {X : Type 0} (p : X → Bool) (xs : List X) → IfSome (position p xs) (λ n. n < length xs)
position_within p xs = elim (cases_Bool (nat_lt (position_or_len p xs) (length xs))) [
  | inl lt ↦ subst (λ b. IfSome (cond b (Some (position_or_len p xs)) None) (λ n. n < length xs)) (sym lt)
      (ltb-true (position_or_len p xs) (length xs) lt)
  | inr ge ↦ subst (λ b. IfSome (cond b (Some (position_or_len p xs)) None) (λ n. n < length xs)) (sym ge) tt
]

pub port_within : (f : List ℕ) (keys : List (List ℕ)) (fs : List (List ℕ)) (at : Option ℕ) (ports : List (Option ℕ))
    → at ≡ position (bytes_eq f) keys → ports ≡ ports_for keys fs → IfSome at (λ n. n < length ports)
port_within f keys fs at ports e same =
    let size : length keys ≡ length ports = sym (ap length same ∙ length-map keys (λ n. position (bytes_eq n) fs)) in
    subst (λ o. IfSome o (λ n. n < length ports)) (sym e)
    (subst (λ k. IfSome (position (bytes_eq f) keys) (λ n. n < k)) size (position_within (bytes_eq f) keys))

pub port_step : (keys : List (List ℕ)) (ps : List Port) (i number : ℕ) (p : Port) (seen : List ℕ) (at : Option ℕ)
    (ports after : List (Option ℕ)) → IsDistinct bytes_eq keys → i < length ps → p ≡ get_or ps i p → number ≡ i
    → seen ≡ p.formal → at ≡ position (bytes_eq seen) keys → after ≡ noted ports at number
    → ports ≡ ports_for keys (map (λ q. q.formal) (take i ps))
    → after ≡ ports_for keys (map (λ q. q.formal) (take (i + 1) ps))
port_step keys ps i number p seen at ports after d lt is n s a f h =
    let fs = map (λ (q : Port). q.formal) (take i ps) in
    let size : number ≡ length fs = n
    ∙ sym (length-map (take i ps) (λ (q : Port). q.formal) ∙ (let l = length-take i ps in omega arith)) in
    let more : map (λ (q : Port). q.formal) (take (i + 1) ps) ≡ fs ++ p.formal ∷ [] =
    ap (map (λ (q : Port). q.formal)) (take_more ps i p lt ∙ ap (λ x. take i ps ++ x ∷ []) (sym is))
    ∙ map-append (λ (q : Port). q.formal) (take i ps) (p ∷ []) in
    f ∙ (λ j. noted (h j) ((a ∙ ap (λ t. position (bytes_eq t) keys) s) j) (size j))
    ∙ sym (port_more p.formal fs keys d) ∙ ap (ports_for keys) (sym more)

-- ---- the signals of a caller that a call joins

abbrev first_in : List Port → Option ℕ → List ℕ
first_in ports None = []
first_in ports (Some n) = slice_index_or (actual_at (slice_get ports n)) 0 []

first_next : (p : Port) (ports : List Port) (o : Option ℕ) → first_in (p ∷ ports) (next o) ≡ first_in ports o
first_next p ports None = refl
first_next p ports (Some n) = refl

actual_first : (f : List ℕ) (ports : List Port)
    → slice_index_or (map (λ q. q.actual) (filter (λ q. bytes_eq f q.formal) ports)) 0 [] ≡ first_in ports
    (position (bytes_eq f) (map (λ q. q.formal) ports))
actual_first f [] = refl
actual_first f (p ∷ ports) = turn (bytes_eq f p.formal) (actual_first f ports)
    ∙ ap (first_in (p ∷ ports)) (sym (position_cons (bytes_eq f) p.formal (map (λ (q : Port). q.formal) ports)))
  where
    turn : (b : Bool) → slice_index_or (map (λ q. q.actual) (filter (λ q. bytes_eq f q.formal) ports)) 0 [] ≡ first_in
        ports (position (bytes_eq f) (map (λ q. q.formal) ports))
        → slice_index_or (map (λ q. q.actual)
        (cond b (p ∷ filter (λ q. bytes_eq f q.formal) ports) (filter (λ q. bytes_eq f q.formal) ports))) 0 []
        ≡ first_in (p ∷ ports) (elim b as (λ (x : Bool). Option ℕ) [
          | true ↦ Some 0
          | false ↦ next
              (position (bytes_eq f) (map (λ q. q.formal) ports))
        ])
    turn true e = refl
    turn false e = e ∙ sym (first_next p ports (position (bytes_eq f) (map (λ (q : Port). q.formal) ports)))

in_so : (call : Call) (o : Option ℕ) → first_in call.ports o ≡ first_actual call o
in_so call None = refl
in_so call (Some n) = refl

-- the signal that a formal is joined to is that of its first port
pub actual_is : (call : Call) (f : List ℕ) → actual_of call f ≡ first_actual call (position (bytes_eq f) (formals call))
actual_is call f = actual_first f call.ports ∙ in_so call (position (bytes_eq f) (formals call))

one_or : (ports : List Port) (n : ℕ) → n < length ports
    → actual_at (slice_get ports n) ≡ slice_index_or (actual_at (slice_get ports n)) 0 [] ∷ []
one_or [] n lt = absurd (omega arith)
one_or (p ∷ ports) zero lt = refl
one_or (p ∷ ports) (suc n) lt = one_or ports n (omega arith)

-- the number is that of an item exactly where there is one
abbrev IsFound : List (List ℕ) → Option ℕ → Bool → Type 0
IsFound names (Some n) true = n < length names
IsFound names (Some n) false = ⊥
IsFound names None true = ⊥
IsFound names None false = Unit {0}

one_later : (names : List (List ℕ)) (name : List ℕ) (o : Option ℕ) (b : Bool) → IsFound names o b
    → IsFound (name ∷ names) (next o) b
one_later names name (Some n) true h = omega arith
one_later names name (Some n) false h = h
one_later names name None true h = h
one_later names name None false h = h

-- a formal with a port has an actual, and one without has none
position_defined : (f : List ℕ) (names : List (List ℕ)) (b : Bool) → list_any (bytes_eq f) names ≡ b
    → IsFound names (position (bytes_eq f) names) b
position_defined f [] true e = absurd (true≢false (sym e))
position_defined f [] false e = tt
position_defined f (n ∷ ns) b e = subst (λ o. IsFound (n ∷ ns) o b) (sym (position_cons (bytes_eq f) n ns))
    (turn (bytes_eq f n) b e (position_defined f ns (list_any (bytes_eq f) ns) refl))
  where
    turn : (here b : Bool) → here || list_any (bytes_eq f) ns ≡ b
        → IsFound ns (position (bytes_eq f) ns) (list_any (bytes_eq f) ns)
        → IsFound (n ∷ ns) (elim here as (λ (x : Bool). Option ℕ) [
          | true ↦ Some 0
          | false ↦ next
              (position (bytes_eq f) ns)
        ]) b
    turn true true e h = omega arith
    turn true false e h = absurd (true≢false e)
    turn false b e h = one_later ns n (position (bytes_eq f) ns) b (subst (IsFound ns (position (bytes_eq f) ns)) e h)

-- the signals that outputs are joined to
pub outputs_actuals : (call : Call) (outs : List (List ℕ))
    → actuals_in call (ports_for outs (formals call)) ≡ map (actual_of call) (filter (is_defined (formals call)) outs)
outputs_actuals call [] = refl
outputs_actuals call (o ∷ os) = by (is_defined (formals call) o) (position (bytes_eq o) (formals call))
    (position_defined o (formals call) (is_defined (formals call) o) refl) (actual_is call o) (outputs_actuals call os)
  where
    by : (b : Bool) (at : Option ℕ) → IsFound (formals call) at b → actual_of call o ≡ first_actual call at
        → actuals_in call (ports_for os (formals call)) ≡ map (actual_of call) (filter (is_defined (formals call)) os)
        → actual_in call at ++ actuals_in call (ports_for os (formals call)) ≡ map (actual_of call)
        (cond b (o ∷ filter (is_defined (formals call)) os) (filter (is_defined (formals call)) os))
    by true (Some n) lt is rest =
        let small : n < length call.ports = (let l = length-map call.ports (λ (q : Port). q.formal) in omega arith) in
        (λ i. one_or call.ports n small i ++ rest i)
        ∙ ap (λ a. a ∷ map (actual_of call) (filter (is_defined (formals call)) os)) (sym is)
    by true None none is rest = absurd none
    by false (Some n) none is rest = absurd none
    by false None none is rest = rest

-- the places of outputs that are joined
pub exits_joined : (at : List ℕ → ℕ) (fs outs : List (List ℕ))
    → exits_in (ports_for outs fs) (map at outs) ≡ map at (filter (is_defined fs) outs)
exits_joined at fs [] = refl
exits_joined at fs (o ∷ os) = by (is_defined fs o) (position (bytes_eq o) fs)
    (position_defined o fs (is_defined fs o) refl) (exits_joined at fs os)
  where
    by : (b : Bool) (port : Option ℕ) → IsFound fs port b
        → exits_in (ports_for os fs) (map at os) ≡ map at (filter (is_defined fs) os)
        → exits_in (port ∷ ports_for os fs) (at o ∷ map at os) ≡ map at
        (cond b (o ∷ filter (is_defined fs) os) (filter (is_defined fs) os))
    by true (Some n) lt rest = ap (λ es. at o ∷ es) rest
    by true None none rest = absurd none
    by false (Some n) none rest = absurd none
    by false None none rest = rest

-- the signals that inputs are joined to
pub inputs_actuals : (call : Call) (ins : List (List ℕ))
    → map (first_actual call) (ports_for ins (formals call)) ≡ map (actual_of call) ins
inputs_actuals call [] = refl
inputs_actuals call (i ∷ is) = let here = sym (actual_is call i) in (λ x. here x ∷ inputs_actuals call is x)

-- one output more
pub exits_more : (ports : List (Option ℕ)) (exits : List ℕ) (i : ℕ) (d : Option ℕ) → i < length ports
    → exits_in (take (i + 1) ports) exits ≡ exits_in (take i ports) exits ++ exits_in
    (get_or ports i d ∷ []) (get_or exits i 0 ∷ [])
exits_more [] exits i d lt = absurd (omega arith)
exits_more (None ∷ ports) [] zero d lt = refl
exits_more (Some n ∷ ports) [] zero d lt = refl
exits_more (None ∷ ports) (x ∷ exits) zero d lt = refl
exits_more (Some n ∷ ports) (x ∷ exits) zero d lt = refl
exits_more (None ∷ ports) [] (suc i) d lt = let s : suc i + 1 ≡ suc (i + 1) =
    omega arith in ap (λ k. exits_in (take k (None ∷ ports)) []) s ∙ exits_more ports [] i d (omega arith)
exits_more (Some n ∷ ports) [] (suc i) d lt = let s : suc i + 1 ≡ suc (i + 1) =
    omega arith in ap (λ k. exits_in (take k (Some n ∷ ports)) []) s
    ∙ ap (λ es. 0 ∷ es) (exits_more ports [] i d (omega arith))
exits_more (None ∷ ports) (x ∷ exits) (suc i) d lt = let s : suc i + 1 ≡ suc (i + 1) =
    omega arith in ap (λ k. exits_in (take k (None ∷ ports)) (x ∷ exits)) s ∙ exits_more ports exits i d (omega arith)
exits_more (Some n ∷ ports) (x ∷ exits) (suc i) d lt = let s : suc i + 1 ≡ suc (i + 1) =
    omega arith in ap (λ k. exits_in (take k (Some n ∷ ports)) (x ∷ exits)) s
    ∙ ap (λ es. x ∷ es) (exits_more ports exits i d (omega arith))
