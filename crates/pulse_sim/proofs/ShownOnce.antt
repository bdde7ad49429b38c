-- A circuit shows one list of answers at most, since it has a run of every length.
use Rattle.std.proofs.Common.{◌≡◌, ℕ, suc, ◌+◌, ◌*◌, Bool, true, false, List, [], ◌∷◌, map, get_or}
use Rattle.std.proofs.Common.{refl, sym, ◌∙◌, arith}
use Rattle.std.proofs.lemmas.List.{ext_get_or}
use Rattle.std.proofs.lemmas.Option.{slice_get-get_or}
use Rattle.circuit_extracted.specs.Circuits.{CircuitView, KeepsFacts}
use Rattle.pulse_sim.specs.Fluxes.{sign}
use Rattle.pulse_sim.specs.Shows.{Shows}
use Rattle.pulse_sim.specs.Settled.{settled_run}
use Rattle.pulse_sim.proofs.Settling.{legal}

one_sign : (b c : Bool) → sign b ≡ sign c → b ≡ c
one_sign true true e = refl
one_sign true false e = absurd cc
one_sign false true e = absurd cc
one_sign false false e = refl

one_word : (xs ys : List Bool) → map sign xs ≡ map sign ys → xs ≡ ys
one_word [] [] e = refl
one_word [] (y ∷ ys) e = absurd cc
one_word (x ∷ xs) [] e = absurd cc
one_word (x ∷ xs) (y ∷ ys) e =
    let head : x ≡ y = one_sign x y cc in
    let tail : xs ≡ ys = one_word xs ys cc in
    cc

pub shown_once : (circuit : CircuitView) (d : ℕ) (words answers others : List (List Bool)) → KeepsFacts circuit
    → Shows circuit d words answers → Shows circuit d words others → answers ≡ others
shown_once circuit d words answers others keeps one two =
    ext_get_or [] answers others (one.as_many ∙ sym two.as_many) (λ k lt.
    let long = one.as_many ∙ sym two.as_many in
    let n = suc (4 * k + d) in
    let run = settled_run circuit words in
    let is_run = legal circuit keeps words n in
    let a = one.shown n run is_run k (get_or answers k []) (slice_get-get_or answers k [] lt) (omega arith) in
    let b = two.shown n run is_run k (get_or others k []) (slice_get-get_or others k [] (omega arith)) (omega arith) in
    one_word (get_or answers k []) (get_or others k []) (sym a ∙ b))
