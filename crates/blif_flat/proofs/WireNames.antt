-- The names that the netlist keeps, one by one.
use Rattle.std.proofs.Common.{◌≡◌, ℕ, suc, ◌+◌, ◌<◌, List, [], ◌∷◌, ◌++◌, length, take, get_or, sym, ap, ◌∙◌, arith}
use Rattle.std.proofs.Common.{length-take}
use Rattle.std.proofs.lemmas.List.{length-map, map_more}
use Rattle.blif_flat.specs.Expansion.{Wire, kept_name, kept_names}
use Rattle.blif_flat.specs.declared.expansion.wires.Place.{Place}
use Rattle.blif_flat.specs.Code.Wired.{wire_of, wires_of}

kept_push : (n : ℕ) (ws : List Wire) (w : Wire) → kept_names n (ws ++ w ∷ [])
    ≡ kept_names n ws ++ kept_name (n + length ws) w ∷ []
kept_push n [] w = let e : n ≡ n + 0 = omega arith in ap (λ m. kept_name m w ∷ []) e
kept_push n (v ∷ ws) w =
    let e : n + 1 + length ws ≡ n + suc (length ws) = omega arith in
    ap (λ names. kept_name n v ∷ names) (kept_push (n + 1) ws w
    ∙ ap (λ m. kept_names (n + 1) ws ++ kept_name m w ∷ []) e)

-- one name more
pub kept_more : (places : List Place) (i number : ℕ) (d : Place) (old new : List (List ℕ)) (name : List ℕ)
    → i < length places → number ≡ i → name ≡ kept_name number (wire_of (get_or places i d))
    → new ≡ old ++ name ∷ [] → old ≡ kept_names 0 (wires_of (take i places))
    → new ≡ kept_names 0 (wires_of (take (i + 1) places))
kept_more places i number d old new name lt count is pushed before =
    let place = get_or places i d in
    let size : number ≡ 0 + length (wires_of (take i places)) =
    omega (arith, lt, count, length-map (take i places) wire_of, length-take i places) in
    pushed
    ∙ (λ j. before j ++ (is ∙ ap (λ m. kept_name m (wire_of place)) size) j ∷ [])
    ∙ sym (ap (kept_names 0) (map_more wire_of places i d lt)
    ∙ kept_push 0 (wires_of (take i places)) (wire_of place))
