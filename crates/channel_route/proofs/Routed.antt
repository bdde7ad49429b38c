-- What `assign` answers is what `route` promises.
use Rattle.std.proofs.Common.{◌≡◌, ℕ, ◌<◌, ltb, List, [], length, get_or, refl, sym, ap, subst, ◌∙◌, arith}
use Rattle.std.specs.List.{All, AllByRecursion}
use Rattle.std.proofs.lemmas.List.{get_or-map, length-map}
use Rattle.std.proofs.lemmas.List.Elements.{All-from_recursion, recursion_from_All}
use Rattle.std.proofs.lemmas.Grind.{same_number_lists}
use Rattle.rowed.specs.declared.wire.Wire.{Wire}
use Rattle.sorting.specs.Sorting.{by_key, Rising, EachPair}
use Rattle.sorting.proofs.SortingLaws.{by_key_all, all_by_key, by_key_pairs, by_key_length, by_key_passing}
use Rattle.sorting.proofs.SortingLaws.{rank_is_place}
use Rattle.channel_route.specs.declared.order.Numbered.{Numbered}
use Rattle.channel_route.specs.Code.Numbered.{numbered, low_of, ordered}
use Rattle.channel_route.specs.Crossing.{low, crosses, HasRoom, IsOver, EndsApart}
use Rattle.channel_route.specs.Tracks.{tracks, last_ends, last_column, route_of, rank, tracks_used, column_of}
use Rattle.channel_route.specs.Tracks.{AreTracks}
use Rattle.channel_route.specs.Routes.{IsPlan}
use Rattle.channel_route.specs.Code.Assigned.{wires_of, HaveTracks, AreAssigned}
use Rattle.channel_route.proofs.TracksApart.{rising_lows, route_is, track_at}
use Rattle.channel_route.proofs.Ordered.{ordered_wires, length-numbered, numbers_from, numbers_apart, rising_ones}
use Rattle.channel_route.proofs.Ordered.{own_wires, number_of}

-- what `assign` asks
pub asked_rising : (ws : List Wire) (ones items : List Numbered) → EndsApart ws → ones ≡ ordered ws → items ≡ ones
    → Rising low_of 0 items
asked_rising ws ones items apart is i = subst (Rising low_of 0) (sym (i ∙ is))
    (rising_ones 0 (ordered ws) (subst (Rising low 0) (sym (ordered_wires ws)) (rising_lows ws apart)))

pub asked_length : (ws : List Wire) (ones items : List Numbered) → ones ≡ ordered ws → items ≡ ones
    → length items ≡ length ws
asked_length ws ones items is i = ap (λ (l : List Numbered). length l) (i ∙ is) ∙ by_key_length low_of (numbered 0 ws)
    ∙ length-numbered 0 ws

pub asked_numbers : (ws : List Wire) (ones items : List Numbered) → ones ≡ ordered ws → items ≡ ones
    → All (λ one. one.number < length items) items
asked_numbers ws ones items is i =
    let h : AllByRecursion (λ one. one.number < length ws) (ordered ws) =
    by_key_all (λ one. one.number < length ws) low_of (numbered 0 ws)
    (numbers_from 0 (length ws) ws (omega arith)) in
    let h' = subst (λ (l : List Numbered). AllByRecursion (λ one. one.number < length ws) l) (sym (i ∙ is)) h in
    subst (λ (n : ℕ). All (λ one. one.number < n) items) (sym (asked_length ws ones items is i))
    (All-from_recursion (λ one. one.number < length ws) items h')

pub asked_apart : (ws : List Wire) (ones items : List Numbered) → ones ≡ ordered ws → items ≡ ones
    → EachPair (λ v w. v.number ≡ w.number → ⊥) items
asked_apart ws ones items is i = subst (λ (l : List Numbered). EachPair (λ v w. v.number ≡ w.number → ⊥) l)
    (sym (i ∙ is)) (by_key_pairs (λ v w. v.number ≡ w.number → ⊥) (λ v w ne e. ne (sym e)) low_of (numbered 0 ws)
    (numbers_apart 0 ws))

some_wire : Wire
some_wire = record { from_slot = 0; to_slot = 0; from_column = 0; to_column = 0 }

routed_at : (ws : List Wire) (track : List ℕ) → EndsApart ws → HaveTracks (ordered ws) track (length (ordered ws))
    → (k : ℕ) (d : Numbered) → k < length (ordered ws)
    → get_or track (get_or (ordered ws) k d).number 0 ≡ get_or (route_of ws) (get_or (ordered ws) k d).number 0
routed_at ws track apart placed k d lt =
    let ones = ordered ws in
    let one = get_or ones k d in
    let long : length ones ≡ length ws = by_key_length low_of (numbered 0 ws) ∙ length-numbered 0 ws in
    let small : one.number < length ws = All-from_recursion (λ o. o.number < length ws) ones
    (by_key_all (λ o. o.number < length ws) low_of (numbered 0 ws) (numbers_from 0 (length ws) ws (omega arith))) k
    d lt in
    let owns : (e : Wire) → get_or ws one.number e ≡ one.wire =
    All-from_recursion (λ o. (e : Wire) → get_or ws o.number e ≡ o.wire) ones
    (by_key_all (λ o. (e : Wire) → get_or ws o.number e ≡ o.wire) low_of (numbered 0 ws) (own_wires 0 [] ws refl)) k
    d lt in
    let wire_is : get_or (by_key low ws) k some_wire ≡ one.wire =
    ap (λ (l : List Wire). get_or l k some_wire) (sym (ordered_wires ws))
    ∙ get_or-map (λ o. o.wire) ones k d some_wire lt in
    let rank_is : rank ws one.wire ≡ k =
    ap (rank ws) (sym wire_is)
    ∙ sym (by_key_passing (λ v. ltb (low v) (low (get_or (by_key low ws) k some_wire))) low ws)
    ∙ rank_is_place low 0 (by_key low ws) (rising_lows ws apart) k some_wire
    (omega (arith, lt, long, by_key_length low ws)) in
    placed k d lt
    ∙ ap (λ (l : List Wire). get_or (tracks [] l) k 0) (ordered_wires ws)
    ∙ ap (λ (j : ℕ). get_or (tracks [] (by_key low ws)) j 0) (sym (ap (rank ws) (owns some_wire) ∙ rank_is))
    ∙ sym (track_at ws one.number some_wire small)

routed : (ws : List Wire) (track : List ℕ) → EndsApart ws → length track ≡ length ws
    → HaveTracks (ordered ws) track (length (ordered ws)) → track ≡ route_of ws
routed ws track apart len placed = same_number_lists track (route_of ws)
    (len ∙ sym (length-map ws (λ w. get_or (tracks [] (by_key low ws)) (rank ws w) 0))) each
  where
    P : Numbered → Type 0
    P o = get_or track o.number 0 ≡ get_or (route_of ws) o.number 0

    all : AllByRecursion P (numbered 0 ws)
    all = all_by_key P low_of (numbered 0 ws) (recursion_from_All P (ordered ws) (routed_at ws track apart placed))

    each : (k : ℕ) → k < length track → get_or track k 0 ≡ get_or (route_of ws) k 0
    each k lt =
        let d : Numbered = record { wire = some_wire; number = 0 } in
        let h = All-from_recursion P (numbered 0 ws) all k d (omega (arith, len, length-numbered 0 ws)) in
        subst (λ (j : ℕ). get_or track j 0 ≡ get_or (route_of ws) j 0)
        (number_of 0 ws k d (omega (arith, len)) ∙ omega arith) h

-- what `assign` answers is what `route` promises
pub track_kept : (ws : List Wire) (ones items : List Numbered) (capacity used column : ℕ) (track : List ℕ)
    → EndsApart ws → ones ≡ ordered ws → items ≡ ones → AreAssigned items capacity track used column
    → track ≡ route_of ws
track_kept ws ones items capacity used column track apart is i a =
    let a' = subst (λ (l : List Numbered). AreAssigned l capacity track used column) (i ∙ is) a in
    routed ws track apart (a'.one_each ∙ by_key_length low_of (numbered 0 ws) ∙ length-numbered 0 ws) a'.placed

pub tracks_kept : (ws : List Wire) (ones items : List Numbered) (capacity used column : ℕ) (track : List ℕ)
    → EndsApart ws → ones ≡ ordered ws → items ≡ ones → AreAssigned items capacity track used column
    → AreTracks ws track used column
tracks_kept ws ones items capacity used column track apart is i a =
    let a' = subst (λ (l : List Numbered). AreAssigned l capacity track used column) (i ∙ is) a in
    let u : used ≡ tracks_used ws = a'.used_is ∙ ap (λ (l : List Wire). length (last_ends [] l)) (ordered_wires ws) in
    let c : column ≡ column_of ws = a'.column_is ∙ ap (λ (l : List Wire). last_column [] 0 l) (ordered_wires ws) in
    rw (track_kept ws ones items capacity used column track apart is i a, u, c) (route_is ws apart)

pub plan_kept : (ws : List Wire) (ones items : List Numbered) (capacity used column : ℕ) (track : List ℕ) → EndsApart ws
    → ones ≡ ordered ws → items ≡ ones → AreAssigned items capacity track used column
    → IsPlan ws (record { track = track; used = used; column = column })
plan_kept ws ones items capacity used column track apart is i a =
    let a' = subst (λ (l : List Numbered). AreAssigned l capacity track used column) (i ∙ is) a in
    record {
      track_is = track_kept ws ones items capacity used column track apart is i a;
      used_is = a'.used_is ∙ ap (λ (l : List Wire). length (last_ends [] l)) (ordered_wires ws);
      column_is = a'.column_is ∙ ap (λ (l : List Wire). last_column [] 0 l) (ordered_wires ws);
    }

pub room_kept : (ws : List Wire) (ones items : List Numbered) (capacity used column : ℕ) (track : List ℕ) → EndsApart ws
    → ones ≡ ordered ws → items ≡ ones → AreAssigned items capacity track used column → HasRoom ws capacity
room_kept ws ones items capacity used column track apart is i a x =
    omega (arith, (tracks_kept ws ones items capacity used column track apart is i a).density.most x, a.within)

pub over_kept : (ws : List Wire) (ones items : List Numbered) (capacity column : ℕ) → ones ≡ ordered ws → items ≡ ones
    → IsOver (wires_of items) capacity column → IsOver ws capacity column
over_kept ws ones items capacity column is i o =
    let o' = subst (λ (l : List Wire). IsOver l capacity column) (ap wires_of (i ∙ is) ∙ ordered_wires ws) o in
    record {
      over = omega (arith, o'.over, by_key_passing (crosses column) low ws);
      least = λ x h. o'.least x (omega (arith, h, by_key_passing (crosses x) low ws));
    }
