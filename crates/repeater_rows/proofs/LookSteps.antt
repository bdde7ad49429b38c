-- One window of a round is put in order, the next one that holds a wire.
use Rattle.std.proofs.Common.{◌≡◌, ℕ, zero, suc, ◌+◌, ◌-◌, ◌*◌, ◌/◌, ◌%◌, ◌^◌, ◌<◌, ◌≤◌, min, Bool, true, List, [], ◌∷◌}
use Rattle.std.proofs.Common.{◌++◌, length, take, drop, get_or, refl, sym, ap, ◌∙◌, subst, arith, append_assoc}
use Rattle.std.proofs.lemmas.List.{take-append-drop, length-append, length-drop, length-take, drop-drop, get_or-drop}
use Rattle.std.proofs.lemmas.List.{get_or-take}
use Rattle.std.proofs.Math.Nat.{div-add-mod, mul_comm}
use Rattle.sorting.specs.Sorting.{passing, in_order}
use Rattle.sorting.proofs.SortingLaws.{by_key_passing, by_key_length}
use Rattle.repeater_rows.specs.Rounds.{windows}
use Rattle.repeater_rows.specs.Repeaters.{carrier_slots}
use Rattle.repeater_rows.specs.Local.{UnwiredRise}
use Rattle.repeater_rows.specs.Code.Looking.{sorted_at, ordered_from, IsLooked}
use Rattle.repeater_rows.proofs.WindowOrder.{cut_front, cut_back, windows_skip, windows_first, windows_up}
use Rattle.repeater_rows.proofs.WindowOrder.{carriers_append, carriers_count, carriers_none, none_carried, NoneWired}
use Rattle.repeater_rows.proofs.WindowOrder.{FirstAt, first_carrier, none_before, some_passing, rise_up, rise_front}
use Rattle.repeater_rows.proofs.WindowOrder.{rise_back}
use Rattle.repeater_rows.proofs.Lists.{drop_0}

-- the carrier of the next window
pub next_carrier : (wired : ℕ → Bool) (size : ℕ) (whole carriers : List ℕ) (done : ℕ) (to slots : List ℕ)
    → IsLooked wired size whole carriers done to slots → length slots < length carriers
    → FirstAt wired done (drop done to) (get_or carriers (length slots) 0)
next_carrier wired size whole carriers done to slots known lt =
    let n = length slots in
    let here : get_or carriers n 0 ≡ get_or (drop n carriers) 0 0 = sym (get_or-drop n carriers 0 0
    ∙ ap (λ (k : ℕ). get_or carriers k 0) (omega arith)) in
    let same : get_or carriers n 0 ≡ get_or (carrier_slots wired done (drop done to)) 0 0 = here
    ∙ ap (λ (l : List ℕ). get_or l 0 0) known.ahead in
    let some : 0 < length (carrier_slots wired done (drop done to)) =
    omega (arith, ap length known.ahead, length-drop n carriers) in
    subst (FirstAt wired done (drop done to)) (sym same) (first_carrier wired done (drop done to) some)

-- the window in which it stands
pub record IsWindow (size done long slot left right : ℕ) : Type 0 where
  pub number : ℕ
  pub begins : left ≡ done + number * size
  pub not_past : left ≤ slot
  pub holds : slot < left + size
  pub ends : right ≡ min (left + size) long

pub window_is : (size done long slot left right : ℕ) → 0 < size → done ≤ slot → slot < long → long < 2 ^ 32
    → left ≡ slot - (slot - done) % size → right ≡ min (min (left + size) (2 ^ 64 - 1)) long
    → IsWindow size done long slot left right
window_is size done long slot left right some le lt few l r =
    let i = slot - done in
    let parts : size * (i / size) + i % size ≡ i = div-add-mod i size in
    let turn : (i / size) * size ≡ size * (i / size) = mul_comm (i / size) size in
    let small : i % size < size = omega arith in
    record {
      number = i / size;
      begins = omega arith;
      not_past = omega arith;
      holds = omega arith;
      ends = omega arith;
    }

-- what the window leaves
pub record IsStep (wired : ℕ → Bool) (size : ℕ) (whole carriers : List ℕ) (right : ℕ)
    (to slots slots' : List ℕ) : Type 0 where
  pub looked : IsLooked wired size whole carriers right to slots'
  pub more : length slots < length slots'

-- over the four parts of the slots: those that are done, windows without a wire, the window, and the rest
module _ (wired : ℕ → Bool) (size number : ℕ) (front skipped window rest carriers slots : List ℕ) where
  parts_gives : 0 < size → 0 < length window → length skipped ≡ number * size → take size (window ++ rest) ≡ window
      → drop size (window ++ rest) ≡ rest
      → NoneWired wired skipped → UnwiredRise wired (skipped ++ (window ++ rest))
      → windows size (length (skipped ++ (window ++ rest)))
      (skipped ++ (window ++ rest)) ≡ skipped ++ (in_order window ++ windows size (length rest) rest)
  parts_gives some long whole_windows first second none rise =
      let tail = window ++ rest in
      windows_skip size number (length (skipped ++ tail)) skipped tail some whole_windows
      (rise_up wired skipped none (rise_front wired skipped tail rise)) (omega (arith, length-append skipped tail))
      ∙ ap (λ (l : List ℕ). skipped ++ l) (windows_first size tail some (omega (arith, length-append window rest)))
      ∙ ap (λ (l : List ℕ). skipped ++ (in_order l ++ windows size (length (drop size tail)) (drop size tail))) first
      ∙ ap (λ (l : List ℕ). skipped ++ (in_order window ++ windows size (length l) l)) second

  parts_ahead : (slots' : List ℕ) → NoneWired wired skipped
      → drop (length slots) carriers ≡ carrier_slots wired (length front) (skipped ++ (window ++ rest))
      → slots' ≡ slots ++ carrier_slots wired (length front + length skipped) (in_order window)
      → drop (length slots') carriers ≡ carrier_slots wired (length front + length skipped + length window) rest
  parts_ahead slots' none ahead is =
      let b = length front in
      let here = carrier_slots wired (b + length skipped) window in
      let more = carrier_slots wired (b + length skipped + length window) rest in
      let count : length (carrier_slots wired (b + length skipped) (in_order window)) ≡ length here =
      carriers_count wired (b + length skipped) (in_order window) ∙ by_key_passing wired (λ (x : ℕ). x) window
      ∙ sym (carriers_count wired (b + length skipped) window) in
      let long : length slots' ≡ length slots + length here = ap length is
      ∙ length-append slots (carrier_slots wired (b + length skipped) (in_order window))
      ∙ ap (λ (k : ℕ). length slots + k) count in
      let split : carrier_slots wired b (skipped ++ (window ++ rest)) ≡ here ++ more =
      carriers_append wired b skipped (window ++ rest)
      ∙ ap (λ (l : List ℕ). l ++ carrier_slots wired (b + length skipped) (window ++ rest))
      (carriers_none wired b skipped none)
      ∙ carriers_append wired (b + length skipped) window rest in
      ap (λ (k : ℕ). drop k carriers) long ∙ sym (drop-drop (length here) (length slots) carriers)
      ∙ ap (drop (length here)) (ahead ∙ split) ∙ cut_back (length here) here more refl

  parts_noted : (slots' : List ℕ) → NoneWired wired skipped → slots ≡ carrier_slots wired 0 front
      → slots' ≡ slots ++ carrier_slots wired (length front + length skipped) (in_order window)
      → slots' ≡ carrier_slots wired 0 (front ++ (skipped ++ in_order window))
  parts_noted slots' none noted is =
      let b = length front in
      let z : 0 + b ≡ b = omega arith in
      is ∙ ap (λ (l : List ℕ). l ++ carrier_slots wired (b + length skipped) (in_order window)) noted
      ∙ sym (carriers_append wired 0 front (skipped ++ in_order window)
      ∙ ap (λ (k : ℕ). carrier_slots wired 0 front ++ carrier_slots wired k (skipped ++ in_order window)) z
      ∙ ap (λ (l : List ℕ). carrier_slots wired 0 front ++ l) (carriers_append wired b skipped (in_order window)
      ∙ ap (λ (l : List ℕ). l ++ carrier_slots wired (b + length skipped) (in_order window))
      (carriers_none wired b skipped none)))

take_min : {X : Type 0} (n : ℕ) (xs : List X) → take (min n (length xs)) xs ≡ take n xs
take_min zero xs = ap (λ (k : ℕ). take k xs) (let z : min 0 (length xs) ≡ 0 = omega arith in z)
take_min (suc n) [] = ap (λ (k : ℕ). take k []) (let z : min (suc n) 0 ≡ 0 = omega arith in z)
take_min {X} (suc n) (x ∷ xs) = ap (λ (k : ℕ). take k (x ∷ xs))
    (let z : min (suc n) (suc (length xs)) ≡ suc (min n (length xs)) = omega arith in z)
    ∙ ap (λ (l : List X). x ∷ l) (take_min n xs)

drop_min : {X : Type 0} (n : ℕ) (xs : List X) → drop (min n (length xs)) xs ≡ drop n xs
drop_min zero xs = ap (λ (k : ℕ). drop k xs) (let z : min 0 (length xs) ≡ 0 = omega arith in z)
drop_min (suc n) [] = ap (λ (k : ℕ). drop k []) (let z : min (suc n) 0 ≡ 0 = omega arith in z)
drop_min (suc n) (x ∷ xs) = ap (λ (k : ℕ). drop k (x ∷ xs))
    (let z : min (suc n) (suc (length xs)) ≡ suc (min n (length xs)) = omega arith in z) ∙ drop_min n xs

take_twice : (n : ℕ) (xs : List ℕ) → take n (take n xs ++ drop n xs) ≡ take n xs
take_twice n xs = ap (take n) (take-append-drop n xs)

drop_twice : (n : ℕ) (xs : List ℕ) → drop n (take n xs ++ drop n xs) ≡ drop n xs
drop_twice n xs = ap (drop n) (take-append-drop n xs)

-- the destinations by their four parts, before and after
pub record InParts (size : ℕ) (front skipped window rest : List ℕ) (done left right number : ℕ)
    (to : List ℕ) : Type 0 where
  pub long_front : length front ≡ done
  pub long_skipped : length skipped ≡ number * size
  pub begins : left ≡ length front + length skipped
  pub long_window : right ≡ left + length window
  pub all : to ≡ front ++ (skipped ++ (window ++ rest))
  pub first : take size (window ++ rest) ≡ window
  pub second : drop size (window ++ rest) ≡ rest

pub in_parts : (size done slot left right : ℕ) (to : List ℕ) → done ≤ slot → slot < length to
    → (w : IsWindow size done (length to) slot left right)
    → InParts size (take done to) (take (w.number * size) (drop done to))
    (take size (drop (w.number * size) (drop done to)))
    (drop size (drop (w.number * size) (drop done to))) done left right w.number to
in_parts size done slot left right to le lt w =
    let a = w.number * size in
    let tail = drop a (drop done to) in
    let b = w.begins in
    let n = w.not_past in
    let e = w.ends in
    let f : length (take done to) ≡ done = omega (arith, length-take done to) in
    let k : length (take a (drop done to)) ≡ a = omega (arith, length-take a (drop done to), length-drop done to) in
    record {
      long_front = f;
      long_skipped = k;
      begins = omega arith;
      long_window = omega (arith, length-take size tail, length-drop a (drop done to), length-drop done to);
      all = sym (take-append-drop done to)
          ∙ ap (λ (l : List ℕ). take done to ++ l) (sym (take-append-drop a (drop done to)))
          ∙ ap (λ (l : List ℕ). take done to ++ (take a (drop done to) ++ l)) (sym (take-append-drop size tail));
      first = take_twice size tail;
      second = drop_twice size tail;
    }

-- the window in order
pub sorted_parts : (size done left right number : ℕ) (front skipped window rest to : List ℕ)
    → InParts size front skipped window rest done left right number to
    → sorted_at left right to ≡ front ++ (skipped ++ (in_order window ++ rest))
sorted_parts size done left right number front skipped window rest to p =
    let long : length (front ++ skipped) ≡ left = length-append front skipped ∙ sym p.begins in
    let split : to ≡ (front ++ skipped) ++ (window ++ rest) = p.all
    ∙ sym (append_assoc front skipped (window ++ rest)) in
    let size_is : right - left ≡ length window = let e = p.long_window in omega arith in
    let before : take left to ≡ front ++ skipped = ap (take left) split
    ∙ cut_front left (front ++ skipped) (window ++ rest) long in
    let after : drop left to ≡ window ++ rest = ap (drop left) split
    ∙ cut_back left (front ++ skipped) (window ++ rest) long in
    ap (λ (l : List ℕ). l ++ (in_order (take (right - left) (drop left to)) ++ drop (right - left) (drop left to)))
    before
    ∙ ap (λ (l : List ℕ). (front ++ skipped) ++ (in_order (take (right - left) l) ++ drop (right - left) l)) after
    ∙ ap (λ (l : List ℕ). (front ++ skipped) ++ (in_order l ++ drop (right - left) (window ++ rest)))
    (cut_front (right - left) window rest (sym size_is))
    ∙ ap (λ (l : List ℕ). (front ++ skipped) ++ (in_order window ++ l))
    (cut_back (right - left) window rest (sym size_is))
    ∙ append_assoc front skipped (in_order window ++ rest)

-- one window of a round
pub look_step : (wired : ℕ → Bool) (size : ℕ) (whole carriers : List ℕ) (done slot left right : ℕ)
    (to slots to' slots' : List ℕ)
    → 0 < size → IsLooked wired size whole carriers done to slots
    → FirstAt wired done (drop done to) slot → slot < length to
    → IsWindow size done (length to) slot left right → to' ≡ sorted_at left right to
    → slots' ≡ slots ++ carrier_slots wired left (take (right - left) (drop left to'))
    → IsStep wired size whole carriers right to' slots slots'
look_step wired size whole carriers done slot left right to slots to' slots' some known at lt w sorted noted =
    let a = w.number * size in
    let front = take done to in
    let skipped = take a (drop done to) in
    let window = take size (drop a (drop done to)) in
    let rest = drop size (drop a (drop done to)) in
    let there = at.is_there in
    let b = w.begins in
    let n = w.not_past in
    let h = w.holds in
    let p : InParts size front skipped window rest done left right w.number to =
    in_parts size done slot left right to (omega arith) lt w in
    let none : NoneWired wired skipped = none_before wired a at.place (drop done to) (omega arith) at.before in
    let back : drop done to ≡ skipped ++ (window ++ rest) = ap (drop done) p.all
    ∙ cut_back done front (skipped ++ (window ++ rest)) p.long_front in
    let rise : UnwiredRise wired (skipped ++ (window ++ rest)) = subst (UnwiredRise wired) back known.rise in
    let now : to' ≡ front ++ (skipped ++ (in_order window ++ rest)) = sorted
    ∙ sorted_parts size done left right w.number front skipped window rest to p in
    let ordered : length (in_order window) ≡ length window = by_key_length (λ (x : ℕ). x) window in
    let f = p.long_front in
    let k = p.long_skipped in
    let l = p.begins in
    let r = p.long_window in
    let start : left ≡ length (front ++ skipped) = l ∙ sym (length-append front skipped) in
    let end : length (front ++ (skipped ++ in_order window)) ≡ right = length-append front (skipped ++ in_order window)
    ∙ omega (arith, length-append skipped (in_order window), ordered) in
    let whole_front : to' ≡ (front ++ (skipped ++ in_order window)) ++ rest = now
    ∙ ap (λ (q : List ℕ). front ++ q) (sym (append_assoc skipped (in_order window) rest))
    ∙ sym (append_assoc front (skipped ++ in_order window) rest) in
    let taken : take right to' ≡ front ++ (skipped ++ in_order window) = ap (take right) whole_front
    ∙ cut_front right (front ++ (skipped ++ in_order window)) rest end in
    let left_over : drop right to' ≡ rest = ap (drop right) whole_front
    ∙ cut_back right (front ++ (skipped ++ in_order window)) rest end in
    let from_left : drop left to' ≡ in_order window ++ rest = ap (drop left)
    (now ∙ sym (append_assoc front skipped (in_order window ++ rest)))
    ∙ cut_back left (front ++ skipped) (in_order window ++ rest) (sym start) in
    let size_is : length (in_order window) ≡ right - left = omega arith in
    let part : take (right - left) (drop left to') ≡ in_order window = ap (take (right - left)) from_left
    ∙ cut_front (right - left) (in_order window) rest size_is in
    let new_slots : slots' ≡ slots ++ carrier_slots wired (length front + length skipped) (in_order window) =
    noted ∙ ap (λ (q : List ℕ). slots ++ carrier_slots wired left q) part
    ∙ ap (λ (m : ℕ). slots ++ carrier_slots wired m (in_order window)) l in
    let there' : get_or (drop done to) at.place 0 ≡ get_or window (at.place - a) 0 =
    sym (get_or-take size (drop a (drop done to)) (at.place - a) 0 (omega arith)
    ∙ get_or-drop a (drop done to) (at.place - a) 0
    ∙ ap (λ (m : ℕ). get_or (drop done to) m 0) (let q : a + (at.place - a) ≡ at.place = omega arith in q)) in
    let inside = at.within in
    let in_window : at.place - a < length window =
    omega (arith, length-take size (drop a (drop done to)), length-drop a (drop done to), inside) in
    let one : 0 < passing wired window = some_passing wired window (at.place - a) in_window
    (subst (λ (d : ℕ). wired d ≡ true) there' at.wired_there) in
    let many : length slots' ≡ length slots + passing wired (in_order window) =
    ap length new_slots ∙ length-append slots (carrier_slots wired (length front + length skipped) (in_order window))
    ∙ ap (λ (m : ℕ). length slots + m) (carriers_count wired (length front + length skipped) (in_order window)) in
    let ahead : drop (length slots) carriers ≡ carrier_slots wired (length front) (skipped ++ (window ++ rest)) =
    known.ahead ∙ ap (λ (m : ℕ). carrier_slots wired m (drop done to)) (sym f)
    ∙ ap (carrier_slots wired (length front)) back in
    let gives : ordered_from size right to' ≡ whole =
    ap (λ (q : List ℕ). q ++ windows size (length (drop right to')) (drop right to')) taken
    ∙ ap (λ (q : List ℕ). (front ++ (skipped ++ in_order window)) ++ windows size (length q) q) left_over
    ∙ append_assoc front (skipped ++ in_order window) (windows size (length rest) rest)
    ∙ ap (λ (q : List ℕ). front ++ q) (append_assoc skipped (in_order window) (windows size (length rest) rest)
    ∙ sym (parts_gives wired size w.number front skipped window rest carriers slots some
    (omega arith) k p.first p.second none rise)
    ∙ ap (λ (q : List ℕ). windows size (length q) q) (sym back)) ∙ known.gives in
    record {
      looked = record {
        within = omega (arith, ap length whole_front, length-append (front ++ (skipped ++ in_order window)) rest, end);
        rise = subst (UnwiredRise wired) (sym left_over)
            (rise_back wired window rest (rise_back wired skipped (window ++ rest) rise));
        gives = gives;
        noted = parts_noted wired size w.number front skipped window rest carriers slots slots'
            none known.noted new_slots
            ∙ ap (carrier_slots wired 0) (sym taken);
        ahead = parts_ahead wired size w.number front skipped window rest carriers slots slots' none ahead new_slots
            ∙ ap (λ (m : ℕ). carrier_slots wired m rest)
            (let q : length front + length skipped + length window ≡ right = omega arith in q)
            ∙ ap (carrier_slots wired right) (sym left_over);
      };
      more = omega (arith, many, by_key_passing wired (λ (x : ℕ). x) window);
    }

-- before the first window, and after the last
pub look_first : (wired : ℕ → Bool) (size start done : ℕ) (carriers to : List ℕ) (slots : List ℕ) → UnwiredRise wired to
    → carriers ≡ carrier_slots wired 0 to
    → done ≡ min start (length to) → slots ≡ carrier_slots wired 0 (take (done - 0) (drop 0 to))
    → IsLooked wired size (ordered_from size start to) carriers done to slots
look_first wired size start done carriers to slots rise is e noted =
    let front = take done to in
    let rest = drop done to in
    let z : done - 0 ≡ done = omega arith in
    let f : length front ≡ done = omega (arith, length-take done to) in
    let here : slots ≡ carrier_slots wired 0 front = noted
    ∙ ap (λ (m : ℕ). carrier_slots wired 0 (take m (drop 0 to))) z
    ∙ ap (λ (q : List ℕ). carrier_slots wired 0 (take done q)) (drop_0 to) in
    let split : carriers ≡ carrier_slots wired 0 front ++ carrier_slots wired done rest =
    is ∙ ap (carrier_slots wired 0) (sym (take-append-drop done to)) ∙ carriers_append wired 0 front rest
    ∙ ap (λ (m : ℕ). carrier_slots wired 0 front ++ carrier_slots wired m rest)
    (let q : 0 + length front ≡ done = omega arith in q) in
    record {
      within = omega (arith, e);
      rise = rise_back wired front rest (subst (UnwiredRise wired) (sym (take-append-drop done to)) rise);
      gives = ap (λ (m : ℕ). take m to ++ windows size (length (drop m to)) (drop m to)) e
          ∙ ap (λ (q : List ℕ). q ++ windows size (length (drop (min start (length to)) to))
          (drop (min start (length to)) to)) (take_min start to)
          ∙ ap (λ (q : List ℕ). take start to ++ windows size (length q) q) (drop_min start to);
      noted = here;
      ahead = ap (drop (length slots)) split
          ∙ cut_back (length slots) (carrier_slots wired 0 front)
          (carrier_slots wired done rest) (sym (ap length here));
    }

pub look_last : (wired : ℕ → Bool) (size : ℕ) (whole carriers : List ℕ) (done : ℕ) (to slots : List ℕ)
    → IsLooked wired size whole carriers done to slots
    → length carriers ≤ length slots → (to ≡ whole) × (slots ≡ carrier_slots wired 0 to)
look_last wired size whole carriers done to slots known le =
    let front = take done to in
    let rest = drop done to in
    let empty : length (carrier_slots wired done rest) ≤ 0 =
    omega (arith, ap length known.ahead, length-drop (length slots) carriers) in
    let none : NoneWired wired rest = none_carried wired done rest empty in
    let f : length front ≡ done = (let w = known.within in omega (arith, length-take done to)) in (
      sym (take-append-drop done to)
          ∙ ap (λ (q : List ℕ). front ++ q)
          (sym (windows_up size (length rest) rest (rise_up wired rest none known.rise))) ∙ known.gives,
      known.noted ∙ sym (ap (carrier_slots wired 0) (sym (take-append-drop done to))
          ∙ carriers_append wired 0 front rest
          ∙ ap (λ (q : List ℕ). carrier_slots wired 0 front ++ q) (carriers_none wired (0 + length front) rest none)
          ∙ append_nil (carrier_slots wired 0 front)),
    )
  where
    append_nil : (xs : List ℕ) → xs ++ [] ≡ xs
    append_nil [] = refl
    append_nil (x ∷ xs) = ap (λ (l : List ℕ). x ∷ l) (append_nil xs)

-- the same, with the numbers that the code finds
pub record IsNext (wired : ℕ → Bool) (size done : ℕ) (carriers to slots : List ℕ) (n left right : ℕ) : Type 0 where
  pub at : FirstAt wired done (drop done to) (get_or carriers n 0)
  pub begun : done ≤ get_or carriers n 0
  pub inside : get_or carriers n 0 < length to
  pub window : IsWindow size done (length to) (get_or carriers n 0) left right
  pub order : left ≤ right

pub carrier_ahead : (wired : ℕ → Bool) (size : ℕ) (whole carriers : List ℕ) (done : ℕ) (to slots : List ℕ) (n : ℕ)
    → IsLooked wired size whole carriers done to slots
    → n ≡ length slots → n < length carriers → FirstAt wired done (drop done to) (get_or carriers n 0)
carrier_ahead wired size whole carriers done to slots n known e lt =
    subst (λ (m : ℕ). FirstAt wired done (drop done to) (get_or carriers m 0)) (sym e)
    (next_carrier wired size whole carriers done to slots known (omega arith))

pub next_is : (wired : ℕ → Bool) (size : ℕ) (whole carriers : List ℕ) (done : ℕ) (to slots : List ℕ)
    (n left right sum : ℕ) → IsLooked wired size whole carriers done to slots
    → 0 < size → length to < 2 ^ 32 → n ≡ length slots → n < length carriers
    → left ≡ get_or carriers n 0 - (get_or carriers n 0 - done) % size
    → sum ≡ min (left + size) (2 ^ 64 - 1) → right ≡ min sum (length to)
    → IsNext wired size done carriers to slots n left right
next_is wired size whole carriers done to slots n left right sum known some few e lt l s r =
    let at = carrier_ahead wired size whole carriers done to slots n known e lt in
    let there = at.is_there in
    let within = at.within in
    let begun : done ≤ get_or carriers n 0 = omega arith in
    let inside : get_or carriers n 0 < length to = omega (arith, length-drop done to) in
    let w = window_is size done (length to) (get_or carriers n 0) left right some begun inside few l (omega arith) in
    let p = w.not_past in
    let q = w.ends in
    record { at = at; begun = begun; inside = inside; window = w; order = omega arith }

pub stepped : (wired : ℕ → Bool) (size : ℕ) (whole carriers : List ℕ) (done : ℕ)
    (to slots to' slots' : List ℕ) (n left right : ℕ)
    → 0 < size → IsLooked wired size whole carriers done to slots
    → IsNext wired size done carriers to slots n left right → to' ≡ sorted_at left right to
    → slots' ≡ slots ++ carrier_slots wired left (take (right - left) (drop left to'))
    → IsStep wired size whole carriers right to' slots slots'
stepped wired size whole carriers done to slots to' slots' n left right some known next sorted noted =
    look_step wired size whole carriers done (get_or carriers n 0) left right to slots to' slots' some known next.at
    next.inside next.window sorted noted
