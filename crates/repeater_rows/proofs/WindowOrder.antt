-- Windows put in order one after another, those without a wire left out.
use Rattle.std.proofs.Common.{◌≡◌, ℕ, zero, suc, ◌+◌, ◌-◌, ◌*◌, ◌<◌, ◌≤◌, Bool, true, false, cond, not, List, [], ◌∷◌}
use Rattle.std.proofs.Common.{◌++◌, length, take, drop, get_or, refl, sym, ap, ◌∙◌, subst, arith, append_assoc}
use Rattle.std.specs.List.{AllByRecursion}
use Rattle.std.proofs.lemmas.List.{take-append-drop, length-drop, length-take}
use Rattle.std.proofs.lemmas.List.Elements.{filter-append}
use Rattle.std.proofs.Math.Seq.{take-append_seam, drop-append_seam, drop-cons}
use Rattle.std.proofs.Math.Nat.{suc-mul}
use Rattle.std.specs.List.Sorted.{IsPermutation, IsSorted}
use Rattle.std.specs.Ordering.{nat_cmp}
use Rattle.std.proofs.lemmas.List.Sums.{length-filter}
use Rattle.std.proofs.lemmas.List.Sorted.{sum_by-IsPermutation}
use Rattle.sorting.specs.Sorting.{NotFalling, passing, in_order}
use Rattle.sorting.specs.Numbers.{Same}
use Rattle.sorting.proofs.SortingLaws.{by_key_is, by_key_in_order, by_key_same_key, same_in_order}
use Rattle.sorting.proofs.SortingLaws.{not_falling_from_sort, passing-yes, passing-no}
use Rattle.repeater_rows.specs.Rounds.{windows}
use Rattle.repeater_rows.specs.Repeaters.{carrier_slots}
use Rattle.repeater_rows.specs.Local.{unwired, UnwiredRise}
use Rattle.repeater_rows.proofs.RoundsLaws.{same_of_key}
use Rattle.repeater_rows.specs.Code.Looking.{sorted_at}

-- lists cut at a length
pub cut_front : {X : Type 0} (n : ℕ) (xs ys : List X) → length xs ≡ n → take n (xs ++ ys) ≡ xs
cut_front {X} n xs ys e = ap (λ (k : ℕ). take k (xs ++ ys)) (sym e) ∙ take-append_seam xs ys

pub cut_back : {X : Type 0} (n : ℕ) (xs ys : List X) → length xs ≡ n → drop n (xs ++ ys) ≡ ys
cut_back {X} n xs ys e = ap (λ (k : ℕ). drop k (xs ++ ys)) (sym e) ∙ drop-append_seam xs ys

-- lists in order, and their parts

lower_base : (a b : ℕ) (xs : List ℕ) → a ≤ b → NotFalling (λ (x : ℕ). x) b xs → NotFalling (λ (x : ℕ). x) a xs
lower_base a b [] le h = tt
lower_base a b (x ∷ xs) le h = (omega (arith, h.0), h.1)

pub up_front : (b : ℕ) (xs ys : List ℕ) → NotFalling (λ (x : ℕ). x) b (xs ++ ys) → NotFalling (λ (x : ℕ). x) b xs
up_front b [] ys h = tt
up_front b (x ∷ xs) ys h = (h.0, up_front x xs ys h.1)

pub up_back : (b : ℕ) (xs ys : List ℕ) → NotFalling (λ (x : ℕ). x) b (xs ++ ys) → NotFalling (λ (x : ℕ). x) 0 ys
up_back b [] ys h = lower_base 0 b ys (omega arith) h
up_back b (x ∷ xs) ys h = up_back x xs ys h.1

pub up_stays : (xs : List ℕ) → NotFalling (λ (x : ℕ). x) 0 xs → in_order xs ≡ xs
up_stays xs h = sym (by_key_is (λ (x : ℕ). x) 0 xs xs h (λ z. refl))

-- windows of nothing, of a list in order, and enough windows
windows_nil : (e n : ℕ) → windows e n [] ≡ []
windows_nil e zero = refl
windows_nil zero (suc n) = windows_nil zero n
windows_nil (suc e) (suc n) = windows_nil (suc e) n

none : {X : Type 0} (xs : List X) → length xs ≤ 0 → xs ≡ []
none [] le = refl
none (x ∷ xs) le = absurd (omega (arith, le))

pub windows_enough : (e n m : ℕ) (xs : List ℕ) → 0 < e → length xs ≤ n → length xs ≤ m → windows e n xs ≡ windows e m xs
windows_enough e zero m xs some le le' = let q = none xs le in ap (windows e 0) q ∙ sym (windows_nil e m)
    ∙ ap (windows e m) (sym q)
windows_enough e (suc n) zero xs some le le' = let q = none xs le' in ap (windows e (suc n)) q
    ∙ windows_nil e (suc n) ∙ sym q
windows_enough e (suc n) (suc m) xs some le le' =
    ap (λ (l : List ℕ). in_order (take e xs) ++ l)
    (windows_enough e n m (drop e xs) some (omega (arith, length-drop e xs)) (omega (arith, length-drop e xs)))

pub windows_up : (e n : ℕ) (xs : List ℕ) → NotFalling (λ (x : ℕ). x) 0 xs → windows e n xs ≡ xs
windows_up e zero xs h = refl
windows_up e (suc n) xs h =
    let parts = subst (NotFalling (λ (x : ℕ). x) 0) (sym (take-append-drop e xs)) h in
    ap (λ (l : List ℕ). l ++ windows e n (drop e xs)) (up_stays (take e xs) (up_front 0 (take e xs) (drop e xs) parts))
    ∙ ap (λ (l : List ℕ). take e xs ++ l) (windows_up e n (drop e xs) (up_back 0 (take e xs) (drop e xs) parts))
    ∙ take-append-drop e xs

-- whole windows in order at the front stay
pub windows_skip : (e j n : ℕ) (xs ys : List ℕ) → 0 < e → length xs ≡ j * e → NotFalling (λ (x : ℕ). x) 0 xs
    → length xs + length ys ≤ n
    → windows e n (xs ++ ys) ≡ xs ++ windows e (length ys) ys
windows_skip e zero n xs ys some long h le =
    let q : xs ≡ [] = none xs (omega (arith, long)) in
    ap (λ (l : List ℕ). windows e n (l ++ ys)) q
    ∙ windows_enough e n (length ys) ys some (omega arith) (omega arith)
    ∙ ap (λ (l : List ℕ). l ++ windows e (length ys) ys) (sym q)
windows_skip e (suc j) zero xs ys some long h le = absurd (omega (arith, suc-mul j e))
windows_skip e (suc j) (suc n) xs ys some long h le =
    let size : length xs ≡ e + j * e = omega (arith, long, suc-mul j e) in
    let front = take e xs in
    let back = drop e xs in
    let parts = subst (NotFalling (λ (x : ℕ). x) 0) (sym (take-append-drop e xs)) h in
    let here : length front ≡ e = omega (arith, length-take e xs, size) in
    let there : length back ≡ j * e = omega (arith, length-drop e xs, size) in
    let split : xs ++ ys ≡ front ++ (back ++ ys) = ap (λ (l : List ℕ). l ++ ys) (sym (take-append-drop e xs))
    ∙ append_assoc front back ys in
    ap (windows e (suc n)) split
    ∙ ap (λ (l : List ℕ). in_order l ++ windows e n (drop e (front ++ (back ++ ys))))
    (cut_front e front (back ++ ys) here)
    ∙ ap (λ (l : List ℕ). in_order front ++ windows e n l) (cut_back e front (back ++ ys) here)
    ∙ ap (λ (l : List ℕ). l ++ windows e n (back ++ ys)) (up_stays front (up_front 0 front back parts))
    ∙ ap (λ (l : List ℕ). front ++ l)
    (windows_skip e j n back ys some there (up_back 0 front back parts) (omega (arith, length-drop e xs)))
    ∙ sym (append_assoc front back (windows e (length ys) ys))
    ∙ ap (λ (l : List ℕ). l ++ windows e (length ys) ys) (take-append-drop e xs)

pub windows_first : (e : ℕ) (xs : List ℕ) → 0 < e → 0 < length xs
    → windows e (length xs) xs ≡ in_order (take e xs) ++ windows e (length (drop e xs)) (drop e xs)
windows_first e [] some long = absurd (omega arith)
windows_first e (x ∷ xs) some long =
    ap (λ (l : List ℕ). in_order (take e (x ∷ xs)) ++ l)
    (windows_enough e (length xs) (length (drop e (x ∷ xs))) (drop e (x ∷ xs)) some
    (omega (arith, length-drop e (x ∷ xs))) (omega arith))

-- carriers of a list and of its parts
pub carriers_append : (wired : ℕ → Bool) (b : ℕ) (xs ys : List ℕ)
    → carrier_slots wired b (xs ++ ys) ≡ carrier_slots wired b xs ++ carrier_slots wired (b + length xs) ys
carriers_append wired b [] ys = ap (λ (k : ℕ). carrier_slots wired k ys) (omega arith)
carriers_append wired b (x ∷ xs) ys =
    let shift : b + length (x ∷ xs) ≡ suc b + length xs = omega arith in
    go (wired x) refl (carriers_append wired (suc b) xs ys
    ∙ ap (λ (k : ℕ). carrier_slots wired (suc b) xs ++ carrier_slots wired k ys) (sym shift))
  where
    go : (t : Bool) → wired x ≡ t
        → carrier_slots wired (suc b) (xs ++ ys) ≡ carrier_slots wired
        (suc b) xs ++ carrier_slots wired (b + length (x ∷ xs)) ys
        → carrier_slots wired b ((x ∷ xs) ++ ys) ≡ carrier_slots wired b
        (x ∷ xs) ++ carrier_slots wired (b + length (x ∷ xs)) ys
    go true q rest = rw q (ap (λ (l : List ℕ). b ∷ l) rest)
    go false q rest = rw q rest

pub carriers_count : (wired : ℕ → Bool) (b : ℕ) (xs : List ℕ) → length (carrier_slots wired b xs) ≡ passing wired xs
carriers_count wired b [] = refl
carriers_count wired b (x ∷ xs) = go (wired x) refl (carriers_count wired (suc b) xs)
  where
    go : (t : Bool) → wired x ≡ t → length (carrier_slots wired (suc b) xs) ≡ passing wired xs
        → length (carrier_slots wired b (x ∷ xs)) ≡ passing wired (x ∷ xs)
    go true q rest = rw q (ap suc rest)
    go false q rest = rw q rest

-- no destination of the list is wired
abbrev pub NoneWired : (ℕ → Bool) → List ℕ → Type 0
NoneWired wired xs = AllByRecursion (λ (x : ℕ). wired x ≡ false) xs

pub carriers_none : (wired : ℕ → Bool) (b : ℕ) (xs : List ℕ) → NoneWired wired xs → carrier_slots wired b xs ≡ []
carriers_none wired b [] h = refl
carriers_none wired b (x ∷ xs) h = rw h.0 (carriers_none wired (suc b) xs h.1)

pub none_carried : (wired : ℕ → Bool) (b : ℕ) (xs : List ℕ) → length (carrier_slots wired b xs) ≤ 0 → NoneWired wired xs
none_carried wired b [] h = tt
none_carried wired b (x ∷ xs) h = go (wired x) refl (none_carried wired (suc b) xs)
  where
    go : (t : Bool) → wired x ≡ t → (length (carrier_slots wired (suc b) xs) ≤ 0 → NoneWired wired xs)
        → NoneWired wired (x ∷ xs)
    go true q rest = let k = rw q at h in absurd (omega (arith, k))
    go false q rest = let k = rw q at h in (q, rest k)

-- where the first carrier stands
pub record FirstAt (wired : ℕ → Bool) (b : ℕ) (xs : List ℕ) (slot : ℕ) : Type 0 where
  pub place : ℕ
  pub is_there : slot ≡ b + place
  pub within : place < length xs
  pub before : NoneWired wired (take place xs)
  pub wired_there : wired (get_or xs place 0) ≡ true

pub first_carrier : (wired : ℕ → Bool) (b : ℕ) (xs : List ℕ) → 0 < length (carrier_slots wired b xs)
    → FirstAt wired b xs (get_or (carrier_slots wired b xs) 0 0)
first_carrier wired b [] some = absurd (omega arith)
first_carrier wired b (x ∷ xs) some = go (wired x) refl (first_carrier wired (suc b) xs)
  where
    go : (t : Bool) → wired x ≡ t
        → (0 < length (carrier_slots wired (suc b) xs)
        → FirstAt wired (suc b) xs (get_or (carrier_slots wired (suc b) xs) 0 0))
        → FirstAt wired b (x ∷ xs) (get_or (carrier_slots wired b (x ∷ xs)) 0 0)
    go true q rest = record {
      place = 0;
      is_there = rw q (omega arith);
      within = omega arith;
      before = tt;
      wired_there = q;
    }
    go false q rest =
        let k = rw q at some in
        let h = rest k in
        record {
          place = suc h.place;
          is_there = rw q (omega (arith, h.is_there));
          within = omega (arith, h.within);
          before = (q, h.before);
          wired_there = h.wired_there;
        }

-- destinations without a wire
none_filter : (wired : ℕ → Bool) (xs : List ℕ) → NoneWired wired xs → unwired wired xs ≡ xs
none_filter wired [] h = refl
none_filter wired (x ∷ xs) h = rw h.0 (ap (λ (l : List ℕ). x ∷ l) (none_filter wired xs h.1))

pub rise_up : (wired : ℕ → Bool) (xs : List ℕ) → NoneWired wired xs → UnwiredRise wired xs
    → NotFalling (λ (x : ℕ). x) 0 xs
rise_up wired xs h rise = subst (NotFalling (λ (x : ℕ). x) 0) (none_filter wired xs h) rise

pub rise_front : (wired : ℕ → Bool) (xs ys : List ℕ) → UnwiredRise wired (xs ++ ys) → UnwiredRise wired xs
rise_front wired xs ys h = up_front 0 (unwired wired xs) (unwired wired ys)
    (subst (NotFalling (λ (x : ℕ). x) 0) (filter-append (λ (d : ℕ). not (wired d)) xs ys) h)

pub rise_back : (wired : ℕ → Bool) (xs ys : List ℕ) → UnwiredRise wired (xs ++ ys) → UnwiredRise wired ys
rise_back wired xs ys h = up_back 0 (unwired wired xs) (unwired wired ys)
    (subst (NotFalling (λ (x : ℕ). x) 0) (filter-append (λ (d : ℕ). not (wired d)) xs ys) h)

pub none_before : (wired : ℕ → Bool) (a i : ℕ) (xs : List ℕ) → a ≤ i → NoneWired wired (take i xs)
    → NoneWired wired (take a xs)
none_before wired zero i [] le h = tt
none_before wired zero i (x ∷ xs) le h = tt
none_before wired (suc a) zero xs le h = absurd (omega arith)
none_before wired (suc a) (suc i) [] le h = tt
none_before wired (suc a) (suc i) (x ∷ xs) le h = (h.0, none_before wired a i xs (omega arith) h.1)

-- a wired destination in a part
pub some_passing : (wired : ℕ → Bool) (xs : List ℕ) (i : ℕ) → i < length xs
    → wired (get_or xs i 0) ≡ true → 0 < passing wired xs
some_passing wired [] i lt q = absurd (omega arith)
some_passing wired (x ∷ xs) zero lt q = omega (arith, passing-yes wired x xs q)
some_passing wired (x ∷ xs) (suc i) lt q = go (wired x) refl (some_passing wired xs i (omega arith) q)
  where
    go : (t : Bool) → wired x ≡ t → 0 < passing wired xs → 0 < passing wired (x ∷ xs)
    go true r h = omega (arith, passing-yes wired x xs r)
    go false r h = omega (arith, passing-no wired x xs r, h)

-- what std's sort of a window gives
same_of_permutation : (xs ys : List ℕ) → IsPermutation xs ys → Same ys xs
same_of_permutation xs ys moved p = length-filter p ys ∙ sum_by-IsPermutation (λ (x : ℕ). cond (p x) 1 0) xs ys moved
    ∙ sym (length-filter p xs)

sort_gives : (xs ys : List ℕ) → IsPermutation xs ys → IsSorted nat_cmp ys → ys ≡ in_order xs
sort_gives xs ys moved sorted =
    same_in_order (λ (x : ℕ). x) 0 0 ys (in_order xs) (not_falling_from_sort (λ (x : ℕ). x) ys sorted)
    (by_key_in_order (λ (x : ℕ). x) xs)
    (λ n. same_of_key ys xs (same_of_permutation xs ys moved) n ∙ sym (by_key_same_key (λ (x : ℕ). x) n xs))

pub sorted_by_code : (left right : ℕ) (to part : List ℕ)
    → IsPermutation (take (right - left) (drop left to)) part → IsSorted nat_cmp part
    → take left to ++ (part ++ drop (right - left) (drop left to)) ≡ sorted_at left right to
sorted_by_code left right to part moved sorted =
    ap (λ (l : List ℕ). take left to ++ (l ++ drop (right - left) (drop left to)))
    (sort_gives (take (right - left) (drop left to)) part moved sorted)

-- the carriers of a part of the slots, from its first one on
part_next : (slot next right : ℕ) (to : List ℕ) → next ≡ slot + 1 → slot < right → right ≤ length to
    → take (right - slot) (drop slot to) ≡ get_or to slot 0 ∷ take (right - next) (drop next to)
part_next slot next right to e lt le =
    let more : right - slot ≡ suc (right - next) = omega arith in
    let here : drop slot to ≡ get_or to slot 0 ∷ drop next to = drop-cons to slot 0 (omega arith)
    ∙ ap (λ (n : ℕ). get_or to slot 0 ∷ drop n to) (let q : suc slot ≡ next = omega arith in q) in
    ap (λ (n : ℕ). take n (drop slot to)) more ∙ ap (take (suc (right - next))) here

pub note_wired : (wired : ℕ → Bool) (slot next right : ℕ) (to slots slots' whole : List ℕ) → next ≡ slot + 1
    → slot < right → right ≤ length to
    → slots ++ carrier_slots wired slot (take (right - slot) (drop slot to)) ≡ whole → wired (get_or to slot 0) ≡ true
    → slots' ≡ slots ++ (slot ∷ [])
    → slots' ++ carrier_slots wired next (take (right - next) (drop next to)) ≡ whole
note_wired wired slot next right to slots slots' whole e lt le so test is =
    let n : next ≡ suc slot = omega arith in
    let rest = take (right - next) (drop next to) in
    let cell : carrier_slots wired slot (get_or to slot 0 ∷ rest) ≡ slot ∷ carrier_slots wired
    (suc slot) rest = rw test refl in
    ap (λ (l : List ℕ). l ++ carrier_slots wired next rest) is
    ∙ append_assoc slots (slot ∷ []) (carrier_slots wired next rest)
    ∙ ap (λ (k : ℕ). slots ++ (slot ∷ carrier_slots wired k rest)) n
    ∙ ap (λ (l : List ℕ). slots ++ l) (sym cell)
    ∙ ap (λ (l : List ℕ). slots ++ carrier_slots wired slot l) (sym (part_next slot next right to e lt le)) ∙ so

pub note_unwired : (wired : ℕ → Bool) (slot next right : ℕ) (to slots slots' whole : List ℕ) → next ≡ slot + 1
    → slot < right → right ≤ length to
    → slots ++ carrier_slots wired slot (take (right - slot) (drop slot to)) ≡ whole
    → wired (get_or to slot 0) ≡ false → slots' ≡ slots
    → slots' ++ carrier_slots wired next (take (right - next) (drop next to)) ≡ whole
note_unwired wired slot next right to slots slots' whole e lt le so test is =
    let n : next ≡ suc slot = omega arith in
    let rest = take (right - next) (drop next to) in
    let cell : carrier_slots wired slot (get_or to slot 0 ∷ rest) ≡ carrier_slots wired
    (suc slot) rest = rw test refl in
    ap (λ (l : List ℕ). l ++ carrier_slots wired next rest) is
    ∙ ap (λ (k : ℕ). slots ++ carrier_slots wired k rest) n
    ∙ ap (λ (l : List ℕ). slots ++ l) (sym cell)
    ∙ ap (λ (l : List ℕ). slots ++ carrier_slots wired slot l) (sym (part_next slot next right to e lt le)) ∙ so
