-- The slots of ports as the code finds them.
use Rattle.std.proofs.Common.{◌≡◌, ℕ, zero, suc, ◌+◌, ◌-◌, ◌<◌, ◌≤◌, Bool, true, false, refl, sym, ap, ◌∙◌, arith, List}
use Rattle.std.proofs.Common.{◌∷◌, length, map, drop, Option, Some, None, get_or, replicate, slice_get, slice_set}
use Rattle.std.proofs.lemmas.Bool.{eq-eqb, ne_eqb}
use Rattle.sorting.specs.Numbers.{numbers}
use Rattle.layout_make.specs.Spots.{Spot, has_port}
use Rattle.layout_make.specs.declared.marks.Ports.{Ports}
use Rattle.layout_make.specs.Code.Labelling.{port_of, port_slot, port_slots}
use Rattle.layout_make.proofs.RowCode.{drop_at, drop_all}

pub many : {B : Type 0} (f : ℕ → B) (k count : ℕ) → length (map f (numbers k count)) ≡ count
many f k zero = refl
many f k (suc count) = ap suc (many f (suc k) count)

pub map_at : {B : Type 0} (f : ℕ → B) (k count n : ℕ) (d : B) → n < count → get_or (map f (numbers k count)) n d ≡ f
    (k + n)
map_at f k zero n d lt = absurd (omega arith)
map_at f k (suc count) zero d lt = ap f (let h : k ≡ k + zero = omega arith in h)
map_at f k (suc count) (suc n) d lt = map_at f (suc k) count n d (omega arith)
    ∙ ap f (let h : suc k + n ≡ k + suc n = omega arith in h)

same_maps : {B : Type 0} (f g : ℕ → B) (k count : ℕ) → ((m : ℕ) → m < k + count → f m ≡ g m)
    → map f (numbers k count) ≡ map g (numbers k count)
same_maps f g k zero same = refl
same_maps {B} f g k (suc count) same = ap (λ (y : B). y ∷ map f (numbers (suc k) count)) (same k (omega arith))
    ∙ ap (λ (ys : List B). g k ∷ ys) (same_maps f g (suc k) count (λ m lt. same m (omega arith)))

set_one : {B : Type 0} (f g : ℕ → B) (k count n : ℕ) (v : B) → n < count → v ≡ g (k + n)
    → ((m : ℕ) → (m ≡ k + n → ⊥) → f m ≡ g m) → slice_set (map f (numbers k count)) n v ≡ map g (numbers k count)
set_one f g k zero n v lt is same = absurd (omega arith)
set_one {B} f g k (suc count) zero v lt is same =
    ap (λ (y : B). y ∷ map f (numbers (suc k) count)) (is ∙ ap g (let h : k + zero ≡ k = omega arith in h))
    ∙ ap (λ (ys : List B). g k ∷ ys) (later f g (suc k) count (λ m le. same m (λ e. absurd (omega arith))))
  where
    later : {B : Type 0} (f g : ℕ → B) (k count : ℕ) → ((m : ℕ) → k ≤ m → f m ≡ g m)
        → map f (numbers k count) ≡ map g (numbers k count)
    later f g k zero same = refl
    later {B} f g k (suc count) same = ap (λ (y : B). y ∷ map f (numbers (suc k) count)) (same k (omega arith))
        ∙ ap (λ (ys : List B). g k ∷ ys) (later f g (suc k) count (λ m le. same m (omega arith)))
set_one {B} f g k (suc count) (suc n) v lt is same =
    ap (λ (y : B). y ∷ slice_set (map f (numbers (suc k) count)) n v) (same k (λ e. absurd (omega arith)))
    ∙ ap (λ (ys : List B). g k ∷ ys)
    (set_one f g (suc k) count n v (omega arith) (is ∙ ap g (let h : k + suc n ≡ suc k + n = omega arith in h))
    (λ m ne. same m (λ e. ne (omega arith))))

-- a cell more, at the left of the others

hit : (b : Ports) (x : Spot) (xs : List Spot) (port : ℕ) → port_of b x.cell ≡ Some port
    → x.slot ≡ port_slot b (x ∷ xs) port
hit b x xs port e = let h : has_port (port_of b x.cell) port ≡ true = ap (λ (o : Option ℕ). has_port o port) e
    ∙ eq-eqb port port refl in ap (λ (t : Bool). elim t [ true ↦ x.slot | false ↦ port_slot b xs port ]) (sym h)

missed : (b : Ports) (x : Spot) (xs : List Spot) (m : ℕ) → has_port (port_of b x.cell) m ≡ false
    → port_slot b xs m ≡ port_slot b (x ∷ xs) m
missed b x xs m h = ap (λ (t : Bool). elim t [ true ↦ x.slot | false ↦ port_slot b xs m ]) (sym h)

ahead : (xs : List Spot) (n : ℕ) (x : Spot) → 0 < n → slice_get xs (n - 1) ≡ Some x → x ∷ drop n xs ≡ drop (n - 1) xs
ahead xs n x some at =
    sym (drop_at xs (n - 1) x at ∙ ap (λ (m : ℕ). x ∷ drop m xs) (let h : n - 1 + 1 ≡ n = omega arith in h))

pub port_set : (b : Ports) (xs : List Spot) (n count port : ℕ) (x : Spot) (slots : List ℕ) → 0 < n
    → slice_get xs (n - 1) ≡ Some x → port_of b x.cell ≡ Some port → port < count
    → slots ≡ port_slots b (drop n xs) count → slice_set slots port x.slot ≡ port_slots b (drop (n - 1) xs) count
port_set b xs n count port x slots some at e lt is =
    ap (λ (ys : List ℕ). slice_set ys port x.slot) is
    ∙ set_one (port_slot b (drop n xs)) (port_slot b (x ∷ drop n xs)) 0 count port x.slot lt
    (hit b x (drop n xs) port e ∙ ap (port_slot b (x ∷ drop n xs)) (let h : port ≡ 0 + port = omega arith in h))
    (λ m ne. missed b x (drop n xs) m
    (ap (λ (o : Option ℕ). has_port o m) e ∙ ne_eqb port m (λ k. ne (omega arith))))
    ∙ ap (λ (ys : List Spot). port_slots b ys count) (ahead xs n x some at)

pub port_past : (b : Ports) (xs : List Spot) (n count port : ℕ) (x : Spot) (slots : List ℕ) → 0 < n
    → slice_get xs (n - 1) ≡ Some x → port_of b x.cell ≡ Some port → count ≤ port
    → slots ≡ port_slots b (drop n xs) count → slots ≡ port_slots b (drop (n - 1) xs) count
port_past b xs n count port x slots some at e le is =
    is ∙ same_maps (port_slot b (drop n xs)) (port_slot b (x ∷ drop n xs)) 0 count
    (λ m lt. missed b x (drop n xs) m
    (ap (λ (o : Option ℕ). has_port o m) e ∙ ne_eqb port m (λ k. absurd (omega arith))))
    ∙ ap (λ (ys : List Spot). port_slots b ys count) (ahead xs n x some at)

pub port_none : (b : Ports) (xs : List Spot) (n count : ℕ) (x : Spot) (slots : List ℕ) → 0 < n
    → slice_get xs (n - 1) ≡ Some x → port_of b x.cell ≡ None → slots ≡ port_slots b (drop n xs) count
    → slots ≡ port_slots b (drop (n - 1) xs) count
port_none b xs n count x slots some at e is =
    is ∙ same_maps (port_slot b (drop n xs)) (port_slot b (x ∷ drop n xs)) 0 count
    (λ m lt. missed b x (drop n xs) m (ap (λ (o : Option ℕ). has_port o m) e))
    ∙ ap (λ (ys : List Spot). port_slots b ys count) (ahead xs n x some at)

zeros : (k count : ℕ) → replicate {A = ℕ} count 0 ≡ map (λ (m : ℕ). 0) (numbers k count)
zeros k zero = refl
zeros k (suc count) = ap (λ (ys : List ℕ). 0 ∷ ys) (zeros (suc k) count)

pub port_start : (b : Ports) (xs : List Spot) (n count : ℕ) (slots : List ℕ) → length xs ≤ n
    → slots ≡ replicate {A = ℕ} count 0 → slots ≡ port_slots b (drop n xs) count
port_start b xs n count slots le is = is ∙ zeros 0 count ∙ ap (λ (ys : List Spot). port_slots b ys count)
    (sym (drop_all xs n le))

pub slot_read : (b : Ports) (xs : List Spot) (count n value : ℕ) (slots : List ℕ) → slots ≡ port_slots b xs count
    → n < count → value ≡ get_or slots n value → value ≡ port_slot b xs n
slot_read b xs count n value slots is lt read = read ∙ ap (λ (ys : List ℕ). get_or ys n value) is
    ∙ map_at (port_slot b xs) 0 count n value lt ∙ ap (port_slot b xs) (let h : 0 + n ≡ n = omega arith in h)
