-- Two nodes are joined, or it is told that no heights have them so.
use Rattle.std.proofs.Common.{◌≡◌, ℕ, ◌+◌, ◌<◌, ◌≤◌, List, length, arith, refl, ap, sym, ◌∙◌, subst, inl, inr}
use Rattle.std.specs.Prelude.{slice_index}
use Rattle.std.proofs.lemmas.Bool.{cases_eq}
use Rattle.union_find.specs.Forests.{Forest, Obeys, IsJoined, IsRefused, AreLeast}
use Rattle.union_find.specs.Code.Shapes.{IsShaped, IsForest, MayHang, MayBeHung, IsFound, Unites, Rises}
use Rattle.union_find.specs.Code.Shapes.{IsGrounded}
use Rattle.union_find.proofs.Written.{room_of}

-- two nodes that are to be joined: their roots and heights, as they are found, and the root of the ground
pub record Ends : Type 0 where
  pub trees : Forest
  pub upper : ℕ
  pub lower : ℕ
  pub rise : ℕ
  pub upper_root : ℕ
  pub lower_root : ℕ
  pub upper_height : ℕ
  pub lower_height : ℕ
  pub ground : ℕ
  pub rise_few : rise ≤ 1
  pub high : IsFound trees upper upper_root upper_height
  pub low : IsFound trees lower lower_root lower_height
  pub is_ground : (h root : ℕ → ℕ) → IsShaped trees h root → root 0 ≡ ground

-- the trees of the two roots rise so that the nodes stand as they are to
abbrev AreRises : Ends → ℕ → ℕ → ℕ → ℕ → Type 0
AreRises x r c ya yb = Rises x.upper_root x.lower_root x.upper_height (x.lower_height + x.rise) x.ground r c ya yb

node_positive : (f : Forest) (h root : ℕ → ℕ) → IsShaped f h root → (s : ℕ) → s < f.count → (root s ≡ root 0 → ⊥)
    → 0 < h s
node_positive f h root shaped s lt apart = elim (cases_eq s 0) [
  | inl e ↦ absurd (apart (ap root e))
  | inr ne ↦ shaped.obeys.positive s (omega (arith, ne)) lt
]

may_hang : (x : Ends) (ya yb : ℕ) → (x.upper_root ≡ x.lower_root → ⊥) → AreRises x x.upper_root x.lower_root ya yb
    → (h root : ℕ → ℕ) → IsShaped x.trees h root → MayHang x.trees h root x.upper_root x.lower_root ya yb
may_hang x ya yb apart up h root shaped =
    let high = x.high.shaped h root shaped in
    let low = x.low.shaped h root shaped in
    let g = x.is_ground h root shaped in
    let in_a = shaped.within x.upper x.high.from in
    let in_b = shaped.within x.lower x.low.from in
    let size_a : x.trees.size (root x.upper) ≡ x.trees.size x.upper_root = ap x.trees.size high.0 in
    let size_b : x.trees.size (root x.lower) ≡ x.trees.size x.lower_root = ap x.trees.size low.0 in
    let meet = up.meet in
    record {
      r_below = x.high.below;
      c_below = x.low.below;
      r_root = x.high.is_root;
      c_root = x.low.is_root;
      apart = apart;
      r_rises = elim (cases_eq x.ground x.upper_root) [
        | inl is ↦ let none = up.a_ground is in omega (arith, none)
        | inr ne ↦
            let some = node_positive x.trees h root shaped x.upper x.high.from (λ p. ne (sym g ∙ sym p ∙ high.0)) in
            elim up.one [
              | inl none ↦ omega (arith, none)
              | inr none ↦ let few = x.rise_few in omega (arith, none, meet, some, high.1, low.1, in_b, size_b)
            ]
      ];
      c_rises = elim up.one [
        | inl none ↦ omega (arith, none, meet, high.1, in_a, size_a)
        | inr none ↦ omega (arith, none)
      ];
      r_ground = λ p. up.a_ground (sym g ∙ p);
      c_ground = λ p. up.b_ground (sym g ∙ p);
      one_stays = up.one;
    }

-- heights of two nodes, by those of their roots
by_root : {f : Forest} {s r n : ℕ} → (k : ℕ → ℕ) → Obeys f k → IsFound f s r n → k s + f.height r ≡ k r + n
by_root {f} {s} {r} {n} k obeys found =
    let shaped = found.known.shaped in
    let is = found.shaped found.known.h found.known.root shaped in
    let here = shaped.at_root r found.below found.is_root in
    let top = shaped.height_is r found.below found.is_root in
    let same = shaped.together k obeys s r found.from found.below (is.0 ∙ sym here) in
    omega (arith, same, top, is.1)

joined : (x : Ends) (g : Forest) (ya yb : ℕ) → AreRises x x.upper_root x.lower_root ya yb
    → Unites x.trees g x.upper_root x.lower_root ya yb → IsJoined x.trees g x.upper x.lower x.rise
joined x g ya yb up unites =
    let meet = up.meet in
    record {
      count_is = unites.count_is;
      back = unites.back;
      higher = λ k obeys.
          let old = unites.back k obeys in
          let one = by_root k old x.high in
          let two = by_root k old x.low in
          let differ = unites.differ k obeys in
          omega (arith, one, two, differ, meet);
      forth = λ k old higher.
          let one = by_root k old x.high in
          let two = by_root k old x.low in
          unites.forth k old (omega (arith, one, two, higher, meet));
    }

-- where both stand in one tree, it is known how they differ
same_tree : (x : Ends) → x.upper_root ≡ x.lower_root → (k : ℕ → ℕ) → Obeys x.trees k
    → k x.upper + x.lower_height ≡ k x.lower + x.upper_height
same_tree x same k obeys =
    let s = x.high.known.shaped in
    let high = x.high.shaped x.high.known.h x.high.known.root s in
    let low = x.low.shaped x.high.known.h x.high.known.root s in
    let t = s.together k obeys x.upper x.lower x.high.from x.low.from (high.0 ∙ same ∙ sym low.0) in
    omega (arith, t, high.1, low.1)

pub joined_there : (x : Ends) → x.upper_root ≡ x.lower_root → x.upper_height ≡ x.lower_height + x.rise
    → IsJoined x.trees x.trees x.upper x.lower x.rise
joined_there x same is = record {
  count_is = refl;
  back = λ k obeys. obeys;
  higher = λ k obeys. let t = same_tree x same k obeys in omega (arith, t, is);
  forth = λ k obeys higher. obeys;
}

pub refused_there : (x : Ends) → x.upper_root ≡ x.lower_root → (x.upper_height ≡ x.lower_height + x.rise → ⊥)
    → IsRefused x.trees x.upper x.lower x.rise
refused_there x same ne = record {
  none = λ k obeys higher.
      let t = same_tree x same k obeys in
      ne (omega (arith, t, higher));
}

-- in the tree of the ground heights are fixed, and in another one they are at least those above its lowest node
at_least : (f : Forest) (h root : ℕ → ℕ) → IsShaped f h root → (k : ℕ → ℕ) → Obeys f k → (s : ℕ) → s < f.count
    → h s ≤ k s
at_least f h root shaped k known s lt = elim (cases_eq (root s) (root 0)) [
  | inl e ↦
      let t = shaped.together k known s 0 lt shaped.some e in
      omega (arith, t, shaped.obeys.base, known.base)
  | inr ne ↦
      let low = shaped.lowest s lt ne in
      let t = shaped.together k known s low.node lt low.below (sym low.here) in
      let some : 0 < low.node = elim (cases_eq low.node 0) [
        | inl is ↦
            let zero_high : h low.node ≡ h 0 = ap h is in
            let one = low.one in
            absurd (omega (arith, zero_high, one, shaped.obeys.base))
        | inr not ↦ omega (arith, not)
      ] in
      let pos = known.positive low.node some low.below in
      let one = low.one in
      omega (arith, t, pos, one)
]

fixed : (f : Forest) (h root : ℕ → ℕ) → IsShaped f h root → (k : ℕ → ℕ) → Obeys f k → (s : ℕ) → s < f.count
    → root s ≡ root 0 → k s ≡ h s
fixed f h root shaped k known s lt e =
    let t = shaped.together k known s 0 lt shaped.some e in
    omega (arith, t, shaped.obeys.base, known.base)

refused_at : (x : Ends) → IsGrounded x.upper_root x.lower_root x.upper_height (x.lower_height + x.rise) x.ground
    → (k : ℕ → ℕ) → Obeys x.trees k → k x.upper ≡ k x.lower + x.rise → ⊥
refused_at x grounded k obeys higher =
    let s = x.high.known.shaped in
    let h = x.high.known.h in
    let root = x.high.known.root in
    let high = x.high.shaped h root s in
    let low = x.low.shaped h root s in
    let g = x.is_ground h root s in
    let high_least = at_least x.trees h root s k obeys x.upper x.high.from in
    let low_least = at_least x.trees h root s k obeys x.lower x.low.from in
    elim grounded [
      | inl p ↦
          let is = fixed x.trees h root s k obeys x.upper x.high.from (high.0 ∙ sym p.0 ∙ sym g) in
          let less = p.1 in
          omega (arith, is, less, low_least, higher, high.1, low.1)
      | inr p ↦
          let is = fixed x.trees h root s k obeys x.lower x.low.from (low.0 ∙ sym p.0 ∙ sym g) in
          let less = p.1 in
          omega (arith, is, less, high_least, higher, high.1, low.1)
    ]

pub refused : (x : Ends) → IsGrounded x.upper_root x.lower_root x.upper_height (x.lower_height + x.rise) x.ground
    → IsRefused x.trees x.upper x.lower x.rise
refused x grounded = record {
  none = refused_at x grounded;
}

-- the heights that are found are the least

pub are_least : (f : Forest) (heights : List ℕ) → IsForest f → length heights ≡ f.count
    → ((h root : ℕ → ℕ) → IsShaped f h root → (s : ℕ) → s < f.count → slice_index heights s ≡ h s) → AreLeast f heights
are_least f heights known long each =
    let s = known.shaped in
    let is = each known.h known.root s in
    record {
      long = long;
      obey = record {
        base = is 0 s.some ∙ s.obeys.base;
        positive = λ n pos lt. let here = is n lt in let p = s.obeys.positive n pos lt in omega (arith, here, p);
        linked = λ n lt.
            let here = is n lt in
            let up = is (f.parent n) (s.parent_below n lt) in
            let l = s.obeys.linked n lt in
            omega (arith, here, up, l);
      };
      least = λ k obeys n lt.
          let here = is n lt in
          let l = at_least f known.h known.root s k obeys n lt in
          omega (arith, here, l);
    }

abbrev pub ends_of : {f : Forest} {upper lower rise a b e d base n : ℕ} → rise ≤ 1 → IsFound f upper a e
    → IsFound f lower b d → IsFound f 0 base n → Ends
ends_of {f} {upper} {lower} {rise} {a} {b} {e} {d} {base} {n} few high low found = record {
  trees = f;
  upper = upper;
  lower = lower;
  rise = rise;
  upper_root = a;
  lower_root = b;
  upper_height = e;
  lower_height = d;
  ground = base;
  rise_few = few;
  high = high;
  low = low;
  is_ground = λ h root shaped. (found.shaped h root shaped).0;
}

pub turned : (f g : Forest) (r c yr yc : ℕ) → Unites f g c r yc yr → Unites f g r c yr yc
turned f g r c yr yc unites = record {
  count_is = unites.count_is;
  back = unites.back;
  differ = λ k obeys. sym (unites.differ k obeys);
  forth = λ k obeys d. unites.forth k obeys (sym d);
}

-- the same, for the roots as they are told

told : {A B E W G r c ya yb : ℕ} → Rises A B E W G r c ya yb → Rises A B E W G A B ya yb
told up = record {
  first = refl;
  second = refl;
  meet = up.meet;
  one = up.one;
  a_ground = up.a_ground;
  b_ground = up.b_ground;
}

pub told_may : (x : Ends) {r c ya yb : ℕ} → (x.upper_root ≡ x.lower_root → ⊥) → AreRises x r c ya yb
    → MayBeHung x.trees r c ya yb
told_may x {r} {c} {ya} {yb} apart up =
    let may = room_of x.trees x.upper_root x.lower_root ya yb x.high.known (may_hang x ya yb apart (told up)) in
    subst (λ (n : ℕ). MayBeHung x.trees n c ya yb) (sym up.first)
    (subst (λ (n : ℕ). MayBeHung x.trees x.upper_root n ya yb) (sym up.second) may)

pub told_joined : (x : Ends) {g : Forest} {r c ya yb : ℕ} → AreRises x r c ya yb → Unites x.trees g r c ya yb
    → IsJoined x.trees g x.upper x.lower x.rise
told_joined x {g} {r} {c} {ya} {yb} up unites =
    joined x g ya yb (told up)
    (subst (λ (n : ℕ). Unites x.trees g n x.lower_root ya yb) up.first
    (subst (λ (n : ℕ). Unites x.trees g r n ya yb) up.second unites))
