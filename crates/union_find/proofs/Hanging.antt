-- One tree is hung on the root of another, both lifted as a whole: what the tables keep then, and what heights they
-- allow.
use Rattle.std.proofs.Common.{◌≡◌, ℕ, ◌+◌, ◌<◌, ◌≤◌, cond, List, length, arith, refl, ap, sym, ◌∙◌, subst, inl, inr}
use Rattle.std.specs.Prelude.{eqb, slice_index, slice_set}
use Rattle.std.proofs.lemmas.Bool.{cond-true, cond-false, cases_eq}
use Rattle.std.proofs.lemmas.Bool.Decides.{eqb_tells}
use Rattle.std.proofs.lemmas.List.{get_or-set_same, get_or-set_other, length-set}
use Rattle.std.proofs.lemmas.List.Sums.{sum_by-set}
use Rattle.union_find.specs.Forests.{Forest, Obeys}
use Rattle.union_find.specs.Code.Shapes.{Lowest, IsShaped, AreSizes, IsForest, MayHang}

-- x at c, and another number elsewhere
abbrev pub at : ℕ → ℕ → ℕ → ℕ → ℕ
at c x other t = cond (eqb t c) x other

pub at_there : (c x other t : ℕ) → t ≡ c → at c x other t ≡ x
at_there c x other t e = elim (eqb_tells t c) [
  | inl p ↦ cond-true (eqb t c) x other p.0
  | inr p ↦ absurd (p.1 e)
]

pub at_apart : (c x other t : ℕ) → (t ≡ c → ⊥) → at c x other t ≡ other
at_apart c x other t e = elim (eqb_tells t c) [
  | inl p ↦ absurd (e p.1)
  | inr p ↦ cond-false (eqb t c) x other p.0
]

-- the tree of root c is hung on root r; its heights rise by yc, and those of the tree of r by yr
pub record IsHung (f g : Forest) (r c yr yc : ℕ) : Type 0 where
  pub count_is : g.count ≡ f.count
  pub parent_c : g.parent c ≡ r
  pub parent_other : (s : ℕ) → (s ≡ c → ⊥) → g.parent s ≡ f.parent s
  pub above_c : g.above c + (f.height r + yr) ≡ f.height c + yc + f.count
  pub above_other : (s : ℕ) → (s ≡ c → ⊥) → g.above s ≡ f.above s
  pub height_r : g.height r ≡ f.height r + yr
  pub height_other : (s : ℕ) → (s ≡ r → ⊥) → g.height s ≡ f.height s
  pub size_r : g.size r ≡ f.size r + f.size c
  pub size_other : (s : ℕ) → (s ≡ r → ⊥) → g.size s ≡ f.size s

-- The tree of a root, the child, is hung on another root, and both rise as a whole, one of them by nothing: the trees
-- before and after, and the heights and roots of the nodes before.
pub record Hanging : Type 0 where
  pub old : Forest
  pub new : Forest
  pub heights : ℕ → ℕ
  pub roots : ℕ → ℕ
  pub root : ℕ
  pub child : ℕ
  pub root_rise : ℕ
  pub child_rise : ℕ
  pub shaped : IsShaped old heights roots
  pub may : MayHang old heights roots root child root_rise child_rise
  pub hung : IsHung old new root child root_rise child_rise

-- how far a tree rises, by its root
rise : Hanging → ℕ → ℕ
rise x t = at x.child x.child_rise (at x.root x.root_rise 0 t) t

rise_c : (x : Hanging) (t : ℕ) → t ≡ x.child → rise x t ≡ x.child_rise
unfolding rise
rise_c x t e = at_there x.child x.child_rise (at x.root x.root_rise 0 t) t e

rise_r : (x : Hanging) (t : ℕ) → t ≡ x.root → rise x t ≡ x.root_rise
unfolding rise
rise_r x t e = at_apart x.child x.child_rise (at x.root x.root_rise 0 t) t (λ p. x.may.apart (sym e ∙ p)) ∙ at_there
    x.root x.root_rise 0 t e

rise_none : (x : Hanging) (t : ℕ) → (t ≡ x.root → ⊥) → (t ≡ x.child → ⊥) → rise x t ≡ 0
unfolding rise
rise_none x t ne nc = at_apart x.child x.child_rise (at x.root x.root_rise 0 t) t nc ∙ at_apart x.root
    x.root_rise 0 t ne

-- the new heights and roots
lifted : Hanging → ℕ → ℕ
lifted x s = x.heights s + rise x (x.roots s)

moved : Hanging → ℕ → ℕ
moved x s = at x.child x.root (x.roots s) (x.roots s)

lifted_is : (x : Hanging) (s : ℕ) → lifted x s ≡ x.heights s + rise x (x.roots s)
unfolding lifted
lifted_is x s = refl

moved_c : (x : Hanging) (s : ℕ) → x.roots s ≡ x.child → moved x s ≡ x.root
unfolding moved
moved_c x s e = at_there x.child x.root (x.roots s) (x.roots s) e

moved_other : (x : Hanging) (s : ℕ) → (x.roots s ≡ x.child → ⊥) → moved x s ≡ x.roots s
unfolding moved
moved_other x s e = at_apart x.child x.root (x.roots s) (x.roots s) e

-- where a node's root stands: it is c, or r, or neither
data Where (r c t : ℕ) : Type 0 where
  in_c : t ≡ c → Where r c t
  in_r : (t ≡ c → ⊥) → t ≡ r → Where r c t
  apart : (t ≡ c → ⊥) → (t ≡ r → ⊥) → Where r c t

which : (x : Hanging) (t : ℕ) → Where x.root x.child t
which x t = elim (cases_eq t x.child) [
  | inl e ↦ in_c e
  | inr ne ↦ elim (cases_eq t x.root) [ inl e ↦ in_r ne e | inr nr ↦ apart ne nr ]
]

-- what is the same before and after

above_root : (x : Hanging) (s : ℕ) → s < x.old.count → x.old.parent s ≡ s → x.old.above s ≡ x.old.count
above_root x s lt e =
    let linked = x.shaped.obeys.linked s lt in
    let same : x.heights (x.old.parent s) ≡ x.heights s = ap x.heights e in
    omega (arith, linked, same)

-- heights that obey the new trees obey the old ones, and differ at the two roots as is told; and back

pub back : (x : Hanging) (k : ℕ → ℕ) → Obeys x.new k → Obeys x.old k
back x k known = record {
  base = known.base;
  positive = λ s pos lt. known.positive s pos (omega (arith, x.hung.count_is));
  linked = λ s lt. elim (cases_eq s x.child) [
    | inl e ↦
        let up = above_root x s lt (ap x.old.parent e ∙ x.may.c_root ∙ sym e) in
        let same : k (x.old.parent s) ≡ k s = ap k (ap x.old.parent e ∙ x.may.c_root ∙ sym e) in
        omega (arith, up, same)
    | inr ne ↦
        let linked = known.linked s (omega (arith, x.hung.count_is)) in
        let same : k (x.new.parent s) ≡ k (x.old.parent s) = ap k (x.hung.parent_other s ne) in
        let rise = x.hung.above_other s ne in
        omega (arith, linked, same, rise, x.hung.count_is)
  ];
}

pub differs : (x : Hanging) (k : ℕ → ℕ) → Obeys x.new k
    → k x.child + (x.heights x.root + x.root_rise) ≡ k x.root + (x.heights x.child + x.child_rise)
differs x k known =
    let linked = known.linked x.child (let b = x.may.c_below in omega (arith, x.hung.count_is)) in
    let same : k (x.new.parent x.child) ≡ k x.root = ap k x.hung.parent_c in
    let at_r = x.shaped.height_is x.root x.may.r_below x.may.r_root in
    let at_c = x.shaped.height_is x.child x.may.c_below x.may.c_root in
    omega (arith, linked, same, at_r, at_c, x.hung.above_c, x.hung.count_is)

pub forth : (x : Hanging) (k : ℕ → ℕ) → Obeys x.old k
    → k x.child + (x.heights x.root + x.root_rise) ≡ k x.root + (x.heights x.child + x.child_rise) → Obeys x.new k
forth x k known rise = record {
  base = known.base;
  positive = λ s pos lt. known.positive s pos (omega (arith, x.hung.count_is));
  linked = λ s lt. elim (cases_eq s x.child) [
    | inl e ↦
        let at_r = x.shaped.height_is x.root x.may.r_below x.may.r_root in
        let at_c = x.shaped.height_is x.child x.may.c_below x.may.c_root in
        let same : k (x.new.parent s) ≡ k x.root = ap k (ap x.new.parent e ∙ x.hung.parent_c) in
        let here : k s ≡ k x.child = ap k e in
        let up : x.new.above s ≡ x.new.above x.child = ap x.new.above e in
        omega (arith, rise, at_r, at_c, same, here, up, x.hung.above_c, x.hung.count_is)
    | inr ne ↦
        let linked = known.linked s (omega (arith, x.hung.count_is)) in
        let same : k (x.new.parent s) ≡ k (x.old.parent s) = ap k (x.hung.parent_other s ne) in
        let up = x.hung.above_other s ne in
        omega (arith, linked, same, up, x.hung.count_is)
  ];
}

-- the lifted heights

ground_stays : (x : Hanging) → rise x (x.roots 0) ≡ 0
ground_stays x = elim (which x (x.roots 0)) [
  | in_c e ↦ rise_c x (x.roots 0) e ∙ x.may.c_ground e
  | in_r ne e ↦ rise_r x (x.roots 0) e ∙ x.may.r_ground e
  | apart ne nr ↦ rise_none x (x.roots 0) nr ne
]

lifted_old : (x : Hanging) → Obeys x.old (lifted x)
lifted_old x = record {
  base =
      let is = lifted_is x 0 in
      let none = ground_stays x in
      omega (arith, is, none, x.shaped.obeys.base);
  positive = λ s pos lt.
      let is = lifted_is x s in
      omega (arith, is, x.shaped.obeys.positive s pos lt);
  linked = λ s lt.
      let is = lifted_is x s in
      let upper = lifted_is x (x.old.parent s) in
      let same : rise x (x.roots (x.old.parent s)) ≡ rise x (x.roots s) =
      ap (rise x) (x.shaped.along s lt) in
      omega (arith, is, upper, same, x.shaped.obeys.linked s lt);
}

-- the heights of the two roots
lifted_r : (x : Hanging) → lifted x x.root ≡ x.heights x.root + x.root_rise
lifted_r x =
    let here = x.shaped.at_root x.root x.may.r_below x.may.r_root in
    lifted_is x x.root ∙ ap (λ (n : ℕ). x.heights x.root + n) (rise_r x (x.roots x.root) here)

lifted_c : (x : Hanging) → lifted x x.child ≡ x.heights x.child + x.child_rise
lifted_c x =
    let here = x.shaped.at_root x.child x.may.c_below x.may.c_root in
    lifted_is x x.child ∙ ap (λ (n : ℕ). x.heights x.child + n) (rise_c x (x.roots x.child) here)

lifted_new : (x : Hanging) → Obeys x.new (lifted x)
lifted_new x =
    let at_r = lifted_r x in
    let at_c = lifted_c x in
    forth x (lifted x)
    (lifted_old x) (omega (arith, at_r, at_c))

-- what a node's new root is, by its old one
new_root_is : (x : Hanging) (s : ℕ) → s < x.old.count → x.new.parent (moved x s) ≡ moved x s
new_root_is x s lt = elim (cases_eq (x.roots s) x.child) [
  | inl e ↦
      let is = moved_c x s e in
      ap x.new.parent is ∙ x.hung.parent_other x.root x.may.apart ∙ x.may.r_root ∙ sym is
  | inr ne ↦
      let is = moved_other x s ne in
      ap x.new.parent is ∙ x.hung.parent_other (x.roots s) ne ∙ x.shaped.root_is s lt ∙ sym is
]

new_root_below : (x : Hanging) (s : ℕ) → s < x.old.count → moved x s < x.old.count
new_root_below x s lt = elim (cases_eq (x.roots s) x.child) [
  | inl e ↦ let is = moved_c x s e in let b = x.may.r_below in omega (arith, is)
  | inr ne ↦ let is = moved_other x s ne in omega (arith, is, x.shaped.root_below s lt)
]

-- equal roots have equal new ones
moved_same : (x : Hanging) (s t : ℕ) → x.roots s ≡ x.roots t → moved x s ≡ moved x t
moved_same x s t e = elim (cases_eq (x.roots s) x.child) [
  | inl p ↦ moved_c x s p ∙ sym (moved_c x t (sym e ∙ p))
  | inr ne ↦ moved_other x s ne ∙ e ∙ sym (moved_other x t (λ p. ne (e ∙ p)))
]

new_along : (x : Hanging) (s : ℕ) → s < x.old.count → moved x (x.new.parent s) ≡ moved x s
new_along x s lt = elim (cases_eq s x.child) [
  | inl e ↦
      let here = x.shaped.at_root x.child x.may.c_below x.may.c_root in
      let there = x.shaped.at_root x.root x.may.r_below x.may.r_root in
      ap (moved x) (ap x.new.parent e ∙ x.hung.parent_c)
      ∙ moved_other x x.root (λ p. x.may.apart (sym there ∙ p)) ∙ there
      ∙ sym (moved_c x s (ap x.roots e ∙ here))
  | inr ne ↦ ap (moved x) (x.hung.parent_other s ne) ∙ moved_same x (x.old.parent s) s (x.shaped.along s lt)
]

new_at_root : (x : Hanging) (s : ℕ) → s < x.old.count → x.new.parent s ≡ s → moved x s ≡ s
new_at_root x s lt is = elim (cases_eq s x.child) [
  | inl e ↦ absurd (x.may.apart (sym x.hung.parent_c ∙ ap x.new.parent (sym e) ∙ is ∙ e))
  | inr ne ↦
      let here = x.shaped.at_root s lt (sym (x.hung.parent_other s ne) ∙ is) in
      moved_other x s (λ p. ne (sym here ∙ p)) ∙ here
]

new_height : (x : Hanging) (s : ℕ) → s < x.old.count → x.new.parent s ≡ s → x.new.height s ≡ lifted x s
new_height x s lt is = elim (cases_eq s x.child) [
  | inl e ↦ absurd (x.may.apart (sym x.hung.parent_c ∙ ap x.new.parent (sym e) ∙ is ∙ e))
  | inr ne ↦
      let old : x.old.parent s ≡ s = sym (x.hung.parent_other s ne) ∙ is in
      let here = x.shaped.at_root s lt old in
      elim (cases_eq s x.root) [
        | inl e ↦
            let up = x.shaped.height_is x.root x.may.r_below x.may.r_root in
            let lift = lifted_r x in
            ap x.new.height e ∙ x.hung.height_r ∙ ap (λ (n : ℕ). n + x.root_rise) up ∙ sym lift ∙ sym (ap (lifted x) e)
        | inr nr ↦
            let none = rise_none x (x.roots s) (λ p. nr (sym here ∙ p)) (λ p. ne (sym here ∙ p)) in
            let lift = lifted_is x s in
            let up = x.shaped.height_is s lt old in
            let same = x.hung.height_other s nr in
            omega (arith, none, lift, up, same)
      ]
]

-- sizes

new_size_least : (x : Hanging) (s : ℕ) → x.old.size s ≤ x.new.size s
new_size_least x s = elim (cases_eq s x.root) [
  | inl e ↦
      let new : x.new.size s ≡ x.old.size x.root + x.old.size x.child = ap x.new.size e ∙ x.hung.size_r in
      let old : x.old.size s ≡ x.old.size x.root = ap x.old.size e in
      omega (arith, new, old)
  | inr ne ↦ let same = x.hung.size_other s ne in omega (arith, same)
]

new_within : (x : Hanging) (s : ℕ) → s < x.old.count → lifted x s ≤ x.new.size (moved x s)
new_within x s lt =
    let is = lifted_is x s in
    let old = x.shaped.within s lt in
    elim (which x (x.roots s)) [
      | in_c e ↦
          let up = rise_c x (x.roots s) e in
          let new : x.new.size (moved x s) ≡ x.old.size x.root + x.old.size x.child =
          ap x.new.size (moved_c x s e) ∙ x.hung.size_r in
          let here : x.old.size (x.roots s) ≡ x.old.size x.child = ap x.old.size e in
          let most = x.may.c_rises in
          omega (arith, is, old, up, new, here, most)
      | in_r ne e ↦
          let up = rise_r x (x.roots s) e in
          let new : x.new.size (moved x s) ≡ x.old.size x.root + x.old.size x.child =
          ap x.new.size (moved_other x s ne ∙ e) ∙ x.hung.size_r in
          let here : x.old.size (x.roots s) ≡ x.old.size x.root = ap x.old.size e in
          let most = x.may.r_rises in
          omega (arith, is, old, up, new, here, most)
      | apart ne nr ↦
          let up = rise_none x (x.roots s) nr ne in
          let new : x.new.size (moved x s) ≡ x.old.size (x.roots s) =
          ap x.new.size (moved_other x s ne) ∙ x.hung.size_other (x.roots s) nr in
          omega (arith, is, old, up, new)
    ]

new_rising : (x : Hanging) (s : ℕ) → s < x.old.count → (x.new.parent s ≡ s → ⊥)
    → x.new.size s < x.new.size (x.new.parent s)
new_rising x s lt moves = elim (cases_eq s x.child) [
  | inl e ↦
      let up : x.new.size (x.new.parent s) ≡ x.old.size x.root + x.old.size x.child =
      ap x.new.size (ap x.new.parent e ∙ x.hung.parent_c) ∙ x.hung.size_r in
      let low : x.new.size s ≡ x.old.size x.child =
      ap x.new.size e ∙ x.hung.size_other x.child (λ p. x.may.apart (sym p)) in
      let some = x.shaped.some_size x.root x.may.r_below in
      omega (arith, up, low, some)
  | inr ne ↦
      let old : x.old.parent s ≡ s → ⊥ = λ p. moves (x.hung.parent_other s ne ∙ p) in
      let rising = x.shaped.rising s lt old in
      let up : x.new.size (x.new.parent s) ≡ x.new.size (x.old.parent s) = ap x.new.size (x.hung.parent_other s ne) in
      let least = new_size_least x (x.old.parent s) in
      let low = x.hung.size_other s (λ e. old (ap x.old.parent e ∙ x.may.r_root ∙ sym e)) in
      omega (arith, rising, up, least, low)
]

new_in_root : (x : Hanging) (s : ℕ) → s < x.old.count → x.new.size s ≤ x.new.size (moved x s)
new_in_root x s lt = elim (cases_eq s x.root) [
  | inl e ↦
      let here : x.roots s ≡ x.root = ap x.roots e ∙ x.shaped.at_root x.root x.may.r_below x.may.r_root in
      let to : moved x s ≡ s = moved_other x s (λ p. x.may.apart (sym here ∙ p)) ∙ here ∙ sym e in
      let same : x.new.size (moved x s) ≡ x.new.size s = ap x.new.size to in
      omega (arith, same)
  | inr ne ↦
      let old = x.shaped.in_root s lt in
      let here = x.hung.size_other s ne in
      elim (cases_eq (x.roots s) x.child) [
        | inl e ↦
            let new : x.new.size (moved x s) ≡ x.old.size x.root + x.old.size x.child =
            ap x.new.size (moved_c x s e) ∙ x.hung.size_r in
            let at_c : x.old.size (x.roots s) ≡ x.old.size x.child = ap x.old.size e in
            omega (arith, old, here, new, at_c)
        | inr nc ↦
            let new : x.new.size (moved x s) ≡ x.new.size (x.roots s) = ap x.new.size (moved_other x s nc) in
            let least = new_size_least x (x.roots s) in
            omega (arith, old, here, new, least)
      ]
]

-- the lowest node of a tree that is not the ground's

stays_low : (x : Hanging) (node t : ℕ) → x.heights node ≡ 1 → x.roots node ≡ t → rise x t ≡ 0 → lifted x node ≡ 1
stays_low x node t one here none =
    let is = lifted_is x node in
    let up : rise x (x.roots node) ≡ rise x t = ap (rise x) here in
    omega (arith, is, up, none, one)

low_in_c : (x : Hanging) (to : ℕ) → Lowest x.old x.heights x.roots x.child → x.child_rise ≡ 0
    → to ≡ x.root → Lowest x.new (lifted x) (moved x) to
low_in_c x to low none e = record {
  node = low.node;
  below = let b = low.below in omega (arith, x.hung.count_is);
  here = moved_c x low.node low.here ∙ sym e;
  one = stays_low x low.node x.child low.one low.here (rise_c x x.child refl ∙ none);
}

low_in_r : (x : Hanging) (to : ℕ) → Lowest x.old x.heights x.roots x.root → x.root_rise ≡ 0 → to ≡ x.root
    → Lowest x.new (lifted x) (moved x) to
low_in_r x to low none e = record {
  node = low.node;
  below = let b = low.below in omega (arith, x.hung.count_is);
  here = moved_other x low.node (λ p. x.may.apart (sym low.here ∙ p)) ∙ low.here ∙ sym e;
  one = stays_low x low.node x.root low.one low.here (rise_r x x.root refl ∙ none);
}

low_apart : (x : Hanging) (t to : ℕ) → (t ≡ x.root → ⊥) → (t ≡ x.child → ⊥)
    → Lowest x.old x.heights x.roots t → to ≡ t → Lowest x.new (lifted x) (moved x) to
low_apart x t to nr nc low e = record {
  node = low.node;
  below = let b = low.below in omega (arith, x.hung.count_is);
  here = moved_other x low.node (λ p. nc (sym low.here ∙ p)) ∙ low.here ∙ sym e;
  one = stays_low x low.node t low.one low.here (rise_none x t nr nc);
}

-- the lowest of the joint tree, where neither is the ground's
low_joint : (x : Hanging) (to : ℕ) → (x.roots 0 ≡ x.root → ⊥) → (x.roots 0 ≡ x.child → ⊥) → to ≡ x.root
    → Lowest x.new (lifted x) (moved x) to
low_joint x to nr nc e = elim x.may.one_stays [
  | inl none ↦
      let here = x.shaped.at_root x.root x.may.r_below x.may.r_root in
      let low = x.shaped.lowest x.root x.may.r_below (λ p. nr (sym p ∙ here)) in
      low_in_r x to (subst (λ (t : ℕ). Lowest x.old x.heights x.roots t) here low) none e
  | inr none ↦
      let here = x.shaped.at_root x.child x.may.c_below x.may.c_root in
      let low = x.shaped.lowest x.child x.may.c_below (λ p. nc (sym p ∙ here)) in
      low_in_c x to (subst (λ (t : ℕ). Lowest x.old x.heights x.roots t) here low) none e
]

new_lowest : (x : Hanging) (s : ℕ) → s < x.old.count → (moved x s ≡ moved x 0 → ⊥)
    → Lowest x.new (lifted x) (moved x) (moved x s)
new_lowest x s lt apart_0 = elim (which x (x.roots s)) [
  | in_c e ↦
      let to = moved_c x s e in
      low_joint x (moved x s)
      (λ p. apart_0 (to ∙ sym (moved_other x 0 (λ q. x.may.apart (sym p ∙ q)) ∙ p)))
      (λ p. apart_0 (to ∙ sym (moved_c x 0 p))) to
  | in_r ne e ↦
      let to = moved_other x s ne ∙ e in
      low_joint x (moved x s)
      (λ p. apart_0 (to ∙ sym (moved_other x 0 (λ q. x.may.apart (sym p ∙ q)) ∙ p)))
      (λ p. apart_0 (to ∙ sym (moved_c x 0 p))) to
  | apart ne nr ↦
      let low = x.shaped.lowest s lt (λ p. apart_0 (moved_same x s 0 p)) in
      low_apart x (x.roots s) (moved x s) nr ne low (moved_other x s ne)
]

-- heights within the joint tree

pair_same : (x : Hanging) (k : ℕ → ℕ) (s t : ℕ) → x.roots s ≡ x.roots t → k s + x.heights t ≡ k t + x.heights s
    → k s + lifted x t ≡ k t + lifted x s
pair_same x k s t e old =
    let a = lifted_is x s in
    let b = lifted_is x t in
    let same : rise x (x.roots s) ≡ rise x (x.roots t) = ap (rise x) e in
    omega (arith, a, b, same, old)

-- the first in the tree of c, and the second in that of r
pair_joint : (x : Hanging) (k : ℕ → ℕ) (s t : ℕ) → Obeys x.old k
    → k x.child + (x.heights x.root + x.root_rise) ≡ k x.root + (x.heights x.child + x.child_rise) → s < x.old.count
    → t < x.old.count → x.roots s ≡ x.child → x.roots t ≡ x.root
    → k s + lifted x t ≡ k t + lifted x s
pair_joint x k s t known rise_is ls lt es et =
    let at_c = x.shaped.at_root x.child x.may.c_below x.may.c_root in
    let at_r = x.shaped.at_root x.root x.may.r_below x.may.r_root in
    let one = x.shaped.together k known s x.child ls x.may.c_below (es ∙ sym at_c) in
    let two = x.shaped.together k known t x.root lt x.may.r_below (et ∙ sym at_r) in
    let a = lifted_is x s in
    let b = lifted_is x t in
    let up = rise_c x (x.roots s) es in
    let side = rise_r x (x.roots t) et in
    omega (arith, one, two, a, b, up, side, rise_is)

-- where the new root of a node is r, its old one is r or c
from_r : (x : Hanging) (s : ℕ) → (x.roots s ≡ x.child → ⊥) → moved x s ≡ x.root → x.roots s ≡ x.root
from_r x s ne e = sym (moved_other x s ne) ∙ e

new_together : (x : Hanging) (k : ℕ → ℕ) → Obeys x.new k → (s t : ℕ) → s < x.old.count → t < x.old.count
    → moved x s ≡ moved x t → k s + lifted x t ≡ k t + lifted x s
new_together x k known s t ls lt e =
    let old = back x k known in
    let rise_is = differs x k known in
    elim (cases_eq (x.roots s) x.child) [
      | inl es ↦ elim (cases_eq (x.roots t) x.child) [
        | inl et ↦ pair_same x k s t (es ∙ sym et) (x.shaped.together k old s t ls lt (es ∙ sym et))
        | inr nt ↦ pair_joint x k s t old rise_is ls lt es
            (from_r x t nt (sym e ∙ moved_c x s es))
      ]
      | inr ns ↦ elim (cases_eq (x.roots t) x.child) [
        | inl et ↦ sym (pair_joint x k t s old rise_is lt ls et
            (from_r x s ns (e ∙ moved_c x t et)))
        | inr nt ↦
            let same = sym (moved_other x s ns) ∙ e ∙ moved_other x t nt in
            pair_same x k s t same (x.shaped.together k old s t ls lt same)
      ]
    ]

-- all of it

hung_shape : (x : Hanging) → IsShaped x.new (lifted x) (moved x)
hung_shape x =
    let n = x.hung.count_is in
    record {
      some = let b = x.shaped.some in omega (arith, n);
      obeys = lifted_new x;
      parent_below = λ s lt. elim (cases_eq s x.child) [
        | inl e ↦
            let is : x.new.parent s ≡ x.root = ap x.new.parent e ∙ x.hung.parent_c in
            let b = x.may.r_below in omega (arith, is, n)
        | inr ne ↦
            let is = x.hung.parent_other s ne in
            let b = x.shaped.parent_below s (omega (arith, n)) in omega (arith, is, n, b)
      ];
      root_below = λ s lt.
          let b = new_root_below x s (omega (arith, n)) in omega (arith, n, b);
      root_is = λ s lt. new_root_is x s (omega (arith, n));
      along = λ s lt. new_along x s (omega (arith, n));
      at_root = λ s lt. new_at_root x s (omega (arith, n));
      height_is = λ s lt. new_height x s (omega (arith, n));
      within = λ s lt. new_within x s (omega (arith, n));
      rising = λ s lt. new_rising x s (omega (arith, n));
      some_size = λ s lt.
          let old = x.shaped.some_size s (omega (arith, n)) in
          let least = new_size_least x s in
          omega (arith, old, least);
      in_root = λ s lt. new_in_root x s (omega (arith, n));
      lowest = λ s lt. new_lowest x s (omega (arith, n));
      together = λ k known s t ls lt. new_together x k known s t
          (omega (arith, n)) (omega (arith, n));
    }

-- the sizes of the roots
hung_sizes : (x : Hanging) (sizes : List ℕ) → AreSizes x.old sizes
    → AreSizes x.new (slice_set (slice_set sizes x.root (x.old.size x.root + x.old.size x.child)) x.child 0)
hung_sizes x sizes sized =
    let id : ℕ → ℕ = λ (n : ℕ). n in
    let m = x.old.size x.root + x.old.size x.child in
    let once = slice_set sizes x.root m in
    let b : x.root < length sizes = let low = x.may.r_below in omega (arith, sized.long) in
    let d : x.child < length once = let low = x.may.c_below in omega (arith, sized.long, length-set sizes x.root m) in
    let at_r = sized.each x.root x.may.r_below x.may.r_root in
    let at_c = sized.each x.child x.may.c_below x.may.c_root in
    let c_still : slice_index once x.child ≡ slice_index sizes x.child =
    get_or-set_other sizes x.root x.child m 0 (λ (p : x.child ≡ x.root). x.may.apart (sym p)) in
    let first = sum_by-set id sizes x.root m 0 b in
    let second = sum_by-set id once x.child 0 0 d in
    record {
      long = length-set once x.child 0 ∙ length-set sizes x.root m ∙ sized.long ∙ sym x.hung.count_is;
      all = omega (arith, first, second, at_r, at_c, c_still, sized.all, x.hung.count_is);
      each = λ s lt is. elim (cases_eq s x.child) [
        | inl e ↦ absurd (x.may.apart (sym x.hung.parent_c ∙ ap x.new.parent (sym e) ∙ is ∙ e))
        | inr ne ↦
            let old : x.old.parent s ≡ s = sym (x.hung.parent_other s ne) ∙ is in
            elim (cases_eq s x.root) [
              | inl e ↦
                  get_or-set_other once x.child s 0 0 ne ∙ ap (slice_index once) e ∙ get_or-set_same sizes x.root m 0 b
                  ∙ sym x.hung.size_r ∙ sym (ap x.new.size e)
              | inr nr ↦
                  get_or-set_other once x.child s 0 0 ne ∙ get_or-set_other sizes x.root s m 0 nr
                  ∙ sized.each s (omega (arith, x.hung.count_is)) old ∙ sym (x.hung.size_other s nr)
            ]
      ];
    }

pub hung_forest : (x : Hanging) (sizes : List ℕ) → AreSizes x.old sizes → IsForest x.new
hung_forest x sizes sized = record {
  h = lifted x;
  root = moved x;
  sizes = slice_set (slice_set sizes x.root (x.old.size x.root + x.old.size x.child)) x.child 0;
  shaped = hung_shape x;
  sized = hung_sizes x sizes sized;
}
