-- What the tables of trees keep: roots, heights that obey the trees, and how large the trees are.
use Rattle.std.specs.Prelude.{◌≡◌, ℕ, ◌+◌, ◌<◌, ◌≤◌, ◌^◌, ◌⊎◌, List, length, slice_index}
use Rattle.std.specs.List.{sum_by}
use Rattle.union_find.specs.Forests.{Forest, Tables, trees, Obeys}

-- a node of a tree whose height is 1
pub record Lowest (f : Forest) (h root : ℕ → ℕ) (r : ℕ) : Type 0 where
  pub node : ℕ
  pub below : node < f.count
  pub here : root node ≡ r
  pub one : h node ≡ 1

-- these are roots of the nodes, and heights that obey the trees, the lowest of each tree but the ground's being 1
pub record IsShaped (f : Forest) (h root : ℕ → ℕ) : Type 0 where
  pub some : 0 < f.count
  pub obeys : Obeys f h
  pub parent_below : (s : ℕ) → s < f.count → f.parent s < f.count
  pub root_below : (s : ℕ) → s < f.count → root s < f.count
  pub root_is : (s : ℕ) → s < f.count → f.parent (root s) ≡ root s
  pub along : (s : ℕ) → s < f.count → root (f.parent s) ≡ root s
  pub at_root : (s : ℕ) → s < f.count → f.parent s ≡ s → root s ≡ s
  pub height_is : (s : ℕ) → s < f.count → f.parent s ≡ s → f.height s ≡ h s
  pub within : (s : ℕ) → s < f.count → h s ≤ f.size (root s)
  pub rising : (s : ℕ) → s < f.count → (f.parent s ≡ s → ⊥) → f.size s < f.size (f.parent s)
  pub some_size : (s : ℕ) → s < f.count → 0 < f.size s
  pub in_root : (s : ℕ) → s < f.count → f.size s ≤ f.size (root s)
  pub lowest : (s : ℕ) → s < f.count → (root s ≡ root 0 → ⊥) → Lowest f h root (root s)
  pub together : (g : ℕ → ℕ) → Obeys f g → (s t : ℕ) → s < f.count → t < f.count → root s ≡ root t
      → g s + h t ≡ g t + h s

-- how many nodes each root has, so that they add up to all nodes
pub record AreSizes (f : Forest) (sizes : List ℕ) : Type 0 where
  pub long : length sizes ≡ f.count
  pub all : sum_by (λ (n : ℕ). n) sizes ≡ f.count
  pub each : (s : ℕ) → s < f.count → f.parent s ≡ s → slice_index sizes s ≡ f.size s

-- trees of this kind
pub record IsForest (f : Forest) : Type 0 where
  pub h : ℕ → ℕ
  pub root : ℕ → ℕ
  pub sizes : List ℕ
  pub shaped : IsShaped f h root
  pub sized : AreSizes f sizes

-- in trees of this kind, a node's root, and its height above the lowest of its tree
pub record IsFound (f : Forest) (node : ℕ) (root height : ℕ) : Type 0 where
  pub known : IsForest f
  pub few : f.count < 2 ^ 32
  pub from : node < f.count
  pub below : root < f.count
  pub within : height ≤ f.count
  pub is_root : f.parent root ≡ root
  pub shaped : (h roots : ℕ → ℕ) → IsShaped f h roots → (roots node ≡ root) × (h node ≡ height)

-- on the way from a node to its root: a node of the same tree, and how much higher the first one is, and `count` more
pub record IsOnWay (f : Forest) (node at gained : ℕ) : Type 0 where
  pub from : node < f.count
  pub below : at < f.count
  pub shaped : (h root : ℕ → ℕ) → IsShaped f h root → (root at ≡ root node) × (h node + f.count ≡ h at + gained)

-- both are roots, and each rises by no more than the other is large; the ground does not rise, and one of both does not
pub record MayHang (f : Forest) (h root : ℕ → ℕ) (r c yr yc : ℕ) : Type 0 where
  pub r_below : r < f.count
  pub c_below : c < f.count
  pub r_root : f.parent r ≡ r
  pub c_root : f.parent c ≡ c
  pub apart : r ≡ c → ⊥
  pub r_rises : yr ≤ f.size c
  pub c_rises : yc ≤ f.size r
  pub r_ground : root 0 ≡ r → yr ≡ 0
  pub c_ground : root 0 ≡ c → yc ≡ 0
  pub one_stays : (yr ≡ 0) ⊎ (yc ≡ 0)

-- what clauses see of the tables
abbrev pub tables_of : List ℕ → List ℕ → List ℕ → List ℕ → Tables
tables_of parent above height size = record { parent = parent; above = above; height = height; size = size }

-- the tables of trees, which are of one length
pub record AreTables (t : Tables) : Type 0 where
  pub few : length t.parent < 2 ^ 32
  pub above_long : length t.above ≡ length t.parent
  pub height_long : length t.height ≡ length t.parent
  pub size_long : length t.size ≡ length t.parent
  pub known : IsForest (trees t)

-- however the trees are shaped, the tree of c may be hung on root r, and there is room in the tables for both as one
pub record MayBeHung (f : Forest) (r c yr yc : ℕ) : Type 0 where
  pub shaped : (h root : ℕ → ℕ) → IsShaped f h root → MayHang f h root r c yr yc
  pub r_below : r < f.count
  pub c_below : c < f.count
  pub r_top : f.height r + yr ≤ f.count
  pub c_top : f.height c + yc ≤ f.count
  pub both : f.size r + f.size c ≤ f.count

-- the second trees allow the heights that the first do where the two roots differ so; either may be hung on the other
pub record Unites (f g : Forest) (a b ya yb : ℕ) : Type 0 where
  pub count_is : g.count ≡ f.count
  pub back : (k : ℕ → ℕ) → Obeys g k → Obeys f k
  pub differ : (k : ℕ → ℕ) → Obeys g k → k b + (f.height a + ya) ≡ k a + (f.height b + yb)
  pub forth : (k : ℕ → ℕ) → Obeys f k → k b + (f.height a + ya) ≡ k a + (f.height b + yb) → Obeys g k

-- the trees of two roots rise, one of them at most, so that a node of the first at a height stands at the wanted one;
-- that of the ground does not
pub record Rises (a b height wanted base r c yr yc : ℕ) : Type 0 where
  pub first : r ≡ a
  pub second : c ≡ b
  pub meet : height + yr ≡ wanted + yc
  pub one : (yr ≡ 0) ⊎ (yc ≡ 0)
  pub a_ground : base ≡ a → yr ≡ 0
  pub b_ground : base ≡ b → yc ≡ 0

-- the tree of the ground would have to rise
abbrev pub IsGrounded : ℕ → ℕ → ℕ → ℕ → ℕ → Type 0
IsGrounded a b height wanted base = ((base ≡ a) × (height < wanted)) ⊎ ((base ≡ b) × (wanted < height))
