-- Trees of nodes that tell how much higher a node is than its parent, and what heights of the nodes they allow.
use Rattle.std.specs.Prelude.{◌≡◌, ℕ, ◌+◌, ◌<◌, ◌≤◌, List, length, slice_index}

-- the tables of all nodes: the parent of each; how much higher it is, and `count` more; the height of a root above the
-- lowest node of its tree, counted from 1; and the nodes of its tree, as they were when it was a root last
pub record Forest : Type 0 where
  pub count : ℕ
  pub parent : ℕ → ℕ
  pub above : ℕ → ℕ
  pub height : ℕ → ℕ
  pub size : ℕ → ℕ

abbrev pub forest : List ℕ → List ℕ → List ℕ → List ℕ → Forest
forest parent above height size = record {
  count = length parent;
  parent = λ s. slice_index parent s;
  above = λ s. slice_index above s;
  height = λ s. slice_index height s;
  size = λ s. slice_index size s;
}

-- what clauses see of the tables of nodes
pub record Tables : Type 0 where
  pub parent : List ℕ
  pub above : List ℕ
  pub height : List ℕ
  pub size : List ℕ

-- the trees that tables tell
abbrev pub trees : Tables → Forest
trees t = forest t.parent t.above t.height t.size

-- these heights obey the trees: node 0 is the ground, no other is as low, and each is as much above its parent as is
-- told
pub record Obeys (f : Forest) (h : ℕ → ℕ) : Type 0 where
  pub base : h 0 ≡ 0
  pub positive : (s : ℕ) → 0 < s → s < f.count → 0 < h s
  pub linked : (s : ℕ) → s < f.count → h s + f.count ≡ h (f.parent s) + f.above s

-- some heights obey the trees
pub record HasHeights (f : Forest) : Type 0 where
  pub heights : ℕ → ℕ
  pub obey : Obeys f heights

-- the second trees allow the heights that the first do and at which a node is so much higher than another one
pub record IsJoined (f g : Forest) (upper lower rise : ℕ) : Type 0 where
  pub count_is : g.count ≡ f.count
  pub back : (h : ℕ → ℕ) → Obeys g h → Obeys f h
  pub higher : (h : ℕ → ℕ) → Obeys g h → h upper ≡ h lower + rise
  pub forth : (h : ℕ → ℕ) → Obeys f h → h upper ≡ h lower + rise → Obeys g h

-- no heights that the trees allow have the node so much higher than the other one
pub record IsRefused (f : Forest) (upper lower rise : ℕ) : Type 0 where
  pub none : (h : ℕ → ℕ) → Obeys f h → h upper ≡ h lower + rise → ⊥

-- the least heights that the trees allow
pub record AreLeast (f : Forest) (heights : List ℕ) : Type 0 where
  pub long : length heights ≡ f.count
  pub obey : Obeys f (λ s. slice_index heights s)
  pub least : (h : ℕ → ℕ) → Obeys f h → (s : ℕ) → s < f.count → slice_index heights s ≤ h s
