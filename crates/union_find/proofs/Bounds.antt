-- Sizes and heights are at most as many as there are nodes.
use Rattle.std.proofs.Common.{◌≡◌, ℕ, ◌+◌, ◌-◌, ◌*◌, ◌<◌, ◌≤◌, List, length, arith, sym, ◌∙◌}
use Rattle.std.proofs.lemmas.List.Sums.{get_or-le-sum_by}
use Rattle.union_find.specs.Forests.{Forest, Tables, trees, HasHeights}
use Rattle.union_find.specs.Code.Shapes.{IsShaped, AreSizes, IsForest, AreTables, IsOnWay, IsFound}

root_few : (f : Forest) (sizes : List ℕ) → AreSizes f sizes → (r : ℕ) → r < f.count → f.parent r ≡ r
    → f.size r ≤ f.count
root_few f sizes sized r lt is =
    let within : r < length sizes = omega (arith, sized.long) in
    let most = get_or-le-sum_by (λ (n : ℕ). n) sizes r 0 within in
    let each = sized.each r lt is in
    omega (arith, most, each, sized.all)

pub size_few : (f : Forest) (h root : ℕ → ℕ) (sizes : List ℕ) → IsShaped f h root → AreSizes f sizes
    → (s : ℕ) → s < f.count → f.size s ≤ f.count
size_few f h root sizes shaped sized s lt =
    let few = root_few f sizes sized (root s) (shaped.root_below s lt) (shaped.root_is s lt) in
    omega (arith, few, shaped.in_root s lt)

pub height_few : (f : Forest) (h root : ℕ → ℕ) (sizes : List ℕ) → IsShaped f h root → AreSizes f sizes
    → (s : ℕ) → s < f.count → h s ≤ f.count
height_few f h root sizes shaped sized s lt =
    let few = root_few f sizes sized (root s) (shaped.root_below s lt) (shaped.root_is s lt) in
    omega (arith, few, shaped.within s lt)

-- one step to the root
pub record Step (f : Forest) (node at gained : ℕ) : Type 0 where
  pub most : gained + f.above at ≤ 3 * f.count
  pub least : f.count ≤ gained + f.above at
  pub next : IsOnWay f node (f.parent at) (gained + f.above at - f.count)

pub step : (f : Forest) (node at gained : ℕ) → IsForest f → IsOnWay f node at gained → Step f node at gained
step f node at gained known way =
    let s = known.shaped in
    let next_below = s.parent_below at way.below in
    let linked = s.obeys.linked at way.below in
    let so_far = (way.shaped known.h known.root s).1 in
    let few = height_few f known.h known.root known.sizes s known.sized node way.from in
    let few_next = height_few f known.h known.root known.sizes s known.sized (f.parent at) next_below in
    record {
      most = omega (arith, linked, so_far, few);
      least = omega (arith, linked, so_far, few_next);
      next = record {
        from = way.from;
        below = next_below;
        shaped = λ h root shaped.
            let here = way.shaped h root shaped in
            let up = shaped.obeys.linked at way.below in
            let low = height_few f h root known.sizes shaped known.sized (f.parent at) next_below in
            (shaped.along at way.below ∙ here.0, omega (arith, here.1, up, low));
      };
    }

pub falls : (f : Forest) (at : ℕ) → IsForest f → at < f.count → (f.parent at ≡ at → ⊥)
    → f.count - f.size (f.parent at) < f.count - f.size at
falls f at known lt moves =
    let s = known.shaped in
    let up = s.rising at lt moves in
    let few = size_few f known.h known.root known.sizes s known.sized (f.parent at) (s.parent_below at lt) in
    omega (arith, up, few)

-- at the root
pub record AtRoot (f : Forest) (node at gained : ℕ) : Type 0 where
  pub most : f.height at + gained ≤ 3 * f.count
  pub least : f.count ≤ f.height at + gained
  pub found : IsFound f node at (f.height at + gained - f.count)

pub at_the_root : (t : Tables) (node at gained : ℕ) → AreTables t → IsOnWay (trees t) node at gained
    → (trees t).parent at ≡ at → AtRoot (trees t) node at gained
at_the_root t node at gained tables way is =
    let f = trees t in
    let known = tables.known in
    let s = known.shaped in
    let top = s.height_is at way.below is in
    let so_far = (way.shaped known.h known.root s).1 in
    let within = height_few f known.h known.root known.sizes s known.sized node way.from in
    record {
      most = omega (arith, top, so_far, within);
      least = omega (arith, top, so_far);
      found = record {
        known = known;
        few = tables.few;
        from = way.from;
        below = way.below;
        within = omega (arith, top, so_far, within);
        is_root = is;
        shaped = λ h root shaped.
            let here = way.shaped h root shaped in
            let up = shaped.height_is at way.below is in
            (sym here.0 ∙ shaped.at_root at way.below is, omega (arith, here.1, up));
      };
    }

pub some_heights : (f : Forest) → IsForest f → HasHeights f
some_heights f known = record { heights = known.h; obey = known.shaped.obeys }
