-- What is written where one tree is hung on another.
use Rattle.std.proofs.Common.{◌≡◌, ℕ, ◌+◌, ◌-◌, ◌<◌, ◌≤◌, List, length, arith, ap, sym, ◌∙◌, inl, inr}
use Rattle.std.specs.Prelude.{slice_index, slice_set}
use Rattle.std.proofs.lemmas.List.{get_or-set_same, get_or-set_other, length-set}
use Rattle.std.proofs.lemmas.List.Sums.{sum_by-set, get_or-le-sum_by}
use Rattle.union_find.specs.Forests.{Forest, Tables, trees}
use Rattle.union_find.specs.Code.Shapes.{IsShaped, AreSizes, IsForest, AreTables, MayHang, MayBeHung, Unites}
use Rattle.union_find.proofs.Hanging.{IsHung, Hanging, back, differs, forth, hung_forest}

-- two roots have at most all nodes
both_few : (f : Forest) (sizes : List ℕ) (r c : ℕ) → AreSizes f sizes → r < f.count → c < f.count → (r ≡ c → ⊥)
    → f.parent r ≡ r → f.parent c ≡ c → f.size r + f.size c ≤ f.count
both_few f sizes r c sized br bc apart er ec =
    let id : ℕ → ℕ = λ (n : ℕ). n in
    let lr : r < length sizes = omega (arith, sized.long) in
    let lc : c < length sizes = omega (arith, sized.long) in
    let without = slice_set sizes c 0 in
    let left = sum_by-set id sizes c 0 0 lc in
    let long = length-set sizes c 0 in
    let within : r < length without = omega (arith, long) in
    let most = get_or-le-sum_by id without r 0 within in
    let same : slice_index without r ≡ slice_index sizes r = get_or-set_other sizes c r 0 0 apart in
    omega (arith, left, most, same, sized.all, sized.each r br er, sized.each c bc ec)

pub room_of : (f : Forest) (r c yr yc : ℕ) → IsForest f
    → ((h root : ℕ → ℕ) → IsShaped f h root → MayHang f h root r c yr yc) → MayBeHung f r c yr yc
room_of f r c yr yc known may =
    let s = known.shaped in
    let m = may known.h known.root s in
    let few = both_few f known.sizes r c known.sized m.r_below m.c_below m.apart m.r_root m.c_root in
    let top_r = s.height_is r m.r_below m.r_root in
    let top_c = s.height_is c m.c_below m.c_root in
    let at_r = s.at_root r m.r_below m.r_root in
    let at_c = s.at_root c m.c_below m.c_root in
    let in_r = s.within r m.r_below in
    let in_c = s.within c m.c_below in
    let size_r : f.size (known.root r) ≡ f.size r = ap f.size at_r in
    let size_c : f.size (known.root c) ≡ f.size c = ap f.size at_c in
    record {
      shaped = may;
      r_below = m.r_below;
      c_below = m.c_below;
      r_top = let y = m.r_rises in omega (arith, few, top_r, in_r, size_r, y);
      c_top = let y = m.c_rises in omega (arith, few, top_c, in_c, size_c, y);
      both = few;
    }

-- what the tables are once the tree of root c is hung on root r
abbrev written : Tables → ℕ → ℕ → ℕ → ℕ → Tables
written t r c yr yc =
    let top : ℕ = slice_index t.height r + yr in
    record {
      parent = slice_set t.parent c r;
      above = slice_set t.above c (slice_index t.height c + yc + length t.parent - top);
      height = slice_set t.height r top;
      size = slice_set t.size r (slice_index t.size r + slice_index t.size c);
    }

hung_lists : (t : Tables) (r c yr yc : ℕ) → AreTables t → MayBeHung (trees t) r c yr yc
    → IsHung (trees t) (trees (written t r c yr yc)) r c yr yc
hung_lists t r c yr yc tables may =
    let top = slice_index t.height r + yr in
    let w = slice_index t.height c + yc + length t.parent - top in
    let few = may.r_top in
    let r_in_height : r < length t.height = let b = may.r_below in omega (arith, tables.height_long) in
    let r_in_size : r < length t.size = let b = may.r_below in omega (arith, tables.size_long) in
    let c_in_above : c < length t.above = let b = may.c_below in omega (arith, tables.above_long) in
    let is_w = get_or-set_same t.above c w 0 c_in_above in
    record {
      count_is = length-set t.parent c r;
      parent_c = get_or-set_same t.parent c r 0 may.c_below;
      parent_other = λ s ne. get_or-set_other t.parent c s r 0 ne;
      above_c = omega (arith, is_w, few);
      above_other = λ s ne. get_or-set_other t.above c s w 0 ne;
      height_r = get_or-set_same t.height r top 0 r_in_height;
      height_other = λ s ne. get_or-set_other t.height r s top 0 ne;
      size_r = get_or-set_same t.size r (slice_index t.size r + slice_index t.size c) 0 r_in_size;
      size_other = λ s ne. get_or-set_other t.size r s (slice_index t.size r + slice_index t.size c) 0 ne;
    }

abbrev hanging : (t : Tables) (r c yr yc : ℕ) → AreTables t → MayBeHung (trees t) r c yr yc
    → Hanging
hanging t r c yr yc tables may = record {
  old = trees t;
  new = trees (written t r c yr yc);
  heights = tables.known.h;
  roots = tables.known.root;
  root = r;
  child = c;
  root_rise = yr;
  child_rise = yc;
  shaped = tables.known.shaped;
  may = may.shaped tables.known.h tables.known.root tables.known.shaped;
  hung = hung_lists t r c yr yc tables may;
}

pub hung_tables : (t : Tables) (r c yr yc : ℕ) → AreTables t → MayBeHung (trees t) r c yr yc
    → AreTables (written t r c yr yc)
hung_tables t r c yr yc tables may =
    let p = length-set t.parent c r in
    record {
      few = omega (arith, p, tables.few);
      above_long = length-set t.above c _ ∙ tables.above_long ∙ sym p;
      height_long = length-set t.height r _ ∙ tables.height_long ∙ sym p;
      size_long = length-set t.size r _ ∙ tables.size_long ∙ sym p;
      known = hung_forest (hanging t r c yr yc tables may) tables.known.sizes tables.known.sized;
    }

pub hung_unites : (t : Tables) (r c yr yc : ℕ) → AreTables t → MayBeHung (trees t) r c yr yc
    → Unites (trees t) (trees (written t r c yr yc)) r c yr yc
hung_unites t r c yr yc tables may =
    let x = hanging t r c yr yc tables may in
    let top_r : slice_index t.height r ≡ x.heights r = x.shaped.height_is r x.may.r_below x.may.r_root in
    let top_c : slice_index t.height c ≡ x.heights c = x.shaped.height_is c x.may.c_below x.may.c_root in
    record {
      count_is = x.hung.count_is;
      back = back x;
      differ = λ k known. let d = differs x k known in omega (arith, d, top_r, top_c);
      forth = λ k known d. forth x k known (omega (arith, d, top_r, top_c));
    }

-- either of the two may be hung on the other
pub other_way : (f : Forest) (r c yr yc : ℕ) → MayBeHung f r c yr yc → MayBeHung f c r yc yr
other_way f r c yr yc may = record {
  shaped = λ h root shaped.
      let m = may.shaped h root shaped in
      record {
        r_below = m.c_below;
        c_below = m.r_below;
        r_root = m.c_root;
        c_root = m.r_root;
        apart = λ e. m.apart (sym e);
        r_rises = m.c_rises;
        c_rises = m.r_rises;
        r_ground = m.c_ground;
        c_ground = m.r_ground;
        one_stays = elim m.one_stays [ inl e ↦ inr e | inr e ↦ inl e ];
      };
  r_below = may.c_below;
  c_below = may.r_below;
  r_top = may.c_top;
  c_top = may.r_top;
  both = let few = may.both in omega arith;
}
