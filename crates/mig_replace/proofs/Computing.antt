-- Tables of nodes and of literals.
use Rattle.std.specs.Prelude.{◌≡◌, ℕ, zero, suc, ◌+◌, ◌-◌, ◌/◌, ◌%◌, ◌<◌, ◌≤◌, ◌==◌, Bool, true, false, not, cond, List}
use Rattle.std.specs.Prelude.{[], ◌∷◌, ◌++◌, length, map, Some, slice_get}
use Rattle.std.specs.Option.{option_map}
use Rattle.std.proofs.Common.{refl, sym, ap, ◌∙◌, subst, arith}
use Rattle.std.proofs.lemmas.List.{length-map}
use Rattle.std.proofs.lemmas.Option.{slice_get-map, get_or_from_slice_get, slice_get_within}
use Rattle.circuit.specs.Function.{majority}
use Rattle.truth_tables.specs.Tables.{holds, index, mask}
use Rattle.truth_tables.proofs.Bits.{holds_none, holds_mask, holds_index, index_below}
use Rattle.mig.specs.declared.node.Node.{Node}
use Rattle.mig.specs.Graphs.{GraphView, literal_value, node_value, AreBelow, turned}
use Rattle.mig.specs.Building.{BuilderView, Grown, Gives, Splits, limit, AllThere}
use Rattle.mig.specs.Carried.{fits_graph}
use Rattle.mig.proofs.Built.{gives_later, limit_grows}
use Rattle.mig.proofs.Folded.{turned_value, turned_below}
use Rattle.mig_replace.specs.declared.run.Entry.{Entry}
use Rattle.mig_replace.specs.Code.Cones.{Computes, table_at, HasTable, IsEntry, AreEntries}

-- the place of some values, and its bits
pub low_index : (leaves : List ℕ) (f : ℕ → Bool) → length leaves ≤ 6 → index (map f leaves) < 64
low_index leaves f few = index_below (map f leaves) (subst (λ n. n ≤ 6) (sym (length-map leaves f)) few)

pub leaf_bit : (leaves : List ℕ) (f : ℕ → Bool) (place l : ℕ) → length leaves ≤ 6 → slice_get leaves place ≡ Some l
    → holds (mask place) (index (map f leaves)) ≡ f l
leaf_bit leaves f place l few is =
    holds_mask place (index (map f leaves)) (let lt = slice_get_within leaves place l is in omega arith)
    (low_index leaves f few)
    ∙ holds_index (map f leaves) place
    ∙ get_or_from_slice_get (map f leaves) place (f l) false (slice_get-map f leaves place ∙ ap (option_map f) is)

pub none_computes : (graph : GraphView) (leaves : List ℕ) (node : ℕ) → node ≡ 0 → Computes graph leaves node 0
none_computes graph leaves node e =
    record { value = λ word v fit. ap v e ∙ fit.none ∙ sym (holds_none (index (map v leaves))) }

pub leaf_computes : (graph : GraphView) (leaves : List ℕ) (place node table : ℕ) → length leaves ≤ 6
    → slice_get leaves place ≡ Some node → table ≡ mask place → Computes graph leaves node table
leaf_computes graph leaves place node table few is e =
    record {
      value = λ word v fit. sym (ap (λ t. holds t (index (map v leaves))) e ∙ leaf_bit leaves v place node few is);
    }

-- the sign of a literal on a table
signed_value : (graph : GraphView) (leaves : List ℕ) (l table t : ℕ) → length leaves ≤ 6
    → ((i : ℕ) → i < 64 → holds t i ≡ cond (l % 2 == 1) (not (holds table i)) (holds table i))
    → Computes graph leaves (l / 2) table → (word : List Bool) (v : ℕ → Bool) → fits_graph graph word v
    → literal_value v l ≡ holds t (index (map v leaves))
unfolding literal_value
signed_value graph leaves l table t few is computes word v fit =
    ap (λ a. cond (l % 2 == 1) (not a) a) (computes.value word v fit)
    ∙ sym (is (index (map v leaves)) (low_index leaves v few))

pub node_computes : (graph : GraphView) (leaves : List ℕ) (node number first : ℕ) (operands : Node)
    (x y z sx sy sz table : ℕ) → length leaves ≤ 6
    → first ≡ graph.inputs + 1 → first ≤ node → number ≡ node - first → slice_get graph.nodes number ≡ Some operands
    → Computes graph leaves (operands.x / 2) x → Computes graph leaves (operands.y / 2) y
    → Computes graph leaves (operands.z / 2) z
    → ((i : ℕ) → i < 64 → holds sx i ≡ cond (operands.x % 2 == 1) (not (holds x i)) (holds x i))
    → ((i : ℕ) → i < 64 → holds sy i ≡ cond (operands.y % 2 == 1) (not (holds y i)) (holds y i))
    → ((i : ℕ) → i < 64 → holds sz i ≡ cond (operands.z % 2 == 1) (not (holds z i)) (holds z i))
    → ((i : ℕ) → holds table i ≡ majority (holds sx i) (holds sy i) (holds sz i)) → Computes graph leaves node table
unfolding node_value
node_computes graph leaves node number first operands x y z sx sy sz table few e high n is cx cy cz ix iy iz im =
    record {
      value = λ word v fit.
          let i = index (map v leaves) in
          let at : node ≡ 1 + graph.inputs + number = omega arith in
          ap v at ∙ fit.of_node number operands is
          ∙ ap (λ t. majority t (literal_value v operands.y) (literal_value v operands.z))
          (signed_value graph leaves operands.x x sx few ix cx word v fit)
          ∙ ap (λ t. majority (holds sx i) t (literal_value v operands.z))
          (signed_value graph leaves operands.y y sy few iy cy word v fit)
          ∙ ap (majority (holds sx i) (holds sy i)) (signed_value graph leaves operands.z z sz few iz cz word v fit)
          ∙ sym (im i);
    }

-- literals and their tables
zero_value : (v : ℕ → Bool) → v 0 ≡ false → literal_value v 0 ≡ false
unfolding literal_value
zero_value v e = e

pub none_entry : (b : BuilderView) (leaves : List ℕ) → IsEntry b leaves (record { literal = 0; table = 0 })
none_entry b leaves =
    record {
      below = omega arith;
      shows = λ word v fit. zero_value v fit.none ∙ sym (holds_none (index (map (literal_value v) leaves)));
    }

there_at : (b : BuilderView) (ls : List ℕ) (k l : ℕ) → AllThere b ls → slice_get ls k ≡ Some l → l < limit b
there_at b [] k l there is = absurd (cc)
there_at b (x ∷ xs) zero l there is = (let e : x ≡ l = cc in subst (λ m. m < limit b) e there.0)
there_at b (x ∷ xs) (suc k) l there is = there_at b xs k l there.1 is

pub leaf_entry : (b : BuilderView) (leaves : List ℕ) (place l table : ℕ) → length leaves ≤ 6 → AllThere b leaves
    → slice_get leaves place ≡ Some l → table ≡ mask place → IsEntry b leaves (record { literal = l; table = table })
leaf_entry b leaves place l table few there is e = record {
  below = there_at b leaves place l there is;
  shows = λ word v fit. sym
      (ap (λ t. holds t (index (map (literal_value v) leaves))) e ∙ leaf_bit leaves (literal_value v) place l few is);
}

sign_below : (b : BuilderView) (s : Bool) (l : ℕ) → l < limit b → cond s (turned l) l < limit b
sign_below b true l lt = turned_below (1 + b.inputs + length b.nodes) l lt
sign_below b false l lt = lt

sign_value : (s : Bool) (l : ℕ) (v : ℕ → Bool)
    → literal_value v (cond s (turned l) l) ≡ cond s (not (literal_value v l)) (literal_value v l)
sign_value true l v = turned_value v l
sign_value false l v = refl

pub signed_entry : (b : BuilderView) (leaves : List ℕ) (e : Entry) (operand l t : ℕ) → length leaves ≤ 6
    → l ≡ cond (operand % 2 == 1) (turned e.literal) e.literal
    → ((i : ℕ) → i < 64 → holds t i ≡ cond (operand % 2 == 1) (not (holds e.table i)) (holds e.table i))
    → IsEntry b leaves e → IsEntry b leaves (record { literal = l; table = t })
signed_entry b leaves e operand l t few is signed entry =
    subst (λ k. Gives b k (table_at t leaves)) (sym is) (record {
      below = sign_below b (operand % 2 == 1) e.literal entry.below;
      shows = λ word v fit.
          sign_value (operand % 2 == 1) e.literal v
          ∙ ap (λ a. cond (operand % 2 == 1) (not a) a) (entry.shows word v fit)
          ∙ sym (signed (index (map (literal_value v) leaves)) (low_index leaves (literal_value v) few));
    })

pub majority_entry : (a b : BuilderView) (leaves : List ℕ) (x y z : Entry) (l t : ℕ) → Grown a b → IsEntry a leaves x
    → IsEntry a leaves y → IsEntry a leaves z
    → Gives b l (λ v. node_value v (record { x = x.literal; y = y.literal; z = z.literal }))
    → ((i : ℕ) → holds t i ≡ majority (holds x.table i) (holds y.table i) (holds z.table i))
    → IsEntry b leaves (record { literal = l; table = t })
unfolding node_value
majority_entry a b leaves x y z l t grown ix iy iz gives is = record {
  below = gives.below;
  shows = λ word v fit.
      let i = index (map (literal_value v) leaves) in
      gives.shows word v fit
      ∙ ap (λ p. majority p (literal_value v y.literal) (literal_value v z.literal))
      ((gives_later a b x.literal (table_at x.table leaves) grown ix).shows word v fit)
      ∙ ap (λ p. majority (holds x.table i) p (literal_value v z.literal))
      ((gives_later a b y.literal (table_at y.table leaves) grown iy).shows word v fit)
      ∙ ap (majority (holds x.table i) (holds y.table i))
      ((gives_later a b z.literal (table_at z.table leaves) grown iz).shows word v fit)
      ∙ sym (is i);
}

pub entries_later : (a b : BuilderView) (leaves : List ℕ) (es : List Entry) → Grown a b → AreEntries a leaves es
    → AreEntries b leaves es
entries_later a b leaves [] grown all = tt
entries_later a b leaves (e ∷ es) grown all = (
  gives_later a b e.literal (table_at e.table leaves) grown all.0,
  entries_later a b leaves es grown all.1,
)

pub entries_joined : (b : BuilderView) (leaves : List ℕ) (es fs : List Entry) → AreEntries b leaves es
    → AreEntries b leaves fs → AreEntries b leaves (es ++ fs)
entries_joined b leaves [] fs all more = more
entries_joined b leaves (e ∷ es) fs all more = (all.0, entries_joined b leaves es fs all.1 more)

pub entries_more : (b : BuilderView) (leaves : List ℕ) (es : List Entry) (e : Entry) → AreEntries b leaves es
    → IsEntry b leaves e → AreEntries b leaves (es ++ e ∷ [])
entries_more b leaves es e all one = entries_joined b leaves es (e ∷ []) all (one, tt)

pub three_there : (b : BuilderView) (leaves : List ℕ) (x y z : Entry) → IsEntry b leaves x → IsEntry b leaves y
    → IsEntry b leaves z → AreBelow (limit b) (record { x = x.literal; y = y.literal; z = z.literal })
three_there b leaves x y z ix iy iz = record { x = ix.below; y = iy.below; z = iz.below }

-- the majority of three literals whose tables are known
pub splits_table : (b : BuilderView) (leaves : List ℕ) (l : ℕ) (node : Node) (x y z t : ℕ) → l < limit b
    → Splits b l node → HasTable b leaves node.x x → HasTable b leaves node.y y → HasTable b leaves node.z z
    → ((i : ℕ) → holds t i ≡ majority (holds x i) (holds y i) (holds z i)) → HasTable b leaves l t
unfolding node_value
splits_table b leaves l node x y z t lt splits ix iy iz is = record {
  below = lt;
  shows = λ word v fit.
      let i = index (map (literal_value v) leaves) in
      splits.shows word v fit
      ∙ ap (λ p. majority p (literal_value v node.y) (literal_value v node.z)) (ix.shows word v fit)
      ∙ ap (λ p. majority (holds x i) p (literal_value v node.z)) (iy.shows word v fit)
      ∙ ap (majority (holds x i) (holds y i)) (iz.shows word v fit)
      ∙ sym (is i);
}

-- literals with one table have one value
pub same_table : (a b : BuilderView) (leaves : List ℕ) (l m t : ℕ) → Grown a b → HasTable a leaves l t
    → HasTable b leaves m t → Gives b m (λ v. literal_value v l)
same_table a b leaves l m t grown one other = record {
  below = other.below;
  shows = λ word v fit.
      other.shows word v fit ∙ sym ((gives_later a b l (table_at t leaves) grown one).shows word v fit);
}

pub same_literal : (a b : BuilderView) (l : ℕ) → Grown a b → l < limit a → Gives b l (λ v. literal_value v l)
same_literal a b l grown lt =
    record { below = (let more = limit_grows a b grown in omega arith); shows = λ word v fit. refl }
