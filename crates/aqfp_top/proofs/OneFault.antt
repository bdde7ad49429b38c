-- The texts of a netlist and of a library, and their plan, have one fault each at most, and none where all is well.
use Rattle.std.proofs.Common.{ℕ, ◌≡◌, ◌≢◌, ◌<◌, ◌≤◌, ◌⊎◌, inl, inr, arith, List, Option, Some, None, refl, sym, subst}
use Rattle.std.proofs.Common.{ap, ◌∙◌}
use Rattle.blif_read.specs.Parts.{NetView}
use Rattle.blif_read.specs.Says as plain
use Rattle.blif_flat.specs.DesignText as netlist
use Rattle.blif_flat.specs.declared.design.FlatKind.{FlatKind}
use Rattle.blif_flat.specs.declared.design.FlatRefusal.{FlatRefusal}
use Rattle.blif_flat.specs.declared.design.FlatRefusal.TheVariants as refusal
use Rattle.blif_flat.proofs.OneRefusal.{one_refusal, same_some}
use Rattle.blif_flat.proofs.SaidNets as said
use Rattle.blif_flat.proofs.SaidNets.{one_net}
use Rattle.cell_library.specs.Says as library
use Rattle.cell_library.specs.Faults.{table_fault}
use Rattle.cell_library.specs.Laws.{BreaksFirst, Holds}
use Rattle.cell_library.specs.Library.{LibraryView}
use Rattle.toml.specs.Data.{Members}
use Rattle.std.proofs.lemmas.Bool.{cases_lt}
use Rattle.cell_library.specs.declared.fault.LibraryFault.{LibraryFault}
use Rattle.cell_library.specs.declared.fault.LibraryFault.TheVariants.{Text, Key, Value, Law, Missing}
use Rattle.circuit.specs.declared.cell_kind.CellKind.{CellKind}
use Rattle.blif_read.specs.declared.netlist.BlifFault.{BlifFault}
use Rattle.layout_make.specs.Size.{element_number}
use Rattle.rowed.specs.Limits.{element_limit}
use Rattle.plan_build.specs.Plans.{IsWithin, chip_of}
use Rattle.plan_build.specs.Refusals.{Refuses}
use Rattle.plan_build.specs.declared.refusal.PlanRefusal.{PlanRefusal}
use Rattle.plan_build.specs.declared.refusal.PlanRefusal.TheVariants as plan
use Rattle.aqfp_top.specs.Designs.{SaysLibrary, HasNetlist, HasDesign, KeepsLimits, HasManyElements, HasTooMuch}
use Rattle.aqfp_top.specs.Designs.{IsCellFault, IsNetlistFault, IsPlainFault, IsCellsFault, IsPlanFault, PlanFinds}
use Rattle.aqfp_top.specs.declared.planner.Planner.{Planner}
use Rattle.aqfp_top.specs.declared.planner.Planner.TheVariants.{Build, Compact, Draw}
use Rattle.aqfp_top.proofs.OwnCells.{one_own_fault}
use Rattle.aqfp_top.specs.declared.fault.Large.{Large}
use Rattle.aqfp_top.specs.declared.fault.Large.TheVariants.{Slots, Rows, Cells, Elements, Shapes, Functions, Design}
use Rattle.aqfp_top.specs.declared.fault.Fault.{Fault}
use Rattle.aqfp_top.specs.declared.fault.Fault.TheVariants.{BadBlif, BadDesign, BadLibrary, MissingCell, TooLarge}
use Rattle.aqfp_top.specs.declared.fault.Fault.TheVariants.{Memory}

no_fault_says : {X : Type 0} (a : X) (x : Option X) → x ≡ Some a → x ≡ None → ⊥
no_fault_says a x p q = cc

-- the first law that the table's library breaks is the fault
record BreaksLaw (table : Members) (a : LibraryFault) : Type 0 where
  pub number : ℕ
  pub fault_is : a ≡ Law number
  pub faultless : table_fault table ≡ None
  pub breaks : BreaksFirst (library.library_of table) number

-- a document has one table
pub one_table : (text : List ℕ) (a b : Members) → library.IsDocument text a → library.IsDocument text b → a ≡ b
one_table text a b p q = same_some a b _ p.parsed q.parsed

-- what a fault of a table is told by: a fault before the laws, or the first law that is broken
told_by : (table : Members) (a : LibraryFault) → library.LibFault table a
    → (table_fault table ≡ Some a) ⊎ BreaksLaw table a
told_by table Text bad = absurd bad
told_by table (Key key) bad = inl bad
told_by table (Value key value) bad = inl bad
told_by table (Law number) bad = inr (record { number = number; fault_is = refl; faultless = bad.0; breaks = bad.1 })
told_by table (Missing kind) bad = inl bad

-- of two laws that are each the first that is broken each is the other
same_law : (l : LibraryView) (m n : ℕ) → BreaksFirst l m → BreaksFirst l n → m ≡ n
same_law l m n p q = elim (cases_lt m n) [
  | inl less ↦ absurd (p.broken (q.before p.law (subst (λ k. k < n) (sym p.number_is) less)))
  | inr more ↦ elim (cases_lt n m) [
    | inl less ↦ absurd (q.broken (p.before q.law (subst (λ k. k < m) (sym q.number_is) less)))
    | inr most ↦ omega arith
  ]
]

same_told : (table : Members) (a b : LibraryFault) → library.LibFault table a → library.LibFault table b → a ≡ b
same_told table a b p q = elim (told_by table a p) [
  | inl x ↦ elim (told_by table b q) [ inl y ↦ same_some a b _ x y | inr y ↦ absurd (no_fault_says a _ x y.faultless) ]
  | inr x ↦ elim (told_by table b q) [
    | inl y ↦ absurd (no_fault_says b _ y x.faultless)
    | inr y ↦ x.fault_is ∙ (ap Law (same_law (library.library_of table) x.number y.number x.breaks y.breaks)
        ∙ sym y.fault_is)
  ]
]

same_found : (text : List ℕ) (a b : LibraryFault) → library.HasFault text a → library.HasFault text b → a ≡ b
same_found text a b p q = same_told q.table a b
    (subst (λ t. library.LibFault t a) (one_table text p.table q.table p.document q.document) p.first) q.first

-- a text that is refused is no document
refused_document : (text : List ℕ) (table : Members) → library.IsRefused text → library.IsDocument text table → ⊥
refused_document text table refused document = no_fault_says table _ document.parsed (refused document.utf8)

-- what holds of a text that is refused, and of one with another fault, holds of each fault
by_text : (P : LibraryFault → Type 0) (text : List ℕ) → (library.IsRefused text → P Text)
    → ((a : LibraryFault) → library.HasFault text a → P a) → (a : LibraryFault) → IsCellFault text a → P a
by_text P text refused found Text bad = refused bad
by_text P text refused found (Key key) bad = found (Key key) bad
by_text P text refused found (Value key value) bad = found (Value key value) bad
by_text P text refused found (Law number) bad = found (Law number) bad
by_text P text refused found (Missing kind) bad = found (Missing kind) bad

pub same_library : (a b : LibraryFault) (lib : List ℕ) → IsCellFault lib a → IsCellFault lib b → a ≡ b
same_library a b lib p q = by_text (λ a. a ≡ b) lib
    (λ refused. by_text (λ b. Text ≡ b) lib (λ r. refl)
    (λ c found. absurd (refused_document lib found.table refused found.document)) b q)
    (λ a found. by_text (λ b. a ≡ b) lib (λ r. absurd (refused_document lib found.table r found.document))
    (λ c other. same_found lib a c found other) b q)
    a p

-- a library's text has a fault or says a library, never both
says_faultless : (text : List ℕ) (a : LibraryFault) → library.HasFault text a → SaysLibrary text → ⊥
says_faultless text a bad good =
    let table : bad.table ≡ good.says.table =
    one_table text bad.table good.says.table bad.document good.says.document in
    elim (told_by good.says.table a (subst (λ t. library.LibFault t a) table bad.first)) [
      | inl x ↦ no_fault_says a _ x good.says.faultless
      | inr x ↦ x.breaks.broken (subst (λ l. Holds x.breaks.law l) good.says.values (good.says.laws x.breaks.law))
    ]

pub library_either : (text : List ℕ) (fault : LibraryFault) → IsCellFault text fault → SaysLibrary text → ⊥
library_either text fault bad good = by_text (λ a. ⊥) text
    (λ refused. refused_document text good.says.table refused good.says.document)
    (λ a found. says_faultless text a found good) fault bad

-- a text says one library
pub same_said : (text : List ℕ) (l m : LibraryView) → library.SaysLibrary text l → library.SaysLibrary text m → l ≡ m
same_said text l m p q = p.values
    ∙ (ap library.library_of (one_table text p.table q.table p.document q.document) ∙ sym q.values)

-- what holds of each fault of a stage holds of whatever it finds

-- the fault that tells a refusal of a netlist's text
abbrev told_of : FlatRefusal → Fault
told_of (refusal.Text fault) = BadBlif fault
told_of (refusal.Design line kind) = BadDesign line kind
told_of (refusal.TooMany size) = TooLarge Design size
told_of refusal.Memory = Memory

text_left : (fault : BlifFault) → refusal.Text fault ≢ refusal.Memory
text_left fault e = cc

design_left : (line : ℕ) (kind : FlatKind) → refusal.Design line kind ≢ refusal.Memory
design_left line kind e = cc

size_left : (size : ℕ) → refusal.TooMany size ≢ refusal.Memory
size_left size e = cc

each_netlist : (P : Fault → Type 0) (net : List ℕ)
    → ((r : FlatRefusal) → r ≢ refusal.Memory → netlist.IsNetlistRefusal net r → P (told_of r)) →
    (fault : Fault) → IsNetlistFault net fault → P fault
each_netlist P net each (BadBlif fault) bad = each (refusal.Text fault) (text_left fault) bad
each_netlist P net each (BadDesign line kind) bad = each (refusal.Design line kind) (design_left line kind) bad
each_netlist P net each (TooLarge Design size) bad = each (refusal.TooMany size) (size_left size) bad
each_netlist P net each _ bad = absurd bad

each_plain : (P : Fault → Type 0) (net : List ℕ) → ((a : BlifFault) → plain.Fault net a → P (BadBlif a))
    → (fault : Fault) → IsPlainFault net fault → P fault
each_plain P net blif (BadBlif a) bad = blif a bad
each_plain P net blif _ bad = absurd bad

each_cells : (P : Fault → Type 0) (lib : List ℕ)
    → ((a : LibraryFault) → IsCellFault lib a → ((k : CellKind) → a ≡ Missing k → ⊥) → P (BadLibrary a)) →
    ((k : CellKind) → IsCellFault lib (Missing k) → P (MissingCell k)) → (fault : Fault)
    → IsCellsFault lib fault → P fault
each_cells P lib cells missing (BadLibrary Text) bad = cells Text bad (λ k e. cc)
each_cells P lib cells missing (BadLibrary (Key key)) bad = cells (Key key) bad (λ k e. cc)
each_cells P lib cells missing (BadLibrary (Value key value)) bad = cells (Value key value) bad (λ k e. cc)
each_cells P lib cells missing (BadLibrary (Law number)) bad = cells (Law number) bad (λ k e. cc)
each_cells P lib cells missing (BadLibrary (Missing k)) bad = absurd bad
each_cells P lib cells missing (MissingCell k) bad = missing k bad
each_cells P lib cells missing _ bad = absurd bad

each_plan : (P : Fault → Type 0) (n : NetView) (l : LibraryView)
    → ((what : Large) (count : ℕ) → HasTooMuch n l what count → P (TooLarge what count)) → (fault : Fault)
    → IsPlanFault n l fault → P fault
each_plan P n l large (TooLarge what count) bad = large what count bad
each_plan P n l large _ bad = absurd bad

pub one_netlist_fault : (net : List ℕ) (f g : Fault) → IsNetlistFault net f → IsNetlistFault net g → f ≡ g
one_netlist_fault net f g p q = each_netlist (λ f. f ≡ g) net
    (λ r some x. each_netlist (λ g. told_of r ≡ g) net
    (λ s other y. ap told_of (one_refusal net r s some other x y)) g q) f p

pub one_plain_fault : (net : List ℕ) (f g : Fault) → IsPlainFault net f → IsPlainFault net g → f ≡ g
one_plain_fault net f g p q = each_plain (λ f. f ≡ g) net
    (λ a x. each_plain (λ g. BadBlif a ≡ g) net (λ b y. ap BadBlif (same_some a b _ x y)) g q) f p

missing_same : (k m : CellKind) → ◌≡◌ {A = LibraryFault} (Missing k) (Missing m)
    → ◌≡◌ {A = Fault} (MissingCell k) (MissingCell m)
missing_same k m e = let same : k ≡ m = cc in ap MissingCell same

pub one_cells_fault : (lib : List ℕ) (f g : Fault) → IsCellsFault lib f → IsCellsFault lib g → f ≡ g
one_cells_fault lib f g p q = each_cells (λ f. f ≡ g) lib
    (λ a x none. each_cells (λ g. BadLibrary a ≡ g) lib (λ b y other. ap BadLibrary (same_library a b lib x y))
    (λ k y. absurd (none k (same_library a (Missing k) lib x y))) g q)
    (λ k x. each_cells (λ g. MissingCell k ≡ g) lib (λ b y none. absurd (none k (same_library b (Missing k) lib y x)))
    (λ m y. missing_same k m (same_library (Missing k) (Missing m) lib x y)) g q)
    f p

-- a text that says something has no fault

pub says_no_fault : (net : List ℕ) (n : NetView) → netlist.SaysNetlist net n → (fault : Fault)
    → ¬ IsNetlistFault net fault
says_no_fault net n says fault bad = each_netlist (λ f. ⊥) net
    (λ r some x. some (said.memory_alone net n r says x)) fault bad

pub says_no_plain_fault : (net : List ℕ) (n : NetView) → plain.SaysNet net n → (fault : Fault)
    → ¬ IsPlainFault net fault
says_no_plain_fault net n says fault bad = each_plain (λ f. ⊥) net (λ a x. no_fault_says a _ x says.sound) fault bad

pub says_no_cells_fault : (lib : List ℕ) (l : LibraryView) → library.SaysLibrary lib l → (fault : Fault)
    → ¬ IsCellsFault lib fault
says_no_cells_fault lib l says fault bad =
    let good : SaysLibrary lib = record { view = l; says = says } in
    each_cells (λ f. ⊥) lib (λ a x none. library_either lib a x good)
    (λ k x. library_either lib (Missing k) x good) fault bad

pub one_plain : (net : List ℕ) (n m : NetView) → plain.SaysNet net n → plain.SaysNet net m → n ≡ m
one_plain net n m p q = p.parts ∙ sym q.parts

-- the fault of a refusal of the plan
abbrev of_plan : PlanRefusal → Fault
of_plan (plan.Slots span) = TooLarge Slots span
of_plan (plan.Rows rows) = TooLarge Rows rows
of_plan (plan.Cells cells) = TooLarge Cells cells
of_plan plan.Memory = Memory

-- the plan refuses, and the fault tells its refusal
record IsOfPlan (n : NetView) (l : LibraryView) (what : Large) (count : ℕ) : Type 0 where
  pub refusal : PlanRefusal
  pub no_memory : refusal ≢ plan.Memory
  pub refuses : Refuses l n refusal
  pub fault_is : TooLarge what count ≡ of_plan refusal

record IsOfElements (n : NetView) (l : LibraryView) (what : Large) (count : ℕ) : Type 0 where
  pub what_is : what ≡ Elements
  pub many : HasManyElements n l count

slots_left : (span : ℕ) → plan.Slots span ≢ plan.Memory
slots_left span e = cc

rows_left : (rows : ℕ) → plan.Rows rows ≢ plan.Memory
rows_left rows e = cc

cells_left : (cells : ℕ) → plan.Cells cells ≢ plan.Memory
cells_left cells e = cc

limit_passed : (n : NetView) (l : LibraryView) (what : Large) (count : ℕ) → HasTooMuch n l what count
    → IsOfPlan n l what count ⊎ IsOfElements n l what count
limit_passed n l Slots count h =
    inl (record { refusal = plan.Slots count; no_memory = slots_left count; refuses = h; fault_is = refl })
limit_passed n l Rows count h =
    inl (record { refusal = plan.Rows count; no_memory = rows_left count; refuses = h; fault_is = refl })
limit_passed n l Cells count h =
    inl (record { refusal = plan.Cells count; no_memory = cells_left count; refuses = h; fault_is = refl })
limit_passed n l Elements count h = inr (record { what_is = refl; many = h })
limit_passed n l Shapes count h = absurd h
limit_passed n l Functions count h = absurd h
limit_passed n l Design count h = absurd h

pub many_and_few : (n count : ℕ) → n ≤ element_limit → count ≡ n → element_limit < count → ⊥
many_and_few n count small is above = omega arith

module _ (past : (l : LibraryView) (net : NetView) (refusal : PlanRefusal) → refusal ≢ plan.Memory
    → Refuses l net refusal → IsWithin l net → ⊥)
    (only : (l : LibraryView) (net : NetView) (one other : PlanRefusal) → one ≢ plan.Memory → other ≢ plan.Memory
    → Refuses l net one → Refuses l net other → one ≡ other) where
  same_large : (n : NetView) (l : LibraryView) (what other : Large) (a b : ℕ) → HasTooMuch n l what a
      → HasTooMuch n l other b → ◌≡◌ {A = Fault} (TooLarge what a) (TooLarge other b)
  same_large n l what other a b p q = elim (limit_passed n l what a p) [
    | inl x ↦ elim (limit_passed n l other b q) [
      | inl y ↦ x.fault_is ∙ (ap of_plan (only l n x.refusal y.refusal x.no_memory y.no_memory x.refuses y.refuses)
          ∙ sym y.fault_is)
      | inr y ↦ absurd (past l n x.refusal x.no_memory x.refuses y.many.within)
    ]
    | inr x ↦ elim (limit_passed n l other b q) [
      | inl y ↦ absurd (past l n y.refusal y.no_memory y.refuses x.many.within)
      | inr y ↦ let w = x.what_is ∙ sym y.what_is in let c = x.many.count_is
          ∙ sym y.many.count_is in λ i. TooLarge (w i) (c i)
    ]
  ]

  not_large : (n : NetView) (l : LibraryView) (what : Large) (count : ℕ) → KeepsLimits n l
      → HasTooMuch n l what count → ⊥
  not_large n l what count keeps h = elim (limit_passed n l what count h) [
    | inl x ↦ past l n x.refusal x.no_memory x.refuses keeps.within
    | inr y ↦ (
        let small : element_number (chip_of l n) ≤ element_limit = keeps.small in
        let is : count ≡ element_number (chip_of l n) = y.many.count_is in
        let above : element_limit < count = y.many.above in
        many_and_few (element_number (chip_of l n)) count small is above
        )
  ]

  one_limit : (n : NetView) (l : LibraryView) (f g : Fault) → IsPlanFault n l f → IsPlanFault n l g → f ≡ g
  one_limit n l f g p q = each_plan (λ f. f ≡ g) n l
      (λ what a x. each_plan (λ g. TooLarge what a ≡ g) n l (λ other b y. same_large n l what other a b x y) g q) f p

  -- a plan that keeps its limits passes none
  pub passes_none : (n : NetView) (l : LibraryView) → KeepsLimits n l → (fault : Fault) → ¬ IsPlanFault n l fault
  passes_none n l keeps fault bad = each_plan (λ f. ⊥) n l (λ what count x. not_large n l what count keeps x) fault bad

  one_found : (planner : Planner) (n : NetView) (l : LibraryView) (f g : Fault) → PlanFinds planner n l f
      → PlanFinds planner n l g → f ≡ g
  one_found Build n l f g p q = one_limit n l f g p q
  one_found Compact n l f g p q = absurd p
  one_found Draw n l f g p q = one_own_fault n l f g p q

  pub one_plan_fault : (planner : Planner) (net lib : List ℕ) (f g : Fault)
      → HasDesign net lib (λ n l. PlanFinds planner n l f)
      → HasDesign net lib (λ n l. PlanFinds planner n l g) → f ≡ g
  one_plan_fault planner net lib f g p q =
      let n : q.equations ≡ p.equations = one_net net q.equations p.equations q.says.net_says p.says.net_says in
      let l : q.cells ≡ p.cells = same_said lib q.cells p.cells q.says.lib_says p.says.lib_says in
      one_found planner p.equations p.cells f g p.holds
      (subst (λ l. PlanFinds planner p.equations l g) l (subst (λ n. PlanFinds planner n q.cells g) n q.holds))

  pub one_own_plan_fault : (net : List ℕ) (l : LibraryView) (f g : Fault) → HasNetlist net (λ n. IsPlanFault n l f)
      → HasNetlist net (λ n. IsPlanFault n l g) → f ≡ g
  one_own_plan_fault net l f g p q =
      one_limit p.equations l f g p.holds
      (subst (λ n. IsPlanFault n l g) (one_plain net q.equations p.equations q.says p.says) q.holds)
