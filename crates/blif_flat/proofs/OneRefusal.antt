-- A text has one refusal at most but for want of memory.
use Rattle.std.proofs.Common.{◌≡◌, ◌≢◌, ◌⊎◌, inl, inr, ℕ, ◌<◌, ◌≤◌, Bool, true, false, List, length, Option, Some, None}
use Rattle.std.proofs.Common.{zero, suc, slice_index_or, refl, sym, ap, subst, ◌∙◌, arith}
use Rattle.std.proofs.lemmas.Bool.{cases_lt}
use Rattle.blif_read.specs.Lines.{logical_lines}
use Rattle.blif_read.specs.Faults.{line_of}
use Rattle.blif_read.specs.Walk.{first_cycle}
use Rattle.blif_read.specs.Models.{SaysModels, ModelsFault}
use Rattle.blif_read.specs.declared.models.BlifModel.{BlifModel}
use Rattle.blif_read.specs.declared.netlist.BlifFault.{BlifFault}
use Rattle.blif_read.specs.declared.netlist.BlifFault.TheVariants.{Cycle}
use Rattle.blif_flat.specs.Designs.{first_model}
use Rattle.blif_flat.specs.DesignFaults.{IsFirstFault, IsToldBefore, AreJoined, loop_of, loop_line, rank}
use Rattle.blif_flat.specs.DesignSize.{design_size, size_limit}
use Rattle.blif_flat.specs.Expansion.{expansion}
use Rattle.blif_flat.specs.DesignText.{is_design, IsLaidOut, IsBuildable, HasNoOutputs, IsToldLoop, IsToldFault}
use Rattle.blif_flat.specs.DesignText.{IsToldSize, IsToldCycle}
use Rattle.blif_flat.specs.DesignText.{told_names, OfModels, IsDesignRefusal, IsTextRefusal, IsNetlistRefusal}
use Rattle.blif_flat.specs.declared.design.FlatKind.{FlatKind}
use Rattle.blif_flat.specs.declared.design.FlatKind.TheVariants.{ModelTwice, UnknownModel, Ports, Duplicate, Undefined}
use Rattle.blif_flat.specs.declared.design.FlatKind.TheVariants.{Recursive, NoOutputs}
use Rattle.blif_flat.specs.declared.design.FlatRefusal.{FlatRefusal}
use Rattle.blif_flat.specs.declared.design.FlatRefusal.TheVariants.{Text, Design, TooMany, Memory}

pub same_some : {X : Type 0} (a b : X) (x : Option X) → x ≡ Some a → x ≡ Some b → a ≡ b
same_some a b x p q = cc

none_and_some : {X : Type 0} (a : X) (x : Option X) → x ≡ None → x ≡ Some a → ⊥
none_and_some a x p q = cc

-- of two faults that are each told first each is the other

abbrev kind_at : ℕ → FlatKind
kind_at zero = ModelTwice
kind_at (suc zero) = UnknownModel
kind_at (suc (suc zero)) = Ports
kind_at (suc (suc (suc zero))) = Duplicate
kind_at (suc (suc (suc (suc zero)))) = Undefined
kind_at (suc (suc (suc (suc (suc zero))))) = Recursive
kind_at (suc (suc (suc (suc (suc (suc n)))))) = NoOutputs

kind_of_rank : (kind : FlatKind) → kind_at (rank kind) ≡ kind
kind_of_rank ModelTwice = refl
kind_of_rank UnknownModel = refl
kind_of_rank Ports = refl
kind_of_rank Duplicate = refl
kind_of_rank Undefined = refl
kind_of_rank Recursive = refl
kind_of_rank NoOutputs = refl

same_rank : (kind late : FlatKind) → rank kind ≡ rank late → kind ≡ late
same_rank kind late e = sym (kind_of_rank kind) ∙ ap kind_at e ∙ kind_of_rank late

same_place : (line : ℕ) (kind : FlatKind) (other : ℕ) (late : FlatKind) →
    IsToldBefore line kind other late → IsToldBefore other late line kind → (line ≡ other) × (kind ≡ late)
same_place line kind other late (inl p) (inl q) = absurd (omega arith)
same_place line kind other late (inl p) (inr q) = absurd (omega (arith, q.0))
same_place line kind other late (inr p) (inl q) = absurd (omega (arith, p.0))
same_place line kind other late (inr p) (inr q) = (p.0, same_rank kind late (omega (arith, p.1, q.1)))

design_same : (line other : ℕ) (kind late : FlatKind) → line ≡ other → kind ≡ late →
    ◌≡◌ {A = FlatRefusal} (Design line kind) (Design other late)
design_same line other kind late e f = λ i. Design (e i) (f i)

module _ (models : List BlifModel) where
  first_once : (line : ℕ) (kind : FlatKind) (other : ℕ) (late : FlatKind) →
      IsFirstFault models line kind → IsFirstFault models other late → (line ≡ other) × (kind ≡ late)
  first_once line kind other late p q = same_place line kind other late
      (p.first other late q.is) (q.first line kind p.is)

  -- the tests that a design passes in turn
  abbrev Passes : ℕ → Type 0
  Passes zero = AreJoined models
  Passes (suc zero) = loop_of models ≡ None
  Passes (suc (suc zero)) = 0 < length (first_model models).outputs
  Passes (suc (suc (suc zero))) = design_size models ≤ size_limit
  Passes (suc (suc (suc (suc n)))) = first_cycle (expansion models).inputs (expansion models).defs ≡ None

  -- it stops at a test: it passes those before, and not this one
  record StopsAt (level : ℕ) : Type 0 where
    pub passes : (k : ℕ) → k < level → Passes k
    pub fails : Passes level → ⊥

  one_stop : (a b : ℕ) → StopsAt a → StopsAt b → a ≡ b
  one_stop a b p q = elim (cases_lt a b) [
    | inl less ↦ absurd (p.fails (q.passes a less))
    | inr more ↦ elim (cases_lt b a) [
      | inl less ↦ absurd (q.fails (p.passes b less))
      | inr most ↦ omega arith
    ]
  ]

  before_0 : (k : ℕ) → k < 0 → Passes k
  before_0 k below = absurd (omega arith)

  before_1 : AreJoined models → (k : ℕ) → k < 1 → Passes k
  before_1 joined zero below = joined
  before_1 joined (suc k) below = absurd (omega arith)

  before_2 : IsLaidOut models → (k : ℕ) → k < 2 → Passes k
  before_2 laid zero below = laid.joined
  before_2 laid (suc zero) below = laid.straight
  before_2 laid (suc (suc k)) below = absurd (omega arith)

  before_3 : IsLaidOut models → 0 < length (first_model models).outputs → (k : ℕ) → k < 3 → Passes k
  before_3 laid some zero below = laid.joined
  before_3 laid some (suc zero) below = laid.straight
  before_3 laid some (suc (suc zero)) below = some
  before_3 laid some (suc (suc (suc k))) below = absurd (omega arith)

  before_4 : IsBuildable models → (k : ℕ) → k < 4 → Passes k
  before_4 b zero below = b.laid_out.joined
  before_4 b (suc zero) below = b.laid_out.straight
  before_4 b (suc (suc zero)) below = b.some_output
  before_4 b (suc (suc (suc zero))) below = b.small
  before_4 b (suc (suc (suc (suc k)))) below = absurd (omega arith)

  -- what a refusal that is no fault of a single model says
  abbrev Told : FlatRefusal → Type 0
  Told (Text fault) = IsToldCycle models fault
  Told (Design line kind) = IsToldFault models line kind
  Told (TooMany size) = IsToldSize models size
  Told Memory = ⊥

  abbrev level : FlatRefusal → ℕ
  level (Text fault) = 4
  level (Design line ModelTwice) = 0
  level (Design line UnknownModel) = 0
  level (Design line Ports) = 0
  level (Design line Duplicate) = 0
  level (Design line Undefined) = 0
  level (Design line Recursive) = 1
  level (Design line NoOutputs) = 2
  level (TooMany size) = 3
  level Memory = 5

  line_stops : (line : ℕ) (kind : FlatKind) → IsFirstFault models line kind → StopsAt 0
  line_stops line kind p = record { passes = before_0; fails = λ joined. joined line kind p.is }

  none_above : (n : ℕ) → n ≡ 0 → 0 < n → ⊥
  none_above n is above = omega arith

  large_above : (n limit : ℕ) → limit < n → n ≤ limit → ⊥
  large_above n limit above most = omega arith

  stops : (r : FlatRefusal) → Told r → StopsAt (level r)
  stops (Text fault) t = record { passes = before_4 t.buildable; fails = λ none. none_and_some t.cycle _ none t.first }
  stops (Design line ModelTwice) t = line_stops line ModelTwice t
  stops (Design line UnknownModel) t = line_stops line UnknownModel t
  stops (Design line Ports) t = line_stops line Ports t
  stops (Design line Duplicate) t = line_stops line Duplicate t
  stops (Design line Undefined) t = line_stops line Undefined t
  stops (Design line Recursive) t =
      record { passes = before_1 t.joined; fails = λ none. none_and_some t.loop.loop _ none t.loop.first }
  stops (Design line NoOutputs) t = record { passes = before_2 t.laid_out; fails = none_above _ t.none }
  stops (TooMany size) t =
      record { passes = before_3 t.laid_out t.some_output; fails = large_above (design_size models) size_limit t.large }
  stops Memory t = absurd t

  -- a line fault, whatever its kind
  line_fault : (line : ℕ) (kind : FlatKind) → IsToldFault models line kind → level (Design line kind) ≡ 0
      → IsFirstFault models line kind
  line_fault line ModelTwice t e = t
  line_fault line UnknownModel t e = t
  line_fault line Ports t e = t
  line_fault line Duplicate t e = t
  line_fault line Undefined t e = t
  line_fault line Recursive t e = absurd (omega arith)
  line_fault line NoOutputs t e = absurd (omega arith)

  design_level : (line : ℕ) (kind : FlatKind) → level (Design line kind) < 3
  design_level line ModelTwice = omega arith
  design_level line UnknownModel = omega arith
  design_level line Ports = omega arith
  design_level line Duplicate = omega arith
  design_level line Undefined = omega arith
  design_level line Recursive = omega arith
  design_level line NoOutputs = omega arith

  abbrev told_of : List ℕ → BlifFault
  told_of cycle = Cycle
      (line_of (expansion models).inputs (expansion models).defs (slice_index_or cycle 0 0))
      (told_names models cycle)

  same_cycle : (a b : BlifFault) → IsToldCycle models a → IsToldCycle models b → ◌≡◌ {A = FlatRefusal} (Text a) (Text b)
  same_cycle a b p q =
      let cycle : p.cycle ≡ q.cycle = same_some p.cycle q.cycle _ p.first q.first in
      ap Text (p.told ∙ ap told_of cycle ∙ sym q.told)

  a_loop : (line : ℕ) (kind : FlatKind) → IsToldFault models line kind → level (Design line kind) ≡ 1 →
      IsToldLoop models line × (kind ≡ Recursive)
  a_loop line ModelTwice t e = absurd (omega arith)
  a_loop line UnknownModel t e = absurd (omega arith)
  a_loop line Ports t e = absurd (omega arith)
  a_loop line Duplicate t e = absurd (omega arith)
  a_loop line Undefined t e = absurd (omega arith)
  a_loop line Recursive t e = (t, refl)
  a_loop line NoOutputs t e = absurd (omega arith)

  no_outputs : (line : ℕ) (kind : FlatKind) → IsToldFault models line kind → level (Design line kind) ≡ 2 →
      HasNoOutputs models line × (kind ≡ NoOutputs)
  no_outputs line ModelTwice t e = absurd (omega arith)
  no_outputs line UnknownModel t e = absurd (omega arith)
  no_outputs line Ports t e = absurd (omega arith)
  no_outputs line Duplicate t e = absurd (omega arith)
  no_outputs line Undefined t e = absurd (omega arith)
  no_outputs line Recursive t e = absurd (omega arith)
  no_outputs line NoOutputs t e = (t, refl)

  same_line : (line : ℕ) (kind : FlatKind) (other : ℕ) (late : FlatKind) → IsFirstFault models line kind →
      IsToldFault models other late → 0 ≡ level (Design other late) →
      ◌≡◌ {A = FlatRefusal} (Design line kind) (Design other late)
  same_line line kind other late p t e =
      let both = first_once line kind other late p (line_fault other late t (sym e)) in
      design_same line other kind late both.0 both.1

  same_design : (line : ℕ) (kind : FlatKind) (other : ℕ) (late : FlatKind) → IsToldFault models line kind →
      IsToldFault models other late → level (Design line kind) ≡ level (Design other late) →
      ◌≡◌ {A = FlatRefusal} (Design line kind) (Design other late)
  same_design line ModelTwice other late p q e = same_line line ModelTwice other late p q e
  same_design line UnknownModel other late p q e = same_line line UnknownModel other late p q e
  same_design line Ports other late p q e = same_line line Ports other late p q e
  same_design line Duplicate other late p q e = same_line line Duplicate other late p q e
  same_design line Undefined other late p q e = same_line line Undefined other late p q e
  same_design line Recursive other late p q e =
      let r = a_loop other late q (sym e) in
      let loop : p.loop.loop ≡ r.0.loop.loop = same_some p.loop.loop r.0.loop.loop _ p.loop.first r.0.loop.first in
      design_same line other Recursive late (sym p.loop.at ∙ ap (loop_line models) loop ∙ r.0.loop.at) (sym r.1)
  same_design line NoOutputs other late p q e =
      let r = no_outputs other late q (sym e) in design_same line other NoOutputs late (p.at ∙ sym r.0.at) (sym r.1)

  other_level : (a b : ℕ) → a ≡ b → b < 3 → 3 ≤ a → ⊥
  other_level a b e small large = omega arith

  same_told : (r s : FlatRefusal) → Told r → Told s → level r ≡ level s → r ≡ s
  same_told (Text a) (Text b) p q e = same_cycle a b p q
  same_told (Text a) (Design line kind) p q e = absurd (other_level 4 _ e (design_level line kind) (omega arith))
  same_told (Text a) (TooMany size) p q e = absurd (omega arith)
  same_told (Design line kind) (Text b) p q e = absurd (other_level 4 _ (sym e) (design_level line kind) (omega arith))
  same_told (Design line kind) (Design other late) p q e = same_design line kind other late p q e
  same_told (Design line kind) (TooMany size) p q e =
      absurd (other_level 3 _ (sym e) (design_level line kind) (omega arith))
  same_told (TooMany size) (Text b) p q e = absurd (omega arith)
  same_told (TooMany size) (Design line kind) p q e = absurd (other_level 3 _ e (design_level line kind) (omega arith))
  same_told (TooMany size) (TooMany other) p q e = ap TooMany (p.told ∙ sym q.told)
  same_told Memory s p q e = absurd p
  same_told (Text a) Memory p q e = absurd q
  same_told (Design line kind) Memory p q e = absurd q
  same_told (TooMany size) Memory p q e = absurd q

  one_told : (r s : FlatRefusal) → Told r → Told s → r ≡ s
  one_told r s p q = same_told r s p q (one_stop (level r) (level s) (stops r p) (stops s q))

-- a text says one list of models, and then has no fault of its models alone
pub one_list : (text : List ℕ) (a b : List BlifModel) → SaysModels text a → SaysModels text b → a ≡ b
one_list text a b p q = p.each ∙ sym q.each

sound_models : (text : List ℕ) (models : List BlifModel) (fault : BlifFault) → SaysModels text models
    → ModelsFault text fault → ⊥
sound_models text models fault p q = none_and_some fault _ p.sound q

-- a refusal of a design is told of its models, or is a fault of one of them
told : (text : List ℕ) (r : FlatRefusal) → r ≢ Memory → IsDesignRefusal text r →
    OfModels text (λ models. Told models r) ⊎ ((fault : BlifFault) × (r ≡ Text fault) × ModelsFault text fault)
told text (Text fault) some (inl bad) = inr (fault, refl, bad)
told text (Text fault) some (inr of) = inl of
told text (Design line kind) some of = inl of
told text (TooMany size) some of = inl of
told text Memory some of = absurd (some refl)

design_refusals : (text : List ℕ) (r s : FlatRefusal) → r ≢ Memory → s ≢ Memory → IsDesignRefusal text r →
    IsDesignRefusal text s → r ≡ s
design_refusals text r s some other p q = elim (told text r some p) [
  | inl a ↦ elim (told text s other q) [
    | inl b ↦
        let same : a.models ≡ b.models = one_list text a.models b.models a.said b.said in
        one_told b.models r s (subst (λ m. Told m r) same a.fact) b.fact
    | inr b ↦ absurd (sound_models text a.models b.0 a.said b.2)
  ]
  | inr a ↦ elim (told text s other q) [
    | inl b ↦ absurd (sound_models text b.models a.0 b.said a.2)
    | inr b ↦ a.1 ∙ ap Text (same_some a.0 b.0 _ a.2 b.2) ∙ sym b.1
  ]
]

text_refusals : (text : List ℕ) (r s : FlatRefusal) → r ≢ Memory → s ≢ Memory → IsTextRefusal text r →
    IsTextRefusal text s → r ≡ s
text_refusals text (Text a) (Text b) some other p q = ap Text (same_some a b _ p q)
text_refusals text (Text a) (Design line kind) some other p q = absurd q
text_refusals text (Text a) (TooMany size) some other p q = absurd q
text_refusals text (Text a) Memory some other p q = absurd (other refl)
text_refusals text (Design line kind) s some other p q = absurd p
text_refusals text (TooMany size) s some other p q = absurd p
text_refusals text Memory s some other p q = absurd (some refl)

-- a text is a design or is none

abbrev IsRefusal : Bool → List ℕ → FlatRefusal → Type 0
IsRefusal is text r = elim is [ true ↦ IsDesignRefusal text r | false ↦ IsTextRefusal text r ]

refusals : (is : Bool) (text : List ℕ) (r s : FlatRefusal) → r ≢ Memory → s ≢ Memory → IsRefusal is text r →
    IsRefusal is text s → r ≡ s
refusals true text r s some other p q = design_refusals text r s some other p q
refusals false text r s some other p q = text_refusals text r s some other p q

pub one_refusal : (text : List ℕ) (r s : FlatRefusal) → r ≢ Memory → s ≢ Memory → IsNetlistRefusal text r →
    IsNetlistRefusal text s → r ≡ s
one_refusal text r s some other p q =
    refusals (is_design (logical_lines text)) text r s some other p q
