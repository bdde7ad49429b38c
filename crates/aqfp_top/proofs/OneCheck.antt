-- A stream, its size, its shapes and words have one fault each at most, and none where all is well.
use Rattle.std.proofs.Common.{ℕ, ◌≡◌, ◌<◌, ◌≤◌, ◌+◌, ◌-◌, ◌^◌, inl, inr, arith, true, List, length, All, take}
use Rattle.std.proofs.Common.{slice_get, Some, sym, subst, ap, ◌∙◌}
use Rattle.std.proofs.Math.Nat.{min-le_left}
use Rattle.std.proofs.lemmas.Bool.{cases_order}
use Rattle.std.proofs.lemmas.List.{get_or-take, length-take}
use Rattle.std.proofs.lemmas.Option.{get_or_from_slice_get, slice_get_within}
use Rattle.std.specs.Str.Lines.{lines}
use Rattle.geom.specs.declared.shapes.Flat.{Flat}
use Rattle.geom.specs.FlatForm.{flat_count, shape_limit}
use Rattle.poly_cut.specs.declared.layout.WideLayout.{WideLayout}
use Rattle.poly_cut.specs.FlatForm.{wide_flat}
use Rattle.poly_cut.specs.Counts.{told, wide_count}
use Rattle.gds_records.specs.Stream.{IsWideStream}
use Rattle.gds_records.specs.Faults.{WideFault}
use Rattle.gds_records.specs.declared.fault.StreamKind.{StreamKind}
use Rattle.gds_read.specs.WideReading.{IsWideTooLarge}
use Rattle.layout_rules.specs.declared.rule.Rule.{Rule}
use Rattle.layout_rules.specs.declared.rule.Rule.TheVariants.{E1, E2, E6}
use Rattle.layout_rules.specs.Limits.{Limits}
use Rattle.cell_library.specs.Library.{limits_of}
use Rattle.layout_rules.specs.Rules.{Keeps, FirstBroken}
use Rattle.layout_rules.specs.Rules.{IsOneReport}
use Rattle.circuit_extracted.specs.Circuits.{CircuitView}
use Rattle.shape_extract.specs.Extraction.{IsCircuitOf}
use Rattle.text_answers.specs.WordsText.{is_word, SaysWords, IsBadLine}
use Rattle.aqfp_top.specs.Checks.{IsLayoutOf, IsUnruly, MakesCircuit, IsMisworded, IsSound, IsStreamFault, IsSizeFault}
use Rattle.aqfp_top.specs.Checks.{IsRuleFault, IsWordsFault}
use Rattle.aqfp_top.specs.declared.fault.Large.TheVariants.{Shapes}
use Rattle.aqfp_top.specs.declared.fault.Fault.{Fault}
use Rattle.aqfp_top.specs.declared.fault.Fault.TheVariants.{TooLarge, BadStream, RuleBroken, BadWords}
use Rattle.aqfp_top.proofs.OneFault.{same_said}

-- what holds of each fault of a stage holds of whatever it finds

each_stream : (P : Fault → Type 0) (gds : List ℕ)
    → ((offset : ℕ) (kind : StreamKind) → WideFault gds offset kind → P (BadStream offset kind)) → (fault : Fault)
    → IsStreamFault gds fault → P fault
each_stream P gds stream (BadStream offset kind) bad = stream offset kind bad
each_stream P gds stream _ bad = absurd bad

each_size : (P : Fault → Type 0) (gds : List ℕ) → ((count : ℕ) → IsWideTooLarge gds count → P (TooLarge Shapes count))
    → (fault : Fault) → IsSizeFault gds fault → P fault
each_size P gds large (TooLarge Shapes count) bad = large count bad
each_size P gds large _ bad = absurd bad

each_rule : (P : Fault → Type 0) (gds lib : List ℕ)
    → ((rule : Rule) (first second : ℕ) → IsUnruly gds lib rule first second → P (RuleBroken rule first second))
    → (fault : Fault) → IsRuleFault gds lib fault → P fault
each_rule P gds lib rules (RuleBroken rule first second) bad = rules rule first second bad
each_rule P gds lib rules _ bad = absurd bad

each_words : (P : Fault → Type 0) (gds lib text : List ℕ)
    → ((line : ℕ) → IsMisworded gds lib text line → P (BadWords line)) → (fault : Fault)
    → IsWordsFault gds lib text fault → P fault
each_words P gds lib text words (BadWords line) bad = words line bad
each_words P gds lib text words _ bad = absurd bad

-- a text with a bad line doesn't say words, and it has one first bad line

at_line : (width : ℕ) (all : List (List ℕ)) (n i : ℕ) (line : List ℕ) → All (λ l. is_word width l ≡ true) (take n all)
    → i < n → slice_get all i ≡ Some line → is_word width line ≡ true
at_line width all n i line good less at =
    let long : i < length all = slice_get_within all i line at in
    let within : i < length (take n all) = rw (length-take n all) (omega (arith, less, long)) in
    subst (λ l. is_word width l ≡ true) (get_or-take n all i line less
    ∙ get_or_from_slice_get all i line line at) (good i line within)

says_no_bad : (width : ℕ) (text : List ℕ) (number : ℕ) → SaysWords width text → IsBadLine width text number → ⊥
says_no_bad width text number says bad =
    let long : bad.index < length (lines text) = slice_get_within (lines text) bad.index bad.line bad.line_is in
    let good : is_word width bad.line ≡ true = subst (λ l. is_word width l ≡ true)
    (get_or_from_slice_get (lines text) bad.index bad.line bad.line bad.line_is) (says bad.index bad.line long) in
    let not_good = bad.bad in cc

same_line : (width : ℕ) (text : List ℕ) (a b : ℕ) → IsBadLine width text a → IsBadLine width text b → a ≡ b
same_line width text a b p q = elim (cases_order p.index q.index) [
  | inl same ↦ p.number_is ∙ (ap (λ n. n + 1) same ∙ sym q.number_is)
  | inr other ↦ elim other [
    | inl less ↦ absurd (let good : is_word width p.line ≡ true = at_line width
        (lines text) q.index p.index p.line q.before less p.line_is in let bad = p.bad in cc)
    | inr more ↦ absurd (let good : is_word width q.line ≡ true = at_line width
        (lines text) p.index q.index q.line p.before more q.line_is in let bad = q.bad in cc)
  ]
]

-- a number as 64 bits tell it is not above it
not_above : (n count : ℕ) → n ≤ shape_limit → count ≡ told n → shape_limit < count → ⊥
not_above n count fits is above = let less : told n ≤ n = min-le_left n (2 ^ 64 - 1) in omega
    (arith, fits, above, is, less)

-- The stream.

module _ (not_both : (bytes : List ℕ) (layout : WideLayout) (offset : ℕ) (kind : StreamKind) → IsWideStream bytes layout
    → WideFault bytes offset kind → ⊥) where
  pub stream_none : (gds : List ℕ) (layout : WideLayout) → IsWideStream gds layout → (fault : Fault)
      → ¬ IsStreamFault gds fault
  stream_none gds layout stream fault bad = each_stream (λ f. ⊥) gds
      (λ o k x. not_both gds layout o k stream x) fault bad

module _ (one_fault : (bytes : List ℕ) (offset other : ℕ) (kind second : StreamKind) → WideFault bytes offset kind
    → WideFault bytes other second → (offset ≡ other) × (kind ≡ second)) where
  pub one_stream_fault : (gds : List ℕ) (f g : Fault) → IsStreamFault gds f → IsStreamFault gds g → f ≡ g
  one_stream_fault gds f g p q = each_stream (λ f. f ≡ g) gds
      (λ o k x. each_stream (λ g. BadStream o k ≡ g) gds
      (λ o' k' y. (let one = one_fault gds o o' k k' x y in λ i. BadStream (one.0 i) (one.1 i))) g q) f p

-- Its size, and its rules.

module _ (one_layout : (bytes : List ℕ) (layout other : WideLayout) → IsWideStream bytes layout
    → IsWideStream bytes other → layout ≡ other) where
  module _ (exact : (layout : WideLayout) → wide_count layout ≡ flat_count (wide_flat layout)) where
    not_large : (gds : List ℕ) (count : ℕ) (layout : WideLayout) → IsWideTooLarge gds count → IsLayoutOf gds layout → ⊥
    not_large gds count layout large read =
        let same : large.layout ≡ layout = one_layout gds large.layout layout large.stream read.stream in
        let fits : flat_count (wide_flat layout) ≤ shape_limit = read.within in
        let above : shape_limit < count = large.above in
        let is : count ≡ told (flat_count (wide_flat layout)) = large.count_is
        ∙ ap told (ap wide_count same ∙ exact layout) in
        not_above (flat_count (wide_flat layout)) count fits is above

    pub size_none : (gds : List ℕ) (layout : WideLayout) → IsLayoutOf gds layout → (fault : Fault)
        → ¬ IsSizeFault gds fault
    size_none gds layout read fault bad = each_size (λ f. ⊥) gds (λ n x. not_large gds n layout x read) fault bad

  same_count : (gds : List ℕ) (a b : ℕ) → IsWideTooLarge gds a → IsWideTooLarge gds b → a ≡ b
  same_count gds a b p q = p.count_is
      ∙ (ap (λ l. told (wide_count l)) (one_layout gds p.layout q.layout p.stream q.stream) ∙ sym q.count_is)

  pub one_size_fault : (gds : List ℕ) (f g : Fault) → IsSizeFault gds f → IsSizeFault gds g → f ≡ g
  one_size_fault gds f g p q = each_size (λ f. f ≡ g) gds
      (λ n x. each_size (λ g. TooLarge Shapes n ≡ g) gds (λ m y. ap (TooLarge Shapes) (same_count gds n m x y)) g q) f p

  not_unruly : (gds lib : List ℕ) (rule : Rule) (a b : ℕ) (circuit : CircuitView) → IsUnruly gds lib rule a b
      → MakesCircuit gds lib circuit → ⊥
  not_unruly gds lib rule a b circuit unruly makes =
      let layout : unruly.layout ≡ makes.layout =
      one_layout gds unruly.layout makes.layout unruly.read.stream makes.read.stream in
      let cells : unruly.library.view ≡ makes.library.view =
      same_said lib unruly.library.view makes.library.view unruly.library.says makes.library.says in
      let broken : FirstBroken (wide_flat makes.layout) (limits_of makes.library.view) rule a b =
      subst (λ c. FirstBroken (wide_flat makes.layout) (limits_of c) rule a b) cells
      (subst (λ l. FirstBroken (wide_flat l) (limits_of unruly.library.view) rule a b) layout unruly.broken) in
      makes.rules rule a b broken.report.reported

  pub rules_none : (gds lib : List ℕ) (circuit : CircuitView) → MakesCircuit gds lib circuit → (fault : Fault)
      → ¬ IsRuleFault gds lib fault
  rules_none gds lib circuit makes fault bad = each_rule (λ f. ⊥) gds lib
      (λ r a b x. not_unruly gds lib r a b circuit x makes) fault bad

  module _ (broken_once : (flat : Flat) (limits : Limits) (rule other : Rule) (a b c d : ℕ)
      → FirstBroken flat limits rule a b → FirstBroken flat limits other c d → IsOneReport rule other a b c d) where
    same_rule : (gds lib : List ℕ) (r s : Rule) (a b c d : ℕ) → IsUnruly gds lib r a b → IsUnruly gds lib s c d
        → ◌≡◌ {A = Fault} (RuleBroken r a b) (RuleBroken s c d)
    same_rule gds lib r s a b c d p q =
        let layout : p.layout ≡ q.layout = one_layout gds p.layout q.layout p.read.stream q.read.stream in
        let cells : p.library.view ≡ q.library.view =
        same_said lib p.library.view q.library.view p.library.says q.library.says in
        let broken : FirstBroken (wide_flat q.layout) (limits_of q.library.view) r a b =
        subst (λ v. FirstBroken (wide_flat q.layout) (limits_of v) r a b) cells
        (subst (λ l. FirstBroken (wide_flat l) (limits_of p.library.view) r a b) layout p.broken) in
        let one = broken_once (wide_flat q.layout) (limits_of q.library.view) r s a b c d broken q.broken in
        λ i. RuleBroken (one.one_rule i) (one.one_first i) (one.one_second i)

    pub one_rule_fault : (gds lib : List ℕ) (f g : Fault) → IsRuleFault gds lib f → IsRuleFault gds lib g → f ≡ g
    one_rule_fault gds lib f g p q = each_rule (λ f. f ≡ g) gds lib
        (λ r a b x. each_rule (λ g. RuleBroken r a b ≡ g) gds lib
        (λ s c d y. same_rule gds lib r s a b c d x y) g q) f p

  module _ (one_circuit : (flat : Flat) (limits : Limits) (first second : CircuitView) → Keeps E1 flat limits
      → Keeps E2 flat limits → Keeps E6 flat limits → IsCircuitOf flat first
      → IsCircuitOf flat second → first ≡ second) where
    pub same_circuit : (gds lib : List ℕ) (first second : CircuitView) → MakesCircuit gds lib first
        → MakesCircuit gds lib second → first ≡ second
    same_circuit gds lib first second p q =
        let same : p.layout ≡ q.layout = one_layout gds p.layout q.layout p.read.stream q.read.stream in
        let circuit_is : IsCircuitOf (wide_flat q.layout) first =
        subst (λ l. IsCircuitOf (wide_flat l) first) same p.circuit_is in
        one_circuit (wide_flat q.layout) (limits_of q.library.view) first second (q.rules E1) (q.rules E2)
        (q.rules E6) circuit_is q.circuit_is

    pub words_none : (gds lib text : List ℕ) (circuit : CircuitView) → IsSound gds lib text circuit → (fault : Fault)
        → ¬ IsWordsFault gds lib text fault
    words_none gds lib text circuit sound fault bad = each_words (λ f. ⊥) gds lib text
        (λ l x. (let same : x.circuit ≡ circuit = same_circuit gds lib x.circuit circuit x.makes sound.makes in
        says_no_bad circuit.inputs text l sound.says (subst (λ c. IsBadLine c.inputs text l) same x.bad)))
        fault bad

    same_words : (gds lib text : List ℕ) (a b : ℕ) → IsMisworded gds lib text a → IsMisworded gds lib text b → a ≡ b
    same_words gds lib text a b p q =
        let same : p.circuit ≡ q.circuit = same_circuit gds lib p.circuit q.circuit p.makes q.makes in
        same_line q.circuit.inputs text a b (subst (λ c. IsBadLine c.inputs text a) same p.bad) q.bad

    pub one_words_fault : (gds lib text : List ℕ) (f g : Fault) → IsWordsFault gds lib text f
        → IsWordsFault gds lib text g → f ≡ g
    one_words_fault gds lib text f g p q = each_words (λ f. f ≡ g) gds lib text
        (λ a x. each_words (λ g. BadWords a ≡ g) gds lib text
        (λ b y. ap BadWords (same_words gds lib text a b x y)) g q) f p
