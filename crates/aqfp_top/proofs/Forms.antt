-- A command line has one form.
use Rattle.std.proofs.Common.{ℕ, ◌≡◌, ◌≤◌, List, length, inl, inr, refl, sym, ap, ◌∙◌, arith, get_or}
use Rattle.std.proofs.lemmas.Fmt.{decimal_injective}
use Rattle.aqfp_top.specs.Words.{IsMake, IsMakeBy, IsBuild, IsCompact, IsDraw, IsVerify, IsTrace, IsEqual, IsWrite}
use Rattle.aqfp_top.specs.Words.{IsReport, IsNumber, IsShapesOf, IsCheck, IsSampleSize, IsSampleOf, HasForm, IsOfForm}
use Rattle.aqfp_top.specs.Words.{word_at}
use Rattle.aqfp_top.specs.declared.planner.Planner.{Planner}
use Rattle.aqfp_top.specs.declared.planner.Planner.TheVariants.{Build, Compact, Draw}
use Rattle.aqfp_top.specs.declared.words.Form.{Form}
use Rattle.aqfp_top.specs.declared.words.Form.TheVariants.{Make, Verify, Trace, Equal, Write, Report, Shapes, Sample}
use Rattle.aqfp_top.specs.declared.words.Form.TheVariants.{Wrong}

build_not_compact : (words : List (List ℕ)) → IsBuild words → IsCompact words → ⊥
build_not_compact words form compact =
    let first : ◌≡◌ {A = ℕ} 99 98 = ap (λ xs. get_or xs 0 0) (sym compact.1 ∙ form.1) in omega (arith, first)

build_not_draw : (words : List (List ℕ)) → IsBuild words → IsDraw words → ⊥
build_not_draw words form draw =
    let first : ◌≡◌ {A = ℕ} 100 98 = ap (λ xs. get_or xs 0 0) (sym draw.1 ∙ form.1) in omega (arith, first)

compact_not_draw : (words : List (List ℕ)) → IsCompact words → IsDraw words → ⊥
compact_not_draw words form draw =
    let first : ◌≡◌ {A = ℕ} 100 99 = ap (λ xs. get_or xs 0 0) (sym draw.1 ∙ form.1) in omega (arith, first)

-- the words of any command that makes a chip
pub is_make : (planner : Planner) (words : List (List ℕ)) → IsMakeBy planner words → IsMake words
is_make Build words form = inl form
is_make Compact words form = inr (inl form)
is_make Draw words form = inr (inr form)

pub one_planner : (words : List (List ℕ)) (p q : Planner) → IsMakeBy p words → IsMakeBy q words → p ≡ q
one_planner words Build Build a b = refl
one_planner words Build Compact a b = absurd (build_not_compact words a b)
one_planner words Build Draw a b = absurd (build_not_draw words a b)
one_planner words Compact Build a b = absurd (build_not_compact words b a)
one_planner words Compact Compact a b = refl
one_planner words Compact Draw a b = absurd (compact_not_draw words a b)
one_planner words Draw Build a b = absurd (build_not_draw words b a)
one_planner words Draw Compact a b = absurd (compact_not_draw words b a)
one_planner words Draw Draw a b = refl

pub four_words : (words : List (List ℕ)) → IsMake words → length words ≡ 4
four_words words (inl form) = form.0
four_words words (inr (inl form)) = form.0
four_words words (inr (inr form)) = form.0

-- the first letter of a command that makes a chip is b, c or d
first_letter : (words : List (List ℕ)) (letter : ℕ) → IsMake words
    → get_or (word_at words 0) 0 0 ≡ letter → 101 ≤ letter → ⊥
first_letter words letter (inl form) is past =
    let own : ◌≡◌ {A = ℕ} 98 letter = ap (λ xs. get_or xs 0 0) (sym form.1) ∙ is in omega (arith, own, past)
first_letter words letter (inr (inl form)) is past =
    let own : ◌≡◌ {A = ℕ} 99 letter = ap (λ xs. get_or xs 0 0) (sym form.1) ∙ is in omega (arith, own, past)
first_letter words letter (inr (inr form)) is past =
    let own : ◌≡◌ {A = ℕ} 100 letter = ap (λ xs. get_or xs 0 0) (sym form.1) ∙ is in omega (arith, own, past)

pub make_not_sample : (words : List (List ℕ)) (bits : ℕ) → IsMake words → IsSampleOf words bits → ⊥
make_not_sample words bits form sample =
    let four = four_words words form in let two = sample.two in omega (arith, four, two)

pub make_not_verify : (words : List (List ℕ)) → IsMake words → IsVerify words → ⊥
make_not_verify words form verify = first_letter words 118 form (ap (λ xs. get_or xs 0 0) verify.1) (omega arith)

pub make_not_trace : (words : List (List ℕ)) → IsMake words → IsTrace words → ⊥
make_not_trace words form trace = first_letter words 116 form (ap (λ xs. get_or xs 0 0) trace.1) (omega arith)

pub make_not_check : (words : List (List ℕ)) → IsMake words → IsCheck words → ⊥
make_not_check words form (inl verify) = make_not_verify words form verify
make_not_check words form (inr trace) = make_not_trace words form trace

pub make_not_equal : (words : List (List ℕ)) → IsMake words → IsEqual words → ⊥
make_not_equal words form equal = first_letter words 101 form (ap (λ xs. get_or xs 0 0) equal.1) (omega arith)

pub make_not_write : (words : List (List ℕ)) → IsMake words → IsWrite words → ⊥
make_not_write words form write = first_letter words 110 form (ap (λ xs. get_or xs 0 0) write.1) (omega arith)

pub verify_not_sample : (words : List (List ℕ)) (bits : ℕ) → IsVerify words → IsSampleOf words bits → ⊥
verify_not_sample words bits form sample = let four = form.0 in let two = sample.two in omega (arith, four, two)

pub trace_not_sample : (words : List (List ℕ)) (bits : ℕ) → IsTrace words → IsSampleOf words bits → ⊥
trace_not_sample words bits form sample = let four = form.0 in let two = sample.two in omega (arith, four, two)

pub check_not_sample : (words : List (List ℕ)) (bits : ℕ) → IsCheck words → IsSampleOf words bits → ⊥
check_not_sample words bits (inl verify) sample = verify_not_sample words bits verify sample
check_not_sample words bits (inr trace) sample = trace_not_sample words bits trace sample

pub verify_not_trace : (words : List (List ℕ)) → IsVerify words → IsTrace words → ⊥
verify_not_trace words verify trace = let first : ◌≡◌ {A = ℕ} 118 116 = ap (λ xs. get_or xs 0 0)
    (sym verify.1 ∙ trace.1) in omega (arith, first)

pub equal_not_sample : (words : List (List ℕ)) (bits : ℕ) → IsEqual words → IsSampleOf words bits → ⊥
equal_not_sample words bits form sample = let four = form.0 in let two = sample.two in omega (arith, four, two)

pub verify_not_equal : (words : List (List ℕ)) → IsVerify words → IsEqual words → ⊥
verify_not_equal words form equal = let first : ◌≡◌ {A = ℕ} 101 118 = ap (λ xs. get_or xs 0 0)
    (sym equal.1 ∙ form.1) in omega (arith, first)

pub trace_not_equal : (words : List (List ℕ)) → IsTrace words → IsEqual words → ⊥
trace_not_equal words form equal = let first : ◌≡◌ {A = ℕ} 101 116 = ap (λ xs. get_or xs 0 0)
    (sym equal.1 ∙ form.1) in omega (arith, first)

pub check_not_equal : (words : List (List ℕ)) → IsCheck words → IsEqual words → ⊥
check_not_equal words (inl verify) equal = verify_not_equal words verify equal
check_not_equal words (inr trace) equal = trace_not_equal words trace equal

pub write_not_sample : (words : List (List ℕ)) (bits : ℕ) → IsWrite words → IsSampleOf words bits → ⊥
write_not_sample words bits form sample = let four = form.0 in let two = sample.two in omega (arith, four, two)

pub verify_not_write : (words : List (List ℕ)) → IsVerify words → IsWrite words → ⊥
verify_not_write words form write = let first : ◌≡◌ {A = ℕ} 110 118 = ap (λ xs. get_or xs 0 0)
    (sym write.1 ∙ form.1) in omega (arith, first)

pub trace_not_write : (words : List (List ℕ)) → IsTrace words → IsWrite words → ⊥
trace_not_write words form write = let first : ◌≡◌ {A = ℕ} 110 116 = ap (λ xs. get_or xs 0 0)
    (sym write.1 ∙ form.1) in omega (arith, first)

pub check_not_write : (words : List (List ℕ)) → IsCheck words → IsWrite words → ⊥
check_not_write words (inl verify) write = verify_not_write words verify write
check_not_write words (inr trace) write = trace_not_write words trace write

pub equal_not_write : (words : List (List ℕ)) → IsEqual words → IsWrite words → ⊥
equal_not_write words form write = let first : ◌≡◌ {A = ℕ} 110 101 = ap (λ xs. get_or xs 0 0)
    (sym write.1 ∙ form.1) in omega (arith, first)

-- a report has three words
pub four_not_report : (words : List (List ℕ)) → length words ≡ 4 → IsReport words → ⊥
four_not_report words four report = let three = report.0 in omega (arith, four, three)

pub make_not_report : (words : List (List ℕ)) → IsMake words → IsReport words → ⊥
make_not_report words form report = four_not_report words (four_words words form) report

pub check_not_report : (words : List (List ℕ)) → IsCheck words → IsReport words → ⊥
check_not_report words (inl verify) report = four_not_report words verify.0 report
check_not_report words (inr trace) report = four_not_report words trace.0 report

pub sample_not_report : (words : List (List ℕ)) (bits : ℕ) → IsSampleOf words bits → IsReport words → ⊥
sample_not_report words bits form report = let three = report.0 in let two = form.two in omega (arith, two, three)

pub shapes_not_report : (words : List (List ℕ)) (first second : ℕ) → IsShapesOf words first second → IsReport words → ⊥
shapes_not_report words first second form report = four_not_report words form.four report

pub make_not_shapes : (words : List (List ℕ)) (first second : ℕ) → IsMake words → IsShapesOf words first second → ⊥
make_not_shapes words first second form shapes =
    first_letter words 115 form (ap (λ xs. get_or xs 0 0) shapes.named) (omega arith)

pub verify_not_shapes : (words : List (List ℕ)) (first second : ℕ) → IsVerify words → IsShapesOf words first second → ⊥
verify_not_shapes words first second form shapes =
    let letter : ◌≡◌ {A = ℕ} 118 115 = ap (λ xs. get_or xs 0 0) (sym form.1 ∙ shapes.named) in omega (arith, letter)

pub trace_not_shapes : (words : List (List ℕ)) (first second : ℕ) → IsTrace words → IsShapesOf words first second → ⊥
trace_not_shapes words first second form shapes =
    let letter : ◌≡◌ {A = ℕ} 116 115 = ap (λ xs. get_or xs 0 0) (sym form.1 ∙ shapes.named) in omega (arith, letter)

pub check_not_shapes : (words : List (List ℕ)) (first second : ℕ) → IsCheck words → IsShapesOf words first second → ⊥
check_not_shapes words first second (inl verify) shapes = verify_not_shapes words first second verify shapes
check_not_shapes words first second (inr trace) shapes = trace_not_shapes words first second trace shapes

pub equal_not_shapes : (words : List (List ℕ)) (first second : ℕ) → IsEqual words → IsShapesOf words first second → ⊥
equal_not_shapes words first second form shapes =
    let letter : ◌≡◌ {A = ℕ} 101 115 = ap (λ xs. get_or xs 0 0) (sym form.1 ∙ shapes.named) in omega (arith, letter)

pub write_not_shapes : (words : List (List ℕ)) (first second : ℕ) → IsWrite words → IsShapesOf words first second → ⊥
write_not_shapes words first second form shapes =
    let letter : ◌≡◌ {A = ℕ} 110 115 = ap (λ xs. get_or xs 0 0) (sym form.1 ∙ shapes.named) in omega (arith, letter)

pub sample_not_shapes : (words : List (List ℕ)) (bits first second : ℕ) → IsSampleOf words bits
    → IsShapesOf words first second → ⊥
sample_not_shapes words bits first second form shapes =
    let four = shapes.four in let two = form.two in omega (arith, two, four)

-- a sample has one number of bits
pub one_size : (text : List ℕ) (a b : ℕ) → IsSampleSize text a → IsSampleSize text b → a ≡ b
one_size text a b p q =
    let a_few = p.few in
    let b_few = q.few in
    decimal_injective a b (omega (arith, a_few)) (omega (arith, b_few)) (sym p.spelled_so ∙ q.spelled_so)

-- a text writes one number
pub one_number : (text : List ℕ) (a b : ℕ) → IsNumber text a → IsNumber text b → a ≡ b
one_number text a b p q = decimal_injective a b p.fits q.fits (sym p.spelled_so ∙ q.spelled_so)

pub one_pair : (words : List (List ℕ)) (a b c d : ℕ) → IsShapesOf words a b → IsShapesOf words c d
    → (a ≡ c) × (b ≡ d)
one_pair words a b c d p q = (one_number _ a c p.first_is q.first_is, one_number _ b d p.second_is q.second_is)

-- the words that have this form have some form, unless it is that of wrong words
sample_form : (words : List (List ℕ)) (bits : ℕ) → IsSampleOf words bits → HasForm words
sample_form words bits form = inr (inr (inl (record { bits = bits; of_bits = form })))

shapes_form : (words : List (List ℕ)) (first second : ℕ) → IsShapesOf words first second → HasForm words
shapes_form words first second form =
    inr (inr (inr (inr (inr (inr (record { first = first; second = second; of_numbers = form }))))))

pub one_form : (words : List (List ℕ)) (f g : Form) → IsOfForm words f → IsOfForm words g → f ≡ g
one_form words (Make a) (Make b) p q = ap Make (one_planner words a b p q)
one_form words (Make a) Verify p q = absurd (make_not_verify words (is_make a words p) q)
one_form words (Make a) Trace p q = absurd (make_not_trace words (is_make a words p) q)
one_form words (Make a) Equal p q = absurd (make_not_equal words (is_make a words p) q)
one_form words (Make a) Write p q = absurd (make_not_write words (is_make a words p) q)
one_form words (Make a) Report p q = absurd (four_not_report words (four_words words (is_make a words p)) q)
one_form words (Make a) (Shapes first second) p q = absurd (make_not_shapes words first second (is_make a words p) q)
one_form words (Make a) (Sample bits) p q = absurd (make_not_sample words bits (is_make a words p) q)
one_form words (Make a) Wrong p q = absurd (q (inl (is_make a words p)))
one_form words Verify (Make b) p q = absurd (make_not_verify words (is_make b words q) p)
one_form words Verify Verify p q = refl
one_form words Verify Trace p q = absurd (verify_not_trace words p q)
one_form words Verify Equal p q = absurd (verify_not_equal words p q)
one_form words Verify Write p q = absurd (verify_not_write words p q)
one_form words Verify Report p q = absurd (four_not_report words p.0 q)
one_form words Verify (Shapes first second) p q = absurd (verify_not_shapes words first second p q)
one_form words Verify (Sample bits) p q = absurd (verify_not_sample words bits p q)
one_form words Verify Wrong p q = absurd (q (inr (inl (inl p))))
one_form words Trace (Make b) p q = absurd (make_not_trace words (is_make b words q) p)
one_form words Trace Verify p q = absurd (verify_not_trace words q p)
one_form words Trace Trace p q = refl
one_form words Trace Equal p q = absurd (trace_not_equal words p q)
one_form words Trace Write p q = absurd (trace_not_write words p q)
one_form words Trace Report p q = absurd (four_not_report words p.0 q)
one_form words Trace (Shapes first second) p q = absurd (trace_not_shapes words first second p q)
one_form words Trace (Sample bits) p q = absurd (trace_not_sample words bits p q)
one_form words Trace Wrong p q = absurd (q (inr (inl (inr p))))
one_form words Equal (Make b) p q = absurd (make_not_equal words (is_make b words q) p)
one_form words Equal Verify p q = absurd (verify_not_equal words q p)
one_form words Equal Trace p q = absurd (trace_not_equal words q p)
one_form words Equal Equal p q = refl
one_form words Equal Write p q = absurd (equal_not_write words p q)
one_form words Equal Report p q = absurd (four_not_report words p.0 q)
one_form words Equal (Shapes first second) p q = absurd (equal_not_shapes words first second p q)
one_form words Equal (Sample bits) p q = absurd (equal_not_sample words bits p q)
one_form words Equal Wrong p q = absurd (q (inr (inr (inr (inl p)))))
one_form words Write (Make b) p q = absurd (make_not_write words (is_make b words q) p)
one_form words Write Verify p q = absurd (verify_not_write words q p)
one_form words Write Trace p q = absurd (trace_not_write words q p)
one_form words Write Equal p q = absurd (equal_not_write words q p)
one_form words Write Write p q = refl
one_form words Write Report p q = absurd (four_not_report words p.0 q)
one_form words Write (Shapes first second) p q = absurd (write_not_shapes words first second p q)
one_form words Write (Sample bits) p q = absurd (write_not_sample words bits p q)
one_form words Write Wrong p q = absurd (q (inr (inr (inr (inr (inl p))))))
one_form words Report (Make a) p q = absurd (four_not_report words (four_words words (is_make a words q)) p)
one_form words Report Verify p q = absurd (four_not_report words q.0 p)
one_form words Report Trace p q = absurd (four_not_report words q.0 p)
one_form words Report Equal p q = absurd (four_not_report words q.0 p)
one_form words Report Write p q = absurd (four_not_report words q.0 p)
one_form words Report Report p q = refl
one_form words Report (Shapes first second) p q = absurd (shapes_not_report words first second q p)
one_form words Report (Sample bits) p q = absurd (sample_not_report words bits q p)
one_form words Report Wrong p q = absurd (q (inr (inr (inr (inr (inr (inl p)))))))
one_form words (Shapes first second) (Make a) p q = absurd (make_not_shapes words first second (is_make a words q) p)
one_form words (Shapes first second) Verify p q = absurd (verify_not_shapes words first second q p)
one_form words (Shapes first second) Trace p q = absurd (trace_not_shapes words first second q p)
one_form words (Shapes first second) Equal p q = absurd (equal_not_shapes words first second q p)
one_form words (Shapes first second) Write p q = absurd (write_not_shapes words first second q p)
one_form words (Shapes first second) Report p q = absurd (shapes_not_report words first second p q)
one_form words (Shapes first second) (Shapes c d) p q =
    let same = one_pair words first second c d p q in λ i. Shapes (same.0 i) (same.1 i)
one_form words (Shapes first second) (Sample bits) p q = absurd (sample_not_shapes words bits first second q p)
one_form words (Shapes first second) Wrong p q = absurd (q (shapes_form words first second p))
one_form words (Sample bits) (Make b) p q = absurd (make_not_sample words bits (is_make b words q) p)
one_form words (Sample bits) Verify p q = absurd (verify_not_sample words bits q p)
one_form words (Sample bits) Trace p q = absurd (trace_not_sample words bits q p)
one_form words (Sample bits) Equal p q = absurd (equal_not_sample words bits q p)
one_form words (Sample bits) Write p q = absurd (write_not_sample words bits q p)
one_form words (Sample bits) Report p q = absurd (sample_not_report words bits p q)
one_form words (Sample bits) (Shapes first second) p q = absurd (sample_not_shapes words bits first second p q)
one_form words (Sample bits) (Sample other) p q = ap Sample (one_size _ bits other p.size q.size)
one_form words (Sample bits) Wrong p q = absurd (q (sample_form words bits p))
one_form words Wrong (Make b) p q = absurd (p (inl (is_make b words q)))
one_form words Wrong Verify p q = absurd (p (inr (inl (inl q))))
one_form words Wrong Trace p q = absurd (p (inr (inl (inr q))))
one_form words Wrong Equal p q = absurd (p (inr (inr (inr (inl q)))))
one_form words Wrong Write p q = absurd (p (inr (inr (inr (inr (inl q))))))
one_form words Wrong Report p q = absurd (p (inr (inr (inr (inr (inr (inl q)))))))
one_form words Wrong (Shapes first second) p q = absurd (p (shapes_form words first second q))
one_form words Wrong (Sample bits) p q = absurd (p (sample_form words bits q))
one_form words Wrong Wrong p q = refl
