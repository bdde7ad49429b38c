-- From the clauses of each command to those of a run.
use Rattle.std.proofs.Common.{ℕ, ◌≡◌, ◌<◌, ◌≤◌, List, length, arith, Option, Some, Result, Ok, Err, IfErr}
use Rattle.std.proofs.Common.{inl, inr, refl, subst}
use Rattle.aqfp_top.specs.Words.{IsMake, IsMakeBy, IsVerify, IsTrace, IsEqual, IsWrite, IsReport, IsShapesOf, IsShapes}
use Rattle.aqfp_top.specs.Words.{IsCheck, IsSampleOf, HasForm}
use Rattle.aqfp_top.specs.Loads.{build_loads, check_loads, write_loads, shapes_loads, IsLoaded, IsPast}
use Rattle.aqfp_top.specs.Faults.{IsBuildFault, IsCheckFault, IsEqualFault, IsWritingFault, IsReportFault}
use Rattle.aqfp_top.specs.Faults.{IsShapesFault, IsSampleFault, RunsOnly}
use Rattle.aqfp_top.specs.Lines.{HasPlace}
use Rattle.aqfp_top.specs.declared.planner.Planner.{Planner}
use Rattle.aqfp_top.specs.declared.fault.Fault.{Fault}
use Rattle.aqfp_top.specs.declared.fault.Fault.TheVariants.{Usage, Absent, TooLong, ReadFault}
use Rattle.aqfp_top.proofs.Forms.{is_make, one_planner, four_words, make_not_sample, make_not_check}
use Rattle.aqfp_top.proofs.Forms.{make_not_equal, make_not_write, check_not_sample}
use Rattle.aqfp_top.proofs.Forms.{check_not_equal}
use Rattle.aqfp_top.proofs.Forms.{equal_not_sample}
use Rattle.aqfp_top.proofs.Forms.{check_not_write, equal_not_write, write_not_sample}
use Rattle.aqfp_top.proofs.Forms.{four_not_report, make_not_report, check_not_report}
use Rattle.aqfp_top.proofs.Forms.{sample_not_report}
use Rattle.aqfp_top.proofs.Forms.{shapes_not_report, make_not_shapes}
use Rattle.aqfp_top.proofs.Forms.{check_not_shapes, equal_not_shapes, write_not_shapes, sample_not_shapes}

-- the places that faults name

four_place : (words : List (List ℕ)) (place low : ℕ) → length words ≡ 4 → low ≤ 3 → place ≡ low → place < length words
four_place words place low four most is = omega arith

build_loaded : (words : List (List ℕ)) (place : ℕ) → length words ≡ 4
    → IsLoaded build_loads place → place < length words
build_loaded words place four (inl one) = four_place words place 1 four (omega arith) one
build_loaded words place four (inr (inl two)) = four_place words place 2 four (omega arith) two
build_loaded words place four (inr (inr none)) = absurd none

build_past : (words : List (List ℕ)) (place taken : ℕ) → length words ≡ 4
    → IsPast build_loads place taken → place < length words
build_past words place taken four (inl one) = four_place words place 1 four (omega arith) one.0
build_past words place taken four (inr (inl two)) = four_place words place 2 four (omega arith) two.0
build_past words place taken four (inr (inr none)) = absurd none

check_loaded : (words : List (List ℕ)) (place : ℕ) → length words ≡ 4
    → IsLoaded check_loads place → place < length words
check_loaded words place four (inl one) = four_place words place 1 four (omega arith) one
check_loaded words place four (inr (inl two)) = four_place words place 2 four (omega arith) two
check_loaded words place four (inr (inr (inl three))) = four_place words place 3 four (omega arith) three
check_loaded words place four (inr (inr (inr none))) = absurd none

check_past : (words : List (List ℕ)) (place taken : ℕ) → length words ≡ 4
    → IsPast check_loads place taken → place < length words
check_past words place taken four (inl one) = four_place words place 1 four (omega arith) one.0
check_past words place taken four (inr (inl two)) = four_place words place 2 four (omega arith) two.0
check_past words place taken four (inr (inr (inl three))) = four_place words place 3 four (omega arith) three.0
check_past words place taken four (inr (inr (inr none))) = absurd none

build_place : (planner : Planner) (words : List (List ℕ)) (fault : Fault) → length words ≡ 4
    → IsBuildFault planner fault
    → HasPlace words fault
build_place planner words (Absent place) four only = build_loaded words place four only
build_place planner words (TooLong place taken) four only = build_past words place taken four only
build_place planner words (ReadFault place) four only = build_loaded words place four only
build_place planner words _ four only = tt

write_loaded : (words : List (List ℕ)) (place : ℕ) → length words ≡ 4
    → IsLoaded write_loads place → place < length words
write_loaded words place four (inl one) = four_place words place 1 four (omega arith) one
write_loaded words place four (inr (inl two)) = four_place words place 2 four (omega arith) two
write_loaded words place four (inr (inr none)) = absurd none

write_past : (words : List (List ℕ)) (place taken : ℕ) → length words ≡ 4
    → IsPast write_loads place taken → place < length words
write_past words place taken four (inl one) = four_place words place 1 four (omega arith) one.0
write_past words place taken four (inr (inl two)) = four_place words place 2 four (omega arith) two.0
write_past words place taken four (inr (inr none)) = absurd none

write_place : (words : List (List ℕ)) (fault : Fault) → length words ≡ 4 → IsWritingFault fault → HasPlace words fault
write_place words (Absent place) four only = write_loaded words place four only
write_place words (TooLong place taken) four only = write_past words place taken four only
write_place words (ReadFault place) four only = write_loaded words place four only
write_place words _ four only = tt

three_place : (words : List (List ℕ)) (place low : ℕ) → length words ≡ 3 → low ≤ 2 → place ≡ low → place < length words
three_place words place low three most is = omega arith

report_loaded : (words : List (List ℕ)) (place : ℕ) → length words ≡ 3
    → IsLoaded write_loads place → place < length words
report_loaded words place three (inl one) = three_place words place 1 three (omega arith) one
report_loaded words place three (inr (inl two)) = three_place words place 2 three (omega arith) two
report_loaded words place three (inr (inr none)) = absurd none

report_past : (words : List (List ℕ)) (place taken : ℕ) → length words ≡ 3
    → IsPast write_loads place taken → place < length words
report_past words place taken three (inl one) = three_place words place 1 three (omega arith) one.0
report_past words place taken three (inr (inl two)) = three_place words place 2 three (omega arith) two.0
report_past words place taken three (inr (inr none)) = absurd none

report_place : (words : List (List ℕ)) (fault : Fault) → length words ≡ 3 → IsReportFault fault → HasPlace words fault
report_place words (Absent place) three only = report_loaded words place three only
report_place words (TooLong place taken) three only = report_past words place taken three only
report_place words (ReadFault place) three only = report_loaded words place three only
report_place words _ three only = tt

shapes_loaded : (words : List (List ℕ)) (place : ℕ) → length words ≡ 4
    → IsLoaded shapes_loads place → place < length words
shapes_loaded words place four (inl one) = four_place words place 1 four (omega arith) one
shapes_loaded words place four (inr none) = absurd none

shapes_past : (words : List (List ℕ)) (place taken : ℕ) → length words ≡ 4
    → IsPast shapes_loads place taken → place < length words
shapes_past words place taken four (inl one) = four_place words place 1 four (omega arith) one.0
shapes_past words place taken four (inr none) = absurd none

shapes_place : (words : List (List ℕ)) (fault : Fault) → length words ≡ 4 → IsShapesFault fault → HasPlace words fault
shapes_place words (Absent place) four only = shapes_loaded words place four only
shapes_place words (TooLong place taken) four only = shapes_past words place taken four only
shapes_place words (ReadFault place) four only = shapes_loaded words place four only
shapes_place words _ four only = tt

check_place : (words : List (List ℕ)) (fault : Fault) → length words ≡ 4 → IsCheckFault fault → HasPlace words fault
check_place words (Absent place) four only = check_loaded words place four only
check_place words (TooLong place taken) four only = check_past words place taken four only
check_place words (ReadFault place) four only = check_loaded words place four only
check_place words _ four only = tt

equal_place : (words : List (List ℕ)) (fault : Fault) → length words ≡ 4 → IsEqualFault fault → HasPlace words fault
equal_place words (Absent place) four only = check_loaded words place four only
equal_place words (TooLong place taken) four only = check_past words place taken four only
equal_place words (ReadFault place) four only = check_loaded words place four only
equal_place words _ four only = tt

sample_place : (words : List (List ℕ)) (fault : Fault) → IsSampleFault fault → HasPlace words fault
sample_place words (Absent place) only = absurd only
sample_place words (TooLong place taken) only = absurd only
sample_place words (ReadFault place) only = absurd only
sample_place words _ only = tt

-- the faults of each form

pub build_only : (planner : Planner) (words : List (List ℕ)) (result : Result (Unit {0}) Fault) → IsMakeBy planner words
    → IfErr result (IsBuildFault planner) → IfErr result (RunsOnly words)
build_only planner words (Ok x) form only = tt
build_only planner words (Err fault) form only =
    let is : IsMake words = is_make planner words form in
    record {
      make = λ other b. subst (λ p. IsBuildFault p fault) (one_planner words planner other form b) only;
      check = λ c. absurd (make_not_check words is c);
      sample = λ s. absurd (make_not_sample words s.bits is s.of_bits);
      equal = λ e. absurd (make_not_equal words is e);
      write = λ w. absurd (make_not_write words is w);
      report = λ r. absurd (make_not_report words is r);
      shapes = λ s. absurd (make_not_shapes words s.first s.second is s.of_numbers);
      otherwise = λ none. absurd (none (inl is));
      place = build_place planner words fault (four_words words is) only;
    }

check_only : (words : List (List ℕ)) (result : Result (Unit {0}) Fault) → length words ≡ 4 → IsCheck words
    → IfErr result IsCheckFault → IfErr result (RunsOnly words)
check_only words (Ok x) four form only = tt
check_only words (Err fault) four form only = record {
  make = λ p b. absurd (make_not_check words (is_make p words b) form);
  check = λ c. only;
  sample = λ s. absurd (check_not_sample words s.bits form s.of_bits);
  equal = λ e. absurd (check_not_equal words form e);
  write = λ w. absurd (check_not_write words form w);
  report = λ r. absurd (four_not_report words four r);
  shapes = λ s. absurd (check_not_shapes words s.first s.second form s.of_numbers);
  otherwise = λ none. absurd (none (inr (inl form)));
  place = check_place words fault four only;
}

pub verify_only : (words : List (List ℕ)) (result : Result (Unit {0}) Fault) → IsVerify words
    → IfErr result IsCheckFault → IfErr result (RunsOnly words)
verify_only words result form only = check_only words result form.0 (inl form) only

pub trace_only : (words : List (List ℕ)) (result : Result (Unit {0}) Fault) → IsTrace words → IfErr result IsCheckFault
    → IfErr result (RunsOnly words)
trace_only words result form only = check_only words result form.0 (inr form) only

pub sample_only : (words : List (List ℕ)) (bits : ℕ) (result : Result (Unit {0}) Fault) → IsSampleOf words bits
    → IfErr result IsSampleFault → IfErr result (RunsOnly words)
sample_only words bits (Ok x) form only = tt
sample_only words bits (Err fault) form only = record {
  make = λ p b. absurd (make_not_sample words bits (is_make p words b) form);
  check = λ c. absurd (check_not_sample words bits c form);
  sample = λ s. only;
  equal = λ e. absurd (equal_not_sample words bits e form);
  write = λ w. absurd (write_not_sample words bits w form);
  report = λ r. absurd (sample_not_report words bits form r);
  shapes = λ s. absurd (sample_not_shapes words bits s.first s.second form s.of_numbers);
  otherwise = λ none. absurd (none (inr (inr (inl (record { bits = bits; of_bits = form })))));
  place = sample_place words fault only;
}

pub equal_only : (words : List (List ℕ)) (result : Result (Unit {0}) Fault) → IsEqual words → IfErr result IsEqualFault
    → IfErr result (RunsOnly words)
equal_only words (Ok x) form only = tt
equal_only words (Err fault) form only = record {
  make = λ p b. absurd (make_not_equal words (is_make p words b) form);
  check = λ c. absurd (check_not_equal words c form);
  sample = λ s. absurd (equal_not_sample words s.bits form s.of_bits);
  equal = λ e. only;
  write = λ w. absurd (equal_not_write words form w);
  report = λ r. absurd (four_not_report words form.0 r);
  shapes = λ s. absurd (equal_not_shapes words s.first s.second form s.of_numbers);
  otherwise = λ none. absurd (none (inr (inr (inr (inl form)))));
  place = equal_place words fault form.0 only;
}

pub write_only : (words : List (List ℕ)) (result : Result (Unit {0}) Fault) → IsWrite words
    → IfErr result IsWritingFault → IfErr result (RunsOnly words)
write_only words (Ok x) form only = tt
write_only words (Err fault) form only = record {
  make = λ p b. absurd (make_not_write words (is_make p words b) form);
  check = λ c. absurd (check_not_write words c form);
  sample = λ s. absurd (write_not_sample words s.bits form s.of_bits);
  equal = λ e. absurd (equal_not_write words e form);
  write = λ w. only;
  report = λ r. absurd (four_not_report words form.0 r);
  shapes = λ s. absurd (write_not_shapes words s.first s.second form s.of_numbers);
  otherwise = λ none. absurd (none (inr (inr (inr (inr (inl form))))));
  place = write_place words fault form.0 only;
}

pub report_only : (words : List (List ℕ)) (result : Result (Unit {0}) Fault) → IsReport words
    → IfErr result IsReportFault
    → IfErr result (RunsOnly words)
report_only words (Ok x) form only = tt
report_only words (Err fault) form only = record {
  make = λ p b. absurd (make_not_report words (is_make p words b) form);
  check = λ c. absurd (check_not_report words c form);
  sample = λ s. absurd (sample_not_report words s.bits s.of_bits form);
  equal = λ e. absurd (four_not_report words e.0 form);
  write = λ w. absurd (four_not_report words w.0 form);
  report = λ r. only;
  shapes = λ s. absurd (shapes_not_report words s.first s.second s.of_numbers form);
  otherwise = λ none. absurd (none (inr (inr (inr (inr (inr (inl form)))))));
  place = report_place words fault form.0 only;
}

pub shapes_only : (words : List (List ℕ)) (first second : ℕ) (result : Result (Unit {0}) Fault)
    → IsShapesOf words first second
    → IfErr result IsShapesFault → IfErr result (RunsOnly words)
shapes_only words first second (Ok x) form only = tt
shapes_only words first second (Err fault) form only = record {
  make = λ p b. absurd (make_not_shapes words first second (is_make p words b) form);
  check = λ c. absurd (check_not_shapes words first second c form);
  sample = λ s. absurd (sample_not_shapes words s.bits first second s.of_bits form);
  equal = λ e. absurd (equal_not_shapes words first second e form);
  write = λ w. absurd (write_not_shapes words first second w form);
  report = λ r. absurd (shapes_not_report words first second form r);
  shapes = λ s. only;
  otherwise = λ none. absurd (none (inr (inr (inr (inr (inr (inr (record {
    first = first;
    second = second;
    of_numbers = form;
  }))))))));
  place = shapes_place words fault form.four only;
}

pub usage_only : (words : List (List ℕ)) → ¬ HasForm words → RunsOnly words Usage
usage_only words none = record {
  make = λ p b. absurd (none (inl (is_make p words b)));
  check = λ c. absurd (none (inr (inl c)));
  sample = λ s. absurd (none (inr (inr (inl s))));
  equal = λ e. absurd (none (inr (inr (inr (inl e)))));
  write = λ w. absurd (none (inr (inr (inr (inr (inl w))))));
  report = λ r. absurd (none (inr (inr (inr (inr (inr (inl r)))))));
  shapes = λ s. absurd (none (inr (inr (inr (inr (inr (inr s)))))));
  otherwise = λ n. refl;
  place = tt;
}

-- words of a command have a form

pub build_no_usage : (planner : Planner) (words : List (List ℕ)) (answer : Option Fault) → IsMakeBy planner words
    → ¬ HasForm words → answer ≡ Some Usage
build_no_usage planner words answer form none = absurd (none (inl (is_make planner words form)))

pub verify_no_usage : (words : List (List ℕ)) (answer : Option Fault) → IsVerify words
    → ¬ HasForm words → answer ≡ Some Usage
verify_no_usage words answer form none = absurd (none (inr (inl (inl form))))

pub trace_no_usage : (words : List (List ℕ)) (answer : Option Fault) → IsTrace words
    → ¬ HasForm words → answer ≡ Some Usage
trace_no_usage words answer form none = absurd (none (inr (inl (inr form))))

pub sample_no_usage : (words : List (List ℕ)) (bits : ℕ) (answer : Option Fault) → IsSampleOf words bits
    → ¬ HasForm words → answer ≡ Some Usage
sample_no_usage words bits answer form none = absurd (none (inr (inr (inl (record { bits = bits; of_bits = form })))))

pub equal_no_usage : (words : List (List ℕ)) (answer : Option Fault) → IsEqual words
    → ¬ HasForm words → answer ≡ Some Usage
equal_no_usage words answer form none = absurd (none (inr (inr (inr (inl form)))))

pub write_no_usage : (words : List (List ℕ)) (answer : Option Fault) → IsWrite words
    → ¬ HasForm words → answer ≡ Some Usage
write_no_usage words answer form none = absurd (none (inr (inr (inr (inr (inl form))))))

pub report_no_usage : (words : List (List ℕ)) (answer : Option Fault) → IsReport words
    → ¬ HasForm words → answer ≡ Some Usage
report_no_usage words answer form none = absurd (none (inr (inr (inr (inr (inr (inl form)))))))

pub shapes_no_usage : (words : List (List ℕ)) (first second : ℕ) (answer : Option Fault) → IsShapesOf words first second
    → ¬ HasForm words → answer ≡ Some Usage
shapes_no_usage words first second answer form none =
    let is : IsShapes words = record { first = first; second = second; of_numbers = form } in
    absurd (none (inr (inr (inr (inr (inr (inr is)))))))

pub ruleset runs = (
  build_only,
  verify_only,
  trace_only,
  equal_only,
  write_only,
  report_only,
  shapes_only,
  sample_only,
  usage_only,
  build_no_usage,
  verify_no_usage,
  trace_no_usage,
  equal_no_usage,
  write_no_usage,
  report_no_usage,
  shapes_no_usage,
  sample_no_usage,
)
