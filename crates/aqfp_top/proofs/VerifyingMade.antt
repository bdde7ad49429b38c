-- A `verify` of a chip that was made, with its library: from what the two runs heard.
use Rattle.std.proofs.Common.{ℕ, ◌≡◌, List, [], ◌∷◌, Option, Some, None, inl, inr, ap, subst, sym, ◌∙◌}
use Rattle.std.specs.Prelude.{◌⊎◌, IsSomeAnd}
use Rattle.aq_base.specs.History.{Event, Loaded}
use Rattle.aq_base.specs.Output.{Output}
use Rattle.aq_base.specs.Output as output
use Rattle.blif_read.specs.Parts.{NetView}
use Rattle.rowed.specs.PlacedNets.{PlacedView}
use Rattle.cell_library.specs.Library.{LibraryView}
use Rattle.text_answers.specs.WordsText.{words_of}
use Rattle.aqfp_top.specs.Words.{IsVerify}
use Rattle.aqfp_top.specs.Loads.{Load, words_limit, check_loads}
use Rattle.aqfp_top.specs.Stages.{IsFirst, Answers}
use Rattle.aqfp_top.specs.Due.{judging_stages, IsDoneOrOutside}
use Rattle.aqfp_top.specs.Designs.{stream_of}
use Rattle.aqfp_top.specs.Histories.{loaded_three, CheckedHistory}
use Rattle.aqfp_top.specs.Checks.{IsSound, text_of}
use Rattle.aqfp_top.specs.Joined.{VerifiesAsNet, PrintsNet, VerifiesNet}
use Rattle.aqfp_top.specs.Refusals.{HearsRefusal, RefusesOne}
use Rattle.aqfp_top.specs.DueTexts.{IsDue}
use Rattle.aqfp_top.specs.Runs.{AreWithin, given, stages_by, Ends, RunsAs, HearsRun}
use Rattle.aqfp_top.specs.declared.check.Printing.TheVariants as printing
use Rattle.aqfp_top.specs.declared.words.Form.TheVariants.{Verify}
use Rattle.aqfp_top.specs.declared.fault.Fault.{Fault}
use Rattle.aqfp_top.specs.declared.fault.Fault.TheVariants.{Absent, TooLong, ReadFault, WriteFault, Memory}
use Rattle.aqfp_top.proofs.Accepting.{check_ends}
use Rattle.aqfp_top.proofs.GivenTexts.{each_three}
use Rattle.aqfp_top.proofs.HeardRuns.{as_form, verified}

-- the last thing that is heard of a refused load is that it was refused
hears_none : (place limit : ℕ) (words : List (List ℕ)) (history history' : List Event) (fault : Fault)
    (name bytes : List ℕ) (rest : List Event) → HearsRefusal place limit words history history' fault
    → history' ≡ Loaded name bytes ∷ rest → ⊥
hears_none place limit words history history' (Absent word) name bytes rest hears is =
    let other = hears.1 in cc
hears_none place limit words history history' (TooLong word taken) name bytes rest hears is =
    let other = hears.2 in cc
hears_none place limit words history history' (ReadFault word) name bytes rest hears is =
    let other = hears.1 in cc
hears_none place limit words history history' Memory name bytes rest hears is = cc
hears_none place limit words history history' _ name bytes rest hears is = hears

none_refused : (loads : List Load) (words : List (List ℕ)) (history history' : List Event) (fault : Fault)
    (name bytes : List ℕ) (rest : List Event) → RefusesOne loads words history history' fault
    → history' ≡ Loaded name bytes ∷ rest → ⊥
unfolding RefusesOne
none_refused [] words history history' fault name bytes rest refuses is = refuses
none_refused (load ∷ loads) words history history' fault name bytes rest (inl hears) is =
    hears_none load.place load.limit words history history' fault name bytes rest hears is
none_refused (load ∷ loads) words history history' fault name bytes rest (inr gives) is =
    none_refused loads words _ history' fault name bytes rest gives.holds is

-- the three texts that were heard are one another's
same_texts : (words : List (List ℕ)) (history : List Event) (a b c gds lib text : List ℕ)
    → loaded_three history words a b c ≡ loaded_three history words gds lib text
    → (a ∷ b ∷ c ∷ []) ≡ (gds ∷ lib ∷ text ∷ [])
same_texts words history a b c gds lib text is = cc

-- but for want of memory nothing else was heard
heard : (a b c : List ℕ) (now history' : List Event) (words : List (List ℕ)) (out out' : Output)
    (answer : Option Fault) → Ends (IsDue Verify (a ∷ b ∷ c ∷ [])) now history' words out out' answer
    → IsDoneOrOutside answer ⊎ (history' ≡ now)
heard a b c now history' words out out' None ends = inl tt
heard a b c now history' words out out' (Some Memory) ends = inl tt
heard a b c now history' words out out' (Some (ReadFault place)) ends = inl tt
heard a b c now history' words out out' (Some (WriteFault call)) ends = inl tt
heard a b c now history' words out out' (Some _) ends = inr ends.same

module _ (gds lib text : List ℕ) (words : List (List ℕ)) (history history' : List Event) (out out' : Output)
    (answer : Option Fault) (is : history' ≡ loaded_three history words gds lib text)
    (well : IsFirst (judging_stages gds lib text) None) where
  judged : (texts : List (List ℕ)) → AreWithin check_loads texts → Answers (stages_by Verify texts) answer
      → Ends (IsDue Verify texts) (given history words check_loads texts) history' words out out' answer
      → IsDoneOrOutside answer
  judged texts fit = each_three words_limit
      (λ t. Answers (stages_by Verify t) answer
      → Ends (IsDue Verify t) (given history words check_loads t) history' words out out' answer
      → IsDoneOrOutside answer)
      (λ a b c p q r answers ends. judged_three a b c answers
      (heard a b c (loaded_three history words a b c) history' words out out' answer ends)) texts fit
    where
      judged_three : (a b c : List ℕ) → Answers (judging_stages a b c) answer
          → IsDoneOrOutside answer ⊎ (history' ≡ loaded_three history words a b c) → IsDoneOrOutside answer
      judged_three a b c answers (inl done) = done
      judged_three a b c answers (inr same) =
          let texts_are = same_texts words history a b c gds lib text (sym same ∙ is) in
          check_ends gds lib text answer well (subst (λ t. Answers (stages_by Verify t) answer) texts_are answers)

  done : RunsAs Verify history history' words out out' answer → IsDoneOrOutside answer
  unfolding RunsAs
  done (inl refused) = refused_not answer refused.refuses
    where
      refused_not : (a : Option Fault) → IsSomeAnd a (RefusesOne check_loads words history history')
          → IsDoneOrOutside a
      refused_not None bad = absurd bad
      refused_not (Some fault) refuses = absurd (none_refused check_loads words history history' fault _ _ _ refuses is)
  done (inr judges) = judged judges.texts judges.fit judges.answers judges.ends

-- what it printed
prints : (net : NetView) (chip : PlacedView) (cells : LibraryView) (lib text : List ℕ)
    → VerifiesAsNet net chip cells lib text → (words : List (List ℕ)) (history history' : List Event)
    (out out' : Output) → history' ≡ loaded_three history words (stream_of chip cells) lib text
    → CheckedHistory printing.Answers history history' words out out' → PrintsNet net chip (words_of text) out out'
prints net chip cells lib text verifies words history history' out out' is checked =
    let texts = same_texts words history checked.gds checked.lib checked.text (stream_of chip cells) lib text
    (sym checked.is ∙ is) in
    printed_so checked.gds checked.lib checked.text texts checked.sound checked.printed
  where
    printed_so : (a b c : List ℕ) → (a ∷ b ∷ c ∷ []) ≡ (stream_of chip cells ∷ lib ∷ text ∷ [])
        → IsSound a b c checked.circuit
        → out' ≡ output.printed (text_of printing.Answers checked.circuit (words_of c)) out
        → PrintsNet net chip (words_of text) out out'
    printed_so a b c same sound printed =
        let one : a ≡ stream_of chip cells = cc in
        let two : b ≡ lib = cc in
        let three : c ≡ text = cc in
        let whole : IsSound (stream_of chip cells) lib text checked.circuit =
        subst (λ x. IsSound x lib text checked.circuit) one (subst (λ x. IsSound a x text checked.circuit) two
        (subst (λ x. IsSound a b x checked.circuit) three sound)) in
        let found = verifies.prints checked.circuit whole in
        record {
          answers = found.answers;
          are_answers = found.are_answers;
          printed = subst (λ x. out' ≡ output.printed (text_of printing.Answers checked.circuit (words_of x)) out)
              three printed ∙ ap (λ t. output.printed t out) found.printed;
        }

pub followed : (net : NetView) (chip : PlacedView) (cells : LibraryView) (lib text : List ℕ)
    → VerifiesAsNet net chip cells lib text → IsFirst (judging_stages (stream_of chip cells) lib text) None
    → (words : List (List ℕ)) (history history' : List Event) (out out' : Output) (answer : Option Fault)
    → IsVerify words → HearsRun history history' words out out' answer
    → history' ≡ loaded_three history words (stream_of chip cells) lib text
    → VerifiesNet net chip (words_of text) out out' answer
followed net chip cells lib text verifies well words history history' out out' None form hears is =
    prints net chip cells lib text verifies words history history' out out' is
    (verified history history' words out out' form hears)
followed net chip cells lib text verifies well words history history' out out' (Some Memory) form hears is = tt
followed net chip cells lib text verifies well words history history' out out' (Some (ReadFault place)) form hears is = tt
followed net chip cells lib text verifies well words history history' out out' (Some (WriteFault call)) form hears is = tt
followed net chip cells lib text verifies well words history history' out out' (Some _) form hears is =
    done (stream_of chip cells) lib text words history history' out out' (Some _) is well
    (as_form Verify history history' words out out' (Some _) form hears)
