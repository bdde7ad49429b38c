-- What a run says of a store that tells its files.
use Rattle.std.proofs.Common.{ℕ, ◌≡◌, List, [], ◌∷◌, Some, refl, ap, subst, ◌∙◌}
use Rattle.aq_base.specs.History.{Event, Loaded, Created, Closed, took}
use Rattle.aq_base.specs.Output.{Output}
use Rattle.aq_base.specs.Store.{Contents, with_file}
use Rattle.aq_base.specs.Replay.{contents_after, AreTold}
use Rattle.aqfp_top.specs.Words.{word_at}
use Rattle.aqfp_top.specs.Loads.{Load}
use Rattle.aqfp_top.specs.Histories.{loaded, stored, HearsChip}
use Rattle.aqfp_top.specs.Runs.{given}
use Rattle.aqfp_top.specs.Told.{AreHeld, StandsMade}

-- loads change nothing
pub given_keeps : (history : List Event) (words : List (List ℕ)) (loads : List Load) (texts : List (List ℕ))
    → contents_after (given history words loads texts) ≡ contents_after history
given_keeps history words [] [] = refl
given_keeps history words [] (text ∷ texts) = refl
given_keeps history words (load ∷ loads) [] = refl
given_keeps history words (load ∷ loads) (text ∷ texts) =
    given_keeps (Loaded (word_at words load.place) text ∷ history) words loads texts

-- what came before loads is told where they are
told_before : (history : List Event) (words : List (List ℕ)) (loads : List Load) (texts : List (List ℕ))
    → AreTold (given history words loads texts) → AreTold history
told_before history words [] [] told = told
told_before history words [] (text ∷ texts) told = told
told_before history words (load ∷ loads) [] told = told
told_before history words (load ∷ loads) (text ∷ texts) told =
    (told_before (Loaded (word_at words load.place) text ∷ history) words loads texts told).1

pub given_held : (history : List Event) (words : List (List ℕ)) (loads : List Load) (texts : List (List ℕ))
    → AreTold (given history words loads texts) → AreHeld (contents_after history) words loads texts
given_held history words [] [] told = tt
given_held history words [] (text ∷ texts) told = tt
given_held history words (load ∷ loads) [] told = tt
given_held history words (load ∷ loads) (text ∷ texts) told = (
  (told_before (Loaded (word_at words load.place) text ∷ history) words loads texts told).0,
  given_held (Loaded (word_at words load.place) text ∷ history) words loads texts told,
)

-- what came before a file was made and took bytes is told where they are
told_made : (bytes name : List ℕ) (history : List Event) → AreTold (took bytes (Created name ∷ history))
    → AreTold history
told_made [] name history told = told
told_made (byte ∷ bytes) name history told = told

module _ (stores : (history : List Event) (name bytes : List ℕ)
    → contents_after (Closed ∷ took bytes (Created name ∷ history)) ≡ with_file (contents_after history) name bytes) where
  pub chip_stands : (history history' : List Event) (words : List (List ℕ)) (out out' : Output)
      (chip : HearsChip history history' words out out') → AreTold history'
      → StandsMade (contents_after history) (contents_after history') words chip.net chip.lib chip.bytes
  chip_stands history history' words out out' chip told =
      let before = loaded history words chip.net chip.lib in
      let made : AreTold (stored before (word_at words 3) chip.bytes) = subst AreTold chip.history_is told in
      let given : AreTold before = told_made chip.bytes (word_at words 3) before made in
      record {
        net_held = given.1.0;
        lib_held = given.0;
        out_holds = ap (λ h. contents_after h) chip.history_is ∙ stores before (word_at words 3) chip.bytes;
      }
