-- What a run says of a store that tells its files, as the one in memory does: what its loads gave stood there, and what
-- it stored stands there.
use Rattle.std.specs.Prelude.{ℕ, ◌≡◌, List, [], ◌∷◌, Some}
use Rattle.aq_base.specs.Store.{Contents, with_file}
use Rattle.aqfp_top.specs.Words.{word_at}
use Rattle.aqfp_top.specs.Loads.{Load}

-- each text stood under the name that its load names
abbrev pub AreHeld : Contents → List (List ℕ) → List Load → List (List ℕ) → Type 0
AreHeld files words (load ∷ loads) (text ∷ texts) =
    (files (word_at words load.place) ≡ Some text) × AreHeld files words loads texts
AreHeld files words loads texts = Unit {0}

-- NET and LIB held these texts, though OUT may have the name of one of them; OUT holds these bytes, and no other name
-- has changed
pub record StandsMade (before after : Contents) (words : List (List ℕ)) (net lib bytes : List ℕ) : Type 0 where
  pub net_held : before (word_at words 1) ≡ Some net
  pub lib_held : before (word_at words 2) ≡ Some lib
  pub out_holds : after ≡ with_file before (word_at words 3) bytes
