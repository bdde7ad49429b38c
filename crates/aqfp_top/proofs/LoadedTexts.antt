-- From the clauses of a load to those of the loads of a command's texts.
use Rattle.std.proofs.Common.{ℕ, ◌≡◌, ◌≤◌, List, [], ◌∷◌, ◌++◌, length, refl}
use Rattle.std.proofs.Common.{subst, inl, inr}
use Rattle.aq_base.specs.History.{Event, Loaded}
use Rattle.aqfp_top.specs.Words.{word_at}
use Rattle.aqfp_top.specs.Loads.{Load, gds_limit, lib_limit, words_limit, two_loads, write_loads, check_loads}
use Rattle.aqfp_top.specs.Loads.{IsLoaded, IsPast}
use Rattle.aqfp_top.specs.Histories.{loaded}
use Rattle.aqfp_top.specs.Refusals.{HearsRefusal, RefusesOne}
use Rattle.aqfp_top.specs.Code.Loading.{IsFaultOfLoad, IsFaultOfLoads}
use Rattle.aqfp_top.specs.declared.fault.Fault.{Fault}
use Rattle.aqfp_top.proofs.EachFault.{each_load, each_of_loads}

abbrev load_at : ℕ → ℕ → Load
load_at place limit = record { place = place; limit = limit }

-- A load that was refused.

refused_now : (load : Load) (loads : List Load) (words : List (List ℕ)) (history history' : List Event) (fault : Fault)
    → HearsRefusal load.place load.limit words history history' fault
    → RefusesOne (load ∷ loads) words history history' fault
unfolding RefusesOne
refused_now load loads words history history' fault refused = inl refused

refused_later : (load : Load) (loads : List Load) (words : List (List ℕ)) (history now history' : List Event)
    (bytes : List ℕ) (fault : Fault) → length bytes ≤ load.limit
    → now ≡ Loaded (word_at words load.place) bytes ∷ history
    → RefusesOne loads words now history' fault → RefusesOne (load ∷ loads) words history history' fault
unfolding RefusesOne
refused_later load loads words history now history' bytes fault fits is refused = inr (record {
  bytes = bytes;
  fits = fits;
  holds = subst (λ h. RefusesOne loads words h history' fault) is refused;
})

-- so it was one of the first of more loads
refused_more : (loads more : List Load) (words : List (List ℕ)) (history history' : List Event) (fault : Fault)
    → RefusesOne loads words history history' fault → RefusesOne (loads ++ more) words history history' fault
unfolding RefusesOne
refused_more [] more words history history' fault refused = absurd refused
refused_more (load ∷ loads) more words history history' fault (inl refused) = inl refused
refused_more (load ∷ loads) more words history history' fault (inr gives) = inr (record {
  bytes = gives.bytes;
  fits = gives.fits;
  holds = refused_more loads more words
      (Loaded (word_at words load.place) gives.bytes ∷ history) history' fault gives.holds;
})

-- The first file and LIB.

pub first_is_fault : (limit : ℕ) (fault : Fault) → IsFaultOfLoad 1 limit fault → IsFaultOfLoads (two_loads limit) fault
first_is_fault limit fault only =
    each_load (IsFaultOfLoads (two_loads limit)) 1 limit (inl refl)
    (λ taken more. inl (refl, more)) (inl refl) tt fault only

pub lib_is_fault : (limit : ℕ) (fault : Fault) → IsFaultOfLoad 2 lib_limit fault
    → IsFaultOfLoads (two_loads limit) fault
lib_is_fault limit fault only =
    each_load (IsFaultOfLoads (two_loads limit)) 2 lib_limit (inr (inl refl)) (λ taken more. inr (inl (refl, more)))
    (inr (inl refl)) tt fault only

pub first_refused : (limit : ℕ) (words : List (List ℕ)) (history history' : List Event) (fault : Fault)
    → HearsRefusal 1 limit words history history' fault → RefusesOne (two_loads limit) words history history' fault
first_refused limit words history history' fault refused =
    refused_now (load_at 1 limit) (load_at 2 lib_limit ∷ []) words history history' fault refused

pub lib_refused : (limit : ℕ) (words : List (List ℕ)) (history now history' : List Event) (first : List ℕ)
    (fault : Fault)
    → length first ≤ limit → now ≡ Loaded (word_at words 1) first ∷ history
    → HearsRefusal 2 lib_limit words now history' fault → RefusesOne (two_loads limit) words history history' fault
lib_refused limit words history now history' first fault fits is refused =
    refused_later (load_at 1 limit) (load_at 2 lib_limit ∷ []) words history now history' first fault fits is
    (refused_now (load_at 2 lib_limit) [] words now history' fault refused)

pub ruleset loads = (first_is_fault, lib_is_fault, first_refused, lib_refused)

-- GDS, LIB and a third file.

loaded_more : (place : ℕ) → IsLoaded write_loads place → IsLoaded check_loads place
loaded_more place (inl is) = inl is
loaded_more place (inr (inl is)) = inr (inl is)
loaded_more place (inr (inr none)) = absurd none

past_more : (place taken : ℕ) → IsPast write_loads place taken → IsPast check_loads place taken
past_more place taken (inl is) = inl is
past_more place taken (inr (inl is)) = inr (inl is)
past_more place taken (inr (inr none)) = absurd none

pub two_is_fault : (fault : Fault) → IsFaultOfLoads write_loads fault → IsFaultOfLoads check_loads fault
two_is_fault fault only =
    each_of_loads (IsFaultOfLoads check_loads) write_loads loaded_more past_more loaded_more tt fault only

pub third_is_fault : (fault : Fault) → IsFaultOfLoad 3 words_limit fault → IsFaultOfLoads check_loads fault
third_is_fault fault only =
    each_load (IsFaultOfLoads check_loads) 3 words_limit (inr (inr (inl refl)))
    (λ taken more. inr (inr (inl (refl, more)))) (inr (inr (inl refl))) tt fault only

pub two_refused : (words : List (List ℕ)) (history history' : List Event) (fault : Fault)
    → RefusesOne write_loads words history history' fault → RefusesOne check_loads words history history' fault
two_refused words history history' fault refused =
    refused_more write_loads (load_at 3 words_limit ∷ []) words history history' fault refused

pub third_refused : (words : List (List ℕ)) (history now history' : List Event) (gds lib : List ℕ) (fault : Fault)
    → length gds ≤ gds_limit → length lib ≤ lib_limit → now ≡ loaded history words gds lib
    → HearsRefusal 3 words_limit words now history' fault → RefusesOne check_loads words history history' fault
third_refused words history now history' gds lib fault fits lib_fits is refused =
    refused_later (load_at 1 gds_limit) (load_at 2 lib_limit ∷ load_at 3 words_limit ∷ []) words history
    (Loaded (word_at words 1) gds ∷ history) history' gds fault fits refl
    (refused_later (load_at 2 lib_limit) (load_at 3 words_limit ∷ []) words (Loaded (word_at words 1) gds ∷ history) now
    history' lib fault lib_fits is (refused_now (load_at 3 words_limit) [] words now history' fault refused))

pub ruleset three_loads = (two_is_fault, third_is_fault, two_refused, third_refused)
