-- Texts that loads gave are as many as the loads.
use Rattle.std.proofs.Common.{ℕ, ◌≤◌, List, [], ◌∷◌, length}
use Rattle.aqfp_top.specs.Loads.{lib_limit, gds_limit, shapes_loads, two_loads, three_loads}
use Rattle.aqfp_top.specs.Runs.{AreWithin}

pub each_none : (P : List (List ℕ) → Type 0) → P [] → (texts : List (List ℕ)) → AreWithin [] texts → P texts
each_none P holds [] fit = holds
each_none P holds (text ∷ texts) fit = absurd fit

pub each_one : (P : List (List ℕ) → Type 0) → ((gds : List ℕ) → length gds ≤ gds_limit → P (gds ∷ []))
    → (texts : List (List ℕ)) → AreWithin shapes_loads texts → P texts
each_one P holds [] fit = absurd fit
each_one P holds (gds ∷ []) fit = holds gds fit.0
each_one P holds (gds ∷ other ∷ texts) fit = absurd fit.1

pub each_two : (limit : ℕ) (P : List (List ℕ) → Type 0)
    → ((first lib : List ℕ) → length first ≤ limit → length lib ≤ lib_limit → P (first ∷ lib ∷ []))
    → (texts : List (List ℕ)) → AreWithin (two_loads limit) texts → P texts
each_two limit P holds [] fit = absurd fit
each_two limit P holds (first ∷ []) fit = absurd fit.1
each_two limit P holds (first ∷ lib ∷ []) fit = holds first lib fit.0 fit.1.0
each_two limit P holds (first ∷ lib ∷ other ∷ texts) fit = absurd fit.1.1

pub each_three : (limit : ℕ) (P : List (List ℕ) → Type 0)
    → ((gds lib third : List ℕ) → length gds ≤ gds_limit → length lib ≤ lib_limit → length third ≤ limit
    → P (gds ∷ lib ∷ third ∷ []))
    → (texts : List (List ℕ)) → AreWithin (three_loads limit) texts → P texts
each_three limit P holds [] fit = absurd fit
each_three limit P holds (gds ∷ []) fit = absurd fit.1
each_three limit P holds (gds ∷ lib ∷ []) fit = absurd fit.1.1
each_three limit P holds (gds ∷ lib ∷ third ∷ []) fit = holds gds lib third fit.0 fit.1.0 fit.1.1.0
each_three limit P holds (gds ∷ lib ∷ third ∷ other ∷ texts) fit = absurd fit.1.1.1
