-- What a reading leaves in the buffer.
use Rattle.std.proofs.Common.{ℕ, ◌++◌, List, length, drop, sym, ap, ◌∙◌, arith, length-drop}
use Rattle.std.proofs.lemmas.List.{take-append-drop}
use Rattle.aq_base.specs.declared.std_store.Reading.TheVariants.{Whole}
use Rattle.aq_base.specs.Store.{GrowsWithin}
use Rattle.aq_base.specs.Reading.{Reads}

-- a whole file
pub reads_within : {old new : List ℕ} {limit : ℕ} → Reads old new limit Whole → GrowsWithin old new limit
reads_within {old} {new} {limit} r = record {
  bytes = drop (length old) new;
  growth = sym (take-append-drop (length old) new) ∙ ap (λ front. front ++ drop (length old) new) r.kept;
  within = let within = r.end in omega (arith, length-drop (length old) new, r.longer);
}

pub ruleset readings = reads_within
