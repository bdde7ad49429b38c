-- Literals that have the values of nodes go on having them.
use Rattle.std.specs.Prelude.{◌≡◌, ℕ, ◌+◌, ◌<◌, List, [], ◌∷◌, ◌++◌, length, slice_index_or}
use Rattle.std.proofs.Common.{ap, ◌∙◌, arith, length-append}
use Rattle.std.proofs.lemmas.List.{get_or_append_left}
use Rattle.std.proofs.Math.Seq.{get_or-append_seam}
use Rattle.mig.specs.Graphs.{GraphView}
use Rattle.mig.specs.Building.{BuilderView, Grown}
use Rattle.mig.specs.Carried.{Shows}
use Rattle.mig.proofs.Built.{fits_before, limit_grows}

pub shows_later : (graph : GraphView) (a b : BuilderView) (i l : ℕ) → Grown a b → Shows graph a i l → Shows graph b i l
shows_later graph a b i l grown shows = record {
  below = (let one = shows.below in let two = limit_grows a b grown in omega arith);
  same = λ word v w fits in_b. shows.same word v w fits (fits_before a b grown word w in_b);
}

-- one more literal at the end of a list
pub seam : (found more : List ℕ) (l : ℕ) → more ≡ found ++ l ∷ [] → slice_index_or more (length found) 0 ≡ l
seam found more l is = ap (λ (ls : List ℕ). slice_index_or ls (length found) 0) is ∙ get_or-append_seam found l [] 0

pub front : (found more : List ℕ) (l i : ℕ) → more ≡ found ++ l ∷ [] → i < length found
    → slice_index_or more i 0 ≡ slice_index_or found i 0
front found more l i is lt = ap (λ (ls : List ℕ). slice_index_or ls i 0) is ∙ get_or_append_left found (l ∷ []) 0 i lt

pub one_longer : (found more : List ℕ) (l : ℕ) → more ≡ found ++ l ∷ [] → length more ≡ length found + 1
one_longer found more l is = (let e = ap length is in let f = length-append found (l ∷ []) in omega arith)
