-- Numbers in pages: a place of the joined pages is a place of one page.
use Rattle.std.proofs.Common.{◌≡◌, ℕ, zero, suc, ◌+◌, ◌-◌, ◌*◌, ◌/◌, ◌%◌, ◌<◌, ◌≤◌, List, [], ◌∷◌, ◌++◌, length}
use Rattle.std.proofs.Common.{replicate, get_or, set, refl, sym, ap, ◌∙◌, subst, arith, suc-mul, div-add-mod', mod-lt}
use Rattle.std.proofs.Common.{le_of_lt}
use Rattle.std.specs.List.{concat}
use Rattle.std.proofs.lemmas.List.{append-nil, get_or_append_left, get_or-append_right, get_or_past, get_or_default}
use Rattle.std.proofs.lemmas.List.{set-append_left, set-append_right, set_past, length-set, length-replicate}
use Rattle.std.proofs.lemmas.List.{replicate-append-replicate}
use Rattle.level_balance.specs.Code.Pages.{ArePages}

-- the place after one page more
later : (size k r : ℕ) → suc k * size + r ≡ size + (k * size + r)
later size k r = let e = suc-mul k size in omega arith

at_page : (size : ℕ) (pages : List (List ℕ)) (k r : ℕ) → ArePages size pages → r < size
    → get_or (concat pages) (k * size + r) 0 ≡ get_or (get_or pages k []) r 0
at_page size [] k r are lt = refl
at_page size (p ∷ []) zero r are lt = ap (λ (xs : List ℕ). get_or xs (zero * size + r) 0) (append-nil p)
    ∙ ap (λ (i : ℕ). get_or p i 0) (let z : zero * size + r ≡ r = omega arith in z)
at_page size (p ∷ []) (suc k) r are lt =
    ap (λ (xs : List ℕ). get_or xs (suc k * size + r) 0) (append-nil p)
    ∙ get_or_past p (suc k * size + r) 0 (let le = are.0 in let e = later size k r in omega arith)
at_page size (p ∷ q ∷ ps) zero r are lt =
    let full = are.1 (omega arith) in
    ap (λ (i : ℕ). get_or (p ++ concat (q ∷ ps)) i 0) (let z : zero * size + r ≡ r = omega arith in z)
    ∙ get_or_append_left p (concat (q ∷ ps)) 0 r (omega arith)
at_page size (p ∷ q ∷ ps) (suc k) r are lt =
    let full = are.1 (omega arith) in
    let e = later size k r in
    get_or-append_right p (concat (q ∷ ps)) size (suc k * size + r) 0 full (omega arith)
    ∙ ap (λ (i : ℕ). get_or (concat (q ∷ ps)) i 0) (let z : suc k * size + r - size ≡ k * size + r = omega arith in z)
    ∙ at_page size (q ∷ ps) k r are.2 lt

set_page : (size : ℕ) (pages : List (List ℕ)) (k r v : ℕ) → ArePages size pages → r < size
    → set (concat pages) (k * size + r) v ≡ concat (set pages k (set (get_or pages k []) r v))
set_page size [] k r v are lt = refl
set_page size (p ∷ []) zero r v are lt =
    ap (λ (xs : List ℕ). set xs (zero * size + r) v) (append-nil p)
    ∙ ap (λ (i : ℕ). set p i v) (let z : zero * size + r ≡ r = omega arith in z) ∙ sym (append-nil (set p r v))
set_page size (p ∷ []) (suc k) r v are lt =
    ap (λ (xs : List ℕ). set xs (suc k * size + r) v) (append-nil p)
    ∙ set_past p (suc k * size + r) v (let le = are.0 in let e = later size k r in omega arith) ∙ sym (append-nil p)
set_page size (p ∷ q ∷ ps) zero r v are lt =
    let full = are.1 (omega arith) in
    ap (λ (i : ℕ). set (p ++ concat (q ∷ ps)) i v) (let z : zero * size + r ≡ r = omega arith in z)
    ∙ set-append_left p (concat (q ∷ ps)) r v (omega arith)
set_page size (p ∷ q ∷ ps) (suc k) r v are lt =
    let full = are.1 (omega arith) in
    let e = later size k r in
    set-append_right p (concat (q ∷ ps)) size (suc k * size + r) v full (omega arith)
    ∙ ap (λ (i : ℕ). p ++ set (concat (q ∷ ps)) i v) (let z : suc k * size + r - size ≡ k * size + r = omega arith in z)
    ∙ ap (λ (xs : List ℕ). p ++ xs) (set_page size (q ∷ ps) k r v are.2 lt)

pub still_pages : (size : ℕ) (pages : List (List ℕ)) (k : ℕ) (page : List ℕ) → ArePages size pages
    → length page ≡ length (get_or pages k []) → ArePages size (set pages k page)
still_pages size [] k page are same = tt
still_pages size (p ∷ ps) zero page are same = ((let le = are.0 in omega arith), (λ more. same ∙ are.1 more), are.2)
still_pages size (p ∷ ps) (suc k) page are same =
    (are.0, (λ more. are.1 (let e = length-set ps k page in omega arith)), still_pages size ps k page are.2 same)

pub get_in_page : (pages : List (List ℕ)) (place : ℕ) → ArePages 4096 pages
    → get_or (concat pages) place 0 ≡ get_or (get_or pages (place / 4096) []) (place % 4096) 0
get_in_page pages place are =
    ap (λ (i : ℕ). get_or (concat pages) i 0) (sym (div-add-mod' place 4096))
    ∙ at_page 4096 pages (place / 4096) (place % 4096) are (omega arith)

pub set_in_page : (pages : List (List ℕ)) (place v : ℕ) → ArePages 4096 pages
    → set (concat pages) place v ≡ concat
    (set pages (place / 4096) (set (get_or pages (place / 4096) []) (place % 4096) v))
set_in_page pages place v are =
    ap (λ (i : ℕ). set (concat pages) i v) (sym (div-add-mod' place 4096))
    ∙ set_page 4096 pages (place / 4096) (place % 4096) v are (omega arith)

-- what a page has at a place
pub found_in_page : (pages : List (List ℕ)) (flat page page' : List ℕ) (place n : ℕ) → concat pages ≡ flat
    → ArePages 4096 pages → place / 4096 < length pages → page ≡ get_or pages (place / 4096) page'
    → n ≡ get_or page (place % 4096) 0 → n ≡ get_or flat place 0
found_in_page pages flat page page' place n view are lt read is =
    let here : page ≡ get_or pages (place / 4096) [] = read ∙ get_or_default pages (place / 4096) page' [] lt in
    is ∙ ap (λ (p : List ℕ). get_or p (place % 4096) 0) here ∙ sym (get_in_page pages place are)
    ∙ ap (λ (xs : List ℕ). get_or xs place 0) view

pub past_pages : (pages : List (List ℕ)) (flat : List ℕ) (place : ℕ) → concat pages ≡ flat → ArePages 4096 pages
    → length pages ≤ place / 4096 → 0 ≡ get_or flat place 0
past_pages pages flat place view are past =
    sym (ap (λ (xs : List ℕ). get_or xs place 0) (sym view) ∙ get_in_page pages place are
    ∙ ap (λ (p : List ℕ). get_or p (place % 4096) 0) (get_or_past pages (place / 4096) [] past))

-- what a number put into a page changes
pub changed_page : (pages : List (List ℕ)) (page page' after : List ℕ) (place : ℕ) → ArePages 4096 pages
    → place / 4096 < length pages → page ≡ get_or pages (place / 4096) page' → length after ≡ length page
    → ArePages 4096 (set pages (place / 4096) after)
changed_page pages page page' after place are lt read same =
    still_pages 4096 pages (place / 4096) after are
    (same ∙ ap length (read ∙ get_or_default pages (place / 4096) page' [] lt))

pub put_in_page : (pages : List (List ℕ)) (flat page page' after : List ℕ) (place v : ℕ) → concat pages ≡ flat
    → ArePages 4096 pages → place / 4096 < length pages → page ≡ get_or pages (place / 4096) page'
    → after ≡ set page (place % 4096) v → concat (set pages (place / 4096) after) ≡ set flat place v
put_in_page pages flat page page' after place v view are lt read is =
    let here : page ≡ get_or pages (place / 4096) [] = read ∙ get_or_default pages (place / 4096) page' [] lt in
    ap (λ (p : List ℕ). concat (set pages (place / 4096) p)) (is ∙ ap (λ (p : List ℕ). set p (place % 4096) v) here)
    ∙ sym (set_in_page pages place v are) ∙ ap (λ (xs : List ℕ). set xs place v) view

pub put_past : (pages : List (List ℕ)) (flat : List ℕ) (place v : ℕ) → concat pages ≡ flat → ArePages 4096 pages
    → length pages ≤ place / 4096 → flat ≡ set flat place v
put_past pages flat place v view are past =
    sym (ap (λ (xs : List ℕ). set xs place v) (sym view) ∙ set_in_page pages place v are
    ∙ ap concat (set_past pages (place / 4096) _ past) ∙ view)

-- pages of zeros
abbrev pub zero_pages : ℕ → ℕ → ℕ → List (List ℕ)
zero_pages size k r = replicate k (replicate size 0) ++ replicate r 0 ∷ []

pub zeros_joined : (size k r : ℕ) → concat (zero_pages size k r) ≡ replicate (k * size + r) 0
zeros_joined size zero r = append-nil (replicate r 0)
    ∙ ap (λ (i : ℕ). replicate i 0) (let z : r ≡ zero * size + r = omega arith in z)
zeros_joined size (suc k) r =
    ap (λ (xs : List ℕ). replicate size 0 ++ xs) (zeros_joined size k r)
    ∙ replicate-append-replicate size (k * size + r) 0 ∙ ap (λ (i : ℕ). replicate i 0) (sym (later size k r))

pub zeros_paged : (size k r : ℕ) → r ≤ size → ArePages size (zero_pages size k r)
zeros_paged size zero r le = ((let e = length-replicate {A = ℕ} r 0 in omega arith), (λ more. absurd (omega arith)), tt)
zeros_paged size (suc k) r le = (
  (let e = length-replicate {A = ℕ} size 0 in omega arith),
  (λ more. length-replicate size 0),
  zeros_paged size k r le,
)

-- so many pages of zeros and one more
pub zeros_are : (pages after : List (List ℕ)) (last : List ℕ) (size count : ℕ) → 0 < size
    → pages ≡ replicate (count / size) (replicate size 0) → last ≡ replicate (count % size) 0
    → after ≡ pages ++ last ∷ []
    → ArePages size after × (concat after ≡ replicate count 0)
zeros_are pages after last size count some full rest is =
    let e : after ≡ zero_pages size (count / size) (count % size) = is
    ∙ ap (λ (ps : List (List ℕ)). ps ++ last ∷ []) full
    ∙ ap (λ (p : List ℕ). replicate (count / size) (replicate size 0) ++ p ∷ []) rest in (
      subst (ArePages size) (sym e) (zeros_paged size (count / size) (count % size) (le_of_lt (mod-lt count some))),
      ap concat e ∙ zeros_joined size (count / size) (count % size)
          ∙ ap (λ (i : ℕ). replicate i 0) (div-add-mod' count size),
    )
