-- How text that waits on a page goes on.
use Rattle.std.proofs.Common.{ℕ, suc, ◌≡◌, ◌<◌, ◌+◌, List, [], ◌∷◌, ◌++◌, length, get_or, take, drop, refl, sym, ap}
use Rattle.std.proofs.Common.{◌∙◌, append_assoc, append-nil}
use Rattle.std.specs.List.{flat_map}
use Rattle.std.proofs.lemmas.Fmt.{decimal_digit, decimal_step}
use Rattle.std.proofs.lemmas.List.{take-append-drop, take_more}
use Rattle.std.proofs.lemmas.List.Concat.{flat_map-append}
use Rattle.std.proofs.Math.Seq.{drop-cons}
use Rattle.aq_base.specs.declared.store.StoreRefusal.{StoreRefusal}
use Rattle.aq_base.specs.Output.{Output, printed, PrintsPart}
use Rattle.aq_base.proofs.Printed.{printed_nothing, printed_twice, part_of_first, part_of_second}
use Rattle.aqfp_top.specs.Code.Pages.{Pends}

-- nothing was put
pub pends_all : (old : Output) (page : List ℕ) → Pends old old page page
pends_all old page = record { put = []; gain = printed_nothing old; whole = refl }

-- the page was put
pub pends_none : (old new : Output) (page : List ℕ) → new ≡ printed page old → Pends old new [] page
pends_none old new page h = record { put = page; gain = h; whole = sym (append-nil page) }

-- more text on the page
pub pends_longer : {old new : Output} {page text : List ℕ} (more : List ℕ) → Pends old new page text
    → Pends old new (page ++ more) (text ++ more)
pends_longer {page = page} {text = text} more p = record {
  put = p.put;
  gain = p.gain;
  whole = ap (λ t. t ++ more) p.whole ∙ append_assoc p.put page more;
}

-- more text, of which some may have been put
pub pends_more : {old middle new : Output} {page page' text : List ℕ} (more : List ℕ)
    → Pends old middle page text → Pends middle new page' (page ++ more) → Pends old new page' (text ++ more)
pends_more {old} {middle} {new} {page} {page'} {text} more p q = record {
  put = p.put ++ q.put;
  gain = q.gain ∙ (ap (printed q.put) p.gain ∙ printed_twice old p.put q.put);
  whole = ap (λ t. t ++ more) p.whole ∙ (append_assoc p.put page more
      ∙ (ap (λ t. p.put ++ t) q.whole ∙ sym (append_assoc p.put q.put page')));
}

-- more text, some first bytes of which were put
pub part_of_more : {old middle new : Output} {page text : List ℕ} {why : StoreRefusal} (more : List ℕ)
    → Pends old middle page text → PrintsPart middle new (page ++ more) why → PrintsPart old new (text ++ more) why
part_of_more {page = page} more p q = rw (p.whole, append_assoc p.put page more) (part_of_second p.put p.gain q)

-- what waited was put
pub all_put : {old middle new : Output} {page text : List ℕ} → Pends old middle page text → new ≡ printed page middle
    → new ≡ printed text old
all_put {old} {page = page} p h = h
    ∙ (ap (printed page) p.gain ∙ (printed_twice old p.put page ∙ ap (λ t. printed t old) (sym p.whole)))

-- some first bytes of what waited were put
pub part_of_all : {old middle new : Output} {page text : List ℕ} {why : StoreRefusal} → Pends old middle page text
    → PrintsPart middle new page why → PrintsPart old new text why
part_of_all {page = page} p q = rw p.whole (part_of_second p.put p.gain q)

module _ {old middle new : Output} {page : List ℕ} (before text : List ℕ) (i x : ℕ) (within : i < length text)
    (at : x ≡ get_or text i x) (pends : Pends old middle page (before ++ take i text)) where
  -- one byte more of a text
  pub pends_byte : {page' : List ℕ} → Pends middle new page' (page ++ x ∷ [])
      → Pends old new page' (before ++ take (i + 1) text)
  pends_byte {page'} q =
      let taken : take (i + 1) text ≡ take i text ++ x ∷ [] =
      take_more text i x within ∙ ap (λ y. take i text ++ y ∷ []) (sym at)
      in
      rw (taken, ← append_assoc before (take i text) (x ∷ [])) (pends_more (x ∷ []) pends q)

  -- and some first bytes of it
  pub part_byte : {why : StoreRefusal} → PrintsPart middle new (page ++ x ∷ []) why
      → PrintsPart old new (before ++ text) why
  part_byte q =
      let whole : text ≡ (take i text ++ x ∷ []) ++ drop (suc i) text =
      sym (take-append-drop i text) ∙ (ap (λ d. take i text ++ d) (drop-cons text i x within)
      ∙ (ap (λ y. take i text ++ y ∷ drop (suc i) text) (sym at)
      ∙ sym (append_assoc (take i text) (x ∷ []) (drop (suc i) text))))
      in
      let more = part_of_first (drop (suc i) text) (part_of_more (x ∷ []) pends q) in
      rw (
        whole,
        ← append_assoc before (take i text ++ x ∷ []) (drop (suc i) text),
        ← append_assoc before
            (take i text) (x ∷ []),
      ) more

module _ {X : Type 0} {old middle new : Output} {page : List ℕ} (before : List ℕ) (f : X → List ℕ) (xs : List X)
    (i : ℕ) (x : X) (within : i < length xs) (at : x ≡ get_or xs i x)
    (pends : Pends old middle page (before ++ flat_map f (take i xs))) where
  -- the text of one item more
  pub pends_item : {page' : List ℕ} → Pends middle new page' (page ++ f x)
      → Pends old new page' (before ++ flat_map f (take (i + 1) xs))
  pends_item {page'} q =
      let taken : flat_map f (take (i + 1) xs) ≡ flat_map f (take i xs) ++ f x =
      ap (flat_map f) (take_more xs i x within)
      ∙ (flat_map-append f (take i xs) (get_or xs i x ∷ [])
      ∙ (ap (λ y. flat_map f (take i xs) ++ (f y ++ [])) (sym at)
      ∙ ap (λ ys. flat_map f (take i xs) ++ ys) (append-nil (f x))))
      in
      rw (taken, ← append_assoc before (flat_map f (take i xs)) (f x)) (pends_more (f x) pends q)

  -- and some first bytes of it
  pub part_item : {why : StoreRefusal} → PrintsPart middle new (page ++ f x) why
      → PrintsPart old new (before ++ flat_map f xs) why
  part_item q =
      let rest = flat_map f (drop (suc i) xs) in
      let whole : flat_map f xs ≡ (flat_map f (take i xs) ++ f x) ++ rest =
      ap (flat_map f) (sym (take-append-drop i xs))
      ∙ (flat_map-append f (take i xs) (drop i xs)
      ∙ (ap (λ ys. flat_map f (take i xs) ++ flat_map f ys) (drop-cons xs i x within)
      ∙ (ap (λ y. flat_map f (take i xs) ++ (f y ++ rest)) (sym at)
      ∙ sym (append_assoc (flat_map f (take i xs)) (f x) rest))))
      in
      let more = part_of_first rest (part_of_more (f x) pends q) in
      rw (
        whole,
        ← append_assoc before (flat_map f (take i xs) ++ f x) rest,
        ← append_assoc before
            (flat_map f (take i xs)) (f x),
      ) more

-- two texts one after the other
pub pends_two : {old middle new : Output} {page page' : List ℕ} (base first second : List ℕ)
    → Pends old middle page (base ++ first) → Pends middle new page' (page ++ second)
    → Pends old new page' (base ++ (first ++ second))
pends_two base first second p q = rw (← append_assoc base first second) (pends_more second p q)

pub part_of_two : {old middle new : Output} {page : List ℕ} {why : StoreRefusal} (base first second : List ℕ)
    → Pends old middle page (base ++ first) → PrintsPart middle new (page ++ second) why
    → PrintsPart old new (base ++ (first ++ second)) why
part_of_two base first second p q = rw (← append_assoc base first second) (part_of_more second p q)

-- the first of two failed
pub part_of_one : {old new : Output} {why : StoreRefusal} (base first second : List ℕ)
    → PrintsPart old new (base ++ first) why
    → PrintsPart old new (base ++ (first ++ second)) why
part_of_one base first second p = rw (← append_assoc base first second) (part_of_first second p)

-- a byte, and then a text
pub pends_after_byte : {old middle new : Output} {page page' : List ℕ} (base : List ℕ) (c : ℕ) (second : List ℕ)
    → Pends old middle page (base ++ c ∷ []) → Pends middle new page' (page ++ second)
    → Pends old new page' (base ++ c ∷ second)
pends_after_byte base c second p q = pends_two base (c ∷ []) second p q

pub part_after_byte : {old middle new : Output} {page : List ℕ} {why : StoreRefusal} (base : List ℕ)
    (c : ℕ) (second : List ℕ)
    → Pends old middle page (base ++ c ∷ []) → PrintsPart middle new (page ++ second) why
    → PrintsPart old new (base ++ c ∷ second) why
part_after_byte base c second p q = part_of_two base (c ∷ []) second p q

pub part_of_byte : {old new : Output} {why : StoreRefusal} (base : List ℕ) (c : ℕ) (second : List ℕ)
    → PrintsPart old new (base ++ c ∷ []) why → PrintsPart old new (base ++ c ∷ second) why
part_of_byte base c second p = part_of_one base (c ∷ []) second p

pub ruleset numbers = (
  decimal_digit,
  decimal_step,
  pends_two,
  part_of_two,
  part_of_one,
  pends_after_byte,
  part_after_byte,
  part_of_byte,
)

pub ruleset pending = (
  pends_all,
  pends_none,
  pends_longer,
  pends_more,
  part_of_more,
  part_of_first,
  all_put,
  part_of_all,
)
