-- What a sink takes, one piece after another.
use Rattle.std.proofs.Common.{ℕ, ◌≡◌, ◌≤◌, List, [], ◌∷◌, ◌++◌, ◌+◌, take, length, min}
use Rattle.std.proofs.Common.{refl, ap, sym, ◌∙◌, arith}
use Rattle.std.proofs.lemmas.List.{take_min, take-append-le, length-append}
use Rattle.std.proofs.Math.Seq.{take-append-add}
use Rattle.aq_base.specs.History.{Event, NotAppended, took, all_taken}
use Rattle.aq_base.specs.Output.{Output, printed, stopped, PrintsPart}
use Rattle.aq_base.specs.declared.store.StoreRefusal.{StoreRefusal}
use Rattle.aq_base.proofs.HistoryLaws.{took-took, all_took}

pub printed_nothing : (o : Output) → o ≡ printed [] o
printed_nothing o = refl

pub printed_twice : (o : Output) (p q : List ℕ) → printed q (printed p o) ≡ printed (p ++ q) o
printed_twice o p q = λ i. record { history = took-took o.history p q i }

-- some first bytes were taken, or all where there were no more
pub prints_first : {o o' : Output} (keep : ℕ) (piece : List ℕ) (why : StoreRefusal)
    → o' ≡ stopped why (printed (take keep piece) o) → PrintsPart o o' piece why
prints_first {o = o} keep piece why e = record {
  count = min keep (length piece);
  within = omega arith;
  taken = e ∙ ap (λ (bytes : List ℕ). stopped why (printed bytes o)) (sym (take_min keep piece));
}

-- a part of the first piece is one of the two together
pub part_of_first : {o o' : Output} {a : List ℕ} {why : StoreRefusal} (b : List ℕ) → PrintsPart o o' a why
    → PrintsPart o o' (a ++ b) why
part_of_first {o = o} {a = a} {why = why} b p = record {
  count = p.count;
  within = omega (arith, length-append a b, p.within);
  taken = p.taken ∙ ap (λ (bytes : List ℕ). stopped why (printed bytes o)) (sym (take-append-le p.count a b p.within));
}

-- after the first piece, a part of the second
pub part_of_second : {o middle o' : Output} (a : List ℕ) {b : List ℕ} {why : StoreRefusal} → middle ≡ printed a o
    → PrintsPart middle o' b why → PrintsPart o o' (a ++ b) why
part_of_second {o = o} a {b = b} {why = why} m p = record {
  count = length a + p.count;
  within = omega (arith, length-append a b, p.within);
  taken = p.taken ∙ ap (λ (x : Output). stopped why (printed (take p.count b) x)) m
      ∙ ap (stopped why) (printed_twice o a (take p.count b))
      ∙ ap (λ (bytes : List ℕ). stopped why (printed bytes o)) (sym (take-append-add a b p.count));
}

-- ---- by what a sink keeps: its history

abbrev Kept : List Event → Output
Kept history = record { history = history }

pub kept_prints : (history history' : List Event) (piece : List ℕ) → history' ≡ took piece history
    → Kept history' ≡ printed piece (Kept history)
kept_prints history history' piece h = λ i. Kept (h i)

pub kept_stays : (history history' : List Event) (piece : List ℕ) (why : StoreRefusal)
    → history' ≡ NotAppended why ∷ history → PrintsPart (Kept history) (Kept history') piece why
kept_stays history history' piece why h = prints_first 0 piece why (λ i. Kept (h i))

pub kept_prints_part : (history middle history' : List Event) (piece taken : List ℕ) (keep : ℕ) (why : StoreRefusal)
    → taken ≡ take keep piece → middle ≡ took taken history → history' ≡ NotAppended why ∷ middle
    → PrintsPart (Kept history) (Kept history') piece why
kept_prints_part history middle history' piece taken keep why t m h = prints_first keep piece why
    ((λ i. Kept (h i)) ∙ ap (stopped why) (kept_prints history middle taken m)
    ∙ ap (λ (x : List ℕ). stopped why (printed x (Kept history))) t)

-- some first bytes, as many as this, and then no more
pub kept_cut : (history middle history' : List Event) (piece : List ℕ) (count : ℕ) (why : StoreRefusal)
    → count ≤ length piece → middle ≡ took (take count piece) history → history' ≡ NotAppended why ∷ middle
    → PrintsPart (Kept history) (Kept history') piece why
kept_cut history middle history' piece count why within m h = record {
  count = count;
  within = within;
  taken = (λ i. Kept (h i)) ∙ ap (stopped why) (kept_prints history middle (take count piece) m);
}

-- ---- a sink that tells its bytes: they are all that it took

pub told_bytes : (bytes bytes' : List ℕ) (history history' : List Event) (piece : List ℕ) → bytes ≡ all_taken history
    → bytes' ≡ bytes ++ piece → history' ≡ took piece history → bytes' ≡ all_taken history'
told_bytes bytes bytes' history history' piece is b h =
    b ∙ ap (λ x. x ++ piece) is ∙ sym (all_took history piece) ∙ ap (λ x. all_taken x) (sym h)

pub told_cut : (bytes : List ℕ) (history history' : List Event) (why : StoreRefusal) → bytes ≡ all_taken history
    → history' ≡ NotAppended why ∷ history → bytes ≡ all_taken history'
told_cut bytes history history' why is h = is ∙ ap (λ x. all_taken x) (sym h)

pub ruleset printed_pieces = (kept_prints, kept_stays, kept_prints_part, told_bytes, told_cut)
