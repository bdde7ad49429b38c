-- What stands on a page, and what has been put.
use Rattle.std.proofs.Common.{◌≡◌, ◌+◌, ℕ, List, [], ◌++◌, Result, Ok, Err, OnOk, IfErr, length, take, inl, sym, ap}
use Rattle.std.proofs.Common.{subst, ◌∙◌, arith, append-nil, inr}
use Rattle.std.proofs.lemmas.List.{take-append-le, length-append}
use Rattle.std.proofs.Math.Seq.{take-append-add, take-length}
use Rattle.aq_base.specs.declared.store.StoreRefusal.{StoreRefusal}
use Rattle.aq_base.specs.declared.store.StoreRefusal.TheVariants as store
use Rattle.aq_base.specs.Output.{Output, printed, stopped, PrintsPart}
use Rattle.aq_base.proofs.Printed.{printed_nothing, printed_twice}
use Rattle.text_answers.specs.Printing.{Halts, PrintsWithin, IsPrinted, RefusesLine}

-- ---- what a sink has taken

-- a refusal ends printing
pub stop_halts : (why : StoreRefusal) (o o' : Output) → o' ≡ stopped why o → Halts why o o'
stop_halts store.Failed o o' stop = stop
stop_halts store.Memory o o' stop = inr stop

pub part_within : {o o' : Output} {text : List ℕ} {why : StoreRefusal} → PrintsPart o o' text why
    → PrintsWithin o o' text why
part_within {o} {o'} {text} {why} p = record {
  count = p.count;
  within = p.within;
  halts = stop_halts why (printed (take p.count text) o) o' p.taken;
}

-- some first bytes of the first text are some of the two together
pub within_first : {o o' : Output} {a : List ℕ} {why : StoreRefusal} (b : List ℕ) → PrintsWithin o o' a why
    → PrintsWithin o o' (a ++ b) why
within_first {o} {o'} {a} {why} b p = record {
  count = p.count;
  within = omega (arith, length-append a b, p.within);
  halts = rw (take-append-le p.count a b p.within) p.halts;
}

-- after the first text, some first bytes of the second
pub within_second : {o middle o' : Output} (a : List ℕ) {b : List ℕ} {why : StoreRefusal} → middle ≡ printed a o
    → PrintsWithin middle o' b why → PrintsWithin o o' (a ++ b) why
within_second {o} {middle} {o'} a {b} {why} is p = record {
  count = length a + p.count;
  within = omega (arith, length-append a b, p.within);
  halts = rw take-append-add
      (subst (λ x. Halts why x o') (ap (printed (take p.count b)) is ∙ printed_twice o a (take p.count b)) p.halts);
}

-- memory was refused before anything was put
pub within_none : (o : Output) (text : List ℕ) → PrintsWithin o o text store.Memory
within_none o text = record { count = 0; within = omega arith; halts = inl (printed_nothing o) }

-- the same of a call that was answered or refused

pub put_within : (o o' : Output) (text : List ℕ) (result : Result (Unit {0}) StoreRefusal)
    → IfErr result (PrintsPart o o' text) → IfErr result (PrintsWithin o o' text)
put_within o o' text (Ok x) part = tt
put_within o o' text (Err why) part = part_within part

pub both_printed : (o middle o' : Output) (a b : List ℕ) (result : Result (Unit {0}) StoreRefusal)
    → middle ≡ printed a o → OnOk result (o' ≡ printed b middle) → OnOk result (o' ≡ printed (a ++ b) o)
both_printed o middle o' a b (Ok x) first second = second ∙ (ap (printed b) first ∙ printed_twice o a b)
both_printed o middle o' a b (Err why) first second = tt

pub second_within : (o middle o' : Output) (a b : List ℕ) (result : Result (Unit {0}) StoreRefusal)
    → middle ≡ printed a o → IfErr result (PrintsWithin middle o' b) → IfErr result (PrintsWithin o o' (a ++ b))
second_within o middle o' a b (Ok x) first part = tt
second_within o middle o' a b (Err why) first part = within_second a first part

pub ruleset texts = (put_within, both_printed, second_within, within_first, within_none)

-- ---- a page

-- the page was put
pub page_put : (before now after : Output) (page piece text : List ℕ) → IsPrinted before now page text → piece ≡ page
    → after ≡ printed piece now → IsPrinted before after [] text
page_put before now after page piece text is same added = record {
  put = text;
  gain = added ∙ (ap (λ p. printed p now) same ∙ (ap (printed page) is.gain
      ∙ (printed_twice before is.put page ∙ ap (λ t. printed t before) (sym is.text_is))));
  text_is = sym (append-nil text);
}

-- a first part of the page was put
pub page_refused : (before now after : Output) (page piece text : List ℕ) (why : StoreRefusal)
    → IsPrinted before now page text → piece ≡ page → PrintsPart now after piece why
    → PrintsWithin before after text why
page_refused before now after page piece text why is same part =
    rw is.text_is (within_second is.put is.gain
    (part_within (subst (λ p. PrintsPart now after p why) same part)))

-- what was put is some first bytes of the text
printed_within : (before now : Output) (page text : List ℕ) → IsPrinted before now page text
    → PrintsWithin before now text store.Memory
printed_within before now page text is =
    rw is.text_is (within_first page (record {
      count = length is.put;
      within = omega arith;
      halts = inl (is.gain ∙ ap (λ t. printed t before) (sym (take-length is.put)));
    }))

-- memory was refused before the line was printed
pub refuses_line : (now : Output) (page line : List ℕ) → RefusesLine now now page line store.Memory
refuses_line now page line = λ before text is. within_first line (printed_within before now page text is)

-- a page that is put whole
pub all_put : (before now : Output) (text : List ℕ) → IsPrinted before now [] text → now ≡ printed text before
all_put before now text is = is.gain ∙ ap (λ t. printed t before) (sym (is.text_is ∙ append-nil is.put))

-- nothing was put
pub nothing_printed : (old : Output) (page text : List ℕ) → text ≡ page → IsPrinted old old page text
nothing_printed old page text same = record { put = []; gain = printed_nothing old; text_is = same }

pub ruleset pages = (within_none, nothing_printed)
