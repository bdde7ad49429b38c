-- What an open file takes, one piece after another.
use Rattle.std.proofs.Common.{ℕ, ◌≡◌, List, [], ◌∷◌, ◌++◌, Bool, true, false, cond, take, length, min, Option, Some}
use Rattle.std.proofs.Common.{None, option_map, append_assoc, refl, ap, sym, ◌∙◌, arith, inr}
use Rattle.std.specs.Str.{bytes_eq}
use Rattle.std.proofs.lemmas.List.{take_min}
use Rattle.aq_base.specs.Store.{Contents, with_growth}
use Rattle.aq_base.specs.Replay.{with_more}
use Rattle.aq_base.specs.History.{Event, NotAppended, took}
use Rattle.aq_base.specs.Outside.{Outside, grown, cut_off, TakesPart, StopsWithin}
use Rattle.aq_base.specs.declared.store.StoreRefusal.{StoreRefusal}
use Rattle.aq_base.specs.declared.store.StoreRefusal.TheVariants as store
use Rattle.aq_base.proofs.Stored.{with_growth-empty}
use Rattle.aq_base.proofs.HistoryLaws.{took-took}

pub nothing_more : (files : Contents) (name : Option (List ℕ)) → files ≡ with_more files name []
nothing_more files None = refl
nothing_more files (Some name) = sym (with_growth-empty files name)

grows_twice : (b : Bool) (p q : List ℕ) (x : Option (List ℕ))
    → cond b (option_map (λ b. b ++ q) (cond b (option_map (λ b. b ++ p) x) x))
    (cond b (option_map (λ b. b ++ p) x) x) ≡ cond b (option_map (λ b. b ++ (p ++ q)) x) x
grows_twice true p q None = refl
grows_twice true p q (Some bytes) = ap (λ b. Some b) (append_assoc bytes p q)
grows_twice false p q x = refl

pub twice_more : (files : Contents) (name : Option (List ℕ)) (p q : List ℕ)
    → with_more (with_more files name p) name q ≡ with_more files name (p ++ q)
unfolding with_growth
twice_more files None p q = refl
twice_more files (Some name) p q = λ i other. grows_twice (bytes_eq name other) p q (files other) i

pub grown_nothing : (o : Outside) → o ≡ grown [] o
grown_nothing o = refl

pub grown_twice : (o : Outside) (p q : List ℕ) → grown q (grown p o) ≡ grown (p ++ q) o
grown_twice o p q = λ i. record { history = took-took o.history p q i; opened = o.opened }

-- some first bytes were taken, or all where there were no more
pub takes_first : {o o' : Outside} (keep : ℕ) (piece : List ℕ) (why : StoreRefusal)
    → o' ≡ cut_off why (grown (take keep piece) o) → TakesPart o o' piece why
takes_first {o = o} keep piece why e = record {
  count = min keep (length piece);
  within = omega arith;
  taken = e ∙ ap (λ (bytes : List ℕ). cut_off why (grown bytes o)) (sym (take_min keep piece));
}

pub takes_none : {o o' : Outside} (piece : List ℕ) (why : StoreRefusal) → o' ≡ cut_off why o → TakesPart o o' piece why
takes_none {o = o} piece why e = takes_first 0 piece why (e ∙ ap (cut_off why) (grown_nothing o))

-- where a store was asked for all of them, writing ended with its refusal
pub part_stops : {o o' : Outside} {piece : List ℕ} (why : StoreRefusal) → TakesPart o o' piece why
    → StopsWithin o o' piece why
part_stops store.Failed p = record { count = p.count; within = p.within; stops = p.taken }
part_stops store.Memory p = record { count = p.count; within = p.within; stops = inr p.taken }

-- by what a store keeps: its history, and what is open
abbrev Kept : List Event → Option (List ℕ) → Outside
Kept history opened = record { history = history; opened = opened }

pub held_grows : (history history' : List Event) (opened opened' : Option (List ℕ)) (piece : List ℕ)
    → opened' ≡ opened → history' ≡ took piece history → Kept history' opened' ≡ grown piece (Kept history opened)
held_grows history history' opened opened' piece s h = λ i. Kept (h i) (s i)

pub held_stays : (history history' : List Event) (opened opened' : Option (List ℕ)) (piece : List ℕ)
    (why : StoreRefusal) → opened' ≡ opened → history' ≡ NotAppended why ∷ history
    → TakesPart (Kept history opened) (Kept history' opened') piece why
held_stays history history' opened opened' piece why s h = takes_none piece why (λ i. Kept (h i) (s i))

pub held_grows_part : (history middle history' : List Event) (opened opened' : Option (List ℕ))
    (piece taken : List ℕ) (keep : ℕ) (why : StoreRefusal) → opened' ≡ opened → taken ≡ take keep piece
    → middle ≡ took taken history → history' ≡ NotAppended why ∷ middle
    → TakesPart (Kept history opened) (Kept history' opened') piece why
held_grows_part history middle history' opened opened' piece taken keep why s t m h = takes_first keep piece why
    ((λ i. Kept (h i) opened') ∙ ap (cut_off why) (held_grows history middle opened opened' taken s m)
    ∙ ap (λ (bytes : List ℕ). cut_off why (grown bytes (Kept history opened))) t)

pub ruleset grown_files = (held_grows, held_stays, held_grows_part)
