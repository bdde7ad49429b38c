-- What a sink over std puts, by the calls of its pipe.
use Rattle.std.proofs.Common.{ℕ, ◌≡◌, List, [], ◌∷◌, ◌++◌, append_assoc, append-nil, refl, ap, sym, ◌∙◌}
use Rattle.std.proofs.Common.{Bool, true, false, subst, take, inl, inr}
use Rattle.std.specs.Prelude.{◌⊎◌}
use Rattle.std.proofs.Math.Logic.{∥∥₁_map}
use Rattle.aq_base.specs.declared.acts.Act.TheVariants as act
use Rattle.aq_base.specs.declared.store.StoreRefusal.{StoreRefusal}
use Rattle.aq_base.specs.History.{Event, NotAppended, took, all_taken}
use Rattle.aq_base.specs.Acts.{Did, Opened, NotOpened, Gave, AtEnd, Linked, Drafted, Made, Took, Done, Refused}
use Rattle.aq_base.specs.Acts.{write_on, wrote, all_wrote, call_did}
use Rattle.aq_base.specs.Puts.{Puts, IsFlushed}
use Rattle.aq_base.specs.Writers.{WritesPart}
use Rattle.aq_base.proofs.HistoryLaws.{all_took}

all_write_on : (bytes : List ℕ) (done : List Did) → all_wrote (write_on bytes done) ≡ all_wrote done ++ bytes
all_write_on bytes [] = refl
all_write_on bytes (Opened name ∷ done) = refl
all_write_on bytes (NotOpened name why ∷ done) = refl
all_write_on bytes (Gave before ∷ done) = refl
all_write_on bytes (AtEnd ∷ done) = refl
all_write_on bytes (Linked path target ∷ done) = refl
all_write_on bytes (Drafted path target ∷ done) = refl
all_write_on bytes (Made name ∷ done) = refl
all_write_on bytes (Took before ∷ done) = sym (append_assoc (all_wrote done) before bytes)
all_write_on bytes (Done call ∷ done) = refl
all_write_on bytes (Refused call ∷ done) = refl

all_wrote-wrote : (piece : List ℕ) (done : List Did) → all_wrote (wrote piece done) ≡ all_wrote done ++ piece
all_wrote-wrote [] done = sym (append-nil (all_wrote done))
all_wrote-wrote (byte ∷ piece) done = all_write_on (byte ∷ piece) done

pub puts-none : (done : List Did) → done ≡ [] → ∥ Puts done [] ∥₁
puts-none done is = ∣ subst (λ d. Puts d []) (sym is) (record { bytes = refl; flushed = tt }) ∣₁

part_wrote : (piece : List ℕ) (count : ℕ) (d d' : List Did) → (d' ≡ wrote (take count piece) d)
    ⊎ (d' ≡ Refused act.Write ∷ wrote (take count piece) d) → all_wrote d' ≡ all_wrote d ++ take count piece
part_wrote piece count d d' (inl is) = ap (λ x. all_wrote x) is ∙ all_wrote-wrote (take count piece) d
part_wrote piece count d d' (inr is) = ap (λ x. all_wrote x) is ∙ all_wrote-wrote (take count piece) d

-- the bytes of a piece, once some first bytes of it were written, and flushed
puts_bytes : (piece : List ℕ) (count : ℕ) (flushed : Bool) (d d' d'' : List Did) (history : List Event)
    → WritesPart d d' piece count → d'' ≡ call_did act.Flush flushed ∷ d' → Puts d history
    → all_wrote d'' ≡ all_taken (took (take count piece) history)
puts_bytes piece count true d d' d'' history part is puts = ap (λ x. all_wrote x) is
    ∙ part_wrote piece count d d' part.calls ∙ ap (λ bytes. bytes ++ take count piece) puts.bytes
    ∙ sym (all_took history (take count piece))
puts_bytes piece count false d d' d'' history part is puts = ap (λ x. all_wrote x) is
    ∙ part_wrote piece count d d' part.calls ∙ ap (λ bytes. bytes ++ take count piece) puts.bytes
    ∙ sym (all_took history (take count piece))

-- a piece was written and flushed
pub puts-flushed : (piece : List ℕ) (count : ℕ) (d d' d'' : List Did) (history : List Event)
    → WritesPart d d' piece count → d'' ≡ Done act.Flush ∷ d' → ∥ Puts d history ∥₁
    → ∥ Puts d'' (took (take count piece) history) ∥₁
puts-flushed piece count d d' d'' history part is puts = ∥∥₁_map puts (λ p. record {
  bytes = puts_bytes piece count true d d' d'' history part is p;
  flushed = subst (λ x. IsFlushed x (took (take count piece) history)) (sym is) tt;
})

still_flushed : (flushed : Bool) (d : List Did) (why : StoreRefusal) (history : List Event)
    → IsFlushed (call_did act.Flush flushed ∷ d) (NotAppended why ∷ history)
still_flushed true d why history = tt
still_flushed false d why history = tt

-- some first bytes of it were, and then no more
pub puts-refused : (why : StoreRefusal) (flushed : Bool) (piece : List ℕ) (count : ℕ) (d d' d'' : List Did)
    (history : List Event) → WritesPart d d' piece count → d'' ≡ call_did act.Flush flushed ∷ d' → ∥ Puts d history ∥₁
    → ∥ Puts d'' (NotAppended why ∷ took (take count piece) history) ∥₁
puts-refused why flushed piece count d d' d'' history part is puts = ∥∥₁_map puts (λ p. record {
  bytes = puts_bytes piece count flushed d d' d'' history part is p;
  flushed = subst (λ x. IsFlushed x (NotAppended why ∷ took (take count piece) history)) (sym is)
      (still_flushed flushed d' why (took (take count piece) history));
})

pub ruleset putting = (puts-none, puts-flushed, puts-refused)
