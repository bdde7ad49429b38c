-- A strict stream is a wide one.
use Rattle.std.proofs.Common.{◌≡◌, ℕ, zero, suc, ◌+◌, ◌*◌, ◌^◌, ◌<◌, List, [], ◌∷◌, ◌++◌, take, drop, length, None}
use Rattle.std.proofs.Common.{refl, subst, arith}
use Rattle.std.specs.List.{AllByRecursion, flat_map}
use Rattle.std.specs.Int.{w32, from_be_bytes, to_be_bytes, w16}
use Rattle.geom.specs.declared.layout.Layout.{Layout}
use Rattle.gds_records.specs.Language.{Speaks}
use Rattle.gds_records.specs.Grammar.{stream, wide_stream}
use Rattle.gds_records.specs.Records.{Record, kinds, spelled}
use Rattle.gds_records.specs.Whole.{whole_fault}
use Rattle.gds_records.specs.WideWhole.{wide_whole_fault}
use Rattle.gds_records.specs.WideDrawing.{AreFit}
use Rattle.gds_records.specs.Profiles.{strict, wide}
use Rattle.gds_records.specs.Profiled.{IsBytes, AreGoodIn}
use Rattle.gds_records.specs.Stream.{IsStream, IsWideStream, wide_layout_of}

abbrev AreBytes : List ℕ → Type 0
AreBytes bs = AllByRecursion (λ b. b < 256) bs

each_byte : (bs : List ℕ) → IsBytes bs → AreBytes bs
each_byte [] f = tt
each_byte (b ∷ bs) f = (f 0, each_byte bs (λ i. f (suc i)))

behind : (as' bs : List ℕ) → AreBytes (as' ++ bs) → AreBytes bs
behind [] bs f = f
behind (a ∷ as') bs f = behind as' bs f.1

before : (as' bs : List ℕ) → AreBytes (as' ++ bs) → AreBytes as'
before [] bs f = tt
before (a ∷ as') bs f = (f.0, before as' bs f.1)

dropped : (n : ℕ) (bs : List ℕ) → AreBytes bs → AreBytes (drop n bs)
dropped zero bs f = f
dropped (suc n) [] f = tt
dropped (suc n) (b ∷ bs) f = dropped n bs f.1

four_fit : (bs : List ℕ) → AreBytes bs → from_be_bytes w32 (take 4 bs) < 2 ^ 32
four_fit [] f = omega arith
four_fit (a ∷ []) f = omega (arith, f.0)
four_fit (a ∷ b ∷ []) f = omega (arith, f.0, f.1.0)
four_fit (a ∷ b ∷ c ∷ []) f = omega (arith, f.0, f.1.0, f.1.1.0)
four_fit (a ∷ b ∷ c ∷ d ∷ bs) f = omega (arith, f.0, f.1.0, f.1.1.0, f.1.1.1.0)

content_bytes : (r : Record) → AreBytes (spelled r) → AreBytes r.content
content_bytes r f = (behind (to_be_bytes w16 (4 + length r.content)) (r.kind ∷ r.form ∷ r.content) f).1.1

are_fit : (rs : List Record) (rest : List ℕ) → AreBytes (flat_map spelled rs ++ rest) → AreFit rs
are_fit rs rest f = turn rs (before (flat_map spelled rs) rest f)
  where
    turn : (rs : List Record) → AreBytes (flat_map spelled rs) → AreFit rs
    turn [] f = tt
    turn (r ∷ rs) f = (
      (λ k. four_fit (drop (4 * k) r.content)
          (dropped (4 * k) r.content (content_bytes r (before (spelled r) (flat_map spelled rs) f)))),
      turn rs (behind (spelled r) (flat_map spelled rs) f),
    )

pub stream_within :
    ((w : List ℕ) → Speaks stream w → Speaks wide_stream w)
    → ((rs : List Record) → whole_fault rs ≡ None → wide_whole_fault rs ≡ None)
    → ((rs : List Record) → Speaks stream (kinds rs) → AreFit rs → AreGoodIn strict [] rs → AreGoodIn wide [] rs)
    → (bytes : List ℕ) (layout : Layout) → IsBytes bytes → (s : IsStream bytes layout)
    → IsWideStream bytes (wide_layout_of s.records)
stream_within sentence whole good bytes layout fits s =
    record {
      records = s.records;
      rest = s.rest;
      read = record {
        whole = s.read.whole;
        grammar = sentence (kinds s.records) s.read.grammar;
        good = good s.records s.read.grammar
            (are_fit s.records s.rest (subst (λ (x : List ℕ). AreBytes x) s.read.whole (each_byte bytes fits)))
            s.read.good;
      };
      zeros = s.zeros;
      conditions = whole s.records s.conditions;
      says = refl;
    }
