-- What the steps of a reader tell of the scan of records.
use Rattle.std.proofs.Common.{◌≡◌, ℕ, suc, ◌+◌, ◌<◌, ◌≤◌, List, [], ◌∷◌, ◌++◌, map, take, drop, length, Bool, true}
use Rattle.std.proofs.Common.{false, eqb, Option, Some, None, refl, sym, ap, subst, ◌∙◌, arith}
use Rattle.std.specs.List.{flat_map, AllByRecursion}
use Rattle.std.proofs.lemmas.List.{take_at}
use Rattle.gds_records.specs.declared.fault.StreamKind.{StreamKind}
use Rattle.gds_records.specs.declared.fault.StreamKind.TheVariants.{Value}
use Rattle.gds_records.specs.Profiles.{wide}
use Rattle.gds_records.specs.Records.{Record, spelled}
use Rattle.gds_records.specs.Drawing.{starts, name_of, names_of}
use Rattle.gds_records.specs.Whole.{Use, Outline, is_used, outlines, tops, top_in, top_fault}
use Rattle.gds_records.specs.WideWhole.{wide_whole_fault}
use Rattle.gds_records.specs.Profiled.{AreGoodIn, are_zero, IsReadIn, zeros_before}
use Rattle.gds_records.specs.Profiled.{Scanned, Faulty, Whole, Unfinished, scan_in, found_in, first_fault_in}
use Rattle.gds_records.specs.Steps.{Stopped, Ended, all_steps, told}
use Rattle.gds_read.specs.Code.Decoding.{IsShortRecord, IsSpelled}
use Rattle.gds_read.specs.Code.Bodies.{IsBody}
use Rattle.gds_read.proofs.Decoded.{records_are}

faulty_of : (s : Scanned) (o : ℕ) (k : StreamKind) → told s ≡ Stopped o k → s ≡ Faulty o k
faulty_of (Faulty p j) o k e = cc
faulty_of (Whole rs rest) o k e = absurd cc
faulty_of Unfinished o k e = absurd cc

record IsWhole (s : Scanned) (o : ℕ) (rest : List ℕ) : Type 0 where
  records : List Record
  whole : s ≡ Whole records rest
  place : o ≡ length (flat_map spelled records)

whole_of : (s : Scanned) (o : ℕ) (rest : List ℕ) → told s ≡ Ended o rest → IsWhole s o rest
whole_of (Faulty p j) o rest e = absurd cc
whole_of (Whole rs more) o rest e = let q : more ≡ rest = cc in
    record { records = rs; whole = ap (λ (x : List ℕ). Whole rs x) q; place = cc }
whole_of Unfinished o rest e = absurd cc

module _ (bytes : List ℕ) (law : all_steps wide bytes ≡ told (scan_in wide (suc (length bytes)) [] bytes)) where
  pub stopped_at : (o : ℕ) (k : StreamKind) → all_steps wide bytes ≡ Stopped o k
      → first_fault_in wide bytes ≡ Some (o, k)
  stopped_at o k e =
      ap (λ (s : Scanned). found_in wide s) (faulty_of (scan_in wide (suc (length bytes)) [] bytes) o k (sym law ∙ e))

  ended_at : (o : ℕ) (rest : List ℕ) → all_steps wide bytes ≡ Ended o rest
      → IsWhole (scan_in wide (suc (length bytes)) [] bytes) o rest
  ended_at o rest e = whole_of (scan_in wide (suc (length bytes)) [] bytes) o rest (sym law ∙ e)

  nonzero_end : (t : Bool) (f : Option (ℕ × StreamKind)) (q : ℕ × StreamKind) → t ≡ false
      → (elim t as (λ (x : Bool). Option (ℕ × StreamKind)) [ false ↦ Some q | true ↦ f ]) ≡ Some q
  nonzero_end true f q e = absurd cc
  nonzero_end false f q e = refl

  pub other_at : (o : ℕ) (rest : List ℕ) (place : ℕ) → all_steps wide bytes ≡ Ended o rest → are_zero rest ≡ false
      → place ≡ zeros_before rest → first_fault_in wide bytes ≡ Some (o + place, Value)
  other_at o rest place e z q =
      let w = ended_at o rest e in
      let found : ℕ × StreamKind = (length (flat_map spelled w.records) + zeros_before rest, Value) in
      ap (λ (s : Scanned). found_in wide s) w.whole ∙ nonzero_end (are_zero rest) (wide_whole_fault w.records) found z
      ∙ ap (λ (x : ℕ). Some (x + zeros_before rest, Value)) (sym w.place) ∙ ap (λ (x : ℕ). Some (o + x, Value)) (sym q)

  good_short : (before rs : List Record) → AreGoodIn wide before rs → AllByRecursion IsShortRecord rs
  good_short before [] g = tt
  good_short before (r ∷ rs) g = (g.0.short, good_short (before ++ r ∷ []) rs g.1)

  pub body_of : (o : ℕ) → o ≤ length bytes → all_steps wide bytes ≡ Ended o (drop o bytes)
      → are_zero (drop o bytes) ≡ true
      → ((rs : List Record) (rest : List ℕ) → scan_in wide (suc (length bytes)) [] bytes ≡ Whole rs rest
      → IsReadIn wide bytes rs rest)
      → IsBody bytes o
  body_of o h e z read =
      let w = ended_at o (drop o bytes) e in
      let r = read w.records (drop o bytes) w.whole in
      let t : take o bytes ≡ flat_map spelled w.records = ap (λ (x : List ℕ). take o x) r.whole
      ∙ take_at (flat_map spelled w.records) (drop o bytes) o (sym w.place) in
      let s : IsSpelled (take o bytes) =
      record { records = w.records; whole = t; short = good_short [] w.records r.good } in
      record {
        within = h;
        whole = s;
        read = subst (λ (x : List Record). IsReadIn wide bytes x (drop o bytes)) (sym (records_are (take o bytes) s)) r;
        zeros = z;
      }

-- ---- the whole stream

-- ---- the layout

pub names_same : (o : ℕ) (rs : List Record) → map (λ s. s.name) (outlines o rs) ≡ names_of rs
names_same o [] = refl
names_same o (r ∷ rs) = turn (eqb r.kind 5) (outlines (o + (4 + length r.content)) rs) (starts rs) _
    (names_same (o + (4 + length r.content)) rs)
  where
    turn : (z : Bool) (ss : List Outline) (ps : List (List Record)) (us : List Use)
        → map (λ s. s.name) ss ≡ map name_of ps
        → map (λ s. s.name)
        (elim z as (λ (x : Bool). List Outline) [
          | true ↦ record { place = o; name = name_of rs; uses = us } ∷ ss
          | false ↦ ss
        ]) ≡ map name_of
        (elim z as (λ (x : Bool). List (List Record)) [ true ↦ rs ∷ ps | false ↦ ps ])
    turn true ss ps us e = ap (λ (x : List (List ℕ)). name_of rs ∷ x) e
    turn false ss ps us e = e

tops_low : (n : ℕ) (us : List Use) (ss : List Outline) (t : ℕ × ℕ) (ts : List (ℕ × ℕ)) → tops n us ss ≡ t ∷ ts
    → t.0 < n + length ss
tops_low n us [] t ts e = absurd cc
tops_low n us (s ∷ ss) t ts e = turn (is_used s.name us) (tops (suc n) us ss) (λ f. tops_low (suc n) us ss t ts f) e
  where
    turn : (z : Bool) (more : List (ℕ × ℕ)) → (more ≡ t ∷ ts → t.0 < suc n + length ss)
        → (elim z as (λ (x : Bool). List (ℕ × ℕ)) [ true ↦ more | false ↦ (n, s.place) ∷ more ]) ≡ t ∷ ts
        → t.0 < n + suc (length ss)
    turn true more f g = let h : t.0 < suc n + length ss = f g in omega arith
    turn false more f g = let w : n ≡ t.0 = ap (λ (x : List (ℕ × ℕ)). top_in x) g in omega arith

pub top_low : (o : ℕ) (us : List Use) (ss : List Outline) (ts : List (ℕ × ℕ)) → tops 0 us ss ≡ ts
    → top_fault o ts ≡ None → top_in ts < length ss
top_low o us ss [] e f = absurd cc
top_low o us ss (t ∷ []) e f = omega (arith, tops_low 0 us ss t [] e)
top_low o us ss (t ∷ s ∷ ts) e f = absurd cc

pub parts_none : (u d : Option ℕ) (t : Option (ℕ × StreamKind)) (f g : ℕ → ℕ × StreamKind)
    → (elim u as (λ (x : Option ℕ). Option (ℕ × StreamKind)) [
      | Some p ↦ Some (f p)
      | None ↦ elim d as (λ (x : Option ℕ). Option (ℕ × StreamKind)) [ Some p ↦ Some (g p) | None ↦ t ]
    ]) ≡ None
    → (u ≡ None) × (d ≡ None) × (t ≡ None)
parts_none (Some p) d t f g e = absurd cc
parts_none None (Some p) t f g e = absurd cc
parts_none None None t f g e = (refl, refl, e)
