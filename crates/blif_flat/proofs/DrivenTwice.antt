-- Signals that are driven again: of those before only the least line of each name is kept, and no earlier fault is
-- lost.
use Rattle.std.proofs.Common.{◌≡◌, ℕ, ◌+◌, ◌<◌, ◌≤◌, Bool, true, false, cond, ◌⊎◌, inl, inr, List, [], ◌∷◌, ◌++◌}
use Rattle.std.proofs.Common.{length, Option, Some, None, Contains, refl, sym, ap, ◌∙◌, subst, arith, append_assoc}
use Rattle.std.proofs.Common.{length-append, append-nil}
use Rattle.std.specs.Prelude.{slice_get, is_some, min, max}
use Rattle.std.specs.Str.{bytes_eq}
use Rattle.std.proofs.Math.Nat.{eq-or-lt_of_le}
use Rattle.std.proofs.lemmas.Map.Views.{list_any-from_Contains, Contains-from_any}
use Rattle.std.proofs.lemmas.Option.{slice_get_within}
use Rattle.std.proofs.lemmas.List.Elements.{Contains-append_left, Contains-append_right, Contains-append_cases}
use Rattle.std.proofs.lemmas.Bool.{cases_lt}
use Rattle.blif_read.specs.Parts.{is_defined}
use Rattle.blif_read.specs.declared.models.Named.{Named}
use Rattle.blif_flat.specs.Designs.{names_in}
use Rattle.blif_flat.specs.Code.Joining.{at_line, lower, driven_also, again, drive, drive_all, Driving, least_of}
use Rattle.blif_flat.specs.declared.design.FlatKind.TheVariants.{Duplicate}
use Rattle.blif_flat.specs.declared.faults.order.Told.{Told}
use Rattle.blif_flat.proofs.Least.{IsBefore, head_or, head_in, none_in, least_append, in_map, from_map}
use Rattle.blif_read.proofs.Distinct.{bytes_equiv}
use Rattle.blif_flat.proofs.Numbering.{bytes_same}
use Rattle.blif_flat.proofs.Places.{at_place, in_place, get_front, get_behind}
use Rattle.blif_flat.proofs.Members.{same_bytes}

-- the lines that are kept, and the faults that are met
abbrev pub lines_all : (List ℕ → Option ℕ) → List Named → List ℕ → Option ℕ
lines_all f [] = f
lines_all f (n ∷ ns) = lines_all (driven_also f n) ns

abbrev pub twice_driven : (List ℕ → Option ℕ) → List Named → List Told
twice_driven f [] = []
twice_driven f (n ∷ ns) = again (f n.name) n.line ++ twice_driven (driven_also f n) ns

pub drive_lines : (d : Driving) (ns : List Named) → (drive_all d ns).lines ≡ lines_all d.lines ns
drive_lines d [] = refl
drive_lines d (n ∷ ns) = drive_lines (drive d n) ns

pub drive_told : (d : Driving) (ns : List Named) → (drive_all d ns).told ≡ least_of d.told (twice_driven d.lines ns)
drive_told d [] = refl
drive_told d (n ∷ ns) = drive_told (drive d n) ns
    ∙ sym (least_append d.told (again (d.lines n.name) n.line) (twice_driven (driven_also d.lines n) ns))

-- ---- the least line of each name

pub record IsFrom (before : List Named) (name : List ℕ) (line : ℕ) : Type 0 where
  pub one : Named
  pub among : Contains before one
  pub same : one.name ≡ name
  pub at : one.line ≡ line

pub record IsKept (f : List ℕ → Option ℕ) (n : Named) : Type 0 where
  pub line : ℕ
  pub is : f n.name ≡ Some line
  pub low : line ≤ n.line

pub record AreLines (f : List ℕ → Option ℕ) (before : List Named) : Type 0 where
  pub sound : (name : List ℕ) (line : ℕ) → f name ≡ Some line → IsFrom before name line
  pub cover : (n : Named) → Contains before n → IsKept f n

pub no_lines : AreLines (λ name. None) []
no_lines = record { sound = λ name line e. absurd (cc); cover = λ n c. absurd (none_in n c) }

front_from : (before : List Named) (n : Named) (name : List ℕ) (line : ℕ) → IsFrom before name line
    → IsFrom (before ++ n ∷ []) name line
front_from before n name line h =
    record { one = h.one; among = Contains-append_left before (n ∷ []) h.one h.among; same = h.same; at = h.at }

last_from : (before : List Named) (n : Named) (name : List ℕ) (line : ℕ) → n.name ≡ name → n.line ≡ line
    → IsFrom (before ++ n ∷ []) name line
last_from before n name line e f =
    record { one = n; among = Contains-append_right before (n ∷ []) n (head_in n []); same = e; at = f }

some_same : {a b : ℕ} → Some a ≡ Some b → a ≡ b
some_same e = cc

lower_from : (f : List ℕ → Option ℕ) (before : List Named) (n : Named) (name : List ℕ) (line : ℕ) (o : Option ℕ)
    → AreLines f before → n.name ≡ name → f name ≡ o → lower o n.line ≡ line → IsFrom (before ++ n ∷ []) name line
lower_from f before n name line None h e p q = last_from before n name line e q
lower_from f before n name line (Some l) h e p q = by (cases_lt l n.line)
  where
    by : (l < n.line) ⊎ (n.line ≤ l) → IsFrom (before ++ n ∷ []) name line
    by (inl lt) = let m : l ≡ line = omega arith in front_from before n name line (h.sound name line (p ∙ ap Some m))
    by (inr ge) = let m : n.line ≡ line = omega arith in last_from before n name line e m

lower_low : (o : Option ℕ) (line : ℕ) → lower o line ≤ line
lower_low None line = omega arith
lower_low (Some l) line = omega arith

pub lines_more : (f : List ℕ → Option ℕ) (before : List Named) (n : Named) → AreLines f before
    → AreLines (driven_also f n) (before ++ n ∷ [])
lines_more f before n h = record {
  sound = λ name line e. sound name line (bytes_eq n.name name) refl e;
  cover = λ m c. cover m (Contains-append_cases before (n ∷ []) m c);
}
  where
    sound : (name : List ℕ) (line : ℕ) (b : Bool) → bytes_eq n.name name ≡ b
        → cond b (Some (lower (f name) n.line)) (f name) ≡ Some line → IsFrom (before ++ n ∷ []) name line
    sound name line true p e = lower_from f before n name line (f name) h (bytes_same n.name name p) refl (some_same e)
    sound name line false p e = front_from before n name line (h.sound name line e)

    kept : (m : Named) (k : IsKept f m) (b : Bool) → bytes_eq n.name m.name ≡ b → IsKept (driven_also f n) m
    kept m k true p = record {
      line = lower (f m.name) n.line;
      is = ap (λ b. cond b (Some (lower (f m.name) n.line)) (f m.name)) p;
      low = let e : lower (f m.name) n.line ≡ min k.line n.line =
          ap (λ o. lower o n.line) k.is in let l = k.low in omega arith;
    }
    kept m k false p = record {
      line = k.line;
      is = ap (λ b. cond b (Some (lower (f m.name) n.line)) (f m.name)) p ∙ k.is;
      low = k.low;
    }

    last : (m : Named) → n ≡ m → IsKept (driven_also f n) m
    last m e = subst (IsKept (driven_also f n)) e (record {
      line = lower (f n.name) n.line;
      is = ap (λ b. cond b (Some (lower (f n.name) n.line)) (f n.name)) (same_bytes n.name n.name refl);
      low = lower_low (f n.name) n.line;
    })

    alone : (m : Named) → (n ≡ m) ⊎ Contains [] m → IsKept (driven_also f n) m
    alone m (inl e) = last m e
    alone m (inr c) = absurd (none_in m c)

    cover : (m : Named) → Contains before m ⊎ Contains (n ∷ []) m → IsKept (driven_also f n) m
    cover m (inl c) = kept m (h.cover m c) (bytes_eq n.name m.name) refl
    cover m (inr c) = alone m (head_or n [] m c)

pub lines_append : (f : List ℕ → Option ℕ) (before rest : List Named) → AreLines f before
    → AreLines (lines_all f rest) (before ++ rest)
lines_append f before [] h = subst (AreLines f) (sym (append-nil before)) h
lines_append f before (n ∷ ns) h = subst (AreLines (lines_all (driven_also f n) ns)) (append_assoc before (n ∷ []) ns)
    (lines_append (driven_also f n) (before ++ n ∷ []) ns (lines_more f before n h))

-- a name has a line where it is driven
pub line_defined : (f : List ℕ → Option ℕ) (before : List Named) (name : List ℕ) → AreLines f before
    → is_some (f name) ≡ is_defined (names_in before) name
line_defined f before name h = by (f name) (is_defined (names_in before) name) refl refl
  where
    missing : (n : Named) → n.name ≡ name → IsKept f n → f name ≡ None → ⊥
    missing n e k p = let g : f n.name ≡ f name = ap f e in let i = k.is in cc

    by : (o : Option ℕ) (b : Bool) → f name ≡ o → is_defined (names_in before) name ≡ b → is_some o ≡ b
    by (Some line) true p q = refl
    by None false p q = refl
    by (Some line) false p q =
        let r = h.sound name line p in
        let c : Contains (names_in before) name = subst (Contains (names_in before)) r.same
        (in_map (λ n. n.name) before r.one r.among) in
        let t = list_any-from_Contains bytes_equiv name (names_in before) c in absurd (cc)
    by None true p q =
        let r = from_map (λ n. n.name) before name (Contains-from_any bytes_same name (names_in before) q) in
        absurd (missing r.one r.is (h.cover r.one r.among) p)

-- ---- the faults

-- two of these have one name, and the later of their lines is that of the fault
pub record TellsPair (all : List Named) (told : Told) : Type 0 where
  pub one : ℕ
  pub other : ℕ
  pub first : Named
  pub second : Named
  pub apart : one < other
  pub is_first : slice_get all one ≡ Some first
  pub is_second : slice_get all other ≡ Some second
  pub name : first.name ≡ second.name
  pub at : max first.line second.line ≡ told.line
  pub kind : told.kind ≡ Duplicate

pair_here : (before : List Named) (n : Named) (ns : List Named) (line : ℕ) → IsFrom before n.name line
    → TellsPair (before ++ n ∷ ns) (at_line (max line n.line) Duplicate)
pair_here before n ns line h = record {
  one = h.among.0;
  other = length before;
  first = h.one;
  second = n;
  apart = h.among.1;
  is_first = get_front before (n ∷ ns) h.among.0 h.among.1 ∙ at_place before h.one h.among;
  is_second = get_behind before ns n;
  name = h.same;
  at = ap (λ l. max l n.line) h.at;
  kind = refl;
}

again_sound : (before : List Named) (n : Named) (ns : List Named) (o : Option ℕ) (told : Told)
    → ((line : ℕ) → o ≡ Some line → IsFrom before n.name line)
    → Contains (again o n.line) told → TellsPair (before ++ n ∷ ns) told
again_sound before n ns None told h c = absurd (none_in told c)
again_sound before n ns (Some line) told h c = by (head_or (at_line (max line n.line) Duplicate) [] told c)
  where
    by : (at_line (max line n.line) Duplicate ≡ told) ⊎ Contains [] told → TellsPair (before ++ n ∷ ns) told
    by (inl e) = subst (TellsPair (before ++ n ∷ ns)) e (pair_here before n ns line (h line refl))
    by (inr d) = absurd (none_in told d)

pub driven_sound : (f : List ℕ → Option ℕ) (before rest : List Named) (told : Told) → AreLines f before
    → Contains (twice_driven f rest) told → TellsPair (before ++ rest) told
driven_sound f before [] told h c = absurd (none_in told c)
driven_sound f before (n ∷ ns) told h c =
    by (λ d. driven_sound (driven_also f n) (before ++ n ∷ []) ns told (lines_more f before n h) d)
    (Contains-append_cases (again (f n.name) n.line) (twice_driven (driven_also f n) ns) told c)
  where
    by : (Contains (twice_driven (driven_also f n) ns) told → TellsPair ((before ++ n ∷ []) ++ ns) told)
        → Contains (again (f n.name) n.line) told ⊎ Contains (twice_driven (driven_also f n) ns) told
        → TellsPair (before ++ n ∷ ns) told
    by more (inl d) = again_sound before n ns (f n.name) told (λ line e. h.sound n.name line e) d
    by more (inr d) = subst (λ xs. TellsPair xs told) (append_assoc before (n ∷ []) ns) (more d)

-- a fault of a list that comes before this one
pub record ComesFirst (list : List Told) (told : Told) : Type 0 where
  pub one : Told
  pub among : Contains list one
  pub first : IsBefore one told

again_cover : (o : Option ℕ) (line low other : ℕ) → o ≡ Some low → low ≤ other
    → ComesFirst (again o line) (at_line (max other line) Duplicate)
again_cover None line low other e le = absurd (cc)
again_cover (Some l) line low other e le =
    let same : l ≡ low = cc in
    record {
      one = at_line (max l line) Duplicate;
      among = head_in (at_line (max l line) Duplicate) [];
      first = by (cases_lt (max l line) (max other line)) same;
    }
  where
    by : (max l line < max other line) ⊎ (max other line ≤ max l line) → l ≡ low
        → IsBefore (at_line (max l line) Duplicate) (at_line (max other line) Duplicate)
    by (inl lt) s = inl lt
    by (inr ge) s = inr (omega arith, omega arith)

pub driven_cover : (f : List ℕ → Option ℕ) (before rest : List Named) (one other : ℕ) (first second : Named)
    → AreLines f before → one < other → length before ≤ other
    → slice_get (before ++ rest) one ≡ Some first → slice_get (before ++ rest) other ≡ Some second
    → first.name ≡ second.name
    → ComesFirst (twice_driven f rest) (at_line (max first.line second.line) Duplicate)
driven_cover f before [] one other first second h lt le p q n =
    let k : other < length (before ++ []) = slice_get_within (before ++ []) other second q in
    let l : length (before ++ []) ≡ length before = ap length (append-nil before) in absurd (omega arith)
driven_cover f before (m ∷ ms) one other first second h lt le p q n =
    let whole : (before ++ m ∷ []) ++ ms ≡ before ++ m ∷ ms = append_assoc before (m ∷ []) ms in
    let long : length (before ++ m ∷ []) ≡ length before + 1 = length-append before (m ∷ []) in
    by (λ g. driven_cover (driven_also f m) (before ++ m ∷ []) ms one other first second
    (lines_more f before m h) lt (omega arith)
    (ap (λ xs. slice_get xs one) whole ∙ p) (ap (λ xs. slice_get xs other) whole ∙ q) n) (eq-or-lt_of_le le)
  where
    right : ComesFirst (twice_driven (driven_also f m) ms) (at_line (max first.line second.line) Duplicate)
        → ComesFirst (twice_driven f (m ∷ ms)) (at_line (max first.line second.line) Duplicate)
    right c = record {
      one = c.one;
      among = Contains-append_right (again (f m.name) m.line) (twice_driven (driven_also f m) ms) c.one c.among;
      first = c.first;
    }

    left : ComesFirst (again (f m.name) m.line) (at_line (max first.line m.line) Duplicate)
        → ComesFirst (twice_driven f (m ∷ ms)) (at_line (max first.line m.line) Duplicate)
    left c = record {
      one = c.one;
      among = Contains-append_left (again (f m.name) m.line) (twice_driven (driven_also f m) ms) c.one c.among;
      first = c.first;
    }

    here : m ≡ second → IsKept f first
        → ComesFirst (twice_driven f (m ∷ ms)) (at_line (max first.line second.line) Duplicate)
    here same k = subst (λ s. ComesFirst (twice_driven f (m ∷ ms)) (at_line (max first.line s.line) Duplicate)) same
        (left (again_cover (f m.name) m.line k.line first.line (ap f (ap (λ s. s.name) same ∙ sym n) ∙ k.is) k.low))

    by : (length before < other
        → ComesFirst (twice_driven (driven_also f m) ms) (at_line (max first.line second.line) Duplicate))
        → (length before ≡ other) ⊎ (length before < other)
        → ComesFirst (twice_driven f (m ∷ ms)) (at_line (max first.line second.line) Duplicate)
    by more (inl e) =
        let at : slice_get (before ++ m ∷ ms) other ≡ Some m = ap (slice_get (before ++ m ∷ ms)) (sym e)
        ∙ get_behind before ms m in
        let same : m ≡ second = cc in
        let front : slice_get before one ≡ Some first = sym (get_front before (m ∷ ms) one (omega arith)) ∙ p in
        here same (h.cover first (in_place before one first front))
    by more (inr g) = right (more g)
