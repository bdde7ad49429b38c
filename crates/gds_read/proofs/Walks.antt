-- One record after another: references and structures in outline.
use Rattle.std.proofs.Common.{◌≡◌, ◌≢◌, ℕ, ◌+◌, ◌<◌, List, [], ◌∷◌, ◌++◌, map, drop, length, Bool, true, false, eqb}
use Rattle.std.proofs.Common.{refl, sym, ap, ◌∙◌, append_assoc}
use Rattle.std.proofs.lemmas.List.{append-nil}
use Rattle.std.proofs.lemmas.Bool.{eq-eqb, ne_eqb}
use Rattle.gds_records.specs.Records.{Record, trimmed}
use Rattle.gds_records.specs.Faults.{here_record, kind_of, length_of}
use Rattle.gds_records.specs.Drawing.{name_of, starts}
use Rattle.gds_records.specs.Whole.{Use, Outline, uses_from, outlines, last_place}
use Rattle.gds_read.specs.Code.Decoding.{IsSpelled, records_in, Goes}
use Rattle.gds_read.specs.Code.Outlining.{uses_at}
use Rattle.gds_read.proofs.Cursors.{none_left}
use Rattle.gds_read.proofs.Decoded.{goes}

abbrev uses_turn : Bool → Bool → Use → List Use → List Use
uses_turn z t u us = elim z as (λ (x : Bool). List Use) [
  | true ↦ []
  | false ↦ elim t as (λ (x : Bool). List Use) [ true ↦ u ∷ us | false ↦ us ]
]

turn_stop : (z t : Bool) (u : Use) (us : List Use) → z ≡ true → uses_turn z t u us ≡ []
turn_stop true t u us e = refl
turn_stop false t u us e = absurd cc

turn_on : (z t : Bool) (u : Use) (us : List Use) → z ≡ false
    → uses_turn z t u us ≡ (elim t as (λ (x : Bool). List Use) [ true ↦ u ∷ [] | false ↦ [] ]) ++ us
turn_on true t u us e = absurd cc
turn_on false true u us e = refl
turn_on false false u us e = refl

abbrev use_here : ℕ → Record → Use
use_here o r = record { place = o; name = trimmed r.content }

module _ (o : ℕ) (b rest : List ℕ) (g : Goes b rest) where
  pub uses_stop : kind_of b ≡ 7 → uses_from o (records_in b) ≡ []
  uses_stop e =
      ap (λ (x : List Record). uses_from o x) g.records
      ∙ turn_stop (eqb (kind_of b) 7) (eqb (kind_of b) 18) (use_here o (here_record b))
      (uses_from (o + (4 + length (here_record b).content)) (records_in rest)) (eq-eqb (kind_of b) 7 e)

  uses_on : (n : ℕ) → kind_of b ≢ 7 → n ≡ 4 + length (here_record b).content
      → uses_from o (records_in b) ≡ uses_at o (here_record b) ++ uses_from (o + n) (records_in rest)
  uses_on n e size =
      ap (λ (x : List Record). uses_from o x) g.records
      ∙ turn_on (eqb (kind_of b) 7) (eqb (kind_of b) 18) (use_here o (here_record b))
      (uses_from (o + (4 + length (here_record b).content)) (records_in rest)) (ne_eqb (kind_of b) 7 e)
      ∙ ap (λ (k : ℕ). uses_at o (here_record b) ++ uses_from (o + k) (records_in rest)) (sym size)

  pub uses_step : (n : ℕ) (old new total : List Use) → kind_of b ≢ 7 → n ≡ 4 + length (here_record b).content
      → old ++ uses_from o (records_in b) ≡ total → new ≡ old ++ uses_at o (here_record b)
      → new ++ uses_from (o + n) (records_in rest) ≡ total
  uses_step n old new total e size same add =
      ap (λ (x : List Use). x ++ uses_from (o + n) (records_in rest)) add
      ∙ append_assoc old (uses_at o (here_record b)) (uses_from (o + n) (records_in rest))
      ∙ ap (λ (x : List Use). old ++ x) (sym (uses_on n e size)) ∙ same

pub uses_end : (o : ℕ) (b : List ℕ) (us total : List Use) → length b ≡ 0 → us ++ uses_from o (records_in b) ≡ total
    → us ≡ total
uses_end o b us total e same = sym (append-nil us) ∙ ap (λ (x : List Record). us ++ uses_from o x)
    (sym (none_left b e)) ∙ same

pub uses_end_at : (o : ℕ) (b : List ℕ) (us total : List Use) → IsSpelled b → 0 < length b → kind_of b ≡ 7
    → us ++ uses_from o (records_in b) ≡ total → us ≡ total
uses_end_at o b us total s h e same = sym (append-nil us) ∙ ap (λ (x : List Use). us ++ x)
    (sym (uses_stop o b (drop (length_of b) b) (goes b (drop (length_of b) b) s h refl) e)) ∙ same

-- ---- structures

abbrev outline_turn : Bool → Outline → List Outline → List Outline
outline_turn z s ss = elim z as (λ (x : Bool). List Outline) [ true ↦ s ∷ ss | false ↦ ss ]

outline_not : (z : Bool) (s : Outline) (ss : List Outline) → z ≡ false → outline_turn z s ss ≡ ss
outline_not true s ss e = absurd cc
outline_not false s ss e = refl

module _ (o : ℕ) (b rest : List ℕ) (g : Goes b rest) where
  abbrev outline_from : ℕ → Outline
  outline_from n = record { place = o; name = name_of (records_in rest); uses = uses_from (o + n) (records_in rest) }

  turn_of : (n : ℕ) → n ≡ 4 + length (here_record b).content
      → outlines o (records_in b) ≡ outline_turn (eqb (kind_of b) 5) (outline_from n)
      (outlines (o + n) (records_in rest))
  turn_of n size =
      ap (λ (x : List Record). outlines o x) g.records
      ∙ ap (λ (k : ℕ). outline_turn (eqb (kind_of b) 5) (outline_from k) (outlines (o + k) (records_in rest)))
      (sym size)

  pub outlines_skip : (n : ℕ) (found total : List Outline) → kind_of b ≢ 5 → n ≡ 4 + length (here_record b).content
      → found ++ outlines o (records_in b) ≡ total → found ++ outlines (o + n) (records_in rest) ≡ total
  outlines_skip n found total e size same =
      ap (λ (x : List Outline). found ++ x)
      (sym (turn_of n size ∙ outline_not (eqb (kind_of b) 5) (outline_from n) (outlines (o + n) (records_in rest))
      (ne_eqb (kind_of b) 5 e))) ∙ same

pub outlines_end : (o : ℕ) (b : List ℕ) (ss total : List Outline) → length b ≡ 0
    → ss ++ outlines o (records_in b) ≡ total → ss ≡ total
outlines_end o b ss total e same = sym (append-nil ss) ∙ ap (λ (x : List Record). ss ++ outlines o x)
    (sym (none_left b e)) ∙ same

-- ---- the end

end_turn : (z : Bool) (o p : ℕ) → z ≡ true → (elim z as (λ (x : Bool). ℕ) [ true ↦ o | false ↦ p ]) ≡ o
end_turn true o p e = refl
end_turn false o p e = absurd cc

end_later : (z : Bool) (o p : ℕ) → z ≡ false → (elim z as (λ (x : Bool). ℕ) [ true ↦ o | false ↦ p ]) ≡ p
end_later true o p e = absurd cc
end_later false o p e = refl

pub end_here : (o : ℕ) (b : List ℕ) (total : ℕ) → IsSpelled b → 0 < length b → kind_of b ≡ 4
    → last_place o (records_in b) ≡ total → o ≡ total
end_here o b total s h e same =
    let g = goes b (drop (length_of b) b) s h refl in
    sym (ap (λ (x : List Record). last_place o x) g.records
    ∙ end_turn (eqb (kind_of b) 4) o
    (last_place (o + (4 + length (here_record b).content)) (records_in (drop (length_of b) b)))
    (eq-eqb (kind_of b) 4 e)) ∙ same

pub end_on : (o : ℕ) (b rest : List ℕ) (n total : ℕ) → Goes b rest → kind_of b ≢ 4
    → n ≡ 4 + length (here_record b).content → last_place o (records_in b) ≡ total
    → last_place (o + n) (records_in rest) ≡ total
end_on o b rest n total g e size same =
    ap (λ (k : ℕ). last_place (o + k) (records_in rest)) size
    ∙ sym (ap (λ (x : List Record). last_place o x) g.records
    ∙ end_later (eqb (kind_of b) 4) o (last_place (o + (4 + length (here_record b).content)) (records_in rest))
    (ne_eqb (kind_of b) 4 e)) ∙ same

pub end_none : (o : ℕ) (b : List ℕ) (total : ℕ) → length b ≡ 0 → last_place o (records_in b) ≡ total → o ≡ total
end_none o b total e same = ap (λ (x : List Record). last_place o x) (sym (none_left b e)) ∙ same

-- ---- structures by what follows their first records

pub starts_end : {A : Type 0} (f : List Record → A) (b : List ℕ) (ss total : List A) → length b ≡ 0
    → ss ++ map f (starts (records_in b)) ≡ total → ss ≡ total
starts_end {A} f b ss total e same = sym (append-nil ss) ∙ ap (λ (x : List Record). ss ++ map f (starts x))
    (sym (none_left b e)) ∙ same
