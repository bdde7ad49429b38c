-- Where no line of a model has a fault, the covers of its definitions fit them.
use Rattle.std.proofs.Common.{◌≡◌, ℕ, true, not, List, [], ◌∷◌, map, length, Option, Some, None, refl, sym, ap, ◌∙◌}
use Rattle.std.specs.List.{AllByRecursion, list_any}
use Rattle.blif_read.specs.Lines.{Line}
use Rattle.blif_read.specs.Statements.{word, arguments, front_of, truth}
use Rattle.blif_read.specs.Parts.{rows_before_others, plane, says_zero}
use Rattle.blif_read.specs.Faults.{before_of, cover_after, with_row, kind_of, has_shape, line_fault, at_line}
use Rattle.blif_read.specs.Models.{models_fault, named_definition, named_definition_at, named_definitions, model_of}
use Rattle.blif_read.specs.Netlist.{IsPlane}
use Rattle.blif_read.specs.declared.before.Cover.{Cover}
use Rattle.blif_read.specs.declared.words.Statement.{Statement}
use Rattle.blif_read.specs.declared.words.Statement.TheVariants.{Model, Inputs, Outputs, Names, Subckt, End, Passed}
use Rattle.blif_read.specs.declared.words.Statement.TheVariants.{Other, Row}
use Rattle.blif_read.specs.declared.models.NamedDef.{NamedDef}
use Rattle.blif_read.specs.declared.models.BlifModel.{BlifModel}
use Rattle.blif_read.proofs.Closing.{first_of_or}
use Rattle.blif_read.proofs.Distinct.{none_or}
use Rattle.blif_read.proofs.Shapes.{rows_fit, plane_fits}
use Rattle.blif_read.proofs.Within.{all_join}
use Rattle.blif_flat.proofs.Members.{all_mapped, all_weaker}

-- planes that fit a definition, which without planes has `on`
pub record IsCovered (def : NamedDef) : Type 0 where
  pub planes : AllByRecursion (IsPlane (length def.inputs)) def.cubes
  pub empty : length def.cubes ≡ 0 → def.on ≡ true

none_is_on : (rows : List (List (List ℕ))) → length (map plane rows) ≡ 0 → not (list_any says_zero rows) ≡ true
none_is_on [] e = refl
none_is_on (row ∷ rows) e = absurd (cc)

covered : (number : ℕ) (names : List (List ℕ)) (rows : List (List (List ℕ)))
    → AllByRecursion (λ row. has_shape (length (front_of names)) row ≡ true) rows
    → IsCovered (named_definition number names rows)
covered number names rows h = record {
  planes = all_mapped (IsPlane (length (front_of names))) plane rows
      (all_weaker (λ row. has_shape (length (front_of names)) row ≡ true)
      (λ row. IsPlane (length (front_of names)) (plane row)) (plane_fits (length (front_of names))) rows h);
  empty = none_is_on rows;
}

at_word : (w : Statement) (def : NamedDef) → (w ≡ Names → IsCovered def)
    → AllByRecursion IsCovered (elim w as (λ (x : Statement). List NamedDef) [ Names ↦ def ∷ [] | _ ↦ [] ])
at_word Names def h = (h refl, tt)
at_word Model def h = tt
at_word Inputs def h = tt
at_word Outputs def h = tt
at_word Subckt def h = tt
at_word End def h = tt
at_word Passed def h = tt
at_word Other def h = tt
at_word Row def h = tt

-- the cover behind a definition is its own
own_cover : (o : Option Cover) (l : Line) → word l ≡ Names
    → cover_after o l ≡ Some (record { width = length (front_of (arguments l)); first = None })
own_cover o l w = ap (λ x. elim x as (λ (y : Statement). Option Cover) [
  | Names ↦ Some (record { width = length (front_of (arguments l)); first = None })
  | Row ↦ with_row (truth l.tokens) o
  | _ ↦ None
]) w

all_covered : (done lines : List Line) → line_fault true done lines ≡ None
    → AllByRecursion IsCovered (named_definitions lines)
all_covered done [] e = tt
all_covered done (l ∷ ls) e =
    let later = (none_or (at_line l.number (kind_of true done l)) (line_fault true (l ∷ done) ls) e).1 in
    all_join IsCovered (named_definition_at l ls) (named_definitions ls)
    (at_word (word l) (named_definition l.number (arguments l) (rows_before_others ls))
    (λ w. covered l.number (arguments l) (rows_before_others ls)
    (rows_fit true (l ∷ done) ls (record { width = length (front_of (arguments l)); first = None })
    (own_cover (before_of done).cover l w) later)))
    (all_covered (l ∷ done) ls later)

each_sound : (parts : List (List Line)) → models_fault parts ≡ None
    → AllByRecursion (λ part. line_fault true [] part ≡ None) parts
each_sound [] e = tt
each_sound (part ∷ parts) e =
    let both = none_or (line_fault true [] part) (models_fault parts)
    (sym (first_of_or (line_fault true []) part parts) ∙ e) in
    (both.0, each_sound parts both.1)

abbrev pub HasCovers : BlifModel → Type 0
HasCovers model = AllByRecursion IsCovered model.defs

pub covered_models : (parts : List (List Line)) → models_fault parts ≡ None
    → AllByRecursion HasCovers (map model_of parts)
covered_models parts e = all_mapped HasCovers model_of parts
    (all_weaker (λ part. line_fault true [] part ≡ None) (λ part. HasCovers (model_of part)) (all_covered []) parts
    (each_sound parts e))
