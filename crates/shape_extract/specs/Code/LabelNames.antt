-- Names of labels, a letter and a number, as places of one table: those of the inputs first, then those of the outputs.
use Rattle.std.specs.Prelude.{◌≡◌, ℕ, ◌+◌, ◌<◌, ◌≤◌, ◌⊎◌, ◌==◌, Bool, true, false, List}
use Rattle.std.specs.Prelude.{slice_index, slice_index_or, slice_set, if◌then◌else◌}
use Rattle.geom.specs.declared.shapes.Label.{Label}
use Rattle.layout_rules.specs.Labels.{letter_i, number_of_label}

-- how many names the label's letter has, where so many pins are entries and so many are exits
abbrev pub name_count : ℕ → ℕ → Label → ℕ
name_count entries exits label = (if slice_index label.text 0 == letter_i then entries else exits)

-- the place of the label's name
abbrev pub name_place : ℕ → Label → ℕ
name_place entries label =
    (if slice_index label.text 0 == letter_i then number_of_label label else entries + number_of_label label)

-- the place of a name is taken
abbrev pub is_seen : List Bool → ℕ → Bool
is_seen seen place = slice_index_or seen place false

-- the name has a place, which was free and now is not
pub record IsTaken (entries exits : ℕ) (label : Label) (seen new : List Bool) : Type 0 where
  pub fits : number_of_label label < name_count entries exits label
  pub free : is_seen seen (name_place entries label) ≡ false
  pub new_is : new ≡ slice_set seen (name_place entries label) true

-- the name has no place, or one that is taken
pub record IsRefused (entries exits : ℕ) (label : Label) (seen new : List Bool) : Type 0 where
  pub wrong : (name_count entries exits label ≤ number_of_label label)
      ⊎ (is_seen seen (name_place entries label) ≡ true)
  pub same : new ≡ seen

-- the answer says whether the name had a place that was free
abbrev pub Takes : Bool → ℕ → ℕ → Label → List Bool → List Bool → Type 0
Takes true entries exits label seen new = IsTaken entries exits label seen new
Takes false entries exits label seen new = IsRefused entries exits label seen new
