-- How a name is followed to the path at which its draft is to stand, and how the draft is made and ends.
use Rattle.std.specs.Prelude.{ℕ, ◌≡◌, ◌⊎◌, List, ◌∷◌, Bool, true, false, string_bytes}
use Rattle.aq_base.specs.declared.draft.Place.{Place}
use Rattle.aq_base.specs.declared.draft.Place.TheVariants as place
use Rattle.aq_base.specs.declared.acts.Act.TheVariants as act
use Rattle.aq_base.specs.Acts.{Did, Linked, Drafted, Done, Adds}
use Rattle.aq_base.specs.Honest.{is_idle, followed, Led, Closes, FailsToClose, is_closing}

-- a call that changes no file, and reads no link
abbrev pub is_aside : Did → Bool
is_aside (Linked path target) = false
is_aside call = is_idle call

-- one link was read, and this is where it leads
pub record Follows (path next : List ℕ) (before after : List Did) : Type 0 where
  pub target : List ℕ
  pub noted : after ≡ Linked path target ∷ before
  pub leads : next ≡ followed path target

-- a place at this path, or the file itself
abbrev pub IsAt : List ℕ → Place → Type 0
IsAt path place.AsItStands = Unit {0}
IsAt path (place.At stands old) = string_bytes stands ≡ path

-- the place to which a name leads
abbrev pub Finds : List ℕ → List Did → List Did → Place → Type 0
Finds name before after place.AsItStands = Adds is_idle before after
Finds name before after (place.At path old) = Led name before after (string_bytes path)

-- a draft was made for this target
pub record Drafts (target : List ℕ) (before after : List Did) : Type 0 where
  pub tried : List Did
  pub draft : List ℕ
  pub aside : Adds is_aside before tried
  pub made : after ≡ Drafted draft target ∷ tried

-- what was put in its place is named so in its folder
abbrev pub IsNamed : List Did → List Did → Type 0
IsNamed before after = (after ≡ before) ⊎ (after ≡ Done act.SyncFolder ∷ before)

-- this was done by some calls; or only some calls that close a file were made
abbrev pub Tries : (List Did → List Did → Type 0) → Bool → List Did → List Did → Type 0
Tries Does true before after = Does before after
Tries Does false before after = Adds is_closing before after

-- whether a file was closed
abbrev pub Ends : Bool → List Did → List Did → Type 0
Ends true before after = Closes before after
Ends false before after = FailsToClose before after
