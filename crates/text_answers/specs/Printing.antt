-- Printing: how it may end; and through a page, where text that is not put yet waits.
use Rattle.std.specs.Prelude.{◌≡◌, ◌≤◌, ◌⊎◌, ℕ, ◌++◌, List, length, take}
use Rattle.aq_base.specs.declared.store.StoreRefusal.{StoreRefusal}
use Rattle.aq_base.specs.declared.store.StoreRefusal.TheVariants as store
use Rattle.aq_base.specs.Output.{Output, printed, stopped}

-- printing ended there for this reason: the sink took no more; or memory was refused before the sink was asked
abbrev pub Halts : StoreRefusal → Output → Output → Type 0
Halts store.Failed o o' = o' ≡ stopped store.Failed o
Halts store.Memory o o' = (o' ≡ o) ⊎ (o' ≡ stopped store.Memory o)

-- the sink took some first bytes of the text, and printing ended there
pub record PrintsWithin (o o' : Output) (text : List ℕ) (why : StoreRefusal) : Type 0 where
  pub count : ℕ
  pub within : count ≤ length text
  pub halts : Halts why (printed (take count text) o) o'

-- of a text a first part has been put, and the rest stands on the page
pub record IsPrinted (before now : Output) (page text : List ℕ) : Type 0 where
  pub put : List ℕ
  pub gain : now ≡ printed put before
  pub text_is : text ≡ put ++ page

-- the page may have been put: whatever text was printed so far still is
abbrev pub PutsPage : Output → Output → List ℕ → List ℕ → Type 0
PutsPage old new page left = (before : Output) (text : List ℕ) → IsPrinted before old page text
    → IsPrinted before new left text

-- some first bytes of the page were put: of whatever text was printed, the sink has taken some first bytes
abbrev pub RefusesPage : Output → Output → List ℕ → StoreRefusal → Type 0
RefusesPage old new page why = (before : Output) (text : List ℕ) → IsPrinted before old page text
    → PrintsWithin before new text why

-- a line is printed: it comes behind whatever text was printed so far
abbrev pub PrintsLine : Output → Output → List ℕ → List ℕ → List ℕ → Type 0
PrintsLine old new page left line = (before : Output) (text : List ℕ) → IsPrinted before old page text
    → IsPrinted before new left (text ++ line)

-- a line is not printed whole: of the text with the line, the sink has taken some first bytes
abbrev pub RefusesLine : Output → Output → List ℕ → List ℕ → StoreRefusal → Type 0
RefusesLine old new page line why = (before : Output) (text : List ℕ) → IsPrinted before old page text
    → PrintsWithin before new (text ++ line) why
