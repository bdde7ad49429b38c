-- One answer is due of the texts of a command, and it comes.
use Rattle.std.proofs.Common.{◌≡◌, List, [], ◌∷◌, Option, Some, None, inl, inr, refl, ap}
use Rattle.aqfp_top.specs.Stages.{Stage, Finds, FindsNone, IsFirst, IsFormFault, Answers}
use Rattle.aqfp_top.specs.Due.{IsDueOrYields}
use Rattle.aqfp_top.specs.declared.fault.Fault.{Fault}
use Rattle.aqfp_top.specs.declared.fault.Fault.TheVariants.{Usage, Absent, TooLong, ReadFault, WriteFault, BadBlif}
use Rattle.aqfp_top.specs.declared.fault.Fault.TheVariants.{BadDesign, BadLibrary, MissingCell, TooLarge, BadStream}
use Rattle.aqfp_top.specs.declared.fault.Fault.TheVariants.{RuleBroken, BadWords, Widths, NoShape, NotCells, Memory}

-- words without a form have one fault
pub one_form_fault : (f g : Fault) → IsFormFault f → IsFormFault g → f ≡ g
one_form_fault Usage Usage p q = refl
one_form_fault Usage _ p q = absurd q
one_form_fault _ g p q = absurd p

-- some answer is first

first_after : (s : Stage) (stages : List Stage) (answer : Option Fault) → FindsNone s → IsFirst stages answer
    → IsFirst (s ∷ stages) answer
first_after s stages None none first = (none, first)
first_after s stages (Some fault) none first = inr (none, first)

pub some_first : (stages : List Stage) → ((answer : Option Fault) → ¬ IsFirst stages answer) → ⊥
some_first [] never = never None tt
some_first (s ∷ stages) never =
    let none : FindsNone s = λ fault found. never (Some fault) (inl found) in
    some_first stages (λ answer first. never answer (first_after s stages answer none first))

-- where each stage finds one fault, one answer is first
module _ (once : (stage : Stage) (f g : Fault) → Finds stage f → Finds stage g → f ≡ g) where
  pub first_once : (stages : List Stage) (a b : Option Fault) → IsFirst stages a → IsFirst stages b → a ≡ b
  first_once [] None None p q = refl
  first_once [] None (Some g) p q = absurd q
  first_once [] (Some f) b p q = absurd p
  first_once (s ∷ stages) None None p q = refl
  first_once (s ∷ stages) None (Some g) p (inl found) = absurd (p.0 g found)
  first_once (s ∷ stages) None (Some g) p (inr q) = first_once stages None (Some g) p.1 q.1
  first_once (s ∷ stages) (Some f) None (inl found) q = absurd (q.0 f found)
  first_once (s ∷ stages) (Some f) None (inr p) q = first_once stages (Some f) None p.1 q.1
  first_once (s ∷ stages) (Some f) (Some g) (inl x) (inl y) = ap Some (once s f g x y)
  first_once (s ∷ stages) (Some f) (Some g) (inl x) (inr q) = absurd (q.0 f x)
  first_once (s ∷ stages) (Some f) (Some g) (inr p) (inl y) = absurd (p.0 g y)
  first_once (s ∷ stages) (Some f) (Some g) (inr p) (inr q) = first_once stages (Some f) (Some g) p.1 q.1

  pub first_comes : (stages : List Stage) (due answer : Option Fault) → IsFirst stages due → Answers stages answer
      → IsDueOrYields stages due answer
  first_comes stages due None p q = first_once stages None due q p
  first_comes stages due (Some Usage) p q = first_once stages (Some Usage) due q p
  first_comes stages due (Some (Absent place)) p q = first_once stages (Some (Absent place)) due q p
  first_comes stages due (Some (TooLong place taken)) p q = first_once stages (Some (TooLong place taken)) due q p
  first_comes stages due (Some (ReadFault place)) p q = absurd q
  first_comes stages due (Some (WriteFault call)) p q = first_once stages due None p q
  first_comes stages due (Some (BadBlif fault)) p q = first_once stages (Some (BadBlif fault)) due q p
  first_comes stages due (Some (BadDesign line kind)) p q = first_once stages (Some (BadDesign line kind)) due q p
  first_comes stages due (Some (BadLibrary fault)) p q = first_once stages (Some (BadLibrary fault)) due q p
  first_comes stages due (Some (MissingCell kind)) p q = first_once stages (Some (MissingCell kind)) due q p
  first_comes stages due (Some (TooLarge what count)) p (inl q) =
      inl (first_once stages (Some (TooLarge what count)) due q p)
  first_comes stages due (Some (TooLarge what count)) p (inr q) = inr (first_once stages due None p q.0, q.1)
  first_comes stages due (Some (BadStream offset kind)) p q = first_once stages (Some (BadStream offset kind)) due q p
  first_comes stages due (Some (RuleBroken rule a b)) p q = first_once stages (Some (RuleBroken rule a b)) due q p
  first_comes stages due (Some (BadWords line)) p q = first_once stages (Some (BadWords line)) due q p
  first_comes stages due (Some (Widths a b c d)) p q = first_once stages (Some (Widths a b c d)) due q p
  first_comes stages due (Some (NoShape number count)) p q = first_once stages (Some (NoShape number count)) due q p
  first_comes stages due (Some (NotCells line kind)) p q = first_once stages (Some (NotCells line kind)) due q p
  first_comes stages due (Some Memory) p q = tt
