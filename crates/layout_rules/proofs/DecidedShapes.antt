-- Whether a shape passes a test, or two do together, is decided.
use Rattle.std.proofs.Common.{◌≡◌, ℕ, ◌<◌, Bool, true, List, length, Some, slice_get}
use Rattle.std.proofs.lemmas.Option.{slice_get_within}
use Rattle.geom.specs.declared.shapes.Shape.{Shape}
use Rattle.layout_rules.specs.Reports.{Passes, PassTogether}
use Rattle.layout_rules.proofs.Deciding.{dec_same, dec_true, dec_item, dec_about}

abbrev pub dec_passes : (test : Shape → Bool) (shapes : List Shape) (n : ℕ) → Dec (Passes test shapes n)
dec_passes test shapes n = dec_same
    (λ h. record { shape = h.0; shape_is = h.1; passes_so = h.2 }) (λ p. (p.shape, p.shape_is, p.passes_so))
    (dec_item shapes n (λ s. test s ≡ true) (λ s is. dec_true (test s)))

-- and so is what is said further of that shape
abbrev pub dec_passes_with : (test : Shape → Bool) (shapes : List Shape) (n : ℕ) (Q : Shape → Type 0)
    → ((s : Shape) → Dec (Q s)) → Dec ((passes : Passes test shapes n) × Q passes.shape)
dec_passes_with test shapes n =
    dec_about shapes (Passes test shapes n) n (λ p. p.shape) (λ p. p.shape_is) (dec_passes test shapes n)

pub passes_within : (test : Shape → Bool) (shapes : List Shape) (n : ℕ) → Passes test shapes n → n < length shapes
passes_within test shapes n p = slice_get_within shapes n p.shape p.shape_is

abbrev pub dec_together : (test : Shape → Shape → Bool) (shapes : List Shape) (a b : ℕ)
    → Dec (PassTogether test shapes a b)
dec_together test shapes a b = dec_same
    (λ h. record { first = h.0; first_is = h.1; second = h.2.0; second_is = h.2.1; passes_so = h.2.2 })
    (λ p. (p.first, p.first_is, (p.second, p.second_is, p.passes_so)))
    (dec_item shapes a (λ s. (t : Shape) × (slice_get shapes b ≡ Some t) × (test s t ≡ true))
    (λ s is. dec_item shapes b (λ t. test s t ≡ true) (λ t there. dec_true (test s t))))

pub together_within : (test : Shape → Shape → Bool) (shapes : List Shape) (a b : ℕ) → PassTogether test shapes a b
    → (a < length shapes) × (b < length shapes)
together_within test shapes a b p =
    (slice_get_within shapes a p.first p.first_is, slice_get_within shapes b p.second p.second_is)
