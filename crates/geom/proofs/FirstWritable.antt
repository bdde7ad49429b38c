-- The first chip can be written.
use Rattle.std.proofs.Common.{◌≡◌, ◌≢◌, ℕ, zero, suc, ◌<◌, ◌^◌, List, [], ◌∷◌, length, Bool, true, false, lit<, lit≤}
use Rattle.std.proofs.Common.{refl, arith, T, ltb, leb, eqb, ◌||◌, All, AllPairs, int_lt}
use Rattle.std.specs.List.{AllByRecursion}
use Rattle.std.specs.Int.Signed.{mag}
use Rattle.std.proofs.Math.Facts.{sfits_lit}
use Rattle.std.proofs.lemmas.Bool.Decides.{nat_tests}
use Rattle.geom.specs.FlatForm.{elements_at}
use Rattle.geom.specs.Writable.{IsWritableText, IsWritableShape, IsWritableElement, IsWritableStructure, IsWritable}
use Rattle.geom.specs.Writable.{is_referenced, holds_reference}
use Rattle.geom.specs.declared.shapes.Shape.{Shape}
use Rattle.geom.specs.FirstChip.{first_layout, first_buffer, first_top}

all_of : {X : Type 0} (P : X → Type 0) (xs : List X) → AllByRecursion P xs → All P xs
all_of P [] all k d h = absurd (omega arith)
all_of P (x ∷ xs) all zero d h = all.0
all_of P (x ∷ xs) all (suc k) d h = all_of P xs all.1 k d (omega arith)

text_of : (t : List ℕ) → T (ltb 0 (length t)) → T (leb (length t) 512)
    → AllByRecursion (λ b. 0 < b) t → IsWritableText t
text_of t p q all = record { some = lit< p; short = lit≤ q; without_zeros = all_of (λ b. 0 < b) t all }

-- a shape, by tests that compute
a_shape : (s : Shape) → T (ltb s.layer (2 ^ 16)) → T (ltb s.datatype (2 ^ 16)) → T (int_lt s.rect.x0 s.rect.x1)
    → T (int_lt s.rect.y0 s.rect.y1)
    → T (ltb (mag s.rect.x0) (2 ^ 31)) → T (ltb (mag s.rect.y0) (2 ^ 31)) → T (ltb (mag s.rect.x1) (2 ^ 31))
    → T (ltb (mag s.rect.y1) (2 ^ 31)) → IsWritableShape s
a_shape s a b c d e f g h = record {
  layer = lit< a;
  datatype = lit< b;
  proper = record { wide = record { lt = c }; high = record { lt = d } };
  left = sfits_lit e;
  bottom = sfits_lit f;
  right = sfits_lit g;
  above = sfits_lit h;
}

buffer_is : IsWritableStructure 2 first_buffer
unfolding first_buffer
buffer_is = record {
  name = text_of _ tt tt (lit< tt, (lit< tt, (lit< tt, tt)));
  elements = all_of (IsWritableElement 2) first_buffer.elements
      (a_shape _ tt tt tt tt tt tt tt tt, (a_shape _ tt tt tt tt tt tt tt tt, (a_shape _ tt tt tt tt tt tt tt tt, tt)));
}

top_is : IsWritableStructure 2 first_top
unfolding first_top
top_is = record {
  name = text_of _ tt tt (lit< tt, (lit< tt, (lit< tt, tt)));
  elements = all_of (IsWritableElement 2) first_top.elements (
    (lit< tt, sfits_lit tt, sfits_lit tt),
    (
      a_shape _ tt tt tt tt tt tt tt tt,
      (
        a_shape _ tt tt tt tt tt tt tt tt,
        (
          a_shape _ tt tt tt tt tt tt tt tt,
          (
            a_shape _ tt tt tt tt tt tt tt tt,
            (
              a_shape _ tt tt tt tt tt tt tt tt,
              (
                a_shape _ tt tt tt tt tt tt tt tt,
                (
                  a_shape _ tt tt tt tt tt tt tt tt,
                  (
                    (lit< tt, sfits_lit tt, sfits_lit tt),
                    (
                      a_shape _ tt tt tt tt tt tt tt tt,
                      (
                        a_shape _ tt tt tt tt tt tt tt tt,
                        (
                          record {
                            layer = lit< tt;
                            x = sfits_lit tt;
                            y = sfits_lit tt;
                            written = text_of _ tt tt (lit< tt, (lit< tt, tt));
                          },
                          (
                            record {
                              layer = lit< tt;
                              x = sfits_lit tt;
                              y = sfits_lit tt;
                              written = text_of _ tt tt (lit< tt, (lit< tt, tt));
                            },
                            tt,
                          ),
                        ),
                      ),
                    ),
                  ),
                ),
              ),
            ),
          ),
        ),
      ),
    ),
  );
}

apart : (a b : ℕ) (x y : List ℕ) → T (ltb a b) → a ∷ x ≡ b ∷ y → ⊥
apart a b x y h e = let f : a ≡ b = cc in let g : a < b = lit< h in omega arith

two_names : AllPairs (λ a b. a ≢ b) (first_buffer.name ∷ first_top.name ∷ [])
unfolding first_buffer first_top
two_names zero zero d h k e = absurd (omega arith)
two_names zero (suc zero) d h k e = apart 66 84 _ _ tt e
two_names zero (suc (suc j)) d h k e = absurd (omega arith)
two_names (suc i) zero d h k e = absurd (omega arith)
two_names (suc i) (suc zero) d h k e = absurd (omega arith)
two_names (suc i) (suc (suc j)) d h k e = absurd (omega arith)

not_zero : (n : ℕ) → eqb 0 (suc n) ≡ false
not_zero n = grind (arith, nat_tests)

some_true : (t : Bool) → ((t || (t || false)) || false) ≡ true → t ≡ true
some_true true e = refl
some_true false e = absurd cc

holds_none : (n : ℕ) → is_referenced n (first_buffer ∷ first_top ∷ []) ≡ true
    → holds_reference (elements_at (first_buffer ∷ first_top ∷ []) n) ≡ false
unfolding first_buffer first_top
holds_none zero e = refl
holds_none (suc n) e = absurd (let f = some_true (eqb 0 (suc n)) e in let g = not_zero n in cc)

used : (n : ℕ) → n < 2 → n ≢ 1 → is_referenced n (first_buffer ∷ first_top ∷ []) ≡ true
unfolding first_buffer first_top
used zero h k = refl
used (suc zero) h k = absurd (k refl)
used (suc (suc n)) h k = absurd (omega arith)

top_free : is_referenced 1 (first_buffer ∷ first_top ∷ []) ≡ false
unfolding first_buffer first_top
top_free = refl

pub first_is_writable : IsWritable first_layout
unfolding first_layout
first_is_writable = record {
  each = all_of (IsWritableStructure 2) (first_buffer ∷ first_top ∷ []) (buffer_is, (top_is, tt));
  distinct = two_names;
  shallow = holds_none;
  top_stands = lit< tt;
  top_is_free = top_free;
  others_are_used = used;
}
