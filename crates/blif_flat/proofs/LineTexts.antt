-- The bytes of lines, token by token.
use Rattle.std.proofs.Common.{◌≡◌, ℕ, List, [], ◌∷◌, ◌++◌, ap, ◌∙◌, append_assoc, append-nil, codes}
use Rattle.std.specs.List.{flat_map}
use Rattle.std.proofs.lemmas.List.Concat.{flat_map-append}
use Rattle.circuit_extracted.specs.declared.cells.ExCell.{ExCell}
use Rattle.blif_flat.specs.BlifText.{feed_names, names_of_feeds, cell_name, rows_of, cell_lines, spaced, line_text}

pub spaced-append : (a b : List (List ℕ)) → spaced (a ++ b) ≡ spaced a ++ spaced b
spaced-append a b = flat_map-append (λ token. 32 ∷ token) a b

spaced_feeds : (cell : ExCell) → spaced (names_of_feeds cell) ≡ spaced (feed_names cell.feed0)
    ++ (spaced (feed_names cell.feed1) ++ spaced (feed_names cell.feed2))
spaced_feeds cell =
    spaced-append (feed_names cell.feed0 ++ feed_names cell.feed1) (feed_names cell.feed2)
    ∙ ap (λ x. x ++ spaced (feed_names cell.feed2)) (spaced-append (feed_names cell.feed0) (feed_names cell.feed1))
    ∙ append_assoc (spaced (feed_names cell.feed0)) (spaced (feed_names cell.feed1)) (spaced (feed_names cell.feed2))

in_turn : (n a b c m f r : List ℕ) → (n ++ ((a ++ (b ++ c)) ++ m) ++ f) ++ r ≡ n ++ (a ++ (b ++ (c ++ (m ++ (f ++ r)))))
in_turn n a b c m f r = simp append_assoc

-- the lines of a cell, piece by piece
pub cell_text : (c : ℕ) (cell : ExCell) →
    flat_map line_text (cell_lines c cell)
    ≡ codes ".names" ++ (spaced (feed_names cell.feed0)
    ++ (spaced (feed_names cell.feed1) ++ (spaced (feed_names cell.feed2)
    ++ ((32 ∷ cell_name c) ++ (codes "\n" ++ flat_map line_text (rows_of cell.kind))))))
cell_text c cell =
    let named : spaced (names_of_feeds cell ++ cell_name c ∷ [])
    ≡ (spaced (feed_names cell.feed0) ++ (spaced (feed_names cell.feed1) ++ spaced (feed_names cell.feed2)))
    ++ (32 ∷ cell_name c) =
    spaced-append (names_of_feeds cell) (cell_name c ∷ [])
    ∙ ap (λ x. x ++ spaced (cell_name c ∷ [])) (spaced_feeds cell)
    ∙ ap (λ x. (spaced (feed_names cell.feed0)
    ++ (spaced (feed_names cell.feed1) ++ spaced (feed_names cell.feed2))) ++ x) (append-nil (32 ∷ cell_name c)) in
    ap (λ x. (codes ".names" ++ x ++ codes "\n") ++ flat_map line_text (rows_of cell.kind)) named
    ∙ in_turn (codes ".names") (spaced (feed_names cell.feed0)) (spaced (feed_names cell.feed1))
    (spaced (feed_names cell.feed2)) (32 ∷ cell_name c) (codes "\n") (flat_map line_text (rows_of cell.kind))
