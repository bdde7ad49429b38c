-- Tables of links, call by call and model by model.
use Rattle.std.proofs.Common.{◌≡◌, ℕ, ◌+◌, ◌<◌, ◌||◌, true, List, [], ◌∷◌, length, take, get_or, set, reverse, sym, ◌∙◌}
use Rattle.std.proofs.Common.{subst, arith, inl, inr, length-set, get_or-set_other, get_or-set_same}
use Rattle.std.specs.Prelude.{nat_eq}
use Rattle.std.proofs.lemmas.Bool.{cases_Bool, eqb-true, eqb-false}
use Rattle.blif_read.specs.Walk.{on}
use Rattle.blif_read.specs.declared.models.BlifModel.{BlifModel}
use Rattle.blif_flat.specs.declared.models.links.Link.{Link}
use Rattle.blif_flat.specs.Code.Calls.{IsCallOrder}
use Rattle.blif_flat.specs.Code.Linked.{AreLinks, HasLinks}
use Rattle.blif_flat.proofs.Settling.{in_order, next_done}
use Rattle.blif_flat.proofs.Sizing.{at}

-- ---- one model more in the table

has_more : (models : List BlifModel) (done : List ℕ) (table : List (List Link)) (n : ℕ) (links : List Link)
    → HasLinks models done table → n < length models → AreLinks models (at models n).calls links
    → HasLinks models (n ∷ done) (set table n links)
has_more models done table n links has lt are = record {
  size = length-set table n links ∙ has.size;
  held = λ q e. elim (cases_Bool (nat_eq q n)) [
    | inl same ↦
        let here : q ≡ n = eqb-true q n same in
        let small : n < length table = (let s = has.size in omega arith) in
        subst (λ x. AreLinks models (at models x).calls (get_or (set table n links) x [])) (sym here)
        (subst (AreLinks models (at models n).calls) (sym (get_or-set_same table n links [] small)) are)
    | inr other ↦
        subst (AreLinks models (at models q).calls) (sym (get_or-set_other table n q links [] (eqb-false q n other)))
        (has.held q (subst (λ b. b || on done q ≡ true) other e))
  ];
}

module _ (models : List BlifModel) (order : List ℕ) (i : ℕ) (o : IsCallOrder models order) (lt : i < length order) where
  pub small : get_or order i 0 < length models
  small = in_order (λ n. n < length models) order i 0 lt o.bounded

  pub links_next : (table : List (List Link)) (links : List Link) → HasLinks models (reverse (take i order)) table
      → AreLinks models (at models (get_or order i 0)).calls links
      → HasLinks models (reverse (take (i + 1) order)) (set table (get_or order i 0) links)
  links_next table links has are = subst (λ done. HasLinks models done (set table (get_or order i 0) links))
      (sym (next_done order i 0 lt))
      (has_more models (reverse (take i order)) table (get_or order i 0) links has small are)
