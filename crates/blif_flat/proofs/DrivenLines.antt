-- One more signal that is driven, as the program keeps it.
use Rattle.std.proofs.Common.{◌≡◌, ℕ, ◌+◌, ◌<◌, Bool, true, false, cond, List, [], ◌∷◌, ◌++◌, drop, get_or, length}
use Rattle.std.proofs.Common.{Option, Some, Bor, refl, sym, ap, ◌∙◌}
use Rattle.std.specs.List.{flat_map}
use Rattle.std.specs.Str.{bytes_eq}
use Rattle.std.specs.Map.{lookup}
use Rattle.blif_read.specs.declared.models.Named.{Named}
use Rattle.blif_read.specs.Models.{named}
use Rattle.blif_flat.specs.Code.Numbering.{number_in}
use Rattle.blif_flat.specs.Code.Joining.{lower, driven_also, again, drive, drive_all, Driving, least_of}
use Rattle.blif_flat.specs.declared.faults.order.Told.{Told}
use Rattle.blif_flat.proofs.Numbering.{bytes_same}
use Rattle.blif_flat.proofs.Indexes.{drop_item}

line_at : (old : List (Bor (List ℕ) × ℕ)) (name : List ℕ) (line value : ℕ) (q : List ℕ) (b : Bool) → bytes_eq name q ≡ b
    → value ≡ lower (number_in old name) line
    → cond b (Some value) (number_in old q) ≡ cond b (Some (lower (number_in old q) line)) (number_in old q)
line_at old name line value q true e v = ap Some (v ∙ ap (λ x. lower (number_in old x) line) (bytes_same name q e))
line_at old name line value q false e v = refl

lines_driven : (old new : List (Bor (List ℕ) × ℕ)) (name : Bor (List ℕ)) (line value : ℕ)
    → value ≡ lower (number_in old name.now) line
    → ((q : Bor (List ℕ)) → lookup (λ k. bytes_eq q.now k.now) new ≡ cond (bytes_eq name.now q.now) (Some value)
    (lookup (λ k. bytes_eq q.now k.now) old))
    → (q : List ℕ) → number_in new q ≡ driven_also (number_in old) (named line name.now) q
lines_driven old new name line value v updates q = updates (record name { now = q })
    ∙ line_at old name.now line value q (bytes_eq name.now q) refl v

pub driven_one : (old new : List (Bor (List ℕ) × ℕ)) (name : Bor (List ℕ)) (line value : ℕ) (before after : Option Told)
    → value ≡ lower (number_in old name.now) line
    → ((q : Bor (List ℕ)) → lookup (λ k. bytes_eq q.now k.now) new ≡ cond (bytes_eq name.now q.now) (Some value)
    (lookup (λ k. bytes_eq q.now k.now) old))
    → after ≡ least_of before (again (number_in old name.now) line)
    → record { lines = number_in new; told = after } ≡ drive
    (record { lines = number_in old; told = before }) (named line name.now)
driven_one old new name line value before after v updates t =
    λ j. record { lines = λ q. lines_driven old new name line value v updates q j; told = t j }

drive_append : (d : Driving) (xs ys : List Named) → drive_all d (xs ++ ys) ≡ drive_all (drive_all d xs) ys
drive_append d [] ys = refl
drive_append d (x ∷ xs) ys = drive_append (drive d x) xs ys

-- what is driven, one list after another
pub driven_joined : (d first second third : Driving) (xs ys zs : List Named) → first ≡ drive_all d xs
    → second ≡ drive_all first ys → third ≡ drive_all second zs → third ≡ drive_all d ((xs ++ ys) ++ zs)
driven_joined d first second third xs ys zs a b c =
    c ∙ ap (λ x. drive_all x zs) (b ∙ ap (λ x. drive_all x ys) a ∙ sym (drive_append d xs ys))
    ∙ sym (drive_append d (xs ++ ys) zs)

pub driven_step : {X : Type 0} (f : X → List Named) (d next whole : Driving) (xs : List X) (i : ℕ) (x : X)
    → i < length xs → x ≡ get_or xs i x → next ≡ drive_all d (f x)
    → drive_all d (flat_map f (drop i xs)) ≡ whole → drive_all next (flat_map f (drop (i + 1) xs)) ≡ whole
driven_step f d next whole xs i x lt is n w =
    ap (λ o. drive_all o (flat_map f (drop (i + 1) xs))) n ∙ sym (drive_append d (f x) (flat_map f (drop (i + 1) xs)))
    ∙ ap (λ zs. drive_all d (flat_map f zs)) (sym (drop_item xs i x lt is)) ∙ w
