use Rattle.std.proofs.Common.{rules, ◌≡◌, List, Result, Ok, Err, if◌then◌else◌}
use Rattle.std.specs.Prelude.{ℕ, OnOk, OnErr, is_ok}
use Rattle.aq_base.proofs.HeldFiles.{held_grown, held_same, held_absent}
use Rattle.aq_base.proofs.memory_files.grow_file.Goals as goal

grown_on_ok : {E P : Type 0} (r : Result (Unit {0}) E) {now : List ℕ} (grown same : List ℕ)
    → now ≡ (if is_ok r then grown else same) → (now ≡ grown → P) → OnOk r P
grown_on_ok (Ok _) grown same e p = p e
grown_on_ok (Err _) grown same e p = tt

same_on_err : {E P : Type 0} (r : Result (Unit {0}) E) {now : List ℕ} (grown same : List ℕ)
    → now ≡ (if is_ok r then grown else same) → (now ≡ same → P) → OnErr r P
same_on_err (Ok _) grown same e p = tt
same_on_err (Err _) grown same e p = p e

pub returns-in-Some-clause-ok : goal.returns-in-Some-clause-ok
returns-in-Some-clause-ok c =
    grown_on_ok c.extend_from_slice.result _ _ c.extend_from_slice.ensures.items
    (held_grown c.args.name.now c.args.files.now
    (c.get_mut.follows.lender c.extend_from_slice.new.self) c.in-Some.bytes.now c.extend_from_slice.new.self
    c.args.piece.now ((c.get_mut.follows.holds c.extend_from_slice.new.self).3
    (search rules)) c.in-Some.ensures.value)

pub returns-in-Some-clause-err : goal.returns-in-Some-clause-err
returns-in-Some-clause-err c =
    same_on_err c.extend_from_slice.result _ _ c.extend_from_slice.ensures.items
    (held_same c.args.name.now c.args.files.now
    (c.get_mut.follows.lender c.extend_from_slice.new.self) c.in-Some.bytes.now c.extend_from_slice.new.self
    ((c.get_mut.follows.holds c.extend_from_slice.new.self).3 (search rules)) c.in-Some.ensures.value)

pub returns-in-None-clause-ok : goal.returns-in-None-clause-ok
returns-in-None-clause-ok c = held_absent c.args.name.now c.args.files.now c.get_mut.follows.lender-at-none
    c.args.piece.now c.get_mut.follows.holds-at-none c.in-None.ensures.value
