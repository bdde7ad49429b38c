use Rattle.std.proofs.Common.{◌≡◌, List, ◌∷◌, take, sym, subst, arith}
use Rattle.std.proofs.lemmas.Grind.{common_steps}
use Rattle.aq_base.specs.declared.store.StoreRefusal.TheVariants as store
use Rattle.aq_base.specs.Honest.{Honest}
use Rattle.aq_base.specs.History.{Event, NotAppended, took}
use Rattle.aq_base.specs.Disks.{acts_of}
use Rattle.aq_base.proofs.Acting.{honest-cut}
use Rattle.aq_base.proofs.std_store.StdFilesFiles.append.Goals as goal

pub invariant_of-self-in-Err : goal.invariant_of-self-in-Err
invariant_of-self-in-Err g c =
    let heard : c.not_appended.new.self.events
    ≡ NotAppended store.Failed ∷ took (take c.in-Err.count c.args.piece.now) c.args.self.now.history.events =
    grind (arith, common_steps) in
    record {
      honest = subst (λ (events : List Event). ∥ Honest (acts_of c.write_piece.new.disk) events ∥₁) (sym heard)
          (honest-cut store.Failed c.args.piece.now c.in-Err.count (acts_of c.args.self.now.disk)
          (acts_of c.write_piece.new.disk) c.args.self.now.history.events c.in-Err.ensures.part c.args.self.now.honest);
    }
