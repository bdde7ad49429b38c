use Rattle.std.proofs.Common.{ℕ, ◌≡◌, List, ◌∷◌, length, drop, sym, subst, arith}
use Rattle.std.proofs.lemmas.Grind.{common_steps}
use Rattle.aq_base.specs.Honest.{Honest}
use Rattle.aq_base.specs.History.{Event, load_event}
use Rattle.aq_base.specs.Disks.{acts_of}
use Rattle.aq_base.proofs.Acting.{honest-next}
use Rattle.aq_base.proofs.std_store.StdFilesFiles.load.Goals as goal

pub invariant_of-self : goal.invariant_of-self
invariant_of-self g c =
    let bytes : List ℕ = drop (length c.args.into.now.items) c.load_file-answer.new.into.items in
    let event : Event = load_event c.args.name.now bytes c.load_file-answer.result in
    let heard : c.loaded.new.self.events ≡ event ∷ c.args.self.now.history.events = grind (arith, common_steps) in
    record {
      honest = subst (λ (events : List Event). ∥ Honest (acts_of c.load_file-answer.new.disk) events ∥₁) (sym heard)
          (honest-next event (acts_of c.args.self.now.disk) (acts_of c.load_file-answer.new.disk)
          c.args.self.now.history.events c.load_file-answer.ensures.calls c.args.self.now.honest);
    }
