use Rattle.std.proofs.Common.{List, ℕ, Bor, ap, ◌∙◌}
use Rattle.gds_read.specs.Code.Texts.{texts}
use Rattle.gds_read.proofs.Named.{inserted}
use Rattle.gds_read.proofs.names.add.Goals as goal

pub returns : goal.returns
returns c = ap (λ (ks : List (Bor (List ℕ))). texts ks) c.in_ok-insert_full.ensures.keys
    ∙ inserted c.args.names.now.keys c.args.name
