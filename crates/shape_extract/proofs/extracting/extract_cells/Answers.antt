use Rattle.shape_extract.specs.Extracts.{KeepsFive}
use Rattle.shape_extract.proofs.FiveRules.{all_kept, none_found}
use Rattle.shape_extract.proofs.extracting.extract_cells.Goals as goal

pub returns-clause-circuit : goal.returns-clause-circuit
returns-clause-circuit c =
    let five : KeepsFive c.args.flat.now =
    none_found c.args.flat.now c.in_ok-found.field-0 c.in_ok-found.ensures c.in_default.not-Some in
    record { kept = all_kept c.args.flat.now five; circuit_is = c.in_ok-circuit.ensures }
