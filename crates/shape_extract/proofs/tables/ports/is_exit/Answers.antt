use Rattle.shape_extract.proofs.PortPins.{exit_read, no_exit_read}
use Rattle.shape_extract.proofs.tables.ports.is_exit.Goals as goal

pub returns-then-shape-eq-OUTPUT_PIN : goal.returns-then-shape-eq-OUTPUT_PIN
returns-then-shape-eq-OUTPUT_PIN c = exit_read c.args.shapes.now c.args.p c.index-shapes-p.result c.requires.within
    c.index-shapes-p.is c.requires.kept c.args.rows.now c.requires.rows c.args.last c.requires.last
    c.if-shape-eq-OUTPUT_PIN.true

pub returns-else-shape-eq-OUTPUT_PIN : goal.returns-else-shape-eq-OUTPUT_PIN
returns-else-shape-eq-OUTPUT_PIN c = no_exit_read c.args.shapes.now c.args.p c.index-shapes-p.result c.requires.within
    c.index-shapes-p.is c.if-shape-eq-OUTPUT_PIN.false
