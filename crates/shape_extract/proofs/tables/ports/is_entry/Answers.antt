use Rattle.shape_extract.proofs.PortPins.{entry_read, no_entry_read}
use Rattle.shape_extract.proofs.tables.ports.is_entry.Goals as goal

pub returns-then-shape-eq-INPUT_PIN : goal.returns-then-shape-eq-INPUT_PIN
returns-then-shape-eq-INPUT_PIN c = entry_read c.args.shapes.now c.args.p c.index-shapes-p.result c.requires.within
    c.index-shapes-p.is c.requires.kept c.args.rows.now c.requires.rows c.if-shape-eq-INPUT_PIN.true

pub returns-else-shape-eq-INPUT_PIN : goal.returns-else-shape-eq-INPUT_PIN
returns-else-shape-eq-INPUT_PIN c = no_entry_read c.args.shapes.now c.args.p c.index-shapes-p.result c.requires.within
    c.index-shapes-p.is c.if-shape-eq-INPUT_PIN.false
