-- What is flattened, as the code has it.
use Rattle.std.specs.Prelude.{length}
use Rattle.poly_cut.specs.declared.flat.Flattening.{Flattening}
use Rattle.poly_cut.specs.Conditions.{AreItems}
use Rattle.poly_cut.specs.Code.Holding.{MarksAll}
use Rattle.poly_cut.specs.Code.Readied.{IsTable}

-- the items are as they may be, and the marks and the table are those of the structures
pub record IsFlattening (f : Flattening) : Type 0 where
  pub items : AreItems (length f.structures.now) f.structures.now
  pub marks : MarksAll f.structures.now f.marks.now
  pub table : IsTable f.structures.now f.table.now
