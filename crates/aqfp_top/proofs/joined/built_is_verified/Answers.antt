use Rattle.std.proofs.Common.{◌≤◌, subst, sym}
use Rattle.layout_make.specs.Size.{element_number}
use Rattle.rowed.specs.Limits.{element_limit}
use Rattle.aqfp_top.proofs.Joining.{Laws, verified}
use Rattle.aqfp_top.proofs.joined.built_is_verified.Goals as goal

pub returns-clause-verified : goal.returns-clause-verified
returns-clause-verified c lib text net chip cells says is words =
    let laws : Laws = record {
      writable = c.drawing_laws.ensures.writable;
      stream = c.written_is_read.ensures;
      realised = c.drawn_chip_realises.ensures.chip;
      one_layout = c.one_layout.ensures;
      is_wide = c.strict_reading_is_wide.ensures.stream;
      same_flat = c.strict_reading_is_wide.ensures.flat;
      one_wide = c.one_wide_reading.ensures.layout;
      one_circuit = c.one_circuit.ensures;
      shown = c.answers_are_shown.ensures.shown;
      enough = c.clocks_are_enough.ensures;
      shown_once = c.shown_once.ensures;
    } in
    verified laws net chip cells is lib text says words

pub returns-clause-of_plan : goal.returns-clause-of_plan
returns-clause-of_plan c net_text lib net cells short says limits =
    let lawful = c.each_library.ensures lib cells says.lib_says in
    let keeps = c.each_design.ensures.keeps net_text net short says.net_says in
    record {
      keeps = keeps;
      lawful = lawful;
      draws = c.plan_laws.ensures.draws cells net lawful keeps limits.within;
      answers = c.plan_laws.ensures.answers cells net lawful keeps limits.within;
      small = limits.small;
    }

pub returns-clause-of_cells : goal.returns-clause-of_cells
returns-clause-of_cells c net_text lib net chip cells short says is =
    let lawful = c.each_library.ensures lib cells says.lib_says in
    let keeps = c.each_design.ensures.keeps net_text net short says.net_says in
    record {
      keeps = keeps;
      lawful = lawful;
      draws = c.cell_plan_laws.ensures.draws cells net chip lawful keeps is;
      answers = c.cell_plan_laws.ensures.answers cells net chip lawful keeps is;
      small = subst (λ p. element_number p ≤ element_limit) (sym is.is_chip) is.within.few_elements;
    }
