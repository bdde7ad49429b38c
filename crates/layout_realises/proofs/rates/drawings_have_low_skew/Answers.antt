use Rattle.std.proofs.Common.{◌≡◌, sym, subst}
use Rattle.cell_library.specs.Library.{limits_of}
use Rattle.layout_rules.specs.declared.rule.Rule.TheVariants.{E1, E2, E6}
use Rattle.circuit_extracted.specs.Circuits.{KeepsFacts}
use Rattle.layout_make.proofs.Wiring.{flat}
use Rattle.layout_realises.proofs.Realised.{CrateLaws, circuit, drawn, keeps}
use Rattle.layout_realises.proofs.SkewBound.{WayLaws, at_most}
use Rattle.layout_realises.proofs.rates.drawings_have_low_skew.Goals as goal

pub returns : goal.returns
returns c p l chip skew may few is of =
    let law : CrateLaws p l = record {
      tracks = c.tracks_are_fewest.ensures.plan;
      rules = c.drawing_laws.ensures.rules p l may;
      cells = c.drawing_laws.ensures.cells p l may;
      size = c.drawing_laws.ensures.size p l may.placed;
      writable = c.drawing_laws.ensures.writable p l may;
      keeps = c.extracted_keeps.ensures;
      answers = c.one_answer.ensures.some;
      by_clocks = c.every_clock.ensures.shows;
    } in
    let ways : WayLaws p l = record {
      cells = λ r n f near far frame at there placed.
          c.drawing_ways.ensures.cells p l r n f near far frame may at there placed;
      rows = λ r lt. c.drawing_ways.ensures.rows p l r lt;
    } in
    let same : chip ≡ circuit p l law may few = c.one_circuit.ensures (flat p l) (limits_of l) chip
    (circuit p l law may few) (law.rules E1) (law.rules E2) (law.rules E6) is
    (drawn p l law may few).circuit_is in
    of.is_skew.least _ (at_most p l law.tracks law.cells ways may chip of.near of.far is of.places
    (subst KeepsFacts (sym same) (keeps p l law may few)))
