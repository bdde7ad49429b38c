-- What is written is a stream of what was drawn.
use Rattle.std.proofs.Common.{◌≡◌, ℕ, ◌<◌, List, [], length, refl, sym, ◌∙◌, arith}
use Rattle.std.proofs.lemmas.List.{append-nil}
use Rattle.geom.specs.declared.layout.Structure.{Structure}
use Rattle.geom.specs.declared.layout.Layout.{Layout}
use Rattle.gds_records.specs.Drawing.{structures_of}
use Rattle.gds_records.specs.Whole.{top_of}
use Rattle.gds_records.specs.Stream.{IsStream}
use Rattle.geom.specs.Writable.{names_in}
use Rattle.gds_records.specs.Writing.{records_of, bytes_of}
use Rattle.gds_records.proofs.Premises.{IsOutlined}
use Rattle.gds_records.proofs.WrittenRead.{says_back, stream_speaks, names_length}
use Rattle.gds_records.proofs.Written.{written_good, distinct_so}
use Rattle.gds_records.proofs.Conditions.{conditions_so, top_so}

made : (l : Layout) (ss : List Structure) (t : ℕ) → l.structures ≡ ss → l.top ≡ t
    → l ≡ record { structures = ss; top = t }
made l ss t a b = rw (← a, ← b) refl

pub written_is_stream : (layout : Layout) → IsOutlined layout → IsStream (bytes_of layout) layout
unfolding bytes_of
written_is_stream layout is =
    let ss = layout.structures in
    let d : (n : ℕ) → n < length (names_in layout.structures)
    → _ = λ n h. is.distinct n (omega (arith, names_length layout.structures)) in
    record {
      records = records_of layout.structures;
      rest = [];
      read = record {
        whole = sym (append-nil (bytes_of layout));
        grammar = stream_speaks layout.structures;
        good = written_good layout.structures is.each (distinct_so (names_in layout.structures) d);
      };
      zeros = refl;
      conditions = conditions_so layout.structures is.each is.conditions;
      says = made layout (structures_of (records_of layout.structures)) (top_of (records_of layout.structures))
          (sym (says_back layout.structures is.each d)) (is.top ∙ top_so layout.structures is.each);
    }
