use Rattle.std.proofs.Common.{◌∙◌, sym, ap}
use Rattle.std.specs.List.{position}
use Rattle.std.specs.Str.{bytes_eq}
use Rattle.blif_flat.specs.Code.Indexing.{names_held}
use Rattle.blif_read.proofs.Tokens.{position_seen}
use Rattle.blif_flat.proofs.models.names.Names.number.Goals as goal

pub returns-in-Few : goal.returns-in-Few
returns-in-Few c = c.number_in.ensures
    ∙ ap (position (λ other. bytes_eq c.args.name.now other.now)) c.as_slice.ensures.value
    ∙ sym (position_seen (bytes_eq c.args.name.now) c.in-Few.names.items)
    ∙ ap (position (bytes_eq c.args.name.now)) (ap names_held (sym c.in-Few.is) ∙ c.self.view_is)

pub returns-in-Many : goal.returns-in-Many
returns-in-Many c = c.get_index_of.ensures.index
    ∙ ap (λ t. position (λ k. bytes_eq c.args.name.now k.now) t.keys) c.deref.ensures
    ∙ sym (position_seen (bytes_eq c.args.name.now) c.in-Many.table.value.keys)
    ∙ ap (position (bytes_eq c.args.name.now)) (ap names_held (sym c.in-Many.is) ∙ c.self.view_is)
