use Rattle.std.proofs.Common.{◌∙◌, sym, ap}
use Rattle.std.specs.List.{list_any}
use Rattle.std.specs.Str.{bytes_eq}
use Rattle.blif_read.specs.Parts.{is_defined}
use Rattle.blif_flat.specs.Code.Indexing.{names_held}
use Rattle.blif_read.proofs.Tokens.{any_seen}
use Rattle.blif_flat.proofs.models.names.Names.has.Goals as goal

pub returns-in-Few : goal.returns-in-Few
returns-in-Few c = c.is_in.ensures
    ∙ ap (list_any (λ other. bytes_eq c.args.name.now other.now)) c.as_slice.ensures.value
    ∙ sym (any_seen (bytes_eq c.args.name.now) c.in-Few.names.items)
    ∙ ap (λ ks. is_defined ks c.args.name.now) (ap names_held (sym c.in-Few.is) ∙ c.self.view_is)

pub returns-in-Many : goal.returns-in-Many
returns-in-Many c = c.contains.ensures
    ∙ ap (λ t. list_any (λ k. bytes_eq c.args.name.now k.now) t.keys) c.deref.ensures
    ∙ sym (any_seen (bytes_eq c.args.name.now) c.in-Many.table.value.keys)
    ∙ ap (λ ks. is_defined ks c.args.name.now) (ap names_held (sym c.in-Many.is) ∙ c.self.view_is)
