-- What a refused append makes of a stream's writing.
use Rattle.aq_base.specs.declared.store.StoreRefusal.{StoreRefusal}
use Rattle.aq_base.specs.declared.store.StoreRefusal.TheVariants as store
use Rattle.gds_records.specs.declared.writer.WriteRefusal.{WriteRefusal}
use Rattle.gds_records.specs.declared.writer.WriteRefusal.TheVariants.{Failed, Memory}

-- the writer's refusal where the store failed to append, or was refused memory
abbrev pub refusal_of : StoreRefusal → WriteRefusal
refusal_of store.Failed = Failed
refusal_of store.Memory = Memory

-- why the store or memory was refused, by the writer's refusal
abbrev pub cause_of : WriteRefusal → StoreRefusal
cause_of Failed = store.Failed
cause_of Memory = store.Memory
