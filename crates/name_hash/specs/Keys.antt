-- The hash of a key: the hasher that every name is hashed by has read the key.
use Rattle.std.specs.Prelude.{ℕ, List}
use Rattle.std.specs.Hash.DefaultHasher.{initial, write}
use Rattle.name_hash.specs.declared.keyed.NameHash.{NameHash}

abbrev pub keyed_by : List ℕ → NameHash
keyed_by key = record { start = write initial key }
