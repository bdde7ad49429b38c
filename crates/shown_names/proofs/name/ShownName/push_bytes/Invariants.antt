use Rattle.std.proofs.Common.{◌≡◌, ◌++◌, take}
use Rattle.shown_names.specs.Names.{shown_bytes}
use Rattle.shown_names.proofs.name.ShownName.push_bytes.Given as goal

abbrev pub invariant-loop-byte : goal.invariant-loop-byte
invariant-loop-byte l = l.self ≡ l.initial.self ++ shown_bytes (take l.byte-index l.bytes)
