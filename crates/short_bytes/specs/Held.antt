-- Where the bytes of a short list stand.
use Rattle.std.specs.Prelude.{ℕ, ◌≤◌, List, take}
use Rattle.short_bytes.specs.declared.short.Held.{Held}
use Rattle.short_bytes.specs.declared.short.Held.TheVariants.{InPlace, Elsewhere}

-- the bytes that are held
abbrev pub bytes_of : Held → List ℕ
bytes_of (InPlace short) = take short.length short.bytes
bytes_of (Elsewhere long) = long.value.items

-- what stands in place has room there
abbrev pub IsHeld : Held → Type 0
IsHeld (InPlace short) = short.length ≤ 14
IsHeld (Elsewhere long) = Unit {0}
