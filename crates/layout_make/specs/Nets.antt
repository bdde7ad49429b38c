-- Which net a shape belongs to.
use Rattle.std.specs.Prelude.{ℕ, suc, if◌then◌else◌}
use Rattle.layout_make.specs.Sheet.{Sheet, Tag, Frame, InPin, OutPin, Lead, Bar, Rise, Fall, Across, FromVia, ToVia}

-- a net, named by the row and column of the input pin that it reaches, or of its output pin where no wire begins
pub data Net : Type 0 where
  Into : ℕ → ℕ → Net
  From : ℕ → ℕ → Net
  NoNet : Net

-- the net of an output pin in column c
abbrev pub output_net : Sheet → ℕ → ℕ → Net
output_net s r c = (if s.wired r c then Into (suc r) (s.to r c) else From r c)

-- the net of a shape
abbrev pub net_of : Sheet → Tag → Net
net_of s (InPin r c i) = Into r c
net_of s (OutPin r c i) = output_net s r c
net_of s (Rise r c) = Into (suc r) (s.to r c)
net_of s (Fall r c) = Into (suc r) (s.to r c)
net_of s (Across r c) = Into (suc r) (s.to r c)
net_of s (FromVia r c) = Into (suc r) (s.to r c)
net_of s (ToVia r c) = Into (suc r) (s.to r c)
net_of s (Frame r slot kind) = NoNet
net_of s (Lead r) = NoNet
net_of s (Bar r) = NoNet
