-- The numbers that the rules of geometry read. They come from the library of cells.
use Rattle.std.specs.Prelude.{ℕ}

-- in nanometres: the least width of metal, the least distance of shapes, the least side of a via, the margin of metal
-- round it, the least height of a pin, and the greatest length of a net's metal
pub record Limits : Type 0 where
  pub wire : ℕ
  pub space : ℕ
  pub via : ℕ
  pub enclose : ℕ
  pub pin : ℕ
  pub limit : ℕ
