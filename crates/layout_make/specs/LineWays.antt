-- How far the excitation has run along the lines of a drawing, and how great the skew of a drawing may be.
use Rattle.std.specs.Prelude.{ℕ, zero, suc, ◌+◌, ◌-◌, ◌*◌, max, if◌then◌else◌}
use Rattle.layout_make.specs.Sheet.{Sheet, begins, lags_not, step_right, lower_edge}

-- in nanometres, the way through the link that leads up from this step: its longer side
abbrev pub link_way : Sheet → ℕ → ℕ
link_way s zero = max (2 * s.library.pitch) (lower_edge s 1 + 3 * s.library.height)
link_way s (suc r) = lower_edge s (suc (suc r)) + s.library.height - lower_edge s r

-- where it comes to the bar of this step: since its line began it has run through a bar and a link for each second step
unfoldable pub way_to : Sheet → ℕ → ℕ
way_to s zero = 0
way_to s (suc zero) = 0
way_to s (suc (suc n)) = (if begins s.lag (suc (suc n)) then 0 else way_to s n + step_right s n + link_way s n)

-- by how much the odd rows' excitation is delayed: the width of the bar that delays it, and its link's longer side
abbrev pub delay : Sheet → ℕ
delay s = (if lags_not s.lag then 0 else s.lag + link_way s 0)

-- how high the channel above row r is
abbrev pub channel_height : Sheet → ℕ → ℕ
channel_height s r = (s.used r + 1) * s.library.pitch

-- how high the highest of the lowest n channels is
abbrev pub highest_channel : Sheet → ℕ → ℕ
highest_channel s zero = 0
highest_channel s (suc n) = max (channel_height s n) (highest_channel s n)

-- twice the width of the widest row, the height of three rows, and the heights of the lowest and of the highest
-- channel, less the delay; or the width, the height of the highest channel, and the delay
abbrev pub skew_limit : Sheet → ℕ
skew_limit s =
    max (2 * s.right + 3 * s.library.height + channel_height s 0 + highest_channel s s.rows - delay s)
    (s.right + highest_channel s s.rows + delay s)
