use Rattle.std.proofs.Common.{◌≡◌, rules, arith, ◌-ℤ◌}
use Rattle.std.proofs.lemmas.Int.{to_z-of_z}
use Rattle.geom.specs.Rectangle.{positive_part}
use Rattle.geom.proofs.Filing.{corner_from, corner_to}
use Rattle.geom.proofs.index.grid.Grid.window.Goals as goal

pub returns : goal.returns
returns c =
    let left : c.excess.result ≡ positive_part (c.args.zone.now.left -ℤ c.args.self.now.reached_x) =
    search (rules, to_z-of_z) in
    let right : c.excess-2.result ≡ positive_part (c.args.zone.now.right -ℤ c.args.self.now.left) =
    search (rules, to_z-of_z) in
    let low : c.excess-3.result ≡ positive_part (c.args.zone.now.bottom -ℤ c.args.self.now.reached_y) =
    search (rules, to_z-of_z) in
    let high : c.excess-4.result ≡ positive_part (c.args.zone.now.top -ℤ c.args.self.now.bottom) =
    search (rules, to_z-of_z) in
    record {
      left_within = c.column_at.ensures.within;
      right_within = c.column_at-2.ensures.within;
      high_within = c.row_at-2.ensures.within;
      holds = λ r words close reaches. record {
        from_left = c.column_at.ensures.first _
            (omega (
              arith,
              left,
              corner_from _ _ _ _ _ _ _ _ _ _ c.args.zone.now.left_so c.args.zone.now.right_so
                  c.args.self.now.reached_x_so words.x0 words.x1 close.in_x reaches.in_x,
            ));
        to_right = c.column_at-2.ensures.last _
            (omega (
              arith,
              right,
              corner_to _ _ _ _ _ _ _ _ _ _ c.args.zone.now.left_so c.args.zone.now.right_so
                  c.args.self.now.reached_x_so words.x0 words.x1 close.in_x,
            ));
        from_low = c.row_at.ensures.first _
            (omega (
              arith,
              low,
              corner_from _ _ _ _ _ _ _ _ _ _ c.args.zone.now.bottom_so c.args.zone.now.top_so
                  c.args.self.now.reached_y_so words.y0 words.y1 close.in_y reaches.in_y,
            ));
        to_high = c.row_at-2.ensures.last _
            (omega (
              arith,
              high,
              corner_to _ _ _ _ _ _ _ _ _ _ c.args.zone.now.bottom_so c.args.zone.now.top_so
                  c.args.self.now.reached_y_so words.y0 words.y1 close.in_y,
            ));
      };
    }
