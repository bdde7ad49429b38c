use Rattle.std.proofs.Common.{◌≡◌, ◌-◌, ◌++◌, ◌∷◌, [], ℤ, List, length, take, drop, ap, ◌∙◌, append_assoc, arith, rules}
use Rattle.std.proofs.Common.{w64, to_z, of_z}
use Rattle.std.proofs.lemmas.Int.{to_z-of_z}
use Rattle.poly_cut.proofs.TwoWalls.{put}
use Rattle.poly_cut.proofs.walls.put_two.Goals as goal

pub returns : goal.returns
returns c =
    let ws = c.args.walls.now.items in
    let x : ℤ = to_z w64 (of_z w64 c.args.first.now.x) in
    let y : ℤ = to_z w64 (of_z w64 c.args.second.now.x) in
    let same : x ≡ c.args.first.now.x = search (rules, to_z-of_z) in
    let same' : y ≡ c.args.second.now.x = search (rules, to_z-of_z) in
    let count = c.len-count.ensures in
    let is : c.len-count.result - c.args.place ≡ length ws - c.args.place = omega (arith, count) in
    let all : c.push-2.new.self.items ≡ ws ++ x ∷ y ∷ [] = c.in_ok-push-2.ensures.items
    ∙ ap (λ (l : List ℤ). l ++ y ∷ []) c.in_ok-push.ensures.items ∙ append_assoc ws (x ∷ []) (y ∷ []) in
    put ws c.push-2.new.self.items c.copy_within.new.self.items c.args.place
    (c.len-count.result - c.args.place) x y c.requires is all c.copy_within.ensures.items
    ∙ (λ i. take c.args.place ws ++ same i ∷ same' i ∷ drop c.args.place ws)
