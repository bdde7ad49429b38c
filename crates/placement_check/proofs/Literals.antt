-- Values of literals: complements, and majorities whose literals are those of a node in some order.
use Rattle.std.proofs.Common.{◌≡◌, ℕ, Bool, true, false, cond, refl, sym, ap, ◌∙◌, inl, inr, arith}
use Rattle.std.specs.Prelude.{◌/◌, ◌%◌, ◌==◌, ◌⊎◌, ◌&&◌, ◌||◌, not}
use Rattle.std.proofs.lemmas.Bool.{and_parts, eqb-true, eq-eqb, ne_eqb, cases_eq}
use Rattle.circuit.specs.Function.{majority}
use Rattle.mig.specs.declared.node.Node.{Node}
use Rattle.mig.specs.Graphs.{literal_value, node_value, turned}
use Rattle.mig.proofs.Folded.{not_not, swap_first, swap_last, turned_three, turned_value}
use Rattle.placement_check.specs.Labels.{are, is_order}

pub parity : (l : ℕ) → (l % 2 ≡ 0) ⊎ (l % 2 ≡ 1)
parity l = elim (cases_eq (l % 2) 0) [ inl e ↦ inl e | inr ne ↦ inr (omega arith) ]

pub even_value : (v : ℕ → Bool) (l : ℕ) → l % 2 ≡ 0 → literal_value v l ≡ v (l / 2)
unfolding literal_value
even_value v l e = ap (λ (b : Bool). cond b (not (v (l / 2))) (v (l / 2)))
    (ne_eqb (l % 2) 1 (λ o. absurd (omega (arith, e, o))))

pub odd_value : (v : ℕ → Bool) (l : ℕ) → l % 2 ≡ 1 → literal_value v l ≡ not (v (l / 2))
unfolding literal_value
odd_value v l e = ap (λ (b : Bool). cond b (not (v (l / 2))) (v (l / 2))) (eq-eqb (l % 2) 1 e)

abbrev three : (ℕ → Bool) → ℕ → ℕ → ℕ → Bool
three v x y z = majority (literal_value v x) (literal_value v y) (literal_value v z)

same_three : (v : ℕ → Bool) (x y z a b c : ℕ) → are x y z a b c ≡ true → three v x y z ≡ three v a b c
same_three v x y z a b c e =
    let parts = and_parts ((a == x) && (b == y)) (c == z) e in
    let firsts = and_parts (a == x) (b == y) parts.0 in
    ap (λ (n : ℕ). three v n y z) (sym (eqb-true a x firsts.0))
    ∙ ap (λ (n : ℕ). three v a n z) (sym (eqb-true b y firsts.1))
    ∙ ap (λ (n : ℕ). three v a b n) (sym (eqb-true c z parts.1))

any_of : (P : Type 0) (a b c d e f : Bool) → (a || b || c || d || e || f) ≡ true → (a ≡ true → P) → (b ≡ true → P)
    → (c ≡ true → P)
    → (d ≡ true → P) → (e ≡ true → P) → (f ≡ true → P) → P
any_of P true b c d e f is p q r s t u = p refl
any_of P false true c d e f is p q r s t u = q refl
any_of P false false true d e f is p q r s t u = r refl
any_of P false false false true e f is p q r s t u = s refl
any_of P false false false false true f is p q r s t u = t refl
any_of P false false false false false true is p q r s t u = u refl
any_of P false false false false false false is p q r s t u = absurd (cc)

-- literals that are those of a node in some order have the node's majority
pub order_value : (v : ℕ → Bool) (node : Node) (a b c : ℕ) → is_order node a b c ≡ true
    → node_value v node ≡ three v a b c
unfolding node_value
order_value v node a b c e =
    let p = literal_value v node.x in
    let q = literal_value v node.y in
    let r = literal_value v node.z in
    any_of (three v node.x node.y node.z ≡ three v a b c)
    (are node.x node.y node.z a b c) (are node.x node.z node.y a b c) (are node.y node.x node.z a b c)
    (are node.y node.z node.x a b c) (are node.z node.x node.y a b c) (are node.z node.y node.x a b c) e
    (λ h. same_three v node.x node.y node.z a b c h)
    (λ h. swap_last p r q ∙ same_three v node.x node.z node.y a b c h)
    (λ h. swap_first q p r ∙ same_three v node.y node.x node.z a b c h)
    (λ h. swap_first q p r ∙ swap_last q r p ∙ same_three v node.y node.z node.x a b c h)
    (λ h. swap_last p r q ∙ swap_first r p q ∙ same_three v node.z node.x node.y a b c h)
    (λ h. swap_last p r q ∙ swap_first r p q ∙ swap_last r q p ∙ same_three v node.z node.y node.x a b c h)

-- and where their complements are, its complement
pub turned_order : (v : ℕ → Bool) (node : Node) (a b c : ℕ) → is_order node (turned a) (turned b) (turned c) ≡ true
    → not (node_value v node) ≡ three v a b c
turned_order v node a b c e =
    let p = literal_value v a in
    let q = literal_value v b in
    let r = literal_value v c in
    ap not (order_value v node (turned a) (turned b) (turned c) e
    ∙ ap (λ (x : Bool). majority x (literal_value v (turned b)) (literal_value v (turned c))) (turned_value v a)
    ∙ ap (λ (x : Bool). majority (not p) x (literal_value v (turned c))) (turned_value v b)
    ∙ ap (λ (x : Bool). majority (not p) (not q) x) (turned_value v c))
    ∙ ap not (turned_three p q r) ∙ not_not (majority p q r)
